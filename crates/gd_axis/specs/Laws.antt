-- That the forms about an axis as tasks keep their laws.
pub mod AxisEvidence
pub mod AxisHeld
pub mod AxisSound
pub mod AxisTask
pub mod Pairs
