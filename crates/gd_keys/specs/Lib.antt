pub mod Rules
pub mod Documents
pub mod Contents
pub mod Keys
