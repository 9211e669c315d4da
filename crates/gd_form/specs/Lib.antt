pub mod FormNumbers
pub mod FormTasks
pub mod Forms
