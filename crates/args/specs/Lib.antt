pub mod Help
pub mod Table
