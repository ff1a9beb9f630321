pub mod Words
pub mod Commands
pub mod Forms
pub mod Script
pub mod Grammar
