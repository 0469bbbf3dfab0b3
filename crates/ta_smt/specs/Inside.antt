pub mod Leads
pub mod Reading
pub mod Checking
pub mod Elements
