pub mod Events
pub mod Empty
