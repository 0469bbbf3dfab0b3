pub mod Implied
pub mod Copies
pub mod Orders
pub mod Refused
