pub mod Units
pub mod Pieces
pub mod Tales
pub mod Faults
pub mod Determined
pub mod Inside
