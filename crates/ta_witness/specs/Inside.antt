pub mod Making
pub mod StopLines
pub mod Stops
