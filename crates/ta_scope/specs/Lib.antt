pub mod Cycles
pub mod Order
pub mod Faults
pub mod Answers
pub mod Arranged
pub mod Legal
pub mod LongerCycles
pub mod Inside
