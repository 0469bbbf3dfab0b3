pub mod Subjects
pub mod Forms
pub mod Certificate
pub mod Lines
pub mod Faults
pub mod Positions
pub mod Checkers
pub mod Inside
