pub mod Printed
pub mod RuleBodies
pub mod Tokens
