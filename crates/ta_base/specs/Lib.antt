pub mod Lists
pub mod LimitRows
pub mod Masks
pub mod Sums
pub mod Lending
pub mod Bytes
pub mod Decimals
