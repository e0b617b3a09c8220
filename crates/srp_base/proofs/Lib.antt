pub mod Arithmetic
pub mod Bools
pub mod FirstLemmas
pub mod HexadecimalLemmas
pub mod Lists
pub mod Options
pub mod SortLemmas
