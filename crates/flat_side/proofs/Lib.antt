mod Changing
mod Keeping
mod KeyLemmas
mod Places
mod ProperLemmas
mod SendingLemmas
mod SettlingLemmas
pub mod Lists
