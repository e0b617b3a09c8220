pub mod TalkerOut
