pub mod RegistrarLemmas
