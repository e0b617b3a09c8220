pub mod ApplicantLemmas
