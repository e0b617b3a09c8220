pub mod CaptureLemmas
pub mod DumpLemmas
pub mod MomentLemmas
