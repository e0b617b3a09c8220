pub mod CopyLemmas
pub mod FrameLemmas
pub mod WindowLemmas
