pub mod MergingLemmas
