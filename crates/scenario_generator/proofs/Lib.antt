pub mod GrownTree
pub mod DrawLemmas
pub mod PairLemmas
pub mod NetworkLemmas
pub mod StreamLemmas
pub mod EventLemmas
pub mod RulesKept
