pub mod AnswerLemmas
pub mod FactLemmas
pub mod LeastLemmas
pub mod MomentLemmas
pub mod SteadyLemmas
pub mod StreamLemmas
pub mod TimeLemmas
