pub mod InboxLemmas
pub mod BoxLemmas
pub mod Saying
pub mod NodeSteps
pub mod NodeLaws
