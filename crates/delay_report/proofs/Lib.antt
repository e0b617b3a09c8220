pub mod ListenerLemmas
pub mod NumberLemmas
pub mod SeenLemmas
pub mod TextLemmas
