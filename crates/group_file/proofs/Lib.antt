pub mod EventsKept
