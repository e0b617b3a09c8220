pub mod Lines
pub use Lines.*
