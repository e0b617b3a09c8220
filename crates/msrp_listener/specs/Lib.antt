pub mod Merging
pub use Merging.*
pub use Rattle.msrp_listener.specs.declared.port_listener.PortListener.{PortListener}
