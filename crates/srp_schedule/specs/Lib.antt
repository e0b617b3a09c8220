pub mod Order
pub mod Made
pub mod Rest
pub mod Tick
pub mod Watch
pub use Order.*
pub use Made.*
pub use Rest.*
pub use Tick.*
pub use Watch.*
pub use Rattle.srp_schedule.specs.declared.order.Turn.{Turn}
pub use Rattle.srp_schedule.specs.declared.order.Turn.TheVariants.{Dues, Sends, Settles, Works}
pub use Rattle.srp_schedule.specs.declared.rest.Rest.TheVariants.{Awake, Unknown, UpTo}
