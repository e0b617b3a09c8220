pub mod Table
pub use Table.*
pub use Rattle.registrar.specs.declared.RegEvent.{RegEvent}
pub use Rattle.registrar.specs.declared.RegEvent.TheVariants.{RxJoin, RxLeaveAll, RxLv, RxNew, TxLeaveAll}
pub use Rattle.registrar.specs.declared.Registrar.{Registrar}
pub use Rattle.registrar.specs.declared.Registrar.TheVariants.{Empty, Held, Leaving}
