pub mod Table
pub use Table.*
pub use Rattle.applicant.specs.declared.AppEvent.{AppEvent}
pub use Rattle.applicant.specs.declared.AppEvent.TheVariants.{Periodic, RxIn, RxLeaveAll, RxLv, RxMt}
pub use Rattle.applicant.specs.declared.Applicant.{Applicant}
pub use Rattle.applicant.specs.declared.Applicant.TheVariants.{Vo}
