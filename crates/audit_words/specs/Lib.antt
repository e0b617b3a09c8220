pub mod Slips
pub mod Shown
pub mod Words
pub use Slips.*
pub use Shown.*
pub use Words.*
pub use Rattle.audit_words.specs.declared.slips.Slip.{Slip}
pub use Rattle.audit_words.specs.declared.slips.Slip.TheVariants.{Empty, Returns, Joined, NoCut, NoOutput, Refused, NoJournal}
