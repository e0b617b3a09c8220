pub mod Texts
pub mod Form
pub mod Reading
pub mod Journal
pub mod Follow
pub mod Left
pub mod Replay
pub mod Audit
pub use Texts.*
pub use Form.*
pub use Reading.*
pub use Journal.*
pub use Follow.*
pub use Left.*
pub use Replay.*
pub use Audit.*
pub use Rattle.journal_audit.specs.declared.form.Known.{Known}
pub use Rattle.journal_audit.specs.declared.verdict.Verdict.{Verdict}
pub use Rattle.journal_audit.specs.declared.verdict.Verdict.TheVariants.{Legal, No}
pub use Rattle.journal_audit.specs.declared.verdict.Finding.{Finding}
pub use Rattle.journal_audit.specs.declared.verdict.Finding.TheVariants.{Replayed, Unformed, Parted}
