pub mod Document
pub mod Places
pub mod Lines
pub mod Entries
pub use Document.*
pub use Places.*
pub use Lines.*
pub use Entries.*
pub use Rattle.file_places.specs.declared.lines.LineKind.{LineKind}
pub use Rattle.file_places.specs.declared.lines.LineKind.TheVariants.{Header, Key, Table, Opening, Item}
pub use Rattle.file_places.specs.declared.entries.Sought.{Sought}
pub use Rattle.file_places.specs.declared.entries.Sought.TheVariants.{Tables}
