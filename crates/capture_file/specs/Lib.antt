pub mod Fields
pub mod Settings
pub mod Options
pub mod Packets
pub mod Pieces
pub mod Grammar
pub mod Reading
pub mod Writing
unfoldable pub use Fields.*
pub use Settings.*
unfoldable pub use Options.*
pub use Packets.*
unfoldable pub use Pieces.*
unfoldable pub use Grammar.*
unfoldable pub use Reading.*
unfoldable pub use Writing.*
pub use Rattle.capture_file.specs.declared.capture.Capture.{Capture}
pub use Rattle.capture_file.specs.declared.capture.Record.{Record}
pub use Rattle.capture_file.specs.declared.error.CaptureErr.{CaptureErr}
pub use Rattle.capture_file.specs.declared.setting.ByteOrder.{ByteOrder}
pub use Rattle.capture_file.specs.declared.setting.ByteOrder.TheVariants.{Big, Little}
pub use Rattle.capture_file.specs.declared.setting.FileForm.{FileForm}
pub use Rattle.capture_file.specs.declared.setting.FileForm.TheVariants.{Pcap, Pcapng}
pub use Rattle.capture_file.specs.declared.setting.Interface.{Interface}
pub use Rattle.capture_file.specs.declared.setting.LinkType.{LinkType}
pub use Rattle.capture_file.specs.declared.setting.Magic.{Magic}
pub use Rattle.capture_file.specs.declared.setting.Setting.{Setting}
