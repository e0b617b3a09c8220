pub mod History
pub mod Rule
pub mod Steps
pub mod Calls
pub mod Turns
pub mod Passes
pub mod Closing
pub mod Laying
pub mod Refusal
pub use History.*
pub use Rule.*
pub use Steps.*
pub use Calls.*
pub use Turns.*
pub use Passes.*
pub use Closing.*
pub use Laying.*
pub use Refusal.*
pub use Rattle.turn_lock.specs.declared.board.Kept.{Kept}
pub use Rattle.turn_lock.specs.declared.board.Known.{Known}
pub use Rattle.turn_lock.specs.declared.board.Stage.{Stage}
pub use Rattle.turn_lock.specs.declared.board.Stage.TheVariants.{Holds, Idle, Waits}
pub use Rattle.turn_lock.specs.declared.board.View.{View}
pub use Rattle.turn_lock.specs.declared.board.View.TheVariants.{Living, Spent}
pub use Rattle.turn_lock.specs.declared.sequential.Sequential.{Ghosts}
