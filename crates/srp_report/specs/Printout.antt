-- A text that is handed out piece by piece.
use Rattle.std.specs.Prelude.{◌≡◌, ℕ, ◌<◌, List, ◌++◌, length}

-- a piece, which isn't empty, is the front of what was left, and the rest is left behind it
pub record IsFront (piece before after : List ℕ) : Type 0 where
  pub front : before ≡ piece ++ after
  pub some : 0 < length piece
