-- A reader or writer of std, with the faults that were counted at it.
use Rattle.std.specs.Prelude.{ℕ}

-- the reader or writer, and the number of its faults: its errors, and writes that took nothing of a
-- piece
pub record Counted (T : Type 0) : Type 0 where
  pub inner : T
  pub faults : ℕ
