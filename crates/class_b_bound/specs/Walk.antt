-- How the longest wait is found from piece to piece. No public contract names these words.
use Rattle.std.specs.Prelude.{◌≡◌, ℕ, ◌*◌, ◌≤◌, Bool, not, ◌&&◌, pos, ◌+ℤ◌, int_le}
use Rattle.credit_shaper.specs.declared.{shaper.Traffic.TheVariants.B, port.PortInput.PortInput, piece.Piece.Piece}
use Rattle.credit_shaper.specs.Credit.{does_send}
use Rattle.class_b_bound.specs.declared.waits.Waits.{Waits}
use Rattle.class_b_bound.specs.Waits.{waited}

-- whether class B is kept waiting in a bit time of a piece, so many after its first
abbrev pub keeps_b : Piece → ℕ → Bool
keeps_b p n =
    p.waits_b
    && (int_le (pos 0) (p.shaper.credit_b +ℤ pos (n * p.shaper.slope_b)) && not (does_send B p.line))

-- the waits up to a bit time: that of the bit times before it, and the most of any before
pub record IsWaits (input : PortInput) (w : Waits) : Type 0 where
  pub now : w.now ≡ waited input w.bit
  pub there : (t : ℕ) × (t ≤ w.bit) × (waited input t ≡ w.worst)
  pub most : (t : ℕ) → t ≤ w.bit → waited input t ≤ w.worst
