-- A run in pieces: bit times in a row that are alike, in which nothing happens but the credits'
-- steps.
use Rattle.std.specs.Prelude.{◌≡◌, ℕ, ◌+◌, ◌<◌, List, [], ◌∷◌}
use Rattle.srp_base.specs.Bandwidth.{bits_of}
use Rattle.credit_shaper.specs.declared.{shaper.Traffic.TheVariants.A, shaper.Traffic.TheVariants.B, port.PortInput.PortInput, piece.Piece.Piece}
use Rattle.credit_shaper.specs.{Credit.does_send, Credit.credit_after_bits, Credit.IsInRange, Trace.port_in, Bounds.credit_a_at, Bounds.credit_b_at, Bounds.slope_a_at, Bounds.slope_b_at, Steps.is_waiting}

-- in a bit time of a piece, so many after its first, the port is as the piece says
pub record IsAlike (input : PortInput) (p : Piece) (n : ℕ) : Type 0 where
  pub line : (port_in input (p.bit + n)).line ≡ p.line
  pub waits_a : is_waiting input A (p.bit + n) ≡ p.waits_a
  pub waits_b : is_waiting input B (p.bit + n) ≡ p.waits_b
  pub slope_a : slope_a_at input (p.bit + n) ≡ p.shaper.slope_a
  pub slope_b : slope_b_at input (p.bit + n) ≡ p.shaper.slope_b
  pub credit_a : credit_a_at input (p.bit + n)
      ≡ credit_after_bits n (bits_of input.rate) p.shaper.slope_a (does_send A p.line) p.waits_a p.shaper.credit_a
  pub credit_b : credit_b_at input (p.bit + n)
      ≡ credit_after_bits n (bits_of input.rate) p.shaper.slope_b (does_send B p.line) p.waits_b p.shaper.credit_b

-- a piece has some bit times, and the port is alike in each
pub record IsPiece (input : PortInput) (p : Piece) : Type 0 where
  pub some : 0 < p.bits
  pub range : IsInRange p.shaper
  pub rate : p.shaper.rate ≡ input.rate
  pub alike : (n : ℕ) → n < p.bits → IsAlike input p n

-- pieces tile the bit times from one to before another
abbrev pub ArePieces : PortInput → ℕ → ℕ → List Piece → Type 0
ArePieces input from to [] = from ≡ to
ArePieces input from to (p ∷ ps) =
    (p.bit ≡ from) × IsPiece input p × ArePieces input (from + p.bits) to ps
