-- The units of a resolution, kept below 2 ^ 128.
use Rattle.std.proofs.Common.{◌≡◌, ℕ, ◌-◌, ◌*◌, ◌/◌, ◌<◌, ◌≤◌, ◌^◌, min, ◌⊎◌, inl, inr, sym, ap, ◌∙◌, arith}
use Rattle.capture_file.specs.{ns_of}

either : (p m : ℕ) → ((p ≤ m) × (min p m ≡ p)) ⊎ ((m < p) × (min p m ≡ m))
either p m = grind arith

none_in : (n m : ℕ) → n < m → n / m ≡ 0
none_in n m lt = grind arith

same_ns : (p m ticks : ℕ) → ticks * 1000000000 < m → ns_of (min p m) ticks ≡ ns_of p ticks
same_ns p m ticks lt = go (either p m) where
  go : ((p ≤ m) × (min p m ≡ p)) ⊎ ((m < p) × (min p m ≡ m)) → ns_of (min p m) ticks ≡ ns_of p ticks
  go (inl h) = ap (λ (u : ℕ). ns_of u ticks) h.1
  go (inr h) =
      ap (λ (u : ℕ). ns_of u ticks) h.1 ∙ none_in (ticks * 1000000000) m lt ∙ sym (none_in (ticks * 1000000000) p (omega (arith, lt, h.0)))

pub kept_ns : (p ticks : ℕ) → ticks < 2 ^ 64 → ns_of (min p (2 ^ 128 - 1)) ticks ≡ ns_of p ticks
kept_ns p ticks lt = same_ns p (2 ^ 128 - 1) ticks (omega (arith, lt))
