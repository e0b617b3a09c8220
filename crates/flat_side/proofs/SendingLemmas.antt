-- What is sent fits into a PDU.
use Rattle.std.proofs.Common.{◌≡◌, ◌≢◌, ℕ, suc, ◌+◌, ◌*◌, ◌≤◌, Bool, false, List, [], ◌∷◌, length, refl, sym, ap, ◌∙◌, arith}
use Rattle.std.specs.Prelude.{sum_by}
use Rattle.std.proofs.Math.Nat.{mul-suc, mul-zero}
use Rattle.srp_base.specs.declared.mrp.MrpEvent.{MrpEvent}
use Rattle.std.proofs.lemmas.List.Sums.{sum_by-cons}
use Rattle.flat_side.specs.{key_events, IsFitting}

module _ {K : Type 0} where
  each-alike : (octets : Unit {0} → ℕ) (events : List (MrpEvent × K × Unit {0})) → sum_by (λ e. octets e.2) events ≡ octets tt * length events
  each-alike octets [] = let none = mul-zero (octets tt) in sym none
  each-alike octets (e ∷ events) =
      sum_by-cons (λ (x : MrpEvent × K × Unit {0}). octets x.2) e events
      ∙ (ap (λ n. octets tt + n) (each-alike octets events) ∙ one_more (octets tt) (length events))
    where
      one_more : (m n : ℕ) → m + m * n ≡ m * suc n
      one_more m n = let more = mul-suc m n in omega (arith, more)

  same-length : (events : List (MrpEvent × K × Unit {0})) → length (key_events events) ≡ length events
  same-length [] = refl
  same-length (e ∷ events) = ap suc (same-length events)

  speaks : (leave : Bool) (events : List (MrpEvent × K × Unit {0})) → (leave ≡ false → events ≢ []) → leave ≡ false → key_events events ≢ []
  speaks leave [] says quiet none = says quiet refl
  speaks leave (e ∷ events) says quiet none = cc

  pub fitting : (base : ℕ) (octets : Unit {0} → ℕ) (leave : Bool) (events : List (MrpEvent × K × Unit {0})) → base + sum_by (λ e. octets e.2) events ≤ 1500 → (leave ≡ false → events ≢ [])
      → IsFitting base (octets tt) leave (key_events events)
  fitting base octets leave events fits says =
      record {
        fits = rw (same-length events) (rw (each-alike octets events) at fits);
        says = speaks leave events says;
      }
