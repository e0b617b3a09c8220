-- Where a line begins with the cut, the cut is found there.
use Rattle.std.proofs.Common.{◌≡◌, ℕ, zero, suc, ◌<◌, Bool, true, List, [], ◌∷◌, length, drop, refl, arith}
use Rattle.std.specs.Prelude.{Some}
use Rattle.replay_words.specs.{begins_with_cut, cut_from}

pub found_at : (n i : ℕ) (begins : Bool) (octets : List ℕ) → i < length octets → begins ≡ true
    → begins_with_cut (drop i octets) ≡ true → cut_from n begins (drop i octets) ≡ Some n
found_at n zero begins [] within is here = let no : ⊥ = omega (arith, within) in absurd no
found_at n (suc i) begins [] within is here = let no : ⊥ = omega (arith, within) in absurd no
found_at n zero begins (c ∷ cs) within is here = rw (is, here) refl
found_at n (suc i) begins (c ∷ cs) within is here = found_at n i begins cs (omega (arith, within)) is here
