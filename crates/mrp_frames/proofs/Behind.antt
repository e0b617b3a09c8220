-- Tags one after another behind an EtherType, and what stands behind them.
use Rattle.std.proofs.Common.{◌≡◌, ℕ, ◌+◌, ◌*◌, ◌<◌, ◌==◌, inl, inr, true, false, List, [], ◌∷◌, length, Some, None, refl, ap, sym, arith}
use Rattle.srp_base.proofs.Bools.{or_true}
use Rattle.std.proofs.lemmas.Bool.{eqb-true}
use Rattle.mrp_frames.specs.{app_of, is_tag, next_type, told, pdu_behind}

-- a tag's EtherType is of no application
pub tag_of_none : (number : ℕ) → is_tag number ≡ true → app_of number ≡ None
tag_of_none number is =
    elim (or_true (number == 0x8100) (number == 0x88a8) is) [ inl e ↦ rw (eqb-true number 0x8100 e) refl | inr e ↦ rw (eqb-true number 0x88a8 e) refl ]

-- behind a tag the next EtherType stands
pub tag_passed : (number next : ℕ) (octets more : List ℕ) → is_tag number ≡ true → Some (next, more) ≡ next_type octets
    → pdu_behind number octets ≡ pdu_behind next more
unfolding next_type pdu_behind
tag_passed number next (a ∷ b ∷ c ∷ d ∷ octets) more is e =
    let one : (next, more) ≡ (c * 256 + d, octets) = cc in
    rw is (ap (λ (x : ℕ × List ℕ). pdu_behind x.0 x.1) (sym one))
tag_passed number next [] more is e = cc
tag_passed number next (a ∷ []) more is e = cc
tag_passed number next (a ∷ b ∷ []) more is e = cc
tag_passed number next (a ∷ b ∷ c ∷ []) more is e = cc

-- and fewer octets are left
pub tag_shortens : (next : ℕ) (octets more : List ℕ) → Some (next, more) ≡ next_type octets → length more < length octets
unfolding next_type
tag_shortens next (a ∷ b ∷ c ∷ d ∷ octets) more e =
    let one : (next, more) ≡ (c * 256 + d, octets) = cc in
    let same = ap (λ (x : ℕ × List ℕ). length x.1) one in
    omega (arith, same)
tag_shortens next [] more e = cc
tag_shortens next (a ∷ []) more e = cc
tag_shortens next (a ∷ b ∷ []) more e = cc
tag_shortens next (a ∷ b ∷ c ∷ []) more e = cc

-- the octets end within a tag
pub tag_cut : (number : ℕ) (octets : List ℕ) → is_tag number ≡ true → None ≡ next_type octets → pdu_behind number octets ≡ None
unfolding next_type pdu_behind
tag_cut number (a ∷ b ∷ c ∷ d ∷ octets) is e = cc
tag_cut number [] is e = rw is refl
tag_cut number (a ∷ []) is e = rw is refl
tag_cut number (a ∷ b ∷ []) is e = rw is refl
tag_cut number (a ∷ b ∷ c ∷ []) is e = rw is refl

-- no tag
pub no_tag : (number : ℕ) (octets : List ℕ) → is_tag number ≡ false → pdu_behind number octets ≡ told (app_of number) octets
unfolding pdu_behind
no_tag number (a ∷ b ∷ c ∷ d ∷ octets) is = rw is refl
no_tag number [] is = rw is refl
no_tag number (a ∷ []) is = rw is refl
no_tag number (a ∷ b ∷ []) is = rw is refl
no_tag number (a ∷ b ∷ c ∷ []) is = rw is refl
