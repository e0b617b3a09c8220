-- What a participant holds, part by part.
use Rattle.std.proofs.Common.{◌≡◌, ◌≤◌, ◌∙◌, ℕ, Bool, true, false, if◌then◌else◌, List, length, refl, ap, subst, sym}
use Rattle.mrp_participant.specs.{Holding}
use Rattle.mrp_participant.specs.State.{State}

module _ {K C : Type 0} {h i : Holding K C} (is : h ≡ i) where
  pub state_is : h.state ≡ i.state
  state_is = ap (λ (h : Holding K C). h.state) is

  pub ready_is : h.ready ≡ i.ready
  ready_is = ap (λ (h : Holding K C). h.ready) is

-- room for the keys of all rows stays where both stay
pub same-room : {X : Type 0} (new old : List X) (room before : ℕ) → new ≡ old → room ≡ before → length old ≤ before → length new ≤ room
same-room new old room before is same few = subst (λ l. length l ≤ room) (sym is) (subst (λ n. length old ≤ n) (sym same) few)

-- a participant of a state, with a spare, ready or not
abbrev pub held : {K C : Type 0} → State K C → ℕ → Bool → Holding K C
held s spare ready = record { state = s; spare = spare; ready = ready }

pub same-held : {K C : Type 0} (s t : State K C) (a b : ℕ) (x y : Bool) → s ≡ t → a ≡ b → x ≡ y → held s a x ≡ held t b y
same-held s t a b x y states spares readies = ap (λ u. held u a x) states ∙ (ap (λ n. held t n x) spares ∙ ap (λ r. held t b r) readies)

-- what is ready after a call was so before it, and the call changed nothing
pub stayed : (changed ready new : Bool) → new ≡ (if changed then false else ready) → new ≡ true → (changed ≡ false) × (ready ≡ true)
stayed true ready new e on = let no : false ≡ true = sym e ∙ on in cc
stayed false ready new e on = (refl, sym e ∙ on)
