-- Facts on histories.
use Rattle.std.proofs.Common.{◌≡◌, ◌==◌, ℕ, List, [], ◌∷◌, ◌++◌, sym, refl, ap, ◌∙◌, subst}
use Rattle.std.proofs.lemmas.{List.append-nil, List.append_assoc, List.Elements.filter-append}
use Rattle.turn_lock.specs.{Entry, Log, number_of, ask_of, answer_of, calls_of, BeginsWith, last_state, IsHistory}

module _ {A : Type 0} where
  abbrev IsCons : List A → Type 0
  IsCons [] = ⊥
  IsCons (x ∷ xs) = Unit {0}

  abbrev first_or : A → List A → A
  first_or d [] = d
  first_or d (x ∷ xs) = x

  abbrev behind : List A → List A
  behind [] = []
  behind (x ∷ xs) = xs

  ends_not : (earlier later : List A) (x : A) → [] ≡ earlier ++ x ∷ later → ⊥
  ends_not [] later x e = subst IsCons (sym e) tt
  ends_not (y ∷ earlier) later x e = subst IsCons (sym e) tt

module _ {Ask Answer : Type 0} where
  pub calls_stay : (n : ℕ) (history added : Log Ask Answer) → calls_of n added ≡ [] → calls_of n (history ++ added) ≡ calls_of n history
  calls_stay n history added none = filter-append (λ (e : Entry Ask Answer). number_of e == n) history added
      ∙ (ap (λ (z : Log Ask Answer). calls_of n history ++ z) none ∙ append-nil (calls_of n history))

  pub begins_itself : (history : Log Ask Answer) → BeginsWith history history
  begins_itself history = ([], sym (append-nil history))

  pub begins_longer : (history seen added : Log Ask Answer) → BeginsWith history seen → BeginsWith (history ++ added) seen
  begins_longer history seen added front = (front.0 ++ added, ap (λ (z : Log Ask Answer). z ++ added) front.1 ∙ append_assoc seen front.0 added)

module _ {S Ask Answer : Type 0} (does : S → Ask → Answer × S) where
  abbrev IsSaid : S → Entry Ask Answer → Type 0
  IsSaid state e = answer_of e ≡ (does state (ask_of e)).0

  pub last-append : (start : S) (history : Log Ask Answer) (entry : Entry Ask Answer) → last_state does start (history ++ entry ∷ []) ≡ (does (last_state does start history) (ask_of entry)).1
  last-append start [] entry = refl
  last-append start (e ∷ es) entry = last-append (does start (ask_of e)).1 es entry

  pub nothing_said : (start : S) → IsHistory does start []
  nothing_said start earlier later entry is = absurd (ends_not earlier later entry is)

  pub said_last : (start : S) (history : Log Ask Answer) (e : Entry Ask Answer) → IsHistory does start history → IsSaid (last_state does start history) e → IsHistory does start (history ++ e ∷ [])
  said_last start [] e legal now [] later entry is = subst (IsSaid start) (ap (first_or e) is) now
  said_last start [] e legal now (y ∷ earlier) later entry is = absurd (ends_not earlier later entry (ap behind is))
  said_last start (x ∷ xs) e legal now [] later entry is = subst (IsSaid start) (ap (first_or e) is) (legal [] xs x refl)
  said_last start (x ∷ xs) e legal now (y ∷ earlier) later entry is =
      subst (λ (z : Entry Ask Answer). IsSaid (last_state does (does start (ask_of z)).1 earlier) entry) (ap (first_or e) is)
      (said_last (does start (ask_of x)).1 xs e (λ f l n i. legal (x ∷ f) l n (ap (λ (z : Log Ask Answer). x ∷ z) i)) now earlier later entry (ap behind is))
