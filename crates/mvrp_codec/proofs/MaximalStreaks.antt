-- The streaks that are written are the maximal streaks, and no other list of streaks is.
use Rattle.std.proofs.Common.{◌≡◌, ℕ, ◌+◌, eqb, inl, inr, List, [], ◌∷◌, ◌++◌, refl, ap, ◌∙◌}
use Rattle.std.proofs.lemmas.Bool.{cases_Bool, eqb-true, eqb-false, eq-eqb, ne_eqb}
use Rattle.srp_base.specs.declared.mrp.MrpEvent.{MrpEvent}
use Rattle.mvrp_codec.specs.{join, streaks, IsStreak, EndsBefore, AreMaximal, events_of_streaks}

join_joined : (x : MrpEvent × ℕ) (ss : List (List (MrpEvent × ℕ))) → events_of_streaks (join x ss) ≡ x ∷ events_of_streaks ss
join_joined x [] = refl
join_joined x ([] ∷ others) = refl
join_joined x ((y ∷ ys) ∷ others) =
    elim (cases_Bool (eqb (x.1 + 1) y.1)) [
      | inl follows ↦ rw follows refl
      | inr apart ↦ rw apart refl
    ]

pub streaks_joined : (events : List (MrpEvent × ℕ)) → events_of_streaks (streaks events) ≡ events
streaks_joined [] = refl
streaks_joined (x ∷ xs) = join_joined x (streaks xs) ∙ ap (λ (ys : List (MrpEvent × ℕ)). x ∷ ys) (streaks_joined xs)

join_maximal : (x : MrpEvent × ℕ) (ss : List (List (MrpEvent × ℕ))) → AreMaximal ss → AreMaximal (join x ss)
join_maximal x [] h = (tt, tt, tt)
join_maximal x ([] ∷ others) h = absurd h.0
join_maximal x ((y ∷ ys) ∷ others) h =
    elim (cases_Bool (eqb (x.1 + 1) y.1)) [
      | inl follows ↦ rw follows ((eqb-true (x.1 + 1) y.1 follows, h.0), h.1, h.2)
      | inr apart ↦ rw apart (tt, eqb-false (x.1 + 1) y.1 apart, h)
    ]

pub streaks_maximal : (events : List (MrpEvent × ℕ)) → AreMaximal (streaks events)
streaks_maximal [] = tt
streaks_maximal (x ∷ xs) = join_maximal x (streaks xs) (streaks_maximal xs)

-- a streak in front of others
in_front : (streak : List (MrpEvent × ℕ)) (others : List (List (MrpEvent × ℕ))) (rest : List (MrpEvent × ℕ)) → IsStreak streak → EndsBefore streak others
    → streaks rest ≡ others → streaks (streak ++ rest) ≡ streak ∷ others
in_front [] others rest is ends e = absurd is
in_front (x ∷ []) [] rest is ends e = ap (join x) e
in_front (x ∷ []) ([] ∷ others) rest is ends e = absurd ends
in_front (x ∷ []) ((y ∷ ys) ∷ others) rest is ends e = ap (join x) e ∙ rw (ne_eqb (x.1 + 1) y.1 ends) refl
in_front (x ∷ y ∷ ys) others rest is ends e =
    ap (join x) (in_front (y ∷ ys) others rest is.1 ends e) ∙ rw (eq-eqb (x.1 + 1) y.1 is.0) refl

pub only_streaks : (ss : List (List (MrpEvent × ℕ))) → AreMaximal ss → streaks (events_of_streaks ss) ≡ ss
only_streaks [] h = refl
only_streaks (streak ∷ others) h = in_front streak others (events_of_streaks others) h.0 h.1 (only_streaks others h.2)
