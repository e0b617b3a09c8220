-- Streaks of consecutive VIDs.
use Rattle.std.proofs.Common.{◌≡◌, ℕ, suc, ◌+◌, ◌<◌, ◌≤◌, Bool, true, false, eqb, inl, inr, List, [], ◌∷◌, ◌++◌, length, get_or, take, drop, refl, sym, ap, subst, ◌∙◌, append_assoc, arith}
use Rattle.std.proofs.lemmas.{Bool.cases_Bool, Bool.eq-eqb, Bool.ne_eqb, List.append-nil, List.take-append-drop, List.drop_more, List.drop_all, List.take_more}
use Rattle.srp_base.specs.declared.mrp.MrpEvent.{MrpEvent}
use Rattle.mrpdu_codec.specs.declared.pdu.VectorAttr.{VectorAttr}
use Rattle.mrpdu_codec.specs.{Tree.vector_octets, Tree.vectors_octets, Canonical.vector_for, Canonical.vectors_for}
use Rattle.mvrp_codec.specs.{join, streaks, streak_vector, streak_vectors, streaks_octets, streak_len, AreVids}
use Rattle.mvrp_codec.proofs.VidLemmas.{vids-append}

-- ---- how far a streak goes

at_place : (events : List (MrpEvent × ℕ)) (i : ℕ) (x : MrpEvent × ℕ) → i < length events → x ≡ get_or events i x → drop i events ≡ x ∷ drop (i + 1) events
at_place events i x lt is = drop_more events i x lt ∙ ap (λ (y : MrpEvent × ℕ). y ∷ drop (i + 1) events) (sym is)

two_places : (events : List (MrpEvent × ℕ)) (i : ℕ) (x y : MrpEvent × ℕ) → i + 1 < length events → x ≡ get_or events i x → y ≡ get_or events (i + 1) y → drop i events ≡ x ∷ y ∷ drop (i + 1 + 1) events
two_places events i x y lt isx isy = at_place events i x (omega arith) isx ∙ ap (λ (ys : List (MrpEvent × ℕ)). x ∷ ys) (at_place events (i + 1) y lt isy)

pub streak_goes_on : (events : List (MrpEvent × ℕ)) (i total : ℕ) (x y : MrpEvent × ℕ) → i + 1 < length events → x ≡ get_or events i x → y ≡ get_or events (i + 1) y → x.1 + 1 ≡ y.1
    → streak_len (drop i events) + i ≡ total → streak_len (drop (i + 1) events) + (i + 1) ≡ total
streak_goes_on events i total x y lt isx isy follows so_far =
    let here : streak_len (drop i events) ≡ streak_len (y ∷ drop (i + 1 + 1) events) + 1 = ap streak_len (two_places events i x y lt isx isy) ∙ rw (eq-eqb (x.1 + 1) y.1 follows) refl in
    let next : streak_len (drop (i + 1) events) ≡ streak_len (y ∷ drop (i + 1 + 1) events) = ap streak_len (at_place events (i + 1) y lt isy) in
    omega arith

pub streak_breaks_off : (events : List (MrpEvent × ℕ)) (i total : ℕ) (x y : MrpEvent × ℕ) → i + 1 < length events → x ≡ get_or events i x → y ≡ get_or events (i + 1) y → (x.1 + 1 ≡ y.1 → ⊥)
    → streak_len (drop i events) + i ≡ total → i + 1 ≡ total
streak_breaks_off events i total x y lt isx isy apart so_far =
    let here : streak_len (drop i events) ≡ 1 = ap streak_len (two_places events i x y lt isx isy) ∙ rw (ne_eqb (x.1 + 1) y.1 apart) refl in
    omega arith

pub streak_ends : (events : List (MrpEvent × ℕ)) (i total : ℕ) (x : MrpEvent × ℕ) → i + 1 ≡ length events → x ≡ get_or events i x → streak_len (drop i events) + i ≡ total → i + 1 ≡ total
streak_ends events i total x e isx so_far =
    let here : streak_len (drop i events) ≡ 1 = ap streak_len (at_place events i x (omega arith) isx ∙ ap (λ (ys : List (MrpEvent × ℕ)). x ∷ ys) (drop_all (i + 1) events (omega arith))) in
    omega arith

vids_push : (xs : List (MrpEvent × ℕ)) (x : MrpEvent × ℕ) → AreVids xs → (1 ≤ x.1) × (x.1 ≤ 4094) → AreVids (xs ++ x ∷ [])
vids_push [] x all one = (one, tt)
vids_push (y ∷ ys) x all one = (all.0, vids_push ys x all.1 one)

pub vids_more : (events : List (MrpEvent × ℕ)) (i : ℕ) (x : MrpEvent × ℕ) → i < length events → x ≡ get_or events i x → (1 ≤ x.1) × (x.1 ≤ 4094)
    → AreVids (take i events) → AreVids (take (i + 1) events)
vids_more events i x lt is one all =
    subst AreVids (sym (take_more events i x lt ∙ ap (λ (y : MrpEvent × ℕ). take i events ++ y ∷ []) (sym is))) (vids_push (take i events) x all one)

-- ---- a list is its first streak, and the streaks of the rest

streak_len_some : (x : MrpEvent × ℕ) (xs : List (MrpEvent × ℕ)) → (m : ℕ) × (streak_len (x ∷ xs) ≡ suc m)
streak_len_some x [] = (0, refl)
streak_len_some x (y ∷ ys) =
    elim (cases_Bool (eqb (x.1 + 1) y.1)) [
      | inl yes_it ↦ (streak_len (y ∷ ys), rw yes_it (omega arith))
      | inr not_it ↦ (0, rw not_it refl)
    ]

joins : (x y : MrpEvent × ℕ) (ys : List (MrpEvent × ℕ)) (m : ℕ) → streaks (y ∷ ys) ≡ (y ∷ take m ys) ∷ streaks (drop m ys) → eqb (x.1 + 1) y.1 ≡ true → streak_len (y ∷ ys) ≡ suc m
    → streaks (x ∷ y ∷ ys) ≡ take (streak_len (x ∷ y ∷ ys)) (x ∷ y ∷ ys) ∷ streaks (drop (streak_len (x ∷ y ∷ ys)) (x ∷ y ∷ ys))
joins x y ys m later follows n-is =
    let len : streak_len (x ∷ y ∷ ys) ≡ suc (suc m) = rw follows (omega (arith, n-is)) in
    ap (join x) later ∙ rw follows refl ∙ ap (λ (n : ℕ). take n (x ∷ y ∷ ys) ∷ streaks (drop n (x ∷ y ∷ ys))) (sym len)

apart : (x y : MrpEvent × ℕ) (ys : List (MrpEvent × ℕ)) (m : ℕ) → streaks (y ∷ ys) ≡ (y ∷ take m ys) ∷ streaks (drop m ys) → eqb (x.1 + 1) y.1 ≡ false
    → streaks (x ∷ y ∷ ys) ≡ take (streak_len (x ∷ y ∷ ys)) (x ∷ y ∷ ys) ∷ streaks (drop (streak_len (x ∷ y ∷ ys)) (x ∷ y ∷ ys))
apart x y ys m later not_next =
    let len : streak_len (x ∷ y ∷ ys) ≡ 1 = rw not_next refl in
    ap (join x) later ∙ rw not_next refl ∙ ap (λ (ss : List (List (MrpEvent × ℕ))). (x ∷ []) ∷ ss) (sym later) ∙ ap (λ (n : ℕ). take n (x ∷ y ∷ ys) ∷ streaks (drop n (x ∷ y ∷ ys))) (sym len)

pub streaks_cut : (x : MrpEvent × ℕ) (xs : List (MrpEvent × ℕ)) → streaks (x ∷ xs) ≡ take (streak_len (x ∷ xs)) (x ∷ xs) ∷ streaks (drop (streak_len (x ∷ xs)) (x ∷ xs))
streaks_cut x [] = refl
streaks_cut x (y ∷ ys) =
    let m = streak_len_some y ys in
    let n-is : streak_len (y ∷ ys) ≡ suc m.0 = m.1 in
    let later : streaks (y ∷ ys) ≡ (y ∷ take m.0 ys) ∷ streaks (drop m.0 ys) = streaks_cut y ys ∙ ap (λ (n : ℕ). take n (y ∷ ys) ∷ streaks (drop n (y ∷ ys))) n-is in
    elim (cases_Bool (eqb (x.1 + 1) y.1)) [
      | inl yes_it ↦ joins x y ys m.0 later yes_it n-is
      | inr not_it ↦ apart x y ys m.0 later not_it
    ]

-- ---- the vectors of the streaks

vectors_more : (leave : Bool) (streak : List (MrpEvent × ℕ)) (others : List (List (MrpEvent × ℕ))) → streak_vectors leave (streak ∷ others) ≡ streak_vector leave streak ∷ streak_vectors false others
vectors_more true streak [] = refl
vectors_more false streak [] = refl
vectors_more true streak (s ∷ ss) = refl
vectors_more false streak (s ∷ ss) = refl

pub octets_go_on : (out new total : List ℕ) (leave : Bool) (rest : List (MrpEvent × ℕ)) (n : ℕ) → 0 < length rest → n ≡ streak_len rest → out ++ streaks_octets leave (streaks rest) ≡ total
    → new ≡ out ++ vector_octets (vector_for (streak_vector leave (take n rest))) → new ++ streaks_octets false (streaks (drop n rest)) ≡ total
octets_go_on out new total leave [] n some e so_far new-is = absurd (omega arith)
octets_go_on out new total leave (x ∷ xs) n some e so_far new-is =
    let streak = take n (x ∷ xs) in
    let after = streaks (drop n (x ∷ xs)) in
    let cut : streaks (x ∷ xs) ≡ streak ∷ after = streaks_cut x xs ∙ ap (λ (k : ℕ). take k (x ∷ xs) ∷ streaks (drop k (x ∷ xs))) (sym e) in
    let all : streaks_octets leave (streaks (x ∷ xs)) ≡ vector_octets (vector_for (streak_vector leave streak)) ++ streaks_octets false after =
    ap (streaks_octets leave) cut ∙ ap (λ (vs : List VectorAttr). vectors_octets (vectors_for vs)) (vectors_more leave streak after) in
    ap (λ (os : List ℕ). os ++ streaks_octets false after) new-is
    ∙ append_assoc out (vector_octets (vector_for (streak_vector leave streak))) (streaks_octets false after) ∙ ap (λ (os : List ℕ). out ++ os) (sym all) ∙ so_far

-- no event is left
pub octets_end : (out total : List ℕ) (leave : Bool) (rest : List (MrpEvent × ℕ)) → length rest ≡ 0 → leave ≡ false → out ++ streaks_octets leave (streaks rest) ≡ total → out ≡ total
octets_end out total leave [] none said so_far = sym (append-nil out) ∙ ap (λ (v : Bool). out ++ streaks_octets v []) (sym said) ∙ so_far
octets_end out total leave (x ∷ xs) none said so_far = absurd (omega (arith, none))

-- and a LeaveAll that no streak has said
pub octets_alone : (out new total : List ℕ) (leave : Bool) (rest : List (MrpEvent × ℕ)) → length rest ≡ 0 → leave ≡ true → new ≡ out ++ vector_octets (vector_for (streak_vector true []))
    → out ++ streaks_octets leave (streaks rest) ≡ total → new ≡ total
octets_alone out new total leave [] none unsaid new-is so_far =
    new-is ∙ ap (λ (os : List ℕ). out ++ os) (sym (append-nil (vector_octets (vector_for (streak_vector true []))))) ∙ ap (λ (v : Bool). out ++ streaks_octets v []) (sym unsaid) ∙ so_far
octets_alone out new total leave (x ∷ xs) none unsaid new-is so_far = absurd (omega (arith, none))

pub vids_none : (rest events : List (MrpEvent × ℕ)) → length rest ≡ 0 → (AreVids rest → AreVids events) → AreVids events
vids_none [] events none h = h tt
vids_none (x ∷ xs) events none h = absurd (omega (arith, none))

pub vids_join : (n : ℕ) (rest : List (MrpEvent × ℕ)) → AreVids (take n rest) → AreVids (drop n rest) → AreVids rest
vids_join n rest h k = subst AreVids (take-append-drop n rest) (vids-append (take n rest) (drop n rest) h k)
