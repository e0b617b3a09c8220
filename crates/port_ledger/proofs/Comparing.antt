-- When two booked sets are the same, and what then is the same.
use Rattle.std.proofs.Common.{Result, Ok, Err, IfOk, ◌≡◌, ◌↔◌, ℕ, ◌<◌, true, false, not, ◌||◌, ◌&&◌, cond, List, [], ◌∷◌, map, filter, refl, sym, ◌∙◌, ap, subst, arith, inl, inr, true≢false}
use Rattle.std.specs.List.{AllByRecursion, list_any}
use Rattle.std.proofs.lemmas.Bool.{cases_Bool, or_left, or_right}
use Rattle.stream_importance.specs.declared.entry.Entry.{Entry}
use Rattle.port_ledger.specs.{stream_of, booked_of, is_booked, IsAscending, booked_only_in, same_entry}
use Rattle.port_ledger.proofs.{Finding.differ, PerStream.same_entry-is, PerStream.same_entry-refl, Running.all_with}

-- a fact of each entry is one of each booked entry
pub all_booked : (P : Entry → Type 0) (xs : List Entry) → AllByRecursion P xs → AllByRecursion P (booked_of xs)
all_booked P [] h = tt
all_booked P (x ∷ xs) h = grind (arith, all_booked P xs h.1)

pub ascending-booked : (xs : List Entry) → IsAscending xs → IsAscending (booked_of xs)
ascending-booked [] up = tt
ascending-booked (x ∷ xs) up = grind (arith, ascending-booked xs up.1, all_booked)

-- among the booked ones a booked entry is found where it is found among all
same_booked : (x y : Entry) → is_booked x ≡ true → is_booked y ≡ false → same_entry x y ≡ false
same_booked x y h k = grind (arith, cases_Bool, same_entry-is)

found_booked : (x : Entry) (ys : List Entry) → is_booked x ≡ true
    → list_any (same_entry x) (booked_of ys) ≡ list_any (same_entry x) ys
found_booked x [] h = refl
found_booked x (y ∷ ys) h = grind (arith, found_booked x ys h, cases_Bool, same_booked)

-- what these have booked and those haven't, as a list of entries
abbrev pub only_in : List Entry → List Entry → List Entry
only_in these those = filter (λ x. is_booked x && not (list_any (same_entry x) those)) these

only_in-booked : (these those : List Entry) → only_in (booked_of these) (booked_of those) ≡ only_in these those
only_in-booked [] those = refl
only_in-booked (x ∷ xs) those = grind (arith, only_in-booked xs those, cases_Bool, found_booked)

pub booked_only_in-booked : (these those : List Entry)
    → booked_only_in (booked_of these) (booked_of those) ≡ booked_only_in these those
booked_only_in-booked these those = ap (map (λ (x : Entry). x.want.stream)) (only_in-booked these those)

-- each of these is among those
abbrev pub AreIn : List Entry → List Entry → Type 0
AreIn those these = AllByRecursion (λ x. list_any (same_entry x) those ≡ true) these

pub in_own : (xs : List Entry) → AreIn xs xs
in_own [] = tt
in_own (x ∷ xs) = grind (arith, in_own xs, or_left, same_entry-refl, all_with, or_right)

-- nothing of these is missing among those exactly where each is among them
none_missing : (those these : List Entry) → AreIn those these → only_in these those ≡ []
none_missing those [] h = refl
none_missing those (x ∷ xs) h = grind (arith, none_missing those xs h.1)

all_in : (those these : List Entry) → AllByRecursion (λ x. is_booked x ≡ true) these → map (λ (x : Entry). x.want.stream) (only_in these those) ≡ []
    → AreIn those these
all_in those [] booked h = tt
all_in those (x ∷ xs) booked h =
    elim (cases_Bool (list_any (same_entry x) those)) [
      | inl k ↦
          (let rest : map (λ (y : Entry). y.want.stream) (only_in xs those) ≡ [] =
          sym (ap (λ v. map (λ (y : Entry). y.want.stream) (cond (v && not (list_any (same_entry x) those)) (x ∷ only_in xs those) (only_in xs those))) booked.0
          ∙ ap (λ v. map (λ (y : Entry). y.want.stream) (cond (not v) (x ∷ only_in xs those) (only_in xs those))) k) ∙ h in
          (k, all_in those xs booked.1 rest))
      | inr k ↦
          (let more : map (λ (y : Entry). y.want.stream) (only_in (x ∷ xs) those) ≡ x.want.stream ∷ map (λ (y : Entry). y.want.stream) (only_in xs those) =
          ap (λ v. map (λ (y : Entry). y.want.stream) (cond (v && not (list_any (same_entry x) those)) (x ∷ only_in xs those) (only_in xs those))) booked.0
          ∙ ap (λ v. map (λ (y : Entry). y.want.stream) (cond (not v) (x ∷ only_in xs those) (only_in xs those))) k in
          absurd (let none : x.want.stream ∷ map (λ (y : Entry). y.want.stream) (only_in xs those) ≡ [] = sym more ∙ h in cc))
    ]

all_of_booked : (xs : List Entry) → AllByRecursion (λ x. is_booked x ≡ true) (booked_of xs)
all_of_booked [] = tt
all_of_booked (x ∷ xs) = grind (arith, all_of_booked xs)

-- an entry that is found lies behind what all lie behind
found_behind : (n : ℕ) (x : Entry) (ys : List Entry) → AllByRecursion (λ y. n < stream_of y) ys
    → list_any (same_entry x) ys ≡ true → n < stream_of x
found_behind n x [] h k = cc
found_behind n x (y ∷ ys) h k =
    elim (cases_Bool (same_entry x y)) [
      | inl e ↦ (let same : stream_of x ≡ stream_of y = ap stream_of (same_entry-is x y e) in omega (arith, same, h.0))
      | inr e ↦ found_behind n x ys h.1 (sym (ap (λ v. v || list_any (same_entry x) ys) e) ∙ k)
    ]

-- two ascending lists that lie in each other are one
pub both_in : (xs ys : List Entry) → IsAscending xs → IsAscending ys → AreIn ys xs → AreIn xs ys → xs ≡ ys
both_in [] [] up down h k = refl
both_in [] (y ∷ ys) up down h k = absurd (true≢false (sym k.0))
both_in (x ∷ xs) [] up down h k = absurd (true≢false (sym h.0))
both_in (x ∷ xs) (y ∷ ys) up down h k =
    elim (cases_Bool (same_entry x y)) [
      | inl e ↦
          (let one : x ≡ y = same_entry-is x y e in
          let rest : xs ≡ ys =
          both_in xs ys up.1 down.1
          (all_with xs up.0 h.1 (λ z l g. sym (ap (λ v. v || list_any (same_entry z) ys) (differ z y (λ f. omega (arith, f, l, ap stream_of one)))) ∙ g))
          (all_with ys down.0 k.1 (λ z l g. sym (ap (λ v. v || list_any (same_entry z) xs) (differ z x (λ f. omega (arith, f, l, ap stream_of one)))) ∙ g)) in
          ap (λ z. z ∷ xs) one ∙ ap (λ zs. y ∷ zs) rest)
      | inr e ↦
          (let other : same_entry y x ≡ false =
          elim (cases_Bool (same_entry y x)) [
            | inl f ↦ absurd (true≢false (sym (same_entry-refl x) ∙ (ap (same_entry x) (sym (same_entry-is y x f)) ∙ e)))
            | inr f ↦ f
          ] in
          let above : stream_of y < stream_of x = found_behind (stream_of y) x ys down.0 (sym (ap (λ v. v || list_any (same_entry x) ys) e) ∙ h.0) in
          let below : stream_of x < stream_of y = found_behind (stream_of x) y xs up.0 (sym (ap (λ v. v || list_any (same_entry y) xs) other) ∙ k.0) in
          absurd (omega (arith, above, below)))
    ]

pub nothing_changed : (before after : List Entry) → IsAscending before → IsAscending after
    → ((booked_only_in after before ≡ []) × (booked_only_in before after ≡ [])) ↔ (booked_of after ≡ booked_of before)
nothing_changed before after up down = (
  (λ h. both_in (booked_of after) (booked_of before) (ascending-booked after down) (ascending-booked before up)
      (all_in (booked_of before) (booked_of after) (all_of_booked after) (booked_only_in-booked after before ∙ h.0))
      (all_in (booked_of after) (booked_of before) (all_of_booked before) (booked_only_in-booked before after ∙ h.1))),
  (λ e. (nothing after before e, nothing before after (sym e))),
)
  where
    nothing : (these those : List Entry) → booked_of these ≡ booked_of those → booked_only_in these those ≡ []
    nothing these those e =
        sym (booked_only_in-booked these those)
        ∙ (ap (λ zs. booked_only_in zs (booked_of those)) e
        ∙ ap (map (λ (x : Entry). x.want.stream)) (none_missing (booked_of those) (booked_of those) (in_own (booked_of those))))

-- what is answered as the bookings of an ascending list ascends
pub bookings_ascend : {F : Type 0} (xs : List Entry) (r : Result (List Entry) F) → IfOk r (λ s. s ≡ booked_of xs) → IsAscending xs
    → IfOk r (λ s. IsAscending s)
bookings_ascend xs (Ok s) e up = subst (λ (ys : List Entry). IsAscending ys) (sym e) (ascending-booked xs up)
bookings_ascend xs (Err f) e up = tt

-- between entries and themselves nothing changed
pub nothing_new : (xs ys : List Entry) → IsAscending xs → ys ≡ xs → (booked_only_in ys xs ≡ []) × (booked_only_in xs ys ≡ [])
nothing_new xs ys up is = subst (λ (zs : List Entry). (booked_only_in zs xs ≡ []) × (booked_only_in xs zs ≡ [])) (sym is) ((nothing_changed xs xs up up).1 refl)
