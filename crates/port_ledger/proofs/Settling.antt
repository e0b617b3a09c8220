-- A front of the order of importance: what it is, that it stays as time passes, and how it grows.
use Rattle.std.proofs.Common.{◌≡◌, ℕ, zero, suc, ◌+◌, ◌<◌, ◌≤◌, Bool, true, false, not, ◌&&◌, ◌||◌, cond, get_or, List, [], ◌∷◌, ◌++◌, length, take, drop, Option, Some, refl, sym, ◌∙◌, ap, subst, arith, append_assoc, inl, inr}
use Rattle.std.specs.Prelude.{nat_le}
use Rattle.std.specs.{List.AllByRecursion, List.Sorted.IsPartitionedBy}
use Rattle.std.proofs.lemmas.{Bool.and_cases, Bool.and_from, Bool.and_left, Bool.and_parts, Bool.and_right, Bool.cases_Bool, Bool.cases_lt, Bool.not_from_false, Bool.or_left, Bool.or_right, List.drop_at, List.length-append, List.length-take-le, List.take_at, List.take-append-drop, List.Elements.All-from_recursion}
use Rattle.srp_base.proofs.Lists.{each_append as all_join, all_taken}
use Rattle.stream_importance.specs.declared.{entry.Entry.Entry, slope.Caps.Caps}
use Rattle.stream_importance.specs.{Bandwidth.cap_of, Importance.IsImportanceOrder}
use Rattle.port_ledger.specs.{entry_slope, comes_after, is_booked, AreLasting, first_booked, first_level, has_level, is_of_level, is_prior_to, IsAhead, IsBehind, IsSettled, same_level, settled_front, settled_levels, stays_after, stays_behind, place, importance_order}
use Rattle.port_ledger.proofs.{Levels.after_behind, Levels.after_later, Levels.after_parts, Levels.behind_later, Levels.behind_parts, Levels.below_from, Levels.comes_level, Levels.differ, Levels.level, Levels.not_same, Levels.prior_back, Levels.prior_beyond, Levels.same_is, Marking.all_of, Running.all_with, Running.Holds, Running.IsRanked, Running.Runs, Running.total, Running.total-head, Running.total-tail}

-- ---- lists of facts

pub all_left : {X : Type 0} (P : X → Type 0) (xs ys : List X) → AllByRecursion P (xs ++ ys) → AllByRecursion P xs
all_left P [] ys p = tt
all_left P (x ∷ xs) ys p = (p.0, all_left P xs ys p.1)

pub all_right : {X : Type 0} (P : X → Type 0) (xs ys : List X) → AllByRecursion P (xs ++ ys) → AllByRecursion P ys
all_right P [] ys p = p
all_right P (x ∷ xs) ys p = all_right P xs ys p.1

all_dropped : {X : Type 0} (P : X → Type 0) (n : ℕ) (xs : List X) → AllByRecursion P xs → AllByRecursion P (drop n xs)
all_dropped P zero [] p = tt
all_dropped P zero (x ∷ xs) p = p
all_dropped P (suc n) [] p = tt
all_dropped P (suc n) (x ∷ xs) p = all_dropped P n xs p.1

pub taken_within : {X : Type 0} (P : X → Type 0) (n : ℕ) (xs : List X) → n ≤ length xs → ((k : ℕ) (d : X) → k < n → P (get_or xs k d))
    → AllByRecursion P (take n xs)
taken_within P zero [] le h = tt
taken_within P zero (x ∷ xs) le h = tt
taken_within P (suc n) [] le h = tt
taken_within P (suc n) (x ∷ xs) le h = (h 0 x (omega arith), taken_within P n xs (omega (arith, le)) (λ k d l. h (suc k) d (omega (arith, l))))

pub dropped_within : {X : Type 0} (P : X → Type 0) (n : ℕ) (xs : List X) → ((k : ℕ) (d : X) → n ≤ k → k < length xs → P (get_or xs k d))
    → AllByRecursion P (drop n xs)
dropped_within P zero [] h = tt
dropped_within P zero (x ∷ xs) h = (h 0 x (omega arith) (omega arith), dropped_within P zero xs (λ k d le l. h (suc k) d (omega arith) (omega (arith, l))))
dropped_within P (suc n) [] h = tt
dropped_within P (suc n) (x ∷ xs) h = dropped_within P n xs (λ k d le l. h (suc k) d (omega (arith, le)) (omega (arith, l)))

-- ---- an order that lasts

lasting_later : (now later : ℕ) (xs : List Entry) → now ≤ later → AreLasting now xs → AreLasting later xs
lasting_later now later [] up h = tt
lasting_later now later (x ∷ xs) up h = (all_with xs h.0 h.0 (λ y k _. after_later now later x y up k), lasting_later now later xs up h.1)

pub settled_later : (now later n : ℕ) (xs : List Entry) → now ≤ later → IsSettled now n xs → IsSettled later n xs
settled_later now later n xs up s = record {
  within = s.within;
  ahead = record {
    lasting = lasting_later now later (take n xs) up s.ahead.lasting;
    behind = all_with (drop n xs) s.ahead.behind s.ahead.behind (λ y h _. all_with (take n xs) h h (λ x k _. behind_later now later x y up k));
  };
}

pub nothing_ahead : (now : ℕ) (xs : List Entry) → IsAhead now [] xs
nothing_ahead now xs = record { lasting = tt; behind = all_of xs (λ y. tt) }

ahead_tail : (now : ℕ) (x : Entry) (front rest : List Entry) → IsAhead now (x ∷ front) rest → IsAhead now front rest
ahead_tail now x front rest a = record { lasting = a.lasting.1; behind = all_with rest a.behind a.behind (λ y h _. h.1) }

ahead_first : (now : ℕ) (x : Entry) (front rest : List Entry) → IsAhead now (x ∷ front) rest → AllByRecursion (λ y. comes_after now y x ≡ true) (front ++ rest)
ahead_first now x front rest a =
    all_join (λ y. comes_after now y x ≡ true) front rest
    (all_with front a.lasting.0 a.lasting.0 (λ y h _. (after_parts now x y h).0))
    (all_with rest a.behind a.behind (λ y h _. (behind_parts now x y h.0).0))

pub ahead_ranked : (now : ℕ) (front rest : List Entry) → IsAhead now front rest → IsRanked now rest → IsRanked now (front ++ rest)
ahead_ranked now [] rest a r = r
ahead_ranked now (x ∷ front) rest a r = (ahead_first now x front rest a, ahead_ranked now front rest (ahead_tail now x front rest a) r)

-- a front grows by what is ahead of the others behind it
lasting_join : (now : ℕ) (f g : List Entry) → AreLasting now f → AllByRecursion (IsBehind now f) g → AreLasting now g → AreLasting now (f ++ g)
lasting_join now [] g a b c = c
lasting_join now (x ∷ f) g a b c = grind (arith, lasting_join now f g a.1 (all_with g b b (λ y h _. h.1)) c, all_join, all_with, after_behind)

ahead_more : (now : ℕ) (f g r : List Entry) → IsAhead now f (g ++ r) → IsAhead now g r → IsAhead now (f ++ g) r
ahead_more now f g r a b = record {
  lasting = lasting_join now f g a.lasting (all_left (IsBehind now f) g r a.behind) b.lasting;
  behind = all_with r (all_right (IsBehind now f) g r a.behind) b.behind (λ y h k. all_join (λ x. stays_behind now y x ≡ true) f g h k);
}

-- what is ahead of the others is settled
pub settled_seam : (now n : ℕ) (f r : List Entry) → length f ≡ n → IsAhead now f r → IsSettled now n (f ++ r)
settled_seam now n f r e a = grind (arith, length-append, take_at, drop_at)

pub ahead_settled : (now k n : ℕ) (f r : List Entry) → IsAhead now f r → k ≤ length r → IsAhead now (take k r) (drop k r) → n ≡ length f + k
    → IsSettled now n (f ++ r)
ahead_settled now k n f r a le b e =
    let parts : take k r ++ drop k r ≡ r = take-append-drop k r in
    let more : IsAhead now (f ++ take k r) (drop k r) = ahead_more now f (take k r) (drop k r) (subst (λ (xs : List Entry). IsAhead now f xs) (sym parts) a) b in
    subst (λ (xs : List Entry). IsSettled now n xs) (append_assoc f (take k r) (drop k r) ∙ ap (λ xs. f ++ xs) parts)
    (settled_seam now n (f ++ take k r) (drop k r) (omega (arith, e, length-append f (take k r), length-take-le k r le)) more)

-- ---- how much of a ranked list is settled

-- what is counted by the levels alone is the settled front
level_same : (x : Entry) (xs : List Entry) → is_of_level x (first_level xs) ≡ has_level x (first_booked xs)
level_same x [] = refl
level_same x (y ∷ ys) = grind (arith, level_same x ys)

pub levels_settled : (xs : List Entry) → settled_levels xs ≡ settled_front xs
levels_settled [] = refl
levels_settled (x ∷ xs) = grind (arith, levels_settled xs, level_same)

pub settled_short : (xs : List Entry) → settled_front xs ≤ length xs
settled_short [] = omega arith
settled_short (x ∷ xs) = grind (arith, settled_short xs)

-- no entry behind x that is booked is of its level
abbrev NoneBooked : Entry → List Entry → Type 0
NoneBooked x xs = AllByRecursion (λ y. (is_booked y && same_level x y) ≡ false) xs

no_booked : (now : ℕ) (x : Entry) (xs : List Entry) → AllByRecursion (λ y. comes_after now y x ≡ true) xs → IsRanked now xs
    → has_level x (first_booked xs) ≡ false → NoneBooked x xs
no_booked now x [] c r h = tt
no_booked now x (y ∷ ys) c r h =
    elim (cases_Bool (is_booked y)) [
      | inl b ↦
          (let other : same_level x y ≡ false = sym (ap (λ v. has_level x (cond v (Some y) (first_booked ys))) b) ∙ h in
          let below = below_from (level x) (level y) (comes_level now x y c.0) (differ x y other) in (
            and_right (is_booked y) (same_level x y) other,
            all_with ys r.0 r.0
                (λ z k _. and_right (is_booked z) (same_level x z) (not_same x z (λ e. let up = comes_level now y z k in absurd (omega (arith, e, up, below))))),
          ))
      | inr b ↦ (
        and_left (is_booked y) (same_level x y) b,
        no_booked now x ys c.1 r.1 (sym (ap (λ v. has_level x (cond v (Some y) (first_booked ys))) b) ∙ h),
      )
    ]

not_found : (x y : Entry) (ys : List Entry) → has_level y (first_booked ys) ≡ true → NoneBooked x ys → level x ≡ level y → ⊥
not_found x y [] h n e = cc
not_found x y (z ∷ zs) h n e =
    elim (cases_Bool (is_booked z)) [
      | inl b ↦
          (let one : level y ≡ level z = same_is y z (sym (ap (λ v. has_level y (cond v (Some z) (first_booked zs))) b) ∙ h) in
          let other : same_level x z ≡ false = sym (ap (λ v. v && same_level x z) b) ∙ n.0 in
          differ x z other (e ∙ one))
      | inr b ↦ not_found x y zs (sym (ap (λ v. has_level y (cond v (Some z) (first_booked zs))) b) ∙ h) n.1 e
    ]

-- what isn't settled is of another level than an entry before it
far_behind : (now : ℕ) (x : Entry) (xs : List Entry) → AllByRecursion (λ y. comes_after now y x ≡ true) xs → IsRanked now xs → NoneBooked x xs
    → AllByRecursion (λ z. same_level x z ≡ false) (drop (settled_front xs) xs)
far_behind now x [] c r n = tt
far_behind now x (y ∷ ys) c r n =
    elim (cases_Bool (not (is_booked y) && has_level y (first_booked ys))) [
      | inl f ↦
          (let found = (and_parts (not (is_booked y)) (has_level y (first_booked ys)) f).1 in
          let ne = not_found x y ys found n.1 in
          let below = below_from (level x) (level y) (comes_level now x y c.0) ne in
          subst (λ (v : Bool). AllByRecursion (λ z. same_level x z ≡ false) (drop (cond v 0 (suc (settled_front ys))) (y ∷ ys))) (sym f)
          (not_same x y ne, all_with ys r.0 r.0 (λ z k _. not_same x z (λ e. let up = comes_level now y z k in absurd (omega (arith, e, up, below))))))
      | inr f ↦ subst (λ (v : Bool). AllByRecursion (λ z. same_level x z ≡ false) (drop (cond v 0 (suc (settled_front ys))) (y ∷ ys))) (sym f)
          (far_behind now x ys c.1 r.1 n.1)
    ]

one_more : (now k : ℕ) (x : Entry) (xs : List Entry) → AllByRecursion (λ y. stays_after now y x ≡ true) xs → AllByRecursion (λ z. stays_behind now z x ≡ true) (drop k xs)
    → IsAhead now (take k xs) (drop k xs) → IsAhead now (x ∷ take k xs) (drop k xs)
one_more now k x xs after behind a = grind (arith, all_taken, all_with)

pub ranked_settled : (now : ℕ) (xs : List Entry) → IsRanked now xs → IsAhead now (take (settled_front xs) xs) (drop (settled_front xs) xs)
ranked_settled now [] r = nothing_ahead now []
ranked_settled now (x ∷ xs) r =
    let k : ℕ = settled_front xs in
    elim (cases_Bool (not (is_booked x) && has_level x (first_booked xs))) [
      | inl f ↦ subst (λ (v : Bool). IsAhead now (take (cond v 0 (suc k)) (x ∷ xs)) (drop (cond v 0 (suc k)) (x ∷ xs))) (sym f) (nothing_ahead now (x ∷ xs))
      | inr f ↦ subst (λ (v : Bool). IsAhead now (take (cond v 0 (suc k)) (x ∷ xs)) (drop (cond v 0 (suc k)) (x ∷ xs))) (sym f)
          (elim (cases_Bool (is_booked x)) [
            | inl b ↦ one_more now k x xs
                (all_with xs r.0 r.0
                (λ y h _. and_from (comes_after now y x) (is_booked x || not (is_booked y && same_level x y)) h (or_left (is_booked x) (not (is_booked y && same_level x y)) b)))
                (all_dropped (λ y. stays_behind now y x ≡ true) k xs
                (all_with xs r.0 r.0 (λ y h _. and_from (comes_after now y x) (is_booked x || not (same_level x y)) h (or_left (is_booked x) (not (same_level x y)) b))))
                (ranked_settled now xs r.1)
            | inr b ↦ (
                let none : NoneBooked x xs = no_booked now x xs r.0 r.1 (sym (ap (λ v. not v && has_level x (first_booked xs)) b) ∙ f) in
                one_more now k x xs
                (all_with xs r.0 none
                (λ y h n. and_from (comes_after now y x) (is_booked x || not (is_booked y && same_level x y)) h
                (or_right (is_booked x) (not (is_booked y && same_level x y)) (not_from_false (is_booked y && same_level x y) n))))
                (all_with (drop k xs) (all_dropped (λ y. comes_after now y x ≡ true) k xs r.0) (far_behind now x xs r.0 r.1 none)
                (λ y h n. and_from (comes_after now y x) (is_booked x || not (same_level x y)) h (or_right (is_booked x) (not (same_level x y)) (not_from_false (same_level x y) n))))
                (ranked_settled now xs r.1))
          ])
    ]

-- the bookings of a front are those of a running sum
pub runs_front : (now : ℕ) (o : IsImportanceOrder now) (caps : Caps) (sum : ℕ) (b : Entry → Bool) (f r : List Entry)
    → IsAhead now f r → AllByRecursion (Holds now caps sum b (f ++ r)) (f ++ r) → Runs caps sum b f
runs_front now o caps sum b [] r a holds = tt
runs_front now o caps sum b (x ∷ f) r a holds =
    let xs : List Entry = f ++ r in
    let first : AllByRecursion (λ y. comes_after now y x ≡ true) xs = ahead_first now x f r a in
    let none : sum + total b now x (x ∷ xs) ≡ sum = omega (arith, total-head b now o x xs first) in
    let rest : AllByRecursion (Holds now caps (sum + cond (b x) (entry_slope x) 0) b xs) xs
    = all_with xs first holds.1 (λ y before h. h ∙ ap (λ n. nat_le (n + entry_slope y) (cap_of caps y.want.class)) (sym (total-tail b now x y xs sum before))) in (
      holds.0 ∙ ap (λ n. nat_le (n + entry_slope x) (cap_of caps x.want.class)) none,
      runs_front now o caps (sum + cond (b x) (entry_slope x) 0) b f r (ahead_tail now x f r a) rest,
    )

-- what is ranked is in the order of importance
place_own : (now : ℕ) (x : Entry) (ys : List Entry) → AllByRecursion (λ y. comes_after now y x ≡ true) ys → place now x ys ≡ x ∷ ys
place_own now x [] h = refl
place_own now x (y ∷ ys) h = ap (λ v. cond v (x ∷ y ∷ ys) (y ∷ place now x ys)) h.0

pub ranked_own : (now : ℕ) (xs : List Entry) → IsRanked now xs → importance_order now xs ≡ xs
ranked_own now [] r = refl
ranked_own now (x ∷ xs) r = ap (place now x) (ranked_own now xs r.1) ∙ place_own now x xs r.0

-- ---- how much of what is settled goes before two entries

lasting_at : (now : ℕ) (xs : List Entry) → AreLasting now xs → (i j : ℕ) (d : Entry) → i < j → j < length xs
    → stays_after now (get_or xs j d) (get_or xs i d) ≡ true
lasting_at now [] r i j d l k = absurd (omega (arith, k))
lasting_at now (x ∷ xs) r i zero d l k = absurd (omega (arith, l))
lasting_at now (x ∷ xs) r zero (suc j) d l k = All-from_recursion (λ y. stays_after now y x ≡ true) xs r.0 j d (omega (arith, k))
lasting_at now (x ∷ xs) r (suc i) (suc j) d l k = lasting_at now xs r.1 i j d (omega (arith, l)) (omega (arith, k))

abbrev pub is_prior_to_both : ℕ → Option Entry → Option Entry → Entry → Bool
is_prior_to_both now goes comes y = is_prior_to now goes y && is_prior_to now comes y

pub prior_parted : (now : ℕ) (o : IsImportanceOrder now) (goes comes : Option Entry) (xs : List Entry) → AreLasting now xs
    → IsPartitionedBy (is_prior_to_both now goes comes) xs
prior_parted now o goes comes xs r i j d le within h =
    elim (cases_lt i j) [
      | inl l ↦
          (let y : Entry = get_or xs i d in
          let z : Entry = get_or xs j d in
          let on = lasting_at now xs r i j d l within in
          let parts = and_parts (is_prior_to now goes z) (is_prior_to now comes z) h in
          and_from (is_prior_to now goes y) (is_prior_to now comes y) (prior_back now o goes y z on parts.0) (prior_back now o comes y z on parts.1))
      | inr l ↦ (let same : i ≡ j = omega (arith, le, l) in subst (λ (k : ℕ). is_prior_to_both now goes comes (get_or xs k d) ≡ true) (sym same) h)
    ]

-- an entry behind the cut is of no level that waits before it
cut_behind : (now : ℕ) (goes comes : Option Entry) (y z : Entry) → stays_after now z y ≡ true → is_prior_to_both now goes comes y ≡ true
    → is_prior_to_both now goes comes z ≡ false → stays_behind now z y ≡ true
cut_behind now goes comes y z s h k = grind (arith, and_parts, and_cases, prior_beyond)

cut_ahead : (now n : ℕ) (goes comes : Option Entry) (xs : List Entry) → AreLasting now xs → AllByRecursion (λ y. is_prior_to_both now goes comes y ≡ true) (take n xs)
    → AllByRecursion (λ y. is_prior_to_both now goes comes y ≡ false) (drop n xs) → IsAhead now (take n xs) (drop n xs)
cut_ahead now zero goes comes [] l p q = nothing_ahead now []
cut_ahead now zero goes comes (x ∷ xs) l p q = nothing_ahead now (x ∷ xs)
cut_ahead now (suc n) goes comes [] l p q = nothing_ahead now []
cut_ahead now (suc n) goes comes (x ∷ xs) l p q =
    one_more now n x xs l.0
    (all_with (drop n xs) (all_dropped (λ y. stays_after now y x ≡ true) n xs l.0) q (λ z h k. cut_behind now goes comes x z h p.0 k))
    (cut_ahead now n goes comes xs l.1 p.1 q)

pub cut_settled : (now n : ℕ) (goes comes : Option Entry) (f r : List Entry) → IsAhead now f r → n ≤ length f
    → AllByRecursion (λ y. is_prior_to_both now goes comes y ≡ true) (take n f) → AllByRecursion (λ y. is_prior_to_both now goes comes y ≡ false) (drop n f)
    → IsSettled now n (f ++ r)
cut_settled now n goes comes f r a le p q =
    let inner : IsAhead now (take n f) (drop n f) = cut_ahead now n goes comes f a.lasting p q in
    let whole : IsAhead now (take n f) (drop n f ++ r) =
    record {
      lasting = inner.lasting;
      behind = all_join (IsBehind now (take n f)) (drop n f) r inner.behind (all_with r a.behind a.behind (λ z h _. all_taken (λ x. stays_behind now z x ≡ true) n f h));
    } in
    subst (λ (xs : List Entry). IsSettled now n xs) (sym (append_assoc (take n f) (drop n f) r) ∙ ap (λ xs. xs ++ r) (take-append-drop n f))
    (settled_seam now n (take n f) (drop n f ++ r) (length-take-le n f le) whole)

-- ---- whether a front's entries go before each of two

pub prior_goes : (now : ℕ) (goes comes : Option Entry) (xs : List Entry) → AllByRecursion (λ y. is_prior_to_both now goes comes y ≡ true) xs → AllByRecursion (λ y. is_prior_to now goes y ≡ true) xs
prior_goes now goes comes xs h = all_with xs h h (λ y k _. (and_parts (is_prior_to now goes y) (is_prior_to now comes y) k).0)

pub prior_comes : (now : ℕ) (goes comes : Option Entry) (xs : List Entry) → AllByRecursion (λ y. is_prior_to_both now goes comes y ≡ true) xs → AllByRecursion (λ y. is_prior_to now comes y ≡ true) xs
prior_comes now goes comes xs h = all_with xs h h (λ y k _. (and_parts (is_prior_to now goes y) (is_prior_to now comes y) k).1)
