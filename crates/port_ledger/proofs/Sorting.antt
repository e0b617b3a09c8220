-- What changed between two lists is what changed between those of their entries that they don't share.
use Rattle.std.proofs.Common.{◌≡◌, ◌≢◌, ◌<◌, Bool, true, false, not, ◌&&◌, ◌||◌, cond, List, [], ◌∷◌, ◌++◌, filter, refl, sym, ◌∙◌, ap, subst}
use Rattle.std.specs.{List.AllByRecursion, List.list_any, List.Sorted.IsPermutation}
use Rattle.std.proofs.lemmas.{Bool.or_from, Bool.or_left, List.Sorted.list_any-IsPermutation}
use Rattle.srp_base.proofs.Lists.{each_filter}
use Rattle.stream_importance.specs.declared.entry.Entry.{Entry}
use Rattle.port_ledger.specs.{stream_of, is_booked, AreOfDifferentStreams, IsAscending, same_entry, AreBehind}
use Rattle.port_ledger.proofs.{Comparing.in_own, Comparing.only_in, Finding.differ, Marking.different_from_ascending, Moving.filter_permuted, Ranking.different_permuted, Rounds.filter_agree, Running.all_with}

pub ascending-filter : (p : Entry → Bool) (xs : List Entry) → IsAscending xs → IsAscending (filter p xs)
ascending-filter p [] up = tt
ascending-filter p (x ∷ xs) up =
    elim (p x) as (λ v. IsAscending (cond v (x ∷ filter p xs) (filter p xs))) [
      | true ↦ (each_filter (λ y. stream_of x < stream_of y) p xs up.0, ascending-filter p xs up.1)
      | false ↦ ascending-filter p xs up.1
    ]

any_join : (p : Entry → Bool) (xs ys : List Entry) → list_any p (xs ++ ys) ≡ (list_any p xs || list_any p ys)
any_join p [] ys = refl
any_join p (x ∷ xs) ys = ap (λ v. p x || v) (any_join p xs ys) ∙ or_assoc (p x) (list_any p xs) (list_any p ys)
  where
    or_assoc : (a b c : Bool) → (a || (b || c)) ≡ ((a || b) || c)
    or_assoc true b c = refl
    or_assoc false b c = refl

-- what is shared counts for nothing
pub none_filtered : (p : Entry → Bool) (xs ys : List Entry) → AllByRecursion (λ x. p x ≡ false) xs → filter p (xs ++ ys) ≡ filter p ys
none_filtered p [] ys h = refl
none_filtered p (x ∷ xs) ys h = ap (λ v. cond v (x ∷ filter p (xs ++ ys)) (filter p (xs ++ ys))) h.0 ∙ none_filtered p xs ys h.1

no_booking : (a b : Bool) → b ≡ true → (a && not b) ≡ false
no_booking true b h = ap not h
no_booking false b h = refl

-- the later ones are of other streams than the front
others_apart : (front xs : List Entry) → AreOfDifferentStreams (front ++ xs) → AllByRecursion (λ x. list_any (same_entry x) front ≡ false) xs
others_apart [] xs d = all_false xs
  where
    all_false : (ys : List Entry) → AllByRecursion (λ x. list_any (same_entry x) [] ≡ false) ys
    all_false [] = tt
    all_false (y ∷ ys) = (refl, all_false ys)
others_apart (f ∷ front) xs d =
    all_with xs (right front xs d.0) (others_apart front xs d.1) (λ x ne h. or_from (same_entry x f) (list_any (same_entry x) front) (differ x f (λ e. ne (sym e))) h)
  where
    right : (ys zs : List Entry) → AllByRecursion (λ y. stream_of f ≢ stream_of y) (ys ++ zs) → AllByRecursion (λ y. stream_of f ≢ stream_of y) zs
    right [] zs h = h
    right (y ∷ ys) zs h = right ys zs h.1

pub only_permuted : (front xs ys these those : List Entry) → AreBehind front xs these → AreBehind front ys those → IsPermutation (only_in these those) (only_in xs ys)
only_permuted front xs ys these those new old =
    let whole : Entry → Bool = λ x. is_booked x && not (list_any (same_entry x) those) in
    let part : Entry → Bool = λ x. is_booked x && not (list_any (same_entry x) ys) in
    let shared : AllByRecursion (λ x. whole x ≡ false) front =
    all_with front (in_own front) (in_own front)
    (λ x h _. no_booking (is_booked x) (list_any (same_entry x) those)
    (list_any-IsPermutation (same_entry x) those (front ++ ys) old.same ∙ (any_join (same_entry x) front ys ∙ or_left (list_any (same_entry x) front) (list_any (same_entry x) ys) h))) in
    let away : AllByRecursion (λ x. list_any (same_entry x) front ≡ false) xs =
    others_apart front xs (different_permuted these (front ++ xs) new.same (different_from_ascending these new.ascending)) in
    let agree : AllByRecursion (λ x. whole x ≡ part x) xs =
    all_with xs away away
    (λ x h _. ap (λ v. is_booked x && not v)
    (list_any-IsPermutation (same_entry x) those (front ++ ys) old.same
    ∙ (any_join (same_entry x) front ys ∙ ap (λ v. v || list_any (same_entry x) ys) h))) in
    let cut : filter whole (front ++ xs) ≡ filter part xs = none_filtered whole front xs shared ∙ filter_agree whole part xs agree in
    subst (λ (zs : List Entry). IsPermutation (filter whole these) zs) cut (filter_permuted whole these (front ++ xs) new.same)
