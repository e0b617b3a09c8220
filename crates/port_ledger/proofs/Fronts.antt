-- What is known of entries that are decided from a place of their order on, and how a call comes to such.
use Rattle.std.proofs.Common.{◌≡◌, ℕ, ◌+◌, ◌-◌, ◌≤◌, ◌<◌, ◌^◌, List, [], ◌++◌, length, take, drop, sym, ◌∙◌, ap, subst, arith}
use Rattle.std.specs.{List.AllByRecursion, List.Sorted.IsPermutation}
use Rattle.std.proofs.lemmas.List.{drop_all, drop_at, length-append, length-drop, length-take-le, take-append-drop, take_all, take_at}
use Rattle.srp_base.specs.declared.bandwidth.Class.TheVariants.{A, B}
use Rattle.stream_importance.specs.declared.{entry.Entry.Entry, slope.Caps.Caps}
use Rattle.stream_importance.specs.Importance.{IsImportanceOrder}
use Rattle.port_ledger.specs.declared.totals.Totals.{Totals}
use Rattle.port_ledger.specs.{booked_slope, decided_entries, AreOfDifferentStreams, AreBehind, settled_front, decided_behind, IsAhead, IsFront, IsOrdered, importance_order, with_pass, IsOnlyIn, together, totals_of}
pub use Rattle.port_ledger.specs.Totals.{both_of}
use Rattle.port_ledger.proofs.{Deciding.after_same, Deciding.decided_over, Deciding.different_right, Deciding.ordered_over, Deciding.rest_different, Deciding.rest_only, Deciding.taken, Deciding.taken-slopes, Keeping.ascending_after, Keeping.kept_after, Marking.different_from_ascending, Ranking.different_permuted, Rounds.decided_decides, Shares.runs_both, TotalsLemmas.slope-permuted, TotalsLemmas.totals_fit}

module _ (now : ℕ) (o : IsImportanceOrder now) (caps : Caps) (place : ℕ) (front : Totals) (es order : List Entry) (h : IsFront now caps place front es order) where
  abbrev pub ahead : List Entry
  ahead = take place order

  abbrev pub rest : List Entry
  rest = drop place order

  abbrev pub later : List Entry
  later = decided_behind now caps (both_of front) rest

  same : IsPermutation es (ahead ++ rest)
  same = subst (λ (ys : List Entry). IsPermutation es ys) (sym (take-append-drop place order)) h.same

  is_ahead : IsAhead now ahead rest
  is_ahead = h.settled.ahead

  taken_is : both_of front ≡ taken ahead
  taken_is = ap both_of h.totals ∙ taken-slopes ahead

  pub front_place : place ≤ length order
  front_place = h.settled.within

  pub front_taken : both_of front < 2 ^ 64
  front_taken = grind (arith, runs_both, taken_is)

  pub front_different : AreOfDifferentStreams rest
  front_different = rest_different now o caps es ahead rest h.ascending same is_ahead h.stays

  pub front_only : AllByRecursion (IsOnlyIn es) rest
  front_only = rest_only now o caps es ahead rest h.ascending same is_ahead h.stays

  pub front_decided : with_pass now caps (both_of front) (importance_order now rest) es ≡ decided_entries now caps es
  front_decided = grind (arith, taken_is, decided_over, same, is_ahead)

  later_same : IsPermutation (decided_entries now caps es) (ahead ++ later)
  later_same = grind (arith, taken_is, after_same, same, is_ahead)

  pub front_range : booked_slope (ahead ++ later) A + booked_slope (ahead ++ later) B < 2 ^ 64
  front_range =
      let decided : List Entry = decided_entries now caps es in
      let a = slope-permuted decided (ahead ++ later) A later_same in
      let b = slope-permuted decided (ahead ++ later) B later_same in
      let fits =
      totals_fit (record { caps = caps; moment = now; entries = decided }) o
      (kept_after caps now es decided h.shares h.ascending h.moments (decided_decides now o caps es (different_from_ascending es h.ascending))) h.range in
      omega (arith, a, b, fits)

  pub front_ordered : (n : ℕ) (t : Totals) → n ≡ place + settled_front later → t ≡ together front (totals_of now later)
      → IsOrdered now (record { settled = n; totals = t }) (decided_entries now caps es) (ahead ++ later)
  front_ordered n t e k =
      let long : length ahead ≡ place = length-take-le place order front_place in
      let on : decided_behind now caps (taken ahead) rest ≡ later = ap (λ m. decided_behind now caps m rest) (sym taken_is) in
      subst (λ (ys : List Entry). IsOrdered now (record { settled = n; totals = t }) (decided_entries now caps es) (ahead ++ ys)) on
      (ordered_over now o caps es ahead rest h.ascending same is_ahead h.stays h.moments n front t
      (e ∙ (ap (λ m. m + settled_front later) (sym long) ∙ ap (λ ys. length ahead + settled_front ys) (sym on)))
      h.totals (k ∙ ap (λ ys. together front (totals_of now ys)) (sym on)))

  pub front_behind : AreBehind ahead later (decided_entries now caps es)
  front_behind = record {
    ascending = ascending_after now caps es (decided_entries now caps es) h.ascending (decided_decides now o caps es (different_from_ascending es h.ascending));
    same = later_same;
  }

-- ---- a list that is cut at a place, with other entries behind it

pub seam-within : (n : ℕ) (xs ys : List Entry) → n ≤ length xs → n ≤ length (take n xs ++ ys)
seam-within n xs ys le = omega (arith, length-append (take n xs) ys, length-take-le n xs le)

pub seam-take : (n : ℕ) (xs ys : List Entry) → n ≤ length xs → take n (take n xs ++ ys) ≡ take n xs
seam-take n xs ys le = take_at (take n xs) ys n (length-take-le n xs le)

pub seam-drop : (n : ℕ) (xs ys : List Entry) → n ≤ length xs → drop n (take n xs ++ ys) ≡ ys
seam-drop n xs ys le = drop_at (take n xs) ys n (length-take-le n xs le)

pub rest-whole : (n : ℕ) (xs : List Entry) → take (length xs - n) (drop n xs) ≡ drop n xs
rest-whole n xs = take_all (length xs - n) (drop n xs) (omega (arith, length-drop n xs))

pub none-past : (n : ℕ) (xs : List Entry) → drop (length xs - n) (drop n xs) ≡ []
none-past n xs = drop_all (length xs - n) (drop n xs) (omega (arith, length-drop n xs))

pub behind_different : (front rest es : List Entry) → AreBehind front rest es → AreOfDifferentStreams rest
behind_different front rest es b = different_right front rest (different_permuted es (front ++ rest) b.same (different_from_ascending es b.ascending))

-- a front with other entries behind it
module _ (now : ℕ) (o : IsImportanceOrder now) (caps : Caps) (place : ℕ) (front : Totals) (es order others : List Entry) (le : place ≤ length order) (h : IsFront now caps place front es (take place order ++ others)) where
  pub joined_different : AreOfDifferentStreams others
  joined_different = subst (λ (ys : List Entry). AreOfDifferentStreams ys) (seam-drop place order others le) (front_different now o caps place front es (take place order ++ others) h)

  pub joined_behind : AreBehind (take place order) (decided_behind now caps (both_of front) others) (decided_entries now caps es)
  joined_behind =
      subst (λ (xs : List Entry). AreBehind xs (decided_behind now caps (both_of front) others) (decided_entries now caps es)) (seam-take place order others le)
      (subst (λ (ys : List Entry). AreBehind (take place (take place order ++ others)) (decided_behind now caps (both_of front) ys) (decided_entries now caps es)) (seam-drop place order others le)
      (front_behind now o caps place front es (take place order ++ others) h))
