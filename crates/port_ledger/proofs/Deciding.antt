-- Deciding from a place of the order on comes to the decision of all entries.
use Rattle.std.proofs.Common.{◌≡◌, ℕ, ◌+◌, ◌≤◌, Bool, cond, List, [], ◌∷◌, ◌++◌, length, sym, ◌∙◌, ap, subst, arith, zero-add}
use Rattle.std.specs.{List.AllByRecursion, List.Sorted.IsPermutation}
use Rattle.std.proofs.lemmas.List.Sorted.{IsPermutation-append_right, IsPermutation-trans}
use Rattle.srp_base.specs.declared.bandwidth.Class.TheVariants.{A, B}
use Rattle.stream_importance.specs.declared.{entry.Entry.Entry, slope.Caps.Caps}
use Rattle.stream_importance.specs.Importance.{moment_or, IsImportanceOrder}
use Rattle.port_ledger.specs.declared.totals.Totals.{Totals}
use Rattle.port_ledger.specs.{booked_slope, entry_slope, is_booked, since_after, decided_entries, IsAscending, AreOfDifferentStreams, settled_front, IsAhead, IsBehind, IsOrdered, importance_order, has_room, sum_with, entries_passed, with_pass, IsOnlyIn, together, totals_of}
use Rattle.port_ledger.proofs.{Keeping.ascending_after, Levels.behind_decided, Marking.different_from_ascending, Passing.only_own, Passing.pass_decides, Passing.pass_keeps, Passing.ranked_only, Passing.runs_on, Passing.sum_with-cond, Passing.with_since-own, Ranking.IsPermutation-ranked, Ranking.ranked_is_ranked, Ranking.all_permuted, Ranking.different_permuted, Rounds.decided_decides, Running.all_with, Running.part, Running.sum-filter, Running.Runs, Settling.ahead_ranked, Settling.ahead_settled, Settling.all_left, Settling.all_right, Settling.ranked_own, Settling.ranked_settled, Settling.settled_short, Shares.class_parts, Shares.is_of, Standing.since_own, TotalsLemmas.totals-join, TotalsLemmas.totals-permuted}

-- what the booked ones of entries take
abbrev pub taken : List Entry → ℕ
taken xs = part is_booked (is_of A) xs + part is_booked (is_of B) xs

taken-cons : (x : Entry) (xs : List Entry) (sum : ℕ) → sum + cond (is_booked x) (entry_slope x) 0 + taken xs ≡ sum + taken (x ∷ xs)
taken-cons x xs sum = grind (arith, class_parts)

pub taken-slopes : (xs : List Entry) → booked_slope xs A + booked_slope xs B ≡ taken xs
taken-slopes xs = grind (arith, sum-filter, is_of)

sum_on : (caps : Caps) (start : ℕ) (x : Entry) (f : List Entry) → is_booked x ≡ has_room caps start x
    → sum_with start x (has_room caps start x) + taken f ≡ start + taken (x ∷ f)
sum_on caps start x f e = grind (arith, sum_with-cond, taken-cons)

-- an entry whose booking stands keeps its moment
keeps : (now : ℕ) (caps : Caps) (start : ℕ) (x : Entry) → is_booked x ≡ has_room caps start x → since_after now x.since (has_room caps start x) ≡ x.since
keeps now caps start x e = ap (since_after now x.since) (sym e) ∙ since_own now x.since

-- a front whose bookings stand is passed as it is
pass_over : (now : ℕ) (caps : Caps) (start : ℕ) (f t es : List Entry) → Runs caps start is_booked f → AllByRecursion (IsOnlyIn es) f
    → with_pass now caps start (f ++ t) es ≡ with_pass now caps (start + taken f) t es
pass_over now caps start [] t es runs only = let same : start ≡ start + taken [] = omega arith in ap (λ n. with_pass now caps n t es) same
pass_over now caps start (x ∷ f) t es runs only =
    let next : ℕ = sum_with start x (has_room caps start x) in
    ap (with_pass now caps next (f ++ t)) (sym (with_since-own es x (since_after now x.since (has_room caps start x)) (sym (keeps now caps start x runs.0)) only.0))
    ∙ (pass_over now caps next f t es (runs_on caps start is_booked x f runs) only.1
    ∙ ap (λ n. with_pass now caps n t es) (sum_on caps start x f runs.0))

order_over : (now : ℕ) (caps : Caps) (start : ℕ) (f t : List Entry) → Runs caps start is_booked f
    → entries_passed now caps start (f ++ t) ≡ f ++ entries_passed now caps (start + taken f) t
order_over now caps start [] t runs = let same : start ≡ start + taken [] = omega arith in ap (λ n. entries_passed now caps n t) same
order_over now caps start (x ∷ f) t runs =
    let next : ℕ = sum_with start x (has_room caps start x) in
    ap (λ s. record x { since = s } ∷ entries_passed now caps next (f ++ t)) (keeps now caps start x runs.0)
    ∙ ap (λ ys. x ∷ ys)
    (order_over now caps next f t (runs_on caps start is_booked x f runs) ∙ ap (λ n. f ++ entries_passed now caps n t) (sum_on caps start x f runs.0))

-- a fact of each entry, once they are passed
all_passed : (now : ℕ) (caps : Caps) (P Q : Entry → Type 0) (sum : ℕ) (xs : List Entry)
    → ((x : Entry) (mark : Bool) → P x → Q (record x { since = since_after now x.since mark })) → AllByRecursion P xs
    → AllByRecursion Q (entries_passed now caps sum xs)
all_passed now caps P Q sum [] f h = tt
all_passed now caps P Q sum (x ∷ xs) f h = (f x (has_room caps sum x) h.0, all_passed now caps P Q (sum_with sum x (has_room caps sum x)) xs f h.1)

pub different_right : (xs ys : List Entry) → AreOfDifferentStreams (xs ++ ys) → AreOfDifferentStreams ys
different_right [] ys d = d
different_right (x ∷ xs) ys d = different_right xs ys d.1

-- a front that stays, and what is behind it
module _ (now : ℕ) (o : IsImportanceOrder now) (caps : Caps) (es f r : List Entry) (up : IsAscending es) (p : IsPermutation es (f ++ r)) (a : IsAhead now f r) (runs : Runs caps 0 is_booked f) where
  abbrev ranked : List Entry
  ranked = importance_order now r

  abbrev passed : List Entry
  passed = entries_passed now caps (taken f) ranked

  abbrev after : List Entry
  after = importance_order now passed

  abbrev decided : List Entry
  decided = decided_entries now caps es

  pub rest_different : AreOfDifferentStreams r
  rest_different = different_right f r (different_permuted es (f ++ r) p (different_from_ascending es up))

  to_ranked : IsPermutation es (f ++ ranked)
  to_ranked = IsPermutation-trans es (f ++ r) (f ++ ranked) p (IsPermutation-append_right f r ranked (IsPermutation-ranked now r))

  own : importance_order now (f ++ ranked) ≡ f ++ ranked
  own =
      ranked_own now (f ++ ranked)
      (ahead_ranked now f ranked (record { lasting = a.lasting; behind = all_permuted (IsBehind now f) r ranked (IsPermutation-ranked now r) a.behind })
      (ranked_is_ranked now o r rest_different))

  only_all : AllByRecursion (IsOnlyIn es) (f ++ ranked)
  only_all = subst (λ (ys : List Entry). AllByRecursion (IsOnlyIn es) ys) own (ranked_only now es (f ++ ranked) up to_ranked)

  pub rest_only : AllByRecursion (IsOnlyIn es) r
  rest_only = all_right (IsOnlyIn es) f r (all_permuted (IsOnlyIn es) es (f ++ r) p (only_own es (different_from_ascending es up)))

  pub decided_over : with_pass now caps (taken f) ranked es ≡ decided
  decided_over =
      ap (λ n. with_pass now caps n ranked es) (sym (zero-add (taken f)))
      ∙ (sym (pass_over now caps 0 f ranked es runs (all_left (IsOnlyIn es) f ranked only_all))
      ∙ (ap (λ ys. with_pass now caps 0 ys es) (sym own) ∙ pass_decides now o caps es (f ++ ranked) up to_ranked))

  passed_same : IsPermutation decided (f ++ passed)
  passed_same =
      subst (λ (ys : List Entry). IsPermutation decided ys)
      (ap (entries_passed now caps 0) own ∙ (order_over now caps 0 f ranked runs ∙ ap (λ n. f ++ entries_passed now caps n ranked) (zero-add (taken f))))
      (pass_keeps now o caps es (f ++ ranked) up to_ranked)

  pub after_same : IsPermutation decided (f ++ after)
  after_same = IsPermutation-trans decided (f ++ passed) (f ++ after) passed_same (IsPermutation-append_right f passed after (IsPermutation-ranked now passed))

  decided_different : AreOfDifferentStreams decided
  decided_different = different_from_ascending decided (ascending_after now caps es decided up (decided_decides now o caps es (different_from_ascending es up)))

  passed_different : AreOfDifferentStreams passed
  passed_different = different_right f passed (different_permuted decided (f ++ passed) passed_same decided_different)

  module _ (moments : AllByRecursion (λ x. moment_or now x.since ≤ now) es) where
    after_ahead : IsAhead now f after
    after_ahead =
        let past : AllByRecursion (λ x. moment_or now x.since ≤ now) ranked =
        all_right (λ x. moment_or now x.since ≤ now) f ranked (all_permuted (λ x. moment_or now x.since ≤ now) es (f ++ ranked) to_ranked moments) in
        let behind : AllByRecursion (IsBehind now f) ranked = all_permuted (IsBehind now f) r ranked (IsPermutation-ranked now r) a.behind in
        record {
          lasting = a.lasting;
          behind =
              all_permuted (IsBehind now f) passed after (IsPermutation-ranked now passed)
              (all_passed now caps (λ y. IsBehind now f y × (moment_or now y.since ≤ now)) (IsBehind now f) (taken f) ranked
              (λ y mark h. all_with f h.0 h.0 (λ x k _. behind_decided now x y mark h.1 k))
              (all_with ranked behind past (λ y h k. (h, k))));
        }

    pub ordered_over : (n : ℕ) (front t : Totals) → n ≡ length f + settled_front after → front ≡ totals_of now f
        → t ≡ together front (totals_of now after) → IsOrdered now (record { settled = n; totals = t }) decided (f ++ after)
    ordered_over n front t e k l = record {
      same = after_same;
      settled = ahead_settled now (settled_front after) n f after after_ahead (settled_short after) (ranked_settled now after (ranked_is_ranked now o passed passed_different)) e;
      totals = l ∙ (ap (λ g. together g (totals_of now after)) k ∙ (sym (totals-join now f after) ∙ totals-permuted now decided (f ++ after) after_same));
    }
