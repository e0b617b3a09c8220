-- Importance is a strict order in which entries of different streams compare.
use Rattle.std.proofs.Common.{◌≡◌, ◌≢◌, ◌⊎◌, ℕ, IsTrue, inl, inr, sym, refl, ap, ◌∙◌}
use Rattle.std.specs.{declared.cmp.Ordering.Ordering, declared.cmp.Ordering.TheVariants.Less, declared.cmp.Ordering.TheVariants.Equal, declared.cmp.Ordering.TheVariants.Greater, Ordering.nat_cmp, Ordering.is_lt, Ordering.ordering_then, Ordering.ordering_reverse, Cmp.IsTotalOrder}
use Rattle.std.proofs.lemmas.{Cmp.then_total, Cmp.on_total, Cmp.nat_cmp_total, List.Sorted.ranks_by}
use Rattle.srp_base.proofs.Arithmetic.{same_number}
use Rattle.stream_importance.specs.{Entry, class_number, rank_number, moment_or, compare_importance, is_more_important, IsImportanceOrder}

comparison_is_total_order : (now : ℕ) → IsTotalOrder (compare_importance now)
comparison_is_total_order now =
    then_total (on_total (λ (e : Entry). class_number e.want.class) nat_cmp_total)
    (then_total (on_total (λ (e : Entry). rank_number e.want.rank) nat_cmp_total)
    (then_total (on_total (λ (e : Entry). moment_or now e.since) nat_cmp_total)
    (on_total (λ (e : Entry). e.want.stream.0) nat_cmp_total)))

-- what a test of an answer tells
is_less : (o : Ordering) → IsTrue (is_lt o) → o ≡ Less
is_less Less h = refl
is_less Equal h = cc
is_less Greater h = cc

less_is : (o : Ordering) → o ≡ Less → IsTrue (is_lt o)
less_is Less h = refl
less_is Equal h = cc
less_is Greater h = cc

last_equal : (a b : Ordering) → ordering_then a b ≡ Equal → b ≡ Equal
last_equal Less b h = cc
last_equal Equal b h = h
last_equal Greater b h = cc

importance_strict : (now : ℕ) (x y : Entry) → IsTrue (is_more_important now x y)
    → IsTrue (is_more_important now y x) → ⊥
importance_strict now x y h k =
    let o : IsTotalOrder (compare_importance now) = comparison_is_total_order now in
    let e : compare_importance now x y ≡ Less = is_less (compare_importance now x y) h in
    let f : compare_importance now y x ≡ Less = is_less (compare_importance now y x) k in
    let r : Less ≡ Greater = sym e ∙ (o.antisymm x y ∙ ap ordering_reverse f) in
    cc

importance_transitive : (now : ℕ) (x y z : Entry) → IsTrue (is_more_important now x y)
    → IsTrue (is_more_important now y z) → IsTrue (is_more_important now x z)
importance_transitive now x y z h k =
    let o : IsTotalOrder (compare_importance now) = comparison_is_total_order now in
    less_is (compare_importance now x z)
    (o.trans x y z (is_less (compare_importance now x y) h) (is_less (compare_importance now y z) k))

-- where two entries compare as equal their StreamIDs are equal
equal_streams : (now : ℕ) (x y : Entry) → compare_importance now x y ≡ Equal → x.want.stream.0 ≡ y.want.stream.0
equal_streams now x y h =
    same_number x.want.stream.0 y.want.stream.0
    (last_equal (nat_cmp (moment_or now x.since) (moment_or now y.since)) _
    (last_equal (nat_cmp (rank_number x.want.rank) (rank_number y.want.rank)) _
    (last_equal (nat_cmp (class_number x.want.class) (class_number y.want.class)) _ h)))

either_way : (now : ℕ) (x y : Entry) (o : Ordering) → compare_importance now x y ≡ o
    → x.want.stream.0 ≢ y.want.stream.0
    → IsTrue (is_more_important now x y) ⊎ IsTrue (is_more_important now y x)
either_way now x y Less h ne = inl (less_is (compare_importance now x y) h)
either_way now x y Equal h ne = absurd (ne (equal_streams now x y h))
either_way now x y Greater h ne =
    let o : IsTotalOrder (compare_importance now) = comparison_is_total_order now in
    inr (less_is (compare_importance now y x) (o.antisymm y x ∙ ap ordering_reverse h))

importance_compares : (now : ℕ) (x y : Entry) → x.want.stream.0 ≢ y.want.stream.0
    → IsTrue (is_more_important now x y) ⊎ IsTrue (is_more_important now y x)
importance_compares now x y ne = either_way now x y (compare_importance now x y) refl ne

pub importance_order : (now : ℕ) → IsImportanceOrder now
importance_order now = record {
  strict = importance_strict now;
  total = importance_compares now;
  transitive = importance_transitive now;
  ranks = ranks_by (comparison_is_total_order now) (λ (x : Entry). x);
}
