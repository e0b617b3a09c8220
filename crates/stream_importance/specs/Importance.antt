-- Which of two entries of a port is more important. The rank is that of a stream's PriorityAndRank
-- (IEEE Std 802.1Q-2018, 35.2.2.8.5). That class A goes before class B, and the earlier booking
-- before the later, is this project's own rule.
use Rattle.std.specs.Prelude.{◌≢◌, ◌⊎◌, ℕ, Bool, IsTrue, Option, Some, None}
use Rattle.std.specs.{declared.cmp.Ordering.Ordering, Ordering.nat_cmp, Ordering.ordering_then, Ordering.is_lt, Cmp.IsStrictWeakOrder}
use Rattle.srp_base.specs.declared.{numbers.Cs.Cs, bandwidth.Class.Class, bandwidth.Class.TheVariants.A, bandwidth.Class.TheVariants.B, bandwidth.Rank.Rank, bandwidth.Rank.TheVariants.Emergency, bandwidth.Rank.TheVariants.Normal}
use Rattle.stream_importance.specs.declared.entry.Entry.{Entry}

-- class A is decided before class B, which is this project's own rule
abbrev pub class_number : Class → ℕ
class_number A = 0
class_number B = 1

-- the rank as a stream's PriorityAndRank carries it (35.2.2.8.5): 0 is emergency traffic
abbrev pub rank_number : Rank → ℕ
rank_number Emergency = 0
rank_number Normal = 1

-- the moment of booking in cs, where none counts as now; that age counts is this project's own rule
abbrev pub moment_or : ℕ → Option Cs → ℕ
moment_or now None = now
moment_or now (Some moment) = moment.0

-- two entries compared by their class, then their rank, then their moment of booking, then their
-- StreamID
abbrev pub compare_importance : ℕ → Entry → Entry → Ordering
compare_importance now x y =
    ordering_then (nat_cmp (class_number x.want.class) (class_number y.want.class))
    (ordering_then (nat_cmp (rank_number x.want.rank) (rank_number y.want.rank))
    (ordering_then (nat_cmp (moment_or now x.since) (moment_or now y.since))
    (nat_cmp x.want.stream.0 y.want.stream.0)))

-- more important is the one that comes first
abbrev pub is_more_important : ℕ → Entry → Entry → Bool
is_more_important now x y = is_lt (compare_importance now x y)

-- at a moment, more important is a strict order in which entries of different streams compare, and
-- it ranks all entries, as a sort asks
pub record IsImportanceOrder (now : ℕ) : Type 0 where
  -- of two entries at most one is more important than the other
  pub strict : (x y : Entry) → IsTrue (is_more_important now x y) → IsTrue (is_more_important now y x) → ⊥
  -- of two entries of different streams one is
  pub total : (x y : Entry) → x.want.stream.0 ≢ y.want.stream.0
      → IsTrue (is_more_important now x y) ⊎ IsTrue (is_more_important now y x)
  -- what is more important than a more important entry is more important
  pub transitive : (x y z : Entry) → IsTrue (is_more_important now x y) → IsTrue (is_more_important now y z)
      → IsTrue (is_more_important now x z)
  -- entries of which neither is more important than the other are alike beside every third
  pub ranks : IsStrictWeakOrder (is_more_important now)
