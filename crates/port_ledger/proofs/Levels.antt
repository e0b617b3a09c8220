-- The level of an entry, its class and rank, and what of an order lasts: what time does to a pair of entries.
use Rattle.std.proofs.Common.{◌≡◌, ◌⊎◌, ℕ, ◌+◌, ◌<◌, ◌≤◌, Bool, true, false, not, ◌&&◌, ◌||◌, ◌==◌, Option, Some, None, is_some, refl, sym, ◌∙◌, ap, arith, inl, inr, true≢false}
use Rattle.std.specs.{declared.cmp.Ordering.Ordering, Ordering.nat_cmp, Ordering.is_lt, Ordering.ordering_then}
use Rattle.std.proofs.lemmas.Bool.{and_from, and_parts, cases_Bool, cases_lt, cases_order, eq-eqb, eqb-true, not_from_false, or_left, or_right}
use Rattle.srp_base.proofs.{Bools.held_from, Arithmetic.less_is_below, Arithmetic.same_is_equal}
use Rattle.srp_base.specs.declared.{bandwidth.Rank.Rank, numbers.Cs.Cs}
use Rattle.stream_importance.specs.declared.{entry.Entry.Entry, entry.Want.Want}
use Rattle.stream_importance.specs.Importance.{class_number, rank_number, moment_or, is_more_important, IsImportanceOrder}
use Rattle.port_ledger.specs.{stream_of, comes_after, is_booked, since_after, is_prior, is_prior_to, same_level, stays_after, stays_behind}
use Rattle.port_ledger.proofs.Standing.{above_is_greater, still_first}

-- ---- the level as a number: the lower goes first

abbrev pub level : Entry → ℕ
level x = class_number x.want.class + class_number x.want.class + rank_number x.want.rank

rank_small : (r : Rank) → rank_number r ≤ 1
rank_small r = grind arith

less_or : (a b : ℕ) (rest : Ordering) → is_lt (ordering_then (nat_cmp a b) rest) ≡ true → (a < b) ⊎ ((a ≡ b) × (is_lt rest ≡ true))
less_or a b rest h =
    elim (cases_order a b) [
      | inl e ↦ inr (e, sym (ap (λ o. is_lt (ordering_then o rest)) (same_is_equal a b e)) ∙ h)
      | inr c ↦ elim c [
        | inl l ↦ inl l
        | inr g ↦ absurd (true≢false (sym h ∙ ap (λ o. is_lt (ordering_then o rest)) (above_is_greater a b g)))
      ]
    ]

pub level_up : (now : ℕ) (x y : Entry) → is_more_important now x y ≡ true → level x ≤ level y
level_up now x y h = grind (arith, rank_small)

pub level_first : (now : ℕ) (x y : Entry) → level x < level y → is_more_important now x y ≡ true
level_first now x y l = grind (arith, rank_small, cases_order, same_is_equal, less_is_below)

pub same_is : (x y : Entry) → same_level x y ≡ true → level x ≡ level y
same_is x y h = grind (arith, and_parts, eqb-true)

pub is_same : (x y : Entry) → level x ≡ level y → same_level x y ≡ true
is_same x y e = grind (arith, rank_small, and_from, eq-eqb)

pub differ : (x y : Entry) → same_level x y ≡ false → level x ≡ level y → ⊥
differ x y h e = true≢false (sym (is_same x y e) ∙ h)

pub not_same : (x y : Entry) → (level x ≡ level y → ⊥) → same_level x y ≡ false
not_same x y ne = elim (cases_Bool (same_level x y)) [ inl h ↦ absurd (ne (same_is x y h)) | inr h ↦ h ]

-- an entry that another comes after is of no lower level, and of a higher one where the levels differ
pub comes_parts : (now : ℕ) (x y : Entry) → comes_after now y x ≡ true → (not (stream_of x == stream_of y) ≡ true) × (is_more_important now x y ≡ true)
comes_parts now x y h = and_parts (not (stream_of x == stream_of y)) (is_more_important now x y) h

pub comes_level : (now : ℕ) (x y : Entry) → comes_after now y x ≡ true → level x ≤ level y
comes_level now x y h = level_up now x y (comes_parts now x y h).1

pub below_from : (m n : ℕ) → m ≤ n → (m ≡ n → ⊥) → m < n
below_from m n le ne = elim (cases_lt m n) [ inl l ↦ l | inr g ↦ (let same : m ≡ n = omega (arith, le, g) in absurd (ne same)) ]

level_stays : (now later : ℕ) (x y : Entry) → comes_after now y x ≡ true → same_level x y ≡ false → comes_after later y x ≡ true
level_stays now later x y h k = grind (arith, and_from, level_first, below_from, comes_level)

-- ---- a booked entry that goes before another goes on doing so

stays_by : (now later : ℕ) (x y : Want) (mine other : Option Cs) → is_some mine ≡ true → now ≤ later
    → comes_after now (record { want = y; since = other }) (record { want = x; since = mine }) ≡ true
    → comes_after later (record { want = y; since = other }) (record { want = x; since = mine }) ≡ true
stays_by now later x y None other b up h = cc
stays_by now later x y (Some c) (Some d) b up h = h
stays_by now later x y (Some c) None b up h = grind (arith, and_parts, and_from, still_first)

stays : (now later : ℕ) (x y : Entry) → is_booked x ≡ true → now ≤ later → comes_after now y x ≡ true → comes_after later y x ≡ true
stays now later x y b up h = stays_by now later x.want y.want x.since y.since b up h

-- of two entries that aren't booked the same goes before the other at every moment
wait_by : (now later : ℕ) (x y : Want) (mine other : Option Cs) → is_some mine ≡ false → is_some other ≡ false
    → comes_after now (record { want = y; since = other }) (record { want = x; since = mine }) ≡ true
    → comes_after later (record { want = y; since = other }) (record { want = x; since = mine }) ≡ true
wait_by now later x y mine other h1 h2 h3 = grind (arith, same_is_equal)

waits : (now later : ℕ) (x y : Entry) → is_booked x ≡ false → is_booked y ≡ false → comes_after now y x ≡ true → comes_after later y x ≡ true
waits now later x y a b h = wait_by now later x.want y.want x.since y.since a b h

-- what is decided anew doesn't come before what went before it
sinks : (now : ℕ) (x y : Entry) (mark : Bool) → moment_or now y.since ≤ now → comes_after now y x ≡ true
    → comes_after now (record y { since = since_after now y.since mark }) x ≡ true
sinks now x y true past h = h
sinks now x y false past h =
    let parts = comes_parts now x y h in
    and_from (not (stream_of x == stream_of y)) (is_more_important now x (record y { since = None })) parts.0
    (still_first (nat_cmp (class_number x.want.class) (class_number y.want.class)) (nat_cmp (rank_number x.want.rank) (rank_number y.want.rank)) (nat_cmp (stream_of x) (stream_of y))
    (moment_or now x.since) (moment_or now y.since) now past parts.1)

-- ---- pairs of which one stays after the other

free_of : (b v : Bool) → b ≡ false → (b || v) ≡ true → v ≡ true
free_of b v h1 h2 = grind arith

weaker : (b k s : Bool) → (b || not s) ≡ true → (b || not (k && s)) ≡ true
weaker b k s h1 = grind arith

pub after_parts : (now : ℕ) (x y : Entry) → stays_after now y x ≡ true → (comes_after now y x ≡ true) × ((is_booked x || not (is_booked y && same_level x y)) ≡ true)
after_parts now x y h = and_parts (comes_after now y x) (is_booked x || not (is_booked y && same_level x y)) h

pub behind_parts : (now : ℕ) (x y : Entry) → stays_behind now y x ≡ true → (comes_after now y x ≡ true) × ((is_booked x || not (same_level x y)) ≡ true)
behind_parts now x y h = and_parts (comes_after now y x) (is_booked x || not (same_level x y)) h

pub after_behind : (now : ℕ) (x y : Entry) → stays_behind now y x ≡ true → stays_after now y x ≡ true
after_behind now x y h = grind (arith, and_from, weaker)

pub behind_later : (now later : ℕ) (x y : Entry) → now ≤ later → stays_behind now y x ≡ true → stays_behind later y x ≡ true
behind_later now later x y up h =
    let parts = behind_parts now x y h in
    and_from (comes_after later y x) (is_booked x || not (same_level x y))
    (elim (cases_Bool (is_booked x)) [
      | inl b ↦ stays now later x y b up parts.0
      | inr b ↦ level_stays now later x y parts.0 (held_from (same_level x y) (free_of (is_booked x) (not (same_level x y)) b parts.1))
    ])
    parts.1

pub after_later : (now later : ℕ) (x y : Entry) → now ≤ later → stays_after now y x ≡ true → stays_after later y x ≡ true
after_later now later x y up h =
    let parts = after_parts now x y h in
    and_from (comes_after later y x) (is_booked x || not (is_booked y && same_level x y))
    (elim (cases_Bool (is_booked x)) [
      | inl b ↦ stays now later x y b up parts.0
      | inr b ↦ (
          let held : (is_booked y && same_level x y) ≡ false = held_from (is_booked y && same_level x y) (free_of (is_booked x) (not (is_booked y && same_level x y)) b parts.1) in
          elim (cases_Bool (is_booked y)) [
            | inl k ↦ level_stays now later x y parts.0 (sym (ap (λ v. v && same_level x y) k) ∙ held)
            | inr k ↦ waits now later x y b k parts.0
          ])
    ])
    parts.1

pub behind_decided : (now : ℕ) (x y : Entry) (mark : Bool) → moment_or now y.since ≤ now → stays_behind now y x ≡ true
    → stays_behind now (record y { since = since_after now y.since mark }) x ≡ true
behind_decided now x y mark past h = grind (arith, and_from, sinks)

-- ---- what goes before an entry that is booked anew

prior_parts : (now : ℕ) (x y : Entry) → is_prior now x y ≡ true → (is_more_important now y x ≡ true) × ((is_booked y || not (same_level y x)) ≡ true)
prior_parts now x y h = and_parts (is_more_important now y x) (is_booked y || not (same_level y x)) h

pub prior_back : (now : ℕ) (o : IsImportanceOrder now) (c : Option Entry) (y z : Entry) → stays_after now z y ≡ true → is_prior_to now c z ≡ true → is_prior_to now c y ≡ true
prior_back now o None y z s h = refl
prior_back now o (Some x) y z s h =
    let after = after_parts now y z s in
    let prior = prior_parts now x z h in
    let first = comes_parts now y z after.0 in
    and_from (is_more_important now y x) (is_booked y || not (same_level y x)) (o.transitive y z x first.1 prior.0)
    (elim (cases_Bool (is_booked y)) [
      | inl b ↦ or_left (is_booked y) (not (same_level y x)) b
      | inr b ↦ or_right (is_booked y) (not (same_level y x))
          (not_from_false (same_level y x)
          (not_same y x
          (λ e. let up = level_up now y z first.1 in
          let on = level_up now z x prior.0 in
          let one : level y ≡ level z = omega (arith, e, up, on) in
          let two : level z ≡ level x = omega (arith, e, up, on) in
          let held : (is_booked z && same_level y z) ≡ false = held_from (is_booked z && same_level y z) (free_of (is_booked y) (not (is_booked z && same_level y z)) b after.1) in
          elim (cases_Bool (is_booked z)) [
            | inl k ↦ true≢false (sym (is_same y z one) ∙ (sym (ap (λ v. v && same_level y z) k) ∙ held))
            | inr k ↦ true≢false (sym (is_same z x two) ∙ held_from (same_level z x) (free_of (is_booked z) (not (same_level z x)) k prior.1))
          ])))
    ])

pub prior_beyond : (now : ℕ) (c : Option Entry) (y z : Entry) → stays_after now z y ≡ true → is_prior_to now c y ≡ true → is_prior_to now c z ≡ false → stays_behind now z y ≡ true
prior_beyond now None y z s h k = cc
prior_beyond now (Some x) y z s h k =
    let after = after_parts now y z s in
    let prior = prior_parts now x y h in
    and_from (comes_after now z y) (is_booked y || not (same_level y z)) after.0
    (elim (cases_Bool (is_booked y)) [
      | inl b ↦ or_left (is_booked y) (not (same_level y z)) b
      | inr b ↦ or_right (is_booked y) (not (same_level y z))
          (not_from_false (same_level y z)
          (not_same y z
          (λ e. let ne = differ y x (held_from (same_level y x) (free_of (is_booked y) (not (same_level y x)) b prior.1)) in
          let l : level z < level x = (let m = below_from (level y) (level x) (level_up now y x prior.0) ne in omega (arith, e, m)) in
          let itself : is_prior now x z ≡ true =
          and_from (is_more_important now z x) (is_booked z || not (same_level z x)) (level_first now z x l)
          (or_right (is_booked z) (not (same_level z x)) (not_from_false (same_level z x) (not_same z x (λ f. absurd (omega (arith, f, l)))))) in
          true≢false (sym itself ∙ k))))
    ])
