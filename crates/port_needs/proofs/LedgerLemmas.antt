-- A ledger whose caps suffice for all that is wished has no entry that doesn't fit.
use Rattle.std.proofs.Common.{◌≡◌, ◌≢◌, ℕ, ◌+◌, ◌<◌, ◌≤◌, Bool, true, false, not, ◌==◌, List, [], ◌∷◌, sum_by, Option, Some, if◌then◌else◌, refl, sym, ap, subst, ◌∙◌, inl, inr, arith}
use Rattle.std.specs.Prelude.{filter, option_map, IfSome}
use Rattle.std.specs.{declared.cmp.Ordering.Ordering, Ordering.nat_cmp, Ordering.is_lt, Ordering.ordering_then, List.AllByRecursion}
use Rattle.std.proofs.lemmas.{Bool.and_parts, Bool.eq-eqb, Bool.le-leb, Bool.true≢false, Bool.not-true, Bool.ne_eqb, Bool.cond-true, List.Sums.sum_by-cons}
use Rattle.srp_base.proofs.Lists.{each_filter, Each-map}
use Rattle.srp_base.specs.declared.{bandwidth.Class.Class, bandwidth.Class.TheVariants.A, bandwidth.Class.TheVariants.B}
use Rattle.stream_importance.specs.declared.{entry.Entry.Entry, entry.Fit.TheVariants.Fits, entry.Want.Want, slope.Caps.Caps}
use Rattle.stream_importance.specs.{Bandwidth.cap_of, Importance.class_number}
use Rattle.port_ledger.specs.Decision.{above, AreOfDifferentStreams, booked_of, comes_after, does_fit, entry_slope, is_booked, IsAscending, stream_of}
use Rattle.port_ledger.specs.Book.{Book, entry_of, fit_for, tested_entry}
use Rattle.topology_file.specs.declared.entries.LinkEntry.{LinkEntry}
use Rattle.topology_file.specs.Plan.{Plan}
use Rattle.srp_base.specs.declared.{numbers.EgressPort.EgressPort, numbers.StreamId.StreamId}
use Rattle.scenario_bounds.specs.Caps.{caps_of_link}
use Rattle.port_needs.specs.declared.demand.Wish.{Wish}
use Rattle.port_needs.specs.{is_enough, is_of_class_a, slope_of_a, slope_of_all, wants_at, IsAmong, IsLargeEnough, IsLedgerOf}
use Rattle.port_needs.proofs.ShareLemmas.{enough_parts}

-- ---- sums of some wants

-- a want that is taken out of a list leaves the others
pulled : (w : Want) (ws : List Want) → IsAmong w ws
    → (rest : List Want) × (slope_of_all ws ≡ w.slope + slope_of_all rest) × ((v : Want) → IsAmong v ws → (v ≡ w → ⊥) → IsAmong v rest)
pulled w [] h = absurd h
pulled w (u ∷ us) (inl e) = (
  us,
  sum_by-cons (λ (x : Want). x.slope) u us ∙ ap (λ (x : Want). x.slope + slope_of_all us) e,
  λ v among apart. elim among [ inl g ↦ absurd (apart (sym g ∙ e)) | inr g ↦ g ],
)
pulled w (u ∷ us) (inr h) =
    let r = pulled w us h in
    let sum : slope_of_all (u ∷ us) ≡ w.slope + slope_of_all (u ∷ r.0) =
    omega (arith, sum_by-cons (λ (x : Want). x.slope) u us, sum_by-cons (λ (x : Want). x.slope) u r.0, r.1) in
    (u ∷ r.0, sum, λ v among apart. elim among [ inl g ↦ inl g | inr g ↦ inr (r.2 v g apart) ])

-- entries of other streams than x are among the rest
others_left : (x : Entry) (xs : List Entry) (ws rest : List Want) → AllByRecursion (λ y. stream_of x ≢ stream_of y) xs
    → AllByRecursion (λ y. IsAmong y.want ws) xs → ((v : Want) → IsAmong v ws → (v ≡ x.want → ⊥) → IsAmong v rest)
    → AllByRecursion (λ y. IsAmong y.want rest) xs
others_left x [] ws rest apart among keeps = tt
others_left x (y ∷ ys) ws rest apart among keeps = (
  keeps y.want among.0 (λ e. apart.0 (ap (λ (w : Want). w.stream.0) (sym e))),
  others_left x ys ws rest apart.1 among.1 keeps,
)

-- entries of different streams that are among some wants take no more than these
pub sums_within : (xs : List Entry) (ws : List Want) → AreOfDifferentStreams xs → AllByRecursion (λ x. IsAmong x.want ws) xs
    → sum_by entry_slope xs ≤ slope_of_all ws
sums_within [] ws apart among = omega arith
sums_within (x ∷ xs) ws apart among =
    let r = pulled x.want ws among.0 in
    let rest = sums_within xs r.0 apart.1 (others_left x xs ws r.0 apart.0 among.1 r.2) in
    omega (arith, sum_by-cons entry_slope x xs, r.1, rest)

-- ---- those of class A

among_a : (w : Want) (ws : List Want) → IsAmong w ws → is_of_class_a w ≡ true → IsAmong w (filter is_of_class_a ws)
among_a w [] h a = absurd h
among_a w (u ∷ us) h a = by (is_of_class_a u) refl h (λ k. among_a w us k a)
  where
    by : (t : Bool) → is_of_class_a u ≡ t → IsAmong w (u ∷ us) → (IsAmong w us → IsAmong w (filter is_of_class_a us))
        → IsAmong w (if t then u ∷ filter is_of_class_a us else filter is_of_class_a us)
    by true is (inl e) later = inl e
    by true is (inr k) later = inr (later k)
    by false is (inl e) later = absurd (true≢false (sym (ap is_of_class_a e ∙ a) ∙ is))
    by false is (inr k) later = later k

pub each_among_a : (xs : List Entry) (ws : List Want) → AllByRecursion (λ x. IsAmong x.want ws) xs
    → AllByRecursion (λ x. is_of_class_a x.want ≡ true) xs → AllByRecursion (λ x. IsAmong x.want (filter is_of_class_a ws)) xs
each_among_a [] ws among a = tt
each_among_a (x ∷ xs) ws among a = (among_a x.want ws among.0 a.0, each_among_a xs ws among.1 a.1)

-- ---- what comes first

-- what is more important than an entry of class A is of class A
first_class : (c d : Class) (rest : Ordering) → is_lt (ordering_then (nat_cmp (class_number c) (class_number d)) rest) ≡ true
    → (class_number d == 0) ≡ true → (class_number c == 0) ≡ true
first_class A d rest h a = refl
first_class B A rest h a = cc
first_class B B rest h a = cc

-- an entry that another comes after is of another stream
apart_first : (now : ℕ) (x y : Entry) → comes_after now x y ≡ true → stream_of x ≢ stream_of y
apart_first now x y h e =
    let other = not-true (stream_of y == stream_of x) (and_parts (not (stream_of y == stream_of x)) _ h).0 in
    true≢false (sym (eq-eqb (stream_of y) (stream_of x) (sym e)) ∙ other)

-- what a filter keeps passes its test
pub kept_pass : (test : Entry → Bool) (xs : List Entry) → AllByRecursion (λ y. test y ≡ true) (filter test xs)
kept_pass test [] = tt
kept_pass test (x ∷ xs) = by (test x) refl (kept_pass test xs)
  where
    by : (t : Bool) → test x ≡ t → AllByRecursion (λ y. test y ≡ true) (filter test xs)
        → AllByRecursion (λ y. test y ≡ true) (if t then x ∷ filter test xs else filter test xs)
    by true is later = (is, later)
    by false is later = later

pub different_kept : (test : Entry → Bool) (xs : List Entry) → AreOfDifferentStreams xs → AreOfDifferentStreams (filter test xs)
different_kept test [] apart = tt
different_kept test (x ∷ xs) apart = by (test x) (different_kept test xs apart.1)
  where
    by : (t : Bool) → AreOfDifferentStreams (filter test xs) → AreOfDifferentStreams (if t then x ∷ filter test xs else filter test xs)
    by true later = (each_filter (λ y. stream_of x ≢ stream_of y) test xs apart.0, later)
    by false later = later

pub different_ascending : (xs : List Entry) → IsAscending xs → AreOfDifferentStreams xs
different_ascending [] up = tt
different_ascending (x ∷ xs) up =
    (Each-map (λ y. stream_of x < stream_of y) (λ y. stream_of x ≢ stream_of y) (λ y less e. omega (arith, less, e)) xs up.0, different_ascending xs up.1)

-- an entry behind one of another stream is found as without that
found_behind : (x : Entry) (xs those : List Entry) → AllByRecursion (λ y. stream_of x < stream_of y) those
    → AllByRecursion (λ y. entry_of xs y.want.stream ≡ Some y) those → AllByRecursion (λ y. entry_of (x ∷ xs) y.want.stream ≡ Some y) those
found_behind x xs [] up found = tt
found_behind x xs (y ∷ ys) up found = (
  rw (ne_eqb (stream_of x) (stream_of y) (λ e. omega (arith, up.0, e))) found.0,
  found_behind x xs ys up.1 found.1,
)

-- each entry is that of its stream
pub each_found : (xs : List Entry) → IsAscending xs → AllByRecursion (λ x. entry_of xs x.want.stream ≡ Some x) xs
each_found [] up = tt
each_found (x ∷ xs) up = (
  rw (eq-eqb (stream_of x) (stream_of x) refl) refl,
  found_behind x xs xs up.0 (each_found xs up.1),
)

-- ---- all fit

module _ (now : ℕ) (caps : Caps) (ws : List Want) (set : List Entry) (x : Entry) (apart : AreOfDifferentStreams set)
    (wished : AllByRecursion (λ y. IsAmong y.want ws) set) (among : IsAmong x.want ws)
    (enough : is_enough caps (slope_of_a ws) (slope_of_all ws) ≡ true) where
  abbrev first : List Entry
  first = filter (comes_after now x) set

  apart_all : AreOfDifferentStreams (x ∷ first)
  apart_all = (
    Each-map (λ y. comes_after now x y ≡ true) (λ y. stream_of x ≢ stream_of y) (apart_first now x) first (kept_pass (comes_after now x) set),
    different_kept (comes_after now x) set apart,
  )

  wished_all : AllByRecursion (λ y. IsAmong y.want ws) (x ∷ first)
  wished_all = (among, each_filter (λ y. IsAmong y.want ws) (comes_after now x) set wished)

  whole : above now x set + entry_slope x ≡ sum_by entry_slope (x ∷ first)
  whole = omega (arith, sum_by-cons entry_slope x first)

  within_both : above now x set + entry_slope x ≤ caps.both
  within_both = omega (arith, whole, sums_within (x ∷ first) ws apart_all wished_all, (enough_parts caps (slope_of_a ws) (slope_of_all ws) enough).1)

  within_a : is_of_class_a x.want ≡ true → above now x set + entry_slope x ≤ caps.class_a
  within_a a =
      let of_a : AllByRecursion (λ y. is_of_class_a y.want ≡ true) first =
      Each-map (λ y. comes_after now x y ≡ true) (λ y. is_of_class_a y.want ≡ true)
      (λ y h. first_class y.want.class x.want.class _ (and_parts (not (stream_of y == stream_of x)) _ h).1 a) first (kept_pass (comes_after now x) set) in
      omega (
        arith,
        whole,
        sums_within (x ∷ first) (filter is_of_class_a ws) apart_all (each_among_a (x ∷ first) ws wished_all (a, of_a)),
        (enough_parts caps (slope_of_a ws) (slope_of_all ws) enough).0,
      )

  pub all_fit : does_fit now caps set x ≡ true
  all_fit = by x.want.class refl
    where
      by : (c : Class) → x.want.class ≡ c → does_fit now caps set x ≡ true
      by A is = le-leb _ _ (subst (λ (c : Class). above now x set + entry_slope x ≤ cap_of caps c) (sym is) (within_a (ap (λ (c : Class). class_number c == 0) is)))
      by B is = le-leb _ _ (subst (λ (c : Class). above now x set + entry_slope x ≤ cap_of caps c) (sym is) within_both)

-- ---- at a port

-- what a port's caps suffice for
caps_suffice : (plan : Plan) (wishes : List Wish) (p : EgressPort) (link : LinkEntry) (book : Book) → IsLargeEnough plan wishes p
    → IsLedgerOf plan wishes p link book → is_enough book.caps (slope_of_a (wants_at plan wishes p)) (slope_of_all (wants_at plan wishes p)) ≡ true
caps_suffice plan wishes p link book large of =
    let ws = wants_at plan wishes p in
    ap (λ (caps : Caps). is_enough caps (slope_of_a ws) (slope_of_all ws)) of.caps
    ∙ subst (λ (o : Option LinkEntry). IfSome o (λ l. is_enough (caps_of_link l) (slope_of_a ws) (slope_of_all ws) ≡ true)) of.link_is large

module _ (plan : Plan) (wishes : List Wish) (p : EgressPort) (link : LinkEntry) (book : Book) (large : IsLargeEnough plan wishes p)
    (of : IsLedgerOf plan wishes p link book) where
  abbrev ws : List Want
  ws = wants_at plan wishes p

  each_wished : AllByRecursion (λ x. IsAmong x.want ws) book.entries
  each_wished = each book.entries (each_found book.entries of.kept.ascending)
    where
      each : (xs : List Entry) → AllByRecursion (λ x. entry_of book.entries x.want.stream ≡ Some x) xs → AllByRecursion (λ x. IsAmong x.want ws) xs
      each [] found = tt
      each (x ∷ xs) found = (of.wished x.want (ap (option_map (λ (y : Entry). y.want)) found.0), each xs found.1)

  -- whatever is wished there fits beside what is booked
  pub fits_there : (now : ℕ) (x : Entry) → IsAmong x.want ws → does_fit now book.caps (booked_of book.entries) x ≡ true
  fits_there now x among =
      all_fit now book.caps ws (booked_of book.entries) x
      (different_kept is_booked book.entries (different_ascending book.entries of.kept.ascending))
      (each_filter (λ y. IsAmong y.want ws) is_booked book.entries each_wished) among (caps_suffice plan wishes p link book large of)

  pub want_fits : (now : ℕ) (want : Want) → IsAmong want ws → fit_for now book want ≡ Fits
  want_fits now want among = cond-true (does_fit now book.caps (booked_of book.entries) (tested_entry book.entries want)) Fits _ (fits_there now (tested_entry book.entries want) among)

  -- so each entry is booked, where a booking is what fits
  pub all_booked : ((s : StreamId) → IfSome (entry_of book.entries s) (λ x. is_booked x ≡ does_fit book.moment book.caps (booked_of book.entries) x))
      → AllByRecursion (λ x. is_booked x ≡ true) book.entries
  all_booked decided = each book.entries (each_found book.entries of.kept.ascending) each_wished
    where
      each : (xs : List Entry) → AllByRecursion (λ x. entry_of book.entries x.want.stream ≡ Some x) xs → AllByRecursion (λ x. IsAmong x.want ws) xs
          → AllByRecursion (λ x. is_booked x ≡ true) xs
      each [] found among = tt
      each (x ∷ xs) found among = (
        subst (λ (o : Option Entry). IfSome o (λ y. is_booked y ≡ does_fit book.moment book.caps (booked_of book.entries) y)) found.0 (decided x.want.stream)
            ∙ fits_there book.moment x among.0,
        each xs found.1 among.1,
      )
