-- A port whose ledger has booked all that is wished there is large enough for it.
use Rattle.std.proofs.Common.{◌≡◌, ◌≢◌, ℕ, suc, ◌+◌, ◌≤◌, Bool, true, false, ◌==◌, List, [], ◌∷◌, ◌++◌, sum_by, Option, Some, None, if◌then◌else◌, map, refl, sym, ap, subst, ◌∙◌, inl, inr, arith}
use Rattle.std.specs.Prelude.{AllPairs, filter, option_map, option_and_then, nat_le, IfSome, IsSome}
use Rattle.std.specs.List.{AllByRecursion}
use Rattle.std.proofs.lemmas.{Bool.and_from, Bool.le-leb, Option.same_Some, List.Sums.sum_by-cons}
use Rattle.srp_base.proofs.Lists.{all_each, each_append, each_filter}
use Rattle.srp_base.specs.declared.{bandwidth.Class.Class, bandwidth.Class.TheVariants.A, bandwidth.Class.TheVariants.B, numbers.EgressPort.EgressPort}
use Rattle.stream_importance.specs.declared.{entry.Entry.Entry, entry.Want.Want, slope.Caps.Caps}
use Rattle.stream_importance.specs.Importance.{class_number}
use Rattle.port_ledger.specs.Decision.{AreOfDifferentStreams, booked_of, entry_slope, is_booked, stream_of}
use Rattle.port_ledger.specs.Book.{Book, booked_slope, entry_of, since_of, unbooked_entry, want_of}
use Rattle.topology_file.specs.declared.{entries.LinkEntry.LinkEntry, entries.StreamEntry.StreamEntry}
use Rattle.topology_file.specs.{Plan.Plan, Scenario.KeepsRules}
use Rattle.tree_topology.specs.Topology.{link_ports}
use Rattle.scenario_bounds.specs.Caps.{caps_of_link}
use Rattle.port_needs.specs.declared.demand.Wish.{Wish}
use Rattle.port_needs.specs.{class_of_entry, demand_in, is_asked_at, is_enough, is_of_class_a, slope_of_a, slope_of_all, stations_of, want_of_entry, wants_at, IsAmong, IsBookedIn, IsFullLedgerOf, IsLargeEnough}
use Rattle.port_needs.proofs.AskedLemmas.{own, split, wants_from}
use Rattle.port_needs.proofs.LedgerLemmas.{different_kept, each_among_a, kept_pass, sums_within}

-- ---- sums

filter-map : {X Y : Type 0} (test : Y → Bool) (f : X → Y) (xs : List X) → filter test (map f xs) ≡ map f (filter (λ x. test (f x)) xs)
filter-map test f [] = refl
filter-map {X} {Y} test f (x ∷ xs) = by (test (f x)) (filter-map test f xs)
  where
    by : (t : Bool) → filter test (map f xs) ≡ map f (filter (λ y. test (f y)) xs)
        → (if t then f x ∷ filter test (map f xs) else filter test (map f xs))
        ≡ map f (if t then x ∷ filter (λ y. test (f y)) xs else filter (λ y. test (f y)) xs)
    by true rest = ap (λ (ys : List Y). f x ∷ ys) rest
    by false rest = rest

-- the wants that entries keep
abbrev wants_of : List Entry → List Want
wants_of xs = map (λ x. x.want) xs

slopes_of : (xs : List Entry) → slope_of_all (wants_of xs) ≡ sum_by entry_slope xs
slopes_of [] = refl
slopes_of (x ∷ xs) = omega (arith, slopes_of xs, sum_by-cons entry_slope x xs, sum_by-cons (λ (w : Want). w.slope) x.want (wants_of xs))

slopes_of_a : (xs : List Entry) → slope_of_a (wants_of xs) ≡ sum_by entry_slope (filter (λ x. is_of_class_a x.want) xs)
slopes_of_a xs = ap slope_of_all (filter-map is_of_class_a (λ (x : Entry). x.want) xs) ∙ slopes_of (filter (λ x. is_of_class_a x.want) xs)

abbrev of_class : Class → List Entry → List Entry
of_class c ys = filter (λ x. class_number x.want.class == class_number c) ys

-- entries are of class A or of class B
both_classes : (xs : List Entry) → sum_by entry_slope xs ≡ sum_by entry_slope (of_class A xs) + sum_by entry_slope (of_class B xs)
both_classes [] = refl
both_classes (x ∷ xs) = by x.want.class (both_classes xs)
  where
    by : (c : Class) → sum_by entry_slope xs ≡ sum_by entry_slope (of_class A xs) + sum_by entry_slope (of_class B xs)
        → sum_by entry_slope (x ∷ xs)
        ≡ sum_by entry_slope (if class_number c == 0 then x ∷ of_class A xs else of_class A xs)
        + sum_by entry_slope (if class_number c == 1 then x ∷ of_class B xs else of_class B xs)
    by A rest = omega (arith, rest, sum_by-cons entry_slope x xs, sum_by-cons entry_slope x (of_class A xs))
    by B rest = omega (arith, rest, sum_by-cons entry_slope x xs, sum_by-cons entry_slope x (of_class B xs))

-- ---- what is wanted is of different streams

abbrev entries_of : List Want → List Entry
entries_of ws = map unbooked_entry ws

module _ (plan : Plan) (wishes : List Wish) (p : EgressPort) where
  abbrev ports : List EgressPort
  ports = link_ports plan.tree

  -- what holds of the ids of streams holds of those of what they want
  each_id : (P : ℕ → Type 0) (n : ℕ) (es : List StreamEntry) → AllByRecursion (λ (e : StreamEntry). P e.id.0) es
      → AllByRecursion (λ w. P w.stream.0) (wants_from plan ports wishes p n es)
  each_id P n [] h = tt
  each_id P n (e ∷ es) h =
      subst (AllByRecursion (λ (w : Want). P w.stream.0)) (sym (split plan ports wishes p n e es))
      (each_append (λ (w : Want). P w.stream.0) (own plan ports wishes p n e (class_of_entry e)) (wants_from plan ports wishes p (n + 1) es)
      (by (class_of_entry e)) (each_id P (n + 1) es h.1))
    where
      one : (class : Class) (t : Bool) → AllByRecursion (λ (w : Want). P w.stream.0) (if t then want_of_entry e class ∷ [] else [])
      one class true = (h.0, tt)
      one class false = tt

      by : (o : Option Class) → AllByRecursion (λ (w : Want). P w.stream.0) (own plan ports wishes p n e o)
      by None = tt
      by (Some class) = one class (is_asked_at plan.tree p (demand_in plan ports (stations_of plan.tree wishes n) e class))

  as_entries : (s : ℕ) (ws : List Want) → AllByRecursion (λ w. s ≢ w.stream.0) ws → AllByRecursion (λ y. s ≢ stream_of y) (entries_of ws)
  as_entries s [] h = tt
  as_entries s (w ∷ ws) h = (h.0, as_entries s ws h.1)

  -- one want more, of another stream
  one_more : (n : ℕ) (e : StreamEntry) (ws : List Want) → AllByRecursion (λ (w : Want). e.id.0 ≢ w.stream.0) ws → AreOfDifferentStreams (entries_of ws)
      → (o : Option Class) → AreOfDifferentStreams (entries_of (own plan ports wishes p n e o ++ ws))
  one_more n e ws apart later None = later
  one_more n e ws apart later (Some class) = by (is_asked_at plan.tree p (demand_in plan ports (stations_of plan.tree wishes n) e class))
    where
      by : (t : Bool) → AreOfDifferentStreams (entries_of ((if t then want_of_entry e class ∷ [] else []) ++ ws))
      by true = (as_entries e.id.0 ws apart, later)
      by false = later

  different : (n : ℕ) (es : List StreamEntry) → AllPairs (λ (x : StreamEntry) (y : StreamEntry). x.id.0 ≢ y.id.0) es
      → AreOfDifferentStreams (entries_of (wants_from plan ports wishes p n es))
  different n [] ids = tt
  different n (e ∷ es) ids =
      let others : AllByRecursion (λ (f : StreamEntry). e.id.0 ≢ f.id.0) es =
      all_each (λ (f : StreamEntry). e.id.0 ≢ f.id.0) es (λ k d within. ids 0 (suc k) d (omega arith) (omega (arith, within))) in
      let later = different (n + 1) es (λ i j d lt within. ids (suc i) (suc j) d (omega (arith, lt)) (omega (arith, within))) in
      subst (λ (ws : List Want). AreOfDifferentStreams (entries_of ws)) (sym (split plan ports wishes p n e es))
      (one_more n e (wants_from plan ports wishes p (n + 1) es) (each_id (λ s. e.id.0 ≢ s) (n + 1) es others) later (class_of_entry e))

-- ---- what is booked

-- a want that is booked is among those of the booked entries
found_booked : (xs : List Entry) (want : Want) → want_of xs want.stream ≡ Some want → IsSome (since_of xs want.stream)
    → IsAmong want (wants_of (booked_of xs))
found_booked [] want kept booked = cc
found_booked (x ∷ xs) want kept booked = by (stream_of x == want.stream.0) (is_booked x) refl kept booked (found_booked xs want)
  where
    by : (t b : Bool) → is_booked x ≡ b → option_map (λ (y : Entry). y.want) (if t then Some x else entry_of xs want.stream) ≡ Some want
        → IsSome (option_and_then (λ (y : Entry). y.since) (if t then Some x else entry_of xs want.stream))
        → (want_of xs want.stream ≡ Some want → IsSome (since_of xs want.stream) → IsAmong want (wants_of (booked_of xs)))
        → IsAmong want (wants_of (if b then x ∷ booked_of xs else booked_of xs))
    by true true is kept booked later = inl (same_Some x.want want kept)
    by true false is kept booked later = cc
    by false true is kept booked later = inr (later kept booked)
    by false false is kept booked later = later kept booked

-- ---- at a port

module _ (plan : Plan) (wishes : List Wish) (p : EgressPort) (link : LinkEntry) (book : Book) (rules : KeepsRules plan)
    (full : IsFullLedgerOf plan wishes p link book) where
  abbrev ws : List Want
  ws = wants_at plan wishes p

  abbrev there : List Want
  there = wants_of (booked_of book.entries)

  each_there : (vs : List Want) → ((w : Want) → IsAmong w vs → IsBookedIn book w) → AllByRecursion (λ y. IsAmong y.want there) (entries_of vs)
  each_there [] h = tt
  each_there (v ∷ vs) h =
      let one = h v (inl refl) in
      (found_booked book.entries v one.kept one.booked, each_there vs (λ w among. h w (inr among)))

  all_there : AllByRecursion (λ y. IsAmong y.want there) (entries_of ws)
  all_there = each_there ws full.booked

  apart : AreOfDifferentStreams (entries_of ws)
  apart = different plan wishes p 1 plan.streams rules.stream_ids

  same_wants : (vs : List Want) → wants_of (entries_of vs) ≡ vs
  same_wants [] = refl
  same_wants (v ∷ vs) = ap (λ (us : List Want). v ∷ us) (same_wants vs)

  within_both : slope_of_all ws ≤ booked_slope book.entries A + booked_slope book.entries B
  within_both =
      omega (
        arith,
        sums_within (entries_of ws) there apart all_there,
        slopes_of (entries_of ws),
        ap slope_of_all (same_wants ws),
        slopes_of (booked_of book.entries),
        both_classes (booked_of book.entries),
      )

  within_a : slope_of_a ws ≤ booked_slope book.entries A
  within_a =
      let is_a : Entry → Bool = λ x. is_of_class_a x.want in
      let those = filter is_a (entries_of ws) in
      omega (
        arith,
        sums_within those (filter is_of_class_a there) (different_kept is_a (entries_of ws) apart)
            (each_among_a those there (each_filter (λ (y : Entry). IsAmong y.want there) is_a (entries_of ws) all_there) (kept_pass is_a (entries_of ws))),
        slopes_of_a (entries_of ws),
        ap slope_of_a (same_wants ws),
        slopes_of_a (booked_of book.entries),
      )

  pub full_is_large : booked_slope book.entries A ≤ book.caps.class_a → booked_slope book.entries A + booked_slope book.entries B ≤ book.caps.both
      → IsLargeEnough plan wishes p
  full_is_large a both =
      subst (λ (o : Option LinkEntry). IfSome o (λ l. is_enough (caps_of_link l) (slope_of_a ws) (slope_of_all ws) ≡ true)) (sym full.link_is)
      (subst (λ (caps : Caps). is_enough caps (slope_of_a ws) (slope_of_all ws) ≡ true) full.caps
      (and_from (nat_le (slope_of_a ws) book.caps.class_a) (nat_le (slope_of_all ws) book.caps.both)
      (le-leb (slope_of_a ws) book.caps.class_a (omega (arith, within_a, a))) (le-leb (slope_of_all ws) book.caps.both (omega (arith, within_both, both)))))
