-- When there are no lines.
use Rattle.std.proofs.Common.{◌≡◌, ℕ, zero, suc, ◌+◌, Bool, true, false, ◌&&◌, ◌||◌, List, [], ◌∷◌, ◌++◌, Option, Some, None, if◌then◌else◌, refl, sym, ap, subst, ◌∙◌, arith}
use Rattle.std.specs.Prelude.{◌↔◌, slice_get, flat_map, IfSome}
use Rattle.std.specs.{Option.option_map_or, List.AllByRecursion, List.list_any}
use Rattle.std.proofs.lemmas.{Bool.or_parts, Bool.or_from, Option.none-some, Option.same_Some}
use Rattle.srp_base.specs.declared.{bandwidth.Class.Class, numbers.EgressPort.EgressPort, numbers.NodeNo.NodeNo}
use Rattle.stream_importance.specs.declared.entry.Want.{Want}
use Rattle.tree_topology.specs.Topology.{link_ports}
use Rattle.topology_file.specs.declared.{entries.LinkEntry.LinkEntry, entries.StreamEntry.StreamEntry}
use Rattle.topology_file.specs.Plan.{Plan}
use Rattle.scenario_bounds.specs.Caps.{caps_of_link, link_at}
use Rattle.port_needs.specs.declared.{demand.Wish.Wish}
use Rattle.port_needs.specs.{class_of_entry, code_of_entry, demands, edge_line, edge_lines, is_blocked, is_edge, is_enough, leads_to, never_by, never_from, needs_on_link, never_lines, needs_lines, port_needs, short_line, slope_of_a, slope_of_all, stations_of, wants_at, AreServed, IsLargeEnough, IsServed}

-- ---- no lines of many

none_of_two : {X : Type 0} (xs ys : List X) → xs ++ ys ≡ [] → (xs ≡ []) × (ys ≡ [])
none_of_two [] ys h = (refl, h)
none_of_two (x ∷ xs) ys h = cc

pub none_each : {X Y : Type 0} (f : X → List Y) (xs : List X) → flat_map f xs ≡ [] → AllByRecursion (λ x. f x ≡ []) xs
none_each f [] h = tt
none_each f (x ∷ xs) h = let two = none_of_two (f x) (flat_map f xs) h in (two.0, none_each f xs two.1)

pub each_none : {X Y : Type 0} (f : X → List Y) (xs : List X) → AllByRecursion (λ x. f x ≡ []) xs → flat_map f xs ≡ []
each_none f [] h = refl
each_none {X} {Y} f (x ∷ xs) h = ap (λ (ys : List Y). ys ++ flat_map f xs) h.0 ∙ each_none f xs h.1

-- ---- ports

-- a port has no line exactly where what it has is enough
large : (port : List ℕ) (link : LinkEntry) (a b : ℕ) (t : Bool) → (if t then [] else short_line port link a b) ≡ [] ↔ (t ≡ true)
large port link a b true = (λ _. refl, λ _. refl)
large port link a b false = (λ h. cc, λ h. cc)

of_link : (port : List ℕ) (wants : List Want) (o : Option LinkEntry)
    → (option_map_or (needs_on_link port wants) o [] ≡ []) ↔ IfSome o (λ l. is_enough (caps_of_link l) (slope_of_a wants) (slope_of_all wants) ≡ true)
of_link port wants None = (λ _. tt, λ _. refl)
of_link port wants (Some l) = large port l (slope_of_a wants) (slope_of_all wants) (is_enough (caps_of_link l) (slope_of_a wants) (slope_of_all wants))

-- two facts that hold of the same elements hold of all of the same lists
along : {X : Type 0} (P Q : X → Type 0) → ((x : X) → P x ↔ Q x) → (xs : List X) → AllByRecursion P xs ↔ AllByRecursion Q xs
along P Q each [] = (λ h. h, λ h. h)
along P Q each (x ∷ xs) =
    let rest = along P Q each xs in
    (λ h. ((each x).0 h.0, rest.0 h.1), λ h. ((each x).1 h.0, rest.1 h.1))

pub no_port_line : (plan : Plan) (wishes : List Wish) → (needs_lines plan wishes ≡ []) ↔ AllByRecursion (IsLargeEnough plan wishes) (link_ports plan.tree)
no_port_line plan wishes =
    let lines : EgressPort → List ℕ = port_needs plan (demands plan wishes) in
    let ports = link_ports plan.tree in
    let each = along (λ p. lines p ≡ []) (IsLargeEnough plan wishes) (λ p. of_link _ (wants_at plan wishes p) (link_at plan p)) ports in
    (λ h. each.0 (none_each lines ports h), λ h. each_none lines ports (each.1 h))

-- ---- streams

-- no port is an edge that leads to some, exactly where for none of these there is such a port
module _ {P Y : Type 0} (edge : P → Bool) (lead : P → Y → Bool) where
  abbrev some_of : List Y → P → Bool
  some_of ys p = list_any (lead p) ys

  none_at : (f : P → Bool) (ps : List P) → (list_any f ps ≡ false) ↔ AllByRecursion (λ p. f p ≡ false) ps
  none_at f [] = (λ h. tt, λ h. refl)
  none_at f (p ∷ ps) =
      let rest = none_at f ps in
      (λ h. let two = or_parts (f p) (list_any f ps) h in (two.0, rest.0 two.1), λ h. or_from (f p) (list_any f ps) h.0 (rest.1 h.1))

  both_of : (e l m : Bool) → ((e && (l || m)) ≡ false) ↔ (((e && l) ≡ false) × ((e && m) ≡ false))
  both_of true l m = (λ h. or_parts l m h, λ h. or_from l m h.0 h.1)
  both_of false l m = (λ h. (refl, refl), λ h. refl)

  none_of_none : (ps : List P) → AllByRecursion (λ p. (edge p && false) ≡ false) ps
  none_of_none [] = tt
  none_of_none (p ∷ ps) = (by (edge p), none_of_none ps)
    where
      by : (t : Bool) → (t && false) ≡ false
      by true = refl
      by false = refl

  apart : (y : Y) (ys : List Y) (ps : List P) → AllByRecursion (λ p. (edge p && some_of (y ∷ ys) p) ≡ false) ps
      ↔ (AllByRecursion (λ p. (edge p && lead p y) ≡ false) ps × AllByRecursion (λ p. (edge p && some_of ys p) ≡ false) ps)
  apart y ys [] = (λ h. (tt, tt), λ h. tt)
  apart y ys (p ∷ ps) =
      let rest = apart y ys ps in
      let two = both_of (edge p) (lead p y) (some_of ys p) in (
        λ h. let here = two.0 h.0 in let more = rest.0 h.1 in ((here.0, more.0), (here.1, more.1)),
        λ h. (two.1 (h.0.0, h.1.0), rest.1 (h.0.1, h.1.1)),
      )

  swapped : (ys : List Y) (ps : List P) → AllByRecursion (λ p. (edge p && some_of ys p) ≡ false) ps
      ↔ AllByRecursion (λ y. list_any (λ p. edge p && lead p y) ps ≡ false) ys
  swapped [] ps = (λ h. tt, λ h. none_of_none ps)
  swapped (y ∷ ys) ps =
      let two = apart y ys ps in
      let here = none_at (λ p. edge p && lead p y) ps in
      let rest = swapped ys ps in (
        λ h. (here.1 (two.0 h).0, rest.0 (two.0 h).1),
        λ h. two.1 (here.0 h.0, rest.1 h.1),
      )

shown : (t : Bool) (c : ℕ) (cs : List ℕ) → ((if t then c ∷ cs else []) ≡ []) ↔ (t ≡ false)
shown true c cs = (λ h. cc, λ h. cc)
shown false c cs = (λ _. refl, λ _. refl)

module _ (plan : Plan) (e : StreamEntry) where
  abbrev ports : List EgressPort
  ports = link_ports plan.tree

  abbrev from : ℕ
  from = e.talker.0

  -- by a class
  of_class : (class : Class) (ys : List NodeNo) → code_of_entry e ≡ None → class_of_entry e ≡ Some class
      → (flat_map (edge_line plan e class ys) ports ≡ []) ↔ AllByRecursion (IsServed plan e) ys
  of_class class ys code is =
      let edge : EgressPort → Bool = is_edge plan class in
      let lead : EgressPort → NodeNo → Bool = λ p y. leads_to plan.tree p from y.0 in
      let lines = along (λ p. edge_line plan e class ys p ≡ []) (λ p. (edge p && list_any (lead p) ys) ≡ false) (λ p. shown _ _ _) ports in
      let swap = swapped edge lead ys ports in
      let served = along (λ y. is_blocked plan ports class from y.0 ≡ false) (IsServed plan e)
      (λ y. (
        λ h. record {
          code = code;
          way = λ other k. ap (λ (c : Class). is_blocked plan ports c from y.0) (same_Some other class (sym k ∙ is)) ∙ h;
        },
        λ h. h.way class is,
      )) ys in (
        λ h. served.0 (swap.0 (lines.0 (none_each (edge_line plan e class ys) ports h))),
        λ h. each_none (edge_line plan e class ys) ports (lines.1 (swap.1 (served.1 h))),
      )

  -- where no port refuses it
  of_edges : (o : Option Class) (ys : List NodeNo) → code_of_entry e ≡ None → class_of_entry e ≡ o
      → (edge_lines plan ports e ys o ≡ []) ↔ AllByRecursion (IsServed plan e) ys
  of_edges None ys code is = (λ _. all ys, λ _. refl)
    where
      all : (ys : List NodeNo) → AllByRecursion (IsServed plan e) ys
      all [] = tt
      all (y ∷ ys) = (record { code = code; way = λ class k. absurd (none-some class (sym is ∙ k)) }, all ys)
  of_edges (Some class) ys code is = of_class class ys code is

  of_code : (o : Option ℕ) (ys : List NodeNo) → code_of_entry e ≡ o
      → (never_by plan ports e ys o ≡ []) ↔ AllByRecursion (IsServed plan e) ys
  of_code None ys is = of_edges (class_of_entry e) ys is refl
  of_code (Some code) [] is = (λ _. tt, λ _. refl)
  of_code (Some code) (y ∷ ys) is = (λ h. cc, λ h. absurd (none-some code (sym h.0.code ∙ is)))

module _ (plan : Plan) (wishes : List Wish) where
  abbrev Served : ℕ → List StreamEntry → Type 0
  Served n es = (i : ℕ) (e : StreamEntry) → slice_get es i ≡ Some e → AllByRecursion (IsServed plan e) (stations_of plan.tree wishes (i + n))

  abbrev stations : ℕ → List NodeNo
  stations n = stations_of plan.tree wishes n

  abbrev lines_of : ℕ → StreamEntry → List ℕ
  lines_of n e = never_by plan (link_ports plan.tree) e (stations n) (code_of_entry e)

  abbrev rest_of : ℕ → List StreamEntry → List ℕ
  rest_of n es = never_from plan (link_ports plan.tree) wishes n es

  -- one stream more
  more_served : (n : ℕ) (e : StreamEntry) (es : List StreamEntry) → AllByRecursion (IsServed plan e) (stations n) → Served (n + 1) es → Served n (e ∷ es)
  more_served n e es one more zero f is =
      subst (λ (x : StreamEntry). AllByRecursion (IsServed plan x) (stations (0 + n))) (same_Some e f is)
      (subst (λ (k : ℕ). AllByRecursion (IsServed plan e) (stations k)) (let z : n ≡ 0 + n = omega arith in z) one)
  more_served n e es one more (suc i) f is =
      subst (λ (k : ℕ). AllByRecursion (IsServed plan f) (stations k)) (let z : i + (n + 1) ≡ suc i + n = omega arith in z) (more i f is)

  first_served : (n : ℕ) (e : StreamEntry) (es : List StreamEntry) → Served n (e ∷ es) → AllByRecursion (IsServed plan e) (stations n)
  first_served n e es served =
      subst (λ (k : ℕ). AllByRecursion (IsServed plan e) (stations k)) (let z : 0 + n ≡ n = omega arith in z) (served 0 e refl)

  later_served : (n : ℕ) (e : StreamEntry) (es : List StreamEntry) → Served n (e ∷ es) → Served (n + 1) es
  later_served n e es served i f is =
      subst (λ (k : ℕ). AllByRecursion (IsServed plan f) (stations k)) (let z : suc i + n ≡ i + (n + 1) = omega arith in z) (served (suc i) f is)

  of_streams : (n : ℕ) (es : List StreamEntry) → (rest_of n es ≡ []) ↔ Served n es
  of_streams n [] = (λ _ i e is. cc, λ _. refl)
  of_streams n (e ∷ es) =
      let here : (lines_of n e ≡ []) ↔ AllByRecursion (IsServed plan e) (stations n) = of_code plan e (code_of_entry e) (stations n) refl in
      let rest : (rest_of (n + 1) es ≡ []) ↔ Served (n + 1) es = of_streams (n + 1) es in (
        λ h. let two = none_of_two (lines_of n e) (rest_of (n + 1) es) h in more_served n e es (here.0 two.0) (rest.0 two.1),
        λ served. ap (λ (ys : List ℕ). ys ++ rest_of (n + 1) es) (here.1 (first_served n e es served)) ∙ rest.1 (later_served n e es served),
      )

pub no_stream_line : (plan : Plan) (wishes : List Wish) → (never_lines plan wishes ≡ []) ↔ AreServed plan wishes
no_stream_line plan wishes = of_streams plan wishes 1 plan.streams
