-- The table that a plan stands for is read as its scenario.
use Rattle.std.proofs.Common.{◌≡◌, ◌≢◌, ◌∙◌, ℕ, zero, suc, ◌+◌, ◌-◌, ◌*◌, ◌<◌, ◌≤◌, ◌^◌, Bool, true, false, ◌&&◌, ◌||◌, nat_le, nat_lt, List, [], ◌∷◌, map, length, get_or, take, Option, Some, None, option_map, option_and_then, Result, Ok, refl, sym, ap, subst, le-leb, eqb, IfSome, arith, ◌↔◌}
use Rattle.std.proofs.lemmas.{Bool.Decides.nat_tests, Bool.false≢true, List.length-map, List.length-take-le, List.Elements.All-cons, List.Elements.All-head, List.Elements.All-nil, List.Elements.All-tail, List.Folds.list_any_none}
use Rattle.std.specs.{Cmp.Lexicographic.pointwise, Cmp.Lexicographic.bytes_decides, List.All, List.list_any}
use Rattle.std.specs.Prelude.{AllPairs, codes, nat_eq}
use Rattle.srp_base.specs.{Firsts.first_where, Results.◌>>=◌}
use Rattle.srp_base.specs.declared.numbers.StreamId.{StreamId}
use Rattle.toml.specs.Data.{Members, table}
use Rattle.toml.specs.View.{items_of}
use Rattle.toml_rules.specs.declared.rules.RuleErr.{RuleErr}
use Rattle.toml_rules.specs.{Fields.all_tables, Fields.tables, Fields.truth_or, Rules.each_entry, Rules.first_fall, Rules.holds, Rules.needs}
use Rattle.tree_topology.specs.{Graph.IsNode, Ports.neighbours, Refusal.refusal, Topology.Topology}
use Rattle.tree_topology.specs.declared.graph.Link.{Link}
use Rattle.topology_file.specs.{declared.entries.DomainWord.TheVariants.Both, Scenario.KeepsRules, declared.entries.LinkEntry.LinkEntry, declared.entries.NodeEntry.NodeEntry, declared.entries.StreamEntry.StreamEntry, Scenario.ends_of_entry, Events.event_entry, Events.event_form, Events.form_ticks, Scenario.has_id_of, Scenario.has_name_of, Scenario.is_crowded, Entries.is_name, Scenario.is_small, Scenario.leave_time_at, Entries.link_form, Scenario.links_of, Entries.node_entry, Scenario.node_kinds, Scenario.nodes_of, Scenario.scenario_of, Scenario.ticks_at, Scenario.topology_of, Scenario.tree_links, Scenario.tree_of, Scenario.unless_refused}
use Rattle.topology_file.specs.Scenario as scenario
use Rattle.topology_file.specs.Plan.{Plan as ScenarioPlan}
use Rattle.topology_file.proofs.{Chains.alike-at, Chains.alike-length, Chains.an_element, NetworkKept.AcceptedLaw}
use Rattle.plan_file.specs.{HasPlanValues, KeepsPlanRules, NetworkPlan, PlanEvent, PlanStream, dests_of, event_members, event_of, events_of, expanded, given_dests, given_ids, ids_of, is_given, is_number, is_same_id, link_members, node_members, plan_events, kind_of, scenario_for, streams_members, streams_with, tick_of}
use Rattle.plan_file.proofs.{EventsRead.AreStreamsOf, EventsRead.IsKnownEvent, EventsRead.event-back, EventsRead.events-known, EventsRead.rise-none, FreeNumbers.GivenDiffer, FreeNumbers.numbered-below, FreeNumbers.numbered-differ, Lookups.never-true, NetworkRead.IsWritable, NetworkRead.JoinsWritable, NetworkRead.link-back, NetworkRead.nodes-back, NumberLemmas.length_filled, PlanKept.pairs-like, Readings.each-made, Readings.no-pair, Readings.none-then, Readings.none-where, Readings.ok-then, StreamsRead.streams-back}

needs-then : {A B : Type 0} (rule : ℕ) (o : Option A) (x : A) (f : A → Result B RuleErr) → o ≡ Some x → (needs rule o >>= f) ≡ f x
needs-then rule o x f e = ap (λ q. needs rule q >>= f) e

holds-then : {B : Type 0} (rule : ℕ) (b : Bool) (f : Unit {0} → Result B RuleErr) → b ≡ true → (holds rule b >>= f) ≡ f tt
holds-then rule b f e = ap (λ q. holds rule q >>= f) e

-- an array of tables is read as them
tables-back : {A : Type 0} (f : A → Members) (xs : List A) → all_tables (items_of (map (λ x. table (f x)) xs)) ≡ Some (map f xs)
tables-back f [] = refl
tables-back f (x ∷ xs) = ap (option_map (λ rest. f x ∷ rest)) (tables-back f xs)

of-map : {A B : Type 0} (P : B → Type 0) (f : A → B) (xs : List A) → All P (map f xs) → All (λ x. P (f x)) xs
of-map P f [] h = λ i d lt. absurd (omega (arith, lt))
of-map P f (x ∷ xs) h = All-cons (λ x. P (f x)) x xs (All-head P (f x) (map f xs) h) (of-map P f xs (All-tail P (f x) (map f xs) h))

map-same : {A : Type 0} (xs : List A) → map (λ x. x) xs ≡ xs
map-same [] = refl
map-same (x ∷ xs) = ap (λ t. x ∷ t) (map-same xs)

differ : (a b : ℕ) → a ≢ b → eqb a b ≡ false
differ a b n = grind (arith, nat_tests)

-- ---- the network

module _ (law : AcceptedLaw) (n : ScenarioPlan) (k : KeepsRules n) where
  small : is_small 1000 n.nodes ≡ true
  small =
      let c = length n.nodes in
      ap (λ b. b && nat_le c 64 && nat_le (c * 1000) 400000) (le-leb 2 c k.node_count.0)
      ∙ ap (λ b. b && nat_le (c * 1000) 400000) (le-leb c 64 k.node_count.1)
      ∙ le-leb (c * 1000) 400000 (omega (arith, k.node_count.1))

  nodes-read : nodes_of 1000 n.domains (map (node_members n.domains) n.nodes) ≡ Ok n.nodes
  nodes-read =
      ok-then (each_entry 4 (node_entry n.domains) 1 (map (node_members n.domains) n.nodes)) n.nodes _
      (nodes-back n.domains n.nodes (λ i d lt. record { name = k.node_forms i d lt; id = k.node_ids i d lt; word = (λ off. k.words off i d lt) }))
      ∙ holds-then 5 (is_small 1000 n.nodes) _ small
      ∙ none-then 6 (first_where has_name_of [] n.nodes) _
      (no-pair (λ (y x : NodeEntry). pointwise nat_eq y.name x.name) n.nodes (λ i j d lt inside.
      never-true _ (λ t. k.names i j d lt inside ((bytes_decides (get_or n.nodes i d).name (get_or n.nodes j d).name).0 t))))
      ∙ none-then 7 (first_where has_id_of [] n.nodes) _
      (no-pair (λ (y x : NodeEntry). eqb y.id.0 x.id.0) n.nodes (λ i j d lt inside. differ (get_or n.nodes i d).id.0 (get_or n.nodes j d).id.0 (k.ids i j d lt inside)))

  joins : All (JoinsWritable n.nodes) n.links
  joins i d lt =
      let ends = of-map (λ l. IsNode (length (node_kinds n.nodes)) l.a.0 × IsNode (length (node_kinds n.nodes)) l.b.0) ends_of_entry n.links k.accepted.tree.graph.known i d lt in
      let form = k.link_forms i d lt in
      let F : ℕ → Type 0 = λ c. IsNode c (get_or n.links i d).a.0 × IsNode c (get_or n.links i d).b.0 in
      let e = subst F (length-map n.nodes (λ (x : NodeEntry). x.kind)) ends in
      record { a = e.0; b = e.1; shares = form.0; latency = form.1 }

  links-read : links_of n.nodes (map (link_members n.nodes) n.links) ≡ Ok n.links
  links-read =
      ok-then (each_entry 8 (link_form n.nodes) 1 (map (link_members n.nodes) n.links)) (map Some n.links) _
      (each-made (JoinsWritable n.nodes) 8 (length n.links) (link_form n.nodes) (link_members n.nodes) Some
      (λ m l _ j. link-back n.nodes k.names k.node_forms m l j) 1 n.links (omega arith) joins)
      ∙ each-made (λ l. Unit {0}) 9 (length n.links) (λ m form. form) Some (λ l. l) (λ m l _ _. refl) 1 n.links (omega arith) (λ i d lt. tt)
      ∙ ap Ok (map-same n.links)

  tree-read : tree_of n.nodes n.links ≡ Ok n.tree
  tree-read =
      let t = topology_of n.nodes n.links in
      ap (unless_refused t) ((law t).1 k.accepted) ∙ ap Ok (sym k.tree)

  uncrowded : first_where (is_crowded n.tree.links) [] n.nodes ≡ None
  uncrowded =
      let F : Topology → Type 0 = λ t. first_where (is_crowded t.links) [] n.nodes ≡ None in
      subst F (sym k.tree) (none-where (is_crowded (tree_links n.links)) n.nodes here (length n.nodes) 0 (omega arith))
    where
      not-above : (a b : ℕ) → b ≤ a → nat_lt a b ≡ false
      not-above a b le = grind (arith, nat_tests)

      here : (i : ℕ) (d : NodeEntry) → i < length n.nodes → is_crowded (tree_links n.links) (take i n.nodes) (get_or n.nodes i d) ≡ false
      here i d lt =
          let short : length (take i n.nodes) ≡ i = length-take-le i n.nodes (omega (arith, lt)) in
          not-above 16 (length (neighbours (tree_links n.links) (length (take i n.nodes) + 1)))
          (k.uncrowded (length (take i n.nodes) + 1) (omega arith, omega (arith, short, lt)))

-- ---- the streams

equal : (a b : ℕ) → eqb a b ≡ true → a ≡ b
equal a b t = grind (arith, nat_tests)

given-one : (P : ℕ → Type 0) (m n : ℕ) (rest b : Bool) → eqb m n ≡ b → P m → (rest ≡ true → P n) → (b || rest) ≡ true → P n
given-one P m n rest true is p later h = subst P (equal m n is) p
given-one P m n rest false is p later h = later h

-- those that are given
given-small : (P : ℕ → Type 0) (given : List (Option ℕ)) → All (λ o. IfSome o P) given → (n : ℕ) → is_given given n ≡ true → P n
given-small P [] all n e = absurd (false≢true e)
given-small P (None ∷ given) all n e = given-small P given (All-tail (λ (o : Option ℕ). IfSome o P) None given all) n e
given-small P (Some m ∷ given) all n e =
    given-one P m n (is_given given n) (eqb m n) refl (All-head (λ (o : Option ℕ). IfSome o P) (Some m) given all)
    (given-small P given (All-tail (λ (o : Option ℕ). IfSome o P) (Some m) given all) n) e

turned : (a b : ℕ) → eqb a b ≡ false → eqb b a ≡ false
turned a b e = grind (arith, nat_tests)

not-first : (id : StreamId) (o : Option StreamId) (given : List (Option ℕ)) → is_same_id (Some id) o ≡ false → is_given given id.0 ≡ false
    → is_given (option_map (λ (i : StreamId). i.0) o ∷ given) id.0 ≡ false
not-first id None given q rest = rest
not-first id (Some y) given q rest = ap (λ b. b || is_given given id.0) (turned id.0 y.0 q) ∙ rest

none-of : (id : StreamId) (xs : List PlanStream) → All (λ x. is_same_id (Some id) x.values.id ≡ false) xs → is_given (given_ids xs) id.0 ≡ false
none-of id [] g = refl
none-of id (x ∷ xs) g =
    not-first id x.values.id (given_ids xs) (All-head (λ x. is_same_id (Some id) x.values.id ≡ false) x xs g)
    (none-of id xs (All-tail (λ x. is_same_id (Some id) x.values.id ≡ false) x xs g))

apart-first : (o : Option StreamId) (xs : List PlanStream) → All (λ x. is_same_id o x.values.id ≡ false) xs → GivenDiffer (given_ids xs)
    → GivenDiffer (option_map (λ (id : StreamId). id.0) o ∷ given_ids xs)
apart-first None xs h rest = rest
apart-first (Some id) xs h rest = (none-of id xs h, rest)

given-apart : (ss : List PlanStream) → AllPairs (λ x y. is_same_id x.values.id y.values.id ≡ false) ss → GivenDiffer (given_ids ss)
given-apart [] h = tt
given-apart (s ∷ ss) h =
    apart-first s.values.id ss (λ j d lt. h 0 (suc j) d (omega arith) (omega (arith, lt)))
    (given-apart ss (λ i j d lt inside. h (suc i) (suc j) d (omega (arith, lt)) (omega (arith, inside))))

ids-given : (ss : List PlanStream) → All (λ s. HasPlanValues s.values) ss → All (λ o. IfSome o (λ n. n < 2 ^ 64)) (given_ids ss)
ids-given [] h = All-nil (λ o. IfSome o (λ n. n < 2 ^ 64))
ids-given (s ∷ ss) h =
    All-cons (λ o. IfSome o (λ n. n < 2 ^ 64)) _ (given_ids ss) (by s.values.id (All-head (λ s. HasPlanValues s.values) s ss h).id) (ids-given ss (All-tail (λ s. HasPlanValues s.values) s ss h))
  where
    by : (o : Option StreamId) → IfSome o (λ id. id.0 < 2 ^ 64) → IfSome (option_map (λ (id : StreamId). id.0) o) (λ n. n < 2 ^ 64)
    by None h = tt
    by (Some id) h = h

dests-given : (ss : List PlanStream) → All (λ s. HasPlanValues s.values) ss → All (λ o. IfSome o (λ n. n < 2 ^ 48)) (given_dests ss)
dests-given [] h = All-nil (λ o. IfSome o (λ n. n < 2 ^ 48))
dests-given (s ∷ ss) h =
    All-cons (λ o. IfSome o (λ n. n < 2 ^ 48)) _ (given_dests ss) (All-head (λ s. HasPlanValues s.values) s ss h).dest (dests-given ss (All-tail (λ s. HasPlanValues s.values) s ss h))

-- ---- side by side

names-same : (ss : List PlanStream) (ids dests : List ℕ) → length ids ≡ length ss → length dests ≡ length ss
    → map (λ (s : StreamEntry). s.name) (streams_with ss ids dests) ≡ map (λ (s : PlanStream). s.name) ss
names-same [] ids dests li ld = refl
names-same (s ∷ ss) [] dests li ld = absurd (omega (arith, li))
names-same (s ∷ ss) (id ∷ ids) [] li ld = absurd (omega (arith, ld))
names-same (s ∷ ss) (id ∷ ids) (dest ∷ dests) li ld = ap (λ ns. s.name ∷ ns) (names-same ss ids dests (omega (arith, li)) (omega (arith, ld)))

talkers-same : (ss : List PlanStream) (ids dests : List ℕ) → length ids ≡ length ss → length dests ≡ length ss
    → map (λ (s : StreamEntry). s.talker.0) (streams_with ss ids dests) ≡ map (λ (s : PlanStream). s.ends.talker.0) ss
talkers-same [] ids dests li ld = refl
talkers-same (s ∷ ss) [] dests li ld = absurd (omega (arith, li))
talkers-same (s ∷ ss) (id ∷ ids) [] li ld = absurd (omega (arith, ld))
talkers-same (s ∷ ss) (id ∷ ids) (dest ∷ dests) li ld = ap (λ ns. s.ends.talker.0 ∷ ns) (talkers-same ss ids dests (omega (arith, li)) (omega (arith, ld)))

-- what the names of the one have, those of the other have
all-like : {A B C : Type 0} (P : C → Type 0) (f : A → C) (g : B → C) (xs : List A) (ys : List B) → map g ys ≡ map f xs → All (λ x. P (f x)) xs → All (λ y. P (g y)) ys
all-like P f g xs ys h all i e lt =
    let inside : i < length xs = omega (arith, lt, alike-length f g xs ys h) in
    let d = an_element xs i inside in
    subst P (sym (alike-at f g xs ys h i d e lt)) (all i d inside)

-- ---- the whole

module _ (law : AcceptedLaw) (p : NetworkPlan) (k : KeepsPlanRules p) where
  abbrev n : ScenarioPlan
  n = p.network

  abbrev ids : List ℕ
  ids = ids_of p.streams

  abbrev dests : List ℕ
  dests = dests_of p.streams

  abbrev entries : List StreamEntry
  entries = streams_with p.streams ids dests

  ids-long : length ids ≡ length p.streams
  ids-long = length_filled _ (given_ids p.streams) ∙ length-map p.streams _

  dests-long : length dests ≡ length p.streams
  dests-long = length_filled _ (given_dests p.streams) ∙ length-map p.streams _

  streams-read : scenario.streams_of n.nodes (streams_members n.nodes p.streams ids dests) ≡ Ok entries
  streams-read =
      let few : length (given_ids p.streams) ≤ 128 = omega (arith, k.streams_many, length-map p.streams (λ (s : PlanStream). option_map (λ (id : StreamId). id.0) s.values.id)) in
      streams-back n.nodes k.network.names k.network.node_forms p.streams ids dests k.streams_many ids-long dests-long k.forms k.ends k.values
      (numbered-below 144115188075921409 (2 ^ 64) (given_ids p.streams) (omega arith) (given-small (λ m. m < 2 ^ 64) (given_ids p.streams) (ids-given p.streams k.values)))
      (numbered-below 160395285233665 (2 ^ 48) (given_dests p.streams) (omega arith) (given-small (λ m. m < 2 ^ 48) (given_dests p.streams) (dests-given p.streams k.values)))
      k.names (numbered-differ 144115188075921409 (given_ids p.streams) few (given-apart p.streams k.ids))

  same : AreStreamsOf p.streams entries
  same =
      let kept = names-same p.streams ids dests ids-long dests-long in
      record {
        names = kept;
        apart = pairs-like (λ x y. x ≢ y) (λ (s : PlanStream). s.name) (λ (s : StreamEntry). s.name) p.streams entries kept k.names;
        forms = all-like (λ name. is_name name ≡ true) (λ (s : PlanStream). s.name) (λ (s : StreamEntry). s.name) p.streams entries kept k.forms;
      }

  events-read : scenario.events_of 1000 n.nodes n.links entries (map (event_members n.nodes p.streams) (plan_events p)) ≡ Ok (map event_of (plan_events p))
  events-read =
      let es = plan_events p in
      let long : length entries ≡ length p.streams = alike-length (λ (s : PlanStream). s.name) (λ (s : StreamEntry). s.name) p.streams entries same.names in
      let h = events-known n.nodes entries p.streams long k.ends
      (λ i d e lt. (let place : 1 - 1 + i ≡ i = omega arith in ap (λ (m : ℕ). (get_or entries m d).talker.0) place) ∙ alike-at (λ (s : PlanStream). s.ends.talker.0) (λ (s : StreamEntry). s.talker.0) p.streams entries (talkers-same p.streams ids dests ids-long dests-long) i e d (omega (arith, lt, long))) in
      ok-then (each_entry 20 (event_form 1000 n.nodes n.links entries) 1 (map (event_members n.nodes p.streams) es)) _ _
      (each-made (IsKnownEvent n.nodes entries) 20 10000 (event_form 1000 n.nodes n.links entries) (event_members n.nodes p.streams) (λ (e : PlanEvent). record { tick = tick_of e; kind = Some (kind_of e) })
      (λ m e few known. event-back n.nodes k.network.names k.network.node_forms n.links p.streams entries same m e few known) 1 es (omega (arith, k.events_many)) h.0)
      ∙ none-then 21 (first_fall 1 0 (form_ticks (map (λ (e : PlanEvent). record { tick = tick_of e; kind = Some (kind_of e) }) es))) _ (rise-none 1 0 es h.1)
      ∙ each-made (λ e. Unit {0}) 22 (length es) event_entry (λ (e : PlanEvent). record { tick = tick_of e; kind = Some (kind_of e) }) event_of (λ m e _ _. refl) 1 es (omega arith) (λ i d lt. tt)

  -- the table that a plan stands for is read as its scenario
  pub expanded-read : scenario_of (expanded p) ≡ Ok (scenario_for p)
  expanded-read =
      let ms = expanded p in
      needs-then 2 (tables (codes "node") ms) (map (node_members n.domains) n.nodes) _ (tables-back (node_members n.domains) n.nodes)
      ∙ needs-then 2 (tables (codes "link") ms) (map (link_members n.nodes) n.links) _ (tables-back (link_members n.nodes) n.links)
      ∙ needs-then 2 (tables (codes "stream") ms) (streams_members n.nodes p.streams ids dests) _ (tables-back (λ ms. ms) (streams_members n.nodes p.streams ids dests) ∙ ap Some (map-same (streams_members n.nodes p.streams ids dests)))
      ∙ needs-then 2 (tables (codes "event") ms) (map (event_members n.nodes p.streams) (plan_events p)) _ (tables-back (event_members n.nodes p.streams) (plan_events p))
      ∙ ok-then (nodes_of 1000 n.domains (map (node_members n.domains) n.nodes)) n.nodes _ (nodes-read law n k.network)
      ∙ ok-then (links_of n.nodes (map (link_members n.nodes) n.links)) n.links _ (links-read law n k.network)
      ∙ ok-then (tree_of n.nodes n.links) n.tree _ (tree-read law n k.network)
      ∙ none-then 15 (first_where (is_crowded n.tree.links) [] n.nodes) _ (uncrowded law n k.network)
      ∙ ok-then (scenario.streams_of n.nodes (streams_members n.nodes p.streams ids dests)) entries _ streams-read
      ∙ ok-then (scenario.events_of 1000 n.nodes n.links entries (map (event_members n.nodes p.streams) (plan_events p))) (map event_of (plan_events p)) _ events-read
