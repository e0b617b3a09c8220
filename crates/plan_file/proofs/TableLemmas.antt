-- The tables that a plan stands for are shallow, and have no dates.
use Rattle.std.proofs.Common.{◌≡◌, ◌∙◌, ◌+◌, ◌<◌, ◌≤◌, ◌++◌, ◌&&◌, ℕ, Bool, true, false, List, [], ◌∷◌, map, length, get_or, drop, refl, ap, sym, append_assoc, arith}
use Rattle.std.proofs.lemmas.List.{drop_more}
use Rattle.toml.specs.Data.{Data, Members, table, items_depth, items_have_valid_dates, members_depth, members_have_valid_dates}
use Rattle.toml.specs.View.{items_of}
use Rattle.topology_file.specs.{declared.entries.NodeEntry.NodeEntry, declared.entries.LinkEntry.LinkEntry}
use Rattle.plan_file.specs.{NetworkPlan, PlanEvent, PlanStream, dests_of, event_members, expanded, ids_of, link_members, node_members, plan_events, stream_members, streams_members}
use Rattle.plan_file.specs.declared.events.PlanEvent.TheVariants.{Declare, Listen, Talk}

-- one more value of what is made of some things
pub data-step : {A : Type 0} (f : A → Data) (xs : List A) (i : ℕ) (d : A) (front more : List Data) (t : Data) (whole : List Data) → i < length xs → t ≡ f (get_or xs i d)
    → more ≡ front ++ (t ∷ []) → front ++ map f (drop i xs) ≡ whole → more ++ map f (drop (i + 1) xs) ≡ whole
data-step f xs i d front more t whole lt is new h =
    let rest = map f (drop (i + 1) xs) in
    ap (λ ys. ys ++ rest) new ∙ append_assoc front (t ∷ []) rest ∙ ap (λ u. front ++ (u ∷ rest)) is
    ∙ ap (λ ys. front ++ map f ys) (sym (drop_more xs i d lt)) ∙ h

-- one more stream with its numbers
pub streams-step : (nodes : List NodeEntry) (ss : List PlanStream) (ids dests : List ℕ) (i : ℕ) (s : PlanStream) (d : ℕ) (front more : List Data) (t : Data) (whole : List Data)
    → i < length ss → length ids ≡ length ss → length dests ≡ length ss → s ≡ get_or ss i s → t ≡ table (stream_members nodes s (get_or ids i d) (get_or dests i d))
    → more ≡ front ++ (t ∷ []) → front ++ map (λ ms. table ms) (streams_members nodes (drop i ss) (drop i ids) (drop i dests)) ≡ whole
    → more ++ map (λ ms. table ms) (streams_members nodes (drop (i + 1) ss) (drop (i + 1) ids) (drop (i + 1) dests)) ≡ whole
streams-step nodes ss ids dests i s d front more t whole lt li ld here is new h =
    let rest = map (λ ms. table ms) (streams_members nodes (drop (i + 1) ss) (drop (i + 1) ids) (drop (i + 1) dests)) in
    let cut_s : drop i ss ≡ s ∷ drop (i + 1) ss = drop_more ss i s lt ∙ ap (λ x. x ∷ drop (i + 1) ss) (sym here) in
    let cut_i = drop_more ids i d (omega (arith, lt, li)) in
    let cut_d = drop_more dests i d (omega (arith, lt, ld)) in
    ap (λ ys. ys ++ rest) new ∙ append_assoc front (t ∷ []) rest ∙ ap (λ u. front ++ (u ∷ rest)) is
    ∙ sym (ap (λ xs. front ++ map (λ ms. table ms) (streams_members nodes xs (drop i ids) (drop i dests))) cut_s
    ∙ ap (λ xs. front ++ map (λ ms. table ms) (streams_members nodes (s ∷ drop (i + 1) ss) xs (drop i dests))) cut_i
    ∙ ap (λ xs. front ++ map (λ ms. table ms) (streams_members nodes (s ∷ drop (i + 1) ss) (get_or ids i d ∷ drop (i + 1) ids) xs)) cut_d)
    ∙ h

tables-depth : {A : Type 0} (f : A → Members) → ((x : A) → members_depth (f x) ≡ 0) → (xs : List A) → items_depth (items_of (map (λ x. table (f x)) xs)) ≤ 1
tables-depth f h [] = omega arith
tables-depth f h (x ∷ xs) = omega (arith, h x, tables-depth f h xs)

tables-dates : {A : Type 0} (f : A → Members) → ((x : A) → members_have_valid_dates (f x) ≡ true) → (xs : List A)
    → items_have_valid_dates (items_of (map (λ x. table (f x)) xs)) ≡ true
tables-dates f h [] = refl
tables-dates f h (x ∷ xs) = rw (h x, tables-dates f h xs) refl

node-depth : (domains : Bool) (x : NodeEntry) → members_depth (node_members domains x) ≡ 0
node-depth true x = refl
node-depth false x = refl

node-dates : (domains : Bool) (x : NodeEntry) → members_have_valid_dates (node_members domains x) ≡ true
node-dates true x = refl
node-dates false x = refl

event-depth : (nodes : List NodeEntry) (streams : List PlanStream) (e : PlanEvent) → members_depth (event_members nodes streams e) ≡ 0
event-depth nodes streams (Declare station vid) = refl
event-depth nodes streams (Talk stream) = refl
event-depth nodes streams (Listen station stream) = refl

event-dates : (nodes : List NodeEntry) (streams : List PlanStream) (e : PlanEvent) → members_have_valid_dates (event_members nodes streams e) ≡ true
event-dates nodes streams (Declare station vid) = refl
event-dates nodes streams (Talk stream) = refl
event-dates nodes streams (Listen station stream) = refl

streams-depth : (nodes : List NodeEntry) (ss : List PlanStream) (ids dests : List ℕ) → items_depth (items_of (map (λ ms. table ms) (streams_members nodes ss ids dests))) ≤ 1
streams-depth nodes [] ids dests = omega arith
streams-depth nodes (s ∷ ss) [] dests = omega arith
streams-depth nodes (s ∷ ss) (id ∷ ids) [] = omega arith
streams-depth nodes (s ∷ ss) (id ∷ ids) (dest ∷ dests) = omega (arith, streams-depth nodes ss ids dests)

streams-dates : (nodes : List NodeEntry) (ss : List PlanStream) (ids dests : List ℕ)
    → items_have_valid_dates (items_of (map (λ ms. table ms) (streams_members nodes ss ids dests))) ≡ true
streams-dates nodes [] ids dests = refl
streams-dates nodes (s ∷ ss) [] dests = refl
streams-dates nodes (s ∷ ss) (id ∷ ids) [] = refl
streams-dates nodes (s ∷ ss) (id ∷ ids) (dest ∷ dests) = streams-dates nodes ss ids dests

-- a plan's table is no deeper than what is read back
pub shallow : (p : NetworkPlan) → members_depth (expanded p) ≤ 80
shallow p =
    let nodes = tables-depth (node_members p.network.domains) (node-depth p.network.domains) p.network.nodes in
    let links = tables-depth (link_members p.network.nodes) (λ l. refl) p.network.links in
    let streams = streams-depth p.network.nodes p.streams (ids_of p.streams) (dests_of p.streams) in
    let events = tables-depth (event_members p.network.nodes p.streams) (event-depth p.network.nodes p.streams) (plan_events p) in
    omega (arith, nodes, links, streams, events)

-- and has no date
pub dateless : (p : NetworkPlan) → members_have_valid_dates (expanded p) ≡ true
dateless p =
    let nodes = tables-dates (node_members p.network.domains) (node-dates p.network.domains) p.network.nodes in
    let links = tables-dates (link_members p.network.nodes) (λ l. refl) p.network.links in
    let streams = streams-dates p.network.nodes p.streams (ids_of p.streams) (dests_of p.streams) in
    let events = tables-dates (event_members p.network.nodes p.streams) (event-dates p.network.nodes p.streams) (plan_events p) in
    rw (events, links, nodes, streams) refl
