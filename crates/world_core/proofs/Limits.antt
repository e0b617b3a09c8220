-- Each port stays set up as its link's entry has it, so that what it books is within what the entry allows.
use Rattle.std.proofs.Common.{◌≡◌, ℕ, zero, suc, ◌+◌, ◌-◌, ◌*◌, ◌≤◌, Bool, true, false, ◌||◌, if◌then◌else◌, List, [], ◌∷◌, ◌++◌, map, filter, refl, sym, ap, subst, ◌∙◌, arith}
use Rattle.std.specs.Prelude.{slice_get, slice_set, Option, Some, None, option_map, ◌==◌}
use Rattle.std.specs.Option.{option_map_or}
use Rattle.std.specs.List.{AllByRecursion}
use Rattle.srp_base.proofs.{Options.one_some, Lists.at_each, Lists.within}
use Rattle.srp_base.specs.declared.{numbers.Cs.Cs, numbers.BridgeId.BridgeId, bandwidth.Class.Class, bandwidth.Class.TheVariants.A, bandwidth.Class.TheVariants.B, ports.PortSetup.PortSetup, mrp.App.App, mrp.App.TheVariants.Mvrp, mrp.App.TheVariants.Msrp}
use Rattle.stream_importance.specs.declared.slope.Caps.{Caps}
use Rattle.port_ledger.specs.Book.{Book, IsKept as IsKeptBook, booked_slope}
use Rattle.tree_topology.specs.Topology.{HasPort}
use Rattle.topology_file.specs.declared.entries.{LinkEntry.LinkEntry, NodeEntry.NodeEntry}
use Rattle.topology_file.specs.Plan.{Plan}
use Rattle.attribute_propagation.specs.Ports.{place_of}
use Rattle.attribute_propagation.proofs.Lists.{set_at}
use Rattle.msrp.specs.declared.domain.DomainSet.{DomainSet}
use Rattle.msrp.specs.{PortState.PortState, Proper.Setup, Proper.setup_of as port_setup, Side.IsPort, Side.new_port}
use Rattle.node_core.specs.declared.types.NodeEvent.{NodeEvent}
use Rattle.node_core.specs.declared.types.NodeEvent.TheVariants as node_events
use Rattle.node_core.specs.{Links.spoilt_at, Proper.port_setups, State.NodeState, State.slope_at, Step.node_step}
use Rattle.world_core.specs.{WorldEvent, Request, Port as PortEvent, Lose, Repeat, Forge, Carry, Clock, IsKeptWorld, is_link_of, links_of, caps_of_link, no_caps, caps_at, booked_at_port, IsWithinLimits, domain_set, setup_of, end_setup, setups_from, world_of, WorldState}
use Rattle.world_core.proofs.{Beginnings.new_at, EachNode.AllNodes, EachNode.IsOfSides, EachNode.KeepsOwn, Keeping.base_kept, Nodes.node_there, Nodes.place_within, Nodes.proper_at, StreamSteps.calling, StreamSteps.spoilt_is, Views.unsound}

-- what the ports of a node may give away, by how they are set up
abbrev caps_in : NodeState → List Caps
caps_in s = map (λ (c : Setup). c.caps) (port_setups s)

-- the ports of the node at a place are those of its links
abbrev pub HasCapsOfLinks : Plan → ℕ → List Setup → Type 0
HasCapsOfLinks plan x setups = map (λ (c : Setup). c.caps) setups ≡ map caps_of_link (links_of (x + 1) plan)

-- the ports of the node at a place are set up so
abbrev pub AreSetUp : (ℕ → List Setup → Type 0) → ℕ → NodeState → Type 0
AreSetUp how x s = how x (port_setups s)

abbrev pub IsSetUp : Plan → ℕ → NodeState → Type 0
IsSetUp plan = AreSetUp (HasCapsOfLinks plan)

-- ---- it stays

-- nothing of the elements that are told differs
map_set_at : {X Y : Type 0} (h : X → Y) (at : ℕ) (g : X → X) (xs : List X) → ((x : X) → h (g x) ≡ h x) → map h (set_at at g xs) ≡ map h xs
map_set_at h at g [] same = refl
map_set_at h zero g (x ∷ xs) same = ap (λ y. y ∷ map h xs) (same x)
map_set_at {X = X} {Y = Y} h (suc at) g (x ∷ xs) same = by (slice_get xs at) (map_set_at h at g xs same)
  where
    by : (o : Option X) → map h (option_map_or (λ y. slice_set xs at (g y)) o xs) ≡ map h xs
        → map h (option_map_or (λ y. x ∷ slice_set xs at (g y)) o (x ∷ xs)) ≡ h x ∷ map h xs
    by None e = refl
    by (Some y) e = ap (λ ys. h x ∷ ys) e

spoilt_setups : (app : App) (at : ℕ) (s : NodeState) → port_setups (spoilt_at app at s) ≡ port_setups s
spoilt_setups Mvrp at s = refl
spoilt_setups Msrp at s =
    ap (map port_setup) (spoilt_is at s.streams)
    ∙ map_set_at port_setup at (calling unsound) s.streams.ports (λ p. refl)

pub set_up_sides : (how : ℕ → List Setup → Type 0) → IsOfSides (AreSetUp how)
set_up_sides how =
    record { boxes = λ x s ins outs h. h; marks = λ app at x s h. subst (how x) (sym (spoilt_setups app at s)) h }

-- the steps of a node leave its ports set up
pub set_up_own : ((event : NodeEvent) (s : NodeState) → port_setups (node_step event s).0 ≡ port_setups s) → (how : ℕ → List Setup → Type 0) (e : WorldEvent) (w : WorldState) → KeepsOwn (AreSetUp how) e w
set_up_own same how (Request n request) w = λ s is h. subst (how (n.0 - 1)) (sym (same (node_events.Request request) s)) h
set_up_own same how (PortEvent n port step) w = λ s is h. subst (how (n.0 - 1)) (sym (same (node_events.Port port step) s)) h
set_up_own same how (Lose p index) w = tt
set_up_own same how (Repeat p index) w = tt
set_up_own same how (Forge p index wire) w = tt
set_up_own same how (Carry p) w = tt
set_up_own same how Clock w = λ x s is h. subst (how x) (sym (same node_events.Clock s)) h

-- ---- at the start

one_end : (n x : ℕ) (l : LinkEntry) (rest : List PortSetup) (links : List LinkEntry) (bridge : BridgeId) (leave_time : Cs) (periodic : Bool) (domain : DomainSet)
    → map (λ (c : Setup). c.caps) (map port_setup (map (new_port bridge leave_time periodic domain) rest)) ≡ map caps_of_link (filter (is_link_of x) links)
    → map (λ (c : Setup). c.caps) (map port_setup (map (new_port bridge leave_time periodic domain) (end_setup n x l ++ rest))) ≡ map caps_of_link (filter (is_link_of x) (l ∷ links))
one_end n x l rest links bridge leave_time periodic domain e = by (l.a.0 == x) (l.b.0 == x)
  where
    by : (a b : Bool)
        → map (λ (c : Setup). c.caps) (map port_setup (map (new_port bridge leave_time periodic domain)
        ((if a then setup_of (2 * n - 1) l ∷ [] else if b then setup_of (2 * n) l ∷ [] else []) ++ rest)))
        ≡ map caps_of_link (if a || b then l ∷ filter (is_link_of x) links else filter (is_link_of x) links)
    by true b = ap (λ cs. caps_of_link l ∷ cs) e
    by false true = ap (λ cs. caps_of_link l ∷ cs) e
    by false false = e

caps_of_setups : (n x : ℕ) (links : List LinkEntry) (bridge : BridgeId) (leave_time : Cs) (periodic : Bool) (domain : DomainSet)
    → map (λ (c : Setup). c.caps) (map port_setup (map (new_port bridge leave_time periodic domain) (setups_from n x links))) ≡ map caps_of_link (filter (is_link_of x) links)
caps_of_setups n x [] bridge leave_time periodic domain = refl
caps_of_setups n x (l ∷ links) bridge leave_time periodic domain =
    one_end n x l (setups_from (n + 1) x links) links bridge leave_time periodic domain (caps_of_setups (n + 1) x links bridge leave_time periodic domain)

pub set_up_start : (plan : Plan) → AllNodes (IsSetUp plan) (world_of plan)
set_up_start plan x s get =
    let new = new_at plan plan.nodes 1 x s get in
    let number = new.number_is in
    let place : new.number ≡ x + 1 = omega (arith, number) in
    ap caps_in new.is ∙ (caps_of_setups 1 new.number plan.links new.entry.id plan.leave_time plan.periodic (domain_set plan.domains new.entry.domain)
    ∙ ap (λ (k : ℕ). map caps_of_link (links_of k plan)) place)

-- ---- bookings are within the caps

got_map : {X Y : Type 0} (f : X → Y) (xs : List X) (i : ℕ) → slice_get (map f xs) i ≡ option_map f (slice_get xs i)
got_map f [] i = refl
got_map f (x ∷ xs) zero = refl
got_map f (x ∷ xs) (suc i) = got_map f xs i

-- the caps of a port by how it is set up
port_caps : (ports : List PortState) (i : ℕ) (p : PortState) → slice_get ports i ≡ Some p
    → slice_get (map (λ (c : Setup). c.caps) (map port_setup ports)) i ≡ Some p.ledger.caps
port_caps [] i p is = cc
port_caps (q ∷ ports) zero p is = let same : q ≡ p = cc in ap (λ (x : PortState). Some x.ledger.caps) same
port_caps (q ∷ ports) (suc i) p is = port_caps ports i p is

-- a port's caps are those of its link
caps_are : (o : Option LinkEntry) (c : Caps) → Some c ≡ option_map caps_of_link o → option_map_or caps_of_link o no_caps ≡ c
caps_are None c e = cc
caps_are (Some l) c e = cc

-- what the public law of ledgers says
pub record CapLaws : Type 0 where
  pub class_a : (book : Book) → IsKeptBook book → booked_slope book.entries A ≤ book.caps.class_a
  pub both : (book : Book) → IsKeptBook book → booked_slope book.entries A + booked_slope book.entries B ≤ book.caps.both

pub within_limits : CapLaws → (plan : Plan) (w : WorldState) → w.tree ≡ plan.tree → IsKeptWorld w → AllNodes (IsSetUp plan) w → IsWithinLimits plan w
within_limits laws plan w tree kept set_up p has =
    let on : HasPort w.tree p = subst (λ t. HasPort t p) (sym tree) has in
    let base = base_kept w kept in
    let node = node_there w base p on in
    let s = node.0 in
    let proper = proper_at w base p.node s node.1 in
    let below = place_within w base p on s node.1 in
    let ports = proper.kept.same_ports in
    let port = within s.streams.ports (place_of p.port) (omega (arith, below, ports)) in
    let book = (at_each (IsPort s.streams.moment) s.streams.ports proper.kept.streams.ports (place_of p.port) port.0 port.1).ledger in
    let some = has.0.0 in
    let number : p.node.0 - 1 + 1 ≡ p.node.0 = omega (arith, some) in
    let caps : caps_at plan p ≡ port.0.ledger.caps =
    ap (λ (k : ℕ). option_map_or caps_of_link (slice_get (links_of k plan) (place_of p.port)) no_caps) (sym number)
    ∙ caps_are (slice_get (links_of (p.node.0 - 1 + 1) plan) (place_of p.port)) port.0.ledger.caps
    (sym (port_caps s.streams.ports (place_of p.port) port.0 port.1)
    ∙ (ap (λ cs. slice_get cs (place_of p.port)) (set_up (p.node.0 - 1) s node.1)
    ∙ got_map caps_of_link (links_of (p.node.0 - 1 + 1) plan) (place_of p.port))) in
    let slope : (class : Class) → booked_at_port class p w ≡ booked_slope port.0.ledger.entries class =
    λ class. ap (λ (o : Option NodeState). option_map_or (slope_at class (place_of p.port)) o 0) node.1
    ∙ ap (λ (o : Option PortState). option_map_or (λ (q : PortState). booked_slope q.ledger.entries class) o 0) port.1 in
    let a = slope A in
    let b = slope B in
    let first = laws.class_a port.0.ledger book in
    let second = laws.both port.0.ledger book in
    let cap_a = ap (λ (c : Caps). c.class_a) caps in
    let cap_both = ap (λ (c : Caps). c.both) caps in
    record { class_a = omega (arith, a, first, cap_a); both = omega (arith, a, b, second, cap_both) }

-- ---- at every moment

-- a port of a new node declares the Domain values of its word
domains_of : (domain : DomainSet) (bridge : BridgeId) (leave_time : Cs) (periodic : Bool) (ports : List PortSetup)
    → AllByRecursion (λ (c : Setup). c.domain ≡ domain) (map port_setup (map (new_port bridge leave_time periodic domain) ports))
domains_of domain bridge leave_time periodic [] = tt
domains_of domain bridge leave_time periodic (p ∷ ports) = (refl, domains_of domain bridge leave_time periodic ports)

-- the ports of a node declare those of its entry's word
abbrev pub HasDomainsOfWord : Plan → ℕ → List Setup → Type 0
HasDomainsOfWord plan x setups =
    (entry : NodeEntry) → slice_get plan.nodes x ≡ Some entry → AllByRecursion (λ (c : Setup). c.domain ≡ domain_set plan.domains entry.domain) setups

pub domains_start : (plan : Plan) → AllNodes (AreSetUp (HasDomainsOfWord plan)) (world_of plan)
domains_start plan x s get entry there =
    let new = new_at plan plan.nodes 1 x s get in
    let same : new.entry ≡ entry = one_some (slice_get plan.nodes x) new.entry entry new.at there in
    subst (λ (e : NodeEntry). AllByRecursion (λ (c : Setup). c.domain ≡ domain_set plan.domains e.domain) (port_setups s)) same
    (subst (λ (r : NodeState). AllByRecursion (λ (c : Setup). c.domain ≡ domain_set plan.domains new.entry.domain) (port_setups r)) (sym new.is)
    (domains_of (domain_set plan.domains new.entry.domain) new.entry.id plan.leave_time plan.periodic (setups_from 1 new.number plan.links)))
