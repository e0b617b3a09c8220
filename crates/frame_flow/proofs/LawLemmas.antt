-- What is true of every flow.
use Rattle.std.proofs.Common.{◌≡◌, ◌≢◌, ℕ, zero, suc, ◌<◌, Bool, false, cond, Option, Some, None, List, [], ◌∷◌, length, get_or, map, refl, sym, ◌∙◌, ap, subst, arith}
use Rattle.std.specs.Prelude.{All, AllPairs, Contains, filter, find, ◌==◌, not}
use Rattle.std.proofs.lemmas.{Bool.cond_both, Bool.cond-false, Bool.eqb-true, Bool.ne_eqb, Bool.and_left, Bool.and_right, Bool.not_from_true, List.Kept.AllPairs-filter, List.Elements.All-map, List.Elements.All-cons, List.Elements.All-filter, List.Elements.All-weaker, List.Elements.All-contains, List.Elements.Contains-get_or}
use Rattle.srp_base.proofs.Lists.{map-map}
use Rattle.credit_shaper.specs.declared.{shaper.Traffic.Traffic, port.Arrival.Arrival, port.Departure.Departure, port.PortInput.PortInput}
use Rattle.srp_base.specs.declared.ports.PortChange.{PortChange}
use Rattle.tree_topology.specs.{PortLaws.HasPortLaws, Topology.HasPort}
use Rattle.credit_shaper.specs.{Port.IsPortInput, Port.is_of, Departures.sent_of, Departures.left_of, Departures.departs_as, Departures.DepartInOrder}
use Rattle.frame_flow.specs.{Fate, Unbooked, NoVlan, FrameCopy, PortFlow, Place, changes_at, has_vid, all_places, arriving, Setting, IsFlow, port_flow, force_on, fate_of, port_input, is_unbooked, may_send, sent_fate, arrival_of, IsSetting, arriving_numbers, fate_numbers, AreDifferent, departures_numbered, IsOutcome, HasOutcomes}
use Rattle.frame_flow.proofs.{SlopeLemmas.port-input, LevelLemmas.places-are, OnceLemmas.DifferFates, OnceLemmas.DifferCopies, OnceLemmas.once-each, OnceLemmas.once-copies, CopyLemmas.All-find, DepartureFacts.HasTraffic, DepartureFacts.DifferDepartures, DepartureFacts.sent-known, DepartureFacts.sent-apart, DepartureFacts.none-of, DepartureFacts.unfound, DepartureFacts.found-only}
use Rattle.credit_shaper.proofs.PairLemmas.{AllPairs-map, pairs-head, pairs-tail}

map-along : {X Y : Type 0} (f g : X → Y) → ((x : X) → f x ≡ g x) → (xs : List X) → map f xs ≡ map g xs
map-along f g each [] = refl
map-along {X} {Y} f g each (x ∷ xs) = ap (λ (t : Y). t ∷ map f xs) (each x) ∙ ap (λ (t : List Y). g x ∷ t) (map-along f g each xs)

-- what holds of what each port's flow is made of holds of each flow
pub each-flow : (P : PortFlow → Type 0) (s : Setting) (flows : List PortFlow) → IsFlow s flows
    → ((place : Place) → Contains (all_places s.tree.links s.rates) place → P (port_flow s flows place)) → All P flows
each-flow P s flows is each =
    let places = all_places s.tree.links s.rates in
    subst (λ (t : List PortFlow). All P t) (sym is.each)
    (All-map P (port_flow s flows) places (λ k d below. each (get_or places k d) (Contains-get_or places k d below)))

numbers-of : (s : Setting) (flows : List PortFlow) (place : Place) → fate_numbers (port_flow s flows place) ≡ arriving_numbers s flows place
numbers-of s flows place =
    let copies = arriving s.tree.links s.frames s.ticks flows place in
    let changes = changes_at s.changes place.at in
    let sent = sent_of (port_input s.ticks place.rate changes copies) in
    map-map (λ (e : ℕ × Fate). e.0) (λ (c : FrameCopy). (c.frame.number, fate_of (force_on place.rate changes c) sent c)) copies

pub numbers_each : (s : Setting) (flows : List PortFlow) → IsFlow s flows → map fate_numbers flows ≡ map (arriving_numbers s flows) (all_places s.tree.links s.rates)
numbers_each s flows is =
    let places = all_places s.tree.links s.rates in
    ap (λ (t : List PortFlow). map fate_numbers t) is.each
    ∙ map-map fate_numbers (port_flow s flows) places
    ∙ map-along (λ place. fate_numbers (port_flow s flows place)) (arriving_numbers s flows) (numbers-of s flows) places

pub numbers_once : (s : Setting) → IsSetting s → HasPortLaws s.tree → (flows : List PortFlow) → IsFlow s flows → All (λ x. AreDifferent (fate_numbers x)) flows
numbers_once s given laws flows is =
    let ports = places-are s.tree s.rates laws in
    each-flow (λ x. AreDifferent (fate_numbers x)) s flows is
    (λ place there.
    let once = once-each s given laws flows is place (All-contains (λ x. HasPort s.tree x.at) (all_places s.tree.links s.rates) place ports there) in
    AllPairs-map DifferFates (λ a b. a ≢ b) (λ e. e.0) (λ a b ne. ne) (port_flow s flows place).fates once.numbers)

pub inputs_valid : (s : Setting) → IsSetting s → (flows : List PortFlow) → IsFlow s flows → All (λ x. IsPortInput x.input) flows
inputs_valid s given flows is =
    each-flow (λ x. IsPortInput x.input) s flows is
    (λ place there. port-input s given flows place there (changes_at s.changes place.at) (arriving s.tree.links s.frames s.ticks flows place) refl refl)

-- ---- a copy departs once where that is its fate, and else never

-- the copies that pass a test are other ones than one that doesn't
others : (test : FrameCopy → Bool) (cs : List FrameCopy) (k : ℕ) (d : FrameCopy) → k < length cs → AllPairs DifferCopies cs → test (get_or cs k d) ≡ false
    → All (λ x. x.frame.number ≢ (get_or cs k d).frame.number) (filter test cs)
others test [] k d below apart nay = absurd (omega (arith, below))
others test (c ∷ cs) zero d below apart nay =
    let P : FrameCopy → Type 0 = λ x. x.frame.number ≢ c.frame.number in
    subst (λ (t : List FrameCopy). All P t) (sym (cond-false (test c) (c ∷ filter test cs) (filter test cs) nay))
    (All-filter test P cs (All-weaker (DifferCopies c) P (λ x ne e. ne (sym e)) cs (pairs-head DifferCopies c cs apart)))
others test (c ∷ cs) (suc k) d below apart nay =
    let P : FrameCopy → Type 0 = λ x. x.frame.number ≢ (get_or cs k d).frame.number in
    let few : k < length cs = omega (arith, below) in
    let rest = others test cs k d few (pairs-tail DifferCopies c cs apart) nay in
    cond_both (test c) (c ∷ filter test cs) (filter test cs) (λ t. All P t)
    (λ e. All-cons P c (filter test cs) (pairs-head DifferCopies c cs apart k d few) rest) (λ e. rest)

-- what doesn't arrive doesn't depart
not-sent : (xs : List Arrival) (ds : List Departure) (n : ℕ) → All (λ d. HasTraffic xs d.frame d.traffic) ds → All (λ x. x.frame ≢ n) xs → filter (λ d. d.frame == n) ds ≡ []
not-sent xs ds n known absent =
    none-of n ds (λ k d below.
    let e = get_or ds k d in
    let has = known k d below in
    ne_eqb e.frame n (λ same.
    let there = All-find (λ x. x.frame ≢ n) (λ y. y.frame == e.frame) xs has.0 absent has.1 in
    there.0 (eqb-true has.0.frame e.frame there.1 ∙ same)))

sent-outcome : (input : PortInput) (n : ℕ) (o : Option Departure) → find (λ d. d.frame == n) (sent_of input) ≡ o → AllPairs DifferDepartures (sent_of input) → IsOutcome input n (sent_fate o)
sent-outcome input n None e apart = unfound n (sent_of input) e
sent-outcome input n (Some d) e apart = (d, found-only n (sent_of input) d apart e, refl, refl)

outcome : (input : PortInput) (force : Option PortChange) (c : FrameCopy) → AllPairs DifferDepartures (sent_of input)
    → (may_send c force ≡ false → departures_numbered input c.frame.number ≡ []) → IsOutcome input c.frame.number (fate_of force (sent_of input) c)
outcome input force c apart none =
    let n = c.frame.number in
    let u = is_unbooked c.frame.route force in
    let v = has_vid c.frame.vid force in
    let sent = sent_fate (find (λ d. d.frame == n) (sent_of input)) in
    let P : Fate → Type 0 = λ f. IsOutcome input n f in
    cond_both u Unbooked (cond v sent NoVlan) P (λ is. none (and_left (not u) v (not_from_true u is)))
    (λ booked. cond_both v sent NoVlan P (λ is. sent-outcome input n (find (λ d. d.frame == n) (sent_of input)) refl apart) (λ nay. none (and_right (not u) v nay)))

port-outcomes : (s : Setting) → IsSetting s → HasPortLaws s.tree → (flows : List PortFlow) → IsFlow s flows
    → ((input : PortInput) (traffic : Traffic) → IsPortInput input
    → DepartInOrder (filter (is_of traffic) input.arrivals) (filter (departs_as traffic) (sent_of input)) (filter (is_of traffic) (left_of input)))
    → (place : Place) → Contains (all_places s.tree.links s.rates) place → HasOutcomes (port_flow s flows place)
port-outcomes s given laws flows is order place there =
    let copies = arriving s.tree.links s.frames s.ticks flows place in
    let changes = changes_at s.changes place.at in
    let input = port_input s.ticks place.rate changes copies in
    let sent = sent_of input in
    let may : FrameCopy → Bool = λ c. may_send c (force_on place.rate changes c) in
    let port = All-contains (λ x. HasPort s.tree x.at) (all_places s.tree.links s.rates) place (places-are s.tree s.rates laws) there in
    let valid = port-input s given flows place there changes copies refl refl in
    let apart = once-copies s given laws flows is place port in
    let arrivals : AllPairs (λ x y. x.frame ≢ y.frame) input.arrivals =
    AllPairs-map DifferCopies (λ x y. x.frame ≢ y.frame) arrival_of (λ x y ne. ne) (filter may copies) (AllPairs-filter DifferCopies may copies apart) in
    let left : Traffic → List Arrival = λ t. filter (is_of t) (left_of input) in
    let sequence = λ (t : Traffic). order input t valid in
    let known = sent-known input.arrivals sent left arrivals sequence in
    let alone = sent-apart input.arrivals sent left arrivals sequence in
    All-map (λ e. IsOutcome input e.0 e.1) (λ c. (c.frame.number, fate_of (force_on place.rate changes c) sent c)) copies
    (λ k d below.
    let c = get_or copies k d in
    outcome input (force_on place.rate changes c) c alone
    (λ nay. not-sent input.arrivals sent c.frame.number known
    (All-map (λ x. x.frame ≢ c.frame.number) arrival_of (filter may copies) (others may copies k d below apart nay))))

pub outcomes : (s : Setting) → IsSetting s → HasPortLaws s.tree
    → ((input : PortInput) (traffic : Traffic) → IsPortInput input
    → DepartInOrder (filter (is_of traffic) input.arrivals) (filter (departs_as traffic) (sent_of input)) (filter (is_of traffic) (left_of input)))
    → (flows : List PortFlow) → IsFlow s flows → All HasOutcomes flows
outcomes s given laws order flows is = each-flow HasOutcomes s flows is (λ place there. port-outcomes s given laws flows is order place there)
