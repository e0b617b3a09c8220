-- Each port comes after those that send into its node, and all are listed in their order.
use Rattle.std.proofs.Common.{◌≡◌, ℕ, zero, suc, ◌+◌, ◌<◌, inl, inr, Bool, true, false, List, [], ◌∷◌, ◌++◌, length, get_or, take, map, Option, Some, refl, sym, ◌∙◌, ap, subst, arith, append-nil}
use Rattle.std.specs.Prelude.{All, Contains, filter, filter_map}
use Rattle.std.specs.List.{range_with_len, cons_option, Sorted.IsNonDecreasingBy}
use Rattle.std.proofs.lemmas.{Bool.cond-true, Bool.cond-false, Bool.cases_Bool, Bool.cases_lt, Bool.false≢true, List.map-append, List.take_more, List.get_or-take, List.length-take-le, List.Elements.All-head, List.Elements.All-tail, List.Elements.All-map, List.Elements.All-push, List.Elements.All-weaker, List.Elements.All-contains, List.Elements.All-contains_itself, List.Elements.Contains-get_or, List.Elements.Contains-append_right, List.Elements.filter-append, List.Elements.filter_map-append, List.Sorted.All-permutation, List.Sorted.Contains-permutation}
use Rattle.srp_base.proofs.Lists.{range-push}
use Rattle.srp_base.specs.declared.{numbers.EgressPort.EgressPort, bandwidth.Rate.Rate}
use Rattle.tree_topology.specs.{Topology.Topology, Topology.HasPort, Topology.IsSound, PortLaws.HasPortLaws}
use Rattle.frame_flow.specs.declared.place.Place.{Place}
use Rattle.frame_flow.specs.{Force.is_port, Copies.all_places, Copies.port_of, Levels.level_at, Levels.level_of}
use Rattle.frame_flow.proofs.{LevelLemmas.same-port, LevelLemmas.port-itself, LevelLemmas.places-are, CopyLemmas.All-filter_map}
use Rattle.delay_flow.specs.Places.{place_at}
use Rattle.delay_flow.proofs.Places.{listed}
use Rattle.delay_flow.proofs.Sums.{contains-map}
use Rattle.class_delays.specs.declared.{places.Ranked.Ranked, delays.PortDelays.PortDelays}
use Rattle.class_delays.specs.{ClassSetting, delays_at, rate_at, place_of, ListsFed, IsReckoned, ranked_place, AreRanked, AreReckoned, AreBefore, AreThere, AreAllThere}
use Rattle.class_delays.proofs.Finds.{some-found}
use Rattle.class_delays.proofs.Entries.{at-port, Goes, goes-on, reckoned-goes}
use Rattle.class_delays.proofs.Comings.{lists-fed}
use Rattle.class_delays.proofs.Rates.{rates-are}

-- ---- lists

-- what is read within a list is the same by any default
same-read : {X : Type 0} (xs : List X) (i : ℕ) (d e : X) → i < length xs → get_or xs i d ≡ get_or xs i e
same-read [] i d e below = absurd (omega (arith, below))
same-read (x ∷ xs) zero d e below = refl
same-read (x ∷ xs) (suc i) d e below = same-read xs i d e (omega (arith, below))

contains-rest : {X : Type 0} (y : X) (ys : List X) (x : X) → Contains (y ∷ ys) x → (y ≡ x → ⊥) → Contains ys x
contains-rest y ys x (zero, below, same) other = absurd (other same)
contains-rest y ys x (suc k, below, same) other = (k, omega (arith, below), same)

-- a list through a function with one element more
pub in-more : {X Y : Type 0} (h : X → Option Y) (xs : List X) (i : ℕ) (d : X) (before after : List Y) → i < length xs → before ≡ filter_map h (take i xs)
    → after ≡ before ++ filter_map h (get_or xs i d ∷ []) → after ≡ filter_map h (take (i + 1) xs)
in-more {X} {Y} h xs i d before after below one two =
    two ∙ ap (λ (t : List Y). t ++ filter_map h (get_or xs i d ∷ [])) one
    ∙ sym (ap (λ (t : List X). filter_map h t) (take_more xs i d below) ∙ filter_map-append h (take i xs) (get_or xs i d ∷ []))

ports-push : (x k : ℕ) → map (port_of x) (range_with_len 1 (k + 1)) ≡ map (port_of x) (range_with_len 1 k) ++ port_of x (k + 1) ∷ []
ports-push x k =
    ap (map (port_of x)) (range-push 1 k) ∙ map-append (port_of x) (range_with_len 1 k) ((1 + k) ∷ [])
    ∙ ap (λ (n : ℕ). map (port_of x) (range_with_len 1 k) ++ port_of x n ∷ []) (let e : 1 + k ≡ k + 1 = omega arith in e)

-- ---- the next port

abbrev pub Found : List PortDelays → EgressPort → Type 0
Found ports p = (e : PortDelays) × (delays_at ports p ≡ Some e)

-- what is known of a port in order of level
pub record IsPlaced (a : ClassSetting) (x : Ranked) : Type 0 where
  pub level : x.level ≡ level_of a.setting.tree x.place
  pub port : HasPort a.setting.tree x.place.at
  pub rate : x.place.rate ≡ rate_at a.setting x.place.at

pub are-placed : (a : ClassSetting) → HasPortLaws a.setting.tree → IsSound a.setting.tree → (places : List Place) (xs : List Ranked) → places ≡ all_places a.setting.tree.links a.setting.rates
    → AreRanked a.setting.tree places xs → All (IsPlaced a) xs
are-placed a laws sound places xs all ranked =
    let s = a.setting in
    let every = all_places s.tree.links s.rates in
    let P : Place → Type 0 = λ x. IsPlaced a (ranked_place s.tree x) in
    let each : All P every =
    λ k d below. record { level = refl; port = places-are s.tree s.rates laws k d below; rate = rates-are s laws sound k d below } in
    All-permutation (IsPlaced a) (map (ranked_place s.tree) places) xs ranked
    (All-map (IsPlaced a) (ranked_place s.tree) places (subst (λ (t : List Place). All P t) (sym all) each))

pub before-there : (a : ClassSetting) → HasPortLaws a.setting.tree → IsSound a.setting.tree → (places : List Place) (xs : List Ranked) → places ≡ all_places a.setting.tree.links a.setting.rates
    → AreRanked a.setting.tree places xs → IsNonDecreasingBy (λ x. x.level) xs → (ports : List PortDelays) (i : ℕ) (d : Ranked) → i < length xs
    → AreThere (take i xs) ports → AreBefore a ports (get_or xs i d).place.at
before-there a laws sound places xs all ranked up ports i d below there q port_q less =
    let s = a.setting in
    let tree = s.tree in
    let p = (get_or xs i d).place.at in
    let placed = are-placed a laws sound places xs all ranked in
    let mine = placed i d below in
    let place = place_at (rate_at s) q in
    let y = ranked_place tree place in
    let every = subst (λ (t : List Place). Contains t place) (sym all) (listed s laws (rate_at s) (rates-are s laws sound) q port_q) in
    let has = Contains-permutation (map (ranked_place tree) places) xs y ranked (contains-map (ranked_place tree) places place every) in
    let j = has.0 in
    elim (cases_lt j i) [
      | inl before ↦ (
          let few : j < length (take i xs) = omega (arith, before, below, length-take-le i xs (omega (arith, below))) in
          let same : get_or (take i xs) j y ≡ y = get_or-take i xs j y before ∙ has.2 in
          All-contains (λ (t : Ranked). Found ports t.place.at) (take i xs) y there (j, few, same))
      | inr after ↦ absurd (
          let rise = up i j y (omega (arith, after)) has.1 in
          let here : (get_or xs i y).level ≡ level_at tree p =
          ap (λ (t : Ranked). t.level) (same-read xs i y d below) ∙ mine.level in
          let there_level : (get_or xs j y).level ≡ level_at tree q = ap (λ (t : Ranked). t.level) has.2 in
          omega (arith, rise, here, there_level, less))
    ]

pub there-more : (xs : List Ranked) (ports more : List PortDelays) (i : ℕ) (d : Ranked) (e : PortDelays) → i < length xs → e.at ≡ (get_or xs i d).place.at → more ≡ ports ++ e ∷ []
    → AreThere (take i xs) ports → AreThere (take (i + 1) xs) more
there-more xs ports more i d e below same made there =
    let x = get_or xs i d in
    let next = ports ++ e ∷ [] in
    let p = x.place.at in
    let T : List PortDelays → Ranked → Type 0 = λ ps y. Found ps y.place.at in
    let test : PortDelays → Bool = λ t. is_port t.at p in
    let here : Found next p = some-found test next e (Contains-append_right ports (e ∷ []) e (zero, omega arith, refl))
    (subst (λ (q : EgressPort). is_port q p ≡ true) (sym same) (port-itself p)) in
    let all = All-push (T next) (take i xs) x
    (All-weaker (T ports) (T next) (λ y h. (h.0, goes-on ports e y.place.at h.0 h.1)) (take i xs) there) here in
    subst (λ (ps : List PortDelays). All (T ps) (take (i + 1) xs)) (sym made)
    (subst (λ (ys : List Ranked). All (T next) ys) (sym (take_more xs i d below)) all)

pub all-there : (tree : Topology) (places : List Place) (xs : List Ranked) (ports : List PortDelays) → AreRanked tree places xs → AreThere xs ports → AreAllThere places ports
all-there tree places xs ports ranked there k d below =
    let x = get_or places k d in
    let y = ranked_place tree x in
    let has = Contains-permutation (map (ranked_place tree) places) xs y ranked (contains-map (ranked_place tree) places x (Contains-get_or places k d below)) in
    All-contains (λ (t : Ranked). Found ports t.place.at) xs y there has

-- ---- in the order of the places

abbrev pub in_places : List PortDelays → List Place → List PortDelays
in_places ports places = filter_map (λ x. delays_at ports x.at) places

found-cons : (ports : List PortDelays) (x : Place) (xs : List Place) (e : PortDelays) → delays_at ports x.at ≡ Some e → in_places ports (x ∷ xs) ≡ e ∷ in_places ports xs
found-cons ports x xs e is = ap (λ (o : Option PortDelays). cons_option o (in_places ports xs)) is

-- what is found of what is listed
listed-found : (ports : List PortDelays) (places : List Place) → AreAllThere places ports → (q : EgressPort) (x : Place) → Contains places x → x.at ≡ q
    → delays_at (in_places ports places) q ≡ delays_at ports q
listed-found ports [] all q x (k, below, same) at = absurd (omega (arith, below))
listed-found ports (y ∷ ys) all q x has at =
    let T : Place → Type 0 = λ t. Found ports t.at in
    let some = All-head T y ys all in
    let e = some.0 in
    let same = (at-port ports y.at e some.1).0 in
    let rest = in_places ports ys in
    let step = ap (λ (ps : List PortDelays). delays_at ps q) (found-cons ports y ys e some.1) in
    elim (cases_Bool (is_port e.at q)) [
      | inl is ↦ (
          let to : y.at ≡ q = sym same ∙ same-port e.at q is in
          step ∙ cond-true (is_port e.at q) (Some e) (delays_at rest q) is ∙ sym some.1 ∙ ap (delays_at ports) to)
      | inr nay ↦ step ∙ cond-false (is_port e.at q) (Some e) (delays_at rest q) nay
          ∙ listed-found ports ys (All-tail T y ys all) q x (contains-rest y ys x has (λ e_is. false≢true (sym nay
          ∙ subst (λ (t : EgressPort). is_port t q ≡ true) (sym (same ∙ ap (λ (t : Place). t.at) e_is ∙ at)) (port-itself q)))) at
    ]

listed-places : (a : ClassSetting) (ports : List PortDelays) → AreReckoned a ports → (places : List Place) → AreAllThere places ports → All (λ x. x.rate ≡ rate_at a.setting x.at) places
    → map place_of (in_places ports places) ≡ places
listed-places a ports reckoned [] all rates = refl
listed-places a ports reckoned (x ∷ xs) all rates =
    let T : Place → Type 0 = λ t. Found ports t.at in
    let R : Place → Type 0 = λ t. t.rate ≡ rate_at a.setting t.at in
    let some = All-head T x xs all in
    let e = some.0 in
    let h = at-port ports x.at e some.1 in
    let is = All-contains (IsReckoned a ports) ports e reckoned h.1 in
    let to : EgressPort → Rate → Place = λ p r. record { at = p; rate = r } in
    let one : place_of e ≡ x =
    ap (to e.at) is.entry.rate ∙ ap (λ (p : EgressPort). to p (rate_at a.setting p)) h.0 ∙ ap (to x.at) (sym (All-head R x xs rates)) in
    ap (map place_of) (found-cons ports x xs e some.1)
    ∙ ap (λ (p : Place). p ∷ map place_of (in_places ports xs)) one
    ∙ ap (λ (ps : List Place). x ∷ ps) (listed-places a ports reckoned xs (All-tail T x xs all) (All-tail R x xs rates))

-- all of it
pub record IsListed (a : ClassSetting) (listed : List PortDelays) : Type 0 where
  pub places : map place_of listed ≡ all_places a.setting.tree.links a.setting.rates
  pub reckoned : AreReckoned a listed
  pub fed : All (ListsFed a) listed
  pub there : (p : EgressPort) → HasPort a.setting.tree p → Found listed p

pub is-listed : (a : ClassSetting) → HasPortLaws a.setting.tree → IsSound a.setting.tree → (ports : List PortDelays) (places : List Place) (out : List PortDelays)
    → places ≡ all_places a.setting.tree.links a.setting.rates → AreReckoned a ports → AreAllThere places ports → out ≡ in_places ports places → IsListed a out
is-listed a laws sound ports places out all reckoned there made =
    let s = a.setting in
    let every = all_places s.tree.links s.rates in
    let there_all : AreAllThere every ports = subst (λ (t : List Place). AreAllThere t ports) all there in
    let is : out ≡ in_places ports every = made ∙ ap (in_places ports) all in
    let rates = rates-are s laws sound in
    let new = in_places ports every in
    let look : (p : EgressPort) → HasPort s.tree p → delays_at new p ≡ delays_at ports p =
    λ p port. listed-found ports every there_all p (place_at (rate_at s) p) (listed s laws (rate_at s) rates p port) refl in
    let goes : Goes ports new =
    λ p e found_p.
    (let h = at-port ports p e found_p in
    let one = All-contains (IsReckoned a ports) ports e reckoned h.1 in
    look p (subst (λ (t : EgressPort). HasPort s.tree t) h.0 one.entry.port) ∙ found_p) in
    let each : All (IsReckoned a new) new =
    All-filter_map (Contains every) (IsReckoned a new) (λ x. delays_at ports x.at)
    (λ x e has found_x. reckoned-goes a laws ports new goes e (All-contains (IsReckoned a ports) ports e reckoned (at-port ports x.at e found_x).1)) every (All-contains_itself every) in
    subst (λ (t : List PortDelays). IsListed a t) (sym is)
    (record {
      places = listed-places a ports reckoned every there_all rates;
      reckoned = each;
      fed = All-weaker (IsReckoned a new) (ListsFed a) (λ e h. lists-fed a new e h.entry) new each;
      there = λ p port.
          let place = place_at (rate_at s) p in
          let some = All-contains (λ (x : Place). Found ports x.at) every place there_all (listed s laws (rate_at s) rates p port) in
          (some.0, look p port ∙ some.1);
    })

-- ---- the groups one after the other

pub group-in : {Y : Type 0} (test : EgressPort → Bool) (group : EgressPort → Y) (own : Y) (x k : ℕ) (before after : List Y) → test (port_of x (k + 1)) ≡ true
    → before ≡ own ∷ map group (filter test (map (port_of x) (range_with_len 1 k))) → after ≡ before ++ group (port_of x (k + 1)) ∷ []
    → after ≡ own ∷ map group (filter test (map (port_of x) (range_with_len 1 (k + 1))))
group-in {Y} test group own x k before after is one two =
    let r = port_of x (k + 1) in
    let rs = map (port_of x) (range_with_len 1 k) in
    let more = ports-push x k in
    two ∙ ap (λ (t : List Y). t ++ group r ∷ []) one
    ∙ ap (λ (t : List Y). own ∷ t) (sym (ap (λ (t : List EgressPort). map group (filter test t)) more
    ∙ ap (map group) (filter-append test rs (r ∷ []) ∙ ap (λ (t : List EgressPort). filter test rs ++ t) (cond-true (test r) (r ∷ []) [] is))
    ∙ map-append group (filter test rs) (r ∷ [])))

pub group-out : {Y : Type 0} (test : EgressPort → Bool) (group : EgressPort → Y) (own : Y) (x k : ℕ) (before after : List Y) → test (port_of x (k + 1)) ≡ false
    → before ≡ own ∷ map group (filter test (map (port_of x) (range_with_len 1 k))) → after ≡ before
    → after ≡ own ∷ map group (filter test (map (port_of x) (range_with_len 1 (k + 1))))
group-out {Y} test group own x k before after nay one two =
    let r = port_of x (k + 1) in
    let rs = map (port_of x) (range_with_len 1 k) in
    two ∙ one
    ∙ ap (λ (t : List EgressPort). own ∷ map group t) (sym (ap (filter test) (ports-push x k)
    ∙ filter-append test rs (r ∷ []) ∙ ap (λ (t : List EgressPort). filter test rs ++ t) (cond-false (test r) (r ∷ []) [] nay) ∙ append-nil (filter test rs)))
