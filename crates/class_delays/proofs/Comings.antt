-- What comes to a port are the streams that are fed there.
use Rattle.std.proofs.Common.{◌≡◌, ℕ, ◌+◌, ◌<◌, ◌≤◌, inl, inr, Bool, true, false, List, [], ◌∷◌, ◌++◌, length, get_or, take, map, Some, None, sym, ◌∙◌, ap, subst, append-nil}
use Rattle.std.specs.Prelude.{All, Contains, filter}
use Rattle.std.proofs.lemmas.{Bool.cond-true, Bool.cond-false, Bool.cases_Bool, Bool.false≢true, List.map-append, List.take_all, List.Elements.All-contains, List.Elements.All-contains_itself, List.Elements.All-filter, List.Elements.All-push, List.Elements.filter_more, List.Elements.filter_passes}
use Rattle.srp_base.proofs.Lists.{map-map}
use Rattle.srp_base.specs.declared.{numbers.EgressPort.EgressPort}
use Rattle.tree_topology.specs.{Topology.HasNode, Topology.HasPort, Ports.peer_of, Walk.is_behind, PortLaws.HasPortLaws}
use Rattle.frame_flow.specs.{Force.is_port}
use Rattle.frame_flow.proofs.LevelLemmas.{same-port}
use Rattle.delay_bound.specs.declared.stream.ClassStream.{ClassStream}
use Rattle.delay_flow.specs.{Places.is_booked, Ways.is_fed, Rules.IsBefore}
use Rattle.delay_flow.proofs.Sums.{contains-filter, contains-map, contains-unmap}
use Rattle.delay_flow.proofs.WayLemmas.{fed-first, fed-on, fed-back, booked-fed, aside-fed}
use Rattle.class_delays.specs.declared.{coming.Coming.Coming, delays.FedStream.FedStream, delays.PortDelays.PortDelays}
use Rattle.class_delays.specs.{ClassSetting, IsClassSetting, delays_at, is_same, stream_in, fed_streams, fed_by, IsComing, IsCome, AreComing, IsEntry, IsReckoned, AreReckoned}
use Rattle.class_delays.proofs.Finds.{found, some-found, same-stream, same-itself}
use Rattle.class_delays.proofs.Entries.{at-port}

-- ---- lists

pub filter-has : {X : Type 0} (p : X → Bool) (xs : List X) (x : X) → Contains (filter p xs) x → (p x ≡ true) × Contains xs x
filter-has {X} p xs x has = (
  All-contains (λ (t : X). p t ≡ true) (filter p xs) x (filter_passes p xs) has,
  All-contains (Contains xs) (filter p xs) x (All-filter p (Contains xs) xs (All-contains_itself xs)) has,
)

-- ---- what is reckoned for a port lists the streams that are fed there

pub lists-fed : (a : ClassSetting) (ports : List PortDelays) (e : PortDelays) → IsEntry a ports e → map (λ f. f.stream) e.fed ≡ fed_streams a e.at
lists-fed a ports e is =
    ap (λ (fs : List FedStream). map (λ f. f.stream) fs) is.fed
    ∙ map-map (λ (f : FedStream). f.stream) (fed_by a e.at e.peak) is.coming
    ∙ is.are.streams

pub fed-found : (a : ClassSetting) (ports : List PortDelays) (e : PortDelays) → IsEntry a ports e → (x : ClassStream) → Contains a.streams x → is_fed a.setting e.at x ≡ true
    → (f : FedStream) × (stream_in x (Some e) ≡ Some f)
fed-found a ports e is x has fed =
    let listed = subst (λ (xs : List ClassStream). Contains xs x) (sym (lists-fed a ports e is)) (contains-filter (is_fed a.setting e.at) a.streams x has fed) in
    let there = contains-unmap (λ (f : FedStream). f.stream) e.fed x listed in
    let test : FedStream → Bool = λ f. is_same f.stream x in
    some-found test e.fed there.0 there.1 (subst (λ (y : ClassStream). is_same y x ≡ true) (sym there.2) (same-itself x))

pub found-fed : (a : ClassSetting) (ports : List PortDelays) (e : PortDelays) → IsEntry a ports e → (x : ClassStream) (f : FedStream) → stream_in x (Some e) ≡ Some f
    → (f.stream ≡ x) × (is_fed a.setting e.at x ≡ true)
found-fed a ports e is x f at =
    let h = found (λ (g : FedStream). is_same g.stream x) e.fed f at in
    let same = same-stream f.stream x h.0 in
    let listed = subst (λ (xs : List ClassStream). Contains xs f.stream) (lists-fed a ports e is) (contains-map (λ (g : FedStream). g.stream) e.fed f h.1) in
    (same, subst (λ (y : ClassStream). is_fed a.setting e.at y ≡ true) same (filter-has (is_fed a.setting e.at) a.streams f.stream listed).0)

-- ---- how one stream comes

pub talker-node : (a : ClassSetting) → IsClassSetting a → (x : ClassStream) → Contains a.streams x → HasNode a.setting.tree x.talker.0
talker-node a given x has = All-contains (λ (y : ClassStream). HasNode a.setting.tree y.talker.0) a.streams x given.talkers has

not-fed : (a : ClassSetting) (p : EgressPort) (x : ClassStream) → (is_fed a.setting p x ≡ true → ⊥) → is_fed a.setting p x ≡ false
not-fed a p x none = elim (cases_Bool (is_fed a.setting p x)) [
  | inl is ↦ absurd (none is)
  | inr nay ↦ nay
]

pub unbooked-comes : (a : ClassSetting) → IsClassSetting a → HasPortLaws a.setting.tree → (p : EgressPort) (x : ClassStream) → HasPort a.setting.tree p → Contains a.streams x
    → is_booked a.setting p x.id ≡ false → is_fed a.setting p x ≡ false
unbooked-comes a given laws p x port has un =
    not-fed a p x (λ fed. false≢true (sym un ∙ booked-fed a.setting laws p x port (talker-node a given x has) fed))

pub first-comes : (a : ClassSetting) → IsClassSetting a → HasPortLaws a.setting.tree → (p : EgressPort) (x : ClassStream) → HasPort a.setting.tree p → Contains a.streams x
    → is_booked a.setting p x.id ≡ true → x.talker.0 ≡ p.node.0 → is_fed a.setting p x ≡ true
first-comes a given laws p x port has booked own = fed-first a.setting laws p x port (talker-node a given x has) booked own

-- by the port itself it doesn't
pub back-comes : (a : ClassSetting) (p r : EgressPort) (x : ClassStream) → is_port r p ≡ true → is_behind a.setting.tree.links r x.talker.0 ≡ true → is_fed a.setting p x ≡ false
back-comes a p r x itself behind =
    not-fed a p x (λ fed. false≢true (sym (aside-fed a.setting p x fed) ∙ subst (λ (t : EgressPort). is_behind a.setting.tree.links t x.talker.0 ≡ true) (same-port r p itself) behind))

-- by another port it does where it is fed at the port that sends there
pub by-comes : (a : ClassSetting) → IsClassSetting a → HasPortLaws a.setting.tree → (ports : List PortDelays) → AreReckoned a ports → (p r : EgressPort) (x : ClassStream) → HasPort a.setting.tree p
    → IsBefore a.setting p r → Contains a.streams x → is_booked a.setting p x.id ≡ true → (e : PortDelays) → delays_at ports (peer_of a.setting.tree.links r) ≡ Some e
    → (f : FedStream) → stream_in x (Some e) ≡ Some f → is_fed a.setting p x ≡ true
by-comes a given laws ports all p r x port other has booked e at f sent =
    let there = at-port ports (peer_of a.setting.tree.links r) e at in
    let is = (All-contains (IsReckoned a ports) ports e all there.1).entry in
    fed-on a.setting laws p r x port other (talker-node a given x has) booked
    (subst (λ (q : EgressPort). is_fed a.setting q x ≡ true) there.0 (found-fed a ports e is x f sent).1)

pub none-comes : (a : ClassSetting) → IsClassSetting a → HasPortLaws a.setting.tree → (ports : List PortDelays) → AreReckoned a ports → (p r : EgressPort) (x : ClassStream) → HasPort a.setting.tree p
    → IsBefore a.setting p r → Contains a.streams x → is_behind a.setting.tree.links r x.talker.0 ≡ true → (e : PortDelays) → delays_at ports (peer_of a.setting.tree.links r) ≡ Some e
    → stream_in x (Some e) ≡ None → is_fed a.setting p x ≡ false
none-comes a given laws ports all p r x port other has behind e at none =
    let there = at-port ports (peer_of a.setting.tree.links r) e at in
    let is = (All-contains (IsReckoned a ports) ports e all there.1).entry in
    not-fed a p x (λ fed.
    let before = fed-back a.setting laws p r x port other (talker-node a given x has) behind fed in
    let some = fed-found a ports e is x has (subst (λ (q : EgressPort). is_fed a.setting q x ≡ true) (sym there.0) before) in
    let nay : None ≡ Some some.0 = sym none ∙ some.1 in cc)

-- ---- all of them

-- what comes of the first so many streams
pub record SoFar (a : ClassSetting) (ports : List PortDelays) (p : EgressPort) (i : ℕ) (cs : List Coming) : Type 0 where
  pub streams : map (λ c. c.stream) cs ≡ filter (is_fed a.setting p) (take i a.streams)
  pub each : All (IsComing a ports p) cs

pub none-more : (a : ClassSetting) (ports : List PortDelays) (p : EgressPort) (xs : List ClassStream) (i : ℕ) (x : ClassStream) (cs : List Coming) → xs ≡ a.streams → i < length xs
    → SoFar a ports p i cs → IsCome a ports p (get_or xs i x) None → SoFar a ports p (i + 1) cs
none-more a ports p xs i x cs all few h none =
    let test = is_fed a.setting p in
    let y = get_or a.streams i x in
    let below : i < length a.streams = subst (λ (t : List ClassStream). i < length t) all few in
    let nay : test y ≡ false = subst (λ (t : List ClassStream). test (get_or t i x) ≡ false) all none in
    record {
      streams = h.streams ∙ sym (filter_more test a.streams i x below
          ∙ ap (λ (t : List ClassStream). filter test (take i a.streams) ++ t) (cond-false (test y) (y ∷ []) [] nay)
          ∙ append-nil (filter test (take i a.streams)));
      each = h.each;
    }

pub one-more : (a : ClassSetting) (ports : List PortDelays) (p : EgressPort) (xs : List ClassStream) (i : ℕ) (x : ClassStream) (cs more : List Coming) (c : Coming) → xs ≡ a.streams
    → i < length xs → SoFar a ports p i cs → IsCome a ports p (get_or xs i x) (Some c) → more ≡ cs ++ c ∷ [] → SoFar a ports p (i + 1) more
one-more a ports p xs i x cs more c all few h come made =
    let test = is_fed a.setting p in
    let y = get_or a.streams i x in
    let below : i < length a.streams = subst (λ (t : List ClassStream). i < length t) all few in
    let is : test y ≡ true = subst (λ (t : List ClassStream). test (get_or t i x) ≡ true) all come.0 in
    let same : c.stream ≡ y = come.1 ∙ ap (λ (t : List ClassStream). get_or t i x) all in
    let to : Coming → ClassStream = λ d. d.stream in
    record {
      streams = ap (map to) made ∙ map-append to cs (c ∷ [])
          ∙ ap (λ (t : ClassStream). map to cs ++ t ∷ []) same
          ∙ ap (λ (t : List ClassStream). t ++ y ∷ []) h.streams
          ∙ sym (filter_more test a.streams i x below ∙ ap (λ (t : List ClassStream). filter test (take i a.streams) ++ t) (cond-true (test y) (y ∷ []) [] is));
      each = subst (λ (t : List Coming). All (IsComing a ports p) t) (sym made) (All-push (IsComing a ports p) cs c h.each come.2);
    }

pub all-come : (a : ClassSetting) (ports : List PortDelays) (p : EgressPort) (i : ℕ) (cs : List Coming) → length a.streams ≤ i → SoFar a ports p i cs → AreComing a ports p cs
all-come a ports p i cs last h =
    record { streams = h.streams ∙ ap (λ (t : List ClassStream). filter (is_fed a.setting p) t) (take_all i a.streams last); each = h.each }
