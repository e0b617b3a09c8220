-- What is reckoned stays as more is reckoned.
use Rattle.std.proofs.Common.{◌≡◌, ◌<◌, List, [], ◌∷◌, ◌++◌, Option, Some, None, refl, sym, ◌∙◌, ap, subst}
use Rattle.std.specs.Prelude.{Contains}
use Rattle.std.proofs.lemmas.{List.Elements.All-weaker, List.Elements.All-push}
use Rattle.srp_base.specs.declared.{numbers.EgressPort.EgressPort}
use Rattle.tree_topology.specs.{Topology.HasPort, Ports.peer_of, PortLaws.HasPortLaws}
use Rattle.frame_flow.specs.{Force.is_port, Levels.level_at}
use Rattle.frame_flow.proofs.LevelLemmas.{same-port, source-below}
use Rattle.delay_bound.specs.declared.stream.ClassStream.{ClassStream}
use Rattle.delay_flow.specs.Rules.{IsBefore}
use Rattle.class_delays.specs.declared.{coming.Coming.Coming, delays.FedStream.FedStream, delays.PortDelays.PortDelays}
use Rattle.class_delays.specs.{ClassSetting, delays_at, stream_in, ComesSo, IsComing, IsEntry, IsReckoned, AreReckoned, AreBefore}
use Rattle.class_delays.proofs.Finds.{found, still-found}

-- what is found at a port is of that port, and there
pub at-port : (ports : List PortDelays) (p : EgressPort) (e : PortDelays) → delays_at ports p ≡ Some e → (e.at ≡ p) × Contains ports e
at-port ports p e is = let h = found (λ t. is_port t.at p) ports e is in (same-port e.at p h.0, h.1)

-- more is reckoned than before, and what was there is still found
abbrev pub Goes : List PortDelays → List PortDelays → Type 0
Goes ports more = (p : EgressPort) (e : PortDelays) → delays_at ports p ≡ Some e → delays_at more p ≡ Some e

pub goes-on : (ports : List PortDelays) (e : PortDelays) → Goes ports (ports ++ e ∷ [])
goes-on ports e p x is = still-found (λ t. is_port t.at p) ports (e ∷ []) x is

stream-goes : (x : ClassStream) (one other : Option PortDelays) (f : FedStream) → ((e : PortDelays) → one ≡ Some e → other ≡ Some e) → stream_in x one ≡ Some f → stream_in x other ≡ Some f
stream-goes x None other f goes is = absurd (let nay : None ≡ Some f = is in cc)
stream-goes x (Some e) other f goes is = ap (stream_in x) (goes e refl) ∙ is

-- what is there before a port is there for those that send into its node
pub before-of : (a : ClassSetting) → HasPortLaws a.setting.tree → (ports : List PortDelays) (p r : EgressPort) → HasPort a.setting.tree p → IsBefore a.setting p r → AreBefore a ports p
    → (e : PortDelays) × (delays_at ports (peer_of a.setting.tree.links r) ≡ Some e)
before-of a laws ports p r port other before =
    let less = source-below a.setting.tree laws p r port other.port other.node other.other in
    before (peer_of a.setting.tree.links r) less.0 less.1

-- what is found at ports of lower levels than one is found in more
abbrev pub GoesBelow : ClassSetting → EgressPort → List PortDelays → List PortDelays → Type 0
GoesBelow a p ports more =
    (q : EgressPort) (e : PortDelays) → HasPort a.setting.tree q → level_at a.setting.tree q < level_at a.setting.tree p → delays_at ports q ≡ Some e → delays_at more q ≡ Some e

pub comes-goes : (a : ClassSetting) → HasPortLaws a.setting.tree → (ports more : List PortDelays) (p : EgressPort) → HasPort a.setting.tree p → GoesBelow a p ports more → (by : Option EgressPort)
    (c : Coming) → ComesSo a ports p by c → ComesSo a more p by c
comes-goes a laws ports more p port goes None c h = h
comes-goes a laws ports more p port goes (Some r) c h =
    let q = peer_of a.setting.tree.links r in
    let less = source-below a.setting.tree laws p r port h.other.port h.other.node h.other.other in
    record {
      other = h.other;
      behind = h.behind;
      sent = h.sent;
      there = stream-goes c.stream (delays_at ports q) (delays_at more q) h.sent (λ e is. goes q e less.0 less.1 is) h.there;
      late = h.late;
      before = h.before;
    }

abbrev pub entry-goes : (a : ClassSetting) → HasPortLaws a.setting.tree → (ports more : List PortDelays) (e : PortDelays) → GoesBelow a e.at ports more → IsEntry a ports e → IsEntry a more e
entry-goes a laws ports more e goes h =
    record {
      port = h.port;
      rate = h.rate;
      coming = h.coming;
      are = record {
        streams = h.are.streams;
        each = All-weaker (IsComing a ports e.at) (IsComing a more e.at) (λ c is. comes-goes a laws ports more e.at h.port goes c.by c is) h.coming h.are.each;
      };
      fed = h.fed;
    }

pub reckoned-below : (a : ClassSetting) → HasPortLaws a.setting.tree → (ports more : List PortDelays) (e : PortDelays) → GoesBelow a e.at ports more → IsReckoned a ports e → IsReckoned a more e
reckoned-below a laws ports more e goes h = record { entry = entry-goes a laws ports more e goes h.entry; peak = h.peak }

pub reckoned-goes : (a : ClassSetting) → HasPortLaws a.setting.tree → (ports more : List PortDelays) → Goes ports more → (e : PortDelays) → IsReckoned a ports e → IsReckoned a more e
reckoned-goes a laws ports more goes e h = reckoned-below a laws ports more e (λ q x port less is. goes q x is) h

-- one more is reckoned
pub all-reckoned : (a : ClassSetting) → HasPortLaws a.setting.tree → (ports more : List PortDelays) (e : PortDelays) → AreReckoned a ports → IsReckoned a ports e → more ≡ ports ++ e ∷ [] → AreReckoned a more
all-reckoned a laws ports more e all is made =
    let next = ports ++ e ∷ [] in
    let goes = goes-on ports e in
    subst (λ (t : List PortDelays). AreReckoned a t) (sym made)
    (All-push (IsReckoned a next) ports e (All-weaker (IsReckoned a ports) (IsReckoned a next) (λ x h. reckoned-goes a laws ports next goes x h) ports all) (reckoned-goes a laws ports next goes e is))
