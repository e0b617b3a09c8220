-- What was put into an outbox makes the step Send of the node.
use Rattle.std.proofs.Common.{◌≡◌, ℕ, List, sym, ap, refl, ◌∙◌}
use Rattle.std.specs.Prelude.{slice_set, length, Option, Some, None, Result, Ok, Err, IfOk, OnErr}
use Rattle.srp_base.specs.declared.{mrp.App.App, mrp.App.TheVariants.Mvrp, mrp.App.TheVariants.Msrp, memory.NoMemory.NoMemory}
use Rattle.attribute_propagation.specs.Ports.{count_of}
use Rattle.mvrp.specs.Side.{Vlans, sent_vlans}
use Rattle.msrp.specs.Side.{Streams, sent_streams}
use Rattle.node_core.specs.{Wire, StepReply, Silent, Sent, NodeState, box_at, outcome_of_saying, HasOneSaid, after_send, sent_octets, said_mvrp, said_msrp, with_octets, with_said, after_app}
use Rattle.node_core.proofs.Boxes.{set_same}

-- the node that has these VLANs and streams and, at a place, this outbox
abbrev pub with_both : NodeState → ℕ → Vlans → Streams → List Wire → NodeState
with_both s at v t box = record s { vlans = v; streams = t; outboxes = slice_set s.outboxes at box }

-- what was put, where the node is made of an application and an outbox
put_by : {S : Type 0} (s : NodeState) (app : App) (at : ℕ) (o : Option (List ℕ)) (before after side : S) (box : List Wire) (reply : StepReply)
    (into : S → List Wire → NodeState)
    → into before (box_at at s.outboxes) ≡ s
    → ((octets : List ℕ) → into after (with_octets app octets (box_at at s.outboxes)) ≡ with_said app at octets (after_app app at s))
    → outcome_of_saying app o before after (box_at at s.outboxes) ≡ (side, box, reply)
    → sent_octets app at o s ≡ (into side box, reply)
put_by {S} s app at None before after side box reply into same said e =
    ap (λ (n : NodeState). (n, Silent)) (sym same)
    ∙ ap (λ (p : S × List Wire × StepReply). (into p.0 p.1, p.2)) e
put_by {S} s app at (Some octets) before after side box reply into same said e =
    ap (λ (n : NodeState). (n, Sent (count_of (length octets)))) (sym (said octets))
    ∙ ap (λ (p : S × List Wire × StepReply). (into p.0 p.1, p.2)) e

-- a node is as it was where its outbox is
stays : (s : NodeState) (at : ℕ) → with_both s at s.vlans s.streams (box_at at s.outboxes) ≡ s
stays s at = ap (λ (bs : List (List Wire)). record s { outboxes = bs }) (set_same s.outboxes at)

-- what was put, by what the call answered
pub put_ok : (s n : NodeState) (app : App) (at : ℕ) (r : Result StepReply NoMemory) (v : Vlans) (t : Streams) (box : List Wire)
    → HasOneSaid app s.clock at s.vlans s.streams (box_at at s.outboxes) r v t box → n ≡ with_both s at v t box
    → IfOk r (λ reply. after_send app at s ≡ (n, reply))
put_ok s n Mvrp at (Ok reply) v t box h e =
    put_by s Mvrp at (said_mvrp s.clock at s.vlans) s.vlans (sent_vlans s.clock at s.vlans) v box reply
    (λ (w : Vlans) (b : List Wire). with_both s at w s.streams b) (stays s at) (λ octets. refl) h.0
    ∙ (ap (λ (u : Streams). (with_both s at v u box, reply)) (sym h.1)
    ∙ ap (λ (m : NodeState). (m, reply)) (sym e))
put_ok s n Msrp at (Ok reply) v t box h e =
    put_by s Msrp at (said_msrp s.clock at s.streams) s.streams (sent_streams s.clock at s.streams) t box reply
    (λ (u : Streams) (b : List Wire). with_both s at s.vlans u b) (stays s at) (λ octets. refl) h.0
    ∙ (ap (λ (w : Vlans). (with_both s at w t box, reply)) (sym h.1)
    ∙ ap (λ (m : NodeState). (m, reply)) (sym e))
put_ok s n app at (Err x) v t box h e = tt

-- nothing was put
none_put : (s : NodeState) (at : ℕ) (v : Vlans) (t : Streams) (box : List Wire)
    → v ≡ s.vlans → t ≡ s.streams → box ≡ box_at at s.outboxes → with_both s at v t box ≡ s
none_put s at v t box vlans streams same =
    ap (λ (w : Vlans). with_both s at w t box) vlans
    ∙ (ap (λ (u : Streams). with_both s at s.vlans u box) streams
    ∙ (ap (λ (b : List Wire). with_both s at s.vlans s.streams b) same ∙ stays s at))

pub put_err : (s n : NodeState) (app : App) (at : ℕ) (r : Result StepReply NoMemory) (v : Vlans) (t : Streams) (box : List Wire)
    → HasOneSaid app s.clock at s.vlans s.streams (box_at at s.outboxes) r v t box → n ≡ with_both s at v t box
    → OnErr r (n ≡ s)
put_err s n app at (Ok reply) v t box h e = tt
put_err s n Mvrp at (Err x) v t box h e = e ∙ none_put s at v t box h.0.0 h.1 h.0.1
put_err s n Msrp at (Err x) v t box h e = e ∙ none_put s at v t box h.1 h.0.0 h.0.1
