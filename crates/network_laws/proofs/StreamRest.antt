-- In a network at rest the streams are still; so the laws of streams hold of it.
use Rattle.std.proofs.Common.{◌≡◌, ℕ, ◌-◌, true, false, ◌||◌, refl, sym, ap, ◌∙◌, arith}
use Rattle.std.specs.Prelude.{slice_get, Option, Some, None, option_map, option_and_then}
use Rattle.std.specs.Option.{option_map_or}
use Rattle.std.proofs.lemmas.Option.{slice_get_within}
use Rattle.srp_base.proofs.Lists.{each-get, get-all}
use Rattle.srp_base.specs.declared.{numbers.EgressPort.EgressPort, numbers.StreamId.StreamId, mrp.App.TheVariants.Msrp}
use Rattle.tree_topology.specs.{Topology.HasPort, Ports.peer_of, PortLaws.HasPortLaws}
use Rattle.mrp_participant.specs.State.{is_still, registered_at, declared_at}
use Rattle.msrp_codec.specs.declared.{pdu.MsrpKey.MsrpKey, pdu.MsrpContent.MsrpContent}
use Rattle.msrp.specs.{PortState.PortState, Part.key_cmp}
use Rattle.attribute_propagation.specs.Ports.{place_of}
use Rattle.node_core.specs.State.{NodeState}
use Rattle.world_core.specs.{Marks.mark_at, World.WorldState, World.node_at, Duty.streams_said, Duty.stream_place, Duty.stream_part, Kept.IsKeptWorld, Kept.FitsTree}
use Rattle.network_laws.specs.{IsAtRest, IsTalkedOnce, KeepsStreamLaws}
use Rattle.network_laws.proofs.{AtRest.StillLink, AtRest.still-at, AtRest.sound-at, AtRest.registers-declared, StreamNode.KeptWants, StreamNet.stream_port, StreamNet.AreStreamsStill, StreamLaw.WalkBehind, StreamLaw.WalkPath, StreamLaw.talkers-match, StreamLaw.are-ready-on-path, StreamLaw.are-refusals-shown}

module _ (w : WorldState) (kept : IsKeptWorld w) (rest : IsAtRest w) (laws : HasPortLaws w.tree) (still : StillLink MsrpKey MsrpContent key_cmp) where
  -- the node and the place of what MSRP keeps of a port
  record Held (p : EgressPort) (a : PortState) : Type 0 where
    s : NodeState
    node : node_at p.node w ≡ Some s
    has : slice_get s.streams.ports (place_of p.port) ≡ Some a

  held : (p : EgressPort) (a : PortState) → stream_port p w ≡ Some a → Held p a
  held p a h = by (node_at p.node w) refl
    where
      by : (o : Option NodeState) → node_at p.node w ≡ o → Held p a
      by None e = let none : stream_port p w ≡ None = ap (λ o. option_and_then (λ (s : NodeState). slice_get s.streams.ports (place_of p.port)) o) e in cc
      by (Some s) e = record { s = s; node = e; has = sym (ap (λ o. option_and_then (λ (s : NodeState). slice_get s.streams.ports (place_of p.port)) o) e) ∙ h }

  part-of : (p : EgressPort) (a : PortState) → Held p a → stream_part p w ≡ Some a.part
  part-of p a h =
      ap (λ o. option_and_then (stream_place (place_of p.port)) o) h.node ∙ ap (λ o. option_map (λ (x : PortState). x.part) o) h.has

  part-still : (p : EgressPort) (a : PortState) → Held p a → is_still a.part ≡ true
  part-still p a h = get-all (λ (x : PortState). is_still x.part) h.s.streams.ports (place_of p.port) a (still-at w rest (p.node.0 - 1) h.s h.node).streams h.has

  part-sound : (p : EgressPort) → HasPort w.tree p → (a : PortState) → Held p a → ((mark_at Msrp p w.marks).assured || a.part.sound) ≡ true
  part-sound p has a h =
      let port = slice_get_within h.s.streams.ports (place_of p.port) a h.has in
      let same = (kept.nodes (p.node.0 - 1) h.s h.node).kept.kept.same_ports in
      ap (λ (o : Option PortState). (mark_at Msrp p w.marks).assured || option_map_or (λ (x : PortState). x.part.sound) o false) (sym h.has)
      ∙ (sound-at w rest p has h.s h.node (omega (arith, port, same))).1

  linked : (p : EgressPort) → HasPort w.tree p → (a b : PortState) → stream_port p w ≡ Some a → stream_port (peer_of w.tree.links p) w ≡ Some b
      → (key : MsrpKey) → registered_at key_cmp key a.part ≡ declared_at key_cmp key b.part
  linked p h a b x y key =
      let q = peer_of w.tree.links p in
      let near = held p a x in
      let far = held q b y in
      registers-declared w rest kept laws key_cmp stream_place streams_said Msrp kept.streams still p h a.part b.part (part-of p a near) (part-of q b far)
      (part-still p a near) (part-still q b far) (part-sound q (laws.peer_port p h) b far) key

  fits : (x : ℕ) (s : NodeState) → slice_get w.nodes x ≡ Some s → FitsTree w.tree x s
  fits x s e = kept.nodes x s e

  pub are-still : AreStreamsStill w
  are-still =
      record {
        laws = laws;
        many = kept.many;
        kept = λ x s e. (fits x s e).kept.kept.streams;
        ports = λ x s e. (fits x s e).kept.kept.same_ports ∙ (fits x s e).ports;
        none_await = λ x s e. (still-at w rest x s e).no_keys;
        moment = λ x s e. (fits x s e).kept.kept.moment;
        named = λ x s i port e g. each-get (λ (p : PortState). p.config.bridge ≡ s.bridge) s.streams.ports i port (fits x s e).kept.named g;
        idle = λ x s e. (kept.nodes x s e).kept.idle;
        linked = linked;
      }

  pub keeps-stream-laws : KeptWants → WalkBehind w → WalkPath w → (stream : StreamId) → IsTalkedOnce w stream → KeepsStreamLaws w stream
  keeps-stream-laws wants behind path stream once =
      record {
        talkers = talkers-match w are-still stream wants once behind;
        ready = are-ready-on-path w are-still stream wants once path;
        refusals = are-refusals-shown w are-still stream wants once path;
      }
