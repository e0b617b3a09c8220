use Rattle.std.proofs.Common.{◌≡◌, ◌∙◌, ◌≤◌, ◌<◌, ℕ, zero, suc, true, List, [], ◌∷◌, length, map, drop, refl, sym, ap, arith}
use Rattle.std.specs.Prelude.{Some, None, slice_index_or}
use Rattle.std.specs.List.{position_from}
use Rattle.std.proofs.lemmas.Iterator.Adapters.{position_from-zero}
use Rattle.srp_base.specs.declared.numbers.StreamId.{StreamId}
use Rattle.msrp.specs.PortState.{PortState}
use Rattle.msrp.specs.{PortHolding, ports_in, registered_talker, is_present}
use Rattle.msrp.proofs.stream.talker_port.Goals as goal

-- the port at a place has a Talker, or there is no port from the place on
talker_here : (stream : StreamId) (ports : List PortHolding) (i n : ℕ) (d : PortHolding) → i < length ports → is_present (registered_talker stream (slice_index_or ports i d).state.part) ≡ true
    → position_from is_present n (map (λ (p : PortState). registered_talker stream p.part) (ports_in (drop i ports))) ≡ Some n
talker_here stream [] i n d below h = absurd (omega arith)
talker_here stream (p ∷ ports) zero n d below h = rw h refl
talker_here stream (p ∷ ports) (suc i) n d below h = talker_here stream ports i n d (omega arith) h

none_left : (stream : StreamId) (ports : List PortHolding) (i n : ℕ) → length ports ≤ i
    → position_from is_present n (map (λ (p : PortState). registered_talker stream p.part) (ports_in (drop i ports))) ≡ None
none_left stream [] zero n above = refl
none_left stream [] (suc i) n above = refl
none_left stream (p ∷ ports) zero n above = absurd (omega arith)
none_left stream (p ∷ ports) (suc i) n above = none_left stream ports i n (omega arith)

pub returns-then-is_present-clause-place : goal.returns-then-is_present-clause-place
returns-then-is_present-clause-place c =
    let found : is_present (registered_talker c.args.stream (slice_index_or c.args.ports.now c.loop-place.place c.index-ports-place.result).state.part) ≡ true =
    ap (λ (p : PortHolding). is_present (registered_talker c.args.stream p.state.part)) (sym c.index-ports-place.is)
    ∙ (ap is_present (sym (c.registered_talker-reg.ensures ∙ ap (registered_talker c.args.stream) c.part.ensures)) ∙ (sym c.is_present.ensures ∙ c.if-is_present.true)) in
    sym (position_from-zero is_present (map (λ (p : PortState). registered_talker c.args.stream p.part) (ports_in c.args.ports.now))
    ∙ (sym c.loop-place.invariant.place
    ∙ talker_here c.args.stream c.args.ports.now c.loop-place.place c.loop-place.place c.index-ports-place.result (omega (arith, c.loop-place-test.true)) found))

pub returns-clause-place : goal.returns-clause-place
returns-clause-place c =
    sym (position_from-zero is_present (map (λ (p : PortState). registered_talker c.args.stream p.part) (ports_in c.args.ports.now))
    ∙ (sym c.loop-place.invariant.place
    ∙ none_left c.args.stream c.args.ports.now c.loop-place.place c.loop-place.place (omega (arith, c.loop-place-test.false))))
