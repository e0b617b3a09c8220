use Rattle.std.proofs.Common.{◌∙◌, ◌≤◌, ◌<◌, ◌++◌, ℕ, zero, suc, List, [], ◌∷◌, length, map, take, drop, sym, ap, subst, arith}
use Rattle.std.specs.Prelude.{slice_index_or, slice_set}
use Rattle.std.specs.List.{AllByRecursion}
use Rattle.std.proofs.lemmas.List.Edits.{map_over_more}
use Rattle.srp_base.proofs.Lists.{mapped_length}
use Rattle.msrp.specs.PortState.{PortState}
use Rattle.msrp.specs.{PortHolding, ports_in, clocked_port}
use Rattle.msrp.proofs.InPlace.{state-read, states-set}
use Rattle.msrp.proofs.clock.clock_all.Goals as goal

-- the port that comes next is as it was
in_rest : (now : ℕ) (xs : List PortState) (i : ℕ) (d : PortState) → i < length xs → AllByRecursion (λ (p : PortState). p.ledger.moment ≤ now) xs
    → (slice_index_or (map (clocked_port now) (take i xs) ++ drop i xs) i d).ledger.moment ≤ now
in_rest now [] i d below all = absurd (omega arith)
in_rest now (x ∷ xs) zero d below all = all.0
in_rest now (x ∷ xs) (suc i) d below all = in_rest now xs i d (omega arith) all.1

pub clock-requires : goal.clock-requires
clock-requires c =
    let below : c.loop-port.port-index < length (ports_in c.args.ports.now.items) =
    omega (arith, c.loop-port-test.true, ap (λ (xs : List PortHolding). length xs) c.deref_mut-port-items.ensures.value, mapped_length (λ (p : PortHolding). p.state) c.args.ports.now.items) in
    let P : List PortState → Type 0 = λ xs. (slice_index_or xs c.loop-port.port-index c.port-item.result.state).ledger.moment ≤ c.args.now.0 in
    let Q : PortState → Type 0 = λ p. p.ledger.moment ≤ c.args.now.0 in
    subst Q (state-read c.loop-port.port-items c.loop-port.port-index c.port-item.result)
    (subst P (sym c.loop-port.invariant) (in_rest c.args.now.0 (ports_in c.args.ports.now.items) c.loop-port.port-index c.port-item.result.state below c.requires))

pub loop-port-preserved : goal.loop-port-preserved
loop-port-preserved c =
    let below : c.loop-port.port-index < length (ports_in c.args.ports.now.items) =
    omega (arith, c.loop-port-test.true, ap (λ (xs : List PortHolding). length xs) c.deref_mut-port-items.ensures.value, mapped_length (λ (p : PortHolding). p.state) c.args.ports.now.items) in
    states-set c.loop-port.port-items c.loop-port.port-index c.clock.new.self
    ∙ (ap (λ (p : PortState). slice_set (ports_in c.loop-port.port-items) c.loop-port.port-index p) (c.clock.ensures ∙ ap (λ (p : PortHolding). clocked_port c.args.now.0 p.state) (sym c.port-item.is))
    ∙ map_over_more (clocked_port c.args.now.0) (ports_in c.args.ports.now.items) (ports_in c.loop-port.port-items) c.loop-port.port-index c.port-item.result.state below c.loop-port.invariant
    (ap (λ (p : PortHolding). p.state) c.port-item.is ∙ sym (state-read c.loop-port.port-items c.loop-port.port-index c.port-item.result)))
