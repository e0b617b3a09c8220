use Rattle.std.proofs.Common.{◌≡◌, ℕ, List, length, get_or, set, ap, ◌∙◌, arith}
use Rattle.srp_base.specs.declared.ports.PortChange.{PortChange}
use Rattle.world_core.specs.{ComeUpTo, ports_noted}
use Rattle.world_core.proofs.Histories.{one_more_port, port_left}
use Rattle.world_core.proofs.history.NodeChanges.note.Goals as goal

pub note_port-requires-clause-upto : goal.note_port-requires-clause-upto
note_port-requires-clause-upto c =
    let start = c.args.self.now in
    let k = c.loop-k.k in
    let changes = c.index_mut.result.now in
    port_left c.args.tick c.args.node.now.state c.args.number (ComeUpTo c.args.tick) 1 k start changes c.requires.upto (omega (arith, c.loop-k-test.true, c.ports-k-end.ensures, c.requires.ports))
    (c.index_mut.ensures.value ∙ ap (λ (j : ℕ). get_or c.loop-k.self-inside.ports.items j changes) c.from.ensures ∙ ap (λ (ports : List (List PortChange)). get_or ports k changes) c.loop-k.invariant)

pub loop-k-preserved : goal.loop-k-preserved
loop-k-preserved c =
    let start = c.args.self.now in
    let k = c.loop-k.k in
    let changes = c.index_mut.result.now in
    let now = c.note_port.new.changes in
    ap (λ (j : ℕ). set c.loop-k.self-inside.ports.items j now) c.from.ensures ∙ ap (λ (ports : List (List PortChange)). set ports k now) c.loop-k.invariant
    ∙ ap (λ (cs : List PortChange). set (ports_noted c.args.tick c.args.node.now.state c.args.number 1 k start) k cs) c.in_ok-note_port.ensures
    ∙ one_more_port c.args.tick c.args.node.now.state c.args.number k start changes (omega (arith, c.loop-k-test.true, c.ports-k-end.ensures, c.requires.ports))
    (c.index_mut.ensures.value ∙ ap (λ (j : ℕ). get_or c.loop-k.self-inside.ports.items j changes) c.from.ensures ∙ ap (λ (ports : List (List PortChange)). get_or ports k changes) c.loop-k.invariant)

pub returns : goal.returns
returns c =
    let start = c.args.self.now in
    let all : c.loop-k.k ≡ length start = omega (arith, c.loop-k-test.false, c.loop-k.auto.k-end, c.ports-k-end.ensures, c.requires.ports) in
    c.loop-k.invariant ∙ ap (λ (j : ℕ). ports_noted c.args.tick c.args.node.now.state c.args.number 1 j start) all
