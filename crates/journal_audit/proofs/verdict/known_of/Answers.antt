use Rattle.std.proofs.Common.{◌≡◌, ◌-◌, ◌+◌, ◌<◌, ℕ, length, ap, arith}
use Rattle.topology_file.specs.Plan.{Plan}
use Rattle.std.specs.Prelude.{flat_map}
use Rattle.std.specs.List.{range_with_len}
use Rattle.journal_audit.specs.{names_at}
use Rattle.journal_audit.proofs.ListLemmas.{list_more}
use Rattle.journal_audit.proofs.verdict.known_of.Goals as goal

pub loop-x-preserved : goal.loop-x-preserved
loop-x-preserved c =
    let plan = c.args.scenario.now in
    let n : ℕ = length plan.tree.kinds in
    let count = c.nodes-x-end.ensures in
    let test = c.loop-x-test.true in
    let same : length c.scenario.inside.tree.kinds ≡ n = ap (λ (p : Plan). length p.tree.kinds) c.scenario.view_is in
    let lt : c.loop-x.x < n = omega (arith, count, test, same) in
    list_more (names_at plan) (c.loop-x.x + 1) (n - c.loop-x.x) (n - (c.loop-x.x + 1)) c.loop-x.ports.items c.push_names.new.names.items
    (flat_map (names_at plan) (range_with_len 1 n)) (omega (arith, lt)) (omega (arith, lt)) c.in_ok-push_names.ensures c.loop-x.invariant
