use Rattle.std.proofs.Common.{◌≡◌, ℕ, ◌+◌, ◌-◌, List, subst, ap, ◌∙◌, arith}
use Rattle.std.specs.Prelude.{Some, slice_get}
use Rattle.topology_file.specs.Plan.{Plan}
use Rattle.topology_file.specs.declared.entries.StreamEntry.{StreamEntry}
use Rattle.report_words.specs.Tally.{count_of}
use Rattle.srp_report.specs.{ready_at}
use Rattle.srp_report.proofs.TotalLemmas.{at-place, count-more}
use Rattle.srp_report.proofs.totals.ready_in_all.Goals as goal

pub loop-i-preserved : goal.loop-i-preserved
loop-i-preserved c =
    let nodes = c.args.world.now.nodes in
    let i = c.loop-i.i in
    let s = c.node.result.now.state in
    let same : i + 1 - 1 ≡ i = omega arith in
    let at : slice_get nodes i ≡ Some s = subst (λ (k : ℕ). slice_get nodes k ≡ Some s) same c.node.ensures in
    let place = at-place nodes i s at in
    let streams : c.as_slice-streams.result.now ≡ c.args.scenario.now.streams
    = c.as_slice-streams.ensures ∙ ap (λ (plan : Plan). plan.streams) c.scenario.view_is in
    let heard = c.ready_at.ensures ∙ ap (λ (entries : List StreamEntry). ready_at entries s) streams in
    count-more (ready_at c.args.scenario.now.streams) nodes i s s c.loop-i.count c.saturating_add-count.result place.0 place.1 c.loop-i.invariant
    (c.saturating_add-count.ensures ∙ ap (λ (n : ℕ). count_of (c.loop-i.count + n)) heard)
