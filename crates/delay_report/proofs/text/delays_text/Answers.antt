use Rattle.std.proofs.Common.{◌≡◌, ◌++◌, ◌∙◌, ap}
use Rattle.std.specs.Prelude.{flat_map}
use Rattle.delay_report.specs.Lines.{conforms_line, quiet_line}
use Rattle.delay_report.specs.Text.{stream_delays}
use Rattle.delay_report.proofs.TextLemmas.{put_together}
use Rattle.delay_report.proofs.text.delays_text.Goals as goal

pub returns : goal.returns
returns c =
    let plan = c.args.scenario.now in
    let facts = c.args.facts.now in
    let nodes = c.args.world.now.nodes in
    put_together c.new-out.result.items c.put_first.new.out.items c.put_hops.new.out.items c.put_answers.new.out.items c.put_streams.new.out.items
    c.put_quiet.new.out.items _ _ _ _ _ c.new-out.ensures.items c.in_ok-put_first.ensures c.in_ok-put_hops.ensures
    (c.in_ok-put_answers.ensures
    ∙ ap (λ answers. c.put_hops.new.out.items ++ flat_map (λ a. conforms_line a.stream.id a.conforms) answers) c.as_slice-2.ensures)
    (c.in_ok-put_streams.ensures
    ∙ ap (λ flows. c.put_answers.new.out.items ++ flat_map (λ a. stream_delays (record { plan = plan; facts = facts; flows = flows }) a 1 nodes) facts.answers)
    c.as_slice.ensures)
    (c.in_ok-put_quiet.ensures ∙ ap (λ quiet. c.put_streams.new.out.items ++ quiet_line quiet) c.quiet.ensures)
