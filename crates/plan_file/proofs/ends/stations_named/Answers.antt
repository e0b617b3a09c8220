use Rattle.std.proofs.Common.{ap, sym, ◌∙◌}
use Rattle.topology_file.specs.Entries.{station_named}
use Rattle.plan_file.specs.{all_read}
use Rattle.plan_file.proofs.NameLemmas.{in_front, in_front-nil, read-end, read-map, read-none, read-step}
use Rattle.plan_file.proofs.ends.stations_named.Goals as goal

pub loop-word-init : goal.loop-word-init
loop-word-init c =
    let nodes = c.args.names.now.nodes in
    ap (λ xs. in_front xs (all_read (λ w. station_named nodes w.now) c.args.words.now)) c.in_ok-found.ensures.items
    ∙ in_front-nil (all_read (λ w. station_named nodes w.now) c.args.words.now) ∙ sym (read-map (λ w. w.now) (station_named nodes) c.args.words.now)

pub loop-word-preserved : goal.loop-word-preserved
loop-word-preserved c =
    read-step (λ w. station_named c.args.names.now.nodes w.now) c.loop-word.found.items _ c.args.words.now c.loop-word.word-index
    _ c.in-Some.x _ c.loop-word-test.true (sym c.in-Some.ensures)
    c.in_ok-push-in-Some.ensures.items c.loop-word.invariant

pub returns : goal.returns
returns c =
    read-end (λ w. station_named c.args.names.now.nodes w.now) c.loop-word.found.items c.args.words.now c.loop-word.word-index _
    c.loop-word-test.false c.loop-word.invariant

pub returns-in-None : goal.returns-in-None
returns-in-None c =
    read-none (λ w. station_named c.args.names.now.nodes w.now) c.loop-word.found.items c.args.words.now c.loop-word.word-index
    _ _ c.loop-word-test.true (sym c.in-None.ensures) c.loop-word.invariant
