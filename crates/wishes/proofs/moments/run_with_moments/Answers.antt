use Rattle.wishes.proofs.RestLemmas.{StepLaws}
use Rattle.wishes.proofs.MomentLemmas.{moments_are}
use Rattle.wishes.proofs.moments.run_with_moments.Goals as goal

pub returns-clause-moments : goal.returns-clause-moments
returns-clause-moments c =
    let plan = c.args.scenario.now in
    let laws : StepLaws = record {
      own = c.a_step_is_of_its_node_alone.ensures.own;
      others = c.a_step_is_of_its_node_alone.ensures.others;
      silent = c.still_nodes_say_nothing.ensures;
    } in
    moments_are laws plan c.in_ok-run.run'.journal.ticks c.in_ok-run.run'.world c.new-watch.result c.watched_run.new.watcher c.in_ok-moments.moments
    c.keeps_rules.ensures c.in_ok-run.ensures.ticks
    c.new-watch.ensures
    c.in_ok-run.ensures.watched c.in_ok-moments.ensures.settled c.in_ok-moments.ensures.quiet
