use Rattle.srpnet.proofs.Carried.{carried}
use Rattle.srpnet.proofs.top.carry_out_by_threads.Goals as goal

pub returns : goal.returns
returns g c =
    carried g.I.Source.left g.I.Source.faults g.O.Sink.held g.O.Sink.faults c.args.command _ _ _ _ c.read_output_by_threads-made.result _ _
    c.read_output_by_threads-made.ensures c.let_out.ensures
