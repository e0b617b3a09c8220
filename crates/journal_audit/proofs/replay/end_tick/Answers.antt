use Rattle.std.proofs.Common.{ap, sym}
use Rattle.world_core.specs.World.{Happened}
use Rattle.journal_audit.proofs.RunLemmas.{clock_can, closes}
use Rattle.journal_audit.proofs.replay.end_tick.Goals as goal

pub step-requires : goal.step-requires
step-requires c =
    clock_can c.args.scenario.now c.laws_of_replay.ensures c.args.t c.args.world.now c.carry_sent.new.world c.requires.within c.requires.during c.in_ok-carry_sent.ensures.carried

pub returns : goal.returns
returns c =
    closes c.args.scenario.now c.laws_of_replay.ensures c.args.t c.args.world.now c.carry_sent.new.world c.step.new.self c.requires.during c.in_ok-carry_sent.ensures.carried
    (ap (λ (h : Happened). h.0) (sym {A = Happened} c.in_ok-step.ensures.ok))
