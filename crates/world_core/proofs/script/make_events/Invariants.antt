use Rattle.world_core.proofs.Scripts.{IsScripted}
use Rattle.world_core.proofs.script.make_events.Given as goal

abbrev pub invariant-loop-i : goal.invariant-loop-i
invariant-loop-i l = IsScripted l.scenario l.t l.i l.initial.world l.world l.answers.items
