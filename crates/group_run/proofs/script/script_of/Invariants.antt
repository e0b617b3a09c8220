use Rattle.group_run.proofs.Scripts.{IsScripted}
use Rattle.group_run.proofs.script.script_of.Given as goal

-- the entries before this place have had their turn
abbrev pub invariant-loop-i : goal.invariant-loop-i
invariant-loop-i l = IsScripted l.scenario l.now.0 l.i l.script.items
