use Rattle.std.proofs.Common.{◌≡◌, ◌++◌, drop, map}
use Rattle.msrp.specs.{ports_in, asked_at}
use Rattle.msrp.proofs.plan.asked_of.Given as goal

-- what was put there, with what is asked for the streams that are left, is all
abbrev pub invariant-loop-stream : goal.invariant-loop-stream
invariant-loop-stream l =
    l.asked.items ++ map (asked_at l.view.at l.view.talks.now (ports_in l.view.ports.now) l.port.state) (drop l.stream-index l.streams)
    ≡ map (asked_at l.view.at l.view.talks.now (ports_in l.view.ports.now) l.port.state) l.streams
