use Rattle.std.proofs.Common.{◌≡◌, ◌+◌, ◌-◌, arith}
use Rattle.network_laws.proofs.SetUp.{caps-are}
use Rattle.network_laws.proofs.cause_laws.caps_are_those_of_the_scenario.Goals as goal

pub returns : goal.returns
returns c plan ticks end w p s port rules legal moment has node at =
    let some = has.0.0 in
    let number : p.node.0 - 1 + 1 ≡ p.node.0 = omega (arith, some) in
    caps-are plan p s port number (c.every_moment_is_set_up_by_the_plan.ensures.caps plan ticks w (p.node.0 - 1) s moment node) at
