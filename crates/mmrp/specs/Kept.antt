-- What every network that runs MMRP keeps.
use Rattle.srp_base.specs.declared.numbers.EgressPort.{EgressPort}
use Rattle.link_net.specs.Kept as net
use Rattle.mmrp.specs.{Node.Waiting, Node.group_meaning, Net.NetGroups}

-- the PDUs in flight from a port: those that came in at its peer, and then those that are to go out
abbrev pub in_flight : EgressPort → NetGroups → Waiting
in_flight p w = net.in_flight group_meaning p w

-- on every link both ends meet their duty, in each application, of which there is one
abbrev pub AreGroupDutiesMet : NetGroups → Type 0
AreGroupDutiesMet w = (n : Unit {0}) → net.AreDutiesMet group_meaning n w

-- What every network keeps: a sound tree, a node for each of its nodes, with a port for each of its
-- links and what every node of its kind keeps, so that bridges have joined nothing, a clock below
-- the end of time, and both duties of each link.
abbrev pub IsKeptNet : NetGroups → Type 0
IsKeptNet w = net.IsKeptNet group_meaning w
