-- A node that runs MMRP: the flat side of MAC addresses at its link ports, and the PDUs that wait
-- there; and what it means to its network.
use Rattle.std.specs.Prelude.{ℕ, Bool, List}
use Rattle.std.specs.Ordering.{nat_cmp}
use Rattle.srp_base.specs.declared.{numbers.Cs.Cs, ports.PortSetup.PortSetup}
use Rattle.flat_side.specs.Side.{new_flat}
use Rattle.link_app.specs.declared.flat.KeyRequest.{KeyRequest}
use Rattle.link_app.specs.{Flat.flat_words, Wires.NamedOctets, Words.AppWords}
use Rattle.link_net.specs.Meaning.{NodeMeaning}
use Rattle.link_node.specs.declared.{steps.PortStep.PortStep, steps.StepReply.StepReply}
use Rattle.link_node.specs.{Meaning.node_meaning, State.NodeState}
use Rattle.link_node.specs.State.{new_node as node_with}
use Rattle.mmrp.specs.Macs.{Groups, IsMac, base, mac_codec, octets}

-- what MMRP keeps, and the PDUs that wait at each link port: those that came in, and those that are
-- to go out
abbrev pub NodeGroups : Type 0
NodeGroups = NodeState Groups (Unit {0})

-- PDUs that wait, in order
abbrev pub Waiting : Type 0
Waiting = List (NamedOctets (Unit {0}))

-- MMRP as an application at link ports
abbrev pub group_words : AppWords (Unit {0}) ℕ (KeyRequest ℕ)
group_words = flat_words nat_cmp mac_codec IsMac base octets

-- what a node means to its network
abbrev pub group_meaning :
    NodeMeaning (Unit {0}) (PortStep (Unit {0}) ℕ) StepReply (KeyRequest ℕ)
    (NamedOctets (Unit {0}))
group_meaning = node_meaning group_words

-- a new node with these ports: nothing is joined or registered, and no PDU waits
abbrev pub new_node : Cs → Bool → List PortSetup → NodeGroups
new_node leave_time periodic ports = node_with group_words (new_flat leave_time periodic ports)
