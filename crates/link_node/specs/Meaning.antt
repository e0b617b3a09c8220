-- What a node means to the network that it stands in.
use Rattle.std.specs.Prelude.{◌≡◌}
use Rattle.srp_base.specs.declared.numbers.Cs.{Cs}
use Rattle.tree_topology.specs.declared.graph.NodeKind.{NodeKind}
use Rattle.tree_topology.specs.declared.graph.NodeKind.TheVariants.{Bridge}
use Rattle.link_net.specs.Meaning.{NodeMeaning}
use Rattle.link_app.specs.{Wires.NamedOctets, Words.AppWords}
use Rattle.link_node.specs.declared.{steps.PortStep.PortStep, steps.StepReply.StepReply}
use Rattle.link_node.specs.{Boxes.box_at, State.NodeState, State.IsFitPdu, State.IsKeptNode, State.are_all_sound, State.is_busy_node, State.is_still_node, State.new_node, State.part_at, State.ports_of, State.spoilt_at, State.with_inbox, State.with_outbox, Step.after_asking, Step.clocked_node, Step.port_step}

module _ {Name Key Request : Type 0} (w : AppWords Name Key Request) where
  -- what a node of a kind keeps at a moment: what every node keeps, the moment, and a bridge's
  -- application asks for nothing
  pub record IsKeptAs (kind : NodeKind) (now : Cs) (s : NodeState w.State Name) : Type 0 where
    pub node : IsKeptNode w s
    pub moment : w.IsAt now s.app
    pub idle : kind ≡ Bridge → w.IsIdle s.app

  -- a node with a new application, at whose ports no PDU waits
  pub record IsNewNode (s : NodeState w.State Name) : Type 0 where
    pub app : w.IsNew s.app
    pub none : s ≡ new_node w s.app

  abbrev pub node_meaning :
      NodeMeaning Name (PortStep Name Key) StepReply Request (NamedOctets Name)
  node_meaning =
      record {
        State = NodeState w.State Name;
        Part = w.Part;
        ports_of = ports_of w;
        part_at = part_at w;
        inbox = λ at s. box_at at s.inboxes;
        outbox = λ at s. box_at at s.outboxes;
        with_inbox = with_inbox;
        with_outbox = with_outbox;
        name_of = λ pdu. pdu.app;
        stepped = port_step w;
        asked = after_asking w;
        spoilt = spoilt_at w;
        ticked = clocked_node w;
        is_still = is_still_node w;
        is_sound = are_all_sound w;
        is_busy = is_busy_node w;
        IsKept = IsKeptAs;
        IsNew = λ kind. IsNewNode;
        CanAsk = λ request s. Unit {0};
        IsRequest = w.IsAskable;
        IsPdu = IsFitPdu w;
        IsShort = λ pdu. Unit {0};
        CanTick = λ now s. w.CanClock now s.app;
        duties = w.AreDutiesMet;
      }
