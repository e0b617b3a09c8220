-- A node as contracts see it: an application at its link ports, and the PDUs that wait there.
use Rattle.std.specs.Prelude.{◌≡◌, ℕ, Bool, not, ◌&&◌, ◌||◌, List, [], length, Option, slice_set, replicate}
use Rattle.std.specs.List.{AllByRecursion}
use Rattle.srp_base.specs.declared.numbers.Cs.{Cs}
use Rattle.link_app.specs.{Wires.NamedOctets, Words.AppWords}
use Rattle.link_node.specs.Boxes.{are_empty}

-- the application, and the PDUs at each link port: those that came in, and those that are to go
-- out
pub record NodeState (App Name : Type 0) : Type 0 where
  pub app : App
  pub inboxes : List (List (NamedOctets Name))
  pub outboxes : List (List (NamedOctets Name))

-- the node with what is said of its application
abbrev pub state_of :
    {App State Name : Type 0} → (App → State) → NodeState App Name → NodeState State Name
state_of f s = record { app = f s.app; inboxes = s.inboxes; outboxes = s.outboxes }

-- there is an inbox and an outbox for each of so many link ports
pub record HasBoxes {App Name : Type 0} (ports : ℕ) (s : NodeState App Name) : Type 0 where
  pub inboxes : length s.inboxes ≡ ports
  pub outboxes : length s.outboxes ≡ ports

module _ {State Name : Type 0} where
  -- these PDUs wait in the outbox at a place
  abbrev pub with_outbox : ℕ → List (NamedOctets Name) → NodeState State Name → NodeState State Name
  with_outbox at pdus s = record s { outboxes = slice_set s.outboxes at pdus }

  -- these PDUs wait in the inbox at a place
  abbrev pub with_inbox : ℕ → List (NamedOctets Name) → NodeState State Name → NodeState State Name
  with_inbox at pdus s = record s { inboxes = slice_set s.inboxes at pdus }

module _ {Name Key Request : Type 0} (w : AppWords Name Key Request) where
  -- the number of link ports, and the participant of an application at a place
  abbrev pub ports_of : NodeState w.State Name → ℕ
  ports_of s = w.ports_of s.app

  abbrev pub part_at : (n : Name) → ℕ → NodeState w.State Name → Option (w.Part n)
  part_at n at s = w.part_at n at s.app

  -- a node with an application, at whose ports no PDU waits
  abbrev pub new_node : w.State → NodeState w.State Name
  new_node app =
      record {
        app = app;
        inboxes = replicate (w.ports_of app) [];
        outboxes = replicate (w.ports_of app) [];
      }

  -- whether nothing is pending: no PDU waits, every participant is at rest, no attribute awaits
  abbrev pub is_still_node : NodeState w.State Name → Bool
  is_still_node s = are_empty s.inboxes && are_empty s.outboxes && w.is_still s.app

  -- whether a node is busy at a moment: a PDU came in at some port, a timer is due there, or an
  -- attribute awaits
  abbrev pub is_busy_node : Cs → NodeState w.State Name → Bool
  is_busy_node now s = not (are_empty s.inboxes) || w.is_busy now s.app

  -- whether every participant is sound
  abbrev pub are_all_sound : NodeState w.State Name → Bool
  are_all_sound s = w.are_sound s.app

  -- the participant of an application at a place isn't sound any more
  abbrev pub spoilt_at : Name → ℕ → NodeState w.State Name → NodeState w.State Name
  spoilt_at n at s = record s { app = w.after_spoiling n at s.app }

  -- a PDU is such as a neighbour may send
  abbrev pub IsFitPdu : NamedOctets Name → Type 0
  IsFitPdu pdu = w.IsFit pdu.app pdu.octets

  abbrev pub AreFit : List (NamedOctets Name) → Type 0
  AreFit pdus = AllByRecursion IsFitPdu pdus

  -- what every node keeps: what its application keeps, an inbox and an outbox for each link port,
  -- and PDUs such as a neighbour may send
  pub record IsKeptNode (s : NodeState w.State Name) : Type 0 where
    pub app : w.IsKept s.app
    pub boxes : HasBoxes (w.ports_of s.app) s
    pub fit_in : AllByRecursion AreFit s.inboxes
    pub fit_out : AllByRecursion AreFit s.outboxes
