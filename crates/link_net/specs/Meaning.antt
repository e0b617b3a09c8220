-- What a node means to the network that it stands in: its state, what there is of it at each of its
-- link ports, and each thing that may happen at it as a function of the state. A place is that of a
-- link port, counted from 0.
use Rattle.std.specs.Prelude.{ℕ, suc, Bool, List, ◌∷◌, ◌++◌, take, drop, Option}
use Rattle.srp_base.specs.declared.numbers.Cs.{Cs}
use Rattle.tree_topology.specs.declared.graph.NodeKind.{NodeKind}
use Rattle.mrp_participant.specs.Link.{with_repeat}

-- of applications that are told apart by a name, of steps of a link port with their answers, of
-- what an application asks for, and of PDUs
pub record NodeMeaning (Name Step Reply Request Pdu : Type 0) : Type 1 where
  -- what is kept of a node, and of the participant of an application at one link port
  pub State : Type 0
  pub Part : Name → Type 0
  -- the number of link ports, and the participant at a place
  pub ports_of : State → ℕ
  pub part_at : (n : Name) → ℕ → State → Option (Part n)
  -- the PDUs at a place, in order: those that came in, and those that are to go out
  pub inbox : ℕ → State → List Pdu
  pub outbox : ℕ → State → List Pdu
  pub with_inbox : ℕ → List Pdu → State → State
  pub with_outbox : ℕ → List Pdu → State → State
  -- the application that a PDU is of
  pub name_of : Pdu → Name
  -- what happens: the link port at a place makes a step at a moment; something is asked for; the
  -- participant at a place isn't sound any more; the clock has come to a moment
  pub stepped : Cs → Step → ℕ → State → State × Reply
  pub asked : Request → State → State × Reply
  pub spoilt : Name → ℕ → State → State
  pub ticked : Cs → State → State
  -- what the readers say: nothing is pending; every participant is sound; there is something to do
  -- at a moment
  pub is_still : State → Bool
  pub is_sound : State → Bool
  pub is_busy : Cs → State → Bool
  -- what a node of a kind keeps at a moment, and that it is a new one, of which nothing is pending
  pub IsKept : NodeKind → Cs → State → Type 0
  pub IsNew : NodeKind → State → Type 0
  -- when something may be asked for, and when the clock may come to a moment
  pub CanAsk : Request → State → Type 0
  pub CanTick : Cs → State → Type 0
  -- what each request and each PDU is as its type has it, and that a PDU is as short as a frame
  -- allows
  pub IsRequest : Request → Type 0
  pub IsPdu : Pdu → Type 0
  pub IsShort : Pdu → Type 0
  -- the duties of both ends of one link in an application: the near and the far participant, the
  -- PDUs on their way from near to far, and those on their way from far to near
  pub duties : (n : Name) → Part n → Part n → List Pdu → List Pdu → Type 0

-- a list without the element of an index, counted from 0
abbrev pub without : {X : Type 0} → ℕ → List X → List X
without index xs = take index xs ++ drop (suc index) xs

-- a list with one more element at the place of an index; those that stood there and behind come
-- after it
abbrev pub with_one : {X : Type 0} → ℕ → X → List X → List X
with_one index x xs = take index xs ++ x ∷ drop index xs

module _ {Name Step Reply Request Pdu : Type 0} (node : NodeMeaning Name Step Reply Request Pdu) where
  -- these PDUs came in at a place behind those that wait there
  abbrev pub carried_at : ℕ → List Pdu → node.State → node.State
  carried_at at pdus s = node.with_inbox at (node.inbox at s ++ pdus) s

  -- the PDU of an index is lost from an inbox
  abbrev pub lost_at : ℕ → ℕ → node.State → node.State
  lost_at at index s = node.with_inbox at (without index (node.inbox at s)) s

  -- it is there twice, the copy right behind its original
  abbrev pub repeated_at : ℕ → ℕ → node.State → node.State
  repeated_at at index s = node.with_inbox at (with_repeat index (node.inbox at s)) s

  -- a PDU that no neighbour sent stands at the place of an index in an inbox
  abbrev pub forged_at : ℕ → ℕ → Pdu → node.State → node.State
  forged_at at index pdu s = node.with_inbox at (with_one index pdu (node.inbox at s)) s
