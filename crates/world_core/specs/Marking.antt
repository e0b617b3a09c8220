-- How the code goes from an event to the marks: what it notes before a step of a port. No public
-- contract names this file.
use Rattle.std.specs.Prelude.{◌≤◌, Bool, true, false}
use Rattle.srp_base.specs.declared.numbers.EgressPort.{EgressPort}
use Rattle.tree_topology.specs.Ports.{peer_of}
use Rattle.world_core.specs.declared.{events.WorldReply.WorldReply, events.WorldReply.TheVariants.Done, marking.Noted.Noted}
use Rattle.world_core.specs.declared.marking.Noted.TheVariants.{Nothing, Takes, Sends}
use Rattle.world_core.specs.{Marks.MarksState, Marks.mark_at, Marks.with_both, Marks.both_took, World.marks_sending}

-- the marks after a step that this was noted of, with its answer
abbrev pub marks_noted : EgressPort → Noted → WorldReply → MarksState → MarksState
marks_noted at Nothing reply m = m
marks_noted at (Takes app leave_all) reply m = with_both app at (both_took leave_all) m
marks_noted at (Sends app leave_all) reply m = marks_sending at app leave_all reply m

-- a PDU that is taken was on its way
abbrev pub CanNote : EgressPort → Noted → MarksState → Type 0
CanNote at Nothing m = Unit {0}
CanNote at (Takes app leave_all) m = 1 ≤ (mark_at app (peer_of m.tree.links at) m).flying
CanNote at (Sends app leave_all) m = Unit {0}

-- whether an answer tells that something was done
abbrev pub is_done : WorldReply → Bool
is_done Done = true
is_done _ = false
