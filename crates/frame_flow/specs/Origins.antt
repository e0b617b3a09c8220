-- Where the copies at a port come from, what those were that departed, and what goes on from port
-- to port.
--
--   peer of via --- frame, start to end ---> via | node | p --- copy, from the first bit time on that
--                                                              begins as its last bit has gone
use Rattle.std.specs.Prelude.{◌≡◌, ℕ, ◌+◌, ◌<◌, ◌≤◌, ◌⊎◌, Bool, true, false, IsTrue, List, Some}
use Rattle.std.specs.List.{Contains}
use Rattle.srp_base.specs.declared.numbers.EgressPort.{EgressPort}
use Rattle.tree_topology.specs.{Topology.Topology, Topology.HasPort, Ports.peer_of}
use Rattle.frame_flow.specs.declared.{frame.Frame.Frame, frame.FrameCopy.FrameCopy, result.Fate.TheVariants.Departed, result.PortFlow.PortFlow, place.Place.Place}
use Rattle.frame_flow.specs.{Moments.bits_of_ticks, Moments.bit_from, Moments.moment_of, Force.is_port, Force.changes_at, Copies.all_places, Copies.arriving, Copies.flow_at, Copies.goes_by, Flow.Setting, Flow.force_on, Flow.may_send, Flow.port_flow}

-- a frame is of a port's own station, and at a moment it is sent
pub record IsSentThere (p : EgressPort) (f : Frame) (moment : ℕ) : Type 0 where
  pub from : f.from.0 ≡ p.node.0
  pub sent : moment ≡ f.at.0

-- a frame comes to a port's node over another of its ports: it departed at that port's peer, and at
-- a moment its last bit has gone
pub record ComesOver (s : Setting) (flows : List PortFlow) (p : EgressPort) (f : Frame) (moment : ℕ) : Type 0 where
  pub via : EgressPort
  pub port : HasPort s.tree via
  pub node : via.node.0 ≡ p.node.0
  pub other : is_port via p ≡ false
  pub flow : PortFlow
  pub there : flow_at flows (peer_of s.tree.links via) ≡ Some flow
  pub start : ℕ
  pub end : ℕ
  pub fate : Contains flow.fates (f.number, Departed start end)
  pub sent : moment ≡ moment_of flow.input.rate end

-- a copy at a port is of one of the frames, which goes by the port, and is there in the first bit
-- time that begins as the frame is at the node or later; that is before the run's end
pub record HasSource (s : Setting) (flows : List PortFlow) (place : Place) (c : FrameCopy) : Type 0 where
  pub frame : Contains s.frames c.frame
  pub goes : goes_by s.tree.links place.at c.frame.route ≡ true
  pub moment : ℕ
  pub bit : c.bit ≡ bit_from place.rate moment
  pub early : c.bit < bits_of_ticks place.rate s.ticks
  pub source : IsSentThere place.at c.frame moment ⊎ ComesOver s flows place.at c.frame moment

-- a flow is what the others give a port of the tree, which it is at
pub record IsFlowOf (s : Setting) (flows : List PortFlow) (p : EgressPort) (x : PortFlow) : Type 0 where
  pub place : Place
  pub listed : Contains (all_places s.tree.links s.rates) place
  pub at : place.at ≡ p
  pub flow : x ≡ port_flow s flows place

-- what departed under a number from one bit time to another is a copy that arrived at the port,
-- could be sent there, and took its own bits
pub record IsOfCopy (s : Setting) (flows : List PortFlow) (place : Place) (number start end : ℕ) : Type 0 where
  pub copy : FrameCopy
  pub there : Contains (arriving s.tree.links s.frames s.ticks flows place) copy
  pub numbered : copy.frame.number ≡ number
  pub sent : may_send copy (force_on place.rate (changes_at s.changes place.at) copy) ≡ true
  pub after : copy.bit ≤ start
  pub bits : end ≡ start + copy.frame.bits

-- a test passes at each port that sends into a port's node over another link
abbrev pub PassesBefore : Topology → (EgressPort → Bool) → EgressPort → Type 0
PassesBefore tree test p =
    (r : EgressPort) → HasPort tree r → r.node.0 ≡ p.node.0 → is_port r p ≡ false
    → IsTrue (test (peer_of tree.links r))
