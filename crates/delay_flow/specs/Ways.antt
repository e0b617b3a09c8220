-- The numbers of a stream along its way, and a stream's frames as its Talker's limits see them.
use Rattle.std.specs.Prelude.{◌≡◌, Bool, true, not, ◌&&◌, List, filter, map}
use Rattle.std.specs.List.{Contains, list_all, Sorted.IsPermutation}
use Rattle.srp_base.specs.declared.numbers.EgressPort.{EgressPort}
use Rattle.credit_shaper.specs.declared.shaper.Traffic.{Traffic}
use Rattle.tree_topology.specs.{Topology.HasPort, Ports.far_node, Walk.is_behind, Walk.path_between}
use Rattle.frame_flow.specs.declared.frame.Frame.{Frame}
use Rattle.frame_flow.specs.Flow.{Setting}
use Rattle.delay_bound.specs.declared.{stream.SentFrame.SentFrame, way.Hop.Hop}
use Rattle.delay_bound.specs.Frames.{DoConform}
use Rattle.delay_bound.specs.declared.stream.ClassStream.{ClassStream}
use Rattle.delay_flow.specs.{Streams.is_frame_of, Places.is_booked, Rules.Numbers}

-- the ports of a stream's way from its Talker through a port
abbrev pub way_to : Setting → ClassStream → EgressPort → List EgressPort
way_to s x p = path_between s.tree.links x.talker.0 (far_node s.tree.links p)

-- a port of it, with a stream's wait there
abbrev pub hop_of : Numbers → ClassStream → EgressPort → Hop
hop_of n x q = record { rate = n.rate q; wait = n.wait q x }

-- whether a stream is fed at a port: its Talker doesn't lie behind it, and it is booked at each
-- port of the way through it
abbrev pub is_fed : Setting → EgressPort → ClassStream → Bool
is_fed s p x =
    not (is_behind s.tree.links p x.talker.0) && list_all (λ q. is_booked s q x.id) (way_to s x p)

-- where streams are fed by their ways they are
abbrev pub IsFedByWay : Setting → List ClassStream → Numbers → Type 0
IsFedByWay s streams n =
    (p : EgressPort) (x : ClassStream) → HasPort s.tree p → Contains streams x → is_fed s p x ≡ true → n.fed p x ≡ true

-- a frame as it is sent
abbrev pub sent_frame : Frame → SentFrame
sent_frame f = record { at = f.at; bits = f.bits }

-- a stream's frames, in some order, conform to its limits
abbrev pub ConformInOrder : Setting → Traffic → ClassStream → List SentFrame → Type 0
ConformInOrder s traffic x xs =
    IsPermutation (map sent_frame (filter (is_frame_of traffic x) s.frames)) xs × DoConform x.limits xs
