-- The streams of a class in a flow, and what their Talkers send.
use Rattle.std.specs.Prelude.{◌≡◌, ℕ, ◌*◌, ◌≤◌, Bool, true, false, ◌==◌, ◌&&◌, List, filter, All, Some}
use Rattle.std.specs.List.{Contains}
use Rattle.srp_base.specs.declared.numbers.StreamId.{StreamId}
use Rattle.credit_shaper.specs.declared.shaper.Traffic.{Traffic}
use Rattle.credit_shaper.specs.Credit.{traffic_number}
use Rattle.tree_topology.specs.Topology.{HasNode}
use Rattle.frame_flow.specs.declared.{frame.Frame.Frame, frame.Route.Route, frame.Route.TheVariants.Stream, frame.Route.TheVariants.To}
use Rattle.frame_flow.specs.Flow.{Setting, traffic_of}
use Rattle.delay_bound.specs.declared.stream.ClassStream.{ClassStream}
use Rattle.delay_bound.specs.{Bounds.second, Windows.IsBoundBy}

-- whether a frame is of a class
abbrev pub is_in_class : Traffic → Frame → Bool
is_in_class traffic f = traffic_number (traffic_of f.route) == traffic_number traffic

-- whether a frame goes as one of a stream
abbrev pub is_route_of : StreamId → Route → Bool
is_route_of id (Stream stream traffic) = stream.0 == id.0
is_route_of id (To station) = false

-- whether a frame is one of a stream of a class
abbrev pub is_frame_of : Traffic → ClassStream → Frame → Bool
is_frame_of traffic x f = is_in_class traffic f && is_route_of x.id f.route

-- a frame of a stream is sent by its Talker, and is as long as its least at least, and as its
-- longest at most
pub record IsSentBy (x : ClassStream) (f : Frame) : Type 0 where
  pub from : f.from.0 ≡ x.talker.0
  pub least : x.least ≤ f.bits
  pub most : f.bits ≤ x.limits.most

-- the streams of a class: their Talkers are nodes of the tree; each frame of the class is one of a
-- stream of these and sent by its Talker; and by the moments at which a stream's frames are sent
-- they keep in each window of time the stream's burst, in bits × 10^12, and its slope
pub record AreStreams (s : Setting) (traffic : Traffic) (streams : List ClassStream) : Type 0 where
  pub known : All (λ f. is_in_class traffic f ≡ true
      → (x : ClassStream) × Contains streams x × (is_frame_of traffic x f ≡ true)) s.frames
  pub talkers : All (λ x. HasNode s.tree x.talker.0) streams
  pub sent : All (λ x. All (λ f. is_frame_of traffic x f ≡ true → IsSentBy x f) s.frames) streams
  pub conform : All (λ x. IsBoundBy (λ f. f.bits) (λ f. Some f.at.0)
      (x.limits.burst * second) x.limits.slope (filter (is_frame_of traffic x) s.frames)) streams
