-- The frames of a scenario, as a flow is asked of them.
--
--   an entry of 3 copies:   at, at + every, at + 2 * every      in ns
--   its frames:             n, n + 1, n + 2                     the next entry's begin with n + 3
use Rattle.std.specs.Prelude.{ℕ, ◌+◌, ◌-◌, ◌*◌, List, [], ◌∷◌, ◌++◌, map, Option, Some, None, option_map, slice_get}
use Rattle.std.specs.List.{range_with_len}
use Rattle.srp_base.specs.declared.bandwidth.Class.{Class}
use Rattle.srp_base.specs.declared.bandwidth.Class.TheVariants as classes
use Rattle.msrp_talker.specs.TalkerOut.{class_of_priority}
use Rattle.credit_shaper.specs.declared.shaper.Traffic.{Traffic}
use Rattle.credit_shaper.specs.declared.shaper.Traffic.TheVariants as traffics
use Rattle.frame_flow.specs.declared.{frame.Frame.Frame, frame.Route.TheVariants.Stream, frame.Route.TheVariants.To}
use Rattle.topology_file.specs.declared.{entries.StreamEntry.StreamEntry, entries.FrameEntry.FrameEntry, entries.FrameRoute.FrameRoute}
use Rattle.topology_file.specs.declared.entries.FrameRoute.TheVariants as routes
use Rattle.topology_file.specs.Plan.{Plan}
use Rattle.scenario_frames.specs.declared.way.Way.{Way}

-- ---- where a frame starts, and as what it goes

-- the traffic of an SR class, and of none
abbrev pub traffic_of_class : Option Class → Traffic
traffic_of_class None = traffics.Other
traffic_of_class (Some classes.A) = traffics.A
traffic_of_class (Some classes.B) = traffics.B

-- the traffic of a priority: that of its SR class, A for 3 and B for 2 (IEEE Std 802.1Q-2018, 34.5,
-- the default priorities of two classes)
abbrev pub traffic_of_priority : ℕ → Traffic
traffic_of_priority priority = traffic_of_class (class_of_priority priority)

-- a stream's frames start at its talker, with the stream's VID and the traffic of its priority
abbrev pub stream_way : StreamEntry → Way
stream_way s =
    record { from = s.talker; route = Stream s.id (traffic_of_priority s.priority); vid = s.vid }

-- the way of the frames of a route, whose stream is named by its number, from 1; None where there
-- is no such stream
abbrev pub way_of : List StreamEntry → FrameRoute → Option Way
way_of streams (routes.OfStream stream) = option_map stream_way (slice_get streams (stream - 1))
way_of streams (routes.Between from to vid) = Some (record { from = from; route = To to; vid = vid })

-- ---- the frames

-- a frame's length on the line in bits: its data and 42 octets of preamble, header, tag, check
-- sequence and gap (34.4)
abbrev pub line_bits : ℕ → ℕ
line_bits octets = (octets + 42) * 8

-- the moment of an entry's copy of an index, from 0, in ps
abbrev pub copy_moment : FrameEntry → ℕ → ℕ
copy_moment e i = (e.at + i * e.every) * 1000

-- an entry's copy of an index, from 0, where the first has this number
abbrev pub copy_of : FrameEntry → Way → ℕ → ℕ → Frame
copy_of e way first i = record {
  number = first + i;
  at = record { 0 = copy_moment e i };
  from = way.from;
  route = way.route;
  vid = way.vid;
  bits = line_bits e.octets;
}

-- an entry's copies in order, the first with this number; none without a way
abbrev pub copies_of : FrameEntry → Option Way → ℕ → List Frame
copies_of e None first = []
copies_of e (Some way) first = map (copy_of e way first) (range_with_len 0 e.count)

-- the copies of entries in order, the first with this number
abbrev pub frames_from : List StreamEntry → ℕ → List FrameEntry → List Frame
frames_from streams first [] = []
frames_from streams first (e ∷ es) =
    copies_of e (way_of streams e.route) first ++ frames_from streams (first + e.count) es

-- the frames of a scenario, numbered from 1
abbrev pub plan_frames : Plan → List Frame
plan_frames plan = frames_from plan.streams 1 plan.frames
