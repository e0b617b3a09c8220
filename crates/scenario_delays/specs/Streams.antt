-- The streams of a scenario by their classes, as bounds on their frames' delays see them (IEEE Std
-- 802.1Q-2018, 34.4, 34.5, 35.2.2.8.4).
use Rattle.std.specs.Prelude.{ℕ, ◌*◌, Bool, true, false, List, Option, Some, map, filter, min}
use Rattle.std.specs.{List.reduce, Option.option_map_or}
use Rattle.srp_base.specs.declared.{numbers.StreamId.StreamId, bandwidth.Class.Class, bandwidth.Class.TheVariants.A, bandwidth.Class.TheVariants.B}
use Rattle.msrp_talker.specs.TalkerOut.{class_of_priority}
use Rattle.credit_shaper.specs.declared.shaper.Traffic.{Traffic}
use Rattle.stream_importance.specs.Bandwidth.{slope_of_frames}
use Rattle.frame_flow.specs.declared.frame.Frame.{Frame}
use Rattle.topology_file.specs.declared.entries.StreamEntry.{StreamEntry}
use Rattle.topology_file.specs.Plan.{Plan}
use Rattle.scenario_frames.specs.PlanFrames.{line_bits, plan_frames, traffic_of_class}
use Rattle.delay_bound.specs.declared.{stream.ClassStream.ClassStream, stream.StreamLimits.StreamLimits}
use Rattle.delay_flow.specs.Streams.{is_route_of}

-- whether a class is the one of a priority
abbrev pub is_class : Class → Option Class → Bool
is_class A (Some A) = true
is_class B (Some B) = true
is_class class of = false

-- whether a stream is of a class, by its priority
abbrev pub is_of_class : Class → StreamEntry → Bool
is_of_class class e = is_class class (class_of_priority e.priority)

-- the traffic of a class
abbrev pub traffic_in : Class → Traffic
traffic_in class = traffic_of_class (Some class)

-- what its Talker may send of it: its longest frame, its frames of one interval, its slope
abbrev pub limits_of : Class → StreamEntry → StreamLimits
limits_of class e =
    record {
      most = line_bits e.octets;
      burst = e.frames * line_bits e.octets;
      slope = slope_of_frames class e.octets e.frames;
    }

-- the frames of a stream among some
abbrev pub frames_of_stream : StreamId → List Frame → List Frame
frames_of_stream id frames = filter (λ f. is_route_of id f.route) frames

-- the bits of the least of some frames, or so many where there is none
abbrev pub least_bits : ℕ → List Frame → ℕ
least_bits most frames = option_map_or (λ n. n) (reduce min (map (λ f. f.bits) frames)) most

-- a stream of a class, with the least of its frames
abbrev pub stream_in : Class → List Frame → StreamEntry → ClassStream
stream_in class frames e =
    record {
      id = e.id;
      talker = e.talker;
      limits = limits_of class e;
      least = least_bits (limits_of class e).most (frames_of_stream e.id frames);
    }

-- those of a class, in the order of the file
abbrev pub streams_in : Class → Plan → List ClassStream
streams_in class plan = map (stream_in class (plan_frames plan)) (filter (is_of_class class) plan.streams)
