-- How long frames of a stream took from their moments through a port, as they went.
use Rattle.std.specs.Prelude.{ℕ, ◌-◌, max, if◌then◌else◌, List, [], ◌∷◌, Option, Some, None, option_and_then, filter_map}
use Rattle.srp_base.specs.declared.{numbers.StreamId.StreamId, bandwidth.Rate.Rate}
use Rattle.frame_flow.specs.declared.{frame.Frame.Frame, result.PortFlow.PortFlow, result.Fate.Fate}
use Rattle.frame_flow.specs.declared.result.Fate.TheVariants.{Departed}
use Rattle.frame_flow.specs.{Copies.frame_of, Moments.moment_of}
use Rattle.delay_flow.specs.Streams.{is_route_of}

-- the ps that a frame of a stream took until this moment, from its own
abbrev pub taken_by : StreamId → ℕ → Frame → Option ℕ
taken_by stream moment f = if is_route_of stream f.route then Some (moment - f.at.0) else None

-- the ps that a copy took whose frame is one of a stream and which departed: up to the bit time
-- after its last bit
abbrev pub taken_in : StreamId → List Frame → Rate → ℕ × Fate → Option ℕ
taken_in stream frames rate (number, Departed start end) =
    option_and_then (taken_by stream (moment_of rate end)) (frame_of frames number)
taken_in stream frames rate (number, fate) = None

-- those of all that departed at a port
abbrev pub taken_at : StreamId → List Frame → Option PortFlow → List ℕ
taken_at stream frames None = []
taken_at stream frames (Some x) = filter_map (taken_in stream frames x.input.rate) x.fates

-- the longest of them, or 0
abbrev pub longest_of : List ℕ → ℕ
longest_of [] = 0
longest_of (t ∷ ts) = max t (longest_of ts)
