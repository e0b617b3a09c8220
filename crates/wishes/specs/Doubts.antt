-- What is allowed in a plan and hardly meant, and the lines that say so.
use Rattle.std.specs.Prelude.{ℕ, ◌+◌, ◌-◌, ◌*◌, ◌==◌, Bool, false, not, ◌&&◌, nat_lt, if◌then◌else◌, is_none, List, [], ◌∷◌, ◌++◌, codes, flat_map, length, Option, Some, None, slice_get}
use Rattle.std.specs.{Option.option_map_or, Fmt.decimal}
use Rattle.srp_base.specs.Text.{whole_of}
use Rattle.srp_base.specs.declared.{bandwidth.Class.Class, bandwidth.Class.TheVariants.A, bandwidth.Class.TheVariants.B, numbers.NodeNo.NodeNo}
use Rattle.topology_file.specs.declared.{entries.FrameEntry.FrameEntry, entries.FrameRoute.FrameRoute, entries.StreamEntry.StreamEntry}
use Rattle.topology_file.specs.declared.entries.FrameRoute.TheVariants.{Between, OfStream}
use Rattle.topology_file.specs.Plan.{Plan}
use Rattle.msrp_talker.specs.TalkerOut.{class_of_priority}
use Rattle.world_core.specs.World.{WorldState, is_in_step, is_quiet}
use Rattle.network_laws.specs.{Streams.talking_node, Vlans.is_declared_at}
use Rattle.report_words.specs.Names.{name_of}
use Rattle.wishes.specs.Wishes.{listeners}

-- ---- the lines

-- a line, where its fact holds
abbrev pub where_so : Bool → List ℕ → List ℕ
where_so so line = if so then line else []

-- a name between two words
abbrev pub named : List ℕ → List ℕ → List ℕ → List ℕ
named before name after = whole_of (before ∷ name ∷ after ∷ [])

-- a number between two words
abbrev pub counted : List ℕ → ℕ → List ℕ → List ℕ
counted before number after = whole_of (before ∷ decimal number ∷ after ∷ [])

-- `doubt stream NAME has frames 0: its Talker asks for no bandwidth`
abbrev pub no_frames_line : List ℕ → List ℕ
no_frames_line name = named (codes "doubt stream ") name (codes " has frames 0: its Talker asks for no bandwidth\n")

-- `doubt stream NAME has `
abbrev pub stream_start : List ℕ → List ℕ
stream_start name = named (codes "doubt stream ") name (codes " has ")

-- `octets N, more than 1500: each port refuses it`
abbrev pub long_stream_end : ℕ → List ℕ
long_stream_end octets = counted (codes "octets ") octets (codes ", more than 1500: each port refuses it\n")

-- both
abbrev pub long_stream_line : List ℕ → ℕ → List ℕ
long_stream_line name octets = stream_start name ++ long_stream_end octets

-- `priority P, which is of no class: each port refuses it`
abbrev pub no_class_end : ℕ → List ℕ
no_class_end priority = counted (codes "priority ") priority (codes ", which is of no class: each port refuses it\n")

-- `doubt stream NAME has priority P, which is of no class: each port refuses it`
abbrev pub no_class_line : List ℕ → ℕ → List ℕ
no_class_line name priority = stream_start name ++ no_class_end priority

-- `doubt nobody talks stream NAME at the end`
abbrev pub untalked_line : List ℕ → List ℕ
untalked_line name = named (codes "doubt nobody talks stream ") name (codes " at the end\n")

-- `doubt nobody listens to stream NAME at the end`
abbrev pub unheard_line : List ℕ → List ℕ
unheard_line name = named (codes "doubt nobody listens to stream ") name (codes " at the end\n")

-- `doubt STATION listens to `
abbrev pub listener_start : List ℕ → List ℕ
listener_start station = named (codes "doubt ") station (codes " listens to ")

-- `stream NAME and doesn't declare its `
abbrev pub undeclared_stream : List ℕ → List ℕ
undeclared_stream name = named (codes "stream ") name (codes " and doesn't declare its ")

-- `VID V`
abbrev pub vid_end : ℕ → List ℕ
vid_end vid = counted (codes "VID ") vid (codes "\n")

-- the last two
abbrev pub undeclared_end : List ℕ → ℕ → List ℕ
undeclared_end name vid = undeclared_stream name ++ vid_end vid

-- `doubt STATION listens to stream NAME and doesn't declare its VID V`
abbrev pub undeclared_line : List ℕ → List ℕ → ℕ → List ℕ
undeclared_line station name vid = listener_start station ++ undeclared_end name vid

-- `its stream NAME: `
abbrev pub entry_start : List ℕ → List ℕ
entry_start name = named (codes "its stream ") name (codes ": ")

-- what the stream's entry says
abbrev pub number_end : ℕ → List ℕ
number_end number = counted [] number (codes "\n")

-- both
abbrev pub entry_end : List ℕ → ℕ → List ℕ
entry_end name number = entry_start name ++ number_end number

-- `doubt frame N has `
abbrev pub frame_start : ℕ → List ℕ
frame_start number = counted (codes "doubt frame ") number (codes " has ")

-- `octets O, more than `
abbrev pub octets_words : ℕ → List ℕ
octets_words octets = counted (codes "octets ") octets (codes ", more than ")

-- that with the stream's
abbrev pub long_frame_end : ℕ → List ℕ → ℕ → List ℕ
long_frame_end octets name most = octets_words octets ++ entry_end name most

-- `doubt frame N has octets O, more than its stream NAME: M`
abbrev pub long_frame_line : ℕ → ℕ → List ℕ → ℕ → List ℕ
long_frame_line number octets name most = frame_start number ++ long_frame_end octets name most

-- `doubt frame N comes more often in an interval than `
abbrev pub dense_frame_start : ℕ → List ℕ
dense_frame_start number = counted (codes "doubt frame ") number (codes " comes more often in an interval than ")

-- `doubt frame N comes more often in an interval than its stream NAME: F`
abbrev pub dense_frame_line : ℕ → List ℕ → ℕ → List ℕ
dense_frame_line number name frames = dense_frame_start number ++ entry_end name frames

-- `doubt the run ends while the network isn't quiet and in step: it may still change`
abbrev pub restless_line : List ℕ
restless_line = codes "doubt the run ends while the network isn't quiet and in step: it may still change\n"

-- ---- what is doubted of a stream

abbrev pub no_frames : StreamEntry → List ℕ
no_frames e = where_so (e.frames == 0) (no_frames_line e.name)

abbrev pub long_stream : StreamEntry → List ℕ
long_stream e = where_so (nat_lt 1500 e.octets) (long_stream_line e.name e.octets)

abbrev pub no_class : StreamEntry → List ℕ
no_class e = where_so (is_none (class_of_priority e.priority)) (no_class_line e.name e.priority)

-- no station talks it
abbrev pub untalked : WorldState → StreamEntry → List ℕ
untalked w e = where_so (is_none (talking_node w e.id)) (untalked_line e.name)

-- no station listens to it
abbrev pub unheard : WorldState → StreamEntry → List ℕ
unheard w e = where_so (length (listeners w e.id) == 0) (unheard_line e.name)

-- a station that listens to it doesn't declare its VID
abbrev pub undeclared_at : Plan → WorldState → StreamEntry → NodeNo → List ℕ
undeclared_at plan w e l =
    where_so (not (is_declared_at w e.vid l.0)) (undeclared_line (name_of plan.nodes l) e.name e.vid)

-- what its entry says
abbrev pub entry_doubts : StreamEntry → List ℕ
entry_doubts e = whole_of (no_frames e ∷ long_stream e ∷ no_class e ∷ [])

-- what its stations do
abbrev pub station_doubts : Plan → WorldState → StreamEntry → List ℕ
station_doubts plan w e = whole_of (
    untalked w e ∷ unheard w e ∷ flat_map (undeclared_at plan w e) (listeners w e.id) ∷ [])

abbrev pub stream_doubts : Plan → WorldState → StreamEntry → List ℕ
stream_doubts plan w e = entry_doubts e ++ station_doubts plan w e

-- those of some streams
abbrev pub streams_doubts : Plan → WorldState → List StreamEntry → List ℕ
streams_doubts plan w [] = []
streams_doubts plan w (e ∷ entries) = stream_doubts plan w e ++ streams_doubts plan w entries

-- ---- what is doubted of a frame

-- the class measurement interval of a class in ns (IEEE Std 802.1Q-2018, 34.4)
abbrev pub interval_of : Class → ℕ
interval_of A = 125000
interval_of B = 250000

-- whether more copies of a frame come in some interval of so many ns than so many: the one behind so
-- many others stands less than that behind the first
abbrev pub is_denser : FrameEntry → ℕ → ℕ → Bool
is_denser f most interval = nat_lt most f.count && nat_lt (most * f.every) interval

-- whether more copies of a frame come in an interval of its stream's class than the stream has
-- frames; nothing is said of a stream of no class
abbrev pub is_dense : FrameEntry → StreamEntry → Bool
is_dense f e = option_map_or (λ class. is_denser f e.frames (interval_of class)) (class_of_priority e.priority) false

abbrev pub long_frame : ℕ → FrameEntry → StreamEntry → List ℕ
long_frame number f e = where_so (nat_lt e.octets f.octets) (long_frame_line number f.octets e.name e.octets)

abbrev pub dense_frame : ℕ → FrameEntry → StreamEntry → List ℕ
dense_frame number f e = where_so (is_dense f e) (dense_frame_line number e.name e.frames)

-- of a frame of this stream, where there is one
abbrev pub doubts_by : ℕ → FrameEntry → Option StreamEntry → List ℕ
doubts_by number f None = []
doubts_by number f (Some e) = long_frame number f e ++ dense_frame number f e

-- by where it goes; a frame from station to station is of no stream
abbrev pub route_doubts : Plan → ℕ → FrameEntry → FrameRoute → List ℕ
route_doubts plan number f (OfStream stream) = doubts_by number f (slice_get plan.streams (stream - 1))
route_doubts plan number f (Between from to vid) = []

-- those of some frames of the file, of which the first has this number
abbrev pub frame_doubts : Plan → ℕ → List FrameEntry → List ℕ
frame_doubts plan number [] = []
frame_doubts plan number (f ∷ frames) = route_doubts plan number f f.route ++ frame_doubts plan (number + 1) frames

-- ---- all

-- what is doubted of how the run ends
abbrev pub end_doubt : WorldState → List ℕ
end_doubt w = where_so (not (is_quiet w && is_in_step w)) restless_line

-- of each stream in the order of the file, then of each frame, then of the end
abbrev pub doubts_text : Plan → WorldState → List ℕ
doubts_text plan w = whole_of (
    streams_doubts plan w plan.streams ∷ frame_doubts plan 1 plan.frames ∷ end_doubt w ∷ [])
