-- The frames of a file: their keys, their values and their defaults, and what is known of them.
use Rattle.std.specs.Prelude.{◌≢◌, ◌≤◌, ◌<◌, ◌+◌, ◌-◌, ◌*◌, ℕ, ◌==◌, Bool, nat_lt, if◌then◌else◌, List, [], ◌∷◌, codes, Option, Some, None, option_map, sum_by}
use Rattle.srp_base.specs.declared.numbers.NodeNo.{NodeNo}
use Rattle.toml.specs.Data.{Members}
use Rattle.toml_rules.specs.Fields.{◌>>=◌, number, number_or, within, has_only}
use Rattle.topology_file.specs.declared.{entries.NodeEntry.NodeEntry, entries.StreamEntry.StreamEntry, entries.FrameEntry.FrameEntry, entries.FrameForm.FrameForm, entries.FrameTimes.FrameTimes, entries.FrameRoute.FrameRoute}
use Rattle.topology_file.specs.declared.entries.FrameRoute.TheVariants as routes
use Rattle.topology_file.specs.{Entries.name_at, Entries.station_named, Kinds.IsStationNumber, Kinds.IsStreamNumber, Streams.stream_named, Streams.stream_vid_at}

-- ---- the route

-- what a `[[frame]]` table may say of a frame in a stream
abbrev pub stream_frame_keys : List (List ℕ)
stream_frame_keys = codes "stream" ∷ codes "octets" ∷ codes "at" ∷ codes "count" ∷ codes "every" ∷ []

-- what it may say of a frame beside the streams, from one end station to another
abbrev pub pair_frame_keys : List (List ℕ)
pair_frame_keys =
    codes "from" ∷ codes "to" ∷ codes "vid" ∷ codes "octets" ∷ codes "at" ∷ codes "count" ∷ codes "every" ∷ []

-- the stream, missing where there is none of this name
abbrev pub stream_route : List StreamEntry → Members → Option (Option FrameRoute)
stream_route streams ms = do
  name ← name_at (codes "stream") ms
  Some (option_map routes.OfStream (stream_named streams name))

-- two different stations
abbrev pub apart_named : List NodeEntry → List ℕ → List ℕ → Option (NodeNo × NodeNo)
apart_named nodes from to = do
  x ← station_named nodes from
  y ← station_named nodes to
  if x.0 == y.0 then None else Some (x, y)

-- the stations and the VID; missing where these names aren't two different stations
abbrev pub pair_route : List NodeEntry → Members → Option (Option FrameRoute)
pair_route nodes ms = do
  from ← name_at (codes "from") ms
  to ← name_at (codes "to") ms
  vid ← stream_vid_at ms
  Some (option_map (λ p. routes.Between p.0 p.1 vid) (apart_named nodes from to))

-- the route: a stream alone, or two stations with a VID
abbrev pub route_at : List NodeEntry → List StreamEntry → Members → Option (Option FrameRoute)
route_at nodes streams ms =
    if has_only stream_frame_keys ms then stream_route streams ms
    else if has_only pair_frame_keys ms then pair_route nodes ms
    else None

-- ---- the times

-- how many copies, 1 where no number is given
abbrev pub count_at : Members → Option ℕ
count_at ms = within 1 100000 (number_or (codes "count") 1 ms)

-- the moments of the copies: the first, how many, and how far apart
abbrev pub times_at : Members → Option FrameTimes
times_at ms = do
  at ← number (codes "at") ms
  count ← count_at ms
  every ← number_or (codes "every") 0 ms
  Some (record { at = at; count = count; every = every })

-- the moment of the last copy, in ns
abbrev pub last_copy : ℕ → ℕ → ℕ → ℕ
last_copy at count every = at + (count - 1) * every

-- the run's end, in ns
abbrev pub run_end : ℕ → ℕ
run_end ticks = ticks * 10000000

-- the last copy stands before the run's end
abbrev pub ends_in : ℕ → FrameTimes → Bool
ends_in ticks t = nat_lt (last_copy t.at t.count t.every) (run_end ticks)

-- the times, where the last copy stands before the run's end
abbrev pub times_in : ℕ → Members → Option FrameTimes
times_in ticks ms = do
  t ← times_at ms
  if ends_in ticks t then Some t else None

-- ---- the frame

-- the octets of its data, without the 42 octets of overhead
abbrev pub frame_octets_at : Members → Option ℕ
frame_octets_at ms = within 0 1500 (number (codes "octets") ms)

-- the frame of an entry that has its form; its route is missing where what it names isn't there
abbrev pub frame_form : ℕ → List NodeEntry → List StreamEntry → ℕ → Members → Option FrameForm
frame_form ticks nodes streams n ms = do
  route ← route_at nodes streams ms
  octets ← frame_octets_at ms
  times ← times_in ticks ms
  Some (record { route = route; octets = octets; times = times })

-- the copies of an entry
abbrev pub form_copies : FrameForm → ℕ
form_copies form = form.times.count

-- the frame of this form on this route
abbrev pub frame_of : FrameForm → FrameRoute → FrameEntry
frame_of form route = record {
  route = route;
  octets = form.octets;
  at = form.times.at;
  count = form.times.count;
  every = form.times.every;
}

-- the frame, where its route is known
abbrev pub frame_entry : ℕ → FrameForm → Option FrameEntry
frame_entry n form = option_map (λ route. frame_of form route) form.route

-- the copies of all frames
abbrev pub frame_copies : List FrameEntry → ℕ
frame_copies frames = sum_by (λ f. f.count) frames

-- ---- what is known of them

-- a frame's route is a stream, or two different stations with a VID
abbrev pub IsKnownRoute : List NodeEntry → List StreamEntry → FrameRoute → Type 0
IsKnownRoute nodes streams (routes.OfStream stream) = IsStreamNumber streams stream
IsKnownRoute nodes streams (routes.Between from to vid) =
    IsStationNumber nodes from.0 × IsStationNumber nodes to.0 × (from.0 ≢ to.0) × (1 ≤ vid) × (vid ≤ 4094)

-- a frame's values have their form, and its last copy stands before the run's end
pub record HasFrameForm (ticks : ℕ) (f : FrameEntry) : Type 0 where
  pub octets : f.octets ≤ 1500
  pub count : (1 ≤ f.count) × (f.count ≤ 100000)
  pub last : last_copy f.at f.count f.every < run_end ticks
