-- The streams of a file: their keys, their values and their defaults, and the number of the stream
-- of a name.
use Rattle.std.specs.Prelude.{ℕ, ◌==◌, Bool, ◌&&◌, nat_le, nat_eq, if◌then◌else◌, List, [], ◌∷◌, codes, Option, Some, None, option_map, option_and_then}
use Rattle.std.specs.{Cmp.Lexicographic.pointwise, List.list_any}
use Rattle.srp_base.specs.declared.{bandwidth.Rank.Rank, bandwidth.Rank.TheVariants.Emergency, bandwidth.Rank.TheVariants.Normal, numbers.NodeNo.NodeNo}
use Rattle.srp_base.specs.{Firsts.first_where, Hexadecimal.hex12, Hexadecimal.hex16}
use Rattle.toml.specs.Data.{Members}
use Rattle.toml_rules.specs.Fields.{◌>>=◌, number, number_or, within, text, has_only}
use Rattle.topology_file.specs.declared.{entries.NodeEntry.NodeEntry, entries.StreamEntry.StreamEntry, entries.StreamForm.StreamForm, entries.StreamValues.StreamValues}
use Rattle.topology_file.specs.Entries.{name_at, station_named}

-- what a `[[stream]]` table may say: who talks, and what its Talker declares (IEEE Std 802.1Q-2018,
-- 35.2.2.8)
abbrev pub stream_keys : List (List ℕ)
stream_keys =
    codes "name" ∷ codes "id" ∷ codes "talker" ∷ codes "dest" ∷ codes "octets" ∷ codes "frames" ∷ codes "vid"
    ∷ codes "priority" ∷ codes "rank" ∷ []

-- the StreamID of sixteen hexadecimal digits of either case
abbrev pub stream_id_at : Members → Option ℕ
stream_id_at ms = option_and_then hex16 (text (codes "id") ms)

-- the destination address of twelve hexadecimal digits of either case
abbrev pub dest_at : Members → Option ℕ
dest_at ms = option_and_then hex12 (text (codes "dest") ms)

-- MaxFrameSize
abbrev pub octets_at : Members → Option ℕ
octets_at ms = within 0 65535 (number (codes "octets") ms)

-- MaxIntervalFrames
abbrev pub frames_at : Members → Option ℕ
frames_at ms = within 0 65535 (number (codes "frames") ms)

-- the VID, 2 where none is given
abbrev pub stream_vid_at : Members → Option ℕ
stream_vid_at ms = within 1 4094 (number_or (codes "vid") 2 ms)

-- the priority, 3 where none is given
abbrev pub priority_at : Members → Option ℕ
priority_at ms = within 0 7 (number_or (codes "priority") 3 ms)

-- 0 is emergency traffic, 1 all other: the Rank bit of PriorityAndRank (IEEE Std 802.1Q-2018,
-- 35.2.2.8.5)
abbrev pub rank_of_number : ℕ → Option Rank
rank_of_number n = if n == 0 then Some Emergency else if n == 1 then Some Normal else None

-- the rank, 1 where none is given
abbrev pub rank_at : Members → Option Rank
rank_at ms = option_and_then rank_of_number (number_or (codes "rank") 1 ms)

-- what a stream's Talker declares
abbrev pub values_at : Members → Option StreamValues
values_at ms = do
  id ← stream_id_at ms
  dest ← dest_at ms
  octets ← octets_at ms
  frames ← frames_at ms
  vid ← stream_vid_at ms
  priority ← priority_at ms
  rank ← rank_at ms
  Some (record { id = record { 0 = id }; dest = dest; octets = octets; frames = frames; vid = vid; priority = priority; rank = rank })

-- the stream of an entry whose keys are known; its talker is missing where there is no station of
-- this name
abbrev pub known_stream : List NodeEntry → Members → Option StreamForm
known_stream nodes ms = do
  name ← name_at (codes "name") ms
  talker ← name_at (codes "talker") ms
  values ← values_at ms
  Some (record { name = name; talker = station_named nodes talker; values = values })

-- the stream of entry n that has its form: the entries are at most 128
abbrev pub stream_form : List NodeEntry → ℕ → Members → Option StreamForm
stream_form nodes n ms = if nat_le n 128 && has_only stream_keys ms then known_stream nodes ms else None

-- the stream of this form with this talker
abbrev pub stream_of : StreamForm → NodeNo → StreamEntry
stream_of form talker = record {
  name = form.name;
  id = form.values.id;
  talker = talker;
  dest = form.values.dest;
  octets = form.values.octets;
  frames = form.values.frames;
  vid = form.values.vid;
  priority = form.values.priority;
  rank = form.values.rank;
}

-- the stream, where its talker is a station
abbrev pub stream_entry : ℕ → StreamForm → Option StreamEntry
stream_entry n form = option_map (λ talker. stream_of form talker) form.talker

-- ---- the streams of names

-- the stream is called so, byte by byte
abbrev pub is_stream_named : List ℕ → StreamEntry → Bool
is_stream_named name s = pointwise nat_eq s.name name

-- the number of the stream of this name
abbrev pub stream_named : List StreamEntry → List ℕ → Option ℕ
stream_named streams name = first_where (λ earlier s. is_stream_named name s) [] streams

-- the station talks in the stream of this name
abbrev pub is_talker_of : List StreamEntry → List ℕ → ℕ → Bool
is_talker_of streams name x = list_any (λ s. is_stream_named name s && (s.talker.0 == x)) streams
