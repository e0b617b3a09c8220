-- The streams of a plan: their keys, their values and their defaults, and the stations that they
-- name.
use Rattle.std.specs.Prelude.{ℕ, ◌+◌, ◌*◌, ◌/◌, ◌==◌, Bool, false, ◌&&◌, ◌||◌, nat_eq, if◌then◌else◌, List, [], ◌∷◌, codes, Option, Some, None, is_some, option_map, option_and_then}
use Rattle.std.specs.{Cmp.Lexicographic.pointwise, List.list_any}
use Rattle.srp_base.specs.declared.{bandwidth.Class.Class, bandwidth.Class.TheVariants.A, bandwidth.Class.TheVariants.B, numbers.NodeNo.NodeNo, numbers.StreamId.StreamId}
use Rattle.srp_base.specs.{Firsts.first_where, Hexadecimal.hex12, Hexadecimal.hex16}
use Rattle.toml.specs.Data.{Data, array, Items, no_items, item, Members, get_member, as_str}
use Rattle.toml_rules.specs.Fields.{◌>>=◌, number, number_or, or_default, within, has_only}
use Rattle.topology_file.specs.declared.entries.NodeEntry.{NodeEntry}
use Rattle.topology_file.specs.{Entries.name_of_text, Entries.name_at, Entries.station_named, Frames.frame_octets_at, Streams.rank_at, Streams.stream_vid_at}
use Rattle.plan_file.specs.declared.{entries.Ends.Ends, entries.PlanForm.PlanForm, entries.PlanStream.PlanStream, entries.PlanValues.PlanValues}

-- ---- who talks and who listens

-- the name that a value gives
abbrev pub name_of_data : Data → Option (List ℕ)
name_of_data d = option_and_then name_of_text (as_str d)

-- the items of an array that are all names
abbrev pub all_names : Items → Option (List (List ℕ))
all_names no_items = Some []
all_names (item d ds) = option_and_then (λ name. option_map (λ rest. name ∷ rest) (all_names ds)) (name_of_data d)

-- some names, which an array has that isn't empty
abbrev pub names_of_data : Data → Option (List (List ℕ))
names_of_data (array (item d ds)) = all_names (item d ds)
names_of_data _ = None

-- the names of those who listen
abbrev pub listeners_at : Members → Option (List (List ℕ))
listeners_at ms = option_and_then names_of_data (get_member (codes "listeners") ms)

-- what each element is read as, where each is read as something
abbrev pub all_read : {A B : Type 0} → (A → Option B) → List A → Option (List B)
all_read read [] = Some []
all_read read (x ∷ xs) = option_and_then (λ y. option_map (λ rest. y ∷ rest) (all_read read xs)) (read x)

-- the stations of these names, missing where one isn't a station's
abbrev pub stations_named : List NodeEntry → List (List ℕ) → Option (List NodeNo)
stations_named nodes names = all_read (station_named nodes) names

-- the station is among these
abbrev pub is_among : List NodeNo → NodeNo → Bool
is_among stations x = list_any (λ y. y.0 == x.0) stations

-- one of the stations stands twice
abbrev pub has_twice : List NodeNo → Bool
has_twice stations = is_some (first_where is_among [] stations)

-- a Talker and its Listeners: other stations, each once
abbrev pub ends_of : NodeNo → List NodeNo → Option Ends
ends_of talker listeners =
    if is_among listeners talker || has_twice listeners then None
    else Some (record { talker = talker; listeners = listeners })

-- the Talker and the Listeners of these names
abbrev pub ends_named : List NodeEntry → List ℕ → List (List ℕ) → Option Ends
ends_named nodes talker listeners = do
  x ← station_named nodes talker
  xs ← stations_named nodes listeners
  ends_of x xs

-- ---- how much is sent

-- what a `[[stream]]` table of a plan may say where it gives the octets of a frame
abbrev pub sized_keys : List (List ℕ)
sized_keys =
    codes "name" ∷ codes "talker" ∷ codes "listeners" ∷ codes "octets" ∷ codes "frames" ∷ codes "class"
    ∷ codes "vid" ∷ codes "rank" ∷ codes "id" ∷ codes "dest" ∷ []

-- and where it gives channels of audio
abbrev pub audio_keys : List (List ℕ)
audio_keys =
    codes "name" ∷ codes "talker" ∷ codes "listeners" ∷ codes "channels" ∷ codes "rate_khz" ∷ codes "bits"
    ∷ codes "frames" ∷ codes "class" ∷ codes "vid" ∷ codes "rank" ∷ codes "id" ∷ codes "dest" ∷ []

-- an SR class, by its letter
abbrev pub class_of_text : List ℕ → Option Class
class_of_text word =
    if pointwise nat_eq word (codes "A") then Some A
    else if pointwise nat_eq word (codes "B") then Some B
    else None

abbrev pub class_of_data : Data → Option Class
class_of_data d = option_and_then class_of_text (as_str d)

-- the SR class, A where none is given
abbrev pub class_at : Members → Option Class
class_at ms = or_default A class_of_data (get_member (codes "class") ms)

-- how many channels
abbrev pub channels_at : Members → Option ℕ
channels_at ms = within 1 120 (number (codes "channels") ms)

-- a rate of samples in kHz
abbrev pub khz_of_number : ℕ → Option ℕ
khz_of_number n = if n == 48 || n == 96 || n == 192 then Some n else None

abbrev pub khz_at : Members → Option ℕ
khz_at ms = option_and_then khz_of_number (number (codes "rate_khz") ms)

-- the bits of a sample
abbrev pub bits_of_number : ℕ → Option ℕ
bits_of_number n = if n == 16 || n == 24 || n == 32 then Some n else None

-- 32 where none are given
abbrev pub bits_at : Members → Option ℕ
bits_at ms = option_and_then bits_of_number (number_or (codes "bits") 32 ms)

-- the samples of a channel in a class measurement interval, which is 125 us of class A and 250 us
-- of class B (IEEE Std 802.1Q-2018, 34.4)
abbrev pub samples : Class → ℕ → ℕ
samples A khz = khz / 8
samples B khz = khz / 4

-- the octets of a frame with the samples of an interval (IEEE Std 1722-2016, 7: a header of 24
-- octets, and PCM in whole octets)
abbrev pub audio_octets : Class → ℕ → ℕ → ℕ → ℕ
audio_octets class channels khz bits = 24 + channels * (bits / 8) * samples class khz

-- the octets of the audio of a table
abbrev pub audio_octets_at : Class → Members → Option ℕ
audio_octets_at class ms = do
  channels ← channels_at ms
  khz ← khz_at ms
  bits ← bits_at ms
  within 0 1500 (Some (audio_octets class channels khz bits))

-- the octets of a frame, given as such or by what the audio is
abbrev pub octets_at : Class → Members → Option ℕ
octets_at class ms =
    if has_only sized_keys ms then frame_octets_at ms
    else if has_only audio_keys ms then audio_octets_at class ms
    else None

-- the frames of a class measurement interval, 1 where no number is given
abbrev pub frames_at : Members → Option ℕ
frames_at ms = within 1 64 (number_or (codes "frames") 1 ms)

-- ---- how it is told from others

-- the StreamID that a text of sixteen hexadecimal digits gives
abbrev pub id_of_data : Data → Option (Option StreamId)
id_of_data d = option_map (λ n. Some (record { 0 = n })) (option_and_then hex16 (as_str d))

-- the StreamID, where one is given
abbrev pub id_at : Members → Option (Option StreamId)
id_at ms = or_default None id_of_data (get_member (codes "id") ms)

-- the address that a text of twelve hexadecimal digits gives
abbrev pub dest_of_data : Data → Option (Option ℕ)
dest_of_data d = option_map Some (option_and_then hex12 (as_str d))

-- the destination address, where one is given
abbrev pub dest_at : Members → Option (Option ℕ)
dest_at ms = or_default None dest_of_data (get_member (codes "dest") ms)

-- ---- an entry

-- what a stream's Talker declares, as far as the table says it
abbrev pub values_at : Members → Option PlanValues
values_at ms = do
  class ← class_at ms
  octets ← octets_at class ms
  frames ← frames_at ms
  vid ← stream_vid_at ms
  rank ← rank_at ms
  id ← id_at ms
  dest ← dest_at ms
  Some (record { class = class; octets = octets; frames = frames; vid = vid; rank = rank; id = id; dest = dest })

-- the stream of an entry that has its form; its ends are missing where they aren't stations apart
abbrev pub plan_form : List NodeEntry → ℕ → Members → Option PlanForm
plan_form nodes n ms = do
  name ← name_at (codes "name") ms
  talker ← name_at (codes "talker") ms
  listeners ← listeners_at ms
  values ← values_at ms
  Some (record { name = name; ends = ends_named nodes talker listeners; values = values })

-- the stream, where its ends are known
abbrev pub plan_stream : ℕ → PlanForm → Option PlanStream
plan_stream n form = option_map (λ ends. record { name = form.name; ends = ends; values = form.values }) form.ends

-- ---- what two of them may not share

-- two StreamIDs are given, and they are the same
abbrev pub is_same_id : Option StreamId → Option StreamId → Bool
is_same_id (Some x) (Some y) = x.0 == y.0
is_same_id _ _ = false

-- they have the same name or the same StreamID
abbrev pub is_like : PlanForm → PlanForm → Bool
is_like x y = pointwise nat_eq y.name x.name || is_same_id y.values.id x.values.id

-- an earlier stream has the same name or the same StreamID
abbrev pub has_like : List PlanForm → PlanForm → Bool
has_like earlier x = list_any (is_like x) earlier
