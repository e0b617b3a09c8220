-- The events of a file of groups: their ticks, their kinds, the keys of each, and what is known of
-- what they name.
use Rattle.std.specs.Prelude.{◌≤◌, ◌<◌, ◌^◌, ℕ, nat_le, nat_eq, if◌then◌else◌, List, [], ◌∷◌, map, codes, Option, Some, None, option_map, option_and_then}
use Rattle.std.specs.Cmp.Lexicographic.{pointwise}
use Rattle.srp_base.specs.declared.numbers.NodeNo.{NodeNo}
use Rattle.srp_base.specs.Hexadecimal.{hex12}
use Rattle.toml.specs.Data.{Members}
use Rattle.toml_rules.specs.Fields.{◌>>=◌, text, has_only}
use Rattle.topology_file.specs.declared.{entries.NodeEntry.NodeEntry, entries.LinkEntry.LinkEntry}
use Rattle.topology_file.specs.{Entries.name_at, Entries.station_named, Events.tick_at, Kinds.IsAtPdu, Kinds.IsStationNumber, Kinds.pdu_at}
use Rattle.group_file.specs.declared.{entries.GroupEntry.GroupEntry, entries.GroupForm.GroupForm, entries.GroupKind.GroupKind}
use Rattle.group_file.specs.declared.entries.GroupKind.TheVariants as kinds

-- ---- at a station, a group

-- what an event at a station says of a group
abbrev pub member_keys : List (List ℕ)
member_keys = codes "tick" ∷ codes "kind" ∷ codes "station" ∷ codes "mac" ∷ []

-- the MAC address of twelve hexadecimal digits of either case
abbrev pub mac_at : Members → Option ℕ
mac_at ms = option_and_then hex12 (text (codes "mac") ms)

-- a station, missing where there is none of this name, and a MAC address
abbrev pub known_member : List NodeEntry → Members → Option (Option NodeNo × ℕ)
known_member nodes ms = do
  name ← name_at (codes "station") ms
  mac ← mac_at ms
  Some (station_named nodes name, mac)

-- the same, of an event with exactly these keys
abbrev pub member_at : List NodeEntry → Members → Option (Option NodeNo × ℕ)
member_at nodes ms = if has_only member_keys ms then known_member nodes ms else None

-- what happens to a group at a station
abbrev pub member_form : (NodeNo → ℕ → GroupKind) → List NodeEntry → Members → Option (Option GroupKind)
member_form kind nodes ms = option_map (λ p. option_map (λ x. kind x p.1) p.0) (member_at nodes ms)

-- what happens to a PDU that waits at a node
abbrev pub pdu_form : (NodeNo → NodeNo → ℕ → GroupKind) → List NodeEntry → List LinkEntry → Members → Option (Option GroupKind)
pdu_form kind nodes links ms = option_map (λ p. option_map (λ e. kind e.0 e.1 p.1) p.0) (pdu_at nodes links ms)

-- what happens, by the word of its kind, each with exactly its keys; missing where what it names
-- isn't there
abbrev pub kind_form : List NodeEntry → List LinkEntry → Members → List ℕ → Option (Option GroupKind)
kind_form nodes links ms word =
    if pointwise nat_eq word (codes "join") then member_form kinds.Join nodes ms
    else if pointwise nat_eq word (codes "part") then member_form kinds.Part nodes ms
    else if pointwise nat_eq word (codes "lose") then pdu_form kinds.Lose nodes links ms
    else if pointwise nat_eq word (codes "repeat") then pdu_form kinds.Repeat nodes links ms
    else None

-- ---- an entry

-- the event of an entry among the first 10,000
abbrev pub known_event : ℕ → List NodeEntry → List LinkEntry → Members → Option GroupForm
known_event ticks nodes links ms = do
  tick ← tick_at ticks ms
  word ← text (codes "kind") ms
  kind ← kind_form nodes links ms word
  Some (record { tick = tick; kind = kind })

-- the event of entry n that has its form: the entries are at most 10,000
abbrev pub event_form : ℕ → List NodeEntry → List LinkEntry → ℕ → Members → Option GroupForm
event_form ticks nodes links n ms = if nat_le n 10000 then known_event ticks nodes links ms else None

-- the moments of events in cs, in the order of the file, before their names are known
abbrev pub form_ticks : List GroupForm → List ℕ
form_ticks forms = map (λ e. e.tick) forms

-- the moments of events in cs, in the order of the file, once their names are known
abbrev pub group_ticks : List GroupEntry → List ℕ
group_ticks events = map (λ e. e.tick) events

-- the event, where what it names is known
abbrev pub group_entry : ℕ → GroupForm → Option GroupEntry
group_entry n form = option_map (λ kind. record { tick = form.tick; kind = kind }) form.kind

-- ---- what is known of them

-- the numbers in an event have their ranges, and are what its kind speaks of
abbrev pub IsKnownGroup : List NodeEntry → List LinkEntry → GroupKind → Type 0
IsKnownGroup nodes links (kinds.Join station mac) = IsStationNumber nodes station.0
IsKnownGroup nodes links (kinds.Part station mac) = IsStationNumber nodes station.0
IsKnownGroup nodes links (kinds.Lose from to index) = IsAtPdu nodes links from.0 to.0 index
IsKnownGroup nodes links (kinds.Repeat from to index) = IsAtPdu nodes links from.0 to.0 index
