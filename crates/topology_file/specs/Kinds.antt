-- The kinds of events: the keys of each, what it names, and what is known of what it names. A kind
-- is a case of `kind_form` and of `IsKnownKind`.
use Rattle.std.specs.Prelude.{◌≡◌, ◌≢◌, ◌≤◌, ◌<◌, ◌-◌, nat_le, ℕ, true, nat_eq, if◌then◌else◌, List, [], ◌∷◌, length, codes, Option, Some, None, option_map, option_and_then, Result, Ok, Err}
use Rattle.std.specs.{Cmp.Lexicographic.pointwise, List.AllByRecursion, List.list_any}
use Rattle.std.proofs.Common.{get_or}
use Rattle.srp_base.specs.declared.{numbers.NodeNo.NodeNo, mrp.App.App, mrp.App.TheVariants.Mvrp, mrp.App.TheVariants.Msrp}
use Rattle.hex.specs.Hex.{decode_of}
use Rattle.hex.specs.declared.error.FromHexError.{FromHexError}
use Rattle.toml.specs.Data.{Members}
use Rattle.toml_rules.specs.Fields.{◌>>=◌, number, text, within, has_only}
use Rattle.tree_topology.specs.{Graph.IsNode, Refusal.is_station}
use Rattle.topology_file.specs.declared.{entries.NodeEntry.NodeEntry, entries.LinkEntry.LinkEntry, entries.StreamEntry.StreamEntry, entries.EventKind.EventKind}
use Rattle.topology_file.specs.declared.entries.EventKind.TheVariants as kinds
use Rattle.topology_file.specs.{Entries.name_at, Entries.node_named, Entries.station_named, Entries.joins_both, Streams.stream_named, Streams.is_talker_of}

-- ---- at a station, a VID

-- what an event at a station says of a VLAN
abbrev pub vlan_keys : List (List ℕ)
vlan_keys = codes "tick" ∷ codes "kind" ∷ codes "station" ∷ codes "vid" ∷ []

-- the VID, of those that a VLAN may have (IEEE Std 802.1Q-2018, 9.6)
abbrev pub vid_at : Members → Option ℕ
vid_at ms = within 1 4094 (number (codes "vid") ms)

-- a station, missing where there is none of this name, and a VID
abbrev pub known_vlan : List NodeEntry → Members → Option (Option NodeNo × ℕ)
known_vlan nodes ms = do
  name ← name_at (codes "station") ms
  vid ← vid_at ms
  Some (station_named nodes name, vid)

-- the same, of an event with exactly these keys
abbrev pub vlan_at : List NodeEntry → Members → Option (Option NodeNo × ℕ)
vlan_at nodes ms = if has_only vlan_keys ms then known_vlan nodes ms else None

-- what happens to a VID at a station
abbrev pub vlan_form : (NodeNo → ℕ → EventKind) → List NodeEntry → Members → Option (Option EventKind)
vlan_form kind nodes ms = option_map (λ p. option_map (λ x. kind x p.1) p.0) (vlan_at nodes ms)

-- ---- at a stream's talker

-- what an event at a Talker says of its stream
abbrev pub talker_keys : List (List ℕ)
talker_keys = codes "tick" ∷ codes "kind" ∷ codes "stream" ∷ []

-- a stream, missing where there is none of this name
abbrev pub known_talker : List StreamEntry → Members → Option (Option ℕ)
known_talker streams ms = option_map (λ name. stream_named streams name) (name_at (codes "stream") ms)

-- the same, of an event with exactly these keys
abbrev pub talker_at : List StreamEntry → Members → Option (Option ℕ)
talker_at streams ms = if has_only talker_keys ms then known_talker streams ms else None

-- what happens to a stream at its talker
abbrev pub talker_form : (ℕ → EventKind) → List StreamEntry → Members → Option (Option EventKind)
talker_form kind streams ms = option_map (λ o. option_map kind o) (talker_at streams ms)

-- ---- at a station, a stream

-- what an event at a Listener says of its station and of a stream
abbrev pub listener_keys : List (List ℕ)
listener_keys = codes "tick" ∷ codes "kind" ∷ codes "station" ∷ codes "stream" ∷ []

-- the names of a station and of a stream
abbrev pub known_listener : Members → Option (List ℕ × List ℕ)
known_listener ms = do
  station ← name_at (codes "station") ms
  stream ← name_at (codes "stream") ms
  Some (station, stream)

-- the same, of an event with exactly these keys
abbrev pub listener_at : Members → Option (List ℕ × List ℕ)
listener_at ms = if has_only listener_keys ms then known_listener ms else None

-- the station and the stream of these names
abbrev pub both_named : List NodeEntry → List StreamEntry → List ℕ → List ℕ → Option (NodeNo × ℕ)
both_named nodes streams station stream = do
  x ← station_named nodes station
  n ← stream_named streams stream
  Some (x, n)

-- the station and the stream of these names, where the station isn't the stream's talker
abbrev pub listener_named : List NodeEntry → List StreamEntry → List ℕ → List ℕ → Option (NodeNo × ℕ)
listener_named nodes streams station stream = do
  p ← both_named nodes streams station stream
  if is_talker_of streams stream p.0.0 then None else Some p

-- what happens to a stream at a station that may listen to it
abbrev pub listener_form : (NodeNo → ℕ → EventKind) → (List ℕ → List ℕ → Option (NodeNo × ℕ)) → Members → Option (Option EventKind)
listener_form kind named ms = option_map (λ p. option_map (λ x. kind x.0 x.1) (named p.0 p.1)) (listener_at ms)

-- ---- a PDU that waits at a node

-- what an event on a link says of a PDU: who sent it, where it waits, and which of those that wait
abbrev pub pdu_keys : List (List ℕ)
pdu_keys = codes "tick" ∷ codes "kind" ∷ codes "from" ∷ codes "to" ∷ codes "index" ∷ []

-- how many PDUs of the same sender wait before it
abbrev pub index_at : Members → Option ℕ
index_at ms = within 0 65535 (number (codes "index") ms)

-- two nodes that a link joins
abbrev pub joined_named : List NodeEntry → List LinkEntry → List ℕ → List ℕ → Option (NodeNo × NodeNo)
joined_named nodes links from to = do
  x ← node_named nodes from
  y ← node_named nodes to
  if list_any (joins_both x.0 y.0) links then Some (x, y) else None

-- two nodes, missing where no link joins nodes of these names, and the index of a PDU
abbrev pub known_pdu : List NodeEntry → List LinkEntry → Members → Option (Option (NodeNo × NodeNo) × ℕ)
known_pdu nodes links ms = do
  from ← name_at (codes "from") ms
  to ← name_at (codes "to") ms
  index ← index_at ms
  Some (joined_named nodes links from to, index)

-- the same, of an event with exactly these keys
abbrev pub pdu_at : List NodeEntry → List LinkEntry → Members → Option (Option (NodeNo × NodeNo) × ℕ)
pdu_at nodes links ms = if has_only pdu_keys ms then known_pdu nodes links ms else None

-- what happens to a PDU that waits at a node
abbrev pub pdu_form : (NodeNo → NodeNo → ℕ → EventKind) → List NodeEntry → List LinkEntry → Members → Option (Option EventKind)
pdu_form kind nodes links ms = option_map (λ p. option_map (λ x. kind x.0 x.1 p.1) p.0) (pdu_at nodes links ms)

-- ---- a PDU that no neighbour sent

-- what an event on a link says of such a PDU: as of one that waits, with its application and its
-- octets
abbrev pub forgery_keys : List (List ℕ)
forgery_keys = codes "tick" ∷ codes "kind" ∷ codes "from" ∷ codes "to" ∷ codes "index" ∷ codes "app" ∷ codes "octets" ∷ []

-- an application, by its word
abbrev pub app_of_text : List ℕ → Option App
app_of_text word =
    if pointwise nat_eq word (codes "mvrp") then Some Mvrp
    else if pointwise nat_eq word (codes "msrp") then Some Msrp
    else None

-- "mvrp" or "msrp"
abbrev pub app_at : Members → Option App
app_at ms = option_and_then app_of_text (text (codes "app") ms)

-- what was decoded, if it was
abbrev pub decoded : Result (List ℕ) FromHexError → Option (List ℕ)
decoded (Ok octets) = Some octets
decoded (Err e) = None

-- the octets that at most 3,000 hexadecimal digits of either case spell, two digits an octet, so
-- 1,500 octets at most
abbrev pub octets_of_text : List ℕ → Option (List ℕ)
octets_of_text digits = if nat_le (length digits) 3000 then decoded (decode_of digits) else None

-- the octets at their key; they may be none
abbrev pub pdu_octets_at : Members → Option (List ℕ)
pdu_octets_at ms = option_and_then octets_of_text (text (codes "octets") ms)

-- a PDU of an application at an index, missing where no link joins nodes of these names
abbrev pub known_forgery : List NodeEntry → List LinkEntry → Members → Option (Option EventKind)
known_forgery nodes links ms = do
  p ← known_pdu nodes links ms
  app ← app_at ms
  octets ← pdu_octets_at ms
  Some (option_map (λ x. kinds.Forge x.0 x.1 p.1 app octets) p.0)

-- the same, of an event with exactly these keys
abbrev pub forgery_form : List NodeEntry → List LinkEntry → Members → Option (Option EventKind)
forgery_form nodes links ms = if has_only forgery_keys ms then known_forgery nodes links ms else None

-- ---- the kinds

-- what happens, by the word of its kind, each with exactly its keys; missing where what it names
-- isn't there
abbrev pub kind_form : List NodeEntry → List LinkEntry → List StreamEntry → Members → List ℕ → Option (Option EventKind)
kind_form nodes links streams ms word =
    if pointwise nat_eq word (codes "declare") then vlan_form kinds.Declare nodes ms
    else if pointwise nat_eq word (codes "withdraw") then vlan_form kinds.Withdraw nodes ms
    else if pointwise nat_eq word (codes "talk") then talker_form kinds.Talk streams ms
    else if pointwise nat_eq word (codes "hush") then talker_form kinds.Hush streams ms
    else if pointwise nat_eq word (codes "listen") then listener_form kinds.Listen (listener_named nodes streams) ms
    else if pointwise nat_eq word (codes "unlisten") then listener_form kinds.Unlisten (both_named nodes streams) ms
    else if pointwise nat_eq word (codes "lose") then pdu_form kinds.Lose nodes links ms
    else if pointwise nat_eq word (codes "repeat") then pdu_form kinds.Repeat nodes links ms
    else if pointwise nat_eq word (codes "forge") then forgery_form nodes links ms
    else None

-- ---- what is known of them

-- a station
abbrev pub IsStationNumber : List NodeEntry → ℕ → Type 0
IsStationNumber nodes x = IsNode (length nodes) x × ((d : NodeEntry) → is_station (get_or nodes (x - 1) d).kind ≡ true)

-- a station, and a VID
abbrev pub IsAtVlan : List NodeEntry → ℕ → ℕ → Type 0
IsAtVlan nodes x vid = IsStationNumber nodes x × (1 ≤ vid) × (vid ≤ 4094)

-- a stream
abbrev pub IsStreamNumber : List StreamEntry → ℕ → Type 0
IsStreamNumber streams n = (1 ≤ n) × (n ≤ length streams)

-- a station that isn't the stream's talker
abbrev pub IsNotTalker : List StreamEntry → ℕ → ℕ → Type 0
IsNotTalker streams x n = (d : StreamEntry) → (get_or streams (n - 1) d).talker.0 ≢ x

-- two nodes that a link joins
abbrev pub AreJoinedNumbers : List NodeEntry → List LinkEntry → ℕ → ℕ → Type 0
AreJoinedNumbers nodes links x y =
    IsNode (length nodes) x × IsNode (length nodes) y × (list_any (joins_both x y) links ≡ true)

-- two nodes that a link joins, and an index
abbrev pub IsAtPdu : List NodeEntry → List LinkEntry → ℕ → ℕ → ℕ → Type 0
IsAtPdu nodes links x y index = AreJoinedNumbers nodes links x y × (index ≤ 65535)

-- the octets of a PDU, which a frame of 802.3 holds
abbrev pub ArePduOctets : List ℕ → Type 0
ArePduOctets octets = (length octets ≤ 1500) × AllByRecursion (λ o. o < 256) octets

-- the numbers in an event have their ranges, and are what its kind speaks of
abbrev pub IsKnownKind : List NodeEntry → List LinkEntry → List StreamEntry → EventKind → Type 0
IsKnownKind nodes links streams (kinds.Declare station vid) = IsAtVlan nodes station.0 vid
IsKnownKind nodes links streams (kinds.Withdraw station vid) = IsAtVlan nodes station.0 vid
IsKnownKind nodes links streams (kinds.Talk stream) = IsStreamNumber streams stream
IsKnownKind nodes links streams (kinds.Hush stream) = IsStreamNumber streams stream
IsKnownKind nodes links streams (kinds.Listen station stream) = IsStationNumber nodes station.0 × IsStreamNumber streams stream × IsNotTalker streams station.0 stream
IsKnownKind nodes links streams (kinds.Unlisten station stream) = IsStationNumber nodes station.0 × IsStreamNumber streams stream
IsKnownKind nodes links streams (kinds.Lose from to index) = IsAtPdu nodes links from.0 to.0 index
IsKnownKind nodes links streams (kinds.Repeat from to index) = IsAtPdu nodes links from.0 to.0 index
IsKnownKind nodes links streams (kinds.Forge from to index app octets) = IsAtPdu nodes links from.0 to.0 index × ArePduOctets octets
