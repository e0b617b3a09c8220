-- The events of a number: five draws for each stream, behind those of the streams, and three for
-- each of twenty losses.
use Rattle.std.specs.Prelude.{ℕ, ◌+◌, ◌-◌, ◌*◌, ◌==◌, if◌then◌else◌, List, [], ◌∷◌, ◌++◌, map, slice_index_or}
use Rattle.std.specs.{List.flat_map, List.range_with_len, List.Sorted.IsPermutation, List.Sorted.IsSortedByKey, List.Sorted.IsStableByKey, Ordering.nat_cmp}
use Rattle.topology_file.specs.declared.{entries.LinkEntry.LinkEntry, entries.EventEntry.EventEntry, entries.EventKind.EventKind}
use Rattle.topology_file.specs.declared.entries.EventKind.TheVariants as kinds
use Rattle.scenario_generator.specs.{Draws.draw, Network.bridge_count, Network.station_count, Network.stream_count, Network.link_count, Network.station_node, Network.link_entry, Network.drawn_links, Streams.talker_drawn}

-- ---- every station declares VID 2 at the start

abbrev pub declaration : ℕ → ℕ → EventEntry
declaration number n =
    record { tick = 0; kind = kinds.Declare (record { 0 = station_node (bridge_count number) n }) 2 }

-- ---- of each stream, its talker and twice a listener

-- the draw for the events of stream k, from 1: its first to its fifth, counted from 0
abbrev pub event_draw : ℕ → ℕ → ℕ → ℕ → ℕ
event_draw number k i m = draw number (3 + link_count number + 3 * stream_count number + 5 * (k - 1) + i) m

-- the stream's talker begins at a drawn tick
abbrev pub talk : ℕ → ℕ → EventEntry
talk number k = record { tick = event_draw number k 0 500; kind = kinds.Talk k }

-- the station behind this one, of so many counted from 0: the first one behind the last
abbrev pub next_station : ℕ → ℕ → ℕ
next_station stations s = if s + 1 == stations then 0 else s + 1

-- the station that was drawn, and in the talker's place the next one
abbrev pub listening_station : ℕ → ℕ → ℕ → ℕ
listening_station stations talker drawn = if drawn == talker then next_station stations drawn else drawn

-- a listener begins: which station it is is the draw i, and when it begins the one behind it
abbrev pub listen : ℕ → ℕ → ℕ → EventEntry
listen number k i =
    let station = listening_station (station_count number) (talker_drawn number k) (event_draw number k i (station_count number)) in
    record {
      tick = event_draw number k (i + 1) 500;
      kind = kinds.Listen (record { 0 = station_node (bridge_count number) (1 + station) }) k;
    }

abbrev pub stream_events : ℕ → ℕ → List EventEntry
stream_events number k = talk number k ∷ listen number k 1 ∷ listen number k 3 ∷ []

-- ---- twenty losses, of the first PDU that waits

-- the draw for loss n, from 0: its first, second or third, counted from 0
abbrev pub loss_draw : ℕ → ℕ → ℕ → ℕ → ℕ
loss_draw number n i m = draw number (3 + link_count number + 8 * stream_count number + 3 * n + i) m

-- a PDU from the one end of a link to the other; the direction 0 is from `a` to `b`
abbrev pub lost_on : LinkEntry → ℕ → EventKind
lost_on l direction = if direction == 0 then kinds.Lose l.a l.b 0 else kinds.Lose l.b l.a 0

-- the link of a loss
abbrev pub loss_link : ℕ → ℕ → LinkEntry
loss_link number n = slice_index_or (drawn_links number) (loss_draw number n 0 (link_count number)) (link_entry 0 0)

abbrev pub loss : ℕ → ℕ → EventEntry
loss number n = record {
  tick = 501 + 20 * loss_draw number n 2 25;
  kind = lost_on (loss_link number n) (loss_draw number n 1 2);
}

-- ---- all of them

-- the events in the order in which they are drawn
abbrev pub drawn_events : ℕ → List EventEntry
drawn_events number =
    map (declaration number) (range_with_len 1 (station_count number))
    ++ (flat_map (stream_events number) (range_with_len 1 (stream_count number))
    ++ map (loss number) (range_with_len 0 20))

-- the second list is the first sorted by tick: it has the same events, their ticks don't fall, and
-- those of one tick stand in the order in which they stood
pub record IsSortedByTick (events sorted : List EventEntry) : Type 0 where
  pub same : IsPermutation events sorted
  pub order : IsSortedByKey (λ e. e.tick) nat_cmp sorted
  pub stable : IsStableByKey (λ e. e.tick) nat_cmp events sorted
