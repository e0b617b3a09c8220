-- The streams of a number: three draws each, behind those of the links.
use Rattle.std.specs.Prelude.{ℕ, ◌+◌, ◌-◌, ◌*◌, ◌==◌, if◌then◌else◌, List, map, codes}
use Rattle.std.specs.List.{range_with_len}
use Rattle.srp_base.specs.declared.{bandwidth.Rank.Rank, bandwidth.Rank.TheVariants.Emergency, bandwidth.Rank.TheVariants.Normal}
use Rattle.topology_file.specs.declared.entries.StreamEntry.{StreamEntry}
use Rattle.scenario_generator.specs.{Draws.draw, Network.bridge_count, Network.station_count, Network.stream_count, Network.link_count, Network.numbered_name, Network.station_node}

-- the draw for stream k, from 1: its first, second or third, counted from 0
abbrev pub stream_draw : ℕ → ℕ → ℕ → ℕ → ℕ
stream_draw number k i m = draw number (3 + link_count number + 3 * (k - 1) + i) m

-- which station talks in stream k, counted from 0
abbrev pub talker_drawn : ℕ → ℕ → ℕ
talker_drawn number k = stream_draw number k 0 (station_count number)

-- one of eight streams is emergency traffic
abbrev pub rank_drawn : ℕ → Rank
rank_drawn n = if n == 0 then Emergency else Normal

-- stream k: frames of 64 to 663 octets, one each interval, of VID 2 and priority 3, with the
-- StreamID 0200000000000000 + k and the destination 91e0f0000000 + k
abbrev pub stream_entry : ℕ → ℕ → StreamEntry
stream_entry number k = record {
  name = numbered_name (codes "k") k;
  id = record { 0 = 144115188075855872 + k };
  talker = record { 0 = station_node (bridge_count number) (1 + talker_drawn number k) };
  dest = 160395285233664 + k;
  octets = 64 + stream_draw number k 1 600;
  frames = 1;
  vid = 2;
  priority = 3;
  rank = rank_drawn (stream_draw number k 2 8);
}

-- the streams of a number
abbrev pub drawn_streams : ℕ → List StreamEntry
drawn_streams number = map (stream_entry number) (range_with_len 1 (stream_count number))
