-- The bound on the delay of a stream's frames to a station: the one that `delays` prints of a run.
use Rattle.std.specs.Prelude.{◌≡◌, ℕ, ◌==◌, List, Contains, length, find, Option, option_map, option_and_then, slice_get}
use Rattle.std.specs.Int.{div_ceil}
use Rattle.srp_base.specs.declared.{numbers.EgressPort.EgressPort, numbers.NodeNo.NodeNo, numbers.StreamId.StreamId}
use Rattle.tree_topology.specs.Walk.{path_between}
use Rattle.topology_file.specs.declared.entries.StreamEntry.{StreamEntry}
use Rattle.topology_file.specs.Plan.{Plan}
use Rattle.class_delays.specs.declared.delays.FedStream.{FedStream}
use Rattle.scenario_delays.specs.declared.{answers.StreamAnswer.StreamAnswer, facts.DelayFacts.DelayFacts}
use Rattle.scenario_delays.specs.Facts.{bounds_of}
use Rattle.node_core.specs.State.{NodeState}
use Rattle.report_words.specs.Names.{name_of}
use Rattle.delay_report.specs.{Lines.delay_line, Text.DelayRun, Text.last_of, Text.reckoned_in, Text.station_delay}
use Rattle.wishes.specs.declared.wish.Wish.{Wish}

-- what is said of a stream, among what is said of some; nothing is said of one of no class
abbrev pub said_of : StreamId → List StreamAnswer → Option StreamAnswer
said_of stream answers = find (λ (a : StreamAnswer). a.stream.id.0 == stream.0) answers

-- in ns, the most that a frame of a stream takes from its moment through a port, where the stream is
-- fed there and its class has bounds
abbrev pub within_at : DelayFacts → StreamAnswer → EgressPort → Option ℕ
within_at facts a p = option_map (λ (f : FedStream). div_ceil f.spent 1000) (reckoned_in a p (bounds_of a.class facts))

-- through the last port of a path; nothing is said where no port is
abbrev pub within_on : DelayFacts → StreamAnswer → List EgressPort → Option ℕ
within_on facts a path = option_and_then (within_at facts a) (last_of path)

-- from the Talker of its entry to a station
abbrev pub within_to : Plan → DelayFacts → NodeNo → StreamAnswer → Option ℕ
within_to plan facts l a = within_on facts a (path_between plan.tree.links a.stream.talker.0 l.0)

-- that of the stream of an entry
abbrev pub within_for : Plan → DelayFacts → NodeNo → StreamEntry → Option ℕ
within_for plan facts l e = option_and_then (within_to plan facts l) (said_of e.id facts.answers)

-- that of a wish's stream to its station
abbrev pub within_of : Plan → DelayFacts → Wish → Option ℕ
within_of plan facts wish = option_and_then (within_for plan facts wish.station) (slice_get plan.streams wish.stream)

-- `delays` has a line of a stream to a station, with this bound: what is said of the stream, and the
-- line, with what was seen of so many frames
pub record IsPrinted (r : DelayRun) (stream : StreamId) (l : NodeNo) (state : NodeState) (within : ℕ) : Type 0 where
  pub said : StreamAnswer
  pub listed : Contains r.facts.answers said
  pub stream_is : said.stream.id ≡ stream
  pub seen : ℕ
  pub frames : ℕ
  pub line : station_delay r said l state
      ≡ delay_line stream (name_of r.plan.nodes l) (length (path_between r.plan.tree.links said.stream.talker.0 l.0))
      within seen frames
