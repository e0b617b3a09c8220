-- The scenario that a plan stands for.
use Rattle.std.specs.Prelude.{ℕ, false, List, [], ◌∷◌, map}
use Rattle.topology_file.specs.Plan.{Plan as ScenarioPlan}
use Rattle.topology_file.specs.declared.entries.StreamEntry.{StreamEntry}
use Rattle.plan_file.specs.declared.entries.PlanStream.{PlanStream}
use Rattle.plan_file.specs.{Events.event_of, Events.plan_events, Numbers.dests_of, Numbers.ids_of, Plan.NetworkPlan, Tables.plan_ticks, Tables.priority_of}

-- a stream of this StreamID and this address
abbrev pub stream_of : PlanStream → ℕ → ℕ → StreamEntry
stream_of s id dest = record {
  name = s.name;
  id = record { 0 = id };
  talker = s.ends.talker;
  dest = dest;
  octets = s.values.octets;
  frames = s.values.frames;
  vid = s.values.vid;
  priority = priority_of s.values.class;
  rank = s.values.rank;
}

-- streams of these StreamIDs and addresses
abbrev pub streams_with : List PlanStream → List ℕ → List ℕ → List StreamEntry
streams_with (s ∷ ss) (id ∷ ids) (dest ∷ dests) = stream_of s id dest ∷ streams_with ss ids dests
streams_with _ _ _ = []

-- The scenario that a plan stands for: 1,000 ticks of its network, its streams with all their
-- values, and its events. It has no frames, and its times are the usual ones.
abbrev pub scenario_for : NetworkPlan → ScenarioPlan
scenario_for p = record {
  ticks = plan_ticks;
  leave_time = record { 0 = 60 };
  periodic = false;
  domains = p.network.domains;
  tree = p.network.tree;
  nodes = p.network.nodes;
  links = p.network.links;
  streams = streams_with p.streams (ids_of p.streams) (dests_of p.streams);
  events = map event_of (plan_events p);
  frames = [];
}
