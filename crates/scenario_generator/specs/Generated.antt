-- The scenario of a number.
use Rattle.std.specs.Prelude.{◌≡◌, ℕ, false, []}
use Rattle.topology_file.specs.{Plan.Plan, Scenario.topology_of}
use Rattle.scenario_generator.specs.{Network.drawn_nodes, Network.drawn_links, Streams.drawn_streams, Events.drawn_events, Events.IsSortedByTick}

-- 4,000 ticks of its nodes, links, streams and events, by the draws of the number; LeaveTime is 60
-- cs, nothing is transmitted periodically, and there are no SRP domains and no frames
pub record IsDrawn (number : ℕ) (p : Plan) : Type 0 where
  pub ticks : p.ticks ≡ 4000
  pub leave_time : p.leave_time ≡ record { 0 = 60 }
  pub periodic : p.periodic ≡ false
  pub domains : p.domains ≡ false
  pub nodes : p.nodes ≡ drawn_nodes number
  pub links : p.links ≡ drawn_links number
  pub streams : p.streams ≡ drawn_streams number
  pub events : IsSortedByTick (drawn_events number) p.events
  pub frames : p.frames ≡ []
  pub tree : p.tree ≡ topology_of (drawn_nodes number) (drawn_links number)
