use Rattle.std.proofs.Common.{◌≡◌, ℕ, ap, refl}
use Rattle.std.specs.Prelude.{slice_get, Some}
use Rattle.srp_base.proofs.Lists.{all_each}
use Rattle.topology_file.specs.Plan.{Plan}
use Rattle.node_core.specs.State.{NodeState}
use Rattle.world_core.specs.{world_of}
use Rattle.world_core.proofs.{Beginnings.new_at, Runs.RunLaws, Runs.allowed_can, Runs.one_leads, Runs.all_lead, Runs.clock_leads, Runs.known_allowed, Runs.known_neighbours, Runs.scripted_allowed, Runs.carries_allowed, Runs.tree_stays, Runs.trees_stay, laws.what_is_allowed_may_happen.Goals.After-steps_keep_what_a_node_is}
use Rattle.world_core.proofs.laws.what_is_allowed_may_happen.Goals as goal

laws : After-steps_keep_what_a_node_is → RunLaws
laws c =
    record {
      keeps = c.every_event_keeps_it.ensures.event;
      ports = c.ports.ensures;
      clock = c.steps_keep_what_a_node_is.ensures.clock;
      asked = c.steps_keep_what_a_node_is.ensures.asked;
    }

begun : (plan : Plan) (x : ℕ) (s : NodeState) → slice_get (world_of plan).nodes x ≡ Some s → s.clock.0 ≡ 0
begun plan x s get = ap (λ (r : NodeState). r.clock.0) (new_at plan plan.nodes 1 x s get).is

pub returns-clause-begins : goal.returns-clause-begins
returns-clause-begins c = λ plan rules. record { kept = c.a_scenario_begins_well.ensures plan rules; tree_is = refl; clock = begun plan }

pub returns-clause-can : goal.returns-clause-can
returns-clause-can c = λ tree t e w ok run. (allowed_can (laws c) tree t e w ok run).0

pub returns-clause-stays : goal.returns-clause-stays
returns-clause-stays c = λ tree t e w ok run. one_leads (laws c) tree t e w ok run

pub returns-clause-all_can : goal.returns-clause-all_can
returns-clause-all_can c = λ tree t es w ok run. (all_lead (laws c) tree t es w ok run).can

pub returns-clause-all_stay : goal.returns-clause-all_stay
returns-clause-all_stay c = λ tree t es w ok run. (all_lead (laws c) tree t es w ok run).after

pub returns-clause-clock : goal.returns-clause-clock
returns-clause-clock c = λ tree t w below run. (clock_leads (laws c) tree t w below run).can.0

pub returns-clause-next : goal.returns-clause-next
returns-clause-next c = λ tree t w below run. (clock_leads (laws c) tree t w below run).after

pub returns-clause-known : goal.returns-clause-known
returns-clause-known c = λ plan kind rules known. known_allowed (laws c) plan rules kind known

pub returns-clause-neighbours : goal.returns-clause-neighbours
returns-clause-neighbours c = λ plan kind rules known. known_neighbours (laws c) plan rules kind known

pub returns-clause-scripted : goal.returns-clause-scripted
returns-clause-scripted c = λ plan t rules. scripted_allowed (laws c) plan rules t 1 plan.events (all_each _ plan.events rules.events_known)

pub returns-clause-carried : goal.returns-clause-carried
returns-clause-carried c = λ plan rules. carries_allowed (laws c) plan rules plan.tree.links (λ x y j. j)

pub returns-clause-tree : goal.returns-clause-tree
returns-clause-tree c = tree_stays

pub returns-clause-trees : goal.returns-clause-trees
returns-clause-trees c = trees_stay
