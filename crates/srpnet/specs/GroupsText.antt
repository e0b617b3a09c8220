-- What `srpnet groups` prints: a network that runs MMRP, through the ticks of a group scenario; and
-- what holds of it at the end.
use Rattle.std.specs.Prelude.{◌≡◌, ℕ, List, Result, Ok}
use Rattle.group_file.specs.{Plan.GroupPlan, Scenario.group_scenario_of}
use Rattle.group_run.specs.{Text.group_text, Ticks.run_of}
use Rattle.mmrp.specs.{Kept.AreGroupDutiesMet, Match.GroupsMatch, Match.IsAtRest, Net.NetGroups}
use Rattle.srpnet.specs.declared.outcome.Cause.{Cause}
use Rattle.srpnet.specs.Input.{input_of}

-- the group scenario of these octets by the rules 40, 1 to 15 and 41 to 43
abbrev pub group_input : List ℕ → Result GroupPlan Cause
group_input octets = input_of group_scenario_of octets

-- What holds of a network of groups, losses and repeats included: both ends of each link meet their
-- duty; and where nothing is pending and each port sent LeaveAll since its link's last loss, a MAC
-- address is registered at a port exactly where a station behind the port has joined it.
pub record KeepsGroupLaws (w : NetGroups) : Type 0 where
  pub duties : AreGroupDutiesMet w
  pub groups : IsAtRest w → GroupsMatch w

-- the text that is printed of the run of a group scenario through its ticks, and what holds of its
-- network
pub record IsGroupsRun (plan : GroupPlan) (text : List ℕ) : Type 0 where
  pub printed : text ≡ group_text plan (run_of plan)
  pub holds : KeepsGroupLaws (run_of plan).net

-- The output of the command `groups` for an input of these octets: they are a group scenario, and
-- the text is that of its run.
pub record GroupsOutput (octets text : List ℕ) : Type 0 where
  pub plan : GroupPlan
  pub read : group_input octets ≡ Ok plan
  pub run : IsGroupsRun plan text
