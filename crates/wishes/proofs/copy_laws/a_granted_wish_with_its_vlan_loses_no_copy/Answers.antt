use Rattle.std.proofs.Common.{sym, subst}
use Rattle.tree_topology.specs.Topology.{IsSound}
use Rattle.scenario_frames.specs.Setting.{setting_of}
use Rattle.wishes.proofs.CopyLemmas.{no_copy_lost, none_lost, port_of}
use Rattle.wishes.proofs.copy_laws.a_granted_wish_with_its_vlan_loses_no_copy.Goals as goal

pub returns-clause-copies : goal.returns-clause-copies
returns-clause-copies c plan ticks end changes e l n place copy traffic sent rules legal timeline granted on route vid after =
    no_copy_lost plan ticks end changes e l n place
    (record { next = c.a_timeline_goes_on.ensures.next plan; closing = c.what_ends_a_tick_changes_nothing_in_force.ensures.closing plan.tree })
    (c.ports.ensures plan.tree (subst IsSound (sym rules.tree) rules.accepted))
    (record { rules = rules; legal = legal; timeline = timeline; granted = granted; on = on })
    copy after traffic sent route vid

pub returns-clause-flow : goal.returns-clause-flow
returns-clause-flow c plan ticks end changes flows e l n place copy traffic fate rules legal timeline is listed granted on arrives route after has =
    let s = setting_of plan changes in
    let sound : IsSound plan.tree = subst IsSound (sym rules.tree) rules.accepted in
    let laws = c.ports.ensures plan.tree sound in
    let slopes = c.slopes_stay_within_limits.ensures.rates plan ticks end changes rules legal timeline in
    let given = c.a_scenario_asks_a_valid_flow.ensures plan changes rules timeline.are.ascend slopes in
    none_lost plan ticks end changes e l n place
    (record { next = c.a_timeline_goes_on.ensures.next plan; closing = c.what_ends_a_tick_changes_nothing_in_force.ensures.closing plan.tree })
    laws (record { rules = rules; legal = legal; timeline = timeline; granted = granted; on = on })
    flows copy traffic fate is (c.each_copy_has_one_fate.ensures.once s flows given sound is)
    (c.copies_come_from_departures.ensures s flows place (port_of plan laws place on.listed)) listed arrives route after has
