use Rattle.std.proofs.Common.{◌≡◌, ap, sym, subst, ◌∙◌}
use Rattle.std.specs.Prelude.{take}
use Rattle.tree_topology.specs.Topology.{HasPort, Topology}
use Rattle.world_core.specs.{Moments.events_from, Start.world_of, World.WorldState}
use Rattle.wishes.specs.Needs.{needs_in}
use Rattle.wishes.proofs.GrantedNeeds.{granted_is_large, IsKnown}
use Rattle.wishes.proofs.NeverLemmas.{missed_behind}
use Rattle.wishes.proofs.need_laws.behind_each_port_that_needs_more_a_wish_is_missed.Goals as goal

pub returns : goal.returns
returns c plan ticks end w p rules legal moment rest has need =
    let kept = c.every_moment_keeps_it.ensures plan ticks end w rules legal moment in
    let tree : w.tree ≡ plan.tree =
    ap (λ (v : WorldState). v.tree) moment.reached ∙ c.what_is_allowed_may_happen.ensures.trees (take moment.count (events_from plan 0 ticks)) (world_of plan) in
    let known : IsKnown plan w = record {
      rules = rules;
      kept = kept;
      tree = tree;
      talks = c.every_moment_talks_by_the_plan.ensures.talks plan ticks end w rules legal moment;
      caps = λ q s port has node at. c.caps_are_those_of_the_scenario.ensures plan ticks end w q s port rules legal moment has node at;
      wanted = λ stream q s port want once has node at is.
          c.what_a_port_keeps_is_wanted_behind.ensures w stream q s port want kept rest once has node at is;
      ways = λ q x y has from to. c.a_stream_leaves_by_the_ports_of_its_way.ensures w.tree q x y kept.tree has from to;
    } in
    let there = subst (λ (t : Topology). HasPort t p) (sym tree) has in
    missed_behind plan w known p there need (λ granted.
    granted_is_large plan w known p there granted
    (λ want. (c.what_is_wished_is_asked.ensures plan (needs_in plan w) p want).0)
    (λ link book full. c.a_ledger_that_booked_all_is_large_enough.ensures plan (needs_in plan w) p link book rules full))
