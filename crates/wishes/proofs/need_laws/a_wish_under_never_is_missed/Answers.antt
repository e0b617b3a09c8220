use Rattle.std.proofs.Common.{◌≡◌, ap, ◌∙◌}
use Rattle.std.specs.Prelude.{take}
use Rattle.world_core.specs.{Moments.events_from, Start.world_of, World.WorldState}
use Rattle.wishes.proofs.GrantedNeeds.{IsKnown}
use Rattle.wishes.proofs.NeverLemmas.{never_missed}
use Rattle.wishes.proofs.need_laws.a_wish_under_never_is_missed.Goals as goal

pub returns : goal.returns
returns c plan ticks end w wish rules legal moment rest listed never =
    let kept = c.every_moment_keeps_it.ensures plan ticks end w rules legal moment in
    let tree : w.tree ≡ plan.tree =
    ap (λ (v : WorldState). v.tree) moment.reached ∙ c.what_is_allowed_may_happen.ensures.trees (take moment.count (events_from plan 0 ticks)) (world_of plan) in
    let known : IsKnown plan w = record {
      rules = rules;
      kept = kept;
      tree = tree;
      talks = c.every_moment_talks_by_the_plan.ensures.talks plan ticks end w rules legal moment;
      caps = λ q s port has node at. c.caps_are_those_of_the_scenario.ensures plan ticks end w q s port rules legal moment has node at;
      wanted = λ stream q s port want once has node at is.
          c.what_a_port_keeps_is_wanted_behind.ensures w stream q s port want kept rest once has node at is;
      ways = λ q x y has from to. c.a_stream_leaves_by_the_ports_of_its_way.ensures w.tree q x y kept.tree has from to;
    } in
    never_missed plan w known rest (c.ports.ensures w.tree kept.tree)
    (λ q s port reg class has node at is.
    c.edges_are_those_of_the_scenario.ensures.talker plan ticks end w q s port reg class rules legal moment rest has node at is)
    (λ wishes. c.nothing_is_needed_where_all_are_large_enough.ensures.streams plan wishes) wish listed never
