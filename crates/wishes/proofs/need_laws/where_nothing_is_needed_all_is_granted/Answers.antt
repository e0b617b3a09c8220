use Rattle.std.proofs.Common.{◌≡◌, ap, ◌∙◌}
use Rattle.std.specs.Prelude.{take}
use Rattle.world_core.specs.{Moments.events_from, Start.world_of, World.WorldState}
use Rattle.wishes.specs.Needs.{needs_in}
use Rattle.wishes.proofs.GrantedNeeds.{IsKnown}
use Rattle.wishes.proofs.GrantedAll.{all_granted}
use Rattle.wishes.proofs.need_laws.where_nothing_is_needed_all_is_granted.Goals as goal

pub returns : goal.returns
returns c plan ticks end w rules legal moment rest ports streams =
    let kept = c.every_moment_keeps_it.ensures plan ticks end w rules legal moment in
    let tree : w.tree ≡ plan.tree =
    ap (λ (v : WorldState). v.tree) moment.reached ∙ c.what_is_allowed_may_happen.ensures.trees (take moment.count (events_from plan 0 ticks)) (world_of plan) in
    let known : IsKnown plan w = record {
      rules = rules;
      kept = kept;
      tree = tree;
      talks = c.every_moment_talks_by_the_plan.ensures.talks plan ticks end w rules legal moment;
      caps = λ q s port has node at. c.caps_are_those_of_the_scenario.ensures plan ticks end w q s port rules legal moment has node at;
      wanted = λ stream q s port want once has node at is.
          c.what_a_port_keeps_is_wanted_behind.ensures w stream q s port want kept rest once has node at is;
      ways = λ q x y has from to. c.a_stream_leaves_by_the_ports_of_its_way.ensures w.tree q x y kept.tree has from to;
    } in
    all_granted plan w (record {
      known = known;
      missed = λ stream l t once talker node listens mute off.
          c.who_misses_a_stream_has_a_failure.ensures w stream l t kept rest once talker node listens mute off;
      cause = λ stream l talker failure once node other failed.
          c.each_failure_has_its_cause.ensures w stream l talker failure kept rest once node other failed;
      sides = λ stream l once node listens mute. c.streams_keep_their_laws.ensures.sides w stream l kept rest once node listens mute;
      edges = λ q s port reg class has node at is.
          c.edges_are_those_of_the_scenario.ensures.talker plan ticks end w q s port reg class rules legal moment rest has node at is;
      fits = λ q link book now want. c.a_large_ledger_books_all_that_is_wished.ensures.fits plan (needs_in plan w) q link book now want;
      wished = λ q want. c.what_is_wished_is_asked.ensures plan (needs_in plan w) q want;
      linked = c.each_port_has_its_link.ensures plan rules;
      large = (c.nothing_is_needed_where_all_are_large_enough.ensures.ports plan (needs_in plan w)).0 ports;
      served = (c.nothing_is_needed_where_all_are_large_enough.ensures.streams plan (needs_in plan w)).0 streams;
      ports = c.ports.ensures w.tree kept.tree;
      paths = λ x y path from to. (c.the_walk.ensures.path w.tree x y path kept.tree from to).0;
    })
