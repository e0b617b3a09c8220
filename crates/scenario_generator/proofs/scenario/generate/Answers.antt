use Rattle.std.proofs.Common.{refl}
use Rattle.scenario_generator.proofs.RulesKept.{drawn-keeps, drawn-same}
use Rattle.scenario_generator.proofs.scenario.generate.Goals as goal

pub invariant_of-result : goal.invariant_of-result
invariant_of-result c =
    drawn-keeps c.in_ok-draws.draws _
    (record {
      ticks = refl;
      leave_time = refl;
      periodic = refl;
      domains = refl;
      nodes = c.in_ok-network.ensures.0;
      links = c.in_ok-network.ensures.1;
      streams = c.in_ok-traffic.ensures.0;
      events = c.in_ok-traffic.ensures.1;
      frames = c.new-frames.ensures;
      tree = c.in_ok-network.ensures.2;
    })
    c.one_component.ensures.tree

pub returns : goal.returns
returns c =
    drawn-same c.in_ok-draws.draws c.args.number _ c.in_ok-draws.ensures
    (record {
      ticks = refl;
      leave_time = refl;
      periodic = refl;
      domains = refl;
      nodes = c.in_ok-network.ensures.0;
      links = c.in_ok-network.ensures.1;
      streams = c.in_ok-traffic.ensures.0;
      events = c.in_ok-traffic.ensures.1;
      frames = c.new-frames.ensures;
      tree = c.in_ok-network.ensures.2;
    })
