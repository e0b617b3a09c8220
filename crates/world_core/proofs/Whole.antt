-- What a network keeps is what it keeps beside its nodes, and what each node keeps by itself.
use Rattle.std.specs.List.{AllByRecursion}
use Rattle.srp_base.proofs.Lists.{at_each}
use Rattle.node_core.specs.Proper.{IsProperNode}
use Rattle.world_core.specs.{WorldState, IsKeptWorld, IsWhole}

pub whole_of : (w : WorldState) → IsKeptWorld w → IsWhole w
whole_of w kept =
    record {
      tree = kept.tree;
      many = kept.many;
      nodes = λ x s is. record { kind = (kept.nodes x s is).kind; ports = (kept.nodes x s is).ports };
      clock = kept.clock;
      marks_of = kept.marks_of;
      marks = kept.marks;
      duties = kept.duties;
      streams = kept.streams;
    }

pub kept_of : (w : WorldState) → IsWhole w → AllByRecursion IsProperNode w.nodes → IsKeptWorld w
kept_of w whole proper =
    record {
      tree = whole.tree;
      many = whole.many;
      nodes = λ x s is. record { kind = (whole.nodes x s is).kind; ports = (whole.nodes x s is).ports; kept = at_each IsProperNode w.nodes proper x s is };
      clock = whole.clock;
      marks_of = whole.marks_of;
      marks = whole.marks;
      duties = whole.duties;
      streams = whole.streams;
    }
