use Rattle.std.proofs.Common.{◌≡◌, ◌++◌, drop}
use Rattle.std.specs.Prelude.{flat_map}
use Rattle.std.specs.List.{AllByRecursion}
use Rattle.tree_topology.specs.Topology.{HasPort, link_ports}
use Rattle.report_words.proofs.LinkPorts.{both_ends}
use Rattle.report_words.proofs.ports.ports_of_links.Given as goal

-- the ports so far with those of the links that are left are all, and each is a port of the tree
abbrev pub invariant-loop-i : goal.invariant-loop-i
invariant-loop-i l = record {
  all : l.ports.items ++ flat_map (both_ends l.tree) (drop l.i l.tree.links) ≡ link_ports l.tree;
  known : AllByRecursion (HasPort l.tree) l.ports.items;
}
