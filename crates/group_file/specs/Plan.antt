-- What a file of groups holds.
use Rattle.std.specs.Prelude.{ℕ, Bool, List}
use Rattle.srp_base.specs.declared.numbers.Cs.{Cs}
use Rattle.tree_topology.specs.Topology.{Topology}
use Rattle.topology_file.specs.declared.{entries.NodeEntry.NodeEntry, entries.LinkEntry.LinkEntry}
use Rattle.group_file.specs.declared.entries.GroupEntry.{GroupEntry}

-- its times in cs, the tree of its nodes and links, and its entries, each at the place of its
-- number
pub record GroupPlan : Type 0 where
  pub ticks : ℕ
  pub leave_time : Cs
  pub periodic : Bool
  pub tree : Topology
  pub nodes : List NodeEntry
  pub links : List LinkEntry
  pub events : List GroupEntry
