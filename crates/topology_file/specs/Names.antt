-- What the events and frames of a file may name.
use Rattle.std.specs.Prelude.{List}
use Rattle.topology_file.specs.declared.{entries.NodeEntry.NodeEntry, entries.LinkEntry.LinkEntry, entries.StreamEntry.StreamEntry}

-- the nodes, links and streams, each at the place of its number
pub record Named : Type 0 where
  pub nodes : List NodeEntry
  pub links : List LinkEntry
  pub streams : List StreamEntry
