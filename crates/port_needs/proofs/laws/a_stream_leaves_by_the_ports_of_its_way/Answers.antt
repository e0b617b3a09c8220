use Rattle.port_needs.proofs.WayLemmas.{leaves_by_way}
use Rattle.port_needs.proofs.laws.a_stream_leaves_by_the_ports_of_its_way.Goals as goal

pub returns : goal.returns
returns c tree p from to sound hp hx hy = leaves_by_way tree (c.ports.ensures tree sound) p from to hp hx hy
