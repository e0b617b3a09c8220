use Rattle.std.proofs.Common.{◌≡◌, Ok, List, map, ap, sym, ◌∙◌}
use Rattle.toml.specs.View.{table_view}
use Rattle.topology_file.specs.Names.{Named}
use Rattle.topology_file.proofs.Chains.{ok-says}
use Rattle.group_file.specs.{GroupEntry, groups_of}
use Rattle.group_file.proofs.EventsKept.{GroupsKeep, NamesAreKnown, groups-keep}
use Rattle.group_file.proofs.scenario.read_groups.Goals as goal

pub invariant_of-result : goal.invariant_of-result
invariant_of-result c =
    let law : NamesAreKnown = record { station = c.what_events_name_is_known.ensures.station; pdu = c.what_events_name_is_known.ensures.pdu } in
    let n = c.in_ok-read.read in
    let names : Named = c.of_network-names.result in
    let nodes = names.nodes in
    let links = names.links in
    let of_nodes : nodes ≡ n.network.nodes = ap (λ (x : Named). x.nodes) c.of_network-names.ensures ∙ c.as_slice-nodes.ensures in
    let of_links : links ≡ n.network.links = ap (λ (x : Named). x.links) c.of_network-names.ensures ∙ c.as_slice.ensures in
    let entries = map (λ t. table_view t.now) c.args.event_tables.now in
    let kept : GroupsKeep n.times.ticks n.network.nodes n.network.links c.in_ok-events.events.items =
    rw (sym of_nodes, sym of_links)
    (ok-says (GroupsKeep n.times.ticks nodes links) (groups_of n.times.ticks nodes links entries) c.in_ok-events.events.items c.in_ok-events.ensures
    (groups-keep law nodes links n.times.ticks entries)) in
    let same = c.from_vec.ensures in
    record {
      network = c.in_ok-read.ensures.kept;
      events_many = rw same kept.many;
      events_within = rw same kept.within;
      events_order = rw same kept.order;
      events_known = rw same kept.known;
    }
