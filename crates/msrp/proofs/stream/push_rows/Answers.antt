use Rattle.std.proofs.Common.{List, [], ◌∷◌, ◌++◌, map, ap, ◌∙◌, arith}
use Rattle.std.specs.Prelude.{Option}
use Rattle.std.specs.List.{filter_map}
use Rattle.std.proofs.lemmas.List.Elements.{filter_map-append}
use Rattle.msrp_listener.specs.declared.port_listener.PortListener.{PortListener}
use Rattle.msrp.specs.{PortHolding, ports_in, listener_row}
use Rattle.msrp.proofs.Places.{one_more}
use Rattle.msrp.proofs.stream.push_rows.Goals as goal

abbrev there : List (Option PortListener) → List PortListener
there rows = filter_map (λ row. row) rows

pub loop-port-preserved : goal.loop-port-preserved
loop-port-preserved c =
    let row = listener_row c.args.stream in
    record {
      items =
          one_more (λ (ps : List PortHolding). there (map row (ports_in ps))) (λ (p : PortHolding). there (row p.state ∷ [])) c.args.ports.now c.loop-port.port-index c.port-item.result
          c.loop-port.out.items c.push_row.new.out.items _ (λ p ps. filter_map-append (λ (r : Option PortListener). r) (row p.state ∷ []) (map row (ports_in ps))) c.loop-port-test.true
          (c.push_row.ensures.items ∙ ap (λ (r : Option PortListener). c.loop-port.out.items ++ there (r ∷ [])) (c.listener_row.ensures ∙ ap (λ (p : PortHolding). row p.state) c.port-item.is))
          c.loop-port.invariant.items;
      len = omega (arith, c.push_row.ensures.len, c.loop-port.invariant.len);
      capacity = c.push_row.ensures.capacity ∙ c.loop-port.invariant.capacity;
    }
