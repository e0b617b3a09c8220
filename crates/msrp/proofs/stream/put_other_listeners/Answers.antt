use Rattle.std.proofs.Common.{◌≡◌, ◌∙◌, ℕ, suc, List, [], ◌∷◌, ◌++◌, map, take, drop, if◌then◌else◌, sym, ap, append_assoc}
use Rattle.std.specs.Prelude.{Option, Some, None}
use Rattle.std.specs.List.{filter_map}
use Rattle.std.proofs.lemmas.{List.drop-map, List.take-map, List.Elements.filter_map-append}
use Rattle.srp_base.specs.declared.{streams.TalkerReg.TalkerReg, streams.ListenerKind.TheVariants.Ready}
use Rattle.msrp.specs.PortState.{PortState}
use Rattle.msrp_listener.specs.declared.port_listener.PortListener.{PortListener}
use Rattle.msrp.specs.{PortHolding, ports_in, is_advertised, is_listened, listener_row}
use Rattle.msrp.proofs.stream.put_other_listeners.Goals as goal

abbrev there : List (Option PortListener) → List PortListener
there rows = filter_map (λ row. row) rows

-- the application's row, the rows before a place and those after it, put one after another
joined : (own : Option PortListener) (rows : List (Option PortListener)) (at : ℕ) (a b c d : List PortListener)
    → a ≡ [] → b ≡ a ++ there (own ∷ []) → c ≡ b ++ there (take at rows) → d ≡ c ++ there (drop (suc at) rows)
    → d ≡ there (own ∷ (take at rows ++ drop (suc at) rows))
joined own rows at a b c d ea eb ec ed =
    ed ∙ (ap (λ xs. xs ++ there (drop (suc at) rows)) (ec ∙ ap (λ xs. xs ++ there (take at rows)) (eb ∙ ap (λ xs. xs ++ there (own ∷ [])) ea))
    ∙ (append_assoc (there (own ∷ [])) (there (take at rows)) (there (drop (suc at) rows))
    ∙ (ap (λ xs. there (own ∷ []) ++ xs) (sym (filter_map-append (λ (row : Option PortListener). row) (take at rows) (drop (suc at) rows)))
    ∙ sym (filter_map-append (λ (row : Option PortListener). row) (own ∷ []) (take at rows ++ drop (suc at) rows)))))

pub returns-clause-rows : goal.returns-clause-rows
returns-clause-rows c e =
    let at = c.args.view.now.at in
    let all : List PortHolding = c.args.view.now.ports.now in
    let rows : List (Option PortListener) = map (listener_row c.args.stream) (ports_in all) in
    let own = c.own_listener.result in
    let f : PortHolding → PortState = λ p. p.state in
    let front : map (listener_row c.args.stream) (ports_in c.before-2.result.now) ≡ take at rows =
    ap (λ ps. map (listener_row c.args.stream) (ports_in ps)) c.before-2.ensures
    ∙ (ap (map (listener_row c.args.stream)) (sym (take-map f at all)) ∙ sym (take-map (listener_row c.args.stream) at (ports_in all))) in
    let back : map (listener_row c.args.stream) (ports_in c.after.result.now) ≡ drop (suc at) rows =
    ap (λ ps. map (listener_row c.args.stream) (ports_in ps)) c.after.ensures
    ∙ (ap (map (listener_row c.args.stream)) (sym (drop-map f (suc at) all)) ∙ sym (drop-map (listener_row c.args.stream) (suc at) (ports_in all))) in
    joined own rows at c.clear.new.self.items c.push_row.new.out.items c.push_rows.new.out.items c.push_rows-2.new.out.items c.clear.ensures.items
    c.push_row.ensures.items
    (c.push_rows.ensures.items ∙ ap (λ xs. c.push_row.new.out.items ++ there xs) front)
    (c.push_rows-2.ensures.items ∙ ap (λ xs. c.push_rows.new.out.items ++ there xs) back)
    ∙ ap (λ x. there (x ∷ (take at rows ++ drop (suc at) rows)))
    (c.own_listener.ensures ∙ ap (λ (reg : TalkerReg). if is_listened c.args.stream c.args.view.now.listens.now then Some (record { kind = Ready; booked = is_advertised reg }) else None) e)
