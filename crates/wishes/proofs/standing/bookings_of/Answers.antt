use Rattle.std.proofs.Common.{◌≡◌, ℕ, ◌+◌, ◌-◌, ◌<◌, ◌++◌, ◌∷◌, [], List, Option, length, ap, ◌∙◌, arith}
use Rattle.std.specs.Prelude.{slice_get}
use Rattle.std.specs.Option.{option_map_or}
use Rattle.srp_base.proofs.Lists.{within}
use Rattle.stream_importance.specs.declared.entry.Entry.{Entry}
use Rattle.port_ledger.specs.Decision.{booked_of}
use Rattle.msrp.specs.PortState.{PortState}
use Rattle.wishes.proofs.ListLemmas.{next_mapped}
use Rattle.wishes.proofs.standing.bookings_of.Goals as goal

pub loop-i-preserved : goal.loop-i-preserved
loop-i-preserved c =
    let ports = c.args.node.now.state.streams.ports in
    let i = c.loop-i.i in
    let count = c.ports-i-end.ensures in
    let test = c.loop-i-test.true in
    let many = c.keeps.ensures.same_ports in
    let below : i < length ports = omega (arith, count, test, many) in
    let port = within ports i below in
    let same : i + 1 - 1 ≡ i = omega arith in
    let rows = c.loop-i.rows.items in
    let row : c.in_ok-bookings.field-0 ≡ booked_of port.0.ledger.entries =
    c.in_ok-bookings.ensures
    ∙ (ap (λ (k : ℕ). option_map_or (λ (p : PortState). booked_of p.ledger.entries) (slice_get ports k) []) same
    ∙ ap (λ (o : Option PortState). option_map_or (λ (p : PortState). booked_of p.ledger.entries) o []) port.1)
    in
    next_mapped (λ (p : PortState). booked_of p.ledger.entries) i rows c.push.new.self.items ports port.0 port.1
    (c.in_ok-push.ensures.items ∙ ap (λ (x : List Entry). rows ++ x ∷ []) row)
    ∙ c.loop-i.invariant
