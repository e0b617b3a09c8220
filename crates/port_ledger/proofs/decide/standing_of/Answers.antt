use Rattle.std.proofs.Common.{◌<◌, ◌^◌, length, arith}
use Rattle.port_ledger.proofs.TotalsLemmas.{PartsFit, parts-fit, rest-fits}
use Rattle.port_ledger.proofs.decide.standing_of.Goals as goal

pub totals_of-requires : goal.totals_of-requires
totals_of-requires c = rest-fits c.args.at c.args.order.now _ c.behind-rest.ensures c.requires.range

fits : (c : goal.After-totals_of) → PartsFit c.args.front.now c.totals_of.result
fits c =
    let long : length c.args.order.now < 2 ^ 64 = omega (arith, c.well_formed.1.0) in
    parts-fit c.args.now.0 c.args.at c.args.order.now _ c.args.front.now c.totals_of.result c.requires.front c.totals_of.ensures c.behind-rest.ensures c.requires.range long

pub plus-requires-clause-class_a : goal.plus-requires-clause-class_a
plus-requires-clause-class_a c = (fits c).class_a

pub plus-requires-clause-class_b : goal.plus-requires-clause-class_b
plus-requires-clause-class_b c = (fits c).class_b

pub plus-requires-clause-new_count : goal.plus-requires-clause-new_count
plus-requires-clause-new_count c = (fits c).new_count
