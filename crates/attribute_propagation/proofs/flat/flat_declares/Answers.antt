use Rattle.std.proofs.Common.{rules, ◌≡◌}
use Rattle.attribute_propagation.specs.{elsewhere}
use Rattle.attribute_propagation.proofs.FlatLemmas.{elsewhere_is}
use Rattle.attribute_propagation.proofs.flat.flat_declares.Goals as goal

pub returns-then-is_any_before-clause-meaning : goal.returns-then-is_any_before-clause-meaning
returns-then-is_any_before-clause-meaning c =
    let is : c.is_any_before.result ≡ elsewhere c.args.port c.args.registered.now = search rules in
    rw is (elsewhere_is c.args.port c.args.registered.now)

pub returns-else-is_any_before-clause-meaning : goal.returns-else-is_any_before-clause-meaning
returns-else-is_any_before-clause-meaning c =
    let is : c.is_any_after.result ≡ elsewhere c.args.port c.args.registered.now = search rules in
    rw is (elsewhere_is c.args.port c.args.registered.now)
