use Rattle.std.proofs.Common.{rules, ◌≡◌}
use Rattle.attribute_propagation.specs.{with_key}
use Rattle.attribute_propagation.proofs.DirtyLemmas.{ascending-marked}
use Rattle.attribute_propagation.proofs.dirty.insert.Goals as goal

pub returns-in_ok-insert-in-Err-clause-ascends : goal.returns-in_ok-insert-in-Err-clause-ascends
returns-in_ok-insert-in-Err-clause-ascends g c =
    let is : c.insert.new.self.items ≡ with_key g.K.Ord.cmp c.args.key c.args.keys.now.items = search rules in
    rw is (ascending-marked g.met.K.Ord.total c.args.key c.args.keys.now.items c.requires)
