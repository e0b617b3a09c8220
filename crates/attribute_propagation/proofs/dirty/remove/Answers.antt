use Rattle.std.proofs.Common.{rules, ◌≡◌}
use Rattle.attribute_propagation.specs.{without_key}
use Rattle.attribute_propagation.proofs.DirtyLemmas.{ascending-cleared}
use Rattle.attribute_propagation.proofs.dirty.remove.Goals as goal

pub returns-in-Ok-clause-ascends : goal.returns-in-Ok-clause-ascends
returns-in-Ok-clause-ascends g c =
    let is : c.remove.new.self.items ≡ without_key g.K.Ord.cmp c.args.key.now c.args.keys.now.items = search rules in
    rw is (ascending-cleared g.met.K.Ord.total c.args.key.now c.args.keys.now.items c.requires)
