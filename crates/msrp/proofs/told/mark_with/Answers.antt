use Rattle.std.proofs.Common.{ap, sym, ◌∙◌}
use Rattle.attribute_propagation.specs.Dirty.{all_marked}
use Rattle.msrp.specs.{key_cmp}
use Rattle.msrp.proofs.Marking.{keys_none, keys_some}
use Rattle.msrp.proofs.told.mark_with.Goals as goal

pub returns-in-Some-clause-keys : goal.returns-in-Some-clause-keys
returns-in-Some-clause-keys c =
    c.mark_all.ensures.keys
    ∙ (ap (λ ks. all_marked key_cmp ks c.args.set.now.keys) c.as_slice.ensures
    ∙ ap (λ ks. all_marked key_cmp ks c.args.set.now.keys) (sym (keys_some c.args.key c.in-Some.stream (sym c.stream_in.ensures ∙ c.in-Some.is))))

pub returns-in-None-clause-keys : goal.returns-in-None-clause-keys
returns-in-None-clause-keys c = ap (λ ks. all_marked key_cmp ks c.args.set.now.keys) (sym (keys_none c.args.key (sym c.stream_in.ensures ∙ c.in-None.is)))
