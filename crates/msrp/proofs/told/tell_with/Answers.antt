use Rattle.std.proofs.Common.{◌+◌, ap, sym, ◌∙◌, arith}
use Rattle.attribute_propagation.specs.Ports.{keys_in, marked_everywhere}
use Rattle.msrp.specs.{key_cmp}
use Rattle.msrp.proofs.{InPlace.fewer, Marking.keys_none, Marking.keys_some, Marking.none_marked}
use Rattle.msrp.proofs.told.tell_with.Goals as goal

pub returns-in-Some-clause-keys : goal.returns-in-Some-clause-keys
returns-in-Some-clause-keys c =
    c.tell_both.ensures.keys
    ∙ ap (λ ks. marked_everywhere key_cmp ks (keys_in c.args.sets.now.items)) (sym (keys_some c.args.key c.in-Some.stream (sym c.stream_in.ensures ∙ c.in-Some.is)))

pub returns-in-None-clause-keys : goal.returns-in-None-clause-keys
returns-in-None-clause-keys c =
    sym (none_marked (keys_in c.args.sets.now.items))
    ∙ ap (λ ks. marked_everywhere key_cmp ks (keys_in c.args.sets.now.items)) (sym (keys_none c.args.key (sym c.stream_in.ensures ∙ c.in-None.is)))

pub returns-in-None-clause-room : goal.returns-in-None-clause-room
returns-in-None-clause-room c = λ n room. fewer n (2 + n) c.args.sets.now.items (omega arith) room
