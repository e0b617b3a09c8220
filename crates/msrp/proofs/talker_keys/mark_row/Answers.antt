use Rattle.std.proofs.Common.{◌+◌, length, List, ap, sym, ◌∙◌, arith}
use Rattle.attribute_propagation.specs.Dirty.{all_marked}
use Rattle.msrp_codec.specs.declared.pdu.MsrpKey.{MsrpKey}
use Rattle.msrp.specs.{key_cmp, talker_key_if}
use Rattle.msrp.proofs.Marking.{length_joined, marked_joined, talker_keys_from, talkers_end, talkers_more}
use Rattle.msrp.proofs.talker_keys.mark_row.Goals as goal

pub mark_talker-requires : goal.mark_talker-requires
mark_talker-requires c =
    let later : List MsrpKey = talker_keys_from (c.args.place + 1) c.args.part.now.state in
    let all = talkers_more c.args.part.now.state c.args.place c.in-Some.key c.in-Some.content c.in-Some.ensures.key c.in-Some.ensures.content in
    omega (arith, ap (λ (ks : List MsrpKey). length ks) all, length_joined (talker_key_if c.in-Some.key c.in-Some.content) later, c.requires)

pub returns-in-Some-clause-keys : goal.returns-in-Some-clause-keys
returns-in-Some-clause-keys c =
    let later : List MsrpKey = talker_keys_from (c.args.place + 1) c.args.part.now.state in
    let all = talkers_more c.args.part.now.state c.args.place c.in-Some.key c.in-Some.content c.in-Some.ensures.key c.in-Some.ensures.content in
    ap (all_marked key_cmp later) c.mark_talker.ensures.keys
    ∙ (sym (marked_joined (talker_key_if c.in-Some.key c.in-Some.content) later c.args.set.now.keys) ∙ ap (λ ks. all_marked key_cmp ks c.args.set.now.keys) (sym all))

pub returns-in-Some-clause-spare : goal.returns-in-Some-clause-spare
returns-in-Some-clause-spare c =
    let later : List MsrpKey = talker_keys_from (c.args.place + 1) c.args.part.now.state in
    let all = talkers_more c.args.part.now.state c.args.place c.in-Some.key c.in-Some.content c.in-Some.ensures.key c.in-Some.ensures.content in
    omega (arith, ap (λ (ks : List MsrpKey). length ks) all, length_joined (talker_key_if c.in-Some.key c.in-Some.content) later, c.mark_talker.ensures.spare)

pub returns-in-None-clause-keys : goal.returns-in-None-clause-keys
returns-in-None-clause-keys c =
    ap (λ ks. all_marked key_cmp ks c.args.set.now.keys) (talkers_end c.args.part.now.state c.args.place c.in-None.ensures.key)

pub returns-in-None-clause-spare : goal.returns-in-None-clause-spare
returns-in-None-clause-spare c =
    omega (arith, ap (λ (ks : List MsrpKey). length ks) (talkers_end c.args.part.now.state c.args.place c.in-None.ensures.key))
