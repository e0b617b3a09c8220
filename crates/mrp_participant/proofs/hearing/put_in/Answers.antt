use Rattle.std.proofs.Common.{◌<◌, ◌++◌, length, take, drop, suc, sym, ap, ◌∙◌, subst}
use Rattle.std.specs.{List.cons_option, declared.option.Option.TheVariants.Some}
use Rattle.mrp_participant.specs.{Ascends, key_of, put}
use Rattle.mrp_participant.proofs.hearing.put_in.Goals as goal

pub place_near-requires : goal.place_near-requires
place_near-requires g c = subst (Ascends g.K.Ord.cmp key_of) (sym c.as_slice.ensures.value) c.requires.rows

pub exchange_row-requires-clause-within : goal.exchange_row-requires-clause-within
exchange_row-requires-clause-within g c = subst (λ rows. c.in-Ok.at < length rows) c.as_slice.ensures.value c.in-Ok.ensures.row.within

pub exchange_row-requires-clause-tells : goal.exchange_row-requires-clause-tells
exchange_row-requires-clause-tells g c = c.requires.tells

pub returns-in-Ok-clause-rows : goal.returns-in-Ok-clause-rows
returns-in-Ok-clause-rows g c =
    c.exchange_row.ensures.rows
    ∙ ap (λ rows. take c.in-Ok.at rows ++ cons_option (Some c.args.row) (drop (suc c.in-Ok.at) rows)) (sym c.as_slice.ensures.value)
    ∙ sym (c.in-Ok.ensures.row.replaced (Some c.args.row))
    ∙ ap (put g.K.Ord.cmp c.args.row.key (Some c.args.row)) c.as_slice.ensures.value

pub returns-in-Ok-clause-tells : goal.returns-in-Ok-clause-tells
returns-in-Ok-clause-tells g c = c.exchange_row.ensures.tells
