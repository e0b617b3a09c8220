use Rattle.std.proofs.Common.{refl, ap, sym, ◌∙◌, ◌+◌, subst, drop}
use Rattle.std.proofs.lemmas.List.{drop_all}
use Rattle.std.specs.{List.AllByRecursion, declared.option.Option.TheVariants.Some}
use Rattle.std.specs.Prelude.{IsSome}
use Rattle.mrp_participant.specs.{Ascends, key_of, find, put, put_over, Tells}
use Rattle.mrp_participant.proofs.{Lookups.fold-step, Hearings.each-at_drop, Hearings.Ascends-put_row, Hearings.known-put}
use Rattle.mrp_participant.proofs.hearing.put_known.Goals as goal

pub put_in-near-requires-clause-rows : goal.put_in-near-requires-clause-rows
put_in-near-requires-clause-rows g c = c.loop-row.invariant.ascends

pub put_in-near-requires-clause-known : goal.put_in-near-requires-clause-known
put_in-near-requires-clause-known g c = (each-at_drop _ c.args.heard.now _ _ c.loop-row-test.true c.row-item.is c.loop-row.invariant.known).0

pub loop-row-preserved : goal.loop-row-preserved
loop-row-preserved g c =
    record {
      put =
          fold-step (λ rows u. put g.K.Ord.cmp u.key (Some u) rows) _ _ _ _ _ c.loop-row-test.true c.row-item.is c.loop-row.invariant.put
          ∙ ap (λ rows. put_over g.K.Ord.cmp (drop (c.loop-row.row-index + 1) c.args.heard.now) rows) (sym c.put_in-near.ensures.rows);
      ascends = subst (Ascends g.K.Ord.cmp key_of) (sym c.put_in-near.ensures.rows) (Ascends-put_row g.met.K.Ord.total _ _ c.loop-row.invariant.ascends);
      known =
          subst (λ rows. AllByRecursion (λ u. IsSome (find g.K.Ord.cmp u.key rows))
          (drop (c.loop-row.row-index + 1) c.args.heard.now)) (sym c.put_in-near.ensures.rows)
          (known-put g.met.K.Ord.total _ _ _ c.loop-row.invariant.ascends
          (each-at_drop _ c.args.heard.now _ _ c.loop-row-test.true c.row-item.is c.loop-row.invariant.known).1);
      tells = c.put_in-near.ensures.tells;
    }

pub loop-row-init : goal.loop-row-init
loop-row-init g c = record { put = refl; ascends = c.requires.rows; known = c.requires.known; tells = c.requires.outlook.0 }

pub offset_bounds-heard-row-index : goal.offset_bounds-heard-row-index
offset_bounds-heard-row-index g c = c.loop-row.auto.row-index-end

pub put_in-near-requires-clause-tells : goal.put_in-near-requires-clause-tells
put_in-near-requires-clause-tells g c = c.loop-row.invariant.tells

pub or_anew-requires : goal.or_anew-requires
or_anew-requires g c = subst (Tells c.loop-row.outlook) (sym c.as_slice.ensures.value) c.loop-row.invariant.tells

pub returns-clause-rows : goal.returns-clause-rows
returns-clause-rows g c = sym (c.loop-row.invariant.put
    ∙ ap (λ over. put_over g.K.Ord.cmp over c.loop-row.rows.items)
    (drop_all _ c.args.heard.now c.loop-row-test.false))
