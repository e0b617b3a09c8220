use Rattle.std.proofs.Common.{◌∙◌, refl, sym, subst}
use Rattle.mrp_participant.specs.{Ascends, key_of, AreRows}
use Rattle.mrp_participant.proofs.{Exits.of_error, Exits.on_error, Transitions.AreRows-receive, Hearings.rows-received, Hearings.keys-told}
use Rattle.mrp_participant.proofs.receive.receive_in.Goals as goal

pub hear-requires : goal.hear-requires
hear-requires g c = subst (AreRows g.K.Ord.cmp) (sym c.as_slice-all.ensures.value) c.requires.are_rows

pub changed-requires : goal.changed-requires
changed-requires g c = subst (Ascends g.K.Ord.cmp key_of) (sym c.as_slice-all.ensures.value) c.requires.are_rows.0

pub put_heard-requires-clause-rows : goal.put_heard-requires-clause-rows
put_heard-requires-clause-rows g c = c.requires.are_rows.0

pub put_heard-requires-clause-heard : goal.put_heard-requires-clause-heard
put_heard-requires-clause-heard g c = subst (Ascends g.K.Ord.cmp key_of) (sym c.as_slice-2.ensures.value) c.in_ok-heard.ensures.are_rows.0

pub put_heard-requires-clause-outlook : goal.put_heard-requires-clause-outlook
put_heard-requires-clause-outlook g c = c.requires.outlook

pub returns-in_err-heard : goal.returns-in_err-heard
returns-in_err-heard g c =
    record {
      rows = of_error c.from_residual.result _ _ c.from_residual.ensures.1;
      keys = of_error c.from_residual.result _ _ c.from_residual.ensures.1;
      are_rows = of_error c.from_residual.result _ _ c.from_residual.ensures.1;
      err = on_error c.from_residual.result refl;
      outlook = c.requires.outlook;
    }

pub returns-in_err-keys : goal.returns-in_err-keys
returns-in_err-keys g c =
    record {
      rows = of_error c.from_residual-in_err-keys.result _ _ c.from_residual-in_err-keys.ensures.1;
      keys = of_error c.from_residual-in_err-keys.result _ _ c.from_residual-in_err-keys.ensures.1;
      are_rows = of_error c.from_residual-in_err-keys.result _ _ c.from_residual-in_err-keys.ensures.1;
      err = on_error c.from_residual-in_err-keys.result refl;
      outlook = c.requires.outlook;
    }

pub returns-in_err-put_heard : goal.returns-in_err-put_heard
returns-in_err-put_heard g c =
    record {
      rows = of_error c.from_residual-in_err-put_heard.result _ _ c.from_residual-in_err-put_heard.ensures.1;
      keys = of_error c.from_residual-in_err-put_heard.result _ _ c.from_residual-in_err-put_heard.ensures.1;
      are_rows = of_error c.from_residual-in_err-put_heard.result _ _ c.from_residual-in_err-put_heard.ensures.1;
      err = on_error c.from_residual-in_err-put_heard.result c.in_err-put_heard.ensures.err;
      outlook = c.in_err-put_heard.ensures.outlook;
    }

pub returns-clause-rows : goal.returns-clause-rows
returns-clause-rows g c =
    rows-received g.met.K.Ord.total c.args.leave_all c.args.leave c.args.events.now c.args.rows.now.items _ _ _ c.as_slice-all.ensures.value
    c.as_slice-2.ensures.value c.requires.are_rows c.in_ok-heard.ensures.each_key _ c.in_ok-put_heard.ensures.ascends c.in_ok-put_heard.ensures.each_key

pub returns-clause-are_rows : goal.returns-clause-are_rows
returns-clause-are_rows g c =
    subst (AreRows g.K.Ord.cmp) (sym (returns-clause-rows g c))
    (AreRows-receive g.met.K.Ord.total c.args.leave c.args.leave_all c.args.events.now c.args.rows.now.items c.requires.are_rows)

pub returns-clause-keys : goal.returns-clause-keys
returns-clause-keys g c =
    c.from_vec.ensures
    ∙ keys-told g.met.K.Ord.total c.args.leave_all c.args.leave c.args.events.now c.args.rows.now.items _ _ _ c.as_slice-all.ensures.value c.as_slice.ensures.value
    c.requires.are_rows c.in_ok-heard.ensures.each_key g.C.PartialEq.eq g.met.C.Eq.laws _ _ c.in_ok-heard.ensures.are_rows.0 c.as_slice-all.ensures.value c.in_ok-keys.ensures

pub returns-clause-outlook : goal.returns-clause-outlook
returns-clause-outlook g c = c.in_ok-put_heard.ensures.outlook
