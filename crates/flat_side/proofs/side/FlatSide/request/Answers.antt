use Rattle.std.proofs.Common.{◌≡◌, ◌∙◌, true, false, refl, sym}
use Rattle.srp_base.proofs.Arithmetic.{both_err}
use Rattle.flat_side.specs.{FlatState, requested_flat, flat_of}
use Rattle.flat_side.proofs.Changing.{asked_is, both_ok, kept_either, same_flat}
use Rattle.flat_side.proofs.side.FlatSide.request.Goals as goal

pub invariant_of-self : goal.invariant_of-self
invariant_of-self g c =
    let before : FlatState g.row.A-Key.Denot = flat_of c.self.inside.parts.items c.self.inside.awaiting.items c.self.inside.own.keys in (
      kept_either g.A.Key.Ord.cmp c.ask.result before _ (requested_flat g.A.Key.Ord.cmp c.args.key c.args.declared before) c.self.invariant.0
          (c.every_call_keeps_a_side.ensures.request c.args.key c.args.declared before c.self.invariant.0)
          (both_ok c.ask.result (λ sets own. asked_is g.A.Key.Ord.cmp c.args.key c.args.declared c.awaits.result before _ _ c.awaits.ensures
          (λ e. let no : true ≡ false = sym (c.agree.ensures.only e) ∙ c.if-agree.false in cc) own sets) c.ask.ensures.sets c.ask.ensures.own)
          (both_err c.ask.result (λ sets own. same_flat _ _ _ _ _ _ refl sets own) c.ask.ensures.same_sets c.ask.ensures.same_own),
      tt,
    )
