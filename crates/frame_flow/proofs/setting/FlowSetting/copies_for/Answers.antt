use Rattle.std.proofs.Common.{inl, inr, subst, ap, arith}
use Rattle.std.proofs.lemmas.Bool.{cases_Bool}
use Rattle.srp_base.specs.declared.{numbers.NodeNo.NodeNo, numbers.PortNo.PortNo}
use Rattle.frame_flow.specs.{AreSourcesBelow}
use Rattle.frame_flow.proofs.setting.FlowSetting.copies_for.Goals as goal

pub returns-clause-kept : goal.returns-clause-kept
returns-clause-kept c =
    let B : NodeNo → Type 0 = λ x. AreSourcesBelow c.args.self.now.tree c.args.level x.0 in
    record {
      frames = c.in_ok-copies.ensures.frames;
      below = λ all. subst B c.of_port-at.ensures.served.0 (elim (cases_Bool c.args.is_shared) [
        | inl is ↦ c.requires.shared is
        | inr nay ↦ absurd (omega (arith, all, c.requires.port.1, ap (λ (k : PortNo). k.0) (c.of_port-at.ensures.own nay)))
      ]);
      serve = λ all. c.in_ok-copies.ensures.serve;
    }
