use Rattle.std.proofs.Common.{◌≡◌, drop}
use Rattle.std.specs.Prelude.{find}
use Rattle.frame_flow.specs.{is_port}
use Rattle.frame_flow.proofs.setting.FlowSetting.copies_from.Given as goal

abbrev pub invariant-loop-x : goal.invariant-loop-x
invariant-loop-x l = record {
  copies : l.copies.items ≡ l.initial.copies.items;
  later : find (λ x. is_port x.at l.source) (drop l.x-index l.flows) ≡ find (λ x. is_port x.at l.source) l.flows;
}
