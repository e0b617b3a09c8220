use Rattle.std.proofs.Common.{List, sym, subst, ◌≡◌, ◌+◌, length, arith}
use Rattle.frame_flow.specs.{Place, AreAt, AreDoneBefore}
use Rattle.frame_flow.proofs.LevelLemmas.{all-done}
use Rattle.frame_flow.proofs.setting.FlowSetting.flows.Goals as goal

pub add_level-requires-clause-done : goal.add_level-requires-clause-done
add_level-requires-clause-done c =
    subst (λ (t : List Place). AreDoneBefore c.args.self.now c.loop-level.level 0 0 t c.loop-level.flows.items) (sym c.deref-in-loop-level.ensures.value) c.loop-level.invariant.done

pub loop-level-preserved : goal.loop-level-preserved
loop-level-preserved c = record {
  at = subst (λ (t : List Place). AreAt t c.add_level.new.flows.items) c.deref-in-loop-level.ensures.value c.in_ok-add_level.ensures.at;
  done = subst (λ (t : List Place). AreDoneBefore c.args.self.now (c.loop-level.level + 1) 0 0 t c.add_level.new.flows.items) c.deref-in-loop-level.ensures.value c.in_ok-add_level.ensures.done;
}

pub returns : goal.returns
returns c =
    let last : c.loop-level.level ≡ length c.args.self.now.tree.kinds + 1 = omega arith in
    all-done c.args.self.now c.in_ok-places.places.items c.loop-level.flows.items c.loop-level.level c.in_ok-places.ensures.all last
    c.loop-level.invariant.at c.loop-level.invariant.done
