use Rattle.std.proofs.Common.{ℕ, List, Vec, Global, ap, sym, subst, ◌∙◌, ◌≡◌, ◌+◌, length, arith}
use Rattle.frame_flow.specs.{NodeCopies, Place, PortFlow, AreKept, ArePorts, AreAt, AreDoneBefore}
use Rattle.frame_flow.proofs.{IncomingLemmas.step-kept, LevelLemmas.places-are, LevelLemmas.step-done, LevelLemmas.step-skip, LevelLemmas.done-node, setting.FlowSetting.add_node.Goals.then-is_of+in_ok-kept+in_ok-put_flow, setting.FlowSetting.add_node.Goals.else-is_of}
use Rattle.frame_flow.proofs.setting.FlowSetting.add_node.Goals as goal

pub has_fellow-is_shared-requires-clause-port : goal.has_fellow-is_shared-requires-clause-port
has_fellow-is_shared-requires-clause-port c =
    let s = c.args.self.now in
    subst (λ (t : List Place). ArePorts s.tree t) (sym c.requires.places) (places-are s.tree s.rates c.keeps.ensures.ports) c.loop-k.k _ c.loop-k-test.true

pub copies_for-requires-clause-port : goal.copies_for-requires-clause-port
copies_for-requires-clause-port c =
    let s = c.args.self.now in
    subst (λ (t : List Place). ArePorts s.tree t) (sym c.requires.places) (places-are s.tree s.rates c.keeps.ensures.ports) c.loop-k.k _ c.loop-k-test.true

pub loop-k-preserved : goal.loop-k-preserved
loop-k-preserved c =
    let s = c.args.self.now in
    let places = c.args.places.now in
    let to : Vec PortFlow Global → List PortFlow = λ v. v.items in
    let Kept : List PortFlow → NodeCopies → Type 0 = λ fs t. AreKept s c.args.level fs t.at t.copies.items in
    elim c.if-is_of.branch [
      | then-is_of+in_ok-kept+in_ok-put_flow w ↦ (
          let made = ap to w.flows-is ∙ w.in_ok-put_flow.ensures in
          let both = step-done s c.keeps.ensures.ports places c.args.levels.now c.loop-k.flows.items c.if-is_of.flows.items c.args.level c.args.node c.loop-k.k _
          c.requires.places c.requires.levels c.loop-k.invariant.at c.loop-k-test.true (c.is_of.ensures.is w.if-is_of.true).0 made c.loop-k.invariant.done in
          let kept = step-kept s places c.args.levels.now c.loop-k.flows.items c.if-is_of.flows.items c.args.level c.loop-k.k _ w.in_ok-kept.kept.at w.in_ok-kept.kept.copies.items
          c.requires.levels c.loop-k.invariant.at c.loop-k-test.true (c.is_of.ensures.is w.if-is_of.true).0 made
          (subst (λ (t : List PortFlow). Kept t w.in_ok-kept.kept) w.deref.ensures.value w.in_ok-kept.ensures.kept) in
          record { at = both.0; done = both.1; kept = subst (λ (t : NodeCopies). Kept c.if-is_of.flows.items t) (sym w.kept-is) kept })
      | else-is_of w ↦ (
          let same = sym (ap to w.flows-is) in
          let skipped = step-skip s places c.args.levels.now c.loop-k.flows.items c.args.level c.args.node c.loop-k.k _ c.requires.levels c.loop-k-test.true
          (c.is_of.ensures.other w.if-is_of.false) c.loop-k.invariant.done in
          record {
            at = subst (λ (t : List PortFlow). AreAt places t) same c.loop-k.invariant.at;
            done = subst (λ (t : List PortFlow). AreDoneBefore s c.args.level c.args.node (c.loop-k.k + 1) places t) same skipped;
            kept = subst (λ (t : List PortFlow). Kept t c.if-is_of.kept) same (subst (λ (t : NodeCopies). Kept c.loop-k.flows.items t) (sym w.kept-is) c.loop-k.invariant.kept);
          })
    ]

pub returns-clause-done : goal.returns-clause-done
returns-clause-done c =
    let s = c.args.self.now in
    let places = c.args.places.now in
    let all : c.loop-k.k ≡ length places = omega arith in
    done-node s places c.loop-k.flows.items c.args.level c.args.node
    (subst (λ (k : ℕ). AreDoneBefore s c.args.level c.args.node k places c.loop-k.flows.items) all c.loop-k.invariant.done)
