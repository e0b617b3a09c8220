use Rattle.std.proofs.Common.{◌≡◌, ◌∷◌, [], ◌++◌, List, refl, sym, ap, ◌∙◌, subst, arith}
use Rattle.std.proofs.lemmas.List.{map-append}
use Rattle.srp_base.proofs.Lists.{no_more as no_items}
use Rattle.node_core.specs.Holding.{NodeHolding}
use Rattle.world_core.specs.declared.journal.NodeSteps.{NodeSteps}
use Rattle.world_core.specs.{Marks.MarksState, OneByOne.steps_before}
use Rattle.port_worker.specs.declared.node.Worked.{Worked}
use Rattle.port_worker.specs.{marks_by, CanFollow, marks_made, nodes_of, steps_made}
use Rattle.port_worker.proofs.{Lists.rest_less, Lists.rest_none, NumberedLemmas.steps_more, NumberedLemmas.marks_more}
use Rattle.port_worker.proofs.gather.gather.Goals as goal

pub loop-worked-init : goal.loop-worked-init
loop-worked-init c =
    let rest : c.into_iter-worked-iterator.result.rest.items ≡ c.args.all.items = c.into_iter-worked-iterator.ensures.into_iter_gives.0 in (
      c.new-nodes.ensures.items,
      c.new-made.ensures.items,
      refl,
      subst (λ (ws : List Worked). CanFollow ws c.args.marks.now) (sym {A = List Worked} rest) c.requires,
      rest,
    )

pub add-requires : goal.add-requires
add-requires c =
    let first : c.loop-worked.worked-iterator.rest.items ≡ c.in-Some.worked ∷ c.next.new.self.rest.items = c.in-Some.ensures.steps.0 in
    (subst (λ (ws : List Worked). CanFollow ws c.loop-worked.marks) first c.loop-worked.invariant.3).0

pub loop-worked-preserved : goal.loop-worked-preserved
loop-worked-preserved c =
    let worked : Worked = c.in-Some.worked in
    let next = c.next.new.self.rest.items in
    let first : c.loop-worked.worked-iterator.rest.items ≡ worked ∷ next = c.in-Some.ensures.steps.0 in
    let so_far = c.loop-worked.invariant in
    let can = subst (λ (ws : List Worked). CanFollow ws c.loop-worked.marks) first so_far.3 in
    let added = c.in_ok-add.ensures in (
      added.nodes ∙ (ap (λ (ns : List NodeHolding). ns ++ worked.node ∷ []) so_far.0 ∙ sym (map-append (λ (w : Worked). w.node) c.loop-worked.yielded (worked ∷ []))),
      added.steps ∙ (ap (λ (ss : List NodeSteps). ss ++ steps_before worked.number worked.steps []) so_far.1 ∙ sym (steps_more c.loop-worked.yielded worked)),
      added.marks ∙ (ap (λ (m : MarksState). marks_by worked.number worked.steps worked.notices m) so_far.2 ∙ sym (marks_more c.loop-worked.yielded worked c.args.marks.now)),
      subst (CanFollow next) (sym {A = MarksState} added.marks) can.1,
      rest_less c.loop-worked.yielded c.loop-worked.worked-iterator.rest.items next c.args.all.items worked first so_far.4,
    )

done : {A : Type 0} (f : List Worked → A) (x : A) (ys all : List Worked) → x ≡ f ys → ys ≡ all → x ≡ f all
done f x ys all is same = is ∙ ap f same

pub returns-clause-nodes : goal.returns-clause-nodes
returns-clause-nodes c =
    let none : c.loop-worked.worked-iterator.rest.items ≡ [] = no_items c.loop-worked.worked-iterator.rest.items (omega (arith, c.in-None.ensures.steps.0)) in
    done nodes_of _ c.loop-worked.yielded c.args.all.items c.loop-worked.invariant.0
    (rest_none c.loop-worked.yielded c.loop-worked.worked-iterator.rest.items c.args.all.items none c.loop-worked.invariant.4)

pub returns-clause-steps : goal.returns-clause-steps
returns-clause-steps c =
    let none : c.loop-worked.worked-iterator.rest.items ≡ [] = no_items c.loop-worked.worked-iterator.rest.items (omega (arith, c.in-None.ensures.steps.0)) in
    done steps_made _ c.loop-worked.yielded c.args.all.items c.loop-worked.invariant.1
    (rest_none c.loop-worked.yielded c.loop-worked.worked-iterator.rest.items c.args.all.items none c.loop-worked.invariant.4)

pub returns-clause-marks : goal.returns-clause-marks
returns-clause-marks c =
    let none : c.loop-worked.worked-iterator.rest.items ≡ [] = no_items c.loop-worked.worked-iterator.rest.items (omega (arith, c.in-None.ensures.steps.0)) in
    done (λ (ws : List Worked). marks_made ws c.args.marks.now) _ c.loop-worked.yielded c.args.all.items c.loop-worked.invariant.2
    (rest_none c.loop-worked.yielded c.loop-worked.worked-iterator.rest.items c.args.all.items none c.loop-worked.invariant.4)
