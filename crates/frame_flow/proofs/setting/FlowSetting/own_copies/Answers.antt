use Rattle.std.proofs.Common.{◌∙◌, ◌++◌, List, Bor, length, ap, sym, subst, map, arith}
use Rattle.std.specs.Prelude.{filter_map}
use Rattle.std.proofs.lemmas.List.{take_all}
use Rattle.srp_base.proofs.Lists.{map-map as map-twice}
use Rattle.frame_flow.specs.{Frame, Reached, incoming_of, Setting, AreByNode}
use Rattle.frame_flow.proofs.{ListFacts.grown, ListFacts.mapped-more, CopyLemmas.own-are}
use Rattle.frame_flow.proofs.setting.FlowSetting.own_copies.Goals as goal

pub at-f-items-requires : goal.at-f-items-requires
at-f-items-requires c =
    let P : Setting → Type 0 = λ t. AreByNode (length t.tree.kinds) t.frames c.self.inside.own in
    omega (arith, (subst P c.self.view_is c.self.invariant.1).size, c.requires.1)

pub loop-f-preserved : goal.loop-f-preserved
loop-f-preserved c =
    grown _ _ _ _ _ _ c.loop-f.invariant c.in_ok-add_own.ensures
    (mapped-more (incoming_of c.args.self.now.ticks c.args.at.rate 0)
    (λ (f : Bor Frame). record { frame = f.now; moment = f.now.at.0 }) c.at-f-items.result.now c.loop-f.f-index _ c.loop-f-test.true)

pub returns : goal.returns
returns c =
    let s = c.args.self.now in
    let P : Setting → Type 0 = λ t. AreByNode (length t.tree.kinds) t.frames c.self.inside.own in
    let now : Bor Frame → Frame = λ f. f.now in
    let to : Frame → Reached = λ f. record { frame = f; moment = f.at.0 } in
    let items = c.at-f-items.result.now in
    let own = own-are s c.self.inside.own c.args.at.node (map now items) (subst P c.self.view_is c.self.invariant.1) c.requires c.at-f-items.ensures in
    let add = λ (t : List Reached). c.args.copies.now.items ++ filter_map (incoming_of s.ticks c.args.at.rate 0) t in
    c.loop-f.invariant ∙ ap (λ (t : List (Bor Frame)). add (map (λ f. to f.now) t)) (take_all _ items c.loop-f-test.false)
    ∙ sym (ap add (map-twice to now items)) ∙ ap (λ (t : List Frame). add (map to t)) own
