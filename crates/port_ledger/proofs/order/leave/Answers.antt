use Rattle.std.proofs.Common.{◌≡◌, Some, None, refl, drop, ap, sym, ◌==◌, ◌∙◌, true≢false}
use Rattle.std.specs.Prelude.{position}
use Rattle.port_ledger.specs.{stream_of}
use Rattle.port_ledger.proofs.TakingOut.{nowhere-none, without_behind, without_nowhere}
use Rattle.port_ledger.proofs.order.leave.Goals as goal

pub returns-in-Some-clause-items : goal.returns-in-Some-clause-items
returns-in-Some-clause-items c =
    let at : position (λ x. stream_of x == c.args.stream.0) (drop c.args.at c.args.order.now.items) ≡ Some c.in-Some.place =
    ap (position (λ x. stream_of x == c.args.stream.0)) (sym (c.behind.ensures ∙ ap (drop c.args.at) c.deref.ensures.value)) ∙ (sym c.position_of.ensures ∙ c.in-Some.is) in
    c.remove.ensures.items ∙ without_behind c.args.at _ c.in-Some.place c.args.order.now.items c.args.stream refl c.requires.place c.requires.different at

pub returns-in_default-clause-items : goal.returns-in_default-clause-items
returns-in_default-clause-items c =
    let at : position (λ x. stream_of x == c.args.stream.0) (drop c.args.at c.args.order.now.items) ≡ None =
    ap (position (λ x. stream_of x == c.args.stream.0)) (sym (c.behind.ensures ∙ ap (drop c.args.at) c.deref.ensures.value)) ∙ (sym c.position_of.ensures ∙ c.in_default.is) in
    without_nowhere c.args.at c.args.order.now.items c.args.stream at

pub returns-in_default-clause-gone : goal.returns-in_default-clause-gone
returns-in_default-clause-gone c = λ some.
    let at : position (λ x. stream_of x == c.args.stream.0) (drop c.args.at c.args.order.now.items) ≡ None =
    ap (position (λ x. stream_of x == c.args.stream.0)) (sym (c.behind.ensures ∙ ap (drop c.args.at) c.deref.ensures.value)) ∙ (sym c.position_of.ensures ∙ c.in_default.is) in
    absurd (true≢false (sym some ∙ nowhere-none (drop c.args.at c.args.order.now.items) c.args.stream at))
