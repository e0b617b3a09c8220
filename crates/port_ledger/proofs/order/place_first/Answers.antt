use Rattle.std.proofs.Common.{◌≡◌, ℕ, suc, ◌+◌, ◌-◌, ◌++◌, List, get_or, take, drop, false, true, ap, subst, ◌∙◌, arith, sym}
use Rattle.std.specs.List.{swap}
use Rattle.stream_importance.specs.declared.entry.Entry.{Entry}
use Rattle.port_ledger.specs.{comes_after, place_first}
use Rattle.port_ledger.proofs.{Finding.blank, Sinking.sink_done, Sinking.sink_end, Sinking.sink_step}
use Rattle.port_ledger.proofs.order.place_first.Goals as goal

pub returns-then-comes_after : goal.returns-then-comes_after
returns-then-comes_after c =
    let es : List Entry = c.loop-at.entries in
    let at : suc (c.loop-at.at - 1) ≡ c.loop-at.at = omega arith in
    sym (c.loop-at.invariant.1
    ∙ sink_done c.args.now.0 es (c.loop-at.at - 1) blank (omega (arith, c.loop-at.invariant.0))
    (subst (λ (k : ℕ). comes_after c.args.now.0 (get_or es k blank) (get_or es (c.loop-at.at - 1) blank) ≡ true) (sym at) (sym c.comes_after.ensures ∙ c.if-comes_after.true)))

pub loop-at-preserved : goal.loop-at-preserved
loop-at-preserved c =
    let es : List Entry = c.loop-at.entries in
    let i : ℕ = c.loop-at.at - 1 in
    let at : suc i ≡ c.loop-at.at = omega arith in
    let next : suc i ≡ c.loop-at.at + 1 - 1 = omega arith in
    let swapped : swap es i (suc i) ≡ c.swap.new.self = ap (λ k. swap es i k) at ∙ sym c.swap.ensures.after in (
      c.swap.ensures.len ∙ c.loop-at.invariant.0,
      c.loop-at.invariant.1
          ∙ sink_step c.args.now.0 es i blank (omega (arith, c.loop-at.invariant.0))
          (subst (λ (k : ℕ). comes_after c.args.now.0 (get_or es k blank) (get_or es i blank) ≡ false) (sym at) (sym c.comes_after.ensures ∙ c.if-comes_after.false))
          ∙ ap (λ zs. take (suc i) zs ++ place_first c.args.now.0 (drop (suc i) zs)) swapped
          ∙ ap (λ k. take k c.swap.new.self ++ place_first c.args.now.0 (drop k c.swap.new.self)) next,
    )

pub returns : goal.returns
returns c =
    sym (c.loop-at.invariant.1 ∙ sink_end c.args.now.0 c.loop-at.entries (c.loop-at.at - 1) (omega (arith, c.loop-at.invariant.0)))
