use Rattle.std.proofs.Common.{◌≡◌, ℕ, ◌+◌, sym, ap, ◌∙◌, arith}
use Rattle.srp_base.specs.declared.mrp.MrpEvent.{MrpEvent}
use Rattle.mvrp_codec.proofs.StreakLemmas.{streak_breaks_off, streak_ends, streak_goes_on, vids_more}
use Rattle.mvrp_codec.proofs.writing.streak_len.Goals as goal

pub more-preserved : goal.more-preserved
more-preserved c =
    let x = c.index-events-at.result in
    let y = c.index-events-at-in-more.result in
    let this : c.get-this.result ≡ x.1 = c.get-this.ensures.value ∙ ap (λ (p : MrpEvent × ℕ). p.1) (sym c.index-events-at.is) in
    let next : c.get-next.result ≡ y.1 = c.get-next.ensures.value ∙ ap (λ (p : MrpEvent × ℕ). p.1) (sym c.index-events-at-in-more.is) in
    let same : c.get-this.result + 1 ≡ c.get-next.result = c.if-this-next.false in
    let range = c.get-this.ensures.in_range in (
      omega arith,
      streak_goes_on c.args.events.now c.more.at _ x y (omega arith) c.index-events-at.is c.index-events-at-in-more.is (omega (arith, this, next, same)) c.more.invariant.1,
      vids_more c.args.events.now c.more.at x c.more.invariant.0 c.index-events-at.is (omega (arith, this, range.0), omega (arith, this, range.1)) c.more.invariant.2,
    )

pub returns-then-at-events-clause-len : goal.returns-then-at-events-clause-len
returns-then-at-events-clause-len c =
    streak_ends c.args.events.now c.more.at _ c.index-events-at.result (omega arith) c.index-events-at.is c.more.invariant.1

pub returns-then-at-events-clause-vids : goal.returns-then-at-events-clause-vids
returns-then-at-events-clause-vids c =
    let this : c.get-this.result ≡ c.index-events-at.result.1 = c.get-this.ensures.value ∙ ap (λ (p : MrpEvent × ℕ). p.1) (sym c.index-events-at.is) in
    let range = c.get-this.ensures.in_range in
    vids_more c.args.events.now c.more.at c.index-events-at.result c.more.invariant.0 c.index-events-at.is (omega (arith, this, range.0), omega (arith, this, range.1)) c.more.invariant.2

pub returns-then-this-next-clause-len : goal.returns-then-this-next-clause-len
returns-then-this-next-clause-len c =
    let x = c.index-events-at.result in
    let y = c.index-events-at-in-more.result in
    let this : c.get-this.result ≡ x.1 = c.get-this.ensures.value ∙ ap (λ (p : MrpEvent × ℕ). p.1) (sym c.index-events-at.is) in
    let next : c.get-next.result ≡ y.1 = c.get-next.ensures.value ∙ ap (λ (p : MrpEvent × ℕ). p.1) (sym c.index-events-at-in-more.is) in
    streak_breaks_off c.args.events.now c.more.at _ x y (omega arith) c.index-events-at.is c.index-events-at-in-more.is (λ e. c.if-this-next.true (omega (arith, this, next, e))) c.more.invariant.1

pub returns-then-this-next-clause-vids : goal.returns-then-this-next-clause-vids
returns-then-this-next-clause-vids c =
    let this : c.get-this.result ≡ c.index-events-at.result.1 = c.get-this.ensures.value ∙ ap (λ (p : MrpEvent × ℕ). p.1) (sym c.index-events-at.is) in
    let range = c.get-this.ensures.in_range in
    vids_more c.args.events.now c.more.at c.index-events-at.result c.more.invariant.0 c.index-events-at.is (omega (arith, this, range.0), omega (arith, this, range.1)) c.more.invariant.2
