use Rattle.std.proofs.Common.{◌≡◌, ◌<◌, length, map, take, drop, ap, sym, ◌∙◌, arith, length-drop}
use Rattle.mvrp_codec.proofs.StreakLemmas.{octets_alone, octets_end, octets_go_on, vids_join, vids_none}
use Rattle.std.proofs.lemmas.{Bool.eqb-true, List.drop-map, List.length-map, List.take-map}
use Rattle.mvrp_codec.proofs.writing.put_streaks.Goals as goal

pub split_at-requires-in-more : goal.split_at-requires-in-more
split_at-requires-in-more c =
    let same : length c.more.rest_alone.now ≡ length c.more.rest.now = ap length c.more.invariant.2 ∙ length-map c.more.rest.now (λ x. x.0) in
    omega (arith, same, c.streak_len-n.ensures.within)

pub put_streak-requires-clause-alone : goal.put_streak-requires-clause-alone
put_streak-requires-clause-alone c =
    c.split_at-in-more.ensures.front
    ∙ ap (take c.streak_len-n.result) c.more.invariant.2
    ∙ take-map (λ x. x.0) c.streak_len-n.result c.more.rest.now
    ∙ ap (map (λ x. x.0)) (sym c.split_at.ensures.front)

pub more-preserved : goal.more-preserved
more-preserved c =
    let rest = c.more.rest.now in
    let n = c.streak_len-n.result in
    let some : 0 < length rest = omega (arith, c.streak_len-n.ensures.some, c.streak_len-n.ensures.within) in
    rw (c.split_at.ensures.back, c.split_at-in-more.ensures.back) (
      octets_go_on c.more.out.items c.put_streak.new.out.items _ c.more.leave rest n some c.streak_len-n.ensures.len c.more.invariant.0 (rw (← c.split_at.ensures.front) c.in_ok-put_streak.ensures),
      λ later. c.more.invariant.1 (vids_join n rest c.streak_len-n.ensures.vids later),
      ap (λ es. drop n es) c.more.invariant.2 ∙ drop-map (λ x. x.0) n rest,
      omega (arith, c.more.invariant.3, length-drop n c.more.rest_alone.now),
    )

pub returns-in_ok-put_streak-2-clause-vectors : goal.returns-in_ok-put_streak-2-clause-vectors
returns-in_ok-put_streak-2-clause-vectors c = octets_alone c.more.out.items c.put_streak-then-leave.new.out.items _ c.more.leave c.more.rest.now
    (eqb-true (length c.more.rest.now) 0 (sym c.is_empty.ensures ∙ c.more-test.false)) c.if-leave.true c.in_ok-put_streak-2.ensures c.more.invariant.0

pub returns-in_ok-put_streak-2-clause-vids : goal.returns-in_ok-put_streak-2-clause-vids
returns-in_ok-put_streak-2-clause-vids c = vids_none c.more.rest.now c.args.events.now (eqb-true (length c.more.rest.now) 0 (sym c.is_empty.ensures ∙ c.more-test.false)) c.more.invariant.1

pub returns-else-leave-clause-vectors : goal.returns-else-leave-clause-vectors
returns-else-leave-clause-vectors c = octets_end c.more.out.items _ c.more.leave c.more.rest.now
    (eqb-true (length c.more.rest.now) 0 (sym c.is_empty.ensures ∙ c.more-test.false)) c.if-leave.false c.more.invariant.0

pub returns-else-leave-clause-vids : goal.returns-else-leave-clause-vids
returns-else-leave-clause-vids c = vids_none c.more.rest.now c.args.events.now (eqb-true (length c.more.rest.now) 0 (sym c.is_empty.ensures ∙ c.more-test.false)) c.more.invariant.1
