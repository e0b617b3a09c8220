-- Facts on passes.
use Rattle.std.proofs.Common.{◌≡◌, ℕ, [], sym, ap, subst, Result, IfOk, OnErr}
use Rattle.turn_lock.specs.{Living, Log, Seated, having_seen, HasCalled, HasLooked, IsPass, seen_by}
use Rattle.turn_lock.specs.Turns.{Turns}

module _ {S Ask Answer E : Type 0} (does : S → Ask → Answer × S) where
  -- after a turn the pass is one again, and has called or looked
  pub pass_after : (start : S) (passes number : ℕ) (ask : Ask) (before after : Seated S Ask Answer) (result : Result Answer E)
      → IsPass start passes number before → Turns does number ask before result after
      → IsPass start passes number after
      × IfOk result (λ answer. HasCalled does start number (seen_by before.0) ask answer (seen_by after.0))
      × OnErr result (HasLooked does start number (seen_by before.0) (seen_by after.0))
  pass_after start passes number ask before after result is turns =
      let known = is.known in
      let turn = turns known is.me_is is.at_rest is.number_is in
      let seen = turn.0 in
      let now : after ≡ (Living (having_seen known seen), []) = turn.1 in
      let first : known.seen ≡ seen_by before.0 = sym (ap (λ (m : Seated S Ask Answer). seen_by m.0) is.me_is) in
      let last : seen ≡ seen_by after.0 = sym (ap (λ (m : Seated S Ask Answer). seen_by m.0) now) in (
        record {
          known = having_seen known seen;
          me_is = now;
          at_rest = is.at_rest;
          start_is = is.start_is;
          passes_are = is.passes_are;
          number_is = is.number_is;
          none_ended = is.none_ended;
          in_range = is.in_range;
        },
        subst (λ (x : S × Log Ask Answer × Log Ask Answer). IfOk result (λ answer. HasCalled does x.0 number x.1 ask answer x.2)) (λ i. (is.start_is i, first i, last i)) turn.2,
        subst (λ (x : S × Log Ask Answer × Log Ask Answer). OnErr result (HasLooked does x.0 number x.1 x.2)) (λ i. (is.start_is i, first i, last i)) turn.3,
      )
