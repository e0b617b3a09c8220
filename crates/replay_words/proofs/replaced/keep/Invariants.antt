use Rattle.std.proofs.Common.{◌≡◌, ◌++◌, drop}
use Rattle.std.specs.Prelude.{filter, not}
use Rattle.replay_words.specs.{is_replaced_by}
use Rattle.replay_words.proofs.replaced.keep.Given as goal

-- the events so far with those that are kept of the ones that are left are all
abbrev pub invariant-loop-event : goal.invariant-loop-event
invariant-loop-event l =
    l.kept.items ++ filter (λ e. not (is_replaced_by l.declared e)) (drop l.event-index l.events)
    ≡ l.initial.kept.items ++ filter (λ e. not (is_replaced_by l.declared e)) l.events
