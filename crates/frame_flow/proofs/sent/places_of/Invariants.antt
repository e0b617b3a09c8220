use Rattle.std.proofs.Common.{◌≡◌, ℕ, ◌-◌, drop, length}
use Rattle.std.specs.Prelude.{find, ◌==◌}
use Rattle.frame_flow.specs.{sent_at}
use Rattle.frame_flow.proofs.sent.places_of.Given as goal

-- of the departures gone over so far, from the last on, each is found by its place
abbrev pub invariant-loop-i : goal.invariant-loop-i
invariant-loop-i l =
    (number : ℕ) → find (λ d. d.frame == number) (drop (length l.sent - l.i) l.sent) ≡ sent_at l.least l.sent l.places.items number
