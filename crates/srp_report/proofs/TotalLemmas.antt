-- The sums of a summary: one port or one station more.
use Rattle.std.proofs.Common.{◌≡◌, ℕ, ◌+◌, ◌<◌, List, [], ◌∷◌, ◌++◌, length, take, get_or, sym, ap, ◌∙◌, append-nil}
use Rattle.std.specs.Prelude.{◌-◌, ◌^◌, flat_map, sum_by, Some, slice_get}
use Rattle.std.proofs.lemmas.{List.take_more, List.Concat.flat_map-append, List.Sums.sum_by_more, Option.slice_get_within, Option.get_or_from_slice_get}
use Rattle.srp_base.specs.declared.numbers.EgressPort.{EgressPort}
use Rattle.node_core.specs.declared.types.StepReply.{StepReply}
use Rattle.world_core.specs.declared.journal.Tick.{Tick}
use Rattle.report_words.specs.declared.tally.Tally.{Tally}
use Rattle.report_words.specs.Tally.{count_of, with_tally}
use Rattle.report_words.proofs.Counting.{both-counted, stands}
use Rattle.srp_report.specs.{replies_of, octets_sent, is_discarded, tally_of, replies_of_ports}

pub count-more : {X : Type 0} (f : X → ℕ) (xs : List X) (i : ℕ) (d x : X) (before after : ℕ) → i < length xs → x ≡ get_or xs i d
    → before ≡ count_of (sum_by f (take i xs)) → after ≡ count_of (before + f x) → after ≡ count_of (sum_by f (take (i + 1) xs))
count-more f xs i d x before after below item one two =
    two ∙ ap (λ (n : ℕ). count_of (n + f x)) one ∙ stands (2 ^ 64 - 1) (sum_by f (take i xs)) (f x)
    ∙ ap (λ y. count_of (sum_by f (take i xs) + f y)) item
    ∙ ap count_of (sym (sum_by_more f xs i d below))

-- a port more
pub total-more : (ports : List EgressPort) (ticks : List Tick) (i : ℕ) (d p : EgressPort) (before after t : Tally) → i < length ports → p ≡ get_or ports i d
    → before ≡ tally_of (replies_of_ports (take i ports) ticks) → t ≡ tally_of (replies_of p ticks) → after ≡ with_tally before t
    → after ≡ tally_of (replies_of_ports (take (i + 1) ports) ticks)
total-more ports ticks i d p before after t below item one two three =
    let each : EgressPort → List StepReply = λ q. replies_of q ticks in
    let so_far = replies_of_ports (take i ports) ticks in
    three ∙ ap (λ (x : Tally). with_tally x t) one ∙ ap (λ (x : Tally). with_tally (tally_of so_far) x) two
    ∙ both-counted octets_sent is_discarded so_far (replies_of p ticks)
    ∙ ap (λ q. tally_of (so_far ++ replies_of q ticks)) item
    ∙ ap (λ (rs : List StepReply). tally_of rs)
    (ap (λ (rs : List StepReply). so_far ++ rs) (sym (append-nil (each (get_or ports i d))))
    ∙ sym (ap (λ (xs : List EgressPort). flat_map each xs) (take_more ports i d below) ∙ flat_map-append each (take i ports) (get_or ports i d ∷ [])))

-- an element that a list has at a place
pub at-place : {X : Type 0} (xs : List X) (i : ℕ) (x : X) → slice_get xs i ≡ Some x → i < length xs × (x ≡ get_or xs i x)
at-place xs i x at = (slice_get_within xs i x at, sym (get_or_from_slice_get xs i x x at))
