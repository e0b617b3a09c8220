use Rattle.std.proofs.Common.{◌≡◌, ◌++◌, drop, map}
use Rattle.std.specs.Prelude.{filter, is_some}
use Rattle.mrp_participant.specs.{Lookup.key_of, State.registered_at}
use Rattle.msrp.specs.{key_cmp, registered_keys}
use Rattle.msrp.proofs.told.push_registered.Given as goal

-- what was put there, with those of the rows that are left, is all
abbrev pub invariant-loop-place : goal.invariant-loop-place
invariant-loop-place l =
    l.out.items ++ filter (λ key. is_some (registered_at key_cmp key l.part.state)) (drop l.place (map key_of l.part.state.rows))
    ≡ l.fn.out.items ++ registered_keys l.part.state
