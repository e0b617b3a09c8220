use Rattle.port_needs.proofs.FullLemmas.{full_is_large}
use Rattle.port_needs.proofs.laws.a_ledger_that_booked_all_is_large_enough.Goals as goal

pub returns : goal.returns
returns c plan wishes p link book rules full =
    full_is_large plan wishes p link book rules full (c.bookings_are_within_caps.ensures.class_a book full.kept)
    (c.bookings_are_within_caps.ensures.both book full.kept)
