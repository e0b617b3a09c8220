-- How the code finds which rows are taken: as those before the first row for which there is no
-- room. That it is the test of `Sending` is proved, and no public contract names this file.
use Rattle.std.specs.Prelude.{ℕ, ◌+◌, Bool, true, ◌&&◌, ◌||◌, if◌then◌else◌, nat_le, nat_lt, ◌==◌, List, [], ◌∷◌}
use Rattle.std.specs.{declared.option.Option.Option, declared.option.Option.TheVariants.None, declared.option.Option.TheVariants.Some, declared.cmp.Ordering.Ordering, Ordering.is_lt}
use Rattle.mrp_participant.specs.declared.{row.Row.Row, sending_limit.SendingLimit.SendingLimit}
use Rattle.mrp_participant.specs.Sending.{round, is_tried}

-- the place of a row in the order: its round, and its key
abbrev pub limit_at : {K C : Type 0} → Bool → Row K C → SendingLimit K
limit_at leave_all r = record { round = round leave_all r.applicant; key = r.key }

-- whether a row is tried before a place in the order
abbrev pub is_ahead : {K C : Type 0} → (K → K → Ordering) → Bool → SendingLimit K → Row K C → Bool
is_ahead cmp leave_all limit r =
    nat_lt (round leave_all r.applicant) limit.round || (round leave_all r.applicant == limit.round && is_lt (cmp r.key limit.key))

-- whether a row is tried before the first one that finds no room, if there is one
abbrev pub is_before : {K C : Type 0} → (K → K → Ordering) → Bool → Option (SendingLimit K) → Row K C → Bool
is_before cmp leave_all None r = true
is_before cmp leave_all (Some limit) r = is_ahead cmp leave_all limit r

-- whether a row is tried, and before that one
abbrev pub is_in_room : {K C : Type 0} → (K → K → Ordering) → Bool → Option (SendingLimit K) → Row K C → Bool
is_in_room cmp leave_all limit r = is_tried leave_all r && is_before cmp leave_all limit r

-- the place of the first row of an order that finds no room, where so many octets are used before
-- it
abbrev pub first_limit : {K C : Type 0} → Bool → (C → ℕ) → ℕ → List (Row K C) → Option (SendingLimit K)
first_limit leave_all octets used [] = None
first_limit leave_all octets used (r ∷ rows) =
    if nat_le (used + octets r.content) 1500 then first_limit leave_all octets (used + octets r.content) rows else Some (limit_at leave_all r)
