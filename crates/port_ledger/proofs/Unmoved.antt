-- A stream whose booking isn't among what changed is booked as before, or not booked as before.
use Rattle.std.proofs.Common.{◌≡◌, Bool, true, false, not, ◌&&◌, ◌==◌, if◌then◌else◌, List, [], ◌∷◌, map, refl, ap, arith}
use Rattle.std.specs.Prelude.{filter, is_some}
use Rattle.std.specs.List.{list_any}
use Rattle.std.proofs.lemmas.{Bool.or_parts, Bool.Decides.nat_tests}
use Rattle.srp_base.specs.declared.numbers.StreamId.{StreamId}
use Rattle.stream_importance.specs.declared.entry.Entry.{Entry}
use Rattle.port_ledger.specs.{is_booked, stream_of, IsAscending, booked_only_in, same_entry, since_of}
use Rattle.port_ledger.proofs.Among.{found_in}

-- whether a stream is among streams
abbrev pub is_among : StreamId → List StreamId → Bool
is_among s streams = list_any (λ (x : StreamId). x.0 == s.0) streams

-- a booked stream that isn't among those booked in these alone is booked in those
still_booked : (these those : List Entry) (s : StreamId) → IsAscending those → is_among s (booked_only_in these those) ≡ false → is_some (since_of these s) ≡ true → is_some (since_of those s) ≡ true
still_booked [] those s up out h = cc
still_booked (x ∷ xs) those s up out h = by (stream_of x == s.0) refl (is_booked x) refl (list_any (same_entry x) those) refl out h (still_booked xs those s up)
  where
    by : (a : Bool) → (stream_of x == s.0) ≡ a → (b : Bool) → is_booked x ≡ b → (c : Bool) → list_any (same_entry x) those ≡ c
        → is_among s (map (λ (y : Entry). y.want.stream)
        (if is_booked x && not (list_any (same_entry x) those) then x ∷ filter (λ y. is_booked y && not (list_any (same_entry y) those)) xs else filter
        (λ y. is_booked y && not (list_any (same_entry y) those)) xs)) ≡ false
        → is_some (since_of (x ∷ xs) s) ≡ true
        → (is_among s (booked_only_in xs those) ≡ false → is_some (since_of xs s) ≡ true → is_some (since_of those s) ≡ true) → is_some (since_of those s) ≡ true
    by true e true f true g out h rest =
        let same : s ≡ x.want.stream = let n : s.0 ≡ x.want.stream.0 = grind (arith, nat_tests, e) in ap (λ m. record { 0 = m }) n in
        let there = found_in x those up g in
        rw (same, there) f
    by true e true f false g out h rest =
        let now = rw (f, g) at out in
        let parts = or_parts (x.want.stream.0 == s.0) (is_among s (booked_only_in xs those)) now in
        let yes : (x.want.stream.0 == s.0) ≡ true = e in
        cc
    by true e false f c g out h rest =
        let now : is_some x.since ≡ true = rw e at h in
        cc
    by false e true f true g out h rest = rest (rw (f, g) at out) (rw e at h)
    by false e true f false g out h rest = rest (or_parts (x.want.stream.0 == s.0) (is_among s (booked_only_in xs those)) (rw (f, g) at out)).1 (rw e at h)
    by false e false f c g out h rest = rest (rw f at out) (rw e at h)

pub unmoved : (before after : List Entry) (s : StreamId) → IsAscending before → IsAscending after → is_among s (booked_only_in after before) ≡ false → is_among s (booked_only_in before after) ≡ false
    → is_some (since_of after s) ≡ is_some (since_of before s)
unmoved before after s up down one two = grind (arith, still_booked)
