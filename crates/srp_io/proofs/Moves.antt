-- Octets that move from one list to another, a front at a time.
use Rattle.std.proofs.Common.{◌≡◌, ℕ, ◌+◌, ◌<◌, ◌≤◌, min, List, [], ◌++◌, length, take, drop, sym, Option, Result, Ok, Err, arith}
use Rattle.std.proofs.lemmas.List.{drop-drop, nil_from_length, take-append-drop}
use Rattle.std.proofs.Math.Seq.{take-add}
use Rattle.std.specs.Prelude.{OnErr}
use Rattle.std.specs.Io.KnownBytes.{Appends}
use Rattle.std.proofs.KnownBytes.{Appends-trans}

-- a front that was given and what is left are what was there
pub given_octets : (octets : List ℕ) (at n : ℕ) (front : List ℕ) → front ≡ take n (drop at octets)
    → drop at octets ≡ front ++ drop (at + n) octets
given_octets octets at n front e =
    rw (e, ← drop-drop n at octets) (sym (take-append-drop n (drop at octets)))

-- where nothing was given and there was room, nothing is left
pub given_end : (octets : List ℕ) (at n step room : ℕ) → n ≡ min (min step room) (length (drop at octets))
    → 1 ≤ step → n ≡ 0 → 0 < room → drop (at + n) octets ≡ []
given_end octets at n step room count some none has_room =
    let empty : length (drop at octets) ≡ 0 = omega arith in
    rw (none, ← drop-drop 0 at octets) (nil_from_length (drop at octets) empty)

-- a text's front that went out, and the front of its rest
pub taken_more : (a b c : Option (List ℕ)) (text rest : List ℕ) (written count : ℕ) → rest ≡ drop written text
    → Appends a b (take written text) → Appends b c (take count rest) → Appends a c (take (written + count) text)
taken_more a b c text rest written count e p q =
    rw (take-add written count text, ← e) (Appends-trans a b c _ _ p q)

-- what went out of the rest stays within the text
pub within_text : (written count rest all : ℕ) → count ≤ rest → rest + written ≡ all → written + count ≤ all
within_text written count rest all p e = omega arith

-- what holds anyway holds where an error is answered
pub on_err : {X E P : Type 0} (r : Result X E) → P → OnErr r P
on_err (Ok x) p = tt
on_err (Err e) p = p
