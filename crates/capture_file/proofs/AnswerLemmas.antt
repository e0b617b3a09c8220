-- What `read_capture` answers, from what is read of the file.
use Rattle.std.specs.Prelude.{IfSome, option_map}
use Rattle.std.proofs.Common.{Vec, Global, ◌≡◌, ℕ, ◌-◌, List, length, Option, Some, None, Result, Ok, Err, sym, ap, subst, ◌∙◌}
use Rattle.capture_file.specs.{Capture, Record, CaptureErr, Packet, packets_in, capture_in, magic_of, Spells, BreaksAt, HasOtherLink, Outcome, IsReading, read_as, placed_in, reading, cause_told}
use Rattle.capture_file.specs.declared.error.CaptureErr.TheVariants as errors
use Rattle.capture_file.proofs.Holds.{reading_holds}

pub placed_ok : (octets : List ℕ) (packets : List Packet) (left : Option ℕ) → read_as (magic_of octets) octets ≡ Ok (packets, left)
    → reading octets ≡ Ok (packets, option_map (λ n. length octets - n) left)
unfolding reading
placed_ok octets packets left e = ap (placed_in (length octets)) e

pub placed_err : (octets : List ℕ) (e : CaptureErr) → IfSome (cause_told e) (λ f. read_as (magic_of octets) octets ≡ Err f) → IfSome (cause_told e) (λ f. reading octets ≡ Err f)
unfolding reading
placed_err octets errors.NoMemory h = tt
placed_err octets errors.NotCapture h = ap (placed_in (length octets)) h
placed_err octets (errors.OtherLink number) h = ap (placed_in (length octets)) h

-- what was read holds
held : (octets : List ℕ) (outcome : Outcome) → reading octets ≡ outcome → IsReading octets outcome
held octets outcome e = subst (λ (o : Outcome). IsReading octets o) e (reading_holds octets)

pub reads : (octets : List ℕ) (capture : Capture) → reading octets ≡ Ok (capture_in capture) → capture.broken ≡ None → Spells octets (packets_in capture.records.items)
reads octets capture e whole =
    held octets (Ok (packets_in capture.records.items, None)) (e ∙ ap (λ (b : Option ℕ). let r : Outcome = Ok (packets_in capture.records.items, b) in r) whole)

pub breaks : (octets : List ℕ) (capture : Capture) (place : ℕ) → reading octets ≡ Ok (capture_in capture) → capture.broken ≡ Some place → BreaksAt octets (packets_in capture.records.items) place
breaks octets capture place e at =
    held octets (Ok (packets_in capture.records.items, Some place)) (e ∙ ap (λ (b : Option ℕ). let r : Outcome = Ok (packets_in capture.records.items, b) in r) at)

pub no_capture : (octets : List ℕ) (e : CaptureErr) → IfSome (cause_told e) (λ f. reading octets ≡ Err f) → e ≡ errors.NotCapture → magic_of octets ≡ None
no_capture octets errors.NotCapture h is = held octets (Err errors.NotCapture) h
no_capture octets (errors.OtherLink number) h is = absurd cc
no_capture octets errors.NoMemory h is = absurd cc

pub other_link : (octets : List ℕ) (e : CaptureErr) (number : ℕ) → IfSome (cause_told e) (λ f. reading octets ≡ Err f) → e ≡ errors.OtherLink number → HasOtherLink octets number
other_link octets errors.NotCapture number h is = absurd cc
other_link octets (errors.OtherLink n) number h is =
    let same : n ≡ number = cc in
    subst (λ (k : ℕ). HasOtherLink octets k) same (held octets (Err (errors.OtherLink n)) h)
other_link octets errors.NoMemory number h is = absurd cc

-- the capture that is made of what was read of the file
pub capture_read : (octets : List ℕ) (records : Vec Record Global) (left broken : Option ℕ) (capture : Capture) → read_as (magic_of octets) octets ≡ Ok (packets_in records.items, left)
    → broken ≡ option_map (λ n. length octets - n) left → ◌≡◌ {A = Result Capture CaptureErr} (Ok (record { records = records; broken = broken })) (Ok capture)
    → reading octets ≡ Ok (capture_in capture)
capture_read octets records left broken capture e placed is =
    let made : Capture = record { records = records; broken = broken } in
    let same : made ≡ capture = cc in
    placed_ok octets (packets_in records.items) left e
    ∙ ap (λ (b : Option ℕ). let r : Outcome = Ok (packets_in records.items, b) in r) (sym placed)
    ∙ ap (λ (c : Capture). let r : Outcome = Ok (capture_in c) in r) same
