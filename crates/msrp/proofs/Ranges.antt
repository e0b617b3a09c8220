-- What is kept, stated and declared fits in the fields in which it is sent.
use Rattle.std.proofs.Common.{◌≡◌, ℕ, zero, suc, ◌+◌, ◌-◌, ◌^◌, ◌<◌, Bool, true, false, ◌&&◌, ◌==◌, if◌then◌else◌, List, [], ◌∷◌, map, refl, subst, arith}
use Rattle.std.specs.Prelude.{Option, Some, None, find, filter, is_none, min, nat_lt, position, slice_index_or, option_map, option_and_then, unwrap_or}
use Rattle.std.specs.{Option.option_or, List.AllByRecursion}
use Rattle.std.proofs.Math.Nat.{min-le_right}
use Rattle.std.proofs.lemmas.List.Quantifiers.{position-Some}
use Rattle.srp_base.specs.declared.{bandwidth.Class.Class, bandwidth.Class.TheVariants.A, bandwidth.Class.TheVariants.B, numbers.StreamId.StreamId, streams.Talker.Talker, streams.ListenerKind.ListenerKind, streams.TalkerReg.TalkerReg}
use Rattle.srp_base.specs.declared.streams.TalkerReg.TheVariants.{Absent, Advertise, Failed}
use Rattle.stream_importance.specs.declared.{entry.Fit.Fit, entry.Fit.TheVariants.Fits, entry.Fit.TheVariants.TooLittle, entry.Want.Want, entry.Entry.Entry}
use Rattle.stream_importance.specs.Bandwidth.{cap_of}
use Rattle.port_ledger.specs.{Decision.above, Decision.booked_of, Decision.does_fit, Book.Book, Book.fit_for, Book.is_normal, Book.tested_entry}
use Rattle.msrp_talker.specs.declared.port_config.PortConfig.{PortConfig}
use Rattle.msrp_talker.specs.TalkerOut.{boundary_code, class_of_priority, fit_code, declared_of, delayed_by, refusal_of, talker_in, talker_out}
use Rattle.mrp_participant.specs.State.{registered_at}
use Rattle.msrp_listener.specs.Merging.{listener_out}
use Rattle.msrp_codec.specs.declared.{pdu.MsrpKey.MsrpKey, pdu.MsrpContent.MsrpContent}
use Rattle.msrp_codec.specs.declared.pdu.MsrpKey.TheVariants as keys
use Rattle.msrp_codec.specs.declared.pdu.MsrpContent.TheVariants as contents
use Rattle.msrp_codec.specs.{Content.value_of, FirstValue.IsFailure, FirstValue.IsFirst, FirstValue.IsTalker}
use Rattle.msrp.specs.PortState.{PortState}
use Rattle.msrp.specs.Part.{Part}
use Rattle.msrp.specs.{key_cmp, registered_talker, talker_content, talker_reg_of, domain_content, domain_key, advertise_of, edge_at, fit_at, is_number, is_present, is_talker_port, stated_at, talk_of, other_listeners, talker_at, first_talker, talkers_of, want_of_talker, Streams, IsPort, seen_by, AreOfRange, HasRanges}
use Rattle.msrp.proofs.{Contents.HoldsOfEach, Domains.stated_value, Rules.IsOf, Rules.found_holds, Rules.of_talker, Rules.registered_holds}

-- a content of a key fits
abbrev pub IsWithin : MsrpKey → MsrpContent → Type 0
IsWithin key content = IsFirst (value_of key content)

pub range_row : (s : Part) → HasRanges s → HoldsOfEach IsWithin s
range_row s fit key r h = record { content = fit.declared key r h; heard = fit.registered key r h }

pub range_from : (s : Part) → HoldsOfEach IsWithin s → HasRanges s
range_from s each = record { declared = λ key r h. (each key r h).content; registered = λ key r h. (each key r h).heard }

-- a Talker that is registered or declared fits
abbrev pub IsRegIn : TalkerReg → Type 0
IsRegIn Absent = Unit {0}
IsRegIn (Advertise t) = IsTalker t
IsRegIn (Failed t f) = IsTalker t × IsFailure f

in_content : (s : StreamId) (o : Option MsrpContent) → ((c : MsrpContent) → o ≡ Some c → IsWithin (keys.Talker s) c) → IsRegIn (talker_reg_of o)
in_content s None fit = tt
in_content s (Some (contents.Advertise t)) fit = fit (contents.Advertise t) refl
in_content s (Some (contents.Failed t f)) fit = fit (contents.Failed t f) refl
in_content s (Some (contents.Listener kind)) fit = tt
in_content s (Some (contents.Domain priority vid)) fit = tt

in_own : (talks : List Talker) (s : StreamId) → AllByRecursion IsTalker talks → IsRegIn (advertise_of (talk_of s talks))
in_own [] s all = tt
in_own (t ∷ talks) s all = by (t.stream.0 == s.0) (in_own talks s all.1)
  where
    by : (b : Bool) → IsRegIn (advertise_of (talk_of s talks)) → IsRegIn (advertise_of (if b then Some t else talk_of s talks))
    by true rest = all.0
    by false rest = rest

in_ports : (ports : List PortState) (s : StreamId) → AllByRecursion (λ (p : PortState). HasRanges p.part) ports → AllByRecursion IsRegIn (map (λ (p : PortState). registered_talker s p.part) ports)
in_ports [] s all = tt
in_ports (p ∷ ports) s all =
    (in_content s (registered_at key_cmp (keys.Talker s) p.part) (λ c h. registered_holds IsWithin p.part (range_row p.part all.0) (keys.Talker s) c h), in_ports ports s all.1)

-- what is registered at the Talker's port fits
in_talker : (side : Streams) → AreOfRange side → (s : StreamId) → IsRegIn (first_talker (talkers_of side.talks side.ports s))
in_talker side fit s =
    found_holds IsRegIn tt (talkers_of side.talks side.ports s) (in_own side.talks s fit.talks, in_ports side.ports s fit.parts)

-- ---- the Talker that is declared

later_fits : (latency : ℕ) (t : Talker) → IsTalker t → IsTalker (delayed_by latency t)
later_fits latency t fit =
    record { stream = fit.stream; dest = fit.dest; vid = fit.vid; max_frame = fit.max_frame; frames = fit.frames; priority = fit.priority; latency = within (t.latency + latency) }
  where
    within : (n : ℕ) → min n (2 ^ 32 - 1) < 2 ^ 32
    within n = let least = min-le_right n (2 ^ 32 - 1) in omega (arith, least)

-- a failure code, if there is one, fits
abbrev IsCodeIn : Option ℕ → Type 0
IsCodeIn None = Unit {0}
IsCodeIn (Some code) = code < 2 ^ 8

in_declared : (config : PortConfig) (t : Talker) (o : Option ℕ) → config.bridge.0 < 2 ^ 64 → IsTalker t → IsCodeIn o → IsRegIn (declared_of config t o)
in_declared config t None bridge fit code = fit
in_declared config t (Some n) bridge fit code = (fit, record { bridge = bridge; code = code })

code_of_fit : (more cap : ℕ) (a b : Bool) → IsCodeIn (fit_code (if a then Fits else TooLittle more cap (if b then 6 else 1)))
code_of_fit more cap true b = tt
code_of_fit more cap false true = omega arith
code_of_fit more cap false false = omega arith

code_fits : (now : ℕ) (book : Book) (w : Want) → IsCodeIn (fit_code (fit_for now book w))
code_fits now book w =
    let x : Entry = tested_entry book.entries w in
    let set : List Entry = booked_of book.entries in
    code_of_fit (above now x set) (cap_of book.caps x.want.class) (does_fit now book.caps set x) (is_normal x && does_fit now book.caps (filter is_normal set) x)

code_at : (now : ℕ) (book : Book) (b : Bool) (o : Option Want) → IsCodeIn (fit_code (unwrap_or (if b then None else option_map (fit_for now book) o) Fits))
code_at now book true o = tt
code_at now book false None = tt
code_at now book false (Some w) = code_fits now book w

checked : (o : Option ℕ) (a b : Bool) → IsCodeIn o → IsCodeIn (option_or (if a then Some 13 else if b then Some 14 else None) o)
checked o true b h = omega arith
checked o false true h = omega arith
checked o false false h = h

bounded : (o : Option ℕ) (edge : Bool) → IsCodeIn o → IsCodeIn (option_or (boundary_code edge) o)
bounded o true h = omega arith
bounded o false h = h

refusal_fits : (t : Talker) (edge : Bool) (fit : Fit) → IsCodeIn (fit_code fit) → IsCodeIn (refusal_of t edge fit)
refusal_fits t edge fit h =
    checked (option_or (boundary_code edge) (fit_code fit)) (is_none (class_of_priority t.priority)) (nat_lt 1500 t.max_frame) (bounded (fit_code fit) edge h)

in_out : (reg : TalkerReg) (config : PortConfig) (edge : Bool) (fit : Fit) → config.bridge.0 < 2 ^ 64 → IsRegIn reg → IsCodeIn (fit_code fit) → IsRegIn (talker_out reg config edge fit)
in_out Absent config edge fit bridge reg code = tt
in_out (Failed t f) config edge fit bridge reg code = (later_fits config.latency t reg.0, reg.1)
in_out (Advertise t) config edge fit bridge reg code = in_declared config (delayed_by config.latency t) (refusal_of t edge fit) bridge (later_fits config.latency t reg) (refusal_fits t edge fit code)

in_at : (at : ℕ) (p : PortState) (talkers : List TalkerReg) → p.config.bridge.0 < 2 ^ 64 → IsRegIn (first_talker talkers) → IsRegIn (talker_at at p talkers)
in_at at p talkers bridge reg = by (is_talker_port (suc at) talkers)
  where
    by : (b : Bool) → IsRegIn (if b then Absent else talker_out (first_talker talkers) p.config (edge_at p talkers) (unwrap_or (fit_at p.ledger.moment at p.ledger talkers) Fits))
    by true = tt
    by false =
        in_out (first_talker talkers) p.config (edge_at p talkers) (unwrap_or (fit_at p.ledger.moment at p.ledger talkers) Fits) bridge reg
        (code_at p.ledger.moment p.ledger (is_talker_port (suc at) talkers) (option_and_then want_of_talker (talker_in (first_talker talkers))))

in_stated : (s : StreamId) (reg : TalkerReg) (c : MsrpContent) → IsRegIn reg → talker_content reg ≡ Some c → IsWithin (keys.Talker s) c
in_stated s Absent c h e = cc
in_stated s (Advertise t) c h e = let is : contents.Advertise t ≡ c = cc in subst (λ (x : MsrpContent). IsWithin (keys.Talker s) x) is h
in_stated s (Failed t f) c h e = let is : contents.Failed t f ≡ c = cc in subst (λ (x : MsrpContent). IsWithin (keys.Talker s) x) is h

-- ---- the stream of the Listeners

-- where a Talker is registered at some port, the one at the Talker's port is
found_present : (xs : List TalkerReg) (i : ℕ) → is_present (slice_index_or xs i Absent) ≡ true → is_present (unwrap_or (find is_present xs) Absent) ≡ true
found_present [] i h = cc
found_present (x ∷ xs) zero h = by (is_present x) refl h
  where
    by : (b : Bool) → is_present x ≡ b → b ≡ true → is_present (unwrap_or (if b then Some x else find is_present xs) Absent) ≡ true
    by true e k = e
    by false e k = cc
found_present (x ∷ xs) (suc i) h = by (is_present x) refl (found_present xs i h)
  where
    by : (b : Bool) → is_present x ≡ b → is_present (unwrap_or (find is_present xs) Absent) ≡ true → is_present (unwrap_or (if b then Some x else find is_present xs) Absent) ≡ true
    by true e rest = e
    by false e rest = rest

at_port_present : (xs : List TalkerReg) (n : ℕ) (o : Option ℕ) → position is_present xs ≡ o → is_number n o ≡ true → is_present (first_talker xs) ≡ true
at_port_present xs n None e h = cc
at_port_present xs n (Some i) e h = found_present xs i (position-Some is_present xs i Absent e).1

of_present : (s : StreamId) (reg : TalkerReg) → IsOf s reg → IsRegIn reg → is_present reg ≡ true → s.0 < 2 ^ 64
of_present s Absent own fit h = cc
of_present s (Advertise t) own fit h = rw own fit.stream
of_present s (Failed t f) own fit h = rw own fit.0.stream

listener_in : (s : StreamId) (o : Option ListenerKind) (c : MsrpContent) → s.0 < 2 ^ 64 → option_map contents.Listener o ≡ Some c → IsWithin (keys.Listener s) c
listener_in s None c within e = cc
listener_in s (Some k) c within e = let is : contents.Listener k ≡ c = cc in subst (λ (x : MsrpContent). IsWithin (keys.Listener s) x) is within

-- the Domain value of a class fits
pub value_in : (class : Class) → IsWithin (domain_key class) (domain_content class)
value_in A = (omega arith, omega arith, omega arith)
value_in B = (omega arith, omega arith, omega arith)

-- what the rules state of a key fits
pub rule_in : (side : Streams) → AllByRecursion (IsPort side.moment) side.ports → AreOfRange side → (at : ℕ) (p : PortState) → p.config.bridge.0 < 2 ^ 64
    → (key : MsrpKey) (c : MsrpContent) → stated_at at p (seen_by side) key ≡ Some c → IsWithin key c
rule_in side ports fit at p bridge (keys.Talker s) c e =
    in_stated s (talker_at at p (talkers_of side.talks side.ports s)) c (in_at at p (talkers_of side.talks side.ports s) bridge (in_talker side fit s)) e
rule_in side ports fit at p bridge (keys.Listener s) c e = by (is_talker_port (suc at) (talkers_of side.talks side.ports s)) refl e
  where
    by : (b : Bool) → is_talker_port (suc at) (talkers_of side.talks side.ports s) ≡ b
        → option_map contents.Listener (if b then listener_out (other_listeners at (seen_by side s)) else None) ≡ Some c → IsWithin (keys.Listener s) c
    by true here k =
        listener_in s (listener_out (other_listeners at (seen_by side s))) c
        (of_present s (first_talker (talkers_of side.talks side.ports s)) (of_talker side.moment side.talks side.ports s ports) (in_talker side fit s)
        (at_port_present (talkers_of side.talks side.ports s) (suc at) (position is_present (talkers_of side.talks side.ports s)) refl here)) k
    by false here k = cc
rule_in side ports fit at p bridge (keys.Domain id) c e = stated_value IsWithin value_in p.domain id c e
