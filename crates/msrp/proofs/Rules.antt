-- What the rules state of a key is of the key, and what they want is of the stream.
use Rattle.std.proofs.Common.{◌≡◌, ℕ, suc, Bool, true, false, not, ◌&&◌, ◌||◌, ◌==◌, if◌then◌else◌, List, [], ◌∷◌, ◌++◌, map, refl, sym, ap, subst, ◌∙◌, arith}
use Rattle.std.specs.Prelude.{Option, Some, None, find, is_none, option_map, unwrap_or}
use Rattle.std.specs.{List.AllByRecursion, List.filter_map, List.list_any, Ordering.nat_cmp, Ordering.is_eq}
use Rattle.std.proofs.lemmas.Bool.Decides.{nat_tests}
use Rattle.std.proofs.lemmas.Bool.{or_parts as or_false}
use Rattle.registrar.specs.Table as registrar
use Rattle.srp_base.specs.declared.{bandwidth.Class.Class, numbers.StreamId.StreamId, streams.Talker.Talker, streams.ListenerKind.ListenerKind, streams.TalkerReg.TalkerReg}
use Rattle.srp_base.specs.declared.streams.TalkerReg.TheVariants.{Absent, Advertise, Failed}
use Rattle.stream_importance.specs.declared.{entry.Fit.Fit, entry.Fit.TheVariants.Fits, entry.Want.Want}
use Rattle.msrp_talker.specs.declared.port_config.PortConfig.{PortConfig}
use Rattle.msrp_talker.specs.TalkerOut.{check_of, class_of_priority, declared_of, delayed_by, refusal_of, talker_out}
use Rattle.attribute_propagation.specs.Dirty.{is_awaiting, all_marked}
use Rattle.mrp_participant.specs.{Lookup.find as row_of, Row.registered_in, State.registered_at}
use Rattle.msrp_codec.specs.declared.{pdu.MsrpKey.MsrpKey, pdu.MsrpContent.MsrpContent}
use Rattle.msrp_codec.specs.declared.pdu.MsrpKey.TheVariants as keys
use Rattle.msrp_codec.specs.declared.pdu.MsrpContent.TheVariants as contents
use Rattle.msrp_codec.specs.Content.{Belongs}
use Rattle.msrp.specs.PortState.{PortState}
use Rattle.msrp.specs.Part.{Part}
use Rattle.msrp.specs.{key_cmp, stream_cmp, registered_listener, registered_talker, talker_content, talker_reg_of, advertise_of, edge_at, fit_at, is_present, is_ready, is_talker_port, listener_at, stated_at, talk_of, talker_at, first_talker, talkers_of, want_in_class, want_of_reg, want_of_talker, wanted_at, listener_keys, stream_in, streams_in, Streams, IsPort, seen_by}
use Rattle.msrp.proofs.{Contents.HoldsOfEach, Contents.MsrpRow, Contents.own_row, Domains.stated_value}

-- a Talker that is registered or declared is of a stream
abbrev pub IsOf : StreamId → TalkerReg → Type 0
IsOf s Absent = Unit {0}
IsOf s (Advertise t) = s ≡ t.stream
IsOf s (Failed t f) = s ≡ t.stream

-- what holds of both contents of each key that has a row holds of what is registered of a key
pub registered_holds : (P : MsrpKey → MsrpContent → Type 0) (s : Part) → HoldsOfEach P s → (key : MsrpKey) (c : MsrpContent) → registered_at key_cmp key s ≡ Some c → P key c
registered_holds P s own key c h = by (row_of key_cmp key s.rows) refl h
  where
    held : (b : Bool) (r : MsrpRow) → P key r.heard → (if b then Some r.heard else None) ≡ Some c → P key c
    held true r holds k = let is : r.heard ≡ c = cc in subst (λ (x : MsrpContent). P key x) is holds
    held false r holds k = cc

    by : (o : Option MsrpRow) → row_of key_cmp key s.rows ≡ o → registered_in o ≡ Some c → P key c
    by None e k = cc
    by (Some r) e k = held (registrar.is_registered_in r.registrar) r (own key r e).heard k

of_content : (s : StreamId) (o : Option MsrpContent) → ((c : MsrpContent) → o ≡ Some c → Belongs (keys.Talker s) c) → IsOf s (talker_reg_of o)
of_content s None own = tt
of_content s (Some (contents.Advertise t)) own = own (contents.Advertise t) refl
of_content s (Some (contents.Failed t f)) own = own (contents.Failed t f) refl
of_content s (Some (contents.Listener kind)) own = tt
of_content s (Some (contents.Domain priority vid)) own = tt

of_own : (talks : List Talker) (s : StreamId) → IsOf s (advertise_of (talk_of s talks))
of_own [] s = tt
of_own (t ∷ talks) s = by (t.stream.0 == s.0) refl (of_own talks s)
  where
    by : (b : Bool) → (t.stream.0 == s.0) ≡ b → IsOf s (advertise_of (talk_of s talks)) → IsOf s (advertise_of (if b then Some t else talk_of s talks))
    by true e rest = let n : s.0 ≡ t.stream.0 = grind (arith, nat_tests, e) in ap (λ m. record { 0 = m }) n
    by false e rest = rest

of_ports : (moment : ℕ) (ports : List PortState) (s : StreamId) → AllByRecursion (IsPort moment) ports → AllByRecursion (IsOf s) (map (λ (p : PortState). registered_talker s p.part) ports)
of_ports moment [] s all = tt
of_ports moment (p ∷ ports) s all = (
  of_content s (registered_at key_cmp (keys.Talker s) p.part)
      (λ c h. registered_holds Belongs p.part (own_row p.part all.0.contents) (keys.Talker s) c h),
  of_ports moment ports s all.1,
)

-- what holds of each Talker that is registered holds of the one at the Talker's port
pub found_holds : (P : TalkerReg → Type 0) → P Absent → (xs : List TalkerReg) → AllByRecursion P xs → P (unwrap_or (find is_present xs) Absent)
found_holds P absent [] all = absent
found_holds P absent (x ∷ xs) all = by (is_present x) (found_holds P absent xs all.1)
  where
    by : (b : Bool) → P (unwrap_or (find is_present xs) Absent) → P (unwrap_or (if b then Some x else find is_present xs) Absent)
    by true rest = all.0
    by false rest = rest

pub of_talker : (moment : ℕ) (talks : List Talker) (ports : List PortState) (s : StreamId) → AllByRecursion (IsPort moment) ports → IsOf s (first_talker (talkers_of talks ports s))
of_talker moment talks ports s all = found_holds (IsOf s) tt (talkers_of talks ports s) (of_own talks s, of_ports moment ports s all)

of_declared : (s : StreamId) (config : PortConfig) (t : Talker) (o : Option ℕ) → s ≡ t.stream → IsOf s (declared_of config t o)
of_declared s config t None h = h
of_declared s config t (Some code) h = h

of_out : (s : StreamId) (reg : TalkerReg) (config : PortConfig) (edge : Bool) (fit : Fit) → IsOf s reg → IsOf s (talker_out reg config edge fit)
of_out s Absent config edge fit h = tt
of_out s (Failed t f) config edge fit h = h
of_out s (Advertise t) config edge fit h = of_declared s config (delayed_by config.latency t) (refusal_of t edge fit) h

of_stated : (s : StreamId) (reg : TalkerReg) (c : MsrpContent) → IsOf s reg → talker_content reg ≡ Some c → Belongs (keys.Talker s) c
of_stated s Absent c h e = cc
of_stated s (Advertise t) c h e = let is : contents.Advertise t ≡ c = cc in subst (λ (x : MsrpContent). Belongs (keys.Talker s) x) is h
of_stated s (Failed t f) c h e = let is : contents.Failed t f ≡ c = cc in subst (λ (x : MsrpContent). Belongs (keys.Talker s) x) is h

of_at : (s : StreamId) (at : ℕ) (p : PortState) (talkers : List TalkerReg) → IsOf s (first_talker talkers) → IsOf s (talker_at at p talkers)
of_at s at p talkers h = by (is_talker_port (suc at) talkers)
  where
    by : (b : Bool) → IsOf s (if b then Absent else talker_out (first_talker talkers) p.config (edge_at p talkers) (unwrap_or (fit_at p.ledger.moment at p.ledger talkers) Fits))
    by true = tt
    by false = of_out s (first_talker talkers) p.config (edge_at p talkers) (unwrap_or (fit_at p.ledger.moment at p.ledger talkers) Fits) h

of_listener : (s : StreamId) (o : Option ListenerKind) (c : MsrpContent) → option_map contents.Listener o ≡ Some c → Belongs (keys.Listener s) c
of_listener s None c e = cc
of_listener s (Some k) c e = let is : contents.Listener k ≡ c = cc in subst (λ (x : MsrpContent). Belongs (keys.Listener s) x) is tt

-- what the rules state of a key is of the key
pub rule_own : (side : Streams) → AllByRecursion (IsPort side.moment) side.ports → (at : ℕ) (p : PortState) (key : MsrpKey) (c : MsrpContent)
    → stated_at at p (seen_by side) key ≡ Some c → Belongs key c
rule_own side ports at p (keys.Talker s) c e =
    of_stated s (talker_at at p (talkers_of side.talks side.ports s)) c (of_at s at p (talkers_of side.talks side.ports s) (of_talker side.moment side.talks side.ports s ports)) e
rule_own side ports at p (keys.Listener s) c e = of_listener s (listener_at at (seen_by side s)) c e
rule_own side ports at p (keys.Domain id) c e = stated_value Belongs (λ class. tt) p.domain id c e

-- what is wanted is of the stream
in_class_own : (s : StreamId) (t : Talker) (o : Option Class) (w : Want) → s ≡ t.stream → option_map (want_in_class t) o ≡ Some w → w.stream ≡ s
in_class_own s t None w h e = cc
in_class_own s t (Some k) w h e = let is : want_in_class t k ≡ w = cc in ap (λ (x : Want). x.stream) (sym is) ∙ sym h

reg_own : (s : StreamId) (edge : Bool) (reg : TalkerReg) (w : Want) → IsOf s reg → want_of_reg edge reg ≡ Some w → w.stream ≡ s
reg_own s edge Absent w h e = cc
reg_own s edge (Failed t f) w h e = cc
reg_own s edge (Advertise t) w h e = by (not edge && is_none (check_of t)) e
  where
    by : (b : Bool) → (if b then want_of_talker t else None) ≡ Some w → w.stream ≡ s
    by true k = in_class_own s t (class_of_priority t.priority) w h k
    by false k = cc

pub want_own : (at : ℕ) (p : PortState) (talkers : List TalkerReg) (s : StreamId) (w : Want) → IsOf s (first_talker talkers) → wanted_at at p talkers s ≡ Some w → w.stream ≡ s
want_own at p talkers s w h e = by (is_talker_port (suc at) talkers) (is_ready (registered_listener s p.part)) e
  where
    by : (a b : Bool) → (if a then None else if b then want_of_reg (edge_at p talkers) (first_talker talkers) else None) ≡ Some w → w.stream ≡ s
    by true b k = cc
    by false true k = reg_own s (edge_at p talkers) (first_talker talkers) w h k
    by false false k = cc

-- where a stream isn't among those of some keys, neither of its keys is among them
pub record IsOut (ks : List MsrpKey) (s : StreamId) : Type 0 where
  pub talker : is_awaiting key_cmp (keys.Talker s) ks ≡ false
  pub listener : is_awaiting key_cmp (keys.Listener s) ks ≡ false

out_of : (ks : List MsrpKey) (s : StreamId) → is_awaiting stream_cmp s (filter_map stream_in ks) ≡ false → IsOut ks s
out_of [] s h = record { talker = refl; listener = refl }
out_of (keys.Talker t ∷ ks) s h =
    let first = or_false (is_eq (nat_cmp t.0 s.0)) (is_awaiting stream_cmp s (filter_map stream_in ks)) h in
    let rest = out_of ks s first.1 in
    record { talker = rw first.0 rest.talker; listener = rest.listener }
out_of (keys.Listener t ∷ ks) s h =
    let first = or_false (is_eq (nat_cmp t.0 s.0)) (is_awaiting stream_cmp s (filter_map stream_in ks)) h in
    let rest = out_of ks s first.1 in
    record { talker = rest.talker; listener = rw first.0 rest.listener }
out_of (keys.Domain c ∷ ks) s h = let rest = out_of ks s h in record { talker = rest.talker; listener = rest.listener }

abbrev pub AwaitsStreams : Type 0
AwaitsStreams = (k : StreamId) (new streams : List StreamId) → is_awaiting stream_cmp k (all_marked stream_cmp new streams) ≡ (is_awaiting stream_cmp k new || is_awaiting stream_cmp k streams)

pub stream_out : AwaitsStreams → (ks : List MsrpKey) (s : StreamId) → is_awaiting stream_cmp s (streams_in ks) ≡ false → IsOut ks s
stream_out awaits ks s h =
    out_of ks s (or_false (is_awaiting stream_cmp s (filter_map stream_in ks)) false (sym (awaits s (filter_map stream_in ks) []) ∙ h)).0

-- the Listener keys of streams
pub among : (s : StreamId) (xs : List StreamId) → is_awaiting key_cmp (keys.Listener s) (listener_keys xs) ≡ list_any (λ (x : StreamId). x.0 == s.0) xs
among s [] = refl
among s (x ∷ xs) =
    let one : is_eq (nat_cmp x.0 s.0) ≡ (x.0 == s.0) = grind (arith, nat_tests) in
    ap (λ b. b || is_awaiting key_cmp (keys.Listener s) (listener_keys xs)) one ∙ ap (λ b. (x.0 == s.0) || b) (among s xs)

pub among-append : (s : StreamId) (xs ys : List StreamId)
    → list_any (λ (x : StreamId). x.0 == s.0) (xs ++ ys) ≡ (list_any (λ (x : StreamId). x.0 == s.0) xs || list_any (λ (x : StreamId). x.0 == s.0) ys)
among-append s [] ys = refl
among-append s (x ∷ xs) ys = ap (λ b. (x.0 == s.0) || b) (among-append s xs ys) ∙ joined (x.0 == s.0) (list_any (λ (x : StreamId). x.0 == s.0) xs) (list_any (λ (x : StreamId). x.0 == s.0) ys)
  where
    joined : (a b c : Bool) → (a || (b || c)) ≡ ((a || b) || c)
    joined true b c = refl
    joined false b c = refl
