-- What every side keeps stays so: a participant takes the place of another, and the application asks for something.
use Rattle.std.proofs.Common.{◌≡◌, ◌≢◌, ◌⊎◌, inl, inr, ℕ, Bool, true, false, List, [], ◌∷◌, map, refl, sym, ap, subst, ◌∙◌}
use Rattle.std.specs.Prelude.{slice_get, Option, Some, None, option_map, ◌==◌}
use Rattle.std.proofs.Math.ListN.{length-set}
use Rattle.srp_base.proofs.{Arithmetic.decide, Lists.get-set_same, Lists.get_set_other as get-set_other, Lists.each-set, Lists.each-get}
use Rattle.srp_base.specs.declared.{numbers.StreamId.StreamId, streams.Talker.Talker, streams.ListenerKind.ListenerKind, streams.TalkerReg.TheVariants.Absent}
use Rattle.msrp_talker.specs.declared.port_config.PortConfig.{PortConfig}
use Rattle.port_ledger.specs.Book.{Book, want_of}
use Rattle.attribute_propagation.specs.Dirty.{is_awaiting}
use Rattle.mrp_participant.specs.State.{AreRows, declared_at, registered_at}
use Rattle.msrp_codec.specs.declared.pdu.MsrpKey.{MsrpKey}
use Rattle.msrp_codec.specs.declared.pdu.MsrpKey.TheVariants as keys
use Rattle.msrp_codec.specs.declared.pdu.MsrpContent.TheVariants as contents
use Rattle.msrp.specs.{DomainSet, key_cmp, registered_talker, registered_listener, listener_kind_of, talker_content, HasOwnContents, domain_stated, is_edge, Registrations, edge_at, registrations_of, first_talker, listener_at, stated_at, talk_of, is_listened, talkers_of, advertise_of, listener_row, is_domain_told, keys_of, known_keys, Streams, IsKept, IsPort, IsSettled, IsSettledAt, seen_by, with_port, with_told_port, with_port_at, with_asks, with_part, SameDeclared, TellsEach}
use Rattle.msrp.specs.PortState.{PortState}
use Rattle.msrp.specs.Part.{Part}
use Rattle.msrp.proofs.{Talkers.HasRows, Talkers.stated_by, Talkers.wanted_by, Domains.edge_alike, Domains.edge_untold, Domains.unknown_absent, Telling.IsUntold, Telling.WasTold, Telling.as_many_told, Telling.none_heeded, Telling.none_told, Telling.was_told, Telling.talker_untold, Telling.listener_untold, Telling.registrations-same, Telling.untold, Telling.Awaits, Telling.unmarked, Telling.was_set, Telling.talker_other, Telling.listener_other}

-- a port's configuration, its ledger, whether it is a boundary, and what is registered of a stream are the same
stated_talker : (at : ℕ) (c d : PortConfig) (b e : Book) (x y : Bool) (r q : Registrations) → c ≡ d → b ≡ e → x ≡ y → r ≡ q
    → talker_content (stated_by at c b x r.talkers) ≡ talker_content (stated_by at d e y q.talkers)
stated_talker at c d b e x y r q config ledger edge seen =
    ap (λ (k : PortConfig). talker_content (stated_by at k b x r.talkers)) config
    ∙ (ap (λ (k : Book). talker_content (stated_by at d k x r.talkers)) ledger
    ∙ (ap (λ (k : Bool). talker_content (stated_by at d e k r.talkers)) edge ∙ ap (λ (k : Registrations). talker_content (stated_by at d e y k.talkers)) seen))

wanted_same : (at : ℕ) (k l : Option ListenerKind) (x y : Bool) (r q : Registrations) → k ≡ l → x ≡ y → r ≡ q
    → wanted_by at k x r.talkers ≡ wanted_by at l y q.talkers
wanted_same at k l x y r q kind edge seen =
    ap (λ (o : Option ListenerKind). wanted_by at o x r.talkers) kind
    ∙ (ap (λ (b : Bool). wanted_by at l b r.talkers) edge ∙ ap (λ (v : Registrations). wanted_by at l y v.talkers) seen)

-- of a stream that a key says is as it was, everything is
pub record IsAsBefore (q p : PortState) (regs now : StreamId → Registrations) (s : StreamId) : Type 0 where
  pub seen : now s ≡ regs s
  pub listener : registered_listener s p.part ≡ registered_listener s q.part
  pub edge : edge_at p (now s).talkers ≡ edge_at q (regs s).talkers

-- a port stays settled where more keys await, its declarations, its configuration, its Domains and its ledger are the
-- same, and each stream is as it was of which a key doesn't await
pub settled_changed : (at : ℕ) (q p : PortState) (set more : List MsrpKey) (regs now : StreamId → Registrations)
    → IsSettled at q set regs → p.config ≡ q.config → p.domain ≡ q.domain → p.ledger ≡ q.ledger → SameDeclared q.part p.part
    → ((key : MsrpKey) → is_awaiting key_cmp key more ≡ false → is_awaiting key_cmp key set ≡ false)
    → ((s : StreamId) → is_awaiting key_cmp (keys.Talker s) more ≡ false → IsAsBefore q p regs now s)
    → ((s : StreamId) → is_awaiting key_cmp (keys.Listener s) more ≡ false → IsAsBefore q p regs now s)
    → IsSettled at p more now
settled_changed at q p set more regs now old config domain ledger same fewer talker listener =
    record {
      declared = each;
      wanted = λ s out none.
          ap (λ (b : Book). want_of b.entries s) ledger
          ∙ (old.wanted s (fewer (keys.Talker s) out) (fewer (keys.Listener s) none)
          ∙ sym (wanted_same at (registered_listener s p.part) (registered_listener s q.part) (edge_at p (now s).talkers) (edge_at q (regs s).talkers) (now s) (regs s)
          (talker s out).listener (talker s out).edge (talker s out).seen));
    }
  where
    each : (key : MsrpKey) → is_awaiting key_cmp key more ≡ false → declared_at key_cmp key p.part ≡ stated_at at p now key
    each (keys.Talker s) out =
        same (keys.Talker s) ∙ (old.declared (keys.Talker s) (fewer (keys.Talker s) out)
        ∙ sym (stated_talker at p.config q.config p.ledger q.ledger (edge_at p (now s).talkers) (edge_at q (regs s).talkers) (now s) (regs s) config ledger (talker s out).edge (talker s out).seen))
    each (keys.Listener s) out =
        same (keys.Listener s) ∙ (old.declared (keys.Listener s) (fewer (keys.Listener s) out)
        ∙ sym (ap (λ (r : Registrations). option_map contents.Listener (listener_at at r)) (listener s out).seen))
    each (keys.Domain c) out =
        same (keys.Domain c) ∙ (old.declared (keys.Domain c) (fewer (keys.Domain c) out) ∙ sym (ap (λ d. domain_stated d c) domain))

-- ---- a participant takes the place of another

-- where a Domain has to be heeded, each stream has a Talker of which a key is known
abbrev pub KnowsTalkers : Streams → DomainSet → List MsrpKey → Type 0
KnowsTalkers side domain told =
    is_domain_told domain told ≡ true → (s : StreamId)
    → is_awaiting key_cmp (keys.Talker s) (known_keys side.talks side.listens side.ports) ≡ false → first_talker (seen_by side s).talkers ≡ Absent

-- it is so at each node, and where nothing is told
pub knows_talkers : HasRows → (side : Streams) (domain : DomainSet) (told : List MsrpKey) → KnowsTalkers side domain told
knows_talkers rows side domain told heeded s out = unknown_absent rows side.talks side.listens side.ports s out

pub knows_none : (side : Streams) (domain : DomainSet) → KnowsTalkers side domain []
knows_none side domain heeded s out = absurd (let none : true ≡ false = sym heeded ∙ none_heeded domain in cc)

module _ (awaits : Awaits) (side : Streams) (kept : IsKept side) (at : ℕ) (p : PortState) (here : slice_get side.ports at ≡ Some p) (t : Part) (told : List MsrpKey) (same : SameDeclared p.part t) (tells : TellsEach told p.part t)
    (knows : KnowsTalkers side p.domain told) where
  abbrev after : Streams
  after = with_told_port at (with_part t p) told side

  abbrev known : List MsrpKey
  known = known_keys side.talks side.listens side.ports

  abbrev Was : ℕ → List MsrpKey → Type 0
  Was j set = WasTold at p.domain told known side.awaiting j set

  -- a stream that isn't told is as it was
  seen_same : (s : StreamId) → IsUntold told s → seen_by after s ≡ seen_by side s
  seen_same s out =
      registrations-same side.talks side.listens side.ports at p t s here (untold told p.part t (keys.Talker s) tells out.talker) (untold told p.part t (keys.Listener s) tells out.listener)

  -- so is whether the port is a boundary for it, where a Domain that is told makes all that are known await
  edge_here : (s : StreamId) → IsUntold told s → (is_domain_told p.domain told ≡ true → IsUntold known s) → edge_at (with_part t p) (seen_by after s).talkers ≡ edge_at p (seen_by side s).talkers
  edge_here s out others =
      ap (λ (r : Registrations). is_edge p.domain t (first_talker r.talkers)) (seen_same s out) ∙ by (is_domain_told p.domain told) refl
    where
      by : (b : Bool) → is_domain_told p.domain told ≡ b → is_edge p.domain t (first_talker (seen_by side s).talkers) ≡ is_edge p.domain p.part (first_talker (seen_by side s).talkers)
      by true e = edge_alike p.domain t p.part (first_talker (seen_by side s).talkers) (knows e s (others e).talker)
      by false e = edge_untold p.domain told p.part t (first_talker (seen_by side s).talkers) (λ key. untold told p.part t key tells) e

  here_same : (s : StreamId) → IsUntold told s → (is_domain_told p.domain told ≡ true → IsUntold known s) → IsAsBefore p (with_part t p) (seen_by side) (seen_by after) s
  here_same s out others = record { seen = seen_same s out; listener = ap listener_kind_of (untold told p.part t (keys.Listener s) tells out.listener); edge = edge_here s out others }

  there_same : (q : PortState) (s : StreamId) → IsUntold told s → IsAsBefore q q (seen_by side) (seen_by after) s
  there_same q s out = record { seen = seen_same s out; listener = refl; edge = ap (λ (r : Registrations). edge_at q r.talkers) (seen_same s out) }

  settled_here : IsSettledAt after at
  settled_here port set part sets =
      let was : Was at set = was_told awaits at p.domain told known side.awaiting at set sets in
      let P : PortState → Type 0 = λ q. IsSettled at q set (seen_by after) in
      subst P (get-set_same side.ports at (with_part t p) port part)
      (settled_changed at p (with_part t p) was.set set (seen_by side) (seen_by after) (kept.settled at p was.set here was.there) refl refl refl same was.fewer
      (λ s out. here_same s (talker_untold told s (was.untold (keys.Talker s) out)) (λ e. talker_untold known s (was.unknown refl e (keys.Talker s) out)))
      (λ s out. here_same s (listener_untold told s (was.untold (keys.Listener s) out)) (λ e. listener_untold known s (was.unknown refl e (keys.Listener s) out))))

  settled_there : (j : ℕ) → at ≢ j → IsSettledAt after j
  settled_there j ne port set part sets =
      let was : Was j set = was_told awaits at p.domain told known side.awaiting j set sets in
      settled_changed j port port was.set set (seen_by side) (seen_by after)
      (kept.settled j port was.set (sym (get-set_other side.ports at j (with_part t p) ne) ∙ part) was.there) refl refl refl (λ key. refl) was.fewer
      (λ s out. there_same port s (talker_untold told s (was.untold (keys.Talker s) out)))
      (λ s out. there_same port s (listener_untold told s (was.untold (keys.Listener s) out)))

  settled_after : (j : ℕ) → (at ≡ j) ⊎ (at ≢ j) → IsSettledAt after j
  settled_after j (inl e) = let P : ℕ → Type 0 = λ k. IsSettledAt after k in subst P e settled_here
  settled_after j (inr ne) = settled_there j ne

  port_after : AreRows key_cmp t.rows → HasOwnContents t → IsPort side.moment (with_part t p)
  port_after rows contents =
      let old = each-get (IsPort side.moment) side.ports at p kept.ports here in
      record { rows = rows; contents = contents; ledger = old.ledger; moment = old.moment }

  pub kept-retold : AreRows key_cmp t.rows → HasOwnContents t → IsKept after
  kept-retold rows contents =
      record {
        ports = each-set (IsPort side.moment) side.ports at (with_part t p) (port_after rows contents) kept.ports;
        sets = as_many_told awaits at p.domain told known side.awaiting ∙ (kept.sets ∙ sym (length-set side.ports at (with_part t p)));
        settled = λ j. settled_after j (decide at j);
      }

-- a side that is made with the port at a place, if one is there
pub kept-at : (side : Streams) (make : PortState → Streams) (o : Option PortState) → IsKept side → ((p : PortState) → o ≡ Some p → IsKept (make p)) → IsKept (with_port o make side)
kept-at side make None kept h = kept
kept-at side make (Some p) kept h = h p refl

module _ (awaits : Awaits) where
  -- a participant that tells keys
  pub kept-heard : HasRows → (side : Streams) → IsKept side → (at : ℕ) (p : PortState) → slice_get side.ports at ≡ Some p → (t : Part) (told : List MsrpKey) → AreRows key_cmp t.rows → HasOwnContents t
      → SameDeclared p.part t → TellsEach told p.part t → IsKept (with_told_port at (with_part t p) told side)
  kept-heard has_rows side kept at p here t told rows contents same tells = kept-retold awaits side kept at p here t told same tells (knows_talkers has_rows side p.domain told) rows contents

  -- and one that tells none
  pub kept-replaced : (side : Streams) → IsKept side → (at : ℕ) (p : PortState) → slice_get side.ports at ≡ Some p → (t : Part) → AreRows key_cmp t.rows → HasOwnContents t
      → SameDeclared p.part t → ((key : MsrpKey) → registered_at key_cmp key t ≡ registered_at key_cmp key p.part) → IsKept (with_port_at at (with_part t p) side)
  kept-replaced side kept at p here t rows contents same stays =
      let P : List (List MsrpKey) → Type 0 = λ sets. IsKept (record (with_port_at at (with_part t p) side) { awaiting = sets }) in
      subst P (none_told awaits at p.domain (known_keys side.talks side.listens side.ports) side.awaiting)
      (kept-retold awaits side kept at p here t [] same (λ key. inr (stays key)) (knows_none side p.domain) rows contents)

-- what every side keeps of the port at a place
pub port_kept : (side : Streams) → IsKept side → (at : ℕ) (p : PortState) → slice_get side.ports at ≡ Some p → IsPort side.moment p
port_kept side kept at p here = each-get (IsPort side.moment) side.ports at p kept.ports here

-- ---- the application asks

same_seen : (talks more : List Talker) (listens less : List StreamId) (ports : List PortState) (s : StreamId) → talk_of s more ≡ talk_of s talks → is_listened s less ≡ is_listened s listens
    → registrations_of more less ports s ≡ registrations_of talks listens ports s
same_seen talks more listens less ports s e f =
    ap (λ (o : Option Talker). record { talkers = advertise_of o ∷ map (λ (q : PortState). registered_talker s q.part) ports; listens = is_listened s less; listeners = map (listener_row s) ports }) e
    ∙ ap (λ (b : Bool). record { talkers = talkers_of talks ports s; listens = b; listeners = map (listener_row s) ports }) f

pub kept-asked : Awaits → (side : Streams) → IsKept side → (x : StreamId) (talks : List Talker) (listens : List StreamId)
    → ((s : StreamId) → (s.0 == x.0) ≡ false → talk_of s talks ≡ talk_of s side.talks)
    → ((s : StreamId) → (s.0 == x.0) ≡ false → is_listened s listens ≡ is_listened s side.listens)
    → IsKept (with_asks x talks listens side)
kept-asked awaits side kept x talks listens talk_same listen_same =
    record {
      ports = kept.ports;
      sets = awaits.as_many_everywhere (keys_of x) side.awaiting ∙ kept.sets;
      settled = λ j port set part sets.
          let old = was_set awaits (keys_of x) side.awaiting j set sets in
          settled_changed j port port old.set set (seen_by side) (seen_by (with_asks x talks listens side)) (kept.settled j port old.set part old.there) refl refl refl (λ key. refl)
          (λ key out. (unmarked awaits key (keys_of x) old.set (ap (is_awaiting key_cmp key) old.is ∙ out)).1)
          (λ s out. as_before port s (talker_other x s (unmarked awaits (keys.Talker s) (keys_of x) old.set (ap (is_awaiting key_cmp (keys.Talker s)) old.is ∙ out)).0))
          (λ s out. as_before port s (listener_other x s (unmarked awaits (keys.Listener s) (keys_of x) old.set (ap (is_awaiting key_cmp (keys.Listener s)) old.is ∙ out)).0));
    }
  where
    as_before : (q : PortState) (s : StreamId) → (s.0 == x.0) ≡ false → IsAsBefore q q (seen_by side) (seen_by (with_asks x talks listens side)) s
    as_before q s other =
        let same = same_seen side.talks talks side.listens listens side.ports s (talk_same s other) (listen_same s other) in
        record { seen = same; listener = refl; edge = ap (λ (r : Registrations). edge_at q r.talkers) same }
