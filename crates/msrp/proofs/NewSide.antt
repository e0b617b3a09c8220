-- What every side keeps holds of a new one.
use Rattle.std.proofs.Common.{◌≡◌, ℕ, zero, suc, ◌≤◌, Bool, false, if◌then◌else◌, List, [], ◌∷◌, map, refl, sym, ap, subst, ◌∙◌, arith}
use Rattle.std.specs.Prelude.{slice_get, Option, Some, None, find, option_map, unwrap_or}
use Rattle.std.specs.List.{AllByRecursion}
use Rattle.srp_base.proofs.Lists.{mapped_length}
use Rattle.srp_base.specs.declared.{numbers.Cs.Cs, numbers.BridgeId.BridgeId, numbers.StreamId.StreamId, ports.PortSetup.PortSetup, streams.TalkerReg.TheVariants.Absent}
use Rattle.stream_importance.specs.declared.{slope.Caps.Caps, entry.Want.Want}
use Rattle.srp_base.specs.Bandwidth.{bits_of}
use Rattle.stream_importance.specs.Bandwidth.{caps_of}
use Rattle.port_ledger.specs.Book.{empty_book, IsKept as IsKeptBook}
use Rattle.mrp_participant.specs.State.{declared_at}
use Rattle.msrp_codec.specs.declared.{pdu.MsrpKey.MsrpKey, pdu.MsrpContent.MsrpContent}
use Rattle.msrp_codec.specs.declared.pdu.MsrpKey.TheVariants as keys
use Rattle.msrp_listener.specs.Merging.{listener_out}
use Rattle.msrp_codec.specs.Content.{Belongs}
use Rattle.msrp_codec.specs.declared.pdu.MsrpContent.TheVariants as contents
use Rattle.msrp.specs.{DomainSet, key_cmp, listener_kind_of, registered_listener, registered_talker, talker_reg_of, edge_at, first_talker, is_number, is_present, is_ready, is_talker_port, other_listeners, stated_at, talkers_of, want_of_reg, wanted_at, IsKept, IsPort, IsSettled, new_port, new_streams, seen_by}
use Rattle.msrp.specs.PortState.{PortState}
use Rattle.msrp.proofs.{Contents.own_from, Domains.new_domain, Domains.new_each, Domains.new_listener, Domains.new_registered, Domains.new_rows, Domains.new_talker, Talkers.absent_stated, Talkers.no_port}

-- class A has no more than both classes
pub shares : (p : PortSetup) → (caps_of p.rate p.delta_a p.delta_b).class_a ≤ (caps_of p.rate p.delta_a p.delta_b).both
shares p = let n : ℕ = bits_of p.rate in let a : ℕ = p.delta_a in let b : ℕ = p.delta_b in grind arith

-- what is wanted at another port than the Talker's, where some Listener can have the stream
abbrev wanted_where : Bool → Bool → Option Want → Option Want
wanted_where here ready want = if here then None else if ready then want else None

-- no Talker is registered anywhere
module _ (bridge : BridgeId) (leave_time : Cs) (periodic : Bool) (domain : DomainSet) where
  abbrev made : PortSetup → PortState
  made p = new_port bridge leave_time periodic domain p

  all_absent : (ports : List PortSetup) (s : StreamId) → AllByRecursion (λ x. x ≡ Absent) (map (λ (p : PortState). registered_talker s p.part) (map made ports))
  all_absent [] s = tt
  all_absent (p ∷ ports) s = (ap talker_reg_of (new_registered p.period leave_time periodic domain (keys.Talker s)), all_absent ports s)

  -- so that there is no Talker's port
  no_talker_port : (ports : List PortSetup) (s : StreamId) (n : ℕ) → is_talker_port n (talkers_of [] (map made ports) s) ≡ false
  no_talker_port ports s n = ap (is_number n) (no_port (talkers_of [] (map made ports) s) (refl, all_absent ports s))

  none_found : (ports : List PortSetup) (s : StreamId) → find is_present (map (λ (p : PortState). registered_talker s p.part) (map made ports)) ≡ None
  none_found [] s = refl
  none_found (p ∷ ports) s =
      ap (λ (o : Option MsrpContent). if is_present (talker_reg_of o) then Some (talker_reg_of o) else find is_present
      (map (λ (q : PortState). registered_talker s q.part) (map made ports))) (new_registered p.period leave_time periodic domain (keys.Talker s))
      ∙ none_found ports s

  settled-new : (setups : List PortSetup) (at : ℕ) (p : PortState) (ports : List PortSetup) (set : List MsrpKey)
      → slice_get (map made ports) at ≡ Some p → (place : ℕ) → IsSettled place p set (seen_by (new_streams bridge leave_time periodic domain setups))
  settled-new setups at p [] set h place = cc
  settled-new setups zero p (q ∷ ports) set h place =
      let is : made q ≡ p = cc in
      subst (λ (x : PortState). IsSettled place x set (seen_by (new_streams bridge leave_time periodic domain setups))) is (record {
        declared = λ key out. each key;
        wanted = λ s out none. sym (nothing_wanted s);
      })
    where
      nothing_wanted : (s : StreamId) → wanted_at place (made q) (talkers_of [] (map made setups) s) s ≡ None
      nothing_wanted s =
          ap (λ b. wanted_where b (is_ready (registered_listener s (made q).part))
          (want_of_reg (edge_at (made q) (talkers_of [] (map made setups) s)) (first_talker (talkers_of [] (map made setups) s))))
          (no_talker_port setups s (suc place))
          ∙ ap (λ (o : Option MsrpContent). wanted_where false (is_ready (listener_kind_of o))
          (want_of_reg (edge_at (made q) (talkers_of [] (map made setups) s)) (first_talker (talkers_of [] (map made setups) s))))
          (new_registered q.period leave_time periodic domain (keys.Listener s))

      each : (key : MsrpKey) → declared_at key_cmp key (made q).part ≡ stated_at place (made q) (seen_by (new_streams bridge leave_time periodic domain setups)) key
      each (keys.Talker s) =
          new_talker q.period leave_time periodic domain s
          ∙ sym (absent_stated place (made q) (talkers_of [] (map made setups) s) (ap (λ o. unwrap_or o Absent) (none_found setups s)))
      each (keys.Listener s) =
          new_listener q.period leave_time periodic domain s
          ∙ sym (ap (λ (b : Bool). option_map contents.Listener
          (if b then listener_out (other_listeners place (seen_by (new_streams bridge leave_time periodic domain setups) s)) else None))
          (no_talker_port setups s (suc place)))
      each (keys.Domain c) = new_domain q.period leave_time periodic domain c
  settled-new setups (suc at) p (q ∷ ports) set h place = settled-new setups at p ports set h place

  ports-new : ((caps : Caps) → caps.class_a ≤ caps.both → IsKeptBook (empty_book caps)) → ((p : PortSetup) → (caps_of p.rate p.delta_a p.delta_b).class_a ≤ (caps_of p.rate p.delta_a p.delta_b).both)
      → (ports : List PortSetup) → AllByRecursion (IsPort 0) (map made ports)
  ports-new empty shares [] = tt
  ports-new empty shares (p ∷ ports) = (
    record {
      rows = new_rows p.period leave_time periodic domain;
      contents = own_from (made p).part (new_each p.period leave_time periodic Belongs (λ class. tt) domain);
      ledger = empty (caps_of p.rate p.delta_a p.delta_b) (shares p);
      moment = refl;
    },
    ports-new empty shares ports,
  )

  pub kept-new : ((caps : Caps) → caps.class_a ≤ caps.both → IsKeptBook (empty_book caps))
      → ((p : PortSetup) → (caps_of p.rate p.delta_a p.delta_b).class_a ≤ (caps_of p.rate p.delta_a p.delta_b).both)
      → (ports : List PortSetup) → IsKept (new_streams bridge leave_time periodic domain ports)
  kept-new empty shares ports =
      record {
        ports = ports-new empty shares ports;
        sets = mapped_length (λ (p : PortSetup). []) ports ∙ sym (mapped_length made ports);
        settled = λ at p set part sets. settled-new ports at p ports set part at;
      }
