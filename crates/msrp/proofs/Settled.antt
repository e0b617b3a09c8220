-- What every side keeps stays so when a port is settled.
use Rattle.std.proofs.Common.{◌≡◌, ◌≢◌, ◌⊎◌, ◌↔◌, inl, inr, ℕ, zero, suc, Bool, true, false, ◌==◌, if◌then◌else◌, List, [], ◌∷◌, ◌++◌, map, take, drop, refl, sym, ap, subst, ◌∙◌, arith}
use Rattle.std.specs.Prelude.{slice_get, slice_set, Option, Some, None, is_some, option_map, option_and_then, unwrap_or}
use Rattle.std.specs.List.{filter_map, list_any}
use Rattle.std.proofs.Math.ListN.{length-set}
use Rattle.std.proofs.lemmas.Bool.Decides.{nat_tests}
use Rattle.std.proofs.lemmas.Bool.{or_parts as or_false}
use Rattle.srp_base.proofs.{Arithmetic.decide, Lists.each-get, Lists.each-set, Lists.get_set_other as get-set_other, Lists.get-set_same, Lists.map-set, Lists.map-set_same, Lists.paired}
use Rattle.srp_base.specs.declared.{numbers.StreamId.StreamId, streams.TalkerReg.TalkerReg, streams.TalkerReg.TheVariants.Absent, streams.ListenerKind.ListenerKind}
use Rattle.stream_importance.specs.declared.{entry.Want.Want, entry.Entry.Entry, entry.Fit.Fit, entry.Fit.TheVariants.Fits}
use Rattle.msrp_talker.specs.declared.port_config.PortConfig.{PortConfig}
use Rattle.msrp_talker.specs.TalkerOut.{talker_in, talker_out}
use Rattle.msrp_listener.specs.declared.port_listener.PortListener.{PortListener}
use Rattle.msrp_listener.specs.Merging.{listener_out}
use Rattle.port_ledger.specs.{Decision.booked_of, Decision.IsAscending, Book.Book, Book.booked_only_in, Book.fit_for, Book.since_of, Book.want_of}
use Rattle.attribute_propagation.specs.{Dirty.is_awaiting, Dirty.all_marked, Ports.marked_elsewhere}
use Rattle.mrp_participant.specs.State.{declared_at, registered_at}
use Rattle.msrp_codec.specs.declared.{pdu.MsrpKey.MsrpKey, pdu.MsrpContent.MsrpContent}
use Rattle.msrp_codec.specs.declared.pdu.MsrpKey.TheVariants as keys
use Rattle.msrp_codec.specs.declared.pdu.MsrpContent.TheVariants as contents
use Rattle.msrp.specs.PortState.{PortState}
use Rattle.msrp.specs.Part.{Part}
use Rattle.msrp.specs.{key_cmp, stream_cmp, registered_listener, registered_talker, listener_kind_of, settled_part, talker_content, talker_reg_of, domain_key, Registrations, advertise_of, edge_at, is_listened, is_talker_port, listener_at, listener_row, own_listener, stated_at, talk_of, talker_at, first_talker, talkers_of, want_of_talker, wanted_at, listener_keys, moved_streams, next_book, settled_book, settling_keys, streams_in, talker_keys, Streams, IsKept, IsPort, IsSettled, IsSettledAt, seen_by, settled_streams}
use Rattle.msrp.proofs.{Telling.Awaits, Telling.unmarked, Talkers.HasRows, Talkers.absent_stated, Talkers.no_talker, Talkers.stated_by, Talkers.wanted_by, Domains.edge_same, Participants.PartLaws, Participants.declared-settled, Participants.own-settled, Participants.registered-settled, Participants.rows-settled, Ledgers.BookLaws, Ledgers.IsLike, Ledgers.settled_like, Ledgers.settled_wants, Rules.AwaitsStreams, Rules.among, Rules.among-append, Rules.of_talker, Rules.rule_own, Rules.stream_out, Rules.want_own, Clocked.same_fit}

-- the laws of booked sets that settling rests on
pub record MoveLaws : Type 0 where
  pub empty : (before after : List Entry) → IsAscending before → IsAscending after
      → ((booked_only_in after before ≡ []) × (booked_only_in before after ≡ [])) ↔ (booked_of after ≡ booked_of before)
  pub fits : (book other : Book) (now : ℕ) (want : Want) → IsAscending book.entries → IsAscending other.entries
      → book.caps ≡ other.caps → booked_of book.entries ≡ booked_of other.entries → fit_for now book want ≡ fit_for now other want
  pub unmoved : (before after : List Entry) (s : StreamId) → IsAscending before → IsAscending after
      → list_any (λ (x : StreamId). x.0 == s.0) (booked_only_in after before) ≡ false
      → list_any (λ (x : StreamId). x.0 == s.0) (booked_only_in before after) ≡ false
      → is_some (since_of after s) ≡ is_some (since_of before s)

both_empty : (xs ys : List StreamId) → xs ++ ys ≡ [] → (xs ≡ []) × (ys ≡ [])
both_empty [] ys h = (refl, h)
both_empty (x ∷ xs) ys h = cc

take-set : {X : Type 0} (xs : List X) (i : ℕ) (y : X) → take i (slice_set xs i y) ≡ take i xs
take-set [] i y = refl
take-set (x ∷ xs) zero y = refl
take-set (x ∷ xs) (suc i) y = ap (λ ys. x ∷ ys) (take-set xs i y)

drop-set : {X : Type 0} (xs : List X) (i : ℕ) (y : X) → drop (suc i) (slice_set xs i y) ≡ drop (suc i) xs
drop-set [] i y = refl
drop-set (x ∷ xs) zero y = refl
drop-set (x ∷ xs) (suc i) y = drop-set xs i y

-- what stands at a port itself doesn't count among the other Listeners
pub others-set : (at : ℕ) (ts : List TalkerReg) (b : Bool) (ls : List (Option PortListener)) (x : Option PortListener)
    → listener_at at (record { talkers = ts; listens = b; listeners = slice_set ls at x }) ≡ listener_at at (record { talkers = ts; listens = b; listeners = ls })
others-set at ts b ls x =
    let r : Registrations = record { talkers = ts; listens = b; listeners = ls } in
    ap (λ (front : List (Option PortListener)). if is_talker_port (suc at) ts then listener_out
    (filter_map (λ row. row) (own_listener r ∷ (front ++ drop (suc at) (slice_set ls at x)))) else None) (take-set ls at x)
    ∙ ap (λ (rest : List (Option PortListener)). if is_talker_port (suc at) ts then listener_out (filter_map (λ row. row) (own_listener r ∷ (take at ls ++ rest))) else None) (drop-set ls at x)

-- the keys that await at another port were marked there
pub record WasThere (new : List MsrpKey) (sets : List (List MsrpKey)) (j : ℕ) (now : List MsrpKey) : Type 0 where
  pub set : List MsrpKey
  pub there : slice_get sets j ≡ Some set
  pub is : all_marked key_cmp new set ≡ now

was_there : Awaits → (new : List MsrpKey) (sets : List (List MsrpKey)) (at j : ℕ) (now : List MsrpKey) → at ≢ j
    → slice_get (marked_elsewhere key_cmp at new sets) j ≡ Some now → WasThere new sets j now
was_there awaits new sets at j now ne h = by (slice_get sets j) refl (sym (awaits.elsewhere at j new sets) ∙ h)
  where
    by : (o : Option (List MsrpKey)) → slice_get sets j ≡ o → option_map (λ set. if j == at then set else all_marked key_cmp new set) o ≡ Some now → WasThere new sets j now
    by None is e = cc
    by (Some set) is e =
        let other : (j == at) ≡ false = grind (arith, nat_tests, ne) in
        record { set = set; there = is; is = let k = rw other at e in cc }

-- where the booked set is the same, what is declared of a Talker is
talker_same : (laws : MoveLaws) (at : ℕ) (config : PortConfig) (edge : Bool) (book other : Book) (talkers : List TalkerReg) → IsAscending book.entries → IsAscending other.entries
    → book.caps ≡ other.caps → book.moment ≡ other.moment → booked_of book.entries ≡ booked_of other.entries → stated_by at config book edge talkers ≡ stated_by at config other edge talkers
talker_same laws at config edge book other talkers up down caps moment booked =
    let w = option_and_then want_of_talker (talker_in (first_talker talkers)) in
    ap (λ (o : Option Fit). if is_talker_port (suc at) talkers then Absent else talker_out (first_talker talkers) config edge (unwrap_or (if is_talker_port (suc at) talkers then None else o) Fits))
    (same_fit (fit_for book.moment book) (fit_for book.moment other) w (λ want. laws.fits book other book.moment want up down caps booked)
    ∙ ap (λ (n : ℕ). option_map (fit_for n other) w) moment)

pub next_is : (at : ℕ) (regs : StreamId → Registrations) (ks : List MsrpKey) (p : PortState) → next_book at regs ks p ≡ settled_book (λ s. wanted_at at p (regs s).talkers s) (streams_in ks) p.ledger
unfolding next_book
next_is at regs ks p = refl

module _ (parts : PartLaws) (books : BookLaws) (moves : MoveLaws) (awaits : Awaits) (awaiting : AwaitsStreams) (has_rows : HasRows)
    (side : Streams) (kept : IsKept side) (at : ℕ) (p : PortState) (here : slice_get side.ports at ≡ Some p) (ks : List MsrpKey) (set : slice_get side.awaiting at ≡ Some ks) where
  abbrev regs : StreamId → Registrations
  regs s = seen_by side s

  abbrev wants : StreamId → Option Want
  wants s = wanted_at at p (regs s).talkers s

  abbrev book : Book
  book = next_book at (seen_by side) ks p

  abbrev moved : List StreamId
  moved = moved_streams p.ledger book

  abbrev talkers : List MsrpKey
  talkers = talker_keys side.talks side.ports

  abbrev tried : List MsrpKey
  tried = settling_keys moved talkers ks

  -- the port with its next ledger
  abbrev ruled : PortState
  ruled = record p { ledger = book }

  abbrev rule : MsrpKey → Option MsrpContent
  rule key = stated_at at ruled (seen_by side) key

  abbrev part : Part
  part = settled_part (stated_at at ruled (seen_by side)) tried p.part

  abbrev next : PortState
  next = record p { part = part; ledger = book }

  abbrev after : Streams
  after = record side { ports = slice_set side.ports at next; awaiting = slice_set (marked_elsewhere key_cmp at (listener_keys moved) side.awaiting) at [] }

  port : IsPort side.moment p
  port = each-get (IsPort side.moment) side.ports at p kept.ports here

  own_wants : (s : StreamId) (w : Want) → wants s ≡ Some w → w.stream ≡ s
  own_wants s w e = want_own at p (talkers_of side.talks side.ports s) s w (of_talker side.moment side.talks side.ports s kept.ports) e

  like : IsLike p.ledger book
  like =
      let P : Book → Type 0 = λ b. IsLike p.ledger b in
      subst P (sym (next_is at (seen_by side) ks p)) (settled_like books wants own_wants (streams_in ks) p.ledger port.ledger)

  book_wants : (s : StreamId) → want_of book.entries s ≡ (if is_awaiting stream_cmp s (streams_in ks) then wants s else want_of p.ledger.entries s)
  book_wants s = ap (λ (b : Book). want_of b.entries s) (next_is at (seen_by side) ks p) ∙ settled_wants books wants own_wants (streams_in ks) p.ledger s

  registered_same : (key : MsrpKey) → registered_at key_cmp key part ≡ registered_at key_cmp key p.part
  registered_same key = registered-settled parts (stated_at at ruled (seen_by side)) tried p.part key port.rows

  talkers_same : (s : StreamId) → talkers_of side.talks (slice_set side.ports at next) s ≡ talkers_of side.talks side.ports s
  talkers_same s =
      ap (λ ts. advertise_of (talk_of s side.talks) ∷ ts) (map-set_same (λ (q : PortState). registered_talker s q.part) side.ports at p next here (ap talker_reg_of (registered_same (keys.Talker s))))

  listener_same : (s : StreamId) → registered_listener s part ≡ registered_listener s p.part
  listener_same s = ap listener_kind_of (registered_same (keys.Listener s))

  listener_here : (s : StreamId) → listener_at at (seen_by after s) ≡ listener_at at (regs s)
  listener_here s =
      ap (λ ts. listener_at at (record { talkers = ts; listens = is_listened s side.listens; listeners = map (listener_row s) (slice_set side.ports at next) })) (talkers_same s)
      ∙ (ap (λ ls. listener_at at (record { talkers = talkers_of side.talks side.ports s; listens = is_listened s side.listens; listeners = ls })) (map-set (listener_row s) side.ports at next)
      ∙ others-set at (talkers_of side.talks side.ports s) (is_listened s side.listens) (map (listener_row s) side.ports) (listener_row s next))

  -- a stream that hasn't moved is seen as before
  seen_same : (s : StreamId) → is_awaiting key_cmp (keys.Listener s) (listener_keys moved) ≡ false → seen_by after s ≡ regs s
  seen_same s out =
      let two = or_false (list_any (λ (x : StreamId). x.0 == s.0) (booked_only_in book.entries p.ledger.entries))
      (list_any (λ (x : StreamId). x.0 == s.0) (booked_only_in p.ledger.entries book.entries))
      (sym (among-append s (booked_only_in book.entries p.ledger.entries) (booked_only_in p.ledger.entries book.entries)) ∙ (sym (among s moved) ∙ out)) in
      let booked : is_some (since_of book.entries s) ≡ is_some (since_of p.ledger.entries s) = moves.unmoved p.ledger.entries book.entries s port.ledger.ascending like.kept.ascending two.0 two.1 in
      let row : listener_row s next ≡ listener_row s p =
      ap (λ (b : Bool). option_map (λ (kind : ListenerKind). record { kind = kind; booked = b }) (registered_listener s part)) booked
      ∙ ap (λ (o : Option ListenerKind). option_map (λ (kind : ListenerKind). record { kind = kind; booked = is_some (since_of p.ledger.entries s) }) o) (listener_same s) in
      ap (λ ts. record { talkers = ts; listens = is_listened s side.listens; listeners = map (listener_row s) (slice_set side.ports at next) }) (talkers_same s)
      ∙ ap (λ ls. record { talkers = talkers_of side.talks side.ports s; listens = is_listened s side.listens; listeners = ls }) (map-set_same (listener_row s) side.ports at p next here row)

  -- ---- the port itself

  old : IsSettled at p ks (seen_by side)
  old = kept.settled at p ks here set

  -- a key that isn't tried is stated as before
  untried : (key : MsrpKey) → is_awaiting key_cmp key tried ≡ false → declared_at key_cmp key p.part ≡ rule key
  untried key out = by moved refl out
    where
      same_booked : moved ≡ [] → booked_of book.entries ≡ booked_of p.ledger.entries
      same_booked e = (moves.empty p.ledger.entries book.entries port.ledger.ascending like.kept.ascending).0
          (both_empty (booked_only_in book.entries p.ledger.entries) (booked_only_in p.ledger.entries book.entries) e)

      still : moved ≡ [] → (k : MsrpKey) → stated_at at p (seen_by side) k ≡ rule k
      still e (keys.Talker s) =
          ap talker_content (sym (talker_same moves at p.config (edge_at p (talkers_of side.talks side.ports s)) book p.ledger
          (talkers_of side.talks side.ports s) like.kept.ascending port.ledger.ascending like.caps like.moment (same_booked e)))
      still e (keys.Listener s) = refl
      still e (keys.Domain c) = refl

      none : (k : MsrpKey) → is_awaiting key_cmp k talkers ≡ false → stated_at at p (seen_by side) k ≡ rule k
      none (keys.Talker s) h =
          let absent = no_talker has_rows side.talks side.ports s h in
          absent_stated at p (talkers_of side.talks side.ports s) absent ∙ sym (absent_stated at ruled (talkers_of side.talks side.ports s) absent)
      none (keys.Listener s) h = refl
      none (keys.Domain c) h = refl

      by : (m : List StreamId) → moved ≡ m → is_awaiting key_cmp key (settling_keys m talkers ks) ≡ false → declared_at key_cmp key p.part ≡ rule key
      by [] e h = old.declared key h ∙ still e key
      by (x ∷ m) e h = let apart = unmarked awaits key talkers ks h in old.declared key apart.1 ∙ none key apart.0

  by_rule : (key : MsrpKey) (b : Bool) → is_awaiting key_cmp key tried ≡ b → (if b then rule key else declared_at key_cmp key p.part) ≡ rule key
  by_rule key true e = refl
  by_rule key false e = untried key e

  -- no Domain's registration changes, so the port is at the same boundaries
  edge_stays : (ts : List TalkerReg) → edge_at next ts ≡ edge_at p ts
  edge_stays ts = edge_same p.domain p.part part (first_talker ts) (λ class. registered_same (domain_key class))

  rule_after : (key : MsrpKey) → rule key ≡ stated_at at next (seen_by after) key
  rule_after (keys.Talker s) =
      ap (λ (b : Bool). talker_content (stated_by at p.config book b (talkers_of side.talks side.ports s))) (sym (edge_stays (talkers_of side.talks side.ports s)))
      ∙ ap (λ ts. talker_content (talker_at at next ts)) (sym (talkers_same s))
  rule_after (keys.Listener s) = ap (option_map contents.Listener) (sym (listener_here s))
  rule_after (keys.Domain c) = refl

  wanted_here : (s : StreamId) (b : Bool) → is_awaiting stream_cmp s (streams_in ks) ≡ b → (if b then wants s else want_of p.ledger.entries s) ≡ wants s
  wanted_here s true e = refl
  wanted_here s false e = let out = stream_out awaiting ks s e in old.wanted s out.talker out.listener

  wants_after : (s : StreamId) → wants s ≡ wanted_at at next (talkers_of side.talks (slice_set side.ports at next) s) s
  wants_after s =
      ap (λ (o : Option ListenerKind). wanted_by at o (edge_at p (talkers_of side.talks side.ports s)) (talkers_of side.talks side.ports s)) (sym (listener_same s))
      ∙ (ap (λ (b : Bool). wanted_by at (registered_listener s part) b (talkers_of side.talks side.ports s)) (sym (edge_stays (talkers_of side.talks side.ports s)))
      ∙ ap (λ ts. wanted_at at next ts s) (sym (talkers_same s)))

  settled_here : IsSettled at next [] (seen_by after)
  settled_here =
      record {
        declared = λ key out.
            declared-settled parts (stated_at at ruled (seen_by side)) tried p.part key port.rows
            ∙ (by_rule key (is_awaiting key_cmp key tried) refl ∙ rule_after key);
        wanted = λ s one two. book_wants s ∙ (wanted_here s (is_awaiting stream_cmp s (streams_in ks)) refl ∙ wants_after s);
      }

  -- ---- the other ports

  settled_there : (j : ℕ) → at ≢ j → IsSettledAt after j
  settled_there j ne q more at_j sets =
      let was = was_there awaits (listener_keys moved) side.awaiting at j more ne (sym (get-set_other (marked_elsewhere key_cmp at (listener_keys moved) side.awaiting) at j [] ne) ∙ sets) in
      let before = kept.settled j q was.set (sym (get-set_other side.ports at j next ne) ∙ at_j) was.there in
      record {
        declared = each j q more was before;
        wanted = λ s one two. before.wanted s (fewer more was (keys.Talker s) one) (fewer more was (keys.Listener s) two)
            ∙ ap (λ ts. wanted_at j q ts s) (sym (talkers_same s));
      }
    where
      fewer : (more : List MsrpKey) {j : ℕ} → (was : WasThere (listener_keys moved) side.awaiting j more) → (key : MsrpKey) → is_awaiting key_cmp key more ≡ false
          → is_awaiting key_cmp key was.set ≡ false
      fewer more was key out = (unmarked awaits key (listener_keys moved) was.set (ap (is_awaiting key_cmp key) was.is ∙ out)).1

      each : (j : ℕ) (q : PortState) (more : List MsrpKey) → (was : WasThere (listener_keys moved) side.awaiting j more) → IsSettled j q was.set (seen_by side)
          → (key : MsrpKey) → is_awaiting key_cmp key more ≡ false → declared_at key_cmp key q.part ≡ stated_at j q (seen_by after) key
      each j q more was before (keys.Talker s) out =
          before.declared (keys.Talker s) (fewer more was (keys.Talker s) out) ∙ ap (λ ts. talker_content (talker_at j q ts)) (sym (talkers_same s))
      each j q more was before (keys.Listener s) out =
          before.declared (keys.Listener s) (fewer more was (keys.Listener s) out)
          ∙ ap (λ (r : Registrations). option_map contents.Listener (listener_at j r))
          (sym (seen_same s (unmarked awaits (keys.Listener s) (listener_keys moved) was.set (ap (is_awaiting key_cmp (keys.Listener s)) was.is ∙ out)).0))
      each j q more was before (keys.Domain c) out = before.declared (keys.Domain c) (fewer more was (keys.Domain c) out)

  settled_each : (j : ℕ) → (at ≡ j) ⊎ (at ≢ j) → IsSettledAt after j
  settled_each j (inl e) =
      let P : ℕ → Type 0 = λ k. IsSettledAt after k in
      subst P e (λ q more at_j sets.
      let Q : PortState → Type 0 = λ x. IsSettled at x more (seen_by after) in
      subst Q (get-set_same side.ports at next q at_j)
      (let R : List MsrpKey → Type 0 = λ x. IsSettled at next x (seen_by after) in
      subst R (get-set_same (marked_elsewhere key_cmp at (listener_keys moved) side.awaiting) at [] more sets) settled_here))
  settled_each j (inr ne) = settled_there j ne

  next_port : IsPort side.moment next
  next_port =
      record {
        rows = rows-settled parts (stated_at at ruled (seen_by side)) tried p.part port.rows;
        contents = own-settled parts (stated_at at ruled (seen_by side)) (rule_own side kept.ports at ruled) tried p.part port.rows port.contents;
        ledger = like.kept;
        moment = like.moment ∙ port.moment;
      }

  pub kept-settled : IsKept after
  kept-settled =
      record {
        ports = each-set (IsPort side.moment) side.ports at next next_port kept.ports;
        sets = length-set (marked_elsewhere key_cmp at (listener_keys moved) side.awaiting) at []
            ∙ (awaits.as_many_elsewhere at (listener_keys moved) side.awaiting ∙ (kept.sets ∙ sym (length-set side.ports at next)));
        settled = λ j. settled_each j (decide at j);
      }

-- what settling a port leaves is kept
pub settle-keeps : PartLaws → BookLaws → MoveLaws → Awaits → AwaitsStreams → HasRows → (at : ℕ) (side : Streams) → IsKept side → IsKept (settled_streams at side)
settle-keeps parts books moves awaits awaiting rows at side kept = by (slice_get side.ports at) refl
  where
    with_set : (p : PortState) → slice_get side.ports at ≡ Some p → (ks : List MsrpKey) × (slice_get side.awaiting at ≡ Some ks) → IsKept (settled_streams at side)
    with_set p here (ks, set) = rw (here, set) (kept-settled parts books moves awaits awaiting rows side kept at p here ks set)

    by : (o : Option PortState) → slice_get side.ports at ≡ o → IsKept (settled_streams at side)
    by None e = rw e kept
    by (Some p) e = with_set p e (paired side.awaiting side.ports at p kept.sets e)
