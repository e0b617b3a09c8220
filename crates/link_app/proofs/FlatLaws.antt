-- A flat side has the laws of an application at link ports: each call is a call of the participant at its place.
use Rattle.std.proofs.Common.{◌≡◌, ◌≤◌, ◌⊎◌, inl, inr, ℕ, zero, suc, Bool, true, false, if◌then◌else◌, List, [], ◌∷◌, ◌++◌, length, map, fold, refl, sym, ap, subst, ◌∙◌}
use Rattle.std.specs.Prelude.{slice_get, slice_set, filter_map, Option, Some, None, Result, Ok, Err}
use Rattle.std.specs.{declared.cmp.Ordering.Ordering, List.cons_option, Option.option_map_or}
use Rattle.std.proofs.lemmas.{List.Elements.filter_map-append, Option.slice_get_within}
use Rattle.srp_base.proofs.{Lists.at_each, Lists.length_set, Lists.mapped, Lists.within}
use Rattle.srp_base.specs.declared.{numbers.Cs.Cs, mrp.MrpEvent.MrpEvent, ports.PortSetup.PortSetup}
use Rattle.mrp_participant.specs.{Duty.IsDutyMet, Link.Link, Link.LinkEvent, Link.AreDutiesMet, Link.after_event, Link.new_link, Link.other_view, Link.with_repeat}
use Rattle.mrp_participant.specs.Link.EndEvent.{Declares, Withdraws, Leaves, Fires, FiresLeaveAll, FiresPeriodic, Sends, Receives, Repeats}
use Rattle.mrp_participant.specs.Link.LinkEvent.{AtNear}
use Rattle.mrp_participant.specs.State.{AreRows, Messages, is_active, is_silent, new_state, declared_state, withdrawn_state, left_state, left_keys, due_state, leave_all_state, periodic_state, received_state, sent_state, sent_events, sent_messages}
use Rattle.attribute_propagation.proofs.Lists.{set_at, set_at_there, set_at_other}
use Rattle.flat_side.specs.{Codec.Codec, Codec.IsFitting, Codec.IsWritten, Keys.AreOfKeys, Keys.HasKeyRows, Keys.IsProper, Part.Part, Part.said_events, Part.key_events, Part.same_content, Part.received_part, Part.settled_key, Part.settled_part, Part.told_by_receipt}
use Rattle.flat_side.specs.Side.{FlatState, with_part, at_part, with_part_at, with_told_part, awaiting_at, has_own, is_flat, left_key, new_flat, received_flat, due_flat, left_flat, leave_all_flat, periodic_flat, settled_flat, sent_flat, spoilt_flat, requested_flat, pdu_sent}
use Rattle.flat_side.proofs.Lists.{said_twice}
use Rattle.link_app.specs.declared.flat.KeyRequest.{KeyRequest}
use Rattle.link_app.specs.declared.flat.KeyRequest.TheVariants.{Declare, Withdraw}
use Rattle.link_app.specs.{AppWords, Stays, StaysAt, IsCallAt, KeepsDuties, AppLaws, OnePdu, IsNewFlat, said_by, message_of, link_of, asked, IsOfKey, heard, said, flat_words}

-- events of keys, as attributes without content, are the events
events_again : {K : Type 0} (es : List (MrpEvent × K × Unit {0})) → said_events (key_events es) ≡ es
events_again [] = refl
events_again (e ∷ es) = ap (λ later. e ∷ later) (events_again es)

module _ {K Pdu : Type 0} (cmp : K → K → Ordering) (codec : Codec K Pdu) (IsKey : K → Type 0) (base : ℕ) (octets : Unit {0} → ℕ) where
  abbrev w : AppWords (Unit {0}) K (KeyRequest K)
  w = flat_words cmp codec IsKey base octets

  -- what the public laws say of a link, of a side, and of what is said
  pub record FlatLaws : Type 0 where
    pub event : (l : Link K (Unit {0})) (e : LinkEvent K (Unit {0})) → AreDutiesMet cmp l → AreDutiesMet cmp (after_event base octets cmp same_content l e)
    pub turned : (l : Link K (Unit {0})) → AreDutiesMet cmp l → AreDutiesMet cmp (other_view l)
    pub new : (near far : Cs × Cs × Bool) → AreDutiesMet cmp (new_link {K = K} {C = Unit {0}} near far)
    pub unsound : (near far : Part K) (sent coming : List (Messages K (Unit {0}))) → near.sound ≡ false → IsDutyMet cmp near far sent coming
    pub new_side : (leave_time : Cs) (periodic : Bool) (ports : List PortSetup) → IsProper cmp IsKey (new_flat leave_time periodic ports)
    pub receive : (now : Cs) (at : ℕ) (leave_all : Bool) (events : List (MrpEvent × K)) (side : FlatState K) → AreOfKeys IsKey events → IsProper cmp IsKey side → IsProper cmp IsKey (received_flat cmp now at leave_all events side)
    pub due : (now : Cs) (at : ℕ) (side : FlatState K) → IsProper cmp IsKey side → IsProper cmp IsKey (due_flat cmp now at side)
    pub leave_now : (at : ℕ) (key : K) (side : FlatState K) → IsProper cmp IsKey side → IsProper cmp IsKey (left_flat cmp at key side)
    pub leaveall_now : (now : Cs) (at : ℕ) (side : FlatState K) → IsProper cmp IsKey side → IsProper cmp IsKey (leave_all_flat now at side)
    pub periodic_now : (at : ℕ) (side : FlatState K) → IsProper cmp IsKey side → IsProper cmp IsKey (periodic_flat at side)
    pub spoil : (at : ℕ) (side : FlatState K) → IsProper cmp IsKey side → IsProper cmp IsKey (spoilt_flat at side)
    pub send : (now : Cs) (at : ℕ) (side : FlatState K) → IsProper cmp IsKey side → IsProper cmp IsKey (sent_flat cmp base octets now at side)
    pub settle : (at : ℕ) (side : FlatState K) → IsProper cmp IsKey side → IsProper cmp IsKey (settled_flat cmp at side)
    pub request : (key : K) (declared : Bool) (side : FlatState K) → IsKey key → IsProper cmp IsKey side → IsProper cmp IsKey (requested_flat cmp key declared side)
    pub fitting : (now : Cs) (s : Part K) → AreRows cmp s.rows → is_silent s ≡ false → IsFitting base (octets tt) (is_active s.leave_all) (key_events (sent_events base octets cmp now s))
    pub of_keys : (now : Cs) (s : Part K) → AreRows cmp s.rows → HasKeyRows cmp IsKey s → AreOfKeys IsKey (key_events (sent_events base octets cmp now s))
    pub reads : (pdu : List ℕ) (read : Pdu) → codec.reading pdu ≡ Ok read → AreOfKeys IsKey (codec.events_of read)
    pub written :
        (leave_all : Bool) (events : List (MrpEvent × K)) → IsFitting base (octets tt) leave_all events → AreOfKeys IsKey events
        → IsWritten codec (codec.pdu_of leave_all events) (codec.spelling (codec.pdu_of leave_all events))
    pub says : (leave_all : Bool) (events : List (MrpEvent × K)) → (codec.leave_all_of (codec.pdu_of leave_all events) ≡ leave_all) × (codec.events_of (codec.pdu_of leave_all events) ≡ events)

  -- ---- the participants after what is done at a place

  -- the one at a place is what a call makes of it, and all others are as they were
  abbrev MadeAt : ℕ → (Part K → Part K) → FlatState K → FlatState K → Type 0
  MadeAt at f s t = t.parts ≡ set_at at f s.parts

  parts_are : (at : ℕ) (make : Part K → FlatState K) (f : Part K → Part K) (s : FlatState K) → ((x : Part K) → (make x).parts ≡ slice_set s.parts at (f x)) → MadeAt at f s (at_part at make s)
  parts_are at make f s is = by (slice_get s.parts at)
    where
      by : (o : Option (Part K)) → (with_part o make s).parts ≡ option_map_or (λ x. slice_set s.parts at (f x)) o s.parts
      by None = refl
      by (Some x) = is x

  -- what the application declares stays as it was
  own_same : (at : ℕ) (make : Part K → FlatState K) (s : FlatState K) → ((x : Part K) → (make x).own ≡ s.own) → (at_part at make s).own ≡ s.own
  own_same at make s is = by (slice_get s.parts at)
    where
      by : (o : Option (Part K)) → (with_part o make s).own ≡ s.own
      by None = refl
      by (Some x) = is x

  many : (at : ℕ) (f : Part K → Part K) (xs : List (Part K)) → length (set_at at f xs) ≡ length xs
  many at f xs = by (slice_get xs at)
    where
      by : (o : Option (Part K)) → length (option_map_or (λ x. slice_set xs at (f x)) o xs) ≡ length xs
      by None = refl
      by (Some x) = length_set xs at (f x)

  stays_at : (Needs : Type 0) (at : ℕ) (f : Part K → Part K) (s t : FlatState K) → MadeAt at f s t → t.own ≡ s.own → (Needs → IsProper cmp IsKey s → IsProper cmp IsKey t) → StaysAt w Needs at s t
  stays_at Needs at f s t made own kept =
      record {
        stays = record {
          ports = ap length made ∙ many at f s.parts;
          kept = kept;
          moment = λ now by. tt;
        };
        idle = λ idle. own ∙ idle;
        elsewhere = λ n k ne. ap (λ (ps : List (Part K)). slice_get ps k) made ∙ set_at_other at k f s.parts ne;
      }

  -- what becomes of the participant at the place
  became : (at : ℕ) (f : Part K → Part K) (s t : FlatState K) (x y : Part K) → MadeAt at f s t → slice_get s.parts at ≡ Some x → slice_get t.parts at ≡ Some y → f x ≡ y
  became at f s t x y made old new = mapped f (slice_get s.parts at) x y old (sym (ap (λ (ps : List (Part K)). slice_get ps at) made ∙ set_at_there at f s.parts) ∙ new)

  -- ---- calls of a participant

  -- what becomes of a participant keeps the duties of each link at whose near end it stands
  abbrev KeepsNear : Part K → Part K → Type 0
  KeepsNear x y =
      (z : Part K) (sent coming : List (Messages K (Unit {0})))
      → AreDutiesMet cmp (record { near = x; far = z; sent = sent; coming = coming })
      → AreDutiesMet cmp (record { near = y; far = z; sent = sent; coming = coming })

  call_at : (at : ℕ) (f : Part K → Part K) (s t : FlatState K) → ((x : Part K) → KeepsNear x (f x)) → MadeAt at f s t → t.own ≡ s.own → (IsProper cmp IsKey s → IsProper cmp IsKey t) → IsCallAt w at s t
  call_at at f s t keeps made own kept =
      record {
        stays = stays_at (Unit {0}) at f s t made own (λ _. kept);
        duties = λ there from n x y z h old new met.
            subst (λ (p : Part K). AreDutiesMet cmp (link_of codec p z there from)) (became at f s t x y made old new)
            (keeps x z (filter_map (message_of codec) there) (filter_map (message_of codec) from) met);
      }

  -- one call for each of a list
  all_keep : {X : Type 0} (call : Part K → X → Part K) → ((x : Part K) (k : X) → KeepsNear x (call x k)) → (ks : List X) (x : Part K) → KeepsNear x (fold call x ks)
  all_keep call each [] x z sent coming met = met
  all_keep call each (k ∷ ks) x z sent coming met = all_keep call each ks (call x k) z sent coming (each x k z sent coming met)

  received_is : (now : Cs) (at : ℕ) (leave_all : Bool) (events : List (MrpEvent × K)) (s : FlatState K) → MadeAt at (received_part cmp now leave_all events) s (received_flat cmp now at leave_all events s)
  received_is now at leave_all events s =
      parts_are at (λ x. with_told_part cmp at (received_part cmp now leave_all events x) (told_by_receipt cmp now leave_all events x) s) (received_part cmp now leave_all events) s (λ x. refl)

  due_is : (now : Cs) (at : ℕ) (s : FlatState K) → MadeAt at (due_state now) s (due_flat cmp now at s)
  due_is now at s = parts_are at (λ x. with_told_part cmp at (due_state now x) (left_keys now x) s) (due_state now) s (λ x. refl)

  left_is : (at : ℕ) (key : K) (s : FlatState K) → MadeAt at (left_state cmp key) s (left_flat cmp at key s)
  left_is at key s = parts_are at (λ x. with_told_part cmp at (left_state cmp key x) (left_key cmp key x) s) (left_state cmp key) s (λ x. refl)

  leave_all_is : (now : Cs) (at : ℕ) (s : FlatState K) → MadeAt at (leave_all_state now) s (leave_all_flat now at s)
  leave_all_is now at s = parts_are at (λ x. with_part_at at (leave_all_state now x) s) (leave_all_state now) s (λ x. refl)

  periodic_is : (at : ℕ) (s : FlatState K) → MadeAt at periodic_state s (periodic_flat at s)
  periodic_is at s = parts_are at (λ x. with_part_at at (periodic_state x) s) periodic_state s (λ x. refl)

  settled_is : (at : ℕ) (s : FlatState K) → MadeAt at (settled_part cmp (is_flat cmp s at) (awaiting_at at s)) s (settled_flat cmp at s)
  settled_is at s =
      parts_are at (λ x. record s { parts = slice_set s.parts at (settled_part cmp (is_flat cmp s at) (awaiting_at at s) x); awaiting = slice_set s.awaiting at [] })
      (settled_part cmp (is_flat cmp s at) (awaiting_at at s)) s (λ x. refl)

  sent_is : (now : Cs) (at : ℕ) (s : FlatState K) → MadeAt at (sent_state base octets cmp now) s (sent_flat cmp base octets now at s)
  sent_is now at s = parts_are at (λ x. with_part_at at (sent_state base octets cmp now x) s) (sent_state base octets cmp now) s (λ x. refl)

  unsound_of : Part K → Part K
  unsound_of x = record x { sound = false }

  spoilt_is : (at : ℕ) (s : FlatState K) → MadeAt at unsound_of s (spoilt_flat at s)
  unfolding unsound_of
  spoilt_is at s = parts_are at (λ (x : Part K). with_part_at at (record x { sound = false }) s) unsound_of s (λ x. refl)

  -- a request leaves the participants
  request_parts : (key : K) (declared : Bool) (s : FlatState K) → (requested_flat cmp key declared s).parts ≡ s.parts
  request_parts key declared s = by declared (has_own cmp key s) refl
    where
      by : (j b : Bool) → has_own cmp key s ≡ b → (requested_flat cmp key j s).parts ≡ s.parts
      by true true e = rw e refl
      by true false e = rw e refl
      by false true e = rw e refl
      by false false e = rw e refl

  same_parts : (r : KeyRequest K) (s : FlatState K) (k : ℕ) → slice_get (asked cmp r s).parts k ≡ slice_get s.parts k
  same_parts (Declare key) s k = ap (λ (ps : List (Part K)). slice_get ps k) (request_parts key true s)
  same_parts (Withdraw key) s k = ap (λ (ps : List (Part K)). slice_get ps k) (request_parts key false s)

  -- a participant of a new side
  new_part : (leave_time : Cs) (periodic : Bool) (ports : List PortSetup) (at : ℕ) (x : Part K) → slice_get (map (λ p. new_state p.period leave_time periodic) ports) at ≡ Some x
      → (period : Cs) × (x ≡ new_state period leave_time periodic)
  new_part leave_time periodic [] at x get = cc
  new_part leave_time periodic (p ∷ ports) zero x get = (p.period, cc)
  new_part leave_time periodic (p ∷ ports) (suc at) x get = new_part leave_time periodic ports at x get

  part_of_new : (at : ℕ) (s : FlatState K) (x : Part K) (is : IsNewFlat s) → slice_get s.parts at ≡ Some x → (period : Cs) × (x ≡ new_state period is.leave_time is.periodic)
  part_of_new at s x is old = new_part is.leave_time is.periodic is.ports at x (ap (λ (t : FlatState K). slice_get t.parts at) (sym is.is_new) ∙ old)

  module _ (laws : FlatLaws) where
    new_met : (at at' : ℕ) (s s' : FlatState K) (x z : Part K) → IsNewFlat s → IsNewFlat s' → slice_get s.parts at ≡ Some x → slice_get s'.parts at' ≡ Some z → AreDutiesMet cmp (link_of codec x z [] [])
    new_met at at' s s' x z is is' old old' =
        let near = part_of_new at s x is old in
        let far = part_of_new at' s' z is' old' in
        subst (λ (p : Part K). AreDutiesMet cmp (link_of codec p z [] [])) (sym near.1)
        (subst (λ (p : Part K). AreDutiesMet cmp (link_of codec (new_state near.0 is.leave_time is.periodic) p [] [])) (sym far.1)
        (laws.new (near.0, is.leave_time, is.periodic) (far.0, is'.leave_time, is'.periodic)))

    -- ---- calls that say nothing

    due_call : (now : Cs) (at : ℕ) (s : FlatState K) → IsCallAt w at s (due_flat cmp now at s)
    due_call now at s =
        call_at at (due_state now) s (due_flat cmp now at s)
        (λ x z sent coming met. laws.event (record { near = x; far = z; sent = sent; coming = coming }) (AtNear (Fires now)) met)
        (due_is now at s) (own_same at _ s (λ x. refl)) (laws.due now at s)

    leave_call : (key : K) (at : ℕ) (s : FlatState K) → IsCallAt w at s (left_flat cmp at key s)
    leave_call key at s =
        call_at at (left_state cmp key) s (left_flat cmp at key s)
        (λ x z sent coming met. laws.event (record { near = x; far = z; sent = sent; coming = coming }) (AtNear (Leaves key)) met)
        (left_is at key s) (own_same at _ s (λ x. refl)) (laws.leave_now at key s)

    leave_all_call : (now : Cs) (at : ℕ) (s : FlatState K) → IsCallAt w at s (leave_all_flat now at s)
    leave_all_call now at s =
        call_at at (leave_all_state now) s (leave_all_flat now at s)
        (λ x z sent coming met. laws.event (record { near = x; far = z; sent = sent; coming = coming }) (AtNear (FiresLeaveAll now)) met)
        (leave_all_is now at s) (own_same at _ s (λ x. refl)) (laws.leaveall_now now at s)

    periodic_call : (at : ℕ) (s : FlatState K) → IsCallAt w at s (periodic_flat at s)
    periodic_call at s =
        call_at at periodic_state s (periodic_flat at s)
        (λ x z sent coming met. laws.event (record { near = x; far = z; sent = sent; coming = coming }) (AtNear FiresPeriodic) met)
        (periodic_is at s) (own_same at _ s (λ x. refl)) (laws.periodic_now at s)

    settles : (rule : K → Bool) (x : Part K) (key : K) → KeepsNear x (settled_key cmp rule x key)
    settles rule x key = by (rule key)
      where
        by : (b : Bool) → KeepsNear x (if b then declared_state cmp same_content key tt x else withdrawn_state cmp key x)
        by true z sent coming met = laws.event (record { near = x; far = z; sent = sent; coming = coming }) (AtNear (Declares key tt)) met
        by false z sent coming met = laws.event (record { near = x; far = z; sent = sent; coming = coming }) (AtNear (Withdraws key)) met

    settle_call : (at : ℕ) (s : FlatState K) → IsCallAt w at s (settled_flat cmp at s)
    settle_call at s =
        call_at at (settled_part cmp (is_flat cmp s at) (awaiting_at at s)) s (settled_flat cmp at s)
        (λ x. all_keep (settled_key cmp (is_flat cmp s at)) (settles (is_flat cmp s at)) (awaiting_at at s) x)
        (settled_is at s) (own_same at _ s (λ x. refl)) (laws.settle at s)

    -- ---- what comes in

    -- the participant after what a PDU says, if anything
    hearing : Cs → Option (Messages K (Unit {0})) → Part K → Part K
    hearing now None x = x
    hearing now (Some m) x = received_state cmp now m.leave_all m.events x

    heard_is : (now : Cs) (at : ℕ) (r : Result Pdu ℕ) (s : FlatState K) → MadeAt at (hearing now (said_by codec r)) s (heard cmp codec now at r s)
    unfolding hearing
    heard_is now at (Ok pdu) s = received_is now at (codec.leave_all_of pdu) (codec.events_of pdu) s
    heard_is now at (Err place) s = same s.parts at
      where
        same : (xs : List (Part K)) (at : ℕ) → xs ≡ set_at at (λ x. x) xs
        same [] at = refl
        same (x ∷ xs) zero = refl
        same (x ∷ xs) (suc at) = by (slice_get xs at) (same xs at)
          where
            by : (o : Option (Part K)) → xs ≡ option_map_or (λ y. slice_set xs at y) o xs → x ∷ xs ≡ option_map_or (λ y. x ∷ slice_set xs at y) o (x ∷ xs)
            by None e = refl
            by (Some y) e = ap (λ ys. x ∷ ys) e

    receipt : (now : Cs) (at : ℕ) (pdu : List ℕ) (s : FlatState K) → StaysAt w (length pdu ≤ 1500) at s (heard cmp codec now at (codec.reading pdu) s)
    receipt now at pdu s =
        stays_at (length pdu ≤ 1500) at (hearing now (said_by codec (codec.reading pdu))) s (heard cmp codec now at (codec.reading pdu) s)
        (heard_is now at (codec.reading pdu) s) (own (codec.reading pdu)) (λ short. by (codec.reading pdu) refl)
      where
        own : (r : Result Pdu ℕ) → (heard cmp codec now at r s).own ≡ s.own
        own (Ok read) = own_same at _ s (λ x. refl)
        own (Err place) = refl

        by : (r : Result Pdu ℕ) → codec.reading pdu ≡ r → IsProper cmp IsKey s → IsProper cmp IsKey (heard cmp codec now at r s)
        by (Ok read) e = laws.receive now at (codec.leave_all_of read) (codec.events_of read) s (laws.reads pdu read e)
        by (Err place) e = λ h. h

    heard_met : (now : Cs) (o : Option (Messages K (Unit {0}))) (x z : Part K) (sent rest : List (Messages K (Unit {0})))
        → AreDutiesMet cmp (record { near = x; far = z; sent = sent; coming = cons_option o rest })
        → AreDutiesMet cmp (record { near = hearing now o x; far = z; sent = sent; coming = rest })
    unfolding hearing
    heard_met now None x z sent rest met = met
    heard_met now (Some m) x z sent rest met = laws.event (record { near = x; far = z; sent = sent; coming = m ∷ rest }) (AtNear (Receives now)) met

    receipt_met : (now : Cs) (at : ℕ) (pdu : List ℕ) (s : FlatState K) (there from : List OnePdu)
        → KeepsDuties w at s (heard cmp codec now at (codec.reading pdu) s) there (record { app = tt; octets = pdu } ∷ from) there from
    receipt_met now at pdu s there from n x y z h old new met =
        subst (λ (p : Part K). AreDutiesMet cmp (link_of codec p z there from))
        (became at (hearing now (said_by codec (codec.reading pdu))) s (heard cmp codec now at (codec.reading pdu) s) x y (heard_is now at (codec.reading pdu) s) old new)
        (heard_met now (said_by codec (codec.reading pdu)) x z (filter_map (message_of codec) there) (filter_map (message_of codec) from) met)

    -- ---- what is said

    -- a participant that has something to say says these octets
    record IsSpeaking (now : Cs) (x : Part K) (pdu : List ℕ) : Type 0 where
      loud : is_silent x ≡ false
      spelled : pdu ≡ codec.spelling (pdu_sent cmp codec base octets now x)

    speaking : (now : Cs) (x : Part K) (pdu : List ℕ) → (if is_silent x then None else Some (codec.spelling (pdu_sent cmp codec base octets now x))) ≡ Some pdu → IsSpeaking now x pdu
    speaking now x pdu = by (is_silent x) refl
      where
        by : (b : Bool) → is_silent x ≡ b → (if b then None else Some (codec.spelling (pdu_sent cmp codec base octets now x))) ≡ Some pdu → IsSpeaking now x pdu
        by true e is = cc
        by false e is = record { loud = e; spelled = cc }

    said_there : (now : Cs) (at : ℕ) (pdu : List ℕ) (s : FlatState K) (x : Part K) → slice_get s.parts at ≡ Some x → said cmp codec base octets now at s ≡ Some pdu → IsSpeaking now x pdu
    said_there now at pdu s x here is =
        speaking now x pdu
        (ap (λ (o : Option (Part K)). option_map_or (λ part. if is_silent part then None else Some (codec.spelling (pdu_sent cmp codec base octets now part))) o None) (sym here) ∙ is)

    written_is : (now : Cs) (at : ℕ) (pdu : List ℕ) (s : FlatState K) (x : Part K) → IsProper cmp IsKey s → slice_get s.parts at ≡ Some x → IsSpeaking now x pdu
        → IsWritten codec (pdu_sent cmp codec base octets now x) pdu
    written_is now at pdu s x proper here speaks =
        let rows = at_each (λ (p : Part K). AreRows cmp p.rows) s.parts proper.kept.rows at x here in
        subst (IsWritten codec (pdu_sent cmp codec base octets now x)) (sym speaks.spelled)
        (laws.written (is_active x.leave_all) (key_events (sent_events base octets cmp now x)) (laws.fitting now x rows speaks.loud)
        (laws.of_keys now x rows (proper.keys.parts at x here)))

    sending_fit : (now : Cs) (at : ℕ) (pdu : List ℕ) (s : FlatState K) → IsProper cmp IsKey s → said cmp codec base octets now at s ≡ Some pdu → length pdu ≤ 1500
    sending_fit now at pdu s proper is = by (slice_get s.parts at) refl
      where
        by : (o : Option (Part K)) → slice_get s.parts at ≡ o → length pdu ≤ 1500
        by None e = let none : None ≡ Some pdu = ap (λ (o : Option (Part K)). option_map_or (λ part. if is_silent part then None else Some (codec.spelling (pdu_sent cmp codec base octets now part))) o None) (sym e) ∙ is in cc
        by (Some x) e = (written_is now at pdu s x proper e (said_there now at pdu s x e is)).short

    -- the octets say what the participant sends
    message_is : (now : Cs) (at : ℕ) (pdu : List ℕ) (s : FlatState K) (x : Part K) → IsProper cmp IsKey s → slice_get s.parts at ≡ Some x → IsSpeaking now x pdu
        → said_by codec (codec.reading pdu) ≡ Some (sent_messages base octets cmp now x)
    message_is now at pdu s x proper here speaks =
        let events : List (MrpEvent × K) = key_events (sent_events base octets cmp now x) in
        let says = laws.says (is_active x.leave_all) events in
        let message : Bool → List (MrpEvent × K × Unit {0}) → Option (Messages K (Unit {0})) = λ leave_all es. Some (record { leave_all = leave_all; events = es }) in
        ap (said_by codec) (written_is now at pdu s x proper here speaks).reads
        ∙ (ap (λ (b : Bool). message b (said_events (codec.events_of (pdu_sent cmp codec base octets now x)))) says.0
        ∙ (ap (λ (es : List (MrpEvent × K)). message (is_active x.leave_all) (said_events es)) says.1
        ∙ ap (message (is_active x.leave_all)) (events_again (sent_events base octets cmp now x))))

    speaks_met : (now : Cs) (x z : Part K) (sent coming : List (Messages K (Unit {0}))) → is_silent x ≡ false
        → AreDutiesMet cmp (record { near = x; far = z; sent = sent; coming = coming })
        → AreDutiesMet cmp (record { near = sent_state base octets cmp now x; far = z; sent = sent ++ (sent_messages base octets cmp now x ∷ []); coming = coming })
    speaks_met now x z sent coming loud met =
        let l : Link K (Unit {0}) = record { near = x; far = z; sent = sent; coming = coming } in
        subst (λ (b : Bool). AreDutiesMet cmp (if b then l else record l { near = sent_state base octets cmp now l.near; sent = l.sent ++ (sent_messages base octets cmp now l.near ∷ []) }))
        loud (laws.event l (AtNear (Sends now)) met)

    sending_met : (now : Cs) (at : ℕ) (pdu : List ℕ) (s : FlatState K) (there from : List OnePdu) → said cmp codec base octets now at s ≡ Some pdu
        → KeepsDuties w at s (sent_flat cmp base octets now at s) there from (there ++ (record { app = tt; octets = pdu } ∷ [])) from
    sending_met now at pdu s there from is n x y z proper old new met =
        let speaks = said_there now at pdu s x old is in
        let m : Messages K (Unit {0}) = sent_messages base octets cmp now x in
        let coming : List (Messages K (Unit {0})) = filter_map (message_of codec) from in
        let more : filter_map (message_of codec) (there ++ (record { app = tt; octets = pdu } ∷ [])) ≡ filter_map (message_of codec) there ++ (m ∷ [])
        = filter_map-append (message_of codec) there (record { app = tt; octets = pdu } ∷ [])
        ∙ ap (λ (o : Option (Messages K (Unit {0}))). filter_map (message_of codec) there ++ cons_option o []) (message_is now at pdu s x proper old speaks) in
        subst (λ (p : Part K). AreDutiesMet cmp (link_of codec p z (there ++ (record { app = tt; octets = pdu } ∷ [])) from))
        (became at (sent_state base octets cmp now) s (sent_flat cmp base octets now at s) x y (sent_is now at s) old new)
        (subst (λ (ms : List (Messages K (Unit {0}))). AreDutiesMet cmp (record { near = sent_state base octets cmp now x; far = z; sent = ms; coming = coming })) (sym more)
        (speaks_met now x z (filter_map (message_of codec) there) coming speaks.loud met))

    -- ---- requests

    request_stays : (r : KeyRequest K) (s : FlatState K) → Stays w (IsOfKey cmp IsKey r) s (asked cmp r s)
    request_stays (Declare key) s = record { ports = ap length (request_parts key true s); kept = λ own. laws.request key true s own; moment = λ now by. tt }
    request_stays (Withdraw key) s = record { ports = ap length (request_parts key false s); kept = λ own. laws.request key false s own; moment = λ now by. tt }

    -- ---- the laws

    repeats : (x z : Part K) (index : ℕ) (front back from : List OnePdu) → AreDutiesMet cmp (link_of codec x z (front ++ back) from) → AreDutiesMet cmp (link_of codec x z (with_repeat index front ++ back) from)
    repeats x z index front back from met = by (said_twice (message_of codec) index front back)
      where
        by : (filter_map (message_of codec) (with_repeat index front ++ back) ≡ filter_map (message_of codec) (front ++ back))
            ⊎ ((j : ℕ) × (filter_map (message_of codec) (with_repeat index front ++ back) ≡ with_repeat j (filter_map (message_of codec) (front ++ back))))
            → AreDutiesMet cmp (link_of codec x z (with_repeat index front ++ back) from)
        by (inl e) = subst (λ ms. AreDutiesMet cmp (record { near = x; far = z; sent = ms; coming = filter_map (message_of codec) from })) (sym e) met
        by (inr (j, e)) =
            subst (λ ms. AreDutiesMet cmp (record { near = x; far = z; sent = ms; coming = filter_map (message_of codec) from })) (sym e)
            (laws.event (link_of codec x z (front ++ back) from) (AtNear (Repeats j)) met)

    spoiling_met : (at at' : ℕ) (s s' : FlatState K) (x y z u : Part K) (there from there' : List OnePdu)
        → slice_get s.parts at ≡ Some x → slice_get (spoilt_flat at s).parts at ≡ Some y
        → slice_get s'.parts at' ≡ Some z → slice_get (spoilt_flat at' s').parts at' ≡ Some u
        → AreDutiesMet cmp (link_of codec x z there from) → AreDutiesMet cmp (link_of codec y u there' from)
    unfolding unsound_of
    spoiling_met at at' s s' x y z u there from there' old new old' new' met =
        let near : unsound_of x ≡ y = became at unsound_of s (spoilt_flat at s) x y (spoilt_is at s) old new in
        let far : unsound_of z ≡ u = became at' unsound_of s' (spoilt_flat at' s') z u (spoilt_is at' s') old' new' in
        subst (λ (p : Part K). AreDutiesMet cmp (link_of codec p u there' from)) near
        (subst (λ (p : Part K). AreDutiesMet cmp (link_of codec (unsound_of x) p there' from)) far
        (record {
          near_rows = met.near_rows;
          far_rows = met.far_rows;
          near_duty = laws.unsound (unsound_of x) (unsound_of z) _ _ refl;
          far_duty = laws.unsound (unsound_of z) (unsound_of x) _ _ refl;
        }))

    pub has_laws : AppLaws w
    has_laws =
        record {
          part_within = λ n at s x kept old. slice_get_within s.parts at x old;
          part_there = λ n at s proper below. within s.parts at below;
          begins = λ s is. record {
            kept = subst (IsProper cmp IsKey) (sym is.is_new) (laws.new_side is.leave_time is.periodic is.ports);
            idle = ap (λ (t : FlatState K). t.own) is.is_new;
            moment = tt;
          };
          begins_met = λ n at at' s s' x z is is' old old'. new_met at at' s s' x z is is' old old';
          turns = λ n x z there from met. laws.turned (link_of codec x z there from) met;
          repeats = λ n. repeats;
          receipt = λ m. receipt;
          receipt_met = λ m. receipt_met;
          sending = λ m now at s. stays_at (Unit {0}) at (sent_state base octets cmp now) s (sent_flat cmp base octets now at s) (sent_is now at s) (own_same at _ s (λ x. refl)) (λ _. laws.send now at s);
          sending_fit = λ m. sending_fit;
          sending_met = λ m. sending_met;
          due = due_call;
          settling = settle_call;
          leave = leave_call;
          leave_all = λ m. leave_all_call;
          periodic = λ m. periodic_call;
          request = request_stays;
          request_parts = λ r s n k. same_parts r s k;
          clock_ports = λ now s. refl;
          clock_parts = λ now s n k. refl;
          clock = λ now s can. record { kept = λ h. h; moment = tt; idle = λ h. h };
          can_clock = λ now s below at. tt;
          spoiling = λ m at s. stays_at (Unit {0}) at unsound_of s (spoilt_flat at s) (spoilt_is at s) (own_same at _ s (λ x. refl)) (λ _. laws.spoil at s);
          spoiling_met = λ n m at at' s s' x y z u front back from old new a b c d met. spoiling_met at at' s s' x y z u _ from _ a b c d met;
        }
