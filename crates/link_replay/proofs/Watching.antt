-- An observer sees enough: what stands at its end stands with it, whatever happens there.
use Rattle.std.proofs.Common.{◌≡◌, ◌∙◌, ℕ, Bool, true, false, not, if◌then◌else◌, List, [], ◌∷◌, ◌++◌, refl, ap, sym, subst}
use Rattle.std.specs.Prelude.{Option, Some, None, option_map, option_and_then, ◌&&◌}
use Rattle.std.specs.{declared.cmp.Ordering.Ordering, declared.cmp.Ordering.TheVariants.Less, declared.cmp.Ordering.TheVariants.Equal, declared.cmp.Ordering.TheVariants.Greater, Ordering.is_eq}
use Rattle.srp_base.specs.declared.{numbers.Cs.Cs, mrp.MrpEvent.MrpEvent}
use Rattle.srp_base.specs.declared.mrp.MrpEvent.TheVariants.{JoinIn, JoinMt}
use Rattle.applicant.specs.declared.Applicant.{Applicant}
use Rattle.applicant.specs.declared.Applicant.TheVariants.{Vo, Vp, Vn, An, Aa, Qa, La}
use Rattle.registrar.specs.declared.Registrar.{Registrar}
use Rattle.registrar.specs.declared.Registrar.TheVariants.{Held, Leaving, Empty}
use Rattle.registrar.specs.Table.{is_in}
use Rattle.mrp_participant.specs.declared.row.Row.{Row}
use Rattle.mrp_participant.specs.{Lookup.same, Lookup.find, Lookup.ChangesOnly, Row.after_declare, Row.after_withdraw, Row.after_leave, Row.row_after_receive, Row.after_leave_due, Row.periodic_row, Sending.word_of, State.State, State.Messages, State.AreRows, State.after, State.is_active, State.is_silent, State.declared_state, State.withdrawn_state, State.left_state, State.received_state, State.due_state, State.leave_all_state, State.periodic_state, State.sent_state, State.sent_messages, State.event_sent, State.row_sent, State.takes, State.is_periodic_due, State.is_leave_all_due, State.leave_timers_state, State.due_leave_all_state, State.periodic_fired_state}
use Rattle.mrp_participant.specs.{Link.Link, Link.EndEvent, Link.EndEvent.Declares, Link.EndEvent.Withdraws, Link.EndEvent.Leaves, Link.EndEvent.Fires, Link.EndEvent.FiresLeaveAll, Link.EndEvent.FiresPeriodic, Link.EndEvent.Sends, Link.EndEvent.Receives, Link.EndEvent.Loses, Link.EndEvent.Repeats, Link.LinkEvent, Link.LinkEvent.AtNear, Link.LinkEvent.AtFar, Link.after_end_event, Link.after_receiving, Link.after_sending, Link.after_spoiling, Link.other_view}
use Rattle.link_replay.specs.Standing.{Standing, held_by, standing, passing, is_standing, agrees}
use Rattle.link_replay.specs.{Observer.Sight.Goes, own_leave_all_state, all_seen, seen_state, IsObserved, AreObserved, Watched, coming_seen, observer_after, after_watched, all_watched}
use Rattle.link_replay.proofs.Standings.{leaving, ended, received, receives, sent, ends, passes, periodic, declares, withdraws}

-- the laws of a participant that are cited
pub record Laws {K C : Type 0} (base : ℕ) (octets : C → ℕ) (cmp : K → K → Ordering) (eq : C → C → Bool) : Type 0 where
  pub one : (a b : K) → cmp a b ≡ Equal → a ≡ b
  pub declare : (s : State K C) (key : K) (c : C) → AreRows cmp s.rows
      → ChangesOnly cmp key (after_declare eq key c (find cmp key s.rows)) s.rows (declared_state cmp eq key c s).rows
  pub withdraw : (s : State K C) (key : K) → AreRows cmp s.rows
      → ChangesOnly cmp key (after_withdraw (find cmp key s.rows)) s.rows (withdrawn_state cmp key s).rows
  pub leave : (s : State K C) (key : K) → AreRows cmp s.rows
      → ChangesOnly cmp key (after_leave (find cmp key s.rows)) s.rows (left_state cmp key s).rows
  pub receive : (s : State K C) (now : Cs) (leave_all : Bool) (events : List (MrpEvent × K × C)) → AreRows cmp s.rows → (k : K)
      → find cmp k (received_state cmp now leave_all events s).rows ≡ row_after_receive cmp (after now s.leave_time) leave_all events k (find cmp k s.rows)
  pub send : (s : State K C) (now : Cs) → AreRows cmp s.rows → (k : K)
      → find cmp k (sent_state base octets cmp now s).rows ≡ option_and_then (λ r. row_sent base octets cmp now s r) (find cmp k s.rows)
  pub due : (s : State K C) (now : Cs) → AreRows cmp s.rows → (k : K)
      → find cmp k (due_state now s).rows
      ≡ option_map (λ r. if is_periodic_due now s then periodic_row r else r) (option_and_then (after_leave_due now.0) (find cmp k s.rows))
  pub periodic : (s : State K C) (k : K) → find cmp k (periodic_state s).rows ≡ option_map periodic_row (find cmp k s.rows)
  pub leave_rows : (s : State K C) (key : K) → AreRows cmp s.rows → AreRows cmp (left_state cmp key s).rows
  pub receive_rows : (s : State K C) (now : Cs) (leave_all : Bool) (events : List (MrpEvent × K × C)) → AreRows cmp s.rows
      → AreRows cmp (received_state cmp now leave_all events s).rows
  pub due_rows : (s : State K C) (now : Cs) → AreRows cmp s.rows → AreRows cmp (due_state now s).rows

equal : (o : Ordering) → is_eq o ≡ true → o ≡ Equal
equal Less h = cc
equal Equal h = refl
equal Greater h = cc

module _ {K C : Type 0} (base : ℕ) (octets : C → ℕ) (cmp : K → K → Ordering) (eq : C → C → Bool) (laws : Laws base octets cmp eq) where
  -- ---- what each call makes of what stands

  one_at : (key k : K) → same cmp key k ≡ true → key ≡ k
  one_at key k h = laws.one key k (equal (cmp key k) h)

  made_by : (b : Bool) (f : Standing C → Standing C) (key k : K) (rows : List (Row K C)) (new : Option (Row K C)) → (b ≡ true → key ≡ k)
      → standing new ≡ f (standing (find cmp key rows))
      → standing (if b then new else find cmp k rows) ≡ (if b then f (standing (find cmp k rows)) else standing (find cmp k rows))
  made_by true f key k rows new is h = h ∙ ap (λ (x : K). f (standing (find cmp x rows))) (is refl)
  made_by false f key k rows new is h = refl

  made : (f : Standing C → Standing C) (key : K) (rows after : List (Row K C)) (new : Option (Row K C)) → ChangesOnly cmp key new rows after
      → standing new ≡ f (standing (find cmp key rows)) → (k : K)
      → standing (find cmp k after) ≡ (if same cmp key k then f (standing (find cmp k rows)) else standing (find cmp k rows))
  made f key rows after new only h k = ap standing (only k) ∙ made_by (same cmp key k) f key k rows new (one_at key k) h

  either-way : {X : Type 0} (b : Bool) (x : X) → (if b then x else x) ≡ x
  either-way true x = refl
  either-way false x = refl

  received-holds : (s : State K C) (now : Cs) (leave_all : Bool) (events : List (MrpEvent × K × C)) → AreRows cmp s.rows → (k : K)
      → standing (find cmp k (received_state cmp now leave_all events s).rows)
      ≡ received cmp (after now s.leave_time) leave_all events k (standing (find cmp k s.rows))
  received-holds s now leave_all events are k =
      ap standing (laws.receive s now leave_all events are k)
      ∙ receives cmp (after now s.leave_time) leave_all events k (find cmp k s.rows)

  sent-holds : (s : State K C) (now : Cs) → AreRows cmp s.rows → (k : K)
      → standing (find cmp k (sent_state base octets cmp now s).rows)
      ≡ (if is_active s.leave_all then leaving (after now s.leave_time) (standing (find cmp k s.rows)) else standing (find cmp k s.rows))
  sent-holds s now are k =
      ap standing (laws.send s now are k)
      ∙ sent (is_active s.leave_all) (takes base octets cmp s) (after now s.leave_time) (find cmp k s.rows)

  due-holds : (s : State K C) (now : Cs) → AreRows cmp s.rows → (k : K)
      → standing (find cmp k (due_state now s).rows) ≡ passing now.0 (standing (find cmp k s.rows))
  due-holds s now are k =
      ap standing (laws.due s now are k)
      ∙ periodic (is_periodic_due now s) (option_and_then (after_leave_due now.0) (find cmp k s.rows))
      ∙ passes now.0 (find cmp k s.rows)

  periodic-holds : (s : State K C) (k : K) → standing (find cmp k (periodic_state s).rows) ≡ standing (find cmp k s.rows)
  periodic-holds s k = ap standing (laws.periodic s k) ∙ periodic true (find cmp k s.rows)

  -- ---- the time of leave timers stays

  if-time : (b : Bool) (s t : State K C) → s.leave_time ≡ t.leave_time → (if b then s else t).leave_time ≡ t.leave_time
  if-time true s t e = e
  if-time false s t e = refl

  due-time : (s : State K C) (now : Cs) → (due_state now s).leave_time ≡ s.leave_time
  due-time s now =
      let t = leave_timers_state now s in
      let u = due_leave_all_state now t in
      if-time (is_periodic_due now u) (periodic_fired_state now u) u refl
      ∙ if-time (is_leave_all_due now t) (leave_all_state now t) t refl

  -- ---- what is seen

  -- a LeaveAll of the own end, or none
  goes-seen : (b : Bool) (o s t : State K C) (now : Cs) → IsObserved cmp o s → t.leave_time ≡ s.leave_time
      → ((k : K) → standing (find cmp k t.rows) ≡ (if b then leaving (after now s.leave_time) (standing (find cmp k s.rows)) else standing (find cmp k s.rows)))
      → IsObserved cmp (if b then own_leave_all_state cmp now o else o) t
  goes-seen true o s t now seen time holds = record {
    rows = laws.receive_rows o now true [] seen.rows;
    leave_time = seen.leave_time ∙ sym time;
    holds = λ k. received-holds o now true [] seen.rows k
        ∙ ap (λ (u : Cs). leaving (after now u) (standing (find cmp k o.rows))) seen.leave_time
        ∙ ap (leaving (after now s.leave_time)) (seen.holds k)
        ∙ sym (holds k);
  }
  goes-seen false o s t now seen time holds = record {
    rows = seen.rows;
    leave_time = seen.leave_time ∙ sym time;
    holds = λ k. seen.holds k ∙ sym (holds k);
  }

  -- the own end changes nothing that stands
  still-seen : (o s t : State K C) → IsObserved cmp o s → t.leave_time ≡ s.leave_time
      → ((k : K) → standing (find cmp k t.rows) ≡ standing (find cmp k s.rows)) → IsObserved cmp o t
  still-seen o s t seen time holds = record {
    rows = seen.rows;
    leave_time = seen.leave_time ∙ sym time;
    holds = λ k. seen.holds k ∙ sym (holds k);
  }

  comes-seen : (coming : List (Messages K C)) (l : Link K C) (o : State K C) (now : Cs) → AreRows cmp l.near.rows → IsObserved cmp o l.near
      → IsObserved cmp (all_seen cmp o (coming_seen now coming)) (after_receiving cmp now coming l).near
  comes-seen [] l o now are seen = seen
  comes-seen (m ∷ coming) l o now are seen = record {
    rows = laws.receive_rows o now m.leave_all m.events seen.rows;
    leave_time = seen.leave_time;
    holds = λ k. received-holds o now m.leave_all m.events seen.rows k
        ∙ ap (λ (u : Cs). received cmp (after now u) m.leave_all m.events k (standing (find cmp k o.rows))) seen.leave_time
        ∙ ap (received cmp (after now l.near.leave_time) m.leave_all m.events k) (seen.holds k)
        ∙ sym (received-holds l.near now m.leave_all m.events are k);
  }

  sends-seen : (silent : Bool) (l : Link K C) (o : State K C) (now : Cs) → AreRows cmp l.near.rows → IsObserved cmp o l.near
      → IsObserved cmp (all_seen cmp o (if silent then [] else Goes now (sent_messages base octets cmp now l.near) ∷ []))
      (if silent then l else record l { near = sent_state base octets cmp now l.near; sent = l.sent ++ (sent_messages base octets cmp now l.near ∷ []) }).near
  sends-seen true l o now are seen = seen
  sends-seen false l o now are seen = goes-seen (is_active l.near.leave_all) o l.near (sent_state base octets cmp now l.near) now seen refl (sent-holds l.near now are)

  pub event-seen : (l : Link K C) (o : State K C) (e : EndEvent K C) → AreRows cmp l.near.rows → IsObserved cmp o l.near
      → IsObserved cmp (observer_after base octets cmp e l o) (after_end_event base octets cmp eq e l).near
  event-seen l o (Declares key c) are seen = still-seen o l.near (declared_state cmp eq key c l.near) seen refl (λ k.
      made (λ s. s) key l.near.rows (declared_state cmp eq key c l.near).rows (after_declare eq key c (find cmp key l.near.rows))
      (laws.declare l.near key c are) (declares eq key c (find cmp key l.near.rows)) k
      ∙ either-way (same cmp key k) (standing (find cmp k l.near.rows)))
  event-seen l o (Withdraws key) are seen = still-seen o l.near (withdrawn_state cmp key l.near) seen refl (λ k.
      made (λ s. s) key l.near.rows (withdrawn_state cmp key l.near).rows (after_withdraw (find cmp key l.near.rows)) (laws.withdraw l.near key are) (withdraws (find cmp key l.near.rows)) k
      ∙ either-way (same cmp key k) (standing (find cmp k l.near.rows)))
  event-seen l o (Leaves key) are seen = record {
    rows = laws.leave_rows o key seen.rows;
    leave_time = seen.leave_time;
    holds = λ k. made ended key o.rows (left_state cmp key o).rows (after_leave (find cmp key o.rows)) (laws.leave o key seen.rows) (ends (find cmp key o.rows)) k
        ∙ ap (λ (s : Standing C). if same cmp key k then ended s else s) (seen.holds k)
        ∙ sym (made ended key l.near.rows (left_state cmp key l.near).rows (after_leave (find cmp key l.near.rows)) (laws.leave l.near key are) (ends (find cmp key l.near.rows)) k);
  }
  event-seen l o (Fires now) are seen = record {
    rows = laws.due_rows o now seen.rows;
    leave_time = due-time o now ∙ seen.leave_time ∙ sym (due-time l.near now);
    holds = λ k. due-holds o now seen.rows k ∙ ap (passing now.0) (seen.holds k) ∙ sym (due-holds l.near now are k);
  }
  event-seen l o (FiresLeaveAll now) are seen = still-seen o l.near (leave_all_state now l.near) seen refl (λ k. refl)
  event-seen l o FiresPeriodic are seen = still-seen o l.near (periodic_state l.near) seen refl (periodic-holds l.near)
  event-seen l o (Sends now) are seen = sends-seen (is_silent l.near) l o now are seen
  event-seen l o (Receives now) are seen = comes-seen l.coming l o now are seen
  event-seen l o (Loses i) are seen = still-seen o l.near (after_spoiling l.near) seen refl (λ k. refl)
  event-seen l o (Repeats i) are seen = seen

  -- ---- what is said

  standing-left : (b : Bool) (g : Registrar) (c : C) (u until : Cs)
      → is_standing (if b then leaving until (held_by g c u) else held_by g c u) ≡ (is_in g && not b)
  standing-left true Held c u until = refl
  standing-left false Held c u until = refl
  standing-left true Leaving c u until = refl
  standing-left false Leaving c u until = refl
  standing-left true Empty c u until = refl
  standing-left false Empty c u until = refl

  join-agrees : (b : Bool) → agrees (if b then JoinIn else JoinMt) b ≡ true
  join-agrees true = refl
  join-agrees false = refl

  word-agrees : (leave_all : Bool) (a : Applicant) (held : Bool) → agrees (word_of leave_all a held) (held && not leave_all) ≡ true
  word-agrees leave_all Vo held = join-agrees (held && not leave_all)
  word-agrees leave_all Vp held = join-agrees (held && not leave_all)
  word-agrees leave_all Vn held = refl
  word-agrees leave_all An held = refl
  word-agrees leave_all Aa held = join-agrees (held && not leave_all)
  word-agrees leave_all Qa held = join-agrees (held && not leave_all)
  word-agrees leave_all La held = refl

  -- the row of a key that is spoken of says the event
  abbrev pub SaysOf : State K C → Cs → Type 0
  SaysOf s now = (r : Row K C) → takes base octets cmp s r ≡ true
      → event_sent base octets cmp now s r ≡ Some (word_of (is_active s.leave_all) r.applicant (is_in r.registrar), r.key, r.content)

  abbrev pub SaysNothingOf : State K C → Cs → Type 0
  SaysNothingOf s now = (r : Row K C) → takes base octets cmp s r ≡ false → event_sent base octets cmp now s r ≡ None

  word-said : (s : State K C) (now : Cs) → SaysOf s now → SaysNothingOf s now → (e : MrpEvent × K × C) (r : Row K C) (taken : Bool)
      → takes base octets cmp s r ≡ taken → event_sent base octets cmp now s r ≡ Some e
      → word_of (is_active s.leave_all) r.applicant (is_in r.registrar) ≡ e.0
  word-said s now says nothing e r true is said =
      let both : Some (word_of (is_active s.leave_all) r.applicant (is_in r.registrar), r.key, r.content) ≡ Some e = sym (says r is) ∙ said in cc
  word-said s now says nothing e r false is said = let both : None ≡ Some e = sym (nothing r is) ∙ said in cc

  said-of : (s : State K C) (now : Cs) → SaysOf s now → SaysNothingOf s now → (e : MrpEvent × K × C) (until : Cs) (found : Option (Row K C))
      → option_and_then (λ r. event_sent base octets cmp now s r) found ≡ Some e
      → agrees e.0 (is_standing (if is_active s.leave_all then leaving until (standing found) else standing found)) ≡ true
  said-of s now says nothing e until None said = cc
  said-of s now says nothing e until (Some r) said =
      let b = is_active s.leave_all in
      ap (λ (w : MrpEvent). agrees w (is_standing (if b then leaving until (standing (Some r)) else standing (Some r)))) (sym (word-said s now says nothing e r (takes base octets cmp s r) refl said))
      ∙ ap (agrees (word_of b r.applicant (is_in r.registrar))) (standing-left b r.registrar r.heard r.leave until)
      ∙ word-agrees b r.applicant (is_in r.registrar)

  pub said-agrees : (s o : State K C) (now : Cs) → SaysOf s now → SaysNothingOf s now → (e : MrpEvent × K × C) → AreRows cmp s.rows → IsObserved cmp o s
      → option_and_then (λ r. event_sent base octets cmp now s r) (find cmp e.1 s.rows) ≡ Some e
      → agrees e.0 (is_standing (standing (find cmp e.1 (seen_state cmp o (Goes now (sent_messages base octets cmp now s))).rows))) ≡ true
  said-agrees s o now says nothing e are seen said =
      let after_it = goes-seen (is_active s.leave_all) o s (sent_state base octets cmp now s) now seen refl (sent-holds s now are) in
      ap (λ (x : Standing C). agrees e.0 (is_standing x)) (after_it.holds e.1 ∙ sent-holds s now are e.1)
      ∙ said-of s now says nothing e (after now s.leave_time) (find cmp e.1 s.rows) said

-- ---- rows stay rows

pub record RowLaws {K C : Type 0} (base : ℕ) (octets : C → ℕ) (cmp : K → K → Ordering) (eq : C → C → Bool) : Type 0 where
  pub declare : (s : State K C) (key : K) (c : C) → AreRows cmp s.rows → AreRows cmp (declared_state cmp eq key c s).rows
  pub withdraw : (s : State K C) (key : K) → AreRows cmp s.rows → AreRows cmp (withdrawn_state cmp key s).rows
  pub leave : (s : State K C) (key : K) → AreRows cmp s.rows → AreRows cmp (left_state cmp key s).rows
  pub receive : (s : State K C) (now : Cs) (leave_all : Bool) (events : List (MrpEvent × K × C)) → AreRows cmp s.rows
      → AreRows cmp (received_state cmp now leave_all events s).rows
  pub due : (s : State K C) (now : Cs) → AreRows cmp s.rows → AreRows cmp (due_state now s).rows
  pub leave_all : (s : State K C) (now : Cs) → AreRows cmp s.rows → AreRows cmp (leave_all_state now s).rows
  pub periodic : (s : State K C) → AreRows cmp s.rows → AreRows cmp (periodic_state s).rows
  pub send : (s : State K C) (now : Cs) → AreRows cmp s.rows → AreRows cmp (sent_state base octets cmp now s).rows

module _ {K C : Type 0} (base : ℕ) (octets : C → ℕ) (cmp : K → K → Ordering) (eq : C → C → Bool) (laws : RowLaws base octets cmp eq) where
  rows-sent : (silent : Bool) (l : Link K C) (now : Cs) → AreRows cmp l.near.rows
      → AreRows cmp (if silent then l else record l { near = sent_state base octets cmp now l.near; sent = l.sent ++ (sent_messages base octets cmp now l.near ∷ []) }).near.rows
  rows-sent true l now are = are
  rows-sent false l now are = laws.send l.near now are

  rows-received : (coming : List (Messages K C)) (l : Link K C) (now : Cs) → AreRows cmp l.near.rows → AreRows cmp (after_receiving cmp now coming l).near.rows
  rows-received [] l now are = are
  rows-received (m ∷ coming) l now are = laws.receive l.near now m.leave_all m.events are

  pub rows-stay : (l : Link K C) (e : EndEvent K C) → AreRows cmp l.near.rows → AreRows cmp (after_end_event base octets cmp eq e l).near.rows
  rows-stay l (Declares key c) are = laws.declare l.near key c are
  rows-stay l (Withdraws key) are = laws.withdraw l.near key are
  rows-stay l (Leaves key) are = laws.leave l.near key are
  rows-stay l (Fires now) are = laws.due l.near now are
  rows-stay l (FiresLeaveAll now) are = laws.leave_all l.near now are
  rows-stay l FiresPeriodic are = laws.periodic l.near are
  rows-stay l (Sends now) are = rows-sent (is_silent l.near) l now are
  rows-stay l (Receives now) are = rows-received l.coming l now are
  rows-stay l (Loses i) are = are
  rows-stay l (Repeats i) are = are

-- ---- both ends, and lists of events

module _ {K C : Type 0} (base : ℕ) (octets : C → ℕ) (cmp : K → K → Ordering) (eq : C → C → Bool)
    (seen : (l : Link K C) (o : State K C) (e : EndEvent K C) → AreRows cmp l.near.rows → IsObserved cmp o l.near
    → IsObserved cmp (observer_after base octets cmp e l o) (after_end_event base octets cmp eq e l).near)
    (rows : (l : Link K C) (e : EndEvent K C) → AreRows cmp l.near.rows → AreRows cmp (after_end_event base octets cmp eq e l).near.rows) where
  -- what happens at one end leaves what the other holds
  far-sent : (silent : Bool) (l : Link K C) (now : Cs)
      → (if silent then l else record l { near = sent_state base octets cmp now l.near; sent = l.sent ++ (sent_messages base octets cmp now l.near ∷ []) }).far ≡ l.far
  far-sent true l now = refl
  far-sent false l now = refl

  far-received : (coming : List (Messages K C)) (l : Link K C) (now : Cs) → (after_receiving cmp now coming l).far ≡ l.far
  far-received [] l now = refl
  far-received (m ∷ coming) l now = refl

  -- the rows and the leave time of the other end stay
  abbrev pub IsSameEnd : State K C → State K C → Type 0
  IsSameEnd s t = (s.rows ≡ t.rows) × (s.leave_time ≡ t.leave_time)

  same-from : (s t : State K C) → s ≡ t → IsSameEnd s t
  same-from s t e = (ap (λ (x : State K C). x.rows) e, ap (λ (x : State K C). x.leave_time) e)

  far-stays : (l : Link K C) (e : EndEvent K C) → IsSameEnd (after_end_event base octets cmp eq e l).far l.far
  far-stays l (Declares key c) = (refl, refl)
  far-stays l (Withdraws key) = (refl, refl)
  far-stays l (Leaves key) = (refl, refl)
  far-stays l (Fires now) = (refl, refl)
  far-stays l (FiresLeaveAll now) = (refl, refl)
  far-stays l FiresPeriodic = (refl, refl)
  far-stays l (Sends now) = same-from (after_sending base octets cmp now l).far l.far (far-sent (is_silent l.near) l now)
  far-stays l (Receives now) = same-from (after_receiving cmp now l.coming l).far l.far (far-received l.coming l now)
  far-stays l (Loses i) = (refl, refl)
  far-stays l (Repeats i) = (refl, refl)

  still-observed : (o s t : State K C) → IsSameEnd t s → IsObserved cmp o s → IsObserved cmp o t
  still-observed o s t same seen = record {
    rows = seen.rows;
    leave_time = seen.leave_time ∙ sym same.1;
    holds = λ k. seen.holds k ∙ ap (λ (rows : List (Row K C)). standing (find cmp k rows)) (sym same.0);
  }

  still-rows : (s t : State K C) → IsSameEnd t s → AreRows cmp s.rows → AreRows cmp t.rows
  still-rows s t same are = subst (AreRows cmp) (sym same.0) are

  after-one : (w : Watched K C) (e : LinkEvent K C) → AreObserved cmp w → AreObserved cmp (after_watched base octets cmp eq w e)
  after-one w (AtNear e) are = record {
    near_rows = rows w.link e are.near_rows;
    far_rows = still-rows w.link.far (after_end_event base octets cmp eq e w.link).far (far-stays w.link e) are.far_rows;
    near = seen w.link w.near e are.near_rows are.near;
    far = still-observed w.far w.link.far (after_end_event base octets cmp eq e w.link).far (far-stays w.link e) are.far;
  }
  after-one w (AtFar e) are = record {
    near_rows = still-rows w.link.near (after_end_event base octets cmp eq e (other_view w.link)).far (far-stays (other_view w.link) e) are.near_rows;
    far_rows = rows (other_view w.link) e are.far_rows;
    near = still-observed w.near w.link.near (after_end_event base octets cmp eq e (other_view w.link)).far (far-stays (other_view w.link) e) are.near;
    far = seen (other_view w.link) w.far e are.far_rows are.far;
  }

  pub after-all : (w : Watched K C) (events : List (LinkEvent K C)) → AreObserved cmp w → AreObserved cmp (all_watched base octets cmp eq w events)
  after-all w [] are = are
  after-all w (e ∷ events) are = after-all (after_watched base octets cmp eq w e) events (after-one w e are)
