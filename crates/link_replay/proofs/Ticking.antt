-- What is told of a link between two participants that go by ticks.
use Rattle.std.proofs.Common.{◌≡◌, ◌∙◌, ◌≤◌, ℕ, ◌+◌, Bool, true, false, if◌then◌else◌, nat_le, List, [], ◌∷◌, ◌++◌, map, fold, Contains, inl, inr, refl, ap, sym, subst, append-nil, arith}
use Rattle.std.specs.Prelude.{option_map, option_and_then, not, ◌||◌, ◌&&◌}
use Rattle.std.specs.{declared.cmp.Ordering.Ordering, Ordering.is_eq, List.AllByRecursion}
use Rattle.srp_base.specs.declared.{numbers.Cs.Cs, mrp.MrpEvent.MrpEvent}
use Rattle.attribute_propagation.specs.Dirty.{is_awaiting, with_key, all_marked}
use Rattle.mrp_participant.specs.declared.row.Row.{Row}
use Rattle.mrp_participant.specs.{Lookup.find, Row.row_after_receive, Row.after_leave_due, Row.periodic_row, State.State, State.Messages, State.AreRows, State.after, State.is_periodic_due, State.received_state, State.due_state, State.is_active, State.is_silent, State.sent_messages, State.sent_state, State.sent_events}
use Rattle.mrp_participant.specs.{Link.Link, Link.EndEvent, Link.EndEvent.Declares as Declaring, Link.EndEvent.Withdraws as Withdrawing, Link.EndEvent.Fires, Link.EndEvent.Sends, Link.EndEvent.Receives, Link.after_end_event}
use Rattle.link_replay.specs.declared.lines.End.{End}
use Rattle.link_replay.specs.declared.lines.End.TheVariants.{A, B}
use Rattle.link_replay.specs.Ticks.{Ask.Declares, Ask.Withdraws}
use Rattle.link_replay.specs.Standing.{Standing, standing, passing}
use Rattle.link_replay.proofs.Timers.{none_later, in_set, known_later, known_begun, known_said, known_passed, stands_at, due_a, due_b, due_holds, due_time, fires_again}
use Rattle.link_replay.specs.{cs_cmp, new_way, link_passing, link_judged, unseen, Replayed, all_passing, arrived, going_by, both_saying, moments_to, is_quiet, said_at, said_after, replayed_after, broken_then, replay_broken, AreTicksFrom, new_pair, Observer.Sight.Comes, Observer.Sight.Goes, Observer.Sight.Passes, seen_state, IsObserved, observer_after, other_end, WayState, Ways, way_of, passing_way, begun_way, said_way, ways_saying, LinkState, doubted, link_saying, all_arriving, link_arriving, link_broken, Ask, Asks, Tick, Pair, asked, took, ready, IsInEitherOrder, ready_a, ready_b, sent_by_a, sent_by_b, IsSentByBoth, pair_after, told_ready, all_saying, told_after, run_after, run_broken, IsTold, ReadsWhatIsWritten, AreFresh, sent_read, IsKnownUpTo, AreMoments, Lags, Follows}

-- ---- new participants, and no word that is kept

module _ {K C : Type 0} (base : ℕ) (octets : C → ℕ) (cmp : K → K → Ordering) (eq : C → C → Bool)
    (read : List (MrpEvent × K × C) → List (MrpEvent × K × C)) where
  -- a participant that has heard nothing, of which no PDU was seen yet
  lags_fresh : (next leave_time : Cs) (own : State K C) (coming : List (Messages K C)) (speaker : End) → 1 ≤ leave_time.0
      → own.rows ≡ [] → own.leave_time ≡ leave_time → coming ≡ []
      → Lags base octets cmp eq read next own coming (new_way speaker leave_time)
  lags_fresh next leave_time own coming speaker some none time nothing = record {
    are_rows = subst (AreRows cmp) (sym none) (tt, tt);
    same_time = sym time;
    known = record { rows = (tt, tt); some = some; time = refl; before = record { 0 = 0 }; low = omega arith; ends = λ k. tt };
    lags = λ at low k.
        ap (λ (ms : List (Messages K C)). passing at.0 (standing (find cmp k (took base octets cmp eq read next own ms).rows))) nothing
        ∙ ap (λ (rows : List (Row K C)). passing at.0 (standing (find cmp k rows))) none;
  }

  pub follows_fresh : (leave_time first : Cs) (p : Pair K C) → 1 ≤ leave_time.0 → AreFresh leave_time p
      → Follows base octets cmp eq read first p (unseen leave_time)
  follows_fresh leave_time first p some fresh = record {
    at_a = lags_fresh first leave_time p.a p.from_b B some fresh.a_rows fresh.a_time fresh.from_b;
    at_b = lags_fresh first leave_time p.b p.from_a A some fresh.b_rows fresh.b_time fresh.from_a;
    none_kept = refl;
  }

  pub follows_new : (leave_time first : Cs) (a b : Cs × Bool) → 1 ≤ leave_time.0
      → Follows base octets cmp eq read first (new_pair leave_time a b) (unseen leave_time)
  follows_new leave_time first a b some =
      follows_fresh leave_time first (new_pair leave_time a b) some (record {
        a_rows = refl;
        b_rows = refl;
        a_time = refl;
        b_time = refl;
        from_a = refl;
        from_b = refl;
      })

-- where no word is kept, none is broken
pub none_then : {K C : Type 0} (cmp : K → K → Ordering) (r : Replayed K C) → r.link.kept ≡ [] → broken_then cmp r ≡ 0
none_then cmp r is = rw is refl

-- ---- one end

module _ {K C : Type 0} (base : ℕ) (octets : C → ℕ) (cmp : K → K → Ordering) (eq : C → C → Bool)
    (read : List (MrpEvent × K × C) → List (MrpEvent × K × C)) (only : ReadsWhatIsWritten read)
    (seen : (l : Link K C) (o : State K C) (e : EndEvent K C) → AreRows cmp l.near.rows → IsObserved cmp o l.near
    → IsObserved cmp (observer_after base octets cmp e l o) (after_end_event base octets cmp eq e l).near)
    (rows : (l : Link K C) (e : EndEvent K C) → AreRows cmp l.near.rows → AreRows cmp (after_end_event base octets cmp eq e l).near.rows) where
  -- an end and its observer
  record Both (o s : State K C) : Type 0 where
    pub are_rows : AreRows cmp s.rows
    pub observed : IsObserved cmp o s

  -- an end with some lists of messages that are coming
  abbrev end_with : List (Messages K C) → State K C → Link K C
  end_with coming s = record { near = s; far = s; sent = []; coming = coming }

  asks : (asked_for : List (Ask K C)) (o s : State K C) → Both o s → Both o (fold (asked base octets cmp eq read) s asked_for)
  asks [] o s both = both
  asks (Declares k c ∷ rest) o s both = asks rest o _ (record {
    are_rows = rows (end_with [] s) (Declaring k c) both.are_rows;
    observed = seen (end_with [] s) o (Declaring k c) both.are_rows both.observed;
  })
  asks (Withdraws k ∷ rest) o s both = asks rest o _ (record {
    are_rows = rows (end_with [] s) (Withdrawing k) both.are_rows;
    observed = seen (end_with [] s) o (Withdrawing k) both.are_rows both.observed;
  })

  -- the observer once some lists of messages came in
  abbrev coming_to : Cs → State K C → List (Messages K C) → State K C
  coming_to at o coming = fold (λ o m. seen_state cmp o (Comes at m)) o coming

  takes : (at : Cs) (coming : List (Messages K C)) (o s : State K C) → Both o s → Both (coming_to at o coming) (took base octets cmp eq read at s coming)
  takes at [] o s both = both
  takes at (m ∷ rest) o s both = takes at rest (seen_state cmp o (Comes at m)) (received_state cmp at m.leave_all m.events s) (record {
    are_rows = rows (end_with (m ∷ []) s) (Receives at) both.are_rows;
    observed = seen (end_with (m ∷ []) s) o (Receives at) both.are_rows both.observed;
  })

  fires : (at : Cs) (o s : State K C) → Both o s → Both (seen_state cmp o (Passes at)) (due_state at s)
  fires at o s both = record {
    are_rows = rows (end_with [] s) (Fires at) both.are_rows;
    observed = seen (end_with [] s) o (Fires at) both.are_rows both.observed;
  }

  -- when it comes to send
  readies : (at : Cs) (a : Asks K C) (coming : List (Messages K C)) (o s : State K C) → Both o s
      → Both (seen_state cmp (coming_to at o coming) (Passes at)) (ready base octets cmp eq read at a coming s)
  readies at a coming o s both =
      asks a.later (seen_state cmp (coming_to at o coming) (Passes at)) _ (fires at _ _ (takes at coming o _ (asks a.first o s both)))

  -- it sends
  abbrev rows_if : Cs → State K C → Bool → Type 0
  rows_if at s silent = AreRows cmp (if silent then end_with [] s else record (end_with [] s) {
    near = sent_state base octets cmp at s;
    sent = [] ++ (sent_messages base octets cmp at s ∷ []);
  }).near.rows

  abbrev seen_if : Cs → State K C → State K C → Bool → Type 0
  seen_if at o s silent = IsObserved cmp
      (fold (seen_state cmp) o (if silent then [] else Goes at (sent_messages base octets cmp at s) ∷ []))
      (if silent then end_with [] s else record (end_with [] s) {
        near = sent_state base octets cmp at s;
        sent = [] ++ (sent_messages base octets cmp at s ∷ []);
      }).near

  sends : (at : Cs) (o s : State K C) → is_silent s ≡ false → Both o s
      → Both (seen_state cmp o (Goes at (sent_messages base octets cmp at s))) (sent_state base octets cmp at s)
  sends at o s speaks both = record {
    are_rows = subst (rows_if at s) speaks (rows (end_with [] s) (Sends at) both.are_rows);
    observed = subst (seen_if at o s) speaks (seen (end_with [] s) o (Sends at) both.are_rows both.observed);
  }

  -- ---- what is told of the link

  -- a link that is told right, of two ends, with what is on its way
  record Told (l : LinkState K C) (a b : State K C) (on : List (End × Messages K C)) : Type 0 where
    pub at_a : Both l.ways.from_b.observer a
    pub at_b : Both l.ways.from_a.observer b
    pub on_way : l.on_way ≡ on
    pub kept : l.kept ≡ []

  module _ (comes : (way : WayState K C) (now : Cs) (m : Messages K C) → (said_way cmp now m way).observer ≡ seen_state cmp way.observer (Comes now m))
      (goes : (way : WayState K C) (now : Cs) (m : Messages K C) → (begun_way cmp now m.leave_all way).observer ≡ seen_state cmp way.observer (Goes now m))
      (none : (own : State K C) (ways : Ways K C) (who : End) (now : Cs) (events : List (MrpEvent × K × C)) → AreRows cmp own.rows
      → IsObserved cmp (way_of (other_end who) ways).observer own
      → ((e : MrpEvent × K × C) → Contains events e → Contains (sent_events base octets cmp now own) e)
      → doubted cmp (ways_saying cmp now who (record { leave_all = is_active own.leave_all; events = events }) ways) who events ≡ []) where
    -- a way after some lists of messages have arrived
    abbrev all_said : Cs → WayState K C → List (Messages K C) → WayState K C
    all_said at way ms = fold (λ way m. said_way cmp at m way) way ms

    all_come : (at : Cs) (ms : List (Messages K C)) (way : WayState K C) → (all_said at way ms).observer ≡ coming_to at way.observer ms
    all_come at [] way = refl
    all_come at (m ∷ ms) way = all_come at ms (said_way cmp at m way) ∙ ap (λ (o : State K C). coming_to at o ms) (comes way at m)

    arrive_a : (at : Cs) (ms : List (Messages K C)) (w : Ways K C) (rest : List (End × Messages K C))
        → all_arriving cmp at w (map (λ m. (A, m)) ms ++ rest) ≡ all_arriving cmp at (record w { from_a = all_said at w.from_a ms }) rest
    arrive_a at [] w rest = refl
    arrive_a at (m ∷ ms) w rest = arrive_a at ms (record w { from_a = said_way cmp at m w.from_a }) rest

    arrive_b : (at : Cs) (ms : List (Messages K C)) (w : Ways K C) (rest : List (End × Messages K C))
        → all_arriving cmp at w (map (λ m. (B, m)) ms ++ rest) ≡ all_arriving cmp at (record w { from_b = all_said at w.from_b ms }) rest
    arrive_b at [] w rest = refl
    arrive_b at (m ∷ ms) w rest = arrive_b at ms (record w { from_b = said_way cmp at m w.from_b }) rest

    -- what was on its way has arrived, whichever was said first
    arrives : (at : Cs) (l : LinkState K C) (from_a from_b : List (Messages K C))
        → IsInEitherOrder (map (λ m. (A, m)) from_a) (map (λ m. (B, m)) from_b) l.on_way
        → all_arriving cmp at l.ways l.on_way
        ≡ record { from_a = all_said at l.ways.from_a from_a; from_b = all_said at l.ways.from_b from_b }
    arrives at l from_a from_b (inl is) =
        let w = record l.ways { from_a = all_said at l.ways.from_a from_a } in
        ap (all_arriving cmp at l.ways) is ∙ arrive_a at from_a l.ways (map (λ m. (B, m)) from_b)
        ∙ ap (all_arriving cmp at w) (sym (append-nil (map (λ m. (B, m)) from_b))) ∙ arrive_b at from_b w []
    arrives at l from_a from_b (inr is) =
        let w = record l.ways { from_b = all_said at l.ways.from_b from_b } in
        ap (all_arriving cmp at l.ways) is ∙ arrive_b at from_b l.ways (map (λ m. (A, m)) from_a)
        ∙ ap (all_arriving cmp at w) (sym (append-nil (map (λ m. (A, m)) from_a))) ∙ arrive_a at from_a w []

    gets_ready : (t : Tick K C) (p : Pair K C) (l : LinkState K C)
        → Told l p.a p.b (map (λ m. (A, m)) p.from_a ++ map (λ m. (B, m)) p.from_b)
        → Told (told_ready base octets cmp eq read t.at l) (ready_a base octets cmp eq read t p) (ready_b base octets cmp eq read t p) []
    gets_ready t p l told =
        let here = arrives t.at l p.from_a p.from_b (inl told.on_way) in
        record {
          at_a = subst (λ (o : State K C). Both (due_state t.at o) (ready_a base octets cmp eq read t p))
              (sym (ap (λ (w : Ways K C). w.from_b.observer) here ∙ all_come t.at p.from_b l.ways.from_b))
              (readies t.at t.asks_a p.from_b l.ways.from_b.observer p.a told.at_a);
          at_b = subst (λ (o : State K C). Both (due_state t.at o) (ready_b base octets cmp eq read t p))
              (sym (ap (λ (w : Ways K C). w.from_a.observer) here ∙ all_come t.at p.from_a l.ways.from_a))
              (readies t.at t.asks_b p.from_a l.ways.from_a.observer p.b told.at_b);
          on_way = refl;
          kept = refl;
        }

    -- an end says what it sends
    one_from_a : (at : Cs) (l : LinkState K C) (a b : State K C) (on : List (End × Messages K C)) → is_silent a ≡ false → Told l a b on
        → Told (link_saying cmp at A (sent_read base octets cmp eq read at a) l) (sent_state base octets cmp at a) b (on ++ ((A, sent_read base octets cmp eq read at a) ∷ []))
    one_from_a at l a b on speaks told = record {
      at_a = subst (λ (o : State K C). Both o (sent_state base octets cmp at a)) (sym (goes l.ways.from_b at (sent_read base octets cmp eq read at a)))
          (sends at l.ways.from_b.observer a speaks told.at_a);
      at_b = told.at_b;
      on_way = ap (λ (x : List (End × Messages K C)). x ++ ((A, sent_read base octets cmp eq read at a) ∷ [])) told.on_way;
      kept = ap (λ (x : List (End × (MrpEvent × K × C))). x ++ doubted cmp (ways_saying cmp at A (sent_read base octets cmp eq read at a) l.ways) A (read (sent_events base octets cmp at a))) told.kept
          ∙ none a l.ways A at (read (sent_events base octets cmp at a)) told.at_a.are_rows told.at_a.observed (only (sent_events base octets cmp at a));
    }

    one_from_b : (at : Cs) (l : LinkState K C) (a b : State K C) (on : List (End × Messages K C)) → is_silent b ≡ false → Told l a b on
        → Told (link_saying cmp at B (sent_read base octets cmp eq read at b) l) a (sent_state base octets cmp at b) (on ++ ((B, sent_read base octets cmp eq read at b) ∷ []))
    one_from_b at l a b on speaks told = record {
      at_a = told.at_a;
      at_b = subst (λ (o : State K C). Both o (sent_state base octets cmp at b)) (sym (goes l.ways.from_a at (sent_read base octets cmp eq read at b)))
          (sends at l.ways.from_a.observer b speaks told.at_b);
      on_way = ap (λ (x : List (End × Messages K C)). x ++ ((B, sent_read base octets cmp eq read at b) ∷ [])) told.on_way;
      kept = ap (λ (x : List (End × (MrpEvent × K × C))). x ++ doubted cmp (ways_saying cmp at B (sent_read base octets cmp eq read at b) l.ways) B (read (sent_events base octets cmp at b))) told.kept
          ∙ none b l.ways B at (read (sent_events base octets cmp at b)) told.at_b.are_rows told.at_b.observed (only (sent_events base octets cmp at b));
    }

    -- it speaks only where it isn't silent
    speaks : (sends : Bool) (s : State K C) → (not sends || is_silent s) ≡ false → is_silent s ≡ false
    speaks true s h = h
    speaks false s h = cc

    says_a : (sends silent : Bool) (at : Cs) (l : LinkState K C) (a b : State K C) (on : List (End × Messages K C)) → (not sends || is_silent a) ≡ silent → Told l a b on
        → Told (all_saying base octets cmp eq read at A l (if silent then [] else sent_read base octets cmp eq read at a ∷ []))
        (if silent then a else sent_state base octets cmp at a) b
        (on ++ map (λ m. (A, m)) (if silent then [] else sent_read base octets cmp eq read at a ∷ []))
    says_a sends true at l a b on is told = subst (Told l a b) (sym (append-nil on)) told
    says_a sends false at l a b on is told = one_from_a at l a b on (speaks sends a is) told

    says_b : (sends silent : Bool) (at : Cs) (l : LinkState K C) (a b : State K C) (on : List (End × Messages K C)) → (not sends || is_silent b) ≡ silent → Told l a b on
        → Told (all_saying base octets cmp eq read at B l (if silent then [] else sent_read base octets cmp eq read at b ∷ []))
        a (if silent then b else sent_state base octets cmp at b)
        (on ++ map (λ m. (B, m)) (if silent then [] else sent_read base octets cmp eq read at b ∷ []))
    says_b sends true at l a b on is told = subst (Told l a b) (sym (append-nil on)) told
    says_b sends false at l a b on is told = one_from_b at l a b on (speaks sends b is) told

    -- an end says something, and then the other
    one_says : (at : Cs) (who : End) (ms : List (Messages K C)) (l : LinkState K C)
        → both_saying cmp at l (map (λ m. (who, m)) ms) ≡ all_saying base octets cmp eq read at who l ms
    one_says at who [] l = refl
    one_says at who (m ∷ ms) l = one_says at who ms (link_saying cmp at who m l)

    both_say : (at : Cs) (who other : End) (ms ns : List (Messages K C)) (l : LinkState K C)
        → both_saying cmp at l (map (λ m. (who, m)) ms ++ map (λ m. (other, m)) ns)
        ≡ all_saying base octets cmp eq read at other (all_saying base octets cmp eq read at who l ms) ns
    both_say at who other [] ns l = one_says at other ns l
    both_say at who other (m ∷ ms) ns l = both_say at who other ms ns (link_saying cmp at who m l)

    -- a tick
    ticks_on : (t : Tick K C) (p : Pair K C) (l : LinkState K C) → IsTold cmp (p, l)
        → IsTold cmp (pair_after base octets cmp eq read p t, told_after base octets cmp eq read p l t)
    ticks_on t p l told =
        let a = ready_a base octets cmp eq read t p in
        let b = ready_b base octets cmp eq read t p in
        let here = gets_ready t p l (record {
          at_a = record { are_rows = told.a_rows; observed = told.a };
          at_b = record { are_rows = told.b_rows; observed = told.b };
          on_way = told.on_way;
          kept = told.kept;
        }) in
        let l_a = told_ready base octets cmp eq read t.at l in
        let first = says_a t.asks_a.sends (not t.asks_a.sends || is_silent a) t.at l_a a b [] refl here in
        let both = says_b t.asks_b.sends (not t.asks_b.sends || is_silent b) t.at _ _ b _ refl first in
        record {
          a_rows = both.at_a.are_rows;
          b_rows = both.at_b.are_rows;
          a = both.at_a.observed;
          b = both.at_b.observed;
          on_way = both.on_way;
          kept = both.kept;
        }

    pub runs_on : (ticks : List (Tick K C)) (x : Pair K C × LinkState K C) → IsTold cmp x → IsTold cmp (run_after base octets cmp eq read x ticks)
    runs_on [] x told = told
    runs_on (t ∷ ticks) x told = runs_on ticks (pair_after base octets cmp eq read x.0 t, told_after base octets cmp eq read x.0 x.1 t) (ticks_on t x.0 x.1 told)

    -- no word is kept, so none is broken
    unbroken : (at : Cs) (l : LinkState K C) → l.kept ≡ [] → link_broken cmp (link_arriving cmp at l) ≡ 0
    unbroken at l is = rw is refl

    pub none_broken : (ticks : List (Tick K C)) (x : Pair K C × LinkState K C) → IsTold cmp x → run_broken base octets cmp eq read x ticks ≡ 0
    none_broken [] x told = refl
    none_broken (t ∷ ticks) x told =
        let here = unbroken t.at x.1 told.kept in
        let rest = none_broken ticks (pair_after base octets cmp eq read x.0 t, told_after base octets cmp eq read x.0 x.1 t) (ticks_on t x.0 x.1 told) in
        rw (here, rest) refl

    -- ---- as a replay has it

    module _ (marked : (k x : Cs) (keys : List Cs) → is_awaiting cs_cmp k (with_key cs_cmp x keys) ≡ (is_eq (cs_cmp x k) || is_awaiting cs_cmp k keys))
        (all : (k : Cs) (more keys : List Cs) → is_awaiting cs_cmp k (all_marked cs_cmp more keys) ≡ (is_awaiting cs_cmp k more || is_awaiting cs_cmp k keys))
        (receive : (s : State K C) (now : Cs) (leave_all : Bool) (events : List (MrpEvent × K × C)) → AreRows cmp s.rows → (k : K)
        → find cmp k (received_state cmp now leave_all events s).rows ≡ row_after_receive cmp (after now s.leave_time) leave_all events k (find cmp k s.rows))
        (receive_rows : (s : State K C) (now : Cs) (leave_all : Bool) (events : List (MrpEvent × K × C)) → AreRows cmp s.rows
        → AreRows cmp (received_state cmp now leave_all events s).rows)
        (due : (s : State K C) (now : Cs) → AreRows cmp s.rows → (k : K)
        → find cmp k (due_state now s).rows
        ≡ option_map (λ r. if is_periodic_due now s then periodic_row r else r) (option_and_then (after_leave_due now.0) (find cmp k s.rows)))
        (due_rows : (s : State K C) (now : Cs) → AreRows cmp s.rows → AreRows cmp (due_state now s).rows) where
      -- what stands of a key
      abbrev stands_of : K → State K C → Standing C
      stands_of k s = standing (find cmp k s.rows)

      abbrev later_ways : WayState K C → List Cs → WayState K C
      later_ways way moments = fold (λ way u. passing_way u way) way moments

      -- ---- the parts of a link

      passing_a : (moments : List Cs) (l : LinkState K C) → (all_passing cmp l moments).ways.from_a ≡ later_ways l.ways.from_a moments
      passing_a [] l = refl
      passing_a (u ∷ moments) l = passing_a moments (link_passing u l)

      passing_b : (moments : List Cs) (l : LinkState K C) → (all_passing cmp l moments).ways.from_b ≡ later_ways l.ways.from_b moments
      passing_b [] l = refl
      passing_b (u ∷ moments) l = passing_b moments (link_passing u l)

      passing_on_way : (moments : List Cs) (l : LinkState K C) → (all_passing cmp l moments).on_way ≡ l.on_way
      passing_on_way [] l = refl
      passing_on_way (u ∷ moments) l = passing_on_way moments (link_passing u l)

      passing_kept : (moments : List Cs) (l : LinkState K C) → (all_passing cmp l moments).kept ≡ l.kept
      passing_kept [] l = refl
      passing_kept (u ∷ moments) l = passing_kept moments (link_passing u l)

      abbrev all_begun : Cs → WayState K C → List (Messages K C) → WayState K C
      all_begun at way ms = fold (λ way m. begun_way cmp at m.leave_all way) way ms

      a_says_a : (at : Cs) (ms : List (Messages K C)) (l : LinkState K C) → (all_saying base octets cmp eq read at A l ms).ways.from_a ≡ l.ways.from_a
      a_says_a at [] l = refl
      a_says_a at (m ∷ ms) l = a_says_a at ms (link_saying cmp at A m l)

      a_says_b : (at : Cs) (ms : List (Messages K C)) (l : LinkState K C)
          → (all_saying base octets cmp eq read at A l ms).ways.from_b ≡ all_begun at l.ways.from_b ms
      a_says_b at [] l = refl
      a_says_b at (m ∷ ms) l = a_says_b at ms (link_saying cmp at A m l)

      b_says_b : (at : Cs) (ms : List (Messages K C)) (l : LinkState K C) → (all_saying base octets cmp eq read at B l ms).ways.from_b ≡ l.ways.from_b
      b_says_b at [] l = refl
      b_says_b at (m ∷ ms) l = b_says_b at ms (link_saying cmp at B m l)

      b_says_a : (at : Cs) (ms : List (Messages K C)) (l : LinkState K C)
          → (all_saying base octets cmp eq read at B l ms).ways.from_a ≡ all_begun at l.ways.from_a ms
      b_says_a at [] l = refl
      b_says_a at (m ∷ ms) l = b_says_a at ms (link_saying cmp at B m l)

      -- ---- what is known of timers

      known_all_said : (at : Cs) (ms : List (Messages K C)) (way : WayState K C) → IsKnownUpTo cmp at way → IsKnownUpTo cmp at (all_said at way ms)
      known_all_said at [] way known = known
      known_all_said at (m ∷ ms) way known =
          known_all_said at ms (said_way cmp at m way) (known_said cmp marked all receive receive_rows due due_rows at m way known)

      known_all_begun : (at : Cs) (ms : List (Messages K C)) (way : WayState K C) → IsKnownUpTo cmp at way → IsKnownUpTo cmp at (all_begun at way ms)
      known_all_begun at [] way known = known
      known_all_begun at (m ∷ ms) way known =
          known_all_begun at ms (begun_way cmp at m.leave_all way) (known_begun cmp marked all receive receive_rows due due_rows m.leave_all at way known)

      -- ---- leave times stay

      later_time : (moments : List Cs) (way : WayState K C) → (later_ways way moments).observer.leave_time ≡ way.observer.leave_time
      later_time [] way = refl
      later_time (u ∷ moments) way = later_time moments (passing_way u way) ∙ due_time cmp marked all receive receive_rows due due_rows way.observer u

      took_time : (at : Cs) (ms : List (Messages K C)) (s : State K C) → (took base octets cmp eq read at s ms).leave_time ≡ s.leave_time
      took_time at [] s = refl
      took_time at (m ∷ ms) s = took_time at ms (received_state cmp at m.leave_all m.events s)

      -- ---- one end, told by an observer that has seen what it has but for the time since

      -- an end is its own observer
      itself : (s : State K C) → AreRows cmp s.rows → Both s s
      itself s are = record { are_rows = are; observed = record { rows = are; leave_time = refl; holds = λ k. refl } }

      -- what stands at an end when it comes to send
      ready_holds : (at : Cs) (a : Asks K C) (coming : List (Messages K C)) (own : State K C) → AreRows cmp own.rows → (k : K)
          → stands_of k (ready base octets cmp eq read at a coming own) ≡ passing at.0 (stands_of k (took base octets cmp eq read at own coming))
      ready_holds at a coming own are k =
          let real = readies at a coming own own (itself own are) in
          let taken = takes at coming own own (itself own are) in
          sym (real.observed.holds k) ∙ due_holds cmp marked all receive receive_rows due due_rows (took base octets cmp eq read at own coming) at taken.are_rows k

      ready_rows : (at : Cs) (a : Asks K C) (coming : List (Messages K C)) (own : State K C) → AreRows cmp own.rows
          → AreRows cmp (ready base octets cmp eq read at a coming own).rows
      ready_rows at a coming own are = (readies at a coming own own (itself own are)).are_rows

      ready_time : (at : Cs) (a : Asks K C) (coming : List (Messages K C)) (own : State K C) → AreRows cmp own.rows
          → (ready base octets cmp eq read at a coming own).leave_time ≡ own.leave_time
      ready_time at a coming own are =
          let real = readies at a coming own own (itself own are) in
          sym real.observed.leave_time
          ∙ due_time cmp marked all receive receive_rows due due_rows (took base octets cmp eq read at own coming) at
          ∙ took_time at coming own

      -- time goes on at its observer
      catches_up : (at : Cs) (a : Asks K C) (coming : List (Messages K C)) (own : State K C) (way : WayState K C) (moments : List Cs)
          → Lags base octets cmp eq read at own coming way → AllByRecursion (λ m. m.0 ≤ at.0) moments
          → ((u : Cs) → nat_le u.0 at.0 ≡ true → is_awaiting cs_cmp u way.ends ≡ true → is_awaiting cs_cmp u moments ≡ true)
          → Both (later_ways way moments).observer (ready base octets cmp eq read at a coming own)
      catches_up at a coming own way moments lag low all_in =
          let there = known_passed cmp marked all receive receive_rows due due_rows moments at way low lag.known in
          record {
            are_rows = ready_rows at a coming own lag.are_rows;
            observed = record {
              rows = there.rows;
              leave_time = later_time moments way ∙ lag.same_time ∙ sym (ready_time at a coming own lag.are_rows);
              holds = λ k.
                  stands_at cmp marked all receive receive_rows due due_rows at moments way lag.known low all_in k
                  ∙ sym (lag.lags at (omega arith) k)
                  ∙ sym (ready_holds at a coming own lag.are_rows k);
            };
          }

      -- nothing is said in a tick
      lags_on : (at : Cs) (a : Asks K C) (coming : List (Messages K C)) (own : State K C) (way : WayState K C) → Lags base octets cmp eq read at own coming way
          → Lags base octets cmp eq read (record { 0 = at.0 + 1 }) (ready base octets cmp eq read at a coming own) [] way
      lags_on at a coming own way lag = record {
        are_rows = ready_rows at a coming own lag.are_rows;
        same_time = lag.same_time ∙ sym (ready_time at a coming own lag.are_rows);
        known = known_later cmp marked all receive receive_rows due due_rows at (record { 0 = at.0 + 1 }) way (omega arith) lag.known;
        lags = λ then_at low k.
            ap (passing then_at.0) (ready_holds at a coming own lag.are_rows k)
            ∙ fires_again cmp marked all receive receive_rows due due_rows at then_at (stands_of k (took base octets cmp eq read at own coming)) (omega (arith, low))
            ∙ lag.lags then_at (omega (arith, low)) k;
      }

      -- something was said to it
      lags_anew : (next : Cs) (coming : List (Messages K C)) (own : State K C) (way : WayState K C) → Both way.observer own → IsKnownUpTo cmp next way
          → Lags base octets cmp eq read next own coming (all_said next way coming)
      lags_anew next coming own way both known =
          let there = takes next coming way.observer own both in
          record {
            are_rows = both.are_rows;
            same_time = ap (λ (o : State K C). o.leave_time) (all_come next coming way) ∙ there.observed.leave_time ∙ took_time next coming own;
            known = known_all_said next coming way known;
            lags = λ at low k. ap (passing at.0)
                (sym (there.observed.holds k) ∙ ap (stands_of k) (sym (all_come next coming way)));
          }

      -- ---- both ends

      pub both_rows : (t : Tick K C) (p : Pair K C) (r : Replayed K C) → Follows base octets cmp eq read t.at p r
          → AreRows cmp (ready_a base octets cmp eq read t p).rows × AreRows cmp (ready_b base octets cmp eq read t p).rows
      both_rows t p r follows =
          (ready_rows t.at t.asks_a p.from_b p.a follows.at_a.are_rows, ready_rows t.at t.asks_b p.from_a p.b follows.at_b.are_rows)

      -- time has gone on to a tick
      caught_up : (t : Tick K C) (p : Pair K C) (r : Replayed K C) (moments : List Cs) → Follows base octets cmp eq read t.at p r → AreMoments cmp t.at r moments
          → Told (going_by cmp moments r) (ready_a base octets cmp eq read t p) (ready_b base octets cmp eq read t p) []
      caught_up t p r moments follows are =
          let l = link_judged (arrived cmp r) in
          record {
            at_a = subst (λ (way : WayState K C). Both way.observer (ready_a base octets cmp eq read t p)) (sym (passing_b moments l))
                (catches_up t.at t.asks_a p.from_b p.a l.ways.from_b moments follows.at_a are.low
                (λ u low here. are.each u (due_b cmp marked all receive receive_rows due due_rows t.at l.ways u low here)));
            at_b = subst (λ (way : WayState K C). Both way.observer (ready_b base octets cmp eq read t p)) (sym (passing_a moments l))
                (catches_up t.at t.asks_b p.from_a p.b l.ways.from_a moments follows.at_b are.low
                (λ u low here. are.each u (due_a cmp marked all receive receive_rows due due_rows t.at l.ways u low here)));
            on_way = passing_on_way moments l;
            kept = passing_kept moments l;
          }

      -- a tick in which nothing is said
      abbrev pair_by : Tick K C → Pair K C → Bool → Bool → Pair K C
      pair_by t p silent_a silent_b =
          let a = ready_a base octets cmp eq read t p in
          let b = ready_b base octets cmp eq read t p in
          record {
            a = if silent_a then a else sent_state base octets cmp t.at a;
            b = if silent_b then b else sent_state base octets cmp t.at b;
            from_a = if silent_a then [] else sent_read base octets cmp eq read t.at a ∷ [];
            from_b = if silent_b then [] else sent_read base octets cmp eq read t.at b ∷ [];
          }

      pub quietly : (silent_a silent_b : Bool) (t : Tick K C) (p : Pair K C) (r : Replayed K C) → (silent_a && silent_b) ≡ true → Follows base octets cmp eq read t.at p r
          → Follows base octets cmp eq read (record { 0 = t.at.0 + 1 }) (pair_by t p silent_a silent_b) r
      quietly true true t p r is follows = record {
        at_a = lags_on t.at t.asks_a p.from_b p.a (arrived cmp r).ways.from_b follows.at_a;
        at_b = lags_on t.at t.asks_b p.from_a p.b (arrived cmp r).ways.from_a follows.at_b;
        none_kept = follows.none_kept;
      }
      quietly true false t p r is follows = cc
      quietly false true t p r is follows = cc
      quietly false false t p r is follows = cc

      -- a link once both ends have said what they send in a tick, whichever was first
      record HaveSaid (t : Tick K C) (p : Pair K C) (l new : LinkState K C) : Type 0 where
        pub on : List (End × Messages K C)
        pub told : Told new (pair_after base octets cmp eq read p t).a (pair_after base octets cmp eq read p t).b on
        pub order : IsSentByBoth base octets cmp eq read t p on
        pub from_a : new.ways.from_a ≡ all_begun t.at l.ways.from_a (pair_after base octets cmp eq read p t).from_b
        pub from_b : new.ways.from_b ≡ all_begun t.at l.ways.from_b (pair_after base octets cmp eq read p t).from_a

      a_first : (t : Tick K C) (p : Pair K C) (l : LinkState K C)
          → Told l (ready_a base octets cmp eq read t p) (ready_b base octets cmp eq read t p) []
          → HaveSaid t p l (all_saying base octets cmp eq read t.at B
          (all_saying base octets cmp eq read t.at A l (pair_after base octets cmp eq read p t).from_a) (pair_after base octets cmp eq read p t).from_b)
      a_first t p l told =
          let a = ready_a base octets cmp eq read t p in
          let b = ready_b base octets cmp eq read t p in
          let after = pair_after base octets cmp eq read p t in
          let mid = all_saying base octets cmp eq read t.at A l after.from_a in
          let one = says_a t.asks_a.sends (not t.asks_a.sends || is_silent a) t.at l a b [] refl told in
          record {
            on = sent_by_a base octets cmp eq read t p ++ sent_by_b base octets cmp eq read t p;
            told = says_b t.asks_b.sends (not t.asks_b.sends || is_silent b) t.at mid _ b _ refl one;
            order = inl refl;
            from_a = b_says_a t.at after.from_b mid ∙ ap (λ (way : WayState K C). all_begun t.at way after.from_b) (a_says_a t.at after.from_a l);
            from_b = b_says_b t.at after.from_b mid ∙ a_says_b t.at after.from_a l;
          }

      b_first : (t : Tick K C) (p : Pair K C) (l : LinkState K C)
          → Told l (ready_a base octets cmp eq read t p) (ready_b base octets cmp eq read t p) []
          → HaveSaid t p l (all_saying base octets cmp eq read t.at A
          (all_saying base octets cmp eq read t.at B l (pair_after base octets cmp eq read p t).from_b) (pair_after base octets cmp eq read p t).from_a)
      b_first t p l told =
          let a = ready_a base octets cmp eq read t p in
          let b = ready_b base octets cmp eq read t p in
          let after = pair_after base octets cmp eq read p t in
          let mid = all_saying base octets cmp eq read t.at B l after.from_b in
          let one = says_b t.asks_b.sends (not t.asks_b.sends || is_silent b) t.at l a b [] refl told in
          record {
            on = sent_by_b base octets cmp eq read t p ++ sent_by_a base octets cmp eq read t p;
            told = says_a t.asks_a.sends (not t.asks_a.sends || is_silent a) t.at mid a _ _ refl one;
            order = inr refl;
            from_a = a_says_a t.at after.from_a mid ∙ b_says_a t.at after.from_b l;
            from_b = a_says_b t.at after.from_a mid ∙ ap (λ (way : WayState K C). all_begun t.at way after.from_a) (b_says_b t.at after.from_b l);
          }

      have_said : (t : Tick K C) (p : Pair K C) (l : LinkState K C) (said : List (End × Messages K C))
          → Told l (ready_a base octets cmp eq read t p) (ready_b base octets cmp eq read t p) []
          → IsSentByBoth base octets cmp eq read t p said → HaveSaid t p l (both_saying cmp t.at l said)
      have_said t p l said told (inl is) =
          let after = pair_after base octets cmp eq read p t in
          subst (HaveSaid t p l) (sym (ap (both_saying cmp t.at l) is ∙ both_say t.at A B after.from_a after.from_b l)) (a_first t p l told)
      have_said t p l said told (inr is) =
          let after = pair_after base octets cmp eq read p t in
          subst (HaveSaid t p l) (sym (ap (both_saying cmp t.at l) is ∙ both_say t.at B A after.from_b after.from_a l)) (b_first t p l told)

      -- one to which time goes on
      pub loudly : (t : Tick K C) (p : Pair K C) (r : Replayed K C) (moments : List Cs) (said : List (End × Messages K C))
          → Follows base octets cmp eq read t.at p r → AreMoments cmp t.at r moments → IsSentByBoth base octets cmp eq read t p said
          → Follows base octets cmp eq read (record { 0 = t.at.0 + 1 }) (pair_after base octets cmp eq read p t) (said_at cmp t.at moments said r)
      loudly t p r moments said follows are sent =
          let next : Cs = record { 0 = t.at.0 + 1 } in
          let here = link_judged (arrived cmp r) in
          let l = going_by cmp moments r in
          let after = pair_after base octets cmp eq read p t in
          let new = both_saying cmp t.at l said in
          let have = have_said t p l said (caught_up t p r moments follows are) sent in
          let known_a : IsKnownUpTo cmp t.at new.ways.from_a =
          subst (IsKnownUpTo cmp t.at) (sym (have.from_a ∙ ap (λ (way : WayState K C). all_begun t.at way after.from_b) (passing_a moments here)))
          (known_all_begun t.at after.from_b _ (known_passed cmp marked all receive receive_rows due due_rows moments t.at here.ways.from_a are.low follows.at_b.known)) in
          let known_b : IsKnownUpTo cmp t.at new.ways.from_b =
          subst (IsKnownUpTo cmp t.at) (sym (have.from_b ∙ ap (λ (way : WayState K C). all_begun t.at way after.from_a) (passing_b moments here)))
          (known_all_begun t.at after.from_a _ (known_passed cmp marked all receive receive_rows due due_rows moments t.at here.ways.from_b are.low follows.at_a.known)) in
          let there = arrives next new after.from_a after.from_b
          (subst (IsSentByBoth base octets cmp eq read t p) (sym have.told.on_way) have.order) in
          record {
            at_a = subst (Lags base octets cmp eq read next after.a after.from_b) (sym (ap (λ (w : Ways K C). w.from_b) there))
                (lags_anew next after.from_b after.a new.ways.from_b have.told.at_a
                (known_later cmp marked all receive receive_rows due due_rows t.at next new.ways.from_b (omega arith) known_b));
            at_b = subst (Lags base octets cmp eq read next after.b after.from_a) (sym (ap (λ (w : Ways K C). w.from_a) there))
                (lags_anew next after.from_a after.b new.ways.from_a have.told.at_b
                (known_later cmp marked all receive receive_rows due due_rows t.at next new.ways.from_a (omega arith) known_a));
            none_kept = have.told.kept;
          }

      -- the moments up to a tick, each once
      pub are_moments : (at : Cs) (r : Replayed K C) → AreMoments cmp at r (moments_to cmp at r)
      are_moments at r = record {
        low = none_later at (arrived cmp r).ways;
        each = in_set cmp marked all receive receive_rows due due_rows at (arrived cmp r).ways;
      }

      follows_by : (quiet : Bool) (t : Tick K C) (p : Pair K C) (r : Replayed K C) → is_quiet base octets cmp eq read t p ≡ quiet → Follows base octets cmp eq read t.at p r
          → Follows base octets cmp eq read (record { 0 = t.at.0 + 1 }) (pair_after base octets cmp eq read p t) (if quiet then r else said_after base octets cmp eq read p r t)
      follows_by true t p r is follows =
          quietly (not t.asks_a.sends || is_silent (ready_a base octets cmp eq read t p)) (not t.asks_b.sends || is_silent (ready_b base octets cmp eq read t p)) t p r is follows
      follows_by false t p r is follows =
          loudly t p r (moments_to cmp t.at r) (sent_by_a base octets cmp eq read t p ++ sent_by_b base octets cmp eq read t p) follows (are_moments t.at r) (inl refl)

      -- ---- runs

      none_in_tick : (quiet : Bool) (r : Replayed K C) → r.link.kept ≡ [] → (if quiet then 0 else broken_then cmp r) ≡ 0
      none_in_tick true r is = refl
      none_in_tick false r is = none_then cmp r is

      none_replayed : (ticks : List (Tick K C)) (next : Cs) (x : Pair K C × Replayed K C) → AreTicksFrom next ticks → Follows base octets cmp eq read next x.0 x.1
          → replay_broken base octets cmp eq read x ticks ≡ 0
      none_replayed [] next x from follows = none_then cmp x.1 follows.none_kept
      none_replayed (t ∷ ticks) next x from follows =
          let quiet = is_quiet base octets cmp eq read t x.0 in
          let now = subst (λ (at : Cs). Follows base octets cmp eq read at x.0 x.1) (sym from.0) follows in
          let here = none_in_tick quiet x.1 follows.none_kept in
          let on = subst (λ (at : Cs). Follows base octets cmp eq read (record { 0 = at.0 + 1 }) (pair_after base octets cmp eq read x.0 t) (replayed_after base octets cmp eq read x.0 x.1 t)) from.0
          (follows_by quiet t x.0 x.1 refl now) in
          let rest = none_replayed ticks (record { 0 = next.0 + 1 }) (pair_after base octets cmp eq read x.0 t, replayed_after base octets cmp eq read x.0 x.1 t) from.1 on in
          rw (here, rest) refl

      pub none_from_new : (ticks : List (Tick K C)) (leave_time first : Cs) (a b : Cs × Bool) → 1 ≤ leave_time.0 → AreTicksFrom first ticks
          → replay_broken base octets cmp eq read (new_pair leave_time a b, unseen leave_time) ticks ≡ 0
      none_from_new ticks leave_time first a b some from =
          none_replayed ticks first (new_pair leave_time a b, unseen leave_time) from (follows_new base octets cmp eq read leave_time first a b some)
