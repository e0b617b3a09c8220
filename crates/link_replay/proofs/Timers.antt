-- Each leave timer of a way that runs ends at a moment that the way knows.
use Rattle.std.proofs.Common.{◌≡◌, ◌∙◌, ◌<◌, ◌≤◌, Bool, true, false, not, if◌then◌else◌, nat_le, List, [], ◌∷◌, ◌++◌, filter, fold, refl, ap, sym, subst, arith}
use Rattle.std.specs.Prelude.{option_map, option_and_then, ◌||◌}
use Rattle.std.specs.{declared.cmp.Ordering.Ordering, declared.cmp.Ordering.TheVariants.Less, declared.cmp.Ordering.TheVariants.Equal, declared.cmp.Ordering.TheVariants.Greater, Ordering.is_eq, List.AllByRecursion}
use Rattle.std.proofs.lemmas.Bool.Decides.{nat_tests}
use Rattle.srp_base.specs.declared.{numbers.Cs.Cs, mrp.MrpEvent.MrpEvent}
use Rattle.srp_base.specs.declared.mrp.MrpEvent.TheVariants.{New, JoinIn, OnlyIn, JoinMt, OnlyMt, Lv}
use Rattle.attribute_propagation.specs.Dirty.{is_awaiting, with_key, all_marked, marked_at}
use Rattle.mrp_participant.specs.{Lookup.same, Lookup.find, Row.row_after_receive, Row.after_leave_due, Row.periodic_row, State.State, State.Messages, State.AreRows, State.after, State.received_state, State.due_state, State.is_periodic_due, State.leave_timers_state, State.due_leave_all_state, State.periodic_fired_state, State.is_leave_all_due, State.leave_all_state}
use Rattle.link_replay.specs.Standing.{Standing, Standing.Stands, Standing.Leaves, Standing.Gone, standing, passing}
use Rattle.link_replay.specs.{cs_cmp, is_up_to, later_than, WayState, ends_by, ends_up_to, leave_all_way, hearing_way, all_hearing_way, passing_way, Ways, ways_ends_up_to, begun_way, said_way, IsEndKnown, AreEndsKnown, IsKnownUpTo}
use Rattle.link_replay.proofs.Standings.{leaving, hearing, received, receives, passes, periodic}

-- ---- moments

one_moment : (a b : Cs) → is_eq (cs_cmp a b) ≡ true → a ≡ b
one_moment a b h = grind (arith, nat_tests)

same_moment : (a : Cs) → is_eq (cs_cmp a a) ≡ true
same_moment a = grind (arith, nat_tests)

or_true : (a b : Bool) → b ≡ true → (a || b) ≡ true
or_true true b h = refl
or_true false b h = h

or_first : (a b : Bool) → a ≡ true → (a || b) ≡ true
or_first true b h = refl
or_first false b h = cc

-- one that stays among those that pass a test
kept_by : (p : Cs → Bool) (u x : Cs) (rest : List Cs) (is : Bool) (passes_it : Bool) → is_eq (cs_cmp x u) ≡ is → p x ≡ passes_it → p u ≡ true
    → (is_awaiting cs_cmp u rest ≡ true → is_awaiting cs_cmp u (filter p rest) ≡ true)
    → (is || is_awaiting cs_cmp u rest) ≡ true
    → is_awaiting cs_cmp u (if passes_it then x ∷ filter p rest else filter p rest) ≡ true
kept_by p u x rest true true same here test later h = or_first _ _ same
kept_by p u x rest true false same here test later h =
    let no : true ≡ false = sym test ∙ ap p (sym (one_moment x u same)) ∙ here in cc
kept_by p u x rest false true same here test later h = or_true _ _ (later h)
kept_by p u x rest false false same here test later h = later h

pub stays_in : (p : Cs → Bool) (u : Cs) (moments : List Cs) → p u ≡ true → is_awaiting cs_cmp u moments ≡ true
    → is_awaiting cs_cmp u (filter p moments) ≡ true
stays_in p u [] test h = cc
stays_in p u (x ∷ rest) test h = kept_by p u x rest (is_eq (cs_cmp x u)) (p x) refl refl test (stays_in p u rest test) h

-- none of those up to a moment is after it
module _ (at : Cs) where
  abbrev Up : Cs → Type 0
  Up u = u.0 ≤ at.0

  at_first : (o : Ordering) (u x : Cs) (us later : List Cs) → Up u → AllByRecursion Up (x ∷ us) → AllByRecursion Up later
      → AllByRecursion Up (marked_at o u x us later)
  at_first Less u x us later up many rest = (many.0, rest)
  at_first Equal u x us later up many rest = many
  at_first Greater u x us later up many rest = (up, many)

  one_more : (u : Cs) (us : List Cs) → Up u → AllByRecursion Up us → AllByRecursion Up (with_key cs_cmp u us)
  one_more u [] up many = (up, tt)
  one_more u (x ∷ us) up many = at_first (cs_cmp x u) u x us (with_key cs_cmp u us) up many (one_more u us up many.1)

  some_more : (new us : List Cs) → AllByRecursion Up new → AllByRecursion Up us → AllByRecursion Up (all_marked cs_cmp new us)
  some_more [] us news many = many
  some_more (u ∷ new) us news many = some_more new (with_key cs_cmp u us) news.1 (one_more u us news.0 many)

  both : (us vs : List Cs) → AllByRecursion Up us → AllByRecursion Up vs → AllByRecursion Up (us ++ vs)
  both [] vs many more = more
  both (u ∷ us) vs many more = (many.0, both us vs many.1 more)

  kept_up : (b : Bool) (u : Cs) (rest : List Cs) → nat_le u.0 at.0 ≡ b → AllByRecursion Up rest → AllByRecursion Up (if b then u ∷ rest else rest)
  kept_up true u rest is many = (grind (arith, nat_tests), many)
  kept_up false u rest is many = many

  up_to : (us : List Cs) → AllByRecursion Up (filter (is_up_to at) us)
  up_to [] = tt
  up_to (u ∷ us) = kept_up (nat_le u.0 at.0) u (filter (is_up_to at) us) refl (up_to us)

  pub none_later : {K C : Type 0} (w : Ways K C) → AllByRecursion Up (all_marked cs_cmp (ways_ends_up_to at w) [])
  none_later w = some_more (ways_ends_up_to at w) [] (both (ends_up_to at w.from_a) (ends_up_to at w.from_b) (up_to w.from_a.ends) (up_to w.from_b.ends)) tt

if_time : {K C : Type 0} (b : Bool) (s t : State K C) → s.leave_time ≡ t.leave_time → (if b then s else t).leave_time ≡ t.leave_time
if_time true s t e = e
if_time false s t e = refl

-- ---- what stands

module _ {K C : Type 0} (cmp : K → K → Ordering)
    (marked : (k x : Cs) (keys : List Cs) → is_awaiting cs_cmp k (with_key cs_cmp x keys) ≡ (is_eq (cs_cmp x k) || is_awaiting cs_cmp k keys))
    (all : (k : Cs) (more keys : List Cs) → is_awaiting cs_cmp k (all_marked cs_cmp more keys) ≡ (is_awaiting cs_cmp k more || is_awaiting cs_cmp k keys))
    (receive : (s : State K C) (now : Cs) (leave_all : Bool) (events : List (MrpEvent × K × C)) → AreRows cmp s.rows → (k : K)
    → find cmp k (received_state cmp now leave_all events s).rows ≡ row_after_receive cmp (after now s.leave_time) leave_all events k (find cmp k s.rows))
    (receive_rows : (s : State K C) (now : Cs) (leave_all : Bool) (events : List (MrpEvent × K × C)) → AreRows cmp s.rows
    → AreRows cmp (received_state cmp now leave_all events s).rows)
    (due : (s : State K C) (now : Cs) → AreRows cmp s.rows → (k : K)
    → find cmp k (due_state now s).rows
    ≡ option_map (λ r. if is_periodic_due now s then periodic_row r else r) (option_and_then (after_leave_due now.0) (find cmp k s.rows)))
    (due_rows : (s : State K C) (now : Cs) → AreRows cmp s.rows → AreRows cmp (due_state now s).rows) where
  still_known : (before until : Cs) (ends : List Cs) (s : Standing C) → IsEndKnown before ends s → IsEndKnown before (with_key cs_cmp until ends) s
  still_known before until ends (Stands c) h = tt
  still_known before until ends (Leaves c u) h = (h.0, marked u until ends ∙ or_true _ _ h.1)
  still_known before until ends Gone h = tt

  leaving_known : (before until : Cs) (ends : List Cs) (s : Standing C) → before.0 < until.0 → IsEndKnown before ends s
      → IsEndKnown before (with_key cs_cmp until ends) (leaving until s)
  leaving_known before until ends (Stands c) low h = (low, marked until until ends ∙ or_first _ _ (same_moment until))
  leaving_known before until ends (Leaves c u) low h = still_known before until ends (Leaves c u) h
  leaving_known before until ends Gone low h = tt

  hearing_known : (before until : Cs) (ends : List Cs) (e : MrpEvent) (c : C) (s : Standing C) → before.0 < until.0 → IsEndKnown before ends s
      → IsEndKnown before (ends_by e until ends) (hearing e c until s)
  hearing_known before until ends New c s low h = tt
  hearing_known before until ends JoinIn c s low h = tt
  hearing_known before until ends OnlyIn c s low h = h
  hearing_known before until ends JoinMt c s low h = tt
  hearing_known before until ends OnlyMt c s low h = h
  hearing_known before until ends Lv c s low h = leaving_known before until ends s low h

  other_known : (before until : Cs) (ends : List Cs) (e : MrpEvent) (s : Standing C) → IsEndKnown before ends s
      → IsEndKnown before (ends_by e until ends) s
  other_known before until ends New s h = h
  other_known before until ends JoinIn s h = h
  other_known before until ends OnlyIn s h = h
  other_known before until ends JoinMt s h = h
  other_known before until ends OnlyMt s h = h
  other_known before until ends Lv s h = still_known before until ends s h

  -- of this key or of another
  event_known : (b : Bool) (before until : Cs) (ends : List Cs) (e : MrpEvent) (c : C) (s : Standing C) → before.0 < until.0
      → IsEndKnown before ends s → IsEndKnown before (ends_by e until ends) (if b then hearing e c until s else s)
  event_known true before until ends e c s low h = hearing_known before until ends e c s low h
  event_known false before until ends e c s low h = other_known before until ends e s h

  -- a moment passes
  passed_by : (b : Bool) (at u : Cs) (ends : List Cs) (c : C) → nat_le u.0 at.0 ≡ b → is_awaiting cs_cmp u ends ≡ true
      → IsEndKnown at (later_than at ends) (if b then Gone else Leaves c u)
  passed_by true at u ends c test h = tt
  passed_by false at u ends c test h = (
    grind (arith, nat_tests),
    all u (filter (λ x. not (is_up_to at x)) ends) []
        ∙ or_first _ _ (stays_in (λ x. not (is_up_to at x)) u ends (ap not test) h),
  )

  passing_known : (before at : Cs) (ends : List Cs) (s : Standing C) → IsEndKnown before ends s
      → IsEndKnown at (later_than at ends) (passing at.0 s)
  passing_known before at ends (Stands c) h = tt
  passing_known before at ends (Leaves c u) h = passed_by (nat_le u.0 at.0) at u ends c refl h.1
  passing_known before at ends Gone h = tt

  -- ---- moments one after the other

  stays_stands : (moments : List Cs) (c : C) → fold (λ (s : Standing C) u. passing u.0 s) (Stands c) moments ≡ Stands c
  stays_stands [] c = refl
  stays_stands (m ∷ moments) c = stays_stands moments c

  stays_gone : (moments : List Cs) → fold (λ (s : Standing C) u. passing u.0 s) Gone moments ≡ Gone
  stays_gone [] = refl
  stays_gone (m ∷ moments) = stays_gone moments

  -- the moment at which a leave timer ends is one of these, where it isn't after another
  abbrev pub IsCovered : Cs → List Cs → Standing C → Type 0
  IsCovered at moments (Stands c) = Unit {0}
  IsCovered at moments (Leaves c u) = nat_le u.0 at.0 ≡ true → is_awaiting cs_cmp u moments ≡ true
  IsCovered at moments Gone = Unit {0}

  at_end : (b : Bool) (at u : Cs) (c : C) → nat_le u.0 at.0 ≡ b → (nat_le u.0 at.0 ≡ true → false ≡ true)
      → ◌≡◌ {A = Standing C} (Leaves c u) (if b then Gone else Leaves c u)
  at_end true at u c is covered = let no : false ≡ true = covered is in cc
  at_end false at u c is covered = refl

  rest_covered : (same : Bool) (at m u : Cs) (moments : List Cs) → is_eq (cs_cmp m u) ≡ same → nat_le u.0 m.0 ≡ false
      → (same || is_awaiting cs_cmp u moments) ≡ true → is_awaiting cs_cmp u moments ≡ true
  rest_covered true at m u moments is later covered =
      let one : m ≡ u = one_moment m u is in
      let no : nat_le u.0 u.0 ≡ false = ap (λ (x : Cs). nat_le u.0 x.0) (sym one) ∙ later in
      let low : nat_le u.0 u.0 ≡ true = grind (arith, nat_tests) in
      let odd : true ≡ false = sym low ∙ no in cc
  rest_covered false at m u moments is later covered = covered

  gone_by : (b : Bool) (at m u : Cs) (c : C) (moments : List Cs) → nat_le u.0 m.0 ≡ b → m.0 ≤ at.0
      → (nat_le u.0 at.0 ≡ true → is_awaiting cs_cmp u (m ∷ moments) ≡ true)
      → (IsCovered at moments (Leaves c u) → fold (λ (s : Standing C) u. passing u.0 s) (Leaves c u) moments ≡ passing at.0 (Leaves c u))
      → fold (λ (s : Standing C) u. passing u.0 s) (if b then Gone else Leaves c u) moments ≡ passing at.0 (Leaves c u)
  gone_by true at m u c moments is low covered rest =
      let due : nat_le u.0 at.0 ≡ true = grind (arith, nat_tests) in
      stays_gone moments ∙ sym (ap (λ (b : Bool). if b then Gone else Leaves c u) due)
  gone_by false at m u c moments is low covered rest =
      rest (λ due. rest_covered (is_eq (cs_cmp m u)) at m u moments refl is (covered due))

  -- what stands at the end of them is what stands at a moment that isn't before any, where they have
  -- that at which its leave timer ends
  pub fires_all : (at : Cs) (moments : List Cs) (s : Standing C) → AllByRecursion (λ m. m.0 ≤ at.0) moments → IsCovered at moments s
      → fold (λ (s : Standing C) u. passing u.0 s) s moments ≡ passing at.0 s
  fires_all at moments (Stands c) low covered = stays_stands moments c
  fires_all at moments Gone low covered = stays_gone moments
  fires_all at [] (Leaves c u) low covered = at_end (nat_le u.0 at.0) at u c refl covered
  fires_all at (m ∷ moments) (Leaves c u) low covered =
      gone_by (nat_le u.0 m.0) at m u c moments refl low.0 covered (fires_all at moments (Leaves c u) low.1)

  again_by : (b : Bool) (at u : Cs) (c : C) (first : Cs) → nat_le u.0 first.0 ≡ b → first.0 ≤ at.0
      → passing at.0 (if b then Gone else Leaves c u) ≡ passing at.0 (Leaves c u)
  again_by true at u c first is low =
      let due : nat_le u.0 at.0 ≡ true = grind (arith, nat_tests) in
      sym (ap (λ (b : Bool). if b then Gone else Leaves c u) due)
  again_by false at u c first is low = refl

  -- a moment and then a later one are the later one
  pub fires_again : (first at : Cs) (s : Standing C) → first.0 ≤ at.0 → passing at.0 (passing first.0 s) ≡ passing at.0 s
  fires_again first at (Stands c) low = refl
  fires_again first at (Leaves c u) low = again_by (nat_le u.0 first.0) at u c first refl low
  fires_again first at Gone low = refl

  covered_by : (at : Cs) (ends moments : List Cs) (before : Cs) (s : Standing C) → IsEndKnown before ends s
      → ((u : Cs) → nat_le u.0 at.0 ≡ true → is_awaiting cs_cmp u ends ≡ true → is_awaiting cs_cmp u moments ≡ true)
      → IsCovered at moments s
  covered_by at ends moments before (Stands c) known all_in = tt
  covered_by at ends moments before (Leaves c u) known all_in = λ due. all_in u due known.1
  covered_by at ends moments before Gone known all_in = tt

  -- one at which none ends
  nothing_by : (b : Bool) (at u : Cs) (ends : List Cs) (c : C) → nat_le u.0 at.0 ≡ b → is_awaiting cs_cmp u ends ≡ true
      → filter (is_up_to at) ends ≡ [] → ◌≡◌ {A = Standing C} (if b then Gone else Leaves c u) (Leaves c u)
  nothing_by true at u ends c test h none =
      let no : true ≡ false = sym (stays_in (is_up_to at) u ends test h) ∙ ap (is_awaiting cs_cmp u) none in cc
  nothing_by false at u ends c test h none = refl

  nothing_ends : (before at : Cs) (ends : List Cs) (s : Standing C) → IsEndKnown before ends s → filter (is_up_to at) ends ≡ []
      → passing at.0 s ≡ s
  nothing_ends before at ends (Stands c) h none = refl
  nothing_ends before at ends (Leaves c u) h none = nothing_by (nat_le u.0 at.0) at u ends c refl h.1 none
  nothing_ends before at ends Gone h none = refl

  -- ---- a way

  received_holds : (s : State K C) (now : Cs) (leave_all : Bool) (events : List (MrpEvent × K × C)) → AreRows cmp s.rows → (k : K)
      → standing (find cmp k (received_state cmp now leave_all events s).rows)
      ≡ received cmp (after now s.leave_time) leave_all events k (standing (find cmp k s.rows))
  received_holds s now leave_all events are k =
      ap standing (receive s now leave_all events are k) ∙ receives cmp (after now s.leave_time) leave_all events k (find cmp k s.rows)

  pub due_holds : (s : State K C) (now : Cs) → AreRows cmp s.rows → (k : K)
      → standing (find cmp k (due_state now s).rows) ≡ passing now.0 (standing (find cmp k s.rows))
  due_holds s now are k =
      ap standing (due s now are k)
      ∙ periodic (is_periodic_due now s) (option_and_then (after_leave_due now.0) (find cmp k s.rows))
      ∙ passes now.0 (find cmp k s.rows)

  -- what a way keeps while it hears
  record Keeps (before at : Cs) (way : WayState K C) : Type 0 where
    pub rows : AreRows cmp way.observer.rows
    pub some : 1 ≤ way.leave_time.0
    pub time : way.observer.leave_time ≡ way.leave_time
    pub later : before.0 ≤ at.0
    pub ends : AreEndsKnown cmp before way

  begins : (way : WayState K C) (before at : Cs) → Keeps before at way → AreEndsKnown cmp before (leave_all_way cmp at way)
  begins way before at keeps k =
      let some = keeps.some in
      let later = keeps.later in
      let low : before.0 < (after at way.leave_time).0 = omega (arith, some, later) in
      subst (IsEndKnown before (with_key cs_cmp (after at way.leave_time) way.ends))
      (sym (received_holds way.observer at true [] keeps.rows k
      ∙ ap (λ (t : Cs). leaving (after at t) (standing (find cmp k way.observer.rows))) keeps.time))
      (leaving_known before (after at way.leave_time) way.ends (standing (find cmp k way.observer.rows)) low (keeps.ends k))

  hears : (way : WayState K C) (before at : Cs) (e : MrpEvent × K × C) → Keeps before at way → AreEndsKnown cmp before (hearing_way cmp at way e)
  hears way before at e keeps k =
      let some = keeps.some in
      let later = keeps.later in
      let low : before.0 < (after at way.leave_time).0 = omega (arith, some, later) in
      let s = standing (find cmp k way.observer.rows) in
      subst (IsEndKnown before (ends_by e.0 (after at way.leave_time) way.ends))
      (sym (received_holds way.observer at false (e ∷ []) keeps.rows k
      ∙ ap (λ (t : Cs). if same cmp e.1 k then hearing e.0 e.2 (after at t) s else s) keeps.time))
      (event_known (same cmp e.1 k) before (after at way.leave_time) way.ends e.0 e.2 s low (keeps.ends k))

  hears_all : (events : List (MrpEvent × K × C)) (way : WayState K C) (before at : Cs) → Keeps before at way
      → AreEndsKnown cmp before (all_hearing_way cmp at way events)
  hears_all [] way before at keeps = keeps.ends
  hears_all (e ∷ events) way before at keeps = hears_all events (hearing_way cmp at way e) before at (record {
    rows = receive_rows way.observer at false (e ∷ []) keeps.rows;
    some = keeps.some;
    time = keeps.time;
    later = keeps.later;
    ends = hears way before at e keeps;
  })

  begun : (leave_all : Bool) (way : WayState K C) (before at : Cs) → Keeps before at way → Keeps before at (begun_way cmp at leave_all way)
  begun true way before at keeps = record {
    rows = receive_rows way.observer at true [] keeps.rows;
    some = keeps.some;
    time = keeps.time;
    later = keeps.later;
    ends = begins way before at keeps;
  }
  begun false way before at keeps = keeps

  pub goes_on : (way : WayState K C) (before at : Cs) (leave_all : Bool) → AreRows cmp way.observer.rows → 1 ≤ way.leave_time.0
      → way.observer.leave_time ≡ way.leave_time → before.0 ≤ at.0 → AreEndsKnown cmp before way
      → AreEndsKnown cmp before (begun_way cmp at leave_all way)
  goes_on way before at leave_all rows some time later ends =
      (begun leave_all way before at (record { rows = rows; some = some; time = time; later = later; ends = ends })).ends

  pub comes_on : (way : WayState K C) (before at : Cs) (m : Messages K C) → AreRows cmp way.observer.rows → 1 ≤ way.leave_time.0
      → way.observer.leave_time ≡ way.leave_time → before.0 ≤ at.0 → AreEndsKnown cmp before way
      → AreEndsKnown cmp before (said_way cmp at m way)
  comes_on way before at m rows some time later ends =
      hears_all m.events (begun_way cmp at m.leave_all way) before at
      (begun m.leave_all way before at (record { rows = rows; some = some; time = time; later = later; ends = ends }))

  pub passes_on : (way : WayState K C) (before at : Cs) → AreRows cmp way.observer.rows → AreEndsKnown cmp before way
      → AreEndsKnown cmp at (passing_way at way)
  passes_on way before at rows ends k =
      subst (IsEndKnown at (later_than at way.ends)) (sym (due_holds way.observer at rows k))
      (passing_known before at way.ends (standing (find cmp k way.observer.rows)) (ends k))

  pub none_ends : (way : WayState K C) (before at : Cs) (k : K) → AreRows cmp way.observer.rows → AreEndsKnown cmp before way
      → ends_up_to at way ≡ []
      → standing (find cmp k (passing_way at way).observer.rows) ≡ standing (find cmp k way.observer.rows)
  none_ends way before at k rows ends none =
      due_holds way.observer at rows k ∙ nothing_ends before at way.ends (standing (find cmp k way.observer.rows)) (ends k) none

  -- ---- a way through moments

  pub due_time : (s : State K C) (now : Cs) → (due_state now s).leave_time ≡ s.leave_time
  due_time s now =
      let t = leave_timers_state now s in
      let u = due_leave_all_state now t in
      if_time (is_periodic_due now u) (periodic_fired_state now u) u refl ∙ if_time (is_leave_all_due now t) (leave_all_state now t) t refl

  pub known_later : (at later : Cs) (way : WayState K C) → at.0 ≤ later.0 → IsKnownUpTo cmp at way → IsKnownUpTo cmp later way
  known_later at later way up known = record {
    rows = known.rows;
    some = known.some;
    time = known.time;
    before = known.before;
    low = let low = known.low in omega (arith, low, up);
    ends = known.ends;
  }

  pub known_begun : (leave_all : Bool) (at : Cs) (way : WayState K C) → IsKnownUpTo cmp at way → IsKnownUpTo cmp at (begun_way cmp at leave_all way)
  known_begun leave_all at way known =
      let keeps = begun leave_all way known.before at (record { rows = known.rows; some = known.some; time = known.time; later = known.low; ends = known.ends }) in
      record { rows = keeps.rows; some = keeps.some; time = keeps.time; before = known.before; low = known.low; ends = keeps.ends }

  heard_all : (events : List (MrpEvent × K × C)) (way : WayState K C) (before at : Cs) → Keeps before at way
      → Keeps before at (all_hearing_way cmp at way events)
  heard_all [] way before at keeps = keeps
  heard_all (e ∷ events) way before at keeps = heard_all events (hearing_way cmp at way e) before at (record {
    rows = receive_rows way.observer at false (e ∷ []) keeps.rows;
    some = keeps.some;
    time = keeps.time;
    later = keeps.later;
    ends = hears way before at e keeps;
  })

  pub known_said : (at : Cs) (m : Messages K C) (way : WayState K C) → IsKnownUpTo cmp at way → IsKnownUpTo cmp at (said_way cmp at m way)
  known_said at m way known =
      let keeps = heard_all m.events (begun_way cmp at m.leave_all way) known.before at
      (begun m.leave_all way known.before at (record { rows = known.rows; some = known.some; time = known.time; later = known.low; ends = known.ends })) in
      record { rows = keeps.rows; some = keeps.some; time = keeps.time; before = known.before; low = known.low; ends = keeps.ends }

  pub known_passed : (moments : List Cs) (at : Cs) (way : WayState K C) → AllByRecursion (λ m. m.0 ≤ at.0) moments → IsKnownUpTo cmp at way
      → IsKnownUpTo cmp at (fold (λ way u. passing_way u way) way moments)
  known_passed [] at way low known = known
  known_passed (m ∷ moments) at way low known = known_passed moments at (passing_way m way) low.1 (record {
    rows = due_rows way.observer m known.rows;
    some = known.some;
    time = due_time way.observer m ∙ known.time;
    before = m;
    low = low.0;
    ends = passes_on way known.before m known.rows known.ends;
  })

  -- what stands after them
  pub stands_after : (moments : List Cs) (way : WayState K C) → AreRows cmp way.observer.rows → (k : K)
      → standing (find cmp k (fold (λ way u. passing_way u way) way moments).observer.rows)
      ≡ fold (λ (s : Standing C) u. passing u.0 s) (standing (find cmp k way.observer.rows)) moments
  stands_after [] way rows k = refl
  stands_after (m ∷ moments) way rows k =
      stands_after moments (passing_way m way) (due_rows way.observer m rows) k
      ∙ ap (λ (s : Standing C). fold (λ (s : Standing C) u. passing u.0 s) s moments) (due_holds way.observer m rows k)

  -- where they have each at which a timer of the way ends by then
  pub stands_at : (at : Cs) (moments : List Cs) (way : WayState K C) → IsKnownUpTo cmp at way → AllByRecursion (λ m. m.0 ≤ at.0) moments
      → ((u : Cs) → nat_le u.0 at.0 ≡ true → is_awaiting cs_cmp u way.ends ≡ true → is_awaiting cs_cmp u moments ≡ true) → (k : K)
      → standing (find cmp k (fold (λ way u. passing_way u way) way moments).observer.rows)
      ≡ passing at.0 (standing (find cmp k way.observer.rows))
  stands_at at moments way known low all_in k =
      let s = standing (find cmp k way.observer.rows) in
      stands_after moments way known.rows k ∙ fires_all at moments s low (covered_by at way.ends moments known.before s (known.ends k) all_in)

  -- ---- the moments up to one at which timers end on both ways

  or_either : (a b c : Bool) → (a ≡ true → c ≡ true) → (b ≡ true → c ≡ true) → (a || b) ≡ true → c ≡ true
  or_either true b c one two h = one refl
  or_either false b c one two h = two h

  in_both : (u : Cs) (us vs : List Cs) → is_awaiting cs_cmp u (us ++ vs) ≡ (is_awaiting cs_cmp u us || is_awaiting cs_cmp u vs)
  in_both u [] vs = refl
  in_both u (x ∷ us) vs = ap (λ (b : Bool). is_eq (cs_cmp x u) || b) (in_both u us vs) ∙ grouped (is_eq (cs_cmp x u)) _ _
    where
      grouped : (a b c : Bool) → (a || (b || c)) ≡ ((a || b) || c)
      grouped true b c = refl
      grouped false b c = refl

  pub due_a : (at : Cs) (w : Ways K C) (u : Cs) → nat_le u.0 at.0 ≡ true → is_awaiting cs_cmp u w.from_a.ends ≡ true
      → is_awaiting cs_cmp u (ways_ends_up_to at w) ≡ true
  due_a at w u due here =
      in_both u (ends_up_to at w.from_a) (ends_up_to at w.from_b) ∙ or_first _ _ (stays_in (is_up_to at) u w.from_a.ends due here)

  pub due_b : (at : Cs) (w : Ways K C) (u : Cs) → nat_le u.0 at.0 ≡ true → is_awaiting cs_cmp u w.from_b.ends ≡ true
      → is_awaiting cs_cmp u (ways_ends_up_to at w) ≡ true
  due_b at w u due here =
      in_both u (ends_up_to at w.from_a) (ends_up_to at w.from_b) ∙ or_true _ _ (stays_in (is_up_to at) u w.from_b.ends due here)

  -- a set of them has each
  pub in_set : (at : Cs) (w : Ways K C) (u : Cs) → is_awaiting cs_cmp u (ways_ends_up_to at w) ≡ true
      → is_awaiting cs_cmp u (all_marked cs_cmp (ways_ends_up_to at w) []) ≡ true
  in_set at w u here = all u (ways_ends_up_to at w) [] ∙ or_first _ _ here
