-- Events of which each key has at most one: what a way hears of each is as if it were the first.
use Rattle.std.proofs.Common.{◌≡◌, ◌∙◌, ℕ, suc, ◌+◌, ◌≤◌, Bool, true, false, if◌then◌else◌, List, [], ◌∷◌, ◌++◌, length, get_or, filter, fold, cond, IsPermutation, refl, ap, sym, subst, arith}
use Rattle.std.specs.Prelude.{Option, flat_map}
use Rattle.std.specs.{declared.cmp.Ordering.Ordering, declared.cmp.Ordering.TheVariants.Less, declared.cmp.Ordering.TheVariants.Equal, declared.cmp.Ordering.TheVariants.Greater, Ordering.is_eq, Ordering.ordering_reverse, Cmp.IsTotalOrder, List.AllByRecursion, List.AllAdjacentBelow}
use Rattle.std.proofs.lemmas.List.{Sums.length-filter, Sorted.sum_by-IsPermutation}
use Rattle.srp_base.specs.declared.{numbers.Cs.Cs, mrp.MrpEvent.MrpEvent}
use Rattle.srp_base.specs.declared.mrp.MrpEvent.TheVariants.{New, JoinIn, OnlyIn, JoinMt, OnlyMt, Lv}
use Rattle.registrar.specs.Table.{is_in}
use Rattle.mrp_participant.specs.declared.row.Row.{Row}
use Rattle.mrp_participant.specs.{Lookup.Ascends, Lookup.find, Row.registrar_of, Row.after_hear, Row.row_after_receive, State.State, State.AreRows, State.after, State.received_state}
use Rattle.link_replay.specs.{WayState, IsOneOfEach, until_of, ends_by, withdrawn_by, hearing_way, all_hearing_way, stands_as, heard_text, all_heard_text, stands_line, leaves_line}

-- ---- keys that ascend

module _ {K C : Type 0} (cmp : K → K → Ordering) (o : IsTotalOrder cmp) where
  -- what a key is below, a lower one is below too
  below : (k q : K) (events : List (MrpEvent × K × C)) → cmp k q ≡ Less → AllByRecursion (λ e. cmp q e.1 ≡ Less) events
      → AllByRecursion (λ e. cmp k e.1 ≡ Less) events
  below k q [] less all = tt
  below k q (e ∷ events) less all = (o.trans k q e.1 less all.0, below k q events less all.1)

  later : (e : MrpEvent × K × C) (events : List (MrpEvent × K × C))
      → AllAdjacentBelow (λ e f. cmp e.1 f.1 ≡ Less) (e ∷ events) (length (e ∷ events))
      → AllAdjacentBelow (λ e f. cmp e.1 f.1 ≡ Less) events (length events)
  later e events next = λ k d within.
      let step : suc k + 1 ≡ suc (k + 1) = omega arith in
      subst (λ (n : ℕ). cmp (get_or (e ∷ events) (suc k) d).1 (get_or (e ∷ events) n d).1 ≡ Less) step (next (suc k) d (omega (arith, within)))

  -- each key below the next is each below all later ones
  pub ascending : (events : List (MrpEvent × K × C)) → AllAdjacentBelow (λ e f. cmp e.1 f.1 ≡ Less) events (length events)
      → Ascends cmp (λ e. e.1) events
  ascending [] next = tt
  ascending (e ∷ []) next = (tt, tt)
  ascending (e ∷ f ∷ events) next =
      let rest : Ascends cmp (λ x. x.1) (f ∷ events) = ascending (f ∷ events) (later e (f ∷ events) next) in
      let less : cmp e.1 f.1 ≡ Less = next 0 e (omega arith) in
      ((less, below e.1 f.1 events less rest.0), rest)

-- ---- one event of each key

equal_by : (r : Ordering) → is_eq r ≡ true → r ≡ Equal
equal_by Less h = cc
equal_by Equal h = refl
equal_by Greater h = cc

not_less : (r : Ordering) → r ≡ Less → is_eq (ordering_reverse r) ≡ false
not_less r is = ap (λ (x : Ordering). is_eq (ordering_reverse x)) is

itself : (r : Ordering) → r ≡ ordering_reverse r → is_eq r ≡ true
itself Less h = cc
itself Equal h = refl
itself Greater h = cc

reversed : (r : Ordering) → is_eq (ordering_reverse r) ≡ is_eq r
reversed Less = refl
reversed Equal = refl
reversed Greater = refl

module _ {K C : Type 0} (cmp : K → K → Ordering) (o : IsTotalOrder cmp) where
  abbrev of_key : K → MrpEvent × K × C → Bool
  of_key k e = is_eq (cmp e.1 k)

  -- above a key none is equal to it
  none_above : (q k : K) (events : List (MrpEvent × K × C)) → cmp q k ≡ Equal → AllByRecursion (λ e. cmp q e.1 ≡ Less) events
      → filter (of_key k) events ≡ []
  none_above q k [] is all = refl
  none_above q k (e ∷ events) is all =
      let up : cmp k e.1 ≡ Less = sym (o.congr q k e.1 is) ∙ all.0 in
      let here : of_key k e ≡ false = ap is_eq (o.antisymm e.1 k) ∙ not_less (cmp k e.1) up in
      let rest : filter (of_key k) events ≡ [] = none_above q k events is all.1 in
      rw (here, rest) refl

  one_by : (b : Bool) (k : K) (e : MrpEvent × K × C) (events : List (MrpEvent × K × C)) → of_key k e ≡ b → AllByRecursion (λ x. cmp e.1 x.1 ≡ Less) events
      → length (filter (of_key k) events) ≤ 1 → length (if b then e ∷ filter (of_key k) events else filter (of_key k) events) ≤ 1
  one_by true k e events is all rest =
      let none : filter (of_key k) events ≡ [] = none_above e.1 k events (equal_by (cmp e.1 k) is) all in
      subst (λ (l : List (MrpEvent × K × C)). length (e ∷ l) ≤ 1) (sym none) (omega arith)
  one_by false k e events is all rest = rest

  -- keys that ascend have one each
  once : (events : List (MrpEvent × K × C)) → Ascends cmp (λ e. e.1) events → IsOneOfEach cmp events
  once [] up k = omega arith
  once (e ∷ events) up k = one_by (of_key k e) k e events refl up.0 (once events up.1 k)

  -- so it is in every order
  in-every-order : (events sorted : List (MrpEvent × K × C)) → IsPermutation events sorted → Ascends cmp (λ e. e.1) sorted → IsOneOfEach cmp events
  in-every-order events sorted moved up k =
      let few : length (filter (of_key k) sorted) ≤ 1 = once sorted up k in
      let same_count : length (filter (of_key k) events) ≡ length (filter (of_key k) sorted)
      = length-filter (of_key k) events
      ∙ sym (sum_by-IsPermutation (λ e. cond (of_key k e) 1 0) events sorted moved)
      ∙ sym (length-filter (of_key k) sorted) in
      subst (λ (n : ℕ). n ≤ 1) (sym same_count) few

  pub one-of-each : (events copied sorted : List (MrpEvent × K × C)) → copied ≡ events → IsPermutation copied sorted → Ascends cmp (λ e. e.1) sorted
      → IsOneOfEach cmp events
  one-of-each events copied sorted is moved up = subst (IsOneOfEach cmp) is (in-every-order copied sorted moved up)

  -- each key is another than all later ones
  abbrev pub AreApart : List (MrpEvent × K × C) → Type 0
  AreApart [] = Unit {0}
  AreApart (e ∷ events) = AllByRecursion (λ x. is_eq (cmp e.1 x.1) ≡ false) events × AreApart events

  tail_by : (b : Bool) (k : K) (e : MrpEvent × K × C) (events : List (MrpEvent × K × C))
      → length (if b then e ∷ filter (of_key k) events else filter (of_key k) events) ≤ 1 → length (filter (of_key k) events) ≤ 1
  tail_by true k e events few = omega (arith, few)
  tail_by false k e events few = few

  none_by : (b : Bool) (k : K) (x : MrpEvent × K × C) (events : List (MrpEvent × K × C)) → of_key k x ≡ b
      → length (if b then x ∷ filter (of_key k) events else filter (of_key k) events) ≤ 0
      → (of_key k x ≡ false) × (length (filter (of_key k) events) ≤ 0)
  none_by true k x events is few = let no_room : ⊥ = omega (arith, few) in absurd no_room
  none_by false k x events is few = (is, few)

  apart_from : (k : K) (events : List (MrpEvent × K × C)) → length (filter (of_key k) events) ≤ 0 → AllByRecursion (λ x. is_eq (cmp k x.1) ≡ false) events
  apart_from k [] few = tt
  apart_from k (x ∷ events) few =
      let here = none_by (of_key k x) k x events refl few in
      (ap is_eq (o.antisymm k x.1) ∙ reversed (cmp x.1 k) ∙ here.0, apart_from k events here.1)

  head_by : (b : Bool) (k : K) (e : MrpEvent × K × C) (events : List (MrpEvent × K × C)) → b ≡ true
      → length (if b then e ∷ filter (of_key k) events else filter (of_key k) events) ≤ 1 → length (filter (of_key k) events) ≤ 0
  head_by true k e events is few = omega (arith, few)
  head_by false k e events is few = cc

  pub apart : (events : List (MrpEvent × K × C)) → IsOneOfEach cmp events → AreApart events
  apart [] one = tt
  apart (e ∷ events) one = (
    apart_from e.1 events (head_by (of_key e.1 e) e.1 e events (itself (cmp e.1 e.1) (o.antisymm e.1 e.1)) (one e.1)),
    apart events (λ k. tail_by (of_key k e) k e events (one k)),
  )

-- ---- what becomes of a way

module _ {K C : Type 0} (cmp : K → K → Ordering) where
  -- its observer may take the events in one list
  in_parts : (at : Cs) (events : List (MrpEvent × K × C)) (way : WayState K C)
      → all_hearing_way cmp at way events
      ≡ record way {
        observer = received_state cmp at false events way.observer;
        ends = fold (λ ends e. ends_by e.0 (until_of at way) ends) way.ends events;
        withdrawn = fold (λ keys e. withdrawn_by cmp e.0 e.1 keys) way.withdrawn events;
      }
  in_parts at [] way = refl
  in_parts at (e ∷ events) way = in_parts at events (hearing_way cmp at way e)

  pub at-once : (at until : Cs) (events : List (MrpEvent × K × C)) (way : WayState K C) → until ≡ until_of at way
      → all_hearing_way cmp at way events
      ≡ record way {
        observer = received_state cmp at false events way.observer;
        ends = fold (λ ends e. ends_by e.0 until ends) way.ends events;
        withdrawn = fold (λ keys e. withdrawn_by cmp e.0 e.1 keys) way.withdrawn events;
      }
  at-once at until events way is =
      subst (λ (u : Cs). all_hearing_way cmp at way events
      ≡ record way {
        observer = received_state cmp at false events way.observer;
        ends = fold (λ ends e. ends_by e.0 u ends) way.ends events;
        withdrawn = fold (λ keys e. withdrawn_by cmp e.0 e.1 keys) way.withdrawn events;
      }) (sym is) (in_parts at events way)

-- ---- what is said

module _ {K C : Type 0} (cmp : K → K → Ordering) (o : IsTotalOrder cmp) (eq : C → C → Bool) (key_text : K → List ℕ) (content_text : C → List ℕ)
    (stay : (s : State K C) (now : Cs) (leave_all : Bool) (events : List (MrpEvent × K × C)) → AreRows cmp s.rows
    → AreRows cmp (received_state cmp now leave_all events s).rows)
    (receive : (s : State K C) (now : Cs) (leave_all : Bool) (events : List (MrpEvent × K × C)) → AreRows cmp s.rows → (k : K)
    → find cmp k (received_state cmp now leave_all events s).rows ≡ row_after_receive cmp (after now s.leave_time) leave_all events k (find cmp k s.rows)) where
  -- the keys of some events have in some rows what they have in others
  abbrev HaveSame : List (Row K C) → List (Row K C) → List (MrpEvent × K × C) → Type 0
  HaveSame rows others events = AllByRecursion (λ e. find cmp e.1 rows ≡ find cmp e.1 others) events

  same : (rows : List (Row K C)) (events : List (MrpEvent × K × C)) → HaveSame rows rows events
  same rows [] = tt
  same rows (e ∷ events) = (refl, same rows events)

  -- an event of another key leaves it so
  still-same : (at : Cs) (e : MrpEvent × K × C) (s : State K C) (others : List (Row K C)) (events : List (MrpEvent × K × C))
      → AreRows cmp s.rows → AllByRecursion (λ x. is_eq (cmp e.1 x.1) ≡ false) events → HaveSame s.rows others events
      → HaveSame (received_state cmp at false (e ∷ []) s).rows others events
  still-same at e s others [] are above all = tt
  still-same at e s others (x ∷ events) are above all = (
    receive s at false (e ∷ []) are x.1
        ∙ ap (λ (b : Bool). if b then after_hear e.0 e.1 e.2 (after at s.leave_time) (find cmp x.1 s.rows) else find cmp x.1 s.rows) above.0
        ∙ all.0,
    still-same at e s others events are above.1 all.1,
  )

  -- a way with another observer, other ends and other keys withdrawn
  abbrev with_heard : WayState K C → State K C → List Cs → List K → WayState K C
  with_heard way s ends withdrawn = record way { observer = s; ends = ends; withdrawn = withdrawn }

  -- what is said of an event rests on the row of its key alone
  said : (at : Cs) (way : WayState K C) (s : State K C) (ends : List Cs) (withdrawn : List K) (event : MrpEvent) (k : K) (c : C)
      → find cmp k s.rows ≡ find cmp k way.observer.rows
      → heard_text cmp eq key_text content_text at (with_heard way s ends withdrawn) event k c ≡ heard_text cmp eq key_text content_text at way event k c
  said at way s ends withdrawn New k c is = ap (λ (r : Option (Row K C)). if stands_as eq c r then [] else stands_line at way.speaker (key_text k) (content_text c)) is
  said at way s ends withdrawn JoinIn k c is = ap (λ (r : Option (Row K C)). if stands_as eq c r then [] else stands_line at way.speaker (key_text k) (content_text c)) is
  said at way s ends withdrawn OnlyIn k c is = refl
  said at way s ends withdrawn JoinMt k c is = ap (λ (r : Option (Row K C)). if stands_as eq c r then [] else stands_line at way.speaker (key_text k) (content_text c)) is
  said at way s ends withdrawn OnlyMt k c is = refl
  said at way s ends withdrawn Lv k c is = ap (λ (r : Option (Row K C)). if is_in (registrar_of r) then leaves_line at way.speaker (key_text k) (until_of at way) else []) is

  said-each : (at : Cs) (way : WayState K C) (events : List (MrpEvent × K × C)) (s : State K C) (ends : List Cs) (withdrawn : List K)
      → AreRows cmp s.rows → AreApart {C = C} cmp o events → HaveSame s.rows way.observer.rows events
      → all_heard_text cmp eq key_text content_text at (with_heard way s ends withdrawn) events
      ≡ flat_map (λ e. heard_text cmp eq key_text content_text at way e.0 e.1 e.2) events
  said-each at way [] s ends withdrawn are up all = refl
  said-each at way (e ∷ events) s ends withdrawn are up all =
      let now : WayState K C = with_heard way s ends withdrawn in
      let rest : all_heard_text cmp eq key_text content_text at (hearing_way cmp at now e) events
      ≡ flat_map (λ e. heard_text cmp eq key_text content_text at way e.0 e.1 e.2) events
      = said-each at way events (received_state cmp at false (e ∷ []) s) (ends_by e.0 (until_of at way) ends) (withdrawn_by cmp e.0 e.1 withdrawn)
      (stay s at false (e ∷ []) are) up.1 (still-same at e s way.observer.rows events are up.0 all.1) in
      ap (λ (t : List ℕ). t ++ all_heard_text cmp eq key_text content_text at (hearing_way cmp at now e) events) (said at way s ends withdrawn e.0 e.1 e.2 all.0)
      ∙ ap (λ (t : List ℕ). heard_text cmp eq key_text content_text at way e.0 e.1 e.2 ++ t) rest

  -- so of all of them the same is said as of each by itself
  pub each-heard : (at : Cs) (way : WayState K C) (events : List (MrpEvent × K × C)) → AreRows cmp way.observer.rows → AreApart {C = C} cmp o events
      → all_heard_text cmp eq key_text content_text at way events ≡ flat_map (λ e. heard_text cmp eq key_text content_text at way e.0 e.1 e.2) events
  each-heard at way events are up = said-each at way events way.observer way.ends way.withdrawn are up (same way.observer.rows events)
