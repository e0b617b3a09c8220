-- One way over a link: what one end declares, and how it stands at the other. What is printed of it
-- and what becomes of it, by what is seen (IEEE Std 802.1Q-2018, 10.7). The words are this
-- project's.
use Rattle.std.specs.Prelude.{◌≡◌, ◌<◌, ◌≤◌, ℕ, Bool, true, false, not, ◌&&◌, ◌||◌, if◌then◌else◌, List, [], ◌∷◌, ◌++◌, length, filter, flat_map, fold, Option, Some}
use Rattle.std.specs.{declared.cmp.Ordering.Ordering, Option.option_eq}
use Rattle.srp_base.specs.declared.{numbers.Cs.Cs, mrp.MrpEvent.MrpEvent}
use Rattle.srp_base.specs.declared.mrp.MrpEvent.TheVariants.{New, JoinIn, OnlyIn, JoinMt, OnlyMt, Lv}
use Rattle.attribute_propagation.specs.Dirty.{is_awaiting, with_key, without_key}
use Rattle.registrar.specs.declared.Registrar.{Registrar}
use Rattle.registrar.specs.Table.{is_in}
use Rattle.mrp_participant.specs.declared.row.Row.{Row}
use Rattle.mrp_participant.specs.{Lookup.same, Lookup.find, Row.registrar_of, Row.registered_in, State.State, State.after, State.left_keys, State.due_state, State.received_state}
use Rattle.link_replay.specs.declared.lines.End.{End}
use Rattle.link_replay.specs.{Standing.agrees, Standing.standing, Standing.Standing, Standing.Standing.Stands, Standing.Standing.Leaves, Standing.Standing.Gone, Moments.cs_cmp, Moments.is_up_to, Moments.later_than, Observer.new_observer, Observer.own_leave_all_state, Lines.other_end, Lines.stands_line, Lines.leaves_line, Lines.gone_line, Lines.owes_line, Lines.let_go_line, Lines.word_line}

-- the end that declares; the observer of the other; how long leave timers last; the moments at which
-- those end that were started; the keys of which Lv was said last; and whether a LeaveAll of either
-- end was seen, before which nothing is known of what was declared earlier
pub record WayState (K C : Type 0) : Type 0 where
  pub speaker : End
  pub observer : State K C
  pub leave_time : Cs
  pub ends : List Cs
  pub withdrawn : List K
  pub known : Bool

-- of which nothing was seen yet
abbrev pub new_way : {K C : Type 0} → End → Cs → WayState K C
new_way speaker leave_time = record { speaker = speaker; observer = new_observer leave_time; leave_time = leave_time; ends = []; withdrawn = []; known = false }

-- the keys of which Lv was said last, after an event of a key: a declaration takes it out
abbrev pub withdrawn_by : {K : Type 0} → (K → K → Ordering) → MrpEvent → K → List K → List K
withdrawn_by cmp New k keys = without_key cmp k keys
withdrawn_by cmp JoinIn k keys = without_key cmp k keys
withdrawn_by cmp OnlyIn k keys = keys
withdrawn_by cmp JoinMt k keys = without_key cmp k keys
withdrawn_by cmp OnlyMt k keys = keys
withdrawn_by cmp Lv k keys = with_key cmp k keys

-- the moments at which leave timers end, after an event with which one that starts ends at a moment:
-- Lv starts it
abbrev pub ends_by : MrpEvent → Cs → List Cs → List Cs
ends_by New until ends = ends
ends_by JoinIn until ends = ends
ends_by OnlyIn until ends = ends
ends_by JoinMt until ends = ends
ends_by OnlyMt until ends = ends
ends_by Lv until ends = with_key cs_cmp until ends

-- whether a registrar is IN with this content
abbrev pub stands_as : {K C : Type 0} → (C → C → Bool) → C → Option (Row K C) → Bool
stands_as eq c r = is_in (registrar_of r) && option_eq eq (registered_in r) (Some c)

-- ---- time

module _ {K C : Type 0} where
  -- the moment at which a leave timer that starts now ends
  abbrev pub until_of : Cs → WayState K C → Cs
  until_of at way = after at way.leave_time

  -- the moments up to this one at which leave timers end
  abbrev pub ends_up_to : Cs → WayState K C → List Cs
  ends_up_to at way = filter (is_up_to at) way.ends

  -- after a moment: the leave timers have fired that are due
  abbrev pub passing_way : Cs → WayState K C → WayState K C
  passing_way at way = record way { observer = due_state at way.observer; ends = later_than at way.ends }

-- ---- what becomes of a way

module _ {K C : Type 0} (cmp : K → K → Ordering) where
  -- how many keys are let go at a moment: they weren't withdrawn
  abbrev pub let_go_count : Cs → WayState K C → ℕ
  let_go_count at way = length (filter (λ k. not (is_awaiting cmp k way.withdrawn)) (left_keys at way.observer))

  -- after a LeaveAll of either end
  abbrev pub leave_all_way : Cs → WayState K C → WayState K C
  leave_all_way at way =
      record way { observer = own_leave_all_state cmp at way.observer; ends = with_key cs_cmp (until_of at way) way.ends; known = true }

  -- after an event of the speaker
  abbrev pub hearing_way : Cs → WayState K C → MrpEvent × K × C → WayState K C
  hearing_way at way e =
      record way {
        observer = received_state cmp at false (e ∷ []) way.observer;
        ends = ends_by e.0 (until_of at way) way.ends;
        withdrawn = withdrawn_by cmp e.0 e.1 way.withdrawn;
      }

  -- after some, in order
  abbrev pub all_hearing_way : Cs → WayState K C → List (MrpEvent × K × C) → WayState K C
  all_hearing_way at way events = fold (hearing_way at) way events

  -- whether a key stands
  abbrev pub is_held : WayState K C → K → Bool
  is_held way k = is_in (registrar_of (find cmp k way.observer.rows))

  -- whether what the other end says of its registrar isn't what the observer holds. That nothing
  -- stands is no ground where an earlier declaration may not have been seen.
  abbrev pub is_broken : WayState K C → MrpEvent × K × C → Bool
  is_broken way e = not (agrees e.0 (is_held way e.1)) && (way.known || is_held way e.1)

-- ---- what is printed of a LeaveAll, of either end

module _ {K C : Type 0} (key_text : K → List ℕ) where
  -- of a key that stood
  abbrev pub owed_text : Cs → WayState K C → K → List ℕ
  owed_text at way k = leaves_line at way.speaker (key_text k) (until_of at way) ++ owes_line at way.speaker (key_text k) (until_of at way)

  -- of a key with its registrar
  abbrev pub leaving_of : Cs → WayState K C → K → Registrar → List ℕ
  leaving_of at way k registrar = if is_in registrar then owed_text at way k else []

  -- of a row
  abbrev pub leaving_text : Cs → WayState K C → Row K C → List ℕ
  leaving_text at way r = leaving_of at way r.key r.registrar

  -- of all of them
  abbrev pub leave_all_text : Cs → WayState K C → List ℕ
  leave_all_text at way = flat_map (leaving_text at way) way.observer.rows

-- ---- what is printed where time passes, and of what the other end says of its registrars

module _ {K C : Type 0} (cmp : K → K → Ordering) (key_text : K → List ℕ) where
  -- of a key whose leave timer has ended
  abbrev pub gone_text : Cs → WayState K C → K → List ℕ
  gone_text at way k =
      gone_line at way.speaker (key_text k) ++ (if is_awaiting cmp k way.withdrawn then [] else let_go_line at way.speaker (key_text k))

  -- of all of them at a moment
  abbrev pub passing_text : Cs → WayState K C → List ℕ
  passing_text at way = flat_map (gone_text at way) (left_keys at way.observer)

  -- of a key that is withdrawn
  abbrev pub withdrawing_text : Cs → WayState K C → K → List ℕ
  withdrawing_text at way k =
      if is_in (registrar_of (find cmp k way.observer.rows)) then leaves_line at way.speaker (key_text k) (until_of at way) else []

  -- of a word on a registrar
  abbrev pub word_text : Cs → WayState K C → MrpEvent × K × C → List ℕ
  word_text at way e =
      if is_broken cmp way e then word_line at (other_end way.speaker) e.0 (key_text e.1) (is_held cmp way e.1) else []

-- ---- what is printed of what the speaker says

module _ {K C : Type 0} (cmp : K → K → Ordering) (eq : C → C → Bool) (key_text : K → List ℕ) (content_text : C → List ℕ) where
  -- of a key that is declared with a content
  abbrev pub joining_text : Cs → WayState K C → K → C → List ℕ
  joining_text at way k c =
      if stands_as eq c (find cmp k way.observer.rows) then [] else stands_line at way.speaker (key_text k) (content_text c)

  -- of an event of a key with a content: what changes
  abbrev pub heard_text : Cs → WayState K C → MrpEvent → K → C → List ℕ
  heard_text at way New k c = joining_text at way k c
  heard_text at way JoinIn k c = joining_text at way k c
  heard_text at way OnlyIn k c = []
  heard_text at way JoinMt k c = joining_text at way k c
  heard_text at way OnlyMt k c = []
  heard_text at way Lv k c = withdrawing_text cmp key_text at way k

  -- of all events of a list of messages, in order
  abbrev pub all_heard_text : Cs → WayState K C → List (MrpEvent × K × C) → List ℕ
  all_heard_text at way [] = []
  all_heard_text at way (e ∷ events) = heard_text at way e.0 e.1 e.2 ++ all_heard_text at (hearing_way cmp at way e) events

-- ---- events of which each key has at most one

abbrev pub IsOneOfEach : {K C : Type 0} → (K → K → Ordering) → List (MrpEvent × K × C) → Type 0
IsOneOfEach {K = K} cmp events = (k : K) → length (filter (λ e. same cmp e.1 k) events) ≤ 1

-- ---- leave timers

-- the leave timer of what stands of a key, where it runs, ends after a moment, and then is one of some
-- moments
abbrev pub IsEndKnown : {C : Type 0} → Cs → List Cs → Standing C → Type 0
IsEndKnown at ends (Stands c) = Unit {0}
IsEndKnown at ends (Leaves c until) = (at.0 < until.0) × (is_awaiting cs_cmp until ends ≡ true)
IsEndKnown at ends Gone = Unit {0}

-- so it is of each key of a way
abbrev pub AreEndsKnown : {K C : Type 0} → (K → K → Ordering) → Cs → WayState K C → Type 0
AreEndsKnown {K = K} cmp at way = (k : K) → IsEndKnown at way.ends (standing (find cmp k way.observer.rows))
