-- Both ways over a link, of one application: what is printed of what an end says, of what arrives at
-- the other and of time, and what becomes of the ways.
use Rattle.std.specs.Prelude.{ℕ, ◌+◌, Bool, if◌then◌else◌, List, [], ◌++◌}
use Rattle.std.specs.declared.cmp.Ordering.{Ordering}
use Rattle.srp_base.specs.declared.{numbers.Cs.Cs, mrp.MrpEvent.MrpEvent}
use Rattle.mrp_participant.specs.State.{Messages}
use Rattle.link_replay.specs.declared.lines.End.{End}
use Rattle.link_replay.specs.declared.lines.End.TheVariants.{A, B}
use Rattle.link_replay.specs.{Lines.other_end, Way.WayState, Way.new_way, Way.ends_up_to, Way.passing_text, Way.passing_way, Way.let_go_count, Way.leave_all_text, Way.leave_all_way, Way.all_heard_text, Way.all_hearing_way, Way.is_broken}

-- what each end declares, as it stands at the other
pub record Ways (K C : Type 0) : Type 0 where
  pub from_a : WayState K C
  pub from_b : WayState K C

-- of which nothing was seen yet
abbrev pub new_ways : {K C : Type 0} → Cs → Ways K C
new_ways leave_time = record { from_a = new_way A leave_time; from_b = new_way B leave_time }

-- the way from an end
abbrev pub way_of : {K C : Type 0} → End → Ways K C → WayState K C
way_of A w = w.from_a
way_of B w = w.from_b

-- the ways with another from an end
abbrev pub with_way : {K C : Type 0} → End → WayState K C → Ways K C → Ways K C
with_way A way w = record w { from_a = way }
with_way B way w = record w { from_b = way }

-- ---- time

module _ {K C : Type 0} where
  -- the moments up to this one at which leave timers end
  abbrev pub ways_ends_up_to : Cs → Ways K C → List Cs
  ways_ends_up_to at w = ends_up_to at w.from_a ++ ends_up_to at w.from_b

  -- after a moment
  abbrev pub ways_passing : Cs → Ways K C → Ways K C
  ways_passing at w = record { from_a = passing_way at w.from_a; from_b = passing_way at w.from_b }

-- ---- what becomes of the ways

module _ {K C : Type 0} (cmp : K → K → Ordering) where
  -- how much is let go at a moment
  abbrev pub ways_let_go : Cs → Ways K C → ℕ
  ways_let_go at w = let_go_count cmp at w.from_a + let_go_count cmp at w.from_b

  -- a way after a LeaveAll, where there is one
  abbrev pub begun_way : Cs → Bool → WayState K C → WayState K C
  begun_way at leave_all way = if leave_all then leave_all_way cmp at way else way

  -- the way of the end that says a list of messages, after that has arrived
  abbrev pub said_way : Cs → Messages K C → WayState K C → WayState K C
  said_way at m way = all_hearing_way cmp at (begun_way at m.leave_all way) m.events

  -- the ways after an end says a list of messages, of which a LeaveAll acts at once at that end, on
  -- what the other declares
  abbrev pub ways_saying : Cs → End → Messages K C → Ways K C → Ways K C
  ways_saying at who m w = with_way (other_end who) (begun_way at m.leave_all (way_of (other_end who) w)) w

  -- after it has arrived at the other end
  abbrev pub ways_arriving : Cs → End → Messages K C → Ways K C → Ways K C
  ways_arriving at who m w = with_way who (said_way at m (way_of who w)) w

  -- whether an event that an end says isn't what that end's observer holds
  abbrev pub is_word_broken : Ways K C → End → MrpEvent × K × C → Bool
  is_word_broken w who e = is_broken cmp (way_of (other_end who) w) e

-- ---- what is printed of a LeaveAll

module _ {K C : Type 0} (key_text : K → List ℕ) where
  -- of a LeaveAll, where there is one
  abbrev pub begun_text : Cs → Bool → WayState K C → List ℕ
  begun_text at leave_all way = if leave_all then leave_all_text key_text at way else []

  -- of what an end says, at that end
  abbrev pub saying_text : Cs → End → Messages K C → Ways K C → List ℕ
  saying_text at who m w = begun_text at m.leave_all (way_of (other_end who) w)

-- ---- what is printed where time passes

module _ {K C : Type 0} (cmp : K → K → Ordering) (key_text : K → List ℕ) where
  -- on both ways
  abbrev pub ways_passing_text : Cs → Ways K C → List ℕ
  ways_passing_text at w = passing_text cmp key_text at w.from_a ++ passing_text cmp key_text at w.from_b

-- ---- what is printed of what arrives

module _ {K C : Type 0} (cmp : K → K → Ordering) (eq : C → C → Bool) (key_text : K → List ℕ) (content_text : C → List ℕ) where
  -- on the way of the end that said a list of messages
  abbrev pub said_text : Cs → Messages K C → WayState K C → List ℕ
  said_text at m way = begun_text key_text at m.leave_all way ++ all_heard_text cmp eq key_text content_text at (begun_way cmp at m.leave_all way) m.events
