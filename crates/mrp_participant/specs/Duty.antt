-- What two neighbours owe one another over a link (IEEE Std 802.1Q-2018, 10.7): what each one's
-- registrars will hold once all that is in flight has been received is what the other declares. The
-- statement is this project's; the standard says what each machine does, and not what it comes to.
use Rattle.std.specs.Prelude.{◌≡◌, ◌⊎◌, Bool, true, if◌then◌else◌, List, fold}
use Rattle.std.specs.{declared.option.Option.Option, declared.option.Option.TheVariants.None, declared.option.Option.TheVariants.Some, declared.cmp.Ordering.Ordering, List.list_any}
use Rattle.srp_base.specs.declared.mrp.MrpEvent.{MrpEvent}
use Rattle.srp_base.specs.declared.mrp.MrpEvent.TheVariants.{New, JoinIn, OnlyIn, JoinMt, OnlyMt, Lv}
use Rattle.applicant.specs.declared.Applicant.{Applicant}
use Rattle.applicant.specs.declared.Applicant.TheVariants.{Vo, Vp, Vn, An, Aa, Qa, La}
use Rattle.mrp_participant.specs.declared.row.Row.{Row}
use Rattle.mrp_participant.specs.{Lookup.same, Lookup.find, State.State, State.Messages}
use Rattle.registrar.specs.Table.{is_in}

-- what a registrar holds of its key: the content that it heard last where it is IN, and else
-- nothing
abbrev pub held_in : {K C : Type 0} → Option (Row K C) → Option C
held_in None = None
held_in (Some r) = if is_in r.registrar then Some r.heard else None

-- what it holds after an event of its key: New and the two Joins give their content, Lv nothing,
-- and In and Mt change nothing
abbrev pub held_after_event : {C : Type 0} → MrpEvent → C → Option C → Option C
held_after_event New c held = Some c
held_after_event JoinIn c held = Some c
held_after_event OnlyIn c held = held
held_after_event JoinMt c held = Some c
held_after_event OnlyMt c held = held
held_after_event Lv c held = None

module _ {K C : Type 0} where
  -- what the registrar of a key holds after an event of this key or of another
  abbrev pub held_hearing : (K → K → Ordering) → K → Option C → MrpEvent × K × C → Option C
  held_hearing cmp k held e = if same cmp e.1 k then held_after_event e.0 e.2 held else held

  -- what it holds after a list of messages: LeaveAll leaves nothing, and then the events count in
  -- order
  abbrev pub held_after : (K → K → Ordering) → K → Option C → Messages K C → Option C
  held_after cmp k held m = fold (held_hearing cmp k) (if m.leave_all then None else held) m.events

  -- what it will hold once the lists of messages in flight have been received in order
  abbrev pub hears : (K → K → Ordering) → K → Option C → List (Messages K C) → Option C
  hears cmp k held flying = fold (held_after cmp k) held flying

  -- whether a LeaveAll is in flight
  abbrev pub has_leave_all : List (Messages K C) → Bool
  has_leave_all flying = list_any (λ m. m.leave_all) flying

-- what an applicant with a declared content owes, where the neighbour's registrar will hold so much
-- of the key and a LeaveAll of the neighbour's may be in flight: VO that nothing will be held; AN,
-- AA and QA that the content will, or that such a LeaveAll comes, at which they say it again. VP,
-- VN and LA have yet to speak.
abbrev pub Owes : {C : Type 0} → Applicant → C → Option C → Bool → Type 0
Owes Vo c held asked = held ≡ None
Owes Vp c held asked = Unit {0}
Owes Vn c held asked = Unit {0}
Owes An c held asked = (held ≡ Some c) ⊎ (asked ≡ true)
Owes Aa c held asked = (held ≡ Some c) ⊎ (asked ≡ true)
Owes Qa c held asked = (held ≡ Some c) ⊎ (asked ≡ true)
Owes La c held asked = Unit {0}

-- what is owed of a key, by its row; a key without a row owes what VO owes
abbrev pub OwesOf : {K C : Type 0} → Option (Row K C) → Option C → Bool → Type 0
OwesOf None held asked = held ≡ None
OwesOf (Some r) held asked = Owes r.applicant r.content held asked

-- the duty of a participant `near` to its neighbour `far` is met on their link, with the lists of
-- messages in flight to the neighbour and from it: where the participant is sound, it owes of each
-- key what its row says. Where it isn't sound, as after a loss and until its next LeaveAll, it owes
-- nothing.
pub record IsDutyMet {K C : Type 0} (cmp : K → K → Ordering) (near far : State K C) (sent coming : List (Messages K C)) : Type 0 where
  pub of_key :
      near.sound ≡ true
      → (k : K)
      → OwesOf (find cmp k near.rows) (hears cmp k (held_in (find cmp k far.rows)) sent) (has_leave_all coming)
