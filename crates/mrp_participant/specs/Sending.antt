-- What a participant says when it may send (IEEE Std 802.1Q-2018, 10.7.6 and 10.8): which rows are
-- taken into the PDU, what they say, and what becomes of them. The order and the limit are this
-- project's.
use Rattle.std.specs.Prelude.{◌≡◌, ℕ, ◌+◌, ◌<◌, ◌≤◌, Bool, true, false, ◌&&◌, not, if◌then◌else◌, nat_le, ◌==◌, List, [], ◌∷◌, ◌++◌, filter, sum_by}
use Rattle.std.specs.{declared.option.Option.Option, declared.option.Option.TheVariants.None, declared.option.Option.TheVariants.Some, declared.cmp.Ordering.Ordering}
use Rattle.srp_base.specs.declared.{numbers.Cs.Cs, mrp.MrpEvent.MrpEvent}
use Rattle.srp_base.specs.declared.mrp.MrpEvent.TheVariants.{New, JoinIn, JoinMt, Lv}
use Rattle.applicant.specs.declared.{Applicant.Applicant, AppEvent.AppEvent, Say.Say}
use Rattle.applicant.specs.declared.Applicant.TheVariants.{Vo, Vp, Vn, An, Aa, Qa, La}
use Rattle.applicant.specs.declared.AppEvent.TheVariants.{Tx, TxLeaveAll, TxLeaveAllFull}
use Rattle.applicant.specs.declared.Say.TheVariants.{Quiet, New as SayNew, Join as SayJoin, Lv as SayLv}
use Rattle.applicant.specs.Table as applicant
use Rattle.registrar.specs.declared.RegEvent.TheVariants.{TxLeaveAll as RegTxLeaveAll}
use Rattle.mrp_participant.specs.declared.row.Row.{Row}
use Rattle.mrp_participant.specs.{Lookup.same, Row.kept_row, Row.applicant_takes, Row.registrar_takes}
use Rattle.registrar.specs.Table.{is_in}

-- the round in which an applicant's row is tried, or 0: without LeaveAll those in VP, VN and LA
-- first, then those in AN and AA
abbrev pub plain_round : Applicant → ℕ
plain_round Vo = 0
plain_round Vp = 1
plain_round Vn = 1
plain_round An = 2
plain_round Aa = 2
plain_round Qa = 0
plain_round La = 1

-- with LeaveAll those in VP and VN first, then those in AN and AA, then those in QA
abbrev pub leave_all_round : Applicant → ℕ
leave_all_round Vo = 0
leave_all_round Vp = 1
leave_all_round Vn = 1
leave_all_round An = 2
leave_all_round Aa = 2
leave_all_round Qa = 3
leave_all_round La = 0

-- the round in a PDU with LeaveAll, or without
abbrev pub round : Bool → Applicant → ℕ
round leave_all a = if leave_all then leave_all_round a else plain_round a

-- the rows of one round, ascending
abbrev pub rows_of_round : {K C : Type 0} → Bool → ℕ → List (Row K C) → List (Row K C)
rows_of_round leave_all n rows = filter (λ r. round leave_all r.applicant == n) rows

-- the rows in the order in which they are tried
abbrev pub order : {K C : Type 0} → Bool → List (Row K C) → List (Row K C)
order leave_all rows = rows_of_round leave_all 1 rows ++ (rows_of_round leave_all 2 rows ++ rows_of_round leave_all 3 rows)

-- the stated octets of some rows together
abbrev pub octets_of : {K C : Type 0} → (C → ℕ) → List (Row K C) → ℕ
octets_of octets rows = sum_by (λ r. octets r.content) rows

-- the front of an order up to a key's row, that row included
abbrev pub up_to : {K C : Type 0} → (K → K → Ordering) → K → List (Row K C) → List (Row K C)
up_to cmp k [] = []
up_to cmp k (r ∷ rows) = r ∷ (if same cmp r.key k then [] else up_to cmp k rows)

-- whether a row is tried
abbrev pub is_tried : {K C : Type 0} → Bool → Row K C → Bool
is_tried leave_all r = not (round leave_all r.applicant == 0)

-- whether a row is taken: it is tried, and the base with the octets of all rows that are tried up
-- to it, its own included, is at most 1,500
abbrev pub is_taken : {K C : Type 0} → ℕ → (C → ℕ) → (K → K → Ordering) → Bool → List (Row K C) → Row K C → Bool
is_taken base octets cmp leave_all rows r =
    is_tried leave_all r && nat_le (base + octets_of octets (up_to cmp r.key (order leave_all rows))) 1500

-- the transmission opportunity that a row's applicant gets: without LeaveAll only a taken row gets
-- one; with LeaveAll a row that is tried and not taken finds no room
abbrev pub opportunity : {K C : Type 0} → Bool → Bool → Row K C → Option AppEvent
opportunity true taken r = Some (if is_tried true r && not taken then TxLeaveAllFull else TxLeaveAll)
opportunity false taken r = if taken then Some Tx else None

-- the row as it stands when its applicant gets its opportunity: with LeaveAll, TxLeaveAll goes to
-- every registrar first
abbrev pub before_opportunity : {K C : Type 0} → Bool → Cs → Row K C → Row K C
before_opportunity true leave r = registrar_takes RegTxLeaveAll leave r
before_opportunity false leave r = r

-- the row after an opportunity
abbrev pub row_after : {K C : Type 0} → Option AppEvent → Row K C → Option (Row K C)
row_after None r = Some r
row_after (Some event) r = kept_row (applicant_takes event r)

-- a row after sending, where it is taken or not
abbrev pub sent_row : {K C : Type 0} → Bool → Bool → Cs → Row K C → Option (Row K C)
sent_row leave_all taken leave r = row_after (opportunity leave_all taken r) (before_opportunity leave_all leave r)

-- what is written for what an applicant says: a Join is JoinIn where the row's own registrar is IN
abbrev pub event_for : Say → Bool → Option MrpEvent
event_for Quiet held = None
event_for SayNew held = Some New
event_for SayJoin held = Some (if held then JoinIn else JoinMt)
event_for SayLv held = Some Lv

-- what a taken row says, by its applicant: VN and AN say New, LA says Lv, and each other says Join,
-- which is JoinIn where the row's own registrar is IN and there is no LeaveAll
abbrev pub word_of : Bool → Applicant → Bool → MrpEvent
word_of leave_all Vn held = New
word_of leave_all An held = New
word_of leave_all La held = Lv
word_of leave_all _ held = if held && not leave_all then JoinIn else JoinMt

-- whether an event is Lv
abbrev pub is_leave : MrpEvent → Bool
is_leave Lv = true
is_leave _ = false

-- the event of a row with its key and the declared content
abbrev pub row_event : {K C : Type 0} → Row K C → Option MrpEvent → Option (MrpEvent × K × C)
row_event r None = None
row_event r (Some e) = Some (e, r.key, r.content)

-- what a row says at an opportunity
abbrev pub said_at : {K C : Type 0} → Option AppEvent → Row K C → Option (MrpEvent × K × C)
said_at None r = None
said_at (Some event) r = row_event r (event_for (applicant.say_of event (is_in r.registrar) r.applicant) (is_in r.registrar))

-- what a row says in the PDU, where it is taken or not
abbrev pub sent_event : {K C : Type 0} → Bool → Bool → Cs → Row K C → Option (MrpEvent × K × C)
sent_event leave_all taken leave r = said_at (opportunity leave_all taken r) (before_opportunity leave_all leave r)

-- a list of rows is split where room ends: the front fits, and with the next row it wouldn't
pub record IsSplit {K C : Type 0} (base : ℕ) (octets : C → ℕ) (whole front rest : List (Row K C)) : Type 0 where
  pub joined : whole ≡ front ++ rest
  pub fits : base + octets_of octets front ≤ 1500
  pub full : (next : Row K C) (more : List (Row K C)) → rest ≡ next ∷ more → 1500 < base + octets_of octets front + octets next.content
