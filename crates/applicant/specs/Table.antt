-- The Applicant's table, after IEEE Std 802.1Q-2018, 10.7.7 (Table 10-3), for full participants on
-- point-to-point links, and how a participant's user drives it.
use Rattle.std.specs.Prelude.{Bool, true, false, if◌then◌else◌}
use Rattle.applicant.specs.declared.{Applicant.Applicant, AppEvent.AppEvent, Say.Say}
use Rattle.applicant.specs.declared.Applicant.TheVariants.{Vo, Vp, Vn, An, Aa, Qa, La}
use Rattle.applicant.specs.declared.AppEvent.TheVariants.{NewReq, JoinReq, LvReq, RxIn, RxMt, RxLv, RxLeaveAll, Periodic, Tx, TxLeaveAll, TxLeaveAllFull}
use Rattle.applicant.specs.declared.Say.TheVariants.{Quiet, New, Join, Lv}

-- what stands in a cell: from the state of its column to the new state and what is said
abbrev pub Cell : Type 0
Cell = Applicant → Applicant × Say

-- a blank cell: no change, and nothing said
abbrev pub nothing : Cell
nothing state = (state, Quiet)

-- a new state, with nothing said
abbrev pub to : Applicant → Cell
to next _ = (next, Quiet)

-- something said, and a new state
abbrev pub say : Say → Applicant → Cell
say say_of next _ = (next, say_of)

-- the cells of one event, in the order of the states
abbrev pub row : (vo vp vn an aa qa la : Cell) → Cell
row vo vp vn an aa qa la Vo = vo Vo
row vo vp vn an aa qa la Vp = vp Vp
row vo vp vn an aa qa la Vn = vn Vn
row vo vp vn an aa qa la An = an An
row vo vp vn an aa qa la Aa = aa Aa
row vo vp vn an aa qa la Qa = qa Qa
row vo vp vn an aa qa la La = la La

-- the table, whose columns are the states; `held` says that the port's own registrar of the
-- attribute is IN
abbrev pub table : AppEvent → Bool → Cell
-- VO, VP, VN, AN, AA, QA, LA
table NewReq held =
    row (to Vn) (to Vn) nothing (to Vn) (to Vn) (to Vn) (to Vn)
table JoinReq held =
    row (to Vp) nothing nothing nothing nothing nothing (to Aa)
table LvReq held =
    row nothing (to Vo) (to La) (to La) (to La) (to La) nothing
table RxIn held =
    row nothing nothing nothing nothing (to Qa) nothing nothing
table RxMt held =
    row nothing nothing nothing nothing nothing (to Aa) nothing
table RxLv held =
    row nothing nothing nothing (to Vn) (to Vp) (to Vp) nothing
table RxLeaveAll held =
    row nothing nothing nothing (to Vn) (to Vp) (to Vp) nothing
table Periodic held =
    row nothing nothing nothing nothing nothing (to Aa) nothing
table Tx held =
    row nothing (say Join Aa) (say New An) (say New (if held then Qa else Aa)) (say Join Qa) nothing (say Lv Vo)
table TxLeaveAll held =
    row nothing (say Join Aa) (say New An) (say New Qa) (say Join Qa) (say Join Qa) (to Vo)
table TxLeaveAllFull held =
    row nothing nothing nothing (to Vn) (to Vp) (to Vp) (to Vo)

-- the state after an event
abbrev pub next : AppEvent → Bool → Applicant → Applicant
next event held state = (table event held state).0

-- what is said at an event
abbrev pub say_of : AppEvent → Bool → Applicant → Say
say_of event held state = (table event held state).1

-- the state after a request, at which nothing is said
abbrev pub after_request : AppEvent → Applicant → Applicant
after_request request state = next request false state

-- whether an event is a request of the user: New!, Join!, Lv!
abbrev pub is_request : AppEvent → Bool
is_request NewReq = true
is_request JoinReq = true
is_request LvReq = true
is_request _ = false

-- the user declares: JoinReq in VO, NewReq in LA, and nothing in the other states
abbrev pub declare_of : Applicant → Applicant
declare_of Vo = after_request JoinReq Vo
declare_of La = after_request NewReq La
declare_of state = state

-- the user declares another content: NewReq
abbrev pub redeclare_of : Applicant → Applicant
redeclare_of state = after_request NewReq state

-- the user withdraws: NewReq and then LvReq in VP, nothing in VO and LA, LvReq in the others
abbrev pub withdraw_of : Applicant → Applicant
withdraw_of Vo = Vo
withdraw_of Vp = after_request LvReq (after_request NewReq Vp)
withdraw_of La = La
withdraw_of state = after_request LvReq state

-- whether the user's last word was a declaration: all states but VO and LA
abbrev pub is_declared_in : Applicant → Bool
is_declared_in Vo = false
is_declared_in La = false
is_declared_in _ = true

-- whether an applicant is VO
abbrev pub is_observer : Applicant → Bool
is_observer Vo = true
is_observer _ = false

-- whether an applicant has nothing to say until something happens
abbrev pub is_quiet : Applicant → Bool
is_quiet Vo = true
is_quiet Qa = true
is_quiet _ = false
