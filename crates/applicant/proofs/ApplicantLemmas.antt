-- Events at which an applicant neither leaves VO nor goes there.
use Rattle.std.proofs.Common.{◌≡◌, Bool, refl}
use Rattle.applicant.specs.{Applicant, Vo, AppEvent, RxIn, RxMt, RxLv, RxLeaveAll, Periodic, next, is_observer}

-- an applicant is in VO after an event exactly where it was before
abbrev pub KeepsObserver : AppEvent → Type 0
KeepsObserver event = (held : Bool) (a : Applicant) → is_observer (next event held a) ≡ is_observer a

-- a received In or JoinIn keeps it
pub in-keeps : KeepsObserver RxIn
in-keeps held Vo = refl
in-keeps held _ = refl

-- a received Mt or JoinMt keeps it
pub mt-keeps : KeepsObserver RxMt
mt-keeps held Vo = refl
mt-keeps held _ = refl

-- a received Lv keeps it
pub lv-keeps : KeepsObserver RxLv
lv-keeps held Vo = refl
lv-keeps held _ = refl

-- a received LeaveAll keeps it
pub leave_all-keeps : KeepsObserver RxLeaveAll
leave_all-keeps held Vo = refl
leave_all-keeps held _ = refl

-- the periodic timer keeps it
pub periodic-keeps : KeepsObserver Periodic
periodic-keeps held Vo = refl
periodic-keeps held _ = refl
