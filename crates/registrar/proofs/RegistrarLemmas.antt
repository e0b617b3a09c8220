-- What events leave of a registration.
use Rattle.std.proofs.Common.{◌≡◌, true, refl, ◌∙◌}
use Rattle.registrar.specs.{Registrar, Held, Leaving, Empty, RegEvent, RxNew, RxJoin, RxLv, RxLeaveAll, TxLeaveAll, next, is_registered_in}

-- a received LeaveAll leaves a registrar as registered as it was
pub leave_all-registered : (g : Registrar) → is_registered_in (next RxLeaveAll g) ≡ is_registered_in g
leave_all-registered Held = refl
leave_all-registered Leaving = refl
leave_all-registered Empty = refl

-- and so does an own one that is sent
pub leave_all_sent-registered : (g : Registrar) → is_registered_in (next TxLeaveAll g) ≡ is_registered_in g
leave_all_sent-registered Held = refl
leave_all_sent-registered Leaving = refl
leave_all_sent-registered Empty = refl

-- ---- events at which a registrar stays registered

-- what was registered before an event is registered after it
abbrev pub KeepsRegistered : RegEvent → Type 0
KeepsRegistered event = (g : Registrar) → is_registered_in g ≡ true → is_registered_in (next event g) ≡ true

-- a received New keeps it
pub new-registers : KeepsRegistered RxNew
new-registers Held h = refl
new-registers _ h = refl

-- a received Join keeps it
pub join-registers : KeepsRegistered RxJoin
join-registers Held h = refl
join-registers _ h = refl

-- a received Lv keeps it, until the leave timer ends
pub lv-registers : KeepsRegistered RxLv
lv-registers Empty h = h
lv-registers _ h = refl

-- a received LeaveAll keeps it, until the leave timer ends
pub leave_all-registers : KeepsRegistered RxLeaveAll
leave_all-registers g h = leave_all-registered g ∙ h

-- and so does an own one that is sent
pub sent_leave_all-registers : KeepsRegistered TxLeaveAll
sent_leave_all-registers g h = leave_all_sent-registered g ∙ h
