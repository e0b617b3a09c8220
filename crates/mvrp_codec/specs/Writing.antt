-- The one spelling in which the events of VIDs are written (IEEE Std 802.1Q-2018, 10.8.1.2): one
-- Message, in which each maximal streak of consecutive VIDs is one vector.
use Rattle.std.specs.Prelude.{◌≡◌, ◌≢◌, ℕ, ◌+◌, ◌≤◌, Bool, true, false, ◌||◌, List, [], ◌∷◌, ◌++◌, length, map, nat_lt, ◌==◌, if◌then◌else◌}
use Rattle.std.specs.List.{flat_map, AllByRecursion}
use Rattle.srp_base.specs.declared.mrp.MrpEvent.{MrpEvent}
use Rattle.mrpdu_codec.specs.declared.{form.AppForm.TheVariants.Mvrp, pdu.VectorAttr.VectorAttr, pdu.Pdu.Pdu}
use Rattle.mrpdu_codec.specs.{Tree.vectors_octets, Canonical.two_octets, Canonical.vectors_for, Canonical.spelling}
use Rattle.mvrp_codec.specs.declared.pdu.MvrpPdu.{MvrpPdu}

-- an event joins the streak behind it where that begins with the next VID
abbrev pub join : MrpEvent × ℕ → List (List (MrpEvent × ℕ)) → List (List (MrpEvent × ℕ))
join x [] = (x ∷ []) ∷ []
join x ([] ∷ others) = (x ∷ []) ∷ others
join x ((y ∷ ys) ∷ others) = if x.1 + 1 == y.1 then (x ∷ y ∷ ys) ∷ others else (x ∷ []) ∷ (y ∷ ys) ∷ others

-- the maximal streaks of consecutive VIDs
abbrev pub streaks : List (MrpEvent × ℕ) → List (List (MrpEvent × ℕ))
streaks [] = []
streaks (x ∷ xs) = join x (streaks xs)

-- the FirstValue of a streak
abbrev pub first_for : List (MrpEvent × ℕ) → List ℕ
first_for [] = two_octets 0
first_for (x ∷ xs) = two_octets x.1

-- the vector of a streak; without values it has a FirstValue of zeros
abbrev pub streak_vector : Bool → List (MrpEvent × ℕ) → VectorAttr
streak_vector leave streak = record { leave_all = leave; first = first_for streak; events = map (λ x. x.0) streak; params = [] }

-- the vectors of streaks: the first has the LeaveAll, and stands alone where there is no streak
abbrev pub streak_vectors : Bool → List (List (MrpEvent × ℕ)) → List VectorAttr
streak_vectors false [] = []
streak_vectors true [] = streak_vector true [] ∷ []
streak_vectors leave (streak ∷ others) = streak_vector leave streak ∷ map (streak_vector false) others

-- the octets of the vectors of streaks
abbrev pub streaks_octets : Bool → List (List (MrpEvent × ℕ)) → List ℕ
streaks_octets leave ss = vectors_octets (vectors_for (streak_vectors leave ss))

-- the octets of a Message of VIDs with these vectors, alone in a PDU
abbrev pub pdu_around : List ℕ → List ℕ
pdu_around vectors = 0 ∷ 1 ∷ 2 ∷ (vectors ++ 0 ∷ 0 ∷ 0 ∷ 0 ∷ [])

-- a PDU of VIDs, which are type 1
abbrev pub one_message : List VectorAttr → Pdu
one_message vs = record { version = 0; messages = record { kind = 1; vectors = vs } ∷ [] }

-- the PDU of a LeaveAll and events
abbrev pub pdu_for : MvrpPdu → Pdu
pdu_for read = one_message (streak_vectors read.leave_all (streaks read.events))

-- the octets in which a LeaveAll and events are written
abbrev pub mvrp_spelling : MvrpPdu → List ℕ
mvrp_spelling read = spelling Mvrp (pdu_for read)

-- a LeaveAll or an event, and few enough events for 1,500 octets
pub record IsWritable (read : MvrpPdu) : Type 0 where
  pub some : (read.leave_all || nat_lt 0 (length read.events)) ≡ true
  pub few : length read.events ≤ 297

-- how many of the events have consecutive VIDs from the first on
abbrev pub streak_len : List (MrpEvent × ℕ) → ℕ
streak_len [] = 0
streak_len (x ∷ []) = 1
streak_len (x ∷ y ∷ ys) = if x.1 + 1 == y.1 then streak_len (y ∷ ys) + 1 else 1

-- each event is of a number that a VID has
abbrev pub AreVids : List (MrpEvent × ℕ) → Type 0
AreVids events = AllByRecursion (λ x. (1 ≤ x.1) × (x.1 ≤ 4094)) events

-- ---- What maximal streaks are

-- one event or more, of consecutive VIDs
abbrev pub IsStreak : List (MrpEvent × ℕ) → Type 0
IsStreak [] = ⊥
IsStreak (x ∷ []) = Unit {0}
IsStreak (x ∷ y ∷ ys) = (x.1 + 1 ≡ y.1) × IsStreak (y ∷ ys)

-- the streak behind a streak doesn't begin with the VID after its last
abbrev pub EndsBefore : List (MrpEvent × ℕ) → List (List (MrpEvent × ℕ)) → Type 0
EndsBefore [] others = ⊥
EndsBefore (x ∷ []) [] = Unit {0}
EndsBefore (x ∷ []) ([] ∷ others) = ⊥
EndsBefore (x ∷ []) ((y ∷ ys) ∷ others) = x.1 + 1 ≢ y.1
EndsBefore (x ∷ y ∷ ys) others = EndsBefore (y ∷ ys) others

-- streaks of which none goes on in the next
abbrev pub AreMaximal : List (List (MrpEvent × ℕ)) → Type 0
AreMaximal [] = Unit {0}
AreMaximal (streak ∷ others) = IsStreak streak × EndsBefore streak others × AreMaximal others

-- these streaks one after another are the events
abbrev pub events_of_streaks : List (List (MrpEvent × ℕ)) → List (MrpEvent × ℕ)
events_of_streaks ss = flat_map (λ streak. streak) ss
