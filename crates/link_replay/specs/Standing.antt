-- What stands of an attribute at one end of a link: what the registrar there holds of its key (IEEE
-- Std 802.1Q-2018, 10.7.8), and what a word about a registrar says of it (10.7.5).
use Rattle.std.specs.Prelude.{ℕ, Bool, true, false, not, nat_le, if◌then◌else◌, Option, Some, None}
use Rattle.srp_base.specs.declared.{numbers.Cs.Cs, mrp.MrpEvent.MrpEvent}
use Rattle.srp_base.specs.declared.mrp.MrpEvent.TheVariants.{New, JoinIn, OnlyIn, JoinMt, OnlyMt, Lv}
use Rattle.registrar.specs.declared.Registrar.{Registrar}
use Rattle.registrar.specs.declared.Registrar.TheVariants.{Held, Leaving, Empty}
use Rattle.mrp_participant.specs.declared.row.Row.{Row}

-- in IN the content, in LV the content and when the leave timer ends, in MT nothing
pub data Standing (C : Type 0) : Type 0 where
  Stands : C → Standing C
  Leaves : C → Cs → Standing C
  Gone : Standing C

-- what a registrar with what it heard and the end of its timer holds
abbrev pub held_by : {C : Type 0} → Registrar → C → Cs → Standing C
held_by Held c until = Stands c
held_by Leaving c until = Leaves c until
held_by Empty c until = Gone

-- what is held of a key, by its row
abbrev pub standing : {K C : Type 0} → Option (Row K C) → Standing C
standing None = Gone
standing (Some r) = held_by r.registrar r.heard r.leave

-- what a moment leaves of it: the leave timer fires where it is due
abbrev pub passing : {C : Type 0} → ℕ → Standing C → Standing C
passing now (Stands c) = Stands c
passing now (Leaves c until) = if nat_le until.0 now then Gone else Leaves c until
passing now Gone = Gone

-- whether a registrar is IN
abbrev pub is_standing : {C : Type 0} → Standing C → Bool
is_standing (Stands c) = true
is_standing (Leaves c until) = false
is_standing Gone = false

-- whether what an end says of its registrar of an attribute agrees with whether that is IN: JoinIn
-- and In say that it is, JoinMt and Mt that it isn't, and New and Lv say nothing of it
abbrev pub agrees : MrpEvent → Bool → Bool
agrees New held = true
agrees JoinIn held = held
agrees OnlyIn held = held
agrees JoinMt held = not held
agrees OnlyMt held = not held
agrees Lv held = true
