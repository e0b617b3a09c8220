-- What is known of all rows without a look at them: when the first leave timer ends and how many
-- end then, and how many rows are tried. It is exact, so no walk is needed to see whether a timer
-- is due, whether anything is to be said, or whether all is at rest. No public contract names this
-- file.
use Rattle.std.specs.Prelude.{◌≡◌, ℕ, ◌+◌, ◌-◌, ◌^◌, ◌<◌, ◌≤◌, Bool, true, false, ◌&&◌, cond, if◌then◌else◌, nat_lt, nat_le, ◌==◌, List, count_by, is_none}
use Rattle.std.specs.{List.AllByRecursion, declared.option.Option.Option, declared.option.Option.TheVariants.None, declared.option.Option.TheVariants.Some}
use Rattle.srp_base.specs.declared.numbers.Cs.{Cs}
use Rattle.mrp_participant.specs.declared.{row.Row.Row, outlook.Outlook.Outlook}
use Rattle.registrar.specs.Table.{is_leaving}
use Rattle.mrp_participant.specs.Sending.{is_tried}

-- whether a row's leave timer runs and ends at a moment
abbrev pub ends_at : {K C : Type 0} → Cs → Row K C → Bool
ends_at t r = is_leaving r.registrar && (t.0 == r.leave.0)

-- of some rows no leave timer runs, or so many end at a moment and none before it
abbrev pub IsFirstLeave : {K C : Type 0} → Option (Cs × ℕ) → List (Row K C) → Type 0
IsFirstLeave None rows = AllByRecursion (λ r. is_leaving r.registrar ≡ false) rows
IsFirstLeave (Some p) rows = (p.1 ≡ count_by (ends_at p.0) rows) × AllByRecursion (λ r. is_leaving r.registrar ≡ true → p.0.0 ≤ r.leave.0) rows

-- what an outlook says is so of some rows, but that a timer ends at its moment
pub record Tells {K C : Type 0} (o : Outlook) (rows : List (Row K C)) : Type 0 where
  pub first : IsFirstLeave o.first_leave rows
  pub tried : o.tried ≡ count_by (λ r. is_tried false r) rows

-- whether some timer ends at the first moment, where there is one
abbrev pub has_one : Option (Cs × ℕ) → Bool
has_one None = true
has_one (Some p) = nat_lt 0 p.1

-- an outlook is that of some rows
abbrev pub IsOutlook : {K C : Type 0} → Outlook → List (Row K C) → Type 0
IsOutlook o rows = Tells o rows × (has_one o.first_leave ≡ true)

-- how many timers end first
abbrev pub firsts : Option (Cs × ℕ) → ℕ
firsts None = 0
firsts (Some p) = p.1

-- the first of some moments and how many timers end then, with one more
abbrev pub first_with : Option (Cs × ℕ) → Cs → Cs × ℕ
first_with None t = (t, 1)
first_with (Some p) t = if nat_lt t.0 p.0.0 then (t, 1) else (if t.0 == p.0.0 then (p.0, p.1 + 1) else p)

-- the outlook for one more row
abbrev pub outlook_with : {K C : Type 0} → Outlook → Row K C → Outlook
outlook_with o r =
    record {
      first_leave = if is_leaving r.registrar then Some (first_with o.first_leave r.leave) else o.first_leave;
      tried = o.tried + cond (is_tried false r) 1 0;
    }

-- there is room for one more in the counts of an outlook
abbrev pub HasRoom : Outlook → Type 0
HasRoom o = (firsts o.first_leave + 1 < 2 ^ 64) × (o.tried + 1 < 2 ^ 64)

-- the same moment and one timer less, where a row's ends then
abbrev pub first_without : {K C : Type 0} → Option (Cs × ℕ) → Row K C → Option (Cs × ℕ)
first_without None r = None
first_without (Some p) r = Some (p.0, p.1 - cond (ends_at p.0 r) 1 0)

-- the outlook for one row less, which may know a moment at which no timer ends any more
abbrev pub outlook_without : {K C : Type 0} → Outlook → Row K C → Outlook
outlook_without o r = record { first_leave = first_without o.first_leave r; tried = o.tried - cond (is_tried false r) 1 0 }

-- a row is counted where its timer ends first
abbrev pub IsCounted : {K C : Type 0} → Option (Cs × ℕ) → Row K C → Type 0
IsCounted None r = Unit {0}
IsCounted (Some p) r = cond (ends_at p.0 r) 1 0 ≤ p.1

-- an outlook counts a row, among others
abbrev pub Counts : {K C : Type 0} → Outlook → Row K C → Type 0
Counts o r = IsCounted o.first_leave r × (cond (is_tried false r) 1 0 ≤ o.tried)

-- whether a first moment is at or before another
abbrev pub is_by : ℕ → Option (Cs × ℕ) → Bool
is_by now None = false
is_by now (Some p) = nat_le p.0.0 now

-- whether a leave timer is due at a moment
abbrev pub has_due : ℕ → Outlook → Bool
has_due now o = is_by now o.first_leave

-- whether every row is at rest
abbrev pub is_at_rest : Outlook → Bool
is_at_rest o = (o.tried == 0) && is_none o.first_leave

-- the outlook where there is no row
abbrev pub empty_outlook : Outlook
empty_outlook = record { first_leave = None; tried = 0 }
