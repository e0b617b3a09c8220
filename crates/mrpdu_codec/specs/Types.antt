-- The attribute types of each application: AttributeLength, and whether FourPackedEvents follow
-- (IEEE Std 802.1Q-2018, 10.12.1, 11.2.3.1, 35.2.2.4 and 35.2.2.5).
use Rattle.std.specs.Prelude.{ℕ, Bool, true, false, Option, Some, None, ◌==◌, if◌then◌else◌}
use Rattle.mrpdu_codec.specs.declared.{form.AppForm.AppForm, form.TypeForm.TypeForm}
use Rattle.mrpdu_codec.specs.declared.form.AppForm.TheVariants.{Mvrp, Msrp, Mmrp}

-- a type of this length, with FourPackedEvents or not
abbrev pub form_of : ℕ → Bool → Option TypeForm
form_of n four_packed = Some (record { length = n; four_packed = four_packed })

-- 1 is a VID
abbrev pub mvrp_row : ℕ → Option TypeForm
mvrp_row kind = if kind == 1 then form_of 2 false else None

-- 1 is a Talker Advertise, 2 a Talker Failed, 3 a Listener, 4 a Domain
abbrev pub msrp_row : ℕ → Option TypeForm
msrp_row kind =
    if kind == 1 then form_of 25 false
    else (if kind == 2 then form_of 34 false
    else (if kind == 3 then form_of 8 true
    else (if kind == 4 then form_of 4 false
    else None)))

-- 1 is a service requirement, 2 a MAC address
abbrev pub mmrp_row : ℕ → Option TypeForm
mmrp_row kind =
    if kind == 1 then form_of 1 false
    else (if kind == 2 then form_of 6 false
    else None)

-- the row of an attribute type in its application's table
abbrev pub row_of : AppForm → ℕ → Option TypeForm
row_of Mvrp kind = mvrp_row kind
row_of Msrp kind = msrp_row kind
row_of Mmrp kind = mmrp_row kind
