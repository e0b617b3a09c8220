-- What stands for all records of an interface: its link type, and how its clock counts.
use Rattle.std.specs.Prelude.{ℕ, ◌+◌, ◌-◌, ◌*◌, ◌/◌, ◌^◌, min, nat_lt, ◌==◌, if◌then◌else◌, Option, Some, None}
use Rattle.capture_file.specs.declared.setting.LinkType.{LinkType}
use Rattle.capture_file.specs.declared.setting.LinkType.TheVariants.{Ethernet, Cooked, CookedV2}

-- the link types whose frames can be MRP's
abbrev pub link_numbered : ℕ → Option LinkType
link_numbered number =
    if number == 1 then Some Ethernet
    else (if number == 113 then Some Cooked
    else (if number == 276 then Some CookedV2
    else None))

-- how many units of time make a second, by the octet of a resolution: 10 ^ k, or 2 ^ k where its
-- high bit is set
abbrev pub per_second : ℕ → ℕ
per_second resolution = if nat_lt resolution 128 then 10 ^ resolution else 2 ^ (resolution - 128)

-- the same where it is below 2 ^ 128, and else 2 ^ 128 - 1; the law `moments_are_exact` says that
-- it makes no difference
abbrev pub units_of : ℕ → ℕ
units_of resolution = min (per_second resolution) (2 ^ 128 - 1)

-- the time of so many units, in ns, rounded down
abbrev pub ns_of : ℕ → ℕ → ℕ
ns_of units ticks = ticks * 1000000000 / units

-- a moment in ns, of whole seconds and units of time; one past 2 ^ 64 - 1 stands still there
abbrev pub moment : ℕ → ℕ → ℕ → ℕ
moment units seconds ticks = min (seconds * 1000000000 + ns_of units ticks) (2 ^ 64 - 1)
