-- Single words of reports.
use Rattle.std.specs.Prelude.{ℕ, Bool, true, false, List, codes}
use Rattle.srp_base.specs.declared.{bandwidth.Class.Class, bandwidth.Class.TheVariants.A, bandwidth.Class.TheVariants.B}
use Rattle.registrar.specs.declared.Registrar.{Registrar}
use Rattle.registrar.specs.declared.Registrar.TheVariants.{Held, Leaving, Empty}

-- a Registrar's state by its name (IEEE Std 802.1Q-2018, 10.7.8); that of what is registered is IN
-- or LV
abbrev pub state_name : Registrar → List ℕ
state_name Held = codes "IN"
state_name Leaving = codes "LV"
state_name Empty = codes "MT"

-- an SR class by its letter
abbrev pub class_name : Class → List ℕ
class_name A = codes "A"
class_name B = codes "B"

-- what a test says, as a word
abbrev pub yes_or_no : Bool → List ℕ
yes_or_no true = codes "yes"
yes_or_no false = codes "no"
