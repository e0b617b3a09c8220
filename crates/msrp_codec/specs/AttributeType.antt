-- The attribute types of MSRP (IEEE Std 802.1Q-2018, 35.2.2.4).
use Rattle.std.specs.Prelude.{ℕ, Bool, true, false, List, [], ◌∷◌, Option, Some, None, ◌==◌, if◌then◌else◌}
use Rattle.mrpdu_codec.specs.declared.form.TypeForm.{TypeForm}
use Rattle.msrp_codec.specs.declared.attribute_type.AttributeType.{AttributeType}
use Rattle.msrp_codec.specs.declared.attribute_type.AttributeType.TheVariants.{Advertise, Failed, Listener, Domain}

-- the number that stands in a Message
abbrev pub number_of_type : AttributeType → ℕ
number_of_type Advertise = 1
number_of_type Failed = 2
number_of_type Listener = 3
number_of_type Domain = 4

-- the type of a number; MSRP has no others
abbrev pub type_of : ℕ → Option AttributeType
type_of n =
    if n == 1 then Some Advertise
    else (if n == 2 then Some Failed
    else (if n == 3 then Some Listener
    else (if n == 4 then Some Domain
    else None)))

-- all of them, ascending
abbrev pub all_types : List AttributeType
all_types = Advertise ∷ Failed ∷ Listener ∷ Domain ∷ []

-- AttributeLength: the octets of a FirstValue (35.2.2.5)
abbrev pub length_of : AttributeType → ℕ
length_of Advertise = 25
length_of Failed = 34
length_of Listener = 8
length_of Domain = 4

-- a vector of Listeners has FourPackedEvents (35.2.2.7)
abbrev pub is_four_packed : AttributeType → Bool
is_four_packed Advertise = false
is_four_packed Failed = false
is_four_packed Listener = true
is_four_packed Domain = false

-- what the octets of a type look like
abbrev pub type_form : AttributeType → TypeForm
type_form t = record { length = length_of t; four_packed = is_four_packed t }
