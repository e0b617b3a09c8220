-- SRP domains at a node (IEEE Std 802.1Q-2018, 35.1.4, 35.2.2.9): the Domain values that its link
-- ports declare, and where a port is at the boundary of the domain of a class. The standard's
-- boundary is one of priorities; that a Domain with another VID is no agreement either is this
-- project's own rule.
use Rattle.std.specs.Prelude.{ℕ, Bool, true, false, not, ◌&&◌, ◌==◌, List, [], ◌∷◌, filter, find, fold, Option, Some, None, option_map, option_and_then}
use Rattle.std.specs.Option.{option_eq}
use Rattle.srp_base.specs.declared.{bandwidth.Class.Class, bandwidth.Class.TheVariants.A, bandwidth.Class.TheVariants.B, streams.Talker.Talker, streams.TalkerReg.TalkerReg}
use Rattle.mrp_participant.specs.State.{declared_state, registered_at}
use Rattle.msrp_codec.specs.declared.{pdu.MsrpKey.MsrpKey, pdu.MsrpContent.MsrpContent}
use Rattle.msrp_codec.specs.declared.pdu.MsrpKey.TheVariants as keys
use Rattle.msrp_codec.specs.declared.pdu.MsrpContent.TheVariants as contents
use Rattle.msrp_talker.specs.TalkerOut.{class_of_priority, talker_in}
use Rattle.msrp.specs.declared.domain.DomainSet.{DomainSet}
use Rattle.msrp.specs.declared.domain.DomainSet.TheVariants.{Off, Nothing, OnlyA, Both}
use Rattle.msrp.specs.Part.{Part, key_cmp, same_content}

-- ---- the Domain value of a class

-- the SRclassID of a class (35.2.2.9.2)
abbrev pub class_id : Class → ℕ
class_id A = 6
class_id B = 5

-- its SRclassPriority (35.2.2.9.3), the default of two classes (34.5)
abbrev pub class_priority : Class → ℕ
class_priority A = 3
class_priority B = 2

-- the SRclassVID of each class (35.2.2.9.4), the default SR_PVID
abbrev pub class_vid : ℕ
class_vid = 2

-- the key of a class's Domain
abbrev pub domain_key : Class → MsrpKey
domain_key class = keys.Domain (class_id class)

-- what is declared of it
abbrev pub domain_content : Class → MsrpContent
domain_content class = contents.Domain (class_priority class) class_vid

-- whether a content is the very Domain value of a class
abbrev pub is_value : Class → Option MsrpContent → Bool
is_value class content = option_eq same_content content (Some (domain_content class))

-- ---- which of them a node declares

-- whether a node heeds Domains at all; where they are off no port is a boundary
abbrev pub are_counted : DomainSet → Bool
are_counted Off = false
are_counted Nothing = true
are_counted OnlyA = true
are_counted Both = true

-- whether a node declares the Domain value of a class
abbrev pub has_class : DomainSet → Class → Bool
has_class Off class = false
has_class Nothing class = false
has_class OnlyA A = true
has_class OnlyA B = false
has_class Both class = true

-- the classes whose Domain values it declares
abbrev pub classes_of : DomainSet → List Class
classes_of domain = filter (has_class domain) (A ∷ B ∷ [])

-- a participant that has declared the Domain values of a node, each once, in the order of classes:
-- on a new port each of them is in VP
abbrev pub domain_part : DomainSet → Part → Part
domain_part domain s =
    fold
    (λ (t : Part) (class : Class). declared_state key_cmp same_content (domain_key class) (domain_content class) t)
    s (classes_of domain)

-- what each link port declares of a Domain, for good
abbrev pub domain_stated : DomainSet → ℕ → Option MsrpContent
domain_stated domain id =
    option_map domain_content (find (λ (class : Class). class_id class == id) (classes_of domain))

-- ---- boundaries

-- a port is at the boundary of a class's domain where Domains are heeded, and its node doesn't
-- declare the Domain value of the class or that very value isn't registered there
abbrev pub is_boundary : DomainSet → Part → Class → Bool
is_boundary domain s class =
    are_counted domain
    && not (has_class domain class && is_value class (registered_at key_cmp (domain_key class) s))

-- whether there is a class, and the port is at the boundary of its domain
abbrev pub is_boundary_of : DomainSet → Part → Option Class → Bool
is_boundary_of domain s None = false
is_boundary_of domain s (Some class) = is_boundary domain s class

-- the class of a registered Talker, by its priority
abbrev pub class_in : TalkerReg → Option Class
class_in reg = option_and_then (λ (t : Talker). class_of_priority t.priority) (talker_in reg)

-- whether the port is at the boundary of the domain of a registered Talker's class; where Domains
-- are off it is at none
abbrev pub is_edge : DomainSet → Part → TalkerReg → Bool
is_edge domain s reg = are_counted domain && is_boundary_of domain s (class_in reg)
