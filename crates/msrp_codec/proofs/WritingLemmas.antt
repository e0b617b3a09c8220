-- What is written, piece by piece.
use Rattle.std.proofs.Common.{◌≡◌, ℕ, ◌+◌, ◌%◌, ◌<◌, Bool, true, false, List, [], ◌∷◌, ◌++◌, length, map, refl, sym, ap, ◌∙◌, append_assoc, append-nil, arith}
use Rattle.mrpdu_codec.specs.declared.{pdu.VectorAttr.VectorAttr, form.AppForm.TheVariants.Msrp}
use Rattle.mrpdu_codec.specs.{Tree.vectors_octets, Tree.messages_octets, Canonical.two_octets, Canonical.vectors_for, Canonical.message_for}
use Rattle.msrp_codec.specs.declared.attribute_type.AttributeType.{AttributeType}
use Rattle.msrp_codec.specs.declared.attribute_type.AttributeType.TheVariants.{Advertise, Failed, Listener, Domain}
use Rattle.msrp_codec.specs.{number_of_type, length_of, first_octets, KeyEvent, of_type, event_vector, type_vectors, messages_for, type_messages}
use Rattle.std.specs.Int.{bytes_high_first}
use Rattle.msrp_codec.specs.declared.first_value.FirstValue.TheVariants as firsts

-- ---- fields, one after another

pub seven_pieces : (o a b c d e f g s t u v w x y : List ℕ) → a ≡ o ++ s → b ≡ a ++ t → c ≡ b ++ u → d ≡ c ++ v → e ≡ d ++ w → f ≡ e ++ x → g ≡ f ++ y
    → g ≡ o ++ (s ++ (t ++ (u ++ (v ++ (w ++ (x ++ y))))))
seven_pieces o a b c d e f g s t u v w x y p1 p2 p3 p4 p5 p6 p7 = rw (p7, p6, p5, p4, p3, p2, p1) (simp append_assoc)

-- a number of one octet
pub one_octet : (octet : ℕ) → octet < 256 → bytes_high_first 1 octet ≡ octet ∷ []
one_octet octet lt =
    let same : octet % 256 ≡ octet = omega arith in
    ap (λ (n : ℕ). n ∷ []) same

-- the FirstValue of a Domain
pub domain_octets : (class priority vid high low : ℕ) → class < 256 → priority < 256 → high ∷ low ∷ [] ≡ bytes_high_first 2 vid
    → class ∷ priority ∷ high ∷ low ∷ [] ≡ first_octets (firsts.Domain class priority vid)
domain_octets class priority vid high low c p e =
    let same_class : class % 256 ≡ class = omega arith in
    let same_priority : priority % 256 ≡ priority = omega arith in
    ap (λ (o : List ℕ). class ∷ priority ∷ o) e
    ∙ ap (λ (n : ℕ). n ∷ priority ∷ bytes_high_first 2 vid) (sym same_class)
    ∙ ap (λ (n : ℕ). class % 256 ∷ n ∷ bytes_high_first 2 vid) (sym same_priority)

-- ---- the vectors of a type

-- their octets
abbrev pub type_octets : Bool → AttributeType → List KeyEvent → List ℕ
type_octets leave t events = vectors_octets (vectors_for (type_vectors leave t (of_type t events)))

pub vectors_more : (leave : Bool) (t : AttributeType) (x : KeyEvent) (xs : List KeyEvent) → type_vectors leave t (x ∷ xs) ≡ event_vector leave x ∷ type_vectors false t xs
vectors_more true t x [] = refl
vectors_more false t x [] = refl
vectors_more true t x (y ∷ ys) = refl
vectors_more false t x (y ∷ ys) = refl

-- without a LeaveAll each is its event's
pub all_later : (t : AttributeType) (events : List KeyEvent) → type_vectors false t events ≡ map (event_vector false) events
all_later t [] = refl
all_later t (x ∷ xs) = refl

-- the Message of a type that has vectors
message_is : (t : AttributeType) (vs : List VectorAttr) → 0 < length (vectors_octets (vectors_for vs))
    → messages_octets (map (message_for Msrp) (messages_for t vs))
    ≡ number_of_type t ∷ length_of t ∷ (two_octets (length (vectors_octets (vectors_for vs)) + 2) ++ (vectors_octets (vectors_for vs) ++ 0 ∷ 0 ∷ []))
message_is t [] some = absurd (omega arith)
message_is Advertise (v ∷ vs) some = append-nil _
message_is Failed (v ∷ vs) some = append-nil _
message_is Listener (v ∷ vs) some = append-nil _
message_is Domain (v ∷ vs) some = append-nil _

pub message_written : (out a b c d e : List ℕ) (leave : Bool) (t : AttributeType) (events : List KeyEvent) (size : ℕ) → size ≡ length (type_octets leave t events) → 0 < size
    → a ≡ out ++ number_of_type t ∷ [] → b ≡ a ++ length_of t ∷ [] → c ≡ b ++ two_octets (size + 2) → d ≡ c ++ type_octets leave t events → e ≡ d ++ 0 ∷ 0 ∷ []
    → e ≡ out ++ messages_octets (map (message_for Msrp) (type_messages leave events t))
message_written out a b c d e leave t events size is some p1 p2 p3 p4 p5 =
    rw (message_is t (type_vectors leave t (of_type t events)) (omega (arith, is, some)), p5, p4, p3, p2, p1, is) (simp append_assoc)
