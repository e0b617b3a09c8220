use Rattle.std.proofs.Common.{List, [], ◌∷◌, ◌++◌, append_assoc}
use Rattle.std.specs.Prelude.{IsPermutation}
use Rattle.std.proofs.lemmas.List.Sorted.{IsPermutation-refl, IsPermutation-trans, IsPermutation-cons, IsPermutation-append_comm, IsPermutation-append_left, IsPermutation-append_right}
use Rattle.msrp_codec.specs.declared.attribute_type.AttributeType.TheVariants.{Advertise, Failed, Listener, Domain}
use Rattle.srp_base.specs.declared.mrp.MrpEvent.{MrpEvent}
use Rattle.msrp_codec.specs.{MsrpKey, MsrpContent, KeyEvent, of_type, in_type_order}
use Rattle.msrp_codec.specs.declared.pdu.MsrpContent.TheVariants as contents
use Rattle.msrp_codec.proofs.laws.the_order_of_types_is_a_permutation.Goals as goal

-- an event goes behind some others
behind : (x : KeyEvent) (front ys zs : List KeyEvent) → IsPermutation (x ∷ ys) zs → IsPermutation (x ∷ (front ++ ys)) (front ++ zs)
behind x front ys zs h =
    let moved : IsPermutation ((x ∷ front) ++ ys) ((front ++ (x ∷ [])) ++ ys) = IsPermutation-append_left ys (x ∷ front) (front ++ (x ∷ [])) (IsPermutation-append_comm (x ∷ []) front) in
    let here : IsPermutation (x ∷ (front ++ ys)) (front ++ (x ∷ ys)) = rw (append_assoc front (x ∷ []) ys) at moved in
    IsPermutation-trans (x ∷ (front ++ ys)) (front ++ (x ∷ ys)) (front ++ zs) here (IsPermutation-append_right front (x ∷ ys) zs h)

-- the events of the types from Failed on, from Listener on, and of Domain
abbrev from_domain : List KeyEvent → List KeyEvent
from_domain xs = of_type Domain xs ++ []

abbrev from_listener : List KeyEvent → List KeyEvent
from_listener xs = of_type Listener xs ++ from_domain xs

abbrev from_failed : List KeyEvent → List KeyEvent
from_failed xs = of_type Failed xs ++ from_listener xs

-- one more event, by what it declares
one_more : (event : MrpEvent) (key : MsrpKey) (content : MsrpContent) (xs : List KeyEvent)
    → IsPermutation ((event, key, content) ∷ in_type_order xs) (in_type_order ((event, key, content) ∷ xs))
one_more event key (contents.Advertise t) xs = IsPermutation-refl _
one_more event key (contents.Failed t f) xs =
    let x : KeyEvent = (event, key, contents.Failed t f) in
    behind x (of_type Advertise xs) (from_failed xs) (x ∷ from_failed xs) (IsPermutation-refl _)
one_more event key (contents.Listener kind) xs =
    let x : KeyEvent = (event, key, contents.Listener kind) in
    behind x (of_type Advertise xs) (from_failed xs) (of_type Failed xs ++ (x ∷ from_listener xs))
    (behind x (of_type Failed xs) (from_listener xs) (x ∷ from_listener xs) (IsPermutation-refl _))
one_more event key (contents.Domain priority vid) xs =
    let x : KeyEvent = (event, key, contents.Domain priority vid) in
    behind x (of_type Advertise xs) (from_failed xs) (of_type Failed xs ++ (of_type Listener xs ++ (x ∷ from_domain xs)))
    (behind x (of_type Failed xs) (from_listener xs) (of_type Listener xs ++ (x ∷ from_domain xs))
    (behind x (of_type Listener xs) (from_domain xs) (x ∷ from_domain xs) (IsPermutation-refl _)))

permuted : (xs : List KeyEvent) → IsPermutation xs (in_type_order xs)
permuted [] = IsPermutation-refl []
permuted ((event, key, content) ∷ xs) =
    let x : KeyEvent = (event, key, content) in
    IsPermutation-trans (x ∷ xs) (x ∷ in_type_order xs) (in_type_order (x ∷ xs))
    (IsPermutation-cons x xs (in_type_order xs) (permuted xs))
    (one_more event key content xs)

pub returns : goal.returns
returns c = permuted
