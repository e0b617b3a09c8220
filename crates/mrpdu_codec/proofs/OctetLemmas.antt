-- The FirstValues of a PDU that octets spell are octets.
use Rattle.std.proofs.Common.{◌≡◌, ℕ, suc, ◌<◌, List, [], ◌∷◌, ◌++◌, map, Option, Some, None, sym, subst, arith}
use Rattle.std.specs.Prelude.{slice_index}
use Rattle.std.specs.List.{AllByRecursion, flat_map}
use Rattle.mrpdu_codec.specs.{AppForm, TypeForm, VectorAttr, Message, Pdu, AreOctets, row_of, Vector, attr_of, vector_octets, vectors_octets, AttributeList, list_octets, list_attrs, MessageTree, message_octets, messages_octets, messages_from, messages_meant, after_octets, Spells, HasOctets}
use Rattle.mrpdu_codec.specs.Tree.AttributeList.{Vectors, Skipped}

-- a part of octets is octets
front : (xs ys : List ℕ) → AreOctets (xs ++ ys) → AreOctets xs
front [] ys all = tt
front (x ∷ xs) ys all = (all.0, front xs ys all.1)

behind : (xs ys : List ℕ) → AreOctets (xs ++ ys) → AreOctets ys
behind [] ys all = all
behind (x ∷ xs) ys all = behind xs ys all.1

abbrev HaveOctets : List VectorAttr → Type 0
HaveOctets vs = AllByRecursion (λ (v : VectorAttr). AreOctets v.first) vs

abbrev SayOctets : List Message → Type 0
SayOctets ms = AllByRecursion (λ (m : Message). HaveOctets m.vectors) ms

vectors-firsts : (vs : List Vector) → AreOctets (vectors_octets vs) → HaveOctets (map attr_of vs)
vectors-firsts [] all = tt
vectors-firsts (v ∷ vs) all = grind (arith, vectors-firsts vs (behind (vector_octets v) (vectors_octets vs) all), front, behind)

list-firsts : (list : AttributeList) → AreOctets (list_octets list) → HaveOctets (list_attrs list)
list-firsts list h1 = grind (arith, vectors-firsts)

said-append : (xs ys : List Message) → SayOctets xs → SayOctets ys → SayOctets (xs ++ ys)
said-append [] ys a b = b
said-append (x ∷ xs) ys a b = (a.0, said-append xs ys a.1 b)

said-from : (row : Option TypeForm) (kind : ℕ) (attrs : List VectorAttr) → HaveOctets attrs → SayOctets (messages_from row kind attrs)
said-from None kind attrs all = tt
said-from (Some t) kind attrs all = (all, tt)

messages-firsts : (form : AppForm) (bs : List MessageTree) → AreOctets (messages_octets bs) → SayOctets (flat_map (messages_meant form) bs)
messages-firsts form [] all = tt
messages-firsts form (b ∷ bs) all =
    let own = front (message_octets b) (messages_octets bs) all in
    let list = front (list_octets b.list) b.end_mark (behind b.list_length (list_octets b.list ++ b.end_mark) own.1.1) in
    said-append (messages_meant form b) (flat_map (messages_meant form) bs)
    (said-from (row_of form b.kind) b.kind (list_attrs b.list) (list-firsts b.list list))
    (messages-firsts form bs (behind (message_octets b) (messages_octets bs) all))

pub spelled-octets : (form : AppForm) (octets : List ℕ) (pdu : Pdu) → AreOctets octets → Spells form octets pdu → HasOctets pdu
spelled-octets form octets pdu all s =
    let tree = subst (λ (os : List ℕ). AreOctets os) s.spelling all in
    subst (λ (p : Pdu). HasOctets p) (sym s.meaning)
    (messages-firsts form s.tree.messages (front (messages_octets s.tree.messages) (after_octets s.tree.after) tree.1))

-- numbers of which each place has an octet are octets
pub each-octet : (octets : List ℕ) → ((i : ℕ) → slice_index octets i < 256) → AreOctets octets
each-octet [] each = tt
each-octet (o ∷ octets) each = (each 0, each-octet octets (λ i. each (suc i)))
