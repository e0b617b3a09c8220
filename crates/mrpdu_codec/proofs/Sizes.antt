-- How many octets the canonical spelling has.
use Rattle.std.proofs.Common.{◌≡◌, ℕ, ◌+◌, List, [], ◌∷◌, ◌++◌, length, map, refl, sym, ap, ◌∙◌, length-append, arith}
use Rattle.std.specs.List.{sum_by}
use Rattle.std.proofs.lemmas.{List.Sums.sum_by-cons}
use Rattle.mrpdu_codec.specs.{AppForm, Mvrp, Msrp, Mmrp, VectorAttr, Message, Pdu, thirds, quarters, vector_octets, vectors_octets, message_octets, messages_octets, pack_events, pack_params, vector_for, vectors_for, message_for, spelling, vector_size, vectors_size, message_size, pdu_size}
use Rattle.mrpdu_codec.proofs.Packed.{packed_length, fours_length}

pub vector_length : (v : VectorAttr) → length (vector_octets (vector_for v)) ≡ ((length v.first + thirds (length v.events)) + quarters (length v.params)) + 2
vector_length v = grind (arith, length-append, packed_length, fours_length)

vector_written : (v : VectorAttr) → length (vector_octets (vector_for v)) ≡ vector_size v
vector_written v = omega (arith, vector_length v)

pub vectors_written : (vs : List VectorAttr) → length (vectors_octets (vectors_for vs)) ≡ vectors_size vs
vectors_written [] = refl
vectors_written (v ∷ vs) =
    length-append (vector_octets (vector_for v)) (vectors_octets (vectors_for vs))
    ∙ ap (λ (n : ℕ). n + length (vectors_octets (vectors_for vs))) (vector_written v)
    ∙ ap (λ (n : ℕ). vector_size v + n) (vectors_written vs)
    ∙ sym (sum_by-cons vector_size v vs)

message_written : (form : AppForm) (m : Message) → length (message_octets (message_for form m)) ≡ message_size form m
message_written form m = grind (arith, length-append, vectors_written)

messages_written : (form : AppForm) (ms : List Message) → length (messages_octets (map (message_for form) ms)) ≡ sum_by (message_size form) ms
messages_written form [] = refl
messages_written form (m ∷ ms) =
    length-append (message_octets (message_for form m)) (messages_octets (map (message_for form) ms))
    ∙ ap (λ (n : ℕ). n + length (messages_octets (map (message_for form) ms))) (message_written form m)
    ∙ ap (λ (n : ℕ). message_size form m + n) (messages_written form ms)
    ∙ sym (sum_by-cons (message_size form) m ms)

pub pdu_written : (form : AppForm) (pdu : Pdu) → length (spelling form pdu) ≡ pdu_size form pdu
pdu_written form pdu = omega (arith, length-append (messages_octets (map (message_for form) pdu.messages)) (0 ∷ 0 ∷ []), messages_written form pdu.messages)
