-- What `encode` writes, vector by vector.
use Rattle.std.proofs.Common.{◌≡◌, ℕ, ◌+◌, zero, suc, ◌<◌, ◌^◌, Bool, true, false, List, [], ◌∷◌, ◌++◌, length, map, get_or, drop, take, refl, sym, ap, ◌∙◌, append_assoc, arith}
use Rattle.std.proofs.lemmas.List.{drop_more}
use Rattle.mrpdu_codec.specs.declared.{form.AppForm.TheVariants.Mmrp, pdu.VectorAttr.VectorAttr}
use Rattle.mrpdu_codec.specs.{Tree.vector_octets, Tree.vectors_octets, Canonical.vector_for, Canonical.vectors_for}
use Rattle.mmrp_codec.specs.{MacEvent, AreMacs, event_vector, event_vectors}

-- the octets of the vectors of these events
abbrev pub octets_of : Bool → List MacEvent → List ℕ
octets_of leave events = vectors_octets (vectors_for (event_vectors leave events))

without_leave : (events : List MacEvent) → event_vectors false events ≡ map (event_vector false) events
without_leave [] = refl
without_leave (x ∷ xs) = refl

-- the first vector, and those behind it, which have no LeaveAll
first_octets : (leave : Bool) (x : MacEvent) (xs : List MacEvent) → octets_of leave (x ∷ xs) ≡ vector_octets (vector_for (event_vector leave x)) ++ octets_of false xs
first_octets true x xs = ap (λ (vs : List VectorAttr). vector_octets (vector_for (event_vector true x)) ++ vectors_octets (vectors_for vs)) (sym (without_leave xs))
first_octets false x xs = ap (λ (vs : List VectorAttr). vector_octets (vector_for (event_vector false x)) ++ vectors_octets (vectors_for vs)) (sym (without_leave xs))

-- one vector more
pub octets_more : (done more total : List ℕ) (leave : Bool) (events : List MacEvent) (i : ℕ) (d : MacEvent) → i < length events
    → done ++ octets_of leave (drop i events) ≡ total → more ≡ done ++ vector_octets (vector_for (event_vector leave (get_or events i d)))
    → more ++ octets_of false (drop (i + 1) events) ≡ total
octets_more done more total leave events i d lt so_far is =
    let here = vector_octets (vector_for (event_vector leave (get_or events i d))) in
    let later = octets_of false (drop (i + 1) events) in
    ap (λ (os : List ℕ). os ++ later) is
    ∙ append_assoc done here later
    ∙ ap (λ (os : List ℕ). done ++ os) (sym (first_octets leave (get_or events i d) (drop (i + 1) events)))
    ∙ ap (λ (es : List MacEvent). done ++ octets_of leave es) (sym (drop_more events i d lt))
    ∙ so_far

-- one MAC address more
pub macs_more : (events : List MacEvent) (i : ℕ) (d : MacEvent) → i < length events → AreMacs (take i events) → (get_or events i d).1 < 2 ^ 48 → AreMacs (take (suc i) events)
macs_more [] i d lt all mac = absurd (omega arith)
macs_more (x ∷ events) zero d lt all mac = (mac, tt)
macs_more (x ∷ events) (suc i) d lt all mac = (all.0, macs_more events i d (omega arith) all.1 mac)
