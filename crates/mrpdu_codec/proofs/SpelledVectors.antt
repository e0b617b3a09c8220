-- What the grammar says is what reading gives: vectors.
use Rattle.std.proofs.Common.{◌≡◌, ℕ, zero, suc, ◌/◌, ◌<◌, ◌≤◌, true, false, ltb, List, [], ◌∷◌, ◌++◌, length, map, Option, Ok, Err, refl, sym, ap, ◌∙◌, append_assoc, length-append, arith}
use Rattle.std.proofs.lemmas.{Bool.false≢true, Bool.le-leb, Bool.le-ltb, Bool.lt-leb, Bool.lt-ltb, Bool.leb-false, Bool.ne_eqb, List.take_at, List.drop_at}
use Rattle.mrpdu_codec.specs.{TypeForm, number, thirds, Vector, count, packed_limit, leave_all_limit, fours_for, header_fits, AllUpTo, IsVector, vector_octets, vectors_octets, AreVectors, attr_of, OctetBreaks, HeaderBreaks, VectorBreaks, ListBreaks, packed_at, header_at, first_at, vector_at, ends_list, vectors_at, vectors_of}
use Rattle.mrpdu_codec.specs.Grammar.ListBreaks.{vector as list_vector}
use Rattle.mrpdu_codec.specs.Grammar.VectorBreaks.{header as header_breaks, first_value, packed as packed_breaks, four_packed}
use Rattle.srp_base.specs.Results.{◌>>=◌}
use Rattle.mrpdu_codec.proofs.Longer.{vector_longer}

module _ (limit : ℕ) where
  pub packed_reads : (n : ℕ) (taken rest : List ℕ) → length taken ≡ n → AllUpTo limit taken → packed_at limit n (taken ++ rest) ≡ Ok (taken, rest)
  unfolding packed_at
  packed_reads zero [] rest e all = refl
  packed_reads (suc n) [] rest e all = absurd (omega arith)
  packed_reads zero (o ∷ taken) rest e all = absurd (omega arith)
  packed_reads (suc n) (o ∷ taken) rest e all = rw (le-leb o limit all.0, packed_reads n taken rest (omega arith) all.1) refl

  pub packed_stops : (n : ℕ) (front rest : List ℕ) → length front < n → AllUpTo limit front → OctetBreaks limit rest → packed_at limit n (front ++ rest) ≡ Err (length rest)
  unfolding packed_at
  packed_stops zero front rest short all h = absurd (omega arith)
  packed_stops (suc n) [] [] short all h = refl
  packed_stops (suc n) [] (o ∷ rest) short all h = rw (lt-leb o limit h) refl
  packed_stops (suc n) (o ∷ front) rest short all h = rw (le-leb o limit all.0, packed_stops n front rest (omega arith) all.1 h) refl

first_reads : (len : ℕ) (first rest : List ℕ) → length first ≡ len → first_at len (first ++ rest) ≡ Ok (first, rest)
unfolding first_at
first_reads len first rest e =
    let long : ltb (length (first ++ rest)) len ≡ false = le-ltb (length (first ++ rest)) len (omega (arith, length-append first rest)) in
    rw (long, take_at first rest len e, drop_at first rest len e) refl

first_breaks : (len : ℕ) (rest : List ℕ) → length rest < len → first_at len rest ≡ Err (length rest)
unfolding first_at
first_breaks len rest h = rw (lt-ltb (length rest) len h) refl

head_reads : (row : Option TypeForm) (high low : ℕ) (rest : List ℕ) → header_fits row high low ≡ true → header_at row (high ∷ low ∷ rest) ≡ Ok (high, low, rest)
unfolding header_at
head_reads row high low rest fits = rw fits refl

head_breaks : (row : Option TypeForm) (octets : List ℕ) → HeaderBreaks row octets → header_at row octets ≡ Err (length octets)
unfolding header_at
head_breaks row [] h = absurd h
head_breaks row (high ∷ []) h = refl
head_breaks row (high ∷ low ∷ rest) h = rw h refl

pub vector_reads : (row : Option TypeForm) (len : ℕ) (v : Vector) (rest : List ℕ) → IsVector row len v → vector_at row len (vector_octets v ++ rest) ≡ Ok (v, rest)
unfolding vector_at
vector_reads row len v rest is =
    let regrouped : (v.first ++ (v.three_packed ++ v.four_packed)) ++ rest ≡ v.first ++ (v.three_packed ++ (v.four_packed ++ rest))
    = append_assoc v.first (v.three_packed ++ v.four_packed) rest ∙ ap (λ (o : List ℕ). v.first ++ o) (append_assoc v.three_packed v.four_packed rest) in
    ap (λ (o : List ℕ). vector_at row len (v.high ∷ v.low ∷ o)) regrouped
    ∙ rw (
      head_reads row v.high v.low (v.first ++ (v.three_packed ++ (v.four_packed ++ rest))) is.leave_all,
      first_reads len v.first (v.three_packed ++ (v.four_packed ++ rest)) is.first,
      packed_reads (packed_limit row) (thirds (count v)) v.three_packed (v.four_packed ++ rest) is.three_packed is.events,
      packed_reads 255 (fours_for row (count v)) v.four_packed rest is.four_packed is.params,
    ) refl

pub vector_breaks : (row : Option TypeForm) (len : ℕ) (front rest : List ℕ) → VectorBreaks row len front rest → vector_at row len (front ++ rest) ≡ Err (length rest)
unfolding vector_at
vector_breaks row len front rest (header_breaks front-is h) =
    ap (λ (o : List ℕ). vector_at row len (o ++ rest)) front-is ∙ rw (head_breaks row rest h) refl
vector_breaks row len front rest (first_value v fits some front-is h) =
    ap (λ (o : List ℕ). vector_at row len (o ++ rest)) front-is ∙ rw (head_reads row v.high v.low rest fits, first_breaks len rest h) refl
vector_breaks row len front rest (packed_breaks v fits some first all short front-is h) =
    ap (λ (o : List ℕ). vector_at row len (o ++ rest)) front-is
    ∙ ap (λ (o : List ℕ). vector_at row len (v.high ∷ v.low ∷ o)) (append_assoc v.first v.three_packed rest)
    ∙ rw (
      head_reads row v.high v.low (v.first ++ (v.three_packed ++ rest)) fits,
      first_reads len v.first (v.three_packed ++ rest) first,
      packed_stops (packed_limit row) (thirds (count v)) v.three_packed rest short all h,
    ) refl
vector_breaks row len front rest (four_packed v fits some first all full all4 short front-is h) =
    ap (λ (o : List ℕ). vector_at row len (o ++ rest)) front-is
    ∙ ap (λ (o : List ℕ). vector_at row len (v.high ∷ v.low ∷ o))
    (append_assoc v.first (v.three_packed ++ v.four_packed) rest ∙ ap (λ (o : List ℕ). v.first ++ o) (append_assoc v.three_packed v.four_packed rest))
    ∙ rw (
      head_reads row v.high v.low (v.first ++ (v.three_packed ++ (v.four_packed ++ rest))) fits,
      first_reads len v.first (v.three_packed ++ (v.four_packed ++ rest)) first,
      packed_reads (packed_limit row) (thirds (count v)) v.three_packed (v.four_packed ++ rest) full all,
      packed_stops 255 (fours_for row (count v)) v.four_packed rest short all4 h,
    ) refl

-- ---- vectors up to an end

going_on : (high low : ℕ) (rest : List ℕ) → 0 < number high low → ends_list (high ∷ low ∷ rest) ≡ false
unfolding ends_list
going_on high low rest some = ne_eqb (number high low) 0 (λ e. omega arith)

header_on : (row : Option TypeForm) (octets : List ℕ) → HeaderBreaks row octets → ends_list octets ≡ false
unfolding ends_list
header_on row [] b = absurd b
header_on row (a ∷ []) b = refl
header_on row (a ∷ c ∷ octets) b =
    let above : leave_all_limit row < number a c / 8192 = leb-false (number a c / 8192) (leave_all_limit row) b in
    ne_eqb (number a c) 0 (λ e. omega arith)

pub breaks_on : (row : Option TypeForm) (len : ℕ) (front rest : List ℕ) → VectorBreaks row len front rest → ends_list (front ++ rest) ≡ false
breaks_on row len front rest (header_breaks front-is h) = ap (λ (o : List ℕ). ends_list (o ++ rest)) front-is ∙ header_on row rest h
breaks_on row len front rest (first_value v fits some front-is h) = ap (λ (o : List ℕ). ends_list (o ++ rest)) front-is ∙ going_on v.high v.low rest some
breaks_on row len front rest (packed_breaks v fits some first all short front-is h) = ap (λ (o : List ℕ). ends_list (o ++ rest)) front-is
    ∙ going_on v.high v.low ((v.first ++ v.three_packed) ++ rest) some
breaks_on row len front rest (four_packed v fits some first all full all4 short front-is h) = ap (λ (o : List ℕ). ends_list (o ++ rest)) front-is
    ∙ going_on v.high v.low ((v.first ++ (v.three_packed ++ v.four_packed)) ++ rest) some

-- one vector, and what is read after it
one_more : (fuel : ℕ) (row : Option TypeForm) (len : ℕ) (v : Vector) (rest : List ℕ) → IsVector row len v
    → vectors_at (suc fuel) row len (vector_octets v ++ rest) ≡ (vectors_at fuel row len rest >>= λ vs. Ok (attr_of v ∷ vs.0, vs.1))
unfolding vectors_at
one_more fuel row len v rest is =
    rw (going_on v.high v.low ((v.first ++ (v.three_packed ++ v.four_packed)) ++ rest) is.no_mark, vector_reads row len v rest is) refl

pub vectors_read : (fuel : ℕ) (row : Option TypeForm) (len : ℕ) (vs : List Vector) (rest : List ℕ) → AreVectors row len vs → ends_list rest ≡ true → length (vectors_octets vs ++ rest) ≤ fuel
    → vectors_at fuel row len (vectors_octets vs ++ rest) ≡ Ok (map attr_of vs, rest)
unfolding vectors_at
vectors_read zero row len [] rest all ended enough = refl
vectors_read (suc fuel) row len [] rest all ended enough = rw ended refl
vectors_read zero row len (v ∷ vs) rest all ended enough = absurd (omega arith)
vectors_read (suc fuel) row len (v ∷ vs) rest all ended enough =
    let regrouped = append_assoc (vector_octets v) (vectors_octets vs) rest in
    let more = vector_longer _ v (vectors_octets vs ++ rest) refl in
    ap (λ (o : List ℕ). vectors_at (suc fuel) row len o) regrouped
    ∙ one_more fuel row len v (vectors_octets vs ++ rest) all.0
    ∙ rw (vectors_read fuel row len vs rest all.1 ended (omega (arith, ap length regrouped))) refl

no_end : (octets : List ℕ) → length octets ≡ 0 → ends_list octets ≡ false → ⊥
unfolding ends_list
no_end [] e b = false≢true (sym b)
no_end (o ∷ octets) e b = absurd (omega arith)

list_breaks_at : (fuel : ℕ) (row : Option TypeForm) (len : ℕ) (vs : List Vector) (part rest : List ℕ) → AreVectors row len vs → VectorBreaks row len part rest
    → length (vectors_octets vs ++ (part ++ rest)) ≤ fuel
    → vectors_at fuel row len (vectors_octets vs ++ (part ++ rest)) ≡ Err (length rest)
unfolding vectors_at
list_breaks_at zero row len [] part rest all h enough = absurd (no_end (part ++ rest) (omega arith) (breaks_on row len part rest h))
list_breaks_at (suc fuel) row len [] part rest all h enough = rw (breaks_on row len part rest h, vector_breaks row len part rest h) refl
list_breaks_at zero row len (v ∷ vs) part rest all h enough = absurd (omega arith)
list_breaks_at (suc fuel) row len (v ∷ vs) part rest all h enough =
    let regrouped = append_assoc (vector_octets v) (vectors_octets vs) (part ++ rest) in
    let more = vector_longer _ v (vectors_octets vs ++ (part ++ rest)) refl in
    ap (λ (o : List ℕ). vectors_at (suc fuel) row len o) regrouped
    ∙ one_more fuel row len v (vectors_octets vs ++ (part ++ rest)) all.0
    ∙ rw (list_breaks_at fuel row len vs part rest all.1 h (omega (arith, ap length regrouped))) refl

pub of_reads : (row : Option TypeForm) (len : ℕ) (vs : List Vector) (rest : List ℕ) → AreVectors row len vs → ends_list rest ≡ true
    → vectors_of row len (vectors_octets vs ++ rest) ≡ Ok (map attr_of vs, rest)
unfolding vectors_of
of_reads row len vs rest all ended = vectors_read (length (vectors_octets vs ++ rest)) row len vs rest all ended (omega arith)

pub of_breaks : (row : Option TypeForm) (len : ℕ) (front rest : List ℕ) → ListBreaks row len front rest → vectors_of row len (front ++ rest) ≡ Err (length rest)
unfolding vectors_of
of_breaks row len front rest (list_vector vs part all front-is h) =
    let e : front ++ rest ≡ vectors_octets vs ++ (part ++ rest) = ap (λ (o : List ℕ). o ++ rest) front-is ∙ append_assoc (vectors_octets vs) part rest in
    ap (λ (o : List ℕ). vectors_at (length o) row len o) e ∙ list_breaks_at (length (vectors_octets vs ++ (part ++ rest))) row len vs part rest all h (omega arith)
