-- Loops over vectors: one step on, and the end, of what is still read.
use Rattle.std.proofs.Common.{◌≡◌, ℕ, zero, suc, ◌<◌, ◌≤◌, true, false, List, [], ◌∷◌, ◌++◌, length, Option, Some, None, Result, Ok, Err, refl, sym, ap, ◌∙◌, append_assoc, arith}
use Rattle.std.proofs.lemmas.{List.append-nil, Result.MatchResult-at_ok, Bool.false≢true}
use Rattle.mrpdu_codec.specs.{TypeForm, VectorAttr, Vector, attr_of, IsVector, vector_octets, vector_at, ends_list, vectors_at, vectors_of, Fails, list_kept, kept_attr}
use Rattle.mrpdu_codec.specs.declared.error.ReadErr.{ReadErr}
use Rattle.mrpdu_codec.specs.declared.error.ReadErr.TheVariants as errors
use Rattle.srp_base.specs.Results.{◌>>=◌}
use Rattle.mrpdu_codec.proofs.{Steps.same_after, Steps.same_choice, ReadVectors.vector_match, Longer.vector_longer}

-- ---- fuel makes no difference

-- a vector that was read takes octets
pub falls : (row : Option TypeForm) (len : ℕ) (octets : List ℕ) (x : Vector × List ℕ) → ends_list octets ≡ false → vector_at row len octets ≡ Ok x → length x.1 < length octets
falls row len octets x going e =
    let taken = MatchResult-at_ok (λ (y : Vector × List ℕ). IsVector row len y.0 × (octets ≡ vector_octets y.0 ++ y.1)) _ x e (vector_match row len octets going) in
    omega (arith, vector_longer octets x.0 x.1 taken.1)

fuel_free : (f g : ℕ) (row : Option TypeForm) (len : ℕ) (octets : List ℕ) → length octets ≤ f → length octets ≤ g → vectors_at f row len octets ≡ vectors_at g row len octets
unfolding vectors_at ends_list
fuel_free zero zero row len octets p q = refl
fuel_free zero (suc g) row len [] p q = refl
fuel_free zero (suc g) row len (o ∷ octets) p q = absurd (omega arith)
fuel_free (suc f) zero row len [] p q = refl
fuel_free (suc f) zero row len (o ∷ octets) p q = absurd (omega arith)
fuel_free (suc f) (suc g) row len octets p q =
    same_choice (ends_list octets) _ _ _ (λ going. same_after (vector_at row len octets) _ _ (λ x e.
    let less = falls row len octets x going e in
    ap (λ (r : Result (List VectorAttr × List ℕ) ℕ). r >>= λ vs. let y : Result (List VectorAttr × List ℕ) ℕ = Ok (attr_of x.0 ∷ vs.0, vs.1) in y)
    (fuel_free f g row len x.1 (omega arith) (omega arith))))

-- one vector, and what is read after it
pub vectors_step : (row : Option TypeForm) (len : ℕ) (octets : List ℕ) (v : Vector) (after : List ℕ) → ends_list octets ≡ false → vector_at row len octets ≡ Ok (v, after)
    → vectors_of row len octets ≡ (vectors_of row len after >>= λ vs. Ok (attr_of v ∷ vs.0, vs.1))
unfolding vectors_of vectors_at
vectors_step row len octets v after going e = step (length octets) (omega arith) where
  less : length after < length octets
  less = falls row len octets (v, after) going e

  step : (n : ℕ) → n ≡ length octets → vectors_at n row len octets ≡ (vectors_at (length after) row len after >>= λ vs. Ok (attr_of v ∷ vs.0, vs.1))
  step zero k = absurd (omega (arith, less))
  step (suc n) k = rw (going, e)
      (ap (λ (r : Result (List VectorAttr × List ℕ) ℕ). r >>= λ vs. let y : Result (List VectorAttr × List ℕ) ℕ = Ok (attr_of v ∷ vs.0, vs.1) in y)
      (fuel_free n (length after) row len after (omega (arith, less)) (omega arith)))

vectors_fail : (row : Option TypeForm) (len : ℕ) (octets : List ℕ) (left : ℕ) → ends_list octets ≡ false → vector_at row len octets ≡ Err left → vectors_of row len octets ≡ Err left
unfolding vectors_of vectors_at ends_list
vectors_fail row len octets left going e = step (length octets) octets refl going e where
  step : (n : ℕ) (os : List ℕ) → length os ≡ n → ends_list os ≡ false → vector_at row len os ≡ Err left → vectors_at n row len os ≡ Err left
  step n os h1 h2 h3 = grind (arith, false≢true)

vectors_end : (row : Option TypeForm) (len : ℕ) (octets : List ℕ) → ends_list octets ≡ true → vectors_of row len octets ≡ Ok ([], octets)
unfolding vectors_of vectors_at
vectors_end row len octets ended = step (length octets) ended where
  step : (n : ℕ) → ends_list octets ≡ true → vectors_at n row len octets ≡ Ok ([], octets)
  step n h1 = grind arith

-- ---- what was read before, and what is still read

abbrev pub with_front : List VectorAttr → Result (List VectorAttr × List ℕ) ℕ → Result (List VectorAttr × List ℕ) ℕ
with_front front read = read >>= λ x. Ok (front ++ x.0, x.1)

-- one vector more, of what is kept
with_more : (row : Option TypeForm) (front : List VectorAttr) (v : VectorAttr) (read : Result (List VectorAttr × List ℕ) ℕ)
    → with_front front (list_kept row (read >>= λ x. Ok (v ∷ x.0, x.1))) ≡ with_front (front ++ kept_attr row v) (list_kept row read)
with_more row front v read = grind (arith, append-nil, append_assoc)

kept_nil : (row : Option TypeForm) (front : List VectorAttr) (octets : List ℕ) → with_front front (list_kept row (Ok ([], octets))) ≡ Ok (front, octets)
kept_nil row front octets = grind (arith, append-nil)

module _ (row : Option TypeForm) (len : ℕ) (total : Result (List VectorAttr × List ℕ) ℕ) (front : List VectorAttr) (octets : List ℕ) (so_far : with_front front (list_kept row (vectors_of row len octets)) ≡ total) where
  after_all : (read : Result (List VectorAttr × List ℕ) ℕ) → vectors_of row len octets ≡ read → total ≡ with_front front (list_kept row read)
  after_all read e = sym so_far ∙ ap (λ (r : Result (List VectorAttr × List ℕ) ℕ). with_front front (list_kept row r)) e

  pub list_goes_on : (v : Vector) (after : List ℕ) → ends_list octets ≡ false → vector_at row len octets ≡ Ok (v, after)
      → with_front (front ++ kept_attr row (attr_of v)) (list_kept row (vectors_of row len after)) ≡ total
  list_goes_on v after going e = sym (after_all _ (vectors_step row len octets v after going e) ∙ with_more row front (attr_of v) (vectors_of row len after))

  pub list_fails : (e : ReadErr) → ends_list octets ≡ false → Fails e (vector_at row len octets) → Fails e total
  list_fails errors.NoMemory going h = tt
  list_fails (errors.Left left) going h = after_all _ (vectors_fail row len octets left going h)

  pub list_ends : ends_list octets ≡ true → total ≡ Ok (front, octets)
  list_ends ended = after_all _ (vectors_end row len octets ended) ∙ kept_nil row front octets
