-- The loop over Messages: one step on, and the end, of what is still read.
use Rattle.std.proofs.Common.{◌≡◌, ℕ, zero, suc, ◌<◌, ◌≤◌, Bool, true, false, cond, eqb, List, [], ◌∷◌, ◌++◌, length, Some, None, Result, Ok, Err, refl, sym, ap, ◌∙◌, append_assoc, arith}
use Rattle.std.proofs.lemmas.{List.append-nil, Bool.eqb-false, Result.MatchResult-at_ok}
use Rattle.mrpdu_codec.specs.{AppForm, Message, message_at, end_at, type_at, messages_at, messages_of, Fails}
use Rattle.mrpdu_codec.specs.declared.error.ReadErr.{ReadErr}
use Rattle.mrpdu_codec.specs.declared.error.ReadErr.TheVariants as errors
use Rattle.srp_base.specs.Results.{◌>>=◌}
use Rattle.mrpdu_codec.proofs.{Steps.same_after, Steps.same_choice, ReadMessages.TookMessage, ReadMessages.message_match, Longer.message_longer}

-- ---- where a Message begins

picks_some : (b : Bool) (e : Result (List Message) ℕ) (y x : ℕ × List ℕ) → cond b (e >>= λ none. Ok None) (Ok (Some y)) ≡ Ok (Some x) → (b ≡ false) × (y ≡ x)
picks_some true (Ok ms) y x h = absurd cc
picks_some true (Err n) y x h = absurd cc
picks_some false e y x h = (refl, cc)

picks_none : (b : Bool) (e : Result (List Message) ℕ) (y : ℕ × List ℕ) → cond b (e >>= λ none. Ok None) (Ok (Some y)) ≡ Ok None → (b ≡ true) × ((ms : List Message) × (e ≡ Ok ms))
picks_none true (Ok ms) y h = (refl, (ms, refl))
picks_none true (Err n) y h = absurd cc
picks_none false e y h = absurd cc

picks_err : (b : Bool) (e : Result (List Message) ℕ) (y : ℕ × List ℕ) (left : ℕ) → cond b (e >>= λ none. Ok None) (Ok (Some y)) ≡ Err left → (b ≡ true) × (e ≡ Err left)
picks_err true (Ok ms) y left h = absurd cc
picks_err true (Err n) y left h = let k : n ≡ left = cc in (refl, ap (λ (i : ℕ). let r : Result (List Message) ℕ = Err i in r) k)
picks_err false e y left h = absurd cc

pub type_some : (octets : List ℕ) (kind : ℕ) (after : List ℕ) → type_at octets ≡ Ok (Some (kind, after)) → (octets ≡ kind ∷ after) × (eqb kind 0 ≡ false)
unfolding type_at
type_some [] kind after h = absurd cc
type_some (o ∷ octets) kind after h =
    let p = picks_some (eqb o 0) (end_at octets) (o, octets) (kind, after) h in
    let k : o ≡ kind = ap (λ (x : ℕ × List ℕ). x.0) p.1 in
    let r : octets ≡ after = ap (λ (x : ℕ × List ℕ). x.1) p.1 in
    (ap (λ (i : ℕ). i ∷ octets) k ∙ ap (λ (os : List ℕ). kind ∷ os) r, ap (λ (i : ℕ). eqb i 0) (sym k) ∙ p.0)

nil_at_end : (b : Bool) (n : ℕ) (ms : List Message) → cond b (Ok []) (Err n) ≡ Ok ms → ms ≡ []
nil_at_end b n ms h1 = grind arith

end_is_nil : (octets : List ℕ) (ms : List Message) → end_at octets ≡ Ok ms → ms ≡ []
unfolding end_at
end_is_nil [] ms h = absurd cc
end_is_nil (next ∷ rest) ms h = nil_at_end (eqb next 0) (suc (suc (length rest))) ms h

pub messages_end : (form : AppForm) (octets : List ℕ) → type_at octets ≡ Ok None → messages_of form octets ≡ Ok []
unfolding type_at messages_of messages_at
messages_end form [] h = refl
messages_end form (o ∷ octets) h =
    let p = picks_none (eqb o 0) (end_at octets) (o, octets) h in
    rw (p.0, p.1.1) (ap (λ (ms : List Message). let r : Result (List Message) ℕ = Ok ms in r) (end_is_nil octets p.1.0 p.1.1))

pub type_fails : (form : AppForm) (octets : List ℕ) (left : ℕ) → type_at octets ≡ Err left → messages_of form octets ≡ Err left
unfolding type_at messages_of messages_at
type_fails form [] left h = absurd cc
type_fails form (o ∷ octets) left h =
    let p = picks_err (eqb o 0) (end_at octets) (o, octets) left h in
    rw (p.0, p.1) refl

-- ---- fuel makes no difference

-- a Message that was read takes octets
pub falls : (form : AppForm) (kind : ℕ) (octets : List ℕ) (x : List Message × List ℕ) → eqb kind 0 ≡ false → message_at form kind octets ≡ Ok x → length x.1 ≤ length octets
falls form kind octets x nonzero e =
    let n : kind ≡ 0 → ⊥ = eqb-false kind 0 nonzero in
    let t = MatchResult-at_ok (λ (y : List Message × List ℕ). TookMessage form (kind ∷ octets) y.0 y.1) _ x e (message_match form kind octets (omega arith)) in
    omega (arith, message_longer (kind ∷ octets) t.tree x.1 t.whole)

fuel_free : (f g : ℕ) (form : AppForm) (octets : List ℕ) → length octets ≤ f → length octets ≤ g → messages_at f form octets ≡ messages_at g form octets
unfolding messages_at
fuel_free zero zero form octets p q = refl
fuel_free zero (suc g) form [] p q = refl
fuel_free zero (suc g) form (o ∷ octets) p q = absurd (omega arith)
fuel_free (suc f) zero form [] p q = refl
fuel_free (suc f) zero form (o ∷ octets) p q = absurd (omega arith)
fuel_free (suc f) (suc g) form [] p q = refl
fuel_free (suc f) (suc g) form (kind ∷ octets) p q =
    same_choice (eqb kind 0) _ _ _ (λ nonzero. same_after (message_at form kind octets) _ _ (λ x e.
    let less = falls form kind octets x nonzero e in
    ap (λ (r : Result (List Message) ℕ). r >>= λ ms. let y : Result (List Message) ℕ = Ok (x.0 ++ ms) in y) (fuel_free f g form x.1 (omega arith) (omega arith))))

messages_step : (form : AppForm) (octets : List ℕ) (kind : ℕ) (after : List ℕ) (ms : List Message) (rest : List ℕ) → type_at octets ≡ Ok (Some (kind, after))
    → message_at form kind after ≡ Ok (ms, rest)
    → messages_of form octets ≡ (messages_of form rest >>= λ others. Ok (ms ++ others))
unfolding messages_of messages_at
messages_step form octets kind after ms rest t e =
    let s = type_some octets kind after t in
    let less = falls form kind after (ms, rest) s.1 e in
    ap (λ (o : List ℕ). messages_at (length o) form o) s.0
    ∙ rw (s.1, e) (ap (λ (r : Result (List Message) ℕ). r >>= λ others. let y : Result (List Message) ℕ = Ok (ms ++ others) in y) (fuel_free (length after) (length rest) form rest less (omega arith)))

message_fails : (form : AppForm) (octets : List ℕ) (kind : ℕ) (after : List ℕ) (left : ℕ) → type_at octets ≡ Ok (Some (kind, after))
    → message_at form kind after ≡ Err left → messages_of form octets ≡ Err left
unfolding messages_of messages_at
message_fails form octets kind after left t e =
    let s = type_some octets kind after t in
    ap (λ (o : List ℕ). messages_at (length o) form o) s.0 ∙ rw (s.1, e) refl

-- ---- what was read before, and what is still read

abbrev pub with_messages : List Message → Result (List Message) ℕ → Result (List Message) ℕ
with_messages front read = read >>= λ ms. Ok (front ++ ms)

with_more : (front ms : List Message) (read : Result (List Message) ℕ) → with_messages front (read >>= λ others. Ok (ms ++ others)) ≡ with_messages (front ++ ms) read
with_more front ms read = grind (arith, append_assoc)

module _ (form : AppForm) (total : Result (List Message) ℕ) (front : List Message) (octets : List ℕ) (so_far : with_messages front (messages_of form octets) ≡ total) where
  pub goes_on : (kind : ℕ) (after : List ℕ) (ms : List Message) (rest : List ℕ) → type_at octets ≡ Ok (Some (kind, after)) → message_at form kind after ≡ Ok (ms, rest)
      → with_messages (front ++ ms) (messages_of form rest) ≡ total
  goes_on kind after ms rest t e = sym (ap (with_messages front) (messages_step form octets kind after ms rest t e) ∙ with_more front ms (messages_of form rest)) ∙ so_far

  pub fails_at_type : (e : ReadErr) → Fails e (type_at octets) → Fails e total
  fails_at_type errors.NoMemory h = tt
  fails_at_type (errors.Left left) h = sym so_far ∙ ap (with_messages front) (type_fails form octets left h)

  pub fails_in_message : (kind : ℕ) (after : List ℕ) (e : ReadErr) → type_at octets ≡ Ok (Some (kind, after)) → Fails e (message_at form kind after) → Fails e total
  fails_in_message kind after errors.NoMemory t h = tt
  fails_in_message kind after (errors.Left left) t h = sym so_far ∙ ap (with_messages front) (message_fails form octets kind after left t h)

  pub ends : type_at octets ≡ Ok None → total ≡ Ok front
  ends t = sym so_far ∙ ap (with_messages front) (messages_end form octets t) ∙ ap (λ (x : List Message). let y : Result (List Message) ℕ = Ok x in y) (append-nil front)

pub step_falls : (form : AppForm) (octets : List ℕ) (kind : ℕ) (after : List ℕ) (x : List Message × List ℕ) → type_at octets ≡ Ok (Some (kind, after))
    → message_at form kind after ≡ Ok x → length x.1 < length octets
step_falls form octets kind after x t e =
    let s = type_some octets kind after t in
    omega (arith, falls form kind after x s.1 e, ap length s.0)
