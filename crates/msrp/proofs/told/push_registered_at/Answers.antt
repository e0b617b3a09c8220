use Rattle.std.proofs.Common.{◌≡◌, ◌∙◌, ℕ, zero, suc, ◌+◌, Bool, true, false, if◌then◌else◌, List, [], ◌∷◌, ◌++◌, map, drop, Some, None, refl, sym, ap, append_assoc, add-one}
use Rattle.std.specs.Prelude.{slice_get, filter, is_some}
use Rattle.mrp_participant.specs.{Lookup.key_of, State.registered_at}
use Rattle.msrp_codec.specs.declared.pdu.MsrpKey.{MsrpKey}
use Rattle.msrp.specs.Part.{Part}
use Rattle.msrp.specs.{key_cmp}
use Rattle.msrp.proofs.Places.{on_ok}
use Rattle.msrp.proofs.told.push_registered_at.Goals as goal

-- those of a list that pass a test: the element at a place and those after it, and nothing where there is none
one_more : (test : MsrpKey → Bool) (ks : List MsrpKey) (i : ℕ) (key : MsrpKey) → slice_get ks i ≡ Some key
    → filter test (drop i ks) ≡ filter (λ _. test key) (key ∷ []) ++ filter test (drop (suc i) ks)
one_more test [] i key h = cc
one_more test (k ∷ ks) zero key h = let same : k ≡ key = cc in ap (λ x. if test x then x ∷ filter test ks else filter test ks) same ∙ by (test key)
  where
    by : (b : Bool) → (if b then key ∷ filter test ks else filter test ks) ≡ (if b then key ∷ [] else []) ++ filter test ks
    by true = refl
    by false = refl
one_more test (k ∷ ks) (suc i) key h = one_more test ks i key h

no_more : (test : MsrpKey → Bool) (ks : List MsrpKey) (i : ℕ) → slice_get ks i ≡ None → filter test (drop i ks) ≡ filter test (drop (suc i) ks)
no_more test [] zero h = refl
no_more test [] (suc i) h = refl
no_more test (k ∷ ks) zero h = cc
no_more test (k ∷ ks) (suc i) h = no_more test ks i h

abbrev is_in : Part → MsrpKey → Bool
is_in s key = is_some (registered_at key_cmp key s)

-- those of the rows from a place on
abbrev from : ℕ → Part → List MsrpKey
from place s = filter (is_in s) (drop place (map key_of s.rows))

pushed : (s : Part) (i : ℕ) (key : MsrpKey) (old new : List MsrpKey) → slice_get (map key_of s.rows) i ≡ Some key → new ≡ old ++ filter (λ _. is_in s key) (key ∷ [])
    → new ++ from (i + 1) s ≡ old ++ from i s
pushed s i key old new at e =
    ap (λ n. new ++ from n s) (add-one i)
    ∙ (ap (λ xs. xs ++ from (suc i) s) e
    ∙ (append_assoc old (filter (λ _. is_in s key) (key ∷ [])) (from (suc i) s) ∙ ap (λ xs. old ++ xs) (sym (one_more (is_in s) (map key_of s.rows) i key at))))

pub returns-in-Some : goal.returns-in-Some
returns-in-Some c =
    on_ok c.push_where.result c.push_where.ensures
    (λ e. pushed c.args.part.now.state c.args.place c.in-Some.key c.args.out.now.items c.push_where.new.out.items (sym c.in-Some.ensures.key)
    (e ∙ ap (λ (b : Bool). c.args.out.now.items ++ filter (λ _. b) (c.in-Some.key ∷ [])) (c.is_some.ensures ∙ ap is_some c.in-Some.ensures.content)))

pub returns-in-None : goal.returns-in-None
returns-in-None c =
    ap (λ xs. c.args.out.now.items ++ xs)
    (ap (λ n. from n c.args.part.now.state) (add-one c.args.place)
    ∙ sym (no_more (is_in c.args.part.now.state) (map key_of c.args.part.now.state.rows) c.args.place (sym c.in-None.ensures.key)))
