-- What settling keys leaves: each of them is declared by the rule, and no registration changes.
use Rattle.std.proofs.Common.{◌≡◌, ◌≢◌, ◌⊎◌, inl, inr, ℕ, zero, suc, Bool, true, false, ◌||◌, if◌then◌else◌, List, [], ◌∷◌, length, refl, sym, ap, subst, ◌∙◌, arith}
use Rattle.std.specs.Prelude.{slice_get, slice_set, Option, Some, None, is_some}
use Rattle.std.specs.declared.cmp.Ordering.{Ordering}
use Rattle.std.proofs.Math.ListN.{length-set}
use Rattle.srp_base.proofs.{Bools.chosen as picked, Arithmetic.decide, Lists.get-set_same, Lists.get_set_other as get-set_other, Lists.each-set, Lists.each-get}
use Rattle.mrp_participant.specs.{Lookup.same, State.AreRows, State.declared_at, State.registered_at, State.declared_state, State.withdrawn_state}
use Rattle.attribute_propagation.specs.Dirty.{is_awaiting}
use Rattle.flat_side.specs.Part.{Part}
use Rattle.flat_side.specs.{same_content, declares, settled_key, settled_part, FlatState, IsKept, IsFlatAt, awaiting_at, is_flat, settled_flat}
use Rattle.flat_side.proofs.Keeping.{KeyLaws, same_key, flat_here, flat_there, kept-at, rows-at}

-- the laws of a participant that settling rests on
pub record Laws {K : Type 0} (cmp : K → K → Ordering) : Type 0 where
  pub declare_rows : (s : Part K) (key : K) → AreRows cmp s.rows → AreRows cmp (declared_state cmp same_content key tt s).rows
  pub withdraw_rows : (s : Part K) (key : K) → AreRows cmp s.rows → AreRows cmp (withdrawn_state cmp key s).rows
  pub declare_asked : (s : Part K) (key : K) → AreRows cmp s.rows → (v : K)
      → declared_at cmp v (declared_state cmp same_content key tt s) ≡ (if same cmp key v then Some tt else declared_at cmp v s)
  pub withdraw_asked : (s : Part K) (key : K) → AreRows cmp s.rows → (v : K)
      → declared_at cmp v (withdrawn_state cmp key s) ≡ (if same cmp key v then None else declared_at cmp v s)
  pub declare_stays : (s : Part K) (key : K) → AreRows cmp s.rows → (v : K)
      → registered_at cmp v (declared_state cmp same_content key tt s) ≡ registered_at cmp v s
  pub withdraw_stays : (s : Part K) (key : K) → AreRows cmp s.rows → (v : K)
      → registered_at cmp v (withdrawn_state cmp key s) ≡ registered_at cmp v s

some_or : (b : Bool) (o : Option (Unit {0})) → is_some (if b then Some tt else o) ≡ (if b then true else is_some o)
some_or true o = refl
some_or false o = refl

none_or : (b : Bool) (o : Option (Unit {0})) → is_some (if b then None else o) ≡ (if b then false else is_some o)
none_or true o = refl
none_or false o = refl

module _ {K : Type 0} (cmp : K → K → Ordering) (laws : KeyLaws cmp) where
  module _ (acts : Laws cmp) (rule : K → Bool) where
    key_rows : (s : Part K) (x : K) → AreRows cmp s.rows → AreRows cmp (settled_key cmp rule s x).rows
    key_rows s x rows = picked (rule x) (λ (p : Part K). AreRows cmp p.rows) _ _ (acts.declare_rows s x rows) (acts.withdraw_rows s x rows)

    key_registered : (s : Part K) (x v : K) → AreRows cmp s.rows → registered_at cmp v (settled_key cmp rule s x) ≡ registered_at cmp v s
    key_registered s x v rows =
        picked (rule x) (λ (p : Part K). registered_at cmp v p ≡ registered_at cmp v s) _ _ (acts.declare_stays s x rows v) (acts.withdraw_stays s x rows v)

    key_declared : (s : Part K) (x v : K) → AreRows cmp s.rows → declares cmp v (settled_key cmp rule s x) ≡ (if same cmp x v then rule v else declares cmp v s)
    key_declared s x v rows = by (rule x) refl (same cmp x v) refl
      where
        by : (r : Bool) → rule x ≡ r → (b : Bool) → same cmp x v ≡ b
            → declares cmp v (if r then declared_state cmp same_content x tt s else withdrawn_state cmp x s) ≡ (if b then rule v else declares cmp v s)
        by true is true e =
            ap is_some (acts.declare_asked s x rows v) ∙ (some_or (same cmp x v) (declared_at cmp v s)
            ∙ (ap (λ t. if t then true else declares cmp v s) e ∙ (sym is ∙ ap rule (same_key cmp laws x v e))))
        by true is false e =
            ap is_some (acts.declare_asked s x rows v) ∙ (some_or (same cmp x v) (declared_at cmp v s) ∙ ap (λ t. if t then true else declares cmp v s) e)
        by false is true e =
            ap is_some (acts.withdraw_asked s x rows v) ∙ (none_or (same cmp x v) (declared_at cmp v s)
            ∙ (ap (λ t. if t then false else declares cmp v s) e ∙ (sym is ∙ ap rule (same_key cmp laws x v e))))
        by false is false e =
            ap is_some (acts.withdraw_asked s x rows v) ∙ (none_or (same cmp x v) (declared_at cmp v s) ∙ ap (λ t. if t then false else declares cmp v s) e)

    pub rows-settled : (keys : List K) (s : Part K) → AreRows cmp s.rows → AreRows cmp (settled_part cmp rule keys s).rows
    rows-settled [] s rows = rows
    rows-settled (x ∷ keys) s rows = rows-settled keys (settled_key cmp rule s x) (key_rows s x rows)

    pub registered-settled : (keys : List K) (s : Part K) (v : K) → AreRows cmp s.rows → registered_at cmp v (settled_part cmp rule keys s) ≡ registered_at cmp v s
    registered-settled [] s v rows = refl
    registered-settled (x ∷ keys) s v rows = registered-settled keys (settled_key cmp rule s x) v (key_rows s x rows) ∙ key_registered s x v rows

    either : (a b : Bool) (x y : Bool) → (if a then x else (if b then x else y)) ≡ (if (b || a) then x else y)
    either true true x y = refl
    either true false x y = refl
    either false true x y = refl
    either false false x y = refl

    pub declares-settled : (keys : List K) (s : Part K) (v : K) → AreRows cmp s.rows
        → declares cmp v (settled_part cmp rule keys s) ≡ (if is_awaiting cmp v keys then rule v else declares cmp v s)
    declares-settled [] s v rows = refl
    declares-settled (x ∷ keys) s v rows =
        declares-settled keys (settled_key cmp rule s x) v (key_rows s x rows)
        ∙ (ap (λ d. if is_awaiting cmp v keys then rule v else d) (key_declared s x v rows)
        ∙ either (is_awaiting cmp v keys) (same cmp x v) (rule v) (declares cmp v s))

  module _ (acts : Laws cmp) (side : FlatState K) (kept : IsKept cmp side) (at : ℕ) (s : Part K) (keys : List K)
      (here : slice_get side.parts at ≡ Some s) (set : slice_get side.awaiting at ≡ Some keys) where
    abbrev pub settled_here : Part K
    settled_here = settled_part cmp (is_flat cmp side at) keys s

    abbrev pub settled_side : FlatState K
    settled_side = record side { parts = slice_set side.parts at settled_here; awaiting = slice_set side.awaiting at [] }

    s_rows : AreRows cmp s.rows
    s_rows = each-get (λ p. AreRows cmp p.rows) side.parts at s kept.rows here

    by_rule : (v : K) (b : Bool) → is_awaiting cmp v keys ≡ b → (if b then is_flat cmp side at v else declares cmp v s) ≡ is_flat cmp side at v
    by_rule v true e = refl
    by_rule v false e = kept.flat at s keys v here set e

    flat_settled : (j : ℕ) → (at ≡ j) ⊎ (at ≢ j) → IsFlatAt cmp settled_side j
    flat_settled j (inl e) =
        let P : ℕ → Type 0 = λ k. IsFlatAt cmp settled_side k in
        subst P e (λ p ws v part none out.
        ap (declares cmp v) (sym (get-set_same side.parts at settled_here p part))
        ∙ (declares-settled acts (is_flat cmp side at) keys s v s_rows
        ∙ (by_rule v (is_awaiting cmp v keys) refl ∙ sym (flat_here cmp laws side kept at s here settled_here (slice_set side.awaiting at []) v))))
    flat_settled j (inr ne) = λ p ws v part others out.
        kept.flat j p ws v (sym (get-set_other side.parts at j settled_here ne) ∙ part) (sym (get-set_other side.awaiting at j [] ne) ∙ others) out
        ∙ sym (flat_there cmp laws side kept at s here settled_here (slice_set side.awaiting at []) j v (ap is_some (registered-settled acts (is_flat cmp side at) keys s v s_rows)))

    pub kept-settled : IsKept cmp settled_side
    kept-settled =
        record {
          rows = each-set (λ p. AreRows cmp p.rows) side.parts at settled_here (rows-settled acts (is_flat cmp side at) keys s s_rows) kept.rows;
          ports = length-set side.awaiting at [] ∙ (kept.ports ∙ sym (length-set side.parts at settled_here));
          own = kept.own;
          flat = λ j. flat_settled j (decide at j);
        }

  -- a list of the same length has an element at the same place
  paired : (sets : List (List K)) (parts : List (Part K)) (at : ℕ) (s : Part K) → length sets ≡ length parts → slice_get parts at ≡ Some s → (keys : List K) × (slice_get sets at ≡ Some keys)
  paired [] [] at s e get = cc
  paired [] (z ∷ parts) at s e get = absurd (omega arith)
  paired (keys ∷ sets) [] at s e get = absurd (omega arith)
  paired (keys ∷ sets) (z ∷ parts) zero s e get = (keys, refl)
  paired (keys ∷ sets) (z ∷ parts) (suc at) s e get = let shorter : length sets ≡ length parts = omega arith in paired sets parts at s shorter get

  pub settle-keeps : Laws cmp → (at : ℕ) (side : FlatState K) → IsKept cmp side → IsKept cmp (settled_flat cmp at side)
  settle-keeps acts at side kept =
      kept-at cmp laws side (λ s. record side { parts = slice_set side.parts at (settled_part cmp (is_flat cmp side at) (awaiting_at at side) s); awaiting = slice_set side.awaiting at [] })
      (slice_get side.parts at) kept (λ s here rows. by s here (paired side.awaiting side.parts at s kept.ports here)) (rows-at cmp laws side at kept)
    where
      by : (s : Part K) → slice_get side.parts at ≡ Some s → (keys : List K) × (slice_get side.awaiting at ≡ Some keys)
          → IsKept cmp (record side { parts = slice_set side.parts at (settled_part cmp (is_flat cmp side at) (awaiting_at at side) s); awaiting = slice_set side.awaiting at [] })
      by s here (keys, set) = rw set (kept-settled acts side kept at s keys here set)
