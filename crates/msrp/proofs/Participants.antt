-- What settling keys leaves of a participant: each of them is declared by the rule, and no registration changes.
use Rattle.std.proofs.Common.{◌≡◌, Bool, true, false, ◌||◌, if◌then◌else◌, List, [], ◌∷◌, refl, ap, ◌∙◌}
use Rattle.std.specs.Prelude.{Option, Some, None}
use Rattle.mrp_participant.specs.{Lookup.ChangesOnly, Lookup.find, Lookup.same, Row.after_declare, Row.after_withdraw, State.AreRows, State.declared_at, State.registered_at, State.declared_state, State.withdrawn_state}
use Rattle.attribute_propagation.specs.Dirty.{is_awaiting}
use Rattle.msrp_codec.specs.declared.{pdu.MsrpKey.MsrpKey, pdu.MsrpContent.MsrpContent}
use Rattle.msrp_codec.specs.Content.{Belongs}
use Rattle.msrp.proofs.{KeyLemmas.key_is, Contents.HoldsOfEach, Contents.each-changed, Contents.own_row, Contents.own_from, Contents.declared_own, Contents.withdrawn_own}
use Rattle.msrp.specs.Part.{Part}
use Rattle.msrp.specs.{key_cmp, same_content, settled_as, settled_part, HasOwnContents}

-- the laws of a participant that settling rests on
pub record PartLaws : Type 0 where
  pub declare_rows : (s : Part) (key : MsrpKey) (c : MsrpContent) → AreRows key_cmp s.rows → AreRows key_cmp (declared_state key_cmp same_content key c s).rows
  pub withdraw_rows : (s : Part) (key : MsrpKey) → AreRows key_cmp s.rows → AreRows key_cmp (withdrawn_state key_cmp key s).rows
  pub declare_asked : (s : Part) (key : MsrpKey) (c : MsrpContent) → AreRows key_cmp s.rows → (k : MsrpKey)
      → declared_at key_cmp k (declared_state key_cmp same_content key c s) ≡ (if same key_cmp key k then Some c else declared_at key_cmp k s)
  pub withdraw_asked : (s : Part) (key : MsrpKey) → AreRows key_cmp s.rows → (k : MsrpKey)
      → declared_at key_cmp k (withdrawn_state key_cmp key s) ≡ (if same key_cmp key k then None else declared_at key_cmp k s)
  pub declare_stays : (s : Part) (key : MsrpKey) (c : MsrpContent) → AreRows key_cmp s.rows → (k : MsrpKey)
      → registered_at key_cmp k (declared_state key_cmp same_content key c s) ≡ registered_at key_cmp k s
  pub withdraw_stays : (s : Part) (key : MsrpKey) → AreRows key_cmp s.rows → (k : MsrpKey)
      → registered_at key_cmp k (withdrawn_state key_cmp key s) ≡ registered_at key_cmp k s
  pub declare_only : (s : Part) (key : MsrpKey) (c : MsrpContent) → AreRows key_cmp s.rows
      → ChangesOnly key_cmp key (after_declare same_content key c (find key_cmp key s.rows)) s.rows (declared_state key_cmp same_content key c s).rows
  pub withdraw_only : (s : Part) (key : MsrpKey) → AreRows key_cmp s.rows
      → ChangesOnly key_cmp key (after_withdraw (find key_cmp key s.rows)) s.rows (withdrawn_state key_cmp key s).rows

module _ (laws : PartLaws) where
  as_rows : (key : MsrpKey) (o : Option MsrpContent) (s : Part) → AreRows key_cmp s.rows → AreRows key_cmp (settled_as key o s).rows
  as_rows key None s rows = laws.withdraw_rows s key rows
  as_rows key (Some c) s rows = laws.declare_rows s key c rows

  as_registered : (key : MsrpKey) (o : Option MsrpContent) (s : Part) (k : MsrpKey) → AreRows key_cmp s.rows → registered_at key_cmp k (settled_as key o s) ≡ registered_at key_cmp k s
  as_registered key None s k rows = laws.withdraw_stays s key rows k
  as_registered key (Some c) s k rows = laws.declare_stays s key c rows k

  as_declared : (key : MsrpKey) (o : Option MsrpContent) (s : Part) (k : MsrpKey) → AreRows key_cmp s.rows
      → declared_at key_cmp k (settled_as key o s) ≡ (if same key_cmp key k then o else declared_at key_cmp k s)
  as_declared key None s k rows = laws.withdraw_asked s key rows k
  as_declared key (Some c) s k rows = laws.declare_asked s key c rows k

  -- what holds of both contents of each key that has a row, and of what a key is declared with, holds afterwards
  as_each : (P : MsrpKey → MsrpContent → Type 0) (key : MsrpKey) (o : Option MsrpContent) (s : Part) → AreRows key_cmp s.rows
      → ((c : MsrpContent) → o ≡ Some c → P key c) → HoldsOfEach P s → HoldsOfEach P (settled_as key o s)
  as_each P key None s rows holds own =
      each-changed P s (withdrawn_state key_cmp key s) key (after_withdraw (find key_cmp key s.rows)) own (laws.withdraw_only s key rows)
      (withdrawn_own P key (find key_cmp key s.rows) (own key))
  as_each P key (Some c) s rows holds own =
      each-changed P s (declared_state key_cmp same_content key c s) key (after_declare same_content key c (find key_cmp key s.rows)) own (laws.declare_only s key c rows)
      (declared_own P key c (find key_cmp key s.rows) (holds c refl) (own key))

  module _ (rule : MsrpKey → Option MsrpContent) where
    pub rows-settled : (ks : List MsrpKey) (s : Part) → AreRows key_cmp s.rows → AreRows key_cmp (settled_part rule ks s).rows
    rows-settled [] s rows = rows
    rows-settled (x ∷ ks) s rows = rows-settled ks (settled_as x (rule x) s) (as_rows x (rule x) s rows)

    pub registered-settled : (ks : List MsrpKey) (s : Part) (k : MsrpKey) → AreRows key_cmp s.rows → registered_at key_cmp k (settled_part rule ks s) ≡ registered_at key_cmp k s
    registered-settled [] s k rows = refl
    registered-settled (x ∷ ks) s k rows = registered-settled ks (settled_as x (rule x) s) k (as_rows x (rule x) s rows) ∙ as_registered x (rule x) s k rows

    either : {X : Type 0} (a b : Bool) (x y : X) → (if a then x else (if b then x else y)) ≡ (if (b || a) then x else y)
    either true true x y = refl
    either true false x y = refl
    either false true x y = refl
    either false false x y = refl

    one_rule : (x k : MsrpKey) (d : Option MsrpContent) → (if same key_cmp x k then rule x else d) ≡ (if same key_cmp x k then rule k else d)
    one_rule x k d = by (same key_cmp x k) refl
      where
        by : (b : Bool) → same key_cmp x k ≡ b → (if b then rule x else d) ≡ (if b then rule k else d)
        by true e = ap rule (key_is x k e)
        by false e = refl

    pub declared-settled : (ks : List MsrpKey) (s : Part) (k : MsrpKey) → AreRows key_cmp s.rows
        → declared_at key_cmp k (settled_part rule ks s) ≡ (if is_awaiting key_cmp k ks then rule k else declared_at key_cmp k s)
    declared-settled [] s k rows = refl
    declared-settled (x ∷ ks) s k rows =
        declared-settled ks (settled_as x (rule x) s) k (as_rows x (rule x) s rows)
        ∙ (ap (λ (d : Option MsrpContent). if is_awaiting key_cmp k ks then rule k else d) (as_declared x (rule x) s k rows ∙ one_rule x k (declared_at key_cmp k s))
        ∙ either (is_awaiting key_cmp k ks) (same key_cmp x k) (rule k) (declared_at key_cmp k s))

    pub each-settled : (P : MsrpKey → MsrpContent → Type 0) → ((key : MsrpKey) (c : MsrpContent) → rule key ≡ Some c → P key c) → (ks : List MsrpKey) (s : Part)
        → AreRows key_cmp s.rows → HoldsOfEach P s → HoldsOfEach P (settled_part rule ks s)
    each-settled P holds [] s rows own = own
    each-settled P holds (x ∷ ks) s rows own = each-settled P holds ks (settled_as x (rule x) s) (as_rows x (rule x) s rows) (as_each P x (rule x) s rows (holds x) own)

    pub own-settled : ((key : MsrpKey) (c : MsrpContent) → rule key ≡ Some c → Belongs key c) → (ks : List MsrpKey) (s : Part) → AreRows key_cmp s.rows
        → HasOwnContents s → HasOwnContents (settled_part rule ks s)
    own-settled belongs ks s rows own = own_from (settled_part rule ks s) (each-settled Belongs belongs ks s rows (own_row s own))
