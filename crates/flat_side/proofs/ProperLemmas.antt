-- Settling, requests and a new side: keys of the application alone are kept; and what is sent is of such keys.
use Rattle.std.proofs.Common.{◌≡◌, ◌⊎◌, inl, inr, ℕ, zero, suc, Bool, true, false, not, ◌&&◌, ◌||◌, if◌then◌else◌, List, [], ◌∷◌, map, refl, sym, subst, ◌∙◌, arith}
use Rattle.std.specs.Prelude.{slice_get, slice_set, Option, Some, None, option_and_then, IsSome, Contains}
use Rattle.std.specs.{declared.cmp.Ordering.Ordering, Ordering.is_eq}
use Rattle.srp_base.proofs.{Lists.paired, Bools.or_true, Lists.each-get}
use Rattle.srp_base.specs.declared.{numbers.Cs.Cs, ports.PortSetup.PortSetup, mrp.MrpEvent.MrpEvent}
use Rattle.mrp_participant.specs.declared.row.Row.{Row}
use Rattle.mrp_participant.specs.{Lookup.find, Lookup.ChangesOnly, Row.after_declare, Row.after_withdraw, State.AreRows, State.new_state, State.declared_state, State.withdrawn_state}
use Rattle.attribute_propagation.specs.{Dirty.IsAscending, Dirty.is_awaiting, Dirty.with_key, Dirty.without_key, Ports.marked_everywhere, Ports.new_sets}
use Rattle.flat_side.specs.Part.{Part}
use Rattle.flat_side.specs.{key_events, same_content, settled_key, settled_part, FlatState, has_own, is_flat, awaiting_at, new_flat, settled_flat, requested_flat, AreOfKeys, HasKeyRows, HasKeysAlone, IsProper}
use Rattle.flat_side.proofs.{Keeping.KeyLaws, Keeping.self, Keeping.same_key, Keeping.kept-requested, Keeping.kept-new, SettlingLemmas.Laws, SettlingLemmas.kept-settled, KeyLemmas.set-each, KeyLemmas.everywhere_alone, KeyLemmas.proper-at, KeyLemmas.rows-changed}

-- what a declaration and a withdrawal make of the row of each key
pub record Changes {K : Type 0} (cmp : K → K → Ordering) : Type 0 where
  pub declare : (s : Part K) (key : K) → AreRows cmp s.rows
      → ChangesOnly cmp key (after_declare same_content key tt (find cmp key s.rows)) s.rows (declared_state cmp same_content key tt s).rows
  pub withdraw : (s : Part K) (key : K) → AreRows cmp s.rows
      → ChangesOnly cmp key (after_withdraw (find cmp key s.rows)) s.rows (withdrawn_state cmp key s).rows

module _ {K : Type 0} (cmp : K → K → Ordering) (laws : KeyLaws cmp) (IsKey : K → Type 0) where
  -- ---- a new side

  new_parts : (leave_time : Cs) (periodic : Bool) (ports : List PortSetup) (at : ℕ) (s : Part K)
      → slice_get (map (λ p. new_state p.period leave_time periodic) ports) at ≡ Some s → HasKeyRows cmp IsKey s
  new_parts leave_time periodic [] at s get = cc
  new_parts leave_time periodic (p ∷ ports) zero s get =
      let is : new_state p.period leave_time periodic ≡ s = cc in subst (HasKeyRows cmp IsKey) is (λ key h. absurd (cc))
  new_parts leave_time periodic (p ∷ ports) (suc at) s get = new_parts leave_time periodic ports at s get

  none_await : (ports : List PortSetup) (at : ℕ) (keys : List K) → slice_get (new_sets ports) at ≡ Some keys → HasKeysAlone cmp IsKey keys
  none_await [] at keys get = cc
  none_await (p ∷ ports) zero keys get = let none : [] ≡ keys = cc in subst (HasKeysAlone cmp IsKey) none (λ key h. absurd (cc))
  none_await (p ∷ ports) (suc at) keys get = none_await ports at keys get

  pub proper-new : (leave_time : Cs) (periodic : Bool) (ports : List PortSetup) → IsProper cmp IsKey (new_flat leave_time periodic ports)
  proper-new leave_time periodic ports =
      record {
        kept = kept-new cmp leave_time periodic ports;
        keys = record { parts = new_parts leave_time periodic ports; awaiting = none_await ports; own = λ key h. absurd (cc) };
      }

  -- ---- settling

  -- a participant's rows, all of keys of the application
  abbrev OwnPart : Part K → Type 0
  OwnPart s = AreRows cmp s.rows × HasKeyRows cmp IsKey s

  module _ (acts : Laws cmp) (changes : Changes cmp) (rule : K → Bool) where
    one_settled : (s : Part K) (key : K) → IsKey key → OwnPart s → OwnPart (settled_key cmp rule s key)
    one_settled s key own h = by (rule key)
      where
        by : (b : Bool) → OwnPart (if b then declared_state cmp same_content key tt s else withdrawn_state cmp key s)
        by true = (
          acts.declare_rows s key h.0,
          rows-changed cmp laws IsKey s (declared_state cmp same_content key tt s) key
              (after_declare same_content key tt (find cmp key s.rows)) h.1 (λ i. own) (changes.declare s key h.0),
        )
        by false = (acts.withdraw_rows s key h.0, rows-changed cmp laws IsKey s (withdrawn_state cmp key s) key (after_withdraw (find cmp key s.rows)) h.1 (λ i. own) (changes.withdraw s key h.0))

    pub all_settled : (keys : List K) (s : Part K) → HasKeysAlone cmp IsKey keys → OwnPart s → OwnPart (settled_part cmp rule keys s)
    all_settled [] s alone h = h
    all_settled (x ∷ keys) s alone h =
        all_settled keys (settled_key cmp rule s x) (λ v i. alone v (later (is_eq (cmp x v)) (is_awaiting cmp v keys) i))
        (one_settled s x (alone x (first (is_eq (cmp x x)) (is_awaiting cmp x keys) (self cmp laws x))) h)
      where
        later : (a b : Bool) → b ≡ true → (a || b) ≡ true
        later true b i = refl
        later false b i = i

        first : (a b : Bool) → a ≡ true → (a || b) ≡ true
        first true b i = refl
        first false b i = cc

  none_alone : HasKeysAlone cmp IsKey []
  none_alone key h = absurd (cc)

  pub proper-settled : Laws cmp → Changes cmp → (at : ℕ) (side : FlatState K) → IsProper cmp IsKey side → IsProper cmp IsKey (settled_flat cmp at side)
  proper-settled acts changes at side proper =
      proper-at cmp laws IsKey side (λ s. record side { parts = slice_set side.parts at (settled_part cmp (is_flat cmp side at) (awaiting_at at side) s); awaiting = slice_set side.awaiting at [] })
      (slice_get side.parts at) proper (λ s here. by s here (paired side.awaiting side.parts at s proper.kept.ports here))
    where
      by : (s : Part K) → slice_get side.parts at ≡ Some s → (keys : List K) × (slice_get side.awaiting at ≡ Some keys)
          → IsProper cmp IsKey (record side { parts = slice_set side.parts at (settled_part cmp (is_flat cmp side at) (awaiting_at at side) s); awaiting = slice_set side.awaiting at [] })
      by s here (keys, set) =
          let rows = each-get (λ p. AreRows cmp p.rows) side.parts at s proper.kept.rows here in
          let good = all_settled acts changes (is_flat cmp side at) keys s (proper.keys.awaiting at keys set) (rows, proper.keys.parts at s here) in
          rw set (record {
            kept = kept-settled cmp laws acts side proper.kept at s keys here set;
            keys = record {
              parts = set-each (HasKeyRows cmp IsKey) side.parts at (settled_part cmp (is_flat cmp side at) keys s) good.1 proper.keys.parts;
              awaiting = set-each (HasKeysAlone cmp IsKey) side.awaiting at [] none_alone proper.keys.awaiting;
              own = proper.keys.own;
            };
          })

  -- ---- requests

  one_alone : (key : K) → IsKey key → HasKeysAlone cmp IsKey (key ∷ [])
  one_alone key own v is = by (is_eq (cmp key v)) refl is
    where
      by : (a : Bool) → is_eq (cmp key v) ≡ a → (a || false) ≡ true → IsKey v
      by true e i = subst IsKey (same_key cmp laws key v e) own
      by false e i = cc

  module _ (marks : (k x : K) (keys : List K) → is_awaiting cmp k (with_key cmp x keys) ≡ (is_eq (cmp x k) || is_awaiting cmp k keys))
      (clears : (k x : K) (keys : List K) → is_awaiting cmp k (without_key cmp x keys) ≡ (not (is_eq (cmp x k)) && is_awaiting cmp k keys))
      (marks_up : (x : K) (keys : List K) → IsAscending cmp keys → IsAscending cmp (with_key cmp x keys))
      (clears_up : (x : K) (keys : List K) → IsAscending cmp keys → IsAscending cmp (without_key cmp x keys))
      (key : K) (side : FlatState K) (named : IsKey key) (proper : IsProper cmp IsKey side) where
    marked_alone : HasKeysAlone cmp IsKey (with_key cmp key side.own)
    marked_alone v is = by (or_true (is_eq (cmp key v)) (is_awaiting cmp v side.own) (sym (marks v key side.own) ∙ is))
      where
        by : (is_eq (cmp key v) ≡ true) ⊎ (is_awaiting cmp v side.own ≡ true) → IsKey v
        by (inl e) = subst IsKey (same_key cmp laws key v e) named
        by (inr e) = proper.keys.own v e

    cleared_alone : HasKeysAlone cmp IsKey (without_key cmp key side.own)
    cleared_alone v is = proper.keys.own v (right (not (is_eq (cmp key v))) (is_awaiting cmp v side.own) (sym (clears v key side.own) ∙ is))
      where
        right : (a b : Bool) → (a && b) ≡ true → b ≡ true
        right true b h = h
        right false b h = cc

    asked : (declared : Bool) (own : List K) → IsAscending cmp own → own ≡ (if declared then with_key cmp key side.own else without_key cmp key side.own) → HasKeysAlone cmp IsKey own
        → IsProper cmp IsKey (record side { own = own; awaiting = marked_everywhere cmp (key ∷ []) side.awaiting })
    asked declared own up is alone =
        record {
          kept = kept-requested cmp laws marks clears side proper.kept key declared own (marked_everywhere cmp (key ∷ []) side.awaiting) up is refl;
          keys = record { parts = proper.keys.parts; awaiting = everywhere_alone cmp laws IsKey (key ∷ []) side.awaiting (one_alone key named) proper.keys.awaiting; own = alone };
        }

    chosen : (b : Bool) (x y : FlatState K) → IsProper cmp IsKey x → IsProper cmp IsKey y → IsProper cmp IsKey (if b then x else y)
    chosen true x y h k = h
    chosen false x y h k = k

    pub proper-requested : (declared : Bool) → IsProper cmp IsKey (requested_flat cmp key declared side)
    proper-requested true = chosen (has_own cmp key side) _ _ proper (asked true (with_key cmp key side.own) (marks_up key side.own proper.kept.own) refl marked_alone)
    proper-requested false = chosen (has_own cmp key side) _ _ (asked false (without_key cmp key side.own) (clears_up key side.own proper.kept.own) refl cleared_alone) proper

  -- ---- what is sent

  -- each event of a list is one that a row says, so its key has a row
  pub events-keys : (s : Part K) → HasKeyRows cmp IsKey s → (f : Row K (Unit {0}) → Option (MrpEvent × K × Unit {0})) (es : List (MrpEvent × K × Unit {0}))
      → ((e : MrpEvent × K × Unit {0}) → Contains es e → option_and_then f (find cmp e.1 s.rows) ≡ Some e)
      → AreOfKeys IsKey (key_events es)
  events-keys s h f [] law = tt
  events-keys s h f (e ∷ es) law =
      (h e.1 (some (find cmp e.1 s.rows) (law e (0, omega arith, refl))), events-keys s h f es (λ d (i, below, at). law d (suc i, omega (arith, below), at)))
    where
      some : (o : Option (Row K (Unit {0}))) → option_and_then f o ≡ Some e → IsSome o
      some None i = cc
      some (Some r) i = refl
