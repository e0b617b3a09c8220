-- That each key that a side keeps is one that its application has.
use Rattle.std.specs.Prelude.{◌≡◌, ℕ, true, List, Some, IsSome, slice_get}
use Rattle.std.specs.{declared.cmp.Ordering.Ordering, List.AllByRecursion}
use Rattle.srp_base.specs.declared.mrp.MrpEvent.{MrpEvent}
use Rattle.mrp_participant.specs.Lookup.{find}
use Rattle.attribute_propagation.specs.Dirty.{is_awaiting}
use Rattle.flat_side.specs.{Part.Part, Side.FlatState, Side.IsKept}

-- each event is of one of the application's keys
abbrev pub AreOfKeys : {K : Type 0} → (K → Type 0) → List (MrpEvent × K) → Type 0
AreOfKeys IsKey events = AllByRecursion (λ e. IsKey e.1) events

module _ {K : Type 0} (cmp : K → K → Ordering) (IsKey : K → Type 0) where
  -- each row of a participant is of such a key
  abbrev pub HasKeyRows : Part K → Type 0
  HasKeyRows s = (key : K) → IsSome (find cmp key s.rows) → IsKey key

  -- such keys alone are in a set
  abbrev pub HasKeysAlone : List K → Type 0
  HasKeysAlone keys = (key : K) → is_awaiting cmp key keys ≡ true → IsKey key

  -- each key that a side keeps is one of them
  pub record KeepsKeys (side : FlatState K) : Type 0 where
    pub parts : (at : ℕ) (s : Part K) → slice_get side.parts at ≡ Some s → HasKeyRows s
    pub awaiting : (at : ℕ) (keys : List K) → slice_get side.awaiting at ≡ Some keys → HasKeysAlone keys
    pub own : HasKeysAlone side.own

  -- what a side keeps, of such keys
  pub record IsProper (side : FlatState K) : Type 0 where
    pub kept : IsKept cmp side
    pub keys : KeepsKeys side
