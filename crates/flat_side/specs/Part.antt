-- The participant at a port of an application whose attributes are keys without content (IEEE Std
-- 802.1Q-2018, 11.2.3, 10.12.1).
use Rattle.std.specs.Prelude.{Bool, true, List, map, fold, if◌then◌else◌}
use Rattle.std.specs.{declared.cmp.Ordering.Ordering, Option.is_some}
use Rattle.srp_base.specs.declared.{numbers.Cs.Cs, mrp.MrpEvent.MrpEvent}
use Rattle.mrp_participant.specs.State.{State, declared_at, registered_at, declared_state, withdrawn_state, received_state, changed_keys}

-- the state of a port's participant, with a row for each key that it keeps something of
abbrev pub Part : Type 0 → Type 0
Part K = State K (Unit {0})

-- there is one content alone
abbrev pub same_content : Unit {0} → Unit {0} → Bool
same_content _ _ = true

module _ {K : Type 0} where
  -- events of keys as those of attributes without content
  abbrev pub said_events : List (MrpEvent × K) → List (MrpEvent × K × Unit {0})
  said_events events = map (λ e. (e.0, e.1, tt)) events

  -- events of attributes without content as those of keys
  abbrev pub key_events : List (MrpEvent × K × Unit {0}) → List (MrpEvent × K)
  key_events events = map (λ e. (e.0, e.1)) events

  -- the participant after it received a PDU: whether that has LeaveAll, and its events
  abbrev pub received_part : (K → K → Ordering) → Cs → Bool → List (MrpEvent × K) → Part K → Part K
  received_part cmp now leave_all events s = received_state cmp now leave_all (said_events events) s

  -- the keys whose registration a received PDU changes, ascending
  abbrev pub told_by_receipt : (K → K → Ordering) → Cs → Bool → List (MrpEvent × K) → Part K → List K
  told_by_receipt cmp now leave_all events s =
      changed_keys cmp same_content s.rows (received_part cmp now leave_all events s).rows

  -- whether a key is declared: the Applicant is in any state but VO and LA
  abbrev pub declares : (K → K → Ordering) → K → Part K → Bool
  declares cmp key s = is_some (declared_at cmp key s)

  -- whether a key is registered: the Registrar is IN or LV
  abbrev pub registers : (K → K → Ordering) → K → Part K → Bool
  registers cmp key s = is_some (registered_at cmp key s)

  -- a key is settled: declared where the rule says so, else withdrawn
  abbrev pub settled_key : (K → K → Ordering) → (K → Bool) → Part K → K → Part K
  settled_key cmp rule s key =
      if rule key then declared_state cmp same_content key tt s else withdrawn_state cmp key s

  -- these keys are settled, in this order
  abbrev pub settled_part : (K → K → Ordering) → (K → Bool) → List K → Part K → Part K
  settled_part cmp rule keys s = fold (settled_key cmp rule) s keys
