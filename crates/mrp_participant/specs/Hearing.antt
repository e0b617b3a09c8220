-- How the code receives: the rows of the keys that are heard of are found beside the rows of the
-- participant, and then put over them. That this is the fold of `State` is proved, and no public
-- contract names this file.
use Rattle.std.specs.Prelude.{Bool, true, if◌then◌else◌, List, [], fold, option_map}
use Rattle.std.specs.{declared.option.Option.Option, declared.option.Option.TheVariants.None, declared.option.Option.TheVariants.Some, declared.cmp.Ordering.Ordering, Set.sorted_merge}
use Rattle.srp_base.specs.declared.{numbers.Cs.Cs, mrp.MrpEvent.MrpEvent}
use Rattle.mrp_participant.specs.declared.row.Row.{Row}
use Rattle.mrp_participant.specs.{Lookup.find, Lookup.put, Row.leave_all_row, Row.after_hear}

-- the first, or else the second
abbrev pub first_of : {X : Type 0} → Option X → Option X → Option X
first_of None y = y
first_of (Some x) y = Some x

-- a row as the events find it: after the LeaveAll, where there is one
abbrev pub begun_row : {K C : Type 0} → Bool → Cs → Row K C → Row K C
begun_row leave_all leave r = if leave_all then leave_all_row leave r else r

module _ {K C : Type 0} (cmp : K → K → Ordering) where
  -- the row of a key, where some keys were heard of already
  abbrev pub row_so_far : Bool → Cs → List (Row K C) → List (Row K C) → K → Option (Row K C)
  row_so_far leave_all leave rows heard k = first_of (find cmp k heard) (option_map (begun_row leave_all leave) (find cmp k rows))

  -- the rows of the keys that were heard of, after one more event
  abbrev pub heard_with : Bool → Cs → List (Row K C) → List (Row K C) → MrpEvent × K × C → List (Row K C)
  heard_with leave_all leave rows heard e = put cmp e.1 (after_hear e.0 e.1 e.2 leave (row_so_far leave_all leave rows heard e.1)) heard

  -- the rows of all keys that a list of messages speaks of
  abbrev pub heard_rows : Bool → Cs → List (Row K C) → List (MrpEvent × K × C) → List (Row K C)
  heard_rows leave_all leave rows events = fold (heard_with leave_all leave rows) [] events

  -- two lists of rows as one ascending list; of two rows of one key the first list's stays
  abbrev pub rows_as_one : List (Row K C) → List (Row K C) → List (Row K C)
  rows_as_one first second = sorted_merge (λ (a b : Row K C). cmp a.key b.key) true first second

  -- rows put in the places of those of their keys
  abbrev pub put_over : List (Row K C) → List (Row K C) → List (Row K C)
  put_over over rows = fold (λ rows (u : Row K C). put cmp u.key (Some u) rows) rows over
