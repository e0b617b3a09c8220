-- A place in the list of a scenario's events between those of earlier ticks and the others.
use Rattle.std.specs.Prelude.{◌≡◌, ◌<◌, ◌≤◌, ℕ, List, length, slice_get, Some}
use Rattle.topology_file.specs.declared.entries.EventEntry.{EventEntry}

-- before place i stand events of ticks before t alone, and from it on none of them
pub record IsCursor (events : List EventEntry) (t i : ℕ) : Type 0 where
  pub within : i ≤ length events
  pub past : (k : ℕ) (e : EventEntry) → slice_get events k ≡ Some e → k < i → e.tick < t
  pub coming : (k : ℕ) (e : EventEntry) → slice_get events k ≡ Some e → i ≤ k → t ≤ e.tick
