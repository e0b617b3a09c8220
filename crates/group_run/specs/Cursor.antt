-- A place in the list of a scenario's events between those of earlier ticks and the others.
use Rattle.std.specs.Prelude.{◌<◌, ◌≤◌, ℕ, List, length, take, drop}
use Rattle.std.specs.List.{AllByRecursion}
use Rattle.group_file.specs.declared.entries.GroupEntry.{GroupEntry}

-- before place i stand events of ticks before t alone, and from it on none of them
pub record IsCursor (events : List GroupEntry) (t i : ℕ) : Type 0 where
  pub within : i ≤ length events
  pub past : AllByRecursion (λ e. e.tick < t) (take i events)
  pub coming : AllByRecursion (λ e. t ≤ e.tick) (drop i events)
