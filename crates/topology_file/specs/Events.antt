-- The events of a file: their ticks, and what happens.
use Rattle.std.specs.Prelude.{ℕ, nat_le, nat_lt, if◌then◌else◌, List, map, codes, Option, Some, None, option_map, option_and_then}
use Rattle.toml.specs.Data.{Members}
use Rattle.toml_rules.specs.Fields.{◌>>=◌, number, text}
use Rattle.topology_file.specs.declared.{entries.NodeEntry.NodeEntry, entries.LinkEntry.LinkEntry, entries.StreamEntry.StreamEntry, entries.EventEntry.EventEntry, entries.EventForm.EventForm}
use Rattle.topology_file.specs.Kinds.{kind_form}

-- the tick, below the scenario's ticks
abbrev pub tick_at : ℕ → Members → Option ℕ
tick_at ticks ms = option_and_then (λ tick. if nat_lt tick ticks then Some tick else None) (number (codes "tick") ms)

-- the event of an entry among the first 10,000
abbrev pub known_event : ℕ → List NodeEntry → List LinkEntry → List StreamEntry → Members → Option EventForm
known_event ticks nodes links streams ms = do
  tick ← tick_at ticks ms
  word ← text (codes "kind") ms
  kind ← kind_form nodes links streams ms word
  Some (record { tick = tick; kind = kind })

-- the event of entry n that has its form: the entries are at most 10,000
abbrev pub event_form : ℕ → List NodeEntry → List LinkEntry → List StreamEntry → ℕ → Members → Option EventForm
event_form ticks nodes links streams n ms = if nat_le n 10000 then known_event ticks nodes links streams ms else None

-- the moments of events in cs, in the order of the file, before their names are known
abbrev pub form_ticks : List EventForm → List ℕ
form_ticks forms = map (λ e. e.tick) forms

-- the moments of events in cs, in the order of the file, once their names are known
abbrev pub event_ticks : List EventEntry → List ℕ
event_ticks events = map (λ e. e.tick) events

-- the event, where what it names is known
abbrev pub event_entry : ℕ → EventForm → Option EventEntry
event_entry n form = option_map (λ kind. record { tick = form.tick; kind = kind }) form.kind
