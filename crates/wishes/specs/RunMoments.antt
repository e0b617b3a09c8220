-- The moments of a run: since when nothing that the applications hear or the ports have booked changes,
-- and in which ticks nothing is pending. Each network is that at the end of a tick, with the tick's
-- number.
use Rattle.std.specs.Prelude.{ℕ, ◌+◌, ◌==◌, Bool, true, false, ◌&&◌, if◌then◌else◌, List, [], ◌∷◌, ◌++◌, map, flat_map, codes}
use Rattle.std.specs.{Option.option_eq, List.list_all, Cmp.Lexicographic.pointwise, Fmt.decimal}
use Rattle.srp_base.specs.Text.{whole_of}
use Rattle.topology_file.specs.declared.entries.StreamEntry.{StreamEntry}
use Rattle.topology_file.specs.Plan.{Plan}
use Rattle.srp_base.specs.declared.streams.ListenerKind.{ListenerKind}
use Rattle.srp_base.specs.{contracts.streams.ListenerKindPartialEq.TheImpl.ghosts as kind_equality}
use Rattle.stream_importance.specs.declared.entry.Entry.{Entry}
use Rattle.port_ledger.specs.{Book.same_entry, Decision.booked_of}
use Rattle.msrp.specs.{PortState.PortState, Side.Streams, Side.has_listen, Side.heard_of}
use Rattle.node_core.specs.State.{NodeState}
use Rattle.world_core.specs.declared.journal.Tick.{Tick}
use Rattle.world_core.specs.World.{WorldState, is_in_step, is_quiet}
use Rattle.srp_schedule.specs.Watch.{ends_of}
use Rattle.wishes.specs.declared.{moments.Moments.Moments, moments.Span.Span, standing.Hearing.Hearing, standing.Standing.Standing}

-- ---- what stands

-- what is heard of a stream at a node: whether its application listens, and what that hears
abbrev pub hearing_of : Streams → StreamEntry → Hearing
hearing_of side e = record { listens = has_listen e.id side; heard = heard_of e.id side }

-- of each of some streams
abbrev pub hearings_in : List StreamEntry → Streams → List Hearing
hearings_in streams side = map (hearing_of side) streams

-- what each link port of a node has booked, of whatever streams: their wants, and since when
abbrev pub bookings_in : Streams → List (List Entry)
bookings_in side = map (λ (p : PortState). booked_of p.ledger.entries) side.ports

-- what stands at a node
abbrev pub standing_at : List StreamEntry → NodeState → Standing
standing_at streams s = record { heard = hearings_in streams s.streams; booked = bookings_in s.streams }

-- what stands in a network, node by node
abbrev pub standings_of : List StreamEntry → WorldState → List Standing
standings_of streams w = map (standing_at streams) w.nodes

abbrev pub same_flag : Bool → Bool → Bool
same_flag true b = b
same_flag false true = false
same_flag false false = true

abbrev pub same_kind : ListenerKind → ListenerKind → Bool
same_kind = kind_equality.eq

abbrev pub same_hearing : Hearing → Hearing → Bool
same_hearing a b = same_flag a.listens b.listens && option_eq same_kind a.heard b.heard

-- whether the same stands at two nodes: the same is heard of each stream, and the same is booked at
-- each port
abbrev pub same_standing : Standing → Standing → Bool
same_standing a b = pointwise same_hearing a.heard b.heard && pointwise (pointwise same_entry) a.booked b.booked

abbrev pub are_same_standings : List Standing → List Standing → Bool
are_same_standings xs ys = pointwise same_standing xs ys

-- whether a network stands so
abbrev pub stands_so : List StreamEntry → List Standing → ℕ × WorldState → Bool
stands_so streams standings end = are_same_standings standings (standings_of streams end.1)

-- the first tick from whose end on all stands as then
abbrev pub settled_in : List StreamEntry → List (ℕ × WorldState) → ℕ
settled_in streams [] = 0
settled_in streams (end ∷ later) =
    if list_all (stands_so streams (standings_of streams end.1)) later then end.0 else settled_in streams later

-- ---- where nothing is pending

-- whether a network is quiet and in step
abbrev pub is_calm : WorldState → Bool
is_calm w = is_quiet w && is_in_step w

-- a stretch of ticks before others, one with the first of them where that comes right behind it
abbrev pub joined : Span → List Span → List Span
joined span [] = span ∷ []
joined span (next ∷ spans) =
    if next.from == span.to + 1
    then (record { from = span.from; to = next.to }) ∷ spans
    else span ∷ next ∷ spans

-- one tick by itself
abbrev pub one_tick : ℕ → Span
one_tick t = record { from = t; to = t }

-- the longest stretches of ticks at whose ends the network is quiet and in step
abbrev pub calm_spans : List (ℕ × WorldState) → List Span
calm_spans [] = []
calm_spans (end ∷ later) = if is_calm end.1 then joined (one_tick end.0) (calm_spans later) else calm_spans later

-- ---- the moments of a run

abbrev pub moments_of : Plan → List Tick → Moments
moments_of plan ticks =
    record { settled = settled_in plan.streams (ends_of plan ticks); quiet = calm_spans (ends_of plan ticks) }

-- ---- the lines

-- `settled T`
abbrev pub settled_line : ℕ → List ℕ
settled_line tick = whole_of (codes "settled " ∷ decimal tick ∷ codes "\n" ∷ [])

-- `quiet from T to U`
abbrev pub span_line : Span → List ℕ
span_line span = whole_of (
    codes "quiet from " ∷ decimal span.from ∷ codes " to " ∷ decimal span.to ∷ codes "\n" ∷ [])

abbrev pub moments_text : Moments → List ℕ
moments_text moments = settled_line moments.settled ++ flat_map span_line moments.quiet
