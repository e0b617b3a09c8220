-- What each port of a network has booked and has left, which streams it refuses, and the shapers of
-- its classes.
use Rattle.std.specs.Prelude.{ℕ, ◌+◌, ◌==◌, Bool, if◌then◌else◌, List, [], ◌++◌, codes, flat_map, Option, Some, None, option_and_then, is_some, sum_by}
use Rattle.std.specs.{List.list_any, Option.option_map_or}
use Rattle.srp_base.specs.declared.{bandwidth.Class.Class, bandwidth.Class.TheVariants.A, bandwidth.Class.TheVariants.B, bandwidth.Rate.Rate, numbers.EgressPort.EgressPort, numbers.StreamId.StreamId}
use Rattle.stream_importance.specs.declared.{entry.Fit.Fit, entry.Fit.TheVariants.TooLittle, entry.Want.Want, slope.Caps.Caps}
use Rattle.stream_importance.specs.Importance.{class_number}
use Rattle.class_b_bound.specs.Bound.{tight_bound_of}
use Rattle.msrp_talker.specs.TalkerOut.{talker_in}
use Rattle.msrp_codec.specs.declared.pdu.MsrpKey.TheVariants.{Listener}
use Rattle.msrp.specs.{Stream.want_of_talker, Side.talker_of}
use Rattle.topology_file.specs.Plan.{Plan}
use Rattle.topology_file.specs.declared.{entries.LinkEntry.LinkEntry, entries.StreamEntry.StreamEntry}
use Rattle.attribute_propagation.specs.Ports.{place_of}
use Rattle.node_core.specs.State.{NodeState, content_at, fit_of, slope_at}
use Rattle.scenario_bounds.specs.Caps.{caps_of_link, link_at}
use Rattle.world_core.specs.World.{WorldState, node_at, is_quiet, is_in_step}
use Rattle.report_words.specs.{Lines.end_lines, Names.port_name}
use Rattle.tree_topology.specs.Topology.{link_ports}
use Rattle.port_margins.specs.{Cbs.cbs_of, Lines.margin_line, Lines.refused_line, Lines.short_line, Lines.cbs_line, Lines.wait_line, Waits.micros_of}

-- ---- what is booked, and what is left

-- of class A by itself, and of both classes together, whose cap class B has to keep
abbrev pub margin_lines : List ℕ → Caps → ℕ → ℕ → List ℕ
margin_lines port caps class_a class_b =
    margin_line port (codes "A") class_a caps.class_a ++ margin_line port (codes "A+B") (class_a + class_b) caps.both

-- ---- what is refused

-- what a stream's Talker, as it is registered at a node, asks of each other port
abbrev pub asked_of : StreamId → NodeState → Option Want
asked_of stream s = option_and_then want_of_talker (talker_in (talker_of stream s.streams))

-- whether Listeners of a stream are registered at a place, so that somebody goes without it
abbrev pub has_listeners : StreamId → ℕ → NodeState → Bool
has_listeners stream at s = is_some (content_at (Listener stream) at s)

-- the line of a want that doesn't fit, of a stream of this name
abbrev pub fit_line : List ℕ → List ℕ → Bool → Option Want → Option Fit → List ℕ
fit_line port name heard (Some want) (Some (TooLittle more cap code)) = refused_line port name want more cap code heard
fit_line port name heard _ _ = []

-- that of a stream at a place, by the ledger there and at the moment of the node's clock
abbrev pub stream_line : List ℕ → ℕ → NodeState → StreamEntry → List ℕ
stream_line port at s e = fit_line port e.name (has_listeners e.id at s) (asked_of e.id s) (fit_of at e.id s)

-- those of a scenario's streams, in file order
abbrev pub refused_lines : List ℕ → ℕ → NodeState → List StreamEntry → List ℕ
refused_lines port at s streams = flat_map (stream_line port at s) streams

-- ---- what a port is short of

-- a want that doesn't fit
abbrev pub refused_want : Option Want → Option Fit → Option Want
refused_want (Some want) (Some (TooLittle more cap code)) = Some want
refused_want _ _ = None

-- that of a stream at a place
abbrev pub want_at : ℕ → NodeState → StreamEntry → Option Want
want_at at s e = refused_want (asked_of e.id s) (fit_of at e.id s)

-- the slope of a want, if it is of a class
abbrev pub slope_in : Class → Option Want → ℕ
slope_in class None = 0
slope_in class (Some want) = if class_number want.class == class_number class then want.slope else 0

-- the slopes of the scenario's streams of a class that don't fit at a place, together
abbrev pub refused_at : Class → ℕ → NodeState → List StreamEntry → ℕ
refused_at class at s streams = sum_by (λ e. slope_in class (want_at at s e)) streams

-- whether any of them doesn't fit
abbrev pub is_short : ℕ → NodeState → List StreamEntry → Bool
is_short at s streams = list_any (λ e. is_some (want_at at s e)) streams

-- the line of what a port would have booked with what it refuses, by class, where it refuses any
abbrev pub shortage_line : List ℕ → Caps → Bool → ℕ → ℕ → List ℕ
shortage_line port caps short class_a class_b =
    if short then short_line port class_a caps.class_a (class_a + class_b) caps.both else []

-- that of a place, by what its classes have booked
abbrev pub shortage_at : List ℕ → Caps → List StreamEntry → ℕ → NodeState → ℕ → ℕ → List ℕ
shortage_at port caps streams at s class_a class_b =
    shortage_line port caps (is_short at s streams) (class_a + refused_at A at s streams) (class_b + refused_at B at s streams)

-- ---- the shapers

-- the line of a class with a wait that has booked something
abbrev pub shaper_line : List ℕ → List ℕ → Rate → ℕ → ℕ → List ℕ
shaper_line port class rate wait slope = if slope == 0 then [] else cbs_line port class (cbs_of rate wait slope)

-- how long a frame of class B waits at most, by the tight bound of these caps
abbrev pub wait_of : Rate → Caps → ℕ
wait_of rate caps = (tight_bound_of rate caps.class_a caps.both).wait

-- the line of a wait
abbrev pub waits_line : List ℕ → Rate → ℕ → List ℕ
waits_line port rate bits = wait_line port bits (micros_of rate bits)

-- class A waits for one frame of other traffic at most, and class B for that and for what class A
-- has credit for
abbrev pub shaper_lines : List ℕ → Rate → Caps → ℕ → ℕ → List ℕ
shaper_lines port rate caps class_a class_b =
    shaper_line port (codes "A") rate 12336 class_a
    ++ (shaper_line port (codes "B") rate (wait_of rate caps) class_b ++ waits_line port rate (wait_of rate caps))

-- ---- the ports

-- those of what a place refuses, by what its classes have booked
abbrev pub refusals_at : List ℕ → Caps → List StreamEntry → ℕ → NodeState → ℕ → ℕ → List ℕ
refusals_at port caps streams at s class_a class_b =
    refused_lines port at s streams ++ shortage_at port caps streams at s class_a class_b

-- the lines of a place of a port of this rate and these caps, by what its classes have booked
abbrev pub lines_by : List ℕ → Rate → Caps → List StreamEntry → ℕ → NodeState → ℕ → ℕ → List ℕ
lines_by port rate caps streams at s class_a class_b =
    margin_lines port caps class_a class_b
    ++ (refusals_at port caps streams at s class_a class_b ++ shaper_lines port rate caps class_a class_b)

-- those of a place of a node, on this link
abbrev pub place_lines : List ℕ → LinkEntry → List StreamEntry → ℕ → NodeState → List ℕ
place_lines port link streams at s =
    lines_by port link.rate (caps_of_link link) streams at s (slope_at A at s) (slope_at B at s)

-- those of a port that is on a link
abbrev pub lines_on_link : Plan → WorldState → EgressPort → LinkEntry → List ℕ
lines_on_link plan w p link =
    option_map_or (place_lines (port_name plan.nodes w.tree.links p) link plan.streams (place_of p.port)) (node_at p.node w) []

-- those of a port
abbrev pub port_lines : Plan → WorldState → EgressPort → List ℕ
port_lines plan w p = option_map_or (lines_on_link plan w p) (link_at plan p) []

-- those of all ports of a network, link by link, end `a` first, and how the network is
abbrev pub margins_text : Plan → WorldState → List ℕ
margins_text plan w = flat_map (port_lines plan w) (link_ports w.tree) ++ end_lines (is_quiet w) (is_in_step w)
