-- What is printed of the frames at a port: how many copies came to which fate, and each that
-- departed.
use Rattle.std.specs.Prelude.{ℕ, ◌==◌, Bool, true, false, nat_le, if◌then◌else◌, List, [], ◌∷◌, ◌++◌, codes, length, filter, filter_map, flat_map, Option, Some, None}
use Rattle.std.specs.Fmt.{decimal}
use Rattle.srp_base.specs.Text.{whole_of}
use Rattle.tree_topology.specs.declared.graph.Link.{Link}
use Rattle.topology_file.specs.Plan.{Plan}
use Rattle.frame_flow.specs.declared.{result.Fate.Fate, result.PortFlow.PortFlow}
use Rattle.frame_flow.specs.declared.result.Fate.TheVariants.{Unbooked, NoVlan, Departed, Left}
use Rattle.report_words.specs.Names.{port_name}
use Rattle.srp_report.specs.declared.departures.SentFrame.{SentFrame}

-- ---- the fates

-- whether the port sends the copy
abbrev pub is_departed : Fate → Bool
is_departed (Departed start end) = true
is_departed _ = false

-- whether the port drops the copy as it hasn't booked the copy's stream
abbrev pub is_unbooked_fate : Fate → Bool
is_unbooked_fate Unbooked = true
is_unbooked_fate _ = false

-- whether the port drops the copy as the copy's VID isn't registered there
abbrev pub is_novlan : Fate → Bool
is_novlan NoVlan = true
is_novlan _ = false

-- whether the copy hasn't started at the run's end
abbrev pub is_left : Fate → Bool
is_left Left = true
is_left _ = false

-- how many copies have a fate that a test passes
abbrev pub fates_count : (Fate → Bool) → List (ℕ × Fate) → ℕ
fates_count test fates = length (filter (λ e. test e.1) fates)

-- ---- the departures

-- a copy with its start and its end, where it departs
abbrev pub sent_frame : ℕ → Fate → Option SentFrame
sent_frame number (Departed start end) = Some (record { frame = number; start = start; end = end })
sent_frame number _ = None

-- those of a port's copies that depart, in the order of their arrival
abbrev pub sent_frames : List (ℕ × Fate) → List SentFrame
sent_frames fates = filter_map (λ e. sent_frame e.0 e.1) fates

-- a departure before the first that doesn't start earlier
abbrev pub with_sent : SentFrame → List SentFrame → List SentFrame
with_sent d [] = d ∷ []
with_sent d (e ∷ ds) = if nat_le d.start e.start then d ∷ e ∷ ds else e ∷ with_sent d ds

-- the departures ascending by start
abbrev pub by_start : List SentFrame → List SentFrame
by_start [] = []
by_start (d ∷ ds) = with_sent d (by_start ds)

-- ---- the lines

-- `frames P departed N unbooked N novlan N left N`
abbrev pub frames_line : List ℕ → List (ℕ × Fate) → List ℕ
frames_line port fates = whole_of (
    codes "frames " ∷ port ∷ codes " departed " ∷ decimal (fates_count is_departed fates)
    ∷ codes " unbooked " ∷ decimal (fates_count is_unbooked_fate fates)
    ∷ codes " novlan " ∷ decimal (fates_count is_novlan fates)
    ∷ codes " left " ∷ decimal (fates_count is_left fates) ∷ codes "\n" ∷ [])

-- `depart P frame F start S end E`, in bit times of the port from the run's start
abbrev pub depart_line : List ℕ → SentFrame → List ℕ
depart_line port d = whole_of (
    codes "depart " ∷ port ∷ codes " frame " ∷ decimal d.frame ∷ codes " start " ∷ decimal d.start
    ∷ codes " end " ∷ decimal d.end ∷ codes "\n" ∷ [])

-- the lines of a port
abbrev pub fates_lines : List ℕ → List (ℕ × Fate) → List ℕ
fates_lines port fates = frames_line port fates ++ flat_map (depart_line port) (by_start (sent_frames fates))

-- the lines of a port's flow, with the port by its name
abbrev pub flow_part : Plan → List Link → PortFlow → List ℕ
flow_part plan links flow = fates_lines (port_name plan.nodes links flow.at) flow.fates

-- those of all ports, in the order of their flows, where the scenario has frames
abbrev pub flow_parts : Plan → List Link → List PortFlow → List ℕ
flow_parts plan links flows =
    if length plan.frames == 0 then [] else flat_map (flow_part plan links) flows
