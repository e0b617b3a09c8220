-- What a node answers in a tick: which steps it makes, and that the numbers of their answers are small.
use Rattle.std.proofs.Common.{◌≡◌, ℕ, zero, suc, ◌-◌, ◌<◌, ◌≤◌, ◌^◌, Bool, true, false, List, [], ◌∷◌, ◌++◌, length, map, refl, subst, arith}
use Rattle.std.specs.Prelude.{if◌then◌else◌, slice_set, Option, Some, None, Result, Ok, Err}
use Rattle.std.specs.{Option.option_map_or, List.AllByRecursion, List.range_with_len}
use Rattle.std.proofs.Math.Nat.{min-le_right}
use Rattle.srp_base.proofs.Lists.{each_append}
use Rattle.srp_base.specs.declared.{numbers.NodeNo.NodeNo, numbers.PortNo.PortNo, mrp.App.App, mrp.App.TheVariants.Mvrp, mrp.App.TheVariants.Msrp}
use Rattle.tree_topology.specs.Topology.{Topology}
use Rattle.attribute_propagation.specs.Ports.{count_of, place_of}
use Rattle.mvrp_codec.specs.declared.pdu.MvrpPdu.{MvrpPdu}
use Rattle.mvrp_codec.specs.Meaning.{mvrp_reading}
use Rattle.msrp_codec.specs.declared.pdu.MsrpPdu.{MsrpPdu}
use Rattle.msrp_codec.specs.Meaning.{msrp_reading}
use Rattle.node_core.specs.declared.{types.Wire.Wire, types.PortStep.PortStep, types.StepReply.StepReply}
use Rattle.node_core.specs.declared.types.NodeEvent.TheVariants as node_events
use Rattle.node_core.specs.declared.types.PortStep.TheVariants.{Work, LeaveNow, LeaveAllNow, PeriodicNow, Due, Settle, Send}
use Rattle.node_core.specs.declared.types.StepReply.TheVariants.{Nothing, Discarded, Received, Fired, Settled, Silent, Sent, Taken}
use Rattle.node_core.specs.{Wires.AreShort, State.NodeState, State.ports_of, State.box_at, State.works, State.job_list, State.is_busy_node, State.is_sending_time, Step.worked_mvrp, Step.worked_msrp, Step.worked_app, Step.after_work, Step.sent_octets, Step.octets_to_say, Step.port_step, Step.node_step, Step.all_due, Step.all_awaiting, Links.IsKeptNode}
use Rattle.world_core.specs.declared.{events.WorldEvent.TheVariants.Port, events.WorldReply.TheVariants.Step, events.WorldReply.TheVariants.Missed}
use Rattle.world_core.specs.{World.WorldState, World.node_at, World.after_step, World.world_step, During.IsDuring, OneByOne.node_jobs}

-- ---- which steps

-- a step that a tick may have
abbrev pub IsJob : PortStep → Type 0
IsJob Work = Unit {0}
IsJob (LeaveNow key) = ⊥
IsJob (LeaveAllNow app) = ⊥
IsJob (PeriodicNow app) = ⊥
IsJob Due = Unit {0}
IsJob Settle = Unit {0}
IsJob (Send app) = Unit {0}

abbrev pub AreJobs : List PortStep → Type 0
AreJobs steps = AllByRecursion IsJob steps

works_are : (wires : List Wire) → AreJobs (works wires)
works_are [] = tt
works_are (wire ∷ wires) = (tt, works_are wires)

jobs_are : (at : ℕ) (s : NodeState) → AreJobs (job_list at s)
jobs_are at s =
    each_append IsJob (if is_busy_node s then works (box_at at s.inboxes) ++ (Due ∷ Settle ∷ []) else []) (if is_sending_time s.clock then Send Mvrp ∷ Send Msrp ∷ [] else [])
    (busy (is_busy_node s)) (sending (is_sending_time s.clock))
  where
    busy : (b : Bool) → AreJobs (if b then works (box_at at s.inboxes) ++ (Due ∷ Settle ∷ []) else [])
    busy true = each_append IsJob (works (box_at at s.inboxes)) (Due ∷ Settle ∷ []) (works_are (box_at at s.inboxes)) (tt, (tt, tt))
    busy false = tt

    sending : (b : Bool) → AreJobs (if b then Send Mvrp ∷ Send Msrp ∷ [] else [])
    sending true = (tt, (tt, tt))
    sending false = tt

lists_are : (s : NodeState) (places : List ℕ) → AllByRecursion AreJobs (map (λ at. job_list at s) places)
lists_are s [] = tt
lists_are s (at ∷ places) = (jobs_are at s, lists_are s places)

-- each of a node's ports has such steps alone to make
pub node_jobs_are : (n : NodeNo) (w : WorldState) → AllByRecursion AreJobs (node_jobs n w)
node_jobs_are n w = by (node_at n w)
  where
    by : (o : Option NodeState) → AllByRecursion AreJobs (option_map_or (λ (s : NodeState). map (λ at. job_list at s) (range_with_len 0 (ports_of s))) o [])
    by None = tt
    by (Some s) = lists_are s (range_with_len 0 (ports_of s))

pub each_set : {X : Type 0} (P : X → Type 0) (xs : List X) (i : ℕ) (x : X) → AllByRecursion P xs → P x → AllByRecursion P (slice_set xs i x)
each_set P [] i x h k = tt
each_set P (y ∷ xs) zero x h k = (k, h.1)
each_set P (y ∷ xs) (suc i) x h k = (h.0, each_set P xs i x h.1 k)

-- ---- their answers

-- the number of an answer is small, and a step of a port isn't answered as a request
abbrev pub IsTold : StepReply → Type 0
IsTold Nothing = Unit {0}
IsTold (Discarded n) = n < 2 ^ 64
IsTold (Received n) = n < 2 ^ 64
IsTold (Fired n) = n < 2 ^ 64
IsTold (Settled n) = n < 2 ^ 64
IsTold Silent = Unit {0}
IsTold (Sent n) = n < 2 ^ 64
IsTold Taken = ⊥

count_small : (n : ℕ) → count_of n < 2 ^ 64
count_small n = let upto = min-le_right n 4294967295 in omega (arith, upto)

short_at : (boxes : List (List Wire)) (at : ℕ) → AllByRecursion AreShort boxes → AreShort (box_at at boxes)
short_at [] at h = tt
short_at (box ∷ boxes) zero h = h.0
short_at (box ∷ boxes) (suc at) h = short_at boxes at h.1

module _ (vlans : (octets : List ℕ) (place : ℕ) → mvrp_reading octets ≡ Err place → place ≤ length octets)
    (streams : (octets : List ℕ) (place : ℕ) → msrp_reading octets ≡ Err place → place ≤ length octets) where
  worked_told : (app : App) (at : ℕ) (octets : List ℕ) (s : NodeState) → length octets ≤ 1500 → IsTold (worked_app app at octets s).1
  worked_told Mvrp at octets s short = by (mvrp_reading octets) refl
    where
      by : (r : Result MvrpPdu ℕ) → mvrp_reading octets ≡ r → IsTold (worked_mvrp s.clock at r s.vlans).1
      by (Ok pdu) e = count_small (length pdu.events)
      by (Err place) e = let within = vlans octets place e in omega (arith, within, short)
  worked_told Msrp at octets s short = by (msrp_reading octets) refl
    where
      by : (r : Result MsrpPdu ℕ) → msrp_reading octets ≡ r → IsTold (worked_msrp s.clock at r s.streams).1
      by (Ok pdu) e = count_small (length pdu.events)
      by (Err place) e = let within = streams octets place e in omega (arith, within, short)

  work_told : (at : ℕ) (wires : List Wire) (s : NodeState) → AreShort wires → IsTold (after_work at wires s).1
  work_told at [] s short = tt
  work_told at (wire ∷ wires) s short = worked_told wire.app at wire.octets (record s { inboxes = slice_set s.inboxes at wires }) short.0

  send_told : (app : App) (at : ℕ) (octets : Option (List ℕ)) (s : NodeState) → IsTold (sent_octets app at octets s).1
  send_told app at None s = tt
  send_told app at (Some octets) s = count_small (length octets)

  step_told : (step : PortStep) (at : ℕ) (s : NodeState) → IsJob step → IsKeptNode s → IsTold (port_step step at s).1
  step_told Work at s job kept = work_told at (box_at at s.inboxes) s (short_at s.inboxes at kept.short_in)
  step_told Due at s job kept = count_small (all_due s.clock at s.vlans s.streams)
  step_told Settle at s job kept = count_small (all_awaiting at s.vlans s.streams)
  step_told (Send app) at s job kept = send_told app at (octets_to_say app at s) s
  step_told (LeaveNow key) at s job kept = absurd job
  step_told (LeaveAllNow app) at s job kept = absurd job
  step_told (PeriodicNow app) at s job kept = absurd job

  -- the answer of a job of a tick
  pub reply_told : (tree : Topology) (t : ℕ) (n : NodeNo) (w : WorldState) (port : PortNo) (step : PortStep) (reply : StepReply) → IsDuring tree t w → IsJob step
      → (world_step (Port n port step) w).1 ≡ Step reply → IsTold reply
  reply_told tree t n w port step reply run job e = by (node_at n w) refl e
    where
      by : (o : Option NodeState) → node_at n w ≡ o → (option_map_or (λ (s : NodeState). after_step n (node_step (node_events.Port port step) s) w) o (w, Missed)).1 ≡ Step reply → IsTold reply
      by None at is = let none : Missed ≡ Step reply = is in cc
      by (Some s) at is =
          let some : Step (port_step step (place_of port) s).1 ≡ Step reply = is in
          let same : (port_step step (place_of port) s).1 ≡ reply = cc in
          subst IsTold same (step_told step (place_of port) s job (run.kept.nodes (n.0 - 1) s at).kept.kept)
