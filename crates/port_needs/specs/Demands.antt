-- What is wished of a network: who talks a stream, who wishes it, and which ports it leaves by.
use Rattle.std.specs.Prelude.{ℕ, ◌+◌, ◌==◌, Bool, not, ◌&&◌, nat_le, if◌then◌else◌, List, [], ◌∷◌, map, filter, length, is_none, Option, None, option_map}
use Rattle.std.specs.List.{AllByRecursion, cons_option, list_any}
use Rattle.srp_base.specs.declared.{bandwidth.Class.Class, numbers.EgressPort.EgressPort, numbers.NodeNo.NodeNo, streams.Talker.Talker}
use Rattle.stream_importance.specs.declared.entry.Want.{Want}
use Rattle.stream_importance.specs.Bandwidth.{slope_of_frames}
use Rattle.msrp_talker.specs.TalkerOut.{check_of, class_of_priority}
use Rattle.tree_topology.specs.{Topology.Topology, Topology.HasNode, Topology.link_ports, Walk.is_behind}
use Rattle.topology_file.specs.declared.entries.StreamEntry.{StreamEntry}
use Rattle.topology_file.specs.Plan.{Plan}
use Rattle.port_needs.specs.declared.{demand.Demand.Demand, demand.Wish.Wish}
use Rattle.port_needs.specs.Domains.{is_edge}

-- ---- what a stream asks

-- what the Talker of a stream states (IEEE Std 802.1Q-2018, 35.2.2.8)
abbrev pub talker_of_entry : StreamEntry → Talker
talker_of_entry e =
    record {
      stream = e.id;
      dest = e.dest;
      vid = e.vid;
      max_frame = e.octets;
      frames = e.frames;
      priority = e.priority;
      rank = e.rank;
      latency = 0;
    }

-- why every port refuses a stream: 13 where its priority has no SR class, 14 where its frames are
-- too long for the medium (35.2.2.8.7)
abbrev pub code_of_entry : StreamEntry → Option ℕ
code_of_entry e = check_of (talker_of_entry e)

-- the SR class of a stream that some port may serve
abbrev pub class_of_entry : StreamEntry → Option Class
class_of_entry e = if is_none (code_of_entry e) then class_of_priority e.priority else None

-- what a stream of a class wants of a port
abbrev pub want_of_entry : StreamEntry → Class → Want
want_of_entry e class =
    record { stream = e.id; class = class; rank = e.rank; slope = slope_of_frames class e.octets e.frames }

-- ---- the ports of a wish

-- whether the tree has a node of this number
abbrev pub is_node : Topology → ℕ → Bool
is_node tree x = nat_le 1 x && nat_le x (length tree.kinds)

-- whether frames leave by a port on their way from one node to another: the one lies behind the
-- port, and the other doesn't
abbrev pub leads_to : Topology → EgressPort → ℕ → ℕ → Bool
leads_to tree p from to = is_behind tree.links p to && not (is_behind tree.links p from)

-- to one of these nodes
abbrev pub leads_to_any : Topology → EgressPort → ℕ → List NodeNo → Bool
leads_to_any tree p from nodes = list_any (λ y. leads_to tree p from y.0) nodes

-- whether a port at the boundary of a class's domain stands on the way from one node to another
abbrev pub is_barred : Plan → Class → ℕ → ℕ → EgressPort → Bool
is_barred plan class from to p = is_edge plan class p && leads_to plan.tree p from to

-- whether one of these ports does
abbrev pub is_blocked : Plan → List EgressPort → Class → ℕ → ℕ → Bool
is_blocked plan ports class from to = list_any (is_barred plan class from to) ports

-- ---- the wishes of a stream

-- a wish is of the stream of this number, and its station is a node
abbrev pub is_wish_of : Topology → ℕ → Wish → Bool
is_wish_of tree n w = (w.stream == n) && is_node tree w.station.0

-- the stations that wish the stream of a number, counted from 1
abbrev pub stations_of : Topology → List Wish → ℕ → List NodeNo
stations_of tree wishes n = map (λ w. w.station) (filter (is_wish_of tree n) wishes)

-- those of them that no boundary of the class's domain keeps it from
abbrev pub served_of : Plan → List EgressPort → Class → NodeNo → List NodeNo → List NodeNo
served_of plan ports class talker stations =
    filter (λ y. not (is_blocked plan ports class talker.0 y.0)) stations

-- what is wished of a stream of a class: what it wants of each port that it leaves by, from where,
-- and to which stations it may come
abbrev pub demand_in : Plan → List EgressPort → List NodeNo → StreamEntry → Class → Demand
demand_in plan ports stations e class =
    record {
      want = want_of_entry e class;
      talker = e.talker;
      stations = served_of plan ports class e.talker stations;
    }

-- of the stream of a number; nothing where each port refuses it
abbrev pub demand_of : Plan → List EgressPort → List Wish → ℕ → StreamEntry → Option Demand
demand_of plan ports wishes n e =
    option_map (demand_in plan ports (stations_of plan.tree wishes n) e) (class_of_entry e)

-- of streams, the first of which has this number
abbrev pub demands_from : Plan → List EgressPort → List Wish → ℕ → List StreamEntry → List Demand
demands_from plan ports wishes n [] = []
demands_from plan ports wishes n (e ∷ es) =
    cons_option (demand_of plan ports wishes n e) (demands_from plan ports wishes (n + 1) es)

-- of a scenario's streams, in the order of the file
abbrev pub demands : Plan → List Wish → List Demand
demands plan wishes = demands_from plan (link_ports plan.tree) wishes 1 plan.streams

-- ---- what the code knows of them

-- these are nodes of the tree
abbrev pub AreNodes : Topology → List NodeNo → Type 0
AreNodes tree nodes = AllByRecursion (λ y. HasNode tree y.0) nodes

-- the talker and the stations of what is wished are
pub record IsKnownDemand (tree : Topology) (d : Demand) : Type 0 where
  pub talker : HasNode tree d.talker.0
  pub stations : AreNodes tree d.stations

-- ---- what is wished at a port

-- whether a stream leaves by a port to a station that wishes it
abbrev pub is_asked_at : Topology → EgressPort → Demand → Bool
is_asked_at tree p d = leads_to_any tree p d.talker.0 d.stations

-- what the streams that do want there, each once
abbrev pub wants_among : Topology → List Demand → EgressPort → List Want
wants_among tree asked p = map (λ d. d.want) (filter (is_asked_at tree p) asked)

-- what a scenario's streams want at a port for all wishes
abbrev pub wants_at : Plan → List Wish → EgressPort → List Want
wants_at plan wishes p = wants_among plan.tree (demands plan wishes) p
