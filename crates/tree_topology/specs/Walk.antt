-- The walk between two nodes, and what lies behind a port, as functions. The law `the_walk` says
-- that in a tree they are the walk without a repeated node, and the nodes whose walk begins with
-- the port.
use Rattle.std.specs.Prelude.{◌==◌, ℕ, List, [], ◌∷◌, ◌++◌, Bool, false, if◌then◌else◌, count_by}
use Rattle.std.specs.List.{range_with_len}
use Rattle.srp_base.specs.declared.numbers.EgressPort.{EgressPort}
use Rattle.tree_topology.specs.declared.graph.Link.{Link}
use Rattle.tree_topology.specs.Ports.{far_node, egress_ports}

-- a node that stands for all that are connected with this one: a link makes two such sets one
abbrev pub component : List Link → ℕ → ℕ
component [] x = x
component (l ∷ links) x =
    if component links x == component links l.b.0 then component links l.a.0 else component links x

-- the walk between two nodes: over the first link where the others don't connect them
abbrev pub walk_between : List Link → ℕ → ℕ → List ℕ
walk_between [] x y = []
walk_between (l ∷ links) x y =
    if component links x == component links y then walk_between links x y
    else (if component links x == component links l.a.0
    then walk_between links x l.a.0 ++ (l.b.0 ∷ walk_between links l.b.0 y)
    else walk_between links x l.b.0 ++ (l.a.0 ∷ walk_between links l.a.0 y))

-- the egress ports from one node to another, in order
abbrev pub path_between : List Link → ℕ → ℕ → List EgressPort
path_between links x y = egress_ports links x (walk_between links x y)

-- whether a walk begins with this node
abbrev pub begins_with : ℕ → List ℕ → Bool
begins_with v [] = false
begins_with v (u ∷ walk) = u == v

-- whether a node lies behind a port
abbrev pub is_behind : List Link → EgressPort → ℕ → Bool
is_behind links p y = begins_with (far_node links p) (walk_between links p.node.0 y)

-- how many nodes lie behind a port
abbrev pub count_behind : ℕ → List Link → EgressPort → ℕ
count_behind count links p = count_by (λ y. is_behind links p y) (range_with_len 1 count)
