-- The nodes of a file's network are new ones of its tree.
use Rattle.std.proofs.Common.{◌≡◌, ℕ, zero, suc, ◌+◌, ◌-◌, ◌*◌, Bool, true, false, if◌then◌else◌, List, [], ◌∷◌, ◌++◌, length, refl, sym, ap, subst, ◌∙◌, arith}
use Rattle.std.specs.Prelude.{◌<◌, slice_get, Some, ◌==◌}
use Rattle.std.specs.{List.AllByRecursion}
use Rattle.std.proofs.lemmas.{List.length-map, Option.slice_get_within}
use Rattle.srp_base.proofs.Lists.{within}
use Rattle.srp_base.specs.declared.{numbers.Cs.Cs, ports.PortSetup.PortSetup}
use Rattle.tree_topology.specs.{Topology.Topology, Topology.IsSound, Ports.neighbours}
use Rattle.topology_file.specs.declared.{entries.NodeEntry.NodeEntry, entries.LinkEntry.LinkEntry}
use Rattle.topology_file.specs.{Network.KeepsNetworkRules, Scenario.tree_links}
use Rattle.mrp_participant.specs.State.{IsTime, new_state}
use Rattle.flat_side.specs.Side.{new_flat}
use Rattle.topology_file.proofs.EntryLemmas.{one_end}
use Rattle.link_node.specs.State.{new_node as node_with}
use Rattle.mmrp.specs.{NodeGroups, new_node, period_of, setup_of, setups_from, nodes_from, group_meaning, group_words}
use Rattle.link_net.specs.Kept.{AreNew}

-- a port for each link of the node
pub ports_length : (n x : ℕ) (links : List LinkEntry) → length (setups_from n x links) ≡ length (neighbours (tree_links links) x)
ports_length n x [] = refl
ports_length n x (l ∷ links) = one_end x l (setup_of (2 * n - 1) l) (setup_of (2 * n) l) (setups_from (n + 1) x links) (neighbours (tree_links links) x) (ports_length (n + 1) x links)

module _ (leave_time : Cs) (periodic : Bool) (links : List LinkEntry) where
  -- the node at a place is a new one
  record IsNewFrom (first x : ℕ) (s : NodeGroups) : Type 0 where
    number : ℕ
    number_is : number ≡ first + x
    is : s ≡ new_node leave_time periodic (setups_from 1 number links)

  new_at : (entries : List NodeEntry) (first x : ℕ) (s : NodeGroups) → slice_get (nodes_from leave_time periodic links first entries) x ≡ Some s → IsNewFrom first x s
  new_at [] first x s get = cc
  new_at (n ∷ entries) first zero s get = record { number = first; number_is = omega arith; is = cc }
  new_at (n ∷ entries) first (suc x) s get =
      let later = new_at entries (first + 1) x s get in
      let place = later.number_is in
      record { number = later.number; number_is = omega (arith, place); is = later.is }

  nodes_length : (first : ℕ) (entries : List NodeEntry) → length (nodes_from leave_time periodic links first entries) ≡ length entries
  nodes_length first [] = refl
  nodes_length first (n ∷ entries) = ap suc (nodes_length (first + 1) entries)

-- the nodes of a file's network are new ones of its tree
pub new_nodes : (ticks : ℕ) (tree : Topology) (leave_time : Cs) (periodic : Bool) (nodes : List NodeEntry) (links : List LinkEntry)
    → KeepsNetworkRules ticks leave_time.0 tree nodes links → AreNew group_meaning tree (nodes_from leave_time periodic links 1 nodes)
new_nodes ticks tree leave_time periodic nodes links rules =
    record {
      sound = subst IsSound (sym rules.is_tree) rules.accepted;
      many = count;
      new = λ x s get.
          let new = new_at leave_time periodic links nodes 1 x s get in
          let setups : List PortSetup = setups_from 1 new.number links in
          let place : new.number ≡ x + 1 = (let is = new.number_is in omega (arith, is)) in
          let below : x < length tree.kinds = (let within = slice_get_within (nodes_from leave_time periodic links 1 nodes) x s get in omega (arith, within, count)) in
          let kind = within tree.kinds x below in
          record {
            kind = kind.0;
            kind_is = kind.1;
            ports = ap (λ (t : NodeGroups). length t.app.parts) new.is
                ∙ (length-map setups (λ (p : PortSetup). new_state p.period leave_time periodic)
                ∙ (ports_length 1 new.number links ∙ (ap (λ (k : ℕ). length (neighbours (tree_links links) k)) place ∙ ap (λ (t : Topology). length (neighbours t.links (x + 1))) (sym rules.is_tree))));
            new = (
                let app : s.app ≡ new_flat leave_time periodic setups = ap (λ (t : NodeGroups). t.app) new.is in
                record {
                  app = record { leave_time = leave_time; periodic = periodic; ports = setups; is_new = app };
                  none = new.is ∙ ap (node_with group_words) (sym app);
                }
                );
          };
    }
  where
    count : length (nodes_from leave_time periodic links 1 nodes) ≡ length tree.kinds
    count = nodes_length leave_time periodic links 1 nodes ∙ (sym (length-map nodes (λ (n : NodeEntry). n.kind)) ∙ ap (λ (t : Topology). length t.kinds) (sym rules.is_tree))

-- ---- what a new node asks of its ports

-- a LeaveAll period is a time
is_period : (n : ℕ) → IsTime (period_of n)
is_period n = (omega arith, omega arith)

pub have_periods : (n x : ℕ) (links : List LinkEntry) → AllByRecursion (λ p. IsTime p.period) (setups_from n x links)
have_periods n x [] = tt
have_periods n x (l ∷ links) = by (l.a.0 == x) (l.b.0 == x) (have_periods (n + 1) x links)
  where
    by : (a b : Bool) → AllByRecursion (λ (p : PortSetup). IsTime p.period) (setups_from (n + 1) x links)
        → AllByRecursion (λ (p : PortSetup). IsTime p.period) ((if a then setup_of (2 * n - 1) l ∷ [] else if b then setup_of (2 * n) l ∷ [] else []) ++ setups_from (n + 1) x links)
    by true b all = (is_period (2 * n - 1), all)
    by false true all = (is_period (2 * n), all)
    by false false all = all
