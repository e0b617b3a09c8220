-- A scenario is made of its parts.
use Rattle.std.proofs.Common.{◌≡◌, ℕ, Bool, false, codes, List, [], Option, Some, None, Result, Ok, Err, IfSome, refl, sym, ap, ◌∙◌}
use Rattle.srp_base.specs.{Firsts.first_where, Results.◌>>=◌}
use Rattle.toml.specs.Data.{Members}
use Rattle.toml_rules.specs.declared.rules.RuleErr.{RuleErr}
use Rattle.toml_rules.specs.{Fields.truth_or, Fields.tables, Fields.has_only, Rules.needs, Rules.holds, Rules.no_entry}
use Rattle.topology_file.specs.declared.network.Network.{Network}
use Rattle.topology_file.specs.{Traffic, network_of, traffic_of, entries_plan, nodes_of, links_of, tree_of, is_crowded, streams_of, events_of, frames_of, file_keys, ticks_at, leave_time_at, plan_of, scenario_of}
use Rattle.topology_file.specs.Plan.{Plan}

then-assoc : {A B C : Type 0} (r : Result A RuleErr) (f : A → Result B RuleErr) (g : B → Result C RuleErr)
    → ((r >>= f) >>= g) ≡ (r >>= (λ x. f x >>= g))
then-assoc (Ok x) f g = refl
then-assoc (Err e) f g = refl

then-same : {A B : Type 0} (r : Result A RuleErr) (f g : A → Result B RuleErr)
    → ((x : A) → f x ≡ g x) → (r >>= f) ≡ (r >>= g)
then-same (Ok x) f g h = h x
then-same (Err e) f g h = refl

-- the scenario of a network and of what happens in it
abbrev pub plan_with : ℕ → ℕ → Bool → Bool → Network → Traffic → Plan
plan_with ticks leave_time periodic domains n t = record {
  ticks = ticks;
  leave_time = record { 0 = leave_time };
  periodic = periodic;
  domains = domains;
  tree = n.tree;
  nodes = n.nodes;
  links = n.links;
  streams = t.streams;
  events = t.events;
  frames = t.frames;
}

-- what is made of the first of four readings in a row, and of three more
in-fours : {A B C D Z Y : Type 0} (a : Result A RuleErr) (b : A → Result B RuleErr) (c : A → B → Result C RuleErr) (d : A → B → C → Result D RuleErr) (e : A → B → C → Z) (g : Z → Result Y RuleErr)
    → ((a >>= (λ x. b x >>= (λ y. c x y >>= (λ z. d x y z >>= (λ _. Ok (e x y z)))))) >>= g) ≡ (a >>= (λ x. b x >>= (λ y. c x y >>= (λ z. d x y z >>= (λ _. g (e x y z))))))
in-fours a b c d e g =
    then-assoc a (λ x. b x >>= (λ y. c x y >>= (λ z. d x y z >>= (λ _. Ok (e x y z))))) g
    ∙ then-same a _ _ (λ x. then-assoc (b x) (λ y. c x y >>= (λ z. d x y z >>= (λ _. Ok (e x y z)))) g
    ∙ then-same (b x) _ _ (λ y. then-assoc (c x y) (λ z. d x y z >>= (λ _. Ok (e x y z))) g
    ∙ then-same (c x y) _ _ (λ z. then-assoc (d x y z) (λ _. Ok (e x y z)) g)))

in-threes : {A B C Z Y : Type 0} (a : Result A RuleErr) (b : A → Result B RuleErr) (c : A → B → Result C RuleErr) (e : A → B → C → Z) (g : Z → Result Y RuleErr)
    → ((a >>= (λ x. b x >>= (λ y. c x y >>= (λ z. Ok (e x y z))))) >>= g) ≡ (a >>= (λ x. b x >>= (λ y. c x y >>= (λ z. g (e x y z)))))
in-threes a b c e g =
    then-assoc a (λ x. b x >>= (λ y. c x y >>= (λ z. Ok (e x y z)))) g
    ∙ then-same a _ _ (λ x. then-assoc (b x) (λ y. c x y >>= (λ z. Ok (e x y z))) g
    ∙ then-same (b x) _ _ (λ y. then-assoc (c x y) (λ z. Ok (e x y z)) g))

-- what is made of a network: it is read on, and the scenario is of both
abbrev rest_of : ℕ → ℕ → Bool → Bool → List Members → List Members → List Members → Network → Result Plan RuleErr
rest_of ticks leave_time periodic domains stream_tables event_tables frame_tables n =
    traffic_of ticks n.nodes n.links stream_tables event_tables frame_tables >>= (λ t. Ok (plan_with ticks leave_time periodic domains n t))

parts-plan : (ticks leave_time : ℕ) (periodic domains : Bool) (node_tables link_tables stream_tables event_tables frame_tables : List Members)
    → (network_of ticks domains node_tables link_tables >>= rest_of ticks leave_time periodic domains stream_tables event_tables frame_tables)
    ≡ plan_of ticks leave_time periodic domains node_tables link_tables stream_tables event_tables frame_tables
parts-plan ticks leave_time periodic domains node_tables link_tables stream_tables event_tables frame_tables =
    in-fours (nodes_of ticks domains node_tables) (λ nodes. links_of nodes link_tables) (λ nodes links. tree_of nodes links)
    (λ nodes links tree. no_entry 15 (first_where (is_crowded tree.links) [] nodes)) (λ nodes links tree. record { tree = tree; nodes = nodes; links = links })
    (rest_of ticks leave_time periodic domains stream_tables event_tables frame_tables)
    ∙ then-same (nodes_of ticks domains node_tables) _ _
    (λ nodes. then-same (links_of nodes link_tables) _ _
    (λ links. then-same (tree_of nodes links) _ _ (λ tree. then-same (no_entry 15 (first_where (is_crowded tree.links) [] nodes)) _ _ (λ _.
    in-threes (streams_of nodes stream_tables) (λ streams. events_of ticks nodes links streams event_tables)
    (λ streams events. frames_of ticks nodes streams frame_tables) (λ streams events frames. record { streams = streams; events = events; frames = frames })
    (λ t. Ok (plan_with ticks leave_time periodic domains (record { tree = tree; nodes = nodes; links = links }) t))))))

-- where the network breaks a rule, so does the scenario
pub network-breaks : (ticks leave_time : ℕ) (periodic domains : Bool) (node_tables link_tables stream_tables event_tables frame_tables : List Members) (broken : Option RuleErr)
    → IfSome broken (λ e. network_of ticks domains node_tables link_tables ≡ Err e)
    → IfSome broken (λ e. plan_of ticks leave_time periodic domains node_tables link_tables stream_tables event_tables frame_tables ≡ Err e)
network-breaks ticks leave_time periodic domains node_tables link_tables stream_tables event_tables frame_tables None h = tt
network-breaks ticks leave_time periodic domains node_tables link_tables stream_tables event_tables frame_tables (Some e) h =
    sym (parts-plan ticks leave_time periodic domains node_tables link_tables stream_tables event_tables frame_tables)
    ∙ ap (λ (r : Result Network RuleErr). r >>= rest_of ticks leave_time periodic domains stream_tables event_tables frame_tables) h

-- where what happens in it breaks one, so does the scenario
pub traffic-breaks : (ticks leave_time : ℕ) (periodic domains : Bool) (node_tables link_tables stream_tables event_tables frame_tables : List Members) (n : Network) (broken : Option RuleErr)
    → network_of ticks domains node_tables link_tables ≡ Ok n
    → IfSome broken (λ e. traffic_of ticks n.nodes n.links stream_tables event_tables frame_tables ≡ Err e)
    → IfSome broken (λ e. plan_of ticks leave_time periodic domains node_tables link_tables stream_tables event_tables frame_tables ≡ Err e)
traffic-breaks ticks leave_time periodic domains node_tables link_tables stream_tables event_tables frame_tables n None h k = tt
traffic-breaks ticks leave_time periodic domains node_tables link_tables stream_tables event_tables frame_tables n (Some e) h k =
    sym (parts-plan ticks leave_time periodic domains node_tables link_tables stream_tables event_tables frame_tables)
    ∙ ap (λ (r : Result Network RuleErr). r >>= rest_of ticks leave_time periodic domains stream_tables event_tables frame_tables) h
    ∙ ap (λ (r : Result Traffic RuleErr). r >>= (λ t. Ok (plan_with ticks leave_time periodic domains n t))) k

-- both make the scenario
pub parts-make : (ticks leave_time : ℕ) (periodic domains : Bool) (node_tables link_tables stream_tables event_tables frame_tables : List Members) (n : Network) (t : Traffic)
    → network_of ticks domains node_tables link_tables ≡ Ok n → traffic_of ticks n.nodes n.links stream_tables event_tables frame_tables ≡ Ok t
    → plan_of ticks leave_time periodic domains node_tables link_tables stream_tables event_tables frame_tables ≡ Ok (plan_with ticks leave_time periodic domains n t)
parts-make ticks leave_time periodic domains node_tables link_tables stream_tables event_tables frame_tables n t h k =
    sym (parts-plan ticks leave_time periodic domains node_tables link_tables stream_tables event_tables frame_tables)
    ∙ ap (λ (r : Result Network RuleErr). r >>= rest_of ticks leave_time periodic domains stream_tables event_tables frame_tables) h
    ∙ ap (λ (r : Result Traffic RuleErr). r >>= (λ t. Ok (plan_with ticks leave_time periodic domains n t))) k

in-twos : {A B Z Y : Type 0} (a : Result A RuleErr) (b : Result B RuleErr) (e : A → B → Z) (g : Z → Result Y RuleErr)
    → ((a >>= (λ x. b >>= (λ y. Ok (e x y)))) >>= g) ≡ (a >>= (λ x. b >>= (λ y. g (e x y))))
in-twos a b e g =
    then-assoc a (λ x. b >>= (λ y. Ok (e x y))) g ∙ then-same a _ _ (λ x. then-assoc b (λ y. Ok (e x y)) g)

-- what follows the rule on a file's keys
abbrev after_keys : ℕ → Members → Result Plan RuleErr
after_keys ticks ms = do
  node_tables ← needs 2 (tables (codes "node") ms)
  link_tables ← needs 2 (tables (codes "link") ms)
  stream_tables ← needs 2 (tables (codes "stream") ms)
  event_tables ← needs 2 (tables (codes "event") ms)
  frame_tables ← needs 2 (tables (codes "frame") ms)
  leave_time ← needs 3 (leave_time_at ms)
  periodic ← needs 3 (truth_or (codes "periodic") false ms)
  domains ← needs 3 (truth_or (codes "domains") false ms)
  plan_of ticks leave_time periodic domains node_tables link_tables stream_tables event_tables frame_tables

entries-after : (ticks : ℕ) (ms : Members) → entries_plan ticks ms ≡ after_keys ticks ms
entries-after ticks ms =
    then-same (needs 2 (tables (codes "node") ms)) _ _ (λ node_tables. then-same (needs 2 (tables (codes "link") ms)) _ _ (λ link_tables.
    then-same (needs 2 (tables (codes "stream") ms)) _ _ (λ stream_tables. then-same (needs 2 (tables (codes "event") ms)) _ _ (λ event_tables.
    then-same (needs 2 (tables (codes "frame") ms)) _ _ (λ frame_tables.
    in-twos (needs 3 (leave_time_at ms)) (needs 3 (truth_or (codes "periodic") false ms))
    (λ leave_time periodic. record { ticks = ticks; leave_time = leave_time; periodic = periodic })
    (λ times. needs 3 (truth_or (codes "domains") false ms) >>=
    (λ domains. plan_of times.ticks times.leave_time times.periodic domains node_tables link_tables stream_tables event_tables frame_tables)))))))

-- where the ticks are read and the keys are known, the scenario is that of the entries
pub scenario-entries : (ticks : ℕ) (ms : Members) → needs 1 (ticks_at ms) ≡ Ok ticks → holds 2 (has_only file_keys ms) ≡ Ok tt
    → entries_plan ticks ms ≡ scenario_of ms
scenario-entries ticks ms e f =
    entries-after ticks ms
    ∙ sym (ap (λ (r : Result (Unit {0}) RuleErr). r >>= (λ _. after_keys ticks ms)) f)
    ∙ sym (ap (λ (r : Result ℕ RuleErr). r >>= (λ t. holds 2 (has_only file_keys ms) >>= (λ _. after_keys t ms))) e)
