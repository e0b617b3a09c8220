-- The rules on links and nodes, and what the tree refuses.
use Rattle.std.proofs.Common.{◌≡◌, ℕ, ◌+◌, ◌*◌, ◌<◌, ◌≤◌, Bool, false, if◌then◌else◌, List, [], ◌∷◌, ◌++◌, Option, Some, None, Result, Ok, Err, IfSome, refl, sym, ap, ◌∙◌, length, take, drop, mul-le-mul, arith}
use Rattle.std.proofs.lemmas.{Bool.Decides.nat_tests, List.length-take-le, List.Elements.All-head, List.Elements.All-tail}
use Rattle.std.specs.List.{All}
use Rattle.std.specs.Prelude.{nat_lt}
use Rattle.srp_base.proofs.Arithmetic.{lt-true, lt-false}
use Rattle.srp_base.specs.{Firsts.first_where, Results.◌>>=◌}
use Rattle.srp_base.proofs.FirstLemmas.{where-here, where-later}
use Rattle.toml_rules.specs.declared.{rules.RuleErr.RuleErr, rules.RuleErr.TheVariants.Rule, rules.RuleErr.TheVariants.NoMemory as no_memory}
use Rattle.toml_rules.specs.Rules.{no_entry, fails_at, broken_rule}
use Rattle.tree_topology.specs.{Topology.Topology, Graph.IsNode, Ports.neighbours, Refusal.has_unknown_end, Refusal.is_self_link, Refusal.is_second_link, Refusal.refused_or, Refusal.refusal}
use Rattle.tree_topology.specs.declared.{graph.Link.Link, graph.NodeKind.NodeKind, graph.TreeErr.TreeErr}
use Rattle.tree_topology.specs.declared.graph.TreeErr.TheVariants.{UnknownNode, SelfLink, SecondLink}
use Rattle.topology_file.specs.{NodeEntry, LinkEntry, ends_of_entry, tree_links, is_crowded, proper_ends, unless_refused}
use Rattle.topology_file.proofs.Chains.{an_element}

-- ---- what is refused

known-end : (count : ℕ) (earlier : List Link) (l : Link) → IsNode count l.a.0 → IsNode count l.b.0 → has_unknown_end count earlier l ≡ false
known-end count earlier l a b =
    let a0 : 1 ≤ l.a.0 = a.0 in
    let a1 : l.a.0 ≤ count = a.1 in
    let b0 : 1 ≤ l.b.0 = b.0 in
    let b1 : l.b.0 ≤ count = b.1 in
    grind (arith, nat_tests)

known-from : (count : ℕ) (earlier : List Link) (links : List LinkEntry) → All (λ l. IsNode count l.a.0 × IsNode count l.b.0) links
    → first_where (has_unknown_end count) earlier (tree_links links) ≡ None
known-from count earlier [] h = refl
known-from count earlier (l ∷ links) h =
    let K : LinkEntry → Type 0 = λ l. IsNode count l.a.0 × IsNode count l.b.0 in
    let here = All-head K l links h in
    let ends = ends_of_entry l in
    ap (λ (b : Bool). (if b then Some (length earlier + 1) else first_where (has_unknown_end count) (earlier ++ ends ∷ []) (tree_links links))) (known-end count earlier ends here.0 here.1)
    ∙ known-from count (earlier ++ ends ∷ []) links (All-tail K l links h)

-- links whose names are nodes have no unknown end
pub known-links : (count : ℕ) (links : List LinkEntry) → All (λ l. IsNode count l.a.0 × IsNode count l.b.0) links → first_where (has_unknown_end count) [] (tree_links links) ≡ None
known-links count links h = known-from count [] links h

same-error : (a b : RuleErr) → (let x : Result (Unit {0}) RuleErr = Err a in x) ≡ Err b → a ≡ b
same-error a b e = cc

-- what the rules 10 and 11 refuse, the tree refuses
refused-by : (tree : Topology) (u s d : Option ℕ) (later : Option TreeErr) (e : RuleErr) → u ≡ None → (no_entry 10 s >>= (λ x. no_entry 11 d)) ≡ Err e
    → unless_refused tree (refused_or (λ n. UnknownNode (record { 0 = n })) u (refused_or (λ n. SelfLink (record { 0 = n })) s (refused_or (λ n. SecondLink (record { 0 = n })) d later))) ≡ Err e
refused-by tree (Some n) s d later e k h = absurd (let no : Some n ≡ None → ⊥ = λ q. cc in no k)
refused-by tree None (Some n) d later e k h = ap Err (same-error (fails_at 10 n) e h)
refused-by tree None None (Some n) later e k h = ap Err (same-error (fails_at 11 n) e h)
refused-by tree None None None later e k h = absurd (let no : no_entry 11 None ≡ Err e → ⊥ = λ q. cc in no h)

said-error : (tree : Topology) (o : Option TreeErr) (e : RuleErr) → unless_refused tree o ≡ Err e → IfSome (broken_rule e) (λ f. unless_refused tree o ≡ Err f)
said-error tree o (Rule rule entry) h = h
said-error tree o no_memory h = tt

pub ends-refused : (tree : Topology) (kinds : List NodeKind) (ends : List Link) (e : RuleErr) → first_where (has_unknown_end (length kinds)) [] ends ≡ None
    → proper_ends ends ≡ Err e
    → IfSome (broken_rule e) (λ f. unless_refused tree (refusal kinds ends) ≡ Err f)
unfolding refusal
ends-refused tree kinds ends e known h =
    said-error tree (refusal kinds ends) e (refused-by tree (first_where (has_unknown_end (length kinds)) [] ends) (first_where is_self_link [] ends) (first_where is_second_link [] ends) _ e known h)

-- what they let through has neither fault
passed-by : (s d : Option ℕ) (u : Unit {0}) → (no_entry 10 s >>= (λ x. no_entry 11 d)) ≡ Ok u → (s ≡ None) × (d ≡ None)
passed-by (Some n) d u h = absurd (let no : no_entry 10 (Some n) ≡ Ok u → ⊥ = λ q. cc in no h)
passed-by None (Some n) u h = absurd (let no : no_entry 11 (Some n) ≡ Ok u → ⊥ = λ q. cc in no h)
passed-by None None u h = (refl, refl)

pub ends-passed : (ends : List Link) (u : Unit {0}) → proper_ends ends ≡ Ok u
    → (first_where is_self_link [] ends ≡ None) × (first_where is_second_link [] ends ≡ None)
ends-passed ends u h = passed-by (first_where is_self_link [] ends) (first_where is_second_link [] ends) u h

-- the links are few enough for the tree's crate
pub links-few : (count links : ℕ) → count ≤ 64 → links ≤ (count + 1) * (count + 1) → links < 65536
links-few count links few le =
    let a : count + 1 ≤ 65 = omega (arith, few) in
    let p : (count + 1) * (count + 1) ≤ 65 * 65 = mul-le-mul a a in omega (arith, le, p)

-- ---- the nodes with too many links for a scenario

-- the number of a node behind those before it
place : (nodes : List NodeEntry) (i : ℕ) → i < length nodes → length (take i nodes) + 1 ≡ i + 1
place nodes i lt = omega (arith, length-take-le i nodes (omega (arith, lt)))

pub crowded-here : (links : List Link) (nodes : List NodeEntry) (i n : ℕ) (o : Option ℕ) → i < length nodes → n ≡ length (neighbours links (i + 1)) → 16 < n
    → first_where (is_crowded links) (take i nodes) (drop i nodes) ≡ o → Some (i + 1) ≡ o
crowded-here links nodes i n o lt e many h =
    let d = an_element nodes i lt in
    let test = ap (λ (t : ℕ). nat_lt 16 (length (neighbours links t))) (place nodes i lt) ∙ lt-true 16 (length (neighbours links (i + 1))) (omega (arith, e, many)) in
    sym (where-here (is_crowded links) nodes i d lt test) ∙ h

pub crowded-later : (links : List Link) (nodes : List NodeEntry) (i n : ℕ) (o : Option ℕ) → i < length nodes → n ≡ length (neighbours links (i + 1)) → n ≤ 16
    → first_where (is_crowded links) (take i nodes) (drop i nodes) ≡ o → first_where (is_crowded links) (take (i + 1) nodes) (drop (i + 1) nodes) ≡ o
crowded-later links nodes i n o lt e few h =
    let d = an_element nodes i lt in
    let test = ap (λ (t : ℕ). nat_lt 16 (length (neighbours links t))) (place nodes i lt) ∙ lt-false 16 (length (neighbours links (i + 1))) (omega (arith, e, few)) in
    sym (where-later (is_crowded links) nodes i d lt test) ∙ h
