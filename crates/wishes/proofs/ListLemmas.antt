-- One element more of a list that is read from the front, and the numbers that pass a test.
use Rattle.std.proofs.Common.{◌≡◌, ℕ, zero, suc, ◌+◌, ◌-◌, ◌<◌, ◌≤◌, Bool, true, false, if◌then◌else◌, List, [], ◌∷◌, ◌++◌, length, drop, get_or, map, refl, sym, ap, ◌∙◌, append_assoc, arith}
use Rattle.std.specs.Prelude.{Some, slice_get, flat_map, filter}
use Rattle.std.specs.List.{AllByRecursion, range_with_len}
use Rattle.std.proofs.lemmas.{List.at_drop_more, Option.slice_get_within, Option.get_or_from_slice_get}
use Rattle.srp_base.specs.declared.{numbers.NodeNo.NodeNo, numbers.StreamId.StreamId}
use Rattle.tree_topology.specs.Topology.{HasNode}
use Rattle.world_core.specs.World.{WorldState}
use Rattle.network_laws.specs.Streams.{is_listened_at}
use Rattle.topology_file.specs.declared.entries.StreamEntry.{StreamEntry}
use Rattle.topology_file.specs.Plan.{Plan}
use Rattle.node_core.specs.State.{NodeState}
use Rattle.wishes.specs.declared.wish.Wish.{Wish}
use Rattle.wishes.specs.declared.standing.Standing.{Standing}
use Rattle.wishes.specs.Watching.{standing_since, standings_since}
use Rattle.wishes.specs.{Wishes.listeners, Wishes.numbered, Wishes.stream_wishes, Wishes.wish_of, Wishes.wishes_from, Doubts.stream_doubts, Doubts.streams_doubts}

pub next_part : {X Y : Type 0} (f : X → List Y) (i : ℕ) (out after : List Y) (xs : List X) (x : X) → slice_get xs i ≡ Some x → after ≡ out ++ f x
    → after ++ flat_map f (drop (i + 1) xs) ≡ out ++ flat_map f (drop i xs)
next_part {X = X} {Y = Y} f i out after xs x at e =
    let later : List Y = flat_map f (drop (i + 1) xs) in
    let below : i < length xs = slice_get_within xs i x at in
    let here : get_or xs i x ≡ x = get_or_from_slice_get xs i x x at in
    let all : flat_map f (drop i xs) ≡ f (get_or xs i x) ++ later = at_drop_more (flat_map f) xs i x below in
    ap (λ (text : List Y). text ++ later) e
    ∙ (append_assoc out (f x) later ∙ ap (λ (text : List Y). out ++ text) (sym (all ∙ ap (λ (y : X). f y ++ later) here)))

-- of the numbers that pass a test, the first by itself
first_apart : {Y : Type 0} (f : ℕ → Y) (test : ℕ → Bool) (a n : ℕ)
    → map f (filter test (range_with_len a 1)) ++ map f (filter test (range_with_len (a + 1) n)) ≡ map f (filter test (range_with_len a (suc n)))
first_apart {Y = Y} f test a n = by (test a)
  where
    rest : List ℕ
    rest = filter test (range_with_len (a + 1) n)

    by : (b : Bool) → map f (if b then a ∷ [] else []) ++ map f rest ≡ map f (if b then a ∷ rest else rest)
    by true = refl
    by false = refl

pub picked_first : {Y : Type 0} (f : ℕ → Y) (test : ℕ → Bool) (out after : List Y) (a n : ℕ) → 0 < n → after ≡ out ++ map f (filter test (range_with_len a 1))
    → after ++ map f (filter test (range_with_len (a + 1) (n - 1))) ≡ out ++ map f (filter test (range_with_len a n))
picked_first f test out after a zero lt push = absurd (omega (arith, lt))
picked_first {Y = Y} f test out after a (suc n) lt push =
    let less : suc n - 1 ≡ n = omega arith in
    let one : List Y = map f (filter test (range_with_len a 1)) in
    let rest : List Y = map f (filter test (range_with_len (a + 1) n)) in
    ap (λ (k : ℕ). after ++ map f (filter test (range_with_len (a + 1) k))) less
    ∙ (ap (λ (ys : List Y). ys ++ rest) push ∙ (append_assoc out one rest ∙ ap (λ (ys : List Y). out ++ ys) (first_apart f test a n)))

-- the numbers of nodes that pass a test are those of nodes
within_nodes : (test : ℕ → Bool) (count a n : ℕ) → 1 ≤ a → a + n ≤ count + 1
    → AllByRecursion (λ (l : NodeNo). (1 ≤ l.0) × (l.0 ≤ count)) (map numbered (filter test (range_with_len a n)))
within_nodes test count a zero one few = tt
within_nodes test count a (suc n) one few = by (test a) (within_nodes test count (a + 1) n (omega (arith, one)) (omega (arith, few)))
  where
    rest : List ℕ
    rest = filter test (range_with_len (a + 1) n)

    by : (b : Bool) → AllByRecursion (λ (l : NodeNo). (1 ≤ l.0) × (l.0 ≤ count)) (map numbered rest)
        → AllByRecursion (λ (l : NodeNo). (1 ≤ l.0) × (l.0 ≤ count)) (map numbered (if b then a ∷ rest else rest))
    by true later = ((one, omega (arith, few)), later)
    by false later = later

pub listeners_are_nodes : (w : WorldState) (stream : StreamId) → AllByRecursion (λ l. HasNode w.tree l.0) (listeners w stream)
listeners_are_nodes w stream = within_nodes (is_listened_at w stream) (length w.tree.kinds) 1 (length w.tree.kinds) (omega arith) (omega arith)

-- a stream more of which the doubts are put down
pub next_stream : (plan : Plan) (w : WorldState) (i : ℕ) (out after : List ℕ) (streams : List StreamEntry) (e : StreamEntry) → i < length streams
    → e ≡ get_or streams i e → after ≡ out ++ stream_doubts plan w e
    → after ++ streams_doubts plan w (drop (i + 1) streams) ≡ out ++ streams_doubts plan w (drop i streams)
next_stream plan w i out after streams e below same put =
    let later : List ℕ = streams_doubts plan w (drop (i + 1) streams) in
    let all : streams_doubts plan w (drop i streams) ≡ stream_doubts plan w (get_or streams i e) ++ later = at_drop_more (streams_doubts plan w) streams i e below in
    ap (λ (text : List ℕ). text ++ later) put
    ∙ (append_assoc out (stream_doubts plan w e) later
    ∙ ap (λ (text : List ℕ). out ++ text) (ap (λ (x : StreamEntry). stream_doubts plan w x ++ later) same ∙ sym all))

-- wishes of stations that are nodes are of nodes
wishes_at_nodes : (w : WorldState) (place : ℕ) (e : StreamEntry) (ls : List NodeNo) → AllByRecursion (λ (l : NodeNo). HasNode w.tree l.0) ls
    → AllByRecursion (λ (wish : Wish). HasNode w.tree wish.station.0) (map (wish_of w place e) ls)
wishes_at_nodes w place e [] h = tt
wishes_at_nodes w place e (l ∷ ls) h = (h.0, wishes_at_nodes w place e ls h.1)

join_all : {X : Type 0} (P : X → Type 0) (xs ys : List X) → AllByRecursion P xs → AllByRecursion P ys → AllByRecursion P (xs ++ ys)
join_all P [] ys h k = k
join_all P (x ∷ xs) ys h k = (h.0, join_all P xs ys h.1 k)

-- all wishes are of nodes
pub wishers_are_nodes : (w : WorldState) (place : ℕ) (entries : List StreamEntry)
    → AllByRecursion (λ (wish : Wish). HasNode w.tree wish.station.0) (wishes_from w place entries)
wishers_are_nodes w place [] = tt
wishers_are_nodes w place (e ∷ entries) =
    join_all (λ (wish : Wish). HasNode w.tree wish.station.0) (stream_wishes w place e) (wishes_from w (place + 1) entries)
    (wishes_at_nodes w place e (listeners w e.id) (listeners_are_nodes w e.id)) (wishers_are_nodes w (place + 1) entries)

-- a node more whose standing is put down
pub next_node : (streams : List StreamEntry) (rests : List Bool) (old : List Standing) (i : ℕ) (out after : List Standing) (nodes : List NodeState) (s : NodeState)
    → slice_get nodes i ≡ Some s → after ≡ out ++ standing_since streams rests old i s ∷ []
    → after ++ standings_since streams rests old (i + 1) (drop (i + 1) nodes) ≡ out ++ standings_since streams rests old i (drop i nodes)
next_node streams rests old i out after nodes s at put =
    let later : List Standing = standings_since streams rests old (i + 1) (drop (i + 1) nodes) in
    let below : i < length nodes = slice_get_within nodes i s at in
    let here : get_or nodes i s ≡ s = get_or_from_slice_get nodes i s s at in
    let all : standings_since streams rests old i (drop i nodes) ≡ standing_since streams rests old i (get_or nodes i s) ∷ later =
    at_drop_more (standings_since streams rests old i) nodes i s below
    in
    ap (λ (rows : List Standing). rows ++ later) put
    ∙ (append_assoc out (standing_since streams rests old i s ∷ []) later
    ∙ ap (λ (rows : List Standing). out ++ rows) (sym (all ∙ ap (λ (x : NodeState). standing_since streams rests old i x ∷ later) here)))

-- one more of what a list is mapped to is put down
pub next_mapped : {X Y : Type 0} (f : X → Y) (i : ℕ) (out after : List Y) (xs : List X) (x : X) → slice_get xs i ≡ Some x → after ≡ out ++ f x ∷ []
    → after ++ map f (drop (i + 1) xs) ≡ out ++ map f (drop i xs)
next_mapped {X} {Y} f i out after xs x at put =
    let later : List Y = map f (drop (i + 1) xs) in
    let below : i < length xs = slice_get_within xs i x at in
    let here : get_or xs i x ≡ x = get_or_from_slice_get xs i x x at in
    let all : map f (drop i xs) ≡ f (get_or xs i x) ∷ later = at_drop_more (map f) xs i x below in
    ap (λ (ys : List Y). ys ++ later) put
    ∙ (append_assoc out (f x ∷ []) later ∙ ap (λ (ys : List Y). out ++ ys) (sym (all ∙ ap (λ (y : X). f y ∷ later) here)))
