-- The frames of a scenario that keeps its rules: their numbers, and that a flow may be asked of them.
use Rattle.std.proofs.Common.{◌≡◌, ℕ, zero, suc, ◌+◌, ◌-◌, ◌*◌, ◌<◌, ◌≤◌, List, [], ◌∷◌, ◌++◌, map, length, get_or, Option, Some, option_map, refl, sym, ap, subst, ◌∙◌, arith}
use Rattle.std.specs.List.{range_with_len, All, AllPairs}
use Rattle.std.specs.Prelude.{slice_get}
use Rattle.std.proofs.Math.Nat.{mul-le-mul_right}
use Rattle.std.proofs.lemmas.{List.map-append, List.length-map, List.get_or-map, List.Elements.All-nil, List.Elements.All-head, List.Elements.All-tail, List.Elements.All-append, List.Elements.All-map, List.Elements.All-weaker, List.FromFn.length-range_with_len, List.FromFn.get_or-range_with_len, List.Sums.sum_by-cons, Option.slice_get-get_or}
use Rattle.srp_base.specs.declared.ports.PortChange.{PortChange}
use Rattle.tree_topology.specs.Topology.{Topology, HasNode}
use Rattle.frame_flow.specs.declared.frame.Frame.{Frame}
use Rattle.frame_flow.specs.Given.{IsFrame, IsRoute, IsEarlier, IsSetting}
use Rattle.topology_file.specs.declared.{entries.NodeEntry.NodeEntry, entries.LinkEntry.LinkEntry, entries.StreamEntry.StreamEntry, entries.FrameEntry.FrameEntry, entries.FrameRoute.FrameRoute}
use Rattle.topology_file.specs.declared.entries.FrameRoute.TheVariants as routes
use Rattle.topology_file.specs.{Frames.HasFrameForm, Frames.IsKnownRoute, Frames.frame_copies, Kinds.IsStationNumber, Plan.Plan, Scenario.KeepsRules, Scenario.ends_of_entry}
use Rattle.scenario_frames.specs.{Way, stream_way, way_of, copy_of, copies_of, frames_from, plan_frames, AreBelowRates, setting_of}

-- ---- ways

-- there is a way, and it leads from a node of the tree to where a route may lead
record HasWay (tree : Topology) (o : Option Way) : Type 0 where
  way : Way
  is : o ≡ Some way
  from : HasNode tree way.from.0
  route : IsRoute tree way.route

-- a number of a station of the plan is one of a node of its tree
station-node : (p : Plan) (x : ℕ) → KeepsRules p → IsStationNumber p.nodes x → HasNode p.tree x
station-node p x kept station =
    let kinds : length p.tree.kinds ≡ length p.nodes =
    ap (λ (t : Topology). length t.kinds) kept.tree ∙ length-map p.nodes (λ (n : NodeEntry). n.kind) in
    (station.0.0, omega (arith, station.0.1, kinds))

-- an index below the length has an element, of which holds what holds of all
some-stream : (xs : List StreamEntry) (i : ℕ) → i < length xs
    → (s : StreamEntry) × (slice_get xs i ≡ Some s) × ((P : StreamEntry → Type 0) → All P xs → P s)
some-stream [] i below = absurd (omega (arith, below))
some-stream (x ∷ xs) i below =
    (get_or (x ∷ xs) i x, slice_get-get_or (x ∷ xs) i x below, λ P all. all i x below)

known-way : (p : Plan) (route : FrameRoute) → KeepsRules p → IsKnownRoute p.nodes p.streams route → HasWay p.tree (way_of p.streams route)
known-way p (routes.OfStream stream) kept known =
    let below : stream - 1 < length p.streams = omega (arith, known.0, known.1) in
    let found = some-stream p.streams (stream - 1) below in
    record {
      way = stream_way found.0;
      is = ap (option_map stream_way) found.1;
      from = station-node p found.0.talker.0 kept (found.2 (λ x. IsStationNumber p.nodes x.talker.0) kept.talkers);
      route = tt;
    }
known-way p (routes.Between from to vid) kept known = record {
  way = record { from = from; route = _; vid = vid };
  is = refl;
  from = station-node p from.0 kept known.0;
  route = station-node p to.0 kept known.1;
}

-- ---- numbers

ranges-join : (a m n : ℕ) → range_with_len a m ++ range_with_len (a + m) n ≡ range_with_len a (m + n)
ranges-join a zero n =
    let same : a + 0 ≡ a = omega arith in
    let none : 0 + n ≡ n = omega arith in
    rw (same, none) refl
ranges-join a (suc m) n =
    let shift : a + suc m ≡ (a + 1) + m = omega arith in
    let more : suc m + n ≡ suc (m + n) = omega arith in
    rw (shift, more) (ap (λ (t : List ℕ). a ∷ t) (ranges-join (a + 1) m n))

-- the copies of an entry from an index on have the numbers from there on
numbers-of-copies : (e : FrameEntry) (way : Way) (first k c : ℕ)
    → map (λ f. f.number) (map (copy_of e way first) (range_with_len k c)) ≡ range_with_len (first + k) c
numbers-of-copies e way first k zero = refl
numbers-of-copies e way first k (suc c) =
    let next : first + (k + 1) ≡ (first + k) + 1 = omega arith in
    ap (λ (t : List ℕ). (first + k) ∷ t) (numbers-of-copies e way first (k + 1) c ∙ ap (λ (n : ℕ). range_with_len n c) next)

numbers-from : (p : Plan) (first : ℕ) (es : List FrameEntry) → All (λ e. HasWay p.tree (way_of p.streams e.route)) es
    → map (λ f. f.number) (frames_from p.streams first es) ≡ range_with_len first (frame_copies es)
numbers-from p first [] ways = refl
numbers-from p first (e ∷ es) ways =
    let W : FrameEntry → Type 0 = λ x. HasWay p.tree (way_of p.streams x.route) in
    let w = All-head W e es ways in
    let own : copies_of e (way_of p.streams e.route) first ≡ map (copy_of e w.way first) (range_with_len 0 e.count) =
    ap (λ (o : Option Way). copies_of e o first) w.is in
    let same : first + 0 ≡ first = omega arith in
    let numbers : map (λ f. f.number) (copies_of e (way_of p.streams e.route) first) ≡ range_with_len first e.count =
    ap (map (λ f. f.number)) own ∙ numbers-of-copies e w.way first 0 e.count ∙ ap (λ (n : ℕ). range_with_len n e.count) same in
    let rest = numbers-from p (first + e.count) es (All-tail W e es ways) in
    map-append (λ f. f.number) (copies_of e (way_of p.streams e.route) first) (frames_from p.streams (first + e.count) es)
    ∙ ap (λ (t : List ℕ). t ++ map (λ f. f.number) (frames_from p.streams (first + e.count) es)) numbers
    ∙ ap (λ (t : List ℕ). range_with_len first e.count ++ t) rest
    ∙ ranges-join first e.count (frame_copies es)
    ∙ ap (range_with_len first) (sym (sum_by-cons (λ (x : FrameEntry). x.count) e es))

plan-ways : (p : Plan) → KeepsRules p → All (λ e. HasWay p.tree (way_of p.streams e.route)) p.frames
plan-ways p kept =
    All-weaker (λ e. IsKnownRoute p.nodes p.streams e.route) (λ e. HasWay p.tree (way_of p.streams e.route))
    (λ e known. known-way p e.route kept known) p.frames kept.routes

pub numbers-of-plan : (p : Plan) → KeepsRules p → map (λ f. f.number) (plan_frames p) ≡ range_with_len 1 (frame_copies p.frames)
numbers-of-plan p kept = numbers-from p 1 p.frames (plan-ways p kept)

-- numbers that count up ascend
ascending : (fs : List Frame) (a n : ℕ) → map (λ f. f.number) fs ≡ range_with_len a n → AllPairs (λ f g. f.number < g.number) fs
ascending fs a n is i j d lt below =
    let many : length fs ≡ n = sym (length-map fs (λ (f : Frame). f.number)) ∙ ap length is ∙ length-range_with_len a n in
    let at : (k : ℕ) → k < length fs → (get_or fs k d).number ≡ a + k =
    λ k within. sym (get_or-map (λ (f : Frame). f.number) fs k d d.number within) ∙ ap (λ (t : List ℕ). get_or t k d.number) is
    ∙ get_or-range_with_len a n k d.number (omega (arith, within, many)) in
    omega (arith, at i (omega (arith, lt, below)), at j below, lt)

-- ---- each frame

copy-is : (tree : Topology) (ticks : ℕ) (e : FrameEntry) (way : Way) (first i : ℕ)
    → HasFrameForm ticks e → HasNode tree way.from.0 → IsRoute tree way.route → i < e.count
    → IsFrame tree ticks (copy_of e way first i)
copy-is tree ticks e way first i form from route below =
    let steps : i * e.every ≤ (e.count - 1) * e.every = mul-le-mul_right e.every (omega (arith, below)) in
    record {
      size = (omega arith, omega (arith, form.octets));
      in_time = omega (arith, steps, form.last);
      from = from;
      route = route;
    }

copies-are : (tree : Topology) (ticks : ℕ) (e : FrameEntry) (o : Option Way) (first : ℕ) → HasFrameForm ticks e → HasWay tree o
    → All (IsFrame tree ticks) (copies_of e o first)
copies-are tree ticks e o first form w =
    let copies = All-map (IsFrame tree ticks) (copy_of e w.way first) (range_with_len 0 e.count) (λ k d below.
    let within : k < e.count = omega (arith, below, length-range_with_len 0 e.count) in
    copy-is tree ticks e w.way first (get_or (range_with_len 0 e.count) k d) form w.from w.route
    (omega (arith, within, get_or-range_with_len 0 e.count k d within))) in
    subst (λ (t : Option Way). All (IsFrame tree ticks) (copies_of e t first)) (sym w.is) copies

frames-are : (p : Plan) (first : ℕ) (es : List FrameEntry) → All (HasFrameForm p.ticks) es
    → All (λ e. HasWay p.tree (way_of p.streams e.route)) es
    → All (IsFrame p.tree p.ticks) (frames_from p.streams first es)
frames-are p first [] forms ways = All-nil (IsFrame p.tree p.ticks)
frames-are p first (e ∷ es) forms ways =
    let W : FrameEntry → Type 0 = λ x. HasWay p.tree (way_of p.streams x.route) in
    let F = HasFrameForm p.ticks in
    All-append (IsFrame p.tree p.ticks) (copies_of e (way_of p.streams e.route) first) (frames_from p.streams (first + e.count) es)
    (copies-are p.tree p.ticks e (way_of p.streams e.route) first (All-head F e es forms) (All-head W e es ways))
    (frames-are p (first + e.count) es (All-tail F e es forms) (All-tail W e es ways))

-- ---- the setting

pub valid-setting : (p : Plan) (changes : List PortChange) → KeepsRules p → AllPairs IsEarlier changes → AreBelowRates p changes
    → IsSetting (setting_of p changes)
valid-setting p changes kept order slopes =
    let links : length p.tree.links ≡ length p.links =
    ap (λ (t : Topology). length t.links) kept.tree ∙ length-map p.links ends_of_entry in
    record {
      rates = length-map p.links (λ (l : LinkEntry). l.rate) ∙ sym links;
      range = record {
        ticks = kept.ticks;
        numbers = ascending (plan_frames p) 1 (frame_copies p.frames) (numbers-of-plan p kept);
        frames = frames-are p 1 p.frames kept.frame_forms (plan-ways p kept);
        changes = order;
      };
      slopes = slopes;
    }
