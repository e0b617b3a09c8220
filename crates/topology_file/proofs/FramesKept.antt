-- What every scenario keeps of its frames.
use Rattle.std.proofs.Common.{◌≡◌, ◌≢◌, ℕ, ◌<◌, ◌≤◌, ◌==◌, List, map, Option, Some, Result, Ok, Err, refl, sym, ap, ◌∙◌, ltb-true, IfSome, IfOk, arith}
use Rattle.std.proofs.lemmas.{Bool.false≢true, List.Elements.All-weaker, List.Sums.sum-map}
use Rattle.std.specs.List.{All, sum, sum_by}
use Rattle.std.specs.Prelude.{codes}
use Rattle.srp_base.proofs.Options.{opened as some-says}
use Rattle.srp_base.specs.declared.numbers.NodeNo.{NodeNo}
use Rattle.toml.specs.Data.{Members}
use Rattle.toml_rules.specs.declared.rules.RuleErr.{RuleErr}
use Rattle.toml_rules.specs.{Fields.number, Fields.number_or, Fields.has_only, Rules.each_entry, Rules.each_within}
use Rattle.toml_rules.proofs.WeightLemmas.{within-says}
use Rattle.topology_file.specs.{NodeEntry, StreamEntry, FrameEntry, FrameForm, FrameTimes, FrameRoute, name_at, station_named, stream_frame_keys, apart_named, pair_frame_keys, route_at, count_at, times_at, last_copy, run_end, ends_in, times_in, frame_octets_at, frame_form, form_copies, frame_entry, frame_copies, IsKnownRoute, HasFrameForm, IsStationNumber, IsStreamNumber, frames_of, stream_named, stream_vid_at}
use Rattle.topology_file.specs.declared.entries.FrameRoute.TheVariants as routes
use Rattle.topology_file.proofs.{Chains.and_then-if, Chains.map-if, Chains.made-if, Chains.when-if, Chains.unless-if, Chains.either-if, Chains.within-range, Chains.chain-if, Chains.ok-all, Chains.ok-says, Chains.each-all, Chains.each-map, NetworkKept.Any, NetworkKept.all-any, NetworkKept.eqb-same, NetworkKept.station-known, StreamsKept.stream-known}

-- ---- routes

-- two different stations
abbrev AreApart : List NodeEntry → NodeNo × NodeNo → Type 0
AreApart nodes p = IsStationNumber nodes p.0.0 × IsStationNumber nodes p.1.0 × (p.0.0 ≢ p.1.0)

apart-known : (nodes : List NodeEntry) (from to : List ℕ) → IfSome (apart_named nodes from to) (AreApart nodes)
apart-known nodes from to =
    let P = AreApart nodes in
    let S : NodeNo → Type 0 = λ x. IsStationNumber nodes x.0 in
    and_then-if P _ (station_named nodes from) (λ x ex.
    and_then-if P _ (station_named nodes to) (λ y ey.
    unless-if P (x.0 == y.0) (Some (x, y)) (λ differ. (
      some-says S (station_named nodes from) x ex (station-known from nodes),
      some-says S (station_named nodes to) y ey (station-known to nodes),
      (λ same. false≢true (sym differ ∙ eqb-same x.0 y.0 same)),
    ))))

route-known : (nodes : List NodeEntry) (streams : List StreamEntry) (ms : Members) → IfSome (route_at nodes streams ms) (λ o. IfSome o (IsKnownRoute nodes streams))
route-known nodes streams ms =
    let K = IsKnownRoute nodes streams in
    let P : Option FrameRoute → Type 0 = λ o. IfSome o K in
    either-if P (has_only stream_frame_keys ms) _ _
    (and_then-if P _ (name_at (codes "stream") ms) (λ name en.
    made-if (IsStreamNumber streams) K routes.OfStream (stream_named streams name) (λ n h. h) (stream-known name streams (stream_named streams name) refl))) (
    either-if P (has_only pair_frame_keys ms) _ _
    (and_then-if P _ (name_at (codes "from") ms) (λ from ef.
    and_then-if P _ (name_at (codes "to") ms) (λ to et.
    and_then-if P _ (stream_vid_at ms) (λ vid ev.
    (let range = some-says (λ n. (1 ≤ n) × (n ≤ 4094)) (stream_vid_at ms) vid ev (within-range 1 4094 (number_or (codes "vid") 2 ms)) in
    made-if (AreApart nodes) K (λ p. routes.Between p.0 p.1 vid) (apart_named nodes from to) (λ p h. (h.0, h.1, h.2, range.0, range.1)) (apart-known nodes from to)))))) tt)

-- ---- times

-- the ranges of a frame's times
abbrev AreTimes : ℕ → FrameTimes → Type 0
AreTimes ticks t = ((1 ≤ t.count) × (t.count ≤ 100000)) × (last_copy t.at t.count t.every < run_end ticks)

count-range : (ms : Members) → IfSome (times_at ms) (λ t. (1 ≤ t.count) × (t.count ≤ 100000))
count-range ms =
    let P : FrameTimes → Type 0 = λ t. (1 ≤ t.count) × (t.count ≤ 100000) in
    and_then-if P _ (number (codes "at") ms) (λ at ea.
    and_then-if P _ (count_at ms) (λ count ec.
    and_then-if P _ (number_or (codes "every") 0 ms) (λ every ee.
    some-says (λ n. (1 ≤ n) × (n ≤ 100000)) (count_at ms) count ec (within-range 1 100000 (number_or (codes "count") 1 ms)))))

times-known : (ticks : ℕ) (ms : Members) → IfSome (times_in ticks ms) (AreTimes ticks)
times-known ticks ms =
    let P = AreTimes ticks in
    and_then-if P _ (times_at ms) (λ t et.
    when-if P (ends_in ticks t) (Some t) (λ lt. (
      some-says (λ u. (1 ≤ u.count) × (u.count ≤ 100000)) (times_at ms) t et (count-range ms),
      ltb-true (last_copy t.at t.count t.every) (run_end ticks) lt,
    )))

-- ---- forms

-- what a frame entry that has its form keeps
abbrev FormKeeps : ℕ → List NodeEntry → List StreamEntry → FrameForm → Type 0
FormKeeps ticks nodes streams f = IfSome f.route (IsKnownRoute nodes streams) × (f.octets ≤ 1500) × AreTimes ticks f.times

form-keeps : (ticks : ℕ) (nodes : List NodeEntry) (streams : List StreamEntry) (n : ℕ) (ms : Members) → IfSome (frame_form ticks nodes streams n ms) (FormKeeps ticks nodes streams)
form-keeps ticks nodes streams n ms =
    let P = FormKeeps ticks nodes streams in
    and_then-if P _ (route_at nodes streams ms) (λ route er.
    and_then-if P _ (frame_octets_at ms) (λ octets eo.
    and_then-if P _ (times_in ticks ms) (λ times et. (
      some-says (λ o. IfSome o (IsKnownRoute nodes streams)) (route_at nodes streams ms) route er (route-known nodes streams ms),
      (some-says (λ n. (0 ≤ n) × (n ≤ 1500)) (frame_octets_at ms) octets eo (within-range 0 1500 (number (codes "octets") ms))).1,
      some-says (AreTimes ticks) (times_in ticks ms) times et (times-known ticks ms),
    ))))

-- the forms of frames: what each keeps, and that their copies are not too many
forms-keep : (ticks : ℕ) (nodes : List NodeEntry) (streams : List StreamEntry) (entries : List Members)
    → IfOk (each_within 23 form_copies (frame_form ticks nodes streams) 1 100000 entries) (λ forms. All (FormKeeps ticks nodes streams) forms × (sum_by form_copies forms ≤ 100000))
forms-keep ticks nodes streams entries =
    let read = frame_form ticks nodes streams in
    both (each_within 23 form_copies read 1 100000 entries) (each_entry 23 read 1 entries) (within-says 23 1 100000 form_copies read entries)
    (each-all Any (FormKeeps ticks nodes streams) 23 read (λ n x _. form-keeps ticks nodes streams n x) 1 entries (all-any entries))
  where
    both : (r whole : Result (List FrameForm) RuleErr) → IfOk r (λ ys. (whole ≡ Ok ys) × (sum_by form_copies ys ≤ 100000)) → IfOk whole (All (FormKeeps ticks nodes streams))
        → IfOk r (λ ys. All (FormKeeps ticks nodes streams) ys × (sum_by form_copies ys ≤ 100000))
    both (Ok ys) whole h a = (ok-says (All (FormKeeps ticks nodes streams)) whole ys h.0 a, h.1)
    both (Err e) whole h a = tt

-- ---- frames

-- what a frame keeps
abbrev EntryKeeps : ℕ → List NodeEntry → List StreamEntry → FrameEntry → Type 0
EntryKeeps ticks nodes streams f = HasFrameForm ticks f × IsKnownRoute nodes streams f.route

entry-keeps : (ticks : ℕ) (nodes : List NodeEntry) (streams : List StreamEntry) (n : ℕ) (form : FrameForm) → FormKeeps ticks nodes streams form
    → IfSome (frame_entry n form) (EntryKeeps ticks nodes streams)
entry-keeps ticks nodes streams n form k =
    made-if (IsKnownRoute nodes streams) (EntryKeeps ticks nodes streams) _ form.route (λ route known. (record { octets = k.1; count = k.2.0; last = k.2.1 }, known)) k.0

entry-copies : (n : ℕ) (form : FrameForm) → IfSome (frame_entry n form) (λ f. f.count ≡ form_copies form)
entry-copies n form = map-if _ _ form.route (λ route e. refl)

-- lists that look alike have one sum
alike-sum : {A B : Type 0} (f : A → ℕ) (g : B → ℕ) (xs : List A) (ys : List B) → map g ys ≡ map f xs → sum_by g ys ≡ sum_by f xs
alike-sum f g xs ys h =
    sym (sum-map g ys) ∙ ap sum h ∙ sum-map f xs

pub record FramesKeep (ticks : ℕ) (nodes : List NodeEntry) (streams : List StreamEntry) (frames : List FrameEntry) : Type 0 where
  pub forms : All (HasFrameForm ticks) frames
  pub copies : frame_copies frames ≤ 100000
  pub routes : All (λ f. IsKnownRoute nodes streams f.route) frames

pub frames-keep : (ticks : ℕ) (nodes : List NodeEntry) (streams : List StreamEntry) (entries : List Members) → IfOk (frames_of ticks nodes streams entries) (FramesKeep ticks nodes streams)
frames-keep ticks nodes streams entries =
    let P = FramesKeep ticks nodes streams in
    let F = FormKeeps ticks nodes streams in
    let K = EntryKeeps ticks nodes streams in
    chain-if P _ (each_within 23 form_copies (frame_form ticks nodes streams) 1 100000 entries) _ (forms-keep ticks nodes streams entries) (λ forms f.
    (let read = each_entry 24 frame_entry 1 forms in
    ok-all read P (λ frames is.
    (let counts = ok-says (λ ys. map (λ (x : FrameEntry). x.count) ys ≡ map form_copies forms) read frames is
    (each-map form_copies (λ (x : FrameEntry). x.count) 24 frame_entry entry-copies 1 forms) in
    let keep = ok-says (All K) read frames is (each-all F K 24 frame_entry (λ n x h. entry-keeps ticks nodes streams n x h) 1 forms f.0) in
    record {
      forms = All-weaker K (HasFrameForm ticks) (λ x h. h.0) frames keep;
      copies = omega (arith, f.1, alike-sum form_copies (λ (x : FrameEntry). x.count) forms frames counts);
      routes = All-weaker K (λ x. IsKnownRoute nodes streams x.route) (λ x h. h.1) frames keep;
    }))))
