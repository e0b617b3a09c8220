-- What every plan keeps, from the rules that its table passed.
use Rattle.std.proofs.Common.{◌≡◌, ◌≢◌, ℕ, ◌<◌, ◌≤◌, ◌^◌, Bool, true, false, ◌||◌, not, List, [], ◌∷◌, length, get_or, map, Option, Some, None, is_some, option_map, option_and_then, Ok, refl, sym, ap, subst, ◌∙◌, eqb, leb-true, IfSome, IfOk, arith}
use Rattle.std.proofs.lemmas.{Bool.false≢true, Bool.or_parts, Bool.or_left, Bool.or_right, List.length-map, List.Folds.list_any_at, List.Elements.All-cons, List.Elements.All-nil, List.Elements.All-weaker}
use Rattle.std.specs.{Cmp.Lexicographic.pointwise, Cmp.Lexicographic.bytes_decides, List.All}
use Rattle.std.specs.Prelude.{AllPairs, nat_le, nat_eq, codes}
use Rattle.srp_base.proofs.Options.{opened as some-says}
use Rattle.srp_base.specs.declared.numbers.{NodeNo.NodeNo, StreamId.StreamId}
use Rattle.srp_base.specs.{Firsts.first_where, Hexadecimal.hex12, Hexadecimal.hex16}
use Rattle.toml.specs.Data.{Data, Members, get_member, as_str}
use Rattle.toml_rules.specs.{Fields.number, Fields.number_or, Fields.or_default, Fields.has_only, Fields.tables, Rules.each_entry}
use Rattle.topology_file.specs.{declared.entries.NodeEntry.NodeEntry, Scenario.KeepsRules, Scenario.scenario_of, Entries.is_name, Entries.name_at, Entries.station_named, Frames.frame_octets_at, Streams.stream_vid_at, Streams.rank_at, Kinds.IsStationNumber}
use Rattle.topology_file.proofs.{Chains.and_then-if, Chains.map-if, Chains.made-if, Chains.either-if, Chains.unless-if, Chains.within-range, Chains.chain-if, Chains.chain-needs, Chains.chain-holds, Chains.chain-none, Chains.ok-all, Chains.ok-both, Chains.ok-says, Chains.each-all, Chains.each-map, Chains.alike-at, Chains.alike-length, Chains.an_element, Chains.pairs-alike, HexRanges.hex12-range, HexRanges.hex16-range, Kept.scenario-keeps, NetworkKept.AcceptedLaw, NetworkKept.Any, NetworkKept.all-any, NetworkKept.name-form, NetworkKept.eqb-same, NetworkKept.pairs-none, NetworkKept.station-known}
use Rattle.topology_file.specs.Plan.{Plan as ScenarioPlan}
use Rattle.plan_file.specs.{AreStationsApart, Ends, HasPlanValues, KeepsPlanRules, PlanForm, PlanStream, PlanValues, all_read, audio_keys, audio_octets, audio_octets_at, bits_at, channels_at, class_at, dest_at, dest_of_data, ends_named, events_of, frames_at, has_like, has_twice, id_at, id_of_data, is_among, is_same_id, khz_at, listeners_at, network_members, octets_at, plan_form, plan_keys, plan_of, plan_stream, sized_keys, stations_named, stream_tables_of, streams_of, values_at, wanted_of}

never-true : (b : Bool) → b ≢ true → b ≡ false
never-true true n = absurd (n refl)
never-true false n = refl

-- ---- values

audio-few : (class : _) (ms : Members) → IfSome (audio_octets_at class ms) (λ n. (0 ≤ n) × (n ≤ 1500))
audio-few class ms =
    let P : ℕ → Type 0 = λ n. (0 ≤ n) × (n ≤ 1500) in
    and_then-if P _ (channels_at ms) (λ channels _.
    and_then-if P _ (khz_at ms) (λ khz _.
    and_then-if P _ (bits_at ms) (λ bits _. within-range 0 1500 (Some (audio_octets class channels khz bits)))))

octets-few : (class : _) (ms : Members) → IfSome (octets_at class ms) (λ n. (0 ≤ n) × (n ≤ 1500))
octets-few class ms =
    let P : ℕ → Type 0 = λ n. (0 ≤ n) × (n ≤ 1500) in
    either-if P (has_only sized_keys ms) _ _ (within-range 0 1500 (number (codes "octets") ms))
    (either-if P (has_only audio_keys ms) _ _ (audio-few class ms) tt)

id-few : (ms : Members) → IfSome (id_at ms) (λ o. IfSome o (λ id. id.0 < 2 ^ 64))
id-few ms = by (get_member (codes "id") ms)
  where
    by : (o : Option Data) → IfSome (or_default None id_of_data o) (λ o. IfSome o (λ (id : StreamId). id.0 < 2 ^ 64))
    by None = tt
    by (Some d) =
        made-if (λ n. n < 2 ^ 64) (λ o. IfSome o (λ (id : StreamId). id.0 < 2 ^ 64)) _ (option_and_then hex16 (as_str d)) (λ n h. h)
        (and_then-if (λ n. n < 2 ^ 64) hex16 (as_str d) (λ digits e. hex16-range digits))

dest-few : (ms : Members) → IfSome (dest_at ms) (λ o. IfSome o (λ dest. dest < 2 ^ 48))
dest-few ms = by (get_member (codes "dest") ms)
  where
    by : (o : Option Data) → IfSome (or_default None dest_of_data o) (λ o. IfSome o (λ (dest : ℕ). dest < 2 ^ 48))
    by None = tt
    by (Some d) =
        made-if (λ n. n < 2 ^ 48) (λ o. IfSome o (λ (dest : ℕ). dest < 2 ^ 48)) Some (option_and_then hex12 (as_str d)) (λ n h. h)
        (and_then-if (λ n. n < 2 ^ 48) hex12 (as_str d) (λ digits e. hex12-range digits))

values-keep : (ms : Members) → IfSome (values_at ms) HasPlanValues
values-keep ms =
    and_then-if HasPlanValues _ (class_at ms) (λ class _.
    and_then-if HasPlanValues _ (octets_at class ms) (λ octets eo.
    and_then-if HasPlanValues _ (frames_at ms) (λ frames ef.
    and_then-if HasPlanValues _ (stream_vid_at ms) (λ vid ev.
    and_then-if HasPlanValues _ (rank_at ms) (λ rank _.
    and_then-if HasPlanValues _ (id_at ms) (λ id ei.
    and_then-if HasPlanValues _ (dest_at ms) (λ dest ed. record {
      octets = (some-says (λ n. (0 ≤ n) × (n ≤ 1500)) (octets_at class ms) octets eo (octets-few class ms)).1;
      frames = some-says (λ n. (1 ≤ n) × (n ≤ 64)) (frames_at ms) frames ef (within-range 1 64 (number_or (codes "frames") 1 ms));
      vid = some-says (λ n. (1 ≤ n) × (n ≤ 4094)) (stream_vid_at ms) vid ev (within-range 1 4094 (number_or (codes "vid") 2 ms));
      id = some-says (λ o. IfSome o (λ (id : StreamId). id.0 < 2 ^ 64)) (id_at ms) id ei (id-few ms);
      dest = some-says (λ o. IfSome o (λ (dest : ℕ). dest < 2 ^ 48)) (dest_at ms) dest ed (dest-few ms);
    })))))))

-- ---- ends

-- what each reading has, all have that are read
read-all : {A B : Type 0} (P : B → Type 0) (read : A → Option B) → ((x : A) → IfSome (read x) P) → (xs : List A) → IfSome (all_read read xs) (All P)
read-all P read h [] = All-nil P
read-all P read h (x ∷ xs) =
    and_then-if (All P) _ (read x) (λ y ey.
    made-if (All P) (All P) _ (all_read read xs) (λ ys ps. All-cons P y ys (some-says P (read x) y ey (h x)) ps) (read-all P read h xs))

none-found : {A : Type 0} (o : Option A) → is_some o ≡ false → o ≡ None
none-found None e = refl
none-found (Some x) e = absurd (false≢true (sym e))

ends-keep : (nodes : List NodeEntry) (talker : List ℕ) (listeners : List (List ℕ)) → IfSome (ends_named nodes talker listeners) (AreStationsApart nodes)
ends-keep nodes talker listeners =
    let P : Ends → Type 0 = AreStationsApart nodes in
    let S : NodeNo → Type 0 = λ x. IsStationNumber nodes x.0 in
    and_then-if P _ (station_named nodes talker) (λ x ex.
    and_then-if P _ (stations_named nodes listeners) (λ xs exs.
    unless-if P (is_among xs x || has_twice xs) _ (λ off.
    (let apart = or_parts (is_among xs x) (has_twice xs) off in
    record {
      talker = some-says S (station_named nodes talker) x ex (station-known talker nodes);
      listeners = some-says (All S) (stations_named nodes listeners) xs exs (read-all S (station_named nodes) (λ name. station-known name nodes) listeners);
      others = (λ i d lt same. false≢true (sym apart.0 ∙ list_any_at (λ (y : NodeNo). eqb y.0 x.0) xs i d lt (eqb-same (get_or xs i d).0 x.0 same)));
      once = (λ i j d lt inside same. pairs-none (λ (y z : NodeNo). eqb y.0 z.0) xs (none-found _ apart.1) i j d lt inside (eqb-same (get_or xs i d).0 (get_or xs j d).0 same));
    }))))

-- ---- streams

-- what a stream entry that has its form keeps
abbrev FormKeeps : List NodeEntry → PlanForm → Type 0
FormKeeps nodes f = (is_name f.name ≡ true) × IfSome f.ends (AreStationsApart nodes) × HasPlanValues f.values

form-keeps : (nodes : List NodeEntry) (n : ℕ) (ms : Members) → IfSome (plan_form nodes n ms) (FormKeeps nodes)
form-keeps nodes n ms =
    let P : PlanForm → Type 0 = FormKeeps nodes in
    and_then-if P _ (name_at (codes "name") ms) (λ name en.
    and_then-if P _ (name_at (codes "talker") ms) (λ talker et.
    and_then-if P _ (listeners_at ms) (λ listeners el.
    and_then-if P _ (values_at ms) (λ values ev. (
      some-says (λ w. is_name w ≡ true) (name_at (codes "name") ms) name en (name-form (codes "name") ms),
      ends-keep nodes talker listeners,
      some-says HasPlanValues (values_at ms) values ev (values-keep ms),
    )))))

names-differ : (forms : List PlanForm) → first_where has_like [] forms ≡ None → AllPairs (λ x y. x.name ≢ y.name) forms
names-differ forms e i j d lt inside same =
    let x = get_or forms i d in
    let y = get_or forms j d in
    pairs-none (λ (b a : PlanForm). pointwise nat_eq b.name a.name || is_same_id b.values.id a.values.id) forms e i j d lt inside
    (or_left _ (is_same_id x.values.id y.values.id) ((bytes_decides x.name y.name).1 same))

ids-differ : (forms : List PlanForm) → first_where has_like [] forms ≡ None → AllPairs (λ x y. is_same_id x.values.id y.values.id ≡ false) forms
ids-differ forms e i j d lt inside =
    let x = get_or forms i d in
    let y = get_or forms j d in
    never-true (is_same_id x.values.id y.values.id) (λ same.
    pairs-none (λ (b a : PlanForm). pointwise nat_eq b.name a.name || is_same_id b.values.id a.values.id) forms e i j d lt inside
    (or_right (pointwise nat_eq x.name y.name) _ same))

-- what two elements that look alike have
pub pairs-like : {A B C : Type 0} (R : C → C → Type 0) (f : A → C) (g : B → C) (xs : List A) (ys : List B) → map g ys ≡ map f xs
    → AllPairs (λ a b. R (f a) (f b)) xs → AllPairs (λ a b. R (g a) (g b)) ys
pairs-like {C = C} R f g xs ys h all i j e lt inside =
    let far : j < length xs = omega (arith, inside, alike-length f g xs ys h) in
    let d = an_element xs j far in
    let first = alike-at f g xs ys h i d e (omega (arith, lt, inside)) in
    let second = alike-at f g xs ys h j d e inside in
    let F : C → Type 0 = λ c. R c (g (get_or ys j e)) in
    let G : C → Type 0 = λ c. R (f (get_or xs i d)) c in
    subst F (sym first) (subst G (sym second) (all i j d lt far))

abbrev EntryKeeps : List NodeEntry → PlanStream → Type 0
EntryKeeps nodes s = (is_name s.name ≡ true) × AreStationsApart nodes s.ends × HasPlanValues s.values

entry-keeps : (nodes : List NodeEntry) (n : ℕ) (form : PlanForm) → FormKeeps nodes form → IfSome (plan_stream n form) (EntryKeeps nodes)
entry-keeps nodes n form k = made-if (AreStationsApart nodes) (EntryKeeps nodes) _ form.ends (λ ends apart. (k.0, apart, k.2)) k.1

pub record WantedKeep (nodes : List NodeEntry) (streams : List PlanStream) : Type 0 where
  pub many : length streams ≤ 128
  pub keep : All (EntryKeeps nodes) streams
  pub names : AllPairs (λ x y. x.name ≢ y.name) streams
  pub ids : AllPairs (λ x y. is_same_id x.values.id y.values.id ≡ false) streams
  pub events : length (events_of nodes streams) ≤ 10000

abbrev StreamsKeep : List NodeEntry → List PlanStream → Type 0
StreamsKeep nodes streams =
    (length streams ≤ 128) × All (EntryKeeps nodes) streams × AllPairs (λ x y. x.name ≢ y.name) streams
    × AllPairs (λ x y. is_same_id x.values.id y.values.id ≡ false) streams

-- nothing of an element
abbrev unseen : {A : Type 0} → A → Unit {0}
unseen x = tt

forms-keep : (nodes : List NodeEntry) (entries : List Members)
    → IfOk (each_entry 51 (plan_form nodes) 1 entries) (λ forms. All (FormKeeps nodes) forms × (length forms ≡ length entries))
forms-keep nodes entries =
    let F = FormKeeps nodes in
    let read = each_entry 51 (plan_form nodes) 1 entries in
    ok-both (All F) (λ forms. length forms ≡ length entries) read
    (each-all Any F 51 (plan_form nodes) (λ n x _. form-keeps nodes n x) 1 entries (all-any entries))
    (ok-all read (λ forms. length forms ≡ length entries) (λ forms is.
    alike-length unseen unseen entries forms
    (ok-says (λ ys. map unseen ys ≡ map unseen entries) read forms is
    (each-map unseen unseen 51 (plan_form nodes) (λ n x. seen (plan_form nodes n x)) 1 entries))))
  where
    seen : (o : Option PlanForm) → IfSome o (λ y. unseen y ≡ tt)
    seen None = tt
    seen (Some y) = refl

streams-keep : (nodes : List NodeEntry) (entries : List Members) → length entries ≤ 128 → IfOk (streams_of nodes entries) (StreamsKeep nodes)
streams-keep nodes entries few =
    let P = StreamsKeep nodes in
    let F = FormKeeps nodes in
    let K = EntryKeeps nodes in
    chain-if P _ (each_entry 51 (plan_form nodes) 1 entries) _ (forms-keep nodes entries) (λ forms f.
    chain-none P 52 (first_where has_like [] forms) _ (λ other.
    (let known = each_entry 53 plan_stream 1 forms in
    ok-all known P (λ streams es.
    (let named = ok-says (λ ys. map (λ (s : PlanStream). s.name) ys ≡ map (λ (x : PlanForm). x.name) forms) known streams es
    (each-map (λ (x : PlanForm). x.name) (λ (s : PlanStream). s.name) 53 plan_stream (λ n form. map-if _ _ form.ends (λ x e. refl)) 1 forms) in
    let given = ok-says (λ ys. map (λ (s : PlanStream). s.values.id) ys ≡ map (λ (x : PlanForm). x.values.id) forms) known streams es
    (each-map (λ (x : PlanForm). x.values.id) (λ (s : PlanStream). s.values.id) 53 plan_stream (λ n form. map-if _ _ form.ends (λ x e. refl)) 1 forms) in (
      omega (arith, few, f.1, alike-length (λ (x : PlanForm). x.name) (λ (s : PlanStream). s.name) forms streams named),
      ok-says (All K) known streams es (each-all F K 53 plan_stream (λ n x h. entry-keeps nodes n x h) 1 forms f.0),
      pairs-alike (λ (x : PlanForm). x.name) (λ (s : PlanStream). s.name) forms streams named (names-differ forms other),
      pairs-like (λ a b. is_same_id a b ≡ false) (λ (x : PlanForm). x.values.id) (λ (s : PlanStream). s.values.id) forms streams given (ids-differ forms other),
    ))))))

-- what is kept of the streams, and that few events come of them
pub wanted-keep : (nodes : List NodeEntry) (entries : List Members) → length entries ≤ 128 → IfOk (wanted_of nodes entries) (WantedKeep nodes)
wanted-keep nodes entries few =
    chain-if (WantedKeep nodes) _ (streams_of nodes entries) _ (streams-keep nodes entries few) (λ streams s.
    chain-holds (WantedKeep nodes) 54 (nat_le (length (events_of nodes streams)) 10000) _ (λ e.
    record { many = s.0; keep = s.1; names = s.2; ids = s.3; events = leb-true (length (events_of nodes streams)) 10000 e }))

-- a plan of a network and of streams that keep this
pub made-keeps : (network : ScenarioPlan) (streams : List PlanStream) → KeepsRules network → WantedKeep network.nodes streams
    → KeepsPlanRules (record { network = network; streams = streams })
made-keeps network streams n w =
    let K = EntryKeeps network.nodes in
    record {
      network = n;
      streams_many = w.many;
      forms = All-weaker K (λ s. is_name s.name ≡ true) (λ s h. h.0) streams w.keep;
      values = All-weaker K (λ s. HasPlanValues s.values) (λ s h. h.2) streams w.keep;
      ends = All-weaker K (λ s. AreStationsApart network.nodes s.ends) (λ s h. h.1) streams w.keep;
      names = w.names;
      ids = w.ids;
      events_many = w.events;
    }

tables-few : (ms : Members) → IfOk (stream_tables_of ms) (λ entries. length entries ≤ 128)
tables-few ms =
    let P : List Members → Type 0 = λ entries. length entries ≤ 128 in
    chain-holds P 50 (has_only plan_keys ms) _ (λ _.
    chain-needs P 50 (tables (codes "stream") ms) _ (λ entries _.
    chain-holds P 50 (nat_le (length entries) 128) _ (λ e. leb-true (length entries) 128 e)))

-- every plan that a table is read as keeps the rules
pub plan-keeps : AcceptedLaw → (ms : Members) → IfOk (plan_of ms) KeepsPlanRules
plan-keeps law ms =
    let P = KeepsPlanRules in
    chain-if P _ (scenario_of (network_members ms)) _ (scenario-keeps law (network_members ms)) (λ network n.
    chain-if P _ (stream_tables_of ms) _ (tables-few ms) (λ entries few.
    chain-if P _ (wanted_of network.nodes entries) _ (wanted-keep network.nodes entries few) (λ streams w. made-keeps network streams n w)))

-- no more streams are read than a plan may have
pub few-streams : {A : Type 0} (nodes : List NodeEntry) (streams : List PlanStream) (f : A → Members) (entries : List A) → length entries ≤ 128
    → streams_of nodes (map f entries) ≡ Ok streams → length streams ≤ 128
few-streams nodes streams f entries few is =
    (ok-says (StreamsKeep nodes) (streams_of nodes (map f entries)) streams is (streams-keep nodes (map f entries) (omega (arith, few, length-map entries f)))).0

-- what is kept of the streams of some tables
pub wanted-kept : {A : Type 0} (nodes : List NodeEntry) (streams : List PlanStream) (f : A → Members) (entries : List A) → length entries ≤ 128
    → wanted_of nodes (map f entries) ≡ Ok streams → WantedKeep nodes streams
wanted-kept nodes streams f entries few is =
    ok-says (WantedKeep nodes) (wanted_of nodes (map f entries)) streams is (wanted-keep nodes (map f entries) (omega (arith, few, length-map entries f)))
