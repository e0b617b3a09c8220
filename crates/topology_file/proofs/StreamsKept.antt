-- What every scenario keeps of its streams.
use Rattle.std.proofs.Common.{◌≡◌, ◌≢◌, ℕ, ◌-◌, ◌<◌, ◌≤◌, ◌^◌, true, false, ◌&&◌, List, [], length, get_or, Option, Some, None, Ok, refl, sym, ap, ◌∙◌, eqb, leb-true, IfSome, IfOk, map, arith}
use Rattle.std.proofs.lemmas.{Bool.and_parts, Bool.false≢true, List.Elements.All-weaker, List.Folds.list_any_at}
use Rattle.std.specs.{Cmp.Lexicographic.pointwise, Cmp.Lexicographic.bytes_decides, List.All}
use Rattle.std.specs.Prelude.{AllPairs, nat_le, nat_eq, codes}
use Rattle.srp_base.proofs.Options.{opened as some-says}
use Rattle.srp_base.specs.{Firsts.first_where, Hexadecimal.hex12, Hexadecimal.hex16}
use Rattle.srp_base.proofs.FirstLemmas.{where-some}
use Rattle.toml.specs.Data.{Members}
use Rattle.toml_rules.specs.{Fields.number, Fields.number_or, Fields.text, Fields.has_only, Rules.each_entry}
use Rattle.topology_file.specs.{NodeEntry, StreamEntry, StreamForm, StreamValues, is_name, name_at, IsStationNumber, IsStreamNumber, IsNotTalker, has_stream_name_of, has_stream_id_of, streams_of, HasStreamForm, stream_keys, stream_id_at, dest_at, octets_at, frames_at, stream_vid_at, priority_at, rank_at, values_at, stream_form, stream_entry, is_stream_named, stream_named, is_talker_of}
use Rattle.topology_file.proofs.{Chains.and_then-if, Chains.map-if, Chains.made-if, Chains.when-if, Chains.within-range, Chains.chain-if, Chains.chain-none, Chains.ok-all, Chains.ok-says, Chains.each-all, Chains.each-map, Chains.each-keeps, Chains.alike-length, Chains.pairs-alike, HexRanges.hex12-range, HexRanges.hex16-range, NetworkKept.name-form, NetworkKept.eqb-same, NetworkKept.pairs-none, NetworkKept.station-known}

-- ---- forms

-- the ranges of what a Talker declares
record HasRanges (v : StreamValues) : Type 0 where
  id : v.id.0 < 2 ^ 64
  dest : v.dest < 2 ^ 48
  octets : v.octets ≤ 65535
  frames : v.frames ≤ 65535
  vid : (1 ≤ v.vid) × (v.vid ≤ 4094)
  priority : v.priority ≤ 7

values-ranges : (ms : Members) → IfSome (values_at ms) HasRanges
values-ranges ms =
    and_then-if HasRanges _ (stream_id_at ms) (λ id ei.
    and_then-if HasRanges _ (dest_at ms) (λ dest ed.
    and_then-if HasRanges _ (octets_at ms) (λ octets eo.
    and_then-if HasRanges _ (frames_at ms) (λ frames ef.
    and_then-if HasRanges _ (stream_vid_at ms) (λ vid ev.
    and_then-if HasRanges _ (priority_at ms) (λ priority ep.
    and_then-if HasRanges _ (rank_at ms) (λ rank er. record {
      id = some-says (λ n. n < 2 ^ 64) (stream_id_at ms) id ei (and_then-if (λ n. n < 2 ^ 64) hex16 (text (codes "id") ms) (λ digits e. hex16-range digits));
      dest = some-says (λ n. n < 2 ^ 48) (dest_at ms) dest ed (and_then-if (λ n. n < 2 ^ 48) hex12 (text (codes "dest") ms) (λ digits e. hex12-range digits));
      octets = (some-says (λ n. (0 ≤ n) × (n ≤ 65535)) (octets_at ms) octets eo (within-range 0 65535 (number (codes "octets") ms))).1;
      frames = (some-says (λ n. (0 ≤ n) × (n ≤ 65535)) (frames_at ms) frames ef (within-range 0 65535 (number (codes "frames") ms))).1;
      vid = some-says (λ n. (1 ≤ n) × (n ≤ 4094)) (stream_vid_at ms) vid ev (within-range 1 4094 (number_or (codes "vid") 2 ms));
      priority = (some-says (λ n. (0 ≤ n) × (n ≤ 7)) (priority_at ms) priority ep (within-range 0 7 (number_or (codes "priority") 3 ms))).1;
    })))))))

-- what a stream entry that has its form keeps
abbrev FormKeeps : List NodeEntry → StreamForm → Type 0
FormKeeps nodes f = (is_name f.name ≡ true) × IfSome f.talker (λ x. IsStationNumber nodes x.0) × HasRanges f.values

form-keeps : (nodes : List NodeEntry) (n : ℕ) (ms : Members) → IfSome (stream_form nodes n ms) (λ f. FormKeeps nodes f × (n ≤ 128))
form-keeps nodes n ms =
    let P : StreamForm → Type 0 = λ f. FormKeeps nodes f × (n ≤ 128) in
    when-if P (nat_le n 128 && has_only stream_keys ms) _ (λ known.
    and_then-if P _ (name_at (codes "name") ms) (λ name en.
    and_then-if P _ (name_at (codes "talker") ms) (λ talker et.
    and_then-if P _ (values_at ms) (λ values ev. (
      (
        some-says (λ w. is_name w ≡ true) (name_at (codes "name") ms) name en (name-form (codes "name") ms),
        station-known talker nodes,
        some-says HasRanges (values_at ms) values ev (values-ranges ms),
      ),
      leb-true n 128 (and_parts (nat_le n 128) (has_only stream_keys ms) known).0,
    )))))

-- ---- what differs

names-differ : (forms : List StreamForm) → first_where has_stream_name_of [] forms ≡ None → AllPairs (λ x y. x.name ≢ y.name) forms
names-differ forms e i j d lt inside same =
    pairs-none (λ (y x : StreamForm). pointwise nat_eq y.name x.name) forms e i j d lt inside ((bytes_decides (get_or forms i d).name (get_or forms j d).name).1 same)

ids-differ : (forms : List StreamForm) → first_where has_stream_id_of [] forms ≡ None → AllPairs (λ x y. x.values.id.0 ≢ y.values.id.0) forms
ids-differ forms e i j d lt inside same =
    pairs-none (λ (y x : StreamForm). eqb y.values.id.0 x.values.id.0) forms e i j d lt inside (eqb-same (get_or forms i d).values.id.0 (get_or forms j d).values.id.0 same)

-- ---- entries

-- what a stream keeps
abbrev EntryKeeps : List NodeEntry → StreamEntry → Type 0
EntryKeeps nodes s = HasStreamForm s × IsStationNumber nodes s.talker.0

entry-keeps : (nodes : List NodeEntry) (n : ℕ) (form : StreamForm) → FormKeeps nodes form → IfSome (stream_entry n form) (EntryKeeps nodes)
entry-keeps nodes n form k =
    made-if (λ x. IsStationNumber nodes x.0) (EntryKeeps nodes) _ form.talker
    (λ x station. (record { name = k.0; id = k.2.id; dest = k.2.dest; octets = k.2.octets; frames = k.2.frames; vid = k.2.vid; priority = k.2.priority }, station))
    k.1

entry-name : (n : ℕ) (form : StreamForm) → IfSome (stream_entry n form) (λ s. s.name ≡ form.name)
entry-name n form = map-if _ _ form.talker (λ x e. refl)

entry-id : (n : ℕ) (form : StreamForm) → IfSome (stream_entry n form) (λ s. s.id.0 ≡ form.values.id.0)
entry-id n form = map-if _ _ form.talker (λ x e. refl)

pub record StreamsKeep (nodes : List NodeEntry) (streams : List StreamEntry) : Type 0 where
  pub many : length streams ≤ 128
  pub forms : All HasStreamForm streams
  pub names : AllPairs (λ x y. x.name ≢ y.name) streams
  pub ids : AllPairs (λ x y. x.id.0 ≢ y.id.0) streams
  pub talkers : All (λ s. IsStationNumber nodes s.talker.0) streams

forms-keep : (nodes : List NodeEntry) (entries : List Members)
    → IfOk (each_entry 16 (stream_form nodes) 1 entries) (λ forms. All (FormKeeps nodes) forms × (length forms ≤ 128))
forms-keep nodes entries = each-keeps (FormKeeps nodes) 128 16 (stream_form nodes) (form-keeps nodes) entries

pub streams-keep : (nodes : List NodeEntry) (entries : List Members) → IfOk (streams_of nodes entries) (StreamsKeep nodes)
streams-keep nodes entries =
    let P = StreamsKeep nodes in
    let F = FormKeeps nodes in
    let K = EntryKeeps nodes in
    chain-if P _ (each_entry 16 (stream_form nodes) 1 entries) _ (forms-keep nodes entries) (λ forms f.
    chain-none P 17 (first_where has_stream_name_of [] forms) _ (λ names.
    chain-none P 18 (first_where has_stream_id_of [] forms) _ (λ ids.
    (let read = each_entry 19 stream_entry 1 forms in
    ok-all read P (λ streams is.
    (let named = ok-says (λ ys. map (λ (s : StreamEntry). s.name) ys ≡ map (λ (x : StreamForm). x.name) forms) read streams is
    (each-map (λ (x : StreamForm). x.name) (λ (s : StreamEntry). s.name) 19 stream_entry entry-name 1 forms) in
    let known = ok-says (λ ys. map (λ (s : StreamEntry). s.id.0) ys ≡ map (λ (x : StreamForm). x.values.id.0) forms) read streams is
    (each-map (λ (x : StreamForm). x.values.id.0) (λ (s : StreamEntry). s.id.0) 19 stream_entry entry-id 1 forms) in
    let keep = ok-says (All K) read streams is (each-all F K 19 stream_entry (λ n x h. entry-keeps nodes n x h) 1 forms f.0) in
    record {
      many = omega (arith, f.1, alike-length (λ (x : StreamForm). x.name) (λ (s : StreamEntry). s.name) forms streams named);
      forms = All-weaker K HasStreamForm (λ s h. h.0) streams keep;
      names = pairs-alike (λ (x : StreamForm). x.name) (λ (s : StreamEntry). s.name) forms streams named (names-differ forms names);
      ids = pairs-alike (λ (x : StreamForm). x.values.id.0) (λ (s : StreamEntry). s.id.0) forms streams known (ids-differ forms ids);
      talkers = All-weaker K (λ s. IsStationNumber nodes s.talker.0) (λ s h. h.1) streams keep;
    }))))))

-- no more streams are read than a scenario may have
pub few-streams : (nodes : List NodeEntry) (streams : List StreamEntry) (entries : List Members) → streams_of nodes entries ≡ Ok streams → length streams ≤ 128
few-streams nodes streams entries is = (ok-says (StreamsKeep nodes) (streams_of nodes entries) streams is (streams-keep nodes entries)).many

-- ---- the streams of names

-- the number of a name is a stream of this name
stream-first : (name : List ℕ) (streams : List StreamEntry) (n : ℕ) → stream_named streams name ≡ Some n
    → IsStreamNumber streams n × ((d : StreamEntry) → is_stream_named name (get_or streams (n - 1) d) ≡ true)
stream-first name streams n e =
    let f = where-some (λ (earlier : List StreamEntry) (s : StreamEntry). is_stream_named name s) streams n e in
    let back : f.place ≡ n - 1 = omega (arith, f.number) in
    ((omega (arith, f.number), omega (arith, f.number, f.inside)), (λ d. ap (λ (i : ℕ). is_stream_named name (get_or streams i d)) (sym back) ∙ f.passes d))

pub stream-known : (name : List ℕ) (streams : List StreamEntry) (o : Option ℕ) → stream_named streams name ≡ o → IfSome o (IsStreamNumber streams)
stream-known name streams None e = tt
stream-known name streams (Some n) e = (stream-first name streams n e).0

-- who doesn't talk in the stream of a name isn't the talker of its number
pub not-talker : (name : List ℕ) (streams : List StreamEntry) (x n : ℕ) → stream_named streams name ≡ Some n → is_talker_of streams name x ≡ false → IsNotTalker streams x n
not-talker name streams x n e silent d same =
    let first = stream-first name streams n e in
    let i = n - 1 in
    let inside : i < length streams = omega (arith, first.0.0, first.0.1) in
    let test = λ (s : StreamEntry). is_stream_named name s && eqb s.talker.0 x in
    let here : test (get_or streams i d) ≡ true = ap (λ b. b && eqb (get_or streams i d).talker.0 x) (first.1 d) ∙ eqb-same (get_or streams i d).talker.0 x same in
    false≢true (sym silent ∙ list_any_at test streams i d inside here)
