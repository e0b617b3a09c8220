-- The tables of a plan's streams are read as these streams.
use Rattle.std.proofs.Common.{◌≡◌, ◌≢◌, ◌∙◌, ℕ, ◌+◌, ◌<◌, ◌≤◌, ◌^◌, Bool, true, false, ◌&&◌, ◌==◌, nat_le, List, [], ◌∷◌, map, length, get_or, Option, Some, None, Ok, refl, sym, ap, subst, le-leb, eqb, arith}
use Rattle.std.proofs.lemmas.{Bool.Decides.nat_tests, List.Elements.All-cons, List.Elements.All-head, List.Elements.All-nil, List.Elements.All-tail}
use Rattle.std.specs.{Cmp.Lexicographic.pointwise, Cmp.Lexicographic.bytes_decides, List.All}
use Rattle.std.specs.Prelude.{AllPairs, codes, nat_eq}
use Rattle.srp_base.specs.Results.{◌>>=◌}
use Rattle.srp_base.specs.declared.bandwidth.{Class.Class, Class.TheVariants.A, Class.TheVariants.B, Rank.Rank, Rank.TheVariants.Emergency, Rank.TheVariants.Normal}
use Rattle.srp_base.specs.Firsts.{first_where}
use Rattle.toml.specs.Data.{Members}
use Rattle.toml_rules.specs.{Fields.has_only, Rules.each_entry, Rules.no_entry}
use Rattle.topology_file.specs.{Kinds.IsStationNumber, declared.entries.NodeEntry.NodeEntry, declared.entries.StreamEntry.StreamEntry, Streams.dest_at, Streams.frames_at, Scenario.has_stream_id_of, Scenario.has_stream_name_of, Entries.is_name, Streams.known_stream, Entries.name_at, Streams.octets_at, Streams.priority_at, Streams.rank_at, Streams.rank_of_number, Entries.station_named, Streams.stream_entry, Streams.stream_form, Streams.stream_id_at, Streams.stream_keys, Streams.stream_vid_at, Scenario.streams_of, Streams.values_at}
use Rattle.topology_file.proofs.Chains.{alike-length}
use Rattle.plan_file.specs.{AreStationsApart, HasPlanValues, PlanStream, node_name, priority_of, rank_number, stream_members, stream_of, streams_members, streams_with}
use Rattle.plan_file.proofs.{Digits.dest-back, Digits.id-back, Digits.name-back, Lookups.never-true, Lookups.station-found, NetworkRead.node-text, PlanKept.pairs-like, Readings.each-made, Readings.no-pair, Readings.none-then, Readings.ok-then, Readings.pairs-map, Readings.then-some, Readings.when-true, Readings.within-some}

-- a stream with its StreamID and its address
abbrev Numbered : Type 0
Numbered = PlanStream × ℕ × ℕ

-- streams side by side with these
abbrev numbered_with : List PlanStream → List ℕ → List ℕ → List Numbered
numbered_with (s ∷ ss) (id ∷ ids) (dest ∷ dests) = (s, id, dest) ∷ numbered_with ss ids dests
numbered_with _ _ _ = []

rank-back : (rank : Rank) → rank_of_number (rank_number rank) ≡ Some rank
rank-back Emergency = refl
rank-back Normal = refl

priority-few : (class : Class) → priority_of class ≤ 7
priority-few A = omega arith
priority-few B = omega arith

-- ---- side by side

pub names-kept : (ss : List PlanStream) (ids dests : List ℕ) → length ids ≡ length ss → length dests ≡ length ss
    → map (λ (t : Numbered). t.0.name) (numbered_with ss ids dests) ≡ map (λ (s : PlanStream). s.name) ss
names-kept [] ids dests li ld = refl
names-kept (s ∷ ss) [] dests li ld = absurd (omega (arith, li))
names-kept (s ∷ ss) (id ∷ ids) [] li ld = absurd (omega (arith, ld))
names-kept (s ∷ ss) (id ∷ ids) (dest ∷ dests) li ld = ap (λ ns. s.name ∷ ns) (names-kept ss ids dests (omega (arith, li)) (omega (arith, ld)))

ids-kept : (ss : List PlanStream) (ids dests : List ℕ) → length ids ≡ length ss → length dests ≡ length ss
    → map (λ (t : Numbered). t.1) (numbered_with ss ids dests) ≡ map (λ (n : ℕ). n) ids
ids-kept [] [] dests li ld = refl
ids-kept [] (id ∷ ids) dests li ld = absurd (omega (arith, li))
ids-kept (s ∷ ss) [] dests li ld = absurd (omega (arith, li))
ids-kept (s ∷ ss) (id ∷ ids) [] li ld = absurd (omega (arith, ld))
ids-kept (s ∷ ss) (id ∷ ids) (dest ∷ dests) li ld = ap (λ ns. id ∷ ns) (ids-kept ss ids dests (omega (arith, li)) (omega (arith, ld)))

module _ (nodes : List NodeEntry) (names : AllPairs (λ x y. x.name ≢ y.name) nodes) (forms : All (λ x. is_name x.name ≡ true) nodes) where
  -- what a stream has that is written and read back
  pub record IsStreamWritable (t : Numbered) : Type 0 where
    pub name : is_name t.0.name ≡ true
    pub talker : IsStationNumber nodes t.0.ends.talker.0
    pub values : HasPlanValues t.0.values
    pub id : t.1 < 2 ^ 64
    pub dest : t.2 < 2 ^ 48

  stream-back : (n : ℕ) (t : Numbered) → n ≤ 128 → IsStreamWritable t → stream_form nodes n (stream_members nodes t.0 t.1 t.2) ≡ Some (record { name = t.0.name; talker = Some t.0.ends.talker; values = record { id = record { 0 = t.1 }; dest = t.2; octets = t.0.values.octets; frames = t.0.values.frames; vid = t.0.values.vid; priority = priority_of t.0.values.class; rank = t.0.values.rank } })
  stream-back n t few w =
      let s = t.0 in
      let ms = stream_members nodes s t.1 t.2 in
      let v = s.values in
      when-true (nat_le n 128 && has_only stream_keys ms) _ _ (ap (λ b. b && has_only stream_keys ms) (le-leb n 128 few))
      ∙ then-some _ (name_at (codes "name") ms) s.name (name-back s.name w.name)
      ∙ then-some _ (name_at (codes "talker") ms) (node_name nodes s.ends.talker) (name-back (node_name nodes s.ends.talker) (node-text nodes names forms s.ends.talker w.talker.0))
      ∙ then-some _ (values_at ms) (record { id = record { 0 = t.1 }; dest = t.2; octets = t.0.values.octets; frames = t.0.values.frames; vid = t.0.values.vid; priority = priority_of t.0.values.class; rank = t.0.values.rank })
      (then-some _ (stream_id_at ms) t.1 (id-back t.1 w.id)
      ∙ then-some _ (dest_at ms) t.2 (dest-back t.2 w.dest)
      ∙ then-some _ (octets_at ms) v.octets (within-some 0 65535 v.octets (omega arith) (omega (arith, w.values.octets)))
      ∙ then-some _ (frames_at ms) v.frames (within-some 0 65535 v.frames (omega arith) (omega (arith, w.values.frames.1)))
      ∙ then-some _ (stream_vid_at ms) v.vid (within-some 1 4094 v.vid w.values.vid.0 w.values.vid.1)
      ∙ then-some _ (priority_at ms) (priority_of v.class) (within-some 0 7 (priority_of v.class) (omega arith) (priority-few v.class))
      ∙ then-some _ (rank_at ms) v.rank (rank-back v.rank))
      ∙ ap (λ talker. Some (record { name = s.name; talker = talker; values = record { id = record { 0 = t.1 }; dest = t.2; octets = t.0.values.octets; frames = t.0.values.frames; vid = t.0.values.vid; priority = priority_of t.0.values.class; rank = t.0.values.rank } })) (station-found nodes names s.ends.talker w.talker)

  -- ---- all of them

  tables-numbered : (ss : List PlanStream) (ids dests : List ℕ)
      → streams_members nodes ss ids dests ≡ map (λ (t : Numbered). stream_members nodes t.0 t.1 t.2) (numbered_with ss ids dests)
  tables-numbered [] ids dests = refl
  tables-numbered (s ∷ ss) [] dests = refl
  tables-numbered (s ∷ ss) (id ∷ ids) [] = refl
  tables-numbered (s ∷ ss) (id ∷ ids) (dest ∷ dests) = ap (λ ts. stream_members nodes s id dest ∷ ts) (tables-numbered ss ids dests)

  streams-numbered : (ss : List PlanStream) (ids dests : List ℕ) → map (λ (t : Numbered). stream_of t.0 t.1 t.2) (numbered_with ss ids dests) ≡ streams_with ss ids dests
  streams-numbered [] ids dests = refl
  streams-numbered (s ∷ ss) [] dests = refl
  streams-numbered (s ∷ ss) (id ∷ ids) [] = refl
  streams-numbered (s ∷ ss) (id ∷ ids) (dest ∷ dests) = ap (λ ts. stream_of s id dest ∷ ts) (streams-numbered ss ids dests)

  entries-back : (ts : List Numbered) → length ts ≤ 128 → All IsStreamWritable ts
      → AllPairs (λ x y. x.0.name ≢ y.0.name) ts → AllPairs (λ x y. x.1 ≢ y.1) ts
      → streams_of nodes (map (λ (t : Numbered). stream_members nodes t.0 t.1 t.2) ts) ≡ Ok (map (λ (t : Numbered). stream_of t.0 t.1 t.2) ts)
  entries-back ts few all apart ids =
      ok-then _ _ _
      (each-made IsStreamWritable 16 128 (stream_form nodes) (λ t. stream_members nodes t.0 t.1 t.2) (λ t. record { name = t.0.name; talker = Some t.0.ends.talker; values = record { id = record { 0 = t.1 }; dest = t.2; octets = t.0.values.octets; frames = t.0.values.frames; vid = t.0.values.vid; priority = priority_of t.0.values.class; rank = t.0.values.rank } }) stream-back 1 ts (omega (arith, few)) all)
      ∙ none-then 17 _ _
      (no-pair _ _ (pairs-map _ (λ y x. pointwise nat_eq y.name x.name ≡ false) ts (λ i j d lt inside.
      never-true _ (λ t. apart i j d lt inside ((bytes_decides (get_or ts i d).0.name (get_or ts j d).0.name).0 t)))))
      ∙ none-then 18 _ _
      (no-pair _ _ (pairs-map _ (λ y x. (y.values.id.0 == x.values.id.0) ≡ false) ts (λ i j d lt inside.
      never-true _ (λ t. ids i j d lt inside (equal (get_or ts i d).1 (get_or ts j d).1 t)))))
      ∙ each-made (λ t. Unit {0}) 19 (length ts) stream_entry _ (λ t. stream_of t.0 t.1 t.2) (λ n t _ _. refl) 1 ts (omega arith) (λ i d lt. tt)
    where
      equal : (a b : ℕ) → eqb a b ≡ true → a ≡ b
      equal a b e = grind (arith, nat_tests)

  writable-all : (ss : List PlanStream) (ids dests : List ℕ) → All (λ s. is_name s.name ≡ true) ss → All (λ s. AreStationsApart nodes s.ends) ss
      → All (λ s. HasPlanValues s.values) ss → All (λ n. n < 2 ^ 64) ids → All (λ n. n < 2 ^ 48) dests → All IsStreamWritable (numbered_with ss ids dests)
  writable-all [] ids dests a b c i d = All-nil IsStreamWritable
  writable-all (s ∷ ss) [] dests a b c i d = All-nil IsStreamWritable
  writable-all (s ∷ ss) (id ∷ ids) [] a b c i d = All-nil IsStreamWritable
  writable-all (s ∷ ss) (id ∷ ids) (dest ∷ dests) a b c i d =
      All-cons IsStreamWritable (s, id, dest) (numbered_with ss ids dests)
      (record {
        name = All-head (λ s. is_name s.name ≡ true) s ss a;
        talker = (All-head (λ s. AreStationsApart nodes s.ends) s ss b).talker;
        values = All-head (λ s. HasPlanValues s.values) s ss c;
        id = All-head (λ n. n < 2 ^ 64) id ids i;
        dest = All-head (λ n. n < 2 ^ 48) dest dests d;
      })
      (writable-all ss ids dests (All-tail (λ s. is_name s.name ≡ true) s ss a) (All-tail (λ s. AreStationsApart nodes s.ends) s ss b) (All-tail (λ s. HasPlanValues s.values) s ss c) (All-tail (λ n. n < 2 ^ 64) id ids i) (All-tail (λ n. n < 2 ^ 48) dest dests d))

  -- the tables of streams whose names and StreamIDs differ are read as these streams
  pub streams-back : (ss : List PlanStream) (ids dests : List ℕ) → length ss ≤ 128 → length ids ≡ length ss → length dests ≡ length ss
      → All (λ s. is_name s.name ≡ true) ss → All (λ s. AreStationsApart nodes s.ends) ss → All (λ s. HasPlanValues s.values) ss
      → All (λ n. n < 2 ^ 64) ids → All (λ n. n < 2 ^ 48) dests → AllPairs (λ x y. x.name ≢ y.name) ss → AllPairs (λ x y. x ≢ y) ids
      → streams_of nodes (streams_members nodes ss ids dests) ≡ Ok (streams_with ss ids dests)
  streams-back ss ids dests few li ld a b c i d apart differ =
      let ts = numbered_with ss ids dests in
      let kept = names-kept ss ids dests li ld in
      ap (streams_of nodes) (tables-numbered ss ids dests)
      ∙ entries-back ts (omega (arith, few, alike-length (λ (s : PlanStream). s.name) (λ (t : Numbered). t.0.name) ss ts kept))
      (writable-all ss ids dests a b c i d)
      (pairs-like (λ x y. x ≢ y) (λ (s : PlanStream). s.name) (λ (t : Numbered). t.0.name) ss ts kept apart)
      (pairs-like (λ x y. x ≢ y) (λ (n : ℕ). n) (λ (t : Numbered). t.1) ids ts (ids-kept ss ids dests li ld) differ)
      ∙ ap Ok (streams-numbered ss ids dests)
