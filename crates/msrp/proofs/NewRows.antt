-- Settling a port adds a row only for a key that awaits there and has none.
use Rattle.std.proofs.Common.{◌≡◌, ◌≤◌, ◌+◌, ℕ, suc, Bool, true, false, ◌||◌, if◌then◌else◌, List, [], ◌∷◌, map, refl, sym, ap, ◌∙◌, arith}
use Rattle.std.specs.Prelude.{slice_get, slice_set, Option, Some, None, is_some, unwrap_or}
use Rattle.std.specs.{List.AllByRecursion, Ordering.is_eq}
use Rattle.srp_base.proofs.Lists.{each-get}
use Rattle.srp_base.specs.declared.{numbers.StreamId.StreamId, streams.Talker.Talker, streams.TalkerReg.TalkerReg}
use Rattle.srp_base.specs.declared.streams.TalkerReg.TheVariants.{Absent, Advertise, Failed}
use Rattle.stream_importance.specs.declared.{entry.Fit.Fit, entry.Fit.TheVariants.Fits}
use Rattle.msrp_talker.specs.declared.port_config.PortConfig.{PortConfig}
use Rattle.msrp_talker.specs.TalkerOut.{declared_of, delayed_by, refusal_of, talker_out}
use Rattle.port_ledger.specs.Book.{Book}
use Rattle.attribute_propagation.specs.Dirty.{is_awaiting}
use Rattle.mrp_participant.specs.{Lookup.ChangesOnly, Lookup.find, Lookup.same, Row.after_declare, Row.after_withdraw, Row.declared_in, State.AreRows, State.declared_state, State.withdrawn_state}
use Rattle.msrp_codec.specs.declared.{pdu.MsrpKey.MsrpKey, pdu.MsrpContent.MsrpContent}
use Rattle.msrp_codec.specs.declared.pdu.MsrpKey.TheVariants as keys
use Rattle.msrp.specs.PortState.{PortState}
use Rattle.msrp.specs.Part.{Part}
use Rattle.msrp.specs.{Stated, key_cmp, same_content, settled_as, talker_content, Registrations, registrations_of, edge_at, first_talker, fit_at, is_talker_port, stated_at, talker_at, Streams, IsKept, IsPort, seen_by, missing_row, missing_rows, new_row, new_rows, stated_of, stated_with}
use Rattle.msrp.proofs.{Carried.own_ledger, Contents.MsrpRow, KeyLemmas.key_is, KeyLemmas.key_self}

-- the laws of a participant's rows that this rests on
pub record RowLaws : Type 0 where
  pub declare_rows : (s : Part) (key : MsrpKey) (c : MsrpContent) → AreRows key_cmp s.rows → AreRows key_cmp (declared_state key_cmp same_content key c s).rows
  pub withdraw_rows : (s : Part) (key : MsrpKey) → AreRows key_cmp s.rows → AreRows key_cmp (withdrawn_state key_cmp key s).rows
  pub declare_only : (s : Part) (key : MsrpKey) (c : MsrpContent) → AreRows key_cmp s.rows
      → ChangesOnly key_cmp key (after_declare same_content key c (find key_cmp key s.rows)) s.rows (declared_state key_cmp same_content key c s).rows
  pub withdraw_only : (s : Part) (key : MsrpKey) → AreRows key_cmp s.rows
      → ChangesOnly key_cmp key (after_withdraw (find key_cmp key s.rows)) s.rows (withdrawn_state key_cmp key s).rows

-- whether a key has a row
abbrev has_row : MsrpKey → Part → Bool
has_row key s = is_some (find key_cmp key s.rows)

-- each key that has a row before has one afterwards
abbrev KeepsRows : Part → Part → Type 0
KeepsRows s t = (k : MsrpKey) → has_row k s ≡ true → has_row k t ≡ true

-- ---- how many keys have no row

abbrev lack : Bool → ℕ
lack has = if has then 0 else 1

one_at_most : (b : Bool) → lack b ≤ 1
one_at_most true = omega arith
one_at_most false = omega arith

row_less : (s t : Part) → KeepsRows s t → (k : MsrpKey) → missing_row k t ≤ missing_row k s
row_less s t stays k = by (has_row k s) refl
  where
    by : (b : Bool) → has_row k s ≡ b → missing_row k t ≤ missing_row k s
    by true e =
        let after : missing_row k t ≡ 0 = ap lack (stays k e) in
        omega (arith, after)
    by false e =
        let before : missing_row k s ≡ 1 = ap lack e in
        let after : missing_row k t ≤ 1 = one_at_most (has_row k t) in
        omega (arith, before, after)

rows_less : (s t : Part) → KeepsRows s t → (ks : List MsrpKey) → missing_rows ks t ≤ missing_rows ks s
rows_less s t stays [] = omega arith
rows_less s t stays (k ∷ ks) = omega (arith, row_less s t stays k, rows_less s t stays ks)

-- fewer by one, where a key among them gets its row
less_at : (s t : Part) → KeepsRows s t → (key : MsrpKey) → has_row key s ≡ false → has_row key t ≡ true → (k : MsrpKey) (ks : List MsrpKey) (b : Bool)
    → is_eq (key_cmp k key) ≡ b → (is_awaiting key_cmp key ks ≡ true → suc (missing_rows ks t) ≤ missing_rows ks s) → (b || is_awaiting key_cmp key ks) ≡ true
    → suc (missing_row k t + missing_rows ks t) ≤ missing_row k s + missing_rows ks s
less_at s t stays key lacks got k ks true e rest there =
    let one : k ≡ key = key_is k key e in
    let before : missing_row k s ≡ 1 = ap (λ x. missing_row x s) one ∙ ap lack lacks in
    let after : missing_row k t ≡ 0 = ap (λ x. missing_row x t) one ∙ ap lack got in
    omega (arith, before, after, rows_less s t stays ks)
less_at s t stays key lacks got k ks false e rest there = omega (arith, row_less s t stays k, rest there)

one_less : (s t : Part) → KeepsRows s t → (key : MsrpKey) → has_row key s ≡ false → has_row key t ≡ true → (ks : List MsrpKey) → is_awaiting key_cmp key ks ≡ true
    → suc (missing_rows ks t) ≤ missing_rows ks s
one_less s t stays key lacks got [] h = cc
one_less s t stays key lacks got (k ∷ ks) h = less_at s t stays key lacks got k ks (is_eq (key_cmp k key)) refl (one_less s t stays key lacks got ks) h

-- what comes in a step and after it
none_more : (n a b c : ℕ) → n ≡ 0 → a ≤ b → b ≤ c → n + a ≤ c
none_more n a b c none le less = omega (arith, none, le, less)

one_more : (n a b c : ℕ) → n ≡ 1 → a ≤ b → suc b ≤ c → n + a ≤ c
one_more n a b c one le less = omega (arith, one, le, less)

-- ---- what a step leaves

has_declared : (key : MsrpKey) (c : MsrpContent) (o : Option MsrpRow) → is_some (after_declare same_content key c o) ≡ true
has_declared key c None = refl
has_declared key c (Some r) = refl

has_withdrawn : (o : Option MsrpRow) → is_some o ≡ true → is_some (after_withdraw o) ≡ true
has_withdrawn None h = h
has_withdrawn (Some r) h = refl

kept_by : (s t : Part) (key : MsrpKey) (new : Option MsrpRow) → ChangesOnly key_cmp key new s.rows t.rows → (has_row key s ≡ true → is_some new ≡ true) → KeepsRows s t
kept_by s t key new only is k had = by (same key_cmp key k) refl
  where
    by : (b : Bool) → same key_cmp key k ≡ b → has_row k t ≡ true
    by true e = ap (λ (o : Option MsrpRow). is_some o) (only k ∙ ap (λ (b : Bool). if b then new else find key_cmp k s.rows) e) ∙ is (ap (λ x. has_row x s) (key_is key k e) ∙ had)
    by false e = ap (λ (o : Option MsrpRow). is_some o) (only k ∙ ap (λ (b : Bool). if b then new else find key_cmp k s.rows) e) ∙ had

-- where something is declared of a key, it is among some keys or has a row
abbrev IsCovered : List MsrpKey → Part → Stated → Type 0
IsCovered ks s x = is_awaiting key_cmp x.key ks ≡ false → is_some x.content ≡ true → has_row x.key s ≡ true

still_covered : (ks : List MsrpKey) (s t : Part) → KeepsRows s t → (xs : List Stated) → AllByRecursion (IsCovered ks s) xs → AllByRecursion (IsCovered ks t) xs
still_covered ks s t stays [] all = tt
still_covered ks s t stays (x ∷ xs) all = (λ out some. stays x.key (all.0 out some), still_covered ks s t stays xs all.1)

module _ (laws : RowLaws) where
  keeps_declared : (s : Part) (key : MsrpKey) (c : MsrpContent) → AreRows key_cmp s.rows → KeepsRows s (declared_state key_cmp same_content key c s)
  keeps_declared s key c rows =
      kept_by s (declared_state key_cmp same_content key c s) key (after_declare same_content key c (find key_cmp key s.rows)) (laws.declare_only s key c rows)
      (λ h. has_declared key c (find key_cmp key s.rows))

  keeps_withdrawn : (s : Part) (key : MsrpKey) → AreRows key_cmp s.rows → KeepsRows s (withdrawn_state key_cmp key s)
  keeps_withdrawn s key rows =
      kept_by s (withdrawn_state key_cmp key s) key (after_withdraw (find key_cmp key s.rows)) (laws.withdraw_only s key rows) (λ h. has_withdrawn (find key_cmp key s.rows) h)

  -- a key that is declared has a row
  declared_has : (s : Part) (key : MsrpKey) (c : MsrpContent) → AreRows key_cmp s.rows → has_row key (declared_state key_cmp same_content key c s) ≡ true
  declared_has s key c rows =
      let self : same key_cmp key key ≡ true = key_self key in
      ap (λ (o : Option MsrpRow). is_some o)
      (laws.declare_only s key c rows key ∙ ap (λ (b : Bool). if b then after_declare same_content key c (find key_cmp key s.rows) else find key_cmp key s.rows) self)
      ∙ has_declared key c (find key_cmp key s.rows)

  -- no more rows come than the keys miss
  come_few : (ks : List MsrpKey) (xs : List Stated) (s : Part) → AreRows key_cmp s.rows → AllByRecursion (IsCovered ks s) xs → new_rows xs s ≤ missing_rows ks s
  come_few ks [] s rows all = omega arith
  come_few ks (x ∷ xs) s rows all = by x.content refl (come_few ks xs)
    where
      by : (o : Option MsrpContent) → x.content ≡ o → ((t : Part) → AreRows key_cmp t.rows → AllByRecursion (IsCovered ks t) xs → new_rows xs t ≤ missing_rows ks t)
          → new_row x.key o s + new_rows xs (settled_as x.key o s) ≤ missing_rows ks s
      by None e rest =
          let t : Part = withdrawn_state key_cmp x.key s in
          let keeps : KeepsRows s t = keeps_withdrawn s x.key rows in
          none_more 0 (new_rows xs t) (missing_rows ks t) (missing_rows ks s) refl (rest t (laws.withdraw_rows s x.key rows) (still_covered ks s t keeps xs all.1)) (rows_less s t keeps ks)
      by (Some c) e rest =
          let t : Part = declared_state key_cmp same_content x.key c s in
          let keeps : KeepsRows s t = keeps_declared s x.key c rows in
          one c e (rest t (laws.declare_rows s x.key c rows) (still_covered ks s t keeps xs all.1)) (has_row x.key s) refl (is_awaiting key_cmp x.key ks) refl
        where
          one : (c : MsrpContent) → x.content ≡ Some c → new_rows xs (declared_state key_cmp same_content x.key c s) ≤ missing_rows ks (declared_state key_cmp same_content x.key c s)
              → (b : Bool) → has_row x.key s ≡ b → (a : Bool) → is_awaiting key_cmp x.key ks ≡ a → missing_row x.key s + new_rows xs (declared_state key_cmp same_content x.key c s) ≤ missing_rows ks s
          one c e later true h a is =
              none_more (missing_row x.key s) _ _ (missing_rows ks s) (ap lack h) later (rows_less s (declared_state key_cmp same_content x.key c s) (keeps_declared s x.key c rows) ks)
          one c e later false h true is =
              one_more (missing_row x.key s) _ _ (missing_rows ks s) (ap lack h) later
              (one_less s (declared_state key_cmp same_content x.key c s) (keeps_declared s x.key c rows) x.key h (declared_has s x.key c rows) ks is)
          one c e later false h false is = let has : has_row x.key s ≡ true = all.0 is (ap (λ (o : Option MsrpContent). is_some o) e) in cc

-- ---- what doesn't await has its row

declared_some : (config : PortConfig) (talker : Talker) (o : Option ℕ) → is_some (talker_content (declared_of config talker o)) ≡ true
declared_some config talker None = refl
declared_some config talker (Some code) = refl

-- whether something is declared of a Talker is no matter of whether it fits
fits_or_not : (reg : TalkerReg) (config : PortConfig) (edge : Bool) (one other : Fit)
    → is_some (talker_content (talker_out reg config edge one)) ≡ is_some (talker_content (talker_out reg config edge other))
fits_or_not Absent config edge one other = refl
fits_or_not (Failed talker failure) config edge one other = refl
fits_or_not (Advertise talker) config edge one other =
    declared_some config (delayed_by config.latency talker) (refusal_of talker edge one) ∙ sym (declared_some config (delayed_by config.latency talker) (refusal_of talker edge other))

either_way : (b : Bool) (one other : TalkerReg) → is_some (talker_content one) ≡ is_some (talker_content other)
    → is_some (talker_content (if b then Absent else one)) ≡ is_some (talker_content (if b then Absent else other))
either_way true one other e = refl
either_way false one other e = e

with_ledger : (at : ℕ) (p : PortState) (book : Book) (talkers : List TalkerReg)
    → is_some (talker_content (talker_at at (record p { ledger = book }) talkers)) ≡ is_some (talker_content (talker_at at p talkers))
with_ledger at p book talkers =
    let one : Fit = unwrap_or (fit_at book.moment at book talkers) Fits in
    let other : Fit = unwrap_or (fit_at p.ledger.moment at p.ledger talkers) Fits in
    either_way (is_talker_port (suc at) talkers) (talker_out (first_talker talkers) p.config (edge_at p talkers) one) (talker_out (first_talker talkers) p.config (edge_at p talkers) other)
    (fits_or_not (first_talker talkers) p.config (edge_at p talkers) one other)

-- so whether something is declared of a key is no matter of the ledger
stated_or_not : (at : ℕ) (p : PortState) (book : Book) (regs : StreamId → Registrations) (key : MsrpKey)
    → is_some (stated_at at (record p { ledger = book }) regs key) ≡ is_some (stated_at at p regs key)
stated_or_not at p book regs (keys.Talker s) = with_ledger at p book (regs s).talkers
stated_or_not at p book regs (keys.Listener s) = refl
stated_or_not at p book regs (keys.Domain c) = refl

row_there : (o : Option MsrpRow) → is_some (declared_in o) ≡ true → is_some o ≡ true
row_there None h = h
row_there (Some r) h = refl

-- a row comes only for a key that awaits and has none
module _ (laws : RowLaws) (at : ℕ) (side : Streams) (port : PortState) (ks : List MsrpKey) (kept : IsKept side)
    (here : slice_get side.ports at ≡ Some port) (set : slice_get side.awaiting at ≡ Some ks) (book : Book) where
  abbrev ruled : PortState
  ruled = record port { ledger = book }

  abbrev regs : StreamId → Registrations
  regs s = registrations_of side.talks side.listens (slice_set side.ports at ruled) s

  same_as : (key : MsrpKey) → is_some (stated_at at ruled regs key) ≡ is_some (stated_at at port (seen_by side) key)
  same_as key = ap (λ (o : Option MsrpContent). is_some o) (own_ledger at side.talks side.listens side.ports port ruled here refl key) ∙ stated_or_not at port book (seen_by side) key

  covers : (key : MsrpKey) → IsCovered ks port.part (stated_of at ruled regs key)
  covers key out some =
      row_there (find key_cmp key port.part.rows)
      (ap (λ (o : Option MsrpContent). is_some o) ((kept.settled at port ks here set).declared key out) ∙ (sym (same_as key) ∙ some))

  each : (tried : List MsrpKey) → AllByRecursion (IsCovered ks port.part) (map (stated_of at ruled regs) tried)
  each [] = tt
  each (key ∷ tried) = (covers key, each tried)

  pub rows_come : (tried : List MsrpKey) → new_rows (stated_with at side ruled tried) port.part ≤ missing_rows ks port.part
  rows_come tried = come_few laws ks (stated_with at side ruled tried) port.part (each-get (IsPort side.moment) side.ports at port kept.ports here).rows (each tried)
