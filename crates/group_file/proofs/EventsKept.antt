-- What every group scenario keeps of its events, from the rules that its table passed.
use Rattle.std.proofs.Common.{◌≡◌, ℕ, ◌<◌, ◌≤◌, List, Option, Some, None, option_map, Result, Ok, refl, sym, subst, length, leb-true, ltb-true, IfSome, IfOk, arith}
use Rattle.std.proofs.lemmas.List.Elements.{All-weaker, All-map}
use Rattle.std.specs.{Cmp.Lexicographic.pointwise, List.All, List.Sorted.IsNonDecreasing}
use Rattle.std.specs.Prelude.{nat_le, nat_lt, nat_eq, codes}
use Rattle.srp_base.proofs.Options.{opened as some-says}
use Rattle.srp_base.specs.declared.numbers.NodeNo.{NodeNo}
use Rattle.toml.specs.Data.{Members}
use Rattle.toml_rules.specs.{Fields.number, Fields.text, Fields.has_only, Rules.each_entry, Rules.first_fall}
use Rattle.topology_file.specs.declared.{entries.NodeEntry.NodeEntry, entries.LinkEntry.LinkEntry}
use Rattle.topology_file.specs.{Entries.name_at, Entries.station_named, Events.tick_at, Kinds.AreJoinedNumbers, Kinds.IsAtPdu, Kinds.IsStationNumber, Kinds.pdu_at}
use Rattle.topology_file.proofs.{Chains.and_then-if, Chains.map-if, Chains.when-if, Chains.either-if, Chains.chain-if, Chains.chain-none, Chains.ok-all, Chains.ok-says, Chains.each-all, Chains.each-map, Chains.each-keeps, Chains.alike-length, EventsKept.ticks-ascend}
use Rattle.group_file.specs.{GroupEntry, GroupForm, GroupKind, IsKnownGroup, event_form, form_ticks, group_entry, group_ticks, kind_form, mac_at, member_at, member_form, member_keys, pdu_form, groups_of}
use Rattle.group_file.specs.declared.entries.GroupKind.TheVariants as kinds

-- what the public law of a file's events says
pub record NamesAreKnown : Type 0 where
  pub station : (nodes : List NodeEntry) (name : List ℕ) → IfSome (station_named nodes name) (λ x. IsStationNumber nodes x.0)
  pub pdu : (nodes : List NodeEntry) (links : List LinkEntry) (ms : Members) → IfSome (pdu_at nodes links ms) (λ p. IfSome p.0 (λ e. AreJoinedNumbers nodes links e.0.0 e.1.0) × (p.1 ≤ 65535))

-- what is made of parts that may be missing has what the parts have
parts-if : {A : Type 0} (Part : A → Type 0) (Number : ℕ → Type 0) (P : GroupKind → Type 0) (kind : A → ℕ → GroupKind) (o : Option (Option A × ℕ))
    → ((x : A) (n : ℕ) → Part x → Number n → P (kind x n)) → IfSome o (λ p. IfSome p.0 Part × Number p.1)
    → IfSome (option_map (λ p. option_map (λ x. kind x p.1) p.0) o) (λ k. IfSome k P)
parts-if Part Number P kind None h all = tt
parts-if Part Number P kind (Some (None, n)) h all = tt
parts-if Part Number P kind (Some (Some x, n)) h all = h x n all.0 all.1

-- what an event that has its form keeps
abbrev FormKeeps : ℕ → List NodeEntry → List LinkEntry → GroupForm → Type 0
FormKeeps ticks nodes links e = (e.tick < ticks) × IfSome e.kind (IsKnownGroup nodes links)

pub record GroupsKeep (ticks : ℕ) (nodes : List NodeEntry) (links : List LinkEntry) (events : List GroupEntry) : Type 0 where
  pub many : length events ≤ 10000
  pub within : All (λ t. t < ticks) (group_ticks events)
  pub order : IsNonDecreasing (group_ticks events)
  pub known : All (λ e. IsKnownGroup nodes links e.kind) events

module _ (law : NamesAreKnown) (nodes : List NodeEntry) (links : List LinkEntry) where
  member-known : (ms : Members) → IfSome (member_at nodes ms) (λ p. IfSome p.0 (λ x. IsStationNumber nodes x.0) × Unit {0})
  member-known ms =
      let P : Option NodeNo × ℕ → Type 0 = λ p. IfSome p.0 (λ x. IsStationNumber nodes x.0) × Unit {0} in
      when-if P (has_only member_keys ms) _ (λ _.
      and_then-if P _ (name_at (codes "station") ms) (λ name en.
      and_then-if P _ (mac_at ms) (λ mac em. (law.station nodes name, tt))))

  kind-known : (ms : Members) (word : List ℕ) → IfSome (kind_form nodes links ms word) (λ k. IfSome k (IsKnownGroup nodes links))
  kind-known ms word =
      let P : Option GroupKind → Type 0 = λ k. IfSome k (IsKnownGroup nodes links) in
      let is = λ (kind : List ℕ). pointwise nat_eq word kind in
      either-if P (is (codes "join")) _ _ (at-member kinds.Join (λ x n h. h)) (
      either-if P (is (codes "part")) _ _ (at-member kinds.Part (λ x n h. h)) (
      either-if P (is (codes "lose")) _ _ (at-pdu kinds.Lose (λ x y n h. h)) (
      either-if P (is (codes "repeat")) _ _ (at-pdu kinds.Repeat (λ x y n h. h)) tt)))
    where
      at-member : (kind : NodeNo → ℕ → GroupKind) → ((x : NodeNo) (n : ℕ) → IsStationNumber nodes x.0 → IsKnownGroup nodes links (kind x n))
          → IfSome (member_form kind nodes ms) (λ k. IfSome k (IsKnownGroup nodes links))
      at-member kind make =
          parts-if (λ x. IsStationNumber nodes x.0) (λ n. Unit {0}) (IsKnownGroup nodes links) (λ x n. kind x n) (member_at nodes ms) (λ x n a b. make x n a) (member-known ms)

      at-pdu : (kind : NodeNo → NodeNo → ℕ → GroupKind) → ((x y : NodeNo) (n : ℕ) → IsAtPdu nodes links x.0 y.0 n → IsKnownGroup nodes links (kind x y n))
          → IfSome (pdu_form kind nodes links ms) (λ k. IfSome k (IsKnownGroup nodes links))
      at-pdu kind make =
          parts-if (λ x. AreJoinedNumbers nodes links x.0.0 x.1.0) (λ n. n ≤ 65535) (IsKnownGroup nodes links) (λ x n. kind x.0 x.1 n) (pdu_at nodes links ms)
          (λ x n a b. make x.0 x.1 n (a, b)) (law.pdu nodes links ms)

  event-form-keeps : (ticks n : ℕ) (ms : Members) → IfSome (event_form ticks nodes links n ms) (λ e. FormKeeps ticks nodes links e × (n ≤ 10000))
  event-form-keeps ticks n ms =
      let P : GroupForm → Type 0 = λ e. FormKeeps ticks nodes links e × (n ≤ 10000) in
      let K : Option GroupKind → Type 0 = λ k. IfSome k (IsKnownGroup nodes links) in
      when-if P (nat_le n 10000) _ (λ le.
      and_then-if P _ (tick_at ticks ms) (λ tick et.
      and_then-if P _ (text (codes "kind") ms) (λ word ew.
      and_then-if P _ (kind_form nodes links ms word) (λ kind ek. (
        (
          some-says (λ t. t < ticks) (tick_at ticks ms) tick et tick-below,
          some-says K (kind_form nodes links ms word) kind ek (kind-known ms word),
        ),
        leb-true n 10000 le,
      )))))
    where
      tick-below : IfSome (tick_at ticks ms) (λ t. t < ticks)
      tick-below =
          and_then-if (λ t. t < ticks) _ (number (codes "tick") ms) (λ tick e. when-if (λ t. t < ticks) (nat_lt tick ticks) (Some tick) (λ lt. ltb-true tick ticks lt))

  event-known : (n : ℕ) (form : GroupForm) → IfSome form.kind (IsKnownGroup nodes links) → IfSome (group_entry n form) (λ e. IsKnownGroup nodes links e.kind)
  event-known n form h = map-if _ _ form.kind (λ k e. some-says (IsKnownGroup nodes links) form.kind k e h)

  event-tick : (n : ℕ) (form : GroupForm) → IfSome (group_entry n form) (λ e. e.tick ≡ form.tick)
  event-tick n form = map-if _ _ form.kind (λ k e. refl)

  pub groups-keep : (ticks : ℕ) (entries : List Members) → IfOk (groups_of ticks nodes links entries) (GroupsKeep ticks nodes links)
  groups-keep ticks entries =
      let P = GroupsKeep ticks nodes links in
      let F = FormKeeps ticks nodes links in
      let K : GroupEntry → Type 0 = λ e. IsKnownGroup nodes links e.kind in
      let D : List ℕ → Type 0 = λ ts. All (λ t. t < ticks) ts in
      chain-if P _ (each_entry 41 (event_form ticks nodes links) 1 entries) _ (each-keeps F 10000 41 (event_form ticks nodes links) (event-form-keeps ticks) entries) (λ forms f.
      chain-none P 42 (first_fall 1 0 (form_ticks forms)) _ (λ order.
      (let named = each_entry 43 group_entry 1 forms in
      ok-all named P (λ events is.
      (let same = ok-says (λ ys. group_ticks ys ≡ form_ticks forms) named events is (each-map (λ (x : GroupForm). x.tick) (λ (y : GroupEntry). y.tick) 43 group_entry event-tick 1 forms) in
      record {
        many = omega (arith, f.1, alike-length (λ (x : GroupForm). x.tick) (λ (y : GroupEntry). y.tick) forms events same);
        within = subst D (sym same) (All-map (λ t. t < ticks) (λ (x : GroupForm). x.tick) forms (All-weaker F (λ x. x.tick < ticks) (λ x h. h.0) forms f.0));
        order = subst IsNonDecreasing (sym same) (ticks-ascend 1 0 (form_ticks forms) order).1;
        known = ok-says (All K) named events is (each-all F K 43 group_entry (λ n x h. event-known n x h.1) 1 forms f.0);
      })))))
