-- The rules fix the numbers; so a class that has bounds has no cause for none.
use Rattle.std.proofs.Common.{◌≡◌, ℕ, ◌+◌, ◌*◌, ◌<◌, ◌≤◌, ◌^◌, ◌⊎◌, inl, inr, Bool, true, false, List, [], ◌∷◌, get_or, map, refl, sym, ◌∙◌, ap, subst, arith}
use Rattle.std.specs.Prelude.{All, Contains, filter, sum_by, ◌==◌, ◌&&◌}
use Rattle.std.proofs.lemmas.{Bool.cases_Bool, Bool.and_parts, Bool.false≢true, List.Elements.All-head, List.Elements.All-tail, List.Elements.All-contains, List.Elements.All-contains_itself, List.Elements.All-filter, List.Elements.filter_passes, List.Sums.sum_by-cons}
use Rattle.srp_base.proofs.Lists.{map-same}
use Rattle.srp_base.specs.declared.{numbers.EgressPort.EgressPort}
use Rattle.srp_base.specs.Bandwidth.{bits_of, bit_ps_of}
use Rattle.tree_topology.specs.{Topology.HasNode, Topology.HasPort, Ports.peer_of, Walk.is_behind, PortLaws.HasPortLaws}
use Rattle.frame_flow.specs.{Force.is_port, Levels.level_at}
use Rattle.frame_flow.proofs.{LevelLemmas.same-port, LevelLemmas.source-below, OriginLemmas.along}
use Rattle.delay_bound.specs.declared.{bound.Bound.Bound, bound.Group.Group, stream.ClassStream.ClassStream}
use Rattle.delay_bound.specs.{Bounds.second, Bounds.IsPeak, Bounds.bases_of, Waits.wait_of, Waits.late_behind}
use Rattle.delay_flow.specs.{Ways.is_fed, Rules.IsBefore, Rules.bound_of, Rules.own_group, Rules.group_by, Rules.other_ports, Rules.groups_at, Rules.KeepRules, Rules.KeepRulesAt}
use Rattle.delay_flow.proofs.WayLemmas.{aside-fed, fed-back}
use Rattle.class_delays.specs.declared.{delays.PortDelays.PortDelays, delays.Unbounded.Unbounded}
use Rattle.class_delays.specs.declared.delays.Unbounded.TheVariants.{Steep, Large, NoMemory}
use Rattle.class_delays.specs.{ClassSetting, class_traffic, slope_at, idle_at, rate_at, further_of, numbers_of, KeepRulesBelow, IsTooLate, HasLate, HasLargeBases, TakesTooLong, IsUnbounded, HasBounds, AreSameAt}

-- a stream that is fed comes from the station itself, or by another port, before which it is fed
pub record IsFedBy (a : ClassSetting) (p : EgressPort) (x : ClassStream) (r : EgressPort) : Type 0 where
  pub other : IsBefore a.setting p r
  pub behind : is_behind a.setting.tree.links r x.talker.0 ≡ true
  pub before : is_fed a.setting (peer_of a.setting.tree.links r) x ≡ true

abbrev HaveNodes : ClassSetting → Type 0
HaveNodes a = All (λ x. HasNode a.setting.tree x.talker.0) a.streams

fed-so : (a : ClassSetting) → HasPortLaws a.setting.tree → HaveNodes a → (p : EgressPort) → HasPort a.setting.tree p → (x : ClassStream) → Contains a.streams x → is_fed a.setting p x ≡ true
    → (x.talker.0 ≡ p.node.0) ⊎ ((r : EgressPort) × IsFedBy a p x r)
fed-so a laws nodes p port x has fed =
    let s = a.setting in
    let node = All-contains (λ (y : ClassStream). HasNode s.tree y.talker.0) a.streams x nodes has in
    elim (laws.some_port p.node.0 x.talker.0 port.0 node) [
      | inl own ↦ inl (sym own)
      | inr (r, port_r, same, behind) ↦ elim (cases_Bool (is_port r p)) [
        | inl itself ↦ absurd (false≢true (sym (aside-fed s p x fed) ∙ subst (λ (t : EgressPort). is_behind s.tree.links t x.talker.0 ≡ true) (same-port r p itself) behind))
        | inr differ ↦ (
            let other : IsBefore s p r = record { port = port_r; node = same; other = differ } in
            inr (r, record { other = other; behind = behind; before = fed-back s laws p r x port other node behind fed }))
      ]
    ]

-- ---- of two tables

abbrev SameBefore : ClassSetting → List PortDelays → List PortDelays → EgressPort → Type 0
SameBefore a one other p =
    (r : EgressPort) → HasPort a.setting.tree r → r.node.0 ≡ p.node.0 → is_port r p ≡ false
    → AreSameAt a (numbers_of a one) (numbers_of a other) (peer_of a.setting.tree.links r)

abbrev SameLate : ClassSetting → List PortDelays → List PortDelays → EgressPort → Type 0
SameLate a one other p =
    (x : ClassStream) → Contains a.streams x → is_fed a.setting p x ≡ true → (numbers_of a one).late p x ≡ (numbers_of a other).late p x

same-late : (a : ClassSetting) → HasPortLaws a.setting.tree → HaveNodes a → (one other : List PortDelays) (p : EgressPort) → HasPort a.setting.tree p
    → HasLate a p (numbers_of a one) → HasLate a p (numbers_of a other) → SameBefore a one other p → SameLate a one other p
same-late a laws nodes one other p port h k before x has fed =
    let s = a.setting in
    elim (fed-so a laws nodes p port x has fed) [
      | inl own ↦ h.first x has fed own ∙ sym (k.first x has fed own)
      | inr (r, by) ↦ (
          let q = peer_of s.tree.links r in
          let same = before r by.other.port by.other.node by.other.other in
          let of : ℕ → ℕ → ℕ = λ l w. late_behind l w (rate_at s q) (rate_at s p) in
          h.on r x by.other has fed by.behind
          ∙ ap (λ (l : ℕ). of l ((numbers_of a one).wait q x)) (same.late x has by.before)
          ∙ ap (λ (w : ℕ). of ((numbers_of a other).late q x) w) (same.wait x has by.before)
          ∙ sym (k.on r x by.other has fed by.behind))
    ]

sum-over : (f g : ClassStream → ℕ) (xs : List ClassStream) → All (λ x. f x ≡ g x) xs → sum_by f xs ≡ sum_by g xs
sum-over f g [] all = refl
sum-over f g (x ∷ xs) all =
    let P : ClassStream → Type 0 = λ t. f t ≡ g t in
    omega (arith, sum_by-cons f x xs, sum_by-cons g x xs, All-head P x xs all, sum-over f g xs (All-tail P x xs all))

same-bound : (a : ClassSetting) (one other : List PortDelays) (p : EgressPort) → SameLate a one other p → (test : ClassStream → Bool)
    → bound_of (numbers_of a one) p (filter (λ x. is_fed a.setting p x && test x) a.streams)
    ≡ bound_of (numbers_of a other) p (filter (λ x. is_fed a.setting p x && test x) a.streams)
same-bound a one other p late test =
    let both : ClassStream → Bool = λ x. is_fed a.setting p x && test x in
    let xs = filter both a.streams in
    let base : List PortDelays → ClassStream → ℕ = λ ports x. x.limits.burst * second + x.limits.slope * (numbers_of a ports).late p x in
    let to : ℕ → Bound = λ b. record { base = b; slope = sum_by (λ x. x.limits.slope) xs } in
    ap to (sum-over (base one) (base other) xs (λ k d below.
    let x = get_or xs k d in
    let has = All-filter both (Contains a.streams) a.streams (All-contains_itself a.streams) k d below in
    let fed = (and_parts (is_fed a.setting p x) (test x) (filter_passes both a.streams k d below)).0 in
    ap (λ (l : ℕ). x.limits.burst * second + x.limits.slope * l) (late x has fed)))

same-groups : (a : ClassSetting) (one other : List PortDelays) (p : EgressPort) → SameLate a one other p
    → groups_at a.setting (numbers_of a one) a.streams p ≡ groups_at a.setting (numbers_of a other) a.streams p
same-groups a one other p late =
    let s = a.setting in
    let rs = other_ports s p in
    let to : List Bound → Bound → Group = λ more b. record { first = b; more = more } in
    let by : List PortDelays → EgressPort → Group = λ ports r. group_by s (numbers_of a ports) a.streams p r in
    let own = ap (to []) (same-bound a one other p late (λ x. x.talker.0 == p.node.0)) in
    let others : map (by one) rs ≡ map (by other) rs =
    map-same (by one) (by other) rs
    (λ k d below. let r = get_or rs k d in ap (to (further_of a p r)) (same-bound a one other p late (λ x. is_behind s.tree.links r x.talker.0))) in
    ap (λ (g : Group). g ∷ map (by one) rs) own ∙ ap (λ (gs : List Group). own_group (numbers_of a other) a.streams p ∷ gs) others

late-of : (a : ClassSetting) (ports : List PortDelays) (p : EgressPort) → KeepRulesAt a.setting (class_traffic a.class) a.streams (numbers_of a ports) p → HasLate a p (numbers_of a ports)
late-of a ports p h = record { first = h.late_first; on = h.late_on }

one-peak : (gs : List Group) (slope one other : ℕ) → IsPeak gs slope one → IsPeak gs slope other → one ≡ other
one-peak gs slope one other h k = omega (arith, h.least other k.stays, k.least one h.stays)

same-here : (a : ClassSetting) → HasPortLaws a.setting.tree → HaveNodes a → (one other : List PortDelays) (p : EgressPort) → HasPort a.setting.tree p
    → KeepRulesAt a.setting (class_traffic a.class) a.streams (numbers_of a one) p → KeepRulesAt a.setting (class_traffic a.class) a.streams (numbers_of a other) p
    → SameBefore a one other p → AreSameAt a (numbers_of a one) (numbers_of a other) p
same-here a laws nodes one other p port h k before =
    let s = a.setting in
    let n = numbers_of a one in
    let m = numbers_of a other in
    let rate = rate_at s p in
    let late = same-late a laws nodes one other p port (late-of a one p h) (late-of a other p k) before in
    let groups = same-groups a one other p late in
    let peak : (x : ClassStream) → Contains a.streams x → is_fed s p x ≡ true → n.peak p ≡ m.peak p =
    λ x has fed.
    one-peak (groups_at s m a.streams p) (slope_at a p) (n.peak p) (m.peak p)
    (subst (λ (gs : List Group). IsPeak gs (slope_at a p) (n.peak p)) groups (h.peak x has fed)) (k.peak x has fed) in
    let wait : (x : ClassStream) → Contains a.streams x → is_fed s p x ≡ true → n.wait p x ≡ m.wait p x =
    λ x has fed.
    h.wait x has fed ∙ ap (λ (v : ℕ). wait_of (bits_of rate) (slope_at a p) (idle_at a p) v x.least) (peak x has fed) ∙ sym (k.wait x has fed) in
    record {
      late = late;
      peak = peak;
      wait = wait;
      spent = λ x has fed.
          let rest : ℕ → ℕ = λ w. bit_ps_of rate + (w + x.least) * bit_ps_of rate in
          let same : rest (n.wait p x) ≡ rest (m.wait p x) = ap rest (wait x has fed) in
          elim (fed-so a laws nodes p port x has fed) [
            | inl own ↦ h.spent_first x has fed own ∙ same ∙ sym (k.spent_first x has fed own)
            | inr (r, by) ↦ (
                let q = peer_of s.tree.links r in
                let old = (before r by.other.port by.other.node by.other.other).spent x has by.before in
                h.spent_on r x by.other has fed by.behind
                ∙ ap (λ (v : ℕ). v + rest (n.wait p x)) old
                ∙ ap (λ (v : ℕ). m.spent q x + v) same
                ∙ sym (k.spent_on r x by.other has fed by.behind))
          ];
    }

-- the rules of all ports fix the numbers of each
pub rules-fix : (a : ClassSetting) → HasPortLaws a.setting.tree → HaveNodes a → (one other : List PortDelays)
    → KeepRules a.setting (class_traffic a.class) a.streams (numbers_of a one) → KeepRules a.setting (class_traffic a.class) a.streams (numbers_of a other)
    → (p : EgressPort) → HasPort a.setting.tree p → AreSameAt a (numbers_of a one) (numbers_of a other) p
rules-fix a laws nodes one other h k p port =
    along a.setting.tree laws (λ q. AreSameAt a (numbers_of a one) (numbers_of a other) q)
    (λ q there before. same-here a laws nodes one other q there (h.at q there) (k.at q there) before) p port

-- those of the ports before one fix those before it
fix-below : (a : ClassSetting) → HasPortLaws a.setting.tree → HaveNodes a → (one other : List PortDelays) (p : EgressPort) → KeepRulesBelow a p (numbers_of a one)
    → KeepRules a.setting (class_traffic a.class) a.streams (numbers_of a other)
    → (q : EgressPort) → HasPort a.setting.tree q → level_at a.setting.tree q < level_at a.setting.tree p → AreSameAt a (numbers_of a one) (numbers_of a other) q
fix-below a laws nodes one other p h k q port less =
    let tree = a.setting.tree in
    along tree laws (λ t. level_at tree t < level_at tree p → AreSameAt a (numbers_of a one) (numbers_of a other) t)
    (λ t there before low.
    same-here a laws nodes one other t there (h t there low) (k.at t there)
    (λ r port_r node differ.
    let down = source-below tree laws t r there port_r node differ in
    before r port_r node differ (omega (arith, low, down.1)))) q port less

fix-before : (a : ClassSetting) → HasPortLaws a.setting.tree → HaveNodes a → (one other : List PortDelays) (p : EgressPort) → HasPort a.setting.tree p → KeepRulesBelow a p (numbers_of a one)
    → KeepRules a.setting (class_traffic a.class) a.streams (numbers_of a other) → SameBefore a one other p
fix-before a laws nodes one other p port h k r port_r node differ =
    let down = source-below a.setting.tree laws p r port port_r node differ in
    fix-below a laws nodes one other p h k (peer_of a.setting.tree.links r) down.0 down.1

-- ---- a class that has bounds has no cause for none

late-fits : (a : ClassSetting) → HasPortLaws a.setting.tree → HaveNodes a → (b : HasBounds a) (ports : List PortDelays) (p : EgressPort) → HasPort a.setting.tree p
    → SameBefore a ports b.ports p → IsTooLate a p (numbers_of a ports) → ⊥
late-fits a laws nodes b ports p port before late =
    let s = a.setting in
    let x = late.stream in
    let q = peer_of s.tree.links late.by in
    let n = numbers_of a ports in
    let m = numbers_of a b.ports in
    let node = All-contains (λ (y : ClassStream). HasNode s.tree y.talker.0) a.streams x nodes late.has in
    let fed = fed-back s laws p late.by x port late.other node late.behind late.fed in
    let same = before late.by late.other.port late.other.node late.other.other in
    let of : ℕ → ℕ → ℕ = λ l w. late_behind l w (rate_at s q) (rate_at s p) in
    let is : of (n.late q x) (n.wait q x) ≡ m.late p x =
    ap (λ (l : ℕ). of l (n.wait q x)) (same.late x late.has fed)
    ∙ ap (λ (w : ℕ). of (m.late q x) w) (same.wait x late.has fed)
    ∙ sym ((b.rules.at p port).late_on late.by x late.other late.has late.fed late.behind) in
    let large : 2 ^ 128 ≤ m.late p x = subst (λ (v : ℕ). 2 ^ 128 ≤ v) is late.late in
    let small = (b.small p port).late x late.has late.fed in
    omega (arith, large, small)

bases-fit : (a : ClassSetting) → HasPortLaws a.setting.tree → HaveNodes a → (b : HasBounds a) (ports : List PortDelays) (p : EgressPort) → HasPort a.setting.tree p
    → SameBefore a ports b.ports p → HasLargeBases a p (numbers_of a ports) → ⊥
bases-fit a laws nodes b ports p port before (late, large, x, has, fed) =
    let groups = same-groups a ports b.ports p (same-late a laws nodes ports b.ports p port late (late-of a b.ports p (b.rules.at p port)) before) in
    let same = ap bases_of groups in
    let small = (b.small p port).bases x has fed in
    omega (arith, large, small, same)

spent-fits : (a : ClassSetting) → HasPortLaws a.setting.tree → HaveNodes a → (b : HasBounds a) (ports : List PortDelays) (p : EgressPort) → HasPort a.setting.tree p
    → SameBefore a ports b.ports p → TakesTooLong a p (numbers_of a ports) → ⊥
spent-fits a laws nodes b ports p port before (rules, x, has, fed, large) =
    let same = (same-here a laws nodes ports b.ports p port rules (b.rules.at p port) before).spent x has fed in
    let small = (b.small p port).spent x has fed in
    omega (arith, large, small, same)

pub no-cause : (a : ClassSetting) → HasPortLaws a.setting.tree → HaveNodes a → HasBounds a → (e : Unbounded) → IsUnbounded a e → e ≡ NoMemory
no-cause a laws nodes b (Steep p) (port, steep) = absurd (b.slopes p port steep)
no-cause a laws nodes b (Large p) (port, ports, below_cause) =
    let before = fix-before a laws nodes ports b.ports p port below_cause.0 b.rules in
    absurd (elim below_cause.1 [
      | inl late ↦ late-fits a laws nodes b ports p port before late
      | inr (inl bases) ↦ bases-fit a laws nodes b ports p port before bases
      | inr (inr spent) ↦ spent-fits a laws nodes b ports p port before spent
    ])
no-cause a laws nodes b NoMemory is = refl
