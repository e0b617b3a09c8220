-- Where there are no numbers there is a cause.
use Rattle.std.proofs.Common.{◌≡◌, ℕ, zero, ◌+◌, ◌^◌, ◌<◌, ◌≤◌, ◌⊎◌, inl, inr, true, false, List, [], ◌∷◌, map, Some, None, refl, sym, ◌∙◌, ap, subst, arith}
use Rattle.std.specs.Prelude.{Contains}
use Rattle.std.proofs.lemmas.{Bool.cond-true, Bool.cond-false, Bool.cases_Bool, List.Elements.All-contains, List.Sums.sum_by-cons}
use Rattle.srp_base.specs.declared.{numbers.EgressPort.EgressPort}
use Rattle.tree_topology.specs.{Topology.HasPort, PortLaws.HasPortLaws}
use Rattle.frame_flow.specs.{Force.is_port, Levels.level_at}
use Rattle.frame_flow.proofs.LevelLemmas.{same-port, port-itself}
use Rattle.delay_bound.specs.declared.{bound.Group.Group, stream.ClassStream.ClassStream}
use Rattle.delay_bound.specs.{Bounds.first_slopes, Bounds.bases_of}
use Rattle.delay_flow.specs.{Rules.KeepRulesAt, Rules.groups_at, Rules.own_group, Rules.group_by, Rules.other_ports, Ways.is_fed}
use Rattle.delay_flow.proofs.Sums.{contains-map}
use Rattle.class_delays.specs.declared.{coming.Coming.Coming, delays.PortDelays.PortDelays}
use Rattle.class_delays.specs.declared.delays.Unbounded.{Unbounded}
use Rattle.class_delays.specs.declared.delays.Unbounded.TheVariants.{Steep, Large, NoMemory}
use Rattle.class_delays.specs.{ClassSetting, IsClassSetting, class_traffic, delays_at, spent_in, rate_at, slope_at, numbers_of, fed_by, groups_of, AreComing, HasPeak, IsEntry, IsReckoned, AreReckoned, AreBefore, KeepRulesBelow, IsTooLate, IsUnbounded, IsFaultOfComing, IsFaultOfPeak, IsFaultOfFed}
use Rattle.class_delays.proofs.Entries.{at-port, GoesBelow, entry-goes, reckoned-below}
use Rattle.class_delays.proofs.Comings.{filter-has}
use Rattle.class_delays.proofs.Rules.{numbered, before-one, coming-is, groups-same, late-here, rules-here}

-- the numbers of the ports before keep the rules
pub below-rules : (a : ClassSetting) → IsClassSetting a → HasPortLaws a.setting.tree → (ports : List PortDelays) → AreReckoned a ports → (p : EgressPort) → AreBefore a ports p
    → KeepRulesBelow a p (numbers_of a ports)
below-rules a given laws ports all p before q port less =
    let e = before q port less in
    let h = at-port ports q e.0 e.1 in
    let is = All-contains (IsReckoned a ports) ports e.0 all h.1 in
    subst (λ (t : EgressPort). KeepRulesAt a.setting (class_traffic a.class) a.streams (numbers_of a ports) t) h.0
    (rules-here a given laws ports e.0 is (subst (λ (t : EgressPort). delays_at ports t ≡ Some e.0) (sym h.0) e.1))

pub late-fault : (a : ClassSetting) → IsClassSetting a → HasPortLaws a.setting.tree → (ports : List PortDelays) → AreReckoned a ports → (p : EgressPort) → HasPort a.setting.tree p
    → AreBefore a ports p → IsTooLate a p (numbers_of a ports) → IsUnbounded a (Large p)
late-fault a given laws ports all p port before late = (port, ports, (below-rules a given laws ports all p before, inl late))

-- ---- with what comes to the port

-- what is reckoned with the numbers of a port by some peak
abbrev with_entry : ClassSetting → EgressPort → ℕ → List Coming → PortDelays
with_entry a p peak cs = record { at = p; rate = rate_at a.setting p; peak = peak; fed = map (fed_by a p peak) cs }

goes-first : (a : ClassSetting) (ports : List PortDelays) (e : PortDelays) → GoesBelow a e.at ports (e ∷ ports)
goes-first a ports e q x port less is =
    let nay : is_port e.at q ≡ false =
    elim (cases_Bool (is_port e.at q)) [
      | inl same ↦ absurd (
          let one = ap (λ (t : EgressPort). level_at a.setting.tree t) (same-port e.at q same) in
          omega (arith, one, less))
      | inr nay ↦ nay
    ] in
    cond-false (is_port e.at q) (Some e) (delays_at ports q) nay ∙ is

look-first : (ports : List PortDelays) (e : PortDelays) → delays_at (e ∷ ports) e.at ≡ Some e
look-first ports e = cond-true (is_port e.at e.at) (Some e) (delays_at ports e.at) (port-itself e.at)

below-more : (a : ClassSetting) → IsClassSetting a → HasPortLaws a.setting.tree → (ports : List PortDelays) → AreReckoned a ports → (e : PortDelays) → AreBefore a ports e.at
    → KeepRulesBelow a e.at (numbers_of a (e ∷ ports))
below-more a given laws ports all e before q port less =
    let more = e ∷ ports in
    let x = before q port less in
    let h = at-port ports q x.0 x.1 in
    let is = All-contains (IsReckoned a ports) ports x.0 all h.1 in
    let level = ap (λ (t : EgressPort). level_at a.setting.tree t) h.0 in
    let goes : GoesBelow a x.0.at ports more = λ t y port_t less_t is_t. goes-first a ports e t y port_t (omega (arith, less, less_t, level)) is_t in
    subst (λ (t : EgressPort). KeepRulesAt a.setting (class_traffic a.class) a.streams (numbers_of a more) t) h.0
    (rules-here a given laws more x.0 (reckoned-below a laws ports more x.0 goes is)
    (subst (λ (t : EgressPort). delays_at more t ≡ Some x.0) (sym h.0) (goes-first a ports e q x.0 port less x.1)))

abbrev entry-of : (a : ClassSetting) → HasPortLaws a.setting.tree → (ports : List PortDelays) (p : EgressPort) → HasPort a.setting.tree p → (peak : ℕ) (cs : List Coming) → AreComing a ports p cs
    → IsEntry a (with_entry a p peak cs ∷ ports) (with_entry a p peak cs)
entry-of a laws ports p port peak cs are =
    let e = with_entry a p peak cs in
    entry-goes a laws ports (e ∷ ports) e (goes-first a ports e) (record { port = port; rate = refl; coming = cs; are = are; fed = refl })

-- one that comes is fed
come-fed : (a : ClassSetting) (ports : List PortDelays) (p : EgressPort) (cs : List Coming) → AreComing a ports p cs → (c : Coming) → Contains cs c
    → (x : ClassStream) × Contains a.streams x × (is_fed a.setting p x ≡ true)
come-fed a ports p cs are c has =
    let listed = subst (λ (xs : List ClassStream). Contains xs c.stream) are.streams (contains-map (λ (d : Coming). d.stream) cs c has) in
    let fed = filter-has (is_fed a.setting p) a.streams c.stream listed in
    (c.stream, fed.1, fed.0)

some-fed : (a : ClassSetting) (ports : List PortDelays) (p : EgressPort) (cs : List Coming) → AreComing a ports p cs → (cs ≡ [] → ⊥)
    → (x : ClassStream) × Contains a.streams x × (is_fed a.setting p x ≡ true)
some-fed a ports p [] are some = absurd (some refl)
some-fed a ports p (c ∷ cs) are some = come-fed a ports p (c ∷ cs) are c (zero, omega arith, refl)

pub bases-fault : (a : ClassSetting) → IsClassSetting a → HasPortLaws a.setting.tree → (ports : List PortDelays) → AreReckoned a ports → (p : EgressPort) → HasPort a.setting.tree p
    → AreBefore a ports p → (cs : List Coming) → AreComing a ports p cs → (cs ≡ [] → ⊥) → 2 ^ 126 ≤ bases_of (groups_of a p cs) → IsUnbounded a (Large p)
bases-fault a given laws ports all p port before cs are some large =
    let e = with_entry a p 0 cs in
    let more = e ∷ ports in
    let is = entry-of a laws ports p port 0 cs are in
    let at = look-first ports e in
    let fed = some-fed a ports p cs are some in (
      port,
      more,
      (
        below-more a given laws ports all e before,
        inr (inl (
          late-here a laws more e is at,
          subst (λ (gs : List Group). 2 ^ 126 ≤ bases_of gs) (sym (groups-same a laws more e is at)) large,
          fed.0,
          fed.1,
          fed.2,
        )),
      ),
    )

pub spent-fault : (a : ClassSetting) → IsClassSetting a → HasPortLaws a.setting.tree → (ports : List PortDelays) → AreReckoned a ports → (p : EgressPort) → HasPort a.setting.tree p
    → AreBefore a ports p → (peak : ℕ) (cs : List Coming) → AreComing a ports p cs → HasPeak a p cs peak → (c : Coming) → Contains cs c → 2 ^ 128 ≤ (fed_by a p peak c).spent
    → IsUnbounded a (Large p)
spent-fault a given laws ports all p port before peak cs are has_peak c has large =
    let e = with_entry a p peak cs in
    let more = e ∷ ports in
    let is = entry-of a laws ports p port peak cs are in
    let at = look-first ports e in
    let listed = subst (λ (xs : List ClassStream). Contains xs c.stream) are.streams (contains-map (λ (d : Coming). d.stream) cs c has) in
    let fed = filter-has (is_fed a.setting p) a.streams c.stream listed in
    let k = numbered a more e is at c.stream fed.1 fed.0 in
    let one = before-one a laws more p c.by c k.come (coming-is a more e is c has) (coming-is a more e is k.come k.has) k.same in
    let to : ℕ → ClassStream → Coming = λ b y. record { stream = y; by = None; late = 0; before = b } in
    let same : (numbers_of a more).spent p c.stream ≡ (fed_by a p peak c).spent =
    ap spent_in k.at
    ∙ ap (λ (b : ℕ). (fed_by a p peak (to b k.come.stream)).spent) one
    ∙ ap (λ (y : ClassStream). (fed_by a p peak (to c.before y)).spent) k.same in (
      port,
      more,
      (
        below-more a given laws ports all e before,
        inr (inr (rules-here a given laws more e (record { entry = is; peak = has_peak }) at, c.stream, fed.1, fed.0, subst (λ (v : ℕ). 2 ^ 128 ≤ v) (sym same) large)),
      ),
    )

-- the groups' first slopes are the same by all numbers
slopes-same : (a : ClassSetting) (one other : List PortDelays) (p : EgressPort) (rs : List EgressPort)
    → first_slopes (map (group_by a.setting (numbers_of a one) a.streams p) rs) ≡ first_slopes (map (group_by a.setting (numbers_of a other) a.streams p) rs)
slopes-same a one other p [] = refl
slopes-same a one other p (r ∷ rs) =
    let g = group_by a.setting (numbers_of a one) a.streams p in
    let h = group_by a.setting (numbers_of a other) a.streams p in
    let f : Group → ℕ = λ t. t.first.slope in
    let head : f (g r) ≡ f (h r) = refl in
    omega (arith, sum_by-cons f (g r) (map g rs), sum_by-cons f (h r) (map h rs), head, slopes-same a one other p rs)

pub steep-fault : (a : ClassSetting) → IsClassSetting a → HasPortLaws a.setting.tree → (ports : List PortDelays) (p : EgressPort) → HasPort a.setting.tree p → (cs : List Coming)
    → AreComing a ports p cs → (cs ≡ [] → ⊥) → (slope_at a p ≡ 0) ⊎ (slope_at a p < first_slopes (groups_of a p cs)) → IsUnbounded a (Steep p)
steep-fault a given laws ports p port [] are some cause = absurd (some refl)
steep-fault a given laws ports p port (c ∷ cs) are some cause =
    let all = c ∷ cs in
    let e = with_entry a p 0 all in
    let more = e ∷ ports in
    let is = entry-of a laws ports p port 0 all are in
    let at = look-first ports e in
    let s = a.setting in
    let n = numbers_of a more in
    let m = numbers_of a [] in
    let f : Group → ℕ = λ t. t.first.slope in
    let rs = other_ports s p in
    let whole : first_slopes (groups_at s n a.streams p) ≡ first_slopes (groups_of a p all) = ap first_slopes (groups-same a laws more e is at) in
    let one : first_slopes (groups_at s n a.streams p) ≡ f (own_group n a.streams p) + first_slopes (map (group_by s n a.streams p) rs) =
    sum_by-cons f (own_group n a.streams p) (map (group_by s n a.streams p) rs) in
    let other : first_slopes (groups_at s m a.streams p) ≡ f (own_group m a.streams p) + first_slopes (map (group_by s m a.streams p) rs) =
    sum_by-cons f (own_group m a.streams p) (map (group_by s m a.streams p) rs) in
    let head : f (own_group n a.streams p) ≡ f (own_group m a.streams p) = refl in
    let same : first_slopes (groups_of a p all) ≡ first_slopes (groups_at s m a.streams p) = omega (arith, whole, one, other, head, slopes-same a more [] p rs) in
    let fed = some-fed a ports p all are some in (
      port,
      (
        elim cause [
          | inl none ↦ inl none
          | inr less ↦ inr (omega (arith, less, same))
        ],
        fed.0,
        fed.1,
        fed.2,
      ),
    )

-- ---- as the code finds them

pub coming-fault : (a : ClassSetting) → IsClassSetting a → HasPortLaws a.setting.tree → (ports : List PortDelays) → AreReckoned a ports → (p : EgressPort) → HasPort a.setting.tree p
    → AreBefore a ports p → (e : Unbounded) → IsFaultOfComing a ports p e → IsUnbounded a e
coming-fault a given laws ports all p port before (Steep q) h = absurd h
coming-fault a given laws ports all p port before (Large q) h =
    subst (λ (t : EgressPort). IsUnbounded a (Large t)) (sym h.0) (late-fault a given laws ports all p port before h.1)
coming-fault a given laws ports all p port before NoMemory h = tt

pub peak-fault : (a : ClassSetting) → IsClassSetting a → HasPortLaws a.setting.tree → (ports : List PortDelays) → AreReckoned a ports → (p : EgressPort) → HasPort a.setting.tree p
    → AreBefore a ports p → (cs : List Coming) → AreComing a ports p cs → (e : Unbounded) → IsFaultOfPeak a p cs e → IsUnbounded a e
peak-fault a given laws ports all p port before cs are (Steep q) h =
    subst (λ (t : EgressPort). IsUnbounded a (Steep t)) (sym h.0) (steep-fault a given laws ports p port cs are h.1 h.2)
peak-fault a given laws ports all p port before cs are (Large q) h =
    subst (λ (t : EgressPort). IsUnbounded a (Large t)) (sym h.0) (bases-fault a given laws ports all p port before cs are h.1 h.2)
peak-fault a given laws ports all p port before cs are NoMemory h = tt

pub fed-fault : (a : ClassSetting) → IsClassSetting a → HasPortLaws a.setting.tree → (ports : List PortDelays) → AreReckoned a ports → (p : EgressPort) → HasPort a.setting.tree p
    → AreBefore a ports p → (peak : ℕ) (cs : List Coming) → AreComing a ports p cs → HasPeak a p cs peak → (e : Unbounded) → IsFaultOfFed a p peak cs e → IsUnbounded a e
fed-fault a given laws ports all p port before peak cs are has (Steep q) h = absurd h
fed-fault a given laws ports all p port before peak cs are has (Large q) h =
    subst (λ (t : EgressPort). IsUnbounded a (Large t)) (sym h.0) (spent-fault a given laws ports all p port before peak cs are has h.1 h.2 h.3)
fed-fault a given laws ports all p port before peak cs are has NoMemory h = tt
