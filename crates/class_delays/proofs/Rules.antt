-- What is reckoned keeps the rules.
use Rattle.std.proofs.Common.{◌≡◌, ℕ, zero, suc, ◌+◌, ◌*◌, ◌<◌, ◌≤◌, inl, inr, Bool, true, cond, List, [], ◌∷◌, get_or, map, Option, Some, None, refl, sym, ◌∙◌, ap, subst, arith}
use Rattle.std.specs.Prelude.{All, Contains, filter, find, sum_by, not, ◌==◌, ◌&&◌}
use Rattle.std.proofs.Math.Nat.{le-max_left, le-max_right}
use Rattle.std.proofs.lemmas.{Bool.cond-true, Bool.cond-false, Bool.cases_Bool, Bool.eq-eqb, Bool.ne_eqb, Bool.false≢true, List.Elements.All-nil, List.Elements.All-cons, List.Elements.All-head, List.Elements.All-tail, List.Elements.All-contains, List.Elements.All-contains_itself, List.Elements.All-filter, List.Elements.All-weaker, List.Elements.Contains-get_or, List.Elements.filter_passes, List.Sums.sum_by-cons}
use Rattle.srp_base.proofs.Lists.{map-same}
use Rattle.srp_base.proofs.Options.{one_some}
use Rattle.srp_base.proofs.Bools.{held_from}
use Rattle.srp_base.specs.declared.{numbers.EgressPort.EgressPort}
use Rattle.srp_base.specs.Bandwidth.{bits_of, bit_ps_of}
use Rattle.tree_topology.specs.{Topology.HasPort, Topology.IsSound, Ports.peer_of, Walk.is_behind, PortLaws.HasPortLaws}
use Rattle.frame_flow.specs.{Force.is_port, Copies.ports_at}
use Rattle.frame_flow.proofs.LevelLemmas.{same-port, port-itself, ports-are}
use Rattle.delay_bound.specs.declared.{bound.Bound.Bound, bound.Group.Group, stream.ClassStream.ClassStream}
use Rattle.delay_bound.specs.{Bounds.second, Bounds.IsPeak, Waits.wait_of, Waits.late_behind}
use Rattle.delay_flow.specs.{Ways.is_fed, Rules.IsBefore, Rules.IsFurther, Rules.AreNoLonger, Rules.other_ports, Rules.bound_of, Rules.line_bound, Rules.class_bound, Rules.groups_at, Rules.KeepRules, Rules.KeepRulesAt}
use Rattle.delay_flow.proofs.Sums.{contains-filter, contains-map}
use Rattle.delay_flow.proofs.WayLemmas.{fed-first, fed-on}
use Rattle.class_delays.specs.declared.{coming.Coming.Coming, delays.FedStream.FedStream, delays.PortDelays.PortDelays}
use Rattle.class_delays.specs.{ClassSetting, IsClassSetting, class_traffic, delays_at, is_same, stream_in, late_in, wait_in, spent_in, peak_in, rate_at, longest_of, fed_streams, slope_at, idle_at, further_of, numbers_of, fed_by, base_of, base_from, bound_from, comes_from, own_of, group_of, groups_of, ComesFirst, ComesBy, ComesSo, IsComing, IsEntry, IsReckoned, AreReckoned, HasLate}
use Rattle.class_delays.proofs.Finds.{found, found-map, same-stream}
use Rattle.class_delays.proofs.Entries.{at-port}
use Rattle.class_delays.proofs.Comings.{fed-found, talker-node, filter-has}
use Rattle.class_delays.proofs.Rates.{rates-are}

-- ---- what comes, by how it comes

come-first : (a : ClassSetting) → HasPortLaws a.setting.tree → (ports : List PortDelays) (p : EgressPort) (by : Option EgressPort) (c : Coming) → ComesSo a ports p by c
    → c.stream.talker.0 ≡ p.node.0 → ComesFirst a p c
come-first a laws ports p None c h own = h
come-first a laws ports p (Some r) c h own =
    absurd (laws.own r h.other.port (subst (λ (y : ℕ). is_behind a.setting.tree.links r y ≡ true) (own ∙ sym h.other.node) h.behind))

come-by : (a : ClassSetting) → HasPortLaws a.setting.tree → (ports : List PortDelays) (p r : EgressPort) (by : Option EgressPort) (c : Coming) → ComesSo a ports p by c
    → IsBefore a.setting p r → is_behind a.setting.tree.links r c.stream.talker.0 ≡ true → ComesBy a ports p r c
come-by a laws ports p r None c h other behind =
    absurd (laws.own r other.port (subst (λ (y : ℕ). is_behind a.setting.tree.links r y ≡ true) (h.own ∙ sym other.node) behind))
come-by a laws ports p r (Some q) c h other behind =
    let same = laws.one_port q r c.stream.talker.0 h.other.port other.port (h.other.node ∙ sym other.node) h.behind behind in
    subst (λ (t : EgressPort). ComesBy a ports p t c) same h

-- a stream comes in one way, and with one lateness
late-one : (a : ClassSetting) → HasPortLaws a.setting.tree → (ports : List PortDelays) (p : EgressPort) (by : Option EgressPort) (c d : Coming) → ComesSo a ports p by c → IsComing a ports p d
    → d.stream ≡ c.stream → d.late ≡ c.late
late-one a laws ports p None c d h k same =
    let first = come-first a laws ports p d.by d k (ap (λ (y : ClassStream). y.talker.0) same ∙ h.own) in
    first.late ∙ sym h.late
late-one a laws ports p (Some r) c d h k same =
    let links = a.setting.tree.links in
    let q = peer_of links r in
    let other = come-by a laws ports p r d.by d k h.other (subst (λ (y : ClassStream). is_behind links r y.talker.0 ≡ true) (sym same) h.behind) in
    let there = subst (λ (y : ClassStream). stream_in y (delays_at ports q) ≡ Some other.sent) same other.there in
    let one = one_some (stream_in c.stream (delays_at ports q)) other.sent h.sent there h.there in
    other.late ∙ ap (λ (f : FedStream). late_behind f.late f.wait (rate_at a.setting q) (rate_at a.setting p)) one ∙ sym h.late

-- and takes one time up to there
pub before-one : (a : ClassSetting) → HasPortLaws a.setting.tree → (ports : List PortDelays) (p : EgressPort) (by : Option EgressPort) (c d : Coming) → ComesSo a ports p by c → IsComing a ports p d
    → d.stream ≡ c.stream → d.before ≡ c.before
before-one a laws ports p None c d h k same =
    let first = come-first a laws ports p d.by d k (ap (λ (y : ClassStream). y.talker.0) same ∙ h.own) in
    first.before ∙ sym h.before
before-one a laws ports p (Some r) c d h k same =
    let links = a.setting.tree.links in
    let q = peer_of links r in
    let other = come-by a laws ports p r d.by d k h.other (subst (λ (y : ClassStream). is_behind links r y.talker.0 ≡ true) (sym same) h.behind) in
    let there = subst (λ (y : ClassStream). stream_in y (delays_at ports q) ≡ Some other.sent) same other.there in
    let one = one_some (stream_in c.stream (delays_at ports q)) other.sent h.sent there h.there in
    other.before ∙ ap (λ (f : FedStream). f.spent) one ∙ sym h.before

-- the tests of the groups
own-test : (a : ClassSetting) → HasPortLaws a.setting.tree → (ports : List PortDelays) (p : EgressPort) (by : Option EgressPort) (c : Coming) → ComesSo a ports p by c
    → (c.stream.talker.0 == p.node.0) ≡ comes_from None by
own-test a laws ports p None c h = eq-eqb c.stream.talker.0 p.node.0 h.own
own-test a laws ports p (Some r) c h =
    ne_eqb c.stream.talker.0 p.node.0
    (λ own. laws.own r h.other.port (subst (λ (y : ℕ). is_behind a.setting.tree.links r y ≡ true) (own ∙ sym h.other.node) h.behind))

by-test : (a : ClassSetting) → HasPortLaws a.setting.tree → (ports : List PortDelays) (p r : EgressPort) (by : Option EgressPort) (c : Coming) → ComesSo a ports p by c → IsBefore a.setting p r
    → is_behind a.setting.tree.links r c.stream.talker.0 ≡ comes_from (Some r) by
by-test a laws ports p r None c h other =
    let links = a.setting.tree.links in
    elim (cases_Bool (is_behind links r c.stream.talker.0)) [
      | inl behind ↦ absurd (laws.own r other.port (subst (λ (y : ℕ). is_behind links r y ≡ true) (h.own ∙ sym other.node) behind))
      | inr aside ↦ aside
    ]
by-test a laws ports p r (Some q) c h other =
    let links = a.setting.tree.links in
    elim (cases_Bool (is_port q r)) [
      | inl same ↦ subst (λ (t : EgressPort). is_behind links t c.stream.talker.0 ≡ true) (same-port q r same) h.behind ∙ sym same
      | inr differ ↦ elim (cases_Bool (is_behind links r c.stream.talker.0)) [
        | inl behind ↦ absurd (
            let same = laws.one_port q r c.stream.talker.0 h.other.port other.port (h.other.node ∙ sym other.node) h.behind behind in
            false≢true (sym differ ∙ subst (λ (t : EgressPort). is_port q t ≡ true) same (port-itself q)))
        | inr aside ↦ aside ∙ sym differ
      ]
    ]

-- ---- the numbers that are found

-- those of a stream that is fed are of what comes of it
pub record IsNumbered (a : ClassSetting) (ports : List PortDelays) (e : PortDelays) (coming : List Coming) (x : ClassStream) : Type 0 where
  pub come : Coming
  pub has : Contains coming come
  pub same : come.stream ≡ x
  pub at : stream_in x (delays_at ports e.at) ≡ Some (fed_by a e.at e.peak come)

pub numbered : (a : ClassSetting) (ports : List PortDelays) (e : PortDelays) (is : IsEntry a ports e) → delays_at ports e.at ≡ Some e → (x : ClassStream) → Contains a.streams x
    → is_fed a.setting e.at x ≡ true → IsNumbered a ports e is.coming x
numbered a ports e is at x has fed =
    let some = fed-found a ports e is x has fed in
    let test : FedStream → Bool = λ f. is_same f.stream x in
    let there : find test (map (fed_by a e.at e.peak) is.coming) ≡ Some some.0 = ap (find test) (sym is.fed) ∙ some.1 in
    let of = found-map test (fed_by a e.at e.peak) is.coming some.0 there in
    let h = found (λ (c : Coming). is_same c.stream x) is.coming of.0 of.1 in
    record {
      come = of.0;
      has = h.1;
      same = same-stream of.0.stream x h.0;
      at = ap (stream_in x) at ∙ some.1 ∙ ap (λ (f : FedStream). Some f) of.2;
    }

pub coming-is : (a : ClassSetting) (ports : List PortDelays) (e : PortDelays) (is : IsEntry a ports e) (c : Coming) → Contains is.coming c → IsComing a ports e.at c
coming-is a ports e is c has = All-contains (IsComing a ports e.at) is.coming c is.are.each has

-- each that comes is fed, and is found with its lateness
late-found : (a : ClassSetting) → HasPortLaws a.setting.tree → (ports : List PortDelays) (e : PortDelays) (is : IsEntry a ports e) → delays_at ports e.at ≡ Some e → (c : Coming)
    → Contains is.coming c → (numbers_of a ports).late e.at c.stream ≡ c.late
late-found a laws ports e is at c has =
    let listed = subst (λ (xs : List ClassStream). Contains xs c.stream) is.are.streams (contains-map (λ (d : Coming). d.stream) is.coming c has) in
    let h = filter-has (is_fed a.setting e.at) a.streams c.stream listed in
    let n = numbered a ports e is at c.stream h.1 h.0 in
    ap late_in n.at ∙ late-one a laws ports e.at c.by c n.come (coming-is a ports e is c has) (coming-is a ports e is n.come n.has) n.same

-- ---- sums

sum-side : (fed test : ClassStream → Bool) (g : ClassStream → ℕ) (xs : List ClassStream)
    → sum_by g (filter (λ x. fed x && test x) xs) ≡ sum_by (λ x. cond (test x) (g x) 0) (filter fed xs)
sum-side fed test g [] = refl
sum-side fed test g (x ∷ xs) =
    let both : ClassStream → Bool = λ y. fed y && test y in
    let part : ClassStream → ℕ = λ y. cond (test y) (g y) 0 in
    let rest = sum-side fed test g xs in
    let left : List ClassStream → ℕ = λ ys. sum_by g ys in
    let right : List ClassStream → ℕ = λ ys. sum_by part ys in
    elim (cases_Bool (fed x)) [
      | inl is ↦ (
          let r = ap right (cond-true (fed x) (x ∷ filter fed xs) (filter fed xs) is) ∙ sum_by-cons part x (filter fed xs) in
          elim (cases_Bool (test x)) [
            | inl passes ↦ (
                let l = ap left (cond-true (both x) (x ∷ filter both xs) (filter both xs) (ap (λ (b : Bool). b && test x) is ∙ passes)) ∙ sum_by-cons g x (filter both xs) in
                omega (arith, l, r, rest, cond-true (test x) (g x) 0 passes))
            | inr fails ↦ (
                let l = ap left (cond-false (both x) (x ∷ filter both xs) (filter both xs) (ap (λ (b : Bool). b && test x) is ∙ fails)) in
                omega (arith, l, r, rest, cond-false (test x) (g x) 0 fails))
          ])
      | inr nay ↦ (
          let l = ap left (cond-false (both x) (x ∷ filter both xs) (filter both xs) (ap (λ (b : Bool). b && test x) nay)) in
          let r = ap right (cond-false (fed x) (x ∷ filter fed xs) (filter fed xs) nay) in
          omega (arith, l, r, rest))
    ]

sum-streams : (f : ClassStream → ℕ) (g : Coming → ℕ) (cs : List Coming) → All (λ c. f c.stream ≡ g c) cs → sum_by f (map (λ c. c.stream) cs) ≡ sum_by g cs
sum-streams f g [] all = refl
sum-streams f g (c ∷ cs) all =
    let P : Coming → Type 0 = λ d. f d.stream ≡ g d in
    omega (arith, sum_by-cons f c.stream (map (λ d. d.stream) cs), sum_by-cons g c cs, All-head P c cs all, sum-streams f g cs (All-tail P c cs all))

-- what streams bring that are fed and pass a test is what comes so
bound-same : (a : ClassSetting) → HasPortLaws a.setting.tree → (ports : List PortDelays) (e : PortDelays) (is : IsEntry a ports e) → delays_at ports e.at ≡ Some e
    → (test : ClassStream → Bool) (by : Option EgressPort) → ((c : Coming) → IsComing a ports e.at c → test c.stream ≡ comes_from by c.by)
    → bound_of (numbers_of a ports) e.at (filter (λ x. is_fed a.setting e.at x && test x) a.streams) ≡ bound_from by is.coming
bound-same a laws ports e is at test by same =
    let n = numbers_of a ports in
    let p = e.at in
    let fed = is_fed a.setting p in
    let cs = is.coming in
    let base : ClassStream → ℕ = λ x. x.limits.burst * second + x.limits.slope * n.late p x in
    let slope : ClassStream → ℕ = λ x. x.limits.slope in
    let to : ℕ → ℕ → Bound = λ b s. record { base = b; slope = s } in
    let over : (g : ClassStream → ℕ) (h : Coming → ℕ) → ((c : Coming) → Contains cs c → g c.stream ≡ h c)
    → sum_by g (filter (λ x. fed x && test x) a.streams) ≡ sum_by (λ c. cond (comes_from by c.by) (h c) 0) cs =
    λ g h each.
    (let part : ClassStream → ℕ = λ x. cond (test x) (g x) 0 in
    let whole : Coming → ℕ = λ c. cond (comes_from by c.by) (h c) 0 in
    sum-side fed test g a.streams
    ∙ ap (λ (xs : List ClassStream). sum_by part xs) (sym is.are.streams)
    ∙ sum-streams part whole cs
    (All-weaker (Contains cs) (λ c. part c.stream ≡ whole c)
    (λ c has.
    ap (λ (b : Bool). cond b (g c.stream) 0) (same c (coming-is a ports e is c has))
    ∙ ap (λ (k : ℕ). cond (comes_from by c.by) k 0) (each c has)) cs (All-contains_itself cs))) in
    let bases = over base base_of (λ c has. ap (λ (k : ℕ). c.stream.limits.burst * second + c.stream.limits.slope * k) (late-found a laws ports e is at c has)) in
    let slopes = over slope (λ c. c.stream.limits.slope) (λ c has. refl) in
    ap (λ (b : ℕ). to b (sum_by slope (filter (λ x. fed x && test x) a.streams))) bases
    ∙ ap (λ (s : ℕ). to (sum_by (base_from by) cs) s) slopes

pub groups-same : (a : ClassSetting) → HasPortLaws a.setting.tree → (ports : List PortDelays) (e : PortDelays) (is : IsEntry a ports e) → delays_at ports e.at ≡ Some e
    → groups_at a.setting (numbers_of a ports) a.streams e.at ≡ groups_of a e.at is.coming
groups-same a laws ports e is at =
    let s = a.setting in
    let links = s.tree.links in
    let p = e.at in
    let n = numbers_of a ports in
    let rs = other_ports s p in
    let test : EgressPort → Bool = λ r. not (is_port r p) in
    let node = is.port.0 in
    let to : Bound → List Bound → Group = λ b more. record { first = b; more = more } in
    let group : EgressPort → Group = λ r. to (bound_of n p (filter (λ x. is_fed s p x && is_behind links r x.talker.0) a.streams)) (further_of a p r) in
    let own = ap (λ (b : Bound). to b []) (bound-same a laws ports e is at (λ x. x.talker.0 == p.node.0) None (λ c come. own-test a laws ports p c.by c come)) in
    let others : map group rs ≡ map (group_of a p is.coming) rs =
    map-same group (group_of a p is.coming) rs
    (λ k d below.
    let r = get_or rs k d in
    let known = All-filter test (λ (t : EgressPort). HasPort s.tree t × (t.node.0 ≡ p.node.0)) (ports_at links p.node.0) (ports-are s.tree p.node.0 node) k d below in
    let other : IsBefore s p r = record { port = known.0; node = known.1; other = held_from (is_port r p) (filter_passes test (ports_at links p.node.0) k d below) } in
    ap (λ (b : Bound). to b (further_of a p r))
    (bound-same a laws ports e is at (λ x. is_behind links r x.talker.0) (Some r) (λ c come. by-test a laws ports p r c.by c come other))) in
    ap (λ (g : Group). g ∷ map group rs) own ∙ ap (λ (gs : List Group). own_of is.coming ∷ gs) others

-- ---- the further bounds

longest-of : (xs : List ClassStream) (x : ClassStream) → Contains xs x → x.limits.most ≤ longest_of xs
longest-of [] x (k, below, same) = absurd (omega (arith, below))
longest-of (y ∷ ys) x (zero, below, same) = subst (λ (t : ClassStream). t.limits.most ≤ longest_of (y ∷ ys)) same (le-max_left y.limits.most (longest_of ys))
longest-of (y ∷ ys) x (suc k, below, same) =
    omega (arith, longest-of ys x (k, omega (arith, below), same), le-max_right y.limits.most (longest_of ys))

further-is : (a : ClassSetting) (ports : List PortDelays) (p r : EgressPort) → All (IsFurther a.setting (class_traffic a.class) a.streams (numbers_of a ports) p r) (further_of a p r)
further-is a ports p r =
    let q = peer_of a.setting.tree.links r in
    let n = numbers_of a ports in
    let most = longest_of (fed_streams a q) in
    let F : Bound → Type 0 = λ b. IsFurther a.setting (class_traffic a.class) a.streams n p r b in
    let none_longer : AreNoLonger n a.streams q most =
    λ k d below fed. longest-of (fed_streams a q) (get_or a.streams k d) (contains-filter (is_fed a.setting q) a.streams (get_or a.streams k d) (Contains-get_or a.streams k d below) fed) in
    let line = line_bound (rate_at a.setting q) (rate_at a.setting p) most in
    let credit = class_bound (rate_at a.setting q) (rate_at a.setting p) (slope_at a q) (idle_at a q) most in
    All-cons F credit (line ∷ []) (record { most = most; longest = none_longer; bound = inr refl })
    (All-cons F line [] (record { most = most; longest = none_longer; bound = inl refl }) (All-nil F))

-- ---- the rules

not-empty : (cs : List Coming) (c : Coming) → Contains cs c → cs ≡ [] → ⊥
not-empty cs c has none = let there = subst (λ (t : List Coming). Contains t c) none has in omega (arith, there.1)

-- how late the streams are at a port
by-of : (a : ClassSetting) → HasPortLaws a.setting.tree → (ports : List PortDelays) (e : PortDelays) (is : IsEntry a ports e) (r : EgressPort) (x : ClassStream) → IsBefore a.setting e.at r
    → is_behind a.setting.tree.links r x.talker.0 ≡ true → (k : IsNumbered a ports e is.coming x) → ComesBy a ports e.at r k.come
by-of a laws ports e is r x other behind k =
    come-by a laws ports e.at r k.come.by k.come (coming-is a ports e is k.come k.has) other
    (subst (λ (y : ClassStream). is_behind a.setting.tree.links r y.talker.0 ≡ true) (sym k.same) behind)

first-of : (a : ClassSetting) → HasPortLaws a.setting.tree → (ports : List PortDelays) (e : PortDelays) (is : IsEntry a ports e) (x : ClassStream) → x.talker.0 ≡ e.at.node.0
    → (k : IsNumbered a ports e is.coming x) → ComesFirst a e.at k.come
first-of a laws ports e is x own k =
    come-first a laws ports e.at k.come.by k.come (coming-is a ports e is k.come k.has) (ap (λ (y : ClassStream). y.talker.0) k.same ∙ own)

pub late-here : (a : ClassSetting) → HasPortLaws a.setting.tree → (ports : List PortDelays) (e : PortDelays) → IsEntry a ports e → delays_at ports e.at ≡ Some e → HasLate a e.at (numbers_of a ports)
late-here a laws ports e is at =
    let s = a.setting in
    record {
      first = λ x has fed own. let k = numbered a ports e is at x has fed in ap late_in k.at ∙ (first-of a laws ports e is x own k).late;
      on = λ r x other has fed behind.
          let q = peer_of s.tree.links r in
          let k = numbered a ports e is at x has fed in
          let b = by-of a laws ports e is r x other behind k in
          let there = subst (λ (y : ClassStream). stream_in y (delays_at ports q) ≡ Some b.sent) k.same b.there in
          ap late_in k.at ∙ b.late ∙ sym (ap (λ (o : Option FedStream). late_behind (late_in o) (wait_in o) (rate_at s q) (rate_at s e.at)) there);
    }

pub rules-here : (a : ClassSetting) → IsClassSetting a → HasPortLaws a.setting.tree → (ports : List PortDelays) (e : PortDelays) → IsReckoned a ports e → delays_at ports e.at ≡ Some e
    → KeepRulesAt a.setting (class_traffic a.class) a.streams (numbers_of a ports) e.at
rules-here a given laws ports e reckoned at =
    let s = a.setting in
    let links = s.tree.links in
    let p = e.at in
    let n = numbers_of a ports in
    let rate = rate_at s p in
    let is = reckoned.entry in
    let num = numbered a ports e is at in
    let late = late-here a laws ports e is at in
    let bounded : (x : ClassStream) → Contains a.streams x → is_fed s p x ≡ true → (0 < slope_at a p) × IsPeak (groups_of a p is.coming) (slope_at a p) e.peak =
    λ x has fed.
    (let k = num x has fed in
    elim reckoned.peak [
      | inl none ↦ absurd (not-empty is.coming k.come k.has none)
      | inr some ↦ some
    ]) in
    let spent : (x : ClassStream) (has : Contains a.streams x) (fed : is_fed s p x ≡ true) (before : ℕ) → (num x has fed).come.before ≡ before
    → n.spent p x ≡ before + (bit_ps_of rate + (n.wait p x + x.least) * bit_ps_of rate) =
    λ x has fed before is_before.
    (let k = num x has fed in
    let w = ap wait_in k.at in
    let rest : ℕ → ℕ → ℕ = λ wait least. bit_ps_of rate + (wait + least) * bit_ps_of rate in
    ap spent_in k.at
    ∙ ap (λ (b : ℕ). b + rest (fed_by a p e.peak k.come).wait k.come.stream.least) is_before
    ∙ ap (λ (y : ClassStream). before + rest (fed_by a p e.peak k.come).wait y.least) k.same
    ∙ ap (λ (v : ℕ). before + rest v x.least) (sym w)) in
    record {
      fed_first = λ x has booked own. fed-first s laws p x is.port (talker-node a given x has) booked own;
      fed_on = λ r x other has booked fed. fed-on s laws p r x is.port other (talker-node a given x has) booked fed;
      late_first = late.first;
      late_on = late.on;
      more = λ r other. further-is a ports p r;
      slope = λ x has fed. (bounded x has fed).0;
      peak = λ x has fed.
          subst (λ (h : ℕ). IsPeak (groups_at s n a.streams p) (slope_at a p) h) (sym (ap peak_in at))
          (subst (λ (gs : List Group). IsPeak gs (slope_at a p) e.peak) (sym (groups-same a laws ports e is at)) (bounded x has fed).1);
      wait = λ x has fed.
          let k = num x has fed in
          let of : ℕ → ℕ → ℕ = λ peak least. wait_of (bits_of rate) (slope_at a p) (idle_at a p) peak least in
          ap wait_in k.at ∙ ap (λ (y : ClassStream). of e.peak y.least) k.same ∙ ap (λ (h : ℕ). of h x.least) (sym (ap peak_in at));
      spent_first = λ x has fed own. omega (arith, spent x has fed 0 (first-of a laws ports e is x own (num x has fed)).before);
      spent_on = λ r x other has fed behind.
          let q = peer_of links r in
          let k = num x has fed in
          let b = by-of a laws ports e is r x other behind k in
          let there = subst (λ (y : ClassStream). stream_in y (delays_at ports q) ≡ Some b.sent) k.same b.there in
          spent x has fed (n.spent q x) (b.before ∙ sym (ap spent_in there));
    }

-- where all ports are reckoned the numbers keep the rules
pub keep-rules : (a : ClassSetting) → IsClassSetting a → IsSound a.setting.tree → HasPortLaws a.setting.tree → (ports : List PortDelays) → AreReckoned a ports
    → ((p : EgressPort) → HasPort a.setting.tree p → (e : PortDelays) × (delays_at ports p ≡ Some e))
    → KeepRules a.setting (class_traffic a.class) a.streams (numbers_of a ports)
keep-rules a given sound laws ports all there = record {
  rates = rates-are a.setting laws sound;
  at = λ p port.
      let e = there p port in
      let h = at-port ports p e.0 e.1 in
      let is = All-contains (IsReckoned a ports) ports e.0 all h.1 in
      subst (λ (q : EgressPort). KeepRulesAt a.setting (class_traffic a.class) a.streams (numbers_of a ports) q) h.0
      (rules-here a given laws ports e.0 is (subst (λ (q : EgressPort). delays_at ports q ≡ Some e.0) (sym h.0) e.1));
}
