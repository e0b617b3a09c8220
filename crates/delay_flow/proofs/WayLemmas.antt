-- The numbers of a stream along its way, and what conforms.
use Rattle.std.proofs.Common.{◌≡◌, ℕ, ◌+◌, ◌*◌, ◌<◌, ◌≤◌, inl, inr, Bool, true, false, cond, List, [], ◌∷◌, ◌++◌, length, map, Some, refl, sym, ◌∙◌, ap, subst, arith}
use Rattle.std.specs.Prelude.{All, Contains, filter, sum_by, not, ◌&&◌}
use Rattle.std.specs.List.{list_all}
use Rattle.std.proofs.lemmas.{Bool.cases_Bool, Bool.and_from, Bool.and_parts, Bool.false≢true, List.map-append, List.length-map, List.get_or-map, List.Folds.list_all-append, List.Sorted.IsPermutation-sym, List.Sorted.All-permutation, List.Sorted.sum_by-IsPermutation, List.Sums.sum_by-append, List.Sums.sum_by-cons}
use Rattle.srp_base.proofs.Bools.{held_from}
use Rattle.srp_base.specs.declared.numbers.EgressPort.{EgressPort}
use Rattle.credit_shaper.specs.declared.shaper.Traffic.{Traffic}
use Rattle.tree_topology.specs.{Topology.HasNode, Topology.HasPort, Ports.far_node, Ports.peer_of, Walk.is_behind, Walk.path_between, PortLaws.HasPortLaws}
use Rattle.frame_flow.specs.declared.frame.Frame.{Frame}
use Rattle.frame_flow.specs.{Force.is_port, Flow.Setting}
use Rattle.frame_flow.proofs.{LevelLemmas.same-port, LevelLemmas.port-itself, OriginLemmas.along}
use Rattle.delay_bound.specs.declared.{stream.SentFrame.SentFrame, way.Hop.Hop}
use Rattle.delay_bound.specs.{Bounds.second, Waits.taken_at, Waits.within_of, Windows.is_within, Windows.IsBoundBy}
use Rattle.delay_bound.proofs.FrameLemmas.{brings_no_more}
use Rattle.delay_flow.specs.{ClassStream, is_frame_of, is_booked, Numbers, IsBefore, KeepRules, way_to, hop_of, is_fed, sent_frame, ConformInOrder}

-- ---- a way, port by port

way-last : (s : Setting) → HasPortLaws s.tree → (x : ClassStream) → HasNode s.tree x.talker.0 → (p : EgressPort) → HasPort s.tree p → is_behind s.tree.links p x.talker.0 ≡ false
    → way_to s x p ≡ path_between s.tree.links x.talker.0 p.node.0 ++ p ∷ []
way-last s laws x node p port aside = laws.path_last p x.talker.0 port node (λ is. false≢true (sym aside ∙ is))

way-first : (s : Setting) → HasPortLaws s.tree → (x : ClassStream) → HasNode s.tree x.talker.0 → (p : EgressPort) → HasPort s.tree p → is_behind s.tree.links p x.talker.0 ≡ false
    → x.talker.0 ≡ p.node.0 → way_to s x p ≡ p ∷ []
way-first s laws x node p port aside own =
    let links = s.tree.links in
    let none : path_between links x.talker.0 p.node.0 ≡ [] = subst (λ (y : ℕ). path_between links x.talker.0 y ≡ []) own (laws.path_none x.talker.0 node) in
    way-last s laws x node p port aside ∙ ap (λ (w : List EgressPort). w ++ p ∷ []) none

way-on : (s : Setting) → HasPortLaws s.tree → (x : ClassStream) → HasNode s.tree x.talker.0 → (p r : EgressPort) → HasPort s.tree p → is_behind s.tree.links p x.talker.0 ≡ false
    → IsBefore s p r → way_to s x p ≡ way_to s x (peer_of s.tree.links r) ++ p ∷ []
way-on s laws x node p r port aside other =
    let links = s.tree.links in
    let far : p.node.0 ≡ far_node links (peer_of links r) = sym (laws.peer_back r other.port ∙ other.node) in
    way-last s laws x node p port aside ∙ ap (λ (y : ℕ). path_between links x.talker.0 y ++ p ∷ []) far

-- a Talker lies behind a port exactly where it doesn't lie behind its peer
aside-before : (s : Setting) → HasPortLaws s.tree → (y : ℕ) → HasNode s.tree y → (r : EgressPort) → HasPort s.tree r → is_behind s.tree.links r y ≡ true
    → is_behind s.tree.links (peer_of s.tree.links r) y ≡ false
aside-before s laws y node r port behind =
    held_from (is_behind s.tree.links (peer_of s.tree.links r) y) (sym (laws.sides r y port node) ∙ behind)

behind-before : (s : Setting) → HasPortLaws s.tree → (y : ℕ) → HasNode s.tree y → (r : EgressPort) → HasPort s.tree r → is_behind s.tree.links (peer_of s.tree.links r) y ≡ false
    → is_behind s.tree.links r y ≡ true
behind-before s laws y node r port aside = laws.sides r y port node ∙ ap (λ (b : Bool). not b) aside

-- ---- what is spent on a frame, by a way

abbrev IsWithin : Setting → Numbers → ClassStream → EgressPort → Type 0
IsWithin s n x p = is_fed s p x ≡ true → n.spent p x ≡ within_of x.least (map (hop_of n x) (way_to s x p))

hops-more : (n : Numbers) (x : ClassStream) (way : List EgressPort) (p : EgressPort)
    → within_of x.least (map (hop_of n x) (way ++ p ∷ [])) ≡ within_of x.least (map (hop_of n x) way) + taken_at x.least (hop_of n x p)
hops-more n x way p =
    let hops = map (hop_of n x) way in
    let t : Hop → ℕ = λ h. taken_at x.least h in
    ap (λ (hs : List Hop). sum_by t hs) (map-append (hop_of n x) way (p ∷ []))
    ∙ omega (arith, sum_by-append t hops (hop_of n x p ∷ []), sum_by-cons t (hop_of n x p) [])

-- ---- where a stream is fed

pub fed-first : (s : Setting) → HasPortLaws s.tree → (p : EgressPort) (x : ClassStream) → HasPort s.tree p → HasNode s.tree x.talker.0 → is_booked s p x.id ≡ true
    → x.talker.0 ≡ p.node.0 → is_fed s p x ≡ true
fed-first s laws p x port node booked own =
    let links = s.tree.links in
    let aside : is_behind links p x.talker.0 ≡ false =
    elim (cases_Bool (is_behind links p x.talker.0)) [
      | inl is ↦ absurd (laws.own p port (subst (λ (y : ℕ). is_behind links p y ≡ true) own is))
      | inr nay ↦ nay
    ] in
    let test : EgressPort → Bool = λ q. is_booked s q x.id in
    and_from (not (is_behind links p x.talker.0)) (list_all test (way_to s x p)) (ap (λ (b : Bool). not b) aside)
    (ap (λ (w : List EgressPort). list_all test w) (way-first s laws x node p port aside own) ∙ and_from (test p) true booked refl)

pub fed-on : (s : Setting) → HasPortLaws s.tree → (p r : EgressPort) (x : ClassStream) → HasPort s.tree p → IsBefore s p r → HasNode s.tree x.talker.0 → is_booked s p x.id ≡ true
    → is_fed s (peer_of s.tree.links r) x ≡ true → is_fed s p x ≡ true
fed-on s laws p r x port other node booked fed =
    let links = s.tree.links in
    let q = peer_of links r in
    let y = x.talker.0 in
    let test : EgressPort → Bool = λ t. is_booked s t x.id in
    let parts = and_parts (not (is_behind links q y)) (list_all test (way_to s x q)) fed in
    let behind = behind-before s laws y node r other.port (held_from (is_behind links q y) parts.0) in
    let aside : is_behind links p y ≡ false =
    elim (cases_Bool (is_behind links p y)) [
      | inl is ↦ absurd (
          let same = laws.one_port r p y other.port port other.node behind is in
          false≢true (sym other.other ∙ subst (λ (t : EgressPort). is_port r t ≡ true) same (port-itself r)))
      | inr nay ↦ nay
    ] in
    and_from (not (is_behind links p y)) (list_all test (way_to s x p)) (ap (λ (b : Bool). not b) aside)
    (ap (λ (w : List EgressPort). list_all test w) (way-on s laws x node p r port aside other)
    ∙ list_all-append test (way_to s x q) (p ∷ [])
    ∙ and_from (list_all test (way_to s x q)) (test p && true) parts.1 (and_from (test p) true booked refl))

-- where it is fed, and at each port of its way before
pub aside-fed : (s : Setting) (p : EgressPort) (x : ClassStream) → is_fed s p x ≡ true → is_behind s.tree.links p x.talker.0 ≡ false
aside-fed s p x fed = held_from (is_behind s.tree.links p x.talker.0)
    (and_parts (not (is_behind s.tree.links p x.talker.0)) (list_all (λ q. is_booked s q x.id) (way_to s x p)) fed).0

pub fed-back : (s : Setting) → HasPortLaws s.tree → (p r : EgressPort) (x : ClassStream) → HasPort s.tree p → IsBefore s p r → HasNode s.tree x.talker.0
    → is_behind s.tree.links r x.talker.0 ≡ true → is_fed s p x ≡ true → is_fed s (peer_of s.tree.links r) x ≡ true
fed-back s laws p r x port other node behind fed =
    let links = s.tree.links in
    let q = peer_of links r in
    let y = x.talker.0 in
    let test : EgressPort → Bool = λ t. is_booked s t x.id in
    let parts = and_parts (not (is_behind links p y)) (list_all test (way_to s x p)) fed in
    let aside = aside-fed s p x fed in
    let both : (list_all test (way_to s x q) && (test p && true)) ≡ true =
    sym (ap (λ (w : List EgressPort). list_all test w) (way-on s laws x node p r port aside other) ∙ list_all-append test (way_to s x q) (p ∷ [])) ∙ parts.1 in
    and_from (not (is_behind links q y)) (list_all test (way_to s x q)) (ap (λ (b : Bool). not b) (aside-before s laws y node r other.port behind))
    (and_parts (list_all test (way_to s x q)) (test p && true) both).0

pub booked-fed : (s : Setting) → HasPortLaws s.tree → (p : EgressPort) (x : ClassStream) → HasPort s.tree p → HasNode s.tree x.talker.0 → is_fed s p x ≡ true → is_booked s p x.id ≡ true
booked-fed s laws p x port node fed =
    let links = s.tree.links in
    let y = x.talker.0 in
    let test : EgressPort → Bool = λ t. is_booked s t x.id in
    let parts = and_parts (not (is_behind links p y)) (list_all test (way_to s x p)) fed in
    let before = path_between links y p.node.0 in
    let both : (list_all test before && (test p && true)) ≡ true =
    sym (ap (λ (w : List EgressPort). list_all test w) (way-last s laws x node p port (aside-fed s p x fed)) ∙ list_all-append test before (p ∷ [])) ∙ parts.1 in
    (and_parts (test p) true (and_parts (list_all test before) (test p && true) both).1).0

-- ---- what is spent on a frame

pub spent-within : (s : Setting) → HasPortLaws s.tree → (traffic : Traffic) (streams : List ClassStream) (n : Numbers) → KeepRules s traffic streams n
    → ((q : EgressPort) (y : ClassStream) → HasPort s.tree q → Contains streams y → is_fed s q y ≡ true → n.fed q y ≡ true)
    → (x : ClassStream) → Contains streams x → HasNode s.tree x.talker.0 → (p : EgressPort) → HasPort s.tree p → IsWithin s n x p
spent-within s laws traffic streams n rules feeds x has node p port =
    along s.tree laws (λ q. IsWithin s n x q)
    (λ q there before fed.
    let W : List EgressPort → ℕ = λ w. within_of x.least (map (hop_of n x) w) in
    let at = rules.at q there in
    let here = feeds q x there has fed in
    let aside = aside-fed s q x fed in
    elim (laws.some_port q.node.0 x.talker.0 there.0 node) [
      | inl own ↦ (
          let way = ap W (way-first s laws x node q there aside (sym own)) in
          omega (arith, way, hops-more n x [] q, at.spent_first x has here (sym own)))
      | inr (r, port_r, same, behind) ↦ elim (cases_Bool (is_port r q)) [
        | inl itself ↦ absurd (false≢true (sym aside ∙ subst (λ (t : EgressPort). is_behind s.tree.links t x.talker.0 ≡ true) (same-port r q itself) behind))
        | inr other ↦ (
            let is_before : IsBefore s q r = record { port = port_r; node = same; other = other } in
            let old = before r port_r same other (fed-back s laws q r x there is_before node behind fed) in
            let way = ap W (way-on s laws x node q r there aside is_before) in
            omega (arith, way, old, hops-more n x (way_to s x (peer_of s.tree.links r)) q, at.spent_on r x is_before has here behind))
      ]
    ])
    p port

-- ---- what conforms

sum-sent : (g : SentFrame → ℕ) (fs : List Frame) → sum_by g (map sent_frame fs) ≡ sum_by (λ f. g (sent_frame f)) fs
sum-sent g [] = refl
sum-sent g (f ∷ fs) = omega (arith, sum_by-cons g (sent_frame f) (map sent_frame fs), sum_by-cons (λ e. g (sent_frame e)) f fs, sum-sent g fs)

pub conforms-within : (s : Setting) (traffic : Traffic) (x : ClassStream) (xs : List SentFrame) → ConformInOrder s traffic x xs
    → IsBoundBy (λ f. f.bits) (λ f. Some f.at.0) (x.limits.burst * second) x.limits.slope (filter (is_frame_of traffic x) s.frames)
conforms-within s traffic x xs is from to up =
    let fs = filter (is_frame_of traffic x) s.frames in
    let g : SentFrame → ℕ = λ y. cond (is_within from to (Some y.at.0)) y.bits 0 in
    omega (arith, sum-sent g fs, sum_by-IsPermutation g (map sent_frame fs) xs is.0, brings_no_more (x.limits.burst * second) x.limits.slope from to xs is.1.pairs up)

pub conforms-sizes : (s : Setting) (traffic : Traffic) (x : ClassStream) (xs : List SentFrame) → ConformInOrder s traffic x xs
    → All (λ f. f.bits ≤ x.limits.most) (filter (is_frame_of traffic x) s.frames)
conforms-sizes s traffic x xs is k d below =
    let fs = filter (is_frame_of traffic x) s.frames in
    let S : SentFrame → Type 0 = λ y. y.bits ≤ x.limits.most in
    let all = All-permutation S xs (map sent_frame fs) (IsPermutation-sym (map sent_frame fs) xs is.0) is.1.sizes in
    let few : k < length (map sent_frame fs) = omega (arith, below, length-map fs sent_frame) in
    subst S (get_or-map sent_frame fs k d (sent_frame d) below) (all k (sent_frame d) few)
