-- Which refusal a failure names: the first along the path; what it says; and that at rest there is one.
use Rattle.std.proofs.Common.{◌≡◌, ℕ, zero, suc, ◌+◌, ◌-◌, ◌<◌, Bool, true, false, ◌&&◌, ◌==◌, if◌then◌else◌, List, [], ◌∷◌, refl, sym, ap, ◌∙◌, arith}
use Rattle.std.specs.Prelude.{slice_get, Option, Some, None, IsSome, is_some, option_map, option_and_then, ◌↔◌}
use Rattle.std.specs.Option.{option_map_or}
use Rattle.std.proofs.lemmas.{Bool.and_parts, Bool.eqb-true, Bool.Decides.nat_tests}
use Rattle.srp_base.specs.declared.{numbers.BridgeId.BridgeId, numbers.EgressPort.EgressPort, numbers.StreamId.StreamId, streams.Failure.Failure, streams.Talker.Talker, streams.TalkerReg.TalkerReg}
use Rattle.stream_importance.specs.declared.{entry.Want.Want, entry.Fit.Fit, entry.Fit.TheVariants.Fits, entry.Fit.TheVariants.TooLittle}
use Rattle.stream_importance.specs.Bandwidth.{cap_of}
use Rattle.port_ledger.specs.{Decision.above, Decision.booked_of, Decision.does_fit, Book.Book, Book.fit_for, Book.tested_entry, Book.code_of}
use Rattle.tree_topology.specs.{Topology.HasNode, Walk.path_between, Refusal.is_station}
use Rattle.msrp_talker.specs.TalkerOut.{talker_in}
use Rattle.msrp.specs.{PortState.PortState, Stream.is_talker_port, Stream.talkers_of, Stream.first_talker as talker_in_list, Stream.fit_at, Stream.want_of_talker, Side.talker_of, Side.has_talk}
use Rattle.attribute_propagation.specs.Ports.{place_of}
use Rattle.node_core.specs.State.{NodeState, fit_of}
use Rattle.world_core.specs.{World.WorldState, World.node_at, Talks.HasOneTalker}
use Rattle.network_laws.specs.{Refusal, IsTalkedOnce, is_talked_at, talking_node, failure_at, slope_of_reg, refusal_of, refusal_in, refusal_at, first_refusal, refusal_named, refusal_to, IsNamedAt, IsRefusalTo}
use Rattle.network_laws.proofs.{StreamNode.KeptWants, StreamNode.too-little-booked, StreamNet.AreStreamsStill, StreamLaw.failed-at-node, StreamLaw.shown, StreamLaw.reason-there, StreamLaw.named-there, StreamLaw.fit-there, StreamLaw.moment-is}

-- ---- the first along some ports

first-at : (g : EgressPort → Option Refusal) (ports : List EgressPort) (r : Refusal) → first_refusal g ports ≡ Some r
    → (i : ℕ) × (p : EgressPort) × (slice_get ports i ≡ Some p) × (g p ≡ Some r)
first-at g [] r h = cc
first-at g (p ∷ ports) r h = by (g p) refl (λ k. first-at g ports r k)
  where
    by : (o : Option Refusal) → g p ≡ o → (first_refusal g ports ≡ Some r → (i : ℕ) × (q : EgressPort) × (slice_get ports i ≡ Some q) × (g q ≡ Some r))
        → (i : ℕ) × (q : EgressPort) × (slice_get (p ∷ ports) i ≡ Some q) × (g q ≡ Some r)
    by None e later =
        let rest : first_refusal g (p ∷ ports) ≡ first_refusal g ports = rw e refl in
        let k = later (sym rest ∙ h) in
        (suc k.0, k.1, k.2, k.3)
    by (Some x) e later = let here : first_refusal g (p ∷ ports) ≡ Some x = rw e refl in (0, p, refl, e ∙ (sym here ∙ h))

first-some : (g : EgressPort → Option Refusal) (ports : List EgressPort) (i : ℕ) (p : EgressPort) → slice_get ports i ≡ Some p → is_some (g p) ≡ true → is_some (first_refusal g ports) ≡ true
first-some g [] i p h k = cc
first-some g (q ∷ ports) i p h k = by (g q) refl i h (λ j e. first-some g ports j p e k)
  where
    by : (o : Option Refusal) → g q ≡ o → (i : ℕ) → slice_get (q ∷ ports) i ≡ Some p → ((j : ℕ) → slice_get ports j ≡ Some p → is_some (first_refusal g ports) ≡ true)
        → is_some (first_refusal g (q ∷ ports)) ≡ true
    by (Some x) e i h later = rw e refl
    by None e zero h later =
        let same : q ≡ p = cc in
        let none : is_some (g p) ≡ false = ap (λ z. is_some (g z)) (sym same) ∙ ap is_some e in
        cc
    by None e (suc j) h later = rw e (later j h)

-- ---- what a refusal says

-- what doesn't fit
record IsTooLittle (fit : Option Fit) (p : EgressPort) (slope code : ℕ) (r : Refusal) : Type 0 where
  more : ℕ
  cap : ℕ
  fit_is : fit ≡ Some (TooLittle more cap code)
  at_is : r.at ≡ p
  more_is : r.more_important ≡ more
  slope_is : r.slope ≡ slope
  cap_is : r.cap ≡ cap
  code_is : r.code ≡ code

too-little : (p : EgressPort) (slope code : ℕ) (fit : Option Fit) (r : Refusal) → refusal_of p slope code fit ≡ Some r → IsTooLittle fit p slope code r
too-little p slope code None r h = cc
too-little p slope code (Some Fits) r h = cc
too-little p slope code (Some (TooLittle more cap given)) r h = by (given == code) refl
  where
    by : (b : Bool) → (given == code) ≡ b → IsTooLittle (Some (TooLittle more cap given)) p slope code r
    by false e = let none : refusal_of p slope code (Some (TooLittle more cap given)) ≡ None = rw e refl in cc
    by true e =
        let made : Refusal = record { at = p; more_important = more; slope = slope; cap = cap; code = given } in
        let some : refusal_of p slope code (Some (TooLittle more cap given)) ≡ Some made = rw e refl in
        let same : made ≡ r = cc in
        record {
          more = more;
          cap = cap;
          fit_is = ap (λ n. Some (TooLittle more cap n)) (eqb-true given code e);
          at_is = ap (λ (x : Refusal). x.at) (sym same);
          more_is = ap (λ (x : Refusal). x.more_important) (sym same);
          slope_is = ap (λ (x : Refusal). x.slope) (sym same);
          cap_is = ap (λ (x : Refusal). x.cap) (sym same);
          code_is = ap (λ (x : Refusal). x.code) (sym same) ∙ eqb-true given code e;
        }

passes : (now : ℕ) (book : Book) (want : Want) (more cap code : ℕ) → fit_for now book want ≡ TooLittle more cap code → cap < more + want.slope
passes now book want more cap code h = by (does_fit now book.caps (booked_of book.entries) (tested_entry book.entries want)) refl
  where
    more_in : Fit → ℕ
    more_in Fits = 0
    more_in (TooLittle m c n) = m

    cap_in : Fit → ℕ
    cap_in Fits = 0
    cap_in (TooLittle m c n) = c

    by : (b : Bool) → does_fit now book.caps (booked_of book.entries) (tested_entry book.entries want) ≡ b → cap < more + want.slope
    by true e = let fits : fit_for now book want ≡ Fits = rw e refl in cc
    by false e =
        let sum = above now (tested_entry book.entries want) (booked_of book.entries) in
        let most = cap_of book.caps want.class in
        let is : fit_for now book want ≡ TooLittle sum most (code_of now book.caps (booked_of book.entries) (tested_entry book.entries want)) = rw e refl in
        let more_is : more ≡ sum = ap more_in (sym h ∙ is) in
        let cap_is : cap ≡ most = ap cap_in (sym h ∙ is) in
        let over : most < sum + want.slope = grind (arith, nat_tests, e) in
        omega arith

-- a fit that is too little is that of the want of the stream's Talker, whose slope is asked
fit-passes : (now at : ℕ) (book : Book) (xs : List TalkerReg) (more cap code : ℕ) → fit_at now at book xs ≡ Some (TooLittle more cap code) → cap < more + slope_of_reg (talker_in_list xs)
fit-passes now at book xs more cap code h = by (is_talker_port (suc at) xs) refl
  where
    of-want : (o : Option Talker) → talker_in (talker_in_list xs) ≡ o → option_map (fit_for now book) (option_and_then want_of_talker (talker_in (talker_in_list xs))) ≡ Some (TooLittle more cap code)
        → cap < more + slope_of_reg (talker_in_list xs)
    of-want None e k = let none : option_map (fit_for now book) (option_and_then want_of_talker (talker_in (talker_in_list xs))) ≡ None = rw e refl in cc
    of-want (Some t) e k = of-talker (want_of_talker t) refl
      where
        of-talker : (o : Option Want) → want_of_talker t ≡ o → cap < more + slope_of_reg (talker_in_list xs)
        of-talker None f = let none : option_map (fit_for now book) (option_and_then want_of_talker (talker_in (talker_in_list xs))) ≡ None = rw e (rw f refl) in cc
        of-talker (Some want) f =
            let fit : option_map (fit_for now book) (option_and_then want_of_talker (talker_in (talker_in_list xs))) ≡ Some (fit_for now book want) = rw e (rw f refl) in
            let same : fit_for now book want ≡ TooLittle more cap code = cc in
            let slope : slope_of_reg (talker_in_list xs) ≡ want.slope = rw e (rw f refl) in
            let over = passes now book want more cap code same in
            omega arith

    by : (b : Bool) → is_talker_port (suc at) xs ≡ b → cap < more + slope_of_reg (talker_in_list xs)
    by true e = let none : fit_at now at book xs ≡ None = rw e refl in cc
    by false e =
        let here : fit_at now at book xs ≡ option_map (fit_for now book) (option_and_then want_of_talker (talker_in (talker_in_list xs))) = rw e refl in
        of-want (talker_in (talker_in_list xs)) refl (sym here ∙ h)

node-passes : (stream : StreamId) (at : ℕ) (s : NodeState) (more cap code : ℕ) → fit_of at stream s ≡ Some (TooLittle more cap code) → cap < more + slope_of_reg (talker_of stream s.streams)
node-passes stream at s more cap code h = by (slice_get s.streams.ports at) refl
  where
    abbreviated : Option PortState → Option Fit
    abbreviated o = option_map_or (λ (port : PortState). fit_at s.clock.0 at port.ledger (talkers_of s.streams.talks s.streams.ports stream)) o None

    by : (o : Option PortState) → slice_get s.streams.ports at ≡ o → cap < more + slope_of_reg (talker_of stream s.streams)
    by None e = let none : fit_of at stream s ≡ None = ap abbreviated e in cc
    by (Some port) e =
        fit-passes s.clock.0 at port.ledger (talkers_of s.streams.talks s.streams.ports stream) more cap code (sym (ap abbreviated e) ∙ h)

-- the node that refuses
record IsOfNode (w : WorldState) (stream : StreamId) (failure : Failure) (p : EgressPort) (r : Refusal) : Type 0 where
  node : NodeState
  node_is : node_at p.node w ≡ Some node
  named : node.bridge ≡ failure.bridge
  fit : Option Fit
  fit_of_is : fit_of (place_of p.port) stream node ≡ fit
  little : IsTooLittle fit p (slope_of_reg (talker_of stream node.streams)) failure.code r

of-node : (w : WorldState) (stream : StreamId) (failure : Failure) (p : EgressPort) (r : Refusal) → refusal_at w stream failure p ≡ Some r → IsOfNode w stream failure p r
of-node w stream failure p r h = by (node_at p.node w) refl
  where
    at-node : (s : NodeState) → node_at p.node w ≡ Some s → refusal_in stream failure p s ≡ Some r → IsOfNode w stream failure p r
    at-node s e k = of (s.bridge.0 == failure.bridge.0) refl
      where
        of : (b : Bool) → (s.bridge.0 == failure.bridge.0) ≡ b → IsOfNode w stream failure p r
        of false f = let none : refusal_in stream failure p s ≡ None = rw f refl in cc
        of true f =
            let is : refusal_in stream failure p s ≡ refusal_of p (slope_of_reg (talker_of stream s.streams)) failure.code (fit_of (place_of p.port) stream s) = rw f refl in
            let t = too-little p (slope_of_reg (talker_of stream s.streams)) failure.code (fit_of (place_of p.port) stream s) r (sym is ∙ k) in
            record {
              node = s;
              node_is = e;
              named = ap (λ (n : ℕ). record { 0 = n }) (eqb-true s.bridge.0 failure.bridge.0 f);
              fit = fit_of (place_of p.port) stream s;
              fit_of_is = refl;
              little = t;
            }

    by : (o : Option NodeState) → node_at p.node w ≡ o → IsOfNode w stream failure p r
    by None e = let none : refusal_at w stream failure p ≡ None = ap (λ o. option_and_then (refusal_in stream failure p) o) e in cc
    by (Some s) e = at-node s e (sym (ap (λ o. option_and_then (refusal_in stream failure p) o) e) ∙ h)

-- a refusal that is shown is of a port that is named
pub refusal-says : (w : WorldState) (stream : StreamId) (l : ℕ) (r : Refusal) → refusal_to w stream l ≡ Some r → IsRefusalTo w stream l r
refusal-says w stream l r h = by (failure_at w stream l) refl
  where
    says : (f : Failure) → failure_at w stream l ≡ Some f → (t : ℕ) → talking_node w stream ≡ Some t → (i : ℕ) (p : EgressPort) → slice_get (path_between w.tree.links t l) i ≡ Some p
        → IsOfNode w stream f p r → IsRefusalTo w stream l r
    says f e t g i p on n =
        let little = n.little in
        let at : p ≡ r.at = sym little.at_is in
        let fit : fit_of (place_of p.port) stream n.node ≡ Some (TooLittle little.more little.cap f.code) = n.fit_of_is ∙ little.fit_is in
        let named : IsNamedAt w stream l r.at = record {
          failure = f;
          failure_is = e;
          t = t;
          talker = g;
          i = i;
          on_path = on ∙ ap Some at;
          node = n.node;
          node_is = ap (λ (q : EgressPort). node_at q.node w) (sym at) ∙ n.node_is;
          named = n.named;
          more = little.more;
          cap = little.cap;
          fit = ap (λ (q : EgressPort). fit_of (place_of q.port) stream n.node) (sym at) ∙ fit;
        } in
        let over : little.cap < little.more + slope_of_reg (talker_of stream n.node.streams) = node-passes stream (place_of p.port) n.node little.more little.cap f.code fit in
        let more_is : r.more_important ≡ little.more = little.more_is in
        let slope_is : r.slope ≡ slope_of_reg (talker_of stream n.node.streams) = little.slope_is in
        let cap_is : r.cap ≡ little.cap = little.cap_is in
        record { port = named; more_is = more_is; slope_is = slope_is; cap_is = cap_is; code_is = little.code_is; passes = omega arith }

    at-talker : (f : Failure) → failure_at w stream l ≡ Some f → (o : Option ℕ) → talking_node w stream ≡ o → refusal_named w stream l f ≡ Some r → IsRefusalTo w stream l r
    at-talker f e None g k = let none : refusal_named w stream l f ≡ None = ap (λ o. option_and_then (λ t. first_refusal (refusal_at w stream f) (path_between w.tree.links t l)) o) g in cc
    at-talker f e (Some t) g k =
        let is : refusal_named w stream l f ≡ first_refusal (refusal_at w stream f) (path_between w.tree.links t l) =
        ap (λ o. option_and_then (λ t. first_refusal (refusal_at w stream f) (path_between w.tree.links t l)) o) g in
        let first = first-at (refusal_at w stream f) (path_between w.tree.links t l) r (sym is ∙ k) in
        says f e t g first.0 first.1 first.2 (of-node w stream f first.1 r first.3)

    by : (o : Option Failure) → failure_at w stream l ≡ o → IsRefusalTo w stream l r
    by None e = let none : refusal_to w stream l ≡ None = ap (λ o. option_and_then (refusal_named w stream l) o) e in cc
    by (Some f) e = at-talker f e (talking_node w stream) refl (sym (ap (λ o. option_and_then (refusal_named w stream l) o) e) ∙ h)

-- where a port is named, a refusal is shown
pub named-shown : (w : WorldState) (stream : StreamId) (l : ℕ) (p : EgressPort) → IsNamedAt w stream l p → is_some (refusal_to w stream l) ≡ true
named-shown w stream l p n =
    let f = n.failure in
    let s = n.node in
    let same_bridge : (s.bridge.0 == f.bridge.0) ≡ true = ap (λ (b : BridgeId). b.0 == f.bridge.0) n.named ∙ same f.bridge.0 in
    let slope = slope_of_reg (talker_of stream s.streams) in
    let made : Refusal = record { at = p; more_important = n.more; slope = slope; cap = n.cap; code = f.code } in
    let refuses : is_some (refusal_at w stream f p) ≡ true =
    ap (λ o. is_some (option_and_then (refusal_in stream f p) o)) n.node_is
    ∙ (ap (λ b. is_some (if b then refusal_of p slope f.code (fit_of (place_of p.port) stream s) else None)) same_bridge
    ∙ (ap (λ o. is_some (refusal_of p slope f.code o)) n.fit
    ∙ ap (λ b. is_some (if b then Some made else None)) (same f.code))) in
    ap (λ o. is_some (option_and_then (refusal_named w stream l) o)) n.failure_is
    ∙ (ap (λ o. is_some (option_and_then (λ t. first_refusal (refusal_at w stream f) (path_between w.tree.links t l)) o)) n.talker
    ∙ first-some (refusal_at w stream f) (path_between w.tree.links n.t l) n.i p n.on_path refuses)
  where
    same : (n : ℕ) → (n == n) ≡ true
    same n = grind (arith, nat_tests)

-- a refusal is shown exactly where some port is named
pub shown-where-named : (w : WorldState) (stream : StreamId) (l : ℕ) → IsSome (refusal_to w stream l) ↔ ((p : EgressPort) × IsNamedAt w stream l p)
shown-where-named w stream l = (to, (λ n. named-shown w stream l n.0 n.1))
  where
    to : IsSome (refusal_to w stream l) → (p : EgressPort) × IsNamedAt w stream l p
    to some = by (refusal_to w stream l) refl
      where
        by : (o : Option Refusal) → refusal_to w stream l ≡ o → (p : EgressPort) × IsNamedAt w stream l p
        by None e = let none : is_some (refusal_to w stream l) ≡ false = ap is_some e in let is : is_some (refusal_to w stream l) ≡ true = some in cc
        by (Some r) e = (r.at, (refusal-says w stream l r e).port)

-- ---- at rest

module _ (w : WorldState) (still : AreStreamsStill w) (stream : StreamId) (kept : KeptWants) (once : IsTalkedOnce w stream) where
  -- a failure for want of bandwidth names a refusal
  pub is-named : (l : ℕ) (f : Failure) → HasNode w.tree l → failure_at w stream l ≡ Some f → is_some (refusal_to w stream l) ≡ true
  is-named l f node h =
      let g = failed-at-node w still stream kept once l f h in
      let d = shown w still stream kept once l g.0 f node g.1 in
      let r = d.refusing in
      let u = too-little-booked f g.2 (reason-there w still stream kept once d) in
      named-shown w stream l r.p (record {
        failure = f;
        failure_is = h;
        t = d.t;
        talker = d.lowest_is;
        i = r.i;
        on_path = r.on;
        node = r.a.s;
        node_is = r.a.node;
        named = named-there w still stream kept once d;
        more = u.more;
        cap = u.cap;
        fit = ap (λ o. option_map_or (λ (port : PortState). fit_at r.a.s.clock.0 (place_of r.p.port) port.ledger (talkers_of r.a.s.streams.talks r.a.s.streams.ports stream)) o None) r.a.has
            ∙ fit-there w still stream kept once l f d r.a.s.clock.0 (moment-is w still stream kept once r.p r.a) u;
      })

  pub some-shown : (l : ℕ) → HasNode w.tree l → IsSome (failure_at w stream l) → IsSome (refusal_to w stream l)
  some-shown l node some = by (failure_at w stream l) refl
    where
      by : (o : Option Failure) → failure_at w stream l ≡ o → is_some (refusal_to w stream l) ≡ true
      by None e = let none : is_some (failure_at w stream l) ≡ false = ap is_some e in let is : is_some (failure_at w stream l) ≡ true = some in cc
      by (Some f) e = is-named l f node e

-- where no two nodes talk a stream, at most one station does
pub talked-once : (w : WorldState) (stream : StreamId) → HasOneTalker w → IsTalkedOnce w stream
talked-once w stream one x y hx hy tx ty =
    let a = talks-at x tx in
    let b = talks-at y ty in
    let same : x - 1 ≡ y - 1 = one (x - 1) (y - 1) a.0 b.0 stream a.1 b.1 a.2 b.2 in
    omega (arith, hx.0, hy.0)
  where
    test_of : Option NodeState → Bool
    test_of o = option_map_or (λ (s : NodeState). is_station s.kind && has_talk stream s.streams) o false

    talks-at : (y : ℕ) → is_talked_at w stream y ≡ true → (s : NodeState) × (slice_get w.nodes (y - 1) ≡ Some s) × (has_talk stream s.streams ≡ true)
    talks-at y t = by (slice_get w.nodes (y - 1)) refl
      where
        by : (o : Option NodeState) → slice_get w.nodes (y - 1) ≡ o → (s : NodeState) × (slice_get w.nodes (y - 1) ≡ Some s) × (has_talk stream s.streams ≡ true)
        by None e = let off : is_talked_at w stream y ≡ false = ap test_of e in cc
        by (Some s) e = (s, e, (and_parts (is_station s.kind) (has_talk stream s.streams) (sym (ap test_of e) ∙ t)).1)
