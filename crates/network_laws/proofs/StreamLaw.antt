-- The laws of streams in a network at rest, in the words of their definitions.
use Rattle.std.proofs.Common.{◌≡◌, ◌≢◌, ◌⊎◌, inl, inr, ℕ, zero, suc, ◌+◌, ◌-◌, ◌<◌, ◌≤◌, Bool, true, false, ◌&&◌, List, [], ◌∷◌, ◌++◌, length, refl, sym, ap, subst, ◌∙◌, arith}
use Rattle.std.specs.Prelude.{slice_get, Option, Some, None, filter, find, option_and_then, ◌↔◌, ◌==◌}
use Rattle.std.specs.{Option.option_map_or, List.AllByRecursion, List.list_all, List.range_with_len}
use Rattle.std.proofs.lemmas.{Bool.and_parts, Bool.eqb-true, Bool.Decides.nat_tests}
use Rattle.std.proofs.lemmas.Option.{slice_get_within}
use Rattle.srp_base.proofs.{Lists.within as get-some, Arithmetic.is_other as other-port}
use Rattle.srp_base.specs.declared.{bandwidth.Class.Class, numbers.EgressPort.EgressPort, numbers.StreamId.StreamId, streams.Failure.Failure, streams.Talker.Talker, streams.TalkerReg.TalkerReg}
use Rattle.srp_base.specs.declared.streams.TalkerReg.TheVariants.{Absent, Advertise, Failed}
use Rattle.stream_importance.specs.declared.{slope.Caps.Caps, entry.Entry.Entry, entry.Want.Want, entry.Fit.Fit, entry.Fit.TheVariants.Fits, entry.Fit.TheVariants.TooLittle}
use Rattle.stream_importance.specs.Bandwidth.{cap_of}
use Rattle.port_ledger.specs.{Decision.above, Decision.booked_of, Decision.does_fit, Book.is_normal, Book.Book, Book.fit_for, Book.tested_entry, Book.code_of}
use Rattle.tree_topology.specs.{Topology.HasNode, Topology.HasPort, Ports.neighbours, Ports.peer_of, Ports.far_node, Ports.LiesBehind, Ports.IsPortPath, Walk.is_behind, Walk.path_between, Refusal.is_station}
use Rattle.mrp_participant.specs.State.{registered_at}
use Rattle.msrp_codec.specs.declared.pdu.MsrpKey.TheVariants as keys
use Rattle.msrp_talker.specs.TalkerOut.{check_of, class_of_priority, talker_in}
use Rattle.msrp.specs.{PortState.PortState, Domain.class_in, Part.registered_talker, Part.registered_listener, Part.key_cmp, Part.talker_reg_of, Stream.Registrations, Stream.is_present, Stream.is_advertised, Stream.is_number, Stream.talker_port, Stream.is_talker_port, Stream.is_ready, Stream.talk_of, Stream.first_talker, Stream.edge_at, Stream.listener_at, Stream.fit_at, Stream.want_of_talker, Stream.heard_by, Stream.heard_from as heard_in, Side.seen_by, Side.has_listen, Side.heard_of}
use Rattle.attribute_propagation.specs.Ports.{place_of}
use Rattle.node_core.specs.State.{NodeState}
use Rattle.world_core.specs.World.{WorldState, node_at}
use Rattle.network_laws.specs.{talker_at_place, is_talker_registered, is_talked_at, IsTalkedOnce, HasTalkerBehind, TalkersMatch, talking_node, has_booked, is_path_booked, IsPathBooked, is_ready_heard, hears_ready, is_listened_at, AreReadyOnPath, bandwidth_failure, failure_at, node_of, want_at, is_bandwidth_code, IsPushedOut, IsRefusedAt, AreRefusalsShown, talk_at, class_talked, talker_at_node, HasCause}
use Rattle.network_laws.specs.Causes as causes
use Rattle.network_laws.proofs.{StreamNode.IsTalkers, StreamNode.port-of-present, StreamNode.is-port, StreamNode.same-port, StreamNode.KeptWants, StreamNode.booked-advertises, StreamNode.advertised-booked, StreamNode.IsOfBandwidth, StreamNode.check-codes, StreamNode.not-eight, StreamNode.stated-want, StreamNode.stated-check, StreamNode.stated-class, StreamNode.Refuses, StreamNode.Reason, StreamNode.checked, StreamNode.bounded, StreamNode.too-little, StreamNode.reason, StreamNode.listens, StreamNet.AreStreamsStill, StreamNet.At, StreamNet.at-port, StreamNet.reg, StreamNet.reg-is, StreamNet.regs, StreamNet.wanted, StreamNet.far-listener, StreamNet.near-talker, StreamNet.test, StreamNet.Talks, StreamNet.registered-behind, StreamNet.Sibling, StreamNet.towards, StreamNet.other-side, StreamNet.behind-registered, StreamNet.booked-is, StreamNet.path-booked, StreamNet.path-last, StreamNet.port-kept, StreamNet.kind-is, StreamNet.Refusing, StreamNet.refused, StreamNet.stated_by, StreamNet.TalkersAt, StreamNet.at-app, StreamNet.at-link, StreamNet.talkers-at, StreamNet.get-map, StreamNet.is-not}

-- a node lies behind a port by its walk exactly where the test says so; the egress ports of the walk are the path
abbrev pub WalkBehind : WorldState → Type 0
WalkBehind w = (p : EgressPort) (y : ℕ) → HasPort w.tree p → HasNode w.tree y → (LiesBehind w.tree.links p y ↔ (is_behind w.tree.links p y ≡ true))

abbrev pub WalkPath : WorldState → Type 0
WalkPath w = (x y : ℕ) (ports : List EgressPort) → HasNode w.tree x → HasNode w.tree y → (IsPortPath w.tree.links x y ports ↔ (ports ≡ path_between w.tree.links x y))

-- ---- the first number of a range that passes a test

find-range : (p : ℕ → Bool) (n a t : ℕ) → find p (range_with_len a n) ≡ Some t → (a ≤ t) × (t < a + n) × (p t ≡ true)
find-range p zero a t h = cc
find-range p (suc n) a t h = by (p a) refl (λ k. find-range p n (a + 1) t k)
  where
    by : (b : Bool) → p a ≡ b → (find p (range_with_len (a + 1) n) ≡ Some t → (a + 1 ≤ t) × (t < a + 1 + n) × (p t ≡ true)) → (a ≤ t) × (t < a + suc n) × (p t ≡ true)
    by true e further = let first : find p (range_with_len a (suc n)) ≡ Some a = rw e refl in let same : a ≡ t = cc in (omega arith, omega arith, ap p (sym same) ∙ e)
    by false e further =
        let rest : find p (range_with_len a (suc n)) ≡ find p (range_with_len (a + 1) n) = rw e refl in
        let r = further (sym rest ∙ h) in
        (omega (arith, r.0), omega (arith, r.1), r.2)

find-some : (p : ℕ → Bool) (n a y : ℕ) → a ≤ y → y < a + n → p y ≡ true → (t : ℕ) × (find p (range_with_len a n) ≡ Some t)
find-some p zero a y low high h = absurd (omega arith)
find-some p (suc n) a y low high h = by (p a) refl (λ up less. find-some p n (a + 1) y up less h)
  where
    by : (b : Bool) → p a ≡ b → (a + 1 ≤ y → y < a + 1 + n → (t : ℕ) × (find p (range_with_len (a + 1) n) ≡ Some t)) → (t : ℕ) × (find p (range_with_len a (suc n)) ≡ Some t)
    by true e further = (a, rw e refl)
    by false e further =
        let rest : find p (range_with_len a (suc n)) ≡ find p (range_with_len (a + 1) n) = rw e refl in
        let ne : a ≢ y = λ f. is-not (p a) e (ap p f ∙ h) in
        let r = further (omega (arith, ne)) (omega arith) in
        (r.0, rest ∙ r.1)

all-each : (p : EgressPort → Bool) (xs : List EgressPort) → list_all p xs ≡ true → AllByRecursion (λ x. p x ≡ true) xs
all-each p [] h = tt
all-each p (x ∷ xs) h = let parts = and_parts (p x) (list_all p xs) h in (parts.0, all-each p xs parts.1)

each-all : (p : EgressPort → Bool) (xs : List EgressPort) → AllByRecursion (λ x. p x ≡ true) xs → list_all p xs ≡ true
each-all p [] h = refl
each-all p (x ∷ xs) h = rw h.0 (each-all p xs h.1)

all-last : (p : EgressPort → Bool) (xs : List EgressPort) (y : EgressPort) → list_all p (xs ++ y ∷ []) ≡ true → p y ≡ true
all-last p [] y h = (and_parts (p y) true h).0
all-last p (x ∷ xs) y h = all-last p xs y (and_parts (p x) (list_all p (xs ++ y ∷ [])) h).1

advertised-heard : (x : TalkerReg) → is_advertised x ≡ true → is_ready_heard (heard_in x) ≡ true
advertised-heard Absent h = cc
advertised-heard (Advertise u) h = refl
advertised-heard (Failed u f) h = cc

heard-advertised : (x : TalkerReg) → is_ready_heard (heard_in x) ≡ true → is_advertised x ≡ true
heard-advertised Absent h = cc
heard-advertised (Advertise u) h = refl
heard-advertised (Failed u f) h = cc

advertised-present : (x : TalkerReg) → is_advertised x ≡ true → is_present x ≡ true
advertised-present Absent h = cc
advertised-present (Advertise u) h = refl
advertised-present (Failed u f) h = refl

pub heard-from : (r : Registrations) → r.listens ≡ true → is_talker_port 0 r.talkers ≡ false → is_advertised (first_talker r.talkers) ≡ true → is_ready_heard (heard_by r) ≡ true
heard-from r l e a = rw l (rw e (advertised-heard (first_talker r.talkers) a))

heard-parts : (r : Registrations) → is_ready_heard (heard_by r) ≡ true → (r.listens ≡ true) × (is_talker_port 0 r.talkers ≡ false) × (is_advertised (first_talker r.talkers) ≡ true)
heard-parts r h = by r.listens (is_talker_port 0 r.talkers) refl refl
  where
    by : (a b : Bool) → r.listens ≡ a → is_talker_port 0 r.talkers ≡ b → (r.listens ≡ true) × (is_talker_port 0 r.talkers ≡ false) × (is_advertised (first_talker r.talkers) ≡ true)
    by false b e f = let off : is_ready_heard (heard_by r) ≡ false = rw e refl in cc
    by true true e f = let off : is_ready_heard (heard_by r) ≡ false = rw e (rw f refl) in cc
    by true false e f = let here : is_ready_heard (heard_by r) ≡ is_ready_heard (heard_in (first_talker r.talkers)) =
        rw e (rw f refl) in (e, f, heard-advertised (first_talker r.talkers) (sym here ∙ h))

-- the application isn't the Talker's port where a link port is
pub not-zero : (n : ℕ) (o : Option ℕ) → is_number (suc n) o ≡ true → is_number 0 o ≡ false
not-zero n None h = refl
not-zero n (Some m) h = other-port m 0 (λ e. absurd (omega (arith, e, eqb-true m (suc n) h)))

-- a failure for want of bandwidth
failure-parts : (x : TalkerReg) (f : Failure) → bandwidth_failure x ≡ Some f → (u : Talker) × (x ≡ Failed u f) × IsOfBandwidth f.code
failure-parts Absent f h = cc
failure-parts (Advertise u) f h = cc
failure-parts (Failed u g) f h = by (g.code == 1) (g.code == 6) refl refl
  where
    done : IsOfBandwidth g.code → bandwidth_failure (Failed u g) ≡ Some g → (v : Talker) × (Failed u g ≡ Failed v f) × IsOfBandwidth f.code
    done c e = let same : g ≡ f = cc in (u, ap (λ z. Failed u z) same, subst (λ (z : Failure). IsOfBandwidth z.code) same c)

    by : (a b : Bool) → (g.code == 1) ≡ a → (g.code == 6) ≡ b → (v : Talker) × (Failed u g ≡ Failed v f) × IsOfBandwidth f.code
    by true b e k = done (inl (eqb-true g.code 1 e)) (rw e refl)
    by false true e k = done (inr (eqb-true g.code 6 k)) (rw e (rw k refl))
    by false false e k = let off : bandwidth_failure (Failed u g) ≡ None = rw e (rw k refl) in cc

-- what too little means
pushed-out : (now : ℕ) (book : Book) (want : Want) (more cap code : ℕ) → fit_for now book want ≡ TooLittle more cap code → IsPushedOut now book want code
pushed-out now book want more cap code h = by (does_fit now book.caps (booked_of book.entries) (tested_entry book.entries want)) refl
  where
    code_in : Fit → ℕ
    code_in Fits = 0
    code_in (TooLittle m c n) = n

    by : (b : Bool) → does_fit now book.caps (booked_of book.entries) (tested_entry book.entries want) ≡ b → IsPushedOut now book want code
    by true e = let fits : fit_for now book want ≡ Fits = rw e refl in cc
    by false e =
        let not_ : fit_for now book want ≡ TooLittle (above now (tested_entry book.entries want) (booked_of book.entries)) (cap_of book.caps want.class)
        (code_of now book.caps (booked_of book.entries) (tested_entry book.entries want)) = rw e refl in
        record { passes = grind (arith, nat_tests, e); code_is = ap code_in (sym h ∙ not_) }

one-some : {X : Type 0} (o : Option X) (x y : X) → o ≡ Some x → o ≡ Some y → x ≡ y
one-some o x y a b = cc

-- the code of what doesn't fit is one of bandwidth
of-bandwidth : (now : ℕ) (caps : Caps) (set : List Entry) (x : Entry) → is_bandwidth_code (code_of now caps set x) ≡ true
of-bandwidth now caps set x = by (is_normal x && does_fit now caps (filter is_normal set) x) refl
  where
    by : (b : Bool) → (is_normal x && does_fit now caps (filter is_normal set) x) ≡ b → is_bandwidth_code (code_of now caps set x) ≡ true
    by true e = rw e refl
    by false e = rw e refl

-- what stands at a node's first port, at a node, and the failure there
abbrev registered_in : StreamId → Option PortState → TalkerReg
registered_in stream o = talker_reg_of (option_map_or (λ (x : PortState). registered_at key_cmp (keys.Talker stream) x.part) o None)

abbrev first_in : StreamId → Option NodeState → TalkerReg
first_in stream o = option_map_or (talker_at_place stream 0) o Absent

abbrev failure_in : StreamId → Option NodeState → Option Failure
failure_in stream o = option_and_then (λ (s : NodeState). bandwidth_failure (talker_at_place stream 0 s)) o

module _ (w : WorldState) (still : AreStreamsStill w) (stream : StreamId) (kept : KeptWants) where
  test-is : (p : EgressPort) → HasPort w.tree p → is_talker_registered w stream p ≡ test w still stream kept p
  test-is p h =
      let a = at-port w still stream kept p h in
      ap (λ o. option_map_or (λ (s : NodeState). is_present (talker_at_place stream (place_of p.port) s)) o false) a.node
      ∙ (ap (λ o. is_present (talker_reg_of (option_map_or (λ (x : PortState). registered_at key_cmp (keys.Talker stream) x.part) o None))) a.has
      ∙ sym (ap is_present (reg-is w still stream kept p a)))

  module _ (once : IsTalkedOnce w stream) where
    pub talkers-match : WalkBehind w → TalkersMatch w stream
    talkers-match walk p h = ((λ t. to (registered-behind w still stream kept p h (sym (test-is p h) ∙ t))), from)
      where
        to : (y : ℕ) × Talks w still stream kept y × (is_behind w.tree.links p y ≡ true) → HasTalkerBehind w stream p
        to y = (y.0, y.1.node, (walk p y.0 h y.1.node).1 y.2, y.1.talks)

        from : HasTalkerBehind w stream p → is_talker_registered w stream p ≡ true
        from d = test-is p h ∙ behind-registered w still stream kept once d.0 (record { node = d.1; talks = d.3 }) p h ((walk p d.0 h d.1).0 d.2)

    -- ---- the station that talks

    found : (t : ℕ) → talking_node w stream ≡ Some t → Talks w still stream kept t
    found t e = let r = find-range (is_talked_at w stream) (length w.tree.kinds) 1 t e in record { node = (r.0, omega (arith, r.1)); talks = r.2 }

    pub lowest : (y : ℕ) → Talks w still stream kept y → talking_node w stream ≡ Some y
    lowest y k =
        let r = find-some (is_talked_at w stream) (length w.tree.kinds) 1 y k.node.0 (omega (arith, k.node.1)) k.talks in
        let t = found r.0 r.1 in
        r.1 ∙ ap Some (once r.0 y t.node k.node t.talks k.talks)

    -- a node whose application listens
    record ListensAt (l : ℕ) : Type 0 where
      s : NodeState
      node : node_at (record { 0 = l }) w ≡ Some s
      listens_to : has_listen stream s.streams ≡ true

    listener : (l : ℕ) → is_listened_at w stream l ≡ true → ListensAt l
    listener l h = by (node_at (record { 0 = l }) w) refl
      where
        test_of : Option NodeState → Bool
        test_of o = option_map_or (λ (s : NodeState). is_station s.kind && has_listen stream s.streams) o false

        by : (o : Option NodeState) → node_at (record { 0 = l }) w ≡ o → ListensAt l
        by None e = let off : is_listened_at w stream l ≡ false = ap test_of e in cc
        by (Some s) e = record { s = s; node = e; listens_to = (and_parts (is_station s.kind) (has_listen stream s.streams) (sym (ap test_of e) ∙ h)).1 }

    hears-is : (l : ℕ) (n : ListensAt l) → hears_ready w stream l ≡ is_ready_heard (heard_by (seen_by n.s.streams stream))
    hears-is l n = ap (λ o. option_map_or (λ (s : NodeState). is_ready_heard (heard_of stream s.streams)) o false) n.node

    path-is : (l t : ℕ) → talking_node w stream ≡ Some t → is_path_booked w stream l ≡ list_all (has_booked w stream) (path_between w.tree.links t l)
    path-is l t e = ap (λ o. option_map_or (λ t. list_all (has_booked w stream) (path_between w.tree.links t l)) o false) e

    -- where the path has booked, a listening application hears Ready
    from-path : (l : ℕ) → HasNode w.tree l → is_talked_at w stream l ≡ false → ListensAt l → is_path_booked w stream l ≡ true → hears_ready w stream l ≡ true
    from-path l node mute n booked = by (talking_node w stream) refl
      where
        at-talker : (t : ℕ) (k : Talks w still stream kept t) → list_all (has_booked w stream) (path_between w.tree.links t l) ≡ true
            → (l ≡ t) ⊎ ((q : EgressPort) × HasPort w.tree q × (q.node.0 ≡ l) × (is_behind w.tree.links q t ≡ true)) → hears_ready w stream l ≡ true
        at-talker t k all (inl e) = absurd (is-not (is_talked_at w stream l) mute (ap (is_talked_at w stream) e ∙ k.talks))
        at-talker t k all (inr q) =
            let p = peer_of w.tree.links q.0 in
            let hq = q.1 in
            let hp = still.laws.peer_port q.0 hq in
            let off = other-side w still stream kept once t k q.0 hq q.3 in
            let far : far_node w.tree.links p ≡ l = still.laws.peer_back q.0 hq ∙ q.2 in
            let path = ap (λ y. path_between w.tree.links t y) (sym far) ∙ path-last w still stream kept once t k p hp off in
            let last : has_booked w stream p ≡ true = all-last (has_booked w stream) (path_between w.tree.links t p.node.0) p (ap (list_all (has_booked w stream)) (sym path) ∙ all) in
            let a = at-port w still stream kept p hp in
            let told = booked-advertises kept (place_of p.port) a.port (regs w still stream kept a).talkers stream (port-kept w still stream kept p a).ledger (wanted w still stream kept p a)
            (sym (booked-is w still stream kept once t k p a) ∙ last) in
            let b = at-port w still stream kept q.0 hq in
            let here : is_advertised (reg w still stream kept q.0) ≡ true = ap is_advertised (near-talker w still stream kept q.0 hq a) ∙ told in
            by-port b here (towards w still stream kept once t k q.0 hq b)
          where
            by-port : (b : At w still stream kept q.0) → is_advertised (reg w still stream kept q.0) ≡ true
                → (q.0.node.0 ≡ t) ⊎ ((r : EgressPort) × Sibling w still stream kept q.0 b r × (is_behind w.tree.links r t ≡ true)
                × (is_talker_port (suc (place_of r.port)) (regs w still stream kept b).talkers ≡ true) × (first_talker (regs w still stream kept b).talkers ≡ reg w still stream kept r))
                → hears_ready w stream l ≡ true
            by-port b here (inl e) = absurd (is-not (is_talked_at w stream l) mute (ap (is_talked_at w stream) (sym q.2 ∙ e) ∙ k.talks))
            by-port b here (inr r) =
                let same-r : r.0 ≡ q.0 = still.laws.one_port r.0 q.0 t r.1.port q.1 (ap (λ x. x.0) r.1.node) r.2 q.3 in
                let adv : is_advertised (first_talker (regs w still stream kept b).talkers) ≡ true = ap is_advertised (r.4 ∙ ap (reg w still stream kept) same-r) ∙ here in
                let away = not-zero (place_of r.0.port) (talker_port (regs w still stream kept b).talkers) r.3 in
                let same : n.s ≡ b.s = one-some (node_at (record { 0 = l }) w) n.s b.s n.node (ap (λ (y : ℕ). node_at (record { 0 = y }) w) (sym q.2) ∙ b.node) in
                let hears : is_ready_heard (heard_by (seen_by b.s.streams stream)) ≡ true =
                heard-from (seen_by b.s.streams stream) (ap (λ (s : NodeState). has_listen stream s.streams) (sym same) ∙ n.listens_to) away adv in
                hears-is l n ∙ (ap (λ (s : NodeState). is_ready_heard (heard_by (seen_by s.streams stream))) same ∙ hears)

        by : (o : Option ℕ) → talking_node w stream ≡ o → hears_ready w stream l ≡ true
        by None e = let off : is_path_booked w stream l ≡ false = ap (λ o. option_map_or (λ t. list_all (has_booked w stream) (path_between w.tree.links t l)) o false) e in cc
        by (Some t) e = let k = found t e in at-talker t k (sym (path-is l t e) ∙ booked) (still.laws.some_port l t node k.node)

    -- where it hears Ready, the path has booked
    to-path : (l : ℕ) → HasNode w.tree l → ListensAt l → hears_ready w stream l ≡ true → is_path_booked w stream l ≡ true
    to-path l node n hears =
        let parts = heard-parts (seen_by n.s.streams stream) (sym (hears-is l n) ∙ hears) in
        let m = port-of-present (seen_by n.s.streams stream).talkers (advertised-present (first_talker (seen_by n.s.streams stream).talkers) parts.2) in
        at-port-of parts m.0 m.1 m.2
      where
        Heard : Type 0
        Heard = ((seen_by n.s.streams stream).listens ≡ true) × (is_talker_port 0 (seen_by n.s.streams stream).talkers ≡ false)
            × (is_advertised (first_talker (seen_by n.s.streams stream).talkers) ≡ true)

        by-port : Heard → (q : EgressPort) (hq : HasPort w.tree q) (b : At w still stream kept q) → q.node.0 ≡ l → b.s ≡ n.s → (j : ℕ) → TalkersAt w still stream kept q b (suc j) → (x : TalkerReg)
            → IsTalkers (regs w still stream kept b).talkers (suc j) x
            → is_path_booked w stream l ≡ true
        by-port parts q hq b eq same j (at-app z o) x m = absurd (omega (arith, z))
        by-port parts q hq b eq same j (at-link r sib e o is) x m =
            let hr = sib.port in
            let y = registered-behind w still stream kept r hr o in
            let k = y.1 in
            let p = peer_of w.tree.links r in
            let hp = still.laws.peer_port r hr in
            let off = other-side w still stream kept once y.0 k r hr y.2 in
            let far : far_node w.tree.links p ≡ l = still.laws.peer_back r hr ∙ (ap (λ z. z.0) sib.node ∙ eq) in
            let c = at-port w still stream kept p hp in
            let all-same : sib.at.s ≡ n.s = sib.same ∙ same in
            let adv : is_advertised (first_talker (seen_by sib.at.s.streams stream).talkers) ≡ true =
            ap (λ (s : NodeState). is_advertised (first_talker (seen_by s.streams stream).talkers)) all-same ∙ parts.2 in
            let adv-r : is_advertised (reg w still stream kept r) ≡ true =
            ap is_advertised (sym is) ∙ (ap (λ (s : NodeState). is_advertised (first_talker (seen_by s.streams stream).talkers)) same ∙ parts.2) in
            let told = ap is_advertised (sym (near-talker w still stream kept r hr c)) ∙ adv-r in
            let port : is_talker_port (suc (place_of r.port)) (regs w still stream kept b).talkers ≡ true =
            is-port (regs w still stream kept b).talkers (suc j) x (suc (place_of r.port)) m ∙ (ap (λ i. i == suc (place_of r.port)) e ∙ same-port (suc (place_of r.port))) in
            let port-sib : is_talker_port (suc (place_of r.port)) (seen_by sib.at.s.streams stream).talkers ≡ true =
            ap (λ (s : NodeState). is_talker_port (suc (place_of r.port)) (seen_by s.streams stream).talkers) sib.same ∙ port in
            let l-sib : (seen_by sib.at.s.streams stream).listens ≡ true = ap (λ (s : NodeState). (seen_by s.streams stream).listens) all-same ∙ parts.0 in
            let ready-there : is_ready (listener_at (place_of r.port) (seen_by sib.at.s.streams stream)) ≡ true =
            listens (place_of r.port) (seen_by sib.at.s.streams stream) port-sib l-sib adv in
            let ready : is_ready (registered_listener stream c.port.part) ≡ true =
            ap is_ready (sym (kind-is w still stream kept p c) ∙ far-listener w still stream kept r hr sib.at) ∙ ready-there in
            let booked = booked-is w still stream kept once y.0 k p c
            ∙ advertised-booked kept (place_of p.port) c.port (regs w still stream kept c).talkers stream (port-kept w still stream kept p c).ledger (wanted w still stream kept p c) told ready in
            path-is l y.0 (lowest y.0 k)
            ∙ (ap (λ z. list_all (has_booked w stream) (path_between w.tree.links y.0 z)) (sym far)
            ∙ path-booked w still stream kept once y.0 k p hp off booked)

        at-port-of : Heard → (m : ℕ) (x : TalkerReg) → IsTalkers (seen_by n.s.streams stream).talkers m x → is_path_booked w stream l ≡ true
        at-port-of parts zero x m =
            let zero-is : is_talker_port 0 (seen_by n.s.streams stream).talkers ≡ true = is-port (seen_by n.s.streams stream).talkers 0 x 0 m in
            cc
        at-port-of parts (suc j) x m =
            let at = get-map (λ (y : PortState). registered_talker stream y.part) n.s.streams.ports j x m.at in
            let q : EgressPort = record { node = record { 0 = l }; port = record { 0 = j + 1 } } in
            let up : l - 1 + 1 ≡ l = omega (arith, node.0) in
            let ports : length n.s.streams.ports ≡ length (neighbours w.tree.links l) = still.ports (l - 1) n.s n.node ∙ ap (λ y. length (neighbours w.tree.links y)) up in
            let few : j < length (neighbours w.tree.links l) = omega (arith, slice_get_within n.s.streams.ports j at.0 at.1, ports) in
            let hq : HasPort w.tree q = (node, omega arith, omega (arith, few)) in
            let back : j + 1 - 1 ≡ j = omega arith in
            let b : At w still stream kept q = record { s = n.s; node = n.node; port = at.0; has = ap (λ i. slice_get n.s.streams.ports i) back ∙ at.1 } in
            by-port parts q hq b refl refl j (talkers-at w still stream kept q hq b (suc j) x m) x m

    pub ready-on-path : (l : ℕ) → HasNode w.tree l → is_listened_at w stream l ≡ true → is_talked_at w stream l ≡ false
        → (hears_ready w stream l ≡ true) ↔ (is_path_booked w stream l ≡ true)
    ready-on-path l node h mute = let n = listener l h in (to-path l node n, from-path l node mute n)

    pub are-ready-on-path : WalkPath w → AreReadyOnPath w stream
    are-ready-on-path walk l node h mute =
        let law = ready-on-path l node h mute in
        ((λ t. to (law.0 t)), (λ d. law.1 (from d)))
      where
        to : is_path_booked w stream l ≡ true → IsPathBooked w stream l
        to e = by (talking_node w stream) refl
          where
            by : (o : Option ℕ) → talking_node w stream ≡ o → IsPathBooked w stream l
            by None f = let off : is_path_booked w stream l ≡ false = ap (λ o. option_map_or (λ t. list_all (has_booked w stream) (path_between w.tree.links t l)) o false) f in cc
            by (Some t) f =
                let path = path_between w.tree.links t l in
                (path, (t, f, (walk t l path (found t f).node node).1 refl), all-each (has_booked w stream) path (sym (path-is l t f) ∙ e))

        from : IsPathBooked w stream l → is_path_booked w stream l ≡ true
        from d =
            let t = d.1.0 in
            let is : d.0 ≡ path_between w.tree.links t l = (walk t l d.0 (found t d.1.1).node node).0 d.1.2 in
            path-is l t d.1.1 ∙ (ap (list_all (has_booked w stream)) (sym is) ∙ each-all (has_booked w stream) d.0 d.2)

    pub sides-are-one : (l : ℕ) → HasNode w.tree l → is_listened_at w stream l ≡ true → is_talked_at w stream l ≡ false
        → hears_ready w stream l ≡ is_path_booked w stream l
    sides-are-one l node h mute = let law = ready-on-path l node h mute in one-test (hears_ready w stream l) (is_path_booked w stream l) law.0 law.1
      where
        one-test : (a b : Bool) → (a ≡ true → b ≡ true) → (b ≡ true → a ≡ true) → a ≡ b
        one-test true b f g = sym (f refl)
        one-test false true f g = g refl
        one-test false false f g = refl

    -- ---- who misses a stream

    -- a port of a node with a failure
    pub record FailedAt (l : ℕ) (u : Talker) (f : Failure) : Type 0 where
      pub q : EgressPort
      pub port : HasPort w.tree q
      pub node_is : q.node.0 ≡ l
      pub failed : reg w still stream kept q ≡ Failed u f

    -- a listening application that doesn't hear Ready has a failure at the node's port towards the station that talks
    pub missed : (l t : ℕ) → HasNode w.tree l → is_listened_at w stream l ≡ true → is_talked_at w stream l ≡ false → talking_node w stream ≡ Some t
        → hears_ready w stream l ≡ false → (u : Talker) × (f : Failure) × FailedAt l u f
    missed l t node h mute lowest_t off =
        let k = found t lowest_t in
        at-talker k (listener l h) (still.laws.some_port l t node k.node)
      where
        at-talker : Talks w still stream kept t → ListensAt l
            → (l ≡ t) ⊎ ((q : EgressPort) × HasPort w.tree q × (q.node.0 ≡ l) × (is_behind w.tree.links q t ≡ true)) → (u : Talker) × (f : Failure) × FailedAt l u f
        at-talker k n (inl e) = absurd (is-not (is_talked_at w stream l) mute (ap (is_talked_at w stream) e ∙ k.talks))
        at-talker k n (inr q) =
            let b = at-port w still stream kept q.0 q.1 in
            by-port b (towards w still stream kept once t k q.0 q.1 b)
          where
            by-reg : (b : At w still stream kept q.0) → is_talker_port 0 (regs w still stream kept b).talkers ≡ false
                → (x : TalkerReg) → reg w still stream kept q.0 ≡ x → first_talker (regs w still stream kept b).talkers ≡ x → (u : Talker) × (f : Failure) × FailedAt l u f
            by-reg b away Absent e first =
                let present : is_present (reg w still stream kept q.0) ≡ true = behind-registered w still stream kept once t k q.0 q.1 q.3 in
                let none : is_present (reg w still stream kept q.0) ≡ false = ap is_present e in cc
            by-reg b away (Advertise u) e first =
                let same : n.s ≡ b.s = one-node n b in
                let hears : is_ready_heard (heard_by (seen_by b.s.streams stream)) ≡ true =
                heard-from (seen_by b.s.streams stream) (ap (λ (s : NodeState). has_listen stream s.streams) (sym same) ∙ n.listens_to) away (ap is_advertised first) in
                absurd (is-not (hears_ready w stream l) off (hears-is l n ∙ (ap (λ (s : NodeState). is_ready_heard (heard_by (seen_by s.streams stream))) same ∙ hears)))
              where
                one-node : (n : ListensAt l) (b : At w still stream kept q.0) → n.s ≡ b.s
                one-node n b = one-some (node_at (record { 0 = l }) w) n.s b.s n.node (ap (λ (y : ℕ). node_at (record { 0 = y }) w) (sym q.2) ∙ b.node)
            by-reg b away (Failed u f) e first = (u, f, record { q = q.0; port = q.1; node_is = q.2; failed = e })

            by-port : (b : At w still stream kept q.0)
                → (q.0.node.0 ≡ t) ⊎ ((r : EgressPort) × Sibling w still stream kept q.0 b r × (is_behind w.tree.links r t ≡ true)
                × (is_talker_port (suc (place_of r.port)) (regs w still stream kept b).talkers ≡ true) × (first_talker (regs w still stream kept b).talkers ≡ reg w still stream kept r))
                → (u : Talker) × (f : Failure) × FailedAt l u f
            by-port b (inl e) = absurd (is-not (is_talked_at w stream l) mute (ap (is_talked_at w stream) (sym q.2 ∙ e) ∙ k.talks))
            by-port b (inr r) =
                let same-r : r.0 ≡ q.0 = still.laws.one_port r.0 q.0 t r.1.port q.1 (ap (λ x. x.0) r.1.node) r.2 q.3 in
                by-reg b (not-zero (place_of r.0.port) (talker_port (regs w still stream kept b).talkers) r.3) (reg w still stream kept q.0) refl
                (r.4 ∙ ap (reg w still stream kept) same-r)

    -- a station has one port
    pub failed-there : (l : ℕ) (u : Talker) (f : Failure) → (d : FailedAt l u f) → d.q.port.0 ≡ 1 → talker_at_node w stream l ≡ Failed u f
    failed-there l u f d first =
        let a = at-port w still stream kept d.q d.port in
        let node : node_at (record { 0 = l }) w ≡ Some a.s = ap (λ (y : ℕ). node_at (record { 0 = y }) w) (sym d.node_is) ∙ a.node in
        let place : place_of d.q.port ≡ 0 = ap (λ (n : ℕ). n - 1) first in
        let has : slice_get a.s.streams.ports 0 ≡ Some a.port = ap (slice_get a.s.streams.ports) (sym place) ∙ a.has in
        ap (first_in stream) node ∙ (ap (registered_in stream) has ∙ (sym (reg-is w still stream kept d.q a) ∙ d.failed))

    -- ---- refusals

    -- the station that talks, and a port of the path from there that refuses
    pub record Shown (l : ℕ) (f : Failure) : Type 0 where
      pub t : ℕ
      pub talks : Talks w still stream kept t
      pub lowest_is : talking_node w stream ≡ Some t
      pub s : NodeState
      pub node : node_at (record { 0 = t }) w ≡ Some s
      pub refusing : Refusing w still stream kept once t talks l f s

    pub node-of : (t : ℕ) → HasNode w.tree t → (s : NodeState) × (node_at (record { 0 = t }) w ≡ Some s)
    node-of t h = let lt : t - 1 < length w.nodes = omega (arith, h.0, h.1, still.many) in get-some w.nodes (t - 1) lt

    -- a node's first port with a failure
    failed-port : (l : ℕ) → HasNode w.tree l → (u : Talker) (f : Failure) → talker_at_node w stream l ≡ Failed u f → FailedAt l u f
    failed-port l node u f h = by-node (node_at (record { 0 = l }) w) refl
      where
        by-port : (s : NodeState) → node_at (record { 0 = l }) w ≡ Some s → (o : Option PortState) → slice_get s.streams.ports 0 ≡ o → FailedAt l u f
        by-port s e None g = let none : talker_at_node w stream l ≡ Absent = ap (first_in stream) e ∙ ap (registered_in stream) g in cc
        by-port s e (Some x) g =
            let up : l - 1 + 1 ≡ l = omega (arith, node.0) in
            let ports : length s.streams.ports ≡ length (neighbours w.tree.links l) = still.ports (l - 1) s e ∙ ap (λ y. length (neighbours w.tree.links y)) up in
            let q : EgressPort = record { node = record { 0 = l }; port = record { 0 = 1 } } in
            let hq : HasPort w.tree q = (node, omega arith, omega (arith, slice_get_within s.streams.ports 0 x g, ports)) in
            let b : At w still stream kept q = record { s = s; node = e; port = x; has = g } in
            let is : registered_talker stream x.part ≡ Failed u f = sym (ap (first_in stream) e ∙ ap (registered_in stream) g) ∙ h in
            record { q = q; port = hq; node_is = refl; failed = reg-is w still stream kept q b ∙ is }

        by-node : (o : Option NodeState) → node_at (record { 0 = l }) w ≡ o → FailedAt l u f
        by-node None e = let none : talker_at_node w stream l ≡ Absent = ap (first_in stream) e in cc
        by-node (Some s) e = by-port s e (slice_get s.streams.ports 0) refl

    pub shown : (l : ℕ) (u : Talker) (f : Failure) → HasNode w.tree l → talker_at_node w stream l ≡ Failed u f → Shown l f
    shown l u f node h =
        let d = failed-port l node u f h in
        let q = d.q in
        let hq = d.port in
        let y = registered-behind w still stream kept q hq (ap is_present d.failed) in
        let p = peer_of w.tree.links q in
        let hp = still.laws.peer_port q hq in
        let off = other-side w still stream kept once y.0 y.1 q hq y.2 in
        let s = node-of y.0 y.1.node in
        let back : reg w still stream kept (peer_of w.tree.links p) ≡ Failed u f = ap (reg w still stream kept) (still.laws.peer_twice q hq) ∙ d.failed in
        let r = refused w still stream kept once y.0 y.1 p hp off s.0 s.1 u f back in
        record {
          t = y.0;
          talks = y.1;
          lowest_is = lowest y.0 y.1;
          s = s.0;
          node = s.1;
          refusing = subst (λ z. Refusing w still stream kept once y.0 y.1 z f s.0) (still.laws.peer_back q hq ∙ d.node_is) r;
        }

    -- what is registered there, at the port that refuses
    abbrev pub first_there : {l : ℕ} {f : Failure} → Shown l f → TalkerReg
    first_there d = first_talker (regs w still stream kept d.refusing.a).talkers

    -- why that port refuses
    abbrev pub ReasonThere : {l : ℕ} {f : Failure} → Shown l f → Type 0
    ReasonThere {f = f} d =
        Reason d.refusing.a.port.config d.refusing.a.port.ledger (edge_at d.refusing.a.port (regs w still stream kept d.refusing.a).talkers) (first_there d) f

    pub reason-there : {l : ℕ} {f : Failure} (d : Shown l f) → ReasonThere d
    reason-there {f = f} d =
        let r = d.refusing in
        let talkers = (regs w still stream kept r.a).talkers in
        reason r.a.port.config r.a.port.ledger (edge_at r.a.port talkers) talkers f r.refuses

    -- a port's ledger stands at the moment of the node's clock
    pub moment-is : (p : EgressPort) (a : At w still stream kept p) → a.port.ledger.moment ≡ a.s.clock.0
    moment-is p a = (port-kept w still stream kept p a).moment ∙ still.moment (p.node.0 - 1) a.s a.node

    -- the BridgeID of the port that refuses
    pub named-there : {l : ℕ} {f : Failure} (d : Shown l f) → d.refusing.a.s.bridge ≡ f.bridge
    named-there d =
        let r = d.refusing in
        sym (still.named (r.p.node.0 - 1) r.a.s (place_of r.p.port) r.a.port r.a.node r.a.has) ∙ sym r.refuses.3

    -- bookings there leave no place for what the station asks
    refused-at : {l : ℕ} {f : Failure} (d : Shown l f) → Refuses d.refusing.a.port.config d.refusing.a.port.ledger (first_there d) f
        → IsRefusedAt w stream d.t f d.refusing.p
    refused-at {f = f} d u =
        let r = d.refusing in
        let here : want_of_talker u.talker ≡ option_and_then want_of_talker (stated_by w still stream kept once d.t d.talks d.s) =
        ap (λ reg. option_and_then want_of_talker (talker_in reg)) (sym u.advertised)
        ∙ (sym (stated-want (talker_in (first_there d))) ∙ ap (option_and_then want_of_talker) r.states_it) in
        let asks : want_of_talker u.talker ≡ want_at w stream d.t =
        here
        ∙ (stated-want (talk_of stream d.s.streams.talks)
        ∙ sym (ap (λ o. option_and_then (λ (s : NodeState). option_and_then want_of_talker (talk_of stream s.streams.talks)) o) d.node)) in
        let moment : r.a.port.ledger.moment ≡ r.a.s.clock.0 = moment-is r.p r.a in
        let fit : fit_for r.a.s.clock.0 r.a.port.ledger u.want ≡ TooLittle u.more u.cap f.code = ap (λ m. fit_for m r.a.port.ledger u.want) (sym moment) ∙ u.fit in
        record {
          node = r.a.s;
          node_is = r.a.node;
          named = named-there d;
          port = r.a.port;
          port_is = r.a.has;
          want = u.want;
          want_is = sym asks ∙ u.wants;
          refused = pushed-out r.a.s.clock.0 r.a.port.ledger u.want u.more u.cap f.code fit;
        }

    -- what no port can serve is what the station talks
    checked-at : {l : ℕ} {f : Failure} (d : Shown l f) (u : Talker) → first_there d ≡ Advertise u → check_of u ≡ Some f.code
        → option_and_then check_of (talk_at w stream d.t) ≡ Some f.code
    checked-at d u a e =
        ap (λ o. option_and_then check_of (option_and_then (λ (s : NodeState). talk_of stream s.streams.talks) o)) d.node
        ∙ (sym (stated-check (talk_of stream d.s.streams.talks))
        ∙ (ap (option_and_then check_of) (sym d.refusing.states_it)
        ∙ (stated-check (talker_in (first_there d)) ∙ (ap (λ reg. option_and_then check_of (talker_in reg)) a ∙ e))))

    -- the class of the Talker that is registered there is that of what the station talks
    class-there : {l : ℕ} {f : Failure} (d : Shown l f) → class_in (first_there d) ≡ class_talked w stream d.t
    class-there d =
        sym (ap (λ o. class_of (option_and_then (λ (s : NodeState). talk_of stream s.streams.talks) o)) d.node
        ∙ (sym (stated-class (talk_of stream d.s.streams.talks))
        ∙ (ap class_of (sym d.refusing.states_it) ∙ stated-class (talker_in (first_there d)))))
      where
        class_of : Option Talker → Option Class
        class_of o = option_and_then (λ (t : Talker). class_of_priority t.priority) o

    refuses-there : {l : ℕ} {f : Failure} (d : Shown l f) → ReasonThere d → causes.HasReason w stream d.t f d.refusing.p d.refusing.a.s d.refusing.a.port
    refuses-there d (checked u a e) = causes.at_each_port (checked-at d u a e)
    refuses-there d (bounded e code) = causes.at_boundary code e (class-there d)
    refuses-there d (too-little u) =
        let at = refused-at d u in
        let book = at.port.ledger in
        causes.for_bandwidth (ap is_bandwidth_code at.refused.code_is ∙ of-bandwidth at.node.clock.0 book.caps (booked_of book.entries) (tested_entry book.entries at.want)) at

    -- each failure has its cause
    pub caused : WalkPath w → (l : ℕ) (u : Talker) (f : Failure) → HasNode w.tree l → talker_at_node w stream l ≡ Failed u f → HasCause w stream l f
    caused walk l u f node h =
        let d = shown l u f node h in
        let r = d.refusing in
        let path = path_between w.tree.links d.t l in
        record {
          t = d.t;
          talker = d.lowest_is;
          p = r.p;
          on_path = (path, r.i, (walk d.t l path d.talks.node node).1 refl, r.on);
          has = r.port;
          node = r.a.s;
          node_is = r.a.node;
          named = named-there d;
          port = r.a.port;
          port_is = r.a.has;
          reason = refuses-there d (reason-there d);
        }

    pub failed-at-node : (l : ℕ) (f : Failure) → failure_at w stream l ≡ Some f → (u : Talker) × (talker_at_node w stream l ≡ Failed u f) × IsOfBandwidth f.code
    failed-at-node l f h = by (node_of l w) refl
      where
        by : (o : Option NodeState) → node_of l w ≡ o → (u : Talker) × (talker_at_node w stream l ≡ Failed u f) × IsOfBandwidth f.code
        by None e = let none : failure_at w stream l ≡ None = ap (failure_in stream) e in cc
        by (Some s) e =
            let parts = failure-parts (talker_at_place stream 0 s) f (sym (ap (failure_in stream) e) ∙ h) in
            (parts.0, ap (first_in stream) e ∙ parts.1, parts.2)

    pub are-refusals-shown : WalkPath w → AreRefusalsShown w stream
    are-refusals-shown walk l f node mute h =
        let g = failed-at-node l f h in
        let c = caused walk l g.0 f node g.1 in
        (c.t, c.talker, (c.p, c.on_path, by g.2 c c.reason))
      where
        by : IsOfBandwidth f.code → (c : HasCause w stream l f) → causes.HasReason w stream c.t f c.p c.node c.port → IsRefusedAt w stream c.t f c.p
        by code c (causes.for_bandwidth e r) = r
        by code c (causes.at_boundary e edge class) = absurd (not-eight f.code (sym e) code)
        by code c (causes.at_each_port e) = absurd (no-check (talk_at w stream c.t) e)
          where
            no-check : (o : Option Talker) → option_and_then check_of o ≡ Some f.code → ⊥
            no-check None e = cc
            no-check (Some u) e = check-codes u f.code e code

    -- what the node's own test of the fit says there
    pub fit-there : (l : ℕ) (f : Failure) (d : Shown l f) (now : ℕ) → d.refusing.a.port.ledger.moment ≡ now
        → (u : Refuses d.refusing.a.port.config d.refusing.a.port.ledger (first_there d) f)
        → fit_at now (place_of d.refusing.p.port) d.refusing.a.port.ledger (regs w still stream kept d.refusing.a).talkers ≡ Some (TooLittle u.more u.cap f.code)
    fit-there l f d now e u =
        let r = d.refusing in
        let wants : option_and_then want_of_talker (talker_in (first_there d)) ≡ Some u.want =
        ap (λ reg. option_and_then want_of_talker (talker_in reg)) u.advertised ∙ u.wants in
        let here : fit_at now (place_of r.p.port) r.a.port.ledger (regs w still stream kept r.a).talkers ≡ Some (fit_for now r.a.port.ledger u.want) =
        rw r.elsewhere (rw wants refl) in
        here ∙ (ap (λ m. Some (fit_for m r.a.port.ledger u.want)) (sym e) ∙ ap Some u.fit)
