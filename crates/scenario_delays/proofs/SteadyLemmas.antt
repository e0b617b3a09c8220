-- From the last change of bookings or slopes on all ports stay as they are at the run's end.
use Rattle.std.proofs.Common.{◌≡◌, ℕ, zero, suc, ◌+◌, ◌*◌, ◌<◌, ◌≤◌, ◌⊎◌, inl, inr, ◌-◌, Bool, true, false, List, [], ◌∷◌, get_or, Option, Some, None, cond, refl, sym, ◌∙◌, ap, subst, arith}
use Rattle.std.specs.Prelude.{All, AllPairs, Contains, nat_le, max, filter, not, ◌==◌, ◌&&◌, ◌||◌}
use Rattle.std.specs.{List.list_all, List.list_any, Cmp.Lexicographic.pointwise}
use Rattle.std.proofs.lemmas.{Bool.cond-true, Bool.cond-false, Bool.cases_Bool, Bool.cases_lt, Bool.eqb-true, Bool.and_parts, Bool.false≢true, List.Elements.All-contains, List.Elements.All-nil, List.Elements.All-head, List.Elements.All-tail, List.Elements.All-weaker, List.Elements.All-filter, List.Elements.filter_passes, List.Sums.AllPass-from_list_all}
use Rattle.std.proofs.Math.Nat.{le-max_left, le-max_right}
use Rattle.srp_base.specs.declared.{numbers.EgressPort.EgressPort, numbers.StreamId.StreamId, bandwidth.Class.Class, bandwidth.Class.TheVariants.A, bandwidth.Class.TheVariants.B, ports.PortChange.PortChange}
use Rattle.credit_shaper.proofs.PairLemmas.{pairs-head, pairs-tail}
use Rattle.frame_flow.specs.declared.frame.Frame.{Frame}
use Rattle.frame_flow.specs.{Force.is_port, Force.changes_at, Force.last_upto, Force.in_force, Force.has_booked, Force.first_slopes, Flow.Setting, Flow.traffic_of, Given.IsEarlier}
use Rattle.frame_flow.proofs.LevelLemmas.{same-port, port-itself}
use Rattle.delay_flow.specs.Places.{IsAsIn, IsSteady, last_force}
use Rattle.delay_flow.specs.Streams.{is_in_class}
use Rattle.delay_flow.proofs.Places.{same-traffic}
use Rattle.scenario_delays.specs.Steady.{are_same_streams, has_bookings_of, same_port, booking_tick, last_booking_tick, is_reserved, is_steady, HasEarlyFrame}
use Rattle.scenario_delays.specs.Streams.{traffic_in}

-- ---- bookings that are the same

same-any : (xs ys : List StreamId) (n : ℕ) → are_same_streams xs ys ≡ true → list_any (λ s. s.0 == n) xs ≡ list_any (λ s. s.0 == n) ys
same-any [] [] n is = refl
same-any [] (y ∷ ys) n is = absurd (false≢true is)
same-any (x ∷ xs) [] n is = absurd (false≢true is)
same-any (x ∷ xs) (y ∷ ys) n is =
    let h = and_parts (x.0 == y.0) (are_same_streams xs ys) is in
    let one : x.0 ≡ y.0 = eqb-true x.0 y.0 h.0 in
    grind (arith, one, same-any xs ys n h.1)

as-itself : (force : Option PortChange) → IsAsIn force force
as-itself force = record { booked = λ stream. refl; slope_a = refl; slope_b = refl }

as-along : (a b c : Option PortChange) → IsAsIn a b → IsAsIn b c → IsAsIn a c
as-along a b c one two = record {
  booked = λ stream. two.booked stream ∙ one.booked stream;
  slope_a = two.slope_a ∙ one.slope_a;
  slope_b = two.slope_b ∙ one.slope_b;
}

-- a change with the bookings of the one before it is as that
as-before : (b : Option PortChange) (c : PortChange) → has_bookings_of b c ≡ true → IsAsIn (Some c) b
as-before None c is =
    let k = and_parts (are_same_streams c.booked [] && (c.slope_a == 0)) (c.slope_b == 0) is in
    let h = and_parts (are_same_streams c.booked []) (c.slope_a == 0) k.0 in
    record {
      booked = λ stream. sym (same-any c.booked [] stream.0 h.0);
      slope_a = sym (eqb-true c.slope_a 0 h.1);
      slope_b = sym (eqb-true c.slope_b 0 k.1);
    }
as-before (Some b) c is =
    let k = and_parts (are_same_streams c.booked b.booked && (c.slope_a == b.slope_a)) (c.slope_b == b.slope_b) is in
    let h = and_parts (are_same_streams c.booked b.booked) (c.slope_a == b.slope_a) k.0 in
    record {
      booked = λ stream. sym (same-any c.booked b.booked stream.0 h.0);
      slope_a = sym (eqb-true c.slope_a b.slope_a h.1);
      slope_b = sym (eqb-true c.slope_b b.slope_b k.1);
    }

-- ---- what is in force

-- what comes later isn't in force yet
upto-later : (u : ℕ) (b : Option PortChange) (cs : List PortChange) → All (λ c. u < c.tick) cs → last_upto u b cs ≡ b
upto-later u b [] later = refl
upto-later u b (c ∷ cs) later =
    let L : PortChange → Type 0 = λ d. u < d.tick in
    let no : nat_le c.tick u ≡ false = grind (arith, All-head L c cs later) in
    ap (λ (o : Option PortChange). last_upto u o cs) (cond-false (nat_le c.tick u) (Some c) b no)
    ∙ upto-later u b cs (All-tail L c cs later)

-- a change of the port comes before later ones of it
tick-before : (p : EgressPort) (c d : PortChange) → is_port c.at p ≡ true → is_port d.at p ≡ true → IsEarlier c d → c.tick < d.tick
tick-before p c d here there earlier =
    let a = same-port c.at p here in
    let b = same-port d.at p there in
    let node : c.at.node.0 ≡ d.at.node.0 = ap (λ (q : EgressPort). q.node.0) (a ∙ sym b) in
    let port : c.at.port.0 ≡ d.at.port.0 = ap (λ (q : EgressPort). q.port.0) (a ∙ sym b) in
    elim earlier [
      | inl less ↦ absurd (omega (arith, less, node))
      | inr h ↦ elim h.1 [
        | inl less ↦ absurd (omega (arith, less, port))
        | inr k ↦ k.1
      ]
    ]

-- between two changes of a port are only changes of it
between : (p : EgressPort) (b d c : PortChange) → is_port b.at p ≡ true → is_port c.at p ≡ true → IsEarlier b d → IsEarlier d c → is_port d.at p ≡ true
between p b d c first last one two =
    let x = same-port b.at p first in
    let y = same-port c.at p last in
    let bn : b.at.node.0 ≡ p.node.0 = ap (λ (q : EgressPort). q.node.0) x in
    let bp : b.at.port.0 ≡ p.port.0 = ap (λ (q : EgressPort). q.port.0) x in
    let cn : c.at.node.0 ≡ p.node.0 = ap (λ (q : EgressPort). q.node.0) y in
    let cp : c.at.port.0 ≡ p.port.0 = ap (λ (q : EgressPort). q.port.0) y in
    grind (arith, bn, bp, cn, cp, one, two)

-- what stands before changes, and the last change of a port among that: later ones of the port have
-- it before them, and it is of the port and earlier than all
record Follows (p : EgressPort) (before b : Option PortChange) (cs : List PortChange) : Type 0 where
  same : All (λ c. is_port c.at p ≡ true → same_port before c ≡ b) cs
  earlier : (e : PortChange) → b ≡ Some e → (is_port e.at p ≡ true) × All (IsEarlier e) cs

-- where a change of another port stands between, the port had none
none-before : (p : EgressPort) (b : Option PortChange) (c d : PortChange) (cs : List PortChange) → is_port c.at p ≡ false
    → ((e : PortChange) → b ≡ Some e → (is_port e.at p ≡ true) × All (IsEarlier e) (c ∷ cs)) → is_port d.at p ≡ true → IsEarlier c d → None ≡ b
none-before p None c d cs aside before here later = refl
none-before p (Some e) c d cs aside before here later =
    let h = before e refl in
    absurd (false≢true (sym aside ∙ between p e c d h.0 here (All-head (IsEarlier e) c cs h.1) later))

follows-aside : (p : EgressPort) (before b : Option PortChange) (c : PortChange) (cs : List PortChange) → AllPairs IsEarlier (c ∷ cs) → is_port c.at p ≡ false
    → Follows p before b (c ∷ cs) → Follows p (Some c) b cs
follows-aside p before b c cs pairs aside follows = record {
  same = All-weaker (IsEarlier c) (λ d. is_port d.at p ≡ true → same_port (Some c) d ≡ b)
      (λ d later here.
      let no : is_port c.at d.at ≡ false = ap (λ (q : EgressPort). is_port c.at q) (same-port d.at p here) ∙ aside in
      cond-false (is_port c.at d.at) (Some c) None no ∙ none-before p b c d cs aside follows.earlier here later)
      cs (pairs-head IsEarlier c cs pairs);
  earlier = λ e is. ((follows.earlier e is).0, All-tail (IsEarlier e) c cs (follows.earlier e is).1);
}

follows-here : (p : EgressPort) (c : PortChange) (cs : List PortChange) → AllPairs IsEarlier (c ∷ cs) → is_port c.at p ≡ true → Follows p (Some c) (Some c) cs
follows-here p c cs pairs here = record {
  same = All-weaker (IsEarlier c) (λ d. is_port d.at p ≡ true → same_port (Some c) d ≡ Some c)
      (λ d later there.
      let yes_it : is_port c.at d.at ≡ true = ap (λ (q : EgressPort). is_port c.at q) (same-port d.at p there) ∙ here in
      cond-true (is_port c.at d.at) (Some c) None yes_it)
      cs (pairs-head IsEarlier c cs pairs);
  earlier = λ e is.
      let one : c ≡ e = cc in
      (subst (λ (x : PortChange). is_port x.at p ≡ true) one here, subst (λ (x : PortChange). All (IsEarlier x) cs) one (pairs-head IsEarlier c cs pairs));
}

-- ---- one change more

over-change : (u t : ℕ) → u ≤ t → (b : Option PortChange) (c : PortChange) (cs : List PortChange) → All (λ d. c.tick < d.tick) cs → (u < c.tick → has_bookings_of b c ≡ true)
    → IsAsIn (last_upto t (Some c) cs) (last_upto u (Some c) cs) → IsAsIn (last_upto t b (c ∷ cs)) (last_upto u b (c ∷ cs))
over-change u t less b c cs later kept rest =
    let L : PortChange → Type 0 = λ d. c.tick < d.tick in
    let after : (v : ℕ) → v < c.tick → All (λ d. v < d.tick) cs = λ v few. All-weaker L (λ d. v < d.tick) (λ d h. omega (arith, h, few)) cs later in
    let upto : (v : ℕ) → Option PortChange = λ v. cond (nat_le c.tick v) (Some c) b in
    let come : (v : ℕ) → c.tick ≤ v → last_upto v b (c ∷ cs) ≡ last_upto v (Some c) cs =
    λ v h. ap (λ (o : Option PortChange). last_upto v o cs) (cond-true (nat_le c.tick v) (Some c) b (grind (arith, h))) in
    let not_come : (v : ℕ) → v < c.tick → last_upto v b (c ∷ cs) ≡ b =
    λ v h. ap (λ (o : Option PortChange). last_upto v o cs) (cond-false (nat_le c.tick v) (Some c) b (grind (arith, h))) ∙ upto-later v b cs (after v h) in
    elim (cases_lt u c.tick) [
      | inr there ↦ (
          subst (λ (o : Option PortChange). IsAsIn o (last_upto u b (c ∷ cs))) (sym (come t (omega (arith, there, less))))
          (subst (λ (o : Option PortChange). IsAsIn (last_upto t (Some c) cs) o) (sym (come u (omega (arith, there)))) rest))
      | inl before ↦ subst (λ (o : Option PortChange). IsAsIn (last_upto t b (c ∷ cs)) o) (sym (not_come u before))
          (elim (cases_lt t c.tick) [
            | inl still ↦ subst (λ (o : Option PortChange). IsAsIn o b) (sym (not_come t still)) (as-itself b)
            | inr there ↦ (
                let as_c = subst (λ (o : Option PortChange). IsAsIn (last_upto t (Some c) cs) o) (upto-later u (Some c) cs (after u before)) rest in
                subst (λ (o : Option PortChange). IsAsIn o b) (sym (come t (omega (arith, there)))) (as-along (last_upto t (Some c) cs) (Some c) b as_c (as-before b c (kept before))))
          ])
    ]

-- a change after this tick has the bookings of the one before
kept-before : (u : ℕ) (before b : Option PortChange) (c : PortChange) → booking_tick before c ≤ u → same_port before c ≡ b → u < c.tick → has_bookings_of b c ≡ true
kept-before u before b c few same late =
    elim (cases_Bool (has_bookings_of b c)) [
      | inl is ↦ is
      | inr nay ↦ (
          let no : has_bookings_of (same_port before c) c ≡ false = ap (λ (o : Option PortChange). has_bookings_of o c) same ∙ nay in
          absurd (omega (arith, few, late, cond-false (has_bookings_of (same_port before c) c) 0 c.tick no)))
    ]

stays : (p : EgressPort) (u t : ℕ) → u ≤ t → (cs : List PortChange) (before b : Option PortChange) → AllPairs IsEarlier cs → Follows p before b cs → last_booking_tick before cs ≤ u
    → IsAsIn (last_upto t b (changes_at cs p)) (last_upto u b (changes_at cs p))
stays p u t less [] before b pairs follows few = as-itself b
stays p u t less (c ∷ cs) before b pairs follows few =
    let first = booking_tick before c in
    let more = last_booking_tick (Some c) cs in
    let test : PortChange → Bool = λ d. is_port d.at p in
    let tail = pairs-tail IsEarlier c cs pairs in
    let F : List PortChange = changes_at cs p in
    let head : first ≤ u = omega (arith, few, le-max_left first more) in
    let rest : more ≤ u = omega (arith, few, le-max_right first more) in
    let As : List PortChange → Type 0 = λ xs. IsAsIn (last_upto t b xs) (last_upto u b xs) in
    elim (cases_Bool (is_port c.at p)) [
      | inr aside ↦ subst As (sym (cond-false (is_port c.at p) (c ∷ F) F aside)) (stays p u t less cs (Some c) b tail (follows-aside p before b c cs pairs aside follows) rest)
      | inl here ↦ (
          let S : PortChange → Type 0 = λ d. is_port d.at p ≡ true → same_port before d ≡ b in
          let E : PortChange → Type 0 = λ d. is_port d.at p ≡ true → c.tick < d.tick in
          let later : All (λ d. c.tick < d.tick) F =
          λ i d below.
          (All-filter test E cs (All-weaker (IsEarlier c) E (λ x h there. tick-before p c x here there h) cs (pairs-head IsEarlier c cs pairs)) i d below)
          (filter_passes test cs i d below) in
          subst As (sym (cond-true (is_port c.at p) (c ∷ F) F here))
          (over-change u t less b c F later (kept-before u before b c head (All-head S c cs follows.same here))
          (stays p u t less cs (Some c) (Some c) tail (follows-here p c cs pairs here) rest)))
    ]

-- the last such change is within the run
last-within : (n : ℕ) (before : Option PortChange) (cs : List PortChange) → 0 < n → All (λ c. c.tick < n) cs → last_booking_tick before cs < n
last-within n before [] some all = some
last-within n before (c ∷ cs) some all =
    let P : PortChange → Type 0 = λ d. d.tick < n in
    let first = booking_tick before c in
    let one : first < n = elim (cases_Bool (has_bookings_of (same_port before c) c)) [
      | inl is ↦ omega (arith, some, cond-true (has_bookings_of (same_port before c) c) 0 c.tick is)
      | inr nay ↦ omega (arith, All-head P c cs all, cond-false (has_bookings_of (same_port before c) c) 0 c.tick nay)
    ] in
    grind (arith, one, last-within n (Some c) cs some (All-tail P c cs all))

-- ---- frames

reserved-class : (class : Class) (f : Frame) → is_in_class (traffic_in class) f ≡ true → is_reserved (traffic_of f.route) ≡ true
reserved-class A f is = ap is_reserved (same-traffic (traffic_of f.route) (traffic_in A) is)
reserved-class B f is = ap is_reserved (same-traffic (traffic_of f.route) (traffic_in B) is)

pub steady-run : (s : Setting) (class : Class) → 0 < s.ticks → AllPairs IsEarlier s.changes → All (λ c. c.tick < s.ticks) s.changes → is_steady s.changes s.frames ≡ true
    → IsSteady s (traffic_in class) (last_booking_tick None s.changes)
steady-run s class some pairs within is =
    let u = last_booking_tick None s.changes in
    let test : Frame → Bool = λ f. not (is_reserved (traffic_of f.route)) || nat_le (u * 10000000000) f.at.0 in
    record {
      before = last-within s.ticks None s.changes some within;
      same = λ p t port from upto.
          stays p t (s.ticks - 1) (omega (arith, upto)) s.changes None None pairs
          (record { same = λ i d below here. refl; earlier = λ e none. absurd (let no : None ≡ Some e = none in cc) }) from;
      frames = λ i d below in_class.
          let f = get_or s.frames i d in
          let passes = AllPass-from_list_all test s.frames is i d below in
          let reserved = reserved-class class f in_class in
          let early : nat_le (u * 10000000000) f.at.0 ≡ true = grind (arith, passes, reserved) in
          grind (arith, early);
    }

-- ---- where it isn't steady

-- a change of a port that is found in a list, by which it has other bookings or slopes than before
record IsFoundIn (b : EgressPort → Option PortChange) (cs : List PortChange) (u : ℕ) : Type 0 where
  change : PortChange
  listed : Contains cs change
  tick : change.tick ≡ u
  other : has_bookings_of (last_upto (u - 1) (b change.at) (changes_at cs change.at)) change ≡ false

-- the last change of each port, with one more
abbrev with_change : PortChange → (EgressPort → Option PortChange) → EgressPort → Option PortChange
with_change c b p = cond (is_port c.at p) (Some c) (b p)

follows-with : (before : Option PortChange) (b : EgressPort → Option PortChange) (c : PortChange) (cs : List PortChange) → AllPairs IsEarlier (c ∷ cs)
    → ((p : EgressPort) → Follows p before (b p) (c ∷ cs)) → (p : EgressPort) → Follows p (Some c) (with_change c b p) cs
follows-with before b c cs pairs follows p =
    let F : Option PortChange → Type 0 = λ o. Follows p (Some c) o cs in
    elim (cases_Bool (is_port c.at p)) [
      | inl here ↦ subst F (sym (cond-true (is_port c.at p) (Some c) (b p) here)) (follows-here p c cs pairs here)
      | inr aside ↦ subst F (sym (cond-false (is_port c.at p) (Some c) (b p) aside)) (follows-aside p before (b p) c cs pairs aside (follows p))
    ]

later-ticks : (p : EgressPort) (c : PortChange) (cs : List PortChange) → AllPairs IsEarlier (c ∷ cs) → is_port c.at p ≡ true → All (λ d. c.tick < d.tick) (changes_at cs p)
later-ticks p c cs pairs here i d below =
    let test : PortChange → Bool = λ x. is_port x.at p in
    let E : PortChange → Type 0 = λ x. is_port x.at p ≡ true → c.tick < x.tick in
    (All-filter test E cs (All-weaker (IsEarlier c) E (λ x h there. tick-before p c x here there h) cs (pairs-head IsEarlier c cs pairs)) i d below)
    (filter_passes test cs i d below)

-- it is the first of some
found-first : (before : Option PortChange) (b : EgressPort → Option PortChange) (c : PortChange) (cs : List PortChange) (u : ℕ) → AllPairs IsEarlier (c ∷ cs)
    → ((p : EgressPort) → Follows p before (b p) (c ∷ cs)) → 0 < u → booking_tick before c ≡ u → IsFoundIn b (c ∷ cs) u
found-first before b c cs u pairs follows some is =
    elim (cases_Bool (has_bookings_of (same_port before c) c)) [
      | inl kept ↦ absurd (omega (arith, some, is, cond-true (has_bookings_of (same_port before c) c) 0 c.tick kept))
      | inr other ↦ (
          let p = c.at in
          let tick : c.tick ≡ u = sym (cond-false (has_bookings_of (same_port before c) c) 0 c.tick other) ∙ is in
          let S : PortChange → Type 0 = λ d. is_port d.at p ≡ true → same_port before d ≡ b p in
          let had : same_port before c ≡ b p = All-head S c cs (follows p).same (port-itself p) in
          let F = changes_at cs p in
          let L : PortChange → Type 0 = λ d. c.tick < d.tick in
          let later : All (λ d. u - 1 < d.tick) F = All-weaker L (λ d. u - 1 < d.tick) (λ d h. omega (arith, h, tick)) F (later-ticks p c cs pairs (port-itself p)) in
          let not_yet : nat_le c.tick (u - 1) ≡ false = grind (arith, tick, some) in
          let now : last_upto (u - 1) (b p) (changes_at (c ∷ cs) p) ≡ b p =
          ap (λ (xs : List PortChange). last_upto (u - 1) (b p) xs) (cond-true (is_port c.at p) (c ∷ F) F (port-itself p))
          ∙ ap (λ (o : Option PortChange). last_upto (u - 1) o F) (cond-false (nat_le c.tick (u - 1)) (Some c) (b p) not_yet)
          ∙ upto-later (u - 1) (b p) F later in
          record {
            change = c;
            listed = (zero, omega arith, refl);
            tick = tick;
            other = ap (λ (o : Option PortChange). has_bookings_of o c) (now ∙ sym had) ∙ other;
          })
    ]

-- it is among the others
found-later : (b : EgressPort → Option PortChange) (c : PortChange) (cs : List PortChange) (u : ℕ) → AllPairs IsEarlier (c ∷ cs) → IsFoundIn (with_change c b) cs u → IsFoundIn b (c ∷ cs) u
found-later b c cs u pairs h =
    let d = h.change in
    let p = d.at in
    let F = changes_at cs p in
    let now : last_upto (u - 1) (b p) (changes_at (c ∷ cs) p) ≡ last_upto (u - 1) (with_change c b p) F =
    elim (cases_Bool (is_port c.at p)) [
      | inl here ↦ (
          let earlier = All-contains (IsEarlier c) cs d (pairs-head IsEarlier c cs pairs) h.listed in
          let less = tick-before p c d here (port-itself p) earlier in
          let come : nat_le c.tick (u - 1) ≡ true = grind (arith, less, h.tick) in
          ap (λ (xs : List PortChange). last_upto (u - 1) (b p) xs) (cond-true (is_port c.at p) (c ∷ F) F here)
          ∙ ap (λ (o : Option PortChange). last_upto (u - 1) o F) (cond-true (nat_le c.tick (u - 1)) (Some c) (b p) come)
          ∙ ap (λ (o : Option PortChange). last_upto (u - 1) o F) (sym (cond-true (is_port c.at p) (Some c) (b p) here)))
      | inr aside ↦ ap (λ (xs : List PortChange). last_upto (u - 1) (b p) xs) (cond-false (is_port c.at p) (c ∷ F) F aside)
          ∙ ap (λ (o : Option PortChange). last_upto (u - 1) o F) (sym (cond-false (is_port c.at p) (Some c) (b p) aside))
    ] in
    record {
      change = d;
      listed = (suc h.listed.0, omega (arith, h.listed.1), h.listed.2);
      tick = h.tick;
      other = ap (λ (o : Option PortChange). has_bookings_of o d) now ∙ h.other;
    }

found-last : (before : Option PortChange) (b : EgressPort → Option PortChange) (cs : List PortChange) (u : ℕ) → AllPairs IsEarlier cs → ((p : EgressPort) → Follows p before (b p) cs)
    → 0 < u → last_booking_tick before cs ≡ u → IsFoundIn b cs u
found-last before b [] u pairs follows some is = absurd (omega (arith, some, is))
found-last before b (c ∷ cs) u pairs follows some is =
    let first = booking_tick before c in
    let rest = last_booking_tick (Some c) cs in
    elim (cases_lt first rest) [
      | inl less ↦ (
          let last : rest ≡ u = omega (arith, less, is) in
          found-later b c cs u pairs
          (found-last (Some c) (with_change c b) cs u (pairs-tail IsEarlier c cs pairs) (follows-with before b c cs pairs follows) some last))
      | inr more ↦ (let one : first ≡ u = omega (arith, more, is) in found-first before b c cs u pairs follows some one)
    ]

some-fails : {X : Type 0} (test : X → Bool) (xs : List X) → list_all test xs ≡ false → (x : X) × Contains xs x × (test x ≡ false)
some-fails test [] is = absurd (false≢true (sym is))
some-fails test (x ∷ xs) is =
    elim (cases_Bool (test x)) [
      | inr nay ↦ (x, (zero, omega arith, refl), nay)
      | inl passes ↦ (
          let rest = some-fails test xs (sym (ap (λ (t : Bool). t && list_all test xs) passes) ∙ is) in
          (rest.0, (suc rest.1.0, omega (arith, rest.1.1), rest.1.2), rest.2))
    ]

early-by : (changes : List PortChange) (frames : List Frame) (u : ℕ) → IsFoundIn (λ p. None) changes u → (f : Frame) → Contains frames f → is_reserved (traffic_of f.route) ≡ true
    → f.at.0 < u * 10000000000 → HasEarlyFrame changes frames
early-by changes frames u found f sent reserved early =
    let c = found.change in
    let at : u ≡ c.tick = sym found.tick in
    record {
      change = c;
      listed = found.listed;
      other = subst (λ (t : ℕ). has_bookings_of (last_upto (t - 1) None (changes_at changes c.at)) c ≡ false) at found.other;
      frame = f;
      sent = sent;
      reserved = reserved;
      early = subst (λ (t : ℕ). f.at.0 < t * 10000000000) at early;
    }

pub early-frame : (changes : List PortChange) (frames : List Frame) → AllPairs IsEarlier changes → is_steady changes frames ≡ false → HasEarlyFrame changes frames
early-frame changes frames pairs is =
    let u = last_booking_tick None changes in
    let test : Frame → Bool = λ f. not (is_reserved (traffic_of f.route)) || nat_le (u * 10000000000) f.at.0 in
    let fails = some-fails test frames is in
    let f = fails.0 in
    let nay = fails.2 in
    let reserved : is_reserved (traffic_of f.route) ≡ true = grind (arith, nay) in
    let not_late : nat_le (u * 10000000000) f.at.0 ≡ false = grind (arith, nay) in
    let early : f.at.0 < u * 10000000000 = grind (arith, not_late) in
    early-by changes frames u
    (found-last None (λ p. None) changes u pairs
    (λ p. record { same = λ i d below here. refl; earlier = λ e none. absurd (let no : None ≡ Some e = none in cc) })
    (omega (arith, early)) refl)
    f fails.1 reserved early
