-- What is asked of a port is what is wished behind it.
use Rattle.std.proofs.Common.{◌≡◌, ◌⊎◌, ℕ, zero, suc, ◌+◌, Bool, true, false, not, ◌&&◌, ◌||◌, ◌==◌, List, [], ◌∷◌, ◌++◌, Option, Some, None, if◌then◌else◌, map, refl, sym, ap, subst, ◌∙◌, inl, inr, arith}
use Rattle.std.specs.Prelude.{◌↔◌, filter, slice_get, option_map}
use Rattle.std.specs.List.{cons_option, list_any}
use Rattle.std.proofs.lemmas.{Bool.and_from, Bool.and_parts, Bool.eqb-true, Bool.eq-eqb, Bool.not-true, Bool.not_from_false, Option.same_Some}
use Rattle.std.proofs.lemmas.Map.Keys.{any_passes_from_place}
use Rattle.srp_base.proofs.Lists.{list_any-map}
use Rattle.srp_base.specs.declared.{bandwidth.Class.Class, numbers.EgressPort.EgressPort, numbers.NodeNo.NodeNo}
use Rattle.stream_importance.specs.declared.entry.Want.{Want}
use Rattle.tree_topology.specs.Topology.{link_ports}
use Rattle.topology_file.specs.declared.entries.StreamEntry.{StreamEntry}
use Rattle.topology_file.specs.Plan.{Plan}
use Rattle.port_needs.specs.declared.{demand.Demand.Demand, demand.Wish.Wish}
use Rattle.port_needs.specs.{class_of_entry, demand_in, demands_from, is_asked_at, is_blocked, is_wish_of, leads_to, stations_of, want_of_entry, wants_among, wants_at, IsAmong, IsWishedAt}

-- ---- lists

-- one that passes
any_place : {X : Type 0} (test : X → Bool) (xs : List X) → list_any test xs ≡ true
    → (i : ℕ) × (x : X) × (slice_get xs i ≡ Some x) × (test x ≡ true)
any_place test [] h = cc
any_place {X} test (x ∷ xs) h = by (test x) refl h (any_place test xs)
  where
    by : (t : Bool) → test x ≡ t → (t || list_any test xs) ≡ true
        → (list_any test xs ≡ true → (i : ℕ) × (y : X) × (slice_get xs i ≡ Some y) × (test y ≡ true))
        → (i : ℕ) × (y : X) × (slice_get (x ∷ xs) i ≡ Some y) × (test y ≡ true)
    by true is h later = (0, x, refl, is)
    by false is h later = let found = later h in (suc found.0, found.1, found.2, found.3)

any_filter : {X : Type 0} (test keep : X → Bool) (xs : List X) → list_any test (filter keep xs) ≡ list_any (λ x. keep x && test x) xs
any_filter test keep [] = refl
any_filter test keep (x ∷ xs) = by (keep x) (any_filter test keep xs)
  where
    by : (t : Bool) → list_any test (filter keep xs) ≡ list_any (λ y. keep y && test y) xs
        → list_any test (if t then x ∷ filter keep xs else filter keep xs) ≡ ((t && test x) || list_any (λ y. keep y && test y) xs)
    by true rest = ap (λ (b : Bool). test x || b) rest
    by false rest = rest

among_front : (w : Want) (vs ws : List Want) → IsAmong w vs → IsAmong w (vs ++ ws)
among_front w [] ws h = absurd h
among_front w (v ∷ vs) ws (inl e) = inl e
among_front w (v ∷ vs) ws (inr h) = inr (among_front w vs ws h)

among_behind : (w : Want) (vs ws : List Want) → IsAmong w ws → IsAmong w (vs ++ ws)
among_behind w [] ws h = h
among_behind w (v ∷ vs) ws h = inr (among_behind w vs ws h)

among_either : (w : Want) (vs ws : List Want) → IsAmong w (vs ++ ws) → IsAmong w vs ⊎ IsAmong w ws
among_either w [] ws h = inr h
among_either w (v ∷ vs) ws (inl e) = inl (inl e)
among_either w (v ∷ vs) ws (inr h) = elim (among_either w vs ws h) [ inl g ↦ inl (inr g) | inr g ↦ inr g ]

-- ---- one stream

module _ (plan : Plan) (ports : List EgressPort) (wishes : List Wish) (p : EgressPort) where
  abbrev demand_for : ℕ → StreamEntry → Class → Demand
  demand_for n e class = demand_in plan ports (stations_of plan.tree wishes n) e class

  -- what a stream of this class wants of the port
  abbrev pub own : ℕ → StreamEntry → Option Class → List Want
  own n e None = []
  own n e (Some class) = if is_asked_at plan.tree p (demand_for n e class) then want_of_entry e class ∷ [] else []

  -- what these streams want of it
  abbrev pub wants_from : ℕ → List StreamEntry → List Want
  wants_from n es = wants_among plan.tree (demands_from plan ports wishes n es) p

  pub split : (n : ℕ) (e : StreamEntry) (es : List StreamEntry) → wants_from n (e ∷ es) ≡ own n e (class_of_entry e) ++ wants_from (n + 1) es
  split n e es = by (class_of_entry e)
    where
      rest : List Demand
      rest = demands_from plan ports wishes (n + 1) es

      of_class : (class : Class) (t : Bool)
          → map (λ d. d.want) (if t then demand_for n e class ∷ filter (is_asked_at plan.tree p) rest else filter (is_asked_at plan.tree p) rest)
          ≡ (if t then want_of_entry e class ∷ [] else []) ++ wants_among plan.tree rest p
      of_class class true = refl
      of_class class false = refl

      by : (o : Option Class)
          → wants_among plan.tree (cons_option (option_map (demand_in plan ports (stations_of plan.tree wishes n) e) o) rest) p
          ≡ own n e o ++ wants_among plan.tree rest p
      by None = refl
      by (Some class) = of_class class (is_asked_at plan.tree p (demand_for n e class))

  -- a wish for a stream of this number behind the port
  abbrev pub passes : ℕ → StreamEntry → Class → Wish → Bool
  passes n e class wish =
      is_wish_of plan.tree n wish
      && (not (is_blocked plan ports class e.talker.0 wish.station.0) && leads_to plan.tree p e.talker.0 wish.station.0)

  pub asked_by : (n : ℕ) (e : StreamEntry) (class : Class) → is_asked_at plan.tree p (demand_for n e class) ≡ list_any (passes n e class) wishes
  asked_by n e class =
      let lead : NodeNo → Bool = λ y. leads_to plan.tree p e.talker.0 y.0 in
      let free : NodeNo → Bool = λ y. not (is_blocked plan ports class e.talker.0 y.0) in
      any_filter lead free (stations_of plan.tree wishes n)
      ∙ list_any-map (λ y. free y && lead y) (λ (w : Wish). w.station) (filter (is_wish_of plan.tree n) wishes)
      ∙ any_filter (λ (w : Wish). free w.station && lead w.station) (is_wish_of plan.tree n) wishes

-- ---- all of them

module _ (plan : Plan) (wishes : List Wish) (p : EgressPort) (want : Want) where
  abbrev ports : List EgressPort
  ports = link_ports plan.tree

  abbrev wants : ℕ → List StreamEntry → List Want
  wants n es = wants_from plan ports wishes p n es

  -- the stream at some place of these, of which the first has this number, wants it
  record IsOfSome (n : ℕ) (es : List StreamEntry) : Type 0 where
    stream : ℕ
    entry : StreamEntry
    entry_is : slice_get es stream ≡ Some entry
    class : Class
    class_is : class_of_entry entry ≡ Some class
    want_is : want_of_entry entry class ≡ want
    asked : list_any (passes plan ports wishes p (stream + n) entry class) wishes ≡ true

  at_number : (i n : ℕ) {m : ℕ} (e : StreamEntry) (class : Class) → i + n ≡ m
      → list_any (passes plan ports wishes p (i + n) e class) wishes ≡ list_any (passes plan ports wishes p m e class) wishes
  at_number i n e class same = ap (λ (k : ℕ). list_any (passes plan ports wishes p k e class) wishes) same

  of_own : (n : ℕ) (e : StreamEntry) (es : List StreamEntry) → IsAmong want (own plan ports wishes p n e (class_of_entry e)) → IsOfSome n (e ∷ es)
  of_own n e es h = by (class_of_entry e) refl h
    where
      of_class : (class : Class) (t : Bool) → class_of_entry e ≡ Some class
          → is_asked_at plan.tree p (demand_in plan ports (stations_of plan.tree wishes n) e class) ≡ t
          → IsAmong want (if t then want_of_entry e class ∷ [] else []) → IsOfSome n (e ∷ es)
      of_class class true is asked (inl same) = record {
        stream = 0;
        entry = e;
        entry_is = refl;
        class = class;
        class_is = is;
        want_is = same;
        asked = at_number 0 n e class (let z : 0 + n ≡ n = omega arith in z) ∙ sym (asked_by plan ports wishes p n e class) ∙ asked;
      }
      of_class class true is asked (inr h) = absurd h
      of_class class false is asked h = absurd h

      by : (o : Option Class) → class_of_entry e ≡ o → IsAmong want (own plan ports wishes p n e o) → IsOfSome n (e ∷ es)
      by None is h = absurd h
      by (Some class) is h = of_class class _ is refl h

  found : (n : ℕ) (es : List StreamEntry) → IsAmong want (wants n es) → IsOfSome n es
  found n [] h = absurd h
  found n (e ∷ es) h =
      elim (among_either want (own plan ports wishes p n e (class_of_entry e)) (wants (n + 1) es) (subst (IsAmong want) (split plan ports wishes p n e es) h)) [
        | inl own ↦ of_own n e es own
        | inr later ↦ (
            let r = found (n + 1) es later in
            record {
              stream = suc r.stream;
              entry = r.entry;
              entry_is = r.entry_is;
              class = r.class;
              class_is = r.class_is;
              want_is = r.want_is;
              asked = at_number (suc r.stream) n r.entry r.class (let z : suc r.stream + n ≡ r.stream + (n + 1) = omega arith in z) ∙ r.asked;
            })
      ]

  to_own : (n : ℕ) (e : StreamEntry) (class : Class) → class_of_entry e ≡ Some class → want_of_entry e class ≡ want
      → is_asked_at plan.tree p (demand_in plan ports (stations_of plan.tree wishes n) e class) ≡ true
      → IsAmong want (own plan ports wishes p n e (class_of_entry e))
  to_own n e class is same asked =
      subst (λ (o : Option Class). IsAmong want (own plan ports wishes p n e o)) (sym is)
      (subst (λ (t : Bool). IsAmong want (if t then want_of_entry e class ∷ [] else [])) (sym asked) (inl same))

  asked_of : (n : ℕ) (es : List StreamEntry) (i : ℕ) (e : StreamEntry) (class : Class) → slice_get es i ≡ Some e → class_of_entry e ≡ Some class
      → want_of_entry e class ≡ want → list_any (passes plan ports wishes p (i + n) e class) wishes ≡ true → IsAmong want (wants n es)
  asked_of n [] i e class at is same asked = cc
  asked_of n (f ∷ es) zero e class at is same asked =
      let here : f ≡ e = same_Some f e at in
      subst (IsAmong want) (sym (split plan ports wishes p n f es))
      (among_front want (own plan ports wishes p n f (class_of_entry f)) (wants (n + 1) es)
      (subst (λ (x : StreamEntry). IsAmong want (own plan ports wishes p n x (class_of_entry x))) (sym here)
      (to_own n e class is same (asked_by plan ports wishes p n e class ∙ sym (at_number 0 n e class (let z : 0 + n ≡ n = omega arith in z)) ∙ asked))))
  asked_of n (f ∷ es) (suc i) e class at is same asked =
      subst (IsAmong want) (sym (split plan ports wishes p n f es))
      (among_behind want (own plan ports wishes p n f (class_of_entry f)) (wants (n + 1) es)
      (asked_of (n + 1) es i e class at is same
      (sym (at_number (suc i) n e class (let z : suc i + n ≡ i + (n + 1) = omega arith in z)) ∙ asked)))

  pub asked_is_wished : IsAmong want (wants_at plan wishes p) ↔ IsWishedAt plan wishes p want
  asked_is_wished = (
    λ h. let r = found 1 plan.streams h in
        let one = any_place (passes plan ports wishes p (r.stream + 1) r.entry r.class) wishes r.asked in
        let parts = and_parts (is_wish_of plan.tree (r.stream + 1) one.1) _ one.3 in
        let wish = and_parts (one.1.stream == r.stream + 1) _ parts.0 in
        let way = and_parts (not (is_blocked plan ports r.class r.entry.talker.0 one.1.station.0)) _ parts.1 in
        record {
          stream = r.stream;
          entry = r.entry;
          entry_is = r.entry_is;
          class = r.class;
          class_is = r.class_is;
          want_is = r.want_is;
          place = one.0;
          wish = one.1;
          wish_is = one.2;
          stream_is = eqb-true one.1.stream (r.stream + 1) wish.0;
          station = wish.1;
          passes = not-true (is_blocked plan ports r.class r.entry.talker.0 one.1.station.0) way.0;
          leads = way.1;
        },
    λ s. asked_of 1 plan.streams s.stream s.entry s.class s.entry_is s.class_is s.want_is
        (any_passes_from_place (passes plan ports wishes p (s.stream + 1) s.entry s.class) wishes s.place s.wish s.wish_is
        (and_from (is_wish_of plan.tree (s.stream + 1) s.wish) _
        (and_from (s.wish.stream == s.stream + 1) _ (eq-eqb s.wish.stream (s.stream + 1) s.stream_is) s.station)
        (and_from (not (is_blocked plan ports s.class s.entry.talker.0 s.wish.station.0)) _
        (not_from_false (is_blocked plan ports s.class s.entry.talker.0 s.wish.station.0) s.passes) s.leads))),
  )
