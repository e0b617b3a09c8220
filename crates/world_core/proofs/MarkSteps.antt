-- The marks of a network after those of a port and of its peer have become others: these, and all else.
use Rattle.std.proofs.Common.{◌≡◌, ◌≢◌, ◌⊎◌, inl, inr, ℕ, ◌-◌, Bool, true, false, if◌then◌else◌, List, refl, sym, ap, subst, ◌∙◌}
use Rattle.std.specs.Prelude.{slice_get, slice_set, Option, Some, None}
use Rattle.std.specs.Option.{option_map_or, option_and_then}
use Rattle.srp_base.proofs.{Arithmetic.decide, Lists.get_set, Lists.get_set_other}
use Rattle.srp_base.specs.declared.{numbers.EgressPort.EgressPort, mrp.App.App, mrp.App.TheVariants.Mvrp, mrp.App.TheVariants.Msrp}
use Rattle.tree_topology.specs.{Topology.Topology, Topology.HasPort, Ports.peer_of, PortLaws.HasPortLaws}
use Rattle.tree_topology.proofs.EgressPorts.{decide_port, other_place, other_end}
use Rattle.attribute_propagation.specs.Ports.{place_of}
use Rattle.world_core.specs.{EndMark, EndMarks, MarksState, BothMarks, IsOfTree, is_same_app, of_app, with_app, no_mark, end_in, mark_at, row_with, ends_with, with_mark, with_both}
use Rattle.world_core.proofs.Counts.{app_is}

-- ---- one end

pub end_same : (app : App) (p : EgressPort) (v : EndMark) (ends : List (List EndMarks)) (x : EndMarks) → end_in p ends ≡ Some x
    → end_in p (ends_with app p v ends) ≡ Some (with_app app v x)
end_same app p v ends x is = by (slice_get ends (p.node.0 - 1)) refl is
  where
    by : (o : Option (List EndMarks)) → slice_get ends (p.node.0 - 1) ≡ o → option_and_then (λ row. slice_get row (place_of p.port)) o ≡ Some x
        → end_in p (option_map_or (λ row. slice_set ends (p.node.0 - 1) (row_with app (place_of p.port) v row)) o ends) ≡ Some (with_app app v x)
    by None e h = cc
    by (Some row) e h =
        ap (λ (o : Option (List EndMarks)). option_and_then (λ row. slice_get row (place_of p.port)) o)
        (get_set ends (p.node.0 - 1) row (row_with app (place_of p.port) v row) e)
        ∙ (ap (λ (o : Option EndMarks). slice_get (option_map_or (λ e. slice_set row (place_of p.port) (with_app app v e)) o row) (place_of p.port)) h
        ∙ get_set row (place_of p.port) x (with_app app v x) h)

row_else : (app : App) (at k : ℕ) (v : EndMark) (row : List EndMarks) → at ≢ k → slice_get (row_with app at v row) k ≡ slice_get row k
row_else app at k v row ne = by (slice_get row at)
  where
    by : (o : Option EndMarks) → slice_get (option_map_or (λ e. slice_set row at (with_app app v e)) o row) k ≡ slice_get row k
    by None = refl
    by (Some e) = get_set_other row at k (with_app app v e) ne

-- the marks at a port, by the row of its node
row_in : EgressPort → Option (List EndMarks) → Option EndMarks
row_in p o = option_and_then (λ row. slice_get row (place_of p.port)) o

else_there : (app : App) (e p : EgressPort) (v : EndMark) (ends : List (List EndMarks)) (row : List EndMarks) → slice_get ends (e.node.0 - 1) ≡ Some row
    → (e.node.0 - 1 ≡ p.node.0 - 1 → place_of e.port ≢ place_of p.port) → (e.node.0 - 1 ≡ p.node.0 - 1) ⊎ (e.node.0 - 1 ≢ p.node.0 - 1)
    → end_in p (slice_set ends (e.node.0 - 1) (row_with app (place_of e.port) v row)) ≡ end_in p ends
unfolding row_in
else_there app e p v ends row is apart (inr ne) = ap (row_in p) (get_set_other ends (e.node.0 - 1) (p.node.0 - 1) (row_with app (place_of e.port) v row) ne)
else_there app e p v ends row is apart (inl same) =
    let new : List EndMarks = row_with app (place_of e.port) v row in
    let got : slice_get (slice_set ends (e.node.0 - 1) new) (p.node.0 - 1) ≡ Some new
    = subst (λ (k : ℕ). slice_get (slice_set ends (e.node.0 - 1) new) k ≡ Some new) same (get_set ends (e.node.0 - 1) row new is) in
    let was : slice_get ends (p.node.0 - 1) ≡ Some row = subst (λ (k : ℕ). slice_get ends k ≡ Some row) same is in
    ap (row_in p) got ∙ (row_else app (place_of e.port) (place_of p.port) v row (apart same) ∙ sym (ap (row_in p) was))

pub end_else : (app : App) (e p : EgressPort) (v : EndMark) (ends : List (List EndMarks)) → (e.node.0 - 1 ≡ p.node.0 - 1 → place_of e.port ≢ place_of p.port)
    → end_in p (ends_with app e v ends) ≡ end_in p ends
end_else app e p v ends apart = by (slice_get ends (e.node.0 - 1)) refl
  where
    by : (o : Option (List EndMarks)) → slice_get ends (e.node.0 - 1) ≡ o
        → end_in p (option_map_or (λ row. slice_set ends (e.node.0 - 1) (row_with app (place_of e.port) v row)) o ends) ≡ end_in p ends
    by None is = refl
    by (Some row) is = else_there app e p v ends row is apart (decide (e.node.0 - 1) (p.node.0 - 1))

-- the marks of an application in an end
app_same_there : (app : App) (v : EndMark) (x : EndMarks) → of_app app (with_app app v x) ≡ v
app_same_there Mvrp v x = refl
app_same_there Msrp v x = refl

app_other_there : (a app : App) (v : EndMark) (x : EndMarks) → is_same_app a app ≡ false → of_app a (with_app app v x) ≡ of_app a x
app_other_there Mvrp Mvrp v x h = cc
app_other_there Mvrp Msrp v x h = refl
app_other_there Msrp Mvrp v x h = refl
app_other_there Msrp Msrp v x h = cc

-- ---- one port of a tree, and another

module _ (m : MarksState) (laws : HasPortLaws m.tree) (of : IsOfTree m) where
  apart : (e p : EgressPort) → HasPort m.tree e → HasPort m.tree p → p ≢ e → e.node.0 - 1 ≡ p.node.0 - 1 → place_of e.port ≢ place_of p.port
  apart e p he hp ne same = other_place m.tree p e hp he same ne

  pub mark_same : (app : App) (e : EgressPort) (v : EndMark) → HasPort m.tree e → mark_at app e (with_mark app e v m) ≡ v
  mark_same app e v has =
      let x = of.there e has in
      ap (λ (o : Option EndMarks). option_map_or (of_app app) o no_mark) (end_same app e v m.ends x.0 x.1) ∙ app_same_there app v x.0

  pub mark_else : (a app : App) (e p : EgressPort) (v : EndMark) → HasPort m.tree e → HasPort m.tree p → p ≢ e
      → mark_at a p (with_mark app e v m) ≡ mark_at a p m
  mark_else a app e p v he hp ne =
      ap (λ (o : Option EndMarks). option_map_or (of_app a) o no_mark) (end_else app e p v m.ends (apart e p he hp ne))

  pub mark_other : (a app : App) (e p : EgressPort) (v : EndMark) → HasPort m.tree e → HasPort m.tree p → is_same_app a app ≡ false
      → mark_at a p (with_mark app e v m) ≡ mark_at a p m
  mark_other a app e p v he hp other = by (decide_port p e)
    where
      by : (p ≡ e) ⊎ (p ≢ e) → mark_at a p (with_mark app e v m) ≡ mark_at a p m
      by (inr ne) = mark_else a app e p v he hp ne
      by (inl i) =
          let x = of.there e he in
          subst (λ (r : EgressPort). mark_at a r (with_mark app e v m) ≡ mark_at a r m) (sym i)
          (ap (λ (o : Option EndMarks). option_map_or (of_app a) o no_mark) (end_same app e v m.ends x.0 x.1)
          ∙ (app_other_there a app v x.0 other
          ∙ sym (ap (λ (o : Option EndMarks). option_map_or (of_app a) o no_mark) x.1)))

  pub still_of : (app : App) (e : EgressPort) (v : EndMark) → HasPort m.tree e → IsOfTree (with_mark app e v m)
  still_of app e v he = record { there = λ p hp. by p hp (decide_port p e) }
    where
      by : (p : EgressPort) → HasPort m.tree p → (p ≡ e) ⊎ (p ≢ e) → (x : EndMarks) × (end_in p (ends_with app e v m.ends) ≡ Some x)
      by p hp (inr ne) = let x = of.there p hp in (x.0, end_else app e p v m.ends (apart e p he hp ne) ∙ x.1)
      by p hp (inl i) =
          let x = of.there e he in
          (with_app app v x.0, subst (λ (r : EgressPort). end_in r (ends_with app e v m.ends) ≡ Some (with_app app v x.0)) (sym i) (end_same app e v m.ends x.0 x.1))

-- ---- a port and its peer

module _ (m : MarksState) (laws : HasPortLaws m.tree) (of : IsOfTree m) (app : App) (e : EgressPort) (has : HasPort m.tree e) (change : BothMarks → BothMarks) where
  abbrev q : EgressPort
  q = peer_of m.tree.links e

  abbrev before : BothMarks
  before = (mark_at app e m, mark_at app q m)

  abbrev half : MarksState
  half = with_mark app e (change before).0 m

  has_q : HasPort m.tree q
  has_q = laws.peer_port e has

  ends_apart : e ≢ q
  ends_apart i = other_end m.tree laws e has (sym i)

  half_of : IsOfTree half
  half_of = still_of m laws of app e (change before).0 has

  pub both_of : IsOfTree (with_both app e change m)
  both_of = still_of half laws half_of app q (change before).1 has_q

  pub both_here : (mark_at app e (with_both app e change m), mark_at app q (with_both app e change m)) ≡ change before
  both_here =
      let near : mark_at app e (with_both app e change m) ≡ (change before).0
      = mark_else half laws half_of app app q e (change before).1 has_q has ends_apart ∙ mark_same m laws of app e (change before).0 has in
      let far : mark_at app q (with_both app e change m) ≡ (change before).1 = mark_same half laws half_of app q (change before).1 has_q in
      ap (λ (x : EndMark). (x, mark_at app q (with_both app e change m))) near ∙ ap (λ (y : EndMark). ((change before).0, y)) far

  pub both_else : (a : App) (p : EgressPort) → HasPort m.tree p → p ≢ e → p ≢ q → mark_at a p (with_both app e change m) ≡ mark_at a p m
  both_else a p hp ne nq =
      mark_else half laws half_of a app q p (change before).1 has_q hp nq ∙ mark_else m laws of a app e p (change before).0 has hp ne

  pub both_other : (a : App) (p : EgressPort) → HasPort m.tree p → is_same_app a app ≡ false → mark_at a p (with_both app e change m) ≡ mark_at a p m
  both_other a p hp other =
      mark_other half laws half_of a app q p (change before).1 has_q hp other ∙ mark_other m laws of a app e p (change before).0 has hp other

  -- of an application: what becomes of the marks of both ends
  pub both_as : (a : App) (b : Bool) → is_same_app a app ≡ b
      → (mark_at a e (with_both app e change m), mark_at a q (with_both app e change m))
      ≡ (if b then change (mark_at a e m, mark_at a q m) else (mark_at a e m, mark_at a q m))
  both_as a true own =
      subst (λ (b : App). (mark_at b e (with_both app e change m), mark_at b q (with_both app e change m)) ≡ change (mark_at b e m, mark_at b q m))
      (sym (app_is a app own)) both_here
  both_as a false other =
      ap (λ (x : EndMark). (x, mark_at a q (with_both app e change m))) (both_other a e has other)
      ∙ ap (λ (y : EndMark). (mark_at a e m, y)) (both_other a q has_q other)

-- ---- over a tree that is the marks' own

-- the marks after those of a port and of its peer in an application have become others
pub record AreChanged (tree : Topology) (m m' : MarksState) (app : App) (e : EgressPort) (change : BothMarks → BothMarks) : Type 0 where
  pub tree_is : m'.tree ≡ tree
  pub of : IsOfTree m'
  pub here : (a : App) (b : Bool) → is_same_app a app ≡ b
      → (mark_at a e m', mark_at a (peer_of tree.links e) m')
      ≡ (if b then change (mark_at a e m, mark_at a (peer_of tree.links e) m) else (mark_at a e m, mark_at a (peer_of tree.links e) m))
  pub others : (a : App) (p : EgressPort) → HasPort tree p → p ≢ e → p ≢ peer_of tree.links e → mark_at a p m' ≡ mark_at a p m

pub are_changed : (tree : Topology) (m : MarksState) → m.tree ≡ tree → IsOfTree m → (app : App) (e : EgressPort) (change : BothMarks → BothMarks)
    → HasPortLaws tree → HasPort tree e → AreChanged tree m (with_both app e change m) app e change
are_changed tree m is of app e change =
    subst (λ (t : Topology). HasPortLaws t → HasPort t e → AreChanged t m (with_both app e change m) app e change) is
    (λ laws has. record {
      tree_is = refl;
      of = both_of m laws of app e has change;
      here = both_as m laws of app e has change;
      others = both_else m laws of app e has change;
    })
