-- The moments at which leave timers end by a moment aren't after it.
use Rattle.std.proofs.Common.{◌≡◌, ◌∙◌, ◌≤◌, Bool, true, false, if◌then◌else◌, nat_le, List, [], ◌∷◌, ◌++◌, filter, refl, sym, subst, arith}
use Rattle.std.proofs.lemmas.List.Sums.{fold-append}
use Rattle.std.specs.{declared.cmp.Ordering.Ordering, declared.cmp.Ordering.TheVariants.Less, declared.cmp.Ordering.TheVariants.Equal, declared.cmp.Ordering.TheVariants.Greater, List.AllByRecursion}
use Rattle.std.proofs.lemmas.Bool.Decides.{nat_tests}
use Rattle.srp_base.specs.declared.numbers.Cs.{Cs}
use Rattle.attribute_propagation.specs.Dirty.{with_key, all_marked, marked_at}
use Rattle.link_replay.specs.{Moments.cs_cmp, Moments.is_up_to}
use Rattle.replay_words.specs.{Watched.Watched, Watched.watched_ends}

module _ (at : Cs) where
  -- whether a moment isn't after this one
  abbrev Up : Cs → Type 0
  Up u = u.0 ≤ at.0

  at_first : (o : Ordering) (u x : Cs) (us later : List Cs) → Up u → AllByRecursion Up (x ∷ us) → AllByRecursion Up later
      → AllByRecursion Up (marked_at o u x us later)
  at_first Less u x us later up all rest = (all.0, rest)
  at_first Equal u x us later up all rest = all
  at_first Greater u x us later up all rest = (up, all)

  one_more : (u : Cs) (us : List Cs) → Up u → AllByRecursion Up us → AllByRecursion Up (with_key cs_cmp u us)
  one_more u [] up all = (up, tt)
  one_more u (x ∷ us) up all = at_first (cs_cmp x u) u x us (with_key cs_cmp u us) up all (one_more u us up all.1)

  some_more : (new us : List Cs) → AllByRecursion Up new → AllByRecursion Up us → AllByRecursion Up (all_marked cs_cmp new us)
  some_more [] us news all = all
  some_more (u ∷ new) us news all = some_more new (with_key cs_cmp u us) news.1 (one_more u us news.0 all)

  both : (us vs : List Cs) → AllByRecursion Up us → AllByRecursion Up vs → AllByRecursion Up (us ++ vs)
  both [] vs all more = more
  both (u ∷ us) vs all more = (all.0, both us vs all.1 more)

  kept_by : (b : Bool) (u : Cs) (rest : List Cs) → nat_le u.0 at.0 ≡ b → AllByRecursion Up rest → AllByRecursion Up (if b then u ∷ rest else rest)
  kept_by true u rest is all = (grind (arith, nat_tests), all)
  kept_by false u rest is all = all

  up_to : (us : List Cs) → AllByRecursion Up (filter (is_up_to at) us)
  up_to [] = tt
  up_to (u ∷ us) = kept_by (nat_le u.0 at.0) u (filter (is_up_to at) us) refl (up_to us)

  pub ends_up_to : (w : Watched) → AllByRecursion Up (watched_ends at w)
  unfolding watched_ends
  ends_up_to w =
      some_more _ [] (both _ _ (both _ _ (up_to w.vlans.ways.from_a.ends) (up_to w.vlans.ways.from_b.ends))
      (both _ _ (both _ _ (up_to w.streams.ways.from_a.ends) (up_to w.streams.ways.from_b.ends))
      (both _ _ (up_to w.groups.ways.from_a.ends) (up_to w.groups.ways.from_b.ends)))) tt

  -- so it is of a set that has them
  pub are_up_to : (w : Watched) (keys : List Cs) → keys ≡ watched_ends at w → AllByRecursion (λ u. u.0 ≤ at.0) keys
  are_up_to w keys is = subst (AllByRecursion (λ u. u.0 ≤ at.0)) (sym is) (ends_up_to w)

-- some moments put into a set behind others, and more behind them, are put there as one list
pub marked_as_one : (us vs ws keys : List Cs)
    → all_marked cs_cmp ws (all_marked cs_cmp vs (all_marked cs_cmp us keys)) ≡ all_marked cs_cmp (us ++ (vs ++ ws)) keys
marked_as_one us vs ws keys =
    sym (fold-append (λ ks k. with_key cs_cmp k ks) keys us (vs ++ ws)
    ∙ fold-append (λ ks k. with_key cs_cmp k ks) (all_marked cs_cmp us keys) vs ws)
