-- What receiving and the timers tell is no more than what happens: each key that is told had an event, and no two are one.
use Rattle.std.proofs.Common.{◌≡◌, ◌≤◌, suc, Bool, true, false, if◌then◌else◌, List, [], ◌∷◌, map, filter, fold, length, refl, ap, ◌∙◌, arith, option_map}
use Rattle.std.specs.Prelude.{Contains}
use Rattle.std.specs.{declared.option.Option.Option, declared.option.Option.TheVariants.None, declared.option.Option.TheVariants.Some, declared.cmp.Ordering.Ordering, declared.cmp.Ordering.TheVariants.Less, declared.cmp.Ordering.TheVariants.Equal, Ordering.is_eq, Cmp.IsTotalOrder, Cmp.IsEquivalence, List.AllByRecursion, List.list_any}
use Rattle.srp_base.proofs.Lists.{each-contained}
use Rattle.registrar.specs.declared.Registrar.{Registrar}
use Rattle.registrar.specs.declared.Registrar.TheVariants.{Held, Leaving, Empty}
use Rattle.srp_base.specs.declared.{numbers.Cs.Cs, mrp.MrpEvent.MrpEvent}
use Rattle.mrp_participant.specs.declared.row.Row.{Row}
use Rattle.mrp_participant.specs.{Ascends, key_of, same, find, leave_all_row, registered_in, row_hearing, AreRows, changed_keys, rows_after_receive}
use Rattle.mrp_participant.proofs.{Changes.told-are_changes, Changes.told-ascend, EachKey.each-receive, Lookups.same_is, Transitions.AreRows-receive}

-- ---- lists

pub filter-fewer : {X Y : Type 0} (p : X → Bool) (f : X → Y) (xs : List X) → length (map f (filter p xs)) ≤ length xs
filter-fewer p f [] = omega arith
filter-fewer p f (x ∷ xs) = grind (arith, filter-fewer p f xs)

-- a list without the first element that passes a test
abbrev without_first : {X : Type 0} → (X → Bool) → List X → List X
without_first p [] = []
without_first p (x ∷ xs) = if p x then xs else x ∷ without_first p xs

one_fewer : {X : Type 0} (p : X → Bool) (xs : List X) → list_any p xs ≡ true → length xs ≡ suc (length (without_first p xs))
one_fewer p [] h = cc
one_fewer p (x ∷ xs) h = grind (arith, one_fewer p xs)

-- another test still finds what it found
still_any : {X : Type 0} (p q : X → Bool) → ((x : X) → p x ≡ true → q x ≡ false) → (xs : List X) → list_any q xs ≡ true → list_any q (without_first p xs) ≡ true
still_any p q apart [] h = cc
still_any p q apart (x ∷ xs) h = grind (arith, still_any p q apart xs)

module _ {K C : Type 0} {cmp : K → K → Ordering} (o : IsTotalOrder cmp) (one_key : (a b : K) → cmp a b ≡ Equal → a ≡ b) where
  -- whether there is an event of a key
  abbrev is_heard : List (MrpEvent × K × C) → K → Bool
  is_heard events k = list_any (λ e. same cmp e.1 k) events

  -- distinct keys with an event each are no more than the events
  as_many_events : (keys : List K) (events : List (MrpEvent × K × C)) → Ascends cmp (λ k. k) keys
      → AllByRecursion (λ k. is_heard events k ≡ true) keys → length keys ≤ length events
  as_many_events [] events up heard = omega arith
  as_many_events (k ∷ keys) events up heard =
      let p : MrpEvent × K × C → Bool = λ e. same cmp e.1 k in
      let fewer : length events ≡ suc (length (without_first p events)) = one_fewer p events heard.0 in
      let rest : length keys ≤ length (without_first p events) = as_many_events keys (without_first p events) up.1 (others keys up.0 heard.1) in
      omega (arith, fewer, rest)
    where
      apart : (q : K) → cmp k q ≡ Less → (e : MrpEvent × K × C) → same cmp e.1 k ≡ true → same cmp e.1 q ≡ false
      apart q less e is = ap (λ x. same cmp x q) (one_key e.1 k (same_is cmp e.1 k is)) ∙ ap is_eq less

      others : (qs : List K) → AllByRecursion (λ q. cmp k q ≡ Less) qs → AllByRecursion (λ q. is_heard events q ≡ true) qs
          → AllByRecursion (λ q. is_heard (without_first (λ e. same cmp e.1 k) events) q ≡ true) qs
      others [] less h = tt
      others (q ∷ qs) less h =
          (still_any (λ e. same cmp e.1 k) (λ e. same cmp e.1 q) (apart q less.0) events h.0, others qs less.1 h.1)

  -- without an event of its own a key's row hears nothing
  unheard : (leave : Cs) (k : K) (events : List (MrpEvent × K × C)) (r : Option (Row K C)) → is_heard events k ≡ false → fold (row_hearing cmp leave k) r events ≡ r
  unheard leave k [] r h = refl
  unheard leave k (e ∷ events) r h = grind (arith, unheard leave k events)

  -- LeaveAll changes no registration
  leave_all_registered : (leave : Cs) (r : Row K C) (was : Registrar) → r.registrar ≡ was → registered_in (Some (leave_all_row leave r)) ≡ registered_in (Some r)
  leave_all_registered leave r Held is = rw is refl
  leave_all_registered leave r Leaving is = rw is refl
  leave_all_registered leave r Empty is = rw is refl

  begun_registered : (leave : Cs) (leave_all : Bool) (r : Option (Row K C)) → registered_in (if leave_all then option_map (leave_all_row leave) r else r) ≡ registered_in r
  begun_registered leave true None = refl
  begun_registered leave true (Some r) = leave_all_registered leave r r.registrar refl
  begun_registered leave false r = refl

  -- a key that is told had an event
  told_heard : (eq : C → C → Bool) → IsEquivalence eq → (leave : Cs) (leave_all : Bool) (events : List (MrpEvent × K × C)) (old : List (Row K C)) → AreRows cmp old
      → (k : K) → Contains (changed_keys cmp eq old (rows_after_receive cmp leave leave_all events old)) k → is_heard events k ≡ true
  told_heard eq laws leave leave_all events old are k at = by (is_heard events k) refl
    where
      new : List (Row K C)
      new = rows_after_receive cmp leave leave_all events old

      by : (b : Bool) → is_heard events k ≡ b → b ≡ true
      by true h = refl
      by false h = absurd (told-are_changes o eq one_key laws old (rows_after_receive cmp leave leave_all events old)
          (AreRows-receive o leave leave_all events old are).0 k at
          (ap registered_in (each-receive o leave leave_all events old are k
          ∙ unheard leave k events (if leave_all then option_map (leave_all_row leave) (find cmp k old) else find cmp k old) h)
          ∙ begun_registered leave leave_all (find cmp k old)))

  pub told_few : (eq : C → C → Bool) → IsEquivalence eq → (leave : Cs) (leave_all : Bool) (events : List (MrpEvent × K × C)) (old : List (Row K C)) → AreRows cmp old
      → length (changed_keys cmp eq old (rows_after_receive cmp leave leave_all events old)) ≤ length events
  told_few eq laws leave leave_all events old are =
      as_many_events (changed_keys cmp eq old (rows_after_receive cmp leave leave_all events old)) events
      (told-ascend cmp key_of _ (rows_after_receive cmp leave leave_all events old) (AreRows-receive o leave leave_all events old are).0)
      (each-contained _ _ (told_heard eq laws leave leave_all events old are))
