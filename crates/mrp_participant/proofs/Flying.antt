-- What lists of messages in flight come to: each one either doesn't look at what was held of a key, or leaves it.
use Rattle.std.proofs.Common.{◌≡◌, Bool, true, false, ◌||◌, if◌then◌else◌, List, [], ◌∷◌, ◌++◌, fold, refl, sym, ap, ◌∙◌, inl, inr}
use Rattle.std.specs.Prelude.{◌⊎◌}
use Rattle.std.specs.{declared.option.Option.Option, declared.option.Option.TheVariants.None, declared.cmp.Ordering.Ordering}
use Rattle.std.proofs.lemmas.Bool.{or_right as or-true_right, or_left as or-true_left}
use Rattle.srp_base.proofs.Bools.{or-map_right}
use Rattle.srp_base.specs.declared.mrp.MrpEvent.{MrpEvent}
use Rattle.srp_base.specs.declared.mrp.MrpEvent.TheVariants.{New, JoinIn, OnlyIn, JoinMt, OnlyMt, Lv}
use Rattle.mrp_participant.specs.{same, held_after_event, held_hearing, held_after, hears, has_leave_all, Messages}

-- ---- what leaves a value, or doesn't look at it

abbrev pub Settles : {X : Type 0} → (X → X) → Type 0
Settles {X = X} f = ((x : X) → f x ≡ x) ⊎ ((x y : X) → f x ≡ f y)

settles-then : {X : Type 0} (f g : X → X) → Settles f → Settles g → Settles (λ x. g (f x))
settles-then f g (inl i) (inl j) = inl (λ x. j (f x) ∙ i x)
settles-then f g (inl i) (inr c) = inr (λ x y. c (f x) (f y))
settles-then f g (inr c) h = inr (λ x y. ap g (c x y))

settles-twice : {X : Type 0} (f : X → X) → Settles f → (x : X) → f (f x) ≡ f x
settles-twice f (inl i) x = i (f x)
settles-twice f (inr c) x = c (f x) x

settles-at : {X : Type 0} (f : X → X) → Settles f → (x y : X) → f x ≡ y → f y ≡ y
settles-at f (inl i) x y h = i y
settles-at f (inr c) x y h = c y x ∙ h

-- ---- events, lists of messages, and lists of those

event-settles : {C : Type 0} (event : MrpEvent) (c : C) → Settles (held_after_event event c)
event-settles New c = inr (λ x y. refl)
event-settles JoinIn c = inr (λ x y. refl)
event-settles OnlyIn c = inl (λ x. refl)
event-settles JoinMt c = inr (λ x y. refl)
event-settles OnlyMt c = inl (λ x. refl)
event-settles Lv c = inr (λ x y. refl)

module _ {K C : Type 0} (cmp : K → K → Ordering) (k : K) where
  hearing-settles_by : (e : MrpEvent × K × C) (b : Bool) → Settles (λ held. if b then held_after_event e.0 e.2 held else held)
  hearing-settles_by e true = event-settles e.0 e.2
  hearing-settles_by e false = inl (λ x. refl)

  events-settle : (events : List (MrpEvent × K × C)) → Settles (λ held. fold (held_hearing cmp k) held events)
  events-settle [] = inl (λ x. refl)
  events-settle (e ∷ events) =
      settles-then (λ held. held_hearing cmp k held e) (λ held. fold (held_hearing cmp k) held events)
      (hearing-settles_by e (same cmp e.1 k)) (events-settle events)

  messages-settle_by : (events : List (MrpEvent × K × C)) (b : Bool) → Settles (λ held. fold (held_hearing cmp k) (if b then None else held) events)
  messages-settle_by events true = inr (λ x y. refl)
  messages-settle_by events false = events-settle events

  messages-settle : (m : Messages K C) → Settles (λ held. held_after cmp k held m)
  messages-settle m = messages-settle_by m.events m.leave_all

  flying-settles : (flying : List (Messages K C)) → Settles (λ held. hears cmp k held flying)
  flying-settles [] = inl (λ x. refl)
  flying-settles (m ∷ flying) = settles-then (λ held. held_after cmp k held m) (λ held. hears cmp k held flying) (messages-settle m) (flying-settles flying)

  -- where nothing will be held, nothing will be held from nothing
  pub nothing-stays : (held : Option C) (flying : List (Messages K C)) → hears cmp k held flying ≡ None → hears cmp k None flying ≡ None
  nothing-stays held flying h = settles-at (λ held. hears cmp k held flying) (flying-settles flying) held None h

  pub hears-append : (held : Option C) (front back : List (Messages K C)) → hears cmp k held (front ++ back) ≡ hears cmp k (hears cmp k held front) back
  hears-append held [] back = refl
  hears-append held (m ∷ front) back = hears-append (held_after cmp k held m) front back

  -- a repeat in place changes nothing of what will be held
  pub hears-twice : (held : Option C) (front back : List (Messages K C)) (m : Messages K C)
      → hears cmp k held (front ++ (m ∷ back)) ≡ hears cmp k held (front ++ (m ∷ (m ∷ back)))
  hears-twice held [] back m = ap (λ x. hears cmp k x back) (sym (settles-twice (λ held. held_after cmp k held m) (messages-settle m) held))
  hears-twice held (x ∷ front) back m = hears-twice (held_after cmp k held x) front back m

  -- nor does a list of messages that says nothing
  pub hears-nothing : (held : Option C) (front back : List (Messages K C))
      → hears cmp k held (front ++ (record { leave_all = false; events = [] } ∷ back))
      ≡ hears cmp k held (front ++ back)
  hears-nothing held [] back = refl
  hears-nothing held (x ∷ front) back = hears-nothing (held_after cmp k held x) front back

-- ---- whether a LeaveAll is in flight

or-same_right : (a b b' : Bool) → b ≡ b' → (a || b) ≡ (a || b')
or-same_right a b b' e = ap (λ x. a || x) e

or-twice : (a b : Bool) → (a || b) ≡ (a || (a || b))
or-twice true b = refl
or-twice false b = refl

module _ {K C : Type 0} where
  -- one more list of messages takes no LeaveAll away
  pub leave_all-stays : (front : List (Messages K C)) (m : Messages K C) → has_leave_all front ≡ true → has_leave_all (front ++ (m ∷ [])) ≡ true
  leave_all-stays [] m h = cc
  leave_all-stays (x ∷ front) m h = or-map_right x.leave_all (has_leave_all front) (has_leave_all (front ++ (m ∷ []))) (leave_all-stays front m) h

  pub leave_all-added : (front : List (Messages K C)) (m : Messages K C) → m.leave_all ≡ true → has_leave_all (front ++ (m ∷ [])) ≡ true
  leave_all-added [] m h = or-true_left m.leave_all false h
  leave_all-added (x ∷ front) m h = or-true_right x.leave_all (has_leave_all (front ++ (m ∷ []))) (leave_all-added front m h)

  pub leave_all-twice : (front back : List (Messages K C)) (m : Messages K C) → has_leave_all (front ++ (m ∷ back)) ≡ has_leave_all (front ++ (m ∷ (m ∷ back)))
  leave_all-twice [] back m = or-twice m.leave_all (has_leave_all back)
  leave_all-twice (x ∷ front) back m = or-same_right x.leave_all _ _ (leave_all-twice front back m)

  pub leave_all-nothing : (front back : List (Messages K C))
      → has_leave_all (front ++ (record { leave_all = false; events = [] } ∷ back)) ≡ has_leave_all (front ++ back)
  leave_all-nothing [] back = refl
  leave_all-nothing (x ∷ front) back = or-same_right x.leave_all _ _ (leave_all-nothing front back)
