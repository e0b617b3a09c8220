-- A way holds what an observer of it would that saw the same.
use Rattle.std.proofs.Common.{◌≡◌, ◌∙◌, suc, Bool, true, false, not, if◌then◌else◌, List, [], ◌∷◌, map, filter, refl, ap, sym, arith}
use Rattle.std.specs.Prelude.{Option, Some, None, Contains, ◌&&◌}
use Rattle.std.specs.declared.cmp.Ordering.{Ordering}
use Rattle.srp_base.specs.declared.{numbers.Cs.Cs, mrp.MrpEvent.MrpEvent}
use Rattle.mrp_participant.specs.declared.row.Row.{Row}
use Rattle.registrar.specs.declared.Registrar.{Registrar}
use Rattle.registrar.specs.declared.Registrar.TheVariants.{Held, Leaving, Empty}
use Rattle.registrar.specs.Table.{is_in}
use Rattle.mrp_participant.specs.{Lookup.find, Row.registrar_of, State.State, State.Messages, State.received_state}
use Rattle.link_replay.specs.Standing.{held_by, standing, is_standing, agrees}
use Rattle.link_replay.specs.declared.lines.End.{End}
use Rattle.link_replay.specs.declared.lines.End.TheVariants.{A, B}
use Rattle.link_replay.specs.{Observer.Sight.Comes, Observer.Sight.Goes, seen_state, other_end, WayState, all_hearing_way, hearing_way, leave_all_way, is_broken, Ways, way_of, begun_way, said_way, ways_saying, is_word_broken, doubted}

unbroken_by : (a b : Bool) → a ≡ true → (not a && b) ≡ false
unbroken_by true b h = refl
unbroken_by false b h = cc

module _ {K C : Type 0} (cmp : K → K → Ordering) where
  -- event by event
  heard-all : (at : Cs) (events : List (MrpEvent × K × C)) (way : WayState K C)
      → (all_hearing_way cmp at way events).observer ≡ received_state cmp at false events way.observer
  heard-all at [] way = refl
  heard-all at (e ∷ events) way = heard-all at events (hearing_way cmp at way e)

  said : (leave_all : Bool) (at : Cs) (events : List (MrpEvent × K × C)) (way : WayState K C)
      → (all_hearing_way cmp at (begun_way cmp at leave_all way) events).observer ≡ received_state cmp at leave_all events way.observer
  said true at events way = heard-all at events (leave_all_way cmp at way)
  said false at events way = heard-all at events way

  pub comes : (way : WayState K C) (at : Cs) (m : Messages K C) → (said_way cmp at m way).observer ≡ seen_state cmp way.observer (Comes at m)
  comes way at m = said m.leave_all at m.events way

  goes-by : (b : Bool) (at : Cs) (m : Messages K C) (way : WayState K C) → m.leave_all ≡ b
      → (begun_way cmp at b way).observer ≡ (if b then received_state cmp at true [] way.observer else way.observer)
  goes-by true at m way e = refl
  goes-by false at m way e = refl

  pub goes : (way : WayState K C) (at : Cs) (m : Messages K C) → (begun_way cmp at m.leave_all way).observer ≡ seen_state cmp way.observer (Goes at m)
  goes way at m = goes-by m.leave_all at m way refl

  -- ---- no word is broken

  in-by : (g : Registrar) (c : C) (until : Cs) → is_standing (held_by g c until) ≡ is_in g
  in-by Held c until = refl
  in-by Leaving c until = refl
  in-by Empty c until = refl

  stands : (r : Option (Row K C)) → is_standing (standing r) ≡ is_in (registrar_of r)
  stands None = refl
  stands (Some r) = in-by r.registrar r.heard r.leave

  unbroken : (way : WayState K C) (e : MrpEvent × K × C) → agrees e.0 (is_standing (standing (find cmp e.1 way.observer.rows))) ≡ true
      → is_broken cmp way e ≡ false
  unbroken way e h = unbroken_by _ _ (ap (agrees e.0) (let same = stands (find cmp e.1 way.observer.rows) in sym same) ∙ h)

-- none of some is taken where none passes a test
none : {X Y : Type 0} (f : X → Y) (test : X → Bool) (xs : List X) → ((x : X) → Contains xs x → test x ≡ false) → map f (filter test xs) ≡ []
none f test [] h = refl
none f test (x ∷ xs) h =
    let here : test x ≡ false = h x (0, omega arith, refl) in
    let rest : map f (filter test xs) ≡ [] = none f test xs (λ y c. h y (suc c.0, (let low = c.1 in omega (arith, low)), c.2)) in
    rw here rest

module _ {K C : Type 0} (cmp : K → K → Ordering) where
  -- the way of which an end speaks, once it has said a list of messages
  spoken-of : (at : Cs) (who : End) (m : Messages K C) (w : Ways K C)
      → way_of (other_end who) (ways_saying cmp at who m w) ≡ begun_way cmp at m.leave_all (way_of (other_end who) w)
  spoken-of at A m w = refl
  spoken-of at B m w = refl

  none-said : (at : Cs) (who : End) (w : Ways K C) (m : Messages K C) (s : State K C)
      → (begun_way cmp at m.leave_all (way_of (other_end who) w)).observer ≡ s
      → ((e : MrpEvent × K × C) → Contains m.events e → agrees e.0 (is_standing (standing (find cmp e.1 s.rows))) ≡ true)
      → doubted cmp (ways_saying cmp at who m w) who m.events ≡ []
  none-said at who w m s is agree =
      none (λ e. (who, e)) (is_word_broken cmp (ways_saying cmp at who m w) who) m.events (λ e c.
      unbroken cmp (way_of (other_end who) (ways_saying cmp at who m w)) e
      (ap (λ (way : WayState K C). agrees e.0 (is_standing (standing (find cmp e.1 way.observer.rows)))) (spoken-of at who m w)
      ∙ ap (λ (t : State K C). agrees e.0 (is_standing (standing (find cmp e.1 t.rows)))) is
      ∙ agree e c))

  pub none-doubted : (at : Cs) (who : End) (w : Ways K C) (leave_all : Bool) (events : List (MrpEvent × K × C)) (s : State K C)
      → (begun_way cmp at leave_all (way_of (other_end who) w)).observer ≡ s
      → ((e : MrpEvent × K × C) → Contains events e → agrees e.0 (is_standing (standing (find cmp e.1 s.rows))) ≡ true)
      → doubted cmp (ways_saying cmp at who (record { leave_all = leave_all; events = events }) w) who events ≡ []
  none-doubted at who w leave_all events s is agree = none-said at who w (record { leave_all = leave_all; events = events }) s is agree
