-- How a replay follows a run of two participants that go by ticks: what is kept from tick to tick,
-- whatever the moments to which its time goes on.
use Rattle.std.specs.Prelude.{◌≡◌, ◌≤◌, ℕ, Bool, true, List, []}
use Rattle.std.specs.{declared.cmp.Ordering.Ordering, List.AllByRecursion}
use Rattle.srp_base.specs.declared.{numbers.Cs.Cs, mrp.MrpEvent.MrpEvent}
use Rattle.attribute_propagation.specs.Dirty.{is_awaiting}
use Rattle.mrp_participant.specs.{Lookup.find, State.State, State.Messages, State.AreRows}
use Rattle.link_replay.specs.{Standing.standing, Standing.passing, Moments.cs_cmp, Way.WayState, Way.AreEndsKnown, BothWays.ways_ends_up_to, Ticks.Pair, Ticks.took, Ticks.Replayed, Ticks.arrived}

-- a way whose timers are known, as of some moment that isn't after another
pub record IsKnownUpTo {K C : Type 0} (cmp : K → K → Ordering) (at : Cs) (way : WayState K C) : Type 0 where
  pub rows : AreRows cmp way.observer.rows
  pub some : 1 ≤ way.leave_time.0
  pub time : way.observer.leave_time ≡ way.leave_time
  pub before : Cs
  pub low : before.0 ≤ at.0
  pub ends : AreEndsKnown cmp before way

-- the moments to which time goes on, for a link up to a moment: none is later, and each is there at
-- which a leave timer ends by then
pub record AreMoments {K C : Type 0} (cmp : K → K → Ordering) (at : Cs) (r : Replayed K C) (moments : List Cs) : Type 0 where
  pub low : AllByRecursion (λ m. m.0 ≤ at.0) moments
  pub each : (u : Cs) → is_awaiting cs_cmp u (ways_ends_up_to at (arrived cmp r).ways) ≡ true → is_awaiting cs_cmp u moments ≡ true

module _ {K C : Type 0} (base : ℕ) (octets : C → ℕ) (cmp : K → K → Ordering) (eq : C → C → Bool)
    (read : List (MrpEvent × K × C) → List (MrpEvent × K × C)) where
  -- A participant before a tick, with what is coming to it, beside the way on which its observer stands:
  -- once it has taken that, the observer holds of each key what its registrar holds, but for the leave
  -- timers that have fired since.
  pub record Lags (next : Cs) (own : State K C) (coming : List (Messages K C)) (way : WayState K C) : Type 0 where
    pub are_rows : AreRows cmp own.rows
    pub same_time : way.observer.leave_time ≡ own.leave_time
    pub known : IsKnownUpTo cmp next way
    pub lags : (at : Cs) → next.0 ≤ at.0 → (k : K)
        → passing at.0 (standing (find cmp k (took base octets cmp eq read next own coming).rows))
        ≡ passing at.0 (standing (find cmp k way.observer.rows))

  -- so it is of both ends before a tick, once what was said last has arrived, and no word is kept
  pub record Follows (next : Cs) (p : Pair K C) (r : Replayed K C) : Type 0 where
    pub at_a : Lags next p.a p.from_b (arrived cmp r).ways.from_b
    pub at_b : Lags next p.b p.from_a (arrived cmp r).ways.from_a
    pub none_kept : r.link.kept ≡ []
