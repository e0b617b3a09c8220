-- Two participants at the ends of a link that go by ticks, as a network of this project does, beside
-- what is told of the link from their PDUs: in a tick each end takes what the other sent in the one
-- before, its timers fire, and it sends, or waits for a later tick, as for the next of those in which
-- it sends (IEEE Std 802.1Q-2018, 10.7). Ticks are this project's. What goes over the link is what is
-- read there of the events that an end writes: `read` says it of them.
use Rattle.std.specs.Prelude.{◌≡◌, ◌⊎◌, ℕ, ◌+◌, ◌&&◌, ◌||◌, not, Bool, if◌then◌else◌, List, [], ◌∷◌, ◌++◌, map, fold, Contains}
use Rattle.std.specs.declared.cmp.Ordering.{Ordering}
use Rattle.srp_base.specs.declared.{numbers.Cs.Cs, mrp.MrpEvent.MrpEvent}
use Rattle.attribute_propagation.specs.Dirty.{all_marked}
use Rattle.mrp_participant.specs.State.{State, Messages, AreRows, new_state, declared_state, withdrawn_state, received_state, due_state, is_active, is_silent, sent_events, sent_state}
use Rattle.link_replay.specs.declared.lines.End.{End}
use Rattle.link_replay.specs.declared.lines.End.TheVariants.{A, B}
use Rattle.link_replay.specs.{Moments.cs_cmp, Watch.IsObserved, BothWays.ways_ends_up_to, LinkWatch.LinkState, LinkWatch.unseen_link, LinkWatch.link_saying, LinkWatch.link_arriving, LinkWatch.link_judged, LinkWatch.link_passing, LinkWatch.link_broken}

-- what the user of a participant asks for
pub data Ask (K C : Type 0) : Type 0 where
  Declares : K → C → Ask K C
  Withdraws : K → Ask K C

-- what the user at an end asks for in a tick, before the end takes what came in, and before it sends;
-- and whether it sends in that tick
pub record Asks (K C : Type 0) : Type 0 where
  pub first : List (Ask K C)
  pub later : List (Ask K C)
  pub sends : Bool

-- a tick: its moment, and what is asked for at both ends, of which each sends in it or waits
pub record Tick (K C : Type 0) : Type 0 where
  pub at : Cs
  pub asks_a : Asks K C
  pub asks_b : Asks K C

-- the participants at the ends, and what each sent in the tick before
pub record Pair (K C : Type 0) : Type 0 where
  pub a : State K C
  pub b : State K C
  pub from_a : List (Messages K C)
  pub from_b : List (Messages K C)

-- two new participants, each with its period of LeaveAll and whether it is periodic; leave timers last
-- as long at both
abbrev pub new_pair : {K C : Type 0} → Cs → (a b : Cs × Bool) → Pair K C
new_pair leave_time a b =
    record { a = new_state a.0 leave_time a.1; b = new_state b.0 leave_time b.1; from_a = []; from_b = [] }

-- two participants that have said and heard nothing yet, whenever LeaveAll and the periodic event are
-- due; leave timers last as long at both
pub record AreFresh {K C : Type 0} (leave_time : Cs) (p : Pair K C) : Type 0 where
  pub a_rows : p.a.rows ≡ []
  pub b_rows : p.b.rows ≡ []
  pub a_time : p.a.leave_time ≡ leave_time
  pub b_time : p.b.leave_time ≡ leave_time
  pub from_a : p.from_a ≡ []
  pub from_b : p.from_b ≡ []

-- ---- in which order

-- a list is two others, one behind the other: either may come first
abbrev pub IsInEitherOrder : {X : Type 0} → (one other all : List X) → Type 0
IsInEitherOrder one other all = (all ≡ one ++ other) ⊎ (all ≡ other ++ one)

-- ---- what is read of what is written

-- what is read has no event that wasn't written
abbrev pub ReadsWhatIsWritten : {K C : Type 0} → (List (MrpEvent × K × C) → List (MrpEvent × K × C)) → Type 0
ReadsWhatIsWritten {K = K} {C = C} read =
    (events : List (MrpEvent × K × C)) (e : MrpEvent × K × C) → Contains (read events) e → Contains events e

-- ---- a tick at an end

module _ {K C : Type 0} (base : ℕ) (octets : C → ℕ) (cmp : K → K → Ordering) (eq : C → C → Bool)
    (read : List (MrpEvent × K × C) → List (MrpEvent × K × C)) where
  -- a participant after something is asked for
  abbrev pub asked : State K C → Ask K C → State K C
  asked s (Declares k c) = declared_state cmp eq k c s
  asked s (Withdraws k) = withdrawn_state cmp k s

  -- after some lists of messages came in, in order
  abbrev pub took : Cs → State K C → List (Messages K C) → State K C
  took at s coming = fold (λ s m. received_state cmp at m.leave_all m.events s) s coming

  -- when it comes to send
  abbrev pub ready : Cs → Asks K C → List (Messages K C) → State K C → State K C
  ready at asks coming s = fold asked (due_state at (took at (fold asked s asks.first) coming)) asks.later

  -- what is read of the list of messages that it sends
  abbrev pub sent_read : Cs → State K C → Messages K C
  sent_read at s = record { leave_all = is_active s.leave_all; events = read (sent_events base octets cmp at s) }

  -- whether it says nothing: it doesn't send, or has nothing to say
  abbrev pub says_nothing : (sends : Bool) → State K C → Bool
  says_nothing sends s = not sends || is_silent s

  -- what it sends then: one list of messages, where it sends and there is something to say
  abbrev pub sent_in_tick : Cs → (sends : Bool) → State K C → List (Messages K C)
  sent_in_tick at sends s = if says_nothing sends s then [] else sent_read at s ∷ []

  -- after it
  abbrev pub after_tick : Cs → (sends : Bool) → State K C → State K C
  after_tick at sends s = if says_nothing sends s then s else sent_state base octets cmp at s

  -- ---- a tick of both ends, and what is told of it

  -- the end a when it comes to send, and the end b
  abbrev pub ready_a : Tick K C → Pair K C → State K C
  ready_a t p = ready t.at t.asks_a p.from_b p.a

  abbrev pub ready_b : Tick K C → Pair K C → State K C
  ready_b t p = ready t.at t.asks_b p.from_a p.b

  -- what the end a sends in a tick, at most one PDU, and the end b
  abbrev pub sent_by_a : Tick K C → Pair K C → List (End × Messages K C)
  sent_by_a t p = map (λ m. (A, m)) (sent_in_tick t.at t.asks_a.sends (ready_a t p))

  abbrev pub sent_by_b : Tick K C → Pair K C → List (End × Messages K C)
  sent_by_b t p = map (λ m. (B, m)) (sent_in_tick t.at t.asks_b.sends (ready_b t p))

  -- this is what both send in it, either first
  abbrev pub IsSentByBoth : Tick K C → Pair K C → List (End × Messages K C) → Type 0
  IsSentByBoth t p sent = IsInEitherOrder (sent_by_a t p) (sent_by_b t p) sent

  -- both ends after a tick
  abbrev pub pair_after : Pair K C → Tick K C → Pair K C
  pair_after p t =
      record {
        a = after_tick t.at t.asks_a.sends (ready_a t p);
        b = after_tick t.at t.asks_b.sends (ready_b t p);
        from_a = sent_in_tick t.at t.asks_a.sends (ready_a t p);
        from_b = sent_in_tick t.at t.asks_b.sends (ready_b t p);
      }

  -- a link, from its PDUs, when it comes to a tick: what was said in the one before has arrived, the
  -- words are judged, and the leave timers have fired
  abbrev pub told_ready : Cs → LinkState K C → LinkState K C
  told_ready at l = link_passing at (link_judged (link_arriving cmp at l))

  -- after an end says some lists of messages
  abbrev pub all_saying : Cs → End → LinkState K C → List (Messages K C) → LinkState K C
  all_saying at who l sent = fold (λ l m. link_saying cmp at who m l) l sent

  -- after a tick
  abbrev pub told_after : Pair K C → LinkState K C → Tick K C → LinkState K C
  told_after p l t =
      all_saying t.at B (all_saying t.at A (told_ready t.at l) (sent_in_tick t.at t.asks_a.sends (ready_a t p)))
      (sent_in_tick t.at t.asks_b.sends (ready_b t p))

  -- ---- runs

  -- both ends, and what is told, after some ticks
  abbrev pub run_after : Pair K C × LinkState K C → List (Tick K C) → Pair K C × LinkState K C
  run_after x ticks = fold (λ x t. (pair_after x.0 t, told_after x.0 x.1 t)) x ticks

  -- how many words are told as broken in them
  abbrev pub run_broken : Pair K C × LinkState K C → List (Tick K C) → ℕ
  run_broken x [] = 0
  run_broken x (t ∷ ticks) =
      link_broken cmp (link_arriving cmp t.at x.1) + run_broken (pair_after x.0 t, told_after x.0 x.1 t) ticks

-- The observers hold what the registrars hold; what each end sent in the last tick is on its way; and
-- no word disagreed with the observer of the end that said it.
pub record IsTold {K C : Type 0} (cmp : K → K → Ordering) (x : Pair K C × LinkState K C) : Type 0 where
  pub a_rows : AreRows cmp x.0.a.rows
  pub b_rows : AreRows cmp x.0.b.rows
  pub a : IsObserved cmp x.1.ways.from_b.observer x.0.a
  pub b : IsObserved cmp x.1.ways.from_a.observer x.0.b
  pub on_way : x.1.on_way ≡ map (λ m. (A, m)) x.0.from_a ++ map (λ m. (B, m)) x.0.from_b
  pub kept : x.1.kept ≡ []

-- ---- as a replay has it, which sees those ticks alone in which something is said

-- a link, from its PDUs, and the moment of the last of them
pub record Replayed (K C : Type 0) : Type 0 where
  pub upto : Cs
  pub link : LinkState K C

-- no PDU was seen yet
abbrev pub unseen : {K C : Type 0} → Cs → Replayed K C
unseen leave_time = record { upto = record { 0 = 0 }; link = unseen_link leave_time }

module _ {K C : Type 0} (cmp : K → K → Ordering) where
  -- the leave timers fire that end at some moments, in order
  abbrev pub all_passing : LinkState K C → List Cs → LinkState K C
  all_passing l moments = fold (λ l u. link_passing u l) l moments

  -- what was said last is with the other end at the next moment
  abbrev pub arrived : Replayed K C → LinkState K C
  arrived r = link_arriving cmp (record { 0 = r.upto.0 + 1 }) r.link

  -- time goes on: that, the words are judged, and the leave timers fire, each at one of these moments
  abbrev pub going_by : List Cs → Replayed K C → LinkState K C
  going_by moments r = all_passing (link_judged (arrived r)) moments

  -- the moments up to one at which they end, each once
  abbrev pub moments_to : Cs → Replayed K C → List Cs
  moments_to at r = all_marked cs_cmp (ways_ends_up_to at (arrived r).ways) []

  -- after the ends say something, in order
  abbrev pub both_saying : Cs → LinkState K C → List (End × Messages K C) → LinkState K C
  both_saying at l said = fold (λ l x. link_saying cmp at x.0 x.1 l) l said

  -- after a moment to which time goes on by some others, and at which this is said
  abbrev pub said_at : Cs → List Cs → List (End × Messages K C) → Replayed K C → Replayed K C
  said_at at moments said r = record { upto = at; link = both_saying at (going_by moments r) said }

  -- how many words are judged as broken when time goes on from the last PDU, of which there is one more
  -- or the capture's end
  abbrev pub broken_then : Replayed K C → ℕ
  broken_then r = link_broken cmp (arrived r)

module _ {K C : Type 0} (base : ℕ) (octets : C → ℕ) (cmp : K → K → Ordering) (eq : C → C → Bool)
    (read : List (MrpEvent × K × C) → List (MrpEvent × K × C)) where
  -- whether neither end says anything in a tick
  abbrev pub is_quiet : Tick K C → Pair K C → Bool
  is_quiet t p =
      says_nothing base octets cmp eq read t.asks_a.sends (ready_a base octets cmp eq read t p)
      && says_nothing base octets cmp eq read t.asks_b.sends (ready_b base octets cmp eq read t p)

  -- after a tick in which something is said
  abbrev pub said_after : Pair K C → Replayed K C → Tick K C → Replayed K C
  said_after p r t =
      said_at cmp t.at (moments_to cmp t.at r) (sent_by_a base octets cmp eq read t p ++ sent_by_b base octets cmp eq read t p) r

  -- after a tick
  abbrev pub replayed_after : Pair K C → Replayed K C → Tick K C → Replayed K C
  replayed_after p r t = if is_quiet t p then r else said_after p r t

  -- how many words a replay tells as broken, of some ticks and of the capture's end
  abbrev pub replay_broken : Pair K C × Replayed K C → List (Tick K C) → ℕ
  replay_broken x [] = broken_then cmp x.1
  replay_broken x (t ∷ ticks) =
      (if is_quiet t x.0 then 0 else broken_then cmp x.1)
      + replay_broken (pair_after base octets cmp eq read x.0 t, replayed_after x.0 x.1 t) ticks

-- the moment after one, in cs
abbrev pub next_moment : Cs → Cs
next_moment at = record { 0 = at.0 + 1 }

-- the ticks come one by one, and the first is at this moment
abbrev pub AreTicksFrom : {K C : Type 0} → Cs → List (Tick K C) → Type 0
AreTicksFrom at [] = Unit {0}
AreTicksFrom at (t ∷ ticks) = (t.at ≡ at) × AreTicksFrom (next_moment at) ticks
