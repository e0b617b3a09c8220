-- Facts on the seats of a table: their tickets, what stays true of the others when one moves.
use Rattle.std.proofs.Common.{◌≡◌, ℕ, zero, suc, ◌+◌, ◌*◌, ◌/◌, ◌%◌, ◌^◌, ◌<◌, ◌≤◌, List, [], ◌∷◌, ◌++◌, length, set, All, sym, ap, ◌∙◌, subst, arith, get_or, div-add-mod'}
use Rattle.std.proofs.Math.Nat.{mul-add-mod_self_right}
use mathlib.Core.Option.{some, some-injective, some-ne-none}
use lib.ListN.{get_elem?}
use Rattle.atomic_table.proofs.Lists.{one_turn}
use Rattle.turn_lock.specs.{Known, Stage, Idle, Waits, Holds, View, Spent, Living, Log, calls_of, tickets_at, tickets_of, ticket_count, HasEnded}
use Rattle.turn_lock.proofs.HistoryLemmas.{calls_stay, begins_longer}

pub next_mod : (a n : ℕ) → (a % n + 1) % n ≡ (a + 1) % n
next_mod a n = let e : a / n * n + (a % n + 1) ≡ a + 1 = omega (arith, div-add-mod' a n) in sym (mul-add-mod_self_right (a / n) n (a % n + 1)) ∙ ap (λ (x : ℕ). x % n) e

few_at : (stage : Stage) → tickets_at stage ≤ 1
few_at Idle = omega arith
few_at (Waits t) = omega arith
few_at (Holds t) = omega arith

pub at_below : {A : Type 0} (views : List A) (seat : ℕ) (v : A) → get_elem? views seat ≡ some v → seat < length views
at_below [] seat v at = absurd (some-ne-none v (sym at))
at_below (view ∷ views) zero v at = omega arith
at_below (view ∷ views) (suc seat) v at = omega (arith, at_below views seat v at)

-- a ticket that is out and has the remainder of the served one is the served one
pub one_ticket : (served drawn t count : ℕ) → served ≤ t → t < drawn → drawn ≡ served + count → count < 2 ^ 32 → served % 2 ^ 64 ≡ t % 2 ^ 64 → t ≡ served
one_ticket served drawn t count low high all few same = sym (one_turn served t (2 ^ 64) low (omega arith) same)

module _ {S Ask Answer : Type 0} where
  abbrev IsLiving : View S Ask Answer → Type 0
  IsLiving Spent = ⊥
  IsLiving (Living known) = Unit {0}

  pub living_not_spent : (known : Known S Ask Answer) → some (Living known) ≡ some Spent → ⊥
  living_not_spent known e = subst IsLiving (some-injective (Living known) Spent e) tt

  abbrev pub known_or : Known S Ask Answer → View S Ask Answer → Known S Ask Answer
  known_or d Spent = d
  known_or d (Living known) = known

  pub same_known : (known other : Known S Ask Answer) → some (Living known) ≡ some (Living other) → known ≡ other
  same_known known other e = ap (known_or known) (some-injective (Living known) (Living other) e)

  few_of : (view : View S Ask Answer) → tickets_of view ≤ 1
  few_of Spent = omega arith
  few_of (Living known) = few_at known.stage

  pub few_tickets : (views : List (View S Ask Answer)) → ticket_count views ≤ length views
  few_tickets [] = omega arith
  few_tickets (view ∷ views) = omega (arith, few_of view, few_tickets views)

  pub tickets-set : (views : List (View S Ask Answer)) (seat : ℕ) (v w : View S Ask Answer) → get_elem? views seat ≡ some v
      → ticket_count (set views seat w) + tickets_of v ≡ ticket_count views + tickets_of w
  tickets-set [] seat v w at = absurd (some-ne-none v (sym at))
  tickets-set (view ∷ views) zero v w at = let e : tickets_of view ≡ tickets_of v = ap tickets_of (some-injective view v at) in omega (arith, e)
  tickets-set (view ∷ views) (suc seat) v w at = omega (arith, tickets-set views seat v w at)

  pub tickets-append : (views : List (View S Ask Answer)) (w : View S Ask Answer) → ticket_count (views ++ w ∷ []) ≡ ticket_count views + tickets_of w
  tickets-append [] w = omega arith
  tickets-append (view ∷ views) w = omega (arith, tickets-append views w)

  -- a seat that was taken in stays so while the history grows by calls of others
  pub ended_stays : (history added : Log Ask Answer) (views views' : List (View S Ask Answer)) (pass : ℕ × Log Ask Answer)
      → ((place : ℕ) → get_elem? views place ≡ some Spent → (get_elem? views' place ≡ some Spent) × (calls_of (place + 1) added ≡ []))
      → HasEnded history views pass → HasEnded (history ++ added) views' pass
  ended_stays history added views views' pass stay h =
      let place = h.2.0 in
      let there = stay place h.2.2 in
      let none : calls_of pass.0 added ≡ [] = subst (λ (n : ℕ). calls_of n added ≡ []) (sym h.2.1) there.1 in
      (begins_longer history pass.1 added h.0, calls_stay pass.0 history added none ∙ h.1, (place, h.2.1, there.0))

  pub all_ended_stay : (history added : Log Ask Answer) (views views' : List (View S Ask Answer)) (passes : List (ℕ × Log Ask Answer))
      → ((place : ℕ) → get_elem? views place ≡ some Spent → (get_elem? views' place ≡ some Spent) × (calls_of (place + 1) added ≡ []))
      → All (HasEnded history views) passes → All (HasEnded (history ++ added) views') passes
  all_ended_stay history added views views' passes stay all k d below = ended_stays history added views views' (get_or passes k d) stay (all k d below)
