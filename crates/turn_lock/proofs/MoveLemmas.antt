-- What stays true of a lock's table when one of its seats moves.
use Rattle.std.proofs.Common.{◌≡◌, ◌≢◌, ℕ, ◌+◌, ◌%◌, ◌^◌, ◌<◌, ◌≤◌, ⊎_elim, List, [], ◌∷◌, ◌++◌, length, set, All, Bool, true, false, sym, ap, ◌∙◌, subst, arith, length-set}
use mathlib.Core.Option.{Option, some}
use lib.ListN.{get_elem?}
use Rattle.atomic_table.specs.Table.{State}
use Rattle.atomic_table.proofs.Lists.{at_set, set_else}
use Rattle.turn_lock.specs.{Kept, Known, Stage, View, Spent, Living, Log, calls_of, BeginsWith, last_state, IsHistory, tickets_at, at_home, FitsStage, HasEnded, IsTrue, IsInTurn, at_stage, having_seen}
use Rattle.turn_lock.proofs.{HistoryLemmas.calls_stay, HistoryLemmas.begins_longer, SeatLemmas.living_not_spent, SeatLemmas.same_known, SeatLemmas.tickets-set, SeatLemmas.at_below, SeatLemmas.all_ended_stay}

module _ {S Ask Answer : Type 0} (does : S → Ask → Answer × S) (start : S) (passes : ℕ) where
  -- a seat that was taken in stays where it is while the living seat at `seat` moves
  pub spent_stays : (views : List (View S Ask Answer)) (seat : ℕ) (v : Known S Ask Answer) (w : View S Ask Answer) → get_elem? views seat ≡ some (Living v)
      → (place : ℕ) → get_elem? views place ≡ some Spent → (place ≢ seat) × (get_elem? (set views seat w) place ≡ some Spent)
  spent_stays views seat v w at place there =
      let apart : place ≢ seat = λ e. living_not_spent v (sym at ∙ (subst (λ (k : ℕ). get_elem? views k ≡ some Spent) e there)) in
      (apart, set_else views seat place w apart ∙ there)

  -- what another seat knows stays so
  pub other_stays : (s : State (Kept S Ask Answer) (View S Ask Answer)) (r : IsInTurn does start passes s) (seat : ℕ) (v : Known S Ask Answer) (w : View S Ask Answer)
      → get_elem? s.views seat ≡ some (Living v) → (drawn served : ℕ) (owner : ℕ → ℕ) (out : Bool) (added history : Log Ask Answer) → r.history ++ added ≡ history
      → ((n : ℕ) → n ≢ seat + 1 → calls_of n added ≡ [])
      → (j : ℕ) (u : Known S Ask Answer) → j ≢ seat → get_elem? s.views j ≡ some (Living u) → FitsStage served drawn owner out history j u.seen u.stage
      → IsTrue start passes served drawn owner out history (set s.views seat w) j u
  other_stays s r seat v w at drawn served owner out added history eq mine j u apart there fits =
      let true_of = r.living j u there in
      let none : calls_of u.number added ≡ [] = let e = true_of.number_is in mine u.number (λ same. apart (omega arith)) in record {
        start_is = true_of.start_is;
        passes_are = true_of.passes_are;
        number_is = true_of.number_is;
        deals = λ d. true_of.deals d ∙ sym (length-set s.views seat w);
        front = subst (λ (h : Log Ask Answer). BeginsWith h u.seen) eq (begins_longer r.history u.seen added true_of.front);
        own = subst (λ (h : Log Ask Answer). calls_of u.number h ≡ calls_of u.number u.seen) eq (calls_stay u.number r.history added none ∙ true_of.own);
        ended = subst (λ (h : Log Ask Answer). All (HasEnded h (set s.views seat w)) u.ended) eq
            (all_ended_stay r.history added s.views (set s.views seat w) u.ended
            (λ place spent. let p = spent_stays s.views seat v w at place spent in let apart' = p.0 in (p.1, mine (place + 1) (λ same. apart' (omega arith)))) true_of.ended);
        stage = fits;
      }

  -- the seat goes to a stage, having seen a history, and the history grows by calls of this seat alone
  pub seat_moves : (s : State (Kept S Ask Answer) (View S Ask Answer)) (r : IsInTurn does start passes s) (seat : ℕ) (v : Known S Ask Answer) → get_elem? s.views seat ≡ some (Living v)
      → (stage : Stage) (seen : Log Ask Answer) (drawn served : ℕ) (owner : ℕ → ℕ) (out : Bool) (kept : Kept S Ask Answer) (added history : Log Ask Answer)
      → (words : List ℕ) (homes : List (Option (Kept S Ask Answer)))
      → r.history ++ added ≡ history
      → words ≡ drawn % 2 ^ 64 ∷ served % 2 ^ 64 ∷ []
      → drawn + r.served + tickets_at v.stage ≡ r.drawn + served + tickets_at stage
      → homes ≡ at_home out kept ∷ []
      → (out ≡ false → (kept.history.items ≡ history) × (kept.state ≡ last_state does start history))
      → (out ≡ true → served < drawn)
      → IsHistory does start history
      → ((n : ℕ) → n ≢ seat + 1 → calls_of n added ≡ [])
      → BeginsWith history seen
      → calls_of v.number history ≡ calls_of v.number seen
      → FitsStage served drawn owner out history seat seen stage
      → ((j : ℕ) (known : Log Ask Answer) (t : Stage) → j ≢ seat → FitsStage r.served r.drawn r.owner r.out r.history j known t → FitsStage served drawn owner out history j known t)
      → IsInTurn does start passes record { words = words; homes = homes; views = set s.views seat (Living (having_seen (at_stage v stage) seen)) }
  seat_moves s r seat v at stage seen drawn served owner out kept added history words homes eq words_are counts slot home busy legal mine front own fits others =
      let w : Known S Ask Answer = having_seen (at_stage v stage) seen in
      let true_of = r.living seat v at in
      let long = length-set s.views seat (Living w) in
      let low = at_below s.views seat (Living v) at in record {
        drawn = drawn;
        served = served;
        owner = owner;
        out = out;
        history = history;
        kept = kept;
        words = words_are;
        tickets = let a = r.tickets in let b = tickets-set s.views seat (Living v) (Living w) at in omega arith;
        few = r.few;
        dealt = subst (λ (n : ℕ). (0 < n) × (n ≤ passes)) (sym long) r.dealt;
        slot = slot;
        home = home;
        busy = busy;
        legal = legal;
        unmade = λ n past. let past' : 1 ≤ n → length s.views < n = λ one. let p = past one in omega (arith, long, p) in
            subst (λ (h : Log Ask Answer). calls_of n h ≡ []) eq
            (calls_stay n r.history added (mine n (λ same. let p : length s.views < n = past' (omega (arith, same)) in absurd (omega (arith, low, p, same)))) ∙ r.unmade n past');
        living = λ j u there. ⊎_elim
            (λ t. let same : w ≡ u = same_known w u (ap some t.1) in
            subst (λ (z : ℕ × Known S Ask Answer). IsTrue start passes served drawn owner out history (set s.views seat (Living w)) z.0 z.1) (λ i. (sym t.0 i, same i)) (record {
              start_is = true_of.start_is;
              passes_are = true_of.passes_are;
              number_is = true_of.number_is;
              deals = λ d. true_of.deals d ∙ sym long;
              front = front;
              own = own;
              ended = subst (λ (h : Log Ask Answer). All (HasEnded h (set s.views seat (Living w))) v.ended) eq
                  (all_ended_stay r.history added s.views (set s.views seat (Living w)) v.ended
                  (λ place spent. let p = spent_stays s.views seat v (Living w) at place spent in let apart' = p.0 in (p.1, mine (place + 1) (λ same'. apart' (omega arith)))) true_of.ended);
              stage = fits;
            }))
            (λ t. other_stays s r seat v (Living w) at drawn served owner out added history eq mine j u t.0 t.1 (others j u.seen u.stage t.0 (r.living j u t.1).stage))
            (at_set s.views seat j (Living w) (Living u) there);
      }
