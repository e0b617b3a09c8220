-- The turns of a node's ports that have begun and that are taken: one port more.
use Rattle.std.proofs.Common.{◌≡◌, ◌⊎◌, inl, inr, ℕ, zero, suc, ◌+◌, List, [], ◌∷◌, ◌++◌, length, sym, ap, subst, ◌∙◌}
use Rattle.std.specs.Prelude.{slice_get, Some}
use Rattle.node_core.specs.declared.types.PortStep.{PortStep}
use Rattle.turn_lock.specs.Passes.{Lock, first_passes}
use Rattle.bridge_book.specs.{Steps.Shared, Hub.Hub, Hub.PortPass}
use Rattle.port_worker.specs.{Turn, IsTurn, AreTaken}
use Rattle.port_worker.specs.Begun.{IsBegun, ArePartly}
use Rattle.port_worker.specs.declared.port_threads.Begun.{Begun}
use Rattle.port_worker.proofs.{Lists.get_push, Lists.get_middle, Lists.rest_first, TurnLemmas.IsFirst, TurnLemmas.first_at}

-- the next of a lock's first passes
pub pass_in_turn : (lock : Lock Shared) (yielded rest next all : List PortPass) (pass : PortPass) → rest ≡ pass ∷ next → yielded ++ rest ≡ all → all ≡ first_passes lock lock.passes
    → IsFirst lock lock.passes (length yielded) pass
pass_in_turn lock yielded rest next all pass first so_far are =
    first_at lock lock.passes (length yielded) pass (ap (λ (ps : List PortPass). slice_get ps (length yielded)) (sym are) ∙ rest_first yielded rest next all pass first so_far)

pub begun_more : (hub : Hub) (jobs : List (List PortStep)) (all next : List Begun) (one : Begun) (number : ℕ) (passes : List PortPass) → ArePartly hub jobs all → length all ≡ length passes
    → number ≡ length passes + 1 → IsBegun hub jobs number one → next ≡ all ++ one ∷ [] → ArePartly hub jobs next
begun_more hub jobs all next one number passes so_far count is begun push k b get =
    by (get_push all one b k (sym (ap (λ (xs : List Begun). slice_get xs k) push) ∙ get))
  where
    by : (slice_get all k ≡ Some b) ⊎ ((k ≡ length all) × (one ≡ b)) → IsBegun hub jobs (k + 1) b
    by (inl h) = so_far k b h
    by (inr h) =
        let at : number ≡ k + 1 = is ∙ ap (λ (i : ℕ). i + 1) (sym count ∙ sym h.0) in
        subst (λ (x : Begun). IsBegun hub jobs (k + 1) x) h.1 (subst (λ (i : ℕ). IsBegun hub jobs i one) at begun)

-- ---- what is taken

pub none_taken : (hub : Hub) (jobs : List (List PortStep)) (turns : List Turn) → turns ≡ [] → AreTaken hub jobs turns
none_taken hub jobs turns none k t get = let no : slice_get {X = Turn} [] k ≡ Some t = ap (λ (ts : List Turn). slice_get ts k) (sym none) ∙ get in cc

taken_more : (hub : Hub) (jobs : List (List PortStep)) (turns next : List Turn) (turn : Turn) → AreTaken hub jobs turns → turn.pass.number ≡ length turns + 1
    → IsTurn hub jobs turn → next ≡ turns ++ turn ∷ [] → AreTaken hub jobs next
taken_more hub jobs turns next turn so_far number is push k t get =
    by (get_push turns turn t k (sym (ap (λ (xs : List Turn). slice_get xs k) push) ∙ get))
  where
    by : (slice_get turns k ≡ Some t) ⊎ ((k ≡ length turns) × (turn ≡ t)) → (t.pass.number ≡ k + 1) × IsTurn hub jobs t
    by (inl h) = so_far k t h
    by (inr h) =
        let at = h.0 in
        subst (λ (x : Turn). (x.pass.number ≡ k + 1) × IsTurn hub jobs x) h.1 (number ∙ ap (λ (i : ℕ). i + 1) (sym at), is)

-- the first of a list, where one stands behind them
partly_less : (hub : Hub) (jobs : List (List PortStep)) (begun : List Begun) (one : Begun) → ArePartly hub jobs (begun ++ one ∷ []) → ArePartly hub jobs begun
partly_less hub jobs begun one are k b get = are k b (get_front begun k get)
  where
    get_front : (bs : List Begun) (k : ℕ) → slice_get bs k ≡ Some b → slice_get (bs ++ one ∷ []) k ≡ Some b
    get_front [] k e = cc
    get_front (x ∷ bs) zero e = e
    get_front (x ∷ bs) (suc k) e = get_front bs k e

pub taken_next : (begun : List Begun) (turns next : List Turn) (one : Begun) (turn : Turn) → ((hub : Hub) (jobs : List (List PortStep)) → ArePartly hub jobs begun → AreTaken hub jobs turns)
    → length turns ≡ length begun → ((hub : Hub) (jobs : List (List PortStep)) (number : ℕ) → IsBegun hub jobs number one → (turn.pass.number ≡ number) × IsTurn hub jobs turn)
    → next ≡ turns ++ turn ∷ [] → (hub : Hub) (jobs : List (List PortStep)) → ArePartly hub jobs (begun ++ one ∷ []) → AreTaken hub jobs next
taken_next begun turns next one turn so_far count here push hub jobs are =
    let last = here hub jobs (length begun + 1) (are (length begun) one (get_middle begun [] one)) in
    taken_more hub jobs turns next turn (so_far hub jobs (partly_less hub jobs begun one are)) (last.0 ∙ ap (λ (i : ℕ). i + 1) (sym count)) last.1 push
