-- The turns of a node's ports: one job more, and the passes that a hub begins with.
use Rattle.std.proofs.Common.{◌≡◌, ◌⊎◌, inl, inr, ℕ, zero, suc, ◌+◌, ◌<◌, List, [], ◌∷◌, ◌++◌, length, map, take, get_or, refl, sym, ap, subst, ◌∙◌, arith}
use Rattle.std.specs.Prelude.{slice_get, Some}
use Rattle.std.proofs.Math.Seq.{take-suc}
use Rattle.std.proofs.lemmas.List.{map-append, length-append}
use Rattle.node_core.specs.declared.types.PortStep.{PortStep}
use Rattle.turn_lock.specs.Passes.{Lock, first_passes}
use Rattle.bridge_book.specs.declared.shared.PortAsk.{PortAsk}
use Rattle.bridge_book.specs.{Steps.Shared, Hub.Hub, Hub.PortPass}
use Rattle.port_worker.specs.{asks_of, IsDone, AreDone}
use Rattle.port_worker.proofs.Lists.{get_push}

-- a pass that has asked for one job more has asked for the first jobs up to there
pub asked_more : (n : ℕ) (steps : List PortStep) (i : ℕ) (step : PortStep) (before after : List PortAsk) → i < length steps → step ≡ get_or steps i step
    → before ≡ asks_of n (take i steps) → after ≡ before ++ record { port = record { 0 = n }; step = step } ∷ [] → after ≡ asks_of n (take (i + 1) steps)
asked_more n steps i step before after lt here so_far more =
    let f : PortStep → PortAsk = λ s. record { port = record { 0 = n }; step = s } in
    let next : suc i ≡ i + 1 = omega arith in
    more
    ∙ (ap (λ xs. xs ++ f step ∷ []) so_far
    ∙ (ap (λ s. map f (take i steps) ++ f s ∷ []) here
    ∙ (sym (map-append f (take i steps) (get_or steps i step ∷ []))
    ∙ (ap (map f) (sym (take-suc steps i step lt)) ∙ ap (λ (k : ℕ). map f (take k steps)) next))))

pub first_count : (lock : Lock Shared) (n : ℕ) → length {A = PortPass} (first_passes lock n) ≡ n
first_count lock zero = refl
first_count lock (suc n) =
    let one : n + 1 ≡ suc n = omega arith in
    length-append {A = PortPass} (first_passes lock n) (record { lock = lock; number = n + 1; seen = [] } ∷ []) ∙ (ap (λ (k : ℕ). k + 1) (first_count lock n) ∙ one)

-- the pass at a place of those that a lock begins with
pub record IsFirst (lock : Lock Shared) (n k : ℕ) (pass : PortPass) : Type 0 where
  pub few : k < n
  pub lock_is : pass.lock ≡ lock
  pub number : pass.number ≡ k + 1
  pub new : pass.seen ≡ []

pub first_at : (lock : Lock Shared) (n k : ℕ) (pass : PortPass) → slice_get (first_passes lock n) k ≡ Some pass → IsFirst lock n k pass
first_at lock zero k pass e = cc
first_at lock (suc n) k pass e =
    by (λ h. first_at lock n k pass h) (get_push {X = PortPass} (first_passes lock n) (record { lock = lock; number = n + 1; seen = [] }) pass k e)
  where
    by : (slice_get (first_passes lock n) k ≡ Some pass → IsFirst lock n k pass)
        → (slice_get (first_passes lock n) k ≡ Some pass) ⊎ ((k ≡ length {A = PortPass} (first_passes lock n)) × (record { lock = lock; number = n + 1; seen = [] } ≡ pass))
        → IsFirst lock (suc n) k pass
    by rec (inl h) = let there = rec h in let few = there.few in record { few = omega (arith, few); lock_is = there.lock_is; number = there.number; new = there.new }
    by rec (inr h) =
        let count = first_count lock n in
        let at : k ≡ n = h.0 ∙ count in
        record {
          few = omega (arith, at);
          lock_is = sym (ap (λ (p : PortPass). p.lock) h.1);
          number = sym (ap (λ (p : PortPass). p.number) h.1) ∙ ap (λ (i : ℕ). i + 1) (sym at);
          new = sym (ap (λ (p : PortPass). p.seen) h.1);
        }

-- one pass more that has done its jobs
pub done_more : (hub : Hub) (jobs : List (List PortStep)) (passes next : List PortPass) (pass : PortPass) → AreDone hub jobs passes → pass.number ≡ length passes + 1
    → IsDone hub jobs pass → next ≡ passes ++ pass ∷ [] → AreDone hub jobs next
done_more hub jobs passes next pass so_far number done push k p get =
    by (get_push passes pass p k (sym (ap (λ (xs : List PortPass). slice_get xs k) push) ∙ get))
  where
    by : (slice_get passes k ≡ Some p) ⊎ ((k ≡ length passes) × (pass ≡ p)) → (p.number ≡ k + 1) × IsDone hub jobs p
    by (inl h) = so_far k p h
    by (inr h) =
        let at = h.0 in
        subst (λ (q : PortPass). (q.number ≡ k + 1) × IsDone hub jobs q) h.1 (number ∙ ap (λ (i : ℕ). i + 1) (sym at), done)
