-- The first passes of a lock are its own.
use Rattle.std.proofs.Common.{◌≡◌, refl, subst, sym, ℕ, zero, suc, ◌+◌, List, [], ◌∷◌, All}
use Rattle.std.proofs.lemmas.List.Elements.{All-nil, All-append, All-cons}
use Rattle.turn_lock.specs.Passes.{Lock, PassOf, first_passes}

module _ {S Ask Answer : Type 0} (lock : Lock S) where
  abbrev pub IsOfLock : PassOf S Ask Answer → Type 0
  IsOfLock p = p.lock ≡ lock

  first_are_of_lock : (count : ℕ) → All IsOfLock (first_passes lock count)
  first_are_of_lock zero = All-nil IsOfLock
  first_are_of_lock (suc count) =
      let pass : PassOf S Ask Answer = record { lock = lock; number = count + 1; seen = [] } in
      All-append IsOfLock (first_passes lock count) (pass ∷ []) (first_are_of_lock count) (All-cons IsOfLock pass [] refl (All-nil IsOfLock))

  pub are_of_lock : (count : ℕ) (passes : List (PassOf S Ask Answer)) → passes ≡ first_passes lock count → All IsOfLock passes
  are_of_lock count passes eq = subst (λ l. All IsOfLock l) (sym eq) (first_are_of_lock count)
