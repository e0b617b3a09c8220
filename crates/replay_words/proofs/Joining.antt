-- What is put at the end of a text twice.
use Rattle.std.proofs.Common.{◌≡◌, ◌∙◌, ◌++◌, ℕ, List, ap}
use Rattle.std.proofs.lemmas.List.{append_assoc}

-- is put there as one
pub joined : (old mid new front rest : List ℕ) → mid ≡ old ++ front → new ≡ mid ++ rest → new ≡ old ++ (front ++ rest)
joined old mid new front rest here there = there ∙ ap (λ (text : List ℕ). text ++ rest) here ∙ append_assoc old front rest
