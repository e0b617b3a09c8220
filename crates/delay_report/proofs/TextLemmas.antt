-- A text that is put together piece by piece.
use Rattle.std.proofs.Common.{◌≡◌, ℕ, List, [], ◌∷◌, ◌++◌, append_assoc, append-nil, arith}
use Rattle.srp_base.specs.Text.{whole_of}

pub put_together : (o p q r s t a b c d e : List ℕ) → o ≡ [] → p ≡ o ++ a → q ≡ p ++ b → r ≡ q ++ c → s ≡ r ++ d → t ≡ s ++ e
    → t ≡ whole_of (a ∷ b ∷ c ∷ d ∷ e ∷ [])
put_together o p q r s t a b c d e h1 h2 h3 h4 h5 h6 = grind (arith, append_assoc, append-nil)
