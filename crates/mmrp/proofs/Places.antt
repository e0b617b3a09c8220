-- Reading one place of a list where something holds at every place, and the flat rule place by place.
use Rattle.std.proofs.Common.{◌≡◌, ℕ, zero, suc, true, List, [], ◌∷◌, length, refl}
use Rattle.std.specs.Prelude.{◌==◌}
use Rattle.std.proofs.lemmas.Bool.{and_parts}
use Rattle.srp_base.proofs.Lists.{no-length}
use Rattle.link_node.specs.Boxes.{are_empty, box_at}
use Rattle.mmrp.specs.{Waiting}

-- no PDU waits in any box
pub empty-box : (boxes : List Waiting) (i : ℕ) → are_empty boxes ≡ true → box_at i boxes ≡ []
empty-box [] i h = refl
empty-box (b ∷ boxes) zero h = no-length b (and_parts (length b == 0) (are_empty boxes) h).0
empty-box (b ∷ boxes) (suc i) h = empty-box boxes i (and_parts (length b == 0) (are_empty boxes) h).1
