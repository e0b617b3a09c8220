-- One box of a node changes: the others stay, and all are short.
use Rattle.std.proofs.Common.{◌≡◌, sym, ℕ, zero, suc, ◌<◌, List, [], ◌∷◌, length, map, refl, ap, subst, ◌∙◌, arith}
use Rattle.std.specs.Prelude.{slice_set, slice_index_or}
use Rattle.std.specs.List.{AllByRecursion, insert}
use Rattle.mrp_participant.specs.Link.{with_repeat}
use Rattle.node_core.specs.{Wire, with_wire, box_at}

pub set_same : (boxes : List (List Wire)) (i : ℕ) → slice_set boxes i (box_at i boxes) ≡ boxes
set_same [] i = refl
set_same (b ∷ boxes) zero = refl
set_same (b ∷ boxes) (suc i) = ap (λ bs. b ∷ bs) (set_same boxes i)

pub each_box : (P : Wire → Type 0) (boxes : List (List Wire)) (i : ℕ) → AllByRecursion (AllByRecursion P) boxes → AllByRecursion P (box_at i boxes)
each_box P [] i hs = tt
each_box P (b ∷ boxes) zero hs = hs.0
each_box P (b ∷ boxes) (suc i) hs = each_box P boxes i hs.1

pub each_repeated : (P : Wire → Type 0) (i : ℕ) (xs : List Wire) → AllByRecursion P xs → AllByRecursion P (with_repeat i xs)
each_repeated P i [] h = nil i
  where
    nil : (j : ℕ) → AllByRecursion P (with_repeat j [])
    nil j = tt
each_repeated P zero (x ∷ xs) h = (h.0, (h.0, h.1))
each_repeated P (suc i) (x ∷ xs) h = (h.0, each_repeated P i xs h.1)

pub each_with : (P : Wire → Type 0) (i : ℕ) (x : Wire) (xs : List Wire) → P x → AllByRecursion P xs → AllByRecursion P (with_wire i x xs)
each_with P i x [] px h = nil i
  where
    nil : (j : ℕ) → AllByRecursion P (with_wire j x [])
    nil zero = (px, tt)
    nil (suc j) = (px, tt)
each_with P zero x (y ∷ xs) px h = (px, h)
each_with P (suc i) x (y ∷ xs) px h = (h.0, each_with P i x xs px h.1)

pub each_new : {X : Type 0} (P : Wire → Type 0) (xs : List X) → AllByRecursion (AllByRecursion P) (map (λ _. []) xs)
each_new P [] = tt
each_new P (x ∷ xs) = (tt, each_new P xs)

-- a copy right before its original is one right behind it
pub insert_repeated : (xs : List Wire) (i : ℕ) (d : Wire) → i < length xs → insert xs i (slice_index_or xs i d) ≡ with_repeat i xs
insert_repeated [] i d h = absurd (omega arith)
insert_repeated (x ∷ xs) zero d h = refl
insert_repeated (x ∷ xs) (suc i) d h = let lt : i < length xs = omega arith in ap (λ ys. x ∷ ys) (insert_repeated xs i d lt)

-- a copy of the PDU at a place is put in there
pub repeated_of : (xs : List Wire) (i : ℕ) (x d : Wire) → i < length xs → x ≡ slice_index_or xs i d → insert xs i x ≡ with_repeat i xs
repeated_of xs i x d h e = ap (λ y. insert xs i y) e ∙ insert_repeated xs i d h

-- a box that is read is the one at its place
pub box_read : (boxes : List (List Wire)) (i : ℕ) (b : List Wire) → i < length boxes → b ≡ slice_index_or boxes i b → b ≡ box_at i boxes
box_read [] i b h e = absurd (omega arith)
box_read (x ∷ boxes) zero b h e = e
box_read (x ∷ boxes) (suc i) b h e = box_read boxes i b (omega arith) e

-- what holds of each PDU of each box holds of one that is read
pub each_read : (P : Wire → Type 0) (ws : List Wire) (i : ℕ) (w : Wire) → i < length ws → w ≡ slice_index_or ws i w → AllByRecursion P ws → P w
each_read P [] i w below is hs = absurd (omega arith)
each_read P (x ∷ ws) zero w below is hs = subst P (sym is) hs.0
each_read P (x ∷ ws) (suc i) w below is hs = each_read P ws i w (omega arith) is hs.1
