-- Reading on, and where it stops.
use Rattle.std.proofs.Common.{◌≡◌, ℕ, zero, suc, ◌+◌, List, [], ◌∷◌, ◌++◌, length, take, slice_get, refl, sym, ap, subst, ◌∙◌, append_assoc, arith}
use Rattle.std.proofs.lemmas.List.{append-nil, length-append}
use Rattle.journal_audit.specs.{lines_of, asking_for, IsTaken, Agrees, IsStuck, HasRead}
use Rattle.journal_audit.specs.Reading.{Reading}

abbrev pub Lines : Type 0
Lines = List (List ℕ)

-- a list whose first so many elements are these has something behind them
front_of : {A : Type 0} (xs zs ys : List A) → take (length xs) zs ≡ xs → (behind : List A) × (zs ≡ xs ++ behind)
front_of [] zs ys e = (zs, refl)
front_of (x ∷ xs) [] ys e = cc
front_of (x ∷ xs) (z ∷ zs) ys e =
    let first : z ≡ x = cc in
    let rest : take (length xs) zs ≡ xs = cc in
    let later = front_of xs zs ys rest in
    (later.0, ap (λ y. y ∷ zs) first ∙ ap (λ y. x ∷ y) later.1)

take_behind : {A : Type 0} (xs ys : List A) (k : ℕ) → take (length xs + k) (xs ++ ys) ≡ xs ++ take k ys
take_behind [] ys k = let e : 0 + k ≡ k = omega arith in ap (λ n. take n ys) e
take_behind (x ∷ xs) ys k =
    let e : length (x ∷ xs) + k ≡ suc (length xs + k) = omega arith in
    ap (λ n. take n (x ∷ xs ++ ys)) e ∙ ap (λ zs. x ∷ zs) (take_behind xs ys k)

get_behind : {A : Type 0} (xs ys : List A) (k : ℕ) → slice_get (xs ++ ys) (length xs + k) ≡ slice_get ys k
get_behind [] ys k = let e : 0 + k ≡ k = omega arith in ap (λ n. slice_get ys n) e
get_behind (x ∷ xs) ys k =
    let e : length (x ∷ xs) + k ≡ suc (length xs + k) = omega arith in
    ap (λ n. slice_get (x ∷ xs ++ ys) n) e ∙ get_behind xs ys k

pub same_behind : {A : Type 0} (xs ys zs : List A) → xs ++ ys ≡ xs ++ zs → ys ≡ zs
same_behind [] ys zs e = e
same_behind (x ∷ xs) ys zs e = let rest : xs ++ ys ≡ xs ++ zs = cc in same_behind xs ys zs rest

-- what is equal up to a place is so before
pub take_less : {A : Type 0} (n k : ℕ) (xs ys : List A) → take (n + k) xs ≡ take (n + k) ys → take n xs ≡ take n ys
take_less zero k xs ys e = refl
take_less (suc n) k [] [] e = refl
take_less (suc n) k [] (y ∷ ys) e =
    let more : suc n + k ≡ suc (n + k) = omega arith in
    let f : [] ≡ y ∷ take (n + k) ys = subst (λ (m : ℕ). take m [] ≡ take m (y ∷ ys)) more e in
    cc
take_less (suc n) k (x ∷ xs) [] e =
    let more : suc n + k ≡ suc (n + k) = omega arith in
    let f : x ∷ take (n + k) xs ≡ [] = subst (λ (m : ℕ). take m (x ∷ xs) ≡ take m []) more e in
    cc
take_less (suc n) k (x ∷ xs) (y ∷ ys) e =
    let more : suc n + k ≡ suc (n + k) = omega arith in
    let f : x ∷ take (n + k) xs ≡ y ∷ take (n + k) ys = subst (λ (m : ℕ). take m (x ∷ xs) ≡ take m (y ∷ ys)) more e in
    let first : x ≡ y = cc in
    let rest : take (n + k) xs ≡ take (n + k) ys = cc in
    ap (λ z. z ∷ take n xs) first ∙ ap (λ zs. y ∷ zs) (take_less n k xs ys rest)

-- ---- reading on

pub read_none : (F : Lines → Type 0) (from : Reading) → HasRead F from [] F from
read_none F from = record { lines = refl; read = omega arith; onto = λ follow h. h; back = λ follow h. h }

-- nothing is read, and the same may follow
pub read_same : (F G H : Lines → Type 0) (from : Reading) (front : Lines) (to : Reading) → ((follow : Lines) → H follow → G follow) → ((follow : Lines) → G follow → H follow)
    → HasRead F from front G to → HasRead F from front H to
read_same F G H from front to into out h = record { lines = h.lines; read = h.read; onto = λ follow may. h.onto follow (into follow may); back = λ follow may. out follow (h.back follow may) }

pub same_read : (F G H : Lines → Type 0) (from : Reading) (front : Lines) (to : Reading) → ((follow : Lines) → F follow → H follow) → ((follow : Lines) → H follow → F follow)
    → HasRead F from front G to → HasRead H from front G to
same_read F G H from front to into out h =
    record { lines = h.lines; read = h.read; onto = λ follow may. into (front ++ follow) (h.onto follow may); back = λ follow may. h.back follow (out (front ++ follow) may) }

pub read_then : (F G H : Lines → Type 0) (from via to : Reading) (front more : Lines) → HasRead F from front G via → HasRead G via more H to → HasRead F from (front ++ more) H to
read_then F G H from via to front more one two =
    let many : length (front ++ more) ≡ length front + length more = length-append front more in
    let first = one.read in
    let second = two.read in
    record {
      lines = one.lines ∙ ap (λ (ls : Lines). front ++ ls) two.lines ∙ sym (append_assoc front more (lines_of to.rest));
      read = omega (arith, many, first, second);
      onto = λ follow may. subst F (sym (append_assoc front more follow)) (one.onto (more ++ follow) (two.onto follow may));
      back = λ follow may. two.back follow (one.back (more ++ follow) (subst F (append_assoc front more follow) may));
    }

pub read_one : (F G : Lines → Type 0) (from to : Reading) (line : List ℕ) → IsTaken line from to
    → ((follow : Lines) → G follow → F (line ∷ follow)) → ((follow : Lines) → F (line ∷ follow) → G follow) → HasRead F from (line ∷ []) G to
read_one F G from to line taken onto back = record { lines = taken.lines; read = taken.read; onto = onto; back = back }

-- ---- where it stops

pub stuck_then : (F G : Lines → Type 0) (from via : Reading) (front : Lines) (to : Reading) → HasRead F from front G via → IsStuck G via to → IsStuck F from to
stuck_then F G from via front to one stuck =
    let first = one.read in
    let second = stuck.reached in
    let follow : Lines = stuck.before.0 in
    record {
      count = length front + stuck.count;
      reached = omega (arith, first, second);
      before = (
        front ++ follow,
        one.onto follow stuck.before.1,
        take_behind front follow stuck.count ∙ (ap (λ (ls : Lines). front ++ ls) stuck.before.2
            ∙ (sym (take_behind front (lines_of via.rest) stuck.count) ∙ ap (take (length front + stuck.count)) (sym one.lines))),
        get_behind front follow stuck.count ∙ stuck.before.3,
      );
      here = λ more. stuck.here (next more);
    }
  where
    next : Agrees F (lines_of from.rest) (suc (length front + stuck.count)) → Agrees G (lines_of via.rest) (suc stuck.count)
    next more =
        let longer : suc (length front + stuck.count) ≡ length front + suc stuck.count = omega arith in
        let upto : take (length front + suc stuck.count) more.0 ≡ take (length front + suc stuck.count) (front ++ lines_of via.rest) =
        subst (λ (n : ℕ). take n more.0 ≡ take n (front ++ lines_of via.rest)) longer (more.2 ∙ ap (take (suc (length front + stuck.count))) one.lines)
        in
        let zero_more : length front + 0 ≡ length front = omega arith in
        let begins : take (length front) more.0 ≡ front =
        take_less (length front) (suc stuck.count) more.0 (front ++ lines_of via.rest) upto
        ∙ (ap (λ (n : ℕ). take n (front ++ lines_of via.rest)) (sym zero_more) ∙ (take_behind front (lines_of via.rest) 0 ∙ append-nil front))
        in
        let split = front_of front more.0 [] begins in
        let rest : Lines = split.0 in (
          rest,
          one.back rest (subst F split.1 more.1),
          same_behind front (take (suc stuck.count) rest) (take (suc stuck.count) (lines_of via.rest))
              (sym (take_behind front rest (suc stuck.count))
              ∙ (ap (take (length front + suc stuck.count)) (sym split.1) ∙ (upto ∙ take_behind front (lines_of via.rest) (suc stuck.count)))),
        )

-- at once, where something may follow, whose first line was asked for, but nothing with the next
-- line
pub stuck_here : (F : Lines → Type 0) (from : Reading) (follow : Lines) → F follow
    → ((other : Lines) → F other → take 1 other ≡ take 1 (lines_of from.rest) → ⊥) → IsStuck F from (asking_for (slice_get follow 0) from)
stuck_here F from follow may none =
    record { count = 0; reached = omega arith; before = (follow, may, refl, refl); here = λ more. none more.0 more.1 more.2 }

pub stuck_as : (F H : Lines → Type 0) (from to : Reading) → ((follow : Lines) → F follow → H follow) → ((follow : Lines) → H follow → F follow) → IsStuck F from to → IsStuck H from to
stuck_as F H from to into out h =
    record {
      count = h.count;
      reached = h.reached;
      before = (h.before.0, into h.before.0 h.before.1, h.before.2, h.before.3);
      here = λ more. h.here (more.0, out more.0 more.1, more.2);
    }
