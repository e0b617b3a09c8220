-- Frames that are numbered one after the other stand at the places of their numbers.
use Rattle.std.proofs.Common.{◌≡◌, ℕ, zero, suc, ◌+◌, ◌<◌, ◌==◌, List, [], ◌∷◌, length, map, get_or, refl, sym, ◌≤◌, Option, Some, Bor, arith}
use Rattle.std.specs.Prelude.{find, slice_get, None, IfSome, nat_lt, option_map}
use Rattle.std.specs.Option.{is_some}
use Rattle.std.proofs.lemmas.Option.{slice_get_past, slice_get_read}
use Rattle.std.specs.List.{range_with_len}
use Rattle.frame_flow.specs.declared.frame.Frame.{Frame}

-- their numbers are those from one on
abbrev pub AreNumbered : ℕ → List Frame → Type 0
AreNumbered a frames = map (λ f. f.number) frames ≡ range_with_len a (length frames)

pub none_before : (frames : List Frame) (a n : ℕ) → AreNumbered a frames → n < a → find (λ f. f.number == n) frames ≡ None
none_before [] a n numbered below = refl
none_before (f ∷ fs) a n numbered below =
    let first : f.number ≡ a = cc in
    let rest : AreNumbered (a + 1) fs = cc in
    grind (arith, first, none_before fs (a + 1) n rest)

pub at_number : (frames : List Frame) (a i : ℕ) → AreNumbered a frames → find (λ f. f.number == a + i) frames ≡ slice_get frames i
at_number [] a i numbered = refl
at_number (f ∷ fs) a zero numbered = let first : f.number ≡ a = cc in grind (arith, first)
at_number (f ∷ fs) a (suc i) numbered =
    let first : f.number ≡ a = cc in
    let rest : AreNumbered (a + 1) fs = cc in
    grind (arith, first, at_number fs (a + 1) i rest)

-- what is read at a place
pub got : {X : Type 0} (o : Option (Bor X)) (xs : List X) (i : ℕ) → is_some o ≡ nat_lt i (length xs) → IfSome o (λ x. x.now ≡ get_or xs i x.now)
    → option_map (λ x. x.now) o ≡ slice_get xs i
got None xs i there at = let past : length xs ≤ i = grind (arith, there) in sym (slice_get_past xs i past)
got (Some x) xs i there at = let within : i < length xs = grind (arith, there) in sym (slice_get_read xs (length xs) i x.now refl within at)

-- as many frames as there are numbers
pub numbered_all : (frames : List Frame) (a n : ℕ) → map (λ f. f.number) frames ≡ range_with_len a n → AreNumbered a frames
numbered_all [] a zero e = refl
numbered_all [] a (suc n) e = absurd cc
numbered_all (f ∷ fs) a zero e = absurd cc
numbered_all (f ∷ fs) a (suc n) e =
    let first : f.number ≡ a = cc in
    let rest : map (λ g. g.number) fs ≡ range_with_len (a + 1) n = cc in
    grind (arith, first, numbered_all fs (a + 1) n rest)
