-- A copy among those that a port's shaper is given: its place, and what arrived in front of it.
use Rattle.std.proofs.Common.{◌≡◌, ℕ, suc, ◌+◌, ◌<◌, ◌≤◌, inl, inr, Bool, true, false, cond, List, [], ◌∷◌, ◌++◌, length, get_or, take, drop, map, refl, sym, ◌∙◌, ap, arith}
use Rattle.std.specs.Prelude.{All, AllPairs, sum_by, nat_le, ◌&&◌}
use Rattle.std.proofs.Math.Seq.{drop-cons}
use Rattle.std.proofs.lemmas.{Bool.cond_both, Bool.false≢true, Bool.le-leb, List.map-append, List.take-append-drop, List.get_or-take, List.get_or_default, List.length-take, List.Elements.All-head, List.Elements.All-tail, List.Sums.sum_by-cons, List.Sums.sum_by-append}
use Rattle.credit_shaper.specs.declared.{shaper.Traffic.Traffic}
use Rattle.credit_shaper.specs.Port.{is_of}
use Rattle.class_service.specs.Owed.{bits_among, arrivals_from}
use Rattle.frame_flow.specs.declared.{frame.FrameCopy.FrameCopy}
use Rattle.frame_flow.specs.{Copies.is_not_after, Flow.arrival_of}
use Rattle.frame_flow.proofs.OrderLemmas.{lex-is}
use Rattle.delay_flow.specs.{is_in_class}
use Rattle.delay_flow.proofs.Sums.{sum-filter_cons}

-- the bits of a copy, where it is of a class and in these bit times
abbrev pub bits_between : Traffic → ℕ → ℕ → FrameCopy → ℕ
bits_between traffic from to c =
    cond (is_in_class traffic c.frame && (nat_le from c.bit && nat_le c.bit to)) c.frame.bits 0

pub narrowed : (a b c : Bool) (n : ℕ) → b ≡ true → c ≡ true → cond (a && (b && c)) n 0 ≡ cond a n 0
narrowed false b c n one two = refl
narrowed true false c n one two = absurd (false≢true one)
narrowed true true false n one two = absurd (false≢true two)
narrowed true true true n one two = refl

front-bits : (traffic : Traffic) (s t : ℕ) (xs : List FrameCopy) → All (λ d. d.bit ≤ t) xs
    → bits_among traffic (arrivals_from (map arrival_of xs) s) ≤ sum_by (bits_between traffic s t) xs
front-bits traffic s t [] all = omega arith
front-bits traffic s t (x ∷ xs) all =
    let P : FrameCopy → Type 0 = λ d. d.bit ≤ t in
    let rest = front-bits traffic s t xs (All-tail P x xs all) in
    let a = arrival_of x in
    let kept = arrivals_from (map arrival_of xs) s in
    let early = le-leb x.bit t (All-head P x xs all) in
    let g = bits_between traffic s t in
    cond_both (nat_le s x.bit) (a ∷ kept) kept (λ l. bits_among traffic l ≤ sum_by g (x ∷ xs))
    (λ is.
    let same : g x ≡ cond (is_of traffic a) a.bits 0 = narrowed (is_of traffic a) (nat_le s x.bit) (nat_le x.bit t) x.frame.bits is early in
    omega (arith, sum-filter_cons (λ y. y.bits) (is_of traffic) a kept, sum_by-cons g x xs, rest, same))
    (λ nay. omega (arith, sum_by-cons g x xs, rest))

-- the copies in front of one arrived no later
first-few : (cs : List FrameCopy) (k : ℕ) (d : FrameCopy) → k < length cs → AllPairs (λ x y. is_not_after x y ≡ true) cs → All (λ x. x.bit ≤ (get_or cs k d).bit) (take k cs)
first-few cs k d below order i e lt =
    let c = get_or cs k d in
    let before : i < k = omega (arith, lt, length-take k cs, below) in
    let x = get_or cs i e in
    let one : get_or (take k cs) i e ≡ x = get_or-take k cs i e before in
    let other : get_or cs k e ≡ c = get_or_default cs k e d below in
    let up = lex-is x.bit x.frame.number (get_or cs k e).bit (get_or cs k e).frame.number (order i k e before below) in
    let le : x.bit ≤ (get_or cs k e).bit = elim up [ inl h ↦ omega (arith, h) | inr h ↦ omega (arith, h.0) ] in
    omega (arith, ap (λ (t : FrameCopy). t.bit) one, ap (λ (t : FrameCopy). t.bit) other, le)

-- what arrived from a bit time on in front of a copy, with the copy, arrived up to its bit time
pub front-and-own : (traffic : Traffic) (s : ℕ) (cs : List FrameCopy) (k : ℕ) (d : FrameCopy) → k < length cs → AllPairs (λ x y. is_not_after x y ≡ true) cs
    → is_in_class traffic (get_or cs k d).frame ≡ true → s ≤ (get_or cs k d).bit
    → bits_among traffic (arrivals_from (map arrival_of (take k cs)) s) + (get_or cs k d).frame.bits
    ≤ sum_by (bits_between traffic s (get_or cs k d).bit) cs
front-and-own traffic s cs k d below order class since =
    let c = get_or cs k d in
    let g = bits_between traffic s c.bit in
    let few : All (λ x. x.bit ≤ c.bit) (take k cs) = first-few cs k d below order in
    let own : g c ≡ c.frame.bits =
    narrowed (is_in_class traffic c.frame) (nat_le s c.bit) (nat_le c.bit c.bit) c.frame.bits (le-leb s c.bit since) (le-leb c.bit c.bit (omega arith))
    ∙ ap (λ (b : Bool). cond b c.frame.bits 0) class in
    let split : sum_by g cs ≡ sum_by g (take k cs ++ drop k cs) = ap (λ (t : List FrameCopy). sum_by g t) (sym (take-append-drop k cs)) in
    let parts = sum_by-append g (take k cs) (drop k cs) in
    let rest : sum_by g (drop k cs) ≡ sum_by g (c ∷ drop (suc k) cs) = ap (λ (t : List FrameCopy). sum_by g t) (drop-cons cs k d below) in
    omega (arith, front-bits traffic s c.bit (take k cs) few, own, split, parts, rest, sum_by-cons g c (drop (suc k) cs))

-- the arrivals in front of a copy, and those behind it
pub has-place : (cs : List FrameCopy) (k : ℕ) (d : FrameCopy) → k < length cs
    → map arrival_of cs ≡ map arrival_of (take k cs) ++ arrival_of (get_or cs k d) ∷ map arrival_of (drop (suc k) cs)
has-place cs k d below =
    ap (λ (t : List FrameCopy). map arrival_of t) (sym (take-append-drop k cs))
    ∙ map-append arrival_of (take k cs) (drop k cs)
    ∙ ap (λ (t : List FrameCopy). map arrival_of (take k cs) ++ map arrival_of t) (drop-cons cs k d below)
