-- The waiting frames and the three queues: what an index for each traffic makes of the arrivals.
use Rattle.std.proofs.Common.{◌≡◌, ℕ, zero, suc, ◌+◌, ◌<◌, ◌≤◌, ◌⊎◌, true, false, cond, List, [], ◌∷◌, ◌++◌, length, get_or, take, Some, None, refl, sym, ◌∙◌, ap, subst, arith, inl, inr, add-zero}
use Rattle.std.specs.Prelude.{nat_le, nat_lt, is_some}
use Rattle.std.specs.List.{AllWithin}
use Rattle.std.proofs.lemmas.{Bool.cond-true, Bool.le-leb, Bool.lt-leb, Bool.lt-ltb, Bool.le-ltb, Bool.eqb-true, Bool.ne_eqb, Bool.eq-eqb, Bool.false≢true, Bool.cases_lt, Bool.cases_Bool, Bool.cases_eq, List.length-take-le, List.get_or-take}
use Rattle.credit_shaper.specs.{Traffic, A, B, Other, Arrival, Heads, traffic_number, is_of, head_of, does_wait, without_head, head_index, with_head_index, pending, AreWithin, AreHeads}
use Rattle.credit_shaper.proofs.MomentLemmas.{blank}

-- traffics with one number are one
pub same_traffic : (x y : Traffic) → (traffic_number x ≡ traffic_number y) → x ≡ y
same_traffic x y h1 = grind arith

pub traffic_of : (traffic : Traffic) (x : Arrival) → is_of traffic x ≡ true → x.traffic ≡ traffic
traffic_of traffic x e = same_traffic x.traffic traffic (eqb-true (traffic_number x.traffic) (traffic_number traffic) e)

-- an index that is read after another was put: of the same traffic or not
pub head_index-same : (traffic : Traffic) (n : ℕ) (h : Heads) → head_index (with_head_index traffic n h) traffic ≡ n
head_index-same traffic n h = grind arith

pub head_index-other : (traffic other : Traffic) (n : ℕ) (h : Heads) → (traffic_number other ≡ traffic_number traffic → ⊥)
    → head_index (with_head_index traffic n h) other ≡ head_index h other
head_index-other traffic other n h h1 = grind arith

-- a fact of each traffic, with another index for one
pub head_index-each : (P : Traffic → ℕ → Type 0) (traffic : Traffic) (n : ℕ) (h : Heads) → P traffic n
    → ((other : Traffic) → P other (head_index h other)) → (other : Traffic) → P other (head_index (with_head_index traffic n h) other)
head_index-each P A n h new old A = new
head_index-each P A n h new old B = old B
head_index-each P A n h new old Other = old Other
head_index-each P B n h new old A = old A
head_index-each P B n h new old B = new
head_index-each P B n h new old Other = old Other
head_index-each P Other n h new old A = old A
head_index-each P Other n h new old B = old B
head_index-each P Other n h new old Other = new

-- indices that take the same frames in and leave the same out
pub same_pending : (g h : Heads) (i : ℕ) (xs : List Arrival)
    → ((k : ℕ) → k < length xs → nat_le (head_index g (get_or xs k blank).traffic) (i + k) ≡ nat_le (head_index h (get_or xs k blank).traffic) (i + k))
    → pending g i xs ≡ pending h i xs
same_pending g h i [] same = refl
same_pending g h i (x ∷ xs) same =
    let here : nat_le (head_index g x.traffic) i ≡ nat_le (head_index h x.traffic) i = rw add-zero at (same 0 (omega arith)) in
    let rest : pending g (i + 1) xs ≡ pending h (i + 1) xs =
    same_pending g h (i + 1) xs (λ k l.
    subst (λ (n : ℕ). nat_le (head_index g (get_or xs k blank).traffic) n ≡ nat_le (head_index h (get_or xs k blank).traffic) n)
    (omega arith) (same (suc k) (omega (arith, l)))) in
    rw (here, rest) refl

pub pending-append : (h : Heads) (i : ℕ) (xs ys : List Arrival)
    → pending h i (xs ++ ys) ≡ pending h i xs ++ pending h (i + length xs) ys
pending-append h i [] ys = ap (λ n. pending h n ys) (omega arith)
pending-append h i (x ∷ xs) ys = grind (arith, pending-append h (i + 1) xs ys)

-- where no queue begins later, all are pending
pub pending-all : (h : Heads) (i : ℕ) (xs : List Arrival) → AreWithin i h → pending h i xs ≡ xs
pending-all h i [] low = refl
pending-all h i (x ∷ xs) low = grind (arith, pending-all h (i + 1) xs (λ traffic. omega (arith, low traffic)), cond-true, le-leb)

-- frames that come where no queue begins later join the waiting ones
pub pending-join : (h : Heads) (xs ys : List Arrival) → AreWithin (length xs) h
    → pending h 0 (xs ++ ys) ≡ pending h 0 xs ++ ys
pending-join h xs ys low =
    let n : 0 + length xs ≡ length xs = omega arith in
    pending-append h 0 xs ys ∙ ap (λ zs. pending h 0 xs ++ zs) (ap (λ k. pending h k ys) n ∙ pending-all h (length xs) ys low)

-- the first frame of a queue is at its index, and there is none where the index is past the frames
pub head_of-at : (h : Heads) (traffic : Traffic) (xs : List Arrival) (i j : ℕ) → head_index h traffic ≡ i + j
    → j < length xs → is_of traffic (get_or xs j blank) ≡ true
    → head_of traffic (pending h i xs) ≡ Some (get_or xs j blank)
head_of-at h traffic [] i j e l here = absurd (omega (arith, l))
head_of-at h traffic (x ∷ xs) i zero e l here = grind (arith, traffic_of, le-leb)
head_of-at h traffic (x ∷ xs) i (suc j) e l here = grind (arith, head_of-at h traffic xs (i + 1) j (omega (arith, e)) (omega (arith, l)) here, blank, cases_Bool, lt-leb, traffic_of)

pub head_of-none : (h : Heads) (traffic : Traffic) (xs : List Arrival) (i : ℕ) → i + length xs ≤ head_index h traffic
    → head_of traffic (pending h i xs) ≡ None
head_of-none h traffic [] i past = refl
head_of-none h traffic (x ∷ xs) i past = grind (arith, head_of-none h traffic xs (i + 1) (omega (arith, past)), cases_Bool, lt-leb, traffic_of)

-- frames after both indices of a traffic are taken in alike
after_both : (g h : Heads) (i : ℕ) (xs : List Arrival) → ((traffic : Traffic) → (head_index g traffic ≡ head_index h traffic) ⊎ ((head_index g traffic ≤ i) × (head_index h traffic ≤ i)))
    → pending g i xs ≡ pending h i xs
after_both g h i xs same = grind (arith, same_pending, blank, le-leb)

-- without the first of a queue, the queue begins at the next index
pub without_head-at : (h : Heads) (traffic : Traffic) (xs : List Arrival) (i j : ℕ) → head_index h traffic ≡ i + j
    → j < length xs → is_of traffic (get_or xs j blank) ≡ true
    → without_head traffic (pending h i xs) ≡ pending (with_head_index traffic (i + j + 1) h) i xs
without_head-at h traffic [] i j e l here = absurd (omega (arith, l))
without_head-at h traffic (x ∷ xs) i zero e l here = grind (arith, traffic_of, head_index-same, le-leb, lt-leb, cases_eq, same_traffic, head_index-other, after_both)
without_head-at h traffic (x ∷ xs) i (suc j) e l here =
    let g : Heads = with_head_index traffic (i + suc j + 1) h in
    let put : head_index g traffic ≡ i + suc j + 1 = head_index-same traffic (i + suc j + 1) h in
    let rest : without_head traffic (pending h (i + 1) xs) ≡ pending g (i + 1) xs =
    without_head-at h traffic xs (i + 1) j (omega (arith, e)) (omega (arith, l)) here
    ∙ ap (λ n. pending (with_head_index traffic n h) (i + 1) xs) (omega arith) in
    elim (cases_eq (traffic_number x.traffic) (traffic_number traffic)) [
      | inl f ↦
          let same : x.traffic ≡ traffic = same_traffic x.traffic traffic f in
          let out : nat_le (head_index h x.traffic) i ≡ false = lt-leb (head_index h x.traffic) i (omega (arith, e, ap (head_index h) same)) in
          let out' : nat_le (head_index g x.traffic) i ≡ false = lt-leb (head_index g x.traffic) i (omega (arith, put, ap (head_index g) same)) in
          rw out (rw out' rest)
      | inr ne ↦
          let other : is_of traffic x ≡ false = ne_eqb (traffic_number x.traffic) (traffic_number traffic) ne in
          let kept : head_index g x.traffic ≡ head_index h x.traffic = head_index-other traffic x.traffic (i + suc j + 1) h ne in
          elim (cases_Bool (nat_le (head_index h x.traffic) i)) [
            | inl y ↦ let y' : nat_le (head_index g x.traffic) i ≡ true = ap (λ n. nat_le n i) kept ∙ y in rw y (rw (other, y') (ap (λ zs. x ∷ zs) rest))
            | inr n ↦ let n' : nat_le (head_index g x.traffic) i ≡ false = ap (λ n. nat_le n i) kept ∙ n in rw n (rw n' rest)
          ]
    ]

-- indices that move on over frames of other traffic change nothing
pub pending-settled : (g h : Heads) (arrivals : List Arrival) (came : ℕ) → came ≤ length arrivals
    → ((traffic : Traffic) → (head_index g traffic ≤ head_index h traffic) × AllWithin (λ x. is_of traffic x ≡ false) arrivals (head_index g traffic) (head_index h traffic))
    → pending h 0 (take came arrivals) ≡ pending g 0 (take came arrivals)
pending-settled g h arrivals came within moved = grind (arith, same_pending, blank, length-take-le, get_or-take, cases_lt, lt-leb, eq-eqb, false≢true, le-leb)

-- the first frame of a queue, where there is one
pub frame_at : (h : Heads) (arrivals : List Arrival) (came : ℕ) (traffic : Traffic) → AreHeads arrivals came h
    → came ≤ length arrivals → head_index h traffic < came
    → head_of traffic (pending h 0 (take came arrivals)) ≡ Some (get_or arrivals (head_index h traffic) blank)
frame_at h arrivals came traffic heads within l = grind (arith, length-take-le, blank, get_or-take, head_of-at)

pub frame_none : (h : Heads) (arrivals : List Arrival) (came : ℕ) (traffic : Traffic) → came ≤ length arrivals
    → came ≤ head_index h traffic → head_of traffic (pending h 0 (take came arrivals)) ≡ None
frame_none h arrivals came traffic within l = grind (arith, length-take-le, head_of-none)

-- a queue has a frame where its index is below the number of those that have come
pub waits_is : (h : Heads) (arrivals : List Arrival) (came : ℕ) (traffic : Traffic) → AreHeads arrivals came h
    → came ≤ length arrivals → does_wait traffic (pending h 0 (take came arrivals)) ≡ nat_lt (head_index h traffic) came
waits_is h arrivals came traffic heads within = grind (arith, cases_lt, frame_at, lt-ltb, frame_none, le-ltb)

-- without its first frame, a queue begins at the next frame of its traffic
pub without_first : (h : Heads) (arrivals : List Arrival) (came : ℕ) (x : Arrival) (n : ℕ) → AreHeads arrivals came h
    → came ≤ length arrivals → head_index h x.traffic < came → get_or arrivals (head_index h x.traffic) blank ≡ x
    → head_index h x.traffic + 1 ≤ n
    → AllWithin (λ y. is_of x.traffic y ≡ false) arrivals (head_index h x.traffic + 1) n
    → pending (with_head_index x.traffic n h) 0 (take came arrivals) ≡ without_head x.traffic (pending h 0 (take came arrivals))
without_first h arrivals came x n heads within l first up others =
    let traffic : Traffic = x.traffic in
    let j : ℕ = head_index h traffic in
    let g : Heads = with_head_index traffic (j + 1) h in
    let long : length (take came arrivals) ≡ came = length-take-le came arrivals within in
    let read : get_or (take came arrivals) j blank ≡ get_or arrivals j blank = get_or-take came arrivals j blank l in
    let here : is_of traffic (get_or arrivals j blank) ≡ true = (heads traffic).1 l blank in
    let moved : (other : Traffic) → (head_index g other ≤ head_index (with_head_index traffic n h) other)
    × AllWithin (λ y. is_of other y ≡ false) arrivals (head_index g other) (head_index (with_head_index traffic n h) other) =
    λ other. elim (cases_eq (traffic_number other) (traffic_number traffic)) [
      | inl f ↦
          subst (λ (t : Traffic). (head_index g t ≤ head_index (with_head_index traffic n h) t)
          × AllWithin (λ y. is_of t y ≡ false) arrivals (head_index g t) (head_index (with_head_index traffic n h) t))
          (sym (same_traffic other traffic f))
          (rw (head_index-same traffic (j + 1) h, head_index-same traffic n h) (up, others))
      | inr ne ↦
          rw (head_index-other traffic other (j + 1) h ne, head_index-other traffic other n h ne)
          (omega arith, λ k d from to. absurd (omega (arith, from, to)))
    ] in
    pending-settled g (with_head_index traffic n h) arrivals came within moved
    ∙ sym (without_head-at h traffic (take came arrivals) 0 j (omega arith) (omega (arith, long, l)) (ap (is_of traffic) read ∙ here)
    ∙ ap (λ k. pending (with_head_index traffic k h) 0 (take came arrivals)) (omega arith))
