-- The tables of leaders, step by step.
use Rattle.std.proofs.Common.{◌≡◌, ◌≢◌, ℕ, ◌+◌, ◌-◌, ◌<◌, ◌≤◌, max, List, [], ◌∷◌, ◌++◌, ◌⊎◌, inl, inr, refl, sym, ap, subst, ◌∙◌, length, get_or, set, take, replicate, arith, below_more}
use Rattle.std.proofs.lemmas.{Bool.cases_eq, Bool.cases_lt, Bool.Decides.nat_tests, List.map-id, List.length-set, List.length-replicate, List.get_or-replicate, List.get_or-set_same, List.get_or-set_other, List.length_push, List.get_or_default, List.take_more, List.length-take-le, List.FromFn.map-range_with_len_more, List.FromFn.length-range_with_len, List.FromFn.get_or-range_with_len}
use Rattle.std.specs.List.{range_with_len}
use Rattle.tree_topology.specs.{Link, Joined, Connected, HasLeaders, LeadsAlong, joined_leaders, joined_ranks, IsFirstLink, ClosesLoop}
use Rattle.tree_topology.proofs.{Links.connected-sym, Links.connected-through, Links.connected-left, Links.connected-over, Links.ConnectedOver, Links.joined-push, Links.joined-last, Walks.reaches-step, WalkBetween.empty-walk}

-- two leaders aren't connected
abbrev HasApartLeaders : List Link → List ℕ → Type 0
HasApartLeaders links leaders =
    (x y : ℕ) → x < length leaders → y < length leaders → get_or leaders x 0 ≡ x → get_or leaders y 0 ≡ y → Connected links x y → x ≡ y

-- each component of the links has one leader
pub record HasComponents (count : ℕ) (links : List Link) (leaders ranks : List ℕ) : Type 0 where
  pub size : length leaders ≡ count + 1
  pub led : HasLeaders leaders ranks
  pub low : (x : ℕ) → x < length leaders → get_or ranks x 0 ≤ length links
  pub along : LeadsAlong links leaders
  pub apart : HasApartLeaders links leaders

pub range-more : (n : ℕ) → range_with_len 0 (n + 1) ≡ range_with_len 0 n ++ n ∷ []
range-more n =
    let f : ℕ → ℕ = λ k. k in
    sym (map-id (range_with_len 0 (n + 1))) ∙ map-range_with_len_more f 0 n n (omega arith) ∙ ap (λ (t : List ℕ). t ++ n ∷ []) (map-id (range_with_len 0 n))

-- a node that isn't its own leader leads to one of higher rank
pub leads-lower : (leaders ranks : List ℕ) (at next : ℕ) → HasLeaders leaders ranks → at < length leaders
    → next ≡ get_or leaders at 0 → next ≢ at → 65536 - get_or ranks next 0 < 65536 - get_or ranks at 0
leads-lower leaders ranks at next h lt e ne = grind arith

pub leads-further : (links : List Link) (leaders : List ℕ) (node at next : ℕ) → LeadsAlong links leaders
    → at < length leaders → next ≡ get_or leaders at 0 → Connected links node at → Connected links node next
leads-further links leaders node at next along lt e c =
    let F : ℕ → Type 0 = λ t. Connected links node t in
    subst F (sym e) (connected-through links node at (get_or leaders at 0) c (along at lt))

-- at first each node is its own leader
pub components-single : (count : ℕ) (leaders ranks : List ℕ) → leaders ≡ range_with_len 0 (count + 1)
    → ranks ≡ replicate (count + 1) 0 → HasComponents count [] leaders ranks
components-single count leaders ranks e f =
    let size : length leaders ≡ count + 1 = ap length e ∙ length-range_with_len 0 (count + 1) in
    let size' : length ranks ≡ count + 1 = ap length f ∙ length-replicate (count + 1) 0 in
    let own : (x : ℕ) → x < length leaders → get_or leaders x 0 ≡ x = λ x lt. ap (λ (t : List ℕ). get_or t x 0) e
    ∙ get_or-range_with_len 0 (count + 1) x 0 (omega (arith, lt, size)) ∙ omega arith in
    let low : (x : ℕ) → x < length leaders → get_or ranks x 0 ≡ 0 = λ x lt. ap (λ (t : List ℕ). get_or t x 0) f
    ∙ get_or-replicate (count + 1) x 0 0 (omega (arith, lt, size)) in
    let led : HasLeaders leaders ranks = record {
      size = omega (arith, size, size');
      within = (λ x lt. omega (arith, lt, own x lt));
      small = (λ x lt. omega (arith, low x lt));
      rises = (λ x lt ne. absurd (ne (own x lt)));
    } in
    record {
      size = size;
      led = led;
      low = (λ x lt. omega (arith, low x lt));
      along = (λ x lt. ([], sym (own x lt)));
      apart = (λ x y lt less e1 e2 c. empty-walk c.0 x y c.1);
    }

own-leader : (leaders : List ℕ) (new : List ℕ) (r s x : ℕ) → r ≢ s → get_or new r 0 ≡ s
    → ((x : ℕ) → x ≢ r → get_or new x 0 ≡ get_or leaders x 0) → get_or new x 0 ≡ x → (x ≢ r)
    × (get_or leaders x 0 ≡ x)
own-leader leaders new r s x ne at_r at_x e =
    let n : x ≢ r = λ q. (let F : ℕ → ℕ = λ t. get_or new t 0 in ne (sym q ∙ sym e ∙ ap F q ∙ at_r)) in
    (n, sym (at_x x n) ∙ e)

-- leaders that aren't connected without a link between two of them are the same but for these two
apart-follow : (links : List Link) (l : Link) (leaders : List ℕ) (r s x y : ℕ) → HasApartLeaders links leaders
    → r < length leaders → s < length leaders → get_or leaders r 0 ≡ r → get_or leaders s 0 ≡ s → x < length leaders
    → y < length leaders → r ≢ s → get_or (set leaders r s) r 0 ≡ s
    → ((x : ℕ) → x ≢ r → get_or (set leaders r s) x 0 ≡ get_or leaders x 0) → get_or (set leaders r s) x 0 ≡ x
    → get_or (set leaders r s) y 0 ≡ y → Connected links x y
    ⊎ ((Connected links x r × Connected links s y) ⊎ (Connected links x s × Connected links r y)) → x ≡ y
apart-follow links l leaders r s x y apart lr ls er es lx ly ne at_r at_x ex ey c = grind arith

-- ranks rise along leaders once one follows another
rises-follow : (leaders ranks more : List ℕ) (r s x : ℕ) → HasLeaders leaders ranks → x < length leaders → r ≢ s
    → get_or leaders r 0 ≡ r → get_or leaders s 0 ≡ s → get_or (set leaders r s) r 0 ≡ s
    → ((x : ℕ) → x ≢ r → get_or (set leaders r s) x 0 ≡ get_or leaders x 0)
    → ((x : ℕ) → x ≢ s → get_or more x 0 ≡ get_or ranks x 0) → ((x : ℕ) → get_or ranks x 0 ≤ get_or more x 0)
    → get_or ranks r 0 < get_or more s 0 → get_or (set leaders r s) x 0 ≢ x
    → get_or more x 0 < get_or more (get_or (set leaders r s) x 0) 0
rises-follow leaders ranks more r s x h lt ne er es at_r at_x other grow less n = grind (arith, cases_eq)

-- a leader that follows another one, which has the higher rank then
follow : (count : ℕ) (links : List Link) (l : Link) (leaders ranks more : List ℕ) (r s : ℕ)
    → HasComponents count links leaders ranks → length links < 65535 → r < length leaders → s < length leaders → r ≢ s
    → get_or leaders r 0 ≡ r → get_or leaders s 0 ≡ s → Connected (links ++ l ∷ []) r s
    → ((x y : ℕ) → ConnectedOver links l x y → Connected links x y
    ⊎ ((Connected links x r × Connected links s y) ⊎ (Connected links x s × Connected links r y)))
    → length more ≡ length ranks → ((x : ℕ) → x ≢ s → get_or more x 0 ≡ get_or ranks x 0)
    → get_or ranks s 0 ≤ get_or more s 0 → get_or ranks r 0 < get_or more s 0 → get_or more s 0 ≤ length links + 1
    → HasComponents count (links ++ l ∷ []) (set leaders r s) more
follow count links l leaders ranks more r s h few lr ls ne er es c over size other up less top =
    let all = links ++ l ∷ [] in
    let new = set leaders r s in
    let len : length new ≡ length leaders = length-set leaders r s in
    let at_r : get_or new r 0 ≡ s = get_or-set_same leaders r s 0 lr in
    let at_x : (x : ℕ) → x ≢ r → get_or new x 0 ≡ get_or leaders x 0 = λ x n. get_or-set_other leaders r x s 0 n in
    let count_all : length all ≡ length links + 1 = length_push links l in
    let grow : (x : ℕ) → get_or ranks x 0 ≤ get_or more x 0 = λ x. elim
    (cases_eq x s) [
      | inl e ↦ (let F : ℕ → Type 0 = λ t. get_or ranks t 0 ≤ get_or more t 0 in subst F
          (sym e) up)
      | inr n ↦ omega (arith, other x n)
    ] in
    let low : (x : ℕ) → x < length leaders → get_or more x 0 ≤ length links + 1 = λ x lt. elim
    (cases_eq x s) [
      | inl e ↦ (let F : ℕ → Type 0 = λ t. get_or more t 0 ≤ length links + 1 in subst F
          (sym e) top)
      | inr n ↦ omega (arith, other x n, h.low x lt)
    ] in
    let within : (x : ℕ) → x < length leaders
    → get_or new x 0 < length leaders = λ x lt. elim
    (cases_eq x r) [
      | inl e ↦ (let F : ℕ → Type 0 = λ t. get_or new t 0 < length leaders in subst F (sym e)
          (omega (arith, at_r, ls)))
      | inr n ↦ omega (arith, at_x x n, h.led.within x lt)
    ] in
    let rises : (x : ℕ) → x < length leaders → get_or new x 0 ≢ x
    → get_or more x 0 < get_or more
    (get_or new x 0) 0 = λ x lt n. rises-follow leaders ranks more r s x h.led lt ne er es at_r at_x other grow less n in
    let led : HasLeaders new more = record {
      size = size ∙ h.led.size ∙ sym len;
      within = (λ x lt. omega (arith, len, within x (omega (arith, len, lt))));
      small = (λ x lt. omega (arith, few, low x (omega (arith, len, lt))));
      rises = (λ x lt n. rises x (omega (arith, len, lt)) n);
    } in
    record {
      size = len ∙ h.size;
      led = led;
      low = (λ x lt. omega (arith, count_all, low x (omega (arith, len, lt))));
      along = (λ x lt. elim (cases_eq x r) [
        | inl e ↦ (let F : ℕ → Type 0 = λ t. Connected all t (get_or new t 0) in let G : ℕ
            → Type 0 = λ t. Connected all r t in subst F (sym e) (subst G (sym at_r) c))
        | inr n ↦ (let G : ℕ → Type 0 = λ t. Connected all x t in subst G (sym (at_x x n))
            (connected-left links l x (get_or leaders x 0) (h.along x (omega (arith, len, lt)))))
      ]);
      apart = (λ x y lt lt2 ex ey w. apart-follow links l leaders r s x y h.apart lr ls er es (omega (arith, len, lt))
          (omega (arith, len, lt2)) ne at_r at_x ex ey
          (over x y (connected-over links all l (joined-push links l) x w.0 y w.1)));
    }

-- a link between two components, by their leaders
over-leaders : (links : List Link) (l : Link) (r s : ℕ) → Connected links l.a.0 r → Connected links l.b.0 s
    → (x y : ℕ) → ConnectedOver links l x y → Connected links x y
    ⊎ ((Connected links x r × Connected links s y) ⊎ (Connected links x s × Connected links r y))
over-leaders links l r s a b x y c =
    let back_a = connected-sym links l.a.0 r a in
    let back_b = connected-sym links l.b.0 s b in
    elim c [
      | inl c ↦ inl c
      | inr c ↦ elim c [
        | inl c ↦ inr (inl (connected-through links x l.a.0 r c.0 a, connected-through links s l.b.0 y back_b c.1))
        | inr c ↦ inr (inr (connected-through links x l.b.0 s c.0 b, connected-through links r l.a.0 y back_a c.1))
      ]
    ]

over-turned : (links : List Link) (r s x y : ℕ) → Connected links x y
    ⊎ ((Connected links x r × Connected links s y) ⊎ (Connected links x s × Connected links r y))
    → Connected links x y ⊎ ((Connected links x s × Connected links r y)
    ⊎ (Connected links x r × Connected links s y))
over-turned links r s x y c =
    elim c [ inl c ↦ inl c | inr c ↦ elim c [ inl c ↦ inr (inr c) | inr c ↦ inr (inl c) ] ]

leaders-lower : (leaders ranks : List ℕ) (a b : ℕ) → get_or ranks a 0 < get_or ranks b 0 → joined_leaders leaders ranks a b ≡ set leaders a b
leaders-lower leaders ranks a b lt = grind (arith, nat_tests)

leaders-higher : (leaders ranks : List ℕ) (a b : ℕ) → get_or ranks b 0 ≤ get_or ranks a 0 → joined_leaders leaders ranks a b ≡ set leaders b a
leaders-higher leaders ranks a b le = grind (arith, nat_tests)

ranks-lower : (ranks : List ℕ) (a b : ℕ) → get_or ranks a 0 < get_or ranks b 0 → joined_ranks ranks a b ≡ ranks
ranks-lower ranks a b lt = grind (arith, nat_tests)

ranks-higher : (ranks : List ℕ) (a b : ℕ) → get_or ranks b 0 ≤ get_or ranks a 0
    → joined_ranks ranks a b ≡ set ranks a (max (get_or ranks a 0) (get_or ranks b 0 + 1))
ranks-higher ranks a b le = grind (arith, nat_tests)

-- a link between two components makes them one
pub components-join : (count : ℕ) (links : List Link) (l : Link) (leaders ranks : List ℕ) (r s : ℕ)
    → HasComponents count links leaders ranks → length links < 65535 → r < length leaders → s < length leaders → r ≢ s
    → get_or leaders r 0 ≡ r → get_or leaders s 0 ≡ s → Connected links l.a.0 r → Connected links l.b.0 s
    → HasComponents count (links ++ l ∷ []) (joined_leaders leaders ranks r s) (joined_ranks ranks r s)
components-join count links l leaders ranks r s h few lr ls ne er es a b =
    let all = links ++ l ∷ [] in
    let link : Connected all l.a.0 l.b.0 = reaches-step (Joined all) l.a.0 l.b.0 (joined-last links l l.a.0 l.b.0 (inl (refl, refl))) in
    let wide = λ (x y : ℕ) (c : Connected links x y). connected-left links l x y c in
    let rs : Connected all r s = connected-through all r l.a.0 s (connected-sym all l.a.0 r (wide l.a.0 r a))
    (connected-through all l.a.0 l.b.0 s link (wide l.b.0 s b)) in
    let over = over-leaders links l r s a b in
    let F : List ℕ → List ℕ → Type 0 = λ t u. HasComponents count all t u in
    elim (cases_lt (get_or ranks r 0) (get_or ranks s 0)) [
      | inl lt ↦ (
          let done : F
          (set leaders r s) ranks = follow count links l leaders ranks ranks r s h few lr ls ne er es rs over refl
          (λ x n. refl) (omega arith) lt (omega (arith, h.low s ls)) in
          let G : List ℕ → Type 0 = λ t. F t (joined_ranks ranks r s) in
          let K : List ℕ → Type 0 = λ u. F (set leaders r s) u in
          subst G (sym (leaders-lower leaders ranks r s lt)) (subst K (sym (ranks-lower ranks r s lt)) done))
      | inr le ↦ (
          let top = max (get_or ranks r 0) (get_or ranks s 0 + 1) in
          let more = set ranks r top in
          let at : get_or more r 0 ≡ top = get_or-set_same ranks r top 0 (omega (arith, h.led.size, lr)) in
          let done : F (set leaders s r) more = follow count links l leaders ranks more s r h few ls lr
          (λ e. ne (sym e)) es er (connected-sym all r s rs) (λ x y c. over-turned links r s x y (over x y c))
          (length-set ranks r top) (λ x n. get_or-set_other ranks r x top 0 n) (omega (arith, at))
          (omega (arith, at)) (omega (arith, at, h.low s ls, h.low r lr)) in
          let G : List ℕ → Type 0 = λ t. F t (joined_ranks ranks r s) in
          let K : List ℕ → Type 0 = λ u. F (set leaders s r) u in
          subst G (sym (leaders-higher leaders ranks r s le)) (subst K (sym (ranks-higher ranks r s le)) done))
    ]

-- no link before this place closes a loop
abbrev pub IsLoopFreeTo : List Link → ℕ → Type 0
IsLoopFreeTo links n =
    (i : ℕ) (d : Link) → i < n → ¬ Connected (take i links) (get_or links i d).a.0 (get_or links i d).b.0

-- the first link whose ends have one leader closes a loop
pub loop-found : (links : List Link) (i : ℕ) (l : Link) (r s : ℕ) → IsLoopFreeTo links i → i < length links
    → Connected (take i links) (get_or links i l).a.0 r → Connected (take i links) (get_or links i l).b.0 s → r ≡ s
    → IsFirstLink ClosesLoop links (i + 1)
loop-found links i l r s free lt a b e =
    let F : ℕ → Type 0 = λ t. Connected (take i links) (get_or links i l).a.0 t in
    let c = connected-through (take i links) (get_or links i l).a.0 s (get_or links i l).b.0 (subst F e a)
    (connected-sym (take i links) (get_or links i l).b.0 s b) in
    let G : Link → Type 0 = λ m. Connected (take i links) m.a.0 m.b.0 in
    (i, refl, lt, (λ d. subst G (get_or_default links i l d lt) c), (λ j d less. free j d less))

-- one link more whose ends have two leaders
pub loop_free-step : (links : List Link) (leaders ranks : List ℕ) (count i : ℕ) (l : Link) (r s : ℕ)
    → HasComponents count (take i links) leaders ranks → length links < 65536 → IsLoopFreeTo links i
    → i < length links → r < length leaders → s < length leaders → r ≢ s → get_or leaders r 0 ≡ r
    → get_or leaders s 0 ≡ s → Connected (take i links) (get_or links i l).a.0 r
    → Connected (take i links) (get_or links i l).b.0 s
    → HasComponents count (take (i + 1) links) (joined_leaders leaders ranks r s) (joined_ranks ranks r s)
    × IsLoopFreeTo links (i + 1)
loop_free-step links leaders ranks count i l r s h few free lt lr ls ne er es a b =
    let back_b = connected-sym (take i links) (get_or links i l).b.0 s b in
    let apart : ¬ Connected (take i links) (get_or links i l).a.0 (get_or links i l).b.0 = λ c. ne
    (h.apart r s lr ls er es (connected-through (take i links) r (get_or links i l).b.0 s
    (connected-through (take i links) r (get_or links i l).a.0 (get_or links i l).b.0
    (connected-sym (take i links) (get_or links i l).a.0 r a) c) b)) in
    let F : Link → Type 0 = λ m. ¬ Connected (take i links) m.a.0 m.b.0 in
    let T : List Link → Type 0 = λ t. HasComponents count t (joined_leaders leaders ranks r s) (joined_ranks ranks r s) in
    let short : length (take i links) ≡ i = length-take-le i links (omega arith) in
    let joined = components-join count (take i links) (get_or links i l) leaders ranks r s h (omega (arith, short, few, lt)) lr ls ne er es a b in (
      subst T (sym (take_more links i l lt)) joined,
      (λ k d less. below_more (λ k. (d : Link)
          → ¬ Connected (take k links) (get_or links k d).a.0 (get_or links k d).b.0) i (λ k less d. free k d less)
          (λ d. subst F (get_or_default links i l d lt) apart) k less d),
    )

pub components-start : (count n : ℕ) (links : List Link) (leaders ranks : List ℕ) → n ≡ count
    → leaders ≡ range_with_len 0 (n + 1) → ranks ≡ replicate (n + 1) 0 → HasComponents count [] leaders ranks
    × IsLoopFreeTo links 0
components-start count n links leaders ranks e f g =
    let F : ℕ → Type 0 = λ t. HasComponents t [] leaders ranks in
    (subst F e (components-single n leaders ranks f g), (λ i d lt. absurd (omega (arith, lt))))

pub components-as : (count : ℕ) (links all : List Link) (i : ℕ) (leaders ranks leaders' ranks' : List ℕ)
    → HasComponents count links leaders ranks × IsLoopFreeTo all i → leaders' ≡ leaders → ranks' ≡ ranks
    → HasComponents count links leaders' ranks' × IsLoopFreeTo all i
components-as count links all i leaders ranks leaders' ranks' h e f = grind arith
