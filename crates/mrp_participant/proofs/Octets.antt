-- What is sent fits into a PDU, ascends by key, and isn't empty.
use Rattle.std.proofs.Common.{◌≡◌, ℕ, zero, suc, ◌+◌, ◌<◌, ◌≤◌, Bool, true, false, not, ◌&&◌, if◌then◌else◌, nat_le, ◌==◌, List, [], ◌∷◌, ◌++◌, filter, sum_by, refl, sym, ap, ◌∙◌, subst, arith, inl, inr}
use Rattle.std.specs.Prelude.{◌⊎◌}
use Rattle.std.specs.{declared.option.Option.Option, declared.option.Option.TheVariants.None, declared.option.Option.TheVariants.Some, declared.cmp.Ordering.Ordering, Cmp.IsTotalOrder, List.filter_map, List.cons_option, List.AllByRecursion}
use Rattle.std.proofs.lemmas.{List.Sums.sum_by-cons, List.Sums.sum_by-append, Bool.Decides.nat_tests}
use Rattle.srp_base.proofs.Lists.{Each-map}
use Rattle.srp_base.specs.declared.{numbers.Cs.Cs, mrp.MrpEvent.MrpEvent}
use Rattle.applicant.specs.declared.{AppEvent.AppEvent, Applicant.Applicant}
use Rattle.applicant.specs.declared.Applicant.TheVariants.{Vo, Vp, Vn, An, Aa, Qa, La}
use Rattle.registrar.specs.declared.RegEvent.TheVariants.{TxLeaveAll as RegTxLeaveAll}
use Rattle.mrp_participant.specs.declared.row.Row.{Row}
use Rattle.mrp_participant.specs.declared.sending_limit.SendingLimit.{SendingLimit}
use Rattle.mrp_participant.specs.{Ascends, key_of, with_applicant, registrar_takes, IsSplit, round, is_tried, rows_of_round, order, opportunity, said_at, row_event, sent_event, is_taken, limit_at, is_before, is_in_room, first_limit, none_tried}
use Rattle.mrp_participant.proofs.{Lookups.Ascends-kept, Lookups.filter-none, SendingLimitLemmas.In, SendingLimitLemmas.In-append, SendingLimitLemmas.Lined, SendingLimitLemmas.Ahead, SendingLimitLemmas.first_is_before, SendingLimitLemmas.lined_order, SendingLimitLemmas.of_round, SendingLimitLemmas.ahead_once, SendingLimitLemmas.not_ahead_of_itself, SendingLimitLemmas.in_order, SendingLimitLemmas.in_room, SendingLimitLemmas.filter_map-same}

-- ---- sums

sum_by-zero : {X : Type 0} (f : X → ℕ) (xs : List X) → AllByRecursion (λ x. f x ≡ 0) xs → sum_by f xs ≡ 0
sum_by-zero f [] h = refl
sum_by-zero f (x ∷ xs) h = let e = sum_by-cons f x xs in let rest = sum_by-zero f xs h.1 in let here = h.0 in omega arith

sum_by-same : {X : Type 0} (f g : X → ℕ) (xs : List X) → ((x : X) → In x xs → f x ≡ g x) → sum_by f xs ≡ sum_by g xs
sum_by-same f g [] h = refl
sum_by-same f g (x ∷ xs) h = grind (arith, sum_by-same f g xs (λ y at. h y (inr at)), sum_by-cons)

filtered_by : {X : Type 0} (f : X → ℕ) (x : X) (xs ys : List X) (b : Bool) (rest : ℕ) → sum_by f ys ≡ rest
    → sum_by f (if b then x ∷ ys else ys) ≡ (if b then f x else 0) + rest
filtered_by f x xs ys true rest h = sum_by-cons f x ys ∙ ap (λ n. f x + n) h
filtered_by f x xs ys false rest h = let e : rest ≡ 0 + rest = omega arith in h ∙ e

sum_by-filtered : {X : Type 0} (f : X → ℕ) (p : X → Bool) (xs : List X) → sum_by f (filter p xs) ≡ sum_by (λ x. if p x then f x else 0) xs
sum_by-filtered f p [] = refl
sum_by-filtered f p (x ∷ xs) =
    filtered_by f x xs (filter p xs) (p x) (sum_by (λ x. if p x then f x else 0) xs) (sum_by-filtered f p xs)
    ∙ sym (sum_by-cons (λ x. if p x then f x else 0) x xs)

sum_by-three : {X : Type 0} (f g h k : X → ℕ) (xs : List X) → ((x : X) → f x + (g x + h x) ≡ k x) → sum_by f xs + (sum_by g xs + sum_by h xs) ≡ sum_by k xs
sum_by-three f g h k [] e = refl
sum_by-three f g h k (x ∷ xs) e = grind (arith, sum_by-three f g h k xs e, sum_by-cons)

kept_most_by : {X Y : Type 0} (f : X → ℕ) (g : Y → ℕ) (x : X) (new : Option Y) (ys : List Y) (rest : ℕ)
    → ((y : Y) → new ≡ Some y → g y ≤ f x) → sum_by g ys ≤ rest → sum_by g (cons_option new ys) ≤ f x + rest
kept_most_by f g x None ys rest h k = omega arith
kept_most_by f g x (Some y) ys rest h k = let e = sum_by-cons g y ys in let here = h y refl in omega arith

sum_by-kept : {X Y : Type 0} (f : X → ℕ) (g : Y → ℕ) (keep : X → Option Y) (xs : List X)
    → ((x : X) (y : Y) → keep x ≡ Some y → g y ≤ f x) → sum_by g (filter_map keep xs) ≤ sum_by f xs
sum_by-kept f g keep [] h = omega arith
sum_by-kept f g keep (x ∷ xs) h = grind (arith, sum_by-kept f g keep xs h, sum_by-cons, kept_most_by)

-- a number in its round, and none in the others
in_one_round : (n w : ℕ) → n ≤ 3 → (n ≡ 0 → w ≡ 0) → (if n == 1 then w else 0) + ((if n == 2 then w else 0) + (if n == 3 then w else 0)) ≡ w
in_one_round zero w h k = sym (k refl)
in_one_round (suc zero) w h k = omega arith
in_one_round (suc (suc zero)) w h k = omega arith
in_one_round (suc (suc (suc zero))) w h k = omega arith
in_one_round (suc (suc (suc (suc n)))) w h k = absurd (omega arith)

three_rounds : (a : Bool) (b : Applicant) → round a b ≤ 3
three_rounds true Vo = omega arith
three_rounds true _ = omega arith
three_rounds false Vo = omega arith
three_rounds false _ = omega arith

module _ {K C : Type 0} {cmp : K → K → Ordering} (o : IsTotalOrder cmp) (leave_all : Bool) (octets : C → ℕ) where
  -- the octets of a row that is before a limit
  abbrev weight : Option (SendingLimit K) → Row K C → ℕ
  weight limit r = if is_before cmp leave_all limit r then octets r.content else 0

  room_left_by : (used : ℕ) (x : Row K C) (xs : List (Row K C)) (b : Bool) → nat_le (used + octets x.content) 1500 ≡ b
      → AllByRecursion (Ahead o leave_all octets x) xs → used ≤ 1500
      → (used + octets x.content ≤ 1500 → used + octets x.content + sum_by
      (weight (first_limit leave_all octets (used + octets x.content) xs)) xs ≤ 1500)
      → used + sum_by (weight (if b then first_limit leave_all octets (used + octets x.content) xs else Some
      (limit_at leave_all x))) (x ∷ xs) ≤ 1500
  room_left_by used x xs true fits ahead room rest =
      let limit : Option (SendingLimit K) = first_limit leave_all octets (used + octets x.content) xs in
      let e = sum_by-cons (weight limit) x xs in
      let here : weight limit x ≡ octets x.content = ap (λ b. if b then octets x.content else 0)
      (first_is_before o leave_all octets (used + octets x.content) xs x ahead) in
      let bound : used + octets x.content ≤ 1500 = grind (arith, nat_tests) in
      let whole = rest bound in
      omega arith
  room_left_by used x xs false fits ahead room rest =
      let limit : Option (SendingLimit K) = Some (limit_at leave_all x) in
      let e = sum_by-cons (weight limit) x xs in
      let here : weight limit x ≡ 0 = ap (λ b. if b then octets x.content else 0) (not_ahead_of_itself o leave_all octets x) in
      let later : sum_by (weight limit) xs ≡ 0 = sum_by-zero (weight limit) xs (nothing xs ahead) in
      omega arith
    where
      nothing : (ys : List (Row K C)) → AllByRecursion (Ahead o leave_all octets x) ys → AllByRecursion (λ y. weight (Some (limit_at leave_all x)) y ≡ 0) ys
      nothing [] h = tt
      nothing (y ∷ ys) h = (ap (λ b. if b then octets y.content else 0) (ahead_once o leave_all octets x y h.0), nothing ys h.1)

  room_left : (used : ℕ) (xs : List (Row K C)) → Lined (Ahead o leave_all octets) xs → used ≤ 1500
      → used + sum_by (weight (first_limit leave_all octets used xs)) xs ≤ 1500
  room_left used [] lined room = omega arith
  room_left used (x ∷ xs) lined room =
      room_left_by used x xs (nat_le (used + octets x.content) 1500) refl lined.0 room (λ more. room_left (used + octets x.content) xs lined.1 more)

  -- the octets of a row that is tried, and before a limit
  abbrev share : Option (SendingLimit K) → Row K C → ℕ
  share limit r = if is_in_room cmp leave_all limit r then octets r.content else 0

  tried_of_round : (n : ℕ) (r : Row K C) (rows : List (Row K C)) → 0 < n → In r (rows_of_round leave_all n rows) → is_tried leave_all r ≡ true
  tried_of_round n r rows positive at =
      let e : round leave_all r.applicant ≡ n = (of_round o leave_all octets n rows r at).0 in
      grind (arith, nat_tests)

  pub tried_in_order : (r : Row K C) (rows : List (Row K C)) → In r (order leave_all rows) → (is_tried leave_all r ≡ true) × In r rows
  tried_in_order r rows at = by_round (In-append r (rows_of_round leave_all 1 rows) (rows_of_round leave_all 2 rows ++ rows_of_round leave_all 3 rows) at)
    where
      late : In r (rows_of_round leave_all 2 rows) ⊎ In r (rows_of_round leave_all 3 rows) → (is_tried leave_all r ≡ true) × In r rows
      late (inl h) = (tried_of_round 2 r rows (omega arith) h, (of_round o leave_all octets 2 rows r h).1)
      late (inr h) = (tried_of_round 3 r rows (omega arith) h, (of_round o leave_all octets 3 rows r h).1)

      by_round : In r (rows_of_round leave_all 1 rows)
          ⊎ In r (rows_of_round leave_all 2 rows ++ rows_of_round leave_all 3 rows) → (is_tried leave_all r ≡ true)
          × In r rows
      by_round (inl h) = (tried_of_round 1 r rows (omega arith) h, (of_round o leave_all octets 1 rows r h).1)
      by_round (inr h) = late (In-append r (rows_of_round leave_all 2 rows) (rows_of_round leave_all 3 rows) h)

  untried_share : (limit : Option (SendingLimit K)) (r : Row K C) → round leave_all r.applicant ≡ 0 → share limit r ≡ 0
  untried_share limit r e = ap (λ n. if not (n == 0) && is_before cmp leave_all limit r then octets r.content else 0) e

  shares : (limit : Option (SendingLimit K)) (rows : List (Row K C)) → sum_by (share limit) (order leave_all rows) ≡ sum_by (share limit) rows
  shares limit rows =
      let first = sum_by-append (share limit) (rows_of_round leave_all 1 rows) (rows_of_round leave_all 2 rows ++ rows_of_round leave_all 3 rows) in
      let second = sum_by-append (share limit) (rows_of_round leave_all 2 rows) (rows_of_round leave_all 3 rows) in
      let one = sum_by-filtered (share limit) (λ r. round leave_all r.applicant == 1) rows in
      let two = sum_by-filtered (share limit) (λ r. round leave_all r.applicant == 2) rows in
      let three = sum_by-filtered (share limit) (λ r. round leave_all r.applicant == 3) rows in
      let whole =
      sum_by-three (λ (r : Row K C). if round leave_all r.applicant == 1 then share limit r else 0)
      (λ r. if round leave_all r.applicant == 2 then share limit r else 0)
      (λ r. if round leave_all r.applicant == 3 then share limit r else 0) (share limit) rows
      (λ r. in_one_round (round leave_all r.applicant) (share limit r) (three_rounds leave_all r.applicant) (untried_share limit r)) in
      omega arith

  all_room_left : (base : ℕ) (rows : List (Row K C)) → Ascends cmp key_of rows → base ≤ 1500
      → base + sum_by (share (first_limit leave_all octets base (order leave_all rows))) rows ≤ 1500
  all_room_left base rows up room =
      let limit : Option (SendingLimit K) = first_limit leave_all octets base (order leave_all rows) in
      let tried : sum_by (weight limit) (order leave_all rows) ≡ sum_by (share limit) (order leave_all rows) =
      sum_by-same (weight limit) (share limit) (order leave_all rows)
      (λ r at. ap (λ t. if t && is_before cmp leave_all limit r then octets r.content else 0) (sym (tried_in_order r rows at).0)) in
      let same_rows = shares limit rows in
      let left = room_left base (order leave_all rows) (lined_order o leave_all octets rows up) room in
      omega arith

-- ---- what is kept of a list

some_is : {X : Type 0} (a b : X) → Some a ≡ Some b → a ≡ b
some_is a b h = cc

nonempty_first : {X : Type 0} (new : Option X) (y : X) (rest : List X) → new ≡ Some y → cons_option new rest ≡ [] → ⊥
nonempty_first None y rest k e = cc
nonempty_first (Some w) y rest k e = cc

nonempty_later : {X : Type 0} (new : Option X) (rest : List X) → (rest ≡ [] → ⊥) → cons_option new rest ≡ [] → ⊥
nonempty_later None rest not_empty e = not_empty e
nonempty_later (Some w) rest not_empty e = cc

kept_is_not_empty : {X Y : Type 0} (f : X → Option Y) (x : X) (y : Y) (xs : List X) → In x xs → f x ≡ Some y → filter_map f xs ≡ [] → ⊥
kept_is_not_empty f x y [] at h e = at
kept_is_not_empty f x y (z ∷ xs) (inl is) h e = nonempty_first (f z) y (filter_map f xs) (ap f (sym is) ∙ h) e
kept_is_not_empty f x y (z ∷ xs) (inr at) h e = nonempty_later (f z) (filter_map f xs) (kept_is_not_empty f x y xs at h) e

-- ---- what a row says

module _ {K C : Type 0} where
  -- with LeaveAll a row that isn't taken says nothing
  untaken_by : (leave : Cs) (r : Row K C) (a : Applicant) → sent_event true false leave (with_applicant a r) ≡ None
  untaken_by leave r Vo = refl
  untaken_by leave r Vp = refl
  untaken_by leave r Vn = refl
  untaken_by leave r An = refl
  untaken_by leave r Aa = refl
  untaken_by leave r Qa = refl
  untaken_by leave r La = refl

  untaken_is_silent : (leave_all : Bool) (leave : Cs) (r : Row K C) → sent_event leave_all false leave r ≡ None
  untaken_is_silent true leave r = untaken_by leave r r.applicant
  untaken_is_silent false leave r = refl

  event_is : (r : Row K C) (m : Option MrpEvent) (e : MrpEvent × K × C) → row_event r m ≡ Some e → (e.1 ≡ r.key) × (e.2 ≡ r.content)
  event_is r None e h = cc
  event_is r (Some event) e h = let is = some_is (
    event,
    r.key,
    r.content,
  ) e h in (ap (λ (x : MrpEvent × K × C). x.1) (sym is), ap (λ (x : MrpEvent × K × C). x.2) (sym is))

  said_is : (opportunity_of : Option AppEvent) (r : Row K C) (e : MrpEvent × K × C) → said_at opportunity_of r ≡ Some e → (e.1 ≡ r.key) × (e.2 ≡ r.content)
  said_is None r e h = cc
  said_is (Some event) r e h = event_is r _ e h

  pub sent_is : (leave_all taken : Bool) (leave : Cs) (r : Row K C) (e : MrpEvent × K × C)
      → sent_event leave_all taken leave r ≡ Some e → (e.1 ≡ r.key) × (e.2 ≡ r.content)
  sent_is true taken leave r e h = said_is (opportunity true taken r) (registrar_takes RegTxLeaveAll leave r) e h
  sent_is false taken leave r e h = said_is (opportunity false taken r) r e h

  only_taken : (leave_all taken : Bool) (leave : Cs) (r : Row K C) (e : MrpEvent × K × C) → sent_event leave_all taken leave r ≡ Some e → taken ≡ true
  only_taken leave_all true leave r e h = refl
  only_taken leave_all false leave r e h = let silent = untaken_is_silent leave_all leave r in cc

  -- the events ascend by key
  pub events-ascend : (cmp : K → K → Ordering) (leave_all : Bool) (taken : Row K C
      → Bool) (leave : Cs) (rows : List (Row K C)) → Ascends cmp key_of rows
      → Ascends cmp (λ e. e.1) (filter_map (λ r. sent_event leave_all (taken r) leave r) rows)
  events-ascend cmp leave_all taken leave rows up =
      Ascends-kept cmp key_of (λ e. e.1) (λ r. sent_event leave_all (taken r) leave r) (λ r e h. (sent_is leave_all (taken r) leave r e h).0) rows up

  -- a taken row without LeaveAll says something
  says_by : (leave : Cs) (r : Row K C) (a : Applicant) → not (round false a == 0) ≡ true → (e : MrpEvent × K × C)
      × (sent_event false true leave (with_applicant a r) ≡ Some e)
  says_by leave r Vo h = cc
  says_by leave r Vp h = (_, refl)
  says_by leave r Vn h = (_, refl)
  says_by leave r An h = (_, refl)
  says_by leave r Aa h = (_, refl)
  says_by leave r Qa h = cc
  says_by leave r La h = (_, refl)

module _ {K C : Type 0} {cmp : K → K → Ordering} (o : IsTotalOrder cmp) (octets : C → ℕ) (base : ℕ) where
  -- what is sent fits into a PDU
  share_of : (leave_all : Bool) (limit : Option (SendingLimit K)) (leave : Cs) (r : Row K C) (e : MrpEvent × K × C)
      → sent_event leave_all (is_in_room cmp leave_all limit r) leave r ≡ Some e
      → octets e.2 ≤ share o leave_all octets limit r
  share_of leave_all limit leave r e h = grind (arith, only_taken)

  pub events-fit : (leave_all : Bool) (leave : Cs) (rows : List (Row K C)) → Ascends cmp key_of rows → base ≤ 1500
      → base + sum_by (λ (e : MrpEvent × K × C). octets e.2)
      (filter_map (λ r. sent_event leave_all (is_taken base octets cmp leave_all rows r) leave r) rows) ≤ 1500
  events-fit leave_all leave rows up room =
      let limit : Option (SendingLimit K) = first_limit leave_all octets base (order leave_all rows) in
      let left = all_room_left o leave_all octets base rows up room in
      let most = sum_by-kept (share o leave_all octets limit) (λ (e : MrpEvent × K × C). octets e.2)
      (λ r. sent_event leave_all (is_in_room cmp leave_all limit r) leave r) rows
      (λ r e h. share_of leave_all limit leave r e h) in
      let same_events =
      ap (sum_by (λ (e : MrpEvent × K × C). octets e.2))
      (filter_map-same (λ r. sent_event leave_all (is_in_room cmp leave_all limit r) leave r)
      (λ r. sent_event leave_all (is_taken base octets cmp leave_all rows r) leave r) rows
      (λ r at. ap (λ t. sent_event leave_all t leave r) (in_room o leave_all octets base rows r up at))) in
      omega arith

  -- a row that is tried is found where not none is
  tried_by : (r : Row K C) (rows : List (Row K C)) (b : Bool) → is_tried false r ≡ b
      → (not b && none_tried rows) ≡ false → (none_tried rows ≡ false → (s : Row K C) × In s rows
      × (is_tried false s ≡ true)) → (s : Row K C) × In s (r ∷ rows) × (is_tried false s ≡ true)
  tried_by r rows true e h rest = (r, inl refl, e)
  tried_by r rows false e h rest = let found = rest h in (found.0, inr found.1, found.2)

  some_tried : (rows : List (Row K C)) → none_tried rows ≡ false → (s : Row K C) × In s rows × (is_tried false s ≡ true)
  some_tried [] h = cc
  some_tried (r ∷ rows) h = tried_by r rows (is_tried false r) refl h (some_tried rows)

  -- the first row of an order finds room
  first_by : (xs : List (Row K C)) (r : Row K C) → In r xs → Lined (Ahead o false octets) xs
      → ((c : C) → base + octets c ≤ 1500) → (x : Row K C) × In x xs
      × (is_before cmp false (first_limit false octets base xs) x ≡ true)
  first_by [] r at lined fits = absurd at
  first_by (x ∷ xs) r at lined fits = (x, inl refl, found)
    where
      room : nat_le (base + octets x.content) 1500 ≡ true
      room = let bound = fits x.content in grind (arith, nat_tests)

      found : is_before cmp false (first_limit false octets base (x ∷ xs)) x ≡ true
      found = rw room (first_is_before o false octets (base + octets x.content) xs x lined.0)

  -- without LeaveAll something is said where not none is tried
  pub events-are_some : (leave : Cs) (rows : List (Row K C)) → Ascends cmp key_of rows
      → ((c : C) → base + octets c ≤ 1500) → none_tried rows ≡ false
      → filter_map (λ r. sent_event false (is_taken base octets cmp false rows r) leave r) rows ≡ [] → ⊥
  events-are_some leave rows up fits some empty =
      let tried = some_tried rows some in
      let first = first_by (order false rows) tried.0 (in_order o false octets tried.0 rows tried.2 tried.1) (lined_order o false octets rows up) fits in
      let member = tried_in_order o false octets first.0 rows first.1 in
      let limit : Option (SendingLimit K) = first_limit false octets base (order false rows) in
      let here : is_in_room cmp false limit first.0 ≡ is_before cmp false limit first.0 = ap (λ b. b && is_before cmp false limit first.0) member.0 in
      let test : is_taken base octets cmp false rows first.0
      ≡ is_in_room cmp false limit first.0 = sym (in_room o false octets base rows first.0 up member.1) in
      let taken : is_taken base octets cmp false rows first.0 ≡ true = test ∙ (here ∙ first.2) in
      let said = says_by leave first.0 first.0.applicant member.0 in
      let says : sent_event false (is_taken base octets cmp false rows first.0) leave first.0 ≡ Some said.0 =
      subst (λ t. sent_event false t leave first.0 ≡ Some said.0) (sym taken) said.1 in
      kept_is_not_empty (λ r. sent_event false (is_taken base octets cmp false rows r) leave r) first.0 said.0 rows member.1 says empty

-- ---- the rows that are taken are a split of the order

filter-all : {X : Type 0} (p : X → Bool) (xs : List X) → AllByRecursion (λ x. p x ≡ true) xs → filter p xs ≡ xs
filter-all p [] h = refl
filter-all p (x ∷ xs) h = ap (λ b. if b then x ∷ filter p xs else filter p xs) h.0 ∙ ap (λ l. x ∷ l) (filter-all p xs h.1)

filter-same : {X : Type 0} (p q : X → Bool) (xs : List X) → ((x : X) → In x xs → p x ≡ q x) → filter p xs ≡ filter q xs
filter-same p q [] h = refl
filter-same p q (x ∷ xs) h = grind (arith, filter-same p q xs (λ y at. h y (inr at)))

first_of : {X : Type 0} (x y : X) (xs ys : List X) → x ∷ xs ≡ y ∷ ys → x ≡ y
first_of x y xs ys h = cc

module _ {K C : Type 0} (octets : C → ℕ) where
  split_more : (used : ℕ) (x : Row K C) (xs front rest : List (Row K C))
      → IsSplit (used + octets x.content) octets xs front rest → IsSplit used octets (x ∷ xs) (x ∷ front) rest
  split_more used x xs front rest split =
      let e = sum_by-cons (λ (r : Row K C). octets r.content) x front in
      record {
        joined = ap (λ l. x ∷ l) split.joined;
        fits = let room = split.fits in omega arith;
        full = λ next more h. let bound = split.full next more h in omega arith;
      }

  split_here : (used : ℕ) (x : Row K C) (xs : List (Row K C)) → used ≤ 1500
      → nat_le (used + octets x.content) 1500 ≡ false → IsSplit used octets (x ∷ xs) [] (x ∷ xs)
  split_here used x xs room full = grind (arith, nat_tests, first_of)

module _ {K C : Type 0} {cmp : K → K → Ordering} (o : IsTotalOrder cmp) (leave_all : Bool) (octets : C → ℕ) where
  abbrev before : Option (SendingLimit K) → Row K C → Bool
  before limit r = is_before cmp leave_all limit r

  abbrev after_it : Option (SendingLimit K) → Row K C → Bool
  after_it limit r = not (is_before cmp leave_all limit r)

  splits_by : (used : ℕ) (x : Row K C) (xs : List (Row K C)) (b : Bool) → nat_le (used + octets x.content) 1500 ≡ b
      → AllByRecursion (Ahead o leave_all octets x) xs → used ≤ 1500
      → (used + octets x.content ≤ 1500 → IsSplit (used + octets x.content) octets xs
      (filter (before (first_limit leave_all octets (used + octets x.content) xs)) xs)
      (filter (after_it (first_limit leave_all octets (used + octets x.content) xs)) xs))
      → IsSplit used octets (x ∷ xs) (filter (before (if b then first_limit leave_all octets
      (used + octets x.content) xs else Some (limit_at leave_all x))) (x ∷ xs))
      (filter (after_it (if b then first_limit leave_all octets (used + octets x.content) xs else Some
      (limit_at leave_all x))) (x ∷ xs))
  splits_by used x xs true fits ahead room rest =
      let limit : Option (SendingLimit K) = first_limit leave_all octets (used + octets x.content) xs in
      let here : before limit x ≡ true = first_is_before o leave_all octets (used + octets x.content) xs x ahead in
      let bound : used + octets x.content ≤ 1500 = grind (arith, nat_tests) in
      let front : filter (before limit) (x ∷ xs)
      ≡ x ∷ filter (before limit) xs = ap (λ b. if b then x ∷ filter (before limit) xs else filter
      (before limit) xs) here in
      let back : filter (after_it limit) (x ∷ xs)
      ≡ filter (after_it limit) xs = ap (λ b. if not b then x ∷ filter (after_it limit) xs else filter
      (after_it limit) xs) here in
      subst (λ f. IsSplit used octets (x ∷ xs) f (filter (after_it limit) (x ∷ xs))) (sym front)
      (subst (λ g. IsSplit used octets (x ∷ xs) (x ∷ filter (before limit) xs) g) (sym back) (split_more octets used x xs _ _ (rest bound)))
  splits_by used x xs false fits ahead room rest =
      let limit : Option (SendingLimit K) = Some (limit_at leave_all x) in
      let none : AllByRecursion (λ y. before limit y ≡ false) (x ∷ xs) = (not_ahead_of_itself o leave_all octets x, late xs ahead) in
      let front : filter (before limit) (x ∷ xs) ≡ [] = filter-none (before limit) (x ∷ xs) none in
      let back : filter (after_it limit) (x ∷ xs) ≡ x ∷ xs = filter-all (after_it limit) (x ∷ xs) (Each-map _ _ (λ y h. ap not h) (x ∷ xs) none) in
      subst (λ f. IsSplit used octets (x ∷ xs) f (filter (after_it limit) (x ∷ xs))) (sym front)
      (subst (λ g. IsSplit used octets (x ∷ xs) [] g) (sym back) (split_here octets used x xs room fits))
    where
      late : (ys : List (Row K C)) → AllByRecursion (Ahead o leave_all octets x) ys → AllByRecursion (λ y. before (Some (limit_at leave_all x)) y ≡ false) ys
      late [] h = tt
      late (y ∷ ys) h = (ahead_once o leave_all octets x y h.0, late ys h.1)

  splits : (used : ℕ) (xs : List (Row K C)) → Lined (Ahead o leave_all octets) xs → used ≤ 1500
      → IsSplit used octets xs (filter (before (first_limit leave_all octets used xs)) xs)
      (filter (after_it (first_limit leave_all octets used xs)) xs)
  splits used [] lined room = record { joined = refl; fits = omega arith; full = λ next more h. cc }
  splits used (x ∷ xs) lined room = splits_by used x xs (nat_le (used + octets x.content) 1500) refl lined.0 room
      (λ more. splits (used + octets x.content) xs lined.1 more)

  taken_in_order : (base : ℕ) (rows : List (Row K C)) → Ascends cmp key_of rows → (r : Row K C)
      → In r (order leave_all rows) → before (first_limit leave_all octets base (order leave_all rows)) r
      ≡ is_taken base octets cmp leave_all rows r
  taken_in_order base rows up r at =
      let member = tried_in_order o leave_all octets r rows at in
      let limit : Option (SendingLimit K) = first_limit leave_all octets base (order leave_all rows) in
      let tried : before limit r ≡ is_in_room cmp leave_all limit r = ap (λ t. t && is_before cmp leave_all limit r) (sym member.0) in
      tried ∙ in_room o leave_all octets base rows r up member.1

  -- the rows that are taken are the front of the order that fits
  pub taken-split : (base : ℕ) (rows : List (Row K C)) → Ascends cmp key_of rows → base ≤ 1500
      → IsSplit base octets (order leave_all rows)
      (filter (is_taken base octets cmp leave_all rows) (order leave_all rows))
      (filter (λ r. not (is_taken base octets cmp leave_all rows r)) (order leave_all rows))
  taken-split base rows up room =
      let limit : Option (SendingLimit K) = first_limit leave_all octets base (order leave_all rows) in
      let front = filter-same (before limit) (is_taken base octets cmp leave_all rows) (order leave_all rows) (taken_in_order base rows up) in
      let back = filter-same (after_it limit) (λ r. not (is_taken base octets cmp leave_all rows r))
      (order leave_all rows) (λ r at. ap not (taken_in_order base rows up r at)) in
      subst (λ f. IsSplit base octets (order leave_all rows) f (filter (λ r. not (is_taken base octets cmp leave_all rows r)) (order leave_all rows))) front
      (subst (λ g. IsSplit base octets (order leave_all rows) (filter (before limit) (order leave_all rows)) g) back
      (splits base (order leave_all rows) (lined_order o leave_all octets rows up) room))
