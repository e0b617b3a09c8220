-- An outlook of all rows: how it goes on being theirs, and what it says of them.
use Rattle.std.proofs.Common.{◌≡◌, ℕ, ◌+◌, ◌^◌, ◌<◌, ◌≤◌, Bool, true, false, not, ◌&&◌, ◌||◌, cond, if◌then◌else◌, nat_lt, nat_le, ◌==◌, List, [], ◌∷◌, ◌++◌, length, take, drop, drop-cons, get_or, suc, refl, sym, ap, ◌∙◌, subst, arith, is_none}
use Rattle.std.specs.Prelude.{count_by}
use Rattle.std.proofs.lemmas.{Bool.Decides.nat_tests, List.take-append-drop, List.take_more, List.append-nil, List.length-take-le, List.Sums.sum_by-append, List.Sums.sum_by-cons, List.Sums.count_by-le-length}
use Rattle.std.specs.{declared.option.Option.Option, declared.option.Option.TheVariants.None, declared.option.Option.TheVariants.Some, List.AllByRecursion, List.list_any, List.list_all}
use Rattle.srp_base.proofs.Lists.{Each-map}
use Rattle.srp_base.specs.declared.numbers.Cs.{Cs}
use Rattle.applicant.specs.declared.Applicant.{Applicant}
use Rattle.applicant.specs.declared.Applicant.TheVariants.{Vo, Vp, Vn, An, Aa, Qa, La}
use Rattle.mrp_participant.specs.declared.row.Row.{Row}
use Rattle.mrp_participant.specs.declared.outlook.Outlook.{Outlook}
use Rattle.registrar.specs.Table.{is_leaving}
use Rattle.applicant.specs.Table.{is_quiet}
use Rattle.mrp_participant.specs.{leave_is_due, ends_at, IsFirstLeave, Tells, has_one, IsOutlook, firsts, first_with, outlook_with, HasRoom, first_without, outlook_without, IsCounted, Counts, is_by, is_at_rest, round, is_tried, none_tried, all_settled}

-- ---- one element more or less

module _ {X : Type 0} where
  each-among : (P : X → Type 0) (xs : List X) (x : X) (ys : List X) → P x → AllByRecursion P (xs ++ ys) → AllByRecursion P (xs ++ x ∷ ys)
  each-among P [] x ys p h = (p, h)
  each-among P (z ∷ xs) x ys p h = (h.0, each-among P xs x ys p h.1)

  each-others : (P : X → Type 0) (xs : List X) (x : X) (ys : List X) → AllByRecursion P (xs ++ x ∷ ys) → P x × AllByRecursion P (xs ++ ys)
  each-others P [] x ys h = h
  each-others P (z ∷ xs) x ys h = let rest = each-others P xs x ys h.1 in (rest.0, (h.0, rest.1))

  count-among : (p : X → Bool) (xs : List X) (x : X) (ys : List X) → count_by p (xs ++ x ∷ ys) ≡ count_by p (xs ++ ys) + cond (p x) 1 0
  count-among p xs x ys =
      let f : X → ℕ = λ y. cond (p y) 1 0 in
      omega (arith, sum_by-append f xs (x ∷ ys), sum_by-cons f x ys, sum_by-append f xs ys)

  count-none : (p : X → Bool) (xs : List X) → AllByRecursion (λ x. p x ≡ false) xs → count_by p xs ≡ 0
  count-none p [] h = refl
  count-none p (x ∷ xs) h = sum_by-cons (λ y. cond (p y) 1 0) x xs ∙ (ap {B = ℕ} (λ b. cond b 1 0 + count_by p xs) h.0 ∙ (omega (arith, count-none p xs h.1)))

  length-among : (xs : List X) (x : X) (ys : List X) → length (xs ++ x ∷ ys) ≡ length (xs ++ ys) + 1
  length-among [] x ys = omega arith
  length-among (z ∷ xs) x ys = omega (arith, length-among xs x ys)

-- ---- the first moment

never_at_by : (t leave : Cs) (b : Bool) → (b ≡ true → t.0 < leave.0) → (b && (t.0 == leave.0)) ≡ false
never_at_by t leave false below = refl
never_at_by t leave true below = let less = below refl in grind (arith, nat_tests)

counted_by : (p : Cs × ℕ) (t : Cs) (before same : Bool) → nat_lt 0 p.1 ≡ true
    → nat_lt 0 (if before then (t, 1) else (if same then (p.0, p.1 + 1) else p)).1 ≡ true
counted_by p t true same h = refl
counted_by p t false true h = grind (arith, nat_tests)
counted_by p t false false h = h

one-more : (first : Option (Cs × ℕ)) (t : Cs) (b : Bool) → has_one first ≡ true → has_one (if b then Some (first_with first t) else first) ≡ true
one-more first t false h = h
one-more None t true h = refl
one-more (Some p) t true h = counted_by p t (nat_lt t.0 p.0.0) (t.0 == p.0.0) h

module _ {K C : Type 0} where
  -- ---- one row less

  first-less : (first : Option (Cs × ℕ)) (xs : List (Row K C)) (r : Row K C) (ys : List (Row K C))
      → IsFirstLeave first (xs ++ r ∷ ys) → IsFirstLeave (first_without first r) (xs ++ ys) × IsCounted first r
  first-less None xs r ys h = ((each-others (λ q. is_leaving q.registrar ≡ false) xs r ys h).1, tt)
  first-less (Some p) xs r ys h =
      let all = count-among (ends_at p.0) xs r ys in
      ((omega (arith, h.0, all), (each-others (λ (q : Row K C). is_leaving q.registrar ≡ true → p.0.0 ≤ q.leave.0) xs r ys h.1).1), omega (arith, h.0, all))

  tells-less : (o : Outlook) (xs : List (Row K C)) (r : Row K C) (ys : List (Row K C)) → Tells o (xs ++ r ∷ ys)
      → Tells (outlook_without o r) (xs ++ ys) × Counts o r
  tells-less o xs r ys h =
      let first = first-less o.first_leave xs r ys h.first in
      let all = count-among (λ q. is_tried false q) xs r ys in
      (record { first = first.0; tried = omega (arith, h.tried, all) }, (first.1, omega (arith, h.tried, all)))

  -- ---- one row more

  -- where no timer ends before a moment, none ends at an earlier one
  never_at : (t first : Cs) (rows : List (Row K C)) → t.0 < first.0
      → AllByRecursion (λ (q : Row K C). is_leaving q.registrar ≡ true → first.0 ≤ q.leave.0) rows
      → count_by (ends_at t) rows ≡ 0
  never_at t first rows less h = grind (arith, count-none, Each-map, never_at_by)

  ends_itself : (r : Row K C) → is_leaving r.registrar ≡ true → ends_at r.leave r ≡ true
  ends_itself r e = ap (λ b. b && (r.leave.0 == r.leave.0)) e ∙ grind (arith, nat_tests)

  earlier_by : (p : Cs × ℕ) (xs : List (Row K C)) (r : Row K C) (ys : List (Row K C)) (before same : Bool)
      → is_leaving r.registrar ≡ true → nat_lt r.leave.0 p.0.0 ≡ before → (r.leave.0 == p.0.0) ≡ same
      → IsFirstLeave (Some p) (xs ++ ys)
      → IsFirstLeave (Some (if before then (r.leave, 1) else (if same then (p.0, p.1 + 1) else p))) (xs ++ r ∷ ys)
  earlier_by p xs r ys true same e lt eq h =
      let less : r.leave.0 < p.0.0 = grind (arith, nat_tests) in (
        omega (arith, count-among (ends_at r.leave) xs r ys, never_at r.leave p.0 (xs ++ ys) less h.1, ap {B = ℕ} (λ b. cond b 1 0) (ends_itself r e)),
        each-among _ xs r ys (λ leaving. omega arith) (Each-map _ _ (λ q from leaving. let after = from leaving in omega arith) (xs ++ ys) h.1),
      )
  earlier_by p xs r ys false true e lt eq h =
      let one : p.0.0 ≡ r.leave.0 = grind (arith, nat_tests) in
      let ends : ends_at p.0 r ≡ true = ap (λ b. b && (p.0.0 == r.leave.0)) e ∙ grind (arith, nat_tests) in
      (omega (arith, h.0, count-among (ends_at p.0) xs r ys, ap {B = ℕ} (λ b. cond b 1 0) ends), each-among _ xs r ys (λ leaving. omega arith) h.1)
  earlier_by p xs r ys false false e lt eq h =
      let later : p.0.0 < r.leave.0 = grind (arith, nat_tests) in
      let ends : ends_at p.0 r ≡ false = never_at_by p.0 r.leave (is_leaving r.registrar) (λ leaving. later) in
      (omega (arith, h.0, count-among (ends_at p.0) xs r ys, ap {B = ℕ} (λ b. cond b 1 0) ends), each-among _ xs r ys (λ leaving. omega arith) h.1)

  first-more_by : (first : Option (Cs × ℕ)) (xs : List (Row K C)) (r : Row K C) (ys : List (Row K C)) (b : Bool)
      → is_leaving r.registrar ≡ b → IsFirstLeave first (xs ++ ys)
      → IsFirstLeave (if b then Some (first_with first r.leave) else first) (xs ++ r ∷ ys)
  first-more_by None xs r ys false e h = each-among _ xs r ys e h
  first-more_by (Some p) xs r ys false e h = (
    omega (
      arith,
      h.0,
      count-among (ends_at p.0) xs r ys,
      ap {B = ℕ} (λ b. cond (b && (p.0.0 == r.leave.0)) 1 0) e,
    ),
    each-among _ xs r ys (λ leaving. absurd cc) h.1,
  )
  first-more_by None xs r ys true e h =
      let none : count_by (ends_at r.leave) (xs ++ ys)
      ≡ 0 = count-none (ends_at r.leave) (xs ++ ys)
      (Each-map _ _ (λ q still. ap (λ b. b && (r.leave.0 == q.leave.0)) still) (xs ++ ys) h) in (
        omega (arith, count-among (ends_at r.leave) xs r ys, none, ap {B = ℕ} (λ b. cond b 1 0) (ends_itself r e)),
        each-among _ xs r ys (λ leaving. omega arith) (Each-map _ _ (λ q still leaving. absurd cc) (xs ++ ys) h),
      )
  first-more_by (Some p) xs r ys true e h = earlier_by p xs r ys (nat_lt r.leave.0 p.0.0) (r.leave.0 == p.0.0) e refl refl h

  tells-more : (o : Outlook) (xs : List (Row K C)) (r : Row K C) (ys : List (Row K C)) → Tells o (xs ++ ys) → Tells (outlook_with o r) (xs ++ r ∷ ys)
  tells-more o xs r ys h =
      record {
        first = first-more_by o.first_leave xs r ys (is_leaving r.registrar) refl h.first;
        tried = omega (arith, h.tried, count-among (λ q. is_tried false q) xs r ys);
      }

  -- an outlook of rows, and one row more
  outlook-more : (o : Outlook) (xs : List (Row K C)) (r : Row K C) (ys : List (Row K C)) → IsOutlook o (xs ++ ys) → IsOutlook (outlook_with o r) (xs ++ r ∷ ys)
  outlook-more o xs r ys h = (tells-more o xs r ys h.0, one-more o.first_leave r.leave (is_leaving r.registrar) h.1)

  firsts-few : (first : Option (Cs × ℕ)) (rows : List (Row K C)) → IsFirstLeave first rows → firsts first ≤ length rows
  firsts-few None rows h = omega arith
  firsts-few (Some p) rows h = omega (arith, h.0, count_by-le-length (ends_at p.0) rows)

  -- no count is more than the rows are
  room-for : (o : Outlook) (rows : List (Row K C)) → Tells o rows → length rows + 1 < 2 ^ 64 → HasRoom o
  room-for o rows h few = grind (arith, firsts-few, count_by-le-length)

  -- there is room for the row that a walk comes to
  pub room-walked : (o : Outlook) (rows : List (Row K C)) (i : ℕ) → i < length rows → length rows < 2 ^ 64 → IsOutlook o (take i rows) → HasRoom o
  room-walked o rows i below few h = room-for o (take i rows) h.0 (omega (arith, below, few, length-take-le i rows (omega (arith, below))))

  -- ---- a row in the place of another

  parts-at : (rows : List (Row K C)) (at : ℕ) (r : Row K C) → at < length rows → r ≡ get_or rows at r → rows ≡ take at rows ++ r ∷ drop (suc at) rows
  parts-at rows at r below is = grind (arith, take-append-drop, drop-cons)

  pub without-at : (o : Outlook) (rows : List (Row K C)) (at : ℕ) (r : Row K C) → at < length rows
      → r ≡ get_or rows at r → Tells o rows → Tells (outlook_without o r) (take at rows ++ drop (suc at) rows)
      × Counts o r
  without-at o rows at r below is h = tells-less o (take at rows) r (drop (suc at) rows) (subst (Tells o) (parts-at rows at r below is) h)

  -- one row less is one less of all
  fewer-at : (rows : List (Row K C)) (at : ℕ) (r : Row K C) → at < length rows → r ≡ get_or rows at r
      → length (take at rows ++ drop (suc at) rows) + 1 ≡ length rows
  fewer-at rows at r below is = sym (length-among (take at rows) r (drop (suc at) rows)) ∙ ap length (sym (parts-at rows at r below is))

  -- there is room for a row where one was taken away
  pub room-at : (o others : Outlook) (rows : List (Row K C)) (at : ℕ) (r : Row K C) → at < length rows
      → r ≡ get_or rows at r → length rows < 2 ^ 64 → Tells o rows → others ≡ outlook_without o r → HasRoom others
  room-at o others rows at r below is few h less =
      subst HasRoom (sym less) (room-for (outlook_without o r) (take at rows ++ drop (suc at) rows)
      (without-at o rows at r below is h).0 (omega (arith, few, fewer-at rows at r below is)))

  -- the outlook where a row stands in the place of another
  pub replaced-some : (o others all : Outlook) (rows new : List (Row K C)) (at : ℕ) (r q : Row K C) → at < length rows
      → r ≡ get_or rows at r → Tells o rows → others ≡ outlook_without o r → all ≡ outlook_with others q
      → new ≡ take at rows ++ q ∷ drop (suc at) rows → Tells all new
  replaced-some o others all rows new at r q below is h less more new_is =
      subst (λ l. Tells all l) (sym new_is)
      (subst (λ x. Tells x (take at rows ++ q ∷ drop (suc at) rows)) (sym (more ∙ ap (λ x. outlook_with x q) less))
      (tells-more (outlook_without o r) (take at rows) q (drop (suc at) rows) (without-at o rows at r below is h).0))

  -- the outlook where a row was taken away
  pub replaced-none : (o others all : Outlook) (rows new : List (Row K C)) (at : ℕ) (r : Row K C) → at < length rows
      → r ≡ get_or rows at r → Tells o rows → others ≡ outlook_without o r → all ≡ others
      → new ≡ take at rows ++ drop (suc at) rows → Tells all new
  replaced-none o others all rows new at r below is h less same new_is =
      subst (λ l. Tells all l) (sym new_is)
      (subst (λ x. Tells x (take at rows ++ drop (suc at) rows)) (sym (same ∙ less)) (without-at o rows at r below is h).0)

  -- the outlook with a row put between others
  pub filled : (o later : Outlook) (rows new : List (Row K C)) (at : ℕ) (q : Row K C) → IsOutlook o rows
      → later ≡ outlook_with o q → new ≡ take at rows ++ q ∷ drop at rows → IsOutlook later new
  filled o later rows new at q h more new_is =
      subst (λ l. IsOutlook later l) (sym new_is)
      (subst (λ x. IsOutlook x (take at rows ++ q ∷ drop at rows)) (sym more)
      (outlook-more o (take at rows) q (drop at rows) (subst (IsOutlook o) (sym (take-append-drop at rows)) h)))

  -- there is room for a row that was put between others
  pub room-filled : (o : Outlook) (rows new : List (Row K C)) (at : ℕ) (q : Row K C) → Tells o rows
      → length new < 2 ^ 64 → new ≡ take at rows ++ q ∷ drop at rows → HasRoom o
  room-filled o rows new at q h few new_is = grind (arith, room-for, length-among, take-append-drop)

  -- ---- one walk over the rows

  pub walk-step : (o later : Outlook) (rows : List (Row K C)) (i : ℕ) (r : Row K C) → i < length rows
      → r ≡ get_or rows i r → later ≡ outlook_with o r → IsOutlook o (take i rows)
      → IsOutlook later (take (i + 1) rows)
  walk-step o later rows i r below is step h =
      subst (λ l. IsOutlook later l) (sym (take_more rows i r below ∙ ap (λ x. take i rows ++ x ∷ []) (sym is)))
      (subst (λ x. IsOutlook x (take i rows ++ r ∷ [])) (sym step)
      (outlook-more o (take i rows) r [] (subst (IsOutlook o) (sym (append-nil (take i rows))) h)))

-- ---- what an outlook says

tried_by : (b rest : Bool) (n : ℕ) → rest ≡ (n == 0) → (not b && rest) ≡ ((cond b 1 0 + n) == 0)
tried_by true rest n h = grind (arith, nat_tests)
tried_by false rest n h = h ∙ ap (λ m. m == 0) (omega arith)

quiet-untried : (a : Applicant) → is_quiet a ≡ not (not (round false a == 0))
quiet-untried Vo = refl
quiet-untried Vp = refl
quiet-untried Vn = refl
quiet-untried An = refl
quiet-untried Aa = refl
quiet-untried Qa = refl
quiet-untried La = refl

both_by : (a b c d : Bool) → ((a && b) && (c && d)) ≡ ((a && c) && (b && d))
both_by false b c d = refl
both_by true false false d = refl
both_by true false true d = refl
both_by true true false d = refl
both_by true true true d = refl

leaving_by : (b rest : Bool) (t leave : Cs) (n : ℕ) → (0 < n → rest ≡ false) → 0 < cond (b && (t.0 == leave.0)) 1 0 + n → (not b && rest) ≡ false
leaving_by true rest t leave n later some = refl
leaving_by false rest t leave n later some = later (omega (arith, some))

due_by : (b ends : Bool) (t leave : Cs) (now : ℕ) → ends ≡ (t.0 == leave.0) → (b && ends) ≡ true → t.0 ≤ now → (b && nat_le leave.0 now) ≡ true
due_by false ends t leave now is h by = cc
due_by true ends t leave now is h by = let one : (t.0 == leave.0) ≡ true = sym is ∙ h in grind (arith, nat_tests)

some-due_by : (ends due rest : Bool) (n : ℕ) → (ends ≡ true → due ≡ true) → (0 < n → rest ≡ true) → 0 < cond ends 1 0 + n → (due || rest) ≡ true
some-due_by true due rest n own later some = ap (λ b. b || rest) (own refl)
some-due_by false true rest n own later some = refl
some-due_by false false rest n own later some = later (omega (arith, some))

none-due_by : (leave : Cs) (now : ℕ) (b : Bool) → (b ≡ true → now < leave.0) → (b && nat_le leave.0 now) ≡ false
none-due_by leave now false later = refl
none-due_by leave now true later = let after = later refl in grind (arith, nat_tests)

module _ {K C : Type 0} where
  -- no row is tried where none is counted
  pub tried-says : (rows : List (Row K C)) → none_tried rows ≡ (count_by (λ r. is_tried false r) rows == 0)
  tried-says [] = refl
  tried-says (r ∷ rows) =
      tried_by (is_tried false r) (none_tried rows) (count_by (λ q. is_tried false q) rows) (tried-says rows)
      ∙ ap (λ n. n == 0) (sym (sum_by-cons (λ q. cond (is_tried false q) 1 0) r rows))

  -- whether no leave timer of some rows runs
  abbrev all_still : List (Row K C) → Bool
  all_still rows = list_all (λ r. not (is_leaving r.registrar)) rows

  still-where : (rows : List (Row K C)) → AllByRecursion (λ r. is_leaving r.registrar ≡ false) rows → all_still rows ≡ true
  still-where [] h = refl
  still-where (r ∷ rows) h = ap (λ b. not b && all_still rows) h.0 ∙ still-where rows h.1

  some-leaving : (t : Cs) (rows : List (Row K C)) → 0 < count_by (ends_at t) rows → all_still rows ≡ false
  some-leaving t [] some = absurd (omega (arith, some))
  some-leaving t (r ∷ rows) some = grind (arith, some-leaving t rows, leaving_by, sum_by-cons)

  some-due : (t : Cs) (now : ℕ) (rows : List (Row K C)) → t.0 ≤ now → 0 < count_by (ends_at t) rows → list_any (leave_is_due now) rows ≡ true
  some-due t now [] by some = absurd (omega (arith, some))
  some-due t now (r ∷ rows) by some = grind (arith, some-due t now rows by, some-due_by, due_by, sum_by-cons)

  none-due : (now : ℕ) (rows : List (Row K C)) → AllByRecursion (λ r. leave_is_due now r ≡ false) rows → list_any (leave_is_due now) rows ≡ false
  none-due now [] h = refl
  none-due now (r ∷ rows) h = ap (λ b. b || list_any (leave_is_due now) rows) h.0 ∙ none-due now rows h.1

  first-still : (first : Option (Cs × ℕ)) (rows : List (Row K C)) → IsFirstLeave first rows → has_one first ≡ true → is_none first ≡ all_still rows
  first-still None rows h one = sym (still-where rows h)
  first-still (Some p) rows h one = let some : 0 < count_by (ends_at p.0) rows = grind (arith, nat_tests) in sym (some-leaving p.0 rows some)

  due-at : (p : Cs × ℕ) (now : ℕ) (rows : List (Row K C)) (b : Bool) → nat_le p.0.0 now ≡ b
      → IsFirstLeave (Some p) rows → nat_lt 0 p.1 ≡ true → b ≡ list_any (leave_is_due now) rows
  due-at p now rows true by h one =
      let some : 0 < count_by (ends_at p.0) rows = grind (arith, nat_tests) in
      let due : p.0.0 ≤ now = grind (arith, nat_tests) in
      sym (some-due p.0 now rows due some)
  due-at p now rows false by h one = grind (arith, nat_tests, none-due, Each-map, none-due_by)

  -- a leave timer is due where the first is
  pub due-says : (now : ℕ) (first : Option (Cs × ℕ)) (rows : List (Row K C)) → IsFirstLeave first rows
      → has_one first ≡ true → is_by now first ≡ list_any (leave_is_due now) rows
  due-says now None rows h one = sym (none-due now rows (Each-map _ _ (λ q still. ap (λ b. b && nat_le q.leave.0 now) still) rows h))
  due-says now (Some p) rows h one = due-at p now rows (nat_le p.0.0 now) refl h one

  parts-settled : (rows : List (Row K C)) → all_settled rows ≡ (none_tried rows && all_still rows)
  parts-settled [] = refl
  parts-settled (r ∷ rows) = grind (arith, parts-settled rows, quiet-untried, both_by)

  -- all rows are at rest where none is tried and no leave timer runs
  pub settled-says : (o : Outlook) (rows : List (Row K C)) → IsOutlook o rows → is_at_rest o ≡ all_settled rows
  settled-says o rows h = grind (arith, is_none, tried-says, first-still, parts-settled)
