-- What is left once a stream's entry is taken out.
use Rattle.std.proofs.Common.{◌≡◌, ◌≢◌, ℕ, zero, suc, ◌+◌, ◌<◌, ◌≤◌, not, ◌==◌, cond, List, [], ◌∷◌, ◌++◌, length, take, drop, get_or, Some, None, refl, sym, ◌∙◌, ap, arith, inl, inr, is_some, false}
use Rattle.std.specs.Prelude.{position, remove}
use Rattle.std.specs.List.{AllByRecursion, position_or_len}
use Rattle.std.proofs.lemmas.{Bool.eq-eqb, Bool.ne_eqb, Bool.eqb-true, Bool.cases_Bool, Bool.ltb-false, List.take-append-drop, List.Elements.All-from_recursion, List.Quantifiers.position-Some}
use Rattle.srp_base.specs.declared.numbers.StreamId.{StreamId}
use Rattle.stream_importance.specs.declared.entry.Entry.{Entry}
use Rattle.port_ledger.specs.{stream_of, AreOfDifferentStreams, entry_of, without}
use Rattle.port_ledger.proofs.Finding.{blank}

-- entries of other streams are left
pub without-others : (stream : StreamId) (xs : List Entry) → AllByRecursion (λ x. stream_of x ≢ stream.0) xs → xs ≡ without xs stream
without-others stream [] h = refl
without-others stream (x ∷ xs) h = grind (arith, without-others stream xs h.1, ne_eqb)

others_along : (n m : ℕ) (xs : List Entry) → n ≡ m → AllByRecursion (λ y. n ≢ stream_of y) xs
    → AllByRecursion (λ y. stream_of y ≢ m) xs
others_along n m [] e h = tt
others_along n m (x ∷ xs) e h = ((λ k. h.0 (e ∙ sym k)), others_along n m xs e h.1)

pub without-at : (xs : List Entry) (stream : StreamId) (i : ℕ) (d : Entry) → AreOfDifferentStreams xs → i < length xs
    → stream_of (get_or xs i d) ≡ stream.0 → remove xs i ≡ without xs stream
without-at [] stream i d different l e = absurd (omega (arith, l))
without-at (x ∷ xs) stream zero d different l e =
    without-others stream xs (others_along (stream_of x) stream.0 xs e different.0)
    ∙ ap (λ v. cond (not v) (x ∷ without xs stream) (without xs stream)) (sym (eq-eqb (stream_of x) stream.0 e))
without-at (x ∷ xs) stream (suc i) d different l e = grind (arith, without-at xs stream i d different.1 (omega (arith, l)) e, All-from_recursion, ne_eqb)

pub without_found : (xs : List Entry) (stream : StreamId) (i : ℕ) → AreOfDifferentStreams xs
    → position (λ x. stream_of x == stream.0) xs ≡ Some i → remove xs i ≡ without xs stream
without_found xs stream i different h =
    let found = position-Some (λ x. stream_of x == stream.0) xs i blank h in
    without-at xs stream i blank different found.0 (eqb-true (stream_of (get_or xs i blank)) stream.0 found.1)

without-past : (xs : List Entry) (stream : StreamId)
    → length xs ≤ position_or_len (λ x. stream_of x == stream.0) xs → xs ≡ without xs stream
without-past [] stream h = refl
without-past (x ∷ xs) stream h =
    elim (cases_Bool (stream_of x == stream.0)) [
      | inl e ↦
          (let none : position_or_len (λ y. stream_of y == stream.0) (x ∷ xs) ≡ 0 = ap (λ v. cond (not v) (1 + position_or_len (λ y. stream_of y == stream.0) xs) 0) e in
          absurd (omega (arith, h, none)))
      | inr e ↦
          (let more : position_or_len (λ y. stream_of y == stream.0) (x ∷ xs) ≡ 1 + position_or_len (λ y. stream_of y == stream.0) xs =
          ap (λ v. cond (not v) (1 + position_or_len (λ y. stream_of y == stream.0) xs) 0) e in
          ap (λ ys. x ∷ ys) (without-past xs stream (omega (arith, h, more))) ∙ ap (λ v. cond (not v) (x ∷ without xs stream) (without xs stream)) (sym e))
    ]

pub without_missing : (xs : List Entry) (stream : StreamId) → position (λ x. stream_of x == stream.0) xs ≡ None
    → xs ≡ without xs stream
without_missing xs stream h = grind (arith, cases_Bool, without-past, ltb-false)

-- the same behind a place
remove_behind : (n m i : ℕ) (xs : List Entry) → m ≡ n + i → n ≤ length xs → remove xs m ≡ take n xs ++ remove (drop n xs) i
remove_behind zero m i [] e le = let same : m ≡ i = omega (arith, e) in ap (remove []) same
remove_behind zero m i (x ∷ xs) e le = let same : m ≡ i = omega (arith, e) in ap (remove (x ∷ xs)) same
remove_behind (suc n) m i [] e le = absurd (omega (arith, le))
remove_behind (suc n) m i (x ∷ xs) e le =
    let same : m ≡ suc (n + i) = omega (arith, e) in
    ap (remove (x ∷ xs)) same ∙ ap (λ ys. x ∷ ys) (remove_behind n (n + i) i xs refl (omega (arith, le)))

pub without_behind : (n m i : ℕ) (xs : List Entry) (stream : StreamId) → m ≡ n + i → n ≤ length xs → AreOfDifferentStreams (drop n xs)
    → position (λ x. stream_of x == stream.0) (drop n xs) ≡ Some i → remove xs m ≡ take n xs ++ without (drop n xs) stream
without_behind n m i xs stream e le different h = remove_behind n m i xs e le ∙ ap (λ ys. take n xs ++ ys) (without_found (drop n xs) stream i different h)

pub without_nowhere : (n : ℕ) (xs : List Entry) (stream : StreamId) → position (λ x. stream_of x == stream.0) (drop n xs) ≡ None
    → xs ≡ take n xs ++ without (drop n xs) stream
without_nowhere n xs stream h = sym (take-append-drop n xs) ∙ ap (λ ys. take n xs ++ ys) (without_missing (drop n xs) stream h)

-- a stream that stands nowhere has no entry
past-none : (xs : List Entry) (stream : StreamId) → length xs ≤ position_or_len (λ x. stream_of x == stream.0) xs → is_some (entry_of xs stream) ≡ false
past-none [] stream le = refl
past-none (x ∷ xs) stream le =
    elim (cases_Bool (stream_of x == stream.0)) [
      | inl e ↦
          (let none : position_or_len (λ y. stream_of y == stream.0) (x ∷ xs) ≡ 0 = ap (λ v. cond (not v) (1 + position_or_len (λ y. stream_of y == stream.0) xs) 0) e in
          absurd (omega (arith, le, none)))
      | inr e ↦
          (let more : position_or_len (λ y. stream_of y == stream.0) (x ∷ xs) ≡ 1 + position_or_len (λ y. stream_of y == stream.0) xs =
          ap (λ v. cond (not v) (1 + position_or_len (λ y. stream_of y == stream.0) xs) 0) e in
          ap (λ v. is_some (cond v (Some x) (entry_of xs stream))) e ∙ past-none xs stream (omega (arith, le, more)))
    ]

pub nowhere-none : (xs : List Entry) (stream : StreamId) → position (λ x. stream_of x == stream.0) xs ≡ None → is_some (entry_of xs stream) ≡ false
nowhere-none xs stream h = grind (arith, cases_Bool, past-none, ltb-false)
