-- Parts of a text, and its lines.
use Rattle.std.proofs.Common.{◌≡◌, ◌≢◌, ℕ, suc, ◌+◌, ◌<◌, ◌≤◌, Bool, true, false, cond, List, [], ◌∷◌, ◌++◌, length, take, drop, refl, sym, ap, subst, ◌∙◌, inl, inr, append_assoc, arith}
use Rattle.std.specs.Prelude.{◌==◌, ◌⊎◌, if◌then◌else◌, nat_lt, Option, Some, None, IfSome, IfNone}
use Rattle.std.specs.{Option.MatchOption, List.AllByRecursion, List.position, List.position_or_len}
use Rattle.std.proofs.lemmas.{Bool.cases_Bool, Bool.cases_lt, Bool.ne_eqb, Bool.false≢true, Bool.Decides.Decides-eqb, Bool.Decides.Decides-ltb}
use Rattle.srp_base.proofs.Lists.{behind_same}
use Rattle.srp_base.specs.Text.{whole_of}
use Rattle.journal_lines.specs.Lines.{IsLine}
use Rattle.journal_audit.specs.{with_octet, lines_of, IsTaken}
use Rattle.journal_audit.specs.Reading.{Reading}

pub found_is : {A : Type 0} (o : Option A) (N : Type 0) (S : A → Type 0) → MatchOption o N S → IfSome o S
found_is None N S h = tt
found_is (Some x) N S h = h

pub none_is : {A : Type 0} (o : Option A) (N : Type 0) (S : A → Type 0) → MatchOption o N S → IfNone o N
none_is None N S h = h
none_is (Some x) N S h = tt

-- a word without what has to stand behind it
pub not_word : {A : Type 0} (word text rest : List ℕ) (o : Option A) → text ≡ word ++ rest → IfNone o ((r : List ℕ) → rest ≢ 32 ∷ r) → IfNone o ((r : List ℕ) → text ≢ word ++ 32 ∷ r)
not_word word text rest None is none = λ r e. none r (behind_same word rest (32 ∷ r) (sym is ∙ e))
not_word word text rest (Some x) is none = tt

-- ---- the first line

-- whether an octet is a line feed
abbrev is_feed : ℕ → Bool
is_feed c = c == 10

-- where the first line feed stands
at_feed : (c : ℕ) (text : List ℕ) → is_feed c ≡ true → position_or_len is_feed (c ∷ text) ≡ 0
at_feed c text is = rw is refl

behind_octet : (c : ℕ) (text : List ℕ) → is_feed c ≡ false → position_or_len is_feed (c ∷ text) ≡ 1 + position_or_len is_feed text
behind_octet c text isnt = rw isnt refl

place_le : (text : List ℕ) → position_or_len is_feed text ≤ length text
place_le [] = omega arith
place_le (c ∷ text) = by (cases_Bool (is_feed c)) (place_le text)
  where
    by : (is_feed c ≡ true) ⊎ (is_feed c ≡ false) → position_or_len is_feed text ≤ length text → position_or_len is_feed (c ∷ text) ≤ length (c ∷ text)
    by (inl is) later = let e = at_feed c text is in omega (arith, e)
    by (inr isnt) later = let e = behind_octet c text isnt in omega (arith, e, later)

found_at : (text : List ℕ) (i : ℕ) → position is_feed text ≡ Some i → (position_or_len is_feed text ≡ i) × (i < length text)
found_at text i e = by (cases_Bool (nat_lt (position_or_len is_feed text) (length text)))
  where
    by : (nat_lt (position_or_len is_feed text) (length text) ≡ true) ⊎ (nat_lt (position_or_len is_feed text) (length text) ≡ false)
        → (position_or_len is_feed text ≡ i) × (i < length text)
    by (inl lt) =
        let found : Some (position_or_len is_feed text) ≡ Some i = sym (ap (λ (b : Bool). cond b (Some (position_or_len is_feed text)) None) lt) ∙ e in
        let same : position_or_len is_feed text ≡ i = cc in
        (same, subst (λ (k : ℕ). k < length text) same ((Decides-ltb (position_or_len is_feed text) (length text)).0 lt))
    by (inr ge) =
        let strange : None ≡ Some i = sym (ap (λ (b : Bool). cond b (Some (position_or_len is_feed text)) None) ge) ∙ e in
        cc

not_found : (text : List ℕ) → position is_feed text ≡ None → position_or_len is_feed text ≡ length text
not_found text e = by (cases_Bool (nat_lt (position_or_len is_feed text) (length text)))
  where
    by : (nat_lt (position_or_len is_feed text) (length text) ≡ true) ⊎ (nat_lt (position_or_len is_feed text) (length text) ≡ false)
        → position_or_len is_feed text ≡ length text
    by (inl lt) =
        let strange : Some (position_or_len is_feed text) ≡ None = sym (ap (λ (b : Bool). cond b (Some (position_or_len is_feed text)) None) lt) ∙ e in
        cc
    by (inr ge) =
        let le = place_le text in
        elim (cases_lt (position_or_len is_feed text) (length text)) [
          | inl lt ↦ absurd (false≢true (sym ge ∙ (Decides-ltb (position_or_len is_feed text) (length text)).1 lt))
          | inr least ↦ omega (arith, le, least)
        ]

-- the lines behind an octet
feed_first : (c : ℕ) (text : List ℕ) → is_feed c ≡ true → lines_of (c ∷ text) ≡ (c ∷ []) ∷ lines_of text
feed_first c text is =
    ap (λ (b : Bool). if b then (10 ∷ []) ∷ lines_of text else with_octet c (lines_of text)) is
    ∙ ap (λ (d : ℕ). (d ∷ []) ∷ lines_of text) (sym ((Decides-eqb c 10).0 is))

octet_first : (c : ℕ) (text : List ℕ) → is_feed c ≡ false → lines_of (c ∷ text) ≡ with_octet c (lines_of text)
octet_first c text isnt = ap (λ (b : Bool). if b then (10 ∷ []) ∷ lines_of text else with_octet c (lines_of text)) isnt

first_is : (text : List ℕ) (i : ℕ) → position_or_len is_feed text ≡ i → i < length text → lines_of text ≡ take (suc i) text ∷ lines_of (drop (suc i) text)
first_is [] i at lt = absurd (omega (arith, lt))
first_is (c ∷ text) i at lt = by (cases_Bool (is_feed c)) (first_is text (position_or_len is_feed text) refl)
  where
    by : (is_feed c ≡ true) ⊎ (is_feed c ≡ false)
        → (position_or_len is_feed text < length text → lines_of text ≡ take (suc (position_or_len is_feed text)) text ∷ lines_of (drop (suc (position_or_len is_feed text)) text))
        → lines_of (c ∷ text) ≡ take (suc i) (c ∷ text) ∷ lines_of (drop (suc i) (c ∷ text))
    by (inl is) later =
        let none : i ≡ 0 = sym at ∙ at_feed c text is in
        subst (λ (k : ℕ). lines_of (c ∷ text) ≡ take (suc k) (c ∷ text) ∷ lines_of (drop (suc k) (c ∷ text))) (sym none) (feed_first c text is)
    by (inr isnt) later =
        let one = behind_octet c text isnt in
        let more : i ≡ suc (position_or_len is_feed text) = omega (arith, at, one) in
        let less : position_or_len is_feed text < length text = omega (arith, more, lt) in
        subst (λ (k : ℕ). lines_of (c ∷ text) ≡ take (suc k) (c ∷ text) ∷ lines_of (drop (suc k) (c ∷ text))) (sym more)
        (octet_first c text isnt ∙ ap (with_octet c) (later less))

last_is : (text : List ℕ) → position_or_len is_feed text ≡ length text → 1 ≤ length text → lines_of text ≡ text ∷ []
last_is [] at some = absurd (omega (arith, some))
last_is (c ∷ []) at some = by (cases_Bool (is_feed c))
  where
    by : (is_feed c ≡ true) ⊎ (is_feed c ≡ false) → lines_of (c ∷ []) ≡ (c ∷ []) ∷ []
    by (inl is) = feed_first c [] is
    by (inr isnt) = octet_first c [] isnt
last_is (c ∷ d ∷ text) at some = by (cases_Bool (is_feed c)) (λ there. last_is (d ∷ text) there (omega arith))
  where
    by : (is_feed c ≡ true) ⊎ (is_feed c ≡ false) → (position_or_len is_feed (d ∷ text) ≡ length (d ∷ text) → lines_of (d ∷ text) ≡ (d ∷ text) ∷ [])
        → lines_of (c ∷ d ∷ text) ≡ (c ∷ d ∷ text) ∷ []
    by (inl is) later = let e = at_feed c (d ∷ text) is in absurd (omega (arith, e, at))
    by (inr isnt) later =
        let e = behind_octet c (d ∷ text) isnt in
        octet_first c (d ∷ text) isnt ∙ ap (with_octet c) (later (omega (arith, e, at)))

-- what `first_line` answers
pub found_line : (text : List ℕ) (i : ℕ) → position is_feed text ≡ Some i → lines_of text ≡ take (i + 1) text ∷ lines_of (drop (i + 1) text)
found_line text i e =
    let at = found_at text i e in
    let more : suc i ≡ i + 1 = omega arith in
    subst (λ (k : ℕ). lines_of text ≡ take k text ∷ lines_of (drop k text)) more (first_is text i at.0 at.1)

pub last_line : (text : List ℕ) → position is_feed text ≡ None → 1 ≤ length text → lines_of text ≡ text ∷ []
last_line text e some = last_is text (not_found text e) some

-- ---- a line by itself

-- a text that begins with a line has it as its first
pub line_first : (line rest : List ℕ) → IsLine line → lines_of (line ++ rest) ≡ line ∷ lines_of rest
line_first line rest is =
    ap (λ (x : List ℕ). lines_of (x ++ rest)) is.ends
    ∙ (ap lines_of (append_assoc is.front (10 ∷ []) rest) ∙ (by is.front is.one ∙ ap (λ (x : List ℕ). x ∷ lines_of rest) (sym is.ends)))
  where
    by : (front : List ℕ) → AllByRecursion (λ c. c ≢ 10) front → lines_of (front ++ 10 ∷ rest) ≡ (front ++ 10 ∷ []) ∷ lines_of rest
    by [] one = feed_first 10 rest refl
    by (c ∷ front) one = octet_first c (front ++ 10 ∷ rest) (ne_eqb c 10 one.0) ∙ ap (with_octet c) (by front one.1)

-- the lines of a text, one after the other, are the text
pub lines_join : (text : List ℕ) → whole_of (lines_of text) ≡ text
lines_join [] = refl
lines_join (c ∷ text) = by (cases_Bool (is_feed c)) (lines_join text)
  where
    with : (lines : List (List ℕ)) → whole_of (with_octet c lines) ≡ c ∷ whole_of lines
    with [] = refl
    with (line ∷ lines) = refl

    by : (is_feed c ≡ true) ⊎ (is_feed c ≡ false) → whole_of (lines_of text) ≡ text → whole_of (lines_of (c ∷ text)) ≡ c ∷ text
    by (inl is) later = ap whole_of (feed_first c text is) ∙ ap (λ (x : List ℕ). c ∷ x) later
    by (inr isnt) later = ap whole_of (octet_first c text isnt) ∙ (with (lines_of text) ∙ ap (λ (x : List ℕ). c ∷ x) later)

-- a text whose first line is this begins with it
pub first_begins : (text line : List ℕ) (lines : List (List ℕ)) → lines_of text ≡ line ∷ lines → text ≡ line ++ whole_of lines
first_begins text line lines e = sym (lines_join text) ∙ ap whole_of e

-- ---- what reading a line says

pub taken_line : (line : List ℕ) (from to : Reading) → IsLine line → from.rest ≡ line ++ to.rest → to.read ≡ from.read + 1 → IsTaken line from to
taken_line line from to is begins more = record { lines = ap lines_of begins ∙ line_first line to.rest is; read = more }

pub another_line : (line : List ℕ) (from : Reading) → ((rest : List ℕ) → from.rest ≢ line ++ rest) → (lines : List (List ℕ)) → lines_of from.rest ≢ line ∷ lines
another_line line from none lines e = none (whole_of lines) (first_begins from.rest line lines e)
