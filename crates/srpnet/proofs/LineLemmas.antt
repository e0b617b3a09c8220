-- Lines of a text.
use Rattle.std.proofs.Common.{◌≡◌, ◌≢◌, ℕ, suc, zero, ◌+◌, ◌-◌, ◌<◌, ◌≤◌, true, false, cond, List, [], ◌∷◌, ◌++◌, length, take, drop, get_or, refl, sym, ap, ◌∙◌, inl, inr, arith, eqb, Option, Some, None, append_assoc, length-append, append-nil}
use Rattle.std.proofs.lemmas.{Bool.cases_Bool, Bool.eqb-true, List.take-append-le, List.take_more}
use Rattle.std.proofs.Math.Seq.{take-length}
use Rattle.std.specs.Prelude.{codes, nat_eq}
use Rattle.std.specs.Cmp.Lexicographic.{pointwise, bytes_decides}
use Rattle.std.proofs.lemmas.Bool.{false_from_ne_true as no_test}
use Rattle.srp_base.proofs.Bools.{one-test as both_or_neither}
use Rattle.srp_base.specs.Text.{whole_of}
use Rattle.journal_audit.specs.Texts.{lines_of, with_octet}
use Rattle.journal_audit.proofs.TextLemmas.{lines_join}
use Rattle.srpnet.specs.{DifferAtOnce, line_feeds, IsFirstDifferent, is_line, parted_from, parted_at, PartedText, as_text}

-- a text is its first line, and then the rest
pub first_and_rest : (text line rest : List ℕ) → lines_of text ≡ line ∷ lines_of rest → text ≡ line ++ rest
first_and_rest text line rest split =
    sym (lines_join text) ∙ ap whole_of split ∙ ap (λ (t : List ℕ). line ++ t) (lines_join rest)

whole_push : (ls : List (List ℕ)) (l : List ℕ) → whole_of (ls ++ l ∷ []) ≡ whole_of ls ++ l
whole_push [] l = append-nil l
whole_push (x ∷ ls) l = ap (λ (t : List ℕ). x ++ t) (whole_push ls l) ∙ sym (append_assoc x (whole_of ls) l)

length_push : {A : Type 0} (xs : List A) (x : A) → length (xs ++ x ∷ []) ≡ length xs + 1
length_push xs x = length-append xs (x ∷ [])

-- ---- the search for a line

-- some lines of a text were looked at, none of which is the word, and this is left of the text
pub record IsSearch (word text rest : List ℕ) (lines : ℕ) : Type 0 where
  pub done : List (List ℕ)
  pub whole : text ≡ whole_of done ++ rest
  pub count : lines ≡ length done
  pub search : parted_from word [] (lines_of text) ≡ parted_from word done (lines_of rest)
  pub few : lines + length rest ≤ length text

module _ (word text : List ℕ) where
  module _ (rest line behind : List ℕ) (lines : ℕ) (so_far : IsSearch word text rest lines) (split : lines_of rest ≡ line ∷ lines_of behind) where
    pub search_goes_on : rest ≡ line ++ behind → length behind < length rest → is_line word line ≡ false → IsSearch word text behind (lines + 1)
    search_goes_on whole less not_it =
        let few = so_far.few in
        let count = so_far.count in
        let size = length_push so_far.done line in
        record {
          done = so_far.done ++ line ∷ [];
          whole =
              so_far.whole ∙ ap (λ (t : List ℕ). whole_of so_far.done ++ t) whole ∙ sym (append_assoc (whole_of so_far.done) line behind)
              ∙ ap (λ (t : List ℕ). t ++ behind) (sym (whole_push so_far.done line));
          count = omega (arith, count, size);
          search = so_far.search ∙ ap (parted_from word so_far.done) split ∙ rw not_it refl;
          few = omega (arith, few, less);
        }

    front_is : take (length text - length rest) text ≡ whole_of so_far.done
    front_is =
        let sizes : length text ≡ length (whole_of so_far.done) + length rest = ap length so_far.whole ∙ length-append (whole_of so_far.done) rest in
        let size : length text - length rest ≡ length (whole_of so_far.done) = omega (arith, sizes) in
        ap (λ (n : ℕ). take n text) size
        ∙ ap (λ (t : List ℕ). take (length (whole_of so_far.done)) t) so_far.whole
        ∙ take-append-le (length (whole_of so_far.done)) (whole_of so_far.done) rest (omega arith)
        ∙ take-length (whole_of so_far.done)

    pub search_ends : is_line word line ≡ true
        → ◌≡◌ {A = Option PartedText} (parted_at word text) (Some (record { before = take (length text - length rest) text; lines = lines; behind = behind }))
    search_ends it =
        let found : parted_from word so_far.done (line ∷ lines_of behind) ≡ Some (so_far.done, lines_of behind) = rw it refl in
        ap as_text (so_far.search ∙ ap (parted_from word so_far.done) split ∙ found)
        ∙ some_parts (whole_of so_far.done) (take (length text - length rest) text) (length so_far.done) lines (whole_of (lines_of behind)) behind
        (sym front_is) (sym so_far.count) (lines_join behind)
      where
        some_parts : (a a' : List ℕ) (n n' : ℕ) (b b' : List ℕ) → a ≡ a' → n ≡ n' → b ≡ b'
            → ◌≡◌ {A = Option PartedText} (Some (record { before = a; lines = n; behind = b })) (Some (record { before = a'; lines = n'; behind = b' }))
        some_parts a a' n n' b b' p q r = rw (p, q, r) refl

-- ---- the first line that differs

-- a text's first line
abbrev head_of : List (List ℕ) → List ℕ
head_of [] = []
head_of (l ∷ ls) = l

-- a line has an octet
abbrev HasHead : List (List ℕ) → Type 0
HasHead [] = Unit {0}
HasHead (l ∷ ls) = l ≢ []

with_has : (c : ℕ) (ls : List (List ℕ)) → HasHead (with_octet c ls)
with_has c [] = λ e. cc
with_has c (l ∷ ls) = λ e. cc

lines_have : (text : List ℕ) → HasHead (lines_of text)
lines_have [] = tt
lines_have (c ∷ text) = elim (cases_Bool (eqb c 10)) [
  | inl is ↦ rw is (λ e. cc)
  | inr differs ↦ rw differs (with_has c (lines_of text))
]

one_line : (xs ys : List (List ℕ)) → HasHead xs → HasHead ys → head_of xs ≡ head_of ys → take 1 xs ≡ take 1 ys
one_line [] [] hx hy e = refl
one_line [] (y ∷ ys) hx hy e = absurd (hy (sym e))
one_line (x ∷ xs) [] hx hy e = absurd (hx e)
one_line (x ∷ xs) (y ∷ ys) hx hy e = ap (λ (l : List ℕ). l ∷ []) e

head_with : (c : ℕ) (ls : List (List ℕ)) → take 1 (with_octet c ls) ≡ (c ∷ head_of ls) ∷ []
head_with c [] = refl
head_with c (l ∷ ls) = refl

-- the first k lines are the same and not one more
record Part (k : ℕ) (xs ys : List (List ℕ)) : Type 0 where
  before : take k xs ≡ take k ys
  here : take (suc k) xs ≢ take (suc k) ys

with_part : (c k : ℕ) (xs ys : List (List ℕ)) → HasHead xs → HasHead ys → Part k xs ys → Part k (with_octet c xs) (with_octet c ys)
with_part c zero xs ys hx hy p = record {
  before = refl;
  here = λ e.
      let heads : (c ∷ head_of xs) ∷ [] ≡ (c ∷ head_of ys) ∷ [] = sym (head_with c xs) ∙ e ∙ head_with c ys in
      let same : head_of xs ≡ head_of ys = cc in
      p.here (one_line xs ys hx hy same);
}
with_part c (suc j) [] [] hx hy p = absurd (p.here refl)
with_part c (suc j) [] (y ∷ ys) hx hy p = absurd (let no = p.before in nil_cons y (take j ys) no)
  where
    nil_cons : (z : List ℕ) (zs : List (List ℕ)) → [] ≡ z ∷ zs → ⊥
    nil_cons z zs e = cc
with_part c (suc j) (x ∷ xs) [] hx hy p = absurd (let no = p.before in cons_nil x (take j xs) no)
  where
    cons_nil : (z : List ℕ) (zs : List (List ℕ)) → z ∷ zs ≡ [] → ⊥
    cons_nil z zs e = cc
with_part c (suc j) (x ∷ xs) (y ∷ ys) hx hy p = record {
  before = more x y (take j xs) (take j ys) p.before;
  here = λ e. p.here (less x y (take (suc j) xs) (take (suc j) ys) e);
}
  where
    more : (a b : List ℕ) (as' bs : List (List ℕ)) → a ∷ as' ≡ b ∷ bs → (c ∷ a) ∷ as' ≡ (c ∷ b) ∷ bs
    more a b as' bs e = cc

    less : (a b : List ℕ) (as' bs : List (List ℕ)) → (c ∷ a) ∷ as' ≡ (c ∷ b) ∷ bs → a ∷ as' ≡ b ∷ bs
    less a b as' bs e = cc

feed_part : (k : ℕ) (xs ys : List (List ℕ)) → Part k xs ys → Part (suc k) ((10 ∷ []) ∷ xs) ((10 ∷ []) ∷ ys)
feed_part k xs ys p = record {
  before = ap (λ (ls : List (List ℕ)). (10 ∷ []) ∷ ls) p.before;
  here = λ e. p.here (rest_same (take (suc k) xs) (take (suc k) ys) e);
}
  where
    rest_same : (as' bs : List (List ℕ)) → (10 ∷ []) ∷ as' ≡ (10 ∷ []) ∷ bs → as' ≡ bs
    rest_same as' bs e = cc

abbrev head_octet : List (List ℕ) → Option ℕ
head_octet [] = None
head_octet ([] ∷ ls) = None
head_octet ((c ∷ l) ∷ ls) = Some c

octet_of : (c : ℕ) (text : List ℕ) → head_octet (take 1 (lines_of (c ∷ text))) ≡ Some c
octet_of c text = elim (cases_Bool (eqb c 10)) [
  | inl is ↦ rw is (ap Some (sym (eqb-true c 10 is)))
  | inr differs ↦ rw differs (ap head_octet (head_with c (lines_of text)))
]

at_once : (one other : List ℕ) → DifferAtOnce one other → one ≢ other → Part 0 (lines_of one) (lines_of other)
at_once [] [] differ not_same = absurd (not_same refl)
at_once [] (d ∷ other) differ not_same = record {
  before = refl;
  here = λ e. let octet : None ≡ Some d = ap head_octet e ∙ octet_of d other in cc;
}
at_once (c ∷ one) [] differ not_same = record {
  before = refl;
  here = λ e. let octet : Some c ≡ None = sym (octet_of c one) ∙ ap head_octet e in cc;
}
at_once (c ∷ one) (d ∷ other) differ not_same = record {
  before = refl;
  here = λ e.
      let octet : Some c ≡ Some d = sym (octet_of c one) ∙ ap head_octet e ∙ octet_of d other in
      let same : c ≡ d = cc in
      differ same;
}

part_of : (front one other : List ℕ) → DifferAtOnce one other → one ≢ other → Part (line_feeds front) (lines_of (front ++ one)) (lines_of (front ++ other))
part_of [] one other differ not_same = at_once one other differ not_same
part_of (c ∷ front) one other differ not_same = elim (cases_Bool (eqb c 10)) [
  | inl is ↦ rw is (feed_part (line_feeds front) (lines_of (front ++ one)) (lines_of (front ++ other)) (part_of front one other differ not_same))
  | inr differs ↦
      rw differs (with_part c (line_feeds front) (lines_of (front ++ one)) (lines_of (front ++ other)) (lines_have (front ++ one)) (lines_have (front ++ other))
      (part_of front one other differ not_same))
]

-- two texts with a common front, behind which they differ at once, differ first in the line that the front has begun
pub differ_behind : (front one other : List ℕ) → DifferAtOnce one other → one ≢ other → IsFirstDifferent (front ++ one) (front ++ other) (line_feeds front)
differ_behind front one other differ not_same = let p = part_of front one other differ not_same in record { before = p.before; here = p.here }

-- ---- whether a line is a word

same_end : (one other : List ℕ) (e : ℕ) → one ++ e ∷ [] ≡ other ++ e ∷ [] → one ≡ other
same_end [] [] e is = refl
same_end [] (d ∷ []) e is = absurd (let tails : [] ≡ e ∷ [] = cc in nothing e [] tails)
  where
    nothing : (x : ℕ) (xs : List ℕ) → [] ≡ x ∷ xs → ⊥
    nothing x xs p = cc
same_end [] (d ∷ d' ∷ other) e is = absurd (let tails : [] ≡ d' ∷ (other ++ e ∷ []) = cc in nothing d' (other ++ e ∷ []) tails)
  where
    nothing : (x : ℕ) (xs : List ℕ) → [] ≡ x ∷ xs → ⊥
    nothing x xs p = cc
same_end (c ∷ []) [] e is = absurd (let tails : e ∷ [] ≡ [] = cc in nothing e [] tails)
  where
    nothing : (x : ℕ) (xs : List ℕ) → x ∷ xs ≡ [] → ⊥
    nothing x xs p = cc
same_end (c ∷ c' ∷ one) [] e is = absurd (let tails : c' ∷ (one ++ e ∷ []) ≡ [] = cc in nothing c' (one ++ e ∷ []) tails)
  where
    nothing : (x : ℕ) (xs : List ℕ) → x ∷ xs ≡ [] → ⊥
    nothing x xs p = cc
same_end (c ∷ one) (d ∷ other) e is =
    let heads : c ≡ d = cc in
    let tails : one ++ e ∷ [] ≡ other ++ e ∷ [] = cc in
    rw (heads, same_end one other e tails) refl

module _ (word line : List ℕ) where
  -- with its line feed it is the word where the word stands before the line feed
  pub line_with_feed : (front : List ℕ) → line ≡ front ++ codes "\n" → pointwise nat_eq line (word ++ codes "\n") ≡ pointwise nat_eq front word
  line_with_feed front is =
      both_or_neither _ _
      (λ t. (bytes_decides front word).1 (same_end front word 10 (sym is ∙ (bytes_decides line (word ++ codes "\n")).0 t)))
      (λ t. (bytes_decides line (word ++ codes "\n")).1 (is ∙ ap (λ (w : List ℕ). w ++ codes "\n") ((bytes_decides front word).0 t)))

  -- and without one it has to be the word
  pub line_without_feed : ((front : List ℕ) → line ≢ front ++ codes "\n") → pointwise nat_eq line (word ++ codes "\n") ≡ false
  line_without_feed none = no_test _ (λ t. none word ((bytes_decides line (word ++ codes "\n")).0 t))

-- ---- what two texts have in common

-- one octet more is the same
pub common_more : (one other : List ℕ) (n lines : ℕ) → n < length one → n < length other → take n one ≡ take n other → lines ≡ line_feeds (take n one)
    → get_or one n 0 ≡ get_or other n 0
    → (take (n + 1) one ≡ take (n + 1) other) × (lines + cond (eqb (get_or one n 0) 10) 1 0 ≡ line_feeds (take (n + 1) one))
common_more one other n lines lt lt' same count here = (
  take_more one n 0 lt ∙ ap (λ (xs : List ℕ). xs ++ get_or one n 0 ∷ []) same ∙ ap (λ (c : ℕ). take n other ++ c ∷ []) here ∙ sym (take_more other n 0 lt'),
  ap (λ (k : ℕ). k + cond (eqb (get_or one n 0) 10) 1 0) count ∙ sym (ap line_feeds (take_more one n 0 lt) ∙ feeds_push (take n one) (get_or one n 0)),
)
  where
    feeds_push : (xs : List ℕ) (c : ℕ) → line_feeds (xs ++ c ∷ []) ≡ line_feeds xs + cond (eqb c 10) 1 0
    feeds_push [] c = elim (cases_Bool (eqb c 10)) [
      | inl is ↦ rw is refl
      | inr differs ↦ rw differs refl
    ]
    feeds_push (x ∷ xs) c = elim (cases_Bool (eqb x 10)) [
      | inl is ↦ rw is (let rest = feeds_push xs c in omega (arith, rest))
      | inr differs ↦ rw differs (feeds_push xs c)
    ]

-- where one of the texts ends, or their next octets differ, they differ at once behind what they have in common
pub differ_from : (one other : List ℕ) (n : ℕ) → (n < length one → n < length other → get_or one n 0 ≢ get_or other n 0) → DifferAtOnce (drop n one) (drop n other)
differ_from [] other zero differ = tt
differ_from [] other (suc n) differ = tt
differ_from (c ∷ one) [] zero differ = tt
differ_from (c ∷ one) (d ∷ other) zero differ = differ (omega arith) (omega arith)
differ_from (c ∷ one) [] (suc n) differ = ended (drop n one)
  where
    ended : (xs : List ℕ) → DifferAtOnce xs []
    ended [] = tt
    ended (x ∷ xs) = tt
differ_from (c ∷ one) (d ∷ other) (suc n) differ = differ_from one other n (λ lt lt'. differ (omega (arith, lt)) (omega (arith, lt')))
