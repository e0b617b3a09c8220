-- What is counted, answer by answer or list by list, is the count over all answers.
use Rattle.std.proofs.Common.{◌≡◌, ℕ, suc, ◌+◌, Bool, true, false, List, [], ◌∷◌, ◌++◌, length, refl, sym, ap, ◌∙◌, arith}
use Rattle.std.specs.Prelude.{◌-◌, ◌^◌, min, fold, filter, filter_map, sum, Option, Some, None}
use Rattle.std.proofs.lemmas.{List.length-append, List.Elements.filter-append, List.Elements.filter_map-append, List.Sums.sum_by-append, List.Sums.sum_by-cons}
use Rattle.report_words.specs.declared.tally.Tally.{Tally}
use Rattle.report_words.specs.{count_of, tally_by, with_answer, with_discarded, with_sent, with_tally, zero_tally}

abbrev tally_with : ℕ → ℕ → ℕ → Tally
tally_with sent octets discarded = record { sent = sent; octets = octets; discarded = discarded }

abbrev tally : ℕ → ℕ → ℕ → Tally
tally a b c = tally_with (count_of a) (count_of b) (count_of c)

-- a count that stands still at m goes on alike, with a number and with another such count
pub stands : (m a k : ℕ) → min (min a m + k) m ≡ min (a + k) m
stands m a k = omega arith

stands-both : (m a b : ℕ) → min (min a m + min b m) m ≡ min (a + b) m
stands-both m a b = omega arith

same-tally : (a a' b b' c c' : ℕ) → a ≡ a' → b ≡ b' → c ≡ c' → tally_with a b c ≡ tally_with a' b' c'
same-tally a a' b b' c c' ea eb ec = ap (λ x. tally_with x b c) ea ∙ (ap (λ x. tally_with a' x c) eb ∙ ap (λ x. tally_with a' b' x) ec)

same-counts : (a a' b b' c c' : ℕ) → a ≡ a' → b ≡ b' → c ≡ c' → tally a b c ≡ tally a' b' c'
same-counts a a' b b' c c' ea eb ec = same-tally _ _ _ _ _ _ (ap count_of ea) (ap count_of eb) (ap count_of ec)

sent-once : (a b c k : ℕ) → with_sent (tally a b c) k ≡ tally (a + 1) (b + k) c
sent-once a b c k =
    ap (λ x. tally_with x (count_of (count_of b + k)) (count_of c)) (stands (2 ^ 64 - 1) a 1)
    ∙ ap (λ x. tally_with (count_of (a + 1)) x (count_of c)) (stands (2 ^ 64 - 1) b k)

discarded-once : (a b c : ℕ) → with_discarded (tally a b c) ≡ tally a b (c + 1)
discarded-once a b c = ap (λ x. tally_with (count_of a) (count_of b) x) (stands (2 ^ 64 - 1) c 1)

module _ {X : Type 0} (octets_sent : X → Option ℕ) (is_discarded : X → Bool) where
  abbrev tally_after : ℕ → ℕ → ℕ → List X → Tally
  tally_after a b c answers =
      tally (a + length (filter_map octets_sent answers)) (b + sum (filter_map octets_sent answers)) (c + length (filter is_discarded answers))

  -- what the answers count, behind what was counted before
  counts : (a b c : ℕ) (answers : List X) → fold (with_answer octets_sent is_discarded) (tally a b c) answers ≡ tally_after a b c answers
  counts a b c [] = same-counts a (a + 0) b (b + 0) c (c + 0) (omega arith) (omega arith) (omega arith)
  counts a b c (x ∷ answers) = by (octets_sent x) refl (is_discarded x) refl (λ d e f. counts d e f answers)
    where
      many : ℕ
      many = length (filter_map octets_sent answers)

      all : ℕ
      all = sum (filter_map octets_sent answers)

      lost : ℕ
      lost = length (filter is_discarded answers)

      by : (o : Option ℕ) → octets_sent x ≡ o → (l : Bool) → is_discarded x ≡ l
          → ((d e f : ℕ) → fold (with_answer octets_sent is_discarded) (tally d e f) answers ≡ tally_after d e f answers)
          → fold (with_answer octets_sent is_discarded) (tally a b c) (x ∷ answers) ≡ tally_after a b c (x ∷ answers)
      by None is false isnt later = rw (is, isnt) (later a b c)
      by None is true isnt later =
          rw (is, isnt) (ap (λ t. fold (with_answer octets_sent is_discarded) t answers) (discarded-once a b c)
          ∙ (later a b (c + 1) ∙ same-counts (a + many) (a + many) (b + all) (b + all) (c + 1 + lost) (c + (suc lost)) refl refl (omega arith)))
      by (Some k) is false isnt later =
          rw (is, isnt) (ap (λ t. fold (with_answer octets_sent is_discarded) t answers) (sent-once a b c k)
          ∙ (later (a + 1) (b + k) c
          ∙ same-counts (a + 1 + many) (a + (suc many)) (b + k + all) (b + sum (k ∷ filter_map octets_sent answers)) (c + lost) (c + lost)
          (omega arith) (omega (arith, sum_by-cons (λ (y : ℕ). y) k (filter_map octets_sent answers))) refl))
      by (Some k) is true isnt later =
          rw (is, isnt) (ap (λ t. fold (with_answer octets_sent is_discarded) (with_discarded t) answers) (sent-once a b c k)
          ∙ (ap (λ t. fold (with_answer octets_sent is_discarded) t answers) (discarded-once (a + 1) (b + k) c)
          ∙ (later (a + 1) (b + k) (c + 1)
          ∙ same-counts (a + 1 + many) (a + (suc many)) (b + k + all) (b + sum (k ∷ filter_map octets_sent answers)) (c + 1 + lost) (c + (suc lost))
          (omega arith) (omega (arith, sum_by-cons (λ (y : ℕ). y) k (filter_map octets_sent answers))) (omega arith))))

  -- two tallies together are that of all answers together
  pub both-counted : (xs ys : List X) → with_tally (tally_by octets_sent is_discarded xs) (tally_by octets_sent is_discarded ys) ≡ tally_by octets_sent is_discarded (xs ++ ys)
  both-counted xs ys =
      let sizes : filter_map octets_sent (xs ++ ys) ≡ filter_map octets_sent xs ++ filter_map octets_sent ys = filter_map-append octets_sent xs ys in
      let sent = ap (λ (ns : List ℕ). length ns) sizes ∙ length-append (filter_map octets_sent xs) (filter_map octets_sent ys) in
      let octets = ap (λ (ns : List ℕ). sum ns) sizes ∙ sum_by-append (λ (n : ℕ). n) (filter_map octets_sent xs) (filter_map octets_sent ys) in
      let lost = ap (λ (zs : List X). length zs) (filter-append is_discarded xs ys) ∙ length-append (filter is_discarded xs) (filter is_discarded ys) in
      same-tally _ _ _ _ _ _
      (stands-both (2 ^ 64 - 1) (length (filter_map octets_sent xs)) (length (filter_map octets_sent ys)) ∙ ap count_of (sym sent))
      (stands-both (2 ^ 64 - 1) (sum (filter_map octets_sent xs)) (sum (filter_map octets_sent ys)) ∙ ap count_of (sym octets))
      (stands-both (2 ^ 64 - 1) (length (filter is_discarded xs)) (length (filter is_discarded ys)) ∙ ap count_of (sym lost))

  -- from nothing
  pub all-counted : (answers : List X) → fold (with_answer octets_sent is_discarded) zero_tally answers ≡ tally_by octets_sent is_discarded answers
  all-counted answers =
      let many = length (filter_map octets_sent answers) in
      let all = sum (filter_map octets_sent answers) in
      let lost = length (filter is_discarded answers) in
      counts 0 0 0 answers ∙ same-counts (0 + many) many (0 + all) all (0 + lost) lost (omega arith) (omega arith) (omega arith)
