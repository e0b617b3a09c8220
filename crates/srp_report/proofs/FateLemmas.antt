-- The fates of a port's copies, one more at a time, and the lines of those that depart.
use Rattle.std.proofs.Common.{◌≡◌, ℕ, ◌+◌, ◌<◌, Bool, cond, List, [], ◌∷◌, ◌++◌, length, get_or, take, refl, sym, ◌∙◌, ap, arith}
use Rattle.std.specs.Prelude.{filter}
use Rattle.std.proofs.lemmas.{Bool.cond_both, List.length-append, List.take_more, List.Elements.filter-append, List.Elements.filter_map-append}
use Rattle.frame_flow.specs.declared.result.Fate.{Fate}
use Rattle.frame_flow.specs.declared.result.Fate.TheVariants.{Unbooked, NoVlan, Departed, Left}
use Rattle.srp_report.specs.{FateCounts, SentFrame, is_departed, is_unbooked_fate, is_novlan, is_left, fates_count, sent_frame, sent_frames, fate_counts, one_more}

-- ---- counts

count-more : (p : Fate → Bool) (fates : List (ℕ × Fate)) (e : ℕ × Fate) → fates_count p (fates ++ e ∷ []) ≡ fates_count p fates + cond (p e.1) 1 0
count-more p fates e =
    let test : ℕ × Fate → Bool = λ x. p x.1 in
    ap (λ (t : List (ℕ × Fate)). length t) (filter-append test fates (e ∷ [])) ∙ length-append (filter test fates) (filter test (e ∷ []))
    ∙ ap (λ (n : ℕ). fates_count p fates + n)
    (cond_both (p e.1) (e ∷ []) [] (λ t. length t ≡ cond (p e.1) 1 0) (λ is. ap (λ (b : Bool). cond b 1 0) (sym is)) (λ nay. ap (λ (b : Bool). cond b 1 0) (sym nay)))

counts-pushed : (fates : List (ℕ × Fate)) (e : ℕ × Fate) → one_more (fate_counts fates) e.1 ≡ fate_counts (fates ++ e ∷ [])
counts-pushed fates e =
    let make : ℕ → ℕ → ℕ → ℕ → FateCounts = λ d u n l. record { departed = d; unbooked = u; novlan = n; left = l } in
    let all = fates ++ e ∷ [] in
    let old : (Fate → Bool) → ℕ = λ p. fates_count p fates + cond (p e.1) 1 0 in
    let new : (Fate → Bool) → ℕ = λ p. fates_count p all in
    sym (ap (λ (x : ℕ). make x (new is_unbooked_fate) (new is_novlan) (new is_left)) (count-more is_departed fates e)
    ∙ ap (λ (x : ℕ). make (old is_departed) x (new is_novlan) (new is_left)) (count-more is_unbooked_fate fates e)
    ∙ ap (λ (x : ℕ). make (old is_departed) (old is_unbooked_fate) x (new is_left)) (count-more is_novlan fates e)
    ∙ ap (λ (x : ℕ). make (old is_departed) (old is_unbooked_fate) (old is_novlan) x) (count-more is_left fates e))

pub counts-more : (fates : List (ℕ × Fate)) (i : ℕ) (d e : ℕ × Fate) (before after : FateCounts) → i < length fates → e ≡ get_or fates i d
    → before ≡ fate_counts (take i fates) → after ≡ one_more before e.1 → after ≡ fate_counts (take (i + 1) fates)
counts-more fates i d e before after below item one two =
    two ∙ ap (λ (c : FateCounts). one_more c e.1) one ∙ counts-pushed (take i fates) e
    ∙ ap (λ (x : ℕ × Fate). fate_counts (take i fates ++ x ∷ [])) item
    ∙ sym (ap (λ (t : List (ℕ × Fate)). fate_counts t) (take_more fates i d below))

-- each copy is counted once
counted-once : (fate : Fate) → cond (is_departed fate) 1 0 + cond (is_unbooked_fate fate) 1 0 + cond (is_novlan fate) 1 0 + cond (is_left fate) 1 0 ≡ 1
counted-once Unbooked = refl
counted-once NoVlan = refl
counted-once (Departed start end) = refl
counted-once Left = refl

count-cons : (p : Fate → Bool) (e : ℕ × Fate) (fates : List (ℕ × Fate)) → fates_count p (e ∷ fates) ≡ cond (p e.1) 1 0 + fates_count p fates
count-cons p e fates =
    let rest = filter (λ x. p x.1) fates in
    let one : Bool → ℕ = λ b. cond b 1 0 in
    cond_both (p e.1) (e ∷ rest) rest (λ t. length t ≡ cond (p e.1) 1 0 + length rest)
    (λ is. omega (arith, ap one is)) (λ nay. omega (arith, ap one nay))

pub counts-few : (fates : List (ℕ × Fate))
    → fates_count is_departed fates + fates_count is_unbooked_fate fates + fates_count is_novlan fates + fates_count is_left fates ≡ length fates
counts-few [] = refl
counts-few (e ∷ fates) =
    omega (arith, counts-few fates, counted-once e.1, count-cons is_departed e fates, count-cons is_unbooked_fate e fates, count-cons is_novlan e fates, count-cons is_left e fates)

pub sent-more : (fates : List (ℕ × Fate)) (i : ℕ) (d e : ℕ × Fate) (before after : List SentFrame) → i < length fates → e ≡ get_or fates i d
    → before ≡ sent_frames (take i fates) → after ≡ before ++ sent_frames (e ∷ []) → after ≡ sent_frames (take (i + 1) fates)
sent-more fates i d e before after below item one two =
    let to = λ (x : ℕ × Fate). sent_frame x.0 x.1 in
    two ∙ ap (λ (t : List SentFrame). t ++ sent_frames (e ∷ [])) one
    ∙ ap (λ (x : ℕ × Fate). sent_frames (take i fates) ++ sent_frames (x ∷ [])) item
    ∙ sym (ap (λ (t : List (ℕ × Fate)). sent_frames t) (take_more fates i d below) ∙ filter_map-append to (take i fates) (get_or fates i d ∷ []))
