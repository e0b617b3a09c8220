-- Pieces, one after another.
use Rattle.std.specs.Prelude.{IfSome}
use Rattle.std.proofs.Common.{◌≡◌, ℕ, zero, suc, ◌-◌, ◌<◌, ◌≤◌, true, List, [], ◌∷◌, ◌++◌, length, take, drop, Option, Some, None, option_map, option_and_then, Ok, Err, refl, sym, ap, ◌∙◌, append_assoc, append-nil, arith}
use Rattle.std.proofs.lemmas.{List.take_at, Option.some_pair_parts}
use Rattle.capture_file.specs.{CaptureErr, Setting, Packet, IsPiece, Meant, meaning, after, packets_meant, is_read_on, Outcome, size_of, piece_at, with_meant, pieces_in, cause_told, Refuses}
use Rattle.capture_file.specs.declared.error.CaptureErr.TheVariants as errors
use Rattle.capture_file.specs.Pieces.Meant.{Frame, Section, Described, OtherLink, PassedOver}
use Rattle.capture_file.proofs.SizeLemmas.{piece_takes, piece_again}

-- ---- a piece

-- a piece with its size
abbrev pub sized : ℕ → Meant → Meant × ℕ
sized n meant = (meant, n)

took_of : (s : Setting) (octets : List ℕ) (size : Option ℕ) (meant : Meant) (n : ℕ) → option_and_then (λ k. option_map (sized k) (meaning s (take k octets))) size ≡ Some (meant, n)
    → (size ≡ Some n) × (meaning s (take n octets) ≡ Some meant)
took_of s octets None meant n e = absurd cc
took_of s octets (Some k) meant n e = go (meaning s (take k octets)) refl e where
  go : (m : Option Meant) → meaning s (take k octets) ≡ m → option_map (sized k) m ≡ Some (meant, n) → (Some k ≡ Some n) × (meaning s (take n octets) ≡ Some meant)
  go None is h = absurd cc
  go (Some x) is h =
      let p = some_pair_parts x meant k n h in
      (ap (λ (j : ℕ). let r : Option ℕ = Some j in r) p.1, ap (λ (j : ℕ). meaning s (take j octets)) (sym p.1) ∙ is ∙ ap (λ (y : Meant). let r : Option Meant = Some y in r) p.0)

-- what begins here is a piece that means this, and takes at least one octet
pub record Begins (s : Setting) (octets : List ℕ) (meant : Meant) (n : ℕ) : Type 0 where
  pub within : n ≤ length octets
  pub some : 0 < n
  pub piece : IsPiece s (take n octets)
  pub means : meaning s (take n octets) ≡ Some meant

pub begins : (s : Setting) (octets : List ℕ) (meant : Meant) (n : ℕ) → piece_at s octets ≡ Some (meant, n) → Begins s octets meant n
unfolding piece_at
begins s octets meant n e =
    let t = took_of s octets (size_of s.form s octets) meant n e in
    let p = piece_takes s.form s octets n t.0 in
    record { within = p.0; some = p.1; piece = p.2; means = t.1 }

-- and a piece is read, whatever follows it
pub piece_reads : (s : Setting) (text more : List ℕ) → IsPiece s text → piece_at s (text ++ more) ≡ option_map (sized (length text)) (meaning s text)
unfolding piece_at
piece_reads s text more is = rw (piece_again s.form s text more is, take_at text more (length text) refl) refl

-- ---- pieces

passes : (n : ℕ) (s : Setting) (octets : List ℕ) → n ≤ length octets → pieces_in n s octets ≡ pieces_in 0 s (drop n octets)
unfolding pieces_in
passes zero s octets le = refl
passes (suc n) s [] le = absurd (omega (arith, le))
passes (suc n) s (o ∷ octets) le = passes n s octets (omega (arith, le))

-- a piece, and those behind it
pub pieces_step : (s : Setting) (octets : List ℕ) (meant : Meant) (n : ℕ) → piece_at s octets ≡ Some (meant, n)
    → pieces_in 0 s octets ≡ with_meant meant (pieces_in 0 (after s meant) (drop n octets))
unfolding pieces_in
pieces_step s [] meant n e = let b = begins s [] meant n e in absurd (omega (arith, b.within, b.some))
pieces_step s (o ∷ octets) meant zero e = let b = begins s (o ∷ octets) meant zero e in absurd (omega (arith, b.some))
pieces_step s (o ∷ octets) meant (suc n) e =
    let b = begins s (o ∷ octets) meant (suc n) e in
    let k : suc n - 1 ≡ n = omega arith in
    rw (e, k) (ap (with_meant meant) (passes n (after s meant) octets (omega (arith, b.within))))

-- where none begins
pub pieces_stop : (s : Setting) (octets : List ℕ) → 0 < length octets → piece_at s octets ≡ None → pieces_in 0 s octets ≡ Ok ([], Some (length octets))
unfolding pieces_in
pieces_stop s [] some e = absurd (omega (arith, some))
pieces_stop s (o ∷ octets) some e = rw e refl

-- where the octets end
pub pieces_end : (n : ℕ) (s : Setting) (octets : List ℕ) → octets ≡ [] → pieces_in n s octets ≡ Ok ([], None)
unfolding pieces_in
pieces_end n s octets e = rw e refl

-- ---- what was read before, and what is still read

abbrev pub with_front : List Packet → Outcome → Outcome
with_front front (Ok x) = Ok (front ++ x.0, x.1)
with_front front (Err e) = Err e

with_more : (front : List Packet) (meant : Meant) (outcome : Outcome) → is_read_on meant ≡ true → with_front front (with_meant meant outcome) ≡ with_front (front ++ packets_meant meant) outcome
with_more front (OtherLink number) outcome on = absurd cc
with_more front (Frame packet) (Ok x) on = rw (append_assoc front (packet ∷ []) x.0) refl
with_more front (Section order) (Ok x) on = rw (append-nil front) refl
with_more front (Described i) (Ok x) on = rw (append-nil front) refl
with_more front PassedOver (Ok x) on = rw (append-nil front) refl
with_more front (Frame packet) (Err e) on = refl
with_more front (Section order) (Err e) on = refl
with_more front (Described i) (Err e) on = refl
with_more front PassedOver (Err e) on = refl

module _ (total : Outcome) (front : List Packet) (s : Setting) (octets : List ℕ) (so_far : with_front front (pieces_in 0 s octets) ≡ total) where
  pub goes_on : (meant : Meant) (n : ℕ) → piece_at s octets ≡ Some (meant, n) → is_read_on meant ≡ true
      → with_front (front ++ packets_meant meant) (pieces_in 0 (after s meant) (drop n octets)) ≡ total
  goes_on meant n e on =
      sym (ap (with_front front) (pieces_step s octets meant n e) ∙ with_more front meant (pieces_in 0 (after s meant) (drop n octets)) on) ∙ so_far

  pub stops : 0 < length octets → piece_at s octets ≡ None → total ≡ Ok (front, Some (length octets))
  stops some e =
      sym so_far ∙ ap (with_front front) (pieces_stop s octets some e)
      ∙ ap (λ (x : List Packet). let r : Outcome = Ok (x, Some (length octets)) in r) (append-nil front)

  pub ends : octets ≡ [] → total ≡ Ok (front, None)
  ends e =
      sym so_far ∙ ap (with_front front) (pieces_end 0 s octets e)
      ∙ ap (λ (x : List Packet). let r : Outcome = Ok (x, None) in r) (append-nil front)

  pub fails : (meant : Meant) (n : ℕ) → piece_at s octets ≡ Some (meant, n) → (e : CaptureErr) → Refuses e meant → IfSome (cause_told e) (λ f. total ≡ Err f)
  fails meant n is errors.NoMemory h = tt
  fails meant n is errors.NotCapture h = sym so_far ∙ ap (with_front front) (pieces_step s octets meant n is ∙ h (pieces_in 0 (after s meant) (drop n octets)))
  fails meant n is (errors.OtherLink number) h = sym so_far ∙ ap (with_front front) (pieces_step s octets meant n is ∙ h (pieces_in 0 (after s meant) (drop n octets)))
