-- A text that goes out piece by piece.
use Rattle.std.proofs.Common.{◌≡◌, ℕ, ◌+◌, ◌-◌, ◌<◌, ◌≤◌, List, ◌++◌, length, take, drop, length-append, sym, ap, subst, ◌∙◌, Option, arith}
use Rattle.std.proofs.lemmas.List.{take-append-le, length-drop, drop-drop}
use Rattle.std.proofs.Math.Seq.{take-add, take-length, drop-append_seam}
use Rattle.std.specs.Io.KnownBytes.{Appends}
use Rattle.std.proofs.KnownBytes.{Appends-trans}
use Rattle.srpnet.specs.{PartOf, StoppedIn}

-- so many octets of a text have gone out, and this is left of it
pub record IsOut (before now : Option (List ℕ)) (text rest : List ℕ) (written : ℕ) : Type 0 where
  pub appended : Appends before now (take written text)
  pub rest_is : rest ≡ drop written text
  pub within : written ≤ length text

module _ (a b : Option (List ℕ)) (text rest : List ℕ) (written : ℕ) (so_far : IsOut a b text rest written) where
  left_count : length rest ≡ length text - written
  left_count = ap length so_far.rest_is ∙ length-drop written text

  -- a front of the next piece goes out
  module _ (c : Option (List ℕ)) (piece next : List ℕ) (split : rest ≡ piece ++ next) where
    sizes : length piece + length next ≡ length text - written
    sizes = sym (ap length split ∙ length-append piece next) ∙ left_count

    front_out : (count : ℕ) → count ≤ length piece → Appends b c (take count piece) → Appends a c (take (written + count) text)
    front_out count le more =
        subst (Appends a c)
        (ap (λ (front : List ℕ). take written text ++ front) (sym (take-append-le count piece next le) ∙ ap (take count) (sym split ∙ so_far.rest_is)) ∙ sym (take-add written count text))
        (Appends-trans a b c _ _ so_far.appended more)

    pub piece_out : 0 < length piece → Appends b c piece → (now : ℕ) → now ≡ written + length piece → IsOut a c text next now
    piece_out some more now is =
        let count = sizes in
        let within = so_far.within in
        let size = length piece in
        record {
          appended = subst (λ (n : ℕ). Appends a c (take n text)) (sym is) (front_out size (omega arith) (subst (Appends b c) (sym (take-length piece)) more));
          rest_is =
              sym (drop-append_seam piece next) ∙ ap (drop size) (sym split ∙ so_far.rest_is) ∙ drop-drop size written text ∙ ap (λ (n : ℕ). drop n text) (sym is);
          within = omega (arith, is, count, some, within);
        }

    pub stopped_out : (now : ℕ) → StoppedIn b c piece written now → Appends a c (take now text)
    stopped_out now s =
        let short = s.short in
        subst (λ (n : ℕ). Appends a c (take n text)) (sym s.sum) (front_out s.count (omega (arith, short)) s.appended)

    pub stopped_short : (now : ℕ) → StoppedIn b c piece written now → now < length text
    stopped_short now s =
        let count = sizes in
        let short = s.short in
        let sum = s.sum in
        omega (arith, count, short, sum)

    pub memory_out : PartOf b c piece → PartOf a c text
    memory_out p =
        let count = sizes in
        let short = p.short in
        record { written = written + p.written; appended = front_out p.written (omega (arith, short)) p.appended; short = omega (arith, count, short) }
