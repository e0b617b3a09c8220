-- What toml's reader says of octets, as the document of those octets.
use Rattle.std.proofs.Common.{◌≡◌, ℕ, true, false, List, Some, None, refl, sym, ◌∙◌, inl, inr}
use Rattle.std.specs.Prelude.{IsUtf8, IsTrue, ◌↔◌, Bool}
use Rattle.std.proofs.lemmas.{Bool.cases_Bool, Str.IsUtf8-from_is_utf8, Str.is_utf8-from_IsUtf8}
use Rattle.std.specs.Str.{is_utf8}
use Rattle.toml.specs.Data.{Members}
use Rattle.toml.specs.Parse.{parse_document}
use Rattle.replay_words.specs.{document}

pub document_found : (octets : List ℕ) (ms : Members) → IsUtf8 octets → parse_document octets ≡ Some ms → document octets ≡ Some ms
document_found octets ms utf8 parsed = rw (is_utf8-from_IsUtf8 octets utf8) parsed

pub document_refused : (octets : List ℕ) → (IsUtf8 octets → parse_document octets ≡ None) → document octets ≡ None
document_refused octets refused = elim (cases_Bool (is_utf8 octets)) [
  | inl is ↦ rw is (refused (IsUtf8-from_is_utf8 octets is))
  | inr not_utf8 ↦ rw not_utf8 refl
]

-- a test that failed rules out its fact
pub ruled_out : (b : Bool) (P : Type 0) → b ≡ false → IsTrue b ↔ P → P → ⊥
ruled_out b P failed tells p = false_true (sym failed ∙ tells.1 p)
  where
    false_true : false ≡ true → ⊥
    false_true e = cc
