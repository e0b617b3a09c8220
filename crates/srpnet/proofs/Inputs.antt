-- The input of a command that was read to its end.
use Rattle.std.proofs.Common.{◌≡◌, ℕ, ◌≤◌, Bool, true, false, List, [], ◌++◌, length, append-nil, le-leb, refl, sym, ap, subst, ◌∙◌, inl, inr, Option, Some, None, Ok, Err}
use Rattle.std.specs.Prelude.{IfOk, Result, nat_le, not, ◌&&◌}
use Rattle.std.specs.Io.KnownBytes.{Consumes, IsAtEnd}
use Rattle.srpnet.specs.{Answer, Command, Cause, Done, IsAnswer, IsEndingOf, IsVerdict, Output, ReadWhole, RunsNothing, reads_input, EndsBy, IsEndingWhere, IsPlainEnding, is_too_long, most_octets}

-- what a source gave up to its end is all that it told
consumed_all : (before after : Option (List ℕ)) (octets told : List ℕ) → Consumes before after octets → IsAtEnd after → before ≡ Some told → octets ≡ told
consumed_all None after octets told consumed end is = absurd (none_some is)
  where
    none_some : ◌≡◌ {A = Option (List ℕ)} None (Some told) → ⊥
    none_some e = cc
consumed_all (Some xs) None octets told consumed end is = absurd consumed
consumed_all (Some xs) (Some ys) octets told consumed end is =
    let whole : xs ≡ octets = consumed ∙ ap (λ (l : List ℕ). octets ++ l) end ∙ append-nil octets in
    let same : xs ≡ told = cc in
    sym whole ∙ same

module _ (command : Command) (octets : List ℕ) (reads : reads_input command ≡ true) (few : length octets ≤ most_octets command) where
  not_too_long : is_too_long command octets ≡ false
  not_too_long = rw (reads, le-leb (length octets) (most_octets command) few) refl

  as_plain : (cause : Cause) → IsEndingOf command octets cause → IsPlainEnding command octets cause
  as_plain cause is = subst (λ (b : Bool). IsEndingWhere b command octets cause) (sym not_too_long) is

  plain_by : {X : Type 0} (answer : Result X Cause) → EndsBy (IsEndingOf command octets) answer → EndsBy (IsPlainEnding command octets) answer
  plain_by (Ok x) is = as_plain Done is
  plain_by (Err cause) (inl is) = inl (as_plain cause is)
  plain_by (Err cause) (inr is) = inr is

-- a command that has read its input to the end ends as is right for what the source told
pub ends_read : {X : Type 0} (command : Command) (octets : List ℕ) (answer : Result X Cause) (before after : Option (List ℕ))
    → reads_input command ≡ true → Consumes before after octets × IsAtEnd after → length octets ≤ most_octets command
    → EndsBy (IsEndingOf command octets) answer
    → (told : List ℕ) → before ≡ Some told → EndsBy (IsPlainEnding command told) answer
ends_read command octets answer before after reads whole few ends told is =
    subst (λ (l : List ℕ). EndsBy (IsPlainEnding command l) answer) (consumed_all before after octets told whole.0 whole.1 is)
    (plain_by command octets reads few answer ends)

-- what is answered for the octets that a source gave whole
pub answered : (command : Command) (made : Result Answer Cause) (octets given : List ℕ) (before after : Option (List ℕ)) → given ≡ octets
    → Consumes before after octets × IsAtEnd after → length octets ≤ most_octets command
    → IfOk made (λ a. Output command given a.journal.ticks a.text) → IfOk made (λ a. IsVerdict command given a.journal.ticks a.cause)
    → (RunsNothing command → IfOk made (λ a. a.journal.ticks ≡ []))
    → IfOk made (λ a. IsAnswer command before after a.journal.ticks a.text a.cause)
answered command (Err why) octets given before after same whole few output verdict no_journal = tt
answered command (Ok a) octets given before after same whole few output verdict no_journal = record {
  output = record {
    octets = given;
    whole = λ reads. subst (ReadWhole command before after) (sym same) (record { consumed = whole.0; at_end = whole.1; within = few });
    output = output;
    no_journal = no_journal;
  };
  verdict = verdict;
}
