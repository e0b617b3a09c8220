-- How a command is carried out: its answer is made, and let out.
use Rattle.std.proofs.Common.{rules, ◌≡◌, ℕ, zero, suc, List, refl, sym, subst, Option, Some, inl, inr, ◌∙◌}
use Rattle.std.specs.Prelude.{◌⊎◌, Result, Ok, Err}
use Rattle.srpnet.specs.{Answer, Cause, Command, StrictWishes, Bare, Done, BadWords, ReadFault, TooLong, NotToml, BadScenario, WriteFault, AuditNo, NoMemory, NotGranted, NoLink, NoWords, CarriedOut, EndsWriting, IsAnswer, IsPlainEnding, IsMade, IsPrinted, IsLetOut, IsVerdict, LacksOutput, WentOut, Place, finish, words, reading, judging, writing, verdict, anywhere, IsBehindOutput, IsBeforeWriting, place_of_cause, but_verdict, ended, verdict_of}
use Rattle.world_core.specs.declared.journal.Tick.{Tick}

-- ---- how an answer ends

-- behind its output, and but for what that says as done
abbrev IsBehind : Cause → Type 0
IsBehind cause = WentOut cause × (but_verdict cause ≡ Done)

counted_behind : (count : ℕ) → IsBehind (verdict_of count)
counted_behind zero = (tt, refl)
counted_behind (suc n) = (tt, refl)

done_behind : (cause : Cause) → cause ≡ Done → IsBehind cause
done_behind cause is = subst IsBehind (sym is) (tt, refl)

-- every verdict is that
verdict_behind : (command : Command) (octets : List ℕ) (ticks : List Tick) (cause : Cause) → IsVerdict command octets ticks cause → IsBehind cause
verdict_behind StrictWishes octets ticks cause is = subst IsBehind (sym is.cause_is) (counted_behind is.count)
verdict_behind Bare octets ticks cause is = subst IsBehind (sym is) (tt, refl)
verdict_behind _ octets ticks cause is = done_behind cause is

-- what is behind the output isn't before it
behind_writes : (p : Place) → IsBehindOutput p → IsBeforeWriting p → ⊥
behind_writes finish went nothing = nothing
behind_writes words went nothing = went
behind_writes reading went nothing = went
behind_writes judging went nothing = went
behind_writes writing went nothing = went
behind_writes verdict went nothing = nothing
behind_writes anywhere went nothing = went

-- a cause for which there is no output isn't a no behind one
lacks_but : (cause : Cause) → LacksOutput cause → but_verdict cause ≡ cause
lacks_but Done lacks = absurd lacks
lacks_but BadWords lacks = refl
lacks_but ReadFault lacks = refl
lacks_but TooLong lacks = refl
lacks_but NotToml lacks = refl
lacks_but (BadScenario rule entry) lacks = refl
lacks_but (WriteFault written) lacks = refl
lacks_but (AuditNo line why) lacks = refl
lacks_but NoMemory lacks = refl
lacks_but (NotGranted wishes) lacks = absurd lacks
lacks_but NoWords lacks = absurd lacks
lacks_but NoLink lacks = refl

-- and its output didn't go out
lacks_whole : (cause : Cause) → LacksOutput cause → WentOut cause → ⊥
lacks_whole Done lacks went = lacks
lacks_whole BadWords lacks went = went
lacks_whole ReadFault lacks went = went
lacks_whole TooLong lacks went = went
lacks_whole NotToml lacks went = went
lacks_whole (BadScenario rule entry) lacks went = went
lacks_whole (WriteFault written) lacks went = went
lacks_whole (AuditNo line why) lacks went = went
lacks_whole NoMemory lacks went = went
lacks_whole (NotGranted wishes) lacks went = lacks
lacks_whole NoWords lacks went = lacks
lacks_whole NoLink lacks went = went

module _ {I O : Type 0} (left : I → Option (List ℕ)) (in_faults : I → ℕ) (held : O → Option (List ℕ)) (out_faults : O → ℕ)
    (command : Command) (source source' : I) (out out' : O) where
  -- ---- an answer was made, and its text was let out

  module _ (a : Answer) (made : IsMade left in_faults command source source' (Ok a)) where
    answered_as : (cause : Cause) → a.cause ≡ cause → IsAnswer command (left source) (left source') a.journal.ticks a.text cause
    answered_as cause is = subst (λ (c : Cause). IsAnswer command (left source) (left source') a.journal.ticks a.text c) is made.answer

    -- whole, whatever the answer says then
    whole_out : (cause : Cause) → a.cause ≡ cause → IsBehind cause → IsPrinted held out_faults out out' a.text Done
        → CarriedOut left in_faults held out_faults command source source' out out' cause a.journal.ticks
    whole_out cause is behind printed = record {
      done = λ went. record { text = a.text; answer = answered_as cause is; appended = printed.done refl };
      part = λ w other. absurd (subst WentOut other behind.0);
      memory = λ other. absurd (subst WentOut other behind.0);
      nothing_written = λ nothing. absurd (behind_writes (place_of_cause cause) behind.0 nothing);
      no_journal = λ nothing. absurd (behind_writes (place_of_cause cause) behind.0 nothing);
      given = made.given;
      read_fault = λ other. absurd (subst WentOut other behind.0);
      write_fault = λ w other. absurd (subst WentOut other behind.0);
      read_counts = λ no. made.counts (λ e. cc);
      write_counts = λ no. printed.counts (λ e. cc);
      in_time = λ other. absurd (subst WentOut other behind.0);
      too_long = λ other. absurd (subst WentOut other behind.0);
      refused = λ other. absurd (subst IsBehindOutput other behind.0);
      good_words = λ other. subst WentOut other behind.0;
      ends = λ octets told no_read no_write. inl (subst (IsPlainEnding command octets) (sym behind.1) (made.ends octets told no_read));
      unread = made.unread;
      unread_ends = λ unread no_write. inl behind.1;
      unread_unrefused = λ unread nothing. behind_writes (place_of_cause cause) behind.0 nothing;
    }

    -- in part, where writing failed
    part_out : (written : ℕ) → IsPrinted held out_faults out out' a.text (WriteFault written)
        → CarriedOut left in_faults held out_faults command source source' out out' (WriteFault written) a.journal.ticks
    part_out written printed = record {
      done = λ went. absurd went;
      part = λ w is. record { text = a.text; output = made.answer.output; appended = printed.part w is; short = printed.short w is };
      memory = λ is. absurd cc;
      nothing_written = λ nothing. absurd nothing;
      no_journal = λ nothing. absurd nothing;
      given = made.given;
      read_fault = λ is. absurd cc;
      write_fault = λ w is. printed.fault w is;
      read_counts = λ no. made.counts (λ e. cc);
      write_counts = λ no. absurd (no refl);
      in_time = λ is. absurd cc;
      too_long = λ is. absurd cc;
      refused = λ is. absurd cc;
      good_words = λ is. cc;
      ends = λ octets told no_read no_write. absurd (no_write (printed.fault written refl));
      unread = made.unread;
      unread_ends = λ unread no_write. absurd (no_write (printed.fault written refl));
      unread_unrefused = λ unread nothing. nothing;
    }

    -- in part, where memory ran out
    front_out : IsPrinted held out_faults out out' a.text NoMemory
        → CarriedOut left in_faults held out_faults command source source' out out' NoMemory a.journal.ticks
    front_out printed = record {
      done = λ went. absurd went;
      part = λ w is. absurd cc;
      memory = λ is. inr (record { text = a.text; output = made.answer.output; part = printed.memory refl });
      nothing_written = λ nothing. absurd nothing;
      no_journal = λ nothing. absurd nothing;
      given = made.given;
      read_fault = λ is. absurd cc;
      write_fault = λ w is. absurd cc;
      read_counts = λ no. made.counts (λ e. cc);
      write_counts = λ no. printed.counts no;
      in_time = λ is. absurd cc;
      too_long = λ is. absurd cc;
      refused = λ is. absurd cc;
      good_words = λ is. cc;
      ends = λ octets told no_read no_write. inr refl;
      unread = made.unread;
      unread_ends = λ unread no_write. inr refl;
      unread_unrefused = λ unread nothing. nothing;
    }

    -- by what writing ended with
    let_out_by : (written : Cause) → EndsWriting written → IsPrinted held out_faults out out' a.text written
        → CarriedOut left in_faults held out_faults command source source' out out' (ended written a.cause) a.journal.ticks
    let_out_by Done ends printed =
        whole_out a.cause refl (verdict_behind command made.answer.output.octets a.journal.ticks a.cause made.answer.verdict) printed
    let_out_by (WriteFault written) ends printed = part_out written printed
    let_out_by NoMemory ends printed = front_out printed
    let_out_by BadWords ends printed = absurd ends
    let_out_by ReadFault ends printed = absurd ends
    let_out_by TooLong ends printed = absurd ends
    let_out_by NotToml ends printed = absurd ends
    let_out_by (BadScenario rule entry) ends printed = absurd ends
    let_out_by (AuditNo line why) ends printed = absurd ends
    let_out_by (NotGranted wishes) ends printed = absurd ends
    let_out_by NoWords ends printed = absurd ends
    let_out_by NoLink ends printed = absurd ends

  with_answer : (a : Answer) (cause : Cause) (ticks : List Tick) → IsMade left in_faults command source source' (Ok a)
      → IsLetOut held out_faults out out' (Ok a) cause ticks
      → CarriedOut left in_faults held out_faults command source source' out out' cause ticks
  with_answer a cause ticks made said =
      subst (λ (c : Cause). CarriedOut left in_faults held out_faults command source source' out out' c ticks) (sym said.cause_is)
      (subst (λ (ts : List Tick). CarriedOut left in_faults held out_faults command source source' out out' (ended said.written a.cause) ts)
      (sym said.ticks_are) (let_out_by a made said.written said.printed.only said.printed))

  -- ---- none was made

  without_answer : (why cause : Cause) (ticks : List Tick) → IsMade left in_faults command source source' (Err why)
      → IsLetOut held out_faults out out' (Err why) cause ticks
      → CarriedOut left in_faults held out_faults command source source' out out' cause ticks
  without_answer why cause ticks made none = record {
    done = λ went. absurd (lacks_output_whole went);
    part = search rules;
    memory = search rules;
    nothing_written = search rules;
    no_journal = search rules;
    given = search rules;
    read_fault = search rules;
    write_fault = search rules;
    read_counts = search rules;
    write_counts = search rules;
    in_time = search rules;
    too_long = search rules;
    refused = search rules;
    good_words = search rules;
    ends = λ octets told no_read no_write.
        subst (λ (c : Cause). IsPlainEnding command octets (but_verdict c) ⊎ (c ≡ NoMemory)) (sym none.0)
        (subst (λ (c : Cause). IsPlainEnding command octets c ⊎ (why ≡ NoMemory)) (sym (lacks_but why made.only)) (made.ends octets told no_read));
    unread = search rules;
    unread_ends = search rules;
    unread_unrefused = search rules;
  }
    where
      lacks_output_whole : WentOut cause → ⊥
      lacks_output_whole went = lacks_whole why made.only (subst WentOut none.0 went)

  pub carried : (made : Result Answer Cause) (cause : Cause) (ticks : List Tick) → IsMade left in_faults command source source' made
      → IsLetOut held out_faults out out' made cause ticks
      → CarriedOut left in_faults held out_faults command source source' out out' cause ticks
  carried (Ok a) cause ticks made let_out = with_answer a cause ticks made let_out
  carried (Err why) cause ticks made none = without_answer why cause ticks made none
