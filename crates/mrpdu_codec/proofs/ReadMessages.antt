-- What a reader of Messages and PDUs takes is a tree of the grammar, and where it stops a field breaks.
use Rattle.std.proofs.Common.{◌≡◌, ℕ, zero, suc, ◌+◌, ◌-◌, ◌<◌, ◌≤◌, true, cond, eqb, List, [], ◌∷◌, ◌++◌, length, Option, Some, None, Ok, Err, MatchResult, refl, sym, ap, subst, ◌∙◌, append_assoc, length-append, arith}
use Rattle.std.specs.List.{flat_map}
use Rattle.std.proofs.lemmas.Bool.{eqb-false, eqb-true}
use Rattle.mrpdu_codec.specs.{AppForm, TypeForm, VectorAttr, Message, Pdu, row_of, MessageTree, IsMessage, message_octets, messages_octets, length_fits, list_octets, messages_from, messages_meant, AreMessages, after_octets, LengthBreaks, LaterTypeBreaks, MessageBreaks, AreClosed, PduBreaks, Spells, Breaks, body_at, length_at, message_at, end_at, messages_at, messages_of, version_at, first_type_at, pdu_at}
use Rattle.mrpdu_codec.specs.Grammar.MessageBreaks.{len as length_breaks, body as body_breaks}
use Rattle.mrpdu_codec.specs.Grammar.PduBreaks.{version as version_breaks, first_type, later_type, message as message_breaks}
use Rattle.mrpdu_codec.proofs.{Longer.message_longer, Steps.then_match, Steps.test_match, Steps.weaker_match, Steps.Broken, ReadRegions.body_match}

-- ---- a Message

length_match : (row : Option TypeForm) (octets : List ℕ)
    → MatchResult (length_at row octets) (λ x. (octets ≡ x.0 ∷ x.1) × (length_fits row x.0 ≡ true)) (λ left. (left ≡ length octets) × LengthBreaks row octets)
unfolding length_at
length_match row [] = (refl, tt)
length_match row (len ∷ rest) = test_match (length_fits row len) _ _ _ _ (λ good. (refl, good)) (λ bad. (refl, bad))

pub record TookMessage (form : AppForm) (octets : List ℕ) (messages : List Message) (rest : List ℕ) : Type 0 where
  pub tree : MessageTree
  pub rules : IsMessage form tree
  pub whole : octets ≡ message_octets tree ++ rest
  pub meaning : messages ≡ messages_meant form tree
  pub last : tree.end_mark ≡ [] → rest ≡ []

regroup : (kind len : ℕ) (list_length region mark rest : List ℕ) → kind ∷ len ∷ (list_length ++ (region ++ (mark ++ rest))) ≡ (kind ∷ len ∷ (list_length ++ (region ++ mark))) ++ rest
regroup kind len list_length region mark rest = grind (arith, append_assoc)

pub message_match : (form : AppForm) (kind : ℕ) (octets : List ℕ) → 0 < kind
    → MatchResult (message_at form kind octets) (λ x. TookMessage form (kind ∷ octets) x.0 x.1) (λ left. Broken (MessageBreaks form) (kind ∷ octets) left)
unfolding message_at
message_match form kind octets some =
    then_match (length_at (row_of form kind) octets) _ _ _ _ _ (length_match (row_of form kind) octets)
    (λ len h. then_match (body_at form (row_of form kind) len.0 len.1) _ _ _ _ _ (body_match form (row_of form kind) len.0 len.1)
    (λ x t. record {
      tree = record { kind = kind; len = len.0; list_length = t.list_length; list = t.list; end_mark = t.end_mark };
      rules = record { kind = some; len = h.1; body = t.rules };
      whole = ap (λ (o : List ℕ). kind ∷ o) (h.0 ∙ ap (λ (o : List ℕ). len.0 ∷ o) t.whole) ∙ regroup kind len.0 t.list_length (list_octets t.list) t.end_mark x.1;
      meaning = ap (λ (attrs : List VectorAttr). messages_from (row_of form kind) kind attrs) t.meaning;
      last = t.last;
    })
    (λ left b. record {
      front = kind ∷ len.0 ∷ b.front;
      rest = b.rest;
      left_is = b.left_is;
      whole = ap (λ (o : List ℕ). kind ∷ o) (h.0 ∙ ap (λ (o : List ℕ). len.0 ∷ o) b.whole);
      breaks = body_breaks kind len.0 some h.1 b.front refl b.breaks;
    }))
    (λ left h. record { front = kind ∷ []; rest = octets; whole = refl; left_is = h.0; breaks = length_breaks kind some refl h.1 })

-- ---- Messages up to an end

record TookMessages (form : AppForm) (octets : List ℕ) (messages : List Message) : Type 0 where
  trees : List MessageTree
  after : Option (List ℕ)
  rules : AreMessages form trees after
  whole : octets ≡ messages_octets trees ++ after_octets after
  meaning : messages ≡ flat_map (messages_meant form) trees

data LaterBreaks (form : AppForm) (front rest : List ℕ) : Type 0 where
  at_type : (bs : List MessageTree) → AreClosed form bs → front ≡ messages_octets bs → LaterTypeBreaks rest → LaterBreaks form front rest
  in_message : (bs : List MessageTree) (part : List ℕ) → AreClosed form bs → front ≡ messages_octets bs ++ part → MessageBreaks form part rest → LaterBreaks form front rest

end_match : (form : AppForm) (octets : List ℕ) → MatchResult (end_at octets) (λ messages. TookMessages form (0 ∷ octets) messages) (λ left. Broken (LaterBreaks form) (0 ∷ octets) left)
unfolding end_at
end_match form [] = record { front = []; rest = 0 ∷ []; whole = refl; left_is = refl; breaks = at_type [] tt refl refl }
end_match form (next ∷ rest) =
    test_match (eqb next 0) _ _ _ _
    (λ good. record { trees = []; after = Some rest; rules = tt; whole = rw (eqb-true next 0 good) refl; meaning = refl })
    (λ bad. let n : next ≡ 0 → ⊥ = eqb-false next 0 bad in
    record { front = []; rest = 0 ∷ next ∷ rest; whole = refl; left_is = refl; breaks = at_type [] tt refl (refl, omega arith) })

-- nothing is left behind a Message without its EndMark, so nothing breaks there
closed_by : (form : AppForm) (mark rest : List ℕ) → (mark ≡ [] → rest ≡ []) → (left : ℕ) → Broken (LaterBreaks form) rest left → 0 < length mark
closed_by form (m ∷ mark) rest last left b = omega arith
closed_by form [] rest last left b = absurd (go b.breaks) where
  parts : b.front ++ b.rest ≡ []
  parts = sym b.whole ∙ last refl

  sizes : length b.front + length b.rest ≡ 0
  sizes = sym (length-append b.front b.rest) ∙ ap length parts

  no_type : (octets : List ℕ) → length octets ≡ 0 → LaterTypeBreaks octets → ⊥
  no_type [] e h = h
  no_type (o ∷ octets) e h = absurd (omega arith)

  go : LaterBreaks form b.front b.rest → ⊥
  go (at_type bs rules front-is h) = no_type b.rest (omega (arith, sizes)) h
  go (in_message bs part rules front-is (length_breaks kind some part-is h)) =
      let e = ap length (front-is ∙ ap (λ (o : List ℕ). messages_octets bs ++ o) part-is) in
      omega (arith, sizes, e, length-append (messages_octets bs) (kind ∷ []))
  go (in_message bs part rules front-is (body_breaks kind len some fits inner part-is h)) =
      let e = ap length (front-is ∙ ap (λ (o : List ℕ). messages_octets bs ++ o) part-is) in
      omega (arith, sizes, e, length-append (messages_octets bs) (kind ∷ len ∷ inner))

-- where nothing is left, there are no more Messages and no EndMark
nothing_after : (bs : List MessageTree) (after : Option (List ℕ)) (octets : List ℕ) → octets ≡ [] → octets ≡ messages_octets bs ++ after_octets after → (bs ≡ []) × (after ≡ None)
nothing_after [] None octets e w = (refl, refl)
nothing_after [] (Some rest) octets e w = absurd cc
nothing_after (b ∷ bs) after octets e w = absurd cc

then_message : (form : AppForm) (octets : List ℕ) (messages : List Message) (after : List ℕ) → TookMessage form octets messages after
    → (left : ℕ) → Broken (LaterBreaks form) after left → Broken (LaterBreaks form) octets left
then_message form octets messages after t left b = go b.breaks where
  closed : 0 < length t.tree.end_mark
  closed = closed_by form t.tree.end_mark after t.last left b

  text : octets ≡ (message_octets t.tree ++ b.front) ++ b.rest
  text = t.whole ∙ ap (λ (o : List ℕ). message_octets t.tree ++ o) b.whole ∙ sym (append_assoc (message_octets t.tree) b.front b.rest)

  go : LaterBreaks form b.front b.rest → Broken (LaterBreaks form) octets left
  go (at_type bs rules front-is h) = record {
    front = message_octets t.tree ++ b.front;
    rest = b.rest;
    whole = text;
    left_is = b.left_is;
    breaks = at_type (t.tree ∷ bs) ((t.rules, closed), rules) (ap (λ (o : List ℕ). message_octets t.tree ++ o) front-is) h;
  }
  go (in_message bs part rules front-is h) = record {
    front = message_octets t.tree ++ b.front;
    rest = b.rest;
    whole = text;
    left_is = b.left_is;
    breaks = in_message (t.tree ∷ bs) part ((t.rules, closed), rules)
        (ap (λ (o : List ℕ). message_octets t.tree ++ o) front-is ∙ sym (append_assoc (message_octets t.tree) (messages_octets bs) part)) h;
  }

messages_match : (fuel : ℕ) (form : AppForm) (octets : List ℕ) → length octets ≤ fuel
    → MatchResult (messages_at fuel form octets) (λ messages. TookMessages form octets messages) (λ left. Broken (LaterBreaks form) octets left)
unfolding messages_at
messages_match zero form [] enough = record { trees = []; after = None; rules = tt; whole = refl; meaning = refl }
messages_match zero form (o ∷ octets) enough = absurd (omega arith)
messages_match (suc fuel) form [] enough = record { trees = []; after = None; rules = tt; whole = refl; meaning = refl }
messages_match (suc fuel) form (kind ∷ rest) enough =
    test_match (eqb kind 0) _ _ _ _
    (λ good. subst (λ (k : ℕ). MatchResult (end_at rest) (λ messages. TookMessages form (k ∷ rest) messages) (λ left. Broken (LaterBreaks form) (k ∷ rest) left))
    (sym (eqb-true kind 0 good)) (end_match form rest))
    (λ bad. let n : kind ≡ 0 → ⊥ = eqb-false kind 0 bad in
    let some : 0 < kind = omega arith in
    then_match (message_at form kind rest) _ _ _ _ _ (message_match form kind rest some)
    (λ x t. let below = message_longer (kind ∷ rest) t.tree x.1 t.whole in
    then_match (messages_at fuel form x.1) _ _ _ _ _ (messages_match fuel form x.1 (omega arith))
    (λ messages u. record {
      trees = t.tree ∷ u.trees;
      after = u.after;
      rules = (t.rules, λ e. nothing_after u.trees u.after x.1 (t.last e) u.whole, u.rules);
      whole = t.whole ∙ ap (λ (o : List ℕ). message_octets t.tree ++ o) u.whole ∙ sym (append_assoc (message_octets t.tree) (messages_octets u.trees) (after_octets u.after));
      meaning = ap (λ (ms : List Message). ms ++ messages) t.meaning ∙ ap (λ (ms : List Message). messages_meant form t.tree ++ ms) u.meaning;
    })
    (λ left b. then_message form (kind ∷ rest) x.0 x.1 t left b))
    (λ left b. record { front = b.front; rest = b.rest; whole = b.whole; left_is = b.left_is; breaks = in_message [] b.front tt refl b.breaks }))

-- ---- a PDU

some_messages : (bs : List MessageTree) (after : Option (List ℕ)) (kind : ℕ) (rest : List ℕ) → 0 < kind → kind ∷ rest ≡ messages_octets bs ++ after_octets after → 0 < length bs
some_messages (b ∷ bs) after kind rest some e = omega arith
some_messages [] None kind rest some e = absurd cc
some_messages [] (Some more) kind rest some e = grind arith

no_later : (kind : ℕ) (rest : List ℕ) → 0 < kind → LaterTypeBreaks (kind ∷ rest) → ⊥
no_later kind [] some h = omega arith
no_later kind (next ∷ rest) some h = omega arith

pdu_breaks : (form : AppForm) (version kind : ℕ) (rest : List ℕ) → 0 < kind → (left : ℕ) → Broken (LaterBreaks form) (kind ∷ rest) left → Broken (PduBreaks form) (version ∷ kind ∷ rest) left
pdu_breaks form version kind rest some left b = go b.breaks where
  text : version ∷ kind ∷ rest ≡ (version ∷ b.front) ++ b.rest
  text = ap (λ (o : List ℕ). version ∷ o) b.whole

  go : LaterBreaks form b.front b.rest → Broken (PduBreaks form) (version ∷ kind ∷ rest) left
  go (at_type [] rules front-is h) =
      let e : kind ∷ rest ≡ b.rest = b.whole ∙ ap (λ (o : List ℕ). o ++ b.rest) front-is in
      absurd (no_later kind rest some (subst LaterTypeBreaks (sym e) h))
  go (at_type (c ∷ bs) rules front-is h) = record {
    front = version ∷ b.front;
    rest = b.rest;
    whole = text;
    left_is = b.left_is;
    breaks = later_type version (c ∷ bs) (omega arith) rules (ap (λ (o : List ℕ). version ∷ o) front-is) h;
  }
  go (in_message bs part rules front-is h) = record {
    front = version ∷ b.front;
    rest = b.rest;
    whole = text;
    left_is = b.left_is;
    breaks = message_breaks version bs part rules (ap (λ (o : List ℕ). version ∷ o) front-is) h;
  }

messages_of_match : (form : AppForm) (octets : List ℕ) → MatchResult (messages_of form octets) (λ messages. TookMessages form octets messages) (λ left. Broken (LaterBreaks form) octets left)
unfolding messages_of
messages_of_match form octets = messages_match (length octets) form octets (omega arith)

pdu_match : (form : AppForm) (octets : List ℕ) → MatchResult (pdu_at form octets) (λ pdu. Spells form octets pdu) (λ left. Broken (PduBreaks form) octets left)
unfolding pdu_at version_at first_type_at
pdu_match form [] = record { front = []; rest = []; whole = refl; left_is = refl; breaks = version_breaks refl refl }
pdu_match form (version ∷ []) = record { front = version ∷ []; rest = []; whole = refl; left_is = refl; breaks = first_type version refl tt }
pdu_match form (version ∷ kind ∷ rest) =
    then_match (cond (eqb kind 0) (Err (suc (length rest))) (Ok tt)) _ (λ (u : Unit {0}). 0 < kind) (λ left. (left ≡ suc (length rest)) × (kind ≡ 0)) _ _
    (test_match (eqb kind 0) _ _ _ _ (λ good. (refl, eqb-true kind 0 good)) (λ bad. let n : kind ≡ 0 → ⊥ = eqb-false kind 0 bad in omega arith))
    (λ u some. then_match (messages_of form (kind ∷ rest)) _ _ _ _ _ (messages_of_match form (kind ∷ rest))
    (λ messages t. record {
      tree = record { version = version; messages = t.trees; after = t.after };
      rules = record { some = some_messages t.trees t.after kind rest some t.whole; messages = t.rules };
      spelling = ap (λ (o : List ℕ). version ∷ o) t.whole;
      meaning = ap (λ (ms : List Message). let pdu : Pdu = record { version = version; messages = ms } in pdu) t.meaning;
    })
    (λ left b. pdu_breaks form version kind rest some left b))
    (λ left h. record { front = version ∷ []; rest = kind ∷ rest; whole = refl; left_is = h.0; breaks = first_type version refl h.1 })

-- what reading answers holds: a PDU is spelled, or a field breaks where so many octets are left
pub reading_holds : (form : AppForm) (octets : List ℕ) → MatchResult (pdu_at form octets) (λ pdu. Spells form octets pdu) (λ left. (left ≤ length octets) × Breaks form octets (length octets - left))
reading_holds form octets =
    weaker_match (pdu_at form octets) _ _ _ _ (pdu_match form octets)
    (λ pdu s. s)
    (λ left b. let sizes : length octets ≡ length b.front + length b.rest = ap length b.whole ∙ length-append b.front b.rest in
    (omega (arith, sizes, b.left_is), record { front = b.front; rest = b.rest; whole = b.whole; at_place = omega (arith, sizes, b.left_is); breaks = b.breaks }))
