-- What is kept of the contents that a PDU declares of a key tells whether another than one is
-- declared.
use Rattle.std.proofs.Common.{◌≡◌, ◌∙◌, Bool, true, false, not, if◌then◌else◌, List, [], ◌∷◌, ◌++◌, filter, refl, ap, sym}
use Rattle.std.specs.Prelude.{◌||◌, ◌&&◌, Option, Some}
use Rattle.std.specs.BTreeMap.{BTreeMap, get, Updates}
use Rattle.std.specs.List.{list_any}
use Rattle.mrp_participant.specs.{Lookup.same, Sending.is_leave}
use Rattle.msrp.specs.Part.{key_cmp, same_content}
use Rattle.msrp.specs.SameContent.{content_one}
use Rattle.msrp_codec.specs.declared.pdu.{MsrpKey.MsrpKey, MsrpContent.MsrpContent}
use Rattle.replay_words.specs.declared.replaced.KeyContents.{KeyContents}
use Rattle.replay_words.specs.{StreamEvent, is_declaring, has_value, declares_other, is_replaced, without_replaced, is_other, is_replaced_by}
use Rattle.replay_words.proofs.BookedFor.{one_key}

-- ---- contents

turned : (a b : MsrpContent) → same_content a b ≡ true → same_content b a ≡ true
turned a b h =
    let is : a ≡ b = content_one a b h in
    ap (λ (x : MsrpContent). same_content x a) (sym is) ∙ ap (same_content a) is ∙ h

alike_by : (a b : MsrpContent) (p q : Bool) → same_content a b ≡ p → same_content b a ≡ q → p ≡ q
alike_by a b true true one other = refl
alike_by a b true false one other = sym (turned a b one) ∙ other
alike_by a b false true one other = sym one ∙ turned b a other
alike_by a b false false one other = refl

either_way : (a b : MsrpContent) → same_content a b ≡ same_content b a
either_way a b = alike_by a b (same_content a b) (same_content b a) refl refl

more_by : (first more content : MsrpContent) (others is : Bool) → same_content first content ≡ is
    → ((others || not (same_content first more)) || not is) ≡ ((others || not is) || not (same_content more content))
more_by first more content true is at = refl
more_by first more content false true at =
    or_nothing _ ∙ ap not (either_way first more ∙ ap (same_content more) (content_one first content at))
  where
    or_nothing : (b : Bool) → (b || false) ≡ b
    or_nothing true = refl
    or_nothing false = refl
more_by first more content false false at = or_true (not (same_content first more))
  where
    or_true : (b : Bool) → (b || true) ≡ true
    or_true true = refl
    or_true false = refl

-- with a content more, others are declared where they were, or where this is another
pub more_contents : (d : KeyContents) (more content : MsrpContent)
    → is_other (Some (record { content = d.content; others = is_other (Some d) more })) content
    ≡ (is_other (Some d) content || not (same_content more content))
more_contents d more content = more_by d.content more content d.others (same_content d.content content) refl

-- ---- keys

marked_by : (m n : BTreeMap MsrpKey KeyContents) (e : StreamEvent) (next : KeyContents) (key : MsrpKey) (content : MsrpContent) (is : Bool)
    → same key_cmp e.1 key ≡ is → get key_cmp n key ≡ (if is then Some next else get key_cmp m key)
    → is_other (Some next) content ≡ (is_other (get key_cmp m e.1) content || not (same_content e.2 content))
    → is_other (get key_cmp n key) content ≡ (is_other (get key_cmp m key) content || (is && not (same_content e.2 content)))
marked_by m n e next key content true at there more =
    ap (λ (found : Option KeyContents). is_other found content) there
    ∙ more
    ∙ ap (λ (k : MsrpKey). is_other (get key_cmp m k) content || not (same_content e.2 content)) (one_key e.1 key at)
marked_by m n e next key content false at there more =
    ap (λ (found : Option KeyContents). is_other found content) there
    ∙ or_nothing (is_other (get key_cmp m key) content)
  where
    or_nothing : (b : Bool) → b ≡ (b || false)
    or_nothing true = refl
    or_nothing false = refl

-- so it is where an event that declares a content is kept at its key
pub marked : (m n : BTreeMap MsrpKey KeyContents) (e : StreamEvent) (next : KeyContents) (found : Option KeyContents)
    → is_declaring e.0 ≡ true → found ≡ get key_cmp m e.1 → Updates key_cmp m n e.1 (Some next)
    → ((content : MsrpContent) → is_other (Some next) content ≡ (is_other found content || not (same_content e.2 content)))
    → (key : MsrpKey) (content : MsrpContent)
    → is_other (get key_cmp n key) content ≡ (is_other (get key_cmp m key) content || declares_other key content e)
marked m n e next found declares is updates more key content =
    marked_by m n e next key content (same key_cmp e.1 key) refl (updates.0 key)
    (more content ∙ ap (λ (x : Option KeyContents). is_other x content || not (same_content e.2 content)) is)
    ∙ ap (λ (b : Bool). is_other (get key_cmp m key) content || (b && (same key_cmp e.1 key && not (same_content e.2 content)))) (sym declares)

-- of one event more
pub one_more : (before after here rest whole : Bool) → after ≡ (before || here) → (before || (here || rest)) ≡ whole → (after || rest) ≡ whole
one_more before after here rest whole is all = ap (λ (b : Bool). b || rest) is ∙ grouped before here rest ∙ all
  where
    grouped : (a b c : Bool) → ((a || b) || c) ≡ (a || (b || c))
    grouped true b c = refl
    grouped false b c = refl

-- ---- events

-- two tests that agree keep the same
kept_alike : {X : Type 0} (p q : X → Bool) → ((x : X) → p x ≡ q x) → (xs : List X) → filter p xs ≡ filter q xs
kept_alike p q alike [] = refl
kept_alike p q alike (x ∷ xs) =
    ap (λ (b : Bool). if b then x ∷ filter p xs else filter p xs) (alike x)
    ∙ ap (λ (ys : List _). if q x then x ∷ ys else ys) (kept_alike p q alike xs)

-- what is kept by a map of what events declare is what is kept by the events
pub kept_by : (m : BTreeMap MsrpKey KeyContents) (events none kept : List StreamEvent)
    → ((key : MsrpKey) (content : MsrpContent) → is_other (get key_cmp m key) content ≡ list_any (declares_other key content) events)
    → none ≡ [] → kept ≡ none ++ filter (λ (e : StreamEvent). not (is_replaced_by m e)) events
    → kept ≡ without_replaced events
unfolding without_replaced is_replaced
kept_by m events none kept is empty all =
    all
    ∙ ap (λ (es : List StreamEvent). es ++ filter (λ (e : StreamEvent). not (is_replaced_by m e)) events) empty
    ∙ kept_alike (λ (e : StreamEvent). not (is_replaced_by m e)) (λ (e : StreamEvent). not (is_replaced events e))
    (λ e. ap (λ (b : Bool). not (is_leave e.0 && (has_value e.1 && b))) (is e.1 e.2)) events
