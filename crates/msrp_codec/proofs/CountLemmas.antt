-- How many events are of each type, and what follows where none is.
use Rattle.std.proofs.Common.{◌≡◌, ℕ, ◌+◌, ◌<◌, eqb, cond, List, [], ◌∷◌, length, get_or, take, refl, ap, ◌∙◌, arith}
use Rattle.std.proofs.lemmas.List.Filters.{length-filter_more}
use Rattle.msrp_codec.specs.declared.attribute_type.AttributeType.{AttributeType}
use Rattle.msrp_codec.specs.declared.attribute_type.AttributeType.TheVariants as types
use Rattle.msrp_codec.specs.declared.counts.Counts.{Counts}
use Rattle.msrp_codec.specs.{MsrpContent, KeyEvent, number_of_type, type_of_content, has_type, of_type, counts_of, with_one}
use Rattle.msrp_codec.specs.declared.pdu.MsrpContent.TheVariants as contents

-- where none of the events is of a type
pub none_typed : (t : AttributeType) (events : List KeyEvent) → length (of_type t events) ≡ 0 → of_type t events ≡ []
none_typed t events none = empty (of_type t events) none where
  empty : (xs : List KeyEvent) → length xs ≡ 0 → xs ≡ []
  empty [] h = refl
  empty (x ∷ xs) h = absurd (omega arith)

-- ---- one more

counts : ℕ → ℕ → ℕ → ℕ → Counts
counts a f l d = record { advertised = a; failed = f; listeners = l; domains = d }

same_counts : (a f l d p q r s : ℕ) → a ≡ p → f ≡ q → l ≡ r → d ≡ s → counts a f l d ≡ counts p q r s
same_counts a f l d p q r s e1 e2 e3 e4 = cc

-- how many are of a type behind the next event, of this content
one_more : (t : AttributeType) (events : List KeyEvent) (i : ℕ) (x : KeyEvent) (content : MsrpContent) → i < length events → (get_or events i x).2 ≡ content
    → length (of_type t (take (i + 1) events)) ≡ length (of_type t (take i events)) + cond (eqb (number_of_type (type_of_content content)) (number_of_type t)) 1 0
one_more t events i x content within is =
    length-filter_more (has_type t) events i x within
    ∙ ap (λ (c : MsrpContent). length (of_type t (take i events)) + cond (eqb (number_of_type (type_of_content c)) (number_of_type t)) 1 0) is

more_of : (events : List KeyEvent) (i : ℕ) (x : KeyEvent) (content : MsrpContent) → i < length events → (get_or events i x).2 ≡ content
    → with_one (counts_of (take i events)) content ≡ counts_of (take (i + 1) events)
unfolding counts
more_of events i x (contents.Advertise t) h e =
    let m = λ (k : AttributeType). one_more k events i x (contents.Advertise t) h e in
    same_counts _ _ _ _ _ _ _ _ (omega (arith, m types.Advertise)) (omega (arith, m types.Failed)) (omega (arith, m types.Listener)) (omega (arith, m types.Domain))
more_of events i x (contents.Failed t f) h e =
    let m = λ (k : AttributeType). one_more k events i x (contents.Failed t f) h e in
    same_counts _ _ _ _ _ _ _ _ (omega (arith, m types.Advertise)) (omega (arith, m types.Failed)) (omega (arith, m types.Listener)) (omega (arith, m types.Domain))
more_of events i x (contents.Listener kind) h e =
    let m = λ (k : AttributeType). one_more k events i x (contents.Listener kind) h e in
    same_counts _ _ _ _ _ _ _ _ (omega (arith, m types.Advertise)) (omega (arith, m types.Failed)) (omega (arith, m types.Listener)) (omega (arith, m types.Domain))
more_of events i x (contents.Domain priority vid) h e =
    let m = λ (k : AttributeType). one_more k events i x (contents.Domain priority vid) h e in
    same_counts _ _ _ _ _ _ _ _ (omega (arith, m types.Advertise)) (omega (arith, m types.Failed)) (omega (arith, m types.Listener)) (omega (arith, m types.Domain))

pub counted_more : (events : List KeyEvent) (i : ℕ) (x : KeyEvent) → i < length events
    → with_one (counts_of (take i events)) (get_or events i x).2 ≡ counts_of (take (i + 1) events)
counted_more events i x h = more_of events i x (get_or events i x).2 h refl
