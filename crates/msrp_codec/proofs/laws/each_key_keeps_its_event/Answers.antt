use Rattle.std.proofs.Common.{◌≡◌, ◌≤◌, Bool, true, false, List, [], ◌∷◌, ◌++◌, length, refl, ap, ◌∙◌, inl, inr, arith}
use Rattle.std.specs.List.{filter}
use Rattle.std.proofs.lemmas.{Bool.cases_Bool, List.Elements.filter-append}
use Rattle.msrp_codec.specs.declared.attribute_type.AttributeType.{AttributeType}
use Rattle.msrp_codec.specs.declared.attribute_type.AttributeType.TheVariants.{Advertise, Failed, Listener, Domain}
use Rattle.msrp_codec.specs.{MsrpKey, MsrpContent, KeyEvent, has_type, of_type, in_type_order, of_key}
use Rattle.msrp_codec.specs.declared.pdu.MsrpContent.TheVariants as contents
use Rattle.msrp_codec.proofs.laws.each_key_keeps_its_event.Goals as goal

module _ (is_key : MsrpKey → Bool) where
  keep : List KeyEvent → List KeyEvent
  keep events = of_key is_key events

  -- where no event is of the key, none of a type is
  none_typed : (t : AttributeType) (xs : List KeyEvent) → keep xs ≡ [] → keep (of_type t xs) ≡ []
  unfolding keep
  none_typed t [] h = refl
  none_typed t (x ∷ xs) h =
      elim (cases_Bool (is_key x.1)) [
        | inl here ↦ let e = rw here at h in absurd cc
        | inr apart ↦
            let later : keep xs ≡ [] = rw apart at h in
            elim (cases_Bool (has_type t x)) [
              | inl typed ↦ rw (typed, apart) (none_typed t xs later)
              | inr other ↦ rw other (none_typed t xs later)
            ]
      ]

  -- an event that isn't of the key makes no difference
  passed : (t : AttributeType) (x : KeyEvent) (xs : List KeyEvent) → is_key x.1 ≡ false → keep (of_type t (x ∷ xs)) ≡ keep (of_type t xs)
  unfolding keep
  passed t x xs apart =
      elim (cases_Bool (has_type t x)) [
        | inl typed ↦ rw (typed, apart) refl
        | inr other ↦ rw other refl
      ]

  four : List KeyEvent → List KeyEvent
  four xs = keep (of_type Advertise xs) ++ (keep (of_type Failed xs) ++ (keep (of_type Listener xs) ++ (keep (of_type Domain xs) ++ [])))

  -- the event of the key, alone
  alone : (x : KeyEvent) (content : MsrpContent) (xs : List KeyEvent) → x.2 ≡ content → is_key x.1 ≡ true → ((t : AttributeType) → keep (of_type t xs) ≡ []) → four (x ∷ xs) ≡ x ∷ []
  unfolding four keep
  alone x (contents.Advertise t) xs e here none = rw (e, here, none Advertise, none Failed, none Listener, none Domain) refl
  alone x (contents.Failed t f) xs e here none = rw (e, here, none Advertise, none Failed, none Listener, none Domain) refl
  alone x (contents.Listener kind) xs e here none = rw (e, here, none Advertise, none Failed, none Listener, none Domain) refl
  alone x (contents.Domain priority vid) xs e here none = rw (e, here, none Advertise, none Failed, none Listener, none Domain) refl

  none_left : (xs : List KeyEvent) → length xs ≤ 0 → xs ≡ []
  none_left [] h = refl
  none_left (x ∷ xs) h = absurd (omega arith)

  kept : (xs : List KeyEvent) → length (keep xs) ≤ 1 → four xs ≡ keep xs
  unfolding four keep
  kept [] h = refl
  kept (x ∷ xs) h =
      elim (cases_Bool (is_key x.1)) [
        | inl here ↦
            let one = rw here at h in
            let later : keep xs ≡ [] = none_left (keep xs) (omega (arith, one)) in
            alone x x.2 xs refl here (λ t. none_typed t xs later) ∙ rw (here, later) refl
        | inr apart ↦ rw (passed Advertise x xs apart, passed Failed x xs apart, passed Listener x xs apart, passed Domain x xs apart, apart) (kept xs (rw apart at h))
      ]

  split : (xs : List KeyEvent) → keep (in_type_order xs) ≡ four xs
  unfolding four keep
  split xs =
      let p = λ (x : KeyEvent). is_key x.1 in
      filter-append p (of_type Advertise xs) (of_type Failed xs ++ (of_type Listener xs ++ (of_type Domain xs ++ [])))
      ∙ ap (λ (ys : List KeyEvent). filter p (of_type Advertise xs) ++ ys) (
      filter-append p (of_type Failed xs) (of_type Listener xs ++ (of_type Domain xs ++ []))
      ∙ ap (λ (ys : List KeyEvent). filter p (of_type Failed xs) ++ ys) (
      filter-append p (of_type Listener xs) (of_type Domain xs ++ [])
      ∙ ap (λ (ys : List KeyEvent). filter p (of_type Listener xs) ++ ys) (filter-append p (of_type Domain xs) [])))

pub returns : goal.returns
unfolding keep
returns c = λ events is_key h. split is_key events ∙ kept is_key events h
