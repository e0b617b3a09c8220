-- What the application has of other streams once it asks for something of one.
use Rattle.std.proofs.Common.{◌≡◌, Bool, true, false, not, ◌||◌, ◌==◌, if◌then◌else◌, List, [], ◌∷◌, refl, arith}
use Rattle.std.specs.Prelude.{Some}
use Rattle.std.proofs.lemmas.Bool.Decides.{nat_tests}
use Rattle.srp_base.specs.declared.{numbers.StreamId.StreamId, streams.Talker.Talker}
use Rattle.msrp.specs.{talk_of, is_listened, talks_without, listens_without}

pub talks_other : (x s : StreamId) (talks : List Talker) → (s.0 == x.0) ≡ false → talk_of s (talks_without x talks) ≡ talk_of s talks
talks_other x s [] ne = refl
talks_other x s (t ∷ talks) ne = by (talks_other x s talks ne) (t.stream.0 == x.0) refl (t.stream.0 == s.0) refl
  where
    by : talk_of s (talks_without x talks) ≡ talk_of s talks → (a : Bool) → (t.stream.0 == x.0) ≡ a → (b : Bool) → (t.stream.0 == s.0) ≡ b
        → talk_of s (if not a then t ∷ talks_without x talks else talks_without x talks) ≡ (if b then Some t else talk_of s talks)
    by rest true e true f = absurd (grind (arith, nat_tests, e, f, ne))
    by rest true e false f = rest
    by rest false e true f = rw f refl
    by rest false e false f = rw f rest

pub talks_more : (t : Talker) (s : StreamId) (talks : List Talker) → (s.0 == t.stream.0) ≡ false → talk_of s (t ∷ talks_without t.stream talks) ≡ talk_of s talks
talks_more t s talks ne = let other : (t.stream.0 == s.0) ≡ false = grind (arith, nat_tests, ne) in rw other (talks_other t.stream s talks ne)

pub listens_other : (x s : StreamId) (listens : List StreamId) → (s.0 == x.0) ≡ false → is_listened s (listens_without x listens) ≡ is_listened s listens
listens_other x s [] ne = refl
listens_other x s (t ∷ listens) ne = by (listens_other x s listens ne) (t.0 == x.0) refl (t.0 == s.0) refl
  where
    by : is_listened s (listens_without x listens) ≡ is_listened s listens → (a : Bool) → (t.0 == x.0) ≡ a → (b : Bool) → (t.0 == s.0) ≡ b
        → is_listened s (if not a then t ∷ listens_without x listens else listens_without x listens) ≡ (b || is_listened s listens)
    by rest true e true f = absurd (grind (arith, nat_tests, e, f, ne))
    by rest true e false f = rest
    by rest false e true f = rw f refl
    by rest false e false f = rw f rest

pub listens_more : (x s : StreamId) (listens : List StreamId) → (s.0 == x.0) ≡ false → is_listened s (x ∷ listens) ≡ is_listened s listens
listens_more x s listens ne = let other : (x.0 == s.0) ≡ false = grind (arith, nat_tests, ne) in rw other refl
