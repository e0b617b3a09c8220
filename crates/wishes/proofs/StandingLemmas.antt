-- The same stands where all parts of what stands are one.
use Rattle.std.proofs.Common.{◌≡◌, Bool, true, false, ◌&&◌, ◌==◌, List, [], ◌∷◌, Option, Some, None, refl, sym, ap, ◌∙◌}
use Rattle.std.specs.{Cmp.Lexicographic.pointwise, Option.option_eq}
use Rattle.std.proofs.lemmas.Bool.{and_from, and_parts}
use Rattle.srp_base.specs.declared.{bandwidth.Class.Class, bandwidth.Class.TheVariants.A, bandwidth.Class.TheVariants.B, bandwidth.Rank.Rank, bandwidth.Rank.TheVariants.Emergency, bandwidth.Rank.TheVariants.Normal, numbers.Cs.Cs, streams.ListenerKind.ListenerKind}
use Rattle.srp_base.specs.declared.streams.ListenerKind.TheVariants.{AskingFailed, Ready, ReadyFailed}
use Rattle.srp_base.specs.{contracts.bandwidth.ClassPartialEq.TheImpl.ghosts as class_equality, contracts.bandwidth.RankPartialEq.TheImpl.ghosts as rank_equality, contracts.numbers.CsPartialEq.TheImpl.ghosts as cs_equality}
use Rattle.stream_importance.specs.declared.entry.{Entry.Entry, Want.Want}
use Rattle.stream_importance.specs.{Importance.class_number, Importance.rank_number, contracts.entry.EntryPartialEq.TheImpl.ghosts as entry_equality, contracts.entry.WantPartialEq.TheImpl.ghosts as want_equality}
use Rattle.port_ledger.specs.Book.{same_entry, same_since, same_want}
use Rattle.port_ledger.proofs.PerStream.{same_entry-is, same_entry-refl}
use Rattle.wishes.specs.declared.standing.{Hearing.Hearing, Standing.Standing}
use Rattle.wishes.specs.{contracts.standing.HearingPartialEq.TheImpl.ghosts as hearing_equality, contracts.standing.StandingPartialEq.TheImpl.ghosts as standing_equality}
use Rattle.wishes.specs.RunMoments.{are_same_standings, same_flag, same_hearing, same_kind, same_standing}

flag_same : (a b : Bool) → same_flag a b ≡ true → a ≡ b
flag_same true b h = sym h
flag_same false true h = cc
flag_same false false h = refl

flag_itself : (a : Bool) → same_flag a a ≡ true
flag_itself true = refl
flag_itself false = refl

kind_same : (a b : ListenerKind) → same_kind a b ≡ true → a ≡ b
kind_same AskingFailed AskingFailed h = refl
kind_same AskingFailed Ready h = cc
kind_same AskingFailed ReadyFailed h = cc
kind_same Ready AskingFailed h = cc
kind_same Ready Ready h = refl
kind_same Ready ReadyFailed h = cc
kind_same ReadyFailed AskingFailed h = cc
kind_same ReadyFailed Ready h = cc
kind_same ReadyFailed ReadyFailed h = refl

kind_itself : (a : ListenerKind) → same_kind a a ≡ true
kind_itself AskingFailed = refl
kind_itself Ready = refl
kind_itself ReadyFailed = refl

heard_same : (a b : Option ListenerKind) → option_eq same_kind a b ≡ true → a ≡ b
heard_same None None h = refl
heard_same None (Some b) h = cc
heard_same (Some a) None h = cc
heard_same (Some a) (Some b) h = ap (λ (k : ListenerKind). Some k) (kind_same a b h)

heard_itself : (a : Option ListenerKind) → option_eq same_kind a a ≡ true
heard_itself None = refl
heard_itself (Some a) = kind_itself a

abbrev hearing_with : Bool → Option ListenerKind → Hearing
hearing_with listens heard = record { listens = listens; heard = heard }

hearing_same : (a b : Hearing) → same_hearing a b ≡ true → a ≡ b
hearing_same a b h =
    let parts = and_parts (same_flag a.listens b.listens) (option_eq same_kind a.heard b.heard) h in
    ap (λ (l : Bool). hearing_with l a.heard) (flag_same a.listens b.listens parts.0)
    ∙ ap (hearing_with b.listens) (heard_same a.heard b.heard parts.1)

hearing_itself : (a : Hearing) → same_hearing a a ≡ true
hearing_itself a = and_from (same_flag a.listens a.listens) (option_eq same_kind a.heard a.heard) (flag_itself a.listens) (heard_itself a.heard)

-- lists are one where their elements are
lists_same : {X : Type 0} (test : X → X → Bool) → ((x y : X) → test x y ≡ true → x ≡ y) → (xs ys : List X) → pointwise test xs ys ≡ true → xs ≡ ys
lists_same test same [] [] h = refl
lists_same test same [] (y ∷ ys) h = cc
lists_same test same (x ∷ xs) [] h = cc
lists_same {X} test same (x ∷ xs) (y ∷ ys) h =
    let parts = and_parts (test x y) (pointwise test xs ys) h in
    ap (λ (z : X). z ∷ xs) (same x y parts.0) ∙ ap (λ (zs : List X). y ∷ zs) (lists_same test same xs ys parts.1)

list_itself : {X : Type 0} (test : X → X → Bool) → ((x : X) → test x x ≡ true) → (xs : List X) → pointwise test xs xs ≡ true
list_itself test itself [] = refl
list_itself test itself (x ∷ xs) = and_from (test x x) (pointwise test xs xs) (itself x) (list_itself test itself xs)

abbrev standing_with : List Hearing → List (List Entry) → Standing
standing_with row rows = record { heard = row; booked = rows }

standing_same : (a b : Standing) → same_standing a b ≡ true → a ≡ b
standing_same a b h =
    let parts = and_parts (pointwise same_hearing a.heard b.heard) (pointwise (pointwise same_entry) a.booked b.booked) h in
    ap (λ (row : List Hearing). standing_with row a.booked) (lists_same same_hearing hearing_same a.heard b.heard parts.0)
    ∙ ap (standing_with b.heard) (lists_same (pointwise same_entry) (lists_same same_entry same_entry-is) a.booked b.booked parts.1)

standing_itself : (a : Standing) → same_standing a a ≡ true
standing_itself a =
    and_from (pointwise same_hearing a.heard a.heard) (pointwise (pointwise same_entry) a.booked a.booked)
    (list_itself same_hearing hearing_itself a.heard) (list_itself (pointwise same_entry) (list_itself same_entry same_entry-refl) a.booked)

pub standings_same : (xs ys : List Standing) → are_same_standings xs ys ≡ true → xs ≡ ys
standings_same xs ys h = lists_same same_standing standing_same xs ys h

pub standings_itself : (xs : List Standing) → are_same_standings xs xs ≡ true
standings_itself xs = list_itself same_standing standing_itself xs

-- ---- the same by the types' own equality

class_is : (a b : Class) → class_equality.eq a b ≡ (class_number a == class_number b)
class_is A A = refl
class_is A B = refl
class_is B A = refl
class_is B B = refl

rank_is : (a b : Rank) → rank_equality.eq a b ≡ (rank_number a == rank_number b)
rank_is Emergency Emergency = refl
rank_is Emergency Normal = refl
rank_is Normal Emergency = refl
rank_is Normal Normal = refl

since_is : (a b : Option Cs) → option_eq cs_equality.eq a b ≡ same_since a b
since_is None None = refl
since_is None (Some b) = refl
since_is (Some a) None = refl
since_is (Some a) (Some b) = refl

joined : (s c r p : Bool) → (s && (c && (r && p))) ≡ (((s && c) && r) && p)
joined true true true p = refl
joined true true false p = refl
joined true false r p = refl
joined false c r p = refl

want_is : (a b : Want) → want_equality.eq a b ≡ same_want a b
want_is a b =
    let streams : Bool = a.stream.0 == b.stream.0 in
    let slopes : Bool = a.slope == b.slope in
    ap (λ (t : Bool). streams && (t && (rank_equality.eq a.rank b.rank && slopes))) (class_is a.class b.class)
    ∙ (ap (λ (t : Bool). streams && ((class_number a.class == class_number b.class) && (t && slopes))) (rank_is a.rank b.rank)
    ∙ joined streams (class_number a.class == class_number b.class) (rank_number a.rank == rank_number b.rank) slopes)

entry_is : (a b : Entry) → entry_equality.eq a b ≡ same_entry a b
entry_is a b =
    ap (λ (t : Bool). t && option_eq cs_equality.eq a.since b.since) (want_is a.want b.want)
    ∙ ap (λ (t : Bool). same_want a.want b.want && t) (since_is a.since b.since)

lists_are : {X : Type 0} (f g : X → X → Bool) → ((x y : X) → f x y ≡ g x y) → (xs ys : List X) → pointwise f xs ys ≡ pointwise g xs ys
lists_are f g each [] [] = refl
lists_are f g each [] (y ∷ ys) = refl
lists_are f g each (x ∷ xs) [] = refl
lists_are f g each (x ∷ xs) (y ∷ ys) =
    ap (λ (t : Bool). t && pointwise f xs ys) (each x y) ∙ ap (λ (t : Bool). g x y && t) (lists_are f g each xs ys)

hearing_is : (a b : Hearing) → hearing_equality.eq a b ≡ same_hearing a b
hearing_is a b = by a.listens b.listens a.heard b.heard
  where
    by : (l m : Bool) (x y : Option ListenerKind) → hearing_equality.eq (hearing_with l x) (hearing_with m y) ≡ (same_flag l m && option_eq same_kind x y)
    by true true x y = refl
    by true false x y = refl
    by false true x y = refl
    by false false x y = refl

standing_is : (a b : Standing) → standing_equality.eq a b ≡ same_standing a b
standing_is a b =
    ap (λ (t : Bool). t && pointwise (pointwise entry_equality.eq) a.booked b.booked) (lists_are hearing_equality.eq same_hearing hearing_is a.heard b.heard)
    ∙ ap (λ (t : Bool). pointwise same_hearing a.heard b.heard && t)
    (lists_are (pointwise entry_equality.eq) (pointwise same_entry) (lists_are entry_equality.eq same_entry entry_is) a.booked b.booked)

pub standings_are : (xs ys : List Standing) → pointwise standing_equality.eq xs ys ≡ are_same_standings xs ys
standings_are = lists_are standing_equality.eq same_standing standing_is
