-- The events of one tick in a file: from the cursor on, until one of a later tick comes.
use Rattle.std.proofs.Common.{◌≡◌, ◌≢◌, ℕ, zero, suc, ◌+◌, ◌<◌, ◌≤◌, Bool, List, [], ◌∷◌, ◌++◌, length, map, filter, take, drop, get_or, refl, sym, ap, subst, ◌∙◌, append_assoc, append-nil, arith}
use Rattle.std.specs.Prelude.{◌==◌, if◌then◌else◌}
use Rattle.std.specs.{List.AllByRecursion, List.Sorted.IsNonDecreasing}
use Rattle.std.proofs.Math.Seq.{drop-cons}
use Rattle.std.proofs.lemmas.{List.drop_all}
use Rattle.srp_base.proofs.Arithmetic.{is_same as same_is, is_other as other_is}
use Rattle.group_file.specs.declared.entries.GroupEntry.{GroupEntry}
use Rattle.group_file.specs.{Events.group_ticks, Plan.GroupPlan}
use Rattle.mmrp.specs.declared.events.GroupEvent.{GroupEvent}
use Rattle.group_run.specs.{IsCursor, event_of, script_at}

-- those of a tick among some entries
abbrev pub of_tick : ℕ → List GroupEntry → List GroupEntry
of_tick t es = filter (λ e. e.tick == t) es

-- what they are in the network
abbrev pub scripted : GroupPlan → ℕ → List GroupEntry → List GroupEvent
scripted plan t es = map (λ e. event_of plan.tree.links e.kind) (of_tick t es)

-- ---- entries of one tick

this_tick : (t : ℕ) (e : GroupEntry) (es : List GroupEntry) → e.tick ≡ t → of_tick t (e ∷ es) ≡ e ∷ of_tick t es
this_tick t e es is = ap (λ (b : Bool). if b then e ∷ of_tick t es else of_tick t es) (same_is e.tick t is)

other_tick : (t : ℕ) (e : GroupEntry) (es : List GroupEntry) → e.tick ≢ t → of_tick t (e ∷ es) ≡ of_tick t es
other_tick t e es ne = ap (λ (b : Bool). if b then e ∷ of_tick t es else of_tick t es) (other_is e.tick t ne)

-- those before a place are of earlier ticks
none_past : (t i : ℕ) (es : List GroupEntry) → AllByRecursion (λ e. e.tick < t) (take i es) → of_tick t (drop i es) ≡ of_tick t es
none_past t zero es past = refl
none_past t (suc i) [] past = refl
none_past t (suc i) (e ∷ es) past =
    let before = past.0 in
    none_past t i es past.1 ∙ sym (other_tick t e es (λ same. absurd (omega (arith, before, same))))

-- or all are of later ones
none_coming : (t : ℕ) (es : List GroupEntry) → AllByRecursion (λ e. suc t ≤ e.tick) es → of_tick t es ≡ []
none_coming t [] coming = refl
none_coming t (e ∷ es) coming =
    let above = coming.0 in
    other_tick t e es (λ same. absurd (omega (arith, above, same))) ∙ none_coming t es coming.1

-- ---- ticks don't fall

order_behind : (x : ℕ) (xs : List ℕ) → IsNonDecreasing (x ∷ xs) → IsNonDecreasing xs
order_behind x xs order = λ i j d le lt. order (suc i) (suc j) d (omega (arith, le)) (omega (arith, lt))

from_first : (t : ℕ) (e : GroupEntry) (es : List GroupEntry) → IsNonDecreasing (group_ticks (e ∷ es)) → t ≤ e.tick → AllByRecursion (λ e. t ≤ e.tick) (e ∷ es)
from_first t e [] order le = (le, tt)
from_first t e (d ∷ es) order le =
    let next : e.tick ≤ d.tick = order 0 1 0 (omega arith) (omega arith) in
    (le, from_first t d es (order_behind e.tick (group_ticks (d ∷ es)) order) (omega (arith, le, next)))

from_place : (t i : ℕ) (e : GroupEntry) (es : List GroupEntry) → IsNonDecreasing (group_ticks es) → i < length es → e ≡ get_or es i e → t ≤ e.tick
    → AllByRecursion (λ e. t ≤ e.tick) (drop i es)
from_place t i e [] order lt is le = absurd (omega arith)
from_place t zero e (x ∷ es) order lt is le = from_first t x es order (subst (λ (y : GroupEntry). t ≤ y.tick) is le)
from_place t (suc i) e (x ∷ es) order lt is le = from_place t i e es (order_behind x.tick (group_ticks es) order) (omega (arith, lt)) is le

-- ---- the loop over the entries

-- the entries before place i have had their turn in tick t
pub record IsScripted (plan : GroupPlan) (t i : ℕ) (done : List GroupEvent) : Type 0 where
  pub all : done ++ scripted plan t (drop i plan.events) ≡ script_at plan t
  pub past : AllByRecursion (λ e. e.tick < suc t) (take i plan.events)
  pub coming : AllByRecursion (λ e. t ≤ e.tick) (drop i plan.events)

sooner : (t : ℕ) (es : List GroupEntry) → AllByRecursion (λ e. e.tick < t) es → AllByRecursion (λ e. e.tick < suc t) es
sooner t [] past = tt
sooner t (e ∷ es) past = let before = past.0 in (omega (arith, before), sooner t es past.1)

pub begins : (plan : GroupPlan) (t i : ℕ) → IsCursor plan.events t i → IsScripted plan t i []
begins plan t i cursor =
    record {
      all = ap (λ (es : List GroupEntry). map (λ e. event_of plan.tree.links e.kind) es) (none_past t i plan.events cursor.past);
      past = sooner t (take i plan.events) cursor.past;
      coming = cursor.coming;
    }

split : (es : List GroupEntry) (i : ℕ) (e : GroupEntry) → i < length es → e ≡ get_or es i e → drop i es ≡ e ∷ drop (i + 1) es
split es i e lt is =
    let next : suc i ≡ i + 1 = omega arith in
    drop-cons es i e lt ∙ (ap (λ x. x ∷ drop (suc i) es) (sym is) ∙ ap (λ (n : ℕ). e ∷ drop n es) next)

past_more : (t i : ℕ) (e : GroupEntry) (es : List GroupEntry) → i < length es → e ≡ get_or es i e → e.tick < t
    → AllByRecursion (λ e. e.tick < t) (take i es) → AllByRecursion (λ e. e.tick < t) (take (suc i) es)
past_more t i e [] lt is here past = absurd (omega arith)
past_more t zero e (x ∷ es) lt is here past = (subst (λ (y : GroupEntry). y.tick < t) is here, tt)
past_more t (suc i) e (x ∷ es) lt is here past = (past.0, past_more t i e es (omega (arith, lt)) is here past.1)

-- the entry that stands at a place
pub record StandsAt (events : List GroupEntry) (i : ℕ) (e : GroupEntry) : Type 0 where
  pub below : i < length events
  pub is : e ≡ get_or events i e

-- one entry more, of this tick
pub one_entry : (plan : GroupPlan) (t i : ℕ) (e : GroupEntry) (done next : List GroupEvent) → StandsAt plan.events i e → e.tick ≡ t
    → next ≡ done ++ event_of plan.tree.links e.kind ∷ [] → IsScripted plan t i done → IsScripted plan t (i + 1) next
one_entry plan t i e done next here same pushed s =
    let later : suc i ≡ i + 1 = omega arith in
    let rest = drop (i + 1) plan.events in
    let cut : drop i plan.events ≡ e ∷ rest = split plan.events i e here.below here.is in
    let f : GroupEntry → GroupEvent = λ x. event_of plan.tree.links x.kind in
    record {
      all =
          ap (λ (es : List GroupEvent). es ++ scripted plan t rest) pushed
          ∙ (append_assoc done (f e ∷ []) (scripted plan t rest)
          ∙ (ap (λ (es : List GroupEntry). done ++ map f es) (sym (ap (of_tick t) cut ∙ this_tick t e rest same)) ∙ s.all));
      past = subst (λ (n : ℕ). AllByRecursion (λ e. e.tick < suc t) (take n plan.events)) later (past_more (suc t) i e plan.events here.below here.is (omega (arith, same)) s.past);
      coming = (subst (AllByRecursion (λ e. t ≤ e.tick)) cut s.coming).1;
    }

-- a later entry is of a later tick, or there is none
ends : (plan : GroupPlan) (t i : ℕ) (done : List GroupEvent) → i ≤ length plan.events → AllByRecursion (λ e. suc t ≤ e.tick) (drop i plan.events)
    → IsScripted plan t i done → (done ≡ script_at plan t) × IsCursor plan.events (suc t) i
ends plan t i done few later s = (
  sym (append-nil done)
      ∙ (ap (λ (es : List GroupEntry). done ++ map (λ e. event_of plan.tree.links e.kind) es) (sym (none_coming t (drop i plan.events) later)) ∙ s.all),
  record { within = few; past = s.past; coming = later },
)

-- the entry at a place is of another tick, so all from it on are of later ones
pub stops : (plan : GroupPlan) (t i : ℕ) (e : GroupEntry) (done : List GroupEvent) → IsNonDecreasing (group_ticks plan.events)
    → StandsAt plan.events i e → e.tick ≢ t → IsScripted plan t i done → (done ≡ script_at plan t) × IsCursor plan.events (suc t) i
stops plan t i e done order here other s =
    let lt = here.below in
    let from : t ≤ e.tick = (subst (AllByRecursion (λ e. t ≤ e.tick)) (split plan.events i e lt here.is) s.coming).0 in
    let above : suc t ≤ e.tick = omega (arith, from, other) in
    ends plan t i done (omega (arith, lt)) (from_place (suc t) i e plan.events order lt here.is above) s

-- no entry is left
pub runs_out : (plan : GroupPlan) (t i : ℕ) (done : List GroupEvent) → i ≡ length plan.events → IsScripted plan t i done
    → (done ≡ script_at plan t) × IsCursor plan.events (suc t) i
runs_out plan t i done all s =
    let past : length plan.events ≤ i = omega (arith, all) in
    let none : AllByRecursion (λ e. suc t ≤ e.tick) (drop i plan.events) = subst (AllByRecursion (λ e. suc t ≤ e.tick)) (sym (drop_all i plan.events past)) tt in
    ends plan t i done (omega (arith, all)) none s

-- ---- the first tick

pub all_coming : (es : List GroupEntry) → AllByRecursion (λ e. 0 ≤ e.tick) es
all_coming [] = tt
all_coming (e ∷ es) = (omega arith, all_coming es)

pub before_all : (events : List GroupEntry) → IsCursor events 0 0
before_all events = record { within = omega arith; past = tt; coming = all_coming events }
