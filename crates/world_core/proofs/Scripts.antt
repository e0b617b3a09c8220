-- The events of one tick in a file: from the cursor on, until one of a later tick comes.
use Rattle.std.proofs.Common.{◌≡◌, ◌≢◌, ℕ, zero, suc, ◌+◌, ◌<◌, ◌≤◌, Bool, List, [], ◌∷◌, ◌++◌, length, map, drop, get_or, refl, sym, ap, subst, ◌∙◌, append_assoc, arith}
use Rattle.std.specs.Prelude.{slice_get, Option, Some, None, if◌then◌else◌, IfSome}
use Rattle.std.specs.List.Sorted.{IsNonDecreasing}
use Rattle.std.proofs.Math.Seq.{drop-cons}
use Rattle.std.proofs.lemmas.{List.append-nil, List.length-map, Option.slice_get_within, Option.slice_get_read}
use Rattle.srp_base.proofs.Arithmetic.{is_same as same_is, is_other as other_is}
use Rattle.tree_topology.specs.declared.graph.Link.{Link}
use Rattle.topology_file.specs.declared.{entries.EventEntry.EventEntry, entries.StreamEntry.StreamEntry, entries.EventKind.EventKind}
use Rattle.tree_topology.specs.Topology.{Topology}
use Rattle.topology_file.specs.Plan.{Plan}
use Rattle.world_core.specs.{WorldEvent, WorldReply, WorldState, world_step, world_after, replies_to, event_of, with_event, scripted_from, script_at, after_script, IsDuring, IsAllowed, IsCursor, answers_to, answer_of, after_entry}

-- ---- entries of one tick

this_tick : (links : List Link) (streams : List StreamEntry) (t n : ℕ) (e : EventEntry) (es : List EventEntry) → e.tick ≡ t
    → scripted_from links streams t n (e ∷ es) ≡ with_event n (event_of links streams e.kind) (scripted_from links streams t (n + 1) es)
this_tick links streams t n e es is =
    ap (λ (b : Bool). if b then with_event n (event_of links streams e.kind) (scripted_from links streams t (n + 1) es) else scripted_from links streams t (n + 1) es) (same_is e.tick t is)

other_tick : (links : List Link) (streams : List StreamEntry) (t n : ℕ) (e : EventEntry) (es : List EventEntry)
    → e.tick ≢ t → scripted_from links streams t n (e ∷ es) ≡ scripted_from links streams t (n + 1) es
other_tick links streams t n e es ne =
    ap (λ (b : Bool). if b then with_event n (event_of links streams e.kind) (scripted_from links streams t (n + 1) es) else scripted_from links streams t (n + 1) es) (other_is e.tick t ne)

-- those before a place are of other ticks
from_place : (links : List Link) (streams : List StreamEntry) (t n i : ℕ) (es : List EventEntry) → ((k : ℕ) (e : EventEntry) → slice_get es k ≡ Some e → k < i → e.tick ≢ t)
    → scripted_from links streams t n es ≡ scripted_from links streams t (n + i) (drop i es)
from_place links streams t n zero es h = ap (λ (m : ℕ). scripted_from links streams t m es) (let none : n ≡ n + 0 = omega arith in none)
from_place links streams t n (suc i) [] h = refl
from_place links streams t n (suc i) (e ∷ es) h =
    let next : n + 1 + i ≡ n + suc i = omega arith in
    other_tick links streams t n e es (h 0 e refl (omega arith))
    ∙ (from_place links streams t (n + 1) i es (λ k d get lt. h (suc k) d get (omega (arith, lt)))
    ∙ ap (λ (m : ℕ). scripted_from links streams t m (drop i es)) next)

-- those from a place on are
none_from : (links : List Link) (streams : List StreamEntry) (t n i : ℕ) (es : List EventEntry) → ((k : ℕ) (e : EventEntry) → slice_get es k ≡ Some e → i ≤ k → e.tick ≢ t)
    → scripted_from links streams t n (drop i es) ≡ []
none_from links streams t n zero [] h = refl
none_from links streams t n zero (e ∷ es) h =
    other_tick links streams t n e es (h 0 e refl (omega arith)) ∙ none_from links streams t (n + 1) zero es (λ k d get le. h (suc k) d get (omega arith))
none_from links streams t n (suc i) [] h = refl
none_from links streams t n (suc i) (e ∷ es) h = none_from links streams t n i es (λ k d get le. h (suc k) d get (omega (arith, le)))

-- ---- ticks don't fall

tick_at : (events : List EventEntry) (k : ℕ) (e : EventEntry) (d : ℕ) → slice_get events k ≡ Some e → get_or (map (λ x. x.tick) events) k d ≡ e.tick
tick_at [] k e d get = cc
tick_at (x ∷ xs) zero e d get = let is : x ≡ e = cc in ap (λ (y : EventEntry). y.tick) is
tick_at (x ∷ xs) (suc k) e d get = tick_at xs k e d get

later_tick : (events : List EventEntry) → IsNonDecreasing (map (λ e. e.tick) events) → (i k : ℕ) (d e : EventEntry)
    → slice_get events i ≡ Some d → slice_get events k ≡ Some e → i ≤ k → d.tick ≤ e.tick
later_tick events order i k d e at_i at_k le =
    let within = slice_get_within events k e at_k in
    let many = length-map events (λ (x : EventEntry). x.tick) in
    let one = order i k 0 le (omega (arith, within, many)) in
    let first = tick_at events i d 0 at_i in
    let last = tick_at events k e 0 at_k in
    omega (arith, one, first, last)

-- ---- events with their answers

answered_with : (n : ℕ) (o : Option WorldEvent) (later : List (ℕ × WorldEvent)) (w : WorldState)
    → answers_to (with_event n o later) w ≡ answer_of n o w ++ answers_to later (after_entry o w)
answered_with n None later w = refl
answered_with n (Some e) later w = refl

after_with : (n : ℕ) (o : Option WorldEvent) (later : List (ℕ × WorldEvent)) (w : WorldState)
    → world_after (map (λ e. e.1) (with_event n o later)) w ≡ world_after (map (λ e. e.1) later) (after_entry o w)
after_with n None later w = refl
after_with n (Some e) later w = refl

pub numbers_are : (script : List (ℕ × WorldEvent)) (w : WorldState) → map (λ e. e.0) (answers_to script w) ≡ map (λ e. e.0) script
numbers_are [] w = refl
numbers_are (e ∷ script) w = ap (λ ns. e.0 ∷ ns) (numbers_are script (world_step e.1 w).0)

pub answers_are : (script : List (ℕ × WorldEvent)) (w : WorldState) → map (λ e. e.1) (answers_to script w) ≡ replies_to (map (λ e. e.1) script) w
answers_are [] w = refl
answers_are (e ∷ script) w = ap (λ rs. (world_step e.1 w).1 ∷ rs) (answers_are script (world_step e.1 w).0)

-- ---- the loop over the entries

-- the entries before place i have had their turn in tick t
pub record IsScripted (plan : Plan) (t i : ℕ) (w v : WorldState) (done : List (ℕ × WorldReply)) : Type 0 where
  pub answers : done ++ answers_to (scripted_from plan.tree.links plan.streams t (i + 1) (drop i plan.events)) v ≡ answers_to (script_at plan t) w
  pub after : world_after (map (λ e. e.1) (scripted_from plan.tree.links plan.streams t (i + 1) (drop i plan.events))) v ≡ after_script plan t w
  pub during : IsDuring plan.tree t v
  pub past : (k : ℕ) (e : EventEntry) → slice_get plan.events k ≡ Some e → k < i → e.tick < suc t
  pub coming : (k : ℕ) (e : EventEntry) → slice_get plan.events k ≡ Some e → i ≤ k → t ≤ e.tick

pub begins : (plan : Plan) (t i : ℕ) (w : WorldState) → IsDuring plan.tree t w → IsCursor plan.events t i → IsScripted plan t i w w []
begins plan t i w during cursor =
    let number : 1 + i ≡ i + 1 = omega arith in
    let skip : (k : ℕ) (e : EventEntry) → slice_get plan.events k ≡ Some e → k < i → e.tick ≢ t =
    λ k e get lt same. let below = cursor.past k e get lt in omega (arith, below, same)
    in
    let is = from_place plan.tree.links plan.streams t 1 i plan.events skip ∙ ap (λ (m : ℕ). scripted_from plan.tree.links plan.streams t m (drop i plan.events)) number in
    record {
      answers = ap (λ s. answers_to s w) (sym is);
      after = ap (λ (s : List (ℕ × WorldEvent)). world_after (map (λ e. e.1) s) w) (sym is);
      during = during;
      past = λ k e get lt. let below = cursor.past k e get lt in omega (arith, below);
      coming = cursor.coming;
    }

split : (events : List EventEntry) (i : ℕ) (e : EventEntry) → i < length events → e ≡ get_or events i e → drop i events ≡ e ∷ drop (i + 1) events
split events i e lt is =
    let next : suc i ≡ i + 1 = omega arith in
    drop-cons events i e lt ∙ (ap (λ x. x ∷ drop (suc i) events) (sym is) ∙ ap (λ (n : ℕ). e ∷ drop n events) next)

pub next_entry : (plan : Plan) (t i : ℕ) (w v u : WorldState) (e : EventEntry) (done : List (ℕ × WorldReply))
    → IsNonDecreasing (map (λ x. x.tick) plan.events) → i < length plan.events → e ≡ get_or plan.events i e → e.tick ≡ t
    → u ≡ after_entry (event_of plan.tree.links plan.streams e.kind) v → IsDuring plan.tree t u → IsScripted plan t i w v done
    → IsScripted plan t (i + 1) w u (done ++ answer_of (i + 1) (event_of plan.tree.links plan.streams e.kind) v)
next_entry plan t i w v u e done order lt here same step during s =
    let at_i = slice_get_read plan.events (length plan.events) i e refl lt here in
    let links : List Link = plan.tree.links in
    let streams : List StreamEntry = plan.streams in
    let o : Option WorldEvent = event_of links streams e.kind in
    let rest : List (ℕ × WorldEvent) = scripted_from links streams t (i + 1 + 1) (drop (i + 1) plan.events) in
    let cut : scripted_from links streams t (i + 1) (drop i plan.events) ≡ with_event (i + 1) o rest =
    ap (λ es. scripted_from links streams t (i + 1) es) (split plan.events i e lt here) ∙ this_tick links streams t (i + 1) e (drop (i + 1) plan.events) same
    in
    record {
      answers =
          append_assoc done (answer_of (i + 1) o v) (answers_to rest u)
          ∙ (ap (λ x. done ++ (answer_of (i + 1) o v ++ answers_to rest x)) step
          ∙ (ap (λ a. done ++ a) (sym (answered_with (i + 1) o rest v))
          ∙ (ap (λ x. done ++ answers_to x v) (sym cut) ∙ s.answers)));
      after =
          ap (λ x. world_after (map (λ (q : ℕ × WorldEvent). q.1) rest) x) step
          ∙ (sym (after_with (i + 1) o rest v)
          ∙ (ap (λ (x : List (ℕ × WorldEvent)). world_after (map (λ q. q.1) x) v) (sym cut) ∙ s.after));
      during = during;
      past = λ k d get less. let le = later_tick plan.events order k i d e get at_i (omega (arith, less)) in omega (arith, le, same);
      coming = λ k d get le. s.coming k d get (omega (arith, le));
    }

-- a later entry is of a later tick, or there is none
pub ends : (plan : Plan) (t i : ℕ) (w v : WorldState) (done : List (ℕ × WorldReply)) → i ≤ length plan.events
    → ((k : ℕ) (e : EventEntry) → slice_get plan.events k ≡ Some e → i ≤ k → suc t ≤ e.tick) → IsScripted plan t i w v done
    → (done ≡ answers_to (script_at plan t) w) × (v ≡ after_script plan t w) × IsCursor plan.events (suc t) i
ends plan t i w v done few later s =
    let none = none_from plan.tree.links plan.streams t (i + 1) i plan.events (λ k e get le same. let more = later k e get le in omega (arith, more, same)) in (
      sym (append-nil done) ∙ (ap (λ x. done ++ answers_to x v) (sym none) ∙ s.answers),
      ap (λ (x : List (ℕ × WorldEvent)). world_after (map (λ q. q.1) x) v) (sym none) ∙ s.after,
      record { within = few; past = s.past; coming = later },
    )

-- the entry at a place is of another tick, so all from it on are of later ones
pub stops : (plan : Plan) (t i : ℕ) (w v : WorldState) (e : EventEntry) (done : List (ℕ × WorldReply)) → IsNonDecreasing (map (λ x. x.tick) plan.events)
    → i < length plan.events → e ≡ get_or plan.events i e → e.tick ≢ t → IsScripted plan t i w v done
    → (done ≡ answers_to (script_at plan t) w) × (v ≡ after_script plan t w) × IsCursor plan.events (suc t) i
stops plan t i w v e done order lt here other s =
    let at_i = slice_get_read plan.events (length plan.events) i e refl lt here in
    let from : t ≤ e.tick = s.coming i e at_i (omega arith) in
    let above : suc t ≤ e.tick = omega (arith, from, other) in
    ends plan t i w v done (omega (arith, lt)) (λ k d get le. let more = later_tick plan.events order i k e d at_i get le in omega (arith, above, more)) s

-- no entry is left
pub runs_out : (plan : Plan) (t i : ℕ) (w v : WorldState) (done : List (ℕ × WorldReply)) → i ≡ length plan.events → IsScripted plan t i w v done
    → (done ≡ answers_to (script_at plan t) w) × (v ≡ after_script plan t w) × IsCursor plan.events (suc t) i
runs_out plan t i w v done all s =
    ends plan t i w v done (omega (arith, all)) (λ k d get le. let within = slice_get_within plan.events k d get in absurd (omega (arith, within, le, all))) s

-- an event of the file keeps the network within the tick
stays_entry : (tree : Topology) (t : ℕ) (o : Option WorldEvent) (v : WorldState) → IfSome o (IsAllowed tree)
    → ((e : WorldEvent) → IsAllowed tree e → IsDuring tree t (world_step e v).0) → IsDuring tree t v → IsDuring tree t (after_entry o v)
stays_entry tree t None v ok stays here = here
stays_entry tree t (Some e) v ok stays here = stays e ok

-- one entry more, as the loop has it
pub one_entry : (plan : Plan) (t i : ℕ) (w v u : WorldState) (e : EventEntry) (kind : EventKind) (done next : List (ℕ × WorldReply))
    → IsNonDecreasing (map (λ x. x.tick) plan.events) → i < length plan.events → e ≡ get_or plan.events i e → e.tick ≡ t → kind ≡ e.kind
    → IfSome (event_of plan.tree.links plan.streams kind) (IsAllowed plan.tree) → ((r : WorldEvent) → IsAllowed plan.tree r → IsDuring plan.tree t (world_step r v).0)
    → u ≡ after_entry (event_of plan.tree.links plan.streams kind) v → next ≡ done ++ answer_of (i + 1) (event_of plan.tree.links plan.streams kind) v
    → IsScripted plan t i w v done → IsScripted plan t (i + 1) w u next
one_entry plan t i w v u e kind done next order lt here same is ok stays after answer s =
    let links : List Link = plan.tree.links in
    let streams : List StreamEntry = plan.streams in
    let during : IsDuring plan.tree t u = subst (IsDuring plan.tree t) (sym after) (stays_entry plan.tree t (event_of links streams kind) v ok stays s.during) in
    let step : u ≡ after_entry (event_of links streams e.kind) v = after ∙ ap (λ (k : EventKind). after_entry (event_of links streams k) v) is in
    let made : next ≡ done ++ answer_of (i + 1) (event_of links streams e.kind) v = answer ∙ ap (λ (k : EventKind). done ++ answer_of (i + 1) (event_of links streams k) v) is in
    subst (IsScripted plan t (i + 1) w u) (sym made) (next_entry plan t i w v u e done order lt here same step during s)
