-- Each of the five kinds of step on a word keeps the rule of a lock's table.
use Rattle.std.proofs.Common.{◌≡◌, ◌≢◌, ◌==◌, ℕ, ◌+◌, ◌%◌, ◌^◌, ◌<◌, ◌≤◌, List, [], ◌∷◌, ◌++◌, set, get_or, Bool, true, false, cond, eq-eqb, ne_eqb, sym, refl, ap, ◌∙◌, subst, arith}
use Rattle.std.proofs.lemmas.List.{append-nil}
use Rattle.std.proofs.lemmas.Bool.{false_from_ne_true as is_clear}
use mathlib.Core.Logic.{dite}
use mathlib.Core.Option.{Option, none, some}
use native.Mathlib.Decide.{ℕ_discrete}
use lib.ListN.{get_elem?}
use Rattle.atomic_table.specs.Table.{State, step, keeps, takes, gives, Allows}
use Rattle.turn_lock.specs.{Kept, Known, Stage, Idle, Waits, Holds, View, Living, Log, calls_of, BeginsWith, last_state, IsHistory, tickets_at, ticket_count, at_home, FitsStage, IsInTurn, Seated, at_stage, having_seen, drew, looked, advanced, Took, Goes_on, Stands}
use Rattle.turn_lock.proofs.{HistoryLemmas.begins_itself, SeatLemmas.next_mod, SeatLemmas.one_ticket, SeatLemmas.few_tickets, MoveLemmas.seat_moves}

-- f, and at t the seat
abbrev given_to : (ℕ → ℕ) → ℕ → ℕ → ℕ → ℕ
given_to owner t seat x = cond (x == t) seat (owner x)

given_here : (owner : ℕ → ℕ) (t seat : ℕ) → given_to owner t seat t ≡ seat
given_here owner t seat = ap (λ (b : Bool). cond b seat (owner t)) (eq-eqb t t refl)

given_else : (owner : ℕ → ℕ) (t seat x : ℕ) → x ≢ t → given_to owner t seat x ≡ owner x
given_else owner t seat x apart = ap (λ (b : Bool). cond b seat (owner x)) (ne_eqb x t apart)

abbrev IsSet : Bool → Type 0
IsSet false = ⊥
IsSet true = Unit {0}

pub not_both : (b : Bool) → b ≡ true → b ≡ false → ⊥
not_both b t f = subst IsSet (sym t ∙ f) tt

abbrev pub elim_waits : ℕ → Stage → ℕ
elim_waits d Idle = d
elim_waits d (Waits x) = x
elim_waits d (Holds x) = d

module _ {S Ask Answer : Type 0} (does : S → Ask → Answer × S) (start : S) (passes : ℕ) where
  draws_from : (slots seat : ℕ) (known : Known S Ask Answer) → known.stage ≡ Idle
      → Allows (IsInTurn does start passes) slots seat (Living known, []) 0 (λ n. (n + 1) % 2 ^ 64) (drew (step slots 0 1 0 none) (Living known, []))
  draws_from slots seat known idle s r sized at fits =
      let t : ℕ = r.drawn in
      let e : 0 ≡ tickets_at known.stage = sym (ap tickets_at idle) in
      let low : r.served ≤ r.drawn = let a = r.tickets in omega arith in (
        Living (at_stage known (Waits t)),
        keeps,
        tt,
        seat_moves does start passes s r seat known at (Waits t) known.seen (r.drawn + 1) r.served (given_to r.owner t seat) r.out r.kept [] r.history
            (set s.words 0 ((get_or s.words 0 0 + 1) % 2 ^ 64)) s.homes
            (append-nil r.history)
            (ap (λ (ws : List ℕ). set ws 0 ((get_or ws 0 0 + 1) % 2 ^ 64)) r.words ∙ ap (λ (x : ℕ). x ∷ r.served % 2 ^ 64 ∷ []) (next_mod r.drawn (2 ^ 64)))
            (omega arith)
            r.slot
            r.home
            (λ out. let b = r.busy out in omega arith)
            r.legal
            (λ n apart. refl)
            (r.living seat known at).front
            (r.living seat known at).own
            (low, omega arith, given_here r.owner t seat, λ same. is_clear r.out (λ out. let b = r.busy out in absurd (omega arith)))
            (λ j seen stage apart. elim stage as
            (λ (z : Stage). FitsStage r.served r.drawn r.owner r.out r.history j seen z → FitsStage r.served (r.drawn + 1)
            (given_to r.owner t seat) r.out r.history j seen z) [
              | Idle ↦ λ h. tt
              | Waits x ↦ λ h. let below = h.1 in (h.0, omega arith, given_else r.owner t seat x (λ same. absurd (omega arith)) ∙ h.2, h.3)
              | Holds x ↦ λ h. let below = h.1 in (h.0, omega arith, given_else r.owner t seat x (λ same. absurd (omega arith)) ∙ h.2, h.3, h.4)
            ]),
        (t, ap (λ (ws : List ℕ). get_or ws 0 0) r.words, refl),
      )

  -- drawing a ticket: fetch_add on word 0
  pub draws : (slots seat : ℕ) (me : Seated S Ask Answer) (known : Known S Ask Answer) → me ≡ (Living known, []) → known.stage ≡ Idle
      → Allows (IsInTurn does start passes) slots seat me 0 (λ n. (n + 1) % 2 ^ 64) (drew (step slots 0 1 0 none) me)
  draws slots seat me known is idle =
      subst (λ (m : Seated S Ask Answer). Allows (IsInTurn does start passes) slots seat m 0 (λ n. (n + 1) % 2 ^ 64) (drew (step slots 0 1 0 none) m)) (sym is) (draws_from slots seat known idle)

  -- the served ticket as it was found
  found_served : (s : State (Kept S Ask Answer) (View S Ask Answer)) (r : IsInTurn does start passes s) → get_or s.words 1 0 ≡ r.served % 2 ^ 64
  found_served s r = ap (λ (ws : List ℕ). get_or ws 1 0) r.words

  looks_from : (slots seat : ℕ) (known : Known S Ask Answer) (t : ℕ) → known.stage ≡ Waits t
      → Allows (IsInTurn does start passes) slots seat (Living known, []) 1 (λ n. n) (looked does (step slots 1 0 0 none) (Living known, []))
  looks_from slots seat known t waits s r sized at fits =
      let true_of = r.living seat known at in
      let mine : FitsStage r.served r.drawn r.owner r.out r.history seat known.seen (Waits t)
      = subst (λ (z : Stage). FitsStage r.served r.drawn r.owner r.out r.history seat known.seen z) waits true_of.stage in
      let found : ℕ = get_or s.words 1 0 in
      let few : ticket_count s.views < 2 ^ 32 = let a = r.few in let b = r.dealt.1 in let c = few_tickets s.views in omega arith in
      let of_stage : (x : ℕ) → Waits t ≡ Waits x → t ≡ x = λ x e. ap (elim_waits t) e in
      let same_words : set s.words 1 (get_or s.words 1 0) ≡ r.drawn % 2 ^ 64 ∷ r.served % 2 ^ 64 ∷ [] = ap (λ (ws : List ℕ). set ws 1 (get_or ws 1 0)) r.words in
      dite (ℕ_discrete found (t % 2 ^ 64))
      (λ is.
      let now : t ≡ r.served = one_ticket r.served r.drawn t (ticket_count s.views) mine.0 mine.1 r.tickets few (sym (found_served s r) ∙ is) in
      let in_place : r.out ≡ false = mine.3 now in
      let kept = r.kept in
      let stands = r.home in_place in
      let slot_is : s.homes ≡ some kept ∷ [] = r.slot ∙ ap (λ (b : Bool). at_home b kept ∷ []) in_place in
      let one : 1 ≡ tickets_at known.stage = sym (ap tickets_at waits) in (
        Living (having_seen (at_stage known (Holds t)) kept.history.items),
        takes 0 kept,
        ap (λ (hs : List (Option (Kept S Ask Answer))). get_elem? hs 0) slot_is,
        seat_moves does start passes s r seat known at (Holds t) kept.history.items r.drawn r.served r.owner true kept [] r.history
            (set s.words 1 (get_or s.words 1 0)) (set s.homes 0 none)
            (append-nil r.history)
            same_words
            (omega arith)
            (ap (λ (hs : List (Option (Kept S Ask Answer))). set hs 0 none) slot_is)
            (λ out. absurd (not_both true refl out))
            (λ out. let b = mine.1 in omega arith)
            r.legal
            (λ n apart. refl)
            (subst (λ (h : Log Ask Answer). BeginsWith r.history h) (sym stands.0) (begins_itself r.history))
            (ap (calls_of known.number) (sym stands.0))
            (now, mine.1, mine.2, refl, stands.0)
            (λ j seen stage apart. elim stage as (λ (z : Stage). FitsStage r.served r.drawn r.owner r.out r.history j seen z → FitsStage r.served r.drawn r.owner true r.history j seen z) [
              | Idle ↦ λ h. tt
              | Waits x ↦ λ h. (h.0, h.1, h.2, λ same. absurd (apart (sym h.2 ∙ (ap r.owner (same ∙ sym now) ∙ mine.2))))
              | Holds x ↦ λ h. absurd (not_both r.out h.3 in_place)
            ]),
        (λ x waits' none. (
          (λ _. let t_is : t ≡ x = of_stage x (sym waits ∙ waits')
              in subst (λ (y : ℕ). Took does known y (Living (having_seen (at_stage known (Holds t)) kept.history.items), (0, kept) ∷ [])) t_is (record {
                kept = kept;
                now = refl;
                stands = subst (λ (z : S). Stands does z kept) (sym true_of.start_is)
                    (stands.1 ∙ ap (last_state does start) (sym stands.0), subst (IsHistory does start) (sym stands.0) r.legal);
                front = subst (λ (h : Log Ask Answer). BeginsWith h known.seen) (sym stands.0) true_of.front;
                own = ap (calls_of known.number) stands.0 ∙ true_of.own;
              })),
          (λ not. absurd (not (is ∙ ap (λ (y : ℕ). y % 2 ^ 64) (of_stage x (sym waits ∙ waits'))))),
        )),
      ))
      (λ not. (
        Living known,
        keeps,
        tt,
        subst (λ (z : Stage). IsInTurn does start passes record { words = set s.words 1 (get_or s.words 1 0); homes = s.homes; views = set s.views seat (Living (at_stage known z)) }) refl
            (seat_moves does start passes s r seat known at known.stage known.seen r.drawn r.served r.owner r.out r.kept [] r.history
            (set s.words 1 (get_or s.words 1 0)) s.homes
            (append-nil r.history)
            same_words
            refl
            r.slot
            r.home
            r.busy
            r.legal
            (λ n apart. refl)
            true_of.front
            true_of.own
            true_of.stage
            (λ j seen stage apart h. h)),
        (λ x waits' none. (
          (λ is. absurd (not (is ∙ ap (λ (y : ℕ). y % 2 ^ 64) (sym (of_stage x (sym waits ∙ waits')))))),
          (λ _. refl),
        )),
      ))

  -- reading which ticket is served: a load of word 1, which takes the slot where it is the seat's own
  pub looks : (slots seat : ℕ) (me : Seated S Ask Answer) (known : Known S Ask Answer) (t : ℕ) → me ≡ (Living known, []) → known.stage ≡ Waits t
      → Allows (IsInTurn does start passes) slots seat me 1 (λ n. n) (looked does (step slots 1 0 0 none) me)
  looks slots seat me known t is waits =
      subst (λ (m : Seated S Ask Answer). Allows (IsInTurn does start passes) slots seat m 1 (λ n. n) (looked does (step slots 1 0 0 none) m)) (sym is) (looks_from slots seat known t waits)

  advances_from : (slots seat : ℕ) (known : Known S Ask Answer) (t : ℕ) (kept : Kept S Ask Answer) → known.stage ≡ Holds t → Goes_on does known kept
      → Allows (IsInTurn does start passes) slots seat (Living known, (0, kept) ∷ []) 1 (λ n. (n + 1) % 2 ^ 64) (advanced (step slots 1 1 0 none) (Living known, (0, kept) ∷ []))
  advances_from slots seat known t kept holds more s r sized at fits =
      let true_of = r.living seat known at in
      let mine : FitsStage r.served r.drawn r.owner r.out r.history seat known.seen (Holds t)
      = subst (λ (z : Stage). FitsStage r.served r.drawn r.owner r.out r.history seat known.seen z) holds true_of.stage in
      let history : Log Ask Answer = kept.history.items in
      let one : 1 ≡ tickets_at known.stage = sym (ap tickets_at holds) in
      let away : s.homes ≡ none ∷ [] = r.slot ∙ ap (λ (b : Bool). at_home b r.kept ∷ []) mine.3 in
      let stands : Stands does start kept = subst (λ (z : S). Stands does z kept) true_of.start_is more.stands in
      let now = mine.0 in
      let own = mine.2 in
      let low = mine.1 in (
        Living (having_seen (at_stage known Idle) history),
        gives,
        tt,
        seat_moves does start passes s r seat known at Idle history r.drawn (r.served + 1) r.owner false kept more.added history
            (set s.words 1 ((get_or s.words 1 0 + 1) % 2 ^ 64)) (set s.homes 0 (some kept))
            (ap (λ (h : Log Ask Answer). h ++ more.added) (sym mine.4) ∙ sym more.history_is)
            (ap (λ (ws : List ℕ). set ws 1 ((get_or ws 1 0 + 1) % 2 ^ 64)) r.words ∙ ap (λ (x : ℕ). r.drawn % 2 ^ 64 ∷ x ∷ []) (next_mod r.served (2 ^ 64)))
            (omega arith)
            (ap (λ (hs : List (Option (Kept S Ask Answer))). set hs 0 (some kept)) away)
            (λ out. (refl, stands.0))
            (λ out. absurd (not_both false out refl))
            stands.1
            (λ n apart. more.mine n (λ same. apart (same ∙ true_of.number_is)))
            (begins_itself history)
            refl
            tt
            (λ j seen stage apart. elim stage as (λ (z : Stage). FitsStage r.served r.drawn r.owner r.out r.history j seen z → FitsStage (r.served + 1) r.drawn r.owner false history j seen z) [
              | Idle ↦ λ h. tt
              | Waits x ↦ λ h. let least = h.0 in let not : x ≢ r.served = λ same. apart (sym h.2 ∙ (ap r.owner (same ∙ sym now) ∙ own)) in (omega (arith, least, not), h.1, h.2, λ _. refl)
              | Holds x ↦ λ h. absurd (apart (sym h.2 ∙ (ap r.owner (h.0 ∙ sym now) ∙ own)))
            ]),
        (λ given out. let same : kept ≡ given = ap (λ (l : List (ℕ × Kept S Ask Answer)). (get_or l 0 (0, kept)).1) out in
            ap (λ (k : Kept S Ask Answer). (Living (having_seen (at_stage known Idle) k.history.items), [])) same),
      )

  -- giving the slot back and serving the next ticket: fetch_add on word 1
  pub advances : (slots seat : ℕ) (me : Seated S Ask Answer) (known : Known S Ask Answer) (t : ℕ) (kept : Kept S Ask Answer) → me ≡ (Living known, (0, kept) ∷ [])
      → known.stage ≡ Holds t → Goes_on does known kept
      → Allows (IsInTurn does start passes) slots seat me 1 (λ n. (n + 1) % 2 ^ 64) (advanced (step slots 1 1 0 none) me)
  advances slots seat me known t kept is holds more =
      subst (λ (m : Seated S Ask Answer). Allows (IsInTurn does start passes) slots seat m 1 (λ n. (n + 1) % 2 ^ 64) (advanced (step slots 1 1 0 none) m)) (sym is)
      (advances_from slots seat known t kept holds more)
