-- A list of messages in flight that says the same of each key may take the place of another: what a registrar will hold of a key
-- depends on LeaveAll and on the events of that key alone, in their order.
use Rattle.std.proofs.Common.{◌≡◌, Bool, true, false, ◌||◌, if◌then◌else◌, List, [], ◌∷◌, ◌++◌, filter, fold, refl, sym, ap, subst, ◌∙◌}
use Rattle.std.specs.Prelude.{Option, None}
use Rattle.std.specs.declared.cmp.Ordering.{Ordering}
use Rattle.srp_base.specs.declared.mrp.MrpEvent.{MrpEvent}
use Rattle.mrp_participant.specs.{Lookup.find, Lookup.same, Duty.OwesOf, Duty.held_in, Duty.held_after_event, Duty.held_hearing, Duty.held_after, Duty.hears, Duty.has_leave_all, State.State, State.Messages, Link.AreDutiesMet}

-- two lists of messages say the same of each key
pub record SaysSame {K C : Type 0} (cmp : K → K → Ordering) (m n : Messages K C) : Type 0 where
  pub leave_all : m.leave_all ≡ n.leave_all
  pub of_key : (k : K) → filter (λ e. same cmp e.1 k) m.events ≡ filter (λ e. same cmp e.1 k) n.events

module _ {K C : Type 0} (cmp : K → K → Ordering) where
  -- only the events of a key count for it
  only_own : (k : K) (held : Option C) (es : List (MrpEvent × K × C)) → fold (held_hearing cmp k) held es ≡ fold (held_hearing cmp k) held (filter (λ e. same cmp e.1 k) es)
  only_own k held [] = refl
  only_own k held (e ∷ es) = by (same cmp e.1 k) refl (only_own k (held_after_event e.0 e.2 held) es) (only_own k held es)
    where
      by : (b : Bool) → same cmp e.1 k ≡ b
          → fold (held_hearing cmp k) (held_after_event e.0 e.2 held) es ≡ fold (held_hearing cmp k) (held_after_event e.0 e.2 held) (filter (λ e. same cmp e.1 k) es)
          → fold (held_hearing cmp k) held es ≡ fold (held_hearing cmp k) held (filter (λ e. same cmp e.1 k) es)
          → fold (held_hearing cmp k) (if b then held_after_event e.0 e.2 held else held) es
          ≡ fold (held_hearing cmp k) held (if b then e ∷ filter (λ e. same cmp e.1 k) es else filter (λ e. same cmp e.1 k) es)
      by true is counts other = counts ∙ ap (λ (b : Bool). fold (held_hearing cmp k) (if b then held_after_event e.0 e.2 held else held) (filter (λ e. same cmp e.1 k) es)) (sym is)
      by false is counts other = other

  held_same : (m n : Messages K C) → SaysSame cmp m n → (k : K) (held : Option C) → held_after cmp k held m ≡ held_after cmp k held n
  held_same m n says k held =
      ap (λ (b : Bool). fold (held_hearing cmp k) (if b then None else held) m.events) says.leave_all
      ∙ (only_own k (if n.leave_all then None else held) m.events
      ∙ (ap (fold (held_hearing cmp k) (if n.leave_all then None else held)) (says.of_key k)
      ∙ sym (only_own k (if n.leave_all then None else held) n.events)))

  hears_same : (m n : Messages K C) → SaysSame cmp m n → (k : K) (front back : List (Messages K C)) (held : Option C)
      → hears cmp k held (front ++ (m ∷ back)) ≡ hears cmp k held (front ++ (n ∷ back))
  hears_same m n says k [] back held = ap (λ (h : Option C). hears cmp k h back) (held_same m n says k held)
  hears_same m n says k (x ∷ front) back held = hears_same m n says k front back (held_after cmp k held x)

  leave_all_same : (m n : Messages K C) → SaysSame cmp m n → (front back : List (Messages K C)) → has_leave_all (front ++ (m ∷ back)) ≡ has_leave_all (front ++ (n ∷ back))
  leave_all_same m n says [] back = ap (λ (b : Bool). b || has_leave_all back) says.leave_all
  leave_all_same m n says (x ∷ front) back = ap (λ (b : Bool). x.leave_all || b) (leave_all_same m n says front back)

  -- of what the near end has sent, one list of messages is another that says the same
  pub says_same_duties : (m n : Messages K C) → SaysSame cmp m n → (near far : State K C) (front back coming : List (Messages K C))
      → AreDutiesMet cmp (record { near = near; far = far; sent = front ++ (m ∷ back); coming = coming })
      → AreDutiesMet cmp (record { near = near; far = far; sent = front ++ (n ∷ back); coming = coming })
  says_same_duties m n says near far front back coming met =
      record {
        near_rows = met.near_rows;
        far_rows = met.far_rows;
        near_duty = record {
          of_key = λ sound k. subst (λ (held : Option C). OwesOf (find cmp k near.rows) held (has_leave_all coming))
              (hears_same m n says k front back (held_in (find cmp k far.rows))) (met.near_duty.of_key sound k);
        };
        far_duty = record {
          of_key = λ sound k. subst (λ (asked : Bool). OwesOf (find cmp k far.rows) (hears cmp k (held_in (find cmp k near.rows)) coming) asked)
              (leave_all_same m n says front back) (met.far_duty.of_key sound k);
        };
      }
