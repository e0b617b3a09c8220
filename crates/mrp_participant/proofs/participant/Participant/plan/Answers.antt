use Rattle.std.proofs.Common.{◌≡◌, ℕ, ◌+◌, ◌≤◌, Bool, true, false, List, [], sum_by, ◌∙◌, sym, ap, subst}
use Rattle.std.specs.{declared.cmp.Ordering.Ordering, Cmp.IsTotalOrder, List.filter_map}
use Rattle.srp_base.specs.declared.{numbers.Cs.Cs, mrp.MrpEvent.MrpEvent}
use Rattle.mrp_participant.specs.declared.row.Row.{Row}
use Rattle.mrp_participant.specs.{Ascends, key_of, is_taken, sent_event, after, is_active, none_tried}
use Rattle.mrp_participant.specs.State.{State}
use Rattle.mrp_participant.proofs.{Octets.events-ascend, Octets.events-fit, Octets.events-are_some, Sendings.events-of, Sendings.tried-one, Holdings.state_is}
use Rattle.mrp_participant.proofs.participant.Participant.plan.Goals as goal

pub returns-then-has_nothing_to_say-clause-silent : goal.returns-then-has_nothing_to_say-clause-silent
returns-then-has_nothing_to_say-clause-silent g c = sym c.if-has_nothing_to_say.true ∙ c.has_nothing_to_say.ensures

pub returns-clause-silent : goal.returns-clause-silent
returns-clause-silent g c = sym c.if-has_nothing_to_say.false ∙ c.has_nothing_to_say.ensures

pub returns-clause-events : goal.returns-clause-events
returns-clause-events g c =
    events-of g.A.Key.Ord.cmp g.A.MrpApp.base g.A.MrpApp.octets c.args.now c.args.self.now.state _ _ _ _
    (c.is_active-leave_all.ensures ∙ ap (λ (s : State _ _). is_active s.leave_all) (state_is c.self.view_is))
    (ap (λ (s : State _ _). after c.args.now s.leave_time) (state_is c.self.view_is))
    (c.as_slice.ensures.value ∙ ap (λ (s : State _ _). s.rows) (state_is c.self.view_is)) c.in_ok-events.ensures

pub returns-clause-ascending : goal.returns-clause-ascending
returns-clause-ascending g c =
    subst (Ascends g.A.Key.Ord.cmp (λ e. e.1)) (sym c.in_ok-events.ensures)
    (events-ascend g.A.Key.Ord.cmp c.is_active-leave_all.result
    (is_taken g.A.MrpApp.base g.A.MrpApp.octets g.A.Key.Ord.cmp c.is_active-leave_all.result c.as_slice.result.now) _ c.as_slice.result.now
    (subst (Ascends g.A.Key.Ord.cmp key_of) (sym c.as_slice.ensures.value) c.self.invariant.0.0))

pub returns-clause-fits : goal.returns-clause-fits
returns-clause-fits g c =
    subst (λ events. g.A.MrpApp.base + sum_by (λ e. g.A.MrpApp.octets e.2) events ≤ 1500) (sym c.in_ok-events.ensures)
    (events-fit g.met.A.Key.Ord.total g.A.MrpApp.octets g.A.MrpApp.base c.is_active-leave_all.result
    (after c.args.now c.self.inside.leave_time) c.as_slice.result.now
    (subst (Ascends g.A.Key.Ord.cmp key_of) (sym c.as_slice.ensures.value) c.self.invariant.0.0) g.met.A.MrpApp.base_fits)

says : {K C : Type 0} {cmp : K → K → Ordering} → IsTotalOrder cmp
    → (octets : C → ℕ) (base : ℕ) (leave : Cs) (rows : List (Row K C)) (leave_all : Bool)
    (events : List (MrpEvent × K × C)) → Ascends cmp key_of rows → ((c : C) → base + octets c ≤ 1500)
    → events ≡ filter_map (λ r. sent_event leave_all (is_taken base octets cmp leave_all rows r) leave r) rows
    → leave_all ≡ false → none_tried rows ≡ false → events ≡ [] → ⊥
says o octets base leave rows true events up fits is off some empty = cc
says o octets base leave rows false events up fits is off some empty = events-are_some o octets base leave rows up fits some (sym is ∙ empty)

pub returns-clause-says : goal.returns-clause-says
returns-clause-says g c off =
    says g.met.A.Key.Ord.total g.A.MrpApp.octets g.A.MrpApp.base _ c.as_slice.result.now _ _
    (subst (Ascends g.A.Key.Ord.cmp key_of) (sym c.as_slice.ensures.value) c.self.invariant.0.0) g.met.A.MrpApp.row_fits c.in_ok-events.ensures off
    (tried-one c.args.self.now.state _ _ (c.is_active-leave_all.ensures
    ∙ ap (λ (s : State _ _). is_active s.leave_all) (state_is c.self.view_is))
    (c.as_slice.ensures.value ∙ ap (λ (s : State _ _). s.rows) (state_is c.self.view_is))
    (sym c.has_nothing_to_say.ensures ∙ c.if-has_nothing_to_say.false) off)
