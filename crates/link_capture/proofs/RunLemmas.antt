-- A legal run, captured tick by tick.
use Rattle.std.proofs.Common.{◌≡◌, ℕ, suc, ◌+◌, ◌<◌, List, [], ◌∷◌, ◌++◌, length, get_or, drop, sym, ap, subst, ◌∙◌, append_assoc, append-nil, arith}
use Rattle.std.proofs.lemmas.List.{length-drop}
use Rattle.std.proofs.Math.Seq.{drop-cons}
use Rattle.srp_base.specs.declared.numbers.EgressPort.{EgressPort}
use Rattle.tree_topology.specs.{Topology.HasLink, Topology.HasPort, Ports.ends_of}
use Rattle.topology_file.specs.Plan.{Plan}
use Rattle.world_core.specs.declared.journal.Tick.{Tick}
use Rattle.world_core.specs.{World.WorldState, World.world_after, Start.world_of, Ticks.after_steps, Ticks.tick_events, Ticks.IsLegalTick, Ticks.LeadTo, Ticks.AreLegalTicks, Carrying.NothingWaits, Cursor.IsCursor, During.IsDuring}
use Rattle.capture_file.specs.declared.setting.ByteOrder.TheVariants.{Big}
use Rattle.capture_file.specs.declared.setting.LinkType.TheVariants.{Ethernet}
use Rattle.capture_file.specs.Writing.{head_text}
use Rattle.link_capture.specs.{TickLaws, crossed_at, crossed_from, records_of, captured}
use Rattle.link_capture.proofs.FrameLemmas.{records_both}

-- The ticks from tick t on lead legally on from here, and what has been written, with what crosses in them, is the whole.
pub record IsCapturedTo (plan : Plan) (n : ℕ) (ticks : List Tick) (end : WorldState) (t : ℕ) (w : WorldState) (cursor : ℕ) (out : List ℕ) : Type 0 where
  pub leads : LeadTo (IsLegalTick plan) plan t w (drop t ticks) plan.ticks end
  pub during : IsDuring plan.tree t w
  pub waits : NothingWaits w
  pub cursor_at : IsCursor plan.events t cursor
  pub text : out ++ records_of (crossed_from plan (ends_of plan.tree.links n) t w (drop t ticks)) ≡ captured plan ticks n

pub length_led : (plan : Plan) (t : ℕ) (w : WorldState) (ticks : List Tick) (t' : ℕ) (end : WorldState) → LeadTo (IsLegalTick plan) plan t w ticks t' end → t + length ticks ≡ t'
length_led plan t w [] t' end leads = omega (arith, leads.0)
length_led plan t w (tick ∷ ticks) t' end leads = omega (arith, length_led plan (suc t) (world_after (tick_events plan t tick) w) ticks t' end leads.1)

module _ (plan : Plan) (laws : TickLaws plan) (n : ℕ) (ticks : List Tick) (end : WorldState) where
  pub none_captured : AreLegalTicks plan ticks end → (w : WorldState) (out : List ℕ) → w ≡ world_of plan → out ≡ head_text Big Ethernet → IsCapturedTo plan n ticks end 0 w 0 out
  none_captured legal w out is head = record {
    leads = subst (λ (v : WorldState). LeadTo (IsLegalTick plan) plan 0 v ticks plan.ticks end) (sym is) legal;
    during = subst (IsDuring plan.tree 0) (sym is) laws.begins;
    waits = subst NothingWaits (sym is) laws.none_waits;
    cursor_at = record { within = omega arith; past = λ k e get lt. absurd (omega (arith, lt)); coming = λ k e get le. omega arith };
    text =
        ap (λ (v : WorldState). out ++ records_of (crossed_from plan (ends_of plan.tree.links n) 0 v ticks)) is
        ∙ ap (λ (o : List ℕ). o ++ records_of (crossed_from plan (ends_of plan.tree.links n) 0 (world_of plan) ticks)) head;
  }

  module _ (t : ℕ) (w : WorldState) (cursor : ℕ) (out : List ℕ) (before : IsCapturedTo plan n ticks end t w cursor out) where
    -- so long as a tick is left, there is one
    pub tick_left : t < plan.ticks → t < length ticks
    tick_left within = omega (arith, within, length_led plan t w (drop t ticks) plan.ticks end before.leads, length-drop t ticks)

    module _ (within : t < plan.ticks) (tick : Tick) (at : tick ≡ get_or ticks t tick) where
      cut : drop t ticks ≡ tick ∷ drop (suc t) ticks
      cut = drop-cons ticks t tick (tick_left within) ∙ ap (λ (x : Tick). x ∷ drop (suc t) ticks) (sym at)

      both : LeadTo (IsLegalTick plan) plan t w (tick ∷ drop (suc t) ticks) plan.ticks end
      both = subst (λ (ts : List Tick). LeadTo (IsLegalTick plan) plan t w ts plan.ticks end) cut before.leads

      pub legal_there : IsLegalTick plan t w tick
      legal_there = both.0

      pub one_captured : (v : WorldState) (next : ℕ) (new : List ℕ) → v ≡ world_after (tick_events plan t tick) w
          → new ≡ out ++ records_of (crossed_at t (ends_of plan.tree.links n) (after_steps plan t tick w)) → IsCursor plan.events (suc t) next
          → IsCapturedTo plan n ticks end (t + 1) v next new
      one_captured v next new is put cursor_next =
          let ends : EgressPort × EgressPort = ends_of plan.tree.links n in
          let later : suc t ≡ t + 1 = omega arith in
          let here = crossed_at t ends (after_steps plan t tick w) in
          let behind = crossed_from plan ends (suc t) (world_after (tick_events plan t tick) w) (drop (suc t) ticks) in
          let text : new ++ records_of behind ≡ captured plan ticks n =
          ap (λ (o : List ℕ). o ++ records_of behind) put
          ∙ append_assoc out (records_of here) (records_of behind)
          ∙ ap (λ (o : List ℕ). out ++ o) (sym (records_both here behind))
          ∙ ap (λ (ts : List Tick). out ++ records_of (crossed_from plan ends t w ts)) (sym cut)
          ∙ before.text in
          subst (λ (k : ℕ). IsCapturedTo plan n ticks end k v next new) later
          (record {
            leads = subst (λ (x : WorldState). LeadTo (IsLegalTick plan) plan (suc t) x (drop (suc t) ticks) plan.ticks end) (sym is) both.1;
            during = subst (IsDuring plan.tree (suc t)) (sym is) (laws.next t w tick within before.during legal_there);
            waits = subst NothingWaits (sym is) (laws.all_carried t w tick before.during);
            cursor_at = cursor_next;
            text = ap (λ (x : WorldState). new ++ records_of (crossed_from plan ends (suc t) x (drop (suc t) ticks))) is ∙ text;
          })

  -- no tick is left
  pub all_captured : (t : ℕ) (w : WorldState) (cursor : ℕ) (out : List ℕ) → t ≡ plan.ticks → IsCapturedTo plan n ticks end t w cursor out → out ≡ captured plan ticks n
  all_captured t w cursor out at_end c = go (drop t ticks) (omega (arith, at_end, length_led plan t w (drop t ticks) plan.ticks end c.leads)) c.text where
    go : (rest : List Tick) → length rest ≡ 0 → out ++ records_of (crossed_from plan (ends_of plan.tree.links n) t w rest) ≡ captured plan ticks n → out ≡ captured plan ticks n
    go [] none text = sym (append-nil out) ∙ text
    go (x ∷ rest) none text = absurd (omega (arith, none))

  -- the ends of the link are ports
  pub end_a : HasLink plan.tree n → (ends : EgressPort × EgressPort) → ends ≡ ends_of plan.tree.links n → HasPort plan.tree ends.0
  end_a has ends are = subst (λ (e : EgressPort × EgressPort). HasPort plan.tree e.0) (sym are) (laws.ports.end_a n has)

  pub end_b : HasLink plan.tree n → (ends : EgressPort × EgressPort) → ends ≡ ends_of plan.tree.links n → HasPort plan.tree ends.1
  end_b has ends are = subst (λ (e : EgressPort × EgressPort). HasPort plan.tree e.1) (sym are) (laws.ports.end_b n has)
