-- A run without the flow of its frames, and its text, as the output of a command; and a plan's file that
-- was expanded.
use Rattle.std.proofs.Common.{◌≡◌, ℕ, true, List, refl, sym, subst, ap, ◌∙◌}
use Rattle.std.specs.Prelude.{Option, Some, Result, Ok, Err}
use Rattle.std.specs.Str.{is_utf8}
use Rattle.srp_base.specs.Results.{◌>>=◌}
use Rattle.srp_base.specs.declared.{bandwidth.Class.Class, ports.PortChange.PortChange}
use Rattle.toml.specs.{Data.Members, Parse.parse_document}
use Rattle.toml_rules.specs.declared.rules.RuleErr.{RuleErr}
use Rattle.frame_flow.specs.declared.result.PortFlow.{PortFlow}
use Rattle.frame_flow.specs.Flow.{IsFlow}
use Rattle.topology_file.specs.{Plan.Plan, Scenario.KeepsRules, Scenario.scenario_of}
use Rattle.plan_file.specs.{Plan.NetworkPlan, Rules.KeepsPlanRules, Rules.expanded_document, Rules.plan_of, Scenario.scenario_for, Tables.expanded}
use Rattle.scenario_frames.specs.Setting.{setting_of}
use Rattle.scenario_delays.specs.{declared.facts.DelayFacts.DelayFacts, Facts.AreFacts}
use Rattle.wishes.specs.{RunMoments.moments_of, Text.ungranted_in, Wishes.wishes_in}
use Rattle.link_capture.specs.Captured.{captured}
use Rattle.world_core.specs.declared.journal.Tick.{Tick}
use Rattle.world_core.specs.{World.WorldState, Ticks.AreCanonicalTicks, Timeline.IsTimelineOf}
use Rattle.srpnet.specs.{HoldsThroughout, IsCaptured, IsExpanded, IsPlanned, IsUngranted, any_scenario_input, document, or_not_toml, plan_words}
use Rattle.srpnet.specs.DelaysText.{GoInTime}

module _ (plan : Plan) (ticks : List Tick) (world : WorldState) (changes : List PortChange) (lead : AreCanonicalTicks plan ticks world)
    (in_force : IsTimelineOf plan ticks changes)
    (holds : (flows : List PortFlow) → IsFlow (setting_of plan changes) flows → HoldsThroughout plan ticks flows) where
  -- what goes over a link in such a run
  pub captured_as : (n : ℕ) (printed_ticks : List Tick) (text : List ℕ) → printed_ticks ≡ ticks → text ≡ captured plan ticks n
      → IsCaptured plan n printed_ticks text
  captured_as n printed_ticks text same printed =
      subst (λ ts. IsCaptured plan n ts text) (sym same)
      (record { world = world; changes = changes; lead = lead; in_force = in_force; printed = printed; holds = holds })

  -- what comes of the wishes in it
  pub planned_as : (facts : DelayFacts) → AreFacts plan changes facts
      → ((flows : List PortFlow) (class : Class) → IsFlow (setting_of plan changes) flows → GoInTime plan changes flows facts class)
      → (printed_ticks : List Tick) (text : List ℕ) → printed_ticks ≡ ticks
      → text ≡ plan_words plan world facts (wishes_in plan world) (moments_of plan ticks)
      → IsPlanned plan printed_ticks text
  planned_as facts known in_time printed_ticks text same printed =
      subst (λ ts. IsPlanned plan ts text) (sym same)
      (record {
        world = world;
        changes = changes;
        lead = lead;
        in_force = in_force;
        facts = facts;
        known = known;
        printed = printed;
        holds = holds;
        in_time = in_time;
      })

  pub ungranted_as : (printed_ticks : List Tick) (count : ℕ) → printed_ticks ≡ ticks → count ≡ ungranted_in (wishes_in plan world)
      → IsUngranted plan printed_ticks count
  ungranted_as printed_ticks count same count_is =
      subst (λ ts. IsUngranted plan ts count) (sym same) (record { world = world; lead = lead; count_is = count_is })

-- ---- a plan's file

module _ (keeps : (ms : Members) (p : NetworkPlan) → plan_of ms ≡ Ok p → KeepsPlanRules p)
    (reads : (p : NetworkPlan) → KeepsPlanRules p → scenario_of (expanded p) ≡ Ok (scenario_for p))
    (kept : (p : NetworkPlan) → KeepsPlanRules p → KeepsRules (scenario_for p))
    (octets : List ℕ) (ms : Members) (text : List ℕ) (found : or_not_toml (document octets) ≡ Ok ms) (utf8 : is_utf8 text ≡ true) where
  some_is : (m : Members) (o : Option Members) → ◌≡◌ {A = Result (Option Members) RuleErr} (Ok (Some m)) (Ok o) → o ≡ Some m
  some_is m o e = cc

  of_plan : (p : NetworkPlan) → plan_of ms ≡ Ok p → parse_document text ≡ Some (expanded p) → IsExpanded octets text
  of_plan p is parsed =
      let rules = keeps ms p is in
      record {
        plan = p;
        read = rw (found, is) refl;
        reads = rw (utf8, parsed, reads p rules) refl;
        kept = kept p rules;
      }

  by_plan : (r : Result NetworkPlan RuleErr) → plan_of ms ≡ r → (r >>= (λ p. Ok (Some (expanded p)))) ≡ Ok (parse_document text) → IsExpanded octets text
  by_plan (Ok p) is spelled = of_plan p is (some_is (expanded p) (parse_document text) spelled)
  by_plan (Err e) is spelled = absurd (no_text e spelled)
    where
      no_text : (e : RuleErr) → ◌≡◌ {A = Result (Option Members) RuleErr} (Err e) (Ok (parse_document text)) → ⊥
      no_text e same = cc

  pub expanded_as : expanded_document ms ≡ Ok (parse_document text) → IsExpanded octets text
  expanded_as spelled = by_plan (plan_of ms) refl spelled
