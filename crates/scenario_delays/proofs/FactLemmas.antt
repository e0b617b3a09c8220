-- What the bounds of a class are asked of.
use Rattle.std.proofs.Common.{◌≡◌, ℕ, List, refl, subst, arith}
use Rattle.std.specs.Prelude.{Result, Err, IfErr}
use Rattle.std.proofs.lemmas.List.Elements.{All-nil}
use Rattle.srp_base.specs.declared.{bandwidth.Class.Class, bandwidth.Rate.Rate, ports.PortChange.PortChange}
use Rattle.tree_topology.specs.Topology.{Topology}
use Rattle.frame_flow.specs.Given.{IsFrame, IsSetting}
use Rattle.topology_file.specs.Plan.{Plan}
use Rattle.scenario_frames.specs.Setting.{plan_rates, setting_of}
use Rattle.delay_bound.specs.declared.stream.ClassStream.{ClassStream}
use Rattle.class_delays.specs.declared.{delays.PortDelays.PortDelays, delays.Unbounded.Unbounded}
use Rattle.class_delays.specs.{Causes.IsUnbounded, Given.ClassSetting, Given.without_frames}
use Rattle.scenario_delays.specs.{Facts.class_setting, Streams.streams_in}

-- a scenario's setting is one without its frames too
pub unframed : (plan : Plan) (changes : List PortChange) → IsSetting (setting_of plan changes) → IsSetting (without_frames plan.tree (plan_rates plan) changes plan.ticks)
unframed plan changes s =
    record {
      rates = s.rates;
      range = record {
        ticks = s.range.ticks;
        numbers = λ i j d lt below. absurd (omega (arith, below));
        frames = All-nil (IsFrame plan.tree plan.ticks);
        changes = s.range.changes;
      };
      slopes = s.slopes;
    }

-- the parts of what bounds are asked of are those of a scenario
pub same-setting : (plan : Plan) (changes : List PortChange) (class : Class) (tree : Topology) (rates : List Rate) (ticks : ℕ) (streams : List ClassStream) → tree ≡ plan.tree
    → rates ≡ plan_rates plan → ticks ≡ plan.ticks → streams ≡ streams_in class plan
    → record { setting = without_frames tree rates changes ticks; class = class; streams = streams } ≡ class_setting plan changes class
same-setting plan changes class tree rates ticks streams h1 h2 h3 h4 = rw (h1, h2, h3, h4) refl

-- why none are answered, as what is asked of a scenario has it
pub unbounded-as : (plan : Plan) (changes : List PortChange) (class : Class) (a : ClassSetting) (found : Result (List PortDelays) Unbounded) (e : Unbounded)
    → a ≡ class_setting plan changes class → found ≡ Err e → IfErr found (IsUnbounded a) → IsUnbounded (class_setting plan changes class) e
unbounded-as plan changes class a found e same is why =
    subst (λ (b : ClassSetting). IsUnbounded b e) same (subst (λ (r : Result (List PortDelays) Unbounded). IfErr r (IsUnbounded a)) is why)
