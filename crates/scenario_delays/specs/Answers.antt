-- What is said of the streams of class A or B of a scenario: whether each conforms.
use Rattle.std.specs.Prelude.{◌≡◌, ◌≢◌, ◌||◌, Bool, false, List, Some, All, filter}
use Rattle.std.specs.List.{AllZip}
use Rattle.srp_base.specs.declared.{bandwidth.Class.Class, bandwidth.Class.TheVariants.A, bandwidth.Class.TheVariants.B}
use Rattle.frame_flow.specs.declared.frame.Frame.{Frame}
use Rattle.topology_file.specs.declared.entries.StreamEntry.{StreamEntry}
use Rattle.topology_file.specs.Plan.{Plan}
use Rattle.msrp_talker.specs.TalkerOut.{class_of_priority}
use Rattle.scenario_frames.specs.PlanFrames.{plan_frames}
use Rattle.scenario_delays.specs.declared.answers.StreamAnswer.{StreamAnswer}
use Rattle.scenario_delays.specs.{Streams.frames_of_stream, Streams.is_of_class, Streams.limits_of, Streams.stream_in, Conform.IsConformity}

-- whether a stream is of class A or B
abbrev pub is_reserved_entry : StreamEntry → Bool
is_reserved_entry e = is_of_class A e || is_of_class B e

-- an answer is that of an entry: of its class, and whether its frames among some conform
pub record IsAnswer (frames : List Frame) (e : StreamEntry) (a : StreamAnswer) : Type 0 where
  pub class : class_of_priority e.priority ≡ Some a.class
  pub stream : a.stream ≡ stream_in a.class frames e
  pub conforms : IsConformity (limits_of a.class e) (frames_of_stream e.id frames) a.conforms

-- answers are those of a scenario: one for each stream of class A or B, in the order of the file
abbrev pub AreAnswers : Plan → List StreamAnswer → Type 0
AreAnswers plan answers = AllZip (IsAnswer (plan_frames plan)) (filter is_reserved_entry plan.streams) answers

-- no answer says of a stream of a class that its frames don't conform
abbrev pub AllConform : Class → List StreamAnswer → Type 0
AllConform class answers = All (λ a. a.class ≡ class → a.conforms ≢ Some false) answers
