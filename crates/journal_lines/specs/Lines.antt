-- The lines of a journal, each by what it tells. A line ends with a line feed.
use Rattle.std.specs.Prelude.{◌≡◌, ◌≢◌, ℕ, Bool, true, false, List, [], ◌∷◌, ◌++◌, codes}
use Rattle.std.specs.{List.AllByRecursion, Fmt.decimal}
use Rattle.srp_base.specs.Text.{whole_of}
use Rattle.srp_base.specs.declared.{numbers.NodeNo.NodeNo, mrp.App.App, mrp.App.TheVariants.Mvrp, mrp.App.TheVariants.Msrp}
use Rattle.topology_file.specs.Plan.{Plan}
use Rattle.node_core.specs.declared.{types.NodeStep.NodeStep, types.PortStep.PortStep, types.StepReply.StepReply}
use Rattle.node_core.specs.declared.types.PortStep.TheVariants.{Work, LeaveNow, LeaveAllNow, PeriodicNow, Due, Settle, Send}
use Rattle.node_core.specs.declared.types.StepReply.TheVariants.{Nothing, Discarded, Received, Fired, Settled, Silent, Sent, Taken}
use Rattle.report_words.specs.Names.{port_name}

-- ---- the words

-- an application by its name
abbrev pub app_name : App → List ℕ
app_name Mvrp = codes "mvrp"
app_name Msrp = codes "msrp"

-- a step; those that fire one timer whatever the moment are in no tick
abbrev pub step_name : PortStep → List ℕ
step_name Work = codes "work"
step_name (LeaveNow key) = codes "leave"
step_name (LeaveAllNow app) = whole_of (codes "leaveall " ∷ app_name app ∷ [])
step_name (PeriodicNow app) = whole_of (codes "periodic " ∷ app_name app ∷ [])
step_name Due = codes "due"
step_name Settle = codes "settle"
step_name (Send app) = whole_of (codes "send " ∷ app_name app ∷ [])

-- a step's answer; no step of a port is answered by `taken`
abbrev pub reply_name : StepReply → List ℕ
reply_name Nothing = codes "nothing"
reply_name (Discarded place) = whole_of (codes "discarded " ∷ decimal place ∷ [])
reply_name (Received count) = whole_of (codes "received " ∷ decimal count ∷ [])
reply_name (Fired count) = whole_of (codes "fired " ∷ decimal count ∷ [])
reply_name (Settled count) = whole_of (codes "settled " ∷ decimal count ∷ [])
reply_name Silent = codes "silent"
reply_name (Sent octets) = whole_of (codes "sent " ∷ decimal octets ∷ [])
reply_name Taken = codes "taken"

-- what became of a scripted event
abbrev pub event_name : Bool → List ℕ
event_name true = codes "missed"
event_name false = codes "done"

-- ---- the lines

-- `T event E done` or `T event E missed`
abbrev pub event_line : ℕ → ℕ → Bool → List ℕ
event_line t entry missed = whole_of (
    decimal t ∷ codes " event " ∷ decimal entry ∷ codes " " ∷ event_name missed ∷ codes "\n" ∷ [])

-- `T P `, by which the line of a step begins: the tick and the port
abbrev pub place_text : ℕ → List ℕ → List ℕ
place_text t port = whole_of (decimal t ∷ codes " " ∷ port ∷ codes " " ∷ [])

-- `STEP REPLY`, by which the line of a step ends: the step and its answer
abbrev pub made_text : NodeStep → List ℕ
made_text st = whole_of (step_name st.step ∷ codes " " ∷ reply_name st.reply ∷ codes "\n" ∷ [])

-- `T P STEP REPLY`
abbrev pub step_line : ℕ → List ℕ → NodeStep → List ℕ
step_line t port st = place_text t port ++ made_text st

-- a step of a node
abbrev pub line_at : Plan → ℕ → NodeNo → NodeStep → List ℕ
line_at plan t node st = step_line t (port_name plan.nodes plan.tree.links (record { node = node; port = st.port })) st

-- a text is one line: it ends with its only line feed
pub record IsLine (text : List ℕ) : Type 0 where
  pub front : List ℕ
  pub ends : text ≡ front ++ 10 ∷ []
  pub one : AllByRecursion (λ c. c ≢ 10) front
