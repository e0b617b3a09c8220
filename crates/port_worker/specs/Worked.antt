-- What the ports of a node have made of it in a tick.
use Rattle.std.specs.Prelude.{◌≡◌, ◌<◌, ◌^◌, Bool, ◌&&◌, ◌||◌, nat_lt, List, [], ◌∷◌, length}
use Rattle.std.specs.List.{AllByRecursion}
use Rattle.srp_base.specs.declared.numbers.PortNo.{PortNo}
use Rattle.attribute_propagation.specs.Ports.{IsLinkPort, place_of}
use Rattle.node_core.specs.declared.types.NodeStep.{NodeStep}
use Rattle.node_core.specs.State.{NodeState, ports_of, job_list, is_busy_node, is_sending_time}
use Rattle.bridge_book.specs.declared.notice.Notice.{Notice}
use Rattle.bridge_book.specs.Steps.{notice_of}
use Rattle.world_core.specs.{Apart.stepped_node, Apart.node_after, Apart.HaveOwnReplies, Ticks.steps_at_port}
use Rattle.port_worker.specs.declared.{node.Task.Task, node.Worked.Worked}

-- whether a port of a node has something to do: it has one, and is busy, or it is time to send
abbrev pub has_jobs : NodeState → Bool
has_jobs s = nat_lt 0 (ports_of s) && (is_busy_node s || is_sending_time s.clock)

-- what each of these steps of a node's ports does to the PDUs on its port's link
abbrev pub notices_of : List NodeStep → NodeState → List Notice
notices_of [] s = []
notices_of (st ∷ made) s = notice_of st.step (place_of st.port) st.reply s ∷ notices_of made (stepped_node st s)

-- The ports of a node have made their jobs of a tick, each port its own in order, in some
-- interleaving: these are the steps with their answers, with what each did to the PDUs on its
-- port's link, and the node after them.
pub record IsNodeWorked (s v : NodeState) (made : List NodeStep) (notices : List Notice) : Type 0 where
  pub ports : AllByRecursion (λ st. IsLinkPort st.port (ports_of s)) made
  pub jobs : (port : PortNo) → IsLinkPort port (ports_of s) → steps_at_port port made ≡ job_list (place_of port) s
  pub own : HaveOwnReplies made s
  pub after : v ≡ node_after made s
  pub notices_are : notices ≡ notices_of made s

-- a node with its number has become another so
pub record IsWorked (task : Task) (worked : Worked) : Type 0 where
  pub number : worked.number ≡ task.number
  pub few : length worked.steps < 2 ^ 64
  pub made : IsNodeWorked task.node.state worked.node.state worked.steps worked.notices
