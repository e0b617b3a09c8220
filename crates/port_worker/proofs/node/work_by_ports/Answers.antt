use Rattle.std.proofs.Common.{map, sym, ap, ◌∙◌, subst}
use Rattle.std.specs.List.{range_with_len}
use Rattle.node_core.specs.State.{NodeState, ports_of, job_list}
use Rattle.bridge_book.specs.Hub.{first_node}
use Rattle.port_worker.specs.{IsNodeWorked}
use Rattle.port_worker.proofs.node.work_by_ports.Goals as goal

pub close-requires-clause-jobs : goal.close-requires-clause-jobs
close-requires-clause-jobs g c =
    c.as_slice-jobs.ensures.value
    ∙ (c.in_ok-lists.ensures ∙ ap (λ (s : NodeState). map (λ at. job_list at s) (range_with_len 0 (ports_of s))) (sym c.in_ok-hub.ensures.node))

pub close-requires-clause-done : goal.close-requires-clause-done
close-requires-clause-done g c = c.in_ok-done.ensures.done

pub returns : goal.returns
returns g c =
    let worked = c.worked_of.result in
    record {
      number = c.worked_of.ensures.number;
      few = c.worked_of.ensures.few;
      made = subst (λ (s : NodeState). IsNodeWorked s worked.node.state worked.steps worked.notices) c.in_ok-hub.ensures.node
          (c.worked_of.ensures.made (first_node c.in_ok-hub.hub) c.in_ok-closed.ensures);
    }
