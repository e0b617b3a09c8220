use Rattle.std.proofs.Common.{List, [], sym, subst}
use Rattle.node_core.specs.declared.types.NodeStep.{NodeStep}
use Rattle.bridge_book.specs.declared.notice.Notice.{Notice}
use Rattle.port_worker.specs.{IsNodeWorked}
use Rattle.port_worker.proofs.WorkedLemmas.{idle_worked}
use Rattle.port_worker.proofs.node.idle.Goals as goal

pub returns-clause-made : goal.returns-clause-made
returns-clause-made c =
    subst (λ (made : List NodeStep). IsNodeWorked c.args.node.state c.args.node.state made c.new-2.result) (sym {A = List NodeStep} c.new.ensures)
    (subst (λ (ns : List Notice). IsNodeWorked c.args.node.state c.args.node.state [] ns) (sym {A = List Notice} c.new-2.ensures) (idle_worked c.args.node.state c.requires))
