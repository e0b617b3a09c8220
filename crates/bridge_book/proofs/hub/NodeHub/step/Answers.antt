use Rattle.bridge_book.proofs.hub.NodeHub.step.Goals as goal

pub returns-clause-stepped : goal.returns-clause-stepped
returns-clause-stepped g c = (c.in_ok-told.told.notice, c.in_ok-told.ensures.called)
