use Rattle.std.proofs.Common.{◌≡◌, true, false, List, sym, subst}
use Rattle.std.specs.Prelude.{All, slice_index_or}
use Rattle.std.proofs.lemmas.Option.{slice_get-get_or}
use Rattle.turn_lock.specs.Passes.{is_given}
use Rattle.bridge_book.specs.declared.hub.HubCloseErr.{HubCloseErr}
use Rattle.bridge_book.specs.{Hub.PortPass, Hub.HasClosedHub, Refusal.IsRefusedHub}
use Rattle.port_worker.proofs.WorkedLemmas.{closed_worked, none_missing}
use Rattle.port_worker.proofs.node.close.Goals as goal

pub close-requires : goal.close-requires
close-requires c =
    let hub = c.args.hub in
    let passes = c.args.passes.items in
    subst (λ (ps : List PortPass). All (λ (p : PortPass). p.lock ≡ hub.lock) ps) (sym {A = List PortPass} c.from_vec.ensures)
    (λ k d lt. (c.requires.done k (slice_index_or passes k d) (slice_get-get_or passes k d lt)).1.lock)

pub returns-in-Ok : goal.returns-in-Ok
returns-in-Ok c =
    let hub = c.args.hub in
    let closed = c.in-Ok.closed in
    closed_worked c.steps_keep_what_a_node_is.ensures.ports hub c.args.jobs.now c.args.passes.items closed.node.state closed.steps closed.notices
    c.requires.jobs c.requires.ports c.requires.done c.requires.count
    (subst (λ (ps : List PortPass). HasClosedHub hub ps closed.node.state closed.steps closed.notices) c.from_vec.ensures c.in-Ok.ensures.closed)

pub unreachable-requires : goal.unreachable-requires
unreachable-requires c =
    let hub = c.args.hub in
    let missing = c.in-Err-MissingPass in
    let low = (subst (λ (e : HubCloseErr). IsRefusedHub hub c.from_vec.result e) missing.field-0-is missing.ensures.refused).0 in
    let yes : is_given c.args.passes.items missing.field-0-0 ≡ true =
    none_missing hub c.args.jobs.now c.args.passes.items c.requires.done c.requires.count missing.field-0-0 low.from_one low.in_range in
    let not : is_given c.args.passes.items missing.field-0-0 ≡ false =
    subst (λ (ps : List PortPass). is_given ps missing.field-0-0 ≡ false) c.from_vec.ensures low.missing in
    cc
