use Rattle.std.proofs.Common.{◌≡◌, ◌∙◌, ℕ, ap, refl}
use Rattle.std.specs.Ordering.{nat_cmp}
use Rattle.link_replay.specs.LinkWatch.{LinkState, link_saying}
use Rattle.mrp_participant.specs.State.{Messages}
use Rattle.replay_words.specs.Apps.{group_messages}
use Rattle.replay_words.specs.Watched.{Watched, after_groups}
use Rattle.replay_words.proofs.watched.Watches.takes_groups.Goals as goal

pub returns-clause-watched : goal.returns-clause-watched
unfolding after_groups
returns-clause-watched c =
    let pdu = c.args.pdu.now in
    let said : ◌≡◌ {A = Messages ℕ (Unit {0})} (record { leave_all = c.in_ok-msgs.msgs.leave_all; events = c.in_ok-msgs.msgs.events }) (group_messages pdu) =
    rw (c.in_ok-msgs.ensures.leave_all, c.in_ok-msgs.ensures.events, c.as_slice.ensures) refl in
    let link : ◌≡◌ {A = LinkState ℕ (Unit {0})} c.says.new.self (link_saying nat_cmp c.args.at c.args.who (group_messages pdu) c.self.inside.groups) =
    c.in_ok-says.ensures.link
    ∙ ap (λ (m : Messages ℕ (Unit {0})). link_saying nat_cmp c.args.at c.args.who m c.self.inside.groups) said in
    ap (λ (way : LinkState ℕ (Unit {0})). record { vlans = c.self.inside.vlans; streams = c.self.inside.streams; groups = way }) link
    ∙ ap (λ (w : Watched). record w { groups = link_saying nat_cmp c.args.at c.args.who (group_messages pdu) w.groups }) c.self.view_is
