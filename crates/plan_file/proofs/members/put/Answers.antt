use Rattle.std.proofs.Common.{◌≡◌, ◌∙◌, ap, string_bytes, sym}
use Rattle.toml.specs.View.{members_view, view}
use Rattle.plan_file.specs.{with_member}
use Rattle.plan_file.proofs.MemberLemmas.{members_view-insert}
use Rattle.plan_file.proofs.members.put.Goals as goal

pub returns : goal.returns
returns c =
    ap members_view c.in_ok-insert.ensures.entries
    ∙ members_view-insert c.args.table.now.entries c.in_ok-key.key c.args.value
    ∙ ap (λ k. with_member k (view c.args.value) (members_view c.args.table.now.entries)) c.in_ok-key.ensures.ok
