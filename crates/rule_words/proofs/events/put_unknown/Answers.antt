use Rattle.std.proofs.Common.{◌≡◌, ◌++◌, List, map, ap, subst, ◌∙◌, OnOk}
use Rattle.toml.specs.Data.{Members}
use Rattle.toml.specs.View.{table_view}
use Rattle.rule_words.specs.declared.keys.Key.TheVariants.{Nodes, Streams}
use Rattle.rule_words.specs.{entries_of, unknown_of}
use Rattle.rule_words.proofs.events.put_unknown.Goals as goal

pub returns : goal.returns
returns c =
    let ms = table_view c.args.table.now in
    let nodes : map (λ t. table_view t.now) c.deref.result.now ≡ entries_of Nodes ms =
    ap (map (λ t. table_view t.now)) c.deref.ensures.value ∙ c.in_ok-nodes.ensures in
    let streams : map (λ t. table_view t.now) c.deref-2.result.now ≡ entries_of Streams ms =
    ap (map (λ t. table_view t.now)) c.deref-2.ensures.value ∙ c.in_ok-streams.ensures in
    subst (λ (xs : List Members). OnOk c.put_unknown_of.result (c.put_unknown_of.new.out.items
    ≡ c.args.out.now.items ++ unknown_of c.args.broken xs (entries_of Streams ms) (table_view c.args.entry.now))) nodes
    (subst (λ (xs : List Members). OnOk c.put_unknown_of.result (c.put_unknown_of.new.out.items
    ≡ c.args.out.now.items ++ unknown_of c.args.broken (map (λ t. table_view t.now) c.deref.result.now) xs (table_view c.args.entry.now))) streams
    c.put_unknown_of.ensures)
