use Rattle.std.proofs.Common.{◌≡◌, ◌++◌, ◌-◌, List, map, take, sym, ap, subst, ◌∙◌, OnOk}
use Rattle.std.proofs.lemmas.List.{take-map}
use Rattle.toml.specs.Data.{Members}
use Rattle.toml.specs.View.{table_view}
use Rattle.rule_words.specs.declared.keys.Key.TheVariants.{Nodes, Links}
use Rattle.rule_words.specs.{all_ends, ends_at, entries_of, joined_line, lines_of_two}
use Rattle.rule_words.proofs.joined.put_already.Goals as goal

pub returns : goal.returns
returns c =
    let ms = table_view c.args.table.now in
    let e = table_view c.args.link.now in
    let F : List Members → List Members → Type 0 = λ ns ls. OnOk c.put_joined_at.result (c.put_joined_at.new.out.items
    ≡ c.args.out.now.items ++ lines_of_two joined_line (ends_at ns e) (all_ends ns ls)) in
    let nodes : map (λ t. table_view t.now) c.deref.result.now ≡ entries_of Nodes ms =
    ap (map (λ t. table_view t.now)) c.deref.ensures.value ∙ c.in_ok-nodes.ensures in
    let links : map (λ t. table_view t.now) c.deref-2.result.now ≡ entries_of Links ms =
    ap (map (λ t. table_view t.now)) c.deref-2.ensures.value ∙ c.in_ok-links.ensures in
    let before : map (λ t. table_view t.now) c.earlier.result.now ≡ take (c.args.number - 1) (entries_of Links ms) =
    ap (map (λ t. table_view t.now)) c.earlier.ensures
    ∙ (sym (take-map (λ t. table_view t.now) (c.args.number - 1) c.deref-2.result.now) ∙ ap (λ (xs : List Members). take (c.args.number - 1) xs) links) in
    subst (λ (xs : List Members). F xs (take (c.args.number - 1) (entries_of Links ms))) nodes
    (subst (λ (xs : List Members). F (map (λ t. table_view t.now) c.deref.result.now) xs) before c.put_joined_at.ensures)
