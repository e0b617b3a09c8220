use Rattle.std.proofs.Common.{◌≡◌, map, option_map, subst, IfOk, List, ℕ, Option}
use Rattle.plan_file.proofs.NameLemmas.{names-some}
use Rattle.plan_file.proofs.ends.names_of_some.Goals as goal

pub returns : goal.returns
returns c =
    let F : Option (List (List ℕ)) → Type 0 = λ q. IfOk c.names_of.result (λ found. option_map (λ v. map (λ t. t.now) v.items) found ≡ q) in
    subst F (names-some c.args.values.now c.is_empty.result c.is_empty.ensures c.if-is_empty.false) c.names_of.ensures
