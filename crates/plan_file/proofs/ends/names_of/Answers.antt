use Rattle.std.proofs.Common.{map, ap, sym, ◌∙◌}
use Rattle.std.proofs.lemmas.List.{map_push}
use Rattle.toml.specs.View.{view}
use Rattle.plan_file.specs.{all_read, name_of_data}
use Rattle.plan_file.proofs.NameLemmas.{all_names-read, in_front, in_front-nil, read-end, read-none, read-step}
use Rattle.plan_file.proofs.ends.names_of.Goals as goal

pub loop-value-init : goal.loop-value-init
loop-value-init c =
    ap (λ xs. in_front (map (λ t. t.now) xs) (all_read (λ v. name_of_data (view v)) c.args.values.now)) c.in_ok-found.ensures.items
    ∙ in_front-nil (all_read (λ v. name_of_data (view v)) c.args.values.now) ∙ sym (all_names-read c.args.values.now)

pub loop-value-preserved : goal.loop-value-preserved
loop-value-preserved c =
    let x = c.value-item.result in
    read-step (λ v. name_of_data (view v)) (map (λ t. t.now) c.loop-value.found.items) _ c.args.values.now c.loop-value.value-index x
    c.in-Some.name.now _ c.loop-value-test.true (ap (λ v. name_of_data (view v)) (sym c.value-item.is) ∙ sym c.in-Some.ensures)
    (ap (map (λ t. t.now)) c.in_ok-push-in-Some.ensures.items ∙ map_push (λ t. t.now) c.loop-value.found.items c.in-Some.name)
    c.loop-value.invariant

pub returns : goal.returns
returns c =
    read-end (λ v. name_of_data (view v)) (map (λ t. t.now) c.loop-value.found.items) c.args.values.now c.loop-value.value-index _
    c.loop-value-test.false c.loop-value.invariant

pub returns-in-None : goal.returns-in-None
returns-in-None c =
    read-none (λ v. name_of_data (view v)) (map (λ t. t.now) c.loop-value.found.items) c.args.values.now c.loop-value.value-index
    c.value-item.result _ c.loop-value-test.true (ap (λ v. name_of_data (view v)) (sym c.value-item.is) ∙ sym c.in-None.ensures) c.loop-value.invariant
