use Rattle.std.proofs.Common.{◌≡◌, ◌≤◌, false, true, List, length, take, drop, arith, subst, sym, ◌∙◌, ap}
use Rattle.std.specs.List.{AllByRecursion}
use Rattle.std.proofs.lemmas.List.{length-take-le, take-append-drop, take-take}
use Rattle.stream_importance.specs.declared.entry.Entry.{Entry}
use Rattle.port_ledger.specs.{AreLasting, IsSettled}
use Rattle.port_ledger.proofs.{Settling.cut_settled, Settling.is_prior_to_both, Settling.prior_comes, Settling.prior_goes, TotalsLemmas.front-is, TotalsLemmas.part-within, TotalsLemmas.rest-fits}
use Rattle.port_ledger.proofs.front.cut.Goals as goal

pub ahead-requires : goal.ahead-requires
ahead-requires c = c.requires.settled.within

pub prior_to_both-place-requires : goal.prior_to_both-place-requires
prior_to_both-place-requires c = subst (λ (xs : List Entry). AreLasting c.args.now.0 xs) (sym c.ahead.ensures) c.requires.settled.ahead.lasting

pub totals_of-rest-requires : goal.totals_of-rest-requires
totals_of-rest-requires c = rest-fits c.prior_to_both-place.result c.args.order.now _ c.behind.ensures c.requires.range

pub less-requires-clause-class_a : goal.less-requires-clause-class_a
less-requires-clause-class_a c =
    (part-within c.args.now.0 c.prior_to_both-place.result c.args.order.now _ c.args.standing.now.totals c.totals_of-rest.result c.requires.totals
    c.totals_of-rest.ensures c.behind.ensures).class_a

pub less-requires-clause-class_b : goal.less-requires-clause-class_b
less-requires-clause-class_b c =
    (part-within c.args.now.0 c.prior_to_both-place.result c.args.order.now _ c.args.standing.now.totals c.totals_of-rest.result c.requires.totals
    c.totals_of-rest.ensures c.behind.ensures).class_b

pub less-requires-clause-new_count : goal.less-requires-clause-new_count
less-requires-clause-new_count c =
    (part-within c.args.now.0 c.prior_to_both-place.result c.args.order.now _ c.args.standing.now.totals c.totals_of-rest.result c.requires.totals
    c.totals_of-rest.ensures c.behind.ensures).new_count

pub returns-clause-totals : goal.returns-clause-totals
returns-clause-totals c =
    front-is c.args.now.0 c.prior_to_both-place.result c.args.order.now _ c.args.standing.now.totals c.less.result c.totals_of-rest.result c.requires.totals
    c.totals_of-rest.ensures c.behind.ensures c.less.ensures

-- the place lies within what is settled
place_within : (c : goal.After-less) → c.prior_to_both-place.result ≤ c.args.standing.now.settled
place_within c = grind (arith, length-take-le)

-- the entries before it are prior to both
prior : (c : goal.After-less) → AllByRecursion (λ y. is_prior_to_both c.args.now.0 c.args.goes c.args.comes y ≡ true) (take c.prior_to_both-place.result c.args.order.now)
prior c =
    subst (λ (xs : List Entry). AllByRecursion (λ y. is_prior_to_both c.args.now.0 c.args.goes c.args.comes y ≡ true) xs)
    (ap (take c.prior_to_both-place.result) c.ahead.ensures ∙ take-take c.prior_to_both-place.result c.args.standing.now.settled c.args.order.now (place_within c))
    c.prior_to_both-place.ensures.prior

pub returns-clause-goes : goal.returns-clause-goes
returns-clause-goes c = prior_goes c.args.now.0 c.args.goes c.args.comes (take c.prior_to_both-place.result c.args.order.now) (prior c)

pub returns-clause-comes : goal.returns-clause-comes
returns-clause-comes c = prior_comes c.args.now.0 c.args.goes c.args.comes (take c.prior_to_both-place.result c.args.order.now) (prior c)

pub returns-clause-settled : goal.returns-clause-settled
returns-clause-settled c =
    let f : List Entry = take c.args.standing.now.settled c.args.order.now in
    let r : List Entry = drop c.args.standing.now.settled c.args.order.now in
    let long : length f ≡ c.args.standing.now.settled = length-take-le c.args.standing.now.settled c.args.order.now c.requires.settled.within in
    subst (λ (xs : List Entry). IsSettled c.args.now.0 c.prior_to_both-place.result xs) (take-append-drop c.args.standing.now.settled c.args.order.now)
    (cut_settled c.args.now.0 c.prior_to_both-place.result c.args.goes c.args.comes f r c.requires.settled.ahead
    (let within = place_within c in omega (arith, long, within))
    (subst (λ (xs : List Entry). AllByRecursion (λ y. is_prior_to_both c.args.now.0 c.args.goes c.args.comes y ≡ true) (take c.prior_to_both-place.result xs))
    c.ahead.ensures c.prior_to_both-place.ensures.prior)
    (subst (λ (xs : List Entry). AllByRecursion (λ y. is_prior_to_both c.args.now.0 c.args.goes c.args.comes y ≡ false) (drop c.prior_to_both-place.result xs))
    c.ahead.ensures c.prior_to_both-place.ensures.rest))
