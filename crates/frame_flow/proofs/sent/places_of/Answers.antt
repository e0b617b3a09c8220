use Rattle.std.proofs.Common.{◌≡◌, ◌∙◌, ◌-◌, ◌<◌, ℕ, List, drop, Option, Some, None, cond, get_or, length, sym, ap, arith}
use Rattle.std.specs.Prelude.{find, ◌==◌}
use Rattle.credit_shaper.specs.declared.{port.Departure.Departure, shaper.Traffic.TheVariants.Other}
use Rattle.std.proofs.Math.ListN.{drop_of_length-le}
use Rattle.std.proofs.lemmas.List.{get_or_default}
use Rattle.frame_flow.specs.{sent_at}
use Rattle.frame_flow.proofs.{ListFacts.find-drop-more, FateLemmas.no-places, FateLemmas.more-places}
use Rattle.frame_flow.proofs.sent.places_of.Goals as goal

pub loop-i-init : goal.loop-i-init
loop-i-init c number =
    let sent = c.args.sent.now in
    let none : find (λ d. d.frame == number) (drop (length sent - 0) sent) ≡ None = ap (find (λ (d : Departure). d.frame == number)) (drop_of_length-le sent (omega arith)) in
    none ∙ sym (no-places c.args.least c.args.size sent number)
    ∙ ap (λ (t : List ℕ). sent_at c.args.least sent t number) (sym (c.in_ok-places.ensures.items_if_clones_equal (λ y h. h)))

pub loop-i-preserved : goal.loop-i-preserved
loop-i-preserved c number =
    let sent = c.args.sent.now in
    let at = length sent - 1 - c.loop-i.i in
    let below : at < length sent = omega (arith, c.loop-i-test.true) in
    let d : Departure = record { frame = 0; traffic = Other; start = 0; end = 0 } in
    let within = c.put.ensures.within c.if-not-put.false in
    find-drop-more (λ (d : Departure). d.frame == number) sent c.loop-i.i d c.loop-i-test.true
    ∙ ap (λ (o : Option Departure). cond ((get_or sent at d).frame == number) (Some (get_or sent at d)) o) (c.loop-i.invariant number)
    ∙ sym (more-places c.args.least sent c.loop-i.places.items at _ d below (ap (λ (x : Departure). x.frame) (get_or_default sent at _ d below)) within.0 within.1 number)
    ∙ ap (λ (t : List ℕ). sent_at c.args.least sent t number) (sym (c.put.ensures.new c.if-not-put.false))
