-- What the departures take and what the slopes give are those of the window's bit times.
use Rattle.std.proofs.Common.{◌≡◌, refl, ◌∙◌, ap}
use Rattle.credit_shaper.specs.declared.{shaper.Traffic.TheVariants.B, port.PortInput.PortInput, port.Departures.Departures}
use Rattle.credit_shaper.specs.Departures.{sent_of}
use Rattle.class_b_bound.specs.{bits_over, area_over, bits_b, area_b}
use Rattle.class_b_bound.proofs.WindowLemmas.{bits_of_window, area_of}
use Rattle.class_b_bound.proofs.window.window_b.Goals as goal

pub returns : goal.returns
returns c =
    let input : PortInput = c.args.input.now in
    let sent : c.as_slice.result.now ≡ sent_of input =
    c.as_slice.ensures ∙ (ap (λ (d : Departures). d.sent) c.requires.sent ∙ c.what_leaves_is_sent_or_left.ensures.sent input) in
    let bits : c.bits_over.result ≡ bits_b input c.args.from c.args.to =
    c.bits_over.ensures ∙ (ap (bits_over c.args.from c.args.to) sent
    ∙ bits_of_window input (sent_of input) c.args.from c.args.to c.requires.order c.requires.within
    (c.departures_follow_one_another.ensures.apart input c.requires.input)
    (λ t l. c.the_line_carries_the_departures.ensures input B t c.requires.input l)) in
    let area : c.area_over.result ≡ area_b input c.args.from c.args.to =
    c.area_over.ensures ∙ (ap (area_over c.args.from c.args.to 0) c.as_slice-2.ensures
    ∙ area_of input c.args.from c.args.to c.requires.order c.requires.input.slopes.ascend) in
    rw (bits, area) refl
