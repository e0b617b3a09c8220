use Rattle.std.proofs.lemmas.List.Elements.{All-weaker}
use Rattle.credit_shaper.specs.Port.{IsPortInput}
use Rattle.frame_flow.specs.{DepartsByArrival}
use Rattle.frame_flow.proofs.LawLemmas.{inputs_valid}
use Rattle.frame_flow.proofs.laws.copies_depart_in_order.Goals as goal

pub returns : goal.returns
returns c s flows given is =
    All-weaker (λ x. IsPortInput x.input) DepartsByArrival
    (λ x valid. record { arrivals = valid.arrivals.ascend; departures = λ traffic. c.frames_depart_in_order.ensures x.input traffic valid }) flows (inputs_valid s given flows is)
