-- What starts is what the port starts.
use Rattle.std.proofs.Common.{◌≡◌, ◌+◌, ◌≤◌, List, ◌++◌, [], ◌∷◌, Some, None, sym, ◌∙◌, ap, subst, arith}
use Rattle.credit_shaper.specs.{Arrival, Departure, PortTrace, with_start, sends_frame, departure_at, frame_of, IsFirst, port_of}
use Rattle.credit_shaper.proofs.StartLemmas.{start_found, start_none, port_at_rest, some_bits, rest_idle}
use Rattle.credit_shaper.proofs.trace.PortTrace.in_bit.Goals as goal

pub returns-in_ok-push-in-Some-clause-idle : goal.returns-in_ok-push-in-Some-clause-idle
returns-in_ok-push-in-Some-clause-idle c free =
    let trace : PortTrace = c.with_arrivals-arrived.result in
    let first : IsFirst c.args.input.now.arrivals trace c.in-Some.x =
    subst (λ (xs : List Arrival). IsFirst xs trace c.in-Some.x) c.as_slice-arrivals.ensures c.in-Some.ensures.first in
    let size : 336 ≤ c.in-Some.x.bits =
    some_bits c.args.input.now trace c.in-Some.x c.requires.input c.with_arrivals-arrived.ensures.reached.arrivals.within first in
    let busy : c.sends.result.free_from ≡ trace.bit + c.in-Some.x.bits = ap (λ p. p.free_from) (c.sends.ensures.port []) in
    absurd (omega (arith, size, busy, free, c.with_arrivals-arrived.ensures.bit))

pub returns-in_ok-push-in-Some-clause-port : goal.returns-in_ok-push-in-Some-clause-port
returns-in_ok-push-in-Some-clause-port c =
    let trace : PortTrace = c.with_arrivals-arrived.result in
    let arrivals : List Arrival = c.args.input.now.arrivals in
    let sent : List Departure = c.args.sent.now.items in
    let x : Arrival = c.in-Some.x in
    let pushed : c.push.new.self.items ≡ sent ++ departure_at trace.bit x ∷ [] =
    c.in_ok-push-in-Some.ensures.items ∙ ap (λ d. sent ++ d ∷ []) c.departure_at.ensures in
    let sends : port_of arrivals (sent ++ departure_at trace.bit x ∷ []) c.sends.result ≡ sends_frame trace.bit (port_of arrivals sent trace) x =
    subst (λ (xs : List Arrival). port_of xs (sent ++ departure_at trace.bit x ∷ []) c.sends.result ≡ sends_frame trace.bit (port_of xs sent trace) x)
    c.as_slice-arrivals.ensures (c.sends.ensures.port sent) in
    let value : Some x ≡ frame_of arrivals trace =
    subst (λ (xs : List Arrival). Some x ≡ frame_of xs trace) c.as_slice-arrivals.ensures c.in-Some.ensures.value in
    let begun : with_start trace.bit (port_of arrivals sent trace) ≡ sends_frame trace.bit (port_of arrivals sent trace) x =
    start_found trace.bit (port_of arrivals sent trace) x value in
    ap (λ ds. port_of arrivals ds c.sends.result) pushed
    ∙ (sends ∙ (sym begun
    ∙ (ap (λ t. with_start t (port_of arrivals sent trace)) c.with_arrivals-arrived.ensures.bit
    ∙ ap (with_start c.args.self.bit) (c.with_arrivals-arrived.ensures.port sent))))

pub returns-in-None-clause-idle : goal.returns-in-None-clause-idle
returns-in-None-clause-idle c free =
    let trace : PortTrace = c.with_arrivals-arrived.result in
    let value : None ≡ frame_of c.args.input.now.arrivals trace =
    subst (λ (xs : List Arrival). None ≡ frame_of xs trace) c.as_slice-arrivals.ensures c.in-None.ensures.value in
    rest_idle c.args.input.now.arrivals trace c.rests.result c.with_arrivals-arrived.ensures.heads
    c.with_arrivals-arrived.ensures.reached.arrivals.within value c.rests.ensures (omega (arith, free, c.with_arrivals-arrived.ensures.bit))

pub returns-in-None-clause-port : goal.returns-in-None-clause-port
returns-in-None-clause-port c =
    let trace : PortTrace = c.with_arrivals-arrived.result in
    let arrivals : List Arrival = c.args.input.now.arrivals in
    let sent : List Departure = c.args.sent.now.items in
    let value : None ≡ frame_of arrivals trace =
    subst (λ (xs : List Arrival). None ≡ frame_of xs trace) c.as_slice-arrivals.ensures c.in-None.ensures.value in
    ap (port_of arrivals sent) c.rests.ensures
    ∙ (port_at_rest arrivals sent trace ∙ (sym (start_none trace.bit (port_of arrivals sent trace) value)
    ∙ (ap (λ t. with_start t (port_of arrivals sent trace)) c.with_arrivals-arrived.ensures.bit
    ∙ ap (with_start c.args.self.bit) (c.with_arrivals-arrived.ensures.port sent))))
