-- A port is alike in each bit time of a piece.
use Rattle.std.proofs.Common.{◌≡◌, ℕ, zero, suc, ◌+◌, ◌-◌, ◌<◌, Bool, List, [], ◌∷◌, ◌++◌, sym, ◌∙◌, ap, subst, arith}
use Rattle.srp_base.specs.declared.bandwidth.Rate.{Rate}
use Rattle.srp_base.specs.Bandwidth.{bits_of}
use Rattle.credit_shaper.specs.{A, B, Shaper, PortInput, Departure, PortTrace, Piece, does_send, credit_after_bits, IsInRange, IsPortInput, does_wait, port_at, port_in, within_bit, IsAlike, IsPiece, ArePieces, AreHeads, HasReached, IsQuiet, port_of, has_frame, piece_of}
use Rattle.credit_shaper.specs.Trace.{Port}
use Rattle.credit_shaper.proofs.{CreditLemmas.after_bits_is, PortLemmas.shaper-port_in, PortLemmas.rate_is, PortLemmas.in_range, QuietLemmas.jumped, QuietLemmas.jumped_none, QuietLemmas.stretch, QuietLemmas.quiet_bit, QuietLemmas.waits}

-- the port in each bit time up to the next moment
port_after : (input : PortInput) (sent : List Departure) (trace : PortTrace) (next n : ℕ)
    → AreHeads input.arrivals trace.came trace.heads → HasReached input (trace.bit + 1) trace → HasReached input next trace
    → IsQuiet trace next → port_of input.arrivals sent trace ≡ port_in input trace.bit → trace.bit + n < next
    → port_in input (trace.bit + n) ≡ jumped n (port_of input.arrivals sent trace)
port_after input sent trace next zero heads now later quiet here l = grind (arith, jumped_none)
port_after input sent trace next (suc n) heads now later quiet here l =
    let p : Port = port_of input.arrivals sent trace in
    let before : port_at input (trace.bit + suc n) ≡ jumped (suc n) p =
    stretch input trace.bit n p (sym here) (λ k some h. quiet_bit input sent trace next k heads now later quiet some (omega (arith, l, h))) in
    ap (within_bit input (trace.bit + suc n)) before ∙ quiet_bit input sent trace next (suc n) heads now later quiet (omega arith) l

credit_a-after : (n : ℕ) (p : Port) (rate : Rate) → p.shaper.rate ≡ rate
    → (jumped n p).shaper.credit_a ≡ credit_after_bits n (bits_of rate) p.shaper.slope_a (does_send A p.line) (does_wait A p.waiting) p.shaper.credit_a
credit_a-after n p rate e = grind (arith, after_bits_is)

credit_b-after : (n : ℕ) (p : Port) (rate : Rate) → p.shaper.rate ≡ rate
    → (jumped n p).shaper.credit_b ≡ credit_after_bits n (bits_of rate) p.shaper.slope_b (does_send B p.line) (does_wait B p.waiting) p.shaper.credit_b
credit_b-after n p rate e = grind (arith, after_bits_is)

rate_in : (input : PortInput) (t : ℕ) → (port_in input t).shaper.rate ≡ input.rate
rate_in input t = ap (λ (s : Shaper). s.rate) (shaper-port_in input t) ∙ rate_is input t

-- a bit time of the piece
alike : (input : PortInput) (sent : List Departure) (trace : PortTrace) (bits n : ℕ)
    → AreHeads input.arrivals trace.came trace.heads → HasReached input (trace.bit + 1) trace
    → port_of input.arrivals sent trace ≡ port_in input trace.bit
    → port_in input (trace.bit + n) ≡ jumped n (port_of input.arrivals sent trace) → IsAlike input (piece_of bits trace) n
alike input sent trace bits n heads now here is =
    let t : ℕ = trace.bit + n in
    let p : Port = port_of input.arrivals sent trace in
    let wa : does_wait A p.waiting ≡ has_frame trace A = waits input.arrivals trace A heads now.arrivals.within in
    let wb : does_wait B p.waiting ≡ has_frame trace B = waits input.arrivals trace B heads now.arrivals.within in
    let shaper = shaper-port_in input t in
    let after = after_bits_is n p.line (does_wait A p.waiting) (does_wait B p.waiting) p.shaper in
    let rate : p.shaper.rate ≡ input.rate = ap (λ (q : Port). q.shaper.rate) here ∙ rate_in input trace.bit in
    record {
      line = ap (λ (q : Port). q.line) is;
      waits_a = ap (λ (q : Port). does_wait A q.waiting) is ∙ wa;
      waits_b = ap (λ (q : Port). does_wait B q.waiting) is ∙ wb;
      slope_a = sym (ap (λ (s : Shaper). s.slope_a) shaper) ∙ (ap (λ (q : Port). q.shaper.slope_a) is ∙ ap (λ (s : Shaper). s.slope_a) after);
      slope_b = sym (ap (λ (s : Shaper). s.slope_b) shaper) ∙ (ap (λ (q : Port). q.shaper.slope_b) is ∙ ap (λ (s : Shaper). s.slope_b) after);
      credit_a = sym (ap (λ (s : Shaper). s.credit_a) shaper) ∙ (ap (λ (q : Port). q.shaper.credit_a) is
          ∙ (credit_a-after n p input.rate rate
          ∙ ap (λ (w : Bool). credit_after_bits n (bits_of input.rate) trace.shaper.slope_a (does_send A trace.line) w trace.shaper.credit_a) wa));
      credit_b = sym (ap (λ (s : Shaper). s.credit_b) shaper) ∙ (ap (λ (q : Port). q.shaper.credit_b) is
          ∙ (credit_b-after n p input.rate rate
          ∙ ap (λ (w : Bool). credit_after_bits n (bits_of input.rate) trace.shaper.slope_b (does_send B trace.line) w trace.shaper.credit_b) wb));
    }

pub piece_is : (input : PortInput) (sent : List Departure) (trace : PortTrace) (next : ℕ) → IsPortInput input → trace.bit < input.end
    → AreHeads input.arrivals trace.came trace.heads → HasReached input (trace.bit + 1) trace → HasReached input next trace
    → IsQuiet trace next → trace.bit < next → port_of input.arrivals sent trace ≡ port_in input trace.bit
    → IsPiece input (piece_of (next - trace.bit) trace)
piece_is input sent trace next valid short heads now later quiet l here =
    record {
      some = omega (arith, l);
      range = subst (λ (q : Port). IsInRange q.shaper) (sym here) (in_range input trace.bit valid (omega (arith, short, valid.end)));
      rate = ap (λ (q : Port). q.shaper.rate) here ∙ rate_in input trace.bit;
      alike = λ n below. alike input sent trace (next - trace.bit) n heads now here
          (port_after input sent trace next n heads now later quiet here (omega (arith, below)));
    }

-- pieces, with one more
pub pieces_more : (input : PortInput) (from to : ℕ) (ps : List Piece) (p : Piece) → ArePieces input from to ps
    → p.bit ≡ to → IsPiece input p → ArePieces input from (to + p.bits) (ps ++ p ∷ [])
pieces_more input from to [] p is at one = (at ∙ sym is, one, ap (λ n. n + p.bits) is)
pieces_more input from to (q ∷ qs) p is at one = (is.0, is.1, pieces_more input (from + q.bits) to qs p is.2 at one)
