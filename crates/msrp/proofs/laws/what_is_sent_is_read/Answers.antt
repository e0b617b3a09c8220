use Rattle.std.proofs.Common.{refl, arith}
use Rattle.mrp_participant.specs.{Lookup.same, State.is_active, State.sent_events}
use Rattle.msrp_codec.specs.{Content.Belongs, Content.base_octets, Content.octets_of, Writing.AreInRange, Writing.IsWritable}
use Rattle.attribute_propagation.proofs.Lists.{some_or}
use Rattle.msrp.specs.{key_cmp, pdu_sent}
use Rattle.msrp.proofs.{Contents.own_row, Ranges.IsWithin, Ranges.range_row, Said.all_said, Said.in_order, Said.one_at_most}
use Rattle.msrp.proofs.laws.what_is_sent_is_read.Goals as goal

pub returns-clause-written : goal.returns-clause-written
returns-clause-written c = λ now s rows own fit speaks.
    let es = sent_events base_octets octets_of key_cmp now s in
    let can : IsWritable (pdu_sent now s) = record {
      some = some_or (is_active s.leave_all) es (c.what_is_sent_is_a_pdu.ensures.says s now rows speaks);
      belong = all_said Belongs s (own_row s own) es (λ e inside. c.what_is_sent_is_declared.ensures.content s now e rows inside);
      few = c.what_is_sent_is_a_pdu.ensures.fits s now rows;
    } in
    let fits : AreInRange (pdu_sent now s).events = all_said IsWithin s (range_row s fit) es (λ e inside. c.what_is_sent_is_declared.ensures.content s now e rows inside) in
    record {
      spelled = refl;
      reads = c.what_is_written_is_read.ensures (pdu_sent now s) can fits;
      short = let size = c.stated_octets_suffice.ensures (pdu_sent now s) in let few = can.few in omega (arith, size, few);
    }

pub returns-clause-ascending : goal.returns-clause-ascending
returns-clause-ascending c = λ now s rows. c.what_is_sent_is_a_pdu.ensures.ascending s now rows

pub returns-clause-one : goal.returns-clause-one
returns-clause-one c = λ now s key rows. one_at_most _ _ (c.each_key_in_what_is_sent.ensures s now rows key)

pub returns-clause-each_key : goal.returns-clause-each_key
returns-clause-each_key c = λ now s key rows.
    c.each_key_keeps_its_event.ensures (pdu_sent now s).events (λ k. same key_cmp k key) (one_at_most _ _ (c.each_key_in_what_is_sent.ensures s now rows key))

pub returns-clause-belong : goal.returns-clause-belong
returns-clause-belong c = λ now s rows own.
    in_order (λ e. Belongs e.1 e.2) (pdu_sent now s).events
    (all_said Belongs s (own_row s own) (pdu_sent now s).events (λ e inside. c.what_is_sent_is_declared.ensures.content s now e rows inside))

pub returns-clause-in_range : goal.returns-clause-in_range
returns-clause-in_range c = λ now s rows fit.
    in_order (λ e. IsWithin e.1 e.2) (pdu_sent now s).events
    (all_said IsWithin s (range_row s fit) (pdu_sent now s).events (λ e inside. c.what_is_sent_is_declared.ensures.content s now e rows inside))
