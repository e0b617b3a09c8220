use Rattle.std.proofs.Common.{◌≡◌, List, ℕ, length, ◌≤◌, sym, subst, ap, ◌∙◌}
use Rattle.mrpdu_codec.specs.declared.form.AppForm.TheVariants.{Mmrp}
use Rattle.mmrp_codec.specs.{GroupPdu, AreMacs, MacEvent, pdu_for, mmrp_spelling}
use Rattle.mmrp_codec.proofs.WrittenPdu.{is_well_formed, reads_again, few_in_all}
use Rattle.mmrp_codec.proofs.writing.encode.Goals as goal

pub returns-clause-read_back : goal.returns-clause-read_back
returns-clause-read_back c =
    let pdu = c.args.pdu.now in
    let made : List MacEvent → GroupPdu = λ es. record { leave_all = pdu.leave_all; events = es } in
    let octets : c.from_vec.result ≡ mmrp_spelling pdu = c.from_vec.ensures ∙ (c.in_ok-octets.ensures.octets ∙ ap (λ (es : List MacEvent). mmrp_spelling (made es)) c.as_slice.ensures) in
    let long = c.numbers_are_read_back.ensures.length in
    let macs : AreMacs pdu.events = subst AreMacs c.as_slice.ensures c.in_ok-octets.ensures.macs in
    rw octets (reads_again c.numbers_are_read_back.ensures.read pdu macs (c.written_is_read.ensures.read Mmrp (pdu_for pdu) (is_well_formed long pdu)))

pub returns-clause-few : goal.returns-clause-few
returns-clause-few c =
    let pdu = c.args.pdu.now in
    let made : List MacEvent → GroupPdu = λ es. record { leave_all = pdu.leave_all; events = es } in
    let octets : c.from_vec.result ≡ mmrp_spelling pdu = c.from_vec.ensures ∙ (c.in_ok-octets.ensures.octets ∙ ap (λ (es : List MacEvent). mmrp_spelling (made es)) c.as_slice.ensures) in
    subst (λ (os : List ℕ). length os ≤ 1500) (sym octets) (few_in_all c.numbers_are_read_back.ensures.length pdu c.requires (c.written_size.ensures Mmrp (pdu_for pdu)))
