use Rattle.std.proofs.Common.{◌≡◌, List, ℕ, length, ◌≤◌, sym, subst, ◌∙◌}
use Rattle.mrpdu_codec.specs.declared.form.AppForm.TheVariants.{Mvrp}
use Rattle.mvrp_codec.specs.{pdu_for, mvrp_spelling}
use Rattle.mvrp_codec.proofs.WritingLemmas.{is_well_formed, reads_again, few_in_all, octets_are}
use Rattle.mvrp_codec.proofs.writing.encode.Goals as goal

pub returns-clause-read_back : goal.returns-clause-read_back
returns-clause-read_back c =
    let octets : c.from_vec.result ≡ mvrp_spelling c.args.pdu.now = c.from_vec.ensures ∙ octets_are _ _ c.args.pdu.now c.in_ok-octets.ensures.octets c.as_slice.ensures in
    let read = c.written_is_read.ensures.read Mvrp (pdu_for c.args.pdu.now) (is_well_formed c.args.pdu.now c.requires) in
    rw octets (reads_again c.args.pdu.now (rw c.as_slice.ensures at c.in_ok-octets.ensures.vids) read)

pub returns-clause-few : goal.returns-clause-few
returns-clause-few c =
    let octets : c.from_vec.result ≡ mvrp_spelling c.args.pdu.now = c.from_vec.ensures ∙ octets_are _ _ c.args.pdu.now c.in_ok-octets.ensures.octets c.as_slice.ensures in
    subst (λ (os : List ℕ). length os ≤ 1500) (sym octets) (few_in_all c.args.pdu.now c.requires (c.written_size.ensures Mvrp (pdu_for c.args.pdu.now)))
