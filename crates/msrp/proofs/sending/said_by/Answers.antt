use Rattle.std.proofs.Common.{◌≡◌, List, sym, subst}
use Rattle.std.specs.List.{AllByRecursion}
use Rattle.srp_base.proofs.Options.{opened}
use Rattle.srp_base.specs.declared.mrp.MrpEvent.{MrpEvent}
use Rattle.msrp_codec.specs.declared.{pdu.MsrpKey.MsrpKey, pdu.MsrpContent.MsrpContent}
use Rattle.msrp_codec.specs.Content.{Belongs, base_octets, octets_of}
use Rattle.mrp_participant.specs.State.{sent_events}
use Rattle.msrp.specs.{key_cmp}
use Rattle.msrp.proofs.{Contents.own_row, Said.all_said}
use Rattle.msrp.proofs.sending.said_by.Goals as goal

pub octets_of-requires-clause-belong : goal.octets_of-requires-clause-belong
octets_of-requires-clause-belong c =
    let es : c.in-Some.msgs.events ≡ sent_events base_octets octets_of key_cmp c.args.now c.args.part.now.state =
    opened (λ m. m.events ≡ sent_events base_octets octets_of key_cmp c.args.now c.args.part.now.state) c.in_ok-msgs.field-0 c.in-Some.msgs c.in-Some.is c.in_ok-msgs.ensures.events in
    let P : List (MrpEvent × MsrpKey × MsrpContent) → Type 0 = λ xs. AllByRecursion (λ e. Belongs e.1 e.2) xs in
    subst P (sym es) (all_said Belongs c.args.part.now.state (own_row c.args.part.now.state c.requires.contents) (sent_events base_octets octets_of key_cmp c.args.now c.args.part.now.state)
    (λ e h. c.what_is_sent_is_declared.ensures.content c.args.part.now.state c.args.now e c.requires.rows h))
