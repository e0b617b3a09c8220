use Rattle.std.proofs.Common.{ℕ, ◌+◌, List, [], ◌∷◌, ◌++◌, ap, ◌∙◌, arith}
use Rattle.mrpdu_codec.specs.{Tree.vectors_octets, Canonical.vectors_for}
use Rattle.msrp_codec.specs.{KeyEvent, type_vectors}
use Rattle.msrp_codec.proofs.{WritingLemmas.message_written, SizeLemmas.list_counted}
use Rattle.msrp_codec.proofs.writing.put_type.Goals as goal

pub returns : goal.returns
returns c =
    let size = c.list_size-size.result in
    let small = c.list_size-size.ensures.small in
    message_written c.args.out.now.items c.push.new.self.items c.push-2.new.self.items c.put_number.new.out.items c.put_vectors.new.out.items c.extend_from_slice.new.self.items
    c.args.leave_all c.args.t c.args.events.now size
    (list_counted c.written_list_size.ensures c.args.leave_all c.args.t c.args.events.now c.args.n size c.requires.count c.list_size-size.ensures.size)
    (omega arith)
    (c.in_ok-push.ensures.items ∙ ap (λ (m : ℕ). c.args.out.now.items ++ m ∷ []) c.number.ensures)
    (c.in_ok-push-2.ensures.items ∙ ap (λ (m : ℕ). c.push.new.self.items ++ m ∷ []) c.length_of.ensures)
    (c.in_ok-put_number.ensures.ok ∙ ap (λ (o : List ℕ). c.push-2.new.self.items ++ o) (c.numbers_are_read_back.ensures.two (size + 2) (omega arith)))
    (c.in_ok-put_vectors.ensures ∙ ap (λ (es : List KeyEvent). c.put_number.new.out.items ++ vectors_octets (vectors_for (type_vectors c.args.leave_all c.args.t es))) c.where_typed.ensures)
    c.in_ok-extend_from_slice.ensures.items
