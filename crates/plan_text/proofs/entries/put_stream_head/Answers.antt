use Rattle.std.proofs.Common.{◌≡◌, ◌++◌, ℕ, List, [], sym, ap, subst, ◌∙◌, append_assoc}
use Rattle.std.specs.Prelude.{OnOk, codes}
use Rattle.std.proofs.lemmas.List.{append-nil}
use Rattle.srp_base.specs.Hexadecimal.{hex16_text}
use Rattle.plan_text.specs.{Lines.text_line, Text.stream_head}
use Rattle.plan_text.proofs.entries.put_stream_head.Goals as goal

pub returns : goal.returns
unfolding stream_head
returns c =
    let out : List ℕ = c.args.out.now.items in
    let head : List ℕ = codes "\n[[stream]]\n" in
    let name : List ℕ = text_line (codes "name") c.args.stream.now.name in
    let id : List ℕ = text_line (codes "id") (hex16_text c.args.stream.now.id.0) in
    let first : c.put.new.out.items ≡ out ++ head = c.in_ok-put.ensures in
    let second : c.put_text_line.new.out.items ≡ c.put.new.out.items ++ name =
    c.in_ok-put_text_line.ensures ∙ ap (λ (t : List ℕ). c.put.new.out.items ++ text_line (codes "name") t) c.as_slice.ensures
    in
    let whole : c.put_text_line.new.out.items ++ id ≡ out ++ (head ++ (name ++ (id ++ []))) =
    ap (λ (t : List ℕ). t ++ id) (second ∙ ap (λ (t : List ℕ). t ++ name) first)
    ∙ (append_assoc (out ++ head) name id ∙ (append_assoc out head (name ++ id) ∙ ap (λ (t : List ℕ). out ++ (head ++ (name ++ t))) (sym (append-nil id))))
    in
    subst (λ (t : List ℕ). OnOk c.put_stream_id.result (c.put_stream_id.new.out.items ≡ t)) whole c.put_stream_id.ensures
