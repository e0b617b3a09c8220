use Rattle.std.proofs.Common.{◌≡◌, ℕ, Bool, List, [], ◌++◌, if◌then◌else◌, OnOk, sym, ap, ◌∙◌, subst}
use Rattle.rule_words.specs.declared.keys.Key.TheVariants.{Links}
use Rattle.rule_words.specs.{line_beside, word_of}
use Rattle.rule_words.proofs.others.put_link_begin.Goals as goal

pub returns-then-has_end : goal.returns-then-has_end
returns-then-has_end c =
    let n = c.args.number in
    let octets = c.args.octets.now in
    let is = sym c.has_end.ensures ∙ c.if-has_end.true in
    subst (λ (t : List ℕ). OnOk c.put_line_beside.result (c.put_line_beside.new.out.items ≡ c.args.out.now.items ++ t))
    (ap (λ (word : List ℕ). line_beside word n octets) c.word_of.ensures ∙ sym (ap (λ (b : Bool). if b then line_beside (word_of Links) n octets else []) is)) c.put_line_beside.ensures
