-- The pieces of the line, one behind the other.
use Rattle.std.proofs.Common.{◌≡◌, ◌∙◌, ◌++◌, List, ℕ, ap, subst, append_assoc}
use Rattle.std.specs.Prelude.{OnOk, codes}
use Rattle.std.specs.Fmt.{decimal}
use Rattle.srp_report.proofs.flows.put_line.Goals as goal

joined-pieces : (o w f a s b e n : List ℕ) → o ++ w ++ f ++ a ++ s ++ b ++ e ++ n ≡ o ++ (w ++ (f ++ (a ++ (s ++ (b ++ (e ++ n))))))
joined-pieces o w f a s b e n =
    append_assoc (o ++ w ++ f ++ a ++ s ++ b) e n ∙ append_assoc (o ++ w ++ f ++ a ++ s) b (e ++ n) ∙ append_assoc (o ++ w ++ f ++ a) s (b ++ (e ++ n))
    ∙ append_assoc (o ++ w ++ f) a (s ++ (b ++ (e ++ n))) ∙ append_assoc (o ++ w) f (a ++ (s ++ (b ++ (e ++ n))))
    ∙ append_assoc o w (f ++ (a ++ (s ++ (b ++ (e ++ n)))))

pub returns : goal.returns
returns c =
    let out = c.args.out.now.items in
    let start = c.args.start.now in
    let d = c.args.d in
    let times : List ℕ → List ℕ = λ t. t ++ decimal d.frame ++ codes " start " ++ decimal d.start ++ codes " end " ++ decimal d.end ++ codes "\n" in
    let all = ap times c.in_ok-put_octets.ensures
    ∙ joined-pieces out start (decimal d.frame) (codes " start ") (decimal d.start) (codes " end ") (decimal d.end) (codes "\n") in
    subst (λ (t : List ℕ). OnOk c.put_times.result (c.put_times.new.out.items ≡ t)) all c.put_times.ensures
