use Rattle.std.proofs.Common.{◌≡◌, ℕ, List, [], ◌∷◌, ◌++◌, sym, ap, subst, ◌∙◌, append_assoc}
use Rattle.std.specs.Prelude.{codes}
use Rattle.std.specs.Fmt.{decimal}
use Rattle.srp_base.proofs.Lists.{behind_same}
use Rattle.tree_topology.specs.Topology.{IsSound}
use Rattle.report_words.specs.Names.{port_name}
use Rattle.journal_lines.specs.{place_text}
use Rattle.journal_lines.proofs.NameLemmas.{ports_tell}
use Rattle.journal_lines.proofs.laws.a_line_tells_its_port.Goals as goal

placed : (t : ℕ) (port rest : List ℕ) → place_text t port ++ rest ≡ (decimal t ++ codes " ") ++ (port ++ 32 ∷ rest)
placed t port rest =
    append_assoc (decimal t) (codes " " ++ (port ++ (codes " " ++ []))) rest
    ∙ (ap (λ (x : List ℕ). decimal t ++ (32 ∷ x)) (append_assoc port (codes " ") rest) ∙ sym (append_assoc (decimal t) (codes " ") (port ++ 32 ∷ rest)))

pub returns : goal.returns
returns c plan t p q a b rules has has' same e =
    ports_tell plan rules (c.ports.ensures plan.tree (subst IsSound (sym rules.tree) rules.accepted)) p q a b has has' same
    (behind_same (decimal t ++ codes " ") _ _ (sym (placed t (port_name plan.nodes plan.tree.links p) a) ∙ (e ∙ placed t (port_name plan.nodes plan.tree.links q) b)))
