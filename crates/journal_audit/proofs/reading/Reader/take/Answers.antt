use Rattle.std.proofs.Common.{◌≡◌, ◌≢◌, ◌∷◌, ◌++◌, ◌+◌, ℕ, List, ap, subst, refl, ◌∙◌}
use Rattle.journal_audit.specs.Reading.{Reading}
use Rattle.journal_audit.specs.{IsTaken, lines_of}
use Rattle.journal_audit.proofs.TextLemmas.{taken_line, another_line}
use Rattle.journal_audit.proofs.reading.Reader.take.Goals as goal

pub returns-in-Some-clause-taken : goal.returns-in-Some-clause-taken
returns-in-Some-clause-taken c =
    let before : Reading = record { rest = c.self.inside.rest.now; read = c.self.inside.read; wanted = c.self.inside.wanted } in
    let after : Reading = record { rest = c.in-Some.rest.now; read = c.self.inside.read + 1; wanted = c.self.inside.wanted } in
    let begins : c.self.inside.rest.now ≡ c.args.line.items ++ c.in-Some.rest.now =
    c.in-Some.ensures.some ∙ ap (λ (front : List ℕ). front ++ c.in-Some.rest.now) c.as_slice.ensures.value
    in
    λ is. subst (λ (r : Reading). IsTaken c.args.line.items r after) c.self.view_is (taken_line c.args.line.items before after c.requires begins refl)

pub returns-in-None-clause-other : goal.returns-in-None-clause-other
returns-in-None-clause-other c =
    let before : Reading = record { rest = c.self.inside.rest.now; read = c.self.inside.read; wanted = c.self.inside.wanted } in
    let none = subst (λ (front : List ℕ). (rest : List ℕ) → c.self.inside.rest.now ≢ front ++ rest) c.as_slice.ensures.value c.in-None.ensures.none in
    λ isnt. subst (λ (r : Reading). (lines : List (List ℕ)) → lines_of r.rest ≢ c.args.line.items ∷ lines) c.self.view_is (another_line c.args.line.items before none)
