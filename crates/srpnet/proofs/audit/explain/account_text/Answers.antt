use Rattle.std.proofs.Common.{◌≡◌, ◌+◌, ℕ, List, sym, subst}
use Rattle.std.specs.Prelude.{IfOk, Option}
use Rattle.audit_words.specs.Words.{unformed_text}
use Rattle.srpnet.specs.declared.audit.account.Account.{Account}
use Rattle.srpnet.specs.Account.{account_text}
use Rattle.srpnet.proofs.audit.explain.account_text.Goals as goal

pub returns-in_ok-stands-in-Unformed : goal.returns-in_ok-stands-in-Unformed
returns-in_ok-stands-in-Unformed c =
    subst (λ (a : Account). IfOk c.unformed_text.result (λ text. text.items ≡ account_text c.args.octets.now c.args.cut a)) (sym c.in-Unformed.is)
    (subst (λ (s : Option (List ℕ)). IfOk c.unformed_text.result (λ text. text.items ≡ unformed_text (c.args.cut + c.in-Unformed.line) c.in-Unformed.line s))
    c.in_ok-stands-in-Unformed.ensures c.unformed_text.ensures)
