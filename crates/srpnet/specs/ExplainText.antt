-- What `srpnet explain` prints of a file of each kind: why it is refused, in words, or that it keeps
-- all rules.
use Rattle.std.specs.Prelude.{◌≡◌, ℕ, List, [], codes, Result, Ok, Err}
use Rattle.toml.specs.Data.{Members, no_members}
use Rattle.rule_words.specs.declared.kinds.FileKind.{FileKind}
use Rattle.rule_words.specs.{NotToml.IsNotTomlText, Refusal.refusal_text}
use Rattle.srpnet.specs.Document.{document, or_not_toml}
use Rattle.srpnet.specs.declared.outcome.Cause.{Cause}
use Rattle.srpnet.specs.declared.outcome.Cause.TheVariants.{Done, NotToml, BadScenario}

-- of a file that keeps all rules
abbrev pub kept_words : List ℕ
kept_words = codes "keeps all rules\n"

-- the table of a document, empty where there is none
abbrev pub table_or_none : Result Members Cause → Members
table_or_none (Ok ms) = ms
table_or_none (Err cause) = no_members

-- the table of some octets
abbrev pub table_in : List ℕ → Members
table_in octets = table_or_none (or_not_toml (document octets))

-- whether a text is said of the octets of a file of a kind that ends so where it is judged; it ends
-- with none but the first three
abbrev pub IsExplained : FileKind → Cause → List ℕ → List ℕ → Type 0
IsExplained kind Done octets text = text ≡ kept_words
IsExplained kind NotToml octets text = IsNotTomlText octets text
IsExplained kind (BadScenario rule entry) octets text = text ≡ refusal_text kind rule entry (table_in octets) octets
IsExplained kind cause octets text = text ≡ []
