-- The TOML document of the octets of a head.
use Rattle.std.specs.Prelude.{ℕ, if◌then◌else◌, List, Option, Some, None, Result, Ok, Err}
use Rattle.std.specs.Str.{is_utf8}
use Rattle.toml.specs.Data.{Members}
use Rattle.toml.specs.Parse.{parse_document}
use Rattle.replay_words.specs.declared.{error.ReplayErr.ReplayErr, error.ReplayErr.TheVariants.NotToml}

-- the document of some octets, if they are UTF-8 and TOML
abbrev pub document : List ℕ → Option Members
document octets = if is_utf8 octets then parse_document octets else None

-- the document, or the cause without one
abbrev pub or_not_toml : Option Members → Result Members ReplayErr
or_not_toml (Some ms) = Ok ms
or_not_toml None = Err NotToml
