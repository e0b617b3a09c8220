-- The TOML document of the octets of a file.
use Rattle.std.specs.Prelude.{ℕ, if◌then◌else◌, List, Option, None}
use Rattle.std.specs.Str.{is_utf8}
use Rattle.toml.specs.Data.{Members}
use Rattle.toml.specs.Parse.{parse_document}

-- the document of some octets, if they are UTF-8 and TOML
abbrev pub document : List ℕ → Option Members
document octets = if is_utf8 octets then parse_document octets else None
