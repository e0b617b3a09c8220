-- The pages that the program prints without reading anything.
use Rattle.std.specs.Prelude.{ℕ, List}
use Rattle.srpnet.specs.declared.pages.TheConstants.{HELP, VERSION}

-- the page of `--help`
abbrev pub help_page : List ℕ
help_page = HELP.now

-- the line of `--version`
abbrev pub version_page : List ℕ
version_page = VERSION.now
