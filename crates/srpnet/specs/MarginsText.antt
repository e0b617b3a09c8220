-- What `srpnet margins` prints: what each port of the network at the end of a run has left.
use Rattle.port_margins.specs.Margins.{margins_text}
use Rattle.srpnet.specs.RunText.{Text}

-- of the network alone
abbrev pub margins_alone : Text
margins_alone plan ticks world flows = margins_text plan world
