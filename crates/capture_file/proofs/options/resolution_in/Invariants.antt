use Rattle.std.proofs.Common.{◌≡◌, length}
use Rattle.capture_file.specs.{resolution_in}
use Rattle.capture_file.proofs.options.resolution_in.Given as goal

abbrev pub invariant-more : goal.invariant-more
invariant-more l = resolution_in l.order 0 l.rest ≡ resolution_in l.order 0 l.options

abbrev pub decreases-more : goal.decreases-more
decreases-more l = length l.rest
