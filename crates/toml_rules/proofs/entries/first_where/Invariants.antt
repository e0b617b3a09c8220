use Rattle.std.proofs.Common.{◌≡◌, Bool, List, [], take, drop}
use Rattle.srp_base.specs.Firsts.{first_where}
use Rattle.toml_rules.specs.{TestsAs}
use Rattle.toml_rules.proofs.entries.first_where.Given as goal

abbrev pub invariant-loop-i : goal.invariant-loop-i
invariant-loop-i g l =
    (said : List g.row.T.Denot → g.row.T.Denot → Bool) → TestsAs (λ e x r. goal.F-post g l.fn.test e x r) said
    → first_where said (take l.i l.entries) (drop l.i l.entries) ≡ first_where said [] l.fn.entries
