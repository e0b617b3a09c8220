use Rattle.std.proofs.Common.{◌≡◌, ◌++◌, true, nat_le, length}
use Rattle.std.specs.List.{list_all}
use Rattle.mrpdu_codec.specs.{pack_params}
use Rattle.mrpdu_codec.proofs.encoding.put_params.Given as goal

abbrev pub invariant-more : goal.invariant-more
invariant-more l = (l.out.items ++ pack_params l.rest ≡ l.initial.out.items ++ pack_params l.params) × (list_all (λ p. nat_le p 3) l.rest ≡ true)

abbrev pub decreases-more : goal.decreases-more
decreases-more l = length l.rest
