use Rattle.mvrp_codec.proofs.MaximalStreaks.{streaks_joined, streaks_maximal, only_streaks}
use Rattle.mvrp_codec.proofs.laws.streaks_are_maximal.Goals as goal

pub returns-clause-whole : goal.returns-clause-whole
returns-clause-whole c = λ events. streaks_joined events

pub returns-clause-maximal : goal.returns-clause-maximal
returns-clause-maximal c = λ events. streaks_maximal events

pub returns-clause-only : goal.returns-clause-only
returns-clause-only c = λ ss h. only_streaks ss h
