use Rattle.std.proofs.Common.{◌≡◌, ◌≤◌, ℕ, List, length, take, drop, subst}
use Rattle.srpnet.specs.{DifferAtOnce, line_feeds}
use Rattle.srpnet.proofs.audit.differ.common_from.Goals as goal

pub returns-clause-within : goal.returns-clause-within
returns-clause-within c =
    let n = c.common_front.result.octets in
    subst (λ (l : List ℕ). (n ≤ length l) × (n ≤ length c.args.piece.now)) c.behind.ensures c.common_front.ensures.within

pub returns-clause-same : goal.returns-clause-same
returns-clause-same c =
    let n = c.common_front.result.octets in
    subst (λ (l : List ℕ). take n l ≡ take n c.args.piece.now) c.behind.ensures c.common_front.ensures.same

pub returns-clause-lines : goal.returns-clause-lines
returns-clause-lines c =
    let n = c.common_front.result.octets in
    subst (λ (l : List ℕ). c.common_front.result.lines ≡ line_feeds (take n l)) c.behind.ensures c.common_front.ensures.lines

pub returns-clause-no_more : goal.returns-clause-no_more
returns-clause-no_more c =
    let n = c.common_front.result.octets in
    subst (λ (l : List ℕ). DifferAtOnce (drop n l) (drop n c.args.piece.now)) c.behind.ensures c.common_front.ensures.no_more
