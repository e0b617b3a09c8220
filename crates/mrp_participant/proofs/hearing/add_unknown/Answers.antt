use Rattle.std.proofs.Common.{refl, sym, subst}
use Rattle.mrp_participant.proofs.Hearings.{known-of, known-after, each-after, ascends-after}
use Rattle.mrp_participant.specs.{Ascends, key_of, IsOutlook}
use Rattle.mrp_participant.proofs.hearing.add_unknown.Goals as goal

pub returns-then-are_known-clause-known : goal.returns-then-are_known-clause-known
returns-then-are_known-clause-known g c = known-of g.met.K.Ord.total c.args.heard.now _ _ c.as_slice.ensures.value _ c.are_known.ensures c.if-are_known.true

pub returns-clause-known : goal.returns-clause-known
returns-clause-known g c = known-after g.met.K.Ord.total c.args.heard.now _ _ c.in_ok-merge.ensures.ok c.requires.heard c.requires.rows

pub returns-clause-each_key : goal.returns-clause-each_key
returns-clause-each_key g c k = each-after g.met.K.Ord.total c.args.heard.now _ _ c.in_ok-merge.ensures.ok c.requires.heard c.requires.rows k

pub returns-clause-ascends : goal.returns-clause-ascends
returns-clause-ascends g c = ascends-after g.met.K.Ord.total c.args.heard.now _ _ c.in_ok-merge.ensures.ok c.requires.heard c.requires.rows

pub are_known-requires : goal.are_known-requires
are_known-requires g c = subst (Ascends g.K.Ord.cmp key_of) (sym c.as_slice.ensures.value) c.requires.rows

pub returns-then-are_known-clause-each_key : goal.returns-then-are_known-clause-each_key
returns-then-are_known-clause-each_key g c k = refl

pub returns-then-are_known-clause-ascends : goal.returns-then-are_known-clause-ascends
returns-then-are_known-clause-ascends g c = c.requires.rows

pub returns-then-are_known-clause-outlook : goal.returns-then-are_known-clause-outlook
returns-then-are_known-clause-outlook g c = c.requires.outlook

pub returns-clause-outlook : goal.returns-clause-outlook
returns-clause-outlook g c = subst (IsOutlook c.outlook_of.result) c.as_slice-2.ensures.value c.outlook_of.ensures
