use Rattle.std.proofs.Common.{◌≡◌, ℕ, Bool, List, [], ◌++◌, ap, sym, ◌∙◌, arith}
use Rattle.std.proofs.lemmas.List.{append-nil}
use Rattle.std.specs.declared.option.Option.{Option}
use Rattle.mrp_participant.specs.declared.row.Row.{Row}
use Rattle.mrp_participant.specs.declared.sending_limit.SendingLimit.{SendingLimit}
use Rattle.mrp_participant.specs.{rows_of_round, order, first_limit}
use Rattle.mrp_participant.proofs.sending_limit.find_limit.Goals as goal

-- three rounds, one after the other
rounds : {K C : Type 0} (leave_all : Bool) (octets : C
    → ℕ) (start base used more : ℕ) (x y z : List (Row K C)) (limit : Option (SendingLimit K)) → start ≡ base
    → ((rest : List (Row K C)) → first_limit leave_all octets start (x ++ rest)
    ≡ first_limit leave_all octets used rest)
    → ((rest : List (Row K C)) → first_limit leave_all octets used (y ++ rest)
    ≡ first_limit leave_all octets more rest) → first_limit leave_all octets more (z ++ []) ≡ limit
    → limit ≡ first_limit leave_all octets base (x ++ (y ++ z))
rounds leave_all octets start base used more x y z limit is first second third = grind (arith, append-nil)

pub returns-in-Ok-fill-2 : goal.returns-in-Ok-fill-2
returns-in-Ok-fill-2 g c =
    rounds c.args.leave_all g.A.MrpApp.octets _ _ _ _
    (rows_of_round c.args.leave_all 1 c.args.rows.now) (rows_of_round c.args.leave_all 2 c.args.rows.now) (rows_of_round c.args.leave_all 3 c.args.rows.now) _
    c.base_octets.ensures c.in-Ok.ensures.filled c.in-Ok-fill.ensures.filled (c.in-Ok-fill-2.ensures.filled [])

pub returns-in-Err-fill-2 : goal.returns-in-Err-fill-2
returns-in-Err-fill-2 g c =
    rounds c.args.leave_all g.A.MrpApp.octets _ _ _ _
    (rows_of_round c.args.leave_all 1 c.args.rows.now) (rows_of_round c.args.leave_all 2 c.args.rows.now) (rows_of_round c.args.leave_all 3 c.args.rows.now) _
    c.base_octets.ensures c.in-Ok.ensures.filled c.in-Ok-fill.ensures.filled (c.in-Err-fill-2.ensures.filled [])

pub fill-requires-2 : goal.fill-requires-2
fill-requires-2 g c = c.in-Ok.ensures.bound

pub fill-requires-3 : goal.fill-requires-3
fill-requires-3 g c = c.in-Ok-fill.ensures.bound

pub returns-in-Err : goal.returns-in-Err
returns-in-Err g c =
    sym
    (ap (λ base. first_limit c.args.leave_all g.A.MrpApp.octets base (order c.args.leave_all c.args.rows.now)) (sym c.base_octets.ensures)
    ∙ c.in-Err.ensures.filled (rows_of_round c.args.leave_all 2 c.args.rows.now ++ rows_of_round c.args.leave_all 3 c.args.rows.now))

pub returns-in-Err-fill : goal.returns-in-Err-fill
returns-in-Err-fill g c =
    sym
    (ap (λ base. first_limit c.args.leave_all g.A.MrpApp.octets base (order c.args.leave_all c.args.rows.now)) (sym c.base_octets.ensures)
    ∙ c.in-Ok.ensures.filled (rows_of_round c.args.leave_all 2 c.args.rows.now ++ rows_of_round c.args.leave_all 3 c.args.rows.now)
    ∙ c.in-Err-fill.ensures.filled (rows_of_round c.args.leave_all 3 c.args.rows.now))
