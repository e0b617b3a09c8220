use Rattle.std.proofs.Common.{◌≡◌, List, refl, sym, subst}
use Rattle.std.specs.Prelude.{Result}
use Rattle.srpnet.specs.{Answer, Cause, IsLetOut}
use Rattle.srpnet.proofs.top.let_out.Goals as goal

pub returns-in-Ok : goal.returns-in-Ok
returns-in-Ok g c =
    subst (λ (made : Result Answer Cause). IsLetOut g.O.Sink.held g.O.Sink.faults c.args.out.now c.print-written.new.out made c.ended.result c.in-Ok.made.journal.ticks)
    (sym c.in-Ok.is) (
    record {
      written = c.print-written.result;
      printed = record {
        done = c.print-written.ensures.done;
        part = c.print-written.ensures.part;
        short = c.print-written.ensures.short;
        fault = c.print-written.ensures.fault;
        counts = c.print-written.ensures.counts;
        memory = c.print-written.ensures.memory;
        only = c.print-written.ensures.only;
      };
      cause_is = c.ended.ensures;
      ticks_are = refl;
    }
    )
