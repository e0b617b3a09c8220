use Rattle.std.proofs.Common.{◌≡◌, ◌∙◌}
use Rattle.srp_io.specs.{Failed}
use Rattle.srp_io.proofs.Moves.{taken_more, within_text}
use Rattle.srp_io.proofs.whole.write_whole.Goals as goal

pub loop-written-preserved : goal.loop-written-preserved
loop-written-preserved g c = record {
  appended = taken_more _ _ _ c.args.text.now c.after.result.now _ _ c.after.ensures.rest
      c.loop-written.invariant.appended c.in-Ok.ensures.octets;
  counts = c.in-Ok.ensures.counts (λ e. let f : ⊥ = cc in f) ∙ c.loop-written.invariant.counts;
  within = within_text _ _ _ _ c.in-Ok.ensures.bound c.after.ensures.len;
}

pub returns-in-Err-clause-memory : goal.returns-in-Err-clause-memory
returns-in-Err-clause-memory g c =
    λ no. c.in-Err.ensures.counts (λ e. no (c.write_err.ensures.failed (let same : c.in-Err.error ≡ Failed = cc in same))) ∙ c.loop-written.invariant.counts
