use Rattle.std.proofs.Common.{◌≡◌, ◌+◌, ◌≤◌, ◌<◌, ℕ, Result, Err, length, sym, subst, arith}
use Rattle.toml_rules.specs.declared.rules.RuleErr.{RuleErr}
use Rattle.toml_rules.specs.Rules.{Reads, fails_at}
use Rattle.srpnet.proofs.Different.{set_step, crowd_not_yet, crowd_here}
use Rattle.srpnet.proofs.ledger.file.read_streams.Goals as goal

-- an answer that the rule fails, where it does
reads-failure : {X A : Type 0} (x : X) (view : X → A) (rule n : ℕ) (e : RuleErr) (said : Result A RuleErr)
    → e ≡ fails_at rule n → said ≡ Err (fails_at rule n) → Reads view (Err e) said
reads-failure x view rule n e said is fails =
    let F : RuleErr → Type 0 = λ r. Reads view (Err r) said in subst F (sym is) fails

pub returns-then-len-gt-MOST_STREAMS : goal.returns-then-len-gt-MOST_STREAMS
returns-then-len-gt-MOST_STREAMS c =
    let within : c.loop-i.i < length c.args.wants.now = omega arith in
    let many : 128 < length c.insert.new.self.keys = omega (arith, c.len.ensures.len) in
    reads-failure c.insert.new.self (λ s. s.keys) 35 (c.loop-i.i + 1) c.fails_at.result _ c.fails_at.ensures
    (crowd_here c.args.wants.now c.loop-i.i _ _ _ within c.loop-i.invariant.streams c.in_ok-insert.ensures.keys many
    c.loop-i.invariant.crowd)

pub loop-i-preserved : goal.loop-i-preserved
loop-i-preserved c =
    let within : c.loop-i.i < length c.args.wants.now = omega arith in
    let few : length c.insert.new.self.keys ≤ 128 = omega (arith, c.len.ensures.len) in
    record {
      streams = set_step c.args.wants.now c.loop-i.i _ _ _ within c.loop-i.invariant.streams c.in_ok-insert.ensures.keys;
      crowd = crowd_not_yet c.args.wants.now c.loop-i.i _ _ _ _ within c.loop-i.invariant.streams
          c.in_ok-insert.ensures.keys few c.loop-i.invariant.crowd;
    }
