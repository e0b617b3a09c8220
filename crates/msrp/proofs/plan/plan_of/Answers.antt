use Rattle.std.proofs.Common.{rules, ◌≡◌, ◌≤◌, ◌<◌, ◌+◌, ℕ, List, [], length, map, ap, sym, subst, ◌∙◌, arith}
use Rattle.std.specs.Prelude.{Result, Ok, Err, IfOk, vec_capacity, vec_len}
use Rattle.srp_base.proofs.Lists.{mapped_length}
use Rattle.srp_base.specs.declared.streams.Talker.{Talker}
use Rattle.stream_importance.specs.declared.entry.Entry.{Entry}
use Rattle.port_ledger.specs.{Book.Book, Decision.booked_of, Decision.IsAscending}
use Rattle.msrp_codec.specs.declared.pdu.MsrpKey.{MsrpKey}
use Rattle.msrp.specs.{Asked, PortHolding, ports_in, IsPlan, asked_at, missing_rows, streams_in, talker_keys}
use Rattle.msrp.specs.Part.{Part}
use Rattle.msrp.specs.declared.plan.Plan.{Plan}
use Rattle.msrp.specs.PortState.{PortState}
use Rattle.msrp.proofs.plan.plan_of.Goals as goal

planned : {E : Type 0} (at : ℕ) (talks : List Talker) (ports : List PortState) (ks : List MsrpKey) (port : PortState) (asked : List Asked) (before : List Entry)
    → (missing moving rows stating : ℕ) (r : Result Plan E) → asked ≡ map (asked_at at talks ports port) (streams_in ks) → before ≡ booked_of port.ledger.entries → IsAscending before
    → moving ≡ (length port.ledger.entries + length before) + length asked → length ports < rows → length ks + length (talker_keys talks ports) ≤ stating
    → missing ≡ missing_rows ks port.part → IfOk r (λ p. p.asked.items ≡ asked) → IfOk r (λ p. p.missing ≡ missing) → IfOk r (λ p. p.before ≡ before)
    → IfOk r (λ p. p.moved.items ≡ []) → IfOk r (λ p. vec_len p.moved ≡ 0) → IfOk r (λ p. vec_capacity p.moved ≡ moving)
    → IfOk r (λ p. p.told.items ≡ []) → IfOk r (λ p. vec_len p.told ≡ 0) → IfOk r (λ p. vec_capacity p.told ≡ moving)
    → IfOk r (λ p. vec_capacity p.rows ≡ rows)
    → IfOk r (λ p. p.stated.items ≡ []) → IfOk r (λ p. vec_len p.stated ≡ 0) → IfOk r (λ p. vec_capacity p.stated ≡ stating)
    → IfOk r (λ p. IsPlan at talks ports ks p port)
planned at talks ports ks port asked before missing moving rows stating (Err e) wants booked up many wide long none a n b m ml mc t tl tc rc s sl sc = tt
planned at talks ports ks port asked before missing moving rows stating (Ok p) wants booked up many wide long none a n b m ml mc t tl tc rc s sl sc =
    let as_asked : length p.asked.items ≡ length asked = ap (λ (xs : List Asked). length xs) a in
    let as_before : length p.before ≡ length before = ap (λ (xs : List Entry). length xs) b in
    record {
      asked = a ∙ wants;
      missing = n ∙ none;
      before = b ∙ booked;
      ascending = subst (λ (xs : List Entry). IsAscending xs) (sym b) up;
      moved = m;
      moving = omega (arith, as_asked, as_before, many, ml, mc);
      told = t;
      telling = omega (arith, tl, tc, mc);
      rows = omega (arith, wide, rc);
      stated = s;
      stating = omega (arith, long, sl, sc);
    }

pub returns : goal.returns
returns c =
    let as_ports : length (ports_in c.args.view.now.ports.now) ≡ length c.args.view.now.ports.now = mapped_length (λ (p : PortHolding). p.state) c.args.view.now.ports.now in
    let as_slice : length c.as_slice.result.now ≡ length c.in_ok-before.before = ap (λ (xs : List Entry). length xs) c.as_slice.ensures in
    let as_asked : vec_len c.in_ok-asked.asked ≡ length c.in_ok-asked.asked.items = search rules in
    let entries : length c.ledger-2.result.now.book.entries ≡ length c.args.port.now.state.ledger.entries = ap (λ (b : Book). length b.entries) c.ledger-2.ensures in
    planned c.args.view.now.at c.args.view.now.talks.now (ports_in c.args.view.now.ports.now) c.args.keys.now c.args.port.now.state c.in_ok-asked.asked.items c.in_ok-before.before
    c.in_ok-missing.missing c.in_ok-moving.moving c.in_ok-rows.rows c.in_ok-stating.stating c.lists.result
    c.in_ok-asked.ensures (c.in_ok-before.ensures.booked ∙ ap (λ (b : Book). booked_of b.entries) c.ledger.ensures) c.in_ok-before.ensures.ascending
    (omega (arith, c.in_ok-moving.ensures, as_slice, as_asked, entries, c.len.ensures))
    (omega (arith, c.in_ok-rows.ensures, as_ports))
    (omega (arith, c.in_ok-stating.ensures, c.in_ok-talkers.ensures))
    (c.in_ok-missing.ensures ∙ ap (λ (s : Part). missing_rows c.args.keys.now s) c.part.ensures)
    c.lists.ensures.asked c.lists.ensures.missing c.lists.ensures.before c.lists.ensures.moved c.lists.ensures.moved_len c.lists.ensures.moving
    c.lists.ensures.told c.lists.ensures.told_len c.lists.ensures.telling c.lists.ensures.rows c.lists.ensures.stated c.lists.ensures.stated_len c.lists.ensures.stating
