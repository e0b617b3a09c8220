-- What an audit finds of its parts.
use Rattle.std.proofs.Common.{◌≡◌, ℕ, suc, ◌+◌, ◌-◌, ◌<◌, ◌≤◌, ◌^◌, List, length, ap, subst, refl, arith, inl, inr}
use Rattle.std.specs.Prelude.{Option}
use Rattle.topology_file.specs.Plan.{Plan}
use Rattle.world_core.specs.declared.journal.Tick.{Tick}
use Rattle.world_core.specs.World.{WorldState}
use Rattle.journal_audit.specs.Audit.{GoesOnWith, IsJournalOf, IsRefusal}
use Rattle.srpnet.specs.{AuditNo, IsAudited, IsLineNumber}
use Rattle.srpnet.specs.AuditParts.{AuditParts}
use Rattle.srpnet.proofs.AuditLemmas.{none_approved, refused_line}

module _ (plan : Plan) (parts : AuditParts) (text : List ℕ) (same : text ≡ parts.journal) (line why : ℕ) (refused : IsRefusal plan text line why) where
  -- a journal is refused at this line
  pub journal_refused : ((ticks : List Tick) (end : WorldState) → IsJournalOf plan text ticks end → ⊥) → (marked : ℕ) → marked ≡ parts.marked → IsAudited plan parts (AuditNo (marked + line) why)
  journal_refused none marked is =
      let here : (ticks : List Tick) (end : WorldState) → IsJournalOf plan parts.journal ticks end → ⊥ =
      subst (λ (t : List ℕ). (ticks : List Tick) (end : WorldState) → IsJournalOf plan t ticks end → ⊥) same none
      in (
        inl (record {
          number = line;
          refused = subst (λ (t : List ℕ). IsRefusal plan t line why) same refused;
          none = here;
          line_is = ap (λ (n : ℕ). n + line) is;
        }),
        none_approved plan parts here,
      )

  -- which has a number
  pub line_number : (marked : ℕ) → marked + length parts.journal < 2 ^ 63 → IsLineNumber (marked + line)
  line_number marked few =
      let upto = refused_line plan text line why refused in
      let some = refused.0 in
      let long : length text ≡ length parts.journal = ap (λ (t : List ℕ). length t) same in
      (omega (arith, some), omega (arith, upto, long, few))

  -- and behind whose front a legal journal goes on
  pub goes_on_there : (legal : Option (List ℕ)) (marked : ℕ) → marked ≡ parts.marked → GoesOnWith plan text (line - 1) legal
      → GoesOnWith plan parts.journal (marked + line - suc parts.marked) legal
  goes_on_there legal marked is h =
      let some = refused.0 in
      let place : line - 1 ≡ marked + line - suc parts.marked = omega (arith, some, is) in
      subst (λ (t : List ℕ). GoesOnWith plan t (marked + line - suc parts.marked) legal) same (subst (λ (n : ℕ). GoesOnWith plan text n legal) place h)
