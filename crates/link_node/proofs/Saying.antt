-- What was said into an outbox makes the step Send of the node.
use Rattle.std.proofs.Common.{◌≡◌, ℕ, List, [], sym, ap, ◌∙◌}
use Rattle.std.specs.Prelude.{slice_set, Option, Some, None, Result, Ok, Err, IfOk, OnErr}
use Rattle.srp_base.proofs.Lists.{set_set}
use Rattle.srp_base.specs.declared.{numbers.Cs.Cs, memory.NoMemory.NoMemory}
use Rattle.link_app.specs.{Wires.NamedOctets, Words.AppWords}
use Rattle.link_node.specs.declared.{steps.StepReply.StepReply, steps.StepReply.TheVariants.Silent}
use Rattle.link_node.proofs.BoxLemmas.{set_same}
use Rattle.link_node.specs.{Boxes.box_at, State.NodeState, Saying.IsSaying, Saying.outcome_of_saying, Step.sent_octets}

module _ {Name Key Request : Type 0} (w : AppWords Name Key Request) (n : Name) (now : Cs) (at : ℕ) (s : NodeState w.State Name) where
  -- the node with another application, and another outbox at the place
  abbrev pub with_said_box : w.State → List (NamedOctets Name) → NodeState w.State Name
  with_said_box app box = record s { app = app; outboxes = slice_set s.outboxes at box }

  -- a node is as it was where its outbox is
  stays : with_said_box s.app (box_at at s.outboxes) ≡ s
  stays = ap (λ (bs : List (List (NamedOctets Name))). record s { outboxes = bs }) (set_same s.outboxes at)

  -- what there is to say has been said into the outbox
  abbrev pub HasSaid : Result StepReply NoMemory → w.State → List (NamedOctets Name) → Type 0
  HasSaid result app box = IsSaying n (w.octets_to_say n now at s.app) s.app (w.after_sending n now at s.app) (box_at at s.outboxes) result app box

  put_by : (o : Option (List ℕ)) (app : w.State) (box : List (NamedOctets Name)) (reply : StepReply)
      → outcome_of_saying n o s.app (w.after_sending n now at s.app) (box_at at s.outboxes) ≡ (app, box, reply)
      → sent_octets w n now at o s ≡ (with_said_box app box, reply)
  put_by None app box reply e =
      ap (λ (m : NodeState w.State Name). (m, Silent)) (sym stays)
      ∙ ap (λ (p : w.State × List (NamedOctets Name) × StepReply). (with_said_box p.0 p.1, p.2)) e
  put_by (Some octets) app box reply e = ap (λ (p : w.State × List (NamedOctets Name) × StepReply). (with_said_box p.0 p.1, p.2)) e

  -- what was put, by what the call answered
  pub put_ok : (r : Result StepReply NoMemory) (app : w.State) (box : List (NamedOctets Name)) (outs : List (List (NamedOctets Name)))
      → HasSaid r app box → outs ≡ slice_set s.outboxes at box
      → IfOk r (λ reply. sent_octets w n now at (w.octets_to_say n now at s.app) s ≡ (record s { app = app; outboxes = outs }, reply))
  put_ok (Ok reply) app box outs h e =
      put_by (w.octets_to_say n now at s.app) app box reply h
      ∙ ap (λ (bs : List (List (NamedOctets Name))). (record s { app = app; outboxes = bs }, reply)) (sym e)
  put_ok (Err x) app box outs h e = tt

  pub put_err : (r : Result StepReply NoMemory) (app : w.State) (box : List (NamedOctets Name)) (outs : List (List (NamedOctets Name)))
      → HasSaid r app box → outs ≡ slice_set s.outboxes at box
      → OnErr r (record s { app = app; outboxes = outs } ≡ s)
  put_err (Ok reply) app box outs h e = tt
  put_err (Err x) app box outs h e =
      ap (λ (bs : List (List (NamedOctets Name))). record s { app = app; outboxes = bs }) e
      ∙ (ap (λ (a : w.State). with_said_box a box) h.0 ∙ (ap (λ (b : List (NamedOctets Name)). with_said_box s.app b) h.1 ∙ stays))

-- a box that was emptied and then filled is filled
pub refilled : {X : Type 0} (boxes emptied filled : List (List X)) (box more : List X) (n at : ℕ)
    → n ≡ at → emptied ≡ slice_set boxes n [] → filled ≡ slice_set emptied n box → box ≡ more → filled ≡ slice_set boxes at more
refilled {X} boxes emptied filled box more n at is was now same =
    now
    ∙ (ap (λ (bs : List (List X)). slice_set bs n box) was
    ∙ (set_set boxes n [] box
    ∙ (ap (λ (i : ℕ). slice_set boxes i box) is ∙ ap (λ (b : List X). slice_set boxes at b) same)))
