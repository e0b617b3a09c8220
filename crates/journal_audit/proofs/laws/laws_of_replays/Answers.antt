use Rattle.journal_audit.proofs.laws.laws_of_replays.Goals as goal

pub returns : goal.returns
returns c plan rules =
    let happens = c.what_is_allowed_may_happen.ensures in
    record {
      rules = rules;
      begins = happens.begins plan rules;
      made = λ t w tick. c.a_legal_tick_is_made_one_by_one.ensures.made plan t w tick rules;
      legal = λ t w tick. c.a_legal_tick_is_made_one_by_one.ensures.legal plan t w tick rules;
      rest = λ t w. c.a_legal_run_goes_on.ensures.rest plan t w rules;
      count = λ t x w. c.a_tick_can_be_made_to_its_end.ensures.count plan.tree t x w;
      jobs = λ t x left w. c.a_tick_can_be_made_to_its_end.ensures.jobs plan t x left w rules;
      nodes = λ t x count w. c.a_tick_can_be_made_to_its_end.ensures.nodes plan t x count w rules;
      stay = λ t es w. happens.all_stay plan.tree t es w;
      clock = λ t w. happens.clock plan.tree t w;
      next = λ t w. happens.next plan.tree t w;
      scripted = λ t. happens.scripted plan t rules;
      carried = happens.carried plan rules;
      tells = λ t p q a b. c.a_line_tells_its_port.ensures plan t p q a b rules;
      event = c.a_line_ends_with_its_line_feed.ensures.event;
      next_tick = λ t w tick. c.a_legal_run_goes_on.ensures.next plan t w tick rules;
      line = λ t n st. c.a_line_ends_with_its_line_feed.ensures.step plan t n st rules;
    }
