use Rattle.link_capture.proofs.laws.laws_of_all_ticks.Goals as goal

pub returns : goal.returns
returns c = λ plan rules.
    let ticks = c.what_is_allowed_may_happen.ensures in
    let carries = c.a_tick_carries_what_it_has_sent.ensures in
    record {
      rules = rules;
      ports = c.ports.ensures plan.tree (ticks.begins plan rules).kept.tree;
      begins = ticks.begins plan rules;
      can = λ t es w allowed during. ticks.all_can plan.tree t es w allowed during;
      stay = λ t es w allowed during. ticks.all_stay plan.tree t es w allowed during;
      clock = λ t w below during. ticks.clock plan.tree t w below during;
      scripted = λ t. ticks.scripted plan t rules;
      carried = ticks.carried plan rules;
      next = λ t w tick within during legal. c.a_legal_run_goes_on.ensures.next plan t w tick rules within during legal;
      none_waits = carries.begins plan;
      none_carried = λ t w tick during waits isnt. carries.nothing plan t w tick during waits isnt;
      all_carried = λ t w tick during. carries.next plan t w tick during;
    }
