use Rattle.class_b_bound.proofs.laws.bit_laws.Goals as goal

pub returns : goal.returns
returns c =
    record {
      three = c.each_bit_time_is_one_of_three.ensures;
      line_first = c.the_line_goes_on.ensures.first;
      line_next = c.the_line_goes_on.ensures.line;
      left_next = c.the_line_goes_on.ensures.left;
      left_most = c.the_line_goes_on.ensures.most;
      first_a = c.credits_go_on.ensures.first_a;
      first_b = c.credits_go_on.ensures.first_b;
      class_a = c.credits_go_on.ensures.class_a;
      class_b = c.credits_go_on.ensures.class_b;
      caps = c.slopes_keep_the_caps_of_changes.ensures.caps;
    }
