use Rattle.class_service.proofs.laws.line_laws.Goals as goal

pub returns : goal.returns
returns c =
    record {
      three = c.each_bit_time_is_one_of_three.ensures;
      first = c.the_line_goes_on.ensures.first;
      next = c.the_line_goes_on.ensures.line;
      left = c.the_line_goes_on.ensures.left;
      most = c.the_line_goes_on.ensures.most;
      below = c.slopes_keep_the_caps_of_changes.ensures.below;
    }
