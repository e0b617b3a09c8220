use Rattle.class_b_bound.proofs.FrameLemmas.{longest_is}
use Rattle.class_b_bound.proofs.laws.the_longest_wait_is_that_of_a_frame.Goals as goal

pub returns : goal.returns
returns c =
    longest_is (record {
      stays = c.the_first_of_a_queue_stays_until_it_starts.ensures.stays;
      starts = c.the_first_of_a_queue_stays_until_it_starts.ensures.starts;
      in_time = c.departures_follow_one_another.ensures.in_time;
      ends = c.a_wait_ends_with_a_start.ensures;
    })
    c.an_input_has_one_worst_wait.ensures.some
