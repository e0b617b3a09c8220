-- What is reckoned, port by port, and the numbers that are found in it.
use Rattle.std.specs.Prelude.{◌≡◌, ℕ, Bool, ◌==◌, ◌&&◌, max, List, [], ◌∷◌, map, filter, find, Option, Some, None}
use Rattle.srp_base.specs.declared.{numbers.EgressPort.EgressPort, bandwidth.Rate.Rate, bandwidth.Rate.TheVariants.M100}
use Rattle.srp_base.specs.Bandwidth.{bits_of}
use Rattle.class_service.specs.Range.{idle_of}
use Rattle.tree_topology.specs.Ports.{peer_of}
use Rattle.frame_flow.specs.declared.place.Place.{Place}
use Rattle.frame_flow.specs.{Force.is_port, Force.first_slopes, Copies.all_places, Flow.Setting}
use Rattle.delay_bound.specs.declared.{bound.Bound.Bound, stream.ClassStream.ClassStream}
use Rattle.delay_flow.specs.{Places.class_slope, Places.last_force, Rules.Numbers, Rules.class_bound, Rules.line_bound, Ways.is_fed}
use Rattle.class_delays.specs.declared.delays.{FedStream.FedStream, PortDelays.PortDelays}
use Rattle.class_delays.specs.Given.{ClassSetting, class_traffic}

-- what is reckoned for a port
abbrev pub delays_at : List PortDelays → EgressPort → Option PortDelays
delays_at ports p = find (λ e. is_port e.at p) ports

-- whether two streams are one
abbrev pub is_same : ClassStream → ClassStream → Bool
is_same x y =
    (x.id.0 == y.id.0) && ((x.talker.0 == y.talker.0) && ((x.limits.most == y.limits.most)
    && ((x.limits.burst == y.limits.burst) && ((x.limits.slope == y.limits.slope) && (x.least == y.least)))))

-- what is reckoned for a stream, in what is reckoned for a port
abbrev pub stream_in : ClassStream → Option PortDelays → Option FedStream
stream_in x None = None
stream_in x (Some e) = find (λ f. is_same f.stream x) e.fed

abbrev pub late_in : Option FedStream → ℕ
late_in None = 0
late_in (Some f) = f.late

abbrev pub wait_in : Option FedStream → ℕ
wait_in None = 0
wait_in (Some f) = f.wait

abbrev pub spent_in : Option FedStream → ℕ
spent_in None = 0
spent_in (Some f) = f.spent

abbrev pub peak_in : Option PortDelays → ℕ
peak_in None = 0
peak_in (Some e) = e.peak

-- the rate of a port
abbrev pub rate_in : Option Place → Rate
rate_in None = M100
rate_in (Some x) = x.rate

abbrev pub rate_at : Setting → EgressPort → Rate
rate_at s p = rate_in (find (λ x. is_port x.at p) (all_places s.tree.links s.rates))

-- the bits of the longest frame that streams may send
abbrev pub longest_of : List ClassStream → ℕ
longest_of [] = 0
longest_of (x ∷ xs) = max x.limits.most (longest_of xs)

-- the streams that are fed at a port
abbrev pub fed_streams : ClassSetting → EgressPort → List ClassStream
fed_streams a p = filter (is_fed a.setting p) a.streams

-- the slope of the class at a port at the run's end, and in how many bit times of it the class may
-- gain credit with frames to send
abbrev pub slope_at : ClassSetting → EgressPort → ℕ
slope_at a p = class_slope (class_traffic a.class) (last_force a.setting p)

abbrev pub idle_at : ClassSetting → EgressPort → ℕ
idle_at a p =
    idle_of (bits_of (rate_at a.setting p)) (first_slopes (last_force a.setting p)).slope_a
    (class_traffic a.class)

-- the further bounds of what comes to a port by another of its node: by the line of the port that
-- sends there, and by the credit of the class at that, where the slopes of both classes are below the
-- rate together, as in each setting of a flow
abbrev pub further_of : ClassSetting → EgressPort → EgressPort → List Bound
further_of a p r =
    let s = a.setting in
    let q = peer_of s.tree.links r in
    let most = longest_of (fed_streams a q) in
    class_bound (rate_at s q) (rate_at s p) (slope_at a q) (idle_at a q) most
    ∷ line_bound (rate_at s q) (rate_at s p) most
    ∷ []

-- the numbers that are found in what is reckoned
abbrev pub numbers_of : ClassSetting → List PortDelays → Numbers
numbers_of a ports =
    record {
      rate = rate_at a.setting;
      fed = is_fed a.setting;
      late = λ p x. late_in (stream_in x (delays_at ports p));
      wait = λ p x. wait_in (stream_in x (delays_at ports p));
      spent = λ p x. spent_in (stream_in x (delays_at ports p));
      peak = λ p. peak_in (delays_at ports p);
      more = further_of a;
    }

-- the port of what is reckoned, with its rate
abbrev pub place_of : PortDelays → Place
place_of e = record { at = e.at; rate = e.rate }

-- for each port it is the streams that are fed there, in their order
abbrev pub ListsFed : ClassSetting → PortDelays → Type 0
ListsFed a e = map (λ f. f.stream) e.fed ≡ fed_streams a e.at
