-- What becomes of a port's copies: the verdicts on them, and the departures found of their numbers.
use Rattle.std.proofs.Common.{◌≡◌, ◌≢◌, ℕ, ◌+◌, ◌-◌, ◌<◌, ◌≤◌, inl, inr, Bool, cond, List, [], ◌∷◌, ◌++◌, length, get_or, set, replicate, take, map, Option, Some, None, refl, sym, ◌∙◌, ap, subst, arith}
use Rattle.std.specs.Prelude.{filter, find, ◌==◌, nat_lt, slice_get}
use Rattle.std.proofs.lemmas.{Bool.cond_both, Bool.cond-true, Bool.cond-false, Bool.cases_Bool, Bool.cases_eq, Bool.cases_lt, Bool.eq-eqb, Bool.ne_eqb, Bool.lt-ltb, Bool.le-ltb, List.get_or-replicate, List.get_or_past, List.length-replicate, List.get_or-set_same, List.get_or-set_other, List.take_more, List.map-append, List.Elements.filter-append, Option.slice_get_past, Option.slice_get-get_or}
use Rattle.credit_shaper.specs.declared.{port.Arrival.Arrival, port.PortInput.PortInput, port.SlopeChange.SlopeChange, port.Departure.Departure}
use Rattle.credit_shaper.specs.Departures.{sent_of}
use Rattle.srp_base.specs.declared.{bandwidth.Rate.Rate, ports.PortChange.PortChange}
use Rattle.frame_flow.specs.{FrameCopy, Fate, Unbooked, NoVlan, Verdict, NotBooked, NotInVlan, MaySend, PortFlow, Place, bits_of_ticks, has_vid, slopes_over, is_unbooked, sent_fate, force_on, fate_of, fates_of, arrival_of, may_send, port_input, flow_of_copies, verdict_of, verdicts_of, arrivals_of, fate_by, fates_by, sent_at}
use Rattle.frame_flow.proofs.ListFacts.{pushed-map}

-- ---- fates by departures in another order

-- the fates are the same where the same departure is found of each number
pub fates-found : (ys xs : List Departure) (verdicts : List (ℕ × Verdict))
    → ((q : ℕ) → find (λ d. d.frame == q) ys ≡ find (λ d. d.frame == q) xs) → fates_by ys verdicts ≡ fates_by xs verdicts
fates-found ys xs [] same = refl
fates-found ys xs (e ∷ es) same =
    ap (λ (o : Option Departure). (e.0, fate_by e.1 o) ∷ fates_by ys es) (same e.0)
    ∙ ap (λ (t : List (ℕ × Fate)). (e.0, fate_by e.1 (find (λ d. d.frame == e.0) xs)) ∷ t) (fates-found ys xs es same)

-- ---- fates by verdicts

fate-by-verdict : (force : Option PortChange) (sent : List Departure) (c : FrameCopy)
    → fate_by (verdict_of force c) (find (λ d. d.frame == c.frame.number) sent) ≡ fate_of force sent c
fate-by-verdict force sent c =
    let d = find (λ d. d.frame == c.frame.number) sent in
    let out = is_unbooked c.frame.route force in
    let in_vlan = has_vid c.frame.vid force in
    let by : Verdict → Fate = λ v. fate_by v d in
    elim (cases_Bool out) [
      | inl is ↦ ap by (cond-true out NotBooked (cond in_vlan MaySend NotInVlan) is) ∙ sym (cond-true out Unbooked (cond in_vlan (sent_fate d) NoVlan) is)
      | inr nay ↦ ap by (cond-false out NotBooked (cond in_vlan MaySend NotInVlan) nay)
          ∙ elim (cases_Bool in_vlan) [
            | inl here ↦ ap by (cond-true in_vlan MaySend NotInVlan here) ∙ sym (cond-true in_vlan (sent_fate d) NoVlan here)
            | inr gone ↦ ap by (cond-false in_vlan MaySend NotInVlan gone) ∙ sym (cond-false in_vlan (sent_fate d) NoVlan gone)
          ]
          ∙ sym (cond-false out Unbooked (cond in_vlan (sent_fate d) NoVlan) nay)
    ]

-- the fates by the verdicts are those of the copies
pub fates-by-verdicts : (rate : Rate) (changes : List PortChange) (sent : List Departure) (copies : List FrameCopy)
    → fates_by sent (verdicts_of rate changes copies) ≡ fates_of rate changes sent copies
fates-by-verdicts rate changes sent [] = refl
fates-by-verdicts rate changes sent (c ∷ cs) =
    ap (λ (f : Fate). (c.frame.number, f) ∷ fates_by sent (verdicts_of rate changes cs)) (fate-by-verdict (force_on rate changes c) sent c)
    ∙ ap (λ (t : List (ℕ × Fate)). (c.frame.number, fate_of (force_on rate changes c) sent c) ∷ t) (fates-by-verdicts rate changes sent cs)

-- ---- departures found by their places

pub no-places : (least size : ℕ) (sent : List Departure) (number : ℕ) → sent_at least sent (replicate size (length sent)) number ≡ None
no-places least size sent number =
    let none = length sent in
    let at = number - least in
    let there = slice_get sent (get_or (replicate size none) at none) in
    let past : get_or (replicate size none) at none ≡ none =
    elim (cases_lt at size) [
      | inl lt ↦ get_or-replicate size at none none lt
      | inr ge ↦ get_or_past (replicate size none) at none (omega (arith, ge, length-replicate size none))
    ] in
    cond_both (nat_lt number least) None there (λ o. o ≡ None) (λ e. refl)
    (λ e. ap (λ (k : ℕ). slice_get sent k) past ∙ slice_get_past sent none (omega arith))

-- the place of one departure more, of this number
pub more-places : (least : ℕ) (sent : List Departure) (places : List ℕ) (at frame : ℕ) (d : Departure) → at < length sent → frame ≡ (get_or sent at d).frame
    → least ≤ frame → frame - least < length places → (number : ℕ)
    → sent_at least sent (set places (frame - least) at) number
    ≡ cond ((get_or sent at d).frame == number) (Some (get_or sent at d)) (sent_at least sent places number)
more-places least sent places at frame d below is from few number =
    let here = get_or sent at d in
    let k = frame - least in
    let new = set places k at in
    let read : List ℕ → ℕ → Option Departure = λ t n. slice_get sent (get_or t (n - least) (length sent)) in
    elim (cases_eq here.frame number) [
      | inl same ↦ (
          let here_is = cond-true (here.frame == number) (Some here) (sent_at least sent places number) (eq-eqb here.frame number same) in
          let found : sent_at least sent new frame ≡ Some here =
          cond-false (nat_lt frame least) None (read new frame) (le-ltb frame least from)
          ∙ ap (λ (j : ℕ). slice_get sent j) (get_or-set_same places k at (length sent) few) ∙ slice_get-get_or sent at d below in
          subst (λ (n : ℕ). sent_at least sent new n ≡ Some here) (is ∙ same) found ∙ sym here_is)
      | inr ne ↦ (
          let other_is = cond-false (here.frame == number) (Some here) (sent_at least sent places number) (ne_eqb here.frame number ne) in
          let old : sent_at least sent new number ≡ sent_at least sent places number =
          elim (cases_lt number least) [
            | inl lt ↦ cond-true (nat_lt number least) None (read new number) (lt-ltb number least lt)
                ∙ sym (cond-true (nat_lt number least) None (read places number) (lt-ltb number least lt))
            | inr ge ↦ (
                let other : number - least ≢ k = λ e. ne (omega (arith, e, from, ge, is)) in
                ap (λ (j : ℕ). cond (nat_lt number least) None (slice_get sent j)) (get_or-set_other places k (number - least) at (length sent) other))
          ] in
          old ∙ sym other_is)
    ]

-- ---- one copy more

pub verdicts-more : (rate : Rate) (changes : List PortChange) (copies : List FrameCopy) (i : ℕ) (d c : FrameCopy) (force : Option PortChange) (before after : List (ℕ × Verdict))
    → i < length copies → c ≡ get_or copies i d → force ≡ force_on rate changes c → before ≡ verdicts_of rate changes (take i copies)
    → after ≡ before ++ (c.frame.number, verdict_of force c) ∷ [] → after ≡ verdicts_of rate changes (take (i + 1) copies)
verdicts-more rate changes copies i d c force before after below item is one two =
    let to : FrameCopy → ℕ × Verdict = λ t. (t.frame.number, verdict_of (force_on rate changes t) t) in
    pushed-map to copies i d before after _ below one two
    (ap (λ (o : Option PortChange). (c.frame.number, verdict_of o c)) is ∙ ap to item)

pub arrivals-more : (rate : Rate) (changes : List PortChange) (copies : List FrameCopy) (i : ℕ) (d c : FrameCopy) (force : Option PortChange) (before after : List Arrival)
    → i < length copies → c ≡ get_or copies i d → force ≡ force_on rate changes c → before ≡ arrivals_of rate changes (take i copies)
    → after ≡ before ++ map arrival_of (filter (λ c. may_send c force) (c ∷ [])) → after ≡ arrivals_of rate changes (take (i + 1) copies)
arrivals-more rate changes copies i d c force before after below item is one two =
    let p : FrameCopy → Bool = λ t. may_send t (force_on rate changes t) in
    let so_far = arrivals_of rate changes (take i copies) in
    let last : FrameCopy → Option PortChange → List Arrival = λ t o. map arrival_of (cond (may_send t o) (t ∷ []) []) in
    let here = get_or copies i d in
    two ∙ ap (λ (t : List Arrival). t ++ last c force) one
    ∙ ap (λ (o : Option PortChange). so_far ++ last c o) is
    ∙ ap (λ (t : FrameCopy). so_far ++ last t (force_on rate changes t)) item
    ∙ sym (ap (λ (t : List FrameCopy). map arrival_of (filter p t)) (take_more copies i d below)
    ∙ ap (λ (t : List FrameCopy). map arrival_of t) (filter-append p (take i copies) (here ∷ []))
    ∙ map-append arrival_of (filter p (take i copies)) (filter p (here ∷ [])))

-- ---- the flow at a port

pub flow-is : (ticks : ℕ) (place : Place) (changes : List PortChange) (copies : List FrameCopy) (slopes : List SlopeChange) (arrivals : List Arrival) (end : ℕ)
    (sent : List Departure) (all : List (ℕ × Verdict)) (fates : List (ℕ × Fate)) → slopes ≡ slopes_over place.rate ticks changes
    → arrivals ≡ arrivals_of place.rate changes copies → end ≡ bits_of_ticks place.rate ticks
    → sent ≡ sent_of (record { rate = place.rate; slopes = slopes; arrivals = arrivals; end = end })
    → all ≡ verdicts_of place.rate changes copies → fates ≡ fates_by sent all
    → record { at = place.at; input = record { rate = place.rate; slopes = slopes; arrivals = arrivals; end = end }; fates = fates }
    ≡ flow_of_copies ticks place changes copies
flow-is ticks place changes copies slopes arrivals end sent all fates slopes_are arrivals_are end_is sent_are all_are fates_are =
    let rate = place.rate in
    let with_slopes : List SlopeChange → PortInput = λ t. record { rate = rate; slopes = t; arrivals = arrivals; end = end } in
    let with_arrivals : List Arrival → PortInput = λ t. record { rate = rate; slopes = slopes_over rate ticks changes; arrivals = t; end = end } in
    let with_end : ℕ → PortInput = λ n. record { rate = rate; slopes = slopes_over rate ticks changes; arrivals = arrivals_of rate changes copies; end = n } in
    let made : PortInput → List (ℕ × Fate) → PortFlow = λ i f. record { at = place.at; input = i; fates = f } in
    let input : with_slopes slopes ≡ port_input ticks rate changes copies = ap with_slopes slopes_are ∙ ap with_arrivals arrivals_are ∙ ap with_end end_is in
    let same : fates ≡ fates_of rate changes (sent_of (port_input ticks rate changes copies)) copies =
    fates_are ∙ ap (λ (t : List (ℕ × Verdict)). fates_by sent t) all_are ∙ fates-by-verdicts rate changes sent copies
    ∙ ap (λ (t : List Departure). fates_of rate changes t copies) (sent_are ∙ ap (λ (t : PortInput). sent_of t) input) in
    ap (λ (t : PortInput). made t fates) input
    ∙ ap (λ (t : List (ℕ × Fate)). made (port_input ticks rate changes copies) t) same
