-- The lines of a legal journal are of the form.
use Rattle.std.proofs.Common.{◌≡◌, ◌≢◌, ℕ, zero, suc, ◌+◌, ◌-◌, ◌/◌, ◌%◌, ◌<◌, ◌≤◌, ◌^◌, Bool, true, false, List, [], ◌∷◌, ◌++◌, length, map, refl, sym, ap, subst, ◌∙◌, inl, inr, append_assoc, arith}
use Rattle.std.specs.Prelude.{◌==◌, if◌then◌else◌, nat_lt, codes, flat_map, slice_set, slice_index, Option, Some, None}
use Rattle.std.specs.{List.AllByRecursion, List.Any, List.range_with_len, Fmt.decimal, Fmt.digits, Fmt.digits_onto, Fmt.digit_glyph}
use Rattle.std.proofs.lemmas.{Bool.Decides.nat_tests, List.append-nil}
use Rattle.std.proofs.Math.Nat.{pow-zero, pow-suc}
use Rattle.srp_base.specs.declared.{numbers.NodeNo.NodeNo, mrp.App.TheVariants.Mvrp, mrp.App.TheVariants.Msrp}
use Rattle.tree_topology.specs.declared.graph.Link.{Link}
use Rattle.tree_topology.specs.{Topology.HasNode, Topology.HasPort, Ports.neighbours}
use Rattle.frame_flow.specs.Copies.{port_of}
use Rattle.attribute_propagation.specs.Ports.{place_of}
use Rattle.mvrp_codec.specs.Meaning.{mvrp_reading}
use Rattle.msrp_codec.specs.Meaning.{msrp_reading}
use Rattle.std.specs.Prelude.{Err}
use Rattle.srp_base.proofs.Lists.{length_set, each_append, each-get as each_at}
use Rattle.topology_file.specs.declared.{entries.StreamEntry.StreamEntry, entries.EventEntry.EventEntry}
use Rattle.topology_file.specs.Plan.{Plan}
use Rattle.node_core.specs.declared.{types.NodeStep.NodeStep, types.PortStep.PortStep, types.StepReply.StepReply}
use Rattle.node_core.specs.declared.types.PortStep.TheVariants.{Work, LeaveNow, LeaveAllNow, PeriodicNow, Due, Settle, Send}
use Rattle.node_core.specs.declared.types.StepReply.TheVariants.{Nothing, Discarded, Received, Fired, Settled, Silent, Sent, Taken}
use Rattle.world_core.specs.declared.{events.WorldEvent.WorldEvent, events.WorldEvent.TheVariants.Port, events.WorldReply.WorldReply, journal.NodeSteps.NodeSteps, journal.Tick.Tick}
use Rattle.world_core.specs.{World.WorldState, World.world_step, World.world_after, Apart.events_of, Ticks.event_of, Ticks.with_event, Ticks.scripted_from, Ticks.script_at, Ticks.after_script, Ticks.tick_events, Ticks.IsLegalTick, Ticks.LeadTo, During.IsDuring, OneByOne.node_jobs, OneByOne.MakeLeft, OneByOne.MakeAll, Missed.is_missed}
use Rattle.report_words.specs.Names.{port_name}
use Rattle.journal_lines.specs.Lines.{step_name, reply_name, event_name, event_line, made_text, line_at}
use Rattle.journal_audit.specs.{Known, IsWordThen, IsNumeralOf, IsEntryText, IsDigit, IsNumber, IsNumberText, IsReplyText, IsMadeText, IsFormed, AreFormed, names_at, known_of, answer_lines, made_lines, steps_lines, tick_lines, ticks_lines, ReplayLaws}
use Rattle.journal_audit.proofs.{FollowLemmas.node, FollowLemmas.before_lines, FollowLemmas.has_port, FollowLemmas.upto, ReplyLemmas.IsJob, ReplyLemmas.AreJobs, ReplyLemmas.IsTold, ReplyLemmas.node_jobs_are, ReplyLemmas.each_set, ReplyLemmas.reply_told}

-- ---- numbers

glyph_digit : (n : ℕ) → IsDigit (digit_glyph false (n % 10))
glyph_digit n = by (nat_lt (n % 10) 10) refl
  where
    by : (b : Bool) → nat_lt (n % 10) 10 ≡ b → IsDigit (if b then 48 + n % 10 else (if false then 55 + n % 10 else 87 + n % 10))
    by true e = (omega arith, omega arith)
    by false e = let wrong : n % 10 < 10 = omega arith in absurd (grind (arith, nat_tests, e, wrong))

digits_are : (k n : ℕ) (acc : List ℕ) → AllByRecursion IsDigit acc → AllByRecursion IsDigit (digits_onto k 10 false n acc)
digits_are zero n acc h = h
digits_are (suc k) n acc h = by (n / 10 == 0) (digits_are k (n / 10) (digit_glyph false (n % 10) ∷ acc) (glyph_digit n, h))
  where
    by : (b : Bool) → AllByRecursion IsDigit (digits_onto k 10 false (n / 10) (digit_glyph false (n % 10) ∷ acc))
        → AllByRecursion IsDigit (if b then digit_glyph false (n % 10) ∷ acc else digits_onto k 10 false (n / 10) (digit_glyph false (n % 10) ∷ acc))
    by true later = (glyph_digit n, h)
    by false later = later

-- the digits of a number above 0 that is small enough don't begin with a 0
record IsLedOn (text : List ℕ) : Type 0 where
  some : 1 ≤ length text
  first : slice_index text 0 ≢ 48

glyph_some : (n : ℕ) → 0 < n → n < 10 → digit_glyph false (n % 10) ≢ 48
glyph_some n some few e = by (nat_lt (n % 10) 10) refl e
  where
    by : (b : Bool) → nat_lt (n % 10) 10 ≡ b → (if b then 48 + n % 10 else (if false then 55 + n % 10 else 87 + n % 10)) ≢ 48
    by true is e = absurd (omega (arith, e, some, few))
    by false is e = absurd (omega (arith, e))

led_on : (k n : ℕ) (acc : List ℕ) → 0 < n → n < 10 ^ k → IsLedOn (digits_onto k 10 false n acc)
led_on zero n acc some few = let one = pow-zero 10 in absurd (omega (arith, some, few, one))
led_on (suc k) n acc some few = by (n / 10 == 0) refl (λ more less. led_on k (n / 10) (digit_glyph false (n % 10) ∷ acc) more less)
  where
    by : (b : Bool) → (n / 10 == 0) ≡ b → (0 < n / 10 → n / 10 < 10 ^ k → IsLedOn (digits_onto k 10 false (n / 10) (digit_glyph false (n % 10) ∷ acc)))
        → IsLedOn (if b then digit_glyph false (n % 10) ∷ acc else digits_onto k 10 false (n / 10) (digit_glyph false (n % 10) ∷ acc))
    by true e later =
        let none : n / 10 ≡ 0 = grind (arith, nat_tests, e) in
        record { some = omega arith; first = glyph_some n some (omega (arith, none)) }
    by false e later =
        let more : 0 < n / 10 = grind (arith, nat_tests, e) in
        let times = pow-suc 10 k in
        later more (omega (arith, few, times))

number_is : (n : ℕ) → n < 2 ^ 64 → IsNumber (decimal n)
unfolding digits
number_is zero few = ((omega arith, λ e. refl), digits_are 64 0 [] tt)
number_is (suc n) few =
    let led = led_on 64 (suc n) [] (omega arith) (omega (arith, few)) in
    ((led.some, λ e. absurd (led.first e)), digits_are 64 (suc n) [] tt)

-- ---- the line of an event

event_formed : (known : Known) (t entry : ℕ) (missed : Bool) → 1 ≤ entry → entry ≤ known.events → IsFormed known t (event_line t entry missed)
event_formed known t entry missed from upto =
    record {
      rest = codes "event" ++ 32 ∷ told;
      is = refl;
      then = inl (record { rest = told; is = refl; then = by missed });
    }
  where
    told : List ℕ
    told = decimal entry ++ (codes " " ++ (event_name missed ++ (codes "\n" ++ [])))

    numeral : IsNumeralOf known.events (decimal entry)
    numeral = record { entry = entry; from = from; upto = upto; is = refl }

    by : (b : Bool) → IsEntryText known.events (decimal entry ++ (codes " " ++ (event_name b ++ (codes "\n" ++ []))))
    by true = inr (record { digits = decimal entry; entry = numeral; is = refl })
    by false = inl (record { digits = decimal entry; entry = numeral; is = refl })

-- the numbers of scripted events are those of entries that there are
abbrev IsNumbered : ℕ → ℕ → ℕ → Type 0
IsNumbered first count n = (first ≤ n) × (n < first + count)

numbered_more : (first count : ℕ) (ns : List ℕ) → AllByRecursion (IsNumbered (first + 1) count) ns → AllByRecursion (IsNumbered first (suc count)) ns
numbered_more first count [] h = tt
numbered_more first count (n ∷ ns) h = let low = h.0.0 in let high = h.0.1 in ((omega (arith, low), omega (arith, high)), numbered_more first count ns h.1)

abbrev numbers : List (ℕ × WorldEvent) → List ℕ
numbers script = map (λ (e : ℕ × WorldEvent). e.0) script

scripted_numbered : (links : List Link) (streams : List StreamEntry) (t n : ℕ) (entries : List EventEntry)
    → AllByRecursion (IsNumbered n (length entries)) (numbers (scripted_from links streams t n entries))
scripted_numbered links streams t n [] = tt
scripted_numbered links streams t n (e ∷ entries) =
    by (e.tick == t) (event_of links streams e.kind)
    (numbered_more n (length entries) (numbers (scripted_from links streams t (n + 1) entries)) (scripted_numbered links streams t (n + 1) entries))
  where
    rest : List (ℕ × WorldEvent)
    rest = scripted_from links streams t (n + 1) entries

    by : (b : Bool) (event : Option WorldEvent) → AllByRecursion (IsNumbered n (suc (length entries))) (numbers rest)
        → AllByRecursion (IsNumbered n (suc (length entries))) (numbers (if b then with_event n event rest else rest))
    by true None later = later
    by true (Some event) later = ((omega arith, omega arith), later)
    by false event later = later

answers_formed : (known : Known) (t : ℕ) (answers : List (ℕ × WorldReply)) → AllByRecursion (IsNumbered 1 known.events) (map (λ (e : ℕ × WorldReply). e.0) answers)
    → AllByRecursion (IsFormed known t) (answer_lines t answers)
answers_formed known t [] h = tt
answers_formed known t (e ∷ answers) h =
    let low = h.0.0 in
    let high = h.0.1 in
    (event_formed known t e.0 (is_missed e.1) low (omega (arith, high)), answers_formed known t answers h.1)

-- ---- the line of a step

counted : (word : List ℕ) (n : ℕ) → n < 2 ^ 64 → (text : List ℕ) → text ≡ word ++ 32 ∷ (decimal n ++ []) → IsWordThen IsNumberText word (text ++ 10 ∷ [])
counted word n few text e =
    record {
      rest = decimal n ++ 10 ∷ [];
      is = ap (λ (x : List ℕ). x ++ 10 ∷ []) (e ∙ ap (λ (x : List ℕ). word ++ 32 ∷ x) (append-nil (decimal n))) ∙ append_assoc word (32 ∷ decimal n) (10 ∷ []);
      then = record { digits = decimal n; number = number_is n few; is = refl };
    }

reply_formed : (reply : StepReply) → IsTold reply → IsReplyText (reply_name reply ++ 10 ∷ [])
reply_formed Nothing told = inl refl
reply_formed Silent told = inr (inl refl)
reply_formed (Discarded n) told = inr (inr (inl (counted (codes "discarded") n told (reply_name (Discarded n)) refl)))
reply_formed (Received n) told = inr (inr (inr (inl (counted (codes "received") n told (reply_name (Received n)) refl))))
reply_formed (Fired n) told = inr (inr (inr (inr (inl (counted (codes "fired") n told (reply_name (Fired n)) refl)))))
reply_formed (Settled n) told = inr (inr (inr (inr (inr (inl (counted (codes "settled") n told (reply_name (Settled n)) refl))))))
reply_formed (Sent n) told = inr (inr (inr (inr (inr (inr (counted (codes "sent") n told (reply_name (Sent n)) refl))))))
reply_formed Taken told = absurd told

made_formed : (st : NodeStep) → IsJob st.step → IsTold st.reply → IsMadeText (made_text st)
made_formed st job told = by st.step job
  where
    end : List ℕ
    end = reply_name st.reply ++ 10 ∷ []

    by : (step : PortStep) → IsJob step → IsMadeText (step_name step ++ 32 ∷ end)
    by Work job = inl (record { rest = end; is = refl; then = reply_formed st.reply told })
    by Due job = inr (inl (record { rest = end; is = refl; then = reply_formed st.reply told }))
    by Settle job = inr (inr (inl (record { rest = end; is = refl; then = reply_formed st.reply told })))
    by (Send Mvrp) job = inr (inr (inr (inl (record { rest = end; is = refl; then = reply_formed st.reply told }))))
    by (Send Msrp) job = inr (inr (inr (inr (record { rest = end; is = refl; then = reply_formed st.reply told }))))
    by (LeaveNow key) job = absurd job
    by (LeaveAllNow app) job = absurd job
    by (PeriodicNow app) job = absurd job

-- the port is among those that may be named
any_later : {X : Type 0} (P : X → Type 0) (x : X) (xs : List X) → Any P xs → Any P (x ∷ xs)
any_later P x xs h = let within = h.2 in (suc h.0, h.1, omega (arith, within), h.3, h.4)

any_front : {X : Type 0} (P : X → Type 0) (xs ys : List X) → Any P xs → Any P (xs ++ ys)
any_front P [] ys (k, x, within, at, h) = absurd (omega (arith, within))
any_front P (y ∷ xs) ys (zero, x, within, at, h) = (0, x, omega arith, at, h)
any_front P (y ∷ xs) ys (suc k, x, within, at, h) = any_later P y (xs ++ ys) (any_front P xs ys (k, x, omega (arith, within), at, h))

any_behind : {X : Type 0} (P : X → Type 0) (xs ys : List X) → Any P ys → Any P (xs ++ ys)
any_behind P [] ys h = h
any_behind P (x ∷ xs) ys h = any_later P x (xs ++ ys) (any_behind P xs ys h)

map_any : {X : Type 0} (P : X → Type 0) (f : ℕ → X) (first count k : ℕ) → first ≤ k → k < first + count → P (f k) → Any P (map f (range_with_len first count))
map_any P f first zero k from upto h = absurd (omega (arith, from, upto))
map_any P f first (suc count) k from upto h = by (k == first) refl (λ more less. map_any P f (first + 1) count k more less h)
  where
    by : (b : Bool) → (k == first) ≡ b → (first + 1 ≤ k → k < first + 1 + count → Any P (map f (range_with_len (first + 1) count))) → Any P (f first ∷ map f (range_with_len (first + 1) count))
    by true e later = let same : k ≡ first = grind (arith, nat_tests, e) in (0, f first, omega arith, refl, subst (λ (n : ℕ). P (f n)) same h)
    by false e later =
        let more : first + 1 ≤ k = grind (arith, nat_tests, e, from) in
        any_later P (f first) (map f (range_with_len (first + 1) count)) (later more (omega (arith, upto)))

flat_any : {X : Type 0} (P : X → Type 0) (f : ℕ → List X) (first count k : ℕ) → first ≤ k → k < first + count → Any P (f k) → Any P (flat_map f (range_with_len first count))
flat_any P f first zero k from upto h = absurd (omega (arith, from, upto))
flat_any P f first (suc count) k from upto h = by (k == first) refl (λ more less. flat_any P f (first + 1) count k more less h)
  where
    by : (b : Bool) → (k == first) ≡ b → (first + 1 ≤ k → k < first + 1 + count → Any P (flat_map f (range_with_len (first + 1) count)))
        → Any P (f first ++ flat_map f (range_with_len (first + 1) count))
    by true e later = let same : k ≡ first = grind (arith, nat_tests, e) in any_front P (f first) (flat_map f (range_with_len (first + 1) count)) (subst (λ (n : ℕ). Any P (f n)) same h)
    by false e later =
        let more : first + 1 ≤ k = grind (arith, nat_tests, e, from) in
        any_behind P (f first) (flat_map f (range_with_len (first + 1) count)) (later more (omega (arith, upto)))

step_formed : (plan : Plan) (t : ℕ) (n : NodeNo) (st : NodeStep) → HasPort plan.tree (record { node = n; port = st.port }) → IsJob st.step → IsTold st.reply
    → IsFormed (known_of plan) t (line_at plan t n st)
step_formed plan t n st known job told =
    record {
      rest = name ++ 32 ∷ made_text st;
      is = append_assoc (decimal t) (32 ∷ (name ++ 32 ∷ [])) (made_text st) ∙ ap (λ (x : List ℕ). decimal t ++ 32 ∷ x) (append_assoc name (32 ∷ []) (made_text st));
      then = inr (flat_any IsAt (names_at plan) 1 (length plan.tree.kinds) n.0 low (omega (arith, high))
          (map_any IsAt (λ (k : ℕ). port_name plan.nodes plan.tree.links (port_of n.0 k)) 1 (length (neighbours plan.tree.links n.0)) st.port.0 known.1 (omega (arith, last)) here));
    }
  where
    name : List ℕ
    name = port_name plan.nodes plan.tree.links (record { node = n; port = st.port })

    IsAt : List ℕ → Type 0
    IsAt port = IsWordThen IsMadeText port (name ++ 32 ∷ made_text st)

    low : 1 ≤ n.0
    low = known.0.0

    high : n.0 ≤ length plan.tree.kinds
    high = known.0.1

    last : st.port.0 ≤ length (neighbours plan.tree.links n.0)
    last = known.2

    here : IsAt name
    here = record { rest = made_text st; is = refl; then = made_formed st job told }

-- ---- lines one after the other

formed_from : (known : Known) (s t : ℕ) (lines : List (List ℕ)) → s ≤ t → AreFormed known t lines → AreFormed known s lines
formed_from known s t [] from h = tt
formed_from known s t (line ∷ lines) from (u, within, below, formed, rest) = (u, omega (arith, from, within), below, formed, rest)

formed_onto : (known : Known) (t : ℕ) (lines more : List (List ℕ)) → t < known.ticks → AllByRecursion (IsFormed known t) lines → AreFormed known t more → AreFormed known t (lines ++ more)
formed_onto known t [] more below h rest = rest
formed_onto known t (line ∷ lines) more below h rest = (t, omega arith, below, h.0, formed_onto known t lines more below h.1 rest)

module _ (plan : Plan) (laws : ReplayLaws plan) (vlans : (octets : List ℕ) (place : ℕ) → mvrp_reading octets ≡ Err place → place ≤ length octets)
    (streams : (octets : List ℕ) (place : ℕ) → msrp_reading octets ≡ Err place → place ≤ length octets) where
  -- those of a node's steps, and the network behind them
  jobs_formed : (t x : ℕ) (left : List (List PortStep)) (w : WorldState) (made : List NodeStep) → HasNode plan.tree x → length left ≡ length (neighbours plan.tree.links x) → IsDuring plan.tree t w
      → AllByRecursion AreJobs left → MakeLeft (node x) left w made
      → AllByRecursion (IsFormed (known_of plan) t) (made_lines plan t (node x) made) × IsDuring plan.tree t (world_after (events_of (node x) made) w)
  jobs_formed t x left w [] known long run jobs h = (tt, run)
  jobs_formed t x left w (st ∷ made) known long run jobs (rest, next, behind) =
      let port = has_port plan laws x left w st rest known long next in
      let mine = each_at AreJobs left (place_of st.port) (st.step ∷ rest) jobs next.job in
      let stays : IsDuring plan.tree t (world_step (Port (node x) st.port st.step) w).0 = laws.stay t (Port (node x) st.port st.step ∷ []) w (port, tt) run in
      let later =
      jobs_formed t x (slice_set left (place_of st.port) rest) (world_step (Port (node x) st.port st.step) w).0 made known (length_set left (place_of st.port) rest ∙ long) stays
      (each_set AreJobs left (place_of st.port) rest jobs mine.1) behind
      in
      let told = reply_told vlans streams plan.tree t (node x) w st.port st.step st.reply run mine.0 next.reply in
      ((step_formed plan t (node x) st port mine.0 told, later.0), later.1)

  nodes_formed : (count t x : ℕ) (w : WorldState) (steps : List NodeSteps) → 1 ≤ x → x + count ≡ suc (length plan.tree.kinds) → IsDuring plan.tree t w → MakeAll x count w steps
      → AllByRecursion (IsFormed (known_of plan) t) (steps_lines plan t steps)
  nodes_formed zero t x w steps first all run h = subst (λ (s : List NodeSteps). AllByRecursion (IsFormed (known_of plan) t) (steps_lines plan t s)) (sym h) tt
  nodes_formed (suc count) t x w steps first all run (made, (later, same, jobs, others)) =
      let known : HasNode plan.tree x = (first, omega (arith, all)) in
      let here = jobs_formed t x (node_jobs (node x) w) w made known (laws.count t x w run known) run (node_jobs_are (node x) w) jobs in
      let behind = nodes_formed count t (suc x) (world_after (events_of (node x) made) w) later (omega arith) (omega (arith, all)) here.1 others in
      subst (λ (ls : List (List ℕ)). AllByRecursion (IsFormed (known_of plan) t) ls) (sym (ap (λ (s : List NodeSteps). steps_lines plan t s) same ∙ before_lines plan t (node x) made later))
      (each_append (IsFormed (known_of plan) t) (made_lines plan t (node x) made) (steps_lines plan t later) here.0 behind)

  tick_formed : (t : ℕ) (w : WorldState) (tick : Tick) → IsDuring plan.tree t w → IsLegalTick plan t w tick → AllByRecursion (IsFormed (known_of plan) t) (tick_lines plan t tick)
  tick_formed t w tick run legal =
      let one = laws.made t w tick run legal in
      let there = laws.stay t (map (λ (e : ℕ × WorldEvent). e.1) (script_at plan t)) w (laws.scripted t) run in
      each_append (IsFormed (known_of plan) t) (answer_lines t tick.events) (steps_lines plan t tick.steps)
      (answers_formed (known_of plan) t tick.events
      (subst (λ (ns : List ℕ). AllByRecursion (IsNumbered 1 (length plan.events)) ns) (sym one.numbers) (scripted_numbered plan.tree.links plan.streams t 1 plan.events)))
      (nodes_formed (length plan.tree.kinds) t 1 (after_script plan t w) tick.steps (omega arith) (omega arith) there one.steps)

  -- those of all ticks
  pub ticks_formed : (t : ℕ) (w end : WorldState) (ticks : List Tick) → IsDuring plan.tree t w → LeadTo (IsLegalTick plan) plan t w ticks plan.ticks end
      → AreFormed (known_of plan) t (ticks_lines plan t ticks)
  ticks_formed t w end [] run lead = tt
  ticks_formed t w end (tick ∷ ticks) run (legal, lead) =
      let later = upto plan (suc t) (world_after (tick_events plan t tick) w) ticks plan.ticks end lead in
      let below : t < plan.ticks = omega (arith, later) in
      formed_onto (known_of plan) t (tick_lines plan t tick) (ticks_lines plan (suc t) ticks) below (tick_formed t w tick run legal)
      (formed_from (known_of plan) t (suc t) (ticks_lines plan (suc t) ticks) (omega arith)
      (ticks_formed (suc t) (world_after (tick_events plan t tick) w) end ticks (laws.next_tick t w tick below run legal) lead))
