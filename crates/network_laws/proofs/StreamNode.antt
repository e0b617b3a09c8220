-- One stream at a node where nothing awaits: which port is the Talker's, what a port declares of the Talker and of the
-- Listeners there, and how that and the port's ledger hang together.
use Rattle.std.proofs.Common.{◌≡◌, ◌≢◌, ◌⊎◌, inl, inr, ℕ, zero, suc, ◌+◌, ◌≤◌, Bool, true, false, ◌||◌, ◌==◌, if◌then◌else◌, List, [], ◌∷◌, ◌++◌, length, map, take, drop, refl, sym, ap, ◌∙◌, arith}
use Rattle.std.specs.Prelude.{slice_get, nat_lt, Option, Some, None, IsSome, is_some, is_none, option_map, option_and_then, fold, ◌↔◌}
use Rattle.std.specs.{Option.unwrap_or, Option.option_or, List.list_any, List.filter_map, List.position_or_len}
use Rattle.std.proofs.lemmas.{Bool.eqb-true, Bool.Decides.nat_tests}
use Rattle.std.proofs.lemmas.{Bool.or_right as true-right, Map.Keys.any_passes_from_place as any-get}
use Rattle.srp_base.proofs.Bools.{or_true as or-cases}
use Rattle.srp_base.specs.declared.{bandwidth.Class.Class, numbers.StreamId.StreamId, streams.Failure.Failure, streams.Talker.Talker, streams.TalkerReg.TalkerReg, streams.ListenerKind.ListenerKind}
use Rattle.srp_base.specs.declared.streams.TalkerReg.TheVariants.{Absent, Advertise, Failed}
use Rattle.srp_base.specs.declared.streams.ListenerKind.TheVariants.{AskingFailed, Ready, ReadyFailed}
use Rattle.stream_importance.specs.declared.{entry.Entry.Entry, entry.Want.Want, entry.Fit.Fit, entry.Fit.TheVariants.Fits, entry.Fit.TheVariants.TooLittle}
use Rattle.port_ledger.specs.{Decision.stream_of, Book.Book, Book.IsKept, Book.entry_of, Book.want_of, Book.since_of, Book.fit_for}
use Rattle.msrp_talker.specs.declared.port_config.PortConfig.{PortConfig}
use Rattle.msrp_talker.specs.TalkerOut.{check_of, class_of_priority, refusal_of, declared_of, delayed_by, statement_of, talker_in, talker_out, IsCarriedOn, IsOfPort}
use Rattle.msrp_listener.specs.declared.port_listener.PortListener.{PortListener}
use Rattle.msrp_listener.specs.Merging.{merge_of, counted_kind, listener_out}
use Rattle.msrp_codec.specs.declared.pdu.MsrpContent.TheVariants as contents
use Rattle.msrp.specs.{PortState.PortState, Part.registered_listener, Part.talker_content, Part.talker_reg_of, Part.listener_kind_of, Stream.Registrations, Stream.is_present, Stream.is_advertised, Stream.is_number, Stream.is_talker_port, Stream.is_ready, Stream.is_ready_kind, Stream.talker_port, Stream.first_talker, Stream.edge_at, Stream.talker_at, Stream.want_of_talker, Stream.want_of_reg, Stream.want_in_class, Stream.wanted_at, Stream.listener_at, Stream.own_listener, Stream.other_listeners}

-- ---- the Talker's port

-- this port is the Talker's port, and this is registered there
pub record IsTalkers (xs : List TalkerReg) (n : ℕ) (x : TalkerReg) : Type 0 where
  pub at : slice_get xs n ≡ Some x
  pub present : is_present x ≡ true
  pub port : talker_port xs ≡ Some n
  pub is : first_talker xs ≡ x

shift : (k len n : ℕ) → (if nat_lt k len then Some k else None) ≡ Some n
    → (if nat_lt (1 + k) (suc len) then Some (1 + k) else None) ≡ Some (suc n)
shift k len n h = grind (arith, nat_tests)

first-port : (n : ℕ) → nat_lt 0 (suc n) ≡ true
first-port n = grind (arith, nat_tests)

-- the first of all
pub first-is : (x : TalkerReg) (xs : List TalkerReg) → is_present x ≡ true → IsTalkers (x ∷ xs) 0 x
first-is x xs e = record { at = refl; present = e; port = rw e (rw (first-port (length xs)) refl); is = rw e refl }

-- there is none, or there is one
pub talkers-port : (xs : List TalkerReg) → (first_talker xs ≡ Absent) ⊎ ((n : ℕ) × (x : TalkerReg) × IsTalkers xs n x)
talkers-port [] = inl refl
talkers-port (x ∷ xs) = by (is_present x) refl (talkers-port xs)
  where
    by : (b : Bool) → is_present x ≡ b → (first_talker xs ≡ Absent) ⊎ ((n : ℕ) × (y : TalkerReg) × IsTalkers xs n y)
        → (first_talker (x ∷ xs) ≡ Absent) ⊎ ((n : ℕ) × (y : TalkerReg) × IsTalkers (x ∷ xs) n y)
    by true e rest = inr (0, x, first-is x xs e)
    by false e (inl none) = inl (rw e none)
    by false e (inr r) =
        inr (
          suc r.0,
          r.1,
          record {
            at = r.2.at;
            present = r.2.present;
            port = rw e (shift (position_or_len is_present xs) (length xs) r.0 r.2.port);
            is = rw e r.2.is;
          },
        )

-- where a Talker is registered somewhere there is one
pub some-talker : (xs : List TalkerReg) (j : ℕ) (x : TalkerReg) → slice_get xs j ≡ Some x → is_present x ≡ true → is_present (first_talker xs) ≡ true
some-talker [] j x h t = cc
some-talker (y ∷ xs) j x h t = by (is_present y) refl j h (λ i k. some-talker xs i x k t)
  where
    by : (b : Bool) → is_present y ≡ b → (j : ℕ) → slice_get (y ∷ xs) j ≡ Some x → ((i : ℕ) → slice_get xs i ≡ Some x → is_present (first_talker xs) ≡ true) → is_present (first_talker (y ∷ xs)) ≡ true
    by true e j h rest = rw e e
    by false e zero h rest = let same : y ≡ x = cc in let other : is_present x ≡ false = ap is_present (sym same) ∙ e in cc
    by false e (suc j) h rest = rw e (rest j h)

pub port-of : (xs : List TalkerReg) (j : ℕ) (x : TalkerReg) → slice_get xs j ≡ Some x → is_present x ≡ true → (n : ℕ) × (y : TalkerReg) × IsTalkers xs n y
port-of xs j x h t = by (talkers-port xs)
  where
    by : (first_talker xs ≡ Absent) ⊎ ((n : ℕ) × (y : TalkerReg) × IsTalkers xs n y) → (n : ℕ) × (y : TalkerReg) × IsTalkers xs n y
    by (inl none) = let some : is_present (first_talker xs) ≡ true = some-talker xs j x h t in let gone : is_present (first_talker xs) ≡ false = ap is_present none in cc
    by (inr r) = r

pub port-of-present : (xs : List TalkerReg) → is_present (first_talker xs) ≡ true → (n : ℕ) × (y : TalkerReg) × IsTalkers xs n y
port-of-present xs t = by (talkers-port xs)
  where
    by : (first_talker xs ≡ Absent) ⊎ ((n : ℕ) × (y : TalkerReg) × IsTalkers xs n y) → (n : ℕ) × (y : TalkerReg) × IsTalkers xs n y
    by (inl none) = let gone : is_present (first_talker xs) ≡ false = ap is_present none in cc
    by (inr r) = r

-- whether a port is the Talker's port
pub is-port : (xs : List TalkerReg) (n : ℕ) (x : TalkerReg) (m : ℕ) → IsTalkers xs n x → is_talker_port m xs ≡ (n == m)
is-port xs n x m t = ap (λ o. is_number m o) t.port

pub same-port : (n : ℕ) → (n == n) ≡ true
same-port n = grind (arith, nat_tests)

-- ---- what a port declares of the Talker

-- the fit of a registered Talker's want in a book
abbrev pub fit_of_reg : Book → TalkerReg → Fit
fit_of_reg book reg = unwrap_or (option_map (fit_for book.moment book) (option_and_then want_of_talker (talker_in reg))) Fits

pub declares-none : (at : ℕ) (port : PortState) (xs : List TalkerReg) → is_talker_port (suc at) xs ≡ true → talker_at at port xs ≡ Absent
declares-none at port xs e = rw e refl

pub declares : (at : ℕ) (port : PortState) (xs : List TalkerReg) → is_talker_port (suc at) xs ≡ false
    → talker_at at port xs ≡ talker_out (first_talker xs) port.config (edge_at port xs) (fit_of_reg port.ledger (first_talker xs))
declares at port xs e = rw e refl

-- a Talker is declared where one is registered
pub out-present : (reg : TalkerReg) (config : PortConfig) (edge : Bool) (fit : Fit) → is_present (talker_out reg config edge fit) ≡ is_present reg
out-present Absent config edge fit = refl
out-present (Failed t f) config edge fit = refl
out-present (Advertise t) config edge fit = by (refusal_of t edge fit)
  where
    by : (o : Option ℕ) → is_present (declared_of config (delayed_by config.latency t) o) ≡ true
    by None = refl
    by (Some c) = refl

-- what it states stays the same
pub out-states : (reg : TalkerReg) (config : PortConfig) (edge : Bool) (fit : Fit)
    → statement_of (talker_in (talker_out reg config edge fit)) ≡ statement_of (talker_in reg)
out-states Absent config edge fit = refl
out-states (Failed t f) config edge fit = refl
out-states (Advertise t) config edge fit = by (refusal_of t edge fit)
  where
    by : (o : Option ℕ) → statement_of (talker_in (declared_of config (delayed_by config.latency t) o)) ≡ statement_of (Some t)
    by None = refl
    by (Some c) = refl

-- what it wants, and whether any port can serve it, is of what it states
pub stated-want : (o : Option Talker) → option_and_then want_of_talker (statement_of o) ≡ option_and_then want_of_talker o
stated-want None = refl
stated-want (Some t) = refl

pub stated-check : (o : Option Talker) → option_and_then check_of (statement_of o) ≡ option_and_then check_of o
stated-check None = refl
stated-check (Some t) = refl

pub stated-class : (o : Option Talker)
    → option_and_then (λ (t : Talker). class_of_priority t.priority) (statement_of o) ≡ option_and_then (λ (t : Talker). class_of_priority t.priority) o
stated-class None = refl
stated-class (Some t) = refl

-- a port declares a Talker only where it isn't the Talker's port, and one is registered there
pub declared-present : (at : ℕ) (port : PortState) (xs : List TalkerReg) → is_present (talker_at at port xs) ≡ true
    → (is_talker_port (suc at) xs ≡ false) × (is_present (first_talker xs) ≡ true)
declared-present at port xs h = by (is_talker_port (suc at) xs) refl
  where
    by : (b : Bool) → is_talker_port (suc at) xs ≡ b → (is_talker_port (suc at) xs ≡ false) × (is_present (first_talker xs) ≡ true)
    by true e = let none : is_present (talker_at at port xs) ≡ false = ap is_present (declares-none at port xs e) in cc
    by false e =
        (e, sym (out-present (first_talker xs) port.config (edge_at port xs) (fit_of_reg port.ledger (first_talker xs))) ∙ (ap is_present (sym (declares at port xs e)) ∙ h))

pub present-declared : (at : ℕ) (port : PortState) (xs : List TalkerReg) → is_talker_port (suc at) xs ≡ false → is_present (first_talker xs) ≡ true
    → is_present (talker_at at port xs) ≡ true
present-declared at port xs e h =
    ap is_present (declares at port xs e) ∙ (out-present (first_talker xs) port.config (edge_at port xs) (fit_of_reg port.ledger (first_talker xs)) ∙ h)

-- ---- what is registered at the other end of a port's link

pub reg-content : (reg : TalkerReg) → talker_reg_of (talker_content reg) ≡ reg
reg-content Absent = refl
reg-content (Advertise t) = refl
reg-content (Failed t f) = refl

pub kind-content : (o : Option ListenerKind) → listener_kind_of (option_map contents.Listener o) ≡ o
kind-content None = refl
kind-content (Some k) = refl

-- ---- the ledger

-- a want that is kept fits exactly where it is booked
abbrev pub KeptWants : Type 0
KeptWants = (book : Book) (later : ℕ) (want : Want) → IsKept book → book.moment ≤ later → want_of book.entries want.stream ≡ Some want
    → (fit_for later book want ≡ Fits) ↔ IsSome (since_of book.entries want.stream)

-- a kept want is of its stream
entry-stream : (entries : List Entry) (s : StreamId) (x : Entry) → entry_of entries s ≡ Some x → x.want.stream ≡ s
entry-stream [] s x h = cc
entry-stream (y ∷ entries) s x h = by (stream_of y == s.0) refl (λ k. entry-stream entries s x k)
  where
    by : (b : Bool) → (stream_of y == s.0) ≡ b → (entry_of entries s ≡ Some x → x.want.stream ≡ s) → x.want.stream ≡ s
    by true e later =
        let first : entry_of (y ∷ entries) s ≡ Some y = rw e refl in
        let same : y ≡ x = cc in
        let number : x.want.stream.0 ≡ s.0 = ap (λ (z : Entry). z.want.stream.0) (sym same) ∙ eqb-true (stream_of y) s.0 e in
        ap (λ (n : ℕ). record { 0 = n }) number
    by false e later = let rest : entry_of (y ∷ entries) s ≡ entry_of entries s = rw e refl in later (sym rest ∙ h)

want-stream : (entries : List Entry) (s : StreamId) (w : Want) → want_of entries s ≡ Some w → w.stream ≡ s
want-stream entries s w h = by (entry_of entries s) refl
  where
    by : (o : Option Entry) → entry_of entries s ≡ o → w.stream ≡ s
    by None e = let none : want_of entries s ≡ None = rw e refl in cc
    by (Some x) e =
        let some : want_of entries s ≡ Some x.want = rw e refl in
        let same : x.want ≡ w = cc in
        ap (λ (v : Want). v.stream) (sym same) ∙ entry-stream entries s x e

-- a booked stream is one that is kept
booked-want : (entries : List Entry) (s : StreamId) → is_some (since_of entries s) ≡ true → (w : Want) × (want_of entries s ≡ Some w)
booked-want entries s h = by (entry_of entries s) refl
  where
    by : (o : Option Entry) → entry_of entries s ≡ o → (w : Want) × (want_of entries s ≡ Some w)
    by None e = let none : is_some (since_of entries s) ≡ false = rw e refl in cc
    by (Some x) e = (x.want, rw e refl)

-- why a port wants a stream
pub record Wants (at : ℕ) (port : PortState) (xs : List TalkerReg) (stream : StreamId) (t : Talker) (w : Want) : Type 0 where
  pub elsewhere : is_talker_port (suc at) xs ≡ false
  pub ready : is_ready (registered_listener stream port.part) ≡ true
  pub inside : edge_at port xs ≡ false
  pub advertised : first_talker xs ≡ Advertise t
  pub checked : check_of t ≡ None
  pub want : want_of_talker t ≡ Some w

wanted-reg : (edge : Bool) (reg : TalkerReg) (w : Want) → want_of_reg edge reg ≡ Some w
    → (t : Talker) × (reg ≡ Advertise t) × (edge ≡ false) × (check_of t ≡ None) × (want_of_talker t ≡ Some w)
wanted-reg edge Absent w h = cc
wanted-reg edge (Failed t f) w h = cc
wanted-reg true (Advertise t) w h = cc
wanted-reg false (Advertise t) w h = by (check_of t) refl
  where
    by : (o : Option ℕ) → check_of t ≡ o → (u : Talker) × (Advertise t ≡ Advertise u) × (false ≡ false) × (check_of u ≡ None) × (want_of_talker u ≡ Some w)
    by None e = let here : want_of_reg false (Advertise t) ≡ want_of_talker t = rw e refl in (t, refl, refl, e, sym here ∙ h)
    by (Some c) e = let none : want_of_reg false (Advertise t) ≡ None = rw e refl in cc

reg-wanted : (edge : Bool) (reg : TalkerReg) (t : Talker) (w : Want) → reg ≡ Advertise t → edge ≡ false → check_of t ≡ None → want_of_talker t ≡ Some w
    → want_of_reg edge reg ≡ Some w
reg-wanted edge reg t w is inside checked want = rw is (rw inside (rw checked want))

pub wants : (at : ℕ) (port : PortState) (xs : List TalkerReg) (stream : StreamId) (w : Want) → wanted_at at port xs stream ≡ Some w → (t : Talker) × Wants at port xs stream t w
wants at port xs stream w h = by (is_talker_port (suc at) xs) (is_ready (registered_listener stream port.part)) refl refl
  where
    by : (b r : Bool) → is_talker_port (suc at) xs ≡ b → is_ready (registered_listener stream port.part) ≡ r → (t : Talker) × Wants at port xs stream t w
    by true r e f = let none : wanted_at at port xs stream ≡ None = rw e refl in cc
    by false false e f = let none : wanted_at at port xs stream ≡ None = rw e (rw f refl) in cc
    by false true e f =
        let here : wanted_at at port xs stream ≡ want_of_reg (edge_at port xs) (first_talker xs) = rw e (rw f refl) in
        let reg = wanted-reg (edge_at port xs) (first_talker xs) w (sym here ∙ h) in
        (reg.0, record { elsewhere = e; ready = f; inside = reg.2; advertised = reg.1; checked = reg.3; want = reg.4 })

pub wants-from : (at : ℕ) (port : PortState) (xs : List TalkerReg) (stream : StreamId) (t : Talker) (w : Want) → Wants at port xs stream t w → wanted_at at port xs stream ≡ Some w
wants-from at port xs stream t w h =
    let here : wanted_at at port xs stream ≡ want_of_reg (edge_at port xs) (first_talker xs) = rw h.elsewhere (rw h.ready refl) in
    here ∙ reg-wanted (edge_at port xs) (first_talker xs) t w h.advertised h.inside h.checked h.want

fit-is : (book : Book) (xs : List TalkerReg) (t : Talker) (w : Want) → first_talker xs ≡ Advertise t → want_of_talker t ≡ Some w
    → fit_of_reg book (first_talker xs) ≡ fit_for book.moment book w
fit-is book xs t w a h = rw a (rw h refl)

module _ (kept : KeptWants) (at : ℕ) (port : PortState) (xs : List TalkerReg) (stream : StreamId)
    (book : IsKept port.ledger) (wanted : want_of port.ledger.entries stream ≡ wanted_at at port xs stream) where
  -- a stream that is booked at a port is wanted there
  pub booked-wants : is_some (since_of port.ledger.entries stream) ≡ true → (t : Talker) × (w : Want) × Wants at port xs stream t w
  booked-wants h =
      let w = booked-want port.ledger.entries stream h in
      let r = wants at port xs stream w.0 (sym wanted ∙ w.1) in
      (r.0, w.0, r.1)

  -- and its Talker is advertised onwards
  pub booked-advertises : is_some (since_of port.ledger.entries stream) ≡ true → is_advertised (talker_at at port xs) ≡ true
  booked-advertises h =
      let w = booked-want port.ledger.entries stream h in
      let r = wants at port xs stream w.0 (sym wanted ∙ w.1) in
      let of : w.0.stream ≡ stream = want-stream port.ledger.entries stream w.0 w.1 in
      let own : want_of port.ledger.entries w.0.stream ≡ Some w.0 = ap (λ (s : StreamId). want_of port.ledger.entries s) of ∙ w.1 in
      let some : IsSome (since_of port.ledger.entries w.0.stream) =
      ap (λ (s : StreamId). is_some (since_of port.ledger.entries s)) of ∙ h in
      let fits : fit_for port.ledger.moment port.ledger w.0 ≡ Fits = (kept port.ledger port.ledger.moment w.0 book (omega arith) own).1 some in
      ap is_advertised (declares at port xs r.1.elsewhere)
      ∙ (ap (λ f. is_advertised (talker_out (first_talker xs) port.config (edge_at port xs) f)) (fit-is port.ledger xs r.0 w.0 r.1.advertised r.1.want ∙ fits)
      ∙ (ap (λ edge. is_advertised (talker_out (first_talker xs) port.config edge Fits)) r.1.inside
      ∙ (ap (λ reg. is_advertised (talker_out reg port.config false Fits)) r.1.advertised
      ∙ ap (λ o. is_advertised (declared_of port.config (delayed_by port.config.latency r.0) (option_or o None))) r.1.checked)))

  -- where a Talker is advertised onwards and some Listener behind can have the stream, it is booked
  pub advertised-booked : is_advertised (talker_at at port xs) ≡ true → is_ready (registered_listener stream port.part) ≡ true
      → is_some (since_of port.ledger.entries stream) ≡ true
  advertised-booked h ready = by (is_talker_port (suc at) xs) refl
    where
      class-is : (t : Talker) → check_of t ≡ None → (w : Want) × (want_of_talker t ≡ Some w)
      class-is t e = of (class_of_priority t.priority) refl
        where
          of : (o : Option Class) → class_of_priority t.priority ≡ o → (w : Want) × (want_of_talker t ≡ Some w)
          of None f = let bad : check_of t ≡ Some 13 = rw f refl in cc
          of (Some class) f = (want_in_class t class, rw f refl)

      fit-here : (edge : Bool) (fit : Fit) (t : Talker) → is_advertised (declared_of port.config (delayed_by port.config.latency t) (refusal_of t edge fit)) ≡ true
          → (check_of t ≡ None) × (edge ≡ false) × (fit ≡ Fits)
      fit-here edge fit t e = of (check_of t) refl edge fit e
        where
          of : (o : Option ℕ) → check_of t ≡ o → (edge : Bool) (fit : Fit) → is_advertised (declared_of port.config (delayed_by port.config.latency t) (refusal_of t edge fit)) ≡ true
              → (check_of t ≡ None) × (edge ≡ false) × (fit ≡ Fits)
          of (Some c) f edge fit e = let off : is_advertised (declared_of port.config (delayed_by port.config.latency t) (refusal_of t edge fit)) ≡ false = rw f refl in cc
          of None f true fit e = let off : is_advertised (declared_of port.config (delayed_by port.config.latency t) (refusal_of t true fit)) ≡ false = rw f refl in cc
          of None f false Fits e = (f, refl, refl)
          of None f false (TooLittle more cap code) e =
              let off : is_advertised (declared_of port.config (delayed_by port.config.latency t) (refusal_of t false (TooLittle more cap code))) ≡ false = rw f refl in cc

      of-reg : (reg : TalkerReg) → first_talker xs ≡ reg → is_talker_port (suc at) xs ≡ false
          → is_advertised (talker_out reg port.config (edge_at port xs) (fit_of_reg port.ledger (first_talker xs))) ≡ true
          → is_some (since_of port.ledger.entries stream) ≡ true
      of-reg Absent r e k = cc
      of-reg (Failed t f) r e k = cc
      of-reg (Advertise t) r e k =
          let parts = fit-here (edge_at port xs) (fit_of_reg port.ledger (first_talker xs)) t k in
          let w = class-is t parts.0 in
          let here : Wants at port xs stream t w.0 = record { elsewhere = e; ready = ready; inside = parts.1; advertised = r; checked = parts.0; want = w.1 } in
          let want : want_of port.ledger.entries stream ≡ Some w.0 = wanted ∙ wants-from at port xs stream t w.0 here in
          let of : w.0.stream ≡ stream = want-stream port.ledger.entries stream w.0 want in
          let own : want_of port.ledger.entries w.0.stream ≡ Some w.0 = ap (λ (s : StreamId). want_of port.ledger.entries s) of ∙ want in
          let fits : fit_for port.ledger.moment port.ledger w.0 ≡ Fits = sym (fit-is port.ledger xs t w.0 r w.1) ∙ parts.2 in
          let some = (kept port.ledger port.ledger.moment w.0 book (omega arith) own).0 fits in
          ap (λ (s : StreamId). is_some (since_of port.ledger.entries s)) (sym of) ∙ some

      by : (b : Bool) → is_talker_port (suc at) xs ≡ b → is_some (since_of port.ledger.entries stream) ≡ true
      by true e = let none : is_advertised (talker_at at port xs) ≡ false = ap is_advertised (declares-none at port xs e) in cc
      by false e = of-reg (first_talker xs) refl e (ap is_advertised (sym (declares at port xs e)) ∙ h)

-- ---- failures

-- a failure of bandwidth
abbrev pub IsOfBandwidth : ℕ → Type 0
IsOfBandwidth code = (code ≡ 1) ⊎ (code ≡ 6)

-- a port refuses an advertised Talker for want of bandwidth
pub record Refuses (config : PortConfig) (book : Book) (reg : TalkerReg) (failure : Failure) : Type 0 where
  pub talker : Talker
  pub want : Want
  pub more : ℕ
  pub cap : ℕ
  pub advertised : reg ≡ Advertise talker
  pub wants : want_of_talker talker ≡ Some want
  pub fit : fit_for book.moment book want ≡ TooLittle more cap failure.code
  pub bridge : failure.bridge ≡ config.bridge

pub check-codes : (t : Talker) (c : ℕ) → check_of t ≡ Some c → IsOfBandwidth c → ⊥
check-codes t c h code = by (is_none (class_of_priority t.priority)) (nat_lt 1500 t.max_frame) refl refl
  where
    none : (n : ℕ) → n ≡ c → (n ≡ 13) ⊎ (n ≡ 14) → ⊥
    none n e k = grind (arith, code)

    by : (a b : Bool) → is_none (class_of_priority t.priority) ≡ a → nat_lt 1500 t.max_frame ≡ b → ⊥
    by true b e f = let is : check_of t ≡ Some 13 = rw e refl in let same : 13 ≡ c = cc in none 13 same (inl refl)
    by false true e f = let is : check_of t ≡ Some 14 = rw e (rw f refl) in let same : 14 ≡ c = cc in none 14 same (inr refl)
    by false false e f = let is : check_of t ≡ None = rw e (rw f refl) in cc

-- the code of a port at the boundary of a domain is none of bandwidth
pub not-eight : (n : ℕ) → 8 ≡ n → IsOfBandwidth n → ⊥
not-eight n e (inl h) = omega (arith, e, h)
not-eight n e (inr h) = omega (arith, e, h)

-- a failure that a port declares was registered at the Talker's port, or is the port's own refusal
pub failed-at : (at : ℕ) (port : PortState) (xs : List TalkerReg) (t : Talker) (f : Failure) → talker_at at port xs ≡ Failed t f
    → IsCarriedOn (first_talker xs) f ⊎ IsOfPort port.config (edge_at port xs) (fit_of_reg port.ledger (first_talker xs)) (first_talker xs) f
failed-at at port xs t f h = by (is_talker_port (suc at) xs) refl
  where
    own : (u : Talker) → first_talker xs ≡ Advertise u → (o : Option ℕ) → refusal_of u (edge_at port xs) (fit_of_reg port.ledger (first_talker xs)) ≡ o
        → declared_of port.config (delayed_by port.config.latency u) o ≡ Failed t f
        → IsOfPort port.config (edge_at port xs) (fit_of_reg port.ledger (first_talker xs)) (first_talker xs) f
    own u a None e d = cc
    own u a (Some c) e d =
        let same : Failed (delayed_by port.config.latency u) (record { bridge = port.config.bridge; code = c }) ≡ Failed t f = d in
        let failure : (record { bridge = port.config.bridge; code = c }) ≡ f = cc in
        (u, a, e ∙ ap (λ (g : Failure). Some g.code) failure, ap (λ (g : Failure). g.bridge) (sym failure))

    of-reg : (reg : TalkerReg) → first_talker xs ≡ reg → talker_out reg port.config (edge_at port xs) (fit_of_reg port.ledger (first_talker xs)) ≡ Failed t f
        → IsCarriedOn (first_talker xs) f ⊎ IsOfPort port.config (edge_at port xs) (fit_of_reg port.ledger (first_talker xs)) (first_talker xs) f
    of-reg Absent r k = cc
    of-reg (Failed u g) r k = let same : g ≡ f = cc in inl (u, r ∙ ap (λ x. Failed u x) same)
    of-reg (Advertise u) r k = inr (own u r (refusal_of u (edge_at port xs) (fit_of_reg port.ledger (first_talker xs))) refl k)

    by : (b : Bool) → is_talker_port (suc at) xs ≡ b
        → IsCarriedOn (first_talker xs) f ⊎ IsOfPort port.config (edge_at port xs) (fit_of_reg port.ledger (first_talker xs)) (first_talker xs) f
    by true e = let none : talker_at at port xs ≡ Absent = declares-none at port xs e in cc
    by false e = of-reg (first_talker xs) refl (sym (declares at port xs e) ∙ h)

-- why a port refuses an advertised Talker: no port can serve it, the port is at a boundary, or what is booked leaves no place
pub data Reason (config : PortConfig) (book : Book) (edge : Bool) (reg : TalkerReg) (f : Failure) : Type 0 where
  checked : (u : Talker) → reg ≡ Advertise u → check_of u ≡ Some f.code → Reason config book edge reg f
  bounded : edge ≡ true → f.code ≡ 8 → Reason config book edge reg f
  too-little : Refuses config book reg f → Reason config book edge reg f

pub reason : (config : PortConfig) (book : Book) (edge : Bool) (xs : List TalkerReg) (f : Failure) → IsOfPort config edge (fit_of_reg book (first_talker xs)) (first_talker xs) f
    → Reason config book edge (first_talker xs) f
reason config book edge xs f i = by (check_of u) refl edge refl (fit_of_reg book (first_talker xs)) refl i.2
  where
    u : Talker
    u = i.0

    a : first_talker xs ≡ Advertise u
    a = i.1

    want-is : (more cap c : ℕ) (o : Option Want) → want_of_talker u ≡ o → fit_of_reg book (first_talker xs) ≡ TooLittle more cap c
        → (w : Want) × (want_of_talker u ≡ Some w) × (fit_for book.moment book w ≡ TooLittle more cap c)
    want-is more cap c None e k = let off : fit_of_reg book (first_talker xs) ≡ Fits = rw a (rw e refl) in cc
    want-is more cap c (Some w) e k = (w, e, sym (fit-is book xs u w a e) ∙ k)

    by : (o : Option ℕ) → check_of u ≡ o → (b : Bool) → edge ≡ b → (fit : Fit) → fit_of_reg book (first_talker xs) ≡ fit → refusal_of u b fit ≡ Some f.code
        → Reason config book edge (first_talker xs) f
    by (Some c) k b g fit h e = let is : refusal_of u b fit ≡ Some c = rw k refl in checked u a (k ∙ (sym is ∙ e))
    by None k true g fit h e = let is : refusal_of u true fit ≡ Some 8 = rw k refl in let code : 8 ≡ f.code = cc in bounded g (sym code)
    by None k false g Fits h e = let is : refusal_of u false Fits ≡ None = rw k refl in cc
    by None k false g (TooLittle more cap c) h e =
        let is : refusal_of u false (TooLittle more cap c) ≡ Some c = rw k refl in
        let code : c ≡ f.code = cc in
        let r = want-is more cap c (want_of_talker u) refl h in
        too-little (record {
          talker = u;
          want = r.0;
          more = more;
          cap = cap;
          advertised = a;
          wants = r.1;
          fit = r.2 ∙ ap (λ n. TooLittle more cap n) code;
          bridge = i.3;
        })

-- a failure of bandwidth is for what is booked
pub too-little-booked : {config : PortConfig} {book : Book} {edge : Bool} {reg : TalkerReg} (f : Failure) → IsOfBandwidth f.code → Reason config book edge reg f → Refuses config book reg f
too-little-booked f code (checked u a e) = absurd (check-codes u f.code e code)
too-little-booked f code (bounded e k) = absurd (not-eight f.code (sym k) code)
too-little-booked f code (too-little r) = r

-- ---- Listeners

merge-left : (a b : ListenerKind) → is_ready_kind a ≡ true → is_ready_kind (merge_of a b) ≡ true
merge-left AskingFailed b h = cc
merge-left Ready AskingFailed h = refl
merge-left Ready Ready h = refl
merge-left Ready ReadyFailed h = refl
merge-left ReadyFailed AskingFailed h = refl
merge-left ReadyFailed Ready h = refl
merge-left ReadyFailed ReadyFailed h = refl

merge-right : (a b : ListenerKind) → is_ready_kind b ≡ true → is_ready_kind (merge_of a b) ≡ true
merge-right a AskingFailed h = cc
merge-right AskingFailed Ready h = refl
merge-right Ready Ready h = refl
merge-right ReadyFailed Ready h = refl
merge-right AskingFailed ReadyFailed h = refl
merge-right Ready ReadyFailed h = refl
merge-right ReadyFailed ReadyFailed h = refl

fold-ready : (k : ListenerKind) (ks : List ListenerKind) → is_ready_kind k ≡ true → is_ready_kind (fold merge_of k ks) ≡ true
fold-ready k [] h = h
fold-ready k (x ∷ ks) h = fold-ready (merge_of k x) ks (merge-left k x h)

-- whether a port's Listener counts as one that can have the stream
abbrev pub can_have : PortListener → Bool
can_have row = is_ready_kind (counted_kind row)

fold-any : (k : ListenerKind) (rows : List PortListener) → list_any can_have rows ≡ true → is_ready_kind (fold merge_of k (map counted_kind rows)) ≡ true
fold-any k [] h = cc
fold-any k (row ∷ rows) h = by (or-cases (can_have row) (list_any can_have rows) h) (λ there. fold-any (merge_of k (counted_kind row)) rows there)
  where
    by : (can_have row ≡ true) ⊎ (list_any can_have rows ≡ true) → (list_any can_have rows ≡ true → is_ready_kind (fold merge_of k (map counted_kind (row ∷ rows))) ≡ true)
        → is_ready_kind (fold merge_of k (map counted_kind (row ∷ rows))) ≡ true
    by (inl here) rest = fold-ready (merge_of k (counted_kind row)) (map counted_kind rows) (merge-right k (counted_kind row) here)
    by (inr there) rest = rest there

pub out-ready : (rows : List PortListener) → list_any can_have rows ≡ true → is_ready (listener_out rows) ≡ true
out-ready [] h = cc
out-ready (row ∷ rows) h = by (or-cases (can_have row) (list_any can_have rows) h)
  where
    by : (can_have row ≡ true) ⊎ (list_any can_have rows ≡ true) → is_ready_kind (fold merge_of (counted_kind row) (map counted_kind rows)) ≡ true
    by (inl here) = fold-ready (counted_kind row) (map counted_kind rows) here
    by (inr there) = fold-any (counted_kind row) rows there

abbrev pub can_have_if : Option PortListener → Bool
can_have_if None = false
can_have_if (Some row) = can_have row

any-filter : (os : List (Option PortListener)) → list_any can_have_if os ≡ true → list_any can_have (filter_map (λ row. row) os) ≡ true
any-filter [] h = cc
any-filter (None ∷ os) h = any-filter os h
any-filter (Some row ∷ os) h = by (or-cases (can_have row) (list_any can_have_if os) h) (λ there. any-filter os there)
  where
    by : (can_have row ≡ true) ⊎ (list_any can_have_if os ≡ true) → (list_any can_have_if os ≡ true → list_any can_have (filter_map (λ x. x) os) ≡ true)
        → (can_have row || list_any can_have (filter_map (λ x. x) os)) ≡ true
    by (inl here) rest = ap (λ b. b || list_any can_have (filter_map (λ x. x) os)) here
    by (inr there) rest = true-right (can_have row) (list_any can_have (filter_map (λ x. x) os)) (rest there)

others-any : {X : Type 0} (q : X → Bool) (at : ℕ) (xs : List X) (j : ℕ) (x : X) → j ≢ at → slice_get xs j ≡ Some x → q x ≡ true → list_any q (take at xs ++ drop (suc at) xs) ≡ true
others-any q at [] j x ne h t = cc
others-any q zero (y ∷ xs) zero x ne h t = absurd (ne refl)
others-any q zero (y ∷ xs) (suc j) x ne h t = any-get q xs j x h t
others-any q (suc at) (y ∷ xs) zero x ne h t = let same : y ≡ x = cc in ap (λ b. b || list_any q (take at xs ++ drop (suc at) xs)) (ap q same ∙ t)
others-any q (suc at) (y ∷ xs) (suc j) x ne h t =
    true-right (q y) (list_any q (take at xs ++ drop (suc at) xs)) (others-any q at xs j x (λ e. ne (ap suc e)) h t)

-- at the Talker's port a Listener that can have the stream is declared where there is one behind another port
pub forwards : (at : ℕ) (r : Registrations) (j : ℕ) (row : PortListener) → is_talker_port (suc at) r.talkers ≡ true
    → j ≢ at → slice_get r.listeners j ≡ Some (Some row) → can_have row ≡ true → is_ready (listener_at at r) ≡ true
forwards at r j row port ne h t =
    let here : listener_at at r ≡ listener_out (other_listeners at r) = rw port refl in
    let some : list_any can_have_if (own_listener r ∷ (take at r.listeners ++ drop (suc at) r.listeners)) ≡ true =
    true-right (can_have_if (own_listener r)) (list_any can_have_if (take at r.listeners ++ drop (suc at) r.listeners))
    (others-any can_have_if at r.listeners j (Some row) ne h t) in
    ap is_ready here ∙ out-ready (other_listeners at r) (any-filter (own_listener r ∷ (take at r.listeners ++ drop (suc at) r.listeners)) some)

-- or where the application listens and the Talker is advertised
pub listens : (at : ℕ) (r : Registrations) → is_talker_port (suc at) r.talkers ≡ true
    → r.listens ≡ true → is_advertised (first_talker r.talkers) ≡ true → is_ready (listener_at at r) ≡ true
listens at r port l a =
    let here : listener_at at r ≡ listener_out (other_listeners at r) = rw port refl in
    let own : can_have_if (own_listener r) ≡ true = rw l (rw a refl) in
    let some : list_any can_have_if (own_listener r ∷ (take at r.listeners ++ drop (suc at) r.listeners)) ≡ true =
    ap (λ b. b || list_any can_have_if (take at r.listeners ++ drop (suc at) r.listeners)) own in
    ap is_ready here ∙ out-ready (other_listeners at r) (any-filter (own_listener r ∷ (take at r.listeners ++ drop (suc at) r.listeners)) some)
