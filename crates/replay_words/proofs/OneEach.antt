-- Events of which each key has at most one: none of them withdraws a key that another declares, and
-- where each content is of its key none declares a Talker anew as failed.
use Rattle.std.proofs.Common.{◌≡◌, ◌∙◌, ◌≤◌, Bool, true, false, not, if◌then◌else◌, List, [], ◌∷◌, ◌++◌, length, filter, refl, ap, sym, subst, arith, inl, inr}
use Rattle.std.specs.Prelude.{◌⊎◌, ◌||◌, ◌&&◌, flat_map}
use Rattle.std.specs.{Ordering.is_eq, List.AllByRecursion, List.list_any}
use Rattle.std.proofs.lemmas.Bool.Decides.{nat_tests}
use Rattle.srp_base.specs.declared.{numbers.StreamId.StreamId, streams.Talker.Talker, streams.Failure.Failure}
use Rattle.attribute_propagation.specs.Dirty.{is_awaiting, all_marked}
use Rattle.srp_base.specs.declared.mrp.MrpEvent.{MrpEvent}
use Rattle.srp_base.specs.declared.mrp.MrpEvent.TheVariants.{New, JoinIn, OnlyIn, JoinMt, OnlyMt, Lv}
use Rattle.mrp_participant.specs.{Lookup.same, Sending.is_leave}
use Rattle.msrp.specs.Part.{key_cmp, stream_cmp}
use Rattle.msrp_codec.specs.Content.{Belongs}
use Rattle.msrp_codec.specs.declared.pdu.{MsrpKey.MsrpKey, MsrpContent.MsrpContent}
use Rattle.msrp_codec.specs.declared.pdu.MsrpKey.TheVariants as keys
use Rattle.msrp_codec.specs.declared.pdu.MsrpContent.TheVariants.{Advertise, Failed, Listener, Domain}
use Rattle.replay_words.specs.{StreamEvent, is_declaring, advertised_by, advertised_in, advertised, is_failed_of, is_double, doubles_count, has_value, declares_other, is_replaced, without_replaced}

-- ---- lists

module _ {X : Type 0} where
  -- one of some
  abbrev pub In : X → List X → Type 0
  In x [] = ⊥
  In x (y ∷ ys) = (y ≡ x) ⊎ In x ys

  stays : (p : X → Bool) (b : Bool) (x y : X) (ys : List X) → p y ≡ b → p x ≡ true → In x (y ∷ ys) → (In x ys → In x (filter p ys))
      → In x (if b then y ∷ filter p ys else filter p ys)
  stays p true x y ys is test (inl here) rest = inl here
  stays p true x y ys is test (inr later) rest = inr (rest later)
  stays p false x y ys is test (inl here) rest = let no : true ≡ false = sym test ∙ ap p (sym here) ∙ is in cc
  stays p false x y ys is test (inr later) rest = rest later

  in_filter : (p : X → Bool) (xs : List X) (x : X) → p x ≡ true → In x xs → In x (filter p xs)
  in_filter p [] x test h = absurd h
  in_filter p (y ∷ ys) x test h = stays p (p y) x y ys refl test h (in_filter p ys x test)

  only_one : (xs : List X) (x y : X) → length xs ≤ 1 → In x xs → In y xs → x ≡ y
  only_one [] x y few a b = absurd a
  only_one (z ∷ []) x y few (inl a) (inl b) = sym a ∙ b
  only_one (z ∷ []) x y few (inl a) (inr b) = absurd b
  only_one (z ∷ []) x y few (inr a) b = absurd a
  only_one (z ∷ w ∷ rest) x y few a b = let no : ⊥ = omega (arith, few) in absurd no

  pub none_pass : (p : X → Bool) (xs : List X) → ((x : X) → In x xs → p x ≡ false) → filter p xs ≡ []
  none_pass p [] h = refl
  none_pass p (x ∷ xs) h =
      let here : p x ≡ false = h x (inl refl) in
      let rest : filter p xs ≡ [] = none_pass p xs (λ y c. h y (inr c)) in
      rw (here, rest) refl

  pub all_pass : (p : X → Bool) (xs : List X) → ((x : X) → In x xs → p x ≡ true) → filter p xs ≡ xs
  all_pass p [] h = refl
  all_pass p (x ∷ xs) h =
      let here : p x ≡ true = h x (inl refl) in
      let rest : filter p xs ≡ xs = all_pass p xs (λ y c. h y (inr c)) in
      rw (here, rest) refl

  of_all : (P : X → Type 0) (xs : List X) (x : X) → AllByRecursion P xs → In x xs → P x
  of_all P [] x many h = absurd h
  of_all P (y ∷ ys) x many (inl here) = subst P here many.0
  of_all P (y ∷ ys) x many (inr later) = of_all P ys x many.1 later

  -- the one that passes a test
  record Passes (p : X → Bool) (xs : List X) : Type 0 where
    pub one : X
    pub among : In one xs
    pub test : p one ≡ true

  passes_by : (p : X → Bool) (b : Bool) (x : X) (xs : List X) → p x ≡ b → (b || list_any p xs) ≡ true
      → (list_any p xs ≡ true → Passes p xs) → Passes p (x ∷ xs)
  passes_by p true x xs is h later = record { one = x; among = inl refl; test = is }
  passes_by p false x xs is h later = let there = later h in record { one = there.one; among = inr there.among; test = there.test }

  passes : (p : X → Bool) (xs : List X) → list_any p xs ≡ true → Passes p xs
  passes p [] h = cc
  passes p (x ∷ xs) h = passes_by p (p x) x xs refl h (passes p xs)

-- what can't be true is false
refuted : (b : Bool) → (b ≡ true → ⊥) → b ≡ false
refuted true h = absurd (h refl)
refuted false h = refl

and_first : (a b : Bool) → (a && b) ≡ true → a ≡ true
and_first true b h = refl
and_first false b h = cc

and_second : (a b : Bool) → (a && b) ≡ true → b ≡ true
and_second true b h = h
and_second false b h = cc

or_nothing : (b : Bool) → (b || false) ≡ true → b ≡ true
or_nothing true h = refl
or_nothing false h = cc

-- ---- streams

one_stream : (a b : StreamId) → is_eq (stream_cmp a b) ≡ true → a ≡ b
one_stream a b h = grind (arith, nat_tests)

pub same_key : (k : MsrpKey) → same key_cmp k k ≡ true
same_key (keys.Talker stream) = grind (arith, nat_tests)
same_key (keys.Listener stream) = grind (arith, nat_tests)
same_key (keys.Domain class) = grind (arith, nat_tests)

in_both : (s : StreamId) (us vs : List StreamId) → is_awaiting stream_cmp s (us ++ vs) ≡ (is_awaiting stream_cmp s us || is_awaiting stream_cmp s vs)
in_both s [] vs = refl
in_both s (x ∷ us) vs = ap (λ (b : Bool). is_eq (stream_cmp x s) || b) (in_both s us vs) ∙ grouped (is_eq (stream_cmp x s)) _ _
  where
    grouped : (a b c : Bool) → (a || (b || c)) ≡ ((a || b) || c)
    grouped true b c = refl
    grouped false b c = refl

-- the event from which one of some streams comes
record From (f : StreamEvent → List StreamId) (s : StreamId) (events : List StreamEvent) : Type 0 where
  pub event : StreamEvent
  pub among : In event events
  pub gives : is_awaiting stream_cmp s (f event) ≡ true

module _ (f : StreamEvent → List StreamId) (s : StreamId) where
  from_by : (b : Bool) (e : StreamEvent) (events : List StreamEvent) → is_awaiting stream_cmp s (f e) ≡ b
      → (b || is_awaiting stream_cmp s (flat_map f events)) ≡ true
      → (is_awaiting stream_cmp s (flat_map f events) ≡ true → From f s events) → From f s (e ∷ events)
  from_by true e events is h later = record { event = e; among = inl refl; gives = is }
  from_by false e events is h later =
      let there = later h in record { event = there.event; among = inr there.among; gives = there.gives }

  from : (events : List StreamEvent) → is_awaiting stream_cmp s (flat_map f events) ≡ true → From f s events
  from [] h = cc
  from (e ∷ events) h =
      from_by (is_awaiting stream_cmp s (f e)) e events refl (sym (in_both s (f e) (flat_map f events)) ∙ h) (from events)

-- ---- Talkers

-- whether a content is a Talker Advertise
abbrev is_advertise : MsrpContent → Bool
is_advertise (Advertise t) = true
is_advertise (Failed t failure) = false
is_advertise (Listener kind) = false
is_advertise (Domain priority vid) = false

-- an event is of a stream's Talker, an Advertise or not
record IsTalker (s : StreamId) (advertises : Bool) (key : MsrpKey) (content : MsrpContent) : Type 0 where
  pub key_is : key ≡ keys.Talker s
  pub content_is : is_advertise content ≡ advertises

talker_by : (key : MsrpKey) (t s : StreamId) (content : MsrpContent) (advertises : Bool) → is_advertise content ≡ advertises
    → key ≡ keys.Talker t → (is_eq (stream_cmp t s) || false) ≡ true → IsTalker s advertises key content
talker_by key t s content advertises is of here = record {
  key_is = of ∙ ap keys.Talker (one_stream t s (or_nothing _ here));
  content_is = is;
}

-- the key of a Talker's content
key_of_advertise : (key : MsrpKey) (t : Talker) → Belongs key (Advertise t) → key ≡ keys.Talker t.stream
key_of_advertise (keys.Talker stream) t belongs = ap keys.Talker belongs
key_of_advertise (keys.Listener stream) t belongs = absurd belongs
key_of_advertise (keys.Domain class) t belongs = absurd belongs

key_of_failed : (key : MsrpKey) (t : Talker) (failure : Failure) → Belongs key (Failed t failure) → key ≡ keys.Talker t.stream
key_of_failed (keys.Talker stream) t failure belongs = ap keys.Talker belongs
key_of_failed (keys.Listener stream) t failure belongs = absurd belongs
key_of_failed (keys.Domain class) t failure belongs = absurd belongs

advertises_by : (b : Bool) (key : MsrpKey) (content : MsrpContent) (s : StreamId)
    → is_awaiting stream_cmp s (if b then advertised_by content else []) ≡ true → Belongs key content → IsTalker s true key content
advertises_by false key content s h belongs = cc
advertises_by true key (Advertise t) s h belongs = talker_by key t.stream s (Advertise t) true refl (key_of_advertise key t belongs) h
advertises_by true key (Failed t failure) s h belongs = cc
advertises_by true key (Listener kind) s h belongs = cc
advertises_by true key (Domain priority vid) s h belongs = cc

advertises : (e : StreamEvent) (s : StreamId) → is_awaiting stream_cmp s (advertised_in e) ≡ true → Belongs e.1 e.2 → IsTalker s true e.1 e.2
unfolding advertised_in
advertises e s h belongs = advertises_by (is_declaring e.0) e.1 e.2 s h belongs

-- ---- events of which each key has at most one

abbrev pub IsOnce : List StreamEvent → Type 0
IsOnce events = (k : MsrpKey) → length (filter (λ e. same key_cmp e.1 k) events) ≤ 1

abbrev pub AreOwn : List StreamEvent → Type 0
AreOwn events = AllByRecursion (λ e. Belongs e.1 e.2) events

of_key : (k : MsrpKey) (e : StreamEvent) → e.1 ≡ k → same key_cmp e.1 k ≡ true
of_key k e is = ap (λ (x : MsrpKey). same key_cmp x k) is ∙ same_key k

-- no event both withdraws and declares
not_both : (event : MrpEvent) → is_leave event ≡ true → is_declaring event ≡ true → ⊥
not_both New leaves declares = cc
not_both JoinIn leaves declares = cc
not_both OnlyIn leaves declares = cc
not_both JoinMt leaves declares = cc
not_both OnlyMt leaves declares = cc
not_both Lv leaves declares = cc

-- none withdraws a value of which another is declared
kept_in : (events : List StreamEvent) → IsOnce events → (e : StreamEvent) → In e events → is_replaced events e ≡ true → ⊥
unfolding is_replaced
kept_in events once e here h =
    let leaves = and_first (is_leave e.0) _ h in
    let found = passes (declares_other e.1 e.2) events (and_second (has_value e.1) _ (and_second (is_leave e.0) _ h)) in
    let f = found.one in
    let of_it = and_first (same key_cmp f.1 e.1) _ (and_second (is_declaring f.0) _ found.test) in
    let one : e ≡ f = only_one (filter (λ x. same key_cmp x.1 e.1) events) e f (once e.1)
    (in_filter (λ x. same key_cmp x.1 e.1) events e (same_key e.1) here)
    (in_filter (λ x. same key_cmp x.1 e.1) events f of_it found.among) in
    not_both f.0 (ap (λ (x : StreamEvent). is_leave x.0) (sym one) ∙ leaves) (and_first (is_declaring f.0) _ found.test)

module _ (all : (k : StreamId) (more streams : List StreamId)
    → is_awaiting stream_cmp k (all_marked stream_cmp more streams) ≡ (is_awaiting stream_cmp k more || is_awaiting stream_cmp k streams))
    (events : List StreamEvent) (once : IsOnce events) (own : AreOwn events) where
  one_event : (k : MsrpKey) (e f : StreamEvent) → In e events → In f events → e.1 ≡ k → f.1 ≡ k → e ≡ f
  one_event k e f there here one other =
      only_one (filter (λ x. same key_cmp x.1 k) events) e f (once k) (in_filter (λ x. same key_cmp x.1 k) events e (of_key k e one) there)
      (in_filter (λ x. same key_cmp x.1 k) events f (of_key k f other) here)

  -- no stream has both
  clash : (s : StreamId) (e f : StreamEvent) → In e events → In f events → IsTalker s true e.1 e.2 → IsTalker s false f.1 f.2 → ⊥
  clash s e f there here one other =
      let no : true ≡ false = sym one.content_is
      ∙ ap (λ (x : StreamEvent). is_advertise x.2) (one_event (keys.Talker s) e f there here one.key_is other.key_is) ∙ other.content_is in
      absurd (differ no)
    where
      differ : true ≡ false → ⊥
      differ h = cc

  not_advertised : (f : StreamEvent) (t : Talker) (failure : Failure) → In f events → f.2 ≡ Failed t failure
      → is_awaiting stream_cmp t.stream (advertised events) ≡ true → ⊥
  not_advertised f t failure here is h =
      let found = from advertised_in t.stream events (or_nothing _ (sym (all t.stream (flat_map advertised_in events) []) ∙ h)) in
      let belongs = subst (Belongs f.1) is (of_all (λ e. Belongs e.1 e.2) events f own here) in
      clash t.stream found.event f found.among here
      (advertises found.event t.stream found.gives (of_all (λ e. Belongs e.1 e.2) events found.event own found.among))
      (record { key_is = key_of_failed f.1 t failure belongs; content_is = ap is_advertise is })

  not_failed_of : (f : StreamEvent) (content : MsrpContent) → In f events → f.2 ≡ content → is_failed_of (advertised events) content ≡ true → ⊥
  not_failed_of f (Advertise t) here is h = cc
  not_failed_of f (Failed t failure) here is h = not_advertised f t failure here is h
  not_failed_of f (Listener kind) here is h = cc
  not_failed_of f (Domain priority vid) here is h = cc

  not_double : (e : StreamEvent) → In e events → is_double (advertised events) e ≡ false
  unfolding is_double
  not_double e here = refuted _ (λ h. not_failed_of e e.2 here refl (and_second (is_declaring e.0) _ h))

  not_replaced : (e : StreamEvent) → In e events → not (is_replaced events e) ≡ true
  not_replaced e here = ap not (refuted _ (kept_in events once e here))

  -- none is counted
  pub no_doubles : doubles_count events ≡ 0
  unfolding doubles_count
  no_doubles = ap length (none_pass (is_double (advertised events)) events not_double)

  -- all are left
  pub all_left : without_replaced events ≡ events
  unfolding without_replaced
  all_left = all_pass (λ e. not (is_replaced events e)) events not_replaced
