-- What holds of both contents of each key that has a row: what the calls of a participant make of it.
use Rattle.std.proofs.Common.{◌≡◌, ℕ, Bool, true, false, if◌then◌else◌, List, [], ◌∷◌, refl, sym, ap, subst, ◌∙◌}
use Rattle.std.specs.Prelude.{Option, Some, None, fold, option_map, option_and_then}
use Rattle.std.specs.List.{AllByRecursion}
use Rattle.srp_base.specs.declared.{numbers.Cs.Cs, mrp.MrpEvent.MrpEvent}
use Rattle.srp_base.specs.declared.mrp.MrpEvent.TheVariants.{New, JoinIn, OnlyIn, JoinMt, OnlyMt, Lv}
use Rattle.mrp_participant.specs.declared.row.Row.{Row}
use Rattle.mrp_participant.specs.{Lookup.ChangesOnly, Lookup.find, Lookup.same, Row.is_live, Row.kept_row, Row.declared_row, Row.after_declare, Row.after_withdraw, Row.after_leave, Row.left_row, Row.leave_all_row, Row.heard_row, Row.makes_row, Row.after_hear, Row.row_hearing, Row.row_after_receive, Row.after_leave_due, Row.leave_is_due, Row.periodic_row, Row.fresh_row, Sending.sent_row}
use Rattle.applicant.specs.Table as applicant
use Rattle.msrp_codec.specs.declared.{pdu.MsrpKey.MsrpKey, pdu.MsrpContent.MsrpContent}
use Rattle.msrp_codec.specs.Content.{Belongs}
use Rattle.msrp.proofs.KeyLemmas.{key_is}
use Rattle.msrp.specs.Part.{Part}
use Rattle.msrp.specs.{key_cmp, same_content, HasOwnContents}

abbrev pub MsrpRow : Type 0
MsrpRow = Row MsrpKey MsrpContent

-- an event as it is heard
abbrev pub MsrpHeard : Type 0
MsrpHeard = MrpEvent × MsrpKey × MsrpContent

-- a row has the contents of another
pub record SameContents (r q : MsrpRow) : Type 0 where
  pub content : q.content ≡ r.content
  pub heard : q.heard ≡ r.heard

-- something holds of both contents of a key's row
pub record IsRowOf (P : MsrpKey → MsrpContent → Type 0) (key : MsrpKey) (r : MsrpRow) : Type 0 where
  pub content : P key r.content
  pub heard : P key r.heard

-- it holds of those of each key that has a row
abbrev pub HoldsOfEach : (MsrpKey → MsrpContent → Type 0) → Part → Type 0
HoldsOfEach P s = (key : MsrpKey) (r : MsrpRow) → find key_cmp key s.rows ≡ Some r → IsRowOf P key r

kept_is : (r x q : MsrpRow) → x.content ≡ r.content → x.heard ≡ r.heard → kept_row x ≡ Some q → SameContents r q
kept_is r x q e f h = by (is_live x) h
  where
    by : (b : Bool) → (if b then Some x else None) ≡ Some q → SameContents r q
    by true k = let is : x ≡ q = cc in record { content = ap (λ (y : MsrpRow). y.content) (sym is) ∙ e; heard = ap (λ (y : MsrpRow). y.heard) (sym is) ∙ f }
    by false k = cc

some_is_same : (r q : MsrpRow) → Some r ≡ Some q → SameContents r q
some_is_same r q h = let is : r ≡ q = cc in record { content = ap (λ (y : MsrpRow). y.content) (sym is); heard = ap (λ (y : MsrpRow). y.heard) (sym is) }

sent_same : (leave_all taken : Bool) (leave : Cs) (r q : MsrpRow) → sent_row leave_all taken leave r ≡ Some q → SameContents r q
sent_same true taken leave r q h = kept_is r _ q refl refl h
sent_same false true leave r q h = kept_is r _ q refl refl h
sent_same false false leave r q h = some_is_same r q h

due_same : (now : ℕ) (r q : MsrpRow) → after_leave_due now r ≡ Some q → SameContents r q
due_same now r q h = by (leave_is_due now r) h
  where
    by : (b : Bool) → (if b then left_row r else Some r) ≡ Some q → SameContents r q
    by true k = kept_is r _ q refl refl k
    by false k = some_is_same r q k

periodic_same : (b : Bool) (r : MsrpRow) → SameContents r (if b then periodic_row r else r)
periodic_same true r = record { content = refl; heard = refl }
periodic_same false r = record { content = refl; heard = refl }

module _ (P : MsrpKey → MsrpContent → Type 0) where
  row_same : (key : MsrpKey) (r q : MsrpRow) → SameContents r q → IsRowOf P key r → IsRowOf P key q
  row_same key r q e own =
      record {
        content = subst (λ (c : MsrpContent). P key c) (sym e.content) own.content;
        heard = subst (λ (c : MsrpContent). P key c) (sym e.heard) own.heard;
      }

  -- where a function takes the row of a key, and keeps its contents, it holds of them still
  then_row : (key : MsrpKey) (f : MsrpRow → Option MsrpRow) (o : Option MsrpRow) → ((r q : MsrpRow) → f r ≡ Some q → SameContents r q)
      → ((r : MsrpRow) → o ≡ Some r → IsRowOf P key r) → (q : MsrpRow) → option_and_then f o ≡ Some q → IsRowOf P key q
  then_row key f None keeps own q h = cc
  then_row key f (Some r) keeps own q h = row_same key r q (keeps r q h) (own r refl)

  map_row : (key : MsrpKey) (f : MsrpRow → MsrpRow) (o : Option MsrpRow) → ((r : MsrpRow) → SameContents r (f r))
      → ((r : MsrpRow) → o ≡ Some r → IsRowOf P key r) → (q : MsrpRow) → option_map f o ≡ Some q → IsRowOf P key q
  map_row key f None keeps own q h = cc
  map_row key f (Some r) keeps own q h = let is : f r ≡ q = cc in subst (λ (x : MsrpRow). IsRowOf P key x) is (row_same key r (f r) (keeps r) (own r refl))

  -- ---- sending, and timers

  pub each-sent : (s t : Part) (leave_all : Bool) (taken : MsrpRow → Bool) (leave : Cs) → HoldsOfEach P s
      → ((k : MsrpKey) → find key_cmp k t.rows ≡ option_and_then (λ r. sent_row leave_all (taken r) leave r) (find key_cmp k s.rows)) → HoldsOfEach P t
  each-sent s t leave_all taken leave own law key q h =
      then_row key (λ r. sent_row leave_all (taken r) leave r) (find key_cmp key s.rows) (λ r q. sent_same leave_all (taken r) leave r q) (own key) q (sym (law key) ∙ h)

  pub each-periodic : (s t : Part) → HoldsOfEach P s → ((k : MsrpKey) → find key_cmp k t.rows ≡ option_map periodic_row (find key_cmp k s.rows)) → HoldsOfEach P t
  each-periodic s t own law key q h = map_row key periodic_row (find key_cmp key s.rows) (λ r. record { content = refl; heard = refl }) (own key) q (sym (law key) ∙ h)

  pub each-due : (s t : Part) (now : ℕ) (b : Bool) → HoldsOfEach P s
      → ((k : MsrpKey) → find key_cmp k t.rows ≡ option_map (λ r. if b then periodic_row r else r) (option_and_then (after_leave_due now) (find key_cmp k s.rows))) → HoldsOfEach P t
  each-due s t now b own law key q h =
      map_row key (λ r. if b then periodic_row r else r) (option_and_then (after_leave_due now) (find key_cmp key s.rows)) (periodic_same b)
      (then_row key (after_leave_due now) (find key_cmp key s.rows) (due_same now) (own key)) q (sym (law key) ∙ h)

  -- ---- one key

  -- one key has another row, of whose contents it holds, and others have what they had
  pub each-changed : (s t : Part) (x : MsrpKey) (new : Option MsrpRow) → HoldsOfEach P s → ChangesOnly key_cmp x new s.rows t.rows
      → ((q : MsrpRow) → new ≡ Some q → IsRowOf P x q) → HoldsOfEach P t
  each-changed s t x new own changes row key q h = by (same key_cmp x key) refl (sym (changes key) ∙ h)
    where
      by : (b : Bool) → same key_cmp x key ≡ b → (if same key_cmp x key then new else find key_cmp key s.rows) ≡ Some q → IsRowOf P key q
      by true e h = subst (λ (k : MsrpKey). IsRowOf P k q) (key_is x key e) (row q (sym (ap (λ b. if b then new else find key_cmp key s.rows) e) ∙ h))
      by false e h = own key q (sym (ap (λ b. if b then new else find key_cmp key s.rows) e) ∙ h)

  pub left_own : (key : MsrpKey) (o : Option MsrpRow) → ((r : MsrpRow) → o ≡ Some r → IsRowOf P key r) → (q : MsrpRow) → after_leave o ≡ Some q → IsRowOf P key q
  left_own key None own q h = cc
  left_own key (Some r) own q h = row_same key r q (kept_is r _ q refl refl h) (own r refl)

  pub withdrawn_own : (key : MsrpKey) (o : Option MsrpRow) → ((r : MsrpRow) → o ≡ Some r → IsRowOf P key r) → (q : MsrpRow) → after_withdraw o ≡ Some q → IsRowOf P key q
  withdrawn_own key None own q h = cc
  withdrawn_own key (Some r) own q h =
      let is : record r { applicant = applicant.withdraw_of r.applicant } ≡ q = cc in
      subst (λ (x : MsrpRow). IsRowOf P key x) is (record { content = (own r refl).content; heard = (own r refl).heard })

  declared_row_own : (key : MsrpKey) (c : MsrpContent) (r : MsrpRow) → P key c → IsRowOf P key r → IsRowOf P key (declared_row same_content c r)
  declared_row_own key c r holds own = by (applicant.is_declared_in r.applicant) (same_content r.content c)
    where
      by : (a b : Bool) → IsRowOf P key
          (if a then (if b then r else record r { applicant = applicant.redeclare_of r.applicant; content = c }) else record r { applicant = applicant.declare_of r.applicant; content = c })
      by true true = own
      by true false = record { content = holds; heard = own.heard }
      by false b = record { content = holds; heard = own.heard }

  pub declared_own : (key : MsrpKey) (c : MsrpContent) (o : Option MsrpRow) → P key c → ((r : MsrpRow) → o ≡ Some r → IsRowOf P key r) → (q : MsrpRow)
      → after_declare same_content key c o ≡ Some q → IsRowOf P key q
  declared_own key c None holds own q h =
      let is : declared_row same_content c (fresh_row key c) ≡ q = cc in
      subst (λ (x : MsrpRow). IsRowOf P key x) is (declared_row_own key c (fresh_row key c) holds (record { content = holds; heard = holds }))
  declared_own key c (Some r) holds own q h =
      let is : declared_row same_content c r ≡ q = cc in
      subst (λ (x : MsrpRow). IsRowOf P key x) is (declared_row_own key c r holds (own r refl))

  -- ---- receiving

  heard_own : (key : MsrpKey) (event : MrpEvent) (c : MsrpContent) (leave : Cs) (r : MsrpRow) → P key c → IsRowOf P key r → IsRowOf P key (heard_row event c leave r)
  heard_own key New c leave r holds own = record { content = own.content; heard = holds }
  heard_own key JoinIn c leave r holds own = record { content = own.content; heard = holds }
  heard_own key OnlyIn c leave r holds own = record { content = own.content; heard = own.heard }
  heard_own key JoinMt c leave r holds own = record { content = own.content; heard = holds }
  heard_own key OnlyMt c leave r holds own = record { content = own.content; heard = own.heard }
  heard_own key Lv c leave r holds own = record { content = own.content; heard = own.heard }

  -- it holds of both contents of the row of a key, if that has one
  abbrev HoldsIn : MsrpKey → Option MsrpRow → Type 0
  HoldsIn key None = Unit {0}
  HoldsIn key (Some r) = IsRowOf P key r

  own_in : (key : MsrpKey) (o : Option MsrpRow) → ((r : MsrpRow) → o ≡ Some r → IsRowOf P key r) → HoldsIn key o
  own_in key None own = tt
  own_in key (Some r) own = own r refl

  own_out : (key : MsrpKey) (o : Option MsrpRow) → HoldsIn key o → (r : MsrpRow) → o ≡ Some r → IsRowOf P key r
  own_out key None own r h = cc
  own_out key (Some q) own r h = let is : q ≡ r = cc in subst (λ (x : MsrpRow). IsRowOf P key x) is own

  hear_own : (key : MsrpKey) (event : MrpEvent) (c : MsrpContent) (leave : Cs) (o : Option MsrpRow) → P key c → HoldsIn key o → HoldsIn key (after_hear event key c leave o)
  hear_own key event c leave None holds own = by (makes_row event)
    where
      by : (b : Bool) → HoldsIn key (if b then Some (heard_row event c leave (fresh_row key c)) else None)
      by true = heard_own key event c leave (fresh_row key c) holds (record { content = holds; heard = holds })
      by false = tt
  hear_own key event c leave (Some r) holds own = heard_own key event c leave r holds own

  hearing_own : (key : MsrpKey) (leave : Cs) (o : Option MsrpRow) (e : MsrpHeard) → P e.1 e.2 → HoldsIn key o → HoldsIn key (row_hearing key_cmp leave key o e)
  hearing_own key leave o e holds own = by (same key_cmp e.1 key) refl
    where
      by : (b : Bool) → same key_cmp e.1 key ≡ b → HoldsIn key (if b then after_hear e.0 e.1 e.2 leave o else o)
      by true h =
          let is : e.1 ≡ key = key_is e.1 key h in
          subst (λ (k : MsrpKey). HoldsIn key (after_hear e.0 k e.2 leave o)) (sym is) (hear_own key e.0 e.2 leave o (subst (λ (k : MsrpKey). P k e.2) is holds) own)
      by false h = own

  all_heard_own : (key : MsrpKey) (leave : Cs) (events : List MsrpHeard) (o : Option MsrpRow) → AllByRecursion (λ e. P e.1 e.2) events → HoldsIn key o
      → HoldsIn key (fold (row_hearing key_cmp leave key) o events)
  all_heard_own key leave [] o hold own = own
  all_heard_own key leave (e ∷ events) o hold own = all_heard_own key leave events (row_hearing key_cmp leave key o e) hold.1 (hearing_own key leave o e hold.0 own)

  left_all_own : (key : MsrpKey) (leave : Cs) (o : Option MsrpRow) → HoldsIn key o → HoldsIn key (option_map (leave_all_row leave) o)
  left_all_own key leave None own = tt
  left_all_own key leave (Some r) own = record { content = own.content; heard = own.heard }

  received_own : (key : MsrpKey) (leave : Cs) (leave_all : Bool) (events : List MsrpHeard) (o : Option MsrpRow) → AllByRecursion (λ e. P e.1 e.2) events → HoldsIn key o
      → HoldsIn key (row_after_receive key_cmp leave leave_all events key o)
  received_own key leave true events o hold own = all_heard_own key leave events (option_map (leave_all_row leave) o) hold (left_all_own key leave o own)
  received_own key leave false events o hold own = all_heard_own key leave events o hold own

  pub each-received : (s t : Part) (leave : Cs) (leave_all : Bool) (events : List MsrpHeard) → HoldsOfEach P s → AllByRecursion (λ e. P e.1 e.2) events
      → ((k : MsrpKey) → find key_cmp k t.rows ≡ row_after_receive key_cmp leave leave_all events k (find key_cmp k s.rows)) → HoldsOfEach P t
  each-received s t leave leave_all events own hold law key q h =
      own_out key (row_after_receive key_cmp leave leave_all events key (find key_cmp key s.rows))
      (received_own key leave leave_all events (find key_cmp key s.rows) hold (own_in key (find key_cmp key s.rows) (own key))) q (sym (law key) ∙ h)

-- ---- contents of their keys

pub own_row : (s : Part) → HasOwnContents s → HoldsOfEach Belongs s
own_row s own key r h = record { content = own.declared key r h; heard = own.registered key r h }

pub own_from : (t : Part) → HoldsOfEach Belongs t → HasOwnContents t
own_from t each = record { declared = λ key r h. (each key r h).content; registered = λ key r h. (each key r h).heard }

pub own-sent : (s t : Part) (leave_all : Bool) (taken : MsrpRow → Bool) (leave : Cs) → HasOwnContents s
    → ((k : MsrpKey) → find key_cmp k t.rows ≡ option_and_then (λ r. sent_row leave_all (taken r) leave r) (find key_cmp k s.rows)) → HasOwnContents t
own-sent s t leave_all taken leave own law = own_from t (each-sent Belongs s t leave_all taken leave (own_row s own) law)

pub own-periodic : (s t : Part) → HasOwnContents s → ((k : MsrpKey) → find key_cmp k t.rows ≡ option_map periodic_row (find key_cmp k s.rows)) → HasOwnContents t
own-periodic s t own law = own_from t (each-periodic Belongs s t (own_row s own) law)

pub own-due : (s t : Part) (now : ℕ) (b : Bool) → HasOwnContents s
    → ((k : MsrpKey) → find key_cmp k t.rows ≡ option_map (λ r. if b then periodic_row r else r) (option_and_then (after_leave_due now) (find key_cmp k s.rows))) → HasOwnContents t
own-due s t now b own law = own_from t (each-due Belongs s t now b (own_row s own) law)

pub own-changed : (s t : Part) (x : MsrpKey) (new : Option MsrpRow) → HasOwnContents s → ChangesOnly key_cmp x new s.rows t.rows
    → ((q : MsrpRow) → new ≡ Some q → IsRowOf Belongs x q) → HasOwnContents t
own-changed s t x new own changes row = own_from t (each-changed Belongs s t x new (own_row s own) changes row)

pub own-received : (s t : Part) (leave : Cs) (leave_all : Bool) (events : List MsrpHeard) → HasOwnContents s → AllByRecursion (λ e. Belongs e.1 e.2) events
    → ((k : MsrpKey) → find key_cmp k t.rows ≡ row_after_receive key_cmp leave leave_all events k (find key_cmp k s.rows)) → HasOwnContents t
own-received s t leave leave_all events own belong law = own_from t (each-received Belongs s t leave leave_all events (own_row s own) belong law)
