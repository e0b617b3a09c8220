-- Each line ends with its only line feed.
use Rattle.std.proofs.Common.{◌≡◌, ℕ, zero, suc, ◌/◌, ◌%◌, Bool, true, false, ◌&&◌, List, [], ◌∷◌, ◌++◌, refl, sym, ap, ◌∙◌, append_assoc, arith}
use Rattle.std.specs.Prelude.{◌==◌, if◌then◌else◌, not, codes}
use Rattle.std.specs.{Fmt.decimal, Fmt.digits, Fmt.digits_onto, Fmt.digit_glyph, List.AllByRecursion, List.list_all}
use Rattle.std.proofs.lemmas.Bool.Decides.{nat_tests}
use Rattle.srp_base.proofs.Arithmetic.{glyph_plain}
use Rattle.srp_base.specs.Text.{whole_of}
use Rattle.srp_base.specs.declared.{mrp.App.App, mrp.App.TheVariants.Mvrp, mrp.App.TheVariants.Msrp}
use Rattle.node_core.specs.declared.{types.NodeStep.NodeStep, types.PortStep.PortStep, types.StepReply.StepReply}
use Rattle.node_core.specs.declared.types.PortStep.TheVariants.{Work, LeaveNow, LeaveAllNow, PeriodicNow, Due, Settle, Send}
use Rattle.node_core.specs.declared.types.StepReply.TheVariants.{Nothing, Discarded, Received, Fired, Settled, Silent, Sent, Taken}
use Rattle.journal_lines.specs.{app_name, step_name, reply_name, event_name, event_line, place_text, step_line, IsLine}
use Rattle.journal_lines.proofs.NameLemmas.{Lacks}

-- ---- texts without a line feed

plain_as : (xs : List ℕ) → list_all (λ c. not (c == 10)) xs ≡ true → Lacks 10 xs
plain_as [] h = tt
plain_as (x ∷ xs) h =
    let both = and_true (not (x == 10)) (list_all (λ c. not (c == 10)) xs) h in
    let test = both.0 in
    ((λ e. grind (arith, nat_tests, test, e)), plain_as xs both.1)
  where
    and_true : (a b : Bool) → (a && b) ≡ true → (a ≡ true) × (b ≡ true)
    and_true true b h = (refl, h)
    and_true false b h = cc

pub plain_append : (xs ys : List ℕ) → Lacks 10 xs → Lacks 10 ys → Lacks 10 (xs ++ ys)
plain_append [] ys h k = k
plain_append (x ∷ xs) ys h k = (h.0, plain_append xs ys h.1 k)

plain_whole : (pieces : List (List ℕ)) → AllByRecursion (Lacks 10) pieces → Lacks 10 (whole_of pieces)
plain_whole [] h = tt
plain_whole (p ∷ pieces) h = plain_append p (whole_of pieces) h.0 (plain_whole pieces h.1)

-- ---- numbers

digits_plain : (k n : ℕ) (acc : List ℕ) → Lacks 10 acc → Lacks 10 (digits_onto k 10 false n acc)
digits_plain zero n acc h = h
digits_plain (suc k) n acc h = by (n / 10 == 0) (digits_plain k (n / 10) (digit_glyph false (n % 10) ∷ acc) (glyph_plain (n % 10), h))
  where
    by : (b : Bool) → Lacks 10 (digits_onto k 10 false (n / 10) (digit_glyph false (n % 10) ∷ acc))
        → Lacks 10 (if b then digit_glyph false (n % 10) ∷ acc else digits_onto k 10 false (n / 10) (digit_glyph false (n % 10) ∷ acc))
    by true later = (glyph_plain (n % 10), h)
    by false later = later

number_plain : (n : ℕ) → Lacks 10 (decimal n)
unfolding digits
number_plain n = digits_plain 64 n [] nothing
  where
    nothing : Lacks 10 []
    nothing = tt

-- ---- words

app_plain : (app : App) → Lacks 10 (app_name app)
app_plain Mvrp = plain_as (codes "mvrp") refl
app_plain Msrp = plain_as (codes "msrp") refl

with_app : (word : List ℕ) (app : App) → Lacks 10 word → Lacks 10 (whole_of (word ∷ app_name app ∷ []))
with_app word app h = plain_whole (word ∷ app_name app ∷ []) (h, (app_plain app, tt))

step_plain : (step : PortStep) → Lacks 10 (step_name step)
step_plain Work = plain_as (codes "work") refl
step_plain (LeaveNow key) = plain_as (codes "leave") refl
step_plain (LeaveAllNow app) = with_app (codes "leaveall ") app (plain_as (codes "leaveall ") refl)
step_plain (PeriodicNow app) = with_app (codes "periodic ") app (plain_as (codes "periodic ") refl)
step_plain Due = plain_as (codes "due") refl
step_plain Settle = plain_as (codes "settle") refl
step_plain (Send app) = with_app (codes "send ") app (plain_as (codes "send ") refl)

with_number : (word : List ℕ) (n : ℕ) → Lacks 10 word → Lacks 10 (whole_of (word ∷ decimal n ∷ []))
with_number word n h = plain_whole (word ∷ decimal n ∷ []) (h, (number_plain n, tt))

reply_plain : (reply : StepReply) → Lacks 10 (reply_name reply)
reply_plain Nothing = plain_as (codes "nothing") refl
reply_plain (Discarded n) = with_number (codes "discarded ") n (plain_as (codes "discarded ") refl)
reply_plain (Received n) = with_number (codes "received ") n (plain_as (codes "received ") refl)
reply_plain (Fired n) = with_number (codes "fired ") n (plain_as (codes "fired ") refl)
reply_plain (Settled n) = with_number (codes "settled ") n (plain_as (codes "settled ") refl)
reply_plain Silent = plain_as (codes "silent") refl
reply_plain (Sent n) = with_number (codes "sent ") n (plain_as (codes "sent ") refl)
reply_plain Taken = plain_as (codes "taken") refl

event_plain : (missed : Bool) → Lacks 10 (event_name missed)
event_plain true = plain_as (codes "missed") refl
event_plain false = plain_as (codes "done") refl

-- ---- lines

pub event_is_line : (t entry : ℕ) (missed : Bool) → IsLine (event_line t entry missed)
event_is_line t entry missed =
    let front : List ℕ = whole_of (decimal t ∷ codes " event " ∷ decimal entry ∷ codes " " ∷ event_name missed ∷ []) in
    record {
      front = front;
      ends = ended (decimal t) (codes " event ") (decimal entry) (codes " ") (event_name missed);
      one = plain_whole (decimal t ∷ codes " event " ∷ decimal entry ∷ codes " " ∷ event_name missed ∷ [])
          (number_plain t, (plain_as (codes " event ") refl, (number_plain entry, (plain_as (codes " ") refl, (event_plain missed, tt)))));
    }
  where
    ended : (a b c d e : List ℕ) → whole_of (a ∷ b ∷ c ∷ d ∷ e ∷ codes "\n" ∷ []) ≡ whole_of (a ∷ b ∷ c ∷ d ∷ e ∷ []) ++ 10 ∷ []
    ended a b c d e =
        sym (append_assoc a (b ++ (c ++ (d ++ (e ++ [])))) (10 ∷ [])
        ∙ ap (λ (x : List ℕ). a ++ x) (append_assoc b (c ++ (d ++ (e ++ []))) (10 ∷ [])
        ∙ ap (λ (x : List ℕ). b ++ x) (append_assoc c (d ++ (e ++ [])) (10 ∷ [])
        ∙ ap (λ (x : List ℕ). c ++ x) (append_assoc d (e ++ []) (10 ∷ [])
        ∙ ap (λ (x : List ℕ). d ++ x) (append_assoc e [] (10 ∷ []))))))

pub step_is_line : (t : ℕ) (port : List ℕ) (st : NodeStep) → Lacks 10 port → IsLine (step_line t port st)
step_is_line t port st plain =
    let place : List ℕ = place_text t port in
    let made : List ℕ = whole_of (step_name st.step ∷ codes " " ∷ reply_name st.reply ∷ []) in
    record {
      front = place ++ made;
      ends = ap (λ (x : List ℕ). place ++ x) (ended (step_name st.step) (codes " ") (reply_name st.reply)) ∙ sym (append_assoc place made (10 ∷ []));
      one = plain_append place made
          (plain_whole (decimal t ∷ codes " " ∷ port ∷ codes " " ∷ []) (number_plain t, (plain_as (codes " ") refl, (plain, (plain_as (codes " ") refl, tt)))))
          (plain_whole (step_name st.step ∷ codes " " ∷ reply_name st.reply ∷ []) (step_plain st.step, (plain_as (codes " ") refl, (reply_plain st.reply, tt))));
    }
  where
    ended : (a b c : List ℕ) → whole_of (a ∷ b ∷ c ∷ codes "\n" ∷ []) ≡ whole_of (a ∷ b ∷ c ∷ []) ++ 10 ∷ []
    ended a b c =
        sym (append_assoc a (b ++ (c ++ [])) (10 ∷ [])
        ∙ ap (λ (x : List ℕ). a ++ x) (append_assoc b (c ++ []) (10 ∷ [])
        ∙ ap (λ (x : List ℕ). b ++ x) (append_assoc c [] (10 ∷ []))))
