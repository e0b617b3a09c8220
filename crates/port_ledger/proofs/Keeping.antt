-- What holds of every ledger is kept by a call that decides.
use Rattle.std.proofs.Common.{◌≡◌, ℕ, ◌<◌, ◌≤◌, Bool, List, [], ◌∷◌, Option, sym, ◌∙◌, ap, subst, arith, inl, inr}
use Rattle.std.specs.List.{AllByRecursion}
use Rattle.std.proofs.lemmas.Bool.{cases_order}
use Rattle.srp_base.specs.declared.{numbers.Cs.Cs, numbers.StreamId.StreamId}
use Rattle.stream_importance.specs.declared.{entry.Entry.Entry, entry.Fit.Fit, entry.Want.Want, slope.Caps.Caps}
use Rattle.stream_importance.specs.Importance.{moment_or, IsImportanceOrder}
use Rattle.port_ledger.specs.{booked_of, stream_of, IsAscending, decided_entries, Decides, marks_of, with_moments, since_after, BookWithRoom, IsKept, clocked_book, fit_in, tested_entry, unbooked_entry, unwanted_book, wanted_book, entry_with, with_want, without}
use Rattle.port_ledger.specs.Book.{Book}
use Rattle.port_ledger.proofs.{Running.all_with, Finding.with_want-lower, Finding.with_want-same, Finding.with_want-higher, Marking.different_from_ascending, Rounds.decided_decides, Standing.book_stands, Standing.decision_settled}

-- a moment that isn't past its ledger's isn't past a later one
moment_later : (since : Option Cs) (moment now : ℕ) → moment ≤ now → moment_or moment since ≤ moment
    → moment_or now since ≤ now
moment_later since moment now h1 h2 = grind arith

-- what a ledger is seen as has one book
pub book_is : {v w : BookWithRoom} → v ≡ w → v.book ≡ w.book
book_is e = ap (λ (v : BookWithRoom). v.book) e

pub moments_later : (moment now : ℕ) (xs : List Entry) → moment ≤ now
    → AllByRecursion (λ x. moment_or moment x.since ≤ moment) xs
    → AllByRecursion (λ x. moment_or now x.since ≤ now) xs
moments_later moment now xs up h = all_with xs h h (λ x k _. moment_later x.since moment now up k)

-- a fact of each entry, with a want
all-with_want : (P : Entry → Type 0) (want : Want) (xs : List Entry) → P (unbooked_entry want)
    → ((x : Entry) → stream_of x ≡ want.stream.0 → P x → P (entry_with x want)) → AllByRecursion P xs
    → AllByRecursion P (with_want xs want)
all-with_want P want [] new more h = (new, tt)
all-with_want P want (x ∷ xs) new more h = grind (arith, all-with_want P want xs new more h.1, cases_order, with_want-same, with_want-lower, with_want-higher)

stream_of-entry_with : (x : Entry) (want : Want) → stream_of x ≡ want.stream.0
    → stream_of (entry_with x want) ≡ stream_of x
stream_of-entry_with x want e = grind (arith)

pub ascending-with_want : (want : Want) (xs : List Entry) → IsAscending xs → IsAscending (with_want xs want)
ascending-with_want want [] up = (tt, tt)
ascending-with_want want (x ∷ xs) up =
    elim (cases_order want.stream.0 (stream_of x)) [
      | inl e ↦ subst (λ (ys : List Entry). IsAscending ys) (sym (with_want-same x xs want (sym e)))
          (let s : stream_of (entry_with x want) ≡ stream_of x = stream_of-entry_with x want (sym e) in
          (subst (λ (n : ℕ). AllByRecursion (λ y. n < stream_of y) xs) (sym s) up.0, up.1))
      | inr c ↦ elim c [
        | inl l ↦ subst (λ (ys : List Entry). IsAscending ys) (sym (with_want-lower x xs want l))
            ((l, all_with xs up.0 up.0 (λ y k _. omega (arith, l, k))), up)
        | inr l ↦ subst (λ (ys : List Entry). IsAscending ys) (sym (with_want-higher x xs want l))
            (all-with_want (λ y. stream_of x < stream_of y) want xs l (λ y e k. omega (arith, stream_of-entry_with y want e, k)) up.0, ascending-with_want want xs up.1)
      ]
    ]

moment-entry_with : (now : ℕ) (x : Entry) (want : Want) → moment_or now x.since ≤ now
    → moment_or now (entry_with x want).since ≤ now
moment-entry_with now x want h = grind (arith)

pub moments-with_want : (now : ℕ) (want : Want) (xs : List Entry)
    → AllByRecursion (λ x. moment_or now x.since ≤ now) xs
    → AllByRecursion (λ x. moment_or now x.since ≤ now) (with_want xs want)
moments-with_want now want xs h = grind (arith, all-with_want, moment-entry_with)

-- moments that are set change no stream, and none is past the decision's
above-settled : (n now : ℕ) (xs : List Entry) (marks : List Bool) → AllByRecursion (λ y. n < stream_of y) xs
    → AllByRecursion (λ y. n < stream_of y) (with_moments now xs marks)
above-settled n now [] marks h = tt
above-settled n now (x ∷ xs) [] h = tt
above-settled n now (x ∷ xs) (mark ∷ marks) h = (h.0, above-settled n now xs marks h.1)

ascending-settled : (now : ℕ) (xs : List Entry) (marks : List Bool) → IsAscending xs
    → IsAscending (with_moments now xs marks)
ascending-settled now [] marks up = tt
ascending-settled now (x ∷ xs) [] up = tt
ascending-settled now (x ∷ xs) (mark ∷ marks) up = (above-settled (stream_of x) now xs marks up.0, ascending-settled now xs marks up.1)

moment-since_after : (now : ℕ) (since : Option Cs) (mark : Bool) → moment_or now since ≤ now
    → moment_or now (since_after now since mark) ≤ now
moment-since_after now since mark h1 = grind arith

moments-settled : (now : ℕ) (xs : List Entry) (marks : List Bool)
    → AllByRecursion (λ x. moment_or now x.since ≤ now) xs
    → AllByRecursion (λ x. moment_or now x.since ≤ now) (with_moments now xs marks)
moments-settled now [] marks h = tt
moments-settled now (x ∷ xs) [] h = tt
moments-settled now (x ∷ xs) (mark ∷ marks) h = (moment-since_after now x.since mark h.0, moments-settled now xs marks h.1)

pub ascending_after : (now : ℕ) (caps : Caps) (before after : List Entry) → IsAscending before
    → Decides now caps before after → IsAscending after
ascending_after now caps before after up d = subst (λ (ys : List Entry). IsAscending ys) (sym d.moments) (ascending-settled now before (marks_of after) up)

-- a decided list of entries makes a ledger
pub kept_after : (caps : Caps) (now : ℕ) (before after : List Entry) → caps.class_a ≤ caps.both → IsAscending before
    → AllByRecursion (λ x. moment_or now x.since ≤ now) before → Decides now caps before after → IsKept (record { caps = caps; moment = now; entries = after })
kept_after caps now before after shares up moments d = grind (arith, ascending_after, moments-settled, decision_settled)

-- the ledger after a want
pub kept_with_want : (book : Book) (now : ℕ) (want : Want) (after : List Entry) → IsKept book → book.moment ≤ now
    → Decides now book.caps (with_want book.entries want) after → IsKept (record { caps = book.caps; moment = now; entries = after })
kept_with_want book now want after kept up d = grind (arith, kept_after, ascending-with_want, moments-with_want, moments_later)

-- a want is tested against the entries that the book has
pub fit_in_book : (now moment : ℕ) (caps : Caps) (entries one two : List Entry) (want : Want) (x : Entry) (fit : Fit) (book : Book)
    → fit ≡ fit_in now caps (booked_of two) x → x ≡ tested_entry one want → one ≡ entries → two ≡ entries
    → record { caps = caps; moment = moment; entries = entries } ≡ book → fit ≡ fit_in now book.caps (booked_of book.entries) (tested_entry book.entries want)
fit_in_book now moment caps entries one two want x fit book e tested first second same =
    subst (λ (b : Book). fit ≡ fit_in now b.caps (booked_of b.entries) (tested_entry b.entries want)) same
    (e ∙ (ap (λ ys. fit_in now caps (booked_of ys) x) second ∙ ap (λ y. fit_in now caps (booked_of entries) y) (tested ∙ ap (λ ys. tested_entry ys want) first)))

-- what is taken out leaves the others as they were
pub all-without : (P : Entry → Type 0) (stream : StreamId) (xs : List Entry) → AllByRecursion P xs
    → AllByRecursion P (without xs stream)
all-without P stream [] h = tt
all-without P stream (x ∷ xs) h = grind (arith, all-without P stream xs h.1)

pub ascending-without : (stream : StreamId) (xs : List Entry) → IsAscending xs → IsAscending (without xs stream)
ascending-without stream [] up = tt
ascending-without stream (x ∷ xs) up = grind (arith, ascending-without stream xs up.1, all-without)

-- every step of a ledger keeps what holds of every ledger
pub kept_wanted : (book : Book) (now : ℕ) (want : Want) → IsImportanceOrder now → IsKept book → book.moment ≤ now
    → IsKept (wanted_book now want book)
kept_wanted book now want o kept up =
    kept_with_want book now want (decided_entries now book.caps (with_want book.entries want)) kept up
    (decided_decides now o book.caps (with_want book.entries want) (different_from_ascending _ (ascending-with_want want book.entries kept.ascending)))

pub kept_unwanted : (book : Book) (now : ℕ) (stream : StreamId) → IsImportanceOrder now → IsKept book
    → book.moment ≤ now → IsKept (unwanted_book now stream book)
kept_unwanted book now stream o kept up =
    kept_after book.caps now (without book.entries stream) (decided_entries now book.caps (without book.entries stream)) kept.shares
    (ascending-without stream book.entries kept.ascending)
    (all-without (λ x. moment_or now x.since ≤ now) stream book.entries (moments_later book.moment now book.entries up kept.moments))
    (decided_decides now o book.caps (without book.entries stream) (different_from_ascending _ (ascending-without stream book.entries kept.ascending)))

pub kept_clocked : (book : Book) (now : ℕ) → IsKept book → book.moment ≤ now → IsKept (clocked_book now book)
kept_clocked book now kept up =
    record {
      ascending = kept.ascending;
      shares = kept.shares;
      moments = moments_later book.moment now book.entries up kept.moments;
      decision = book_stands book kept now up;
    }

pub ascending_wanted : (now : ℕ) (caps : Caps) (xs : List Entry) (want : Want) → IsImportanceOrder now → IsAscending xs
    → IsAscending (decided_entries now caps (with_want xs want))
ascending_wanted now caps xs want o up =
    let next : IsAscending (with_want xs want) = ascending-with_want want xs up in
    ascending_after now caps (with_want xs want) (decided_entries now caps (with_want xs want)) next
    (decided_decides now o caps (with_want xs want) (different_from_ascending _ next))
