-- What merging over a list of ports comes to.
use Rattle.std.proofs.Common.{◌≡◌, ◌≢◌, ◌↔◌, Bool, true, false, cond, List, [], ◌∷◌, map, length, Option, Some, None, refl, sym, ◌∙◌, ap, arith}
use Rattle.std.specs.{List.AllByRecursion, List.fold, List.Sorted.IsPermutation}
use Rattle.std.proofs.lemmas.{List.Sorted.IsPermutation-sym, List.Sorted.All-permutation, List.Sorted.length_permutation, List.Elements.All-from_recursion, List.Elements.recursion_from_All}
use Rattle.srp_base.specs.declared.streams.ListenerKind.{ListenerKind}
use Rattle.srp_base.specs.declared.streams.ListenerKind.TheVariants.{AskingFailed, Ready, ReadyFailed}
use Rattle.msrp_listener.specs.{PortListener, AreAskingFailed, AreReady, counted_kind, listener_out, merge_of}

-- two kinds that come to Ready are Ready, and the same of AskingFailed
abbrev MergesAlone : ListenerKind → Type 0
MergesAlone kind = (x y : ListenerKind) → merge_of x y ≡ kind → (x ≡ kind) × (y ≡ kind)

ready_alone : MergesAlone Ready
ready_alone AskingFailed y h = absurd (elim y as (λ k. merge_of AskingFailed k ≡ Ready → ⊥) [ AskingFailed ↦ λ e. cc | Ready ↦ λ e. cc | ReadyFailed ↦ λ e. cc ] h)
ready_alone Ready AskingFailed h = cc
ready_alone Ready Ready h = (refl, refl)
ready_alone Ready ReadyFailed h = cc
ready_alone ReadyFailed y h = absurd (elim y as (λ k. merge_of ReadyFailed k ≡ Ready → ⊥) [ AskingFailed ↦ λ e. cc | Ready ↦ λ e. cc | ReadyFailed ↦ λ e. cc ] h)

asking_failed_alone : MergesAlone AskingFailed
asking_failed_alone AskingFailed AskingFailed h = (refl, refl)
asking_failed_alone AskingFailed Ready h = cc
asking_failed_alone AskingFailed ReadyFailed h = cc
asking_failed_alone Ready AskingFailed h = cc
asking_failed_alone Ready Ready h = cc
asking_failed_alone Ready ReadyFailed h = cc
asking_failed_alone ReadyFailed AskingFailed h = cc
asking_failed_alone ReadyFailed Ready h = cc
asking_failed_alone ReadyFailed ReadyFailed h = cc

-- each port counts as a kind
abbrev CountAs : ListenerKind → List PortListener → Type 0
CountAs kind rows = AllByRecursion (λ row. counted_kind row ≡ kind) rows

merged_alone : (kind : ListenerKind) → MergesAlone kind → (first : ListenerKind) (rows : List PortListener)
    → fold merge_of first (map counted_kind rows) ≡ kind → (first ≡ kind) × CountAs kind rows
merged_alone kind alone first [] h = (h, tt)
merged_alone kind alone first (row ∷ rows) h =
    let rest : (merge_of first (counted_kind row) ≡ kind) × CountAs kind rows = merged_alone kind alone (merge_of first (counted_kind row)) rows h in
    let both : (first ≡ kind) × (counted_kind row ≡ kind) = alone first (counted_kind row) rest.0 in
    (both.0, (both.1, rest.1))

merged_all : (kind : ListenerKind) → merge_of kind kind ≡ kind → (first : ListenerKind) (rows : List PortListener)
    → first ≡ kind → CountAs kind rows → fold merge_of first (map counted_kind rows) ≡ kind
merged_all kind same first [] e h = e
merged_all kind same first (row ∷ rows) e h =
    merged_all kind same (merge_of first (counted_kind row)) rows (ap (λ k. merge_of k (counted_kind row)) e ∙ (ap (merge_of kind) h.0 ∙ same)) h.1

-- where a kind comes of itself alone, it is declared exactly where each port counts as it
declared_alone : (kind : ListenerKind) → MergesAlone kind → merge_of kind kind ≡ kind → (rows : List PortListener)
    → (listener_out rows ≡ Some kind) ↔ ((rows ≢ []) × CountAs kind rows)
declared_alone kind alone same [] = (λ h. absurd (let k : None ≡ Some kind = h in cc), λ h. absurd (h.0 refl))
declared_alone kind alone same (row ∷ rows) = (
  (λ h. ((λ e. absurd (cc)), merged_alone kind alone (counted_kind row) rows (let k : Some (fold merge_of (counted_kind row) (map counted_kind rows)) ≡ Some kind = h in cc))),
  (λ h. ap (λ k. Some k) (merged_all kind same (counted_kind row) rows h.1.0 h.1.1)),
)

-- a port counts as Ready exactly where it is Ready and booked
ready_counts : (row : PortListener) → (counted_kind row ≡ Ready) ↔ ((row.kind ≡ Ready) × (row.booked ≡ true))
ready_counts row = by_booking row.booked row.kind
  where
    by_booking : (booked : Bool) (kind : ListenerKind) → (cond booked kind AskingFailed ≡ Ready) ↔ ((kind ≡ Ready) × (booked ≡ true))
    by_booking true kind = ((λ h. (h, refl)), (λ h. h.0))
    by_booking false kind = ((λ h. absurd (let k : AskingFailed ≡ Ready = h in cc)), (λ h. absurd (let k : false ≡ true = h.1 in cc)))

all_map : {P Q : PortListener → Type 0} → ((row : PortListener) → P row → Q row) → (rows : List PortListener)
    → AllByRecursion P rows → AllByRecursion Q rows
all_map f [] h = tt
all_map f (row ∷ rows) h = (f row h.0, all_map f rows h.1)

pub none_declared : (rows : List PortListener) → (listener_out rows ≡ None) ↔ (rows ≡ [])
none_declared [] = ((λ _. refl), (λ _. refl))
none_declared (row ∷ rows) = ((λ h. absurd (let k : Some (fold merge_of (counted_kind row) (map counted_kind rows)) ≡ None = h in cc)), (λ h. absurd (cc)))

pub ready_declared : (rows : List PortListener) → (listener_out rows ≡ Some Ready) ↔ ((rows ≢ []) × AreReady rows)
ready_declared rows =
    let counts : (listener_out rows ≡ Some Ready) ↔ ((rows ≢ []) × CountAs Ready rows) = declared_alone Ready ready_alone refl rows in (
      (λ h. ((counts.0 h).0, all_map (λ row. (ready_counts row).0) rows (counts.0 h).1)),
      (λ h. counts.1 (h.0, all_map (λ row. (ready_counts row).1) rows h.1)),
    )

pub asking_failed_declared : (rows : List PortListener)
    → (listener_out rows ≡ Some AskingFailed) ↔ ((rows ≢ []) × AreAskingFailed rows)
asking_failed_declared = declared_alone AskingFailed asking_failed_alone refl

pub ready_failed_declared : (rows : List PortListener)
    → (listener_out rows ≡ Some ReadyFailed) ↔ ((rows ≢ []) × ¬ AreReady rows × ¬ AreAskingFailed rows)
ready_failed_declared rows = (
  (λ h. (
    (λ e. let none : listener_out rows ≡ None = (none_declared rows).1 e in cc),
    (λ all. let ready : listener_out rows ≡ Some Ready = (ready_declared rows).1 (nonempty h, all) in cc),
    (λ all. let asking : listener_out rows ≡ Some AskingFailed = (asking_failed_declared rows).1 (nonempty h, all) in cc),
  )),
  (λ h. by_kind (listener_out rows) (λ e. h.0 ((none_declared rows).0 e)) (λ e. h.1 ((ready_declared rows).0 e).1) (λ e. h.2 ((asking_failed_declared rows).0 e).1)),
)
  where
    nonempty : listener_out rows ≡ Some ReadyFailed → rows ≢ []
    nonempty h = λ e. let none : listener_out rows ≡ None = (none_declared rows).1 e in cc

    by_kind : (kind : Option ListenerKind) → kind ≢ None → kind ≢ Some Ready → kind ≢ Some AskingFailed → kind ≡ Some ReadyFailed
    by_kind None none ready asking = absurd (none refl)
    by_kind (Some AskingFailed) none ready asking = absurd (asking refl)
    by_kind (Some Ready) none ready asking = absurd (ready refl)
    by_kind (Some ReadyFailed) none ready asking = refl

-- what is declared is told apart by these three
same_declared : (a b : Option ListenerKind) → (a ≡ None → b ≡ None) → (a ≡ Some Ready → b ≡ Some Ready)
    → (a ≡ Some AskingFailed → b ≡ Some AskingFailed) → (b ≡ None → a ≡ None) → (b ≡ Some Ready → a ≡ Some Ready)
    → (b ≡ Some AskingFailed → a ≡ Some AskingFailed) → a ≡ b
same_declared None b none ready asking none' ready' asking' = sym (none refl)
same_declared (Some Ready) b none ready asking none' ready' asking' = sym (ready refl)
same_declared (Some AskingFailed) b none ready asking none' ready' asking' = sym (asking refl)
same_declared (Some ReadyFailed) None none ready asking none' ready' asking' = none' refl
same_declared (Some ReadyFailed) (Some Ready) none ready asking none' ready' asking' = ready' refl
same_declared (Some ReadyFailed) (Some AskingFailed) none ready asking none' ready' asking' = asking' refl
same_declared (Some ReadyFailed) (Some ReadyFailed) none ready asking none' ready' asking' = refl

all_permuted : (P : PortListener → Type 0) (xs ys : List PortListener) → IsPermutation xs ys → AllByRecursion P xs
    → AllByRecursion P ys
all_permuted P xs ys p h = recursion_from_All P ys (All-permutation P xs ys p (All-from_recursion P xs h))

empty_permuted : (xs ys : List PortListener) → IsPermutation xs ys → xs ≡ [] → ys ≡ []
empty_permuted xs [] p e = refl
empty_permuted xs (y ∷ ys) p e = absurd (omega (arith, length_permutation xs (y ∷ ys) p, ap length e))

pub order_free : (xs ys : List PortListener) → IsPermutation xs ys → listener_out xs ≡ listener_out ys
order_free xs ys p =
    same_declared (listener_out xs) (listener_out ys) (none xs ys p) (ready xs ys p) (asking xs ys p) (none ys xs q) (ready ys xs q) (asking ys xs q)
  where
    q : IsPermutation ys xs
    q = IsPermutation-sym xs ys p

    none : (us vs : List PortListener) → IsPermutation us vs → listener_out us ≡ None → listener_out vs ≡ None
    none us vs r h = (none_declared vs).1 (empty_permuted us vs r ((none_declared us).0 h))

    ready : (us vs : List PortListener) → IsPermutation us vs → listener_out us ≡ Some Ready → listener_out vs ≡ Some Ready
    ready us vs r h =
        let all : (us ≢ []) × AreReady us = (ready_declared us).0 h in
        (ready_declared vs).1 ((λ e. all.0 (empty_permuted vs us (IsPermutation-sym us vs r) e)), all_permuted _ us vs r all.1)

    asking : (us vs : List PortListener) → IsPermutation us vs → listener_out us ≡ Some AskingFailed → listener_out vs ≡ Some AskingFailed
    asking us vs r h =
        let all : (us ≢ []) × AreAskingFailed us = (asking_failed_declared us).0 h in
        (asking_failed_declared vs).1 ((λ e. all.0 (empty_permuted vs us (IsPermutation-sym us vs r) e)), all_permuted _ us vs r all.1)
