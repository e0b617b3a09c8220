-- From the node with its noted steps to the node alone.
use Rattle.std.proofs.Common.{◌≡◌, Bool, true, false, cond, List, [], ◌∷◌, ◌++◌, map, sym, refl, ap, ◌∙◌, subst, Result, Ok, Err, IfOk, OnErr}
use Rattle.std.proofs.lemmas.List.{append-nil, append_assoc}
use Rattle.node_core.specs.{State.NodeState, State.ports_of, Step.node_step}
use Rattle.node_core.specs.declared.{types.NodeEvent.NodeEvent, types.NodeEvent.TheVariants.Port, types.NodeStep.NodeStep}
use Rattle.turn_lock.specs.{History.ask_of, History.answer_of, History.last_state, History.IsHistory, Calls.HasCalled, Calls.HasLooked, Closing.HasClosed, Passes.Lock, Refusal.IsRefused}
use Rattle.turn_lock.specs.declared.{close.CloseErr.CloseErr, close.CloseErr.TheVariants.MissingPass, close.CloseErr.TheVariants.NoMemory}
use Rattle.bridge_book.specs.{IsOfHub, Notice, Told, PortAsk, Shared, is_port, told_nothing, port_does, node_does, shared_does, PortPass, IsHubLock, step_of, notice_in, HasClosedHub}
use Rattle.bridge_book.specs.Hub.{Hub, Steps}

-- the node after a history, and what was noted
pub node_after : (shared : Shared) (history : Steps) → (last_state shared_does shared history).node ≡ last_state node_does shared.node history
node_after shared [] = refl
node_after shared (e ∷ history) = node_after (shared_does shared (ask_of e)).1 history

-- a history of the node with its notes is one of the node
pub history_of_node : (shared : Shared) (history : Steps) → IsHistory shared_does shared history → IsHistory node_does shared.node history
history_of_node shared history legal earlier later e is =
    legal earlier later e is ∙ ap (λ (n : NodeState). (node_does n (ask_of e)).0) (node_after shared earlier)

-- the notes are the history's entries
pub notes_after : (shared : Shared) (history : Steps) → IsHistory shared_does shared history → (last_state shared_does shared history).steps ≡ shared.steps ++ map step_of history
notes_after shared [] legal = sym (append-nil shared.steps)
notes_after shared (e ∷ history) legal =
    let said : answer_of e ≡ (node_does shared.node (ask_of e)).0 = legal [] history e refl in
    let next : Shared = (shared_does shared (ask_of e)).1 in
    notes_after next history (λ earlier later n is. legal (e ∷ earlier) later n (ap (λ (l : Steps). e ∷ l) is))
    ∙ (append_assoc shared.steps (record { port = (ask_of e).port; step = (ask_of e).step; reply = (node_does shared.node (ask_of e)).0.reply } ∷ []) (map step_of history)
    ∙ ap (λ (r : Told). shared.steps ++ record { port = (ask_of e).port; step = (ask_of e).step; reply = r.reply } ∷ map step_of history) (sym said))

-- so are the notices
pub notices_after : (shared : Shared) (history : Steps) → IsHistory shared_does shared history → (last_state shared_does shared history).notices ≡ shared.notices ++ map notice_in history
notices_after shared [] legal = sym (append-nil shared.notices)
notices_after shared (e ∷ history) legal =
    let said : answer_of e ≡ (node_does shared.node (ask_of e)).0 = legal [] history e refl in
    let next : Shared = (shared_does shared (ask_of e)).1 in
    notices_after next history (λ earlier later n is. legal (e ∷ earlier) later n (ap (λ (l : Steps). e ∷ l) is))
    ∙ (append_assoc shared.notices ((node_does shared.node (ask_of e)).0.notice ∷ []) (map notice_in history)
    ∙ ap (λ (r : Told). shared.notices ++ r.notice ∷ map notice_in history) (sym said))

module _ (shared : Shared) where
  -- a call, and a look, said of the node
  pub called_of_node : (number : _) (before after : Steps) (ask : PortAsk) (told : Told) → HasCalled shared_does shared number before ask told after
      → HasCalled node_does shared.node number before ask told after
  called_of_node number before after ask told h = record {
    earlier = h.earlier;
    call_is_last = h.call_is_last;
    front = h.front;
    answer_is = h.answer_is ∙ ap (λ (n : NodeState). (node_does n ask).0) (node_after shared h.earlier);
    legal = history_of_node shared after h.legal;
    own = h.own;
  }

  pub looked_of_node : (number : _) (before after : Steps) → HasLooked shared_does shared number before after → HasLooked node_does shared.node number before after
  looked_of_node number before after h = record { front = h.front; legal = history_of_node shared after h.legal; own = h.own }

-- a closed lock round a node is a closed hub
pub closed_hub : (hub : Hub) (passes : List PortPass) (state : Shared) (history : Steps) → hub.lock.start.steps ≡ [] → hub.lock.start.notices ≡ [] → HasClosed shared_does hub.lock passes state history
    → HasClosedHub hub passes state.node state.steps state.notices
closed_hub hub passes state history none quiet h = record {
  history = history;
  steps_are = ap (λ (s : Shared). s.steps) h.last ∙ (notes_after hub.lock.start history h.legal ∙ ap (λ (l : List NodeStep). l ++ map step_of history) none);
  notices_are = ap (λ (s : Shared). s.notices) h.last ∙ (notices_after hub.lock.start history h.legal ∙ ap (λ (l : List Notice). l ++ map notice_in history) quiet);
  legal = history_of_node hub.lock.start history h.legal;
  last = ap (λ (s : Shared). s.node) h.last ∙ node_after hub.lock.start history;
  calls = h.calls;
  no_others = h.no_others;
  given = h.given;
}

by_port : (b : Bool) (x y : Told × NodeState) (node : NodeState) → ports_of x.1 ≡ ports_of node → ports_of y.1 ≡ ports_of node → ports_of (cond b x y).1 ≡ ports_of node
by_port true x y node p q = p
by_port false x y node p q = q

-- a history changes no number of ports, where no step of a node does
pub ports_after : ((event : NodeEvent) (s : NodeState) → ports_of (node_step event s).0 ≡ ports_of s)
    → (node : NodeState) (history : Steps) → ports_of (last_state node_does node history) ≡ ports_of node
ports_after keeps node [] = refl
ports_after keeps node (e ∷ history) =
    let ask = ask_of e in
    ports_after keeps (node_does node ask).1 history
    ∙ by_port (is_port ask.port (ports_of node)) (port_does node ask) (told_nothing, node) node (keeps (Port ask.port ask.step) node) refl

-- what a link port does is the node's own step
pub port_steps : ((event : NodeEvent) (s : NodeState) → ports_of (node_step event s).0 ≡ ports_of s)
    → (node : NodeState) (history : Steps) (ask : PortAsk) → is_port ask.port (ports_of node) ≡ true
    → node_does (last_state node_does node history) ask ≡ port_does (last_state node_does node history) ask
port_steps keeps node history ask there =
    let last = last_state node_does node history in
    ap (λ (b : Bool). cond b (port_does last ask) (told_nothing, last)) (ap (is_port ask.port) (ports_after keeps node history) ∙ there)

-- what a call answers, said otherwise
pub ok_as : {T E : Type 0} (P Q : T → Type 0) (r : Result T E) → ((x : T) → P x → Q x) → IfOk r P → IfOk r Q
ok_as P Q (Ok x) f h = f x h
ok_as P Q (Err e) f h = tt

pub err_as : {T E : Type 0} (P Q : Type 0) (r : Result T E) → (P → Q) → OnErr r P → OnErr r Q
err_as P Q (Ok x) f h = tt
err_as P Q (Err e) f h = f h

-- a hub's lock that is handed back is the hub's
pub of_hub : (lock : Lock Shared) (passes : List PortPass) (refused : CloseErr Shared PortAsk Told) → IsRefused lock passes refused → IsHubLock lock → IsOfHub refused
of_hub lock passes (MissingPass number back given) is whole = subst IsHubLock (sym is.1) whole
of_hub lock passes (NoMemory back given) is whole = subst IsHubLock (sym is.0) whole
