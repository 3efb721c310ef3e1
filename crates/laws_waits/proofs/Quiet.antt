-- Quiet edits: what they leave of a thread for those who wait for it.
use Rattle.std.proofs.Common.{◌≡◌, ℕ, ◌+◌, min, ◌==◌, Bool, true, false, not, ◌&&◌, ◌||◌, is_some, List, [], ◌∷◌, Option, Some, None, option_map, refl, ap, sym}
use Rattle.std.proofs.Common.{◌∙◌}
use Rattle.fk_model.specs.declared.limits.TheConstants.{MOST_MOVED}
use Rattle.fk_model.specs.declared.names.Kind.TheVariants as kinds
use Rattle.fk_model.specs.declared.stage.Stage.{Stage}
use Rattle.fk_model.specs.declared.stage.Stage.TheVariants.{Create, ClientReceive, ClientSend, ServerReceive, ServerSend, Connect, ClientReceiveRef}
use Rattle.fk_model.specs.declared.stage.Stage.TheVariants.{ServerReceiveRef}
use Rattle.fk_model.specs.declared.thread.Turn.{Turn}
use Rattle.fk_model.specs.declared.thread.Turn.TheVariants as turns
use Rattle.fk_model.specs.Objects.{Mode, Talk, Thread, Body, kind_of, thread_of, holds}
use Rattle.fk_model.specs.Objects.Mode.{Running, Calling, Halted, Native}
use Rattle.fk_model.specs.Objects.Body.{Mutex, Cond, Mapping, Region, Port, Portset, Space, Thread_of, Reference}
use Rattle.fk_model.specs.World.{Edit, edited, at_mode, on_talk, shifted, shifted_in, ended_in, finished_in, replaced_in}
use Rattle.fk_model.specs.World.Edit.{SetLocked, Proceed, Shift, Finish, End, Replace, SetStops, SetTalk, CountMoved, PassTurn, SetPeer, SetFault, SetTaker}
use Rattle.fk_model.specs.Holds.{is_user}
use Rattle.fk_model.specs.Talks.{first_stage, receive_on, awaited, reference_awaited}
use Rattle.laws_moves.proofs.InMachine.validity.Outlines.{Outline}
use Rattle.laws_moves.proofs.InMachine.validity.Edits.{outline-edited}
use Rattle.laws_waits.specs.Touching.{is_loud, is_reachable, is_reachable_stage}
use Rattle.laws_waits.specs.Stuck.{is_resting, is_at_hand, awaits_on, is_at_hand_else}

-- what a quiet edit makes of a thread
abbrev pub turned : Edit → Thread → Thread
turned (Proceed mode counter) t = at_mode t mode counter
turned (Shift count) t = at_mode t (shifted_in count t.mode) t.counter
turned (End status answers) t = ended_in status answers t t.mode
turned (Finish answers) t = finished_in answers t t.mode
turned (Replace stage) t = at_mode t (replaced_in stage t.mode) t.counter
turned (CountMoved count) t = on_talk (λ talk. record talk { moved = min MOST_MOVED (talk.moved + count) }) t
turned other t = t

pub quiet_thread : (e : Edit) (t : Thread) → is_loud e t ≡ false → thread_of (edited e (Thread_of t)) ≡ Some (turned e t)
unfolding edited
quiet_thread (Finish answers) t h = refl
quiet_thread (Replace stage) t h = refl
quiet_thread (SetStops stops) t h = cc
quiet_thread (SetTalk talk) t h = cc
quiet_thread (PassTurn turn) t h = cc
quiet_thread (SetPeer peer) t h = cc
quiet_thread (SetFault fault) t h = cc
quiet_thread (SetTaker taker) t h = cc
quiet_thread (SetLocked locked) t h = refl
quiet_thread e t h = refl

same_kind : (edit : Edit) (b : Body) → kind_of (edited edit b) ≡ kind_of b
same_kind edit b = ap (λ (o : Outline). o.kind) (outline-edited edit b)

-- what is no thread becomes none
kind-none : (b : Body) → (kind_of b ≡ kinds.Thread → ⊥) → thread_of b ≡ None
kind-none (Thread_of t) other = absurd (other refl)
kind-none (Mutex locked) other = refl
kind-none b other = refl

pub no_thread : (e : Edit) (b : Body) → thread_of b ≡ None → thread_of (edited e b) ≡ None
no_thread e (Thread_of t) h = cc
no_thread e (Mutex locked) h = kind-none _ (λ g. let k = same_kind e (Mutex locked) in cc)
no_thread e Cond h = kind-none _ (λ g. let k = same_kind e Cond in cc)
no_thread e (Mapping m) h = kind-none _ (λ g. let k = same_kind e (Mapping m) in cc)
no_thread e (Region r) h = kind-none _ (λ g. let k = same_kind e (Region r) in cc)
no_thread e (Port set served) h = kind-none _ (λ g. let k = same_kind e (Port set served) in cc)
no_thread e Portset h = kind-none _ (λ g. let k = same_kind e Portset in cc)
no_thread e (Space birth holder) h = kind-none _ (λ g. let k = same_kind e (Space birth holder) in cc)
no_thread e (Reference to) h = kind-none _ (λ g. let k = same_kind e (Reference to) in cc)

-- ---- one who can't be reached is at no Receive, nor at a Connect

receive-none : (side : Turn) (stage : Stage) → is_reachable_stage stage ≡ false → is_some (receive_on side stage) ≡ false
receive-none turns.Client (ClientReceive into room) h = cc
receive-none turns.Client (ServerReceive into room) h = refl
receive-none turns.Client (ClientReceiveRef into room reference) h = cc
receive-none turns.Client (ServerReceiveRef into room reference) h = refl
receive-none turns.Client (Create s x kind) h = refl
receive-none turns.Client stage h = refl
receive-none turns.Server (ClientReceive into room) h = refl
receive-none turns.Server (ServerReceive into room) h = cc
receive-none turns.Server (ClientReceiveRef into room reference) h = refl
receive-none turns.Server (ServerReceiveRef into room reference) h = cc
receive-none turns.Server (Create s x kind) h = refl
receive-none turns.Server stage h = refl

unreached : (side : Turn) (m : Mode) → is_reachable m ≡ false → is_some (awaits_on side m) ≡ false
unreached side (Calling (stage ∷ todo) rest) h = receive-none side stage h
unreached side (Calling [] rest) h = refl
unreached side m h = refl

not-connect : (stage : Stage) (h : ℕ) → is_reachable_stage stage ≡ false → Some stage ≡ Some (Connect h) → ⊥
not-connect (Connect g) h q e = cc
not-connect (Create s x kind) h q e = cc
not-connect stage h q e = cc

unconnected : (m : Mode) (h : ℕ) → is_reachable m ≡ false → first_stage m ≡ Some (Connect h) → ⊥
unconnected (Calling (stage ∷ todo) rest) h q e = not-connect stage h q e
unconnected (Calling [] rest) h q e = cc
unconnected m h q e = cc

or-first : (a b : Bool) → (a || b) ≡ false → a ≡ false
or-first true b h = h
or-first false b h = refl

or-second : (a b : Bool) → (a || b) ≡ false → b ≡ false
or-second true b h = cc
or-second false b h = h

finish-talk : (answers : List ℕ) (t : Thread) (m : Mode) → (finished_in answers t m).talk ≡ t.talk
finish-talk answers t (Calling (stage ∷ next_stage ∷ todo) rest) = refl
finish-talk answers t (Calling (stage ∷ []) rest) = refl
finish-talk answers t (Calling [] rest) = refl
finish-talk answers t (Running g) = refl
finish-talk answers t m = refl

finish-fault : (answers : List ℕ) (t : Thread) (m : Mode) → (finished_in answers t m).fault ≡ t.fault
finish-fault answers t (Calling (stage ∷ next_stage ∷ todo) rest) = refl
finish-fault answers t (Calling (stage ∷ []) rest) = refl
finish-fault answers t (Calling [] rest) = refl
finish-fault answers t (Running g) = refl
finish-fault answers t m = refl

finish-resting : (answers : List ℕ) (t : Thread) (m : Mode) → t.mode ≡ m → is_resting (finished_in answers t m) ≡ is_resting t
finish-resting answers t (Calling (stage ∷ next_stage ∷ todo) rest) e = ap (λ m. not (t.stops == 0) || is_some t.fault || not (is_user m)) (sym e)
finish-resting answers t (Calling (stage ∷ []) rest) e = ap (λ m. not (t.stops == 0) || is_some t.fault || not (is_user m)) (sym e)
finish-resting answers t (Calling [] rest) e = ap (λ m. not (t.stops == 0) || is_some t.fault || not (is_user m)) (sym e)
finish-resting answers t (Running g) e = refl
finish-resting answers t m e = refl

replace-user : (stage : Stage) (m : Mode) → is_user (replaced_in stage m) ≡ is_user m
replace-user stage (Calling (old ∷ todo) rest) = refl
replace-user stage (Calling [] rest) = refl
replace-user stage m = refl

-- ---- one who wasn't at hand isn't

shift-receive : (side : Turn) (k : ℕ) (stage : Stage) → is_some (receive_on side (shifted k stage)) ≡ is_some (receive_on side stage)
shift-receive turns.Client k (ClientReceive into room) = refl
shift-receive turns.Client k (ClientSend address count) = refl
shift-receive turns.Client k (ServerReceive into room) = refl
shift-receive turns.Client k (ServerSend address count) = refl
shift-receive turns.Client k (ClientReceiveRef into room reference) = refl
shift-receive turns.Client k (ServerReceiveRef into room reference) = refl
shift-receive turns.Client k (Create s x kind) = refl
shift-receive turns.Client k stage = refl
shift-receive turns.Server k (ClientReceive into room) = refl
shift-receive turns.Server k (ClientSend address count) = refl
shift-receive turns.Server k (ServerReceive into room) = refl
shift-receive turns.Server k (ServerSend address count) = refl
shift-receive turns.Server k (ClientReceiveRef into room reference) = refl
shift-receive turns.Server k (ServerReceiveRef into room reference) = refl
shift-receive turns.Server k (Create s x kind) = refl
shift-receive turns.Server k stage = refl

shift-receiving : (side : Turn) (k : ℕ) (m : Mode) → is_some (awaits_on side (shifted_in k m)) ≡ is_some (awaits_on side m)
shift-receiving side k (Calling (stage ∷ todo) rest) = shift-receive side k stage
shift-receiving side k (Calling [] rest) = refl
shift-receiving side k m = refl

shift-user : (k : ℕ) (m : Mode) → is_user (shifted_in k m) ≡ is_user m
shift-user k (Calling (stage ∷ todo) rest) = refl
shift-user k (Calling [] rest) = refl
shift-user k m = refl

and_off : (a : Bool) → (a && false) ≡ false
and_off true = refl
and_off false = refl

end-away : (side : Turn) (status : ℕ) (answers : List ℕ) (t : Thread) (m : Mode) → t.mode ≡ m → is_at_hand side t ≡ false →
    is_at_hand side (ended_in status answers t m) ≡ false
end-away side status answers t (Calling todo rest) e h = and_off _
end-away side status answers t (Running g) e h = h
end-away side status answers t m e h = h

proceed-away : (side : Turn) (t : Thread) (m : Mode) (n : ℕ) → is_loud (Proceed m n) t ≡ false → is_at_hand side (at_mode t m n) ≡ false
proceed-away side t (Calling todo rest) n h =
    ap (λ r. not (is_resting (at_mode t (Calling todo rest) n)) && r) (unreached side (Calling todo rest) (or-second (not (is_user t.mode)) _ h)) ∙ and_off _
proceed-away side t (Running g) n h = and_off _
proceed-away side t (Halted g code) n h = and_off _
proceed-away side t (Native g) n h = and_off _

pub quiet_away : (side : Turn) (e : Edit) (t : Thread) → is_loud e t ≡ false → is_at_hand side t ≡ false → is_at_hand side (turned e t) ≡ false
quiet_away side (Proceed mode counter) t h away = proceed-away side t mode counter h
quiet_away side (Shift count) t h away =
    ap (λ u. not (not (t.stops == 0) || is_some t.fault || not u) && is_some (awaits_on side (shifted_in count t.mode))) (shift-user count t.mode)
    ∙ ap (λ r. not (is_resting t) && r) (shift-receiving side count t.mode) ∙ away
quiet_away side (End status answers) t h away = end-away side status answers t t.mode refl away
quiet_away side (CountMoved count) t h away = away
quiet_away side (Finish answers) t h away =
    ap (λ r. not (is_resting (finished_in answers t t.mode)) && r) (unreached side (finished_in answers t t.mode).mode h) ∙ and_off _
quiet_away side (Replace stage) t h away =
    ap (λ r. not (is_resting (at_mode t (replaced_in stage t.mode) t.counter)) && r) (unreached side (replaced_in stage t.mode) h) ∙ and_off _
quiet_away side (SetLocked locked) t h away = away
quiet_away side e t h away = away

-- ---- nor is one who was at hand but for its handle

shift-reference : (k : ℕ) (stage : Stage) → reference_awaited (shifted k stage) ≡ reference_awaited stage
shift-reference k (ClientReceive into room) = refl
shift-reference k (ClientSend address count) = refl
shift-reference k (ServerReceive into room) = refl
shift-reference k (ServerSend address count) = refl
shift-reference k (ClientReceiveRef into room reference) = refl
shift-reference k (ServerReceiveRef into room reference) = refl
shift-reference k (Create s x kind) = refl
shift-reference k stage = refl

shift-awaited : (k : ℕ) (m : Mode) → awaited (shifted_in k m) ≡ awaited m
shift-awaited k (Calling (stage ∷ todo) rest) = shift-reference k stage
shift-awaited k (Calling [] rest) = refl
shift-awaited k m = refl

else-off : (a b : Bool) → a ≡ false → (a && b) ≡ false
else-off false b h = refl
else-off true b h = cc

end-else : (side : Turn) (k status : ℕ) (answers : List ℕ) (t : Thread) (m : Mode) → t.mode ≡ m → is_at_hand_else side k t ≡ false →
    is_at_hand_else side k (ended_in status answers t m) ≡ false
end-else side k status answers t (Calling todo rest) e h = else-off _ _ (and_off _)
end-else side k status answers t (Running g) e h = h
end-else side k status answers t m e h = h

pub quiet_else : (side : Turn) (k : ℕ) (e : Edit) (t : Thread) → is_loud e t ≡ false → is_at_hand_else side k t ≡ false →
    is_at_hand_else side k (turned e t) ≡ false
quiet_else side k (Proceed mode counter) t h away = else-off _ _ (proceed-away side t mode counter h)
quiet_else side k (Shift count) t h away =
    ap (λ u. not (not (t.stops == 0) || is_some t.fault || not u) && is_some (awaits_on side (shifted_in count t.mode))
    && not (holds (λ j. j == k) (awaited (shifted_in count t.mode)))) (shift-user count t.mode)
    ∙ ap (λ r. not (is_resting t) && r && not (holds (λ j. j == k) (awaited (shifted_in count t.mode)))) (shift-receiving side count t.mode)
    ∙ ap (λ o. is_at_hand side t && not (holds (λ j. j == k) o)) (shift-awaited count t.mode) ∙ away
quiet_else side k (End status answers) t h away = end-else side k status answers t t.mode refl away
quiet_else side k (CountMoved count) t h away = away
quiet_else side k (Finish answers) t h away = else-off _ _
    (ap (λ r. not (is_resting (finished_in answers t t.mode)) && r) (unreached side (finished_in answers t t.mode).mode h) ∙ and_off _)
quiet_else side k (Replace stage) t h away = else-off _ _
    (ap (λ r. not (is_resting (at_mode t (replaced_in stage t.mode) t.counter)) && r) (unreached side (replaced_in stage t.mode) h) ∙ and_off _)
quiet_else side k (SetLocked locked) t h away = away
quiet_else side k e t h away = away

-- ---- a talk stays, but for the words moved

abbrev pub IsBlind : (Talk → Bool) → Type 0
IsBlind test = (talk : Talk) (n : ℕ) → test (record talk { moved = n }) ≡ test talk

counted-talk : (test : Talk → Bool) → IsBlind test → (count : ℕ) (o : Option Talk) →
    holds test (option_map (λ (talk : Talk). record talk { moved = min MOST_MOVED (talk.moved + count) }) o) ≡ holds test o
counted-talk test blind count None = refl
counted-talk test blind count (Some talk) = blind talk _

end-talk : (status : ℕ) (answers : List ℕ) (t : Thread) (m : Mode) → (ended_in status answers t m).talk ≡ t.talk
end-talk status answers t (Calling todo rest) = refl
end-talk status answers t (Running g) = refl
end-talk status answers t m = refl

end-fault : (status : ℕ) (answers : List ℕ) (t : Thread) (m : Mode) → (ended_in status answers t m).fault ≡ t.fault
end-fault status answers t (Calling todo rest) = refl
end-fault status answers t (Running g) = refl
end-fault status answers t m = refl

pub quiet_talk : (test : Talk → Bool) → IsBlind test → (e : Edit) (t : Thread) → holds test (turned e t).talk ≡ holds test t.talk
quiet_talk test blind (End status answers) t = ap (holds test) (end-talk status answers t t.mode)
quiet_talk test blind (Finish answers) t = ap (holds test) (finish-talk answers t t.mode)
quiet_talk test blind (CountMoved count) t = counted-talk test blind count t.talk
quiet_talk test blind (SetLocked locked) t = refl
quiet_talk test blind e t = refl

pub quiet_fault : (e : Edit) (t : Thread) → (turned e t).fault ≡ t.fault
quiet_fault (End status answers) t = end-fault status answers t t.mode
quiet_fault (Finish answers) t = finish-fault answers t t.mode
quiet_fault (SetLocked locked) t = refl
quiet_fault e t = refl

-- ---- one who rested rests

end-resting : (status : ℕ) (answers : List ℕ) (t : Thread) (m : Mode) → t.mode ≡ m → is_resting (ended_in status answers t m) ≡ is_resting t
end-resting status answers t (Calling todo rest) e = ap (λ m. not (t.stops == 0) || is_some t.fault || not (is_user m)) (sym e)
end-resting status answers t (Running g) e = refl
end-resting status answers t m e = refl

or_on : (a : Bool) → (a || true) ≡ true
or_on true = refl
or_on false = refl

proceed-resting : (t : Thread) (m : Mode) (n : ℕ) → is_loud (Proceed m n) t ≡ false → is_resting (at_mode t m n) ≡ false → is_resting t ≡ false
proceed-resting t (Calling todo rest) n h r = ap (λ u. not (t.stops == 0) || is_some t.fault || u) (or-first (not (is_user t.mode)) _ h) ∙ r
proceed-resting t (Running g) n h r = ap (λ u. not (t.stops == 0) || is_some t.fault || u) h ∙ r
proceed-resting t (Halted g code) n h r = let on = or_on (not (t.stops == 0) || is_some t.fault) in cc
proceed-resting t (Native g) n h r = let on = or_on (not (t.stops == 0) || is_some t.fault) in cc

pub quiet_resting : (e : Edit) (t : Thread) → is_loud e t ≡ false → is_resting (turned e t) ≡ false → is_resting t ≡ false
quiet_resting (Proceed mode counter) t h r = proceed-resting t mode counter h r
quiet_resting (Shift count) t h r = ap (λ u. not (t.stops == 0) || is_some t.fault || not u) (sym (shift-user count t.mode)) ∙ r
quiet_resting (End status answers) t h r = sym (end-resting status answers t t.mode refl) ∙ r
quiet_resting (Finish answers) t h r = sym (finish-resting answers t t.mode refl) ∙ r
quiet_resting (Replace stage) t h r = ap (λ u. not (t.stops == 0) || is_some t.fault || not u) (sym (replace-user stage t.mode)) ∙ r
quiet_resting (CountMoved count) t h r = r
quiet_resting (SetLocked locked) t h r = r
quiet_resting e t h r = r

-- ---- one at its Connect was there before

-- it is at the same Connect as before, if at any, and had no talk
pub record IsCalled (t u : Thread) : Type 0 where
  pub stage : (h : ℕ) → first_stage u.mode ≡ Some (Connect h) → first_stage t.mode ≡ Some (Connect h)
  pub talk : is_some u.talk ≡ is_some t.talk

shift-connect : (k h : ℕ) (stage : Stage) → Some (shifted k stage) ≡ Some (Connect h) → Some stage ≡ Some (Connect h)
shift-connect k h (ClientReceive into room) e = cc
shift-connect k h (ClientSend address count) e = cc
shift-connect k h (ServerReceive into room) e = cc
shift-connect k h (ServerSend address count) e = cc
shift-connect k h (ClientReceiveRef into room reference) e = cc
shift-connect k h (ServerReceiveRef into room reference) e = cc
shift-connect k h (Create s x kind) e = e
shift-connect k h stage e = e

shift-called : (k h : ℕ) (m : Mode) → first_stage (shifted_in k m) ≡ Some (Connect h) → first_stage m ≡ Some (Connect h)
shift-called k h (Calling (stage ∷ todo) rest) e = shift-connect k h stage e
shift-called k h (Calling [] rest) e = e
shift-called k h m e = e

end-called : (status : ℕ) (answers : List ℕ) (h : ℕ) (t : Thread) (m : Mode) → t.mode ≡ m →
    first_stage (ended_in status answers t m).mode ≡ Some (Connect h) → first_stage t.mode ≡ Some (Connect h)
end-called status answers h t (Calling todo rest) e g = cc
end-called status answers h t (Running regs) e g = g
end-called status answers h t m e g = g

proceed-called : (t : Thread) (m : Mode) (n h : ℕ) → is_loud (Proceed m n) t ≡ false → first_stage m ≡ Some (Connect h) → first_stage t.mode ≡ Some (Connect h)
proceed-called t (Calling todo rest) n h q e = absurd (unconnected (Calling todo rest) h (or-second (not (is_user t.mode)) _ q) e)
proceed-called t (Running g) n h q e = cc
proceed-called t m n h q e = cc

quiet-stage : (e : Edit) (t : Thread) → is_loud e t ≡ false → (h : ℕ) → first_stage (turned e t).mode ≡ Some (Connect h) → first_stage t.mode ≡ Some (Connect h)
quiet-stage (Proceed mode counter) t q h g = proceed-called t mode counter h q g
quiet-stage (Shift count) t q h g = shift-called count h t.mode g
quiet-stage (End status answers) t q h g = end-called status answers h t t.mode refl g
quiet-stage (Finish answers) t q h g = absurd (unconnected (finished_in answers t t.mode).mode h q g)
quiet-stage (Replace stage) t q h g = absurd (unconnected (replaced_in stage t.mode) h q g)
quiet-stage (CountMoved count) t q h g = g
quiet-stage (SetLocked locked) t q h g = g
quiet-stage e t q h g = g

some-talk : (o : Option Talk) → holds (λ (talk : Talk). true) o ≡ is_some o
some-talk None = refl
some-talk (Some talk) = refl

pub quiet_called : (e : Edit) (t : Thread) → is_loud e t ≡ false → IsCalled t (turned e t)
quiet_called e t q = record {
  stage = λ h g. quiet-stage e t q h g;
  talk = sym (some-talk (turned e t).talk) ∙ quiet_talk (λ talk. true) (λ talk n. refl) e t ∙ some-talk t.talk;
}
