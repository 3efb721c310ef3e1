-- What is left of a call that there is: after its first stage, after some words were moved, and by its answers.
use Rattle.std.proofs.Common.{◌≡◌, ℕ, zero, suc, ◌≤◌, Bool, true, false, not, ◌&&◌, ◌||◌, nat_lt, List, [], ◌∷◌, length, get_or, slice_set, refl, sym, ap}
use Rattle.std.proofs.Common.{subst, ◌∙◌, arith}
use Rattle.std.proofs.lemmas.Bool.{false≢true}
use Rattle.std.proofs.lemmas.List.{length-set}
use Rattle.fk_model.specs.declared.stage.Stage.{Stage}
use Rattle.fk_model.specs.declared.stage.Stage.TheVariants.{Create, Destroy, Rename, Search, Point, Clear, Locate, CountIn, GetState, SetState, GetPtr, SetPtr}
use Rattle.fk_model.specs.declared.stage.Stage.TheVariants.{ClientOverRef}
use Rattle.fk_model.specs.declared.stage.Stage.TheVariants.{SpaceHold, SpaceRelease, ThreadStop, ThreadGo, PageGive, PageTake, PageRead, PageNext, MutexLock}
use Rattle.fk_model.specs.declared.stage.Stage.TheVariants.{ClientReceiveRef}
use Rattle.fk_model.specs.declared.stage.Stage.TheVariants.{MutexTrylock, MutexUnlock, CondWait, CondAsleep, CondSignal, CondBroadcast, Connect, ClientReceive}
use Rattle.fk_model.specs.declared.stage.Stage.TheVariants.{ServerOverRef}
use Rattle.fk_model.specs.declared.stage.Stage.TheVariants.{ClientSend, ClientOver, Disconnect, Wait, ServerReceive, ServerSend, ServerOver, ServerEnd}
use Rattle.fk_model.specs.declared.stage.Stage.TheVariants.{ServerReceiveRef}
use Rattle.fk_model.specs.declared.stage.Stage.TheVariants.{FaultDone, LinkSet, LinkPark, FaultSet, FaultPark, HoldSet, SpaceMakeHeld}
use Rattle.fk_model.specs.Calls.{code_of, arguments, argument_registers, with_values, without_values, with_answers, left_by, IsTodo, IsRest}
use Rattle.fk_model.specs.World.{shifted}
use Rattle.fk_model.specs.Whole.{is_word}
use Rattle.fk_model.proofs.calls.CallLaws.{registers, sixteen}
use Rattle.laws_moves.proofs.InWhole.Lengths.{length-with_answers, length-left_by}

-- ---- stages

abbrev pub is_server_receive : Stage → Bool
is_server_receive (ServerReceive into room) = true
is_server_receive other = false

abbrev pub is_last_receive : List Stage → Bool
is_last_receive (stage ∷ []) = is_server_receive stage
is_last_receive other = false

-- stages that others may follow in a call
abbrev pub opens : Stage → Bool
opens (Connect h) = true
opens (ClientSend address count) = true
opens ClientOver = true
opens (Wait set) = true
opens (ServerSend address count) = true
opens ServerOver = true
opens other = false

abbrev pub is_wait : Stage → Bool
is_wait (Wait set) = true
is_wait other = false

abbrev pub tail_is : List Stage → Bool
tail_is (stage ∷ next ∷ todo) = nat_lt 0 (code_of (next ∷ todo))
tail_is other = true

abbrev pub opens_first : List Stage → Bool
opens_first (stage ∷ next ∷ todo) = opens stage && (not (is_wait stage) || is_last_receive (next ∷ todo))
opens_first other = true

abbrev pub shifted_first : ℕ → List Stage → List Stage
shifted_first k (stage ∷ todo) = shifted k stage ∷ todo
shifted_first k [] = []

-- its tail is a call, its first stage may have others behind it, it is a call after words were moved, and its code is a word
pub record GoesOn (todo : List Stage) : Type 0 where
  pub tail : tail_is todo ≡ true
  pub first : opens_first todo ≡ true
  pub shift : (k : ℕ) → nat_lt 0 (code_of (shifted_first k todo)) ≡ true
  pub code : is_word (code_of todo) ≡ true

pub has_rest : (todo : List Stage) → IsTodo todo → GoesOn todo
unfolding code_of
has_rest (Create s x kind ∷ []) is = record { tail = refl; first = refl; shift = λ k. refl; code = refl }
has_rest (Destroy s x ∷ []) is = record { tail = refl; first = refl; shift = λ k. refl; code = refl }
has_rest (Rename s x y ∷ []) is = record { tail = refl; first = refl; shift = λ k. refl; code = refl }
has_rest (Search s from ∷ []) is = record { tail = refl; first = refl; shift = λ k. refl; code = refl }
has_rest (Point s x s2 x2 ∷ []) is = record { tail = refl; first = refl; shift = λ k. refl; code = refl }
has_rest (Clear s x ∷ []) is = record { tail = refl; first = refl; shift = λ k. refl; code = refl }
has_rest (Locate reference s ∷ []) is = record { tail = refl; first = refl; shift = λ k. refl; code = refl }
has_rest (CountIn base s x ∷ []) is = record { tail = refl; first = refl; shift = λ k. refl; code = refl }
has_rest (GetState s x address ∷ []) is = record { tail = refl; first = refl; shift = λ k. refl; code = refl }
has_rest (SetState s x address ∷ []) is = record { tail = refl; first = refl; shift = λ k. refl; code = refl }
has_rest (GetPtr s x field reference ∷ []) is = record { tail = refl; first = refl; shift = λ k. refl; code = refl }
has_rest (SetPtr s x field reference ∷ []) is = record { tail = refl; first = refl; shift = λ k. refl; code = refl }
has_rest (SpaceHold s x ∷ []) is = record { tail = refl; first = refl; shift = λ k. refl; code = refl }
has_rest (SpaceRelease s x ∷ []) is = record { tail = refl; first = refl; shift = λ k. refl; code = refl }
has_rest (ThreadStop h ∷ []) is = record { tail = refl; first = refl; shift = λ k. refl; code = refl }
has_rest (ThreadGo h ∷ []) is = record { tail = refl; first = refl; shift = λ k. refl; code = refl }
has_rest (PageGive s page address ∷ []) is = record { tail = refl; first = refl; shift = λ k. refl; code = refl }
has_rest (PageTake s page address ∷ []) is = record { tail = refl; first = refl; shift = λ k. refl; code = refl }
has_rest (PageRead s page address ∷ []) is = record { tail = refl; first = refl; shift = λ k. refl; code = refl }
has_rest (PageNext s from ∷ []) is = record { tail = refl; first = refl; shift = λ k. refl; code = refl }
has_rest (MutexLock m ∷ []) is = record { tail = refl; first = refl; shift = λ k. refl; code = refl }
has_rest (MutexTrylock m ∷ []) is = record { tail = refl; first = refl; shift = λ k. refl; code = refl }
has_rest (MutexUnlock m ∷ []) is = record { tail = refl; first = refl; shift = λ k. refl; code = refl }
has_rest (CondWait c m ∷ []) is = record { tail = refl; first = refl; shift = λ k. refl; code = refl }
has_rest (CondAsleep c m ∷ []) is = record { tail = refl; first = refl; shift = λ k. refl; code = refl }
has_rest (CondSignal c ∷ []) is = record { tail = refl; first = refl; shift = λ k. refl; code = refl }
has_rest (CondBroadcast c ∷ []) is = record { tail = refl; first = refl; shift = λ k. refl; code = refl }
has_rest (Connect h ∷ []) is = record { tail = refl; first = refl; shift = λ k. refl; code = refl }
has_rest (Connect h ∷ ClientSend address count ∷ ClientOver ∷ ClientReceive into room
    ∷ []) is = record { tail = refl; first = refl; shift = λ k. refl; code = refl }
has_rest (ClientSend address count ∷ ClientOver ∷ ClientReceive into room ∷ []) is = record { tail = refl; first = refl; shift = λ k. refl; code = refl }
has_rest (ClientOver ∷ ClientReceive into room ∷ []) is = record { tail = refl; first = refl; shift = λ k. refl; code = refl }
has_rest (ClientReceive into room ∷ []) is = record { tail = refl; first = refl; shift = λ k. refl; code = refl }
has_rest (ClientSend address count ∷ []) is = record { tail = refl; first = refl; shift = λ k. refl; code = refl }
has_rest (ClientOver ∷ []) is = record { tail = refl; first = refl; shift = λ k. refl; code = refl }
has_rest (Disconnect ∷ []) is = record { tail = refl; first = refl; shift = λ k. refl; code = refl }
has_rest (ClientOverRef reference ∷ []) is = record { tail = refl; first = refl; shift = λ k. refl; code = refl }
has_rest (ClientReceiveRef into room reference ∷ []) is = record { tail = refl; first = refl; shift = λ k. refl; code = refl }
has_rest (Wait set ∷ []) is = record { tail = refl; first = refl; shift = λ k. refl; code = refl }
has_rest (Wait set ∷ ServerReceive into room ∷ []) is = record { tail = refl; first = refl; shift = λ k. refl; code = refl }
has_rest (ServerReceive into room ∷ []) is = record { tail = refl; first = refl; shift = λ k. refl; code = refl }
has_rest (ServerSend address count ∷ []) is = record { tail = refl; first = refl; shift = λ k. refl; code = refl }
has_rest (ServerOver ∷ []) is = record { tail = refl; first = refl; shift = λ k. refl; code = refl }
has_rest (ServerSend address count ∷ ServerOver ∷ ServerReceive into room ∷ []) is = record { tail = refl; first = refl; shift = λ k. refl; code = refl }
has_rest (ServerOver ∷ ServerReceive into room ∷ []) is = record { tail = refl; first = refl; shift = λ k. refl; code = refl }
has_rest (ServerEnd ∷ []) is = record { tail = refl; first = refl; shift = λ k. refl; code = refl }
has_rest (FaultDone ∷ []) is = record { tail = refl; first = refl; shift = λ k. refl; code = refl }
has_rest (ServerOverRef reference ∷ []) is = record { tail = refl; first = refl; shift = λ k. refl; code = refl }
has_rest (ServerReceiveRef into room reference ∷ []) is = record { tail = refl; first = refl; shift = λ k. refl; code = refl }
has_rest (LinkSet s x port server ∷ []) is = record { tail = refl; first = refl; shift = λ k. refl; code = refl }
has_rest (LinkPark s x port ∷ []) is = record { tail = refl; first = refl; shift = λ k. refl; code = refl }
has_rest (FaultSet s x port taker ∷ []) is = record { tail = refl; first = refl; shift = λ k. refl; code = refl }
has_rest (FaultPark s x port taken ∷ []) is = record { tail = refl; first = refl; shift = λ k. refl; code = refl }
has_rest (HoldSet s x thread ∷ []) is = record { tail = refl; first = refl; shift = λ k. refl; code = refl }
has_rest (SpaceMakeHeld x ∷ []) is = record { tail = refl; first = refl; shift = λ k. refl; code = refl }
has_rest other is = absurd (false≢true is)

-- ---- registers that are made 0

set-twice : (i v : ℕ) (g : List ℕ) → slice_set (slice_set g i v) i v ≡ slice_set g i v
set-twice i v [] = refl
set-twice zero v (x ∷ g) = refl
set-twice (suc i) v (x ∷ g) = ap (λ g. x ∷ g) (set-twice i v g)

set-swap : (i j v : ℕ) (g : List ℕ) → slice_set (slice_set g i v) j v ≡ slice_set (slice_set g j v) i v
set-swap i j v [] = refl
set-swap zero zero v (x ∷ g) = refl
set-swap zero (suc j) v (x ∷ g) = refl
set-swap (suc i) zero v (x ∷ g) = refl
set-swap (suc i) (suc j) v (x ∷ g) = ap (λ g. x ∷ g) (set-swap i j v g)

without-set : (es : List (ℕ × ℕ)) (i : ℕ) (g : List ℕ) → without_values es (slice_set g i 0) ≡ slice_set (without_values es g) i 0
without-set [] i g = refl
without-set (e ∷ es) i g = ap (without_values es) (set-swap i e.0 0 g) ∙ without-set es i (slice_set g e.0 0)

pub without-twice : (es : List (ℕ × ℕ)) (g : List ℕ) → without_values es (without_values es g) ≡ without_values es g
without-twice [] g = refl
without-twice (e ∷ es) g =
    ap (λ h. without_values es (slice_set h e.0 0)) (without-set es e.0 g)
    ∙ ap (without_values es) (set-twice e.0 0 (without_values es g))
    ∙ without-set es e.0 (without_values es g)
    ∙ ap (λ h. slice_set h e.0 0) (without-twice es g)
    ∙ sym (without-set es e.0 g)

-- ---- what is left

-- the rest of a call after its first stage, or with another in its place
pub rest-left : (stage : Stage) (todo : List Stage) (rest : List ℕ) → length rest ≡ 16 → IsRest todo (left_by stage todo rest)
rest-left stage todo rest long = record {
  sixteen = length-left_by stage todo rest ∙ long;
  apart = without-twice (argument_registers todo) (with_values (arguments stage) rest);
}

-- words that were moved leave the registers
shifted-registers : (k : ℕ) (stage : Stage) (todo : List Stage) (g : List ℕ) →
    without_values (argument_registers (shifted k stage ∷ todo)) g ≡ without_values (argument_registers (stage ∷ todo)) g
shifted-registers k (ClientSend address count) todo g = refl
shifted-registers k (ClientReceive into room) todo g = refl
shifted-registers k (ServerSend address count) todo g = refl
shifted-registers k (ServerReceive into room) todo g = refl
shifted-registers k (ClientReceiveRef into room reference) todo g = refl
shifted-registers k (ServerReceiveRef into room reference) todo g = refl
shifted-registers k stage todo g = refl

pub rest-shifted : (k : ℕ) (stage : Stage) (todo : List Stage) (rest : List ℕ) → IsRest (stage ∷ todo) rest → IsRest (shifted k stage ∷ todo) rest
rest-shifted k stage todo rest is = record { sixteen = is.sixteen; apart = shifted-registers k stage todo rest ∙ is.apart }

-- two answers at most, before a last Receive
abbrev AnswersApart : List ℕ → List Stage → List ℕ → Type 0
AnswersApart answers todo g =
    without_values (argument_registers todo) (with_answers answers (without_values (argument_registers todo) g))
    ≡ with_answers answers (without_values (argument_registers todo) g)

apart-answers : (answers : List ℕ) → length answers ≤ 2 → (into room : ℕ) (r : ℕ → ℕ) →
    AnswersApart answers (ServerReceive into room ∷ []) (registers (r 0) r)
unfolding code_of
apart-answers [] few into room r = refl
apart-answers (a ∷ []) few into room r = refl
apart-answers (a ∷ b ∷ []) few into room r = refl
apart-answers (a ∷ b ∷ c ∷ answers) few into room r = absurd (omega (arith, few))

pub rest-answered : (answers : List ℕ) → length answers ≤ 2 → (stage : Stage) (into room : ℕ) (rest : List ℕ) → length rest ≡ 16 →
    IsRest (ServerReceive into room ∷ []) (with_answers answers (left_by stage (ServerReceive into room ∷ []) rest))
rest-answered answers few stage into room rest long =
    let g = with_values (arguments stage) rest in
    record {
      sixteen = length-with_answers answers _ ∙ length-left_by stage (ServerReceive into room ∷ []) rest ∙ long;
      apart = subst (AnswersApart answers (ServerReceive into room ∷ [])) (sixteen g (long_with stage rest long))
          (apart-answers answers few into room (λ i. get_or g i 0));
    }
  where
    length-with : (es : List (ℕ × ℕ)) (g : List ℕ) → length (with_values es g) ≡ length g
    length-with [] g = refl
    length-with (e ∷ es) g = length-with es _ ∙ length-set g e.0 e.1

    long_with : (stage : Stage) (rest : List ℕ) → length rest ≡ 16 → length (with_values (arguments stage) rest) ≡ 16
    long_with stage rest long = length-with (arguments stage) rest ∙ long
