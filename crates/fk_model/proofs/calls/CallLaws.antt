-- The registers of a calling thread: stages and a rest are written into them and read back.
use Rattle.std.proofs.Common.{◌≡◌, ℕ, Bool, true, false, cond, eqb, List, [], ◌∷◌, length, get_or, Some, refl, sym, ap, subst, ◌∙◌, arith}
use Rattle.std.proofs.lemmas.Bool.{false≢true, eqb-true}
use Rattle.std.proofs.lemmas.List.{length-set}
use Rattle.std.proofs.lemmas.Option.{same_Some}
use Rattle.fk_model.specs.declared.stage.Stage.{Stage}
use Rattle.fk_model.specs.declared.stage.Stage.TheVariants.{Create, Destroy, Rename, Search, Point, Clear, Locate, CountIn, GetState, SetState, GetPtr, SetPtr}
use Rattle.fk_model.specs.declared.stage.Stage.TheVariants.{SpaceHold, SpaceRelease, ThreadStop, ThreadGo, PageGive, PageTake, PageRead, PageNext, MutexLock}
use Rattle.fk_model.specs.declared.stage.Stage.TheVariants.{MutexTrylock, MutexUnlock, CondWait, CondAsleep, CondSignal, CondBroadcast, Connect, ClientReceive}
use Rattle.fk_model.specs.declared.stage.Stage.TheVariants.{ClientSend, ClientOver, Disconnect, ClientOverRef, ClientReceiveRef, Wait, ServerReceive}
use Rattle.fk_model.specs.declared.stage.Stage.TheVariants.{ServerSend, ServerOver, ServerEnd, FaultDone, ServerOverRef, ServerReceiveRef, LinkSet, LinkPark}
use Rattle.fk_model.specs.declared.stage.Stage.TheVariants.{FaultSet, FaultPark, HoldSet, SpaceMakeHeld}
use Rattle.fk_model.specs.Calls.{Call, calls, code_of, argument_registers, with_values, without_values, words, todo_of, named_by, rest_of, IsTodo, IsRest}

-- ---- 16 registers, the first apart from the others

abbrev pub registers : ℕ → (ℕ → ℕ) → List ℕ
registers code r = code ∷ r 1 ∷ r 2 ∷ r 3 ∷ r 4 ∷ r 5 ∷ r 6 ∷ r 7 ∷ r 8 ∷ r 9 ∷ r 10 ∷ r 11 ∷ r 12 ∷ r 13 ∷ r 14 ∷ r 15 ∷ []

-- a list of 16 is that of its elements
pub sixteen : (g : List ℕ) → length g ≡ 16 → registers (get_or g 0 0) (λ i. get_or g i 0) ≡ g
sixteen [] long = absurd (omega arith)
sixteen (a ∷ []) long = absurd (omega arith)
sixteen (a ∷ b ∷ []) long = absurd (omega arith)
sixteen (a ∷ b ∷ c ∷ []) long = absurd (omega arith)
sixteen (a ∷ b ∷ c ∷ d ∷ []) long = absurd (omega arith)
sixteen (a ∷ b ∷ c ∷ d ∷ e ∷ []) long = absurd (omega arith)
sixteen (a ∷ b ∷ c ∷ d ∷ e ∷ f ∷ []) long = absurd (omega arith)
sixteen (a ∷ b ∷ c ∷ d ∷ e ∷ f ∷ g ∷ []) long = absurd (omega arith)
sixteen (a ∷ b ∷ c ∷ d ∷ e ∷ f ∷ g ∷ h ∷ []) long = absurd (omega arith)
sixteen (a ∷ b ∷ c ∷ d ∷ e ∷ f ∷ g ∷ h ∷ i ∷ []) long = absurd (omega arith)
sixteen (a ∷ b ∷ c ∷ d ∷ e ∷ f ∷ g ∷ h ∷ i ∷ j ∷ []) long = absurd (omega arith)
sixteen (a ∷ b ∷ c ∷ d ∷ e ∷ f ∷ g ∷ h ∷ i ∷ j ∷ k ∷ []) long = absurd (omega arith)
sixteen (a ∷ b ∷ c ∷ d ∷ e ∷ f ∷ g ∷ h ∷ i ∷ j ∷ k ∷ l ∷ []) long = absurd (omega arith)
sixteen (a ∷ b ∷ c ∷ d ∷ e ∷ f ∷ g ∷ h ∷ i ∷ j ∷ k ∷ l ∷ m ∷ []) long = absurd (omega arith)
sixteen (a ∷ b ∷ c ∷ d ∷ e ∷ f ∷ g ∷ h ∷ i ∷ j ∷ k ∷ l ∷ m ∷ n ∷ []) long = absurd (omega arith)
sixteen (a ∷ b ∷ c ∷ d ∷ e ∷ f ∷ g ∷ h ∷ i ∷ j ∷ k ∷ l ∷ m ∷ n ∷ o ∷ []) long = absurd (omega arith)
sixteen (a ∷ b ∷ c ∷ d ∷ e ∷ f ∷ g ∷ h ∷ i ∷ j ∷ k ∷ l ∷ m ∷ n ∷ o ∷ p ∷ []) long = refl
sixteen (a ∷ b ∷ c ∷ d ∷ e ∷ f ∷ g ∷ h ∷ i ∷ j ∷ k ∷ l ∷ m ∷ n ∷ o ∷ p ∷ q ∷ more) long = absurd (omega arith)

-- ---- written, then read

Reads : List Stage → List ℕ → Type 0
Reads todo rest = (todo_of (words todo rest) ≡ Some todo) × (rest_of todo (words todo rest) ≡ without_values (argument_registers todo) rest)

reads : (todo : List Stage) → IsTodo todo → (r : ℕ → ℕ) → Reads todo (registers (r 0) r)
unfolding Reads words todo_of rest_of code_of
reads (Create s x kind ∷ []) is r = (refl, refl)
reads (Destroy s x ∷ []) is r = (refl, refl)
reads (Rename s x y ∷ []) is r = (refl, refl)
reads (Search s from ∷ []) is r = (refl, refl)
reads (Point s x s2 x2 ∷ []) is r = (refl, refl)
reads (Clear s x ∷ []) is r = (refl, refl)
reads (Locate reference s ∷ []) is r = (refl, refl)
reads (CountIn base s x ∷ []) is r = (refl, refl)
reads (GetState s x address ∷ []) is r = (refl, refl)
reads (SetState s x address ∷ []) is r = (refl, refl)
reads (GetPtr s x field reference ∷ []) is r = (refl, refl)
reads (SetPtr s x field reference ∷ []) is r = (refl, refl)
reads (SpaceHold s x ∷ []) is r = (refl, refl)
reads (SpaceRelease s x ∷ []) is r = (refl, refl)
reads (ThreadStop h ∷ []) is r = (refl, refl)
reads (ThreadGo h ∷ []) is r = (refl, refl)
reads (PageGive s page address ∷ []) is r = (refl, refl)
reads (PageTake s page address ∷ []) is r = (refl, refl)
reads (PageRead s page address ∷ []) is r = (refl, refl)
reads (PageNext s from ∷ []) is r = (refl, refl)
reads (MutexLock m ∷ []) is r = (refl, refl)
reads (MutexTrylock m ∷ []) is r = (refl, refl)
reads (MutexUnlock m ∷ []) is r = (refl, refl)
reads (CondWait c m ∷ []) is r = (refl, refl)
reads (CondAsleep c m ∷ []) is r = (refl, refl)
reads (CondSignal c ∷ []) is r = (refl, refl)
reads (CondBroadcast c ∷ []) is r = (refl, refl)
reads (Connect h ∷ []) is r = (refl, refl)
reads (Connect h ∷ ClientSend address count ∷ ClientOver ∷ ClientReceive into room ∷ []) is r = (refl, refl)
reads (ClientSend address count ∷ ClientOver ∷ ClientReceive into room ∷ []) is r = (refl, refl)
reads (ClientOver ∷ ClientReceive into room ∷ []) is r = (refl, refl)
reads (ClientReceive into room ∷ []) is r = (refl, refl)
reads (ClientSend address count ∷ []) is r = (refl, refl)
reads (ClientOver ∷ []) is r = (refl, refl)
reads (Disconnect ∷ []) is r = (refl, refl)
reads (ClientOverRef reference ∷ []) is r = (refl, refl)
reads (ClientReceiveRef into room reference ∷ []) is r = (refl, refl)
reads (Wait set ∷ []) is r = (refl, refl)
reads (Wait set ∷ ServerReceive into room ∷ []) is r = (refl, refl)
reads (ServerReceive into room ∷ []) is r = (refl, refl)
reads (ServerSend address count ∷ []) is r = (refl, refl)
reads (ServerOver ∷ []) is r = (refl, refl)
reads (ServerSend address count ∷ ServerOver ∷ ServerReceive into room ∷ []) is r = (refl, refl)
reads (ServerOver ∷ ServerReceive into room ∷ []) is r = (refl, refl)
reads (ServerEnd ∷ []) is r = (refl, refl)
reads (FaultDone ∷ []) is r = (refl, refl)
reads (ServerOverRef reference ∷ []) is r = (refl, refl)
reads (ServerReceiveRef into room reference ∷ []) is r = (refl, refl)
reads (LinkSet s x port server ∷ []) is r = (refl, refl)
reads (LinkPark s x port ∷ []) is r = (refl, refl)
reads (FaultSet s x port taker ∷ []) is r = (refl, refl)
reads (FaultPark s x port taken ∷ []) is r = (refl, refl)
reads (HoldSet s x thread ∷ []) is r = (refl, refl)
reads (SpaceMakeHeld x ∷ []) is r = (refl, refl)
reads other is r = absurd (false≢true is)

pub words_read_back_lem : (todo : List Stage) (rest : List ℕ) →
    IsTodo todo → IsRest todo rest → (todo_of (words todo rest) ≡ Some todo) × (rest_of todo (words todo rest) ≡ rest)
unfolding Reads
words_read_back_lem todo rest is is_rest =
    let both = subst (Reads todo) (sixteen rest is_rest.sixteen) (reads todo is (λ i. get_or rest i 0)) in
    (both.0, both.1 ∙ is_rest.apart)

-- ---- read, then written

-- these registers are those of the stages and of what they hold besides
Writes : List ℕ → List Stage → Type 0
Writes g todo = IsTodo todo × (without_values (argument_registers todo) (rest_of todo g) ≡ rest_of todo g) × (words todo (rest_of todo g) ≡ g)

-- so it is where the registers begin with the code of a call
abbrev WritesCall : Call → Type 0
WritesCall c = (r : ℕ → ℕ) → Writes (registers c.code r) (c.todo (registers c.code r))

abbrev Each : (Call → Type 0) → List Call → Type 0
Each P [] = Unit {0}
Each P (c ∷ cs) = P c × Each P cs

each_writes : Each WritesCall calls
unfolding Writes words rest_of code_of
each_writes = assumption

found_writes : (cs : List Call) (r : ℕ → ℕ) (todo : List Stage) →
    Each WritesCall cs → named_by cs (r 0) (registers (r 0) r) ≡ Some todo → Writes (registers (r 0) r) todo
found_writes [] r todo each named = cc
found_writes (c ∷ cs) r todo each named = by (eqb (r 0) c.code) refl (found_writes cs r todo each.1) named
  where
    g : List ℕ
    g = registers (r 0) r

    by : (b : Bool) →
        eqb (r 0) c.code ≡ b → (named_by cs (r 0) g ≡ Some todo → Writes g todo) → cond b (Some (c.todo g)) (named_by cs (r 0) g) ≡ Some todo → Writes g todo
    by true is later named =
        let here = subst (λ code. Writes (registers code r) (c.todo (registers code r))) (sym (eqb-true _ _ is)) (each.0 r) in
        subst (Writes g) (same_Some _ _ named) here
    by false is later named = later named

length-without_values : (es : List (ℕ × ℕ)) (g : List ℕ) → length (without_values es g) ≡ length g
length-without_values [] g = refl
length-without_values (e ∷ es) g = length-without_values es _ ∙ length-set g e.0 0

length-with_values : (es : List (ℕ × ℕ)) (g : List ℕ) → length (with_values es g) ≡ length g
length-with_values [] g = refl
length-with_values (e ∷ es) g = length-with_values es _ ∙ length-set g e.0 e.1

pub words_keep_length_lem : (todo : List Stage) (rest : List ℕ) → length (words todo rest) ≡ length rest
unfolding words
words_keep_length_lem todo rest = length-with_values (argument_registers todo) rest

pub length-rest_of : (todo : List Stage) (g : List ℕ) → length (rest_of todo g) ≡ length g
unfolding rest_of
length-rest_of todo g = length-without_values (argument_registers todo) g

pub todo_writes_back_lem : (g : List ℕ) (todo : List Stage) →
    length g ≡ 16 → todo_of g ≡ Some todo → IsTodo todo × IsRest todo (rest_of todo g) × (words todo (rest_of todo g) ≡ g)
unfolding Writes todo_of
todo_writes_back_lem g todo long named =
    let same = sixteen g long in
    let all = subst (λ g. Writes g todo) same (found_writes calls (λ i. get_or g i 0) todo each_writes (ap todo_of same ∙ named)) in
    (all.0, record { sixteen = length-rest_of todo g ∙ long; apart = all.1 }, all.2)
