-- Idle: where servers have no ready act, and where nobody but jobs has a move.
use Rattle.std.proofs.Common.{◌≡◌, ℕ, ◌+◌, ◌<◌, Bool, true, false, if◌then◌else◌, nat_lt, length, Option, Some, None, option_map, IfNone, refl, sym, ap, subst, ◌∙◌, arith}
use Rattle.std.proofs.lemmas.Bool.{ltb-false}
use Rattle.std.proofs.lemmas.Bool.Decides.{Decides-ltb}
use Rattle.std.specs.List.{slice_get}
use Rattle.fk_model.specs.declared.moves.Ask.{Ask}
use Rattle.fk_model.specs.declared.moves.Ask.TheVariants as asks
use Rattle.fk_model.specs.declared.moves.Move.{Move}
use Rattle.fk_model.specs.declared.names.Who.{Who}
use Rattle.fk_model.specs.Moves.{IsReady, GoesAllowed, outcome, with_pick}
use Rattle.fk_model.specs.Outcomes.{Outcome}
use Rattle.fk_model.specs.Outcomes.Outcome.{Refused, Waits, Goes}
use Rattle.fk_model.specs.Places.{Path}
use Rattle.fk_model.specs.Who.{named, event_of}
use Rattle.fk_model.specs.World.{World}
use Rattle.laws_jobs.specs.Machines.{IsReadyAt}
use Rattle.fk_kernel.specs.Events.{is_who}
use Rattle.fk_natives.specs.Natives.{State}
use Rattle.fk_served.specs.Acts.{is_act, HasNoAct, HaveNoActs, IsReadyAsked, IsReadyFor}
use Rattle.fk_served.specs.Served.{Services, asked, asked_of, serving}
use Rattle.fk_served.proofs.Acts.{found, never-calls}
use Rattle.fk_model.specs.Places.Ptr.{At}
use Rattle.fk_model.specs.Valid.{is_served_port}

-- who needs no pick has none
no-pick : (w : World) (x p : Path) (o : Outcome) → GoesAllowed w x (with_pick false (Some p) o) → ⊥
no-pick w x p (Refused status) h = h
no-pick w x p Waits h = h
no-pick w x p (Goes changes said) h = h

unpicked-ready : (w : World) (x p : Path) (ask : Ask) → is_act ask ≡ true → (ask ≡ asks.Accept → ⊥) → IsReady w x (Some p) ask → ⊥
unfolding outcome
unpicked-ready w x p asks.Run act other h = cc
unpicked-ready w x p (asks.Call stage words) act other h = cc
unpicked-ready w x p asks.Accept act other h = other refl
unpicked-ready w x p (asks.Give words len) act other h = no-pick w x p _ h
unpicked-ready w x p asks.Over act other h = no-pick w x p _ h

pub no-act : (services : Services) (w : World) (port : Who) (ask : Ask) → asked services w port ≡ Some ask → (ask ≡ asks.Accept → ⊥)
    → (IsReadyAt w (event_of w ask (record { who = port; pick = None })) → ⊥) → HasNoAct services w port
no-act services w port ask is other unready m asked_for who asks_it act ready = by m.pick refl
  where
    same : asked_for ≡ ask
    same = let e : Some asked_for ≡ Some ask = sym asks_it ∙ is in let f : asked_for ≡ ask = cc in f

    at : (pick : Option Who) → Move
    at pick = record { who = port; pick = pick }

    there : (pick : Option Who) → m.pick ≡ pick → IsReadyAt w (event_of w ask (record { who = port; pick = pick }))
    there pick e =
        let whole : IsReadyAt w (event_of w ask (record { who = m.who; pick = m.pick })) = subst
        (λ a. IsReadyAt w (event_of w a m)) same ready in
        subst (λ k. IsReadyAt w (event_of w ask (record { who = k; pick = pick }))) who
        (subst (λ p. IsReadyAt w (event_of w ask (record { who = m.who; pick = p }))) e whole)

    by : (pick : Option Who) → m.pick ≡ pick → ⊥
    by None e = unready (there None e)
    by (Some p) e =
        unpicked-ready w (named w port) (named w p) ask (subst (λ a. is_act a ≡ true) same act) other (there (Some p) e)

-- who runs has no act
pub runs_alone : (services : Services) (w : World) (port : Who) → asked services w port ≡ Some asks.Run → HasNoAct services w port
runs_alone services w port runs m ask who asks_it act ready =
    let e : Some asks.Run ≡ Some ask = sym runs ∙ asks_it in
    let same : asks.Run ≡ ask = cc in
    let not : is_act asks.Run ≡ true = subst (λ a. is_act a ≡ true) (sym same) act in cc

-- nor who asks for nothing
pub asks_nothing : (services : Services) (w : World) (port : Who) → asked services w port ≡ None → HasNoAct services w port
asks_nothing services w port none m ask who asks_it act ready = let e : None ≡ Some ask = sym none ∙ asks_it in cc

pub if-none : {A : Type 0} (o : Option A) (X Y : Type 0) → (X → Y) → IfNone o X → IfNone o Y
if-none None X Y f h = f h
if-none (Some a) X Y f h = tt

-- ---- one server after the other

pub no-acts : (services : Services) (w : World) (but : Option Who) (from : ℕ) → HaveNoActs services w but from from
no-acts services w but from k served low high is other = absurd (omega (arith, low, high))

least : (k at : ℕ) → k < at + 1 → (k < at → ⊥) → k ≡ at
least k at high other = by (nat_lt k at) refl
  where
    by : (t : Bool) → nat_lt k at ≡ t → k ≡ at
    by true e = absurd (other ((Decides-ltb k at).0 e))
    by false e = let above = ltb-false k at e in omega (arith, high, above)

pub one-more : (services : Services) (w : World) (but : Option Who) (from at : ℕ) (port : Who) → option_map (λ (s : Who × State). s.0) (slice_get services at) ≡ Some port →
    (is_who but port ≡ false → HasNoAct services w port) → HaveNoActs services w but from at → HaveNoActs services w but from (at + 1)
one-more services w but from at port is none before k served low high there other = by (nat_lt k at) refl
  where
    by : (t : Bool) → nat_lt k at ≡ t → HasNoAct services w served.0
    by true e = before k served low ((Decides-ltb k at).0 e) there other
    by false e =
        let here : k ≡ at = least k at high (λ less. let no = (Decides-ltb k at).1 less in cc) in
        let name : Some served.0 ≡ Some port = sym (ap (option_map (λ (s : Who × State). s.0)) (subst (λ j. slice_get services j ≡ Some served) here there))
        ∙ is in
        let same : served.0 ≡ port = cc in
        subst (HasNoAct services w) (sym same) (none (subst (λ (k : Who). is_who but k ≡ false) same other))

-- ---- no move is left

pub no-asked : (services : Services) (w : World) (but : Option Who) → ((m : Move) → is_who but m.who ≡ false → IsReadyAt w (event_of w asks.Run m) → ⊥) →
    HaveNoActs services w but 0 (length services) → (m : Move) → is_who but m.who ≡ false → IsReadyAsked services w m → ⊥
no-asked services w but users acts m other ready = by_asked (asked services w m.who) refl ready
  where
    run : (ask : Ask) → is_act ask ≡ true → Some asks.Run ≡ Some ask → ⊥
    run ask is e = let same : asks.Run ≡ ask = cc in let not : is_act asks.Run ≡ true = subst (λ a. is_act a ≡ true) (sym same) is in cc

    act : (ask : Ask) → is_act ask ≡ true → asked services w m.who ≡ Some ask → IsReadyAt w (event_of w ask m) → ⊥
    act ask is wants ready = by (is_served_port w (At (named w m.who))) (serving services m.who) refl wants
      where
        by : (port : Bool) (state : Option State) → serving services m.who ≡ state → (if port then asked_of state else Some asks.Run) ≡ Some ask → ⊥
        by true (Some state) serves e =
            let there = found services m.who state serves in
            acts there.0 there.1 (omega arith) there.3 there.2 (subst (λ (k : Who). is_who but k ≡ false) (sym there.4) other)
            m ask (sym there.4) (subst (λ k. asked services w k ≡ Some ask) (sym there.4) wants) is ready
        by true None serves e = run ask is e
        by false state serves e = run ask is e

    by_ask : (ask : Ask) → asked services w m.who ≡ Some ask → IsReadyAt w (event_of w ask m) → ⊥
    by_ask asks.Run wants ready = users m other ready
    by_ask (asks.Call stage words) wants ready = never-calls services w m.who stage words wants
    by_ask asks.Accept wants ready = act asks.Accept refl wants ready
    by_ask (asks.Give words len) wants ready = act (asks.Give words len) refl wants ready
    by_ask asks.Over wants ready = act asks.Over refl wants ready

    by_asked : (o : Option Ask) → asked services w m.who ≡ o → IsReadyFor w m o → ⊥
    by_asked None e ready = ready
    by_asked (Some ask) e ready = by_ask ask e ready
