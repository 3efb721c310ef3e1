-- Settling: whoever ends in the middle of quiet moves ends behind them too.
use Rattle.std.proofs.Common.{◌≡◌, ℕ, zero, suc, ◌+◌, ◌≤◌, Bool, true, false, nat_le, List, [], ◌∷◌, ◌++◌, replicate, Option, None}
use Rattle.std.proofs.Common.{refl, sym, ap, subst, ◌∙◌, arith, inl, inr}
use Rattle.std.proofs.lemmas.Bool.{leb-true, leb-false}
use Rattle.std.proofs.lemmas.Option.{same_Some}
use Rattle.fk_model.specs.declared.moves.Ask.TheVariants as asks
use Rattle.fk_model.specs.declared.moves.Move.{Move}
use Rattle.fk_model.specs.World.{World}
use Rattle.laws_runs.specs.Cores.{Unmoved, JobEnd, Work, House, Core, asker, IsOtherReady, IsDueNow, IsReadyBy, moved_by, moved, with_end}
use Rattle.laws_runs.specs.Cores.{EndsFor, EndsNow, Settles, IsRun}
use Rattle.laws_runs.specs.Cores.Asker.{Others}
use Rattle.laws_runs.specs.Cores.JobEnd.{Idle}
use Rattle.laws_runs.specs.Cores.Unmoved.{NoImage, Dead}
use Rattle.laws_runs.specs.Cores.Settles.{Stays, Ends}
use Rattle.laws_runs.specs.Cores.IsRun.{Begins, Goes}
use Rattle.laws_turns.specs.Turns.{core_in, IsUnheard, AreUnheard, UnheardMovesAreTurns}

snoc-replicate : {X : Type 0} (n : ℕ) (x : X) → replicate n x ++ x ∷ [] ≡ x ∷ replicate n x
snoc-replicate zero x = refl
snoc-replicate (suc n) x = ap (λ l. x ∷ l) (snoc-replicate n x)

module _ {J S A V : Type 0} (h : House J S A V) (servers : V) (m : Move) where
  abbrev at : World → List (JobEnd A) → Option (Work S) → ℕ → Core S A V
  at w ends work events = core_in h servers m w ends work events

  -- where the move is ready nobody else has to wait
  other-ready : (w v : World) (ends : List (JobEnd A)) (work : Option (Work S)) (events : ℕ) → IsUnheard h servers m w v → IsOtherReady h
      (at w ends work events)
  other-ready w v ends work events quiet = (m, asks.Run, quiet.runs ends work events, quiet.ready)

  module _ (w v : World) (quiet : IsUnheard h servers m w v) (work : Option (Work S)) (early late : ℕ) (rises : early ≤ late) where
    -- whoever ends before the move ends behind it
    later-why : (ends : List (JobEnd A)) (j : J) (why : Unmoved) → EndsFor h (at w ends work early) j why → EndsFor h (at v ends work late) j why
    later-why ends j NoImage ends-so = ends-so
    later-why ends j Dead ends-so = (ends-so.0, ends-so.1, quiet.gone (h.nester j) ends-so.2)

    earlier-why : (ends : List (JobEnd A)) (j : J) (why : Unmoved) → EndsFor h (at v ends work late) j why → EndsFor h (at w ends work early) j why
    earlier-why ends j NoImage ends-so = ends-so
    earlier-why ends j Dead ends-so = (ends-so.0, ends-so.1, quiet.comes (h.nester j) ends-so.2)

    later-due : (ends : List (JobEnd A)) (j : J) → IsDueNow h (at w ends work early) j → IsDueNow h (at v ends work late) j
    later-due ends j (inl worked) = inl worked
    later-due ends j (inr (inl timely)) = inr (inl (omega (arith, timely, rises)))
    later-due ends j (inr (inr alone)) = absurd (alone (other-ready w v ends work early quiet))

    later : (ends : List (JobEnd A)) (why : Unmoved) → EndsNow h (at w ends work early) why → EndsNow h (at v ends work late) why
    later ends why now = record {
      job = now.job;
      its = now.its;
      due = later-due ends now.job now.due;
      unmoved = now.unmoved;
      ends = later-why ends now.job why now.ends;
    }

    -- nobody ends before it whose time comes later
    not-due : (ends : List (JobEnd A)) (j k : J) → j ≡ k → work ≡ None → nat_le (h.at k) early ≡ false → IsDueNow h (at w ends work early) j → ⊥
    not-due ends j k same none young (inl worked) = let there = worked.1 in cc
    not-due ends j k same none young (inr (inl timely)) =
        let high = leb-false (h.at k) early young in
        let low : h.at k ≤ early = subst (λ i. h.at i ≤ early) same timely in
        omega (arith, high, low)
    not-due ends j k same none young (inr (inr alone)) = alone (other-ready w v ends work early quiet)

    -- what is settled behind the move is settled before it as far as that goes, and then behind it
    pub split : (c d : Core S A V) → Settles h c d → (ends : List (JobEnd A)) → c ≡ at v ends work late →
        (after : List (JobEnd A)) × Settles h (at w ends work early) (at w after work early) × Settles h (at v after work late) d
    split _ _ (Stays c none) ends same = (
      ends,
      Stays (at w ends work early) (λ why now. none why (subst (λ k. EndsNow h k why) (sym same) (later ends why now))),
      subst (λ k. Settles h k c) same (Stays c none),
    )
    split _ _ (Ends c d why now rest) ends same =
        by (nat_le (h.at job) early) refl (split (with_end c why) d rest (ends ++ Idle why ∷ []) (ap (λ k. with_end k why) same))
      where
        here : EndsNow h (at v ends work late) why
        here = subst (λ k. EndsNow h k why) same now

        job : J
        job = here.job

        by : (timely : Bool) → nat_le (h.at job) early ≡ timely →
            (after : List (JobEnd A)) × Settles h (at w (ends ++ Idle why ∷ []) work early) (at w after work early) × Settles h (at v after work late) d →
            (after : List (JobEnd A)) × Settles h (at w ends work early) (at w after work early) × Settles h (at v after work late) d
        by true timely more = (
          more.0,
          Ends (at w ends work early) (at w more.0 work early) why (record {
            job = job;
            its = here.its;
            due = inr (inl (leb-true (h.at job) early timely));
            unmoved = here.unmoved;
            ends = earlier-why ends job why here.ends;
          }) more.1,
          more.2,
        )
        by false young more = (
          ends,
          Stays (at w ends work early) (λ other sooner.
              not-due ends sooner.job job (same_Some _ _ (sym sooner.its ∙ here.its)) here.unmoved young sooner.due),
          subst (λ k. Settles h k d) same (Ends c d why now rest),
        )

  -- a quiet move is a turn
  turn : (w v : World) (first d : Core S A V) (past : List Move) (ends : List (JobEnd A)) (work : Option (Work S)) (events : ℕ) →
      IsUnheard h servers m w v → IsRun h first past (at w ends work events) → Settles h (at v ends work (events + 1)) d → IsRun h first (past ++ m ∷ []) d
  turn w v first d past ends work events quiet run settles = Goes past c m d run
      (subst (IsReadyBy h c m) (sym asked) quiet.ready)
      (subst (λ k. Settles h k d) (sym goes) settles)
    where
      c : Core S A V
      c = at w ends work events

      asked : asker h c m.who ≡ Others asks.Run
      asked = quiet.runs ends work events

      goes : moved h c m ≡ at v ends work (events + 1)
      goes = ap (moved_by h c m) asked
          ∙ (λ i. record { world = quiet.goes i; servers = quiet.unheard i; ends = ends; work = work; events = events + 1 })

  pub turns : (n : ℕ) (w v : World) (ends : List (JobEnd A)) (work : Option (Work S)) (events : ℕ) (d : Core S A V) →
      AreUnheard h servers m (suc n) w v → Settles h (at v ends work (events + suc n)) d → IsRun h (at w ends work events) (replicate (suc n) m) d
  turns zero w v ends work events d led settles =
      let one : events + suc zero ≡ events + 1 = refl in
      turn w v (at w ends work events) d [] ends work events (subst (λ u. IsUnheard h servers m u v) (sym led.1) led.2) Begins
      (subst (λ (k : ℕ). Settles h (at v ends work k) d) one settles)
  turns (suc n) w v ends work events d led settles =
      let rises : events + suc n ≤ events + suc (suc n) = omega arith in
      let halves = split led.0 v led.2 work (events + suc n) (events + suc (suc n)) rises _ d settles ends refl in
      let so_far = turns n w led.0 ends work events (at led.0 halves.0 work (events + suc n)) led.1 halves.1 in
      let more : events + suc (suc n) ≡ events + suc n + 1 = omega arith in
      subst (λ l. IsRun h (at w ends work events) l d) (snoc-replicate (suc n) m)
      (turn led.0 v (at w ends work events) d (replicate (suc n) m) halves.0 work (events + suc n) led.2 so_far
      (subst (λ (k : ℕ). Settles h (at v halves.0 work k) d) more halves.2))

pub quiet_moves_are_turns_lem : {J S A V : Type 0} → UnheardMovesAreTurns J S A V
quiet_moves_are_turns_lem h servers m n w v ends work events d led settles = turns h servers m n w v ends work events d led settles
