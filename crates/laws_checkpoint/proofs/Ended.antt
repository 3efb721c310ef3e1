-- From its first call on: a checkpoint has never held, or stands in one of its states; and what comes of that.
use Rattle.std.proofs.Common.{◌≡◌, ℕ, ◌≤◌, Bool, true, cond, List, [], ◌∷◌, Option, Some, None, is_some, IsSome, arith, false, not, nat_le, Result, Ok, refl}
use Rattle.std.proofs.Common.{sym, ap, subst, ◌∙◌, ◌⊎◌, inl, inr, ne_eqb}
use Rattle.std.proofs.lemmas.Bool.{and_parts, leb-false, le-leb}
use Rattle.fk_model.specs.declared.limits.TheConstants.{OWN_SPACE, LAST_USER_SLOT, FIRST_SCRATCH_SLOT, LAST_SCRATCH_SLOT, LAST_PORTER_SLOT}
use Rattle.fk_model.specs.declared.stage.Stage.{Stage}
use Rattle.fk_model.specs.declared.stage.Stage.TheVariants.{Create, Destroy, Search, Point, Locate, GetState, PageNext, PageRead, SpaceHold, SpaceRelease}
use Rattle.fk_model.specs.declared.statuses.status.TheConstants.{OK}
use Rattle.fk_model.specs.Places.{Path}
use Rattle.fk_model.specs.Places.Ptr.{At}
use Rattle.fk_model.specs.Objects.{Body, holds}
use Rattle.fk_model.specs.Holds.{holder_of}
use Rattle.fk_model.specs.World.{World}
use Rattle.fk_model.specs.ObjectRows.{is_scratch}
use Rattle.fk_model.specs.Outcomes.{Said}
use Rattle.fk_model.specs.Outcomes.Said.{Answered}
use Rattle.fk_model.specs.Runs.{Event, after}
use Rattle.fk_model.specs.Valid.{is_fit, birth_at}
use Rattle.fk_model.specs.Whole.{is_scratch_slot}
use Rattle.fk_model.specs.Readers.{space_argument}
use Rattle.fk_model.specs.StateRows.{is_native}
use Rattle.fk_model.proofs.walks.PlaceLaws.{same_path_refl}
use Rattle.fk_model.specs.Cut.{cut}
use Rattle.fk_model.specs.Sound.{IsClean}
use Rattle.laws_moves.specs.Frozen.Holding.{IsHolding}
use Rattle.laws_moves.proofs.InFrozen.FrozenCut.{same-cut}
use Rattle.laws_moves.specs.Savable.Savable.{may_make, MayMake, LeavesNoScratch, IsSound}
use Rattle.laws_jobs.specs.Machines.{Head, heard, said_of, porter, no_words, call_of, IsReadyAt, Interleaved, AtWork, IsOwedCall}
use Rattle.laws_jobs.specs.Machines.Head.{Stops, Asks}
use Rattle.laws_jobs.specs.Machines.Interleaved.{Here, Another, Own}
use Rattle.laws_jobs.specs.Jobs.{MayBegin, HasPorter}
use Rattle.laws_jobs.specs.Leads.{held_world}
use Rattle.laws_jobs.specs.Holds.{hold, IsSpaceAt, Held, Unheld}
use Rattle.laws_jobs.proofs.Weaving.{first_sound}
use Rattle.laws_jobs.proofs.Holds.{hold_comes_to}
use Rattle.laws_checkpoint.specs.Foreign.{PLACES, TARGETS, STEPS}
use Rattle.laws_checkpoint.specs.Foreign as seeks
use Rattle.laws_checkpoint.specs.Walk.State.{Down as w_Down, Searches as w_Searches, Over as w_Over}
use Rattle.laws_checkpoint.specs.Foreign.State.{Down as s_Down, Fields as s_Fields, Inside as s_Inside, Beside as s_Beside, Over as s_Over}
use Rattle.laws_checkpoint.specs.Contents.State.{Down as r_Down, Searches as r_Searches, Reads as r_Reads, Looks as r_Looks, Copies as r_Copies, Over as r_Over}
use Rattle.laws_checkpoint.specs.Gather.State.{Down as g_Down, Fields as g_Fields, Looks as g_Looks, Leads as g_Leads, Beside as g_Beside, Over as g_Over}
use Rattle.laws_checkpoint.specs.Walk as walks
use Rattle.laws_checkpoint.specs.Contents as reads
use Rattle.laws_checkpoint.specs.Gather as gathers
use Rattle.laws_checkpoint.specs.Checkpoint.{End, State, head, checkpoint}
use Rattle.laws_checkpoint.specs.Checkpoint.End.{Gone, Foreign, Done}
use Rattle.laws_checkpoint.specs.Checkpoint.State.{Holds, Readies, Over}
use Rattle.laws_checkpoint.specs.Laws.{CheckpointMeetsContract, CheckpointKeepsCut, EndsAsItWas, CheckpointEndsAsItWas}
use Rattle.laws_checkpoint.proofs.Same.{inside-itself}
use Rattle.laws_checkpoint.proofs.Mild.{IsOwnSlot}
use Rattle.laws_checkpoint.proofs.Mild.IsOwnSlot.{Places, Targets, Steps}
use Rattle.laws_checkpoint.proofs.Phases.{Tidy, tidy_clean, tidy_held, scratch_slot}
use Rattle.laws_checkpoint.proofs.Working.{asks_back, no_stop, Verdict, Phase, arrives}
use Rattle.laws_checkpoint.proofs.Working.Phase.{AtFirst, AtSecond, AtThird, AtWalks, AtSeeks, AtReads, AtGathers, AtDrops, AtTwoLeft, AtOneLeft, AtReleases}
use Rattle.laws_checkpoint.proofs.Working.Phase.{AtOver}

abbrev pub stopping : End → Head End
stopping end = Stops end

pub same_end : (a b : End) → stopping a ≡ Stops b → a ≡ b
same_end a b e = cc

abbrev pub call_head : {A : Type 0} → Stage → List ℕ → Head A
call_head stage words = Asks stage words

-- of a call that is known
pub given_by : {A : Type 0} (v : World) (nester : Path) (stage other : Stage) (words : List ℕ) → call_head {A = A} stage no_words ≡ Asks other words
    → IsOwedCall v nester stage no_words →
    IsOwedCall v nester other words
given_by v nester stage other words e owed =
    let one : stage ≡ other = cc in
    let two : no_words ≡ words = cc in
    subst (λ (ws : List ℕ). IsOwedCall v nester other ws) two (subst (λ (st : Stage). IsOwedCall v nester st no_words) one owed)

module _ (slot birth : ℕ) (w : World) (nester : Path) (low : slot ≤ LAST_USER_SLOT) (may : MayBegin w nester birth) where
  -- where a checkpoint at work has come to
  pub data Came (v : World) (t : State) : Type 0 where
    NeverHeld : (IsSpaceAt w (slot ∷ nester) → ⊥) → v ≡ w → t ≡ Over Gone → Came v t
    InPhase : (held : Held nester slot w) (sound : IsSound (held_world nester slot w)) → Phase nester slot birth low w may held sound v t → Came v t

  over_here : (v u : World) (end : End) (s t : State) (es : List Event) → s ≡ Over end → Interleaved (checkpoint slot) nester v s es u t
      → (u ≡ v) × (t ≡ Over end)
  over_here _ _ end _ _ _ same (Here v s sound) = (refl, same)
  over_here _ u end _ t _ same (Another v s e es _ _ sound works moves rest) =
      let stops : head slot s ≡ Stops end = ap (head slot) same in
      let asks_it = works.2 in
      let both = sym stops ∙ asks_it in
      cc
  over_here _ u end _ t _ same (Own v s stage words es _ _ sound asks_it ready rest) =
      let stops : head slot s ≡ Stops end = ap (head slot) same in
      let both = sym stops ∙ asks_it in
      cc

  pub empty : (y : Path) → is_scratch nester y ≡ true → w.body y ≡ None
  empty y is =
      let its = scratch_slot nester y is in
      ap w.body its.1 ∙ may.clean nester its.0 (subst (λ (x : Path). is_scratch nester x ≡ true) its.1 is)

  nobody : (P : Type 0) (o : Option Body) → o ≡ None → is_some o ≡ true → P
  nobody P None e h = cc
  nobody P (Some b) e h = cc

  pub tidy_before : Tidy nester slot birth w []
  tidy_before = record { named = may.named; clean = λ s k is live. nobody ((s ≡ nester) × ⊥) (w.body (k ∷ s)) (may.clean s k is) live }

  pub first_state : (said : Said) → said ≡ Answered OK [] → heard (checkpoint slot) Holds said ≡ Readies PLACES (TARGETS ∷ STEPS ∷ [])
  first_state said e = ap (heard (checkpoint slot) Holds) e

  pub first_over : (said : Said) (status : ℕ) → (status ≡ OK → ⊥) → said ≡ Answered status [] → heard (checkpoint slot) Holds said ≡ Over Gone
  first_over said status other e =
      ap (heard (checkpoint slot) Holds) e ∙ ap (λ (t : Bool). cond t (Readies PLACES (TARGETS ∷ STEPS ∷ [])) (Over Gone)) (ne_eqb status OK other)

  pub first_phase : (held : Held nester slot w) (sound : IsSound (held_world nester slot w)) →
      Phase nester slot birth low w may held sound (held_world nester slot w) (Readies PLACES (TARGETS ∷ STEPS ∷ []))
  unfolding Rattle.laws_checkpoint.proofs.Seeks.led
  first_phase held sound =
      AtFirst (record { holding = held.holding; inside = inside-itself (slot ∷ nester) (held_world nester slot w); leads = λ q. refl })
      (tidy_held nester slot birth w [] (Some (At (LAST_PORTER_SLOT ∷ nester))) tidy_before)

  from_hold : (v : World) (t : State) (es : List Event) → IsReadyAt w (hold nester slot) →
      Interleaved (checkpoint slot) nester (after w (hold nester slot)) (heard (checkpoint slot) Holds (said_of w (hold nester slot))) es v t → Came v t
  from_hold v t es ready run =
      let sound = first_sound (checkpoint slot) nester (after w (hold nester slot)) (heard (checkpoint slot) Holds (said_of w (hold nester slot))) es v t run in
      by sound (hold_comes_to nester slot w low empty may.sound.whole.valid sound.whole.valid may.sound.whole.few ready)
    where
      begun : IsSound (after w (hold nester slot)) → (held : Held nester slot w) → (sound : IsSound (held_world nester slot w)) → Came v t
      begun ignored held sound =
          let first = first_phase held sound in
          let here : Interleaved (checkpoint slot) nester (held_world nester slot w) (Readies PLACES (TARGETS ∷ STEPS ∷ [])) es v t =
          subst (λ (s : State). Interleaved (checkpoint slot) nester (held_world nester slot w) s es v t) (first_state (said_of w (hold nester slot)) held.said)
          (subst (λ (u : World). Interleaved (checkpoint slot) nester u
          (heard (checkpoint slot) Holds (said_of w (hold nester slot))) es v t) held.world run) in
          InPhase held sound (arrives nester slot birth low w may held sound (held_world nester slot w) v
          (Readies PLACES (TARGETS ∷ STEPS ∷ [])) t es first here)

      by : IsSound (after w (hold nester slot)) → Held nester slot w ⊎ Unheld nester slot w → Came v t
      by sound (inl held) = begun sound held (subst IsSound held.world sound)
      by sound (inr none) =
          let its = over_here (after w (hold nester slot)) v Gone (heard (checkpoint slot) Holds (said_of w (hold nester slot))) t es
          (first_over (said_of w (hold nester slot)) none.status none.refused none.said) run in
          NeverHeld none.none (its.0 ∙ none.world) its.1

  pub came : (v : World) (t : State) → AtWork (checkpoint slot) nester w Holds v t → Came v t
  came v t work =
      let asked_it = work.asked in
      let one : work.stage ≡ SpaceHold OWN_SPACE slot = cc in
      let two : work.words ≡ no_words = cc in
      let is : call_of nester work.stage work.words ≡ hold nester slot = λ i. call_of nester (one i) (two i) in
      from_hold v t work.events (subst (IsReadyAt w) is work.ready)
      (subst (λ (e : Event). Interleaved (checkpoint slot) nester (after w e) (heard (checkpoint slot) Holds (said_of w e)) work.events v t) is work.run)

  -- ---- the cut

  cut_in : (held : Held nester slot w) (sound : IsSound (held_world nester slot w)) (v : World) (t : State) → Phase nester slot birth low w may held sound v t →
      cut v nester slot ≡ cut (held_world nester slot w) nester slot
  cut_in held sound v _ (AtFirst its tidy) = same-cut (held_world nester slot w) v nester slot its.inside
  cut_in held sound v _ (AtSecond its places tidy) = same-cut (held_world nester slot w) v nester slot its.inside
  cut_in held sound v _ (AtThird its places targets tidy) = same-cut (held_world nester slot w) v nester slot its.inside
  cut_in held sound v _ (AtWalks s its asking tidy) = its.base.same
  cut_in held sound v _ (AtSeeks s its asking tidy) = its.base.same
  cut_in held sound v _ (AtReads s closed its asking tidy) = its.base.same
  cut_in held sound v _ (AtGathers s closed its asking tidy) = its.base.same
  cut_in held sound v _ (AtDrops end verdict its scratched tidy) = same-cut (held_world nester slot w) v nester slot its.inside
  cut_in held sound v _ (AtTwoLeft end verdict its targets places tidy) = same-cut (held_world nester slot w) v nester slot its.inside
  cut_in held sound v _ (AtOneLeft end verdict its places tidy) = same-cut (held_world nester slot w) v nester slot its.inside
  cut_in held sound v _ (AtReleases end verdict its tidy) = same-cut (held_world nester slot w) v nester slot its.inside
  cut_in held sound v _ (AtOver end verdict same unheld tidy) = same

  pub cut_kept : (v : World) (t : State) → Came v t → cut v nester slot ≡ cut w nester slot
  cut_kept v t (NeverHeld none same over) = ap (λ (u : World). cut u nester slot) same
  cut_kept v t (InPhase held sound phase) = cut_in held sound v t phase ∙ held.cut

  -- ---- the end

  -- in a state of work it doesn't end
  pub ended_in : (held : Held nester slot w) (sound : IsSound (held_world nester slot w)) (v : World) (t : State) (end : End)
      → Phase nester slot birth low w may held sound v t →
      head slot t ≡ Stops end → Verdict nester slot birth low w may held sound end × (t ≡ Over end) × (holder_of (v.body (slot ∷ nester)) ≡ None)
      × Tidy nester slot birth v []
  ended_in held sound v _ end (AtFirst its tidy) stops = cc
  ended_in held sound v _ end (AtSecond its places tidy) stops = cc
  ended_in held sound v _ end (AtThird its places targets tidy) stops = cc
  ended_in held sound v _ end (AtWalks s its asking tidy) stops = no_stop _ (walks.head slot s) asking.0 asking.1 end asking.2 stops
  ended_in held sound v _ end (AtSeeks s its asking tidy) stops = no_stop _ (seeks.head slot s) asking.0 asking.1 end asking.2 stops
  ended_in held sound v _ end (AtReads s closed its asking tidy) stops = no_stop _ (reads.head slot s) asking.0 asking.1 end asking.2 stops
  ended_in held sound v _ end (AtGathers s closed its asking tidy) stops = no_stop _ (gathers.head slot s) asking.0 asking.1 end asking.2 stops
  ended_in held sound v _ end (AtDrops other verdict its scratched tidy) stops = cc
  ended_in held sound v _ end (AtTwoLeft other verdict its targets places tidy) stops = cc
  ended_in held sound v _ end (AtOneLeft other verdict its places tidy) stops = cc
  ended_in held sound v _ end (AtReleases other verdict its tidy) stops = cc
  ended_in held sound v _ end (AtOver other verdict same unheld tidy) stops =
      let its : other ≡ end = (let e : head slot (Over other) ≡ Stops end = stops in same_end other end e) in
      (subst (Verdict nester slot birth low w may held sound) its verdict, ap Over its, unheld, tidy)

  as_it_was : (held : Held nester slot w) (sound : IsSound (held_world nester slot w)) (end : End) → Verdict nester slot birth low w may held sound end
      → EndsAsItWas w nester slot end
  as_it_was held sound Gone verdict = absurd verdict
  as_it_was held sound (Foreign place) verdict = (held.space, verdict)
  as_it_was held sound (Done image) verdict = (held.space, verdict.0)

  pub ends_as_it_was : (v : World) (t : State) (end : End) → Came v t → head slot t ≡ Stops end → EndsAsItWas w nester slot end
  ends_as_it_was v t end (NeverHeld none same over) stops =
      let its : Gone ≡ end = same_end Gone end (sym (ap (head slot) over) ∙ stops) in
      subst (EndsAsItWas w nester slot) its none
  ends_as_it_was v t end (InPhase held sound phase) stops = as_it_was held sound end (ended_in held sound v t end phase stops).0

  pub clean_at_end : (v : World) (t : State) (end : End) → Came v t → head slot t ≡ Stops end → IsClean v
  clean_at_end v t end (NeverHeld none same over) stops = subst IsClean (sym same) may.clean
  clean_at_end v t end (InPhase held sound phase) stops = tidy_clean nester slot birth v (ended_in held sound v t end phase stops).3

  -- ---- its porter

  porter_in : (held : Held nester slot w) (sound : IsSound (held_world nester slot w)) (v : World) (t : State) (stage : Stage) (words : List ℕ) →
      Phase nester slot birth low w may held sound v t → head slot t ≡ Asks stage words → IsHolding nester slot v × (birth_at v nester ≡ Some birth)
  porter_in held sound v _ stage words (AtFirst its tidy) asks_it = (its.holding, tidy.named)
  porter_in held sound v _ stage words (AtSecond its places tidy) asks_it = (its.holding, tidy.named)
  porter_in held sound v _ stage words (AtThird its places targets tidy) asks_it = (its.holding, tidy.named)
  porter_in held sound v _ stage words (AtWalks s its asking tidy) asks_it = (its.base.holding, tidy.named)
  porter_in held sound v _ stage words (AtSeeks s its asking tidy) asks_it = (its.base.holding, tidy.named)
  porter_in held sound v _ stage words (AtReads s closed its asking tidy) asks_it = (its.base.holding, tidy.named)
  porter_in held sound v _ stage words (AtGathers s closed its asking tidy) asks_it = (its.base.holding, tidy.named)
  porter_in held sound v _ stage words (AtDrops end verdict its scratched tidy) asks_it = (its.holding, tidy.named)
  porter_in held sound v _ stage words (AtTwoLeft end verdict its targets places tidy) asks_it = (its.holding, tidy.named)
  porter_in held sound v _ stage words (AtOneLeft end verdict its places tidy) asks_it = (its.holding, tidy.named)
  porter_in held sound v _ stage words (AtReleases end verdict its tidy) asks_it = (its.holding, tidy.named)
  porter_in held sound v _ stage words (AtOver end verdict same unheld tidy) asks_it = cc

  pub holding_in : (held : Held nester slot w) (sound : IsSound (held_world nester slot w)) (v : World) (t : State) (stage : Stage) (words : List ℕ) →
      Phase nester slot birth low w may held sound v t → head slot t ≡ Asks stage words → IsHolding nester slot v
  holding_in held sound v t stage words phase asks_it = (porter_in held sound v t stage words phase asks_it).0

  pub porter_stays : (v : World) (t : State) (stage : Stage) (words : List ℕ) → Came v t → head slot t ≡ Asks stage words → HasPorter v nester birth
  porter_stays v t stage words (NeverHeld none same over) asks_it = let both = sym (ap (head slot) over) ∙ asks_it in cc
  porter_stays v t stage words (InPhase held sound phase) asks_it = let its = porter_in held sound v t stage words phase asks_it in
      record { porter = its.0.porter; named = its.1 }

-- ---- what its calls owe

module _ (slot : ℕ) (v : World) (nester : Path) where
  pub owed_walks : (s : walks.State) (stage : Stage) (words : List ℕ) → walks.head slot s ≡ Asks stage words → IsOwedCall v nester stage words
  unfolding is_fit
  owed_walks (w_Down from [] q k got) stage words e = cc
  owed_walks (w_Down from (way ∷ ways) q k got) stage words e = given_by v nester (Point OWN_SPACE PLACES from way) stage words e
      (record { proper = record { fit = refl; words = refl }; owes = tt; unpicking = refl })
  owed_walks (w_Searches q k got) stage words e = given_by v nester (Search (walks.space_at slot q) k) stage words e
      (record { proper = record { fit = refl; words = refl }; owes = tt; unpicking = refl })
  owed_walks (w_Over got) stage words e = cc

  owed_count : (q : Path) → IsOwedCall v nester (seeks.counting slot q) no_words
  unfolding is_fit
  owed_count [] = record { proper = record { fit = refl; words = refl }; owes = tt; unpicking = refl }
  owed_count (k ∷ q) = record { proper = record { fit = refl; words = refl }; owes = tt; unpicking = refl }

  owed_read : (q : Path) (n : ℕ) → IsOwedCall v nester (seeks.reading q n) no_words
  unfolding is_fit
  owed_read [] n = record { proper = record { fit = refl; words = refl }; owes = tt; unpicking = refl }
  owed_read (k ∷ q) n = record { proper = record { fit = refl; words = refl }; owes = tt; unpicking = refl }

  pub owed_seeks : (s : seeks.State) (stage : Stage) (words : List ℕ) → seeks.head slot s ≡ Asks stage words → IsOwedCall v nester stage words
  unfolding is_fit
  owed_seeks (s_Down from [] t ts) stage words e = cc
  owed_seeks (s_Down from (way ∷ ways) t ts) stage words e = given_by v nester (Point OWN_SPACE PLACES from way) stage words e
      (record { proper = record { fit = refl; words = refl }; owes = tt; unpicking = refl })
  owed_seeks (s_Fields [] t ts) stage words e = given_by v nester (seeks.counting slot t.path) stage words e (owed_count t.path)
  owed_seeks (s_Fields (n ∷ fs) t ts) stage words e = given_by v nester (seeks.reading t.path n) stage words e (owed_read t.path n)
  owed_seeks (s_Inside n fs t ts) stage words e = given_by v nester (Locate TARGETS slot) stage words e
      (record { proper = record { fit = refl; words = refl }; owes = tt; unpicking = refl })
  owed_seeks (s_Beside n fs t ts) stage words e = given_by v nester (Locate TARGETS OWN_SPACE) stage words e
      (record { proper = record { fit = refl; words = refl }; owes = tt; unpicking = refl })
  owed_seeks (s_Over place) stage words e = cc

  pub owed_reads : (s : reads.State) (stage : Stage) (words : List ℕ) → reads.head slot s ≡ Asks stage words → IsOwedCall v nester stage words
  unfolding is_fit
  owed_reads (r_Down from [] q qs got) stage words e = cc
  owed_reads (r_Down from (way ∷ ways) q qs got) stage words e = given_by v nester (Point OWN_SPACE PLACES from way) stage words e
      (record { proper = record { fit = refl; words = refl }; owes = tt; unpicking = refl })
  owed_reads (r_Searches k objects q qs got) stage words e = given_by v nester (Search (walks.space_at slot q) k) stage words e
      (record { proper = record { fit = refl; words = refl }; owes = tt; unpicking = refl })
  owed_reads (r_Reads j objects q qs got) stage words e = given_by v nester (GetState (walks.space_at slot q) j 0) stage words e
      (record { proper = record { fit = refl; words = refl }; owes = tt; unpicking = refl })
  owed_reads (r_Looks from objects pages q qs got) stage words e = given_by v nester (PageNext (walks.space_at slot q) from) stage words e
      (record { proper = record { fit = refl; words = refl }; owes = tt; unpicking = refl })
  owed_reads (r_Copies page objects pages q qs got) stage words e = given_by v nester (PageRead (walks.space_at slot q) page 0) stage words e
      (record { proper = record { fit = refl; words = refl }; owes = tt; unpicking = refl })
  owed_reads (r_Over got) stage words e = cc

  pub owed_gathers : (s : gathers.State) (stage : Stage) (words : List ℕ) → gathers.head slot s ≡ Asks stage words → IsOwedCall v nester stage words
  unfolding is_fit
  owed_gathers (g_Down from [] t ts got) stage words e = cc
  owed_gathers (g_Down from (way ∷ ways) t ts got) stage words e = given_by v nester (Point OWN_SPACE PLACES from way) stage words e
      (record { proper = record { fit = refl; words = refl }; owes = tt; unpicking = refl })
  owed_gathers (g_Fields n fs t ts got) stage words e = given_by v nester (seeks.reading t.path n) stage words e (owed_read t.path n)
  owed_gathers (g_Looks at n fs t ts got) stage words e = given_by v nester (Locate TARGETS (gathers.place_at slot at)) stage words e
      (record { proper = record { fit = refl; words = refl }; owes = tt; unpicking = refl })
  owed_gathers (g_Leads k at n fs t ts got) stage words e = given_by v nester (Point OWN_SPACE STEPS (gathers.place_at slot at) k) stage words e
      (record { proper = record { fit = refl; words = refl }; owes = tt; unpicking = refl })
  owed_gathers (g_Beside n fs t ts got) stage words e = given_by v nester (Locate TARGETS OWN_SPACE) stage words e
      (record { proper = record { fit = refl; words = refl }; owes = tt; unpicking = refl })
  owed_gathers (g_Over got) stage words e = cc

-- ---- its scratch is made beside its porter, and there is none where it releases

abbrev placed_at : Path → Result Path ℕ
placed_at x = Ok x

same_place : (x y : Path) → placed_at x ≡ Ok y → x ≡ y
same_place x y e = cc

owed_make : (v : World) (nester : Path) (r : ℕ) → IsOwnSlot r → holds is_native (v.body (LAST_PORTER_SLOT ∷ nester)) ≡ true
    → MayMake v (porter nester no_words) OWN_SPACE r 9
unfolding space_argument
owed_make v nester r own native space e = subst (λ (s : Path). may_make v s r 9 ≡ true) (same_place nester space e) (by r own)
  where
    by : (r : ℕ) → IsOwnSlot r → may_make v nester r 9 ≡ true
    by _ Places = rw native refl
    by _ Targets = rw native refl
    by _ Steps = rw native refl

pub scratch_of : (s : Path) (k : ℕ) → is_scratch_slot k ≡ true → is_scratch s (k ∷ s) ≡ true
scratch_of s k is =
    let both = and_parts (not (nat_le k LAST_USER_SLOT)) (nat_le k LAST_SCRATCH_SLOT) is in
    let high = leb-false k LAST_USER_SLOT (off (nat_le k LAST_USER_SLOT) both.0) in
    rw (same_path_refl s, le-leb FIRST_SCRATCH_SLOT k (omega (arith, high)), both.1) refl
  where
    off : (t : Bool) → not t ≡ true → t ≡ false
    off true h = cc
    off false h = refl

pub owed_release : (v : World) (nester : Path) (slot : ℕ) → ((k : ℕ) → is_scratch_slot k ≡ true → IsSome (v.body (k ∷ slot ∷ nester)) → ⊥) →
    LeavesNoScratch v (porter nester no_words) OWN_SPACE slot
unfolding space_argument
owed_release v nester slot none space e k is live =
    absurd (none k is (subst (λ (s : Path). IsSome (v.body (k ∷ slot ∷ s))) (sym (same_place nester space e)) live))

module _ (slot birth : ℕ) (w : World) (nester : Path) (low : slot ≤ LAST_USER_SLOT) (may : MayBegin w nester birth) where
  owed_in : (held : Held nester slot w) (sound : IsSound (held_world nester slot w)) (v : World) (t : State) (stage : Stage) (words : List ℕ) →
      Phase nester slot birth low w may held sound v t → head slot t ≡ Asks stage words → IsOwedCall v nester stage words
  unfolding is_fit
  owed_in held sound v _ stage words (AtFirst its tidy) e = given_by v nester (Create OWN_SPACE PLACES 9) stage words e
      (record { proper = record { fit = refl; words = refl }; owes = owed_make v nester PLACES Places its.holding.porter; unpicking = refl })
  owed_in held sound v _ stage words (AtSecond its places tidy) e = given_by v nester (Create OWN_SPACE TARGETS 9) stage words e
      (record { proper = record { fit = refl; words = refl }; owes = owed_make v nester TARGETS Targets its.holding.porter; unpicking = refl })
  owed_in held sound v _ stage words (AtThird its places targets tidy) e = given_by v nester (Create OWN_SPACE STEPS 9) stage words e
      (record { proper = record { fit = refl; words = refl }; owes = owed_make v nester STEPS Steps its.holding.porter; unpicking = refl })
  owed_in held sound v _ stage words (AtWalks s its asking tidy) e = owed_walks slot v nester s stage words (asks_back (walks.head slot s) stage words e)
  owed_in held sound v _ stage words (AtSeeks s its asking tidy) e = owed_seeks slot v nester s stage words (asks_back (seeks.head slot s) stage words e)
  owed_in held sound v _ stage words (AtReads s closed its asking tidy) e = owed_reads slot v nester s stage words (asks_back (reads.head slot s) stage words e)
  owed_in held sound v _ stage words (AtGathers s closed its asking tidy) e = owed_gathers slot v nester s stage words
      (asks_back (gathers.head slot s) stage words e)
  owed_in held sound v _ stage words (AtDrops end verdict its scratched tidy) e = given_by v nester (Destroy OWN_SPACE STEPS) stage words e
      (record { proper = record { fit = refl; words = refl }; owes = refl; unpicking = refl })
  owed_in held sound v _ stage words (AtTwoLeft end verdict its targets places tidy) e = given_by v nester (Destroy OWN_SPACE TARGETS) stage words e
      (record { proper = record { fit = refl; words = refl }; owes = refl; unpicking = refl })
  owed_in held sound v _ stage words (AtOneLeft end verdict its places tidy) e = given_by v nester (Destroy OWN_SPACE PLACES) stage words e
      (record { proper = record { fit = refl; words = refl }; owes = refl; unpicking = refl })
  owed_in held sound v _ stage words (AtReleases end verdict its tidy) e = given_by v nester (SpaceRelease OWN_SPACE slot) stage words e
      (record {
        proper = record { fit = refl; words = refl };
        owes = owed_release v nester slot (λ k is live. (tidy.clean (slot ∷ nester) k (scratch_of (slot ∷ nester) k is) live).1);
        unpicking = refl;
      })
  owed_in held sound v _ stage words (AtOver end verdict same unheld tidy) e = cc

  owed_first : (stage : Stage) (words : List ℕ) → head slot Holds ≡ Asks stage words → IsOwedCall w nester stage words
  unfolding is_fit
  owed_first stage words e = given_by w nester (SpaceHold OWN_SPACE slot) stage words e
      (record { proper = record { fit = refl; words = refl }; owes = tt; unpicking = refl })

  owed_later : (v : World) (t : State) (stage : Stage) (words : List ℕ) → Came slot birth w nester low may v t → head slot t ≡ Asks stage words
      → IsOwedCall v nester stage words
  owed_later v t stage words (NeverHeld none same over) e = let both = sym (ap (head slot) over) ∙ e in cc
  owed_later v t stage words (InPhase held sound phase) e = owed_in held sound v t stage words phase e

pub checkpoint_meets_contract : CheckpointMeetsContract
checkpoint_meets_contract slot birth low = record {
  first = λ w nester may stage words e. owed_first slot birth w nester low may stage words e;
  later = λ w nester v t may work stage words e. owed_later slot birth w nester low may v t stage words (came slot birth w nester low may v t work) e;
  stays = λ w nester v t may work stage words e. porter_stays slot birth w nester low may v t stage words (came slot birth w nester low may v t work) e;
  ends = λ w nester v t end may work stops. clean_at_end slot birth w nester low may v t end (came slot birth w nester low may v t work) stops;
}

pub checkpoint_keeps_cut : CheckpointKeepsCut
checkpoint_keeps_cut slot birth w v nester t low may work = cut_kept slot birth w nester low may v t (came slot birth w nester low may v t work)

pub checkpoint_ends_as_it_was : CheckpointEndsAsItWas
checkpoint_ends_as_it_was slot birth w v nester t end low may work stops = ends_as_it_was slot birth w nester low may v t end
    (came slot birth w nester low may v t work) stops
