-- The briefest job meets a job's contract.
use Rattle.std.proofs.Common.{◌≡◌, ℕ, ◌≤◌, Bool, true, false, cond, List, [], ◌∷◌, Some, None, refl, sym, ap, subst, ◌∙◌, ◌⊎◌, inl, inr, ne_eqb}
use Rattle.fk_model.specs.declared.limits.TheConstants.{OWN_SPACE, LAST_USER_SLOT, LAST_PORTER_SLOT}
use Rattle.fk_model.specs.declared.stage.Stage.{Stage}
use Rattle.fk_model.specs.declared.stage.Stage.TheVariants.{SpaceHold, SpaceRelease}
use Rattle.fk_model.specs.declared.statuses.status.TheConstants.{OK}
use Rattle.fk_model.specs.Places.{Path}
use Rattle.fk_model.specs.Places.Ptr.{At}
use Rattle.fk_model.specs.World.{World}
use Rattle.fk_model.specs.World.Change.{Alter}
use Rattle.fk_model.specs.World.Edit.{SetHolder}
use Rattle.fk_model.specs.Searches.{depth}
use Rattle.fk_model.specs.Outcomes.{Said}
use Rattle.fk_model.specs.Outcomes.Said.{Answered}
use Rattle.fk_model.specs.Runs.{Event, after}
use Rattle.fk_model.specs.Valid.{is_fit}
use Rattle.laws_moves.specs.Frozen.Holding.{IsUsersMove}
use Rattle.laws_moves.specs.Savable.Savable.{IsSound}
use Rattle.laws_jobs.specs.Machines.{Head, Reply, reply_of, heard, said_of, no_words, call_of, IsReadyAt, IsAnswered, Interleaved, AtWork, IsOwedCall}
use Rattle.laws_jobs.specs.Machines.Head.{Asks}
use Rattle.laws_jobs.specs.Machines.Interleaved.{Here, Another, Own}
use Rattle.laws_jobs.specs.Jobs.{MayBegin, HasPorter}
use Rattle.laws_jobs.specs.Leads.{held_world}
use Rattle.laws_jobs.specs.Holds.{hold, Held, Unheld}
use Rattle.laws_jobs.proofs.Weaving.{first_sound}
use Rattle.laws_jobs.proofs.Goings.{one_change}
use Rattle.laws_jobs.proofs.Holds.{hold_comes_to, release-row}
use Rattle.laws_checkpoint.proofs.Same.{inside-itself}
use Rattle.laws_checkpoint.proofs.Phases.{Tidy, tidy_clean, tidy_held, tidy_others, Held_on, held_others}
use Rattle.laws_checkpoint.proofs.Ended.{empty, tidy_before, owed_release, scratch_of}
use Rattle.examples_jobs.specs.Brief.{Brief, head, brief, BriefMeetsContract}
use Rattle.examples_jobs.specs.Brief.Brief.{Holds, Releases, Over}

abbrev asking : Stage → List ℕ → Head Bool
asking stage words = Asks stage words

asked : (stage other : Stage) (words given : List ℕ) → asking stage words ≡ Asks other given → (P : Stage → List ℕ → Type 0) → P stage words → P other given
asked stage other words given e P p =
    let stages : stage ≡ other = cc in
    let same : words ≡ given = cc in
    subst (λ (ws : List ℕ). P other ws) same (subst (λ (st : Stage). P st words) stages p)

module _ (slot birth : ℕ) (w : World) (nester : Path) (low : slot ≤ LAST_USER_SLOT) (may : MayBegin w nester birth) where
  abbrev start : World
  start = held_world nester slot w

  data Stands (v : World) : Brief → Type 0 where
    AtReleases : Held_on nester slot birth start v → Tidy nester slot birth v [] → Stands v Releases
    AtOver : (done : Bool) → Tidy nester slot birth v [] → Stands v (Over done)

  others : (v : World) (e : Event) (s : Brief) (stage : Stage) (words : List ℕ) → head slot s ≡ Asks stage words → IsUsersMove nester v e
      → (after v e).next ≤ depth → Stands v s → Stands (after v e) s
  others v e _ stage words asks moves few (AtReleases its tidy) =
      let later = held_others nester slot birth start v e moves few its in
      AtReleases later (tidy_others nester slot birth v e [] moves later.holding.porter tidy)
  others v e _ stage words asks moves few (AtOver done tidy) = cc

  own : (v : World) (s : Brief) (stage : Stage) (words : List ℕ) (reply : Reply) → Stands v s → head slot s ≡ Asks stage words
      → IsAnswered nester v stage words reply →
      Stands (after v (call_of nester stage words)) ((brief slot).next s reply.status reply.words)
  own v _ stage words reply (AtReleases its tidy) e answered =
      asked (SpaceRelease OWN_SPACE slot) stage no_words words e
      (λ (st : Stage) (ws : List ℕ). IsAnswered nester v st ws reply → Stands (after v (call_of nester st ws)) (Over true)) (λ mine.
      (let goes = one_change nester v (SpaceRelease OWN_SPACE slot) no_words reply mine (Alter (slot ∷ nester) (SetHolder None)) OK []
      (release-row nester slot v its.holding) in
      subst (λ (u : World). Stands u (Over true)) (sym goes.0) (AtOver true (tidy_held nester slot birth v [] None tidy)))) answered
  own v _ stage words reply (AtOver done tidy) e answered = cc

  arrives : (v u : World) (s t : Brief) (es : List Event) → Stands v s → Interleaved (brief slot) nester v s es u t → Stands u t
  arrives _ _ _ _ _ at (Here v s sound) = at
  arrives _ u _ t _ at (Another v s e es _ _ sound works moves rest) =
      arrives (after v e) u s t es (others v e s works.0 works.1 works.2 moves (first_sound (brief slot) nester (after v e) s es u t rest).whole.few at) rest
  arrives _ u _ t _ at (Own v s stage words es _ _ sound asks_it ready rest) =
      arrives (after v (call_of nester stage words)) u (heard (brief slot) s (said_of v (call_of nester stage words))) t es
      (own v s stage words (reply_of (said_of v (call_of nester stage words))) at asks_it
      (record { valid = sound.whole.valid; few = sound.whole.few; ready = ready; said = refl })) rest

  begun : (said : Said) → said ≡ Answered OK [] → heard (brief slot) Holds said ≡ Releases
  begun said e = ap (heard (brief slot) Holds) e

  refused : (said : Said) (status : ℕ) → (status ≡ OK → ⊥) → said ≡ Answered status [] → heard (brief slot) Holds said ≡ Over false
  refused said status other e = ap (heard (brief slot) Holds) e ∙ ap (λ (t : Bool). cond t Releases (Over false)) (ne_eqb status OK other)

  from_hold : IsReadyAt w (hold nester slot) → IsSound (after w (hold nester slot))
      → Stands (after w (hold nester slot)) (heard (brief slot) Holds (said_of w (hold nester slot)))
  from_hold ready sound = by (hold_comes_to nester slot w low
      (empty slot birth w nester low may) may.sound.whole.valid sound.whole.valid may.sound.whole.few ready)
    where
      by : Held nester slot w ⊎ Unheld nester slot w → Stands (after w (hold nester slot)) (heard (brief slot) Holds (said_of w (hold nester slot)))
      by (inl held) =
          subst (Stands (after w (hold nester slot))) (sym (begun (said_of w (hold nester slot)) held.said))
          (subst (λ (u : World). Stands u Releases) (sym held.world)
          (AtReleases (record { holding = held.holding; inside = inside-itself (slot ∷ nester) start; leads = λ q. refl })
          (tidy_held nester slot birth w [] (Some (At (LAST_PORTER_SLOT ∷ nester))) (tidy_before slot birth w nester low may))))
      by (inr none) =
          subst (Stands (after w (hold nester slot))) (sym (refused (said_of w (hold nester slot)) none.status none.refused none.said))
          (subst (λ (u : World). Stands u (Over false)) (sym none.world) (AtOver false (tidy_before slot birth w nester low may)))

  came : (v : World) (t : Brief) → AtWork (brief slot) nester w Holds v t → Stands v t
  came v t work =
      let asked_it = work.asked in
      let one : work.stage ≡ SpaceHold OWN_SPACE slot = cc in
      let two : work.words ≡ no_words = cc in
      let is : call_of nester work.stage work.words ≡ hold nester slot = λ i. call_of nester (one i) (two i) in
      let run = subst (λ (e : Event). Interleaved (brief slot) nester (after w e) (heard (brief slot) Holds (said_of w e)) work.events v t) is work.run in
      let sound = first_sound (brief slot) nester (after w (hold nester slot)) (heard (brief slot) Holds (said_of w (hold nester slot))) work.events v t run in
      arrives (after w (hold nester slot)) v (heard (brief slot) Holds (said_of w (hold nester slot))) t work.events
      (from_hold (subst (IsReadyAt w) is work.ready) sound) run

  tidy_at : (v : World) (t : Brief) → Stands v t → Tidy nester slot birth v []
  tidy_at v _ (AtReleases its tidy) = tidy
  tidy_at v _ (AtOver done tidy) = tidy

  owed_first : (stage : Stage) (words : List ℕ) → head slot Holds ≡ Asks stage words → IsOwedCall w nester stage words
  unfolding is_fit
  owed_first stage words e =
      asked (SpaceHold OWN_SPACE slot) stage no_words words e (λ (st : Stage) (ws : List ℕ). IsOwedCall w nester st ws)
      (record { proper = record { fit = refl; words = refl }; owes = tt; unpicking = refl })

  owed_at : (v : World) (t : Brief) (stage : Stage) (words : List ℕ) → Stands v t → head slot t ≡ Asks stage words → IsOwedCall v nester stage words
  unfolding is_fit
  owed_at v _ stage words (AtReleases its tidy) e =
      asked (SpaceRelease OWN_SPACE slot) stage no_words words e (λ (st : Stage) (ws : List ℕ). IsOwedCall v nester st ws)
      (record {
        proper = record { fit = refl; words = refl };
        owes = owed_release v nester slot (λ k is live. (tidy.clean (slot ∷ nester) k (scratch_of (slot ∷ nester) k is) live).1);
        unpicking = refl;
      })
  owed_at v _ stage words (AtOver done tidy) e = cc

  stays_at : (v : World) (t : Brief) (stage : Stage) (words : List ℕ) → Stands v t → head slot t ≡ Asks stage words → HasPorter v nester birth
  stays_at v _ stage words (AtReleases its tidy) e = record { porter = its.holding.porter; named = tidy.named }
  stays_at v _ stage words (AtOver done tidy) e = cc

pub brief_meets_contract : BriefMeetsContract
brief_meets_contract slot birth low = record {
  first = λ w nester may stage words e. owed_first slot birth w nester low may stage words e;
  later = λ w nester v t may work stage words e. owed_at slot birth w nester low may v t stage words (came slot birth w nester low may v t work) e;
  stays = λ w nester v t may work stage words e. stays_at slot birth w nester low may v t stage words (came slot birth w nester low may v t work) e;
  ends = λ w nester v t end may work stops. tidy_clean nester slot birth v
      (tidy_at slot birth w nester low may v t (came slot birth w nester low may v t work));
}
