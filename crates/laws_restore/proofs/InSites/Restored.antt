-- A restorer builds what its orders say, whatever others do between its calls.
use Rattle.std.proofs.Common.{◌≡◌, ℕ, zero, ◌≤◌, arith, length, Bool, true, false, cond, ◌==◌, List, [], ◌∷◌, refl, sym, ap, subst, ◌∙◌}
use Rattle.std.proofs.lemmas.Bool.{and_parts}
use Rattle.fk_model.specs.declared.statuses.status.TheConstants.{OK}
use Rattle.fk_model.specs.Places.{Path}
use Rattle.fk_model.specs.World.{World, Change, apply_all}
use Rattle.fk_model.specs.Outcomes.{Said}
use Rattle.fk_model.specs.Outcomes.Said.{Answered}
use Rattle.fk_model.specs.Runs.{Event, after}
use Rattle.laws_moves.specs.Savable.Savable.{IsSound}
use Rattle.laws_jobs.specs.Machines.{reply_of, heard, said_of, own_moves, IsReadyAt, call_of, Interleaved}
use Rattle.laws_jobs.specs.Machines.{Reply, IsAnswered}
use Rattle.laws_jobs.specs.Machines.Head.{Stops}
use Rattle.laws_jobs.specs.Machines.Interleaved.{Here, Another, Own}
use Rattle.laws_restore.specs.Sites.Orders.{Site, Shows, Order, stage_of, words_of, does, does_all, May, MayAll, End, State, head, passes, fails, is_port_in}
use Rattle.laws_restore.specs.Sites.Orders.{restorer}
use Rattle.laws_restore.specs.Sites.Orders.Order.{Readies, Leads, LeadsTop, Makes, Sets, Points, Gives, MakesPin, Pins, Takes, Checks, ParksTalk, ParksFault}
use Rattle.laws_restore.specs.Sites.Orders.Order.{Drops}
use Rattle.laws_restore.specs.Sites.Orders.Order.{DropsPin, Deadens, LinksTalk, RaisesFault, LinksFault, Holds}
use Rattle.laws_restore.specs.Sites.Orders.State.{Working, Over}
use Rattle.laws_restore.specs.Sites.Orders.End.{Done, Lost}
use Rattle.laws_restore.specs.Sites.Laws.{RestoresBuilt, NeverLost, CallsBounded}
use Rattle.laws_restore.proofs.InSites.Others.{others}
use Rattle.laws_jobs.proofs.Goings.{call_is_its_row, goes_by}
use Rattle.laws_restore.proofs.InSites.Goings.{goings}
use Rattle.laws_restore.proofs.InSites.Comes.{comes}
use Rattle.laws_restore.proofs.InSites.Plain.{Plain, plain}
use Rattle.laws_restore.proofs.InSites.Pinned.{pinned, pins, checks}
use Rattle.laws_restore.proofs.InSites.Deadened.{deadens-plain}
use Rattle.laws_restore.proofs.InSites.Tied.{links_talk-plain, raises_fault-plain, links_fault-plain, holds-plain}
use Rattle.laws_restore.proofs.InSites.Dropped.{drops-plain, drops_pin-plain}

module _ (nester : Path) (slot : ℕ) where
  -- with its answer an order is done, or there is no port
  pub record Does (g : Site) (w : World) (o : Order) (reply : Reply) : Type 0 where
    pub fails_well : passes o reply.status reply.words ≡ false → (fails o ≡ Lost → ⊥)
    pub shown : passes o reply.status reply.words ≡ true → Shows nester slot (does o g) (after w (call_of nester (stage_of slot o) (words_of o)))

  on_world : (g : Site) (w v : World) (cs : List Change) → v ≡ apply_all cs w → Shows nester slot g (apply_all cs w) → Shows nester slot g v
  on_world g w v cs is shown = rw is shown

  plain-does : (g : Site) (w : World) (o : Order) (reply : Reply) (shows : Shows nester slot g w)
      (answered : IsAnswered nester w (stage_of slot o) (words_of o) reply) →
      ((status : ℕ) (words : List ℕ) → passes o status words ≡ (status == OK)) → Plain nester slot g w shows answered.valid.consistent o → Does g w o reply
  plain-does g w o reply shows answered is plain =
      let goes = goes_by nester w (stage_of slot o) (words_of o) reply answered plain.changes OK [] plain.row in
      let on : passes o reply.status reply.words ≡ true = is reply.status reply.words ∙ ap (λ (s : ℕ). s == OK) goes.1.0 in
      record {
        fails_well = λ off. let both = sym on ∙ off in cc;
        shown = λ h. on_world (does o g) w (after w (call_of nester (stage_of slot o) (words_of o))) plain.changes goes.0 plain.shown;
      }

  pub own : (g : Site) (w : World) (o : Order) (reply : Reply) → Shows nester slot g w → May slot o g
      → IsAnswered nester w (stage_of slot o) (words_of o) reply → Does g w o reply
  own g w (Pins i) reply shows may answered =
      let goes = goings nester slot g w (Pins i) shows may reply answered in
      record {
        fails_well = λ off lost. cc;
        shown = λ h. on_world _ w _ goes.changes goes.world
            (pins nester slot g w shows i goes.changes reply.status reply.words may.0 may.1 goes.row);
      }
  own g w (Checks r i) reply shows may answered =
      let goes = goings nester slot g w (Checks r i) shows may reply answered in
      record {
        fails_well = λ off lost. cc;
        shown = λ h. on_world _ w _ goes.changes goes.world
            (checks nester slot g w shows r i goes.changes reply.status reply.words may.0 may.1 may.2 may.3 goes.row
            (and_parts (reply.status == OK) (is_port_in i reply.words) h).1);
      }
  own g w (Readies r) reply shows may answered = plain-does g w (Readies r) reply shows answered (λ s ws. refl)
      (plain nester slot g w shows answered.valid.consistent (Readies r) tt may)
  own g w (Leads r s q x) reply shows may answered = plain-does g w (Leads r s q x) reply shows answered (λ s ws. refl)
      (plain nester slot g w shows answered.valid.consistent (Leads r s q x) tt may)
  own g w (LeadsTop r) reply shows may answered = plain-does g w (LeadsTop r) reply shows answered (λ s ws. refl)
      (plain nester slot g w shows answered.valid.consistent (LeadsTop r) tt may)
  own g w (Makes s q x kind) reply shows may answered = plain-does g w (Makes s q x kind) reply shows answered (λ s ws. refl)
      (plain nester slot g w shows answered.valid.consistent (Makes s q x kind) tt may)
  own g w (Sets s q x words) reply shows may answered = plain-does g w (Sets s q x words) reply shows answered (λ s ws. refl)
      (plain nester slot g w shows answered.valid.consistent (Sets s q x words) tt may)
  own g w (Points s q x r) reply shows may answered = plain-does g w (Points s q x r) reply shows answered (λ s ws. refl)
      (plain nester slot g w shows answered.valid.consistent (Points s q x r) tt may)
  own g w (Gives s q page words) reply shows may answered = plain-does g w (Gives s q page words) reply shows answered (λ s ws. refl)
      (plain nester slot g w shows answered.valid.consistent (Gives s q page words) tt may)
  own g w MakesPin reply shows may answered = plain-does g w MakesPin reply shows answered (λ s ws. refl)
      (plain nester slot g w shows answered.valid.consistent MakesPin tt may)
  own g w (Takes r) reply shows may answered = plain-does g w (Takes r) reply shows answered (λ s ws. refl)
      (plain nester slot g w shows answered.valid.consistent (Takes r) tt may)
  own g w (ParksTalk s q x i words) reply shows may answered = plain-does g w (ParksTalk s q x i words) reply shows answered (λ s ws. refl)
      (plain nester slot g w shows answered.valid.consistent (ParksTalk s q x i words) tt may)
  own g w (ParksFault s q x i taken words) reply shows may answered = plain-does g w (ParksFault s q x i taken words) reply shows answered (λ s ws. refl)
      (plain nester slot g w shows answered.valid.consistent (ParksFault s q x i taken words) tt may)
  own g w (Drops r) reply shows may answered = plain-does g w (Drops r) reply shows answered (λ s ws. refl)
      (drops-plain nester slot g w shows answered.valid r may.0 may.1)
  own g w DropsPin reply shows may answered = plain-does g w DropsPin reply shows answered (λ s ws. refl)
      (drops_pin-plain nester slot g w shows answered.valid (pinned nester slot g w shows may.0) may.1)
  own g w (Deadens r) reply shows may answered = plain-does g w (Deadens r) reply shows answered (λ s ws. refl)
      (deadens-plain nester slot g w shows answered.valid r may)
  own g w (LinksTalk s q x r u port server words) reply shows may answered = plain-does g w (LinksTalk s q x r u port server words) reply shows answered
      (λ s ws. refl) (links_talk-plain nester slot g w shows answered.valid.consistent s q x r u port server words may)
  own g w (RaisesFault s q x r port words) reply shows may answered = plain-does g w (RaisesFault s q x r port words) reply shows answered (λ s ws. refl)
      (raises_fault-plain nester slot g w shows answered.valid.consistent s q x r port words may)
  own g w (LinksFault s q x r u port taker words) reply shows may answered = plain-does g w (LinksFault s q x r u port taker words) reply shows answered
      (λ s ws. refl) (links_fault-plain nester slot g w shows answered.valid.consistent s q x r u port taker words may)
  own g w (Holds s q x r holder) reply shows may answered = plain-does g w (Holds s q x r holder) reply shows answered (λ s ws. refl)
      (holds-plain nester slot g w shows answered.valid.consistent s q x r holder may)

  -- ---- one call of its own

  -- it is answered, and by that its order is done or there is no port
  pub record Own_call (g : Site) (w : World) (o : Order) : Type 0 where
    pub reply : Reply
    pub said : said_of w (call_of nester (stage_of slot o) (words_of o)) ≡ Answered reply.status reply.words
    pub its : Does g w o reply

  pub own_call : (g : Site) (w : World) (o : Order) → Shows nester slot g w → May slot o g → IsSound w
      → IsReadyAt w (call_of nester (stage_of slot o) (words_of o)) → Own_call g w o
  own_call g w o shows may sound ready =
      let goes = comes nester slot g w shows sound.whole.valid o may in
      let told = call_is_its_row nester w (stage_of slot o) (words_of o) goes.changes (Answered goes.reply.status goes.reply.words) goes.row ready in
      let answered : IsAnswered nester w (stage_of slot o)
      (words_of o) goes.reply = record { valid = sound.whole.valid; few = sound.whole.few; ready = ready; said = ap reply_of told.1 } in
      record { reply = goes.reply; said = told.1; its = own g w o goes.reply shows may answered }

  -- ---- the whole

  -- what a state stands at, on the way to a site
  pub data At (f : Site) : World → State → Type 0 where
    Works : (os : List Order) (g : Site) (w : World) → Shows nester slot g w → MayAll slot os g → does_all os g ≡ f → At f w (Working os)
    Fails : (w : World) (end : End) → (end ≡ Done → ⊥) → (end ≡ Lost → ⊥) → At f w (Over end)

  abbrev left : State → ℕ
  left (Working os) = length os
  left (Over end) = zero

  failed : (o : Order) → fails o ≡ Done → ⊥
  failed (Pins i) h = cc
  failed (Checks r i) h = cc
  failed o h = cc

  -- where it stands after an answer, with one order less to come
  pub record Stands (f : Site) (v : World) (t : State) (most : ℕ) : Type 0 where
    pub at : At f v t
    pub few : left t ≤ most

  after_own : (f g : Site) (v : World) (o : Order) (os : List Order) (reply : Reply) (b : Bool) → passes o reply.status reply.words ≡ b
      → (b ≡ false → (fails o ≡ Lost → ⊥)) → (b ≡ true → Shows nester slot (does o g) v) →
      MayAll slot os (does o g) → does_all os (does o g) ≡ f → Stands f v (cond b (Working os) (Over (fails o))) (length os)
  after_own f g v o os reply true e well shown may is = record { at = Works os (does o g) v (shown refl) may is; few = omega arith }
  after_own f g v o os reply false e well shown may is = record { at = Fails v (fails o) (failed o) (well refl); few = omega arith }

  pub record Arrives (f : Site) (v : World) (t : State) (most made : ℕ) : Type 0 where
    pub at : At f v t
    pub few : made ≤ most

  pub arrives : (f : Site) (w v : World) (s t : State) (es : List Event) → At f w s → (run : Interleaved (restorer slot) nester w s es v t)
      → Arrives f v t (left s) (own_moves run)
  unfolding does_all
  arrives f _ _ _ _ _ at (Here w s sound) = record { at = at; few = omega arith }
  arrives f _ v _ t _ (Works os g w shows may is) (Another _ _ e es _ _ sound works moves rest) =
      let later = arrives f (after w e) v (Working os) t es (Works os g (after w e) (others nester slot g w e shows moves) may is) rest in
      record { at = later.at; few = later.few }
  arrives f _ v _ t _ (Fails w end a b) (Another _ _ e es _ _ sound works moves rest) =
      let later = arrives f (after w e) v (Over end) t es (Fails (after w e) end a b) rest in
      record { at = later.at; few = later.few }
  arrives f _ v _ t _ (Fails w end a b) (Own _ _ stage words es _ _ sound asks ready rest) = cc
  arrives f _ v _ t _ (Works [] g w shows may is) (Own _ _ stage words es _ _ sound asks ready rest) = cc
  arrives f _ v _ t _ (Works (o ∷ os) g w shows may is) (Own _ _ stage words es _ _ sound asks ready rest) =
      let stages : stage_of slot o ≡ stage = cc in
      let given : words_of o ≡ words = cc in
      let here = stands stages given ready in
      let later = arrives f (after w (call_of nester stage words)) v
      (heard (restorer slot) (Working (o ∷ os)) (said_of w (call_of nester stage words))) t es here.at rest in
      let less = here.few in
      let most = later.few in
      record { at = later.at; few = omega (arith, less, most) }
    where
      stands : stage_of slot o ≡ stage → words_of o ≡ words → IsReadyAt w (call_of nester stage words) →
          Stands f (after w (call_of nester stage words)) (heard (restorer slot) (Working (o ∷ os)) (said_of w (call_of nester stage words))) (length os)
      stands stages given ready =
          let mine : IsReadyAt w (call_of nester (stage_of slot o) (words_of o)) = rw (stages, given) ready in
          let call = own_call g w o shows may.0 sound mine in
          let u : World = after w (call_of nester (stage_of slot o) (words_of o)) in
          let same : call_of nester (stage_of slot o) (words_of o) ≡ call_of nester stage words = rw (stages, given) refl in
          let there : Stands f u (heard (restorer slot) (Working (o ∷ os)) (Answered call.reply.status call.reply.words)) (length os) =
          after_own f g u o os call.reply (passes o call.reply.status call.reply.words) refl call.its.fails_well call.its.shown may.1 is in
          let told = subst (λ (said : Said). Stands f u (heard (restorer slot) (Working (o ∷ os)) said) (length os)) (sym call.said) there in
          subst (λ (e : Event). Stands f (after w e) (heard (restorer slot) (Working (o ∷ os)) (said_of w e)) (length os)) same told

  done_at : (f : Site) (v : World) (t : State) → At f v t → head slot t ≡ Stops Done → Shows nester slot f v
  unfolding does_all
  done_at f _ _ (Works [] g w shows may is) h = rw (← is) shows
  done_at f _ _ (Works (o ∷ os) g w shows may is) h = cc
  done_at f _ _ (Fails w end a b) h = let same : end ≡ Done = cc in absurd (a same)

  never_lost_at : (f : Site) (v : World) (t : State) → At f v t → head slot t ≡ Stops Lost → ⊥
  never_lost_at f _ _ (Works [] g w shows may is) h = cc
  never_lost_at f _ _ (Works (o ∷ os) g w shows may is) h = cc
  never_lost_at f _ _ (Fails w end a b) h = let same : end ≡ Lost = cc in b same

pub restores_built : RestoresBuilt
restores_built nester slot os g es w v t shows may run h =
    done_at nester slot (does_all os g) v t (arrives nester slot (does_all os g) w v (Working os) t es (Works os g w shows may refl) run).at h

pub never_lost : NeverLost
never_lost nester slot os g es w v t shows may run h =
    never_lost_at nester slot (does_all os g) v t (arrives nester slot (does_all os g) w v (Working os) t es (Works os g w shows may refl) run).at h

pub calls_bounded : CallsBounded
calls_bounded nester slot os g es w v t shows may run = (arrives nester slot (does_all os g) w v (Working os) t es (Works os g w shows may refl) run).few
