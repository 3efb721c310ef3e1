-- A restore tells of no port exactly where it leads its pin to a slot in which none stands.
use Rattle.std.proofs.Common.{◌≡◌, ℕ, zero, suc, ◌+◌, ◌≤◌, ◌<◌, Bool, true, false, cond, ◌&&◌, ◌||◌, ◌==◌, ◌⊎◌, inl, inr, List, [], ◌∷◌, ◌++◌, Option, Some}
use Rattle.std.proofs.Common.{None, refl, sym, ap, subst, arith, eq-eqb, eqb-true, ◌∙◌}
use Rattle.std.specs.List.{list_any}
use Rattle.std.proofs.lemmas.Bool.{and_parts, eqb-false}
use Rattle.std.proofs.lemmas.List.{append_assoc}
use Rattle.std.proofs.lemmas.List.Folds.{list_any-append}
use Rattle.fk_model.specs.declared.limits.TheConstants.{OWN_SPACE, LAST_USER_SLOT}
use Rattle.fk_model.specs.declared.stage.Stage.{Stage}
use Rattle.fk_model.specs.declared.stage.Stage.TheVariants.{Destroy, SpaceMakeHeld, SpaceRelease}
use Rattle.fk_model.specs.declared.statuses.status.TheConstants.{OK}
use Rattle.fk_model.specs.Places.{Path}
use Rattle.fk_model.specs.World.{World}
use Rattle.fk_model.specs.Outcomes.Said.{Answered}
use Rattle.fk_model.specs.Runs.{Event, after}
use Rattle.fk_model.specs.Cut.{is_port}
use Rattle.laws_moves.specs.Savable.Savable.{IsSound}
use Rattle.laws_jobs.specs.Machines.{Head, IsAnswered, no_words, call_of, said_of, reply_of, heard, IsReadyAt, IsAtCall, Interleaved, AtWork}
use Rattle.laws_moves.specs.Frozen.Holding.{IsUsersMove}
use Rattle.laws_jobs.specs.Machines.Head.{Stops, Asks}
use Rattle.laws_jobs.specs.Machines.Interleaved.{Here, Another, Own}
use Rattle.laws_jobs.specs.Jobs.{MayBegin}
use Rattle.laws_jobs.proofs.Weaving.{first_sound}
use Rattle.laws_restore.specs.Sites.Orders.{Order, stage_of, words_of, passes, fails}
use Rattle.laws_restore.specs.Sites.Orders.Order.{Readies, Leads, LeadsTop, Makes, Sets, Points, Gives, MakesPin, Pins, Takes, Checks, ParksTalk, ParksFault}
use Rattle.laws_restore.specs.Sites.Orders.Order.{LinksTalk}
use Rattle.laws_restore.specs.Sites.Orders.Order.{RaisesFault, LinksFault, Holds, Drops, DropsPin, Deadens}
use Rattle.laws_restore.specs.Sites.Orders.End.{Lost}
use Rattle.laws_restore.specs.Sites.Looking.{Looks, PinTells}
use Rattle.laws_restore.proofs.InSites.Looking.{pins_tell, others_keep_looks, takes_keep_looks, checks_tell}
use Rattle.laws_restore.proofs.InSites.Restored.{Own_call, own_call}
use Rattle.laws_restore.specs.Restore.Rooms.{Room}
use Rattle.laws_restore.specs.Restore.Script.{has, leads_out, script}
use Rattle.laws_restore.specs.Restore.Roomed.{IsRoomed}
use Rattle.laws_restore.specs.Restore.Restore.{End, State, head, looked_at, refused, drops, objects, lowest_bound, restore}
use Rattle.laws_restore.specs.Restore.Restore.End.{Done, Occupied, NoPort}
use Rattle.laws_restore.specs.Restore.Restore.State.{Makes as Begins, Works, Clears, Over}
use Rattle.laws_restore.specs.Restore.Exact.{IsLowest, IsMiss, Misses, MissesFirst, EndsByMiss, NoPortIsExact}
use Rattle.laws_restore.proofs.InRestore.Ways.{is_look, Grouped}
use Rattle.laws_restore.proofs.InRestore.Ways.Grouped.{Other, Look}
use Rattle.laws_restore.proofs.InRestore.Scripted.{script_grouped}
use Rattle.laws_restore.proofs.InRestore.Used.{used_stands}
use Rattle.laws_restore.proofs.InRestore.Earlier.{pinned, pins, is_past, history_used}
use Rattle.laws_restore.proofs.InRestore.Coming.{Came, InWork, in_work, in_drops, AreDrops, arrives, came, all_pins}

-- ---- the lowest slot that is bound so

module _ (bind : ℕ → ℕ) (rooms : List Room) (j : ℕ) where
  abbrev is_bound : ℕ → Bool
  is_bound i = bind i == j && list_any (has (leads_out i)) rooms

  record Found (i port : ℕ) : Type 0 where
    pub is : is_bound port ≡ true
    pub least : (k : ℕ) → i ≤ k → is_bound k ≡ true → port ≤ k

  lowest_found : (n i k : ℕ) → i ≤ k → k < n + i → is_bound k ≡ true → Found i (lowest_bound bind rooms j n i)
  lowest_found zero i k least most is = absurd (omega (arith, least, most))
  lowest_found (suc n) i k least most is = by (is_bound i) refl (λ (up : suc i ≤ k). lowest_found n (suc i) k up (omega (arith, most)) is)
    where
      later : {port : ℕ} → is_bound i ≡ false → Found (suc i) port → Found i port
      later {port} off found = record { is = found.is; least = λ k low h. up k low h (i == k) refl }
        where
          up : (k : ℕ) → i ≤ k → is_bound k ≡ true → (t : Bool) → (i == k) ≡ t → port ≤ k
          up k low h true e = let same = eqb-true i k e in let on : is_bound i ≡ true = rw same h in let both = sym on ∙ off in cc
          up k low h false e = let apart = eqb-false i k e in found.least k (omega (arith, low, apart)) h

      by : (t : Bool) → is_bound i ≡ t → (suc i ≤ k → Found (suc i) (lowest_bound bind rooms j n (suc i)))
          → Found i (cond t i (lowest_bound bind rooms j n (suc i)))
      by true e rest = record { is = e; least = λ k low h. low }
      by false e rest = later e (rest (up (i == k) refl))
        where
          up : (t : Bool) → (i == k) ≡ t → suc i ≤ k
          up true f = let same = eqb-true i k f in let on : is_bound i ≡ true = rw same is in let both = sym on ∙ e in cc
          up false f = let apart = eqb-false i k f in omega (arith, least, apart)

  abbrev pub the_lowest : ℕ
  the_lowest = lowest_bound bind rooms j 240 0

  pub lowest_is : (i : ℕ) → i ≤ LAST_USER_SLOT → list_any (has (leads_out i)) rooms ≡ true → bind i ≡ j → IsLowest bind rooms the_lowest × (bind the_lowest ≡ j)
  lowest_is i low leads bound =
      let on : is_bound i ≡ true = rw (bound, eq-eqb j j refl) leads in
      let found = lowest_found 240 0 i (omega arith) (omega (arith, low)) on in
      let parts = and_parts (bind the_lowest == j) (list_any (has (leads_out the_lowest)) rooms) found.is in
      let here : bind the_lowest ≡ j = eqb-true (bind the_lowest) j parts.0 in
      let most = found.least i (omega arith) on in (
        record {
          low = omega (arith, most, low);
          leads = parts.1;
          least = λ k leads_k bound_k. found.least k (omega arith) (let at : bind k ≡ j = bound_k ∙ here in rw (at, eq-eqb j j refl) leads_k);
        },
        here,
      )

-- ---- which orders lead the pin

abbrev staged : Stage → Stage → Type 0
staged a b = a ≡ b

-- no other order asks so
pins_alone : (slot j : ℕ) → slot ≤ LAST_USER_SLOT → (o : Order) → stage_of slot o ≡ stage_of slot (Pins j) → o ≡ Pins j
pins_alone slot j low (Pins i) e = let same : i ≡ j = cc in ap Pins same
pins_alone slot j low (Leads r s q x) e = let same : OWN_SPACE ≡ slot = cc in absurd (omega (arith, low, same))
pins_alone slot j low (LeadsTop r) e = let same : OWN_SPACE ≡ slot = cc in absurd (omega (arith, low, same))
pins_alone slot j low (Takes r) e = let same : OWN_SPACE ≡ slot = cc in absurd (omega (arith, low, same))
pins_alone slot j low (Readies r) e = cc
pins_alone slot j low (Makes s q x kind) e = cc
pins_alone slot j low (Sets s q x words) e = cc
pins_alone slot j low (Points s q x r) e = cc
pins_alone slot j low (Gives s q page words) e = cc
pins_alone slot j low MakesPin e = cc
pins_alone slot j low (Checks r i) e = cc
pins_alone slot j low (ParksTalk s q x i words) e = cc
pins_alone slot j low (ParksFault s q x i taken words) e = cc
pins_alone slot j low (LinksTalk s q x r t port server words) e = cc
pins_alone slot j low (RaisesFault s q x r port words) e = cc
pins_alone slot j low (LinksFault s q x r t port taker words) e = cc
pins_alone slot j low (Holds s q x r holder) e = cc
pins_alone slot j low (Drops r) e = cc
pins_alone slot j low DropsPin e = cc
pins_alone slot j low (Deadens r) e = cc

not_pins : (o : Order) (j : ℕ) → is_look o ≡ false → o ≡ Pins j → ⊥
not_pins o j off same = let on : is_look o ≡ true = rw same refl in let both = sym on ∙ off in cc

unpinned_plain : (o : Order) → is_look o ≡ false → pinned o ≡ []
unpinned_plain (Pins j) off = cc
unpinned_plain o off = refl

plain_lost : (o : Order) → is_look o ≡ false → fails o ≡ Lost
plain_lost (Pins i) off = cc
plain_lost (Checks r i) off = cc
plain_lost o off = refl

abbrev ending : End → Head End
ending end = Stops end

same_end : (a b : End) → ending a ≡ Stops b → a ≡ b
same_end a b e = cc

module _ (slot birth : ℕ) (bind : ℕ → ℕ) (c : World) (rooms : List Room) (w : World) (nester : Path) (low : slot ≤ LAST_USER_SLOT) (its : IsRoomed bind c rooms)
    (may_begin : MayBegin w nester birth) where
  abbrev CameTo : World → State → Type 0
  CameTo = Came slot birth bind c rooms w nester low its may_begin

  -- what a look that is under way comes to
  abbrev verdict : Bool → ℕ → Option End
  verdict true j = None
  verdict false j = Some (NoPort (the_lowest bind rooms j))

  -- where a look stands, and to what it comes
  data Eye : World → State → Option End → List ℕ → Type 0 where
    Between : (os : List Order) (past : List ℕ) (u : World) → Grouped os → past ++ pins os ≡ all_pins slot birth bind c rooms w nester low its may_begin
        → Eye u (Works os) None past
    Taking : (r j : ℕ) (os : List Order) (b : Bool) (past : List ℕ) (u : World) → Grouped os
        → past ++ pins os ≡ all_pins slot birth bind c rooms w nester low its may_begin → Looks nester slot u j b →
        Eye u (Works (Takes r ∷ Checks r j ∷ os)) (verdict b j) past
    Looking : (r j : ℕ) (os : List Order) (b : Bool) (past : List ℕ) (u : World) → Grouped os
        → past ++ pins os ≡ all_pins slot birth bind c rooms w nester low its may_begin → Looks nester slot u j b →
        Eye u (Works (Checks r j ∷ os)) (verdict b j) past
    Clearing : (os : List Order) (more port : ℕ) (past : List ℕ) (u : World) → Eye u (Clears os more port) (Some (NoPort port)) past
    Past : (end : End) (past : List ℕ) (u : World) → Eye u (Over end) (Some end) past

  abbrev IsLowestFor : ℕ → ℕ → Type 0
  IsLowestFor j port = IsLowest bind rooms port × (bind port ≡ j)

  record Tells (said : Option End) (past : List ℕ) {u : World} {s : State} {es : List Event} {v : World} {t : State}
      (run : Interleaved (restore slot bind rooms) nester u s es v t) : Type 0 where
    pub ends : (e end : End) → said ≡ Some e → head slot t ≡ Stops end → end ≡ e
    pub missed : (port : ℕ) → said ≡ None → head slot t ≡ Stops (NoPort port) → (j : ℕ) × MissesFirst slot bind rooms j run × IsLowestFor j port
    pub told : (j : ℕ) → Misses slot bind rooms j run → (end : End) → head slot t ≡ Stops end → (port : ℕ) × (end ≡ NoPort port) × IsLowestFor j port
    -- where it was led before, a port stands still
    pub again : (j : ℕ) → is_past j past ≡ true → Misses slot bind rooms j run → ⊥

  -- the first miss is one
  once : (j : ℕ) (u v : World) (s t : State) (es : List Event) (run : Interleaved (restore slot bind rooms) nester u s es v t)
      → MissesFirst slot bind rooms j run → Misses slot bind rooms j run
  once j _ _ _ _ _ (Here u s sound) h = absurd h
  once j _ v _ t _ (Another u s e es _ _ sound works move rest) h = once j (after u e) v s t es rest h
  once j _ v _ t _ (Own u s stage words es _ _ sound asked ready rest) (inl h) = inl h
  once j _ v _ t _ (Own u s stage words es _ _ sound asked ready rest) (inr h) = inr (once j _ v _ t es rest h.1)

  past_on : (i j : ℕ) (past : List ℕ) → is_past i past ≡ true → is_past i (past ++ j ∷ []) ≡ true
  past_on i j past h = list_any-append (λ k. k == i) past (j ∷ []) ∙ rw h refl

  past_now : (j : ℕ) (past : List ℕ) → is_past j (past ++ j ∷ []) ≡ true
  past_now j past = list_any-append (λ k. k == j) past (j ∷ []) ∙ rw (eq-eqb j j refl) (or_last (is_past j past))
    where
      or_last : (t : Bool) → (t || true) ≡ true
      or_last true = refl
      or_last false = refl

  -- ---- one move

  next_other : (u v : World) (s t : State) (e : Event) (es : List Event) → CameTo u s → IsSound u → IsAtCall (restore slot bind rooms) s
      → IsUsersMove nester u e →
      Interleaved (restore slot bind rooms) nester (after u e) s es v t → CameTo (after u e) s
  next_other u v s t e es at sound works moves rest =
      arrives slot birth bind c rooms w nester low its may_begin u (after u e) s s (e ∷ []) at
      (Another u s e [] (after u e) s sound works moves (Here (after u e) s (first_sound (restore slot bind rooms) nester (after u e) s es v t rest)))

  next_own : (u v : World) (s t : State) (stage : Stage) (words : List ℕ) (es : List Event) → CameTo u s → IsSound u → head slot s ≡ Asks stage words
      → IsReadyAt u (call_of nester stage words) →
      Interleaved (restore slot bind rooms) nester (after u (call_of nester stage words))
      (heard (restore slot bind rooms) s (said_of u (call_of nester stage words))) es v t →
      CameTo (after u (call_of nester stage words)) (heard (restore slot bind rooms) s (said_of u (call_of nester stage words)))
  next_own u v s t stage words es at sound asks ready rest =
      let x = after u (call_of nester stage words) in
      let y = heard (restore slot bind rooms) s (said_of u (call_of nester stage words)) in
      arrives slot birth bind c rooms w nester low its may_begin u x s y (call_of nester stage words ∷ []) at
      (Own u s stage words [] x y sound asks ready (Here x y (first_sound (restore slot bind rooms) nester x y es v t rest)))

  module _ (u v : World) (s t : State) (stage : Stage) (words : List ℕ) (es : List Event) (sound : IsSound u) (asks : head slot s ≡ Asks stage words)
      (ready : IsReadyAt u (call_of nester stage words))
      (rest : Interleaved (restore slot bind rooms) nester (after u (call_of nester stage words))
      (heard (restore slot bind rooms) s (said_of u (call_of nester stage words))) es v t) where
    -- a call that leads no pin
    on : (said : Option End) (past : List ℕ) → ((j : ℕ) → stage ≡ stage_of slot (Pins j) → ⊥) → Tells said past rest
        → Tells said past (Own u s stage words es v t sound asks ready rest)
    on said past unlike later = record {
      ends = later.ends;
      missed = λ port is stops. let found = later.missed port is stops in (found.0, inr (unlike found.0, found.1), found.2);
      told = λ j miss end stops. by j miss end stops;
      again = λ j h miss. not_again j h miss;
    }
      where
        by : (j : ℕ) → IsMiss nester slot j u stage ⊎ Misses slot bind rooms j rest → (end : End) → head slot t ≡ Stops end
            → (port : ℕ) × (end ≡ NoPort port) × IsLowestFor j port
        by j (inl miss) end stops = absurd (unlike j miss.0)
        by j (inr miss) end stops = later.told j miss end stops

        not_again : (j : ℕ) → is_past j past ≡ true → IsMiss nester slot j u stage ⊎ Misses slot bind rooms j rest → ⊥
        not_again j h (inl miss) = unlike j miss.0
        not_again j h (inr miss) = later.again j h miss

    -- one that leads it to a port
    hit : (past : List ℕ) (j : ℕ) → stage ≡ stage_of slot (Pins j) → is_port (u.body (j ∷ nester)) ≡ true → Tells None (past ++ j ∷ []) rest
        → Tells None past (Own u s stage words es v t sound asks ready rest)
    hit past j is there later = record {
      ends = later.ends;
      missed = λ port none stops. let found = later.missed port none stops in (found.0, inr (apart found.0 found.1, found.1), found.2);
      told = λ i miss end stops. by i miss end stops;
      again = λ i h miss. not_again i h miss;
    }
      where
        same_slot : (i : ℕ) → stage ≡ stage_of slot (Pins i) → j ≡ i
        same_slot i same = let both : stage_of slot (Pins j) ≡ stage_of slot (Pins i) = sym is ∙ same in cc

        no_miss : (i : ℕ) → IsMiss nester slot i u stage → ⊥
        no_miss i miss = let on = subst (λ (k : ℕ). is_port (u.body (k ∷ nester)) ≡ true) (same_slot i miss.0) there in let clash = sym on ∙ miss.1 in cc

        apart : (i : ℕ) → MissesFirst slot bind rooms i rest → stage ≡ stage_of slot (Pins i) → ⊥
        apart i first same = later.again i (subst (λ (k : ℕ). is_past k (past ++ j ∷ []) ≡ true) (same_slot i same) (past_now j past))
            (once i _ v _ t es rest first)

        by : (i : ℕ) → IsMiss nester slot i u stage ⊎ Misses slot bind rooms i rest → (end : End) → head slot t ≡ Stops end
            → (port : ℕ) × (end ≡ NoPort port) × IsLowestFor i port
        by i (inl miss) end stops = absurd (no_miss i miss)
        by i (inr miss) end stops = later.told i miss end stops

        not_again : (i : ℕ) → is_past i past ≡ true → IsMiss nester slot i u stage ⊎ Misses slot bind rooms i rest → ⊥
        not_again i h (inl miss) = no_miss i miss
        not_again i h (inr miss) = later.again i (past_on i j past h) miss

    -- one that is
    missing : (past : List ℕ) (j : ℕ) → IsMiss nester slot j u stage → (is_past j past ≡ true → ⊥) → IsLowestFor j (the_lowest bind rooms j)
        → Tells (Some (NoPort (the_lowest bind rooms j))) (past ++ j ∷ []) rest → Tells None past (Own u s stage words es v t sound asks ready rest)
    missing past j miss anew lowest later = record {
      ends = λ e end is stops. cc;
      missed = λ port is stops. (
        j,
        inl miss,
        subst (IsLowestFor j)
            (ports (the_lowest bind rooms j) port (sym (later.ends (NoPort (the_lowest bind rooms j)) (NoPort port) refl stops))) lowest,
      );
      told = by;
      again = not_again;
    }
      where
        ports : (a b : ℕ) → NoPort a ≡ NoPort b → a ≡ b
        ports a b e = cc

        same_slot : (i : ℕ) → IsMiss nester slot i u stage → i ≡ j
        same_slot i other = let both : stage_of slot (Pins i) ≡ stage_of slot (Pins j) = sym other.0 ∙ miss.0 in cc

        by : (i : ℕ) → IsMiss nester slot i u stage ⊎ Misses slot bind rooms i rest → (end : End) → head slot t ≡ Stops end
            → (port : ℕ) × (end ≡ NoPort port) × IsLowestFor i port
        by i (inl other) end stops = (
          the_lowest bind rooms j,
          later.ends (NoPort (the_lowest bind rooms j)) end refl stops,
          subst (λ (k : ℕ). IsLowestFor k (the_lowest bind rooms j)) (sym (same_slot i other)) lowest,
        )
        by i (inr other) end stops = later.told i other end stops

        not_again : (i : ℕ) → is_past i past ≡ true → IsMiss nester slot i u stage ⊎ Misses slot bind rooms i rest → ⊥
        not_again i h (inl other) = anew (subst (λ (k : ℕ). is_past k past ≡ true) (same_slot i other) h)
        not_again i h (inr other) = later.again i (past_on i j past h) other

  -- a call of a known order
  module _ (u : World) (o : Order) (os : List Order) (at : CameTo u (Works (o ∷ os))) (sound : IsSound u) (stage : Stage) (words : List ℕ)
      (asks : head slot (Works (o ∷ os)) ≡ Asks stage words) (ready : IsReadyAt u (call_of nester stage words)) where
    abbrev x : World
    x = after u (call_of nester stage words)

    abbrev y : State
    y = heard (restore slot bind rooms) (Works (o ∷ os)) (said_of u (call_of nester stage words))

    stages : stage_of slot o ≡ stage
    stages = cc

    given : words_of o ≡ words
    given = cc

    same : call_of nester (stage_of slot o) (words_of o) ≡ call_of nester stage words
    same = rw (stages, given) refl

    mine : IsReadyAt u (call_of nester (stage_of slot o) (words_of o))
    mine = subst (IsReadyAt u) (sym same) ready

    abbrev work : InWork slot birth bind c rooms w nester low its may_begin (o ∷ os) u
    work = in_work slot birth bind c rooms w nester low its may_begin u (Works (o ∷ os)) (o ∷ os) at refl

    abbrev its_call : Own_call nester slot work.site u o
    its_call = own_call nester slot work.site u o work.shows work.may.0 sound mine

    answered : IsAnswered nester u (stage_of slot o) (words_of o) its_call.reply
    answered = record { valid = sound.whole.valid; few = sound.whole.few; ready = mine; said = ap reply_of its_call.said }

    comes : y ≡ cond (passes o its_call.reply.status its_call.reply.words) (Works os) (refused bind rooms os (looked_at o))
    comes = ap (heard (restore slot bind rooms) (Works (o ∷ os)))
        (subst (λ (e : Event). said_of u e ≡ Answered its_call.reply.status its_call.reply.words) same its_call.said)

    passed : fails o ≡ Lost → passes o its_call.reply.status its_call.reply.words ≡ true
    passed lost = by (passes o its_call.reply.status its_call.reply.words) refl
      where
        by : (b : Bool) → passes o its_call.reply.status its_call.reply.words ≡ b → b ≡ true
        by true e = refl
        by false e = absurd (its_call.its.fails_well e lost)

    goes : fails o ≡ Lost → y ≡ Works os
    goes lost = comes ∙ ap (λ (b : Bool). cond b (Works os) (refused bind rooms os (looked_at o))) (passed lost)

    other_call : is_look o ≡ false → (j : ℕ) → stage ≡ stage_of slot (Pins j) → ⊥
    other_call off j same = not_pins o j off (pins_alone slot j low o (stages ∙ same))

  takes_apart : (r j : ℕ) → Takes r ≡ Pins j → ⊥
  takes_apart r j e = cc

  checks_apart : (r i j : ℕ) → Checks r i ≡ Pins j → ⊥
  checks_apart r i j e = cc

  drop_apart : (o : Order) (os : List Order) (j : ℕ) → AreDrops slot birth bind c rooms w nester low its may_begin (o ∷ os) → o ≡ Pins j → ⊥
  drop_apart (Drops r) os j drop e = cc
  drop_apart o os j drop e = absurd drop

  -- after the last look
  looked : (b : Bool) (j : ℕ) (os : List Order) (past : List ℕ) (u : World) → Grouped os
      → past ++ pins os ≡ all_pins slot birth bind c rooms w nester low its may_begin →
      Eye u (cond b (Works os) (refused bind rooms os (Some j))) (verdict b j) past
  looked true j os past u grouped is = Between os past u grouped is
  looked false j os past u grouped is = Clearing drops (suc (objects rooms)) (the_lowest bind rooms j) past u

  -- ---- the pin is led

  abbrev pin_state : ℕ → ℕ → List Order → World → Stage → List ℕ → State
  pin_state r j os u stage words = heard (restore slot bind rooms) (Works (Pins j ∷ Takes r ∷ Checks r j ∷ os)) (said_of u (call_of nester stage words))

  module _ (r j : ℕ) (os : List Order) (u v : World) (t : State) (stage : Stage) (words : List ℕ) (es : List Event) (past : List ℕ) (grouped : Grouped os)
      (is_all : past ++ j ∷ pins os ≡ all_pins slot birth bind c rooms w nester low its may_begin)
      (at : CameTo u (Works (Pins j ∷ Takes r ∷ Checks r j ∷ os))) (sound : IsSound u)
      (asks : head slot (Works (Pins j ∷ Takes r ∷ Checks r j ∷ os)) ≡ Asks stage words) (ready : IsReadyAt u (call_of nester stage words))
      (rest : Interleaved (restore slot bind rooms) nester (after u (call_of nester stage words)) (pin_state r j os u stage words) es v t)
      (later : (said : Option End) → Eye (after u (call_of nester stage words)) (pin_state r j os u stage words) said (past ++ j ∷ []) → Tells said
      (past ++ j ∷ []) rest) where
    abbrev following : List Order
    following = Takes r ∷ Checks r j ∷ os

    abbrev end_world : World
    end_world = after u (call_of nester stage words)

    abbrev its_work : InWork slot birth bind c rooms w nester low its may_begin (Pins j ∷ following) u
    its_work = work u (Pins j) following at sound stage words asks ready

    abbrev the_call : Own_call nester slot its_work.site u (Pins j)
    the_call = its_call u (Pins j) following at sound stage words asks ready

    tells : PinTells nester slot u j the_call.reply
    tells = pins_tell nester slot its_work.site u j the_call.reply its_work.shows its_work.may.0 (answered u (Pins j) following at sound stage words asks ready)

    lowest : IsLowestFor j (the_lowest bind rooms j)
    lowest = let asked = its_work.safe.0 in lowest_is bind rooms j asked.port asked.low asked.leads asked.bound

    state : pin_state r j os u stage words ≡ cond (the_call.reply.status == OK) (Works following) (refused bind rooms following (Some j))
    state = comes u (Pins j) following at sound stage words asks ready

    is_pin : stage ≡ stage_of slot (Pins j)
    is_pin = sym (stages u (Pins j) following at sound stage words asks ready)

    is_next : (past ++ j ∷ []) ++ pins os ≡ all_pins slot birth bind c rooms w nester low its may_begin
    is_next = append_assoc past (j ∷ []) (pins os) ∙ is_all

    -- it wasn't led there before, where no port stands
    anew : is_port (u.body (j ∷ nester)) ≡ false → is_past j past ≡ true → ⊥
    anew off h =
        let there = used_stands nester slot its_work.site u its_work.shows j
        (history_used (all_pins slot birth bind c rooms w nester low its may_begin) past j following its_work.site its_work.history is_all h) in
        let clash = sym there ∙ off in cc

    -- the eye that looks on
    looks_on : (b : Bool) → is_port (u.body (j ∷ nester)) ≡ b → (the_call.reply.status == OK) ≡ true
        → Eye end_world (pin_state r j os u stage words) (verdict b j) (past ++ j ∷ [])
    looks_on b is ok =
        let there = subst (λ (e : Event). Looks nester slot (after u e) j (is_port (u.body (j ∷ nester))))
        (same u (Pins j) following at sound stage words asks ready) (tells.looks (eqb-true the_call.reply.status OK ok)) in
        let here : pin_state r j os u stage words ≡ Works following = state
        ∙ ap (λ (b : Bool). cond b (Works following) (refused bind rooms following (Some j))) ok in
        subst (λ (s : State). Eye end_world s (verdict b j) (past ++ j ∷ [])) (sym here)
        (Taking r j os b (past ++ j ∷ []) end_world grouped is_next (subst (λ (b : Bool). Looks nester slot end_world j b) is there))

    turned_back : (the_call.reply.status == OK) ≡ false
        → Eye end_world (pin_state r j os u stage words) (Some (NoPort (the_lowest bind rooms j))) (past ++ j ∷ [])
    turned_back off =
        let here = state ∙ ap (λ (b : Bool). cond b (Works following) (refused bind rooms following (Some j))) off in
        subst (λ (s : State). Eye end_world s (Some (NoPort (the_lowest bind rooms j))) (past ++ j ∷ [])) (sym here)
        (Clearing drops (suc (objects rooms)) (the_lowest bind rooms j) (past ++ j ∷ []) end_world)

    pin_led : Tells None past (Own u (Works (Pins j ∷ following)) stage words es v t sound asks ready rest)
    pin_led = by (is_port (u.body (j ∷ nester))) (the_call.reply.status == OK) refl refl
      where
        by : (b s : Bool) → is_port (u.body (j ∷ nester)) ≡ b → (the_call.reply.status == OK) ≡ s
            → Tells None past (Own u (Works (Pins j ∷ following)) stage words es v t sound asks ready rest)
        by true true is ok = hit u v (Works (Pins j ∷ following)) t stage words es sound asks ready rest past j is_pin is (later None (looks_on true is ok))
        by true false is off = let led = tells.led is in let on : (the_call.reply.status == OK) ≡ true = rw led refl in let clash = sym on ∙ off in cc
        by false true is ok = missing u v (Works (Pins j ∷ following)) t stage words es sound asks ready rest past j (is_pin, is) (anew is) lowest
            (later (Some (NoPort (the_lowest bind rooms j))) (looks_on false is ok))
        by false false is off = missing u v (Works (Pins j ∷ following)) t stage words es sound asks ready rest past j (is_pin, is) (anew is) lowest
            (later (Some (NoPort (the_lowest bind rooms j))) (turned_back off))

  tell : (u v : World) (s t : State) (es : List Event) (said : Option End) (past : List ℕ) → CameTo u s → Eye u s said past
      → (run : Interleaved (restore slot bind rooms) nester u s es v t) → Tells said past run
  tell _ _ _ _ _ _ _ at (Between [] past u grouped is_all)
      (Here _ _ sound) = record {
        ends = λ e end is stops. cc;
        missed = λ port is stops. cc;
        told = λ j miss end stops. absurd miss;
        again = λ j h miss. absurd miss;
      }
  tell _ _ _ _ _ _ _ at (Between (o ∷ os) past u grouped is_all)
      (Here _ _ sound) = record {
        ends = λ e end is stops. cc;
        missed = λ port is stops. cc;
        told = λ j miss end stops. absurd miss;
        again = λ j h miss. absurd miss;
      }
  tell _ _ _ _ _ _ _ at (Taking r j os b past u grouped is_all looks)
      (Here _ _ sound) = record {
        ends = λ e end is stops. cc;
        missed = λ port is stops. cc;
        told = λ j miss end stops. absurd miss;
        again = λ j h miss. absurd miss;
      }
  tell _ _ _ _ _ _ _ at (Looking r j os b past u grouped is_all looks)
      (Here _ _ sound) = record {
        ends = λ e end is stops. cc;
        missed = λ port is stops. cc;
        told = λ j miss end stops. absurd miss;
        again = λ j h miss. absurd miss;
      }
  tell _ _ _ _ _ _ _ at (Clearing [] more port past u)
      (Here _ _ sound) = record {
        ends = λ e end is stops. cc;
        missed = λ port is stops. cc;
        told = λ j miss end stops. absurd miss;
        again = λ j h miss. absurd miss;
      }
  tell _ _ _ _ _ _ _ at (Clearing (o ∷ os) more port past u)
      (Here _ _ sound) = record {
        ends = λ e end is stops. cc;
        missed = λ port is stops. cc;
        told = λ j miss end stops. absurd miss;
        again = λ j h miss. absurd miss;
      }
  tell _ _ _ _ _ _ _ at (Past end past u) (Here _ _ sound) = record {
    ends = λ e other is stops. let one : end ≡ e = cc in sym (same_end end other stops)
        ∙ one;
    missed = λ port is stops. cc;
    told = λ j miss end stops. absurd miss;
    again = λ j h miss. absurd miss;
  }
  tell _ v _ t _ _ _ at (Between os past u grouped is_all) (Another _ _ e es _ _ sound works moves rest) =
      let later = tell (after u e) v (Works os) t es None past (next_other u v (Works os) t e es at sound works moves rest)
      (Between os past (after u e) grouped is_all) rest in
      record { ends = later.ends; missed = later.missed; told = later.told; again = later.again }
  tell _ v _ t _ _ _ at (Taking r j os b past u grouped is_all looks) (Another _ _ e es _ _ sound works moves rest) =
      let work = in_work slot birth bind c rooms w nester low its may_begin u _ (Takes r ∷ Checks r j ∷ os) at refl in
      let later = tell (after u e) v _ t es (verdict b j) past (next_other u v _ t e es at sound works moves rest)
      (Taking r j os b past (after u e) grouped is_all (others_keep_looks nester slot work.site u e j b work.shows moves looks)) rest in
      record { ends = later.ends; missed = later.missed; told = later.told; again = later.again }
  tell _ v _ t _ _ _ at (Looking r j os b past u grouped is_all looks) (Another _ _ e es _ _ sound works moves rest) =
      let work = in_work slot birth bind c rooms w nester low its may_begin u _ (Checks r j ∷ os) at refl in
      let later = tell (after u e) v _ t es (verdict b j) past (next_other u v _ t e es at sound works moves rest)
      (Looking r j os b past (after u e) grouped is_all (others_keep_looks nester slot work.site u e j b work.shows moves looks)) rest in
      record { ends = later.ends; missed = later.missed; told = later.told; again = later.again }
  tell _ v _ t _ _ _ at (Clearing os more port past u) (Another _ _ e es _ _ sound works moves rest) =
      let later = tell (after u e) v (Clears os more port) t es (Some (NoPort port)) past
      (next_other u v (Clears os more port) t e es at sound works moves rest) (Clearing os more port past (after u e)) rest in
      record { ends = later.ends; missed = later.missed; told = later.told; again = later.again }
  tell _ v _ t _ _ _ at (Past end past u) (Another _ _ e es _ _ sound works moves rest) = let asked = works.2 in cc
  tell _ v _ t _ _ _ at (Past end past u) (Own _ _ stage words es _ _ sound asks ready rest) = cc
  tell _ v _ t _ _ _ at (Between [] past u grouped is_all) (Own _ _ stage words es _ _ sound asks ready rest) =
      let stages : SpaceRelease OWN_SPACE slot ≡ stage = cc in
      let later = tell (after u (call_of nester stage words)) v (Over Done) t es (Some Done) past
      (next_own u v (Works []) t stage words es at sound asks ready rest) (Past Done past _) rest in
      record {
        ends = λ e end is stops. cc;
        missed = λ port is stops. let end = later.ends Done (NoPort port) refl stops in cc;
        told = λ j miss end stops. by j stages miss end stops later;
        again = λ j h miss. not_again j stages h miss later;
      }
    where
      by : (j : ℕ) → SpaceRelease OWN_SPACE slot ≡ stage → IsMiss nester slot j u stage ⊎ Misses slot bind rooms j rest → (end : End)
          → head slot t ≡ Stops end → Tells (Some Done) past rest → (port : ℕ) × (end ≡ NoPort port) × IsLowestFor j port
      by j stages (inl miss) end stops later = let both : SpaceRelease OWN_SPACE slot ≡ stage_of slot (Pins j) = stages ∙ miss.0 in cc
      by j stages (inr miss) end stops later = later.told j miss end stops

      not_again : (j : ℕ) → SpaceRelease OWN_SPACE slot ≡ stage → is_past j past ≡ true → IsMiss nester slot j u stage ⊎ Misses slot bind rooms j rest
          → Tells (Some Done) past rest → ⊥
      not_again j stages h (inl miss) later = let both : SpaceRelease OWN_SPACE slot ≡ stage_of slot (Pins j) = stages ∙ miss.0 in cc
      not_again j stages h (inr miss) later = later.again j h miss
  tell _ v _ t _ _ _ at (Between _ past u (Other o os off grouped) is_all) (Own _ _ stage words es _ _ sound asks ready rest) =
      let state = goes u o os at sound stage words asks ready (plain_lost o off) in
      let eye : Eye (after u (call_of nester stage words)) (y u o os at sound stage words asks ready) None past = subst
      (λ (s : State). Eye (after u (call_of nester stage words)) s None past) (sym state)
      (Between os past _ grouped (ap (λ (q : List ℕ). past ++ (q ++ pins os)) (sym (unpinned_plain o off)) ∙ is_all)) in
      on u v (Works (o ∷ os)) t stage words es sound asks ready rest None past (other_call u o os at sound stage words asks ready off)
      (tell (after u (call_of nester stage words)) v (y u o os at sound stage words asks ready) t es None past
      (next_own u v (Works (o ∷ os)) t stage words es at sound asks ready rest) eye rest)
  tell _ v _ t _ _ _ at (Between _ past u (Look r j os grouped) is_all) (Own _ _ stage words es _ _ sound asks ready rest) =
      pin_led r j os u v t stage words es past grouped is_all at sound asks ready rest
      (λ said eye. tell (after u (call_of nester stage words)) v (pin_state r j os u stage words) t es said (past ++ j ∷ [])
      (next_own u v (Works (Pins j ∷ Takes r ∷ Checks r j ∷ os)) t stage words es at sound asks ready rest) eye rest)
  tell _ v _ t _ _ _ at (Taking r j os b past u grouped is_all looks) (Own _ _ stage words es _ _ sound asks ready rest) =
      let o : Order = Takes r in
      let later_orders : List Order = Checks r j ∷ os in
      let its = work u o later_orders at sound stage words asks ready in
      let call = its_call u o later_orders at sound stage words asks ready in
      let kept = takes_keep_looks nester slot its.site u r j b call.reply its.shows its.may.0
      (answered u o later_orders at sound stage words asks ready) looks in
      let there : Looks nester slot (after u (call_of nester stage words)) j b = subst (λ (e : Event). Looks nester slot (after u e) j b)
      (same u o later_orders at sound stage words asks ready) kept in
      let state = goes u o later_orders at sound stage words asks ready refl in
      let eye : Eye (after u (call_of nester stage words)) (y u o later_orders at sound stage words asks ready) (verdict b j) past =
      subst (λ (s : State). Eye (after u (call_of nester stage words)) s (verdict b j) past) (sym state) (Looking r j os b past _ grouped is_all there) in
      on u v (Works (o ∷ later_orders)) t stage words es sound asks ready rest (verdict b j) past
      (λ i same_stage. takes_apart r i (pins_alone slot i low o (stages u o later_orders at sound stage words asks ready ∙ same_stage)))
      (tell (after u (call_of nester stage words)) v (y u o later_orders at sound stage words asks ready) t es (verdict b j) past
      (next_own u v (Works (o ∷ later_orders)) t stage words es at sound asks ready rest) eye rest)
  tell _ v _ t _ _ _ at (Looking r j os b past u grouped is_all looks) (Own _ _ stage words es _ _ sound asks ready rest) =
      let o : Order = Checks r j in
      let its = work u o os at sound stage words asks ready in
      let call = its_call u o os at sound stage words asks ready in
      let told = checks_tell nester slot its.site u r j b call.reply its.shows its.may.0 (answered u o os at sound stage words asks ready) looks in
      let state = comes u o os at sound stage words asks ready ∙ ap (λ (t : Bool). cond t (Works os) (refused bind rooms os (Some j))) told in
      let eye : Eye (after u (call_of nester stage words)) (y u o os at sound stage words asks ready) (verdict b j) past =
      subst (λ (s : State). Eye (after u (call_of nester stage words)) s (verdict b j) past) (sym state)
      (looked b j os past (after u (call_of nester stage words)) grouped is_all) in
      on u v (Works (o ∷ os)) t stage words es sound asks ready rest (verdict b j) past
      (λ i same_stage. checks_apart r j i (pins_alone slot i low o (stages u o os at sound stage words asks ready ∙ same_stage)))
      (tell (after u (call_of nester stage words)) v (y u o os at sound stage words asks ready) t es (verdict b j) past
      (next_own u v (Works (o ∷ os)) t stage words es at sound asks ready rest) eye rest)
  tell _ v _ t _ _ _ at (Clearing [] zero port past u) (Own _ _ stage words es _ _ sound asks ready rest) =
      let stages : Destroy OWN_SPACE slot ≡ stage = cc in
      on u v (Clears [] zero port) t stage words es sound asks ready rest (Some (NoPort port)) past (λ j same_stage. let both : Destroy OWN_SPACE slot
      ≡ stage_of slot (Pins j) = stages ∙ same_stage in cc)
      (tell (after u (call_of nester stage words)) v (Over (NoPort port)) t es (Some (NoPort port)) past
      (next_own u v (Clears [] zero port) t stage words es at sound asks ready rest) (Past (NoPort port) past _) rest)
  tell _ v _ t _ _ _ at (Clearing [] (suc more) port past u) (Own _ _ stage words es _ _ sound asks ready rest) =
      let stages : Destroy OWN_SPACE slot ≡ stage = cc in
      on u v (Clears [] (suc more) port) t stage words es sound asks ready rest (Some (NoPort port)) past (λ j same_stage. let both : Destroy OWN_SPACE slot
      ≡ stage_of slot (Pins j) = stages ∙ same_stage in cc)
      (tell (after u (call_of nester stage words)) v (Clears [] more port) t es (Some (NoPort port)) past
      (next_own u v (Clears [] (suc more) port) t stage words es at sound asks ready rest) (Clearing [] more port past _) rest)
  tell _ v _ t _ _ _ at (Clearing (o ∷ os) more port past u) (Own _ _ stage words es _ _ sound asks ready rest) =
      let stages : stage_of slot o ≡ stage = cc in
      let drop = in_drops slot birth bind c rooms w nester low its may_begin u (Clears (o ∷ os) more port) o os more port at refl in
      on u v (Clears (o ∷ os) more port) t stage words es sound asks ready rest (Some (NoPort port)) past
      (λ j same_stage. drop_apart o os j drop (pins_alone slot j low o (stages ∙ same_stage)))
      (tell (after u (call_of nester stage words)) v (Clears os more port) t es (Some (NoPort port)) past
      (next_own u v (Clears (o ∷ os) more port) t stage words es at sound asks ready rest) (Clearing os more port past _) rest)

  -- ---- from the first call on

  from_start : (v : World) (t : State) (end : End) (work : AtWork (restore slot bind rooms) nester w Begins v t) → head slot t ≡ Stops end
      → EndsByMiss slot bind rooms work.run end
  from_start v t end work stops =
      let asked = work.asked in
      let one : work.stage ≡ SpaceMakeHeld slot = cc in
      let two : work.words ≡ no_words = cc in
      let first : World = after w (call_of nester work.stage work.words) in
      let state : State = heard (restore slot bind rooms) Begins (said_of w (call_of nester work.stage work.words)) in
      let sound = first_sound (restore slot bind rooms) nester first state work.events v t work.run in
      let at : CameTo first state = came slot birth bind c rooms w nester low its may_begin first state
      (record { stage = work.stage; words = work.words; asked = work.asked; ready = work.ready; events = []; run = Here first state sound }) in
      by state refl ((reply_of (said_of w (call_of nester work.stage work.words))).status == OK) refl at
    where
      first : World
      first = after w (call_of nester work.stage work.words)

      state : State
      state = heard (restore slot bind rooms) Begins (said_of w (call_of nester work.stage work.words))

      ends : (said : Option End) → (said ≡ None) ⊎ (said ≡ Some Occupied) → Tells said [] work.run → EndsByMiss slot bind rooms work.run end
      ends said (inl none) its = record {
        missed = λ port is. let found = its.missed port none (stops ∙ ap ending is) in
            (found.2.0, subst (λ (k : ℕ). MissesFirst slot bind rooms k work.run) (sym found.2.1) found.1);
        told = λ j miss. let found = its.told j miss end stops in (found.0, found.1, found.2.0, found.2.1);
      }
      ends said (inr taken) its = record {
        missed = λ port is. let other = sym is ∙ its.ends Occupied end taken stops in cc;
        told = λ j miss. let found = its.told j miss end stops in (found.0, found.1, found.2.0, found.2.1);
      }

      by : (s : State) → state ≡ s → (b : Bool) → ((reply_of (said_of w (call_of nester work.stage work.words))).status == OK) ≡ b → CameTo first state
          → EndsByMiss slot bind rooms work.run end
      by s e true is at =
          let here : state ≡ Works (script slot bind rooms) = ap (λ (b : Bool). cond b (Works (script slot bind rooms)) (Over Occupied)) is in
          ends None (inl refl) (tell first v state t work.events None [] at
          (subst (λ (s : State). Eye first s None []) (sym here)
          (Between (script slot bind rooms) [] first (script_grouped slot bind c rooms its) refl)) work.run)
      by s e false is at =
          let here : state ≡ Over Occupied = ap (λ (b : Bool). cond b (Works (script slot bind rooms)) (Over Occupied)) is in
          ends (Some Occupied) (inr refl) (tell first v state t work.events (Some Occupied) [] at
          (subst (λ (s : State). Eye first s (Some Occupied) []) (sym here) (Past Occupied [] first)) work.run)

pub no_port_is_exact : NoPortIsExact
no_port_is_exact slot birth bind c rooms w v nester t end low its may work stops = from_start slot birth bind c rooms w nester low its may v t end work stops
