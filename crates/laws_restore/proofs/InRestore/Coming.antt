-- Where a restore at work has come to, and so how it ends.
use Rattle.std.proofs.Common.{◌≡◌, ℕ, zero, suc, ◌≤◌, Bool, true, false, cond, ◌==◌, eqb, nat_le, IsSome, List, [], ◌∷◌, ◌++◌, length, Option, Some, None}
use Rattle.std.proofs.Common.{option_map, arith, ◌⊎◌, inl, inr, refl, sym, ap, subst, ◌∙◌}
use Rattle.fk_model.specs.declared.limits.TheConstants.{OWN_SPACE, LAST_USER_SLOT, LAST_SCRATCH_SLOT, LAST_PORTER_SLOT}
use Rattle.fk_model.specs.declared.stage.Stage.TheVariants.{Destroy, SpaceMakeHeld, SpaceRelease}
use Rattle.fk_model.specs.declared.statuses.status.TheConstants.{OK, OCCUPIED}
use Rattle.fk_model.specs.Places.{Path, same_path}
use Rattle.fk_model.specs.Places.Ptr.{At}
use Rattle.fk_model.specs.Objects.{Body}
use Rattle.fk_model.specs.Holds.{holder_of}
use Rattle.fk_model.specs.World.{World, edited, apply}
use Rattle.fk_model.specs.World.Change.{MakeSpace}
use Rattle.fk_model.specs.World.Edit.{SetHolder}
use Rattle.fk_model.specs.ObjectRows.{is_scratch}
use Rattle.fk_model.specs.Whole.{is_scratch_slot}
use Rattle.fk_model.specs.Valid.{IsValid}
use Rattle.fk_model.proofs.walks.PlaceLaws.{same_path_eq}
use Rattle.laws_subtrees.specs.Cut.Likeness.{seeing}
use Rattle.fk_model.specs.Outcomes.{Said}
use Rattle.fk_model.specs.Outcomes.Said.{Answered}
use Rattle.fk_model.specs.Runs.{Event, after}
use Rattle.fk_model.specs.Rebind.{rebound}
use Rattle.fk_model.specs.Cut.{cut, IsPlain, seen_by, unheld}
use Rattle.fk_model.specs.Sound.{IsClean}
use Rattle.laws_moves.specs.Savable.Savable.{IsSound}
use Rattle.laws_jobs.specs.Machines.{Reply, IsAnswered, no_words, call_of, said_of, reply_of, heard, IsReadyAt, Interleaved, AtWork}
use Rattle.laws_jobs.specs.Machines.Head.{Stops}
use Rattle.laws_jobs.specs.Machines.Interleaved.{Here, Another, Own}
use Rattle.laws_jobs.specs.Jobs.{MayBegin}
use Rattle.laws_jobs.specs.Holds.{released_world}
use Rattle.laws_jobs.proofs.Holds.{release_comes_to}
use Rattle.laws_jobs.proofs.Goings.{goes_by}
use Rattle.laws_jobs.proofs.Weaving.{first_sound}
use Rattle.laws_restore.specs.Sites.Orders.{Pin, Site, PinShows, SpotShows, Shows, eye, pin_of, Order, stage_of, words_of, does, does_all, May, MayAll, passes}
use Rattle.laws_restore.specs.Sites.Orders.{fails}
use Rattle.laws_restore.specs.Sites.Orders.{with_pin}
use Rattle.laws_restore.specs.Sites.Orders.Pin.{NoPin, Loose}
use Rattle.laws_restore.specs.Sites.Orders.Order.{Pins, Checks, Drops}
use Rattle.laws_restore.specs.Sites.Orders.End.{Lost}
use Rattle.laws_restore.specs.Sites.Begun.{first}
use Rattle.laws_restore.specs.Sites.Owed.{SuitsAll}
use Rattle.laws_restore.proofs.InSites.Near.{own_calls_are_near, new_space_is_unled}
use Rattle.laws_restore.specs.Sites.Near.{IsNearCall}
use Rattle.laws_restore.proofs.InSites.Nearby.{inside_near}
use Rattle.laws_restore.proofs.InSites.Begun.{begins, make-row, made_as, none_beneath}
use Rattle.laws_restore.proofs.InSites.Others.{others, holding}
use Rattle.laws_restore.proofs.InSites.Released.{releases}
use Rattle.laws_restore.proofs.InSites.Plainly.{releases_plain}
use Rattle.laws_restore.proofs.InSites.Restored.{own_call}
use Rattle.laws_restore.specs.Restore.Rooms.{Room}
use Rattle.laws_restore.specs.Restore.Fits.{there}
use Rattle.laws_restore.specs.Restore.Script.{P, T, U, D, script}
use Rattle.laws_restore.specs.Restore.Roomed.{IsRoomed}
use Rattle.laws_restore.specs.Restore.Laws.{finished}
use Rattle.laws_restore.specs.Restore.Restore.{End, State, head, looked_at, refused, drops, objects, lowest_bound, restore}
use Rattle.laws_restore.specs.Restore.Restore.End.{Done, Occupied, NoPort}
use Rattle.laws_restore.specs.Restore.Restore.State.{Makes as Begins, Works, Clears, Over}
use Rattle.laws_restore.specs.Restore.Restore.{is_done}
use Rattle.laws_restore.specs.Restore.Ends.{EndsSo, RestoreEndsSo, RestoreRestores}
use Rattle.laws_restore.proofs.InRestore.Ways.{SafeAt, SafeAll}
use Rattle.laws_restore.proofs.InRestore.Asked.{IsAsked}
use Rattle.laws_restore.proofs.InRestore.Earlier.{pins, History, history_begins, history_on}
use Rattle.laws_restore.proofs.InRestore.Whole.{unscratched}
use Rattle.laws_restore.proofs.InRestore.Scripted.{script_makes, script_suits, script_safe}
use Rattle.laws_restore.proofs.InRestore.Emptying.{IsEmptied, emptied_others, world, left_world, gone, gone_inside, fewer, no_scratch, next_emptied, all_gone}
use Rattle.laws_restore.proofs.InRestore.Listed.{all_standing, standing_length, emptied_from}
use Rattle.laws_restore.proofs.InRestore.Secluded.{IsSecluded, secluded_near, secluded_by, secluded_others, secluded_first, kills_near}
use Rattle.laws_restore.proofs.InRestore.Refused.{left_at, refused_shows}
use Rattle.laws_restore.proofs.InRestore.Tidying.{Tidied, tidied_first, tidied_others, tidied_near, tidied_emptied, clean_from}

module _ (slot birth : ℕ) (bind : ℕ → ℕ) (c : World) (rooms : List Room) (w : World) (nester : Path) (low : slot ≤ LAST_USER_SLOT) (its : IsRoomed bind c rooms)
    (may_begin : MayBegin w nester birth) where
  abbrev root : Path
  root = slot ∷ nester

  abbrev Empty : Type 0
  Empty = w.body root ≡ None

  -- scratch is dropped alone
  abbrev pub AreDrops : List Order → Type 0
  AreDrops [] = Unit {0}
  AreDrops (Drops r ∷ os) = (nat_le r LAST_SCRATCH_SLOT ≡ true) × AreDrops os
  AreDrops (o ∷ os) = ⊥

  rest_drops : (o : Order) (os : List Order) → AreDrops (o ∷ os) → AreDrops os
  rest_drops (Drops r) os its = its.1
  rest_drops o os its = absurd its

  abbrev pub IsAskedHere : ℕ → Site → Type 0
  IsAskedHere = IsAsked bind c rooms

  abbrev pub all_pins : List ℕ
  all_pins = pins (script slot bind rooms)

  -- a new space with all that is to stand in it, and scratch that these orders drop
  pub record IsLeft (os : List Order) (g : Site) : Type 0 where
    pub drop : AreDrops os
    pub may : MayAll slot os g
    pub stands : (y : Path) → there g.built y ≡ there c y
    pub pin : g.pin ≡ NoPin → ⊥
    pub spots : (k : ℕ) → (does_all os g).spot k ≡ None

  -- where it has come to
  pub data Came : World → State → Type 0 where
    Working : (os : List Order) (g : Site) (v : World) → Empty → Shows nester slot g v → IsSecluded nester slot v → MayAll slot os g → SuitsAll os g
        → SafeAll IsAskedHere os g → Tidied nester slot birth v →
        does_all os g ≡ finished bind c → History all_pins os g → Came v (Works os)
    Dropping : (o : Order) (os : List Order) (port : ℕ) (g : Site) (v : World) → Empty → Shows nester slot g v → IsSecluded nester slot v → IsLeft (o ∷ os) g
        → Tidied nester slot birth v → Came v (Clears (o ∷ os) (suc (objects rooms)) port)
    Clearing : (xs : List Path) (more port : ℕ) (v : World) → Empty → IsEmptied nester slot v xs → length xs ≡ suc more → IsSecluded nester slot v
        → Tidied nester slot birth v → Came v (Clears [] more port)
    Finished : (v : World) → Empty → IsPlain v nester slot → cut v nester slot ≡ rebound bind c → holder_of (v.body root) ≡ None → IsClean v
        → Came v (Over Done)
    Missing : (port : ℕ) (v : World) → Empty → ((q : Path) → v.body (q ++ root) ≡ None) → IsClean v → Came v (Over (NoPort port))
    Taken : (v : World) → IsSome (w.body root) → v ≡ w → Came v (Over Occupied)

  -- ---- a port is missing

  drops_from : (g : Site) (j : ℕ) → (h : Site) → IsAskedHere j g → h.built ≡ g.built → ((k : ℕ) → h.spot k ≡ g.spot k) → (h.pin ≡ NoPin → ⊥) → IsLeft drops h
  unfolding does_all
  drops_from g j h asked built spot pin = record {
    drop = (refl, (refl, (refl, (refl, tt))));
    may = ((refl, rw (spot P) asked.at), ((refl, rw (spot T) asked.t), ((refl, rw (spot U) asked.u), ((refl, rw (spot D) asked.dead), tt))));
    stands = λ y. ap (λ (m : World). there m y) built ∙ asked.stands y;
    pin = pin;
    spots = λ k. by k (eqb k D) (eqb k U) (eqb k T) (eqb k P) refl refl refl refl;
  }
    where
      by : (k : ℕ) (d u t p : Bool) → eqb k D ≡ d → eqb k U ≡ u → eqb k T ≡ t → eqb k P ≡ p
          → cond d None (cond u None (cond t None (cond p None (h.spot k)))) ≡ None
      by k true u t p a b e f = refl
      by k false true t p a b e f = refl
      by k false false true p a b e f = refl
      by k false false false true a b e f = refl
      by k false false false false a b e f = spot k ∙ asked.none k f e b a

  -- no other order is refused
  no_port : (g : Site) (u : World) (os : List Order) (o : Order) → Empty → (fails o ≡ Lost → ⊥) → May slot o g → SafeAt IsAskedHere o g
      → Shows nester slot (left_at o g) u → IsSecluded nester slot u → Tidied nester slot birth u → Came u (refused bind rooms os (looked_at o))
  no_port g u os (Pins i) empty well may asked shows alone tidied = Dropping (Drops P) _ (lowest_bound bind rooms i 240 0)
      (with_pin Loose g) u empty shows alone (drops_from g i (with_pin Loose g) asked refl (λ k. refl) (λ e. cc)) tidied
  no_port g u os (Checks r i) empty well may asked shows alone tidied = Dropping (Drops P) _ (lowest_bound bind rooms i 240 0) g u empty shows alone
      (drops_from g i g asked refl (λ k. refl) asked.pin) tidied
  no_port g u os o empty well may asked shows alone tidied = absurd (well refl)

  after_own : (g : Site) (v : World) (o : Order) (os : List Order) (status : ℕ) (words : List ℕ) (b : Bool) → passes o status words ≡ b → Empty
      → (b ≡ false → (fails o ≡ Lost → ⊥)) → (b ≡ true → Shows nester slot (does o g) v) →
      ((fails o ≡ Lost → ⊥) → Shows nester slot (left_at o g) v) → IsSecluded nester slot v → May slot o g → SafeAt IsAskedHere o g
      → Tidied nester slot birth v →
      MayAll slot os (does o g) → SuitsAll os (does o g) → SafeAll IsAskedHere os (does o g) → does_all os (does o g) ≡ finished bind c
      → History all_pins os (does o g) → Came v (cond b (Works os) (refused bind rooms os (looked_at o)))
  after_own g v o os status words true e empty well shown left alone may_now asked tidied may suits safe is history = Working os (does o g) v empty
      (shown refl) alone may suits safe tidied is history
  after_own g v o os status words false e empty well shown left alone may_now asked tidied may suits safe is history = no_port g v os o empty
      (well refl) may_now asked (left (well refl)) alone tidied

  -- ---- scratch is dropped, and then all is destroyed

  clears_on : (os : List Order) (port : ℕ) (g : Site) (v : World) → Empty → Shows nester slot g v → IsSecluded nester slot v → IsLeft os g
      → Tidied nester slot birth v → Came v (Clears os (suc (objects rooms)) port)
  unfolding does_all
  clears_on [] port g v empty shows alone left tidied =
      Clearing (all_standing bind c rooms its) (suc (objects rooms)) port v empty
      (emptied_from bind c rooms its nester slot g v shows left.stands left.pin left.spots) (standing_length bind c rooms its) alone tidied
  clears_on (o ∷ os) port g v empty shows alone left tidied = Dropping o os port g v empty shows alone left tidied

  pub drop_lost : (o : Order) (os : List Order) → AreDrops (o ∷ os) → fails o ≡ Lost
  drop_lost (Drops r) os drop = refl
  drop_lost o os drop = absurd drop

  drop_built : (o : Order) (os : List Order) (g : Site) → AreDrops (o ∷ os) → ((does o g).built ≡ g.built) × ((does o g).pin ≡ g.pin)
  drop_built (Drops r) os g drop = (refl, refl)
  drop_built o os g drop = absurd drop

  left_on : (o : Order) (os : List Order) (g : Site) → IsLeft (o ∷ os) g → IsLeft os (does o g)
  unfolding does_all
  left_on o os g left =
      let same = drop_built o os g left.drop in
      record {
        drop = rest_drops o os left.drop;
        may = left.may.1;
        stands = λ y. ap (λ (m : World). there m y) same.0 ∙ left.stands y;
        pin = λ e. left.pin (sym same.1 ∙ e);
        spots = left.spots;
      }

  dropped : (o : Order) (os : List Order) (port : ℕ) (g : Site) (u : World) → Empty → Shows nester slot g u → IsSecluded nester slot u → IsLeft (o ∷ os) g
      → Tidied nester slot birth u → IsSound u → IsReadyAt u (call_of nester (stage_of slot o) (words_of o)) →
      Came (after u (call_of nester (stage_of slot o) (words_of o))) (Clears os (suc (objects rooms)) port)
  dropped o os port g u empty shows alone left tidied sound ready =
      let call = own_call nester slot g u o shows left.may.0 sound ready in
      let answered : IsAnswered nester u (stage_of slot o)
      (words_of o) call.reply = record { valid = sound.whole.valid; few = sound.whole.few; ready = ready; said = ap reply_of call.said } in
      let near = own_calls_are_near nester slot g u o call.reply shows left.may.0 answered in
      let shown = call.its.shown (by call.reply.status call.reply.words (passes o call.reply.status call.reply.words) refl call.its.fails_well
      (drop_lost o os left.drop)) in
      clears_on os port (does o g) _ empty shown (secluded_near nester slot u (call_of nester (stage_of slot o) (words_of o)) near alone)
      (left_on o os g left) (tidied_near nester slot birth u (call_of nester (stage_of slot o) (words_of o)) near tidied)
    where
      by : (status : ℕ) (words : List ℕ) (b : Bool) → passes o status words ≡ b → (passes o status words ≡ false → (fails o ≡ Lost → ⊥)) → fails o ≡ Lost
          → passes o status words ≡ true
      by status words true e well lost = e
      by status words false e well lost = absurd (well e lost)

  -- one object goes
  secluded_emptied : (v : World) (valid : IsValid v) (xs : List Path) (emptied : IsEmptied nester slot v xs) → IsSecluded nester slot v
      → IsSecluded nester slot (left_world nester slot v valid xs emptied)
  secluded_emptied v valid xs emptied alone =
      secluded_by nester slot _ v (kills_near nester slot v emptied.holding alone (gone nester slot v valid xs emptied)
      (gone_inside nester slot v valid xs emptied)) alone

  destroyed : (xs : List Path) (more port : ℕ) (v : World) → Empty → IsEmptied nester slot v xs → length xs ≡ suc (suc more) → IsSecluded nester slot v
      → Tidied nester slot birth v → IsSound v → IsSound (after v (call_of nester (Destroy OWN_SPACE slot) no_words)) →
      IsReadyAt v (call_of nester (Destroy OWN_SPACE slot) no_words) → Came (after v (call_of nester (Destroy OWN_SPACE slot) no_words)) (Clears [] more port)
  destroyed xs more port v empty emptied many alone tidied sound sound_after ready =
      let valid = sound.whole.valid in
      let is = world nester slot v valid xs emptied ready in
      let valid_after : IsValid (left_world nester slot v valid xs emptied) = subst IsValid is sound_after.whole.valid in
      subst (λ (m : World). Came m (Clears [] more port)) (sym is)
      (Clearing _ more port (left_world nester slot v valid xs emptied) empty (next_emptied nester slot v valid xs emptied valid_after more many)
      (let few = fewer nester slot v valid xs emptied in omega (arith, few, many)) (secluded_emptied v valid xs emptied alone)
      (tidied_emptied nester slot birth v valid xs emptied tidied))

  -- the last is the space itself
  destroyed_last : (xs : List Path) (port : ℕ) (v : World) → Empty → IsEmptied nester slot v xs → length xs ≡ 1 → Tidied nester slot birth v → IsSound v →
      IsReadyAt v (call_of nester (Destroy OWN_SPACE slot) no_words) → Came (after v (call_of nester (Destroy OWN_SPACE slot) no_words)) (Over (NoPort port))
  destroyed_last xs port v empty emptied last tidied sound ready =
      let valid = sound.whole.valid in
      let is = world nester slot v valid xs emptied ready in
      let none = all_gone nester slot v valid xs emptied last in
      subst (λ (m : World). Came m (Over (NoPort port))) (sym is)
      (Missing port (left_world nester slot v valid xs emptied) empty none
      (clean_from nester slot birth (left_world nester slot v valid xs emptied) low (tidied_emptied nester slot birth v valid xs emptied tidied)
      (λ k q scratch. none (k ∷ q)) (no_scratch nester slot v valid xs emptied)))

  -- ---- the release

  -- what has been made has no scratch in it
  pub empty_inside : (v : World) (g : Site) → Shows nester slot g v → g ≡ finished bind c → (k : ℕ) (q : Path) → is_scratch_slot k ≡ true
      → v.body (k ∷ (q ++ root)) ≡ None
  unfolding rebound
  empty_inside v g shows is k q scratch = by (same_path (k ∷ (q ++ root)) (pin_of root)) refl (sym none ∙ shows.like.bodies (k ∷ q))
    where
      none : g.built.body (k ∷ q) ≡ None
      none = let off = unscratched bind c rooms its slot k q scratch in rw (is, off) refl

      pin : PinShows nester slot v NoPin
      pin = subst (λ (p : Pin). PinShows nester slot v p) (ap (λ (g : Site). g.pin) is) shows.pin

      absent : (o : Option Body) → None ≡ option_map (λ b. unheld (k ∷ q) (seen_by (seeing (eye nester slot)) b)) o → o ≡ None
      absent None e = refl
      absent (Some b) e = cc

      by : (t : Bool) → same_path (k ∷ (q ++ root)) (pin_of root) ≡ t
          → None ≡ option_map (λ b. unheld (k ∷ q) (seen_by (seeing (eye nester slot)) b)) (cond t None (v.body (k ∷ (q ++ root))))
          → v.body (k ∷ (q ++ root)) ≡ None
      by true e h = let here = same_path_eq (k ∷ (q ++ root)) (pin_of root) e in rw here pin
      by false e h = absent (v.body (k ∷ (q ++ root))) h

  no_spots : (v : World) (g : Site) → Shows nester slot g v → g ≡ finished bind c → (k : ℕ) → is_scratch nester (k ∷ nester) ≡ true → v.body (k ∷ nester) ≡ None
  no_spots v g shows is k scratch = subst (λ (g : Site). SpotShows nester slot v g.pin k (g.spot k)) is (shows.spots k scratch)

  -- a release changes a holder alone
  released_clean : (v : World) → IsClean v → IsClean (released_world nester slot v)
  unfolding apply
  released_clean v clean s k scratch = by (same_path (k ∷ s) root) (clean s k scratch)
    where
      by : (t : Bool) → v.body (k ∷ s) ≡ None → cond t (option_map (edited (SetHolder None)) (v.body (k ∷ s))) (v.body (k ∷ s)) ≡ None
      by true none = rw none refl
      by false none = none

  released : (g : Site) (u : World) → Empty → Shows nester slot g u → IsSecluded nester slot u → g ≡ finished bind c → Tidied nester slot birth u → IsSound u
      → IsReadyAt u (call_of nester (SpaceRelease OWN_SPACE slot) no_words) →
      Came (after u (call_of nester (SpaceRelease OWN_SPACE slot) no_words)) (Over Done)
  released g u empty shows alone is tidied sound ready =
      let reply = reply_of (said_of u (call_of nester (SpaceRelease OWN_SPACE slot) no_words)) in
      let answered : IsAnswered nester u (SpaceRelease OWN_SPACE slot) no_words reply = record {
        valid = sound.whole.valid;
        few = sound.whole.few;
        ready = ready;
        said = refl;
      } in
      let end = releases nester slot g u reply shows (rw is refl) answered in
      let comes = release_comes_to nester slot u (holding nester slot g u shows) ready in
      let clean = clean_from nester slot birth u low tidied (empty_inside u g shows is) (no_spots u g shows is) in
      Finished _ empty (releases_plain nester slot g u reply shows (rw is refl) alone.unled answered) (end.2 ∙ ap (λ (g : Site). g.built) is) end.1
      (subst IsClean (sym comes.world) (released_clean u clean))

  pub arrives : (u v : World) (s t : State) (es : List Event) → Came u s → (run : Interleaved (restore slot bind rooms) nester u s es v t) → Came v t
  unfolding does_all
  arrives _ _ _ _ _ at (Here u s sound) = at
  arrives _ v _ t _ (Working os g u empty shows alone may suits safe tidied is history) (Another _ _ e es _ _ sound works moves rest) =
      let kept = others nester slot g u e shows moves in
      arrives (after u e) v (Works os) t es (Working os g (after u e) empty kept
      (secluded_others nester slot u e (holding nester slot g u shows) moves alone) may suits safe
      (tidied_others nester slot birth u e moves kept.porter tidied) is history) rest
  arrives _ v _ t _ (Dropping o os port g u empty shows alone left tidied) (Another _ _ e es _ _ sound works moves rest) =
      let kept = others nester slot g u e shows moves in
      arrives (after u e) v (Clears (o ∷ os) (suc (objects rooms)) port) t es
      (Dropping o os port g (after u e) empty kept (secluded_others nester slot u e (holding nester slot g u shows) moves alone) left
      (tidied_others nester slot birth u e moves kept.porter tidied)) rest
  arrives _ v _ t _ (Clearing xs more port u empty emptied many alone tidied) (Another _ _ e es _ _ sound works moves rest) =
      let kept = emptied_others nester slot u e xs emptied moves in
      arrives (after u e) v (Clears [] more port) t es
      (Clearing xs more port (after u e) empty kept many (secluded_others nester slot u e emptied.holding moves alone)
      (tidied_others nester slot birth u e moves kept.holding.porter tidied)) rest
  arrives _ v _ t _ (Finished u empty plain same unheld clean) (Another _ _ e es _ _ sound works moves rest) = let asked = works.2 in cc
  arrives _ v _ t _ (Missing port u empty none clean) (Another _ _ e es _ _ sound works moves rest) = let asked = works.2 in cc
  arrives _ v _ t _ (Taken u there same) (Another _ _ e es _ _ sound works moves rest) = let asked = works.2 in cc
  arrives _ v _ t _ (Finished u empty plain same unheld clean) (Own _ _ stage words es _ _ sound asks ready rest) = cc
  arrives _ v _ t _ (Missing port u empty none clean) (Own _ _ stage words es _ _ sound asks ready rest) = cc
  arrives _ v _ t _ (Taken u there same) (Own _ _ stage words es _ _ sound asks ready rest) = cc
  arrives _ v _ t _ (Dropping o os port g u empty shows alone left tidied) (Own _ _ stage words es _ _ sound asks ready rest) =
      let stages : stage_of slot o ≡ stage = cc in
      let given : words_of o ≡ words = cc in
      let same : call_of nester (stage_of slot o) (words_of o) ≡ call_of nester stage words = rw (stages, given) refl in
      let here = dropped o os port g u empty shows alone left tidied sound (subst (IsReadyAt u) (sym same) ready) in
      arrives (after u (call_of nester stage words)) v (Clears os (suc (objects rooms)) port) t es
      (subst (λ (e : Event). Came (after u e) (Clears os (suc (objects rooms)) port)) same here) rest
  arrives _ v _ t _ (Clearing xs zero port u empty emptied many alone tidied) (Own _ _ stage words es _ _ sound asks ready rest) =
      let stages : Destroy OWN_SPACE slot ≡ stage = cc in
      let given : no_words ≡ words = cc in
      let same : call_of nester (Destroy OWN_SPACE slot) no_words ≡ call_of nester stage words = rw (stages, given) refl in
      let here = destroyed_last xs port u empty emptied many tidied sound (subst (IsReadyAt u) (sym same) ready) in
      arrives (after u (call_of nester stage words)) v (Over (NoPort port)) t es (subst (λ (e : Event). Came (after u e) (Over (NoPort port))) same here) rest
  arrives _ v _ t _ (Clearing xs (suc more) port u empty emptied many alone tidied) (Own _ _ stage words es _ _ sound asks ready rest) =
      let stages : Destroy OWN_SPACE slot ≡ stage = cc in
      let given : no_words ≡ words = cc in
      let same : call_of nester (Destroy OWN_SPACE slot) no_words ≡ call_of nester stage words = rw (stages, given) refl in
      let after_sound : IsSound (after u (call_of nester stage words)) = first_sound (restore slot bind rooms) nester (after u (call_of nester stage words))
      (Clears [] more port) es v t rest in
      let here = destroyed xs more port u empty emptied many alone tidied sound (subst (λ (e : Event). IsSound (after u e)) (sym same) after_sound)
      (subst (IsReadyAt u) (sym same) ready) in
      arrives (after u (call_of nester stage words)) v (Clears [] more port) t es (subst (λ (e : Event). Came (after u e) (Clears [] more port)) same here) rest
  arrives _ v _ t _ (Working [] g u empty shows alone may suits safe tidied is history) (Own _ _ stage words es _ _ sound asks ready rest) =
      let stages : SpaceRelease OWN_SPACE slot ≡ stage = cc in
      let given : no_words ≡ words = cc in
      let same : call_of nester (SpaceRelease OWN_SPACE slot) no_words ≡ call_of nester stage words = rw (stages, given) refl in
      let here = released g u empty shows alone is tidied sound (subst (IsReadyAt u) (sym same) ready) in
      arrives (after u (call_of nester stage words)) v (Over Done) t es (subst (λ (e : Event). Came (after u e) (Over Done)) same here) rest
  arrives _ v _ t _ (Working (o ∷ os) g u empty shows alone may suits safe tidied is history) (Own _ _ stage words es _ _ sound asks ready rest) =
      let stages : stage_of slot o ≡ stage = cc in
      let given : words_of o ≡ words = cc in
      arrives (after u (call_of nester stage words)) v (heard (restore slot bind rooms) (Works (o ∷ os)) (said_of u (call_of nester stage words))) t es
      (stands stages given ready) rest
    where
      stands : stage_of slot o ≡ stage → words_of o ≡ words → IsReadyAt u (call_of nester stage words) →
          Came (after u (call_of nester stage words)) (heard (restore slot bind rooms) (Works (o ∷ os)) (said_of u (call_of nester stage words)))
      stands stages given ready =
          let mine : IsReadyAt u (call_of nester (stage_of slot o) (words_of o)) = rw (stages, given) ready in
          let call = own_call nester slot g u o shows may.0 sound mine in
          let end : World = after u (call_of nester (stage_of slot o) (words_of o)) in
          let same : call_of nester (stage_of slot o) (words_of o) ≡ call_of nester stage words = rw (stages, given) refl in
          let answered : IsAnswered nester u (stage_of slot o)
          (words_of o) call.reply = record { valid = sound.whole.valid; few = sound.whole.few; ready = mine; said = ap reply_of call.said } in
          let near = own_calls_are_near nester slot g u o call.reply shows may.0 answered in
          let still = secluded_near nester slot u (call_of nester (stage_of slot o) (words_of o)) near alone in
          let tidy = tidied_near nester slot birth u (call_of nester (stage_of slot o) (words_of o)) near tidied in
          let there : Came end (heard (restore slot bind rooms) (Works (o ∷ os)) (Answered call.reply.status call.reply.words)) =
          after_own g end o os call.reply.status call.reply.words (passes o call.reply.status call.reply.words) refl empty call.its.fails_well call.its.shown
          (refused_shows nester slot g u shows o call.reply may.0 answered) still may.0 safe.0 tidy may.1 suits.1 safe.1 is
          (history_on all_pins o os g history) in
          let told = subst (λ (said : Said). Came end (heard (restore slot bind rooms) (Works (o ∷ os)) said)) (sym call.said) there in
          subst (λ (e : Event). Came (after u e) (heard (restore slot bind rooms) (Works (o ∷ os)) (said_of u e))) same told

  -- ---- what is known of it while it works

  pub record InWork (os : List Order) (v : World) : Type 0 where
    pub site : Site
    pub shows : Shows nester slot site v
    pub may : MayAll slot os site
    pub safe : SafeAll IsAskedHere os site
    pub history : History all_pins os site

  pub in_work : (v : World) (s : State) (os : List Order) → Came v s → s ≡ Works os → InWork os v
  in_work _ _ os (Working ps g v empty shows alone may suits safe tidied is history) e =
      let same : ps ≡ os = cc in
      record {
        site = g;
        shows = shows;
        may = subst (λ (qs : List Order). MayAll slot qs g) same may;
        safe = subst (λ (qs : List Order). SafeAll IsAskedHere qs g) same safe;
        history = subst (λ (qs : List Order). History all_pins qs g) same history;
      }
  in_work _ _ os (Dropping o ps port g v empty shows alone left tidied) e = cc
  in_work _ _ os (Clearing xs more port v empty emptied many alone tidied) e = cc
  in_work _ _ os (Finished v empty plain same unheld clean) e = cc
  in_work _ _ os (Missing port v empty none clean) e = cc
  in_work _ _ os (Taken v there same) e = cc

  -- scratch alone is dropped
  pub in_drops : (v : World) (s : State) (o : Order) (os : List Order) (more port : ℕ) → Came v s → s ≡ Clears (o ∷ os) more port → AreDrops (o ∷ os)
  in_drops _ _ o os more port (Working ps g v empty shows alone may suits safe tidied is history) e = cc
  in_drops _ _ o os more port (Dropping p ps port2 g v empty shows alone left tidied) e =
      let one : p ≡ o = cc in
      let two : ps ≡ os = cc in
      subst (λ (q : Order). AreDrops (q ∷ os)) one (subst (λ (qs : List Order). AreDrops (p ∷ qs)) two left.drop)
  in_drops _ _ o os more port (Clearing xs more2 port2 v empty emptied many alone tidied) e = cc
  in_drops _ _ o os more port (Finished v empty plain same unheld clean) e = cc
  in_drops _ _ o os more port (Missing port2 v empty none clean) e = cc
  in_drops _ _ o os more port (Taken v there same) e = cc

  -- ---- its first call

  pub from_first : (v : World) (t : State) (es : List Event) → IsReadyAt w (call_of nester (SpaceMakeHeld slot) no_words) →
      Interleaved (restore slot bind rooms) nester (after w (call_of nester (SpaceMakeHeld slot) no_words))
      (heard (restore slot bind rooms) Begins (said_of w (call_of nester (SpaceMakeHeld slot) no_words))) es v t → Came v t
  from_first v t es ready run = by (begins nester slot w reply low (λ k scratch. may_begin.clean nester k scratch) answered)
    where
      reply : Reply
      reply = reply_of (said_of w (call_of nester (SpaceMakeHeld slot) no_words))

      answered : IsAnswered nester w (SpaceMakeHeld slot) no_words reply
      answered = record { valid = may_begin.sound.whole.valid; few = may_begin.sound.whole.few; ready = ready; said = refl }

      from : (s : State) → heard (restore slot bind rooms) Begins (said_of w (call_of nester (SpaceMakeHeld slot) no_words)) ≡ s
          → Came (after w (call_of nester (SpaceMakeHeld slot) no_words)) s → Came v t
      from s e at = arrives (after w (call_of nester (SpaceMakeHeld slot) no_words)) v s t es at
          (subst (λ (s : State). Interleaved (restore slot bind rooms) nester (after w (call_of nester (SpaceMakeHeld slot) no_words)) s es v t) e run)

      by : ((w.body root ≡ None) × (reply.status ≡ OK) × Shows nester slot first (after w (call_of nester (SpaceMakeHeld slot) no_words))) ⊎
          (IsSome (w.body root) × (reply.status ≡ OCCUPIED) × (after w (call_of nester (SpaceMakeHeld slot) no_words) ≡ w)) → Came v t
      by (inl made) =
          let both = script_makes slot bind c rooms its in
          let goes = goes_by nester w (SpaceMakeHeld slot) no_words reply answered (MakeSpace root (Some (At (LAST_PORTER_SLOT ∷ nester))) ∷ []) OK []
          (make-row nester slot w reply low answered ∙ ap (made_as nester slot w reply low answered) made.0) in
          let near : IsNearCall nester slot w (call_of nester (SpaceMakeHeld slot) no_words) = record {
            changes = MakeSpace root
                (Some (At (LAST_PORTER_SLOT ∷ nester))) ∷ [];
            world = goes.0;
            near = (inside_near nester slot [], tt);
          } in
          let alone = secluded_first nester slot w (call_of nester (SpaceMakeHeld slot) no_words) near
          (none_beneath nester slot w reply low answered answered.valid made.0) (new_space_is_unled nester slot w reply low made.0 answered) in
          let tidied = tidied_near nester slot birth w (call_of nester (SpaceMakeHeld slot) no_words) near (tidied_first nester slot birth w may_begin) in
          from (Works (script slot bind rooms)) (ap (λ (status : ℕ). cond (status == OK) (Works (script slot bind rooms)) (Over Occupied)) made.1)
          (Working (script slot bind rooms) first _ made.0 made.2 alone both.0 (script_suits slot bind c rooms its)
          (script_safe slot bind c rooms its) tidied both.1 (history_begins slot bind c rooms its))
      by (inr taken) =
          from (Over Occupied) (ap (λ (status : ℕ). cond (status == OK) (Works (script slot bind rooms)) (Over Occupied)) taken.1) (Taken _ taken.0 taken.2)

  pub came : (v : World) (t : State) → AtWork (restore slot bind rooms) nester w Begins v t → Came v t
  came v t work =
      let asked = work.asked in
      let one : work.stage ≡ SpaceMakeHeld slot = cc in
      let two : work.words ≡ no_words = cc in
      let is : call_of nester work.stage work.words ≡ call_of nester (SpaceMakeHeld slot) no_words = λ i. call_of nester (one i) (two i) in
      from_first v t work.events (subst (IsReadyAt w) is work.ready)
      (subst (λ (e : Event). Interleaved (restore slot bind rooms) nester (after w e)
      (heard (restore slot bind rooms) Begins (said_of w e)) work.events v t) is work.run)

  pub ended : (v : World) (t : State) (end : End) → Came v t → head slot t ≡ Stops end → EndsSo w v nester slot bind c end
  ended _ _ end (Working [] g v empty shows alone may suits safe tidied is history) stops = cc
  ended _ _ end (Working (o ∷ os) g v empty shows alone may suits safe tidied is history) stops = cc
  ended _ _ end (Dropping o os port g v empty shows alone left tidied) stops = cc
  ended _ _ end (Clearing xs more port v empty emptied many alone tidied) stops = cc
  ended _ _ end (Finished v empty plain same unheld clean) stops = let is : Done ≡ end = cc in subst (EndsSo w v nester slot bind c) is (empty, same, unheld)
  ended _ _ end (Missing port v empty none clean) stops = let is : NoPort port ≡ end = cc in subst (EndsSo w v nester slot bind c) is (empty, none)
  ended _ _ end (Taken v there same) stops = let is : Occupied ≡ end = cc in subst (EndsSo w v nester slot bind c) is (there, same)

pub ends_so : RestoreEndsSo
ends_so slot birth bind c rooms w v nester t end low its may work stops = ended slot birth bind c rooms w nester low its may v t end
    (came slot birth bind c rooms w nester low its may v t work) stops

plain_end : (slot birth : ℕ) (bind : ℕ → ℕ) (c : World) (rooms : List Room) (w : World) (nester : Path) (low : slot ≤ LAST_USER_SLOT)
    (its : IsRoomed bind c rooms) (may : MayBegin w nester birth) (v : World) (t : State) (end : End) →
    Came slot birth bind c rooms w nester low its may v t → head slot t ≡ Stops end → is_done end ≡ true
    → IsPlain v nester slot × (cut v nester slot ≡ rebound bind c)
plain_end slot birth bind c rooms w nester low its may _ _ end (Working [] g v empty shows alone may_all suits safe tidied is history) stops done = cc
plain_end slot birth bind c rooms w nester low its may _ _ end (Working (o ∷ os) g v empty shows alone may_all suits safe tidied is history) stops done = cc
plain_end slot birth bind c rooms w nester low its may _ _ end (Dropping o os port g v empty shows alone left tidied) stops done = cc
plain_end slot birth bind c rooms w nester low its may _ _ end (Clearing xs more port v empty emptied many alone tidied) stops done = cc
plain_end slot birth bind c rooms w nester low its may _ _ end (Finished v empty plain same unheld clean) stops done = (plain, same)
plain_end slot birth bind c rooms w nester low its may _ _ end (Missing port v empty none clean) stops done = let is : NoPort port ≡ end = cc in
    let off : is_done end ≡ false = rw (← is) refl in let clash = sym done ∙ off in cc
plain_end slot birth bind c rooms w nester low its may _ _ end (Taken v there same) stops done = let is : Occupied ≡ end = cc in
    let off : is_done end ≡ false = rw (← is) refl in let clash = sym done ∙ off in cc

pub restores : RestoreRestores
restores slot birth bind c rooms w nester low its = record {
  gives = λ v t end may work stops done. plain_end slot birth bind c rooms w nester low its may v t end
      (came slot birth bind c rooms w nester low its may v t work) stops done;
}
