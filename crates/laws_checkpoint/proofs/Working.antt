-- A checkpoint over every interleaving, from its hold to its release.
use Rattle.std.proofs.Common.{◌≡◌, ℕ, ◌≤◌, arith, true, IsSome, List, [], ◌∷◌, map, Option, Some, None, refl, sym, ap, subst, ◌∙◌, inl, inr}
use Rattle.fk_model.specs.declared.limits.TheConstants.{OWN_SPACE, LAST_USER_SLOT, LAST_PORTER_SLOT}
use Rattle.fk_model.specs.declared.moves.Ask.TheVariants as asks
use Rattle.fk_model.specs.declared.names.Kind.TheVariants as kinds
use Rattle.fk_model.specs.declared.stage.Stage.{Stage}
use Rattle.fk_model.specs.declared.stage.Stage.TheVariants.{Create, Destroy, SpaceRelease}
use Rattle.fk_model.specs.declared.statuses.status.TheConstants.{OK}
use Rattle.fk_model.specs.Places.{Path, Ptr}
use Rattle.fk_model.specs.Places.Ptr.{Null}
use Rattle.fk_model.specs.Objects.{number_of_kind}
use Rattle.fk_model.specs.Objects.Body.{Reference}
use Rattle.fk_model.specs.World.{World, apply}
use Rattle.fk_model.specs.World.Change.{Alter, Make, Kill}
use Rattle.fk_model.specs.World.Edit.{SetHolder}
use Rattle.fk_model.specs.Searches.{objects, depth}
use Rattle.fk_model.specs.Holds.{holder_of}
use Rattle.fk_model.specs.Outcomes.Outcome.{Goes}
use Rattle.fk_model.specs.Outcomes.Said.{Answered}
use Rattle.fk_model.specs.Moves.{call_row}
use Rattle.fk_model.specs.Runs.{Event, after}
use Rattle.fk_model.specs.Valid.{IsValid, is_fit, kind_there}
use Rattle.fk_model.specs.Closed.{Place, open_place, far_field}
use Rattle.fk_model.specs.Cut.{cut}
use Rattle.fk_model.proofs.walks.PlaceLaws.{same_path_ne}
use Rattle.fk_model.proofs.walks.Members.{IsIn}
use Rattle.laws_moves.specs.Frozen.Holding.{IsHolding, IsUsersMove}
use Rattle.laws_moves.proofs.InFrozen.Holding.{others_keep_hold}
use Rattle.laws_moves.proofs.InFrozen.FrozenCut.{same-cut}
use Rattle.laws_moves.specs.Savable.Savable.{IsSound}
use Rattle.laws_moves.proofs.InMachine.validity.Steps.{step_keeps_valid_lem}
use Rattle.laws_jobs.specs.Machines.{Head, Reply, reply_of, heard, said_of, porter, no_words, call_of, IsAtCall, IsAnswered, Interleaved}
use Rattle.laws_jobs.specs.Machines.Head.{Stops, Asks}
use Rattle.laws_jobs.specs.Machines.Interleaved.{Here, Another, Own}
use Rattle.laws_jobs.specs.Jobs.{MayBegin}
use Rattle.laws_jobs.specs.Leads.{held_world}
use Rattle.laws_jobs.specs.Holds.{Held}
use Rattle.laws_jobs.proofs.Weaving.{first_sound}
use Rattle.laws_jobs.proofs.Goings.{goes_by, one_change}
use Rattle.laws_jobs.proofs.Holds.{release-row, unheld_root, same_cut as released_cut}
use Rattle.laws_checkpoint.specs.Foreign.{PLACES, TARGETS, STEPS, IsScratched, Task, task_of}
use Rattle.laws_checkpoint.specs.Foreign as seeks
use Rattle.laws_checkpoint.specs.Walk.{Met, met}
use Rattle.laws_checkpoint.specs.Walk as walks
use Rattle.laws_checkpoint.specs.Contents.{Content, content}
use Rattle.laws_checkpoint.specs.Contents as reads
use Rattle.laws_checkpoint.specs.Gather.{shown_at, all_pointers}
use Rattle.laws_checkpoint.specs.Gather as gathers
use Rattle.laws_checkpoint.specs.Assembly.{spaces_met, sought_tasks, gathered_tasks, assembled}
use Rattle.laws_checkpoint.specs.Narrow.{narrowed}
use Rattle.laws_checkpoint.specs.Checkpoint.{End, State, asks_as, ends_as, gathers_on, gathering, reads_on, reading, sought, seeks_on, seeking, walks_on}
use Rattle.laws_checkpoint.specs.Checkpoint.{walking, head, next, checkpoint}
use Rattle.laws_checkpoint.specs.Checkpoint.End.{Gone, Foreign, Done}
use Rattle.laws_checkpoint.specs.Checkpoint.State.{Readies, Walks, Seeks, Reads, Gathers, Drops, Releases, Over}
use Rattle.laws_checkpoint.proofs.Mild.{IsOwnSlot, ComesWith}
use Rattle.laws_checkpoint.proofs.Mild.IsOwnSlot.{Places, Targets, Steps}
use Rattle.laws_checkpoint.proofs.Tells.{root_kind}
use Rattle.laws_checkpoint.proofs.Seeks as seeking_on
use Rattle.laws_checkpoint.proofs.Seeks.{Base, rests}
use Rattle.laws_checkpoint.proofs.Sought.{root_is, all_tasks, preorder, preorder_live, rests_are}
use Rattle.laws_checkpoint.proofs.Walks as walking_on
use Rattle.laws_checkpoint.proofs.Walks.{kind_seen}
use Rattle.laws_checkpoint.proofs.Contents as reading_on
use Rattle.laws_checkpoint.proofs.Gathers as gathering_on
use Rattle.laws_checkpoint.proofs.Tasks.{sought_are, spaces_are, gathered_ok}
use Rattle.laws_checkpoint.proofs.Phases.{own_scratch, Tidy, tidy_empty, tidy_others, tidy_mild, tidy_made, tidy_dropped, tidy_held, Held_on, held_others}
use Rattle.laws_checkpoint.proofs.Phases.{make-row, held_made, made_there, made_other, drop-row, held_dropped, dropped_other, base_of, held_of}

pub asks_back : {A : Type 0} (h : Head A) (stage : Stage) (words : List ℕ) → asks_as h ≡ Asks stage words → h ≡ Asks stage words
asks_back (Asks st ws) stage words e = let one : st ≡ stage = cc in let two : ws ≡ words = cc in λ i. Asks (one i) (two i)
asks_back (Stops end) stage words e = cc

pub no_stop : {A : Type 0} (P : Type 0) (h : Head A) (stage : Stage) (words : List ℕ) (end : End) → h ≡ Asks stage words → asks_as h ≡ Stops end → P
no_stop P (Asks st ws) stage words end e stops = cc
no_stop P (Stops a) stage words end e stops = cc

-- ---- the three slots differ

places_targets : PLACES ≡ TARGETS → ⊥
places_targets e = omega (arith, e)

targets_places : TARGETS ≡ PLACES → ⊥
targets_places e = omega (arith, e)

places_steps : PLACES ≡ STEPS → ⊥
places_steps e = omega (arith, e)

targets_steps : TARGETS ≡ STEPS → ⊥
targets_steps e = omega (arith, e)

pub fresh_targets : IsIn TARGETS (PLACES ∷ []) → ⊥
fresh_targets (inl e) = places_targets e
fresh_targets (inr h) = h

pub fresh_steps : IsIn STEPS (TARGETS ∷ PLACES ∷ []) → ⊥
fresh_steps (inl e) = targets_steps e
fresh_steps (inr (inl e)) = places_steps e
fresh_steps (inr (inr h)) = h

module _ (nester : Path) (slot birth : ℕ) (low : slot ≤ LAST_USER_SLOT) (w : World) (may : MayBegin w nester birth) (held : Held nester slot w)
    (sound : IsSound (held_world nester slot w)) where
  abbrev root : Path
  root = slot ∷ nester

  abbrev me : Path
  me = LAST_PORTER_SLOT ∷ nester

  abbrev start : World
  start = held_world nester slot w

  abbrev c : World
  c = cut start nester slot

  pub near : far_field (c.body []) ≡ None
  near = (root_is nester slot start held.holding sound.whole.valid).0

  pub root_there : IsSome (c.body [])
  root_there = (root_is nester slot start held.holding sound.whole.valid).1

  pub valid_start : IsValid start
  valid_start = sound.whole.valid

  pub few_start : start.next ≤ depth
  few_start = sound.whole.few

  pub root_space : kind_there c [] ≡ Some kinds.Space
  unfolding kind_there
  root_space = kind_seen nester slot start near valid_start few_start [] ∙ root_kind nester slot start held.holding valid_start

  abbrev pub mets : List Met
  mets = map (met c) (objects c)

  abbrev pub spaces : List Path
  spaces = spaces_met mets

  abbrev pub contents : List Content
  contents = map (content c) spaces

  abbrev pub pointers : List Ptr
  pointers = all_pointers (shown_at start nester slot) (gathered_tasks contents)

  -- how it may end
  abbrev pub Verdict : End → Type 0
  Verdict Gone = ⊥
  Verdict (Foreign place) = open_place w nester slot ≡ Some place
  Verdict (Done image) = (open_place w nester slot ≡ None) × (image ≡ narrowed (assembled contents pointers))

  abbrev pub Ref : World → ℕ → Type 0
  Ref v r = (p : Ptr) × (v.body (r ∷ nester) ≡ Some (Reference p))

  abbrev pub Held_now : World → Type 0
  Held_now v = Held_on nester slot birth start v

  abbrev pub Tidy_now : World → List ℕ → Type 0
  Tidy_now v made = Tidy nester slot birth v made

  abbrev pub three : List ℕ
  three = STEPS ∷ TARGETS ∷ PLACES ∷ []

  abbrev pub Asking : {A : Type 0} → Head A → Type 0
  Asking h = (stage : Stage) × (words : List ℕ) × (h ≡ Asks stage words)

  pub data Phase (v : World) : State → Type 0 where
    AtFirst : Held_now v → Tidy_now v [] → Phase v (Readies PLACES (TARGETS ∷ STEPS ∷ []))
    AtSecond : Held_now v → Ref v PLACES → Tidy_now v (PLACES ∷ []) → Phase v (Readies TARGETS (STEPS ∷ []))
    AtThird : Held_now v → Ref v PLACES → Ref v TARGETS → Tidy_now v (TARGETS ∷ PLACES ∷ []) → Phase v (Readies STEPS [])
    AtWalks : (s : walks.State) → walking_on.Stands nester slot start near valid_start few_start v s mets → Asking (walks.head slot s) → Tidy_now v three
        → Phase v (Walks s)
    AtSeeks : (s : seeks.State) → seeking_on.Stands nester slot start near v s (open_place w nester slot) → Asking (seeks.head slot s) → Tidy_now v three
        → Phase v (Seeks mets s)
    AtReads : (s : reads.State) → open_place w nester slot ≡ None → reading_on.Stands nester slot start near valid_start few_start v s contents
        → Asking (reads.head slot s) → Tidy_now v three → Phase v (Reads s)
    AtGathers : (s : gathers.State) → open_place w nester slot ≡ None → gathering_on.Stands nester slot start near v s pointers → Asking (gathers.head slot s)
        → Tidy_now v three → Phase v (Gathers contents s)
    AtDrops : (end : End) → Verdict end → Held_now v → IsScratched nester v → Tidy_now v three → Phase v (Drops STEPS (TARGETS ∷ PLACES ∷ []) end)
    AtTwoLeft : (end : End) → Verdict end → Held_now v → Ref v TARGETS → Ref v PLACES → Tidy_now v (TARGETS ∷ PLACES ∷ [])
        → Phase v (Drops TARGETS (PLACES ∷ []) end)
    AtOneLeft : (end : End) → Verdict end → Held_now v → Ref v PLACES → Tidy_now v (PLACES ∷ []) → Phase v (Drops PLACES [] end)
    AtReleases : (end : End) → Verdict end → Held_now v → Tidy_now v [] → Phase v (Releases end)
    AtOver : (end : End) → Verdict end → cut v nester slot ≡ c → holder_of (v.body root) ≡ None → Tidy_now v [] → Phase v (Over end)

  -- ---- from part to part

  dropping : (v : World) (end : End) → Verdict end → Base nester slot start near v → Tidy_now v three → Phase v (ends_as end)
  dropping v end verdict base tidy = AtDrops end verdict (held_of nester slot birth start near v base) base.scratched tidy

  from_gathers : (v : World) (s : gathers.State) → open_place w nester slot ≡ None → gathering_on.Stands nester slot start near v s pointers
      → Tidy_now v three → Phase v (gathering slot contents s)
  from_gathers v s closed its tidy = by (gathers.head slot s) refl
    where
      by : (h : Head (List Ptr)) → gathers.head slot s ≡ h → Phase v (gathers_on contents s h)
      by (Asks stage words) e = AtGathers s closed its (stage, words, e) tidy
      by (Stops ps) e =
          let same = gathering_on.finds nester slot start near v s ps pointers its e in
          dropping v (Done (narrowed (assembled contents ps))) (closed, ap (λ (qs : List Ptr). narrowed (assembled contents qs)) same) its.base tidy

  from_reads : (v : World) (s : reads.State) → open_place w nester slot ≡ None → reading_on.Stands nester slot start near valid_start few_start v s contents
      → Tidy_now v three → Phase v (reading slot s)
  from_reads v s closed its tidy = by (reads.head slot s) refl
    where
      by : (h : Head (List Content)) → reads.head slot s ≡ h → Phase v (reads_on slot s h)
      by (Asks stage words) e = AtReads s closed its (stage, words, e) tidy
      by (Stops got) e =
          let same = reading_on.finds nester slot start near valid_start few_start v s got contents its e in
          subst (λ (cs : List Content). Phase v (gathering slot cs (gathers.begin slot (gathered_tasks cs) []))) (sym same)
          (from_gathers v (gathers.begin slot (gathered_tasks contents) []) closed
          (gathering_on.begins nester slot start near v (gathered_tasks contents) [] its.base its.base.scratched.steps
          (gathered_ok nester slot start near root_space)) tidy)

  from_seeks : (v : World) (s : seeks.State) → seeking_on.Stands nester slot start near v s (open_place w nester slot) → Tidy_now v three
      → Phase v (seeking slot mets s)
  from_seeks v s its tidy = by (seeks.head slot s) refl
    where
      ended : (place : Option Place) → place ≡ open_place w nester slot → Phase v (sought slot mets place)
      ended (Some place) e = dropping v (Foreign place) (sym e) its.base tidy
      ended None e =
          from_reads v (reads.begin slot spaces []) (sym e)
          (reading_on.begins nester slot start near valid_start few_start v spaces [] its.base
          (reading_on.spaces_of nester slot start near valid_start few_start spaces (λ q is. spaces_are c root_space q is))) tidy

      by : (h : Head (Option Place)) → seeks.head slot s ≡ h → Phase v (seeks_on slot mets s h)
      by (Asks stage words) e = AtSeeks s its (stage, words, e) tidy
      by (Stops place) e = ended place (seeking_on.finds nester slot start near v s place (open_place w nester slot) its e)

  pub begins_seeking : (v : World) → Base nester slot start near v
      → seeking_on.Stands nester slot start near v (seeks.begin slot (sought_tasks mets)) (open_place w nester slot)
  unfolding open_place Rattle.laws_checkpoint.proofs.Seeks.led
  begins_seeking v base =
      let tasks : List Task = map (task_of c) (preorder start nester slot) in
      let first = seeking_on.begins nester slot start near v tasks base
      (all_tasks nester slot start near (preorder start nester slot) (preorder_live start nester slot root_there)) in
      subst (λ (ts : List Task). seeking_on.Stands nester slot start near v (seeks.begin slot ts) (open_place w nester slot)) (sym (sought_are c))
      (subst (λ (o : Option Place). seeking_on.Stands nester slot start near v (seeks.begin slot tasks) o) (rests_are nester slot start near
      ∙ held.place) first)

  from_walks : (v : World) (s : walks.State) → walking_on.Stands nester slot start near valid_start few_start v s mets → Tidy_now v three
      → Phase v (walking slot s)
  from_walks v s its tidy = by (walks.head slot s) refl
    where
      by : (h : Head (List Met)) → walks.head slot s ≡ h → Phase v (walks_on slot s h)
      by (Asks stage words) e = AtWalks s its (stage, words, e) tidy
      by (Stops got) e =
          let same = walking_on.finds nester slot start near valid_start few_start v s got mets its e in
          subst (λ (ms : List Met). Phase v (seeking slot ms (seeks.begin slot (sought_tasks ms)))) (sym same)
          (from_seeks v (seeks.begin slot (sought_tasks mets)) (begins_seeking v its.base) tidy)

  -- ---- others

  ref_others : (v : World) (e : Event) (r : ℕ) → IsUsersMove nester v e → IsHolding nester slot v → IsOwnSlot r → Ref v r → Ref (after v e) r
  ref_others v e r moves holding own ref = (ref.0, (others_keep_hold nester slot v e holding moves).around.scratch r (own_scratch nester r own) ∙ ref.1)

  pub others : (v : World) (e : Event) (s : State) → IsUsersMove nester v e → (after v e).next ≤ depth → IsAtCall (checkpoint slot) s → Phase v s
      → Phase (after v e) s
  others v e _ moves few works (AtFirst its tidy) =
      let later = held_others nester slot birth start v e moves few its in
      AtFirst later (tidy_others nester slot birth v e [] moves later.holding.porter tidy)
  others v e _ moves few works (AtSecond its places tidy) =
      let later = held_others nester slot birth start v e moves few its in
      AtSecond later (ref_others v e PLACES moves its.holding Places places) (tidy_others nester slot birth v e (PLACES ∷ []) moves later.holding.porter tidy)
  others v e _ moves few works (AtThird its places targets tidy) =
      let later = held_others nester slot birth start v e moves few its in
      AtThird later (ref_others v e PLACES moves its.holding Places places) (ref_others v e TARGETS moves its.holding Targets targets)
      (tidy_others nester slot birth v e (TARGETS ∷ PLACES ∷ []) moves later.holding.porter tidy)
  others v e _ moves few works (AtWalks s its asking tidy) =
      let later = walking_on.others nester slot start near valid_start few_start v e s mets moves few its in
      AtWalks s later asking (tidy_others nester slot birth v e three moves later.base.holding.porter tidy)
  others v e _ moves few works (AtSeeks s its asking tidy) =
      let later = seeking_on.others nester slot start near v e s (open_place w nester slot) moves few its in
      AtSeeks s later asking (tidy_others nester slot birth v e three moves later.base.holding.porter tidy)
  others v e _ moves few works (AtReads s closed its asking tidy) =
      let later = reading_on.others nester slot start near valid_start few_start v e s contents moves few its in
      AtReads s closed later asking (tidy_others nester slot birth v e three moves later.base.holding.porter tidy)
  others v e _ moves few works (AtGathers s closed its asking tidy) =
      let later = gathering_on.others nester slot start near v e s pointers moves few its in
      AtGathers s closed later asking (tidy_others nester slot birth v e three moves later.base.holding.porter tidy)
  others v e _ moves few works (AtDrops end verdict its scratched tidy) =
      let later = held_others nester slot birth start v e moves few its in
      AtDrops end verdict later (record {
        places = ref_others v e PLACES moves its.holding Places scratched.places;
        targets = ref_others v e TARGETS moves its.holding Targets scratched.targets;
        steps = ref_others v e STEPS moves its.holding Steps scratched.steps;
      }) (tidy_others nester slot birth v e three moves later.holding.porter tidy)
  others v e _ moves few works (AtTwoLeft end verdict its targets places tidy) =
      let later = held_others nester slot birth start v e moves few its in
      AtTwoLeft end verdict later (ref_others v e TARGETS moves its.holding Targets targets) (ref_others v e PLACES moves its.holding Places places)
      (tidy_others nester slot birth v e (TARGETS ∷ PLACES ∷ []) moves later.holding.porter tidy)
  others v e _ moves few works (AtOneLeft end verdict its places tidy) =
      let later = held_others nester slot birth start v e moves few its in
      AtOneLeft end verdict later (ref_others v e PLACES moves its.holding Places places)
      (tidy_others nester slot birth v e (PLACES ∷ []) moves later.holding.porter tidy)
  others v e _ moves few works (AtReleases end verdict its tidy) =
      let later = held_others nester slot birth start v e moves few its in
      AtReleases end verdict later (tidy_others nester slot birth v e [] moves later.holding.porter tidy)
  others v e _ moves few works (AtOver end verdict same unheld tidy) = let its = works.2 in cc

  -- ---- its own calls

  abbrev asking : Stage → List ℕ → Head End
  asking stage words = Asks stage words

  asked : (stage other : Stage) (words given : List ℕ) → asking stage words ≡ Asks other given → (P : Stage → List ℕ → Type 0) → P stage words → P other given
  asked stage other words given e P p =
      let stages : stage ≡ other = cc in
      let same : words ≡ given = cc in
      subst (λ (ws : List ℕ). P other ws) same (subst (λ (st : Stage). P st words) stages p)

  not_in : (k : ℕ) → IsIn k [] → ⊥
  not_in k h = h

  -- what a working part's call leaves
  mild_tidy : (v : World) (stage : Stage) (words : List ℕ) (reply : Reply) (made : List ℕ) → IsAnswered nester v stage words reply
      → ComesWith nester v stage words → Tidy_now v made →
      Tidy_now (after v (call_of nester stage words)) made
  mild_tidy v stage words reply made answered comes tidy =
      let row = subst (λ (ws : List ℕ). call_row v (porter nester ws) None stage ≡ Goes comes.1.changes (Answered comes.1.status comes.1.given))
      (sym comes.0) comes.1.row in
      let goes = goes_by nester v stage words reply answered comes.1.changes comes.1.status comes.1.given row in
      subst (λ (u : World). Tidy_now u made) (sym goes.0) (tidy_mild nester slot birth v comes.1.changes made comes.1.mild tidy)

  module _ (v : World) (valid : IsValid v) (few : v.next ≤ depth) where
    valid_after : (stage : Stage) → is_fit v me (asks.Call stage no_words) ≡ true → IsValid (after v (call_of nester stage no_words))
    valid_after stage fit = step_keeps_valid_lem v me None (asks.Call stage no_words) valid few fit

    -- a reference is made
    record MadeNow (r : ℕ) (made : List ℕ) : Type 0 where
      world : after v (call_of nester (Create OWN_SPACE r (number_of_kind kinds.Reference)) no_words) ≡ apply (Make (r ∷ nester) (Reference Null)) v
      held_on : Held_now (apply (Make (r ∷ nester) (Reference Null)) v)
      tidy : Tidy_now (apply (Make (r ∷ nester) (Reference Null)) v) (r ∷ made)

    makes : (r : ℕ) (made : List ℕ) (reply : Reply) → IsOwnSlot r → (IsIn r made → ⊥) → Held_now v → Tidy_now v made →
        IsAnswered nester v (Create OWN_SPACE r (number_of_kind kinds.Reference)) no_words reply → MadeNow r made
    unfolding is_fit
    makes r made reply own fresh its tidy answered =
        let empty = tidy_empty nester slot birth v made r tidy (own_scratch nester r own) fresh in
        let goes = one_change nester v (Create OWN_SPACE r (number_of_kind kinds.Reference)) no_words reply answered
        (Make (r ∷ nester) (Reference Null)) OK [] (make-row nester slot birth start v r its own empty) in
        let after_valid : IsValid (apply (Make (r ∷ nester) (Reference Null)) v) = subst IsValid goes.0
        (valid_after (Create OWN_SPACE r (number_of_kind kinds.Reference)) refl) in
        record {
          world = goes.0;
          held_on = held_made nester slot birth start v r its own valid few after_valid;
          tidy = tidy_made nester slot birth v made r tidy;
        }

    ref_made : (r k : ℕ) → Held_now v → IsOwnSlot r → (k ≡ r → ⊥) → Ref v k → Ref (apply (Make (r ∷ nester) (Reference Null)) v) k
    ref_made r k its own other ref = (
      ref.0,
      made_other nester slot birth start v r its own valid few (k ∷ nester)
          (same_path_ne (k ∷ nester) (r ∷ nester) (λ e. other (let same : k ≡ r = cc in same))) ∙ ref.1,
    )

    -- a reference is dropped
    record DroppedNow (r : ℕ) (made : List ℕ) : Type 0 where
      world : after v (call_of nester (Destroy OWN_SPACE r) no_words) ≡ apply (Kill (r ∷ nester)) v
      held_on : Held_now (apply (Kill (r ∷ nester)) v)
      tidy : Tidy_now (apply (Kill (r ∷ nester)) v) made
      others_stay : (k : ℕ) → (k ≡ r → ⊥) → Ref v k → Ref (apply (Kill (r ∷ nester)) v) k

    drops : (r : ℕ) (made : List ℕ) (reply : Reply) → IsOwnSlot r → Ref v r → Held_now v → Tidy_now v (r ∷ made)
        → IsAnswered nester v (Destroy OWN_SPACE r) no_words reply → DroppedNow r made
    unfolding is_fit apply
    drops r made reply own ref its tidy answered =
        let goes = one_change nester v (Destroy OWN_SPACE r) no_words reply answered (Kill (r ∷ nester)) OK []
        (drop-row nester slot birth start v r its own valid few ref.0 ref.1) in
        let after_valid : IsValid (apply (Kill (r ∷ nester)) v) = subst IsValid goes.0 (valid_after (Destroy OWN_SPACE r) refl) in
        record {
          world = goes.0;
          held_on = held_dropped nester slot birth start v r its own valid few ref.0 ref.1 after_valid few;
          tidy = tidy_dropped nester slot birth v made r ref.0 valid ref.1 tidy;
          others_stay = λ k other there. (
            there.0,
            dropped_other nester slot birth start v r its own valid few ref.0 ref.1 (k ∷ nester)
                (same_path_ne (k ∷ nester) (r ∷ nester) (λ e. other (let same : k ≡ r = cc in same))) ∙ there.1,
          );
        }

  pub own : (v : World) (s : State) (stage : Stage) (words : List ℕ) (reply : Reply) → Phase v s → head slot s ≡ Asks stage words
      → IsAnswered nester v stage words reply →
      Phase (after v (call_of nester stage words)) (next slot s reply.status reply.words)
  own v s stage words reply phase asks_it answered = by s phase asks_it answered
    where
      Goal : State → Stage → List ℕ → Type 0
      Goal s st ws = IsAnswered nester v st ws reply → Phase (after v (call_of nester st ws)) (next slot s reply.status reply.words)

      by : (s : State) → Phase v s → head slot s ≡ Asks stage words → Goal s stage words
      by _ (AtFirst its tidy) e =
          asked (Create OWN_SPACE PLACES (number_of_kind kinds.Reference)) stage no_words words e (Goal (Readies PLACES (TARGETS ∷ STEPS ∷ []))) (λ mine.
          (let made = makes v mine.valid mine.few PLACES [] reply Places (not_in PLACES) its tidy mine in
          subst (λ (u : World). Phase u (Readies TARGETS (STEPS ∷ []))) (sym made.world)
          (AtSecond made.held_on (Null, made_there nester slot birth start v PLACES its Places mine.valid mine.few) made.tidy)))
      by _ (AtSecond its places tidy) e =
          asked (Create OWN_SPACE TARGETS (number_of_kind kinds.Reference)) stage no_words words e (Goal (Readies TARGETS (STEPS ∷ []))) (λ mine.
          (let made = makes v mine.valid mine.few TARGETS (PLACES ∷ []) reply Targets fresh_targets its tidy mine in
          subst (λ (u : World). Phase u (Readies STEPS [])) (sym made.world)
          (AtThird made.held_on (ref_made v mine.valid mine.few TARGETS PLACES its Targets places_targets places)
          (Null, made_there nester slot birth start v TARGETS its Targets mine.valid mine.few) made.tidy)))
      by _ (AtThird its places targets tidy) e =
          asked (Create OWN_SPACE STEPS (number_of_kind kinds.Reference)) stage no_words words e (Goal (Readies STEPS [])) (λ mine.
          (let made = makes v mine.valid mine.few STEPS (TARGETS ∷ PLACES ∷ []) reply Steps fresh_steps its tidy mine in
          let scratched : IsScratched nester (apply (Make (STEPS ∷ nester) (Reference Null)) v) = record {
            places = ref_made v mine.valid mine.few STEPS PLACES its Steps places_steps places;
            targets = ref_made v mine.valid mine.few STEPS TARGETS its Steps targets_steps targets;
            steps = (Null, made_there nester slot birth start v STEPS its Steps mine.valid mine.few);
          } in
          let base = base_of nester slot birth start near (apply (Make (STEPS ∷ nester) (Reference Null)) v) made.held_on scratched in
          subst (λ (u : World). Phase u (walking slot walks.begin)) (sym made.world)
          (from_walks (apply (Make (STEPS ∷ nester) (Reference Null)) v) walks.begin
          (walking_on.begun_here nester slot start near valid_start few_start (apply (Make (STEPS ∷ nester) (Reference Null)) v) base
          (root_kind nester slot start held.holding valid_start)) made.tidy)))
      by _ (AtWalks s its asking tidy) e = λ mine.
          (let asks_now = asks_back (walks.head slot s) stage words e in
          let later = walking_on.own nester slot start near valid_start few_start v s stage words reply mets its asks_now mine in
          let comes = walking_on.comes_next nester slot start near valid_start few_start v its.base mine.valid mine.few s stage words its.position asks_now in
          from_walks (after v (call_of nester stage words)) (walks.next slot s reply.status reply.words) later
          (mild_tidy v stage words reply three mine comes tidy))
      by _ (AtSeeks s its asking tidy) e = λ mine.
          (let asks_now = asks_back (seeks.head slot s) stage words e in
          let later = seeking_on.own nester slot start near v s stage words reply (open_place w nester slot) its asks_now mine in
          let comes = seeking_on.comes_next nester slot start near v its.base mine.valid mine.few s stage words its.position its.tasks asks_now in
          from_seeks (after v (call_of nester stage words)) (seeks.next slot s reply.status reply.words) later
          (mild_tidy v stage words reply three mine comes tidy))
      by _ (AtReads s closed its asking tidy) e = λ mine.
          (let asks_now = asks_back (reads.head slot s) stage words e in
          let later = reading_on.own nester slot start near valid_start few_start v s stage words reply contents its asks_now mine in
          let comes = reading_on.comes_next nester slot start near valid_start few_start v its.base mine.valid mine.few s stage words its.position asks_now in
          from_reads (after v (call_of nester stage words)) (reads.next slot s reply.status reply.words) closed later
          (mild_tidy v stage words reply three mine comes tidy))
      by _ (AtGathers s closed its asking tidy) e = λ mine.
          (let asks_now = asks_back (gathers.head slot s) stage words e in
          let later = gathering_on.own nester slot start near v s stage words reply pointers its asks_now mine in
          let comes = gathering_on.comes_next nester slot start near v its.base its.steps mine.valid mine.few s stage words its.position its.tasks asks_now in
          from_gathers (after v (call_of nester stage words)) (gathers.next slot s reply.status reply.words) closed later
          (mild_tidy v stage words reply three mine comes tidy))
      by _ (AtDrops end verdict its scratched tidy) e =
          asked (Destroy OWN_SPACE STEPS) stage no_words words e (Goal (Drops STEPS (TARGETS ∷ PLACES ∷ []) end)) (λ mine.
          (let dropped = drops v mine.valid mine.few STEPS (TARGETS ∷ PLACES ∷ []) reply Steps scratched.steps its tidy mine in
          subst (λ (u : World). Phase u (Drops TARGETS (PLACES ∷ []) end)) (sym dropped.world)
          (AtTwoLeft end verdict dropped.held_on (dropped.others_stay TARGETS targets_steps scratched.targets)
          (dropped.others_stay PLACES places_steps scratched.places) dropped.tidy)))
      by _ (AtTwoLeft end verdict its targets places tidy) e =
          asked (Destroy OWN_SPACE TARGETS) stage no_words words e (Goal (Drops TARGETS (PLACES ∷ []) end)) (λ mine.
          (let dropped = drops v mine.valid mine.few TARGETS (PLACES ∷ []) reply Targets targets its tidy mine in
          subst (λ (u : World). Phase u (Drops PLACES [] end)) (sym dropped.world)
          (AtOneLeft end verdict dropped.held_on (dropped.others_stay PLACES places_targets places) dropped.tidy)))
      by _ (AtOneLeft end verdict its places tidy) e =
          asked (Destroy OWN_SPACE PLACES) stage no_words words e (Goal (Drops PLACES [] end)) (λ mine.
          (let dropped = drops v mine.valid mine.few PLACES [] reply Places places its tidy mine in
          subst (λ (u : World). Phase u (Releases end)) (sym dropped.world) (AtReleases end verdict dropped.held_on dropped.tidy)))
      by _ (AtReleases end verdict its tidy) e =
          asked (SpaceRelease OWN_SPACE slot) stage no_words words e (Goal (Releases end)) (λ mine.
          (let goes = one_change nester v (SpaceRelease OWN_SPACE slot) no_words reply mine (Alter root (SetHolder None)) OK []
          (release-row nester slot v its.holding) in
          subst (λ (u : World). Phase u (Over end)) (sym goes.0)
          (AtOver end verdict (released_cut nester slot v its.holding ∙ same-cut start v nester slot its.inside) (unheld_root nester slot v its.holding)
          (tidy_held nester slot birth v [] None tidy))))
      by _ (AtOver end verdict same unheld tidy) e = cc

  pub arrives : (v u : World) (s t : State) (es : List Event) → Phase v s → Interleaved (checkpoint slot) nester v s es u t → Phase u t
  arrives _ _ _ _ _ phase (Here v s sound) = phase
  arrives _ u _ t _ phase (Another v s e es _ _ sound works moves rest) =
      arrives (after v e) u s t es (others v e s moves (first_sound (checkpoint slot) nester (after v e) s es u t rest).whole.few works phase) rest
  arrives _ u _ t _ phase (Own v s stage words es _ _ sound asks_it ready rest) =
      arrives (after v (call_of nester stage words)) u (heard (checkpoint slot) s (said_of v (call_of nester stage words))) t es
      (own v s stage words (reply_of (said_of v (call_of nester stage words))) phase asks_it
      (record { valid = sound.whole.valid; few = sound.whole.few; ready = ready; said = refl })) rest
