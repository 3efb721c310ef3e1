-- A checkpoint's calls are bounded, in each of its states and so at its end.
use Rattle.std.proofs.Common.{◌≡◌, ℕ, suc, ◌+◌, ◌*◌, ◌≤◌, true, IsSome, is_some, List, [], ◌∷◌, ◌++◌, length, Option, Some, None, option_map, refl, sym, ap}
use Rattle.std.proofs.Common.{subst, arith, ◌∙◌, ◌⊎◌, inl, inr}
use Rattle.std.proofs.Math.Nat.{suc-mul}
use Rattle.fk_model.specs.declared.limits.TheConstants.{OWN_SPACE, LAST_USER_SLOT}
use Rattle.fk_model.specs.declared.names.Kind.TheVariants as kinds
use Rattle.fk_model.specs.declared.stage.Stage.{Stage}
use Rattle.fk_model.specs.declared.stage.Stage.TheVariants.{SpaceHold}
use Rattle.fk_model.specs.Places.{Path, Ptr}
use Rattle.fk_model.specs.Places.Ptr.{At}
use Rattle.fk_model.specs.Objects.{Body, kind_of}
use Rattle.fk_model.specs.Objects.Body.{Reference}
use Rattle.fk_model.specs.World.{World}
use Rattle.fk_model.specs.Searches.{depth}
use Rattle.fk_model.specs.Runs.{Event, after}
use Rattle.fk_model.specs.Valid.{IsValid, kind_there}
use Rattle.fk_model.specs.Closed.{Place, far_field, open_place}
use Rattle.fk_model.specs.Cut.{cut}
use Rattle.laws_moves.specs.Savable.Savable.{IsSound}
use Rattle.laws_jobs.specs.Machines.{Head, Reply, reply_of, heard, said_of, no_words, call_of, IsReadyAt, IsAnswered, Interleaved, own_moves, LiesWithin}
use Rattle.laws_jobs.specs.Machines.Head.{Stops, Asks}
use Rattle.laws_jobs.specs.Machines.Interleaved.{Here, Another, Own}
use Rattle.laws_jobs.specs.Jobs.{MayBegin}
use Rattle.laws_jobs.specs.Leads.{held_world}
use Rattle.laws_jobs.specs.Holds.{hold, Held, Unheld}
use Rattle.laws_jobs.proofs.Weaving.{first_sound}
use Rattle.laws_jobs.proofs.Holds.{hold_comes_to}
use Rattle.laws_checkpoint.specs.Foreign.{PLACES, TARGETS, STEPS, costs}
use Rattle.laws_checkpoint.specs.Foreign as seeks
use Rattle.laws_checkpoint.specs.Walk.{Met}
use Rattle.laws_checkpoint.specs.Walk as walks
use Rattle.laws_checkpoint.specs.Contents.{Content}
use Rattle.laws_checkpoint.specs.Contents as reads
use Rattle.laws_checkpoint.specs.Gather as gathers
use Rattle.laws_checkpoint.specs.Assembly.{sought_tasks, gathered_tasks, assembled}
use Rattle.laws_checkpoint.specs.Bounded.{count_of, CheckpointIsBounded}
use Rattle.laws_checkpoint.specs.Checkpoint.{End, State, head, next, ends_as, gathers_on, gathering, reads_on, reading, sought, seeks_on, seeking, walks_on}
use Rattle.laws_checkpoint.specs.Checkpoint.{walking, checkpoint}
use Rattle.laws_checkpoint.specs.Checkpoint.End.{Gone, Foreign, Done}
use Rattle.laws_checkpoint.specs.Checkpoint.State.{Holds, Readies, Walks, Seeks, Reads, Gathers, Drops, Releases, Over}
use Rattle.laws_checkpoint.proofs.Walks as walking_on
use Rattle.laws_checkpoint.proofs.Walks.Position.{AtDown as w_AtDown, AtSearches as w_AtSearches, AtOver as w_AtOver}
use Rattle.laws_checkpoint.proofs.Seeks as seeking_on
use Rattle.laws_checkpoint.proofs.Seeks.{Base}
use Rattle.laws_checkpoint.proofs.Contents as reading_on
use Rattle.laws_checkpoint.proofs.Gathers as gathering_on
use Rattle.laws_checkpoint.proofs.Pointing.{live_target, above_live}
use Rattle.laws_checkpoint.proofs.Gathers.Position.{AtDown as g_AtDown, AtFields as g_AtFields, AtLooks as g_AtLooks, AtLeads as g_AtLeads}
use Rattle.laws_checkpoint.proofs.Gathers.Position.{AtBeside as g_AtBeside, AtOver as g_AtOver}
use Rattle.laws_checkpoint.proofs.Tasks.{spaces_are, gathered_ok}
use Rattle.laws_checkpoint.proofs.SeekBounds.{left as seeks_left, begins as seeks_begin, fewer as seeks_fewer}
use Rattle.laws_checkpoint.proofs.Spending.{weigh, Walked, walk_place, walked_on, walked_most, gather_costs, Gathered, gather_depth, gather_begun, gathered_on}
use Rattle.laws_checkpoint.proofs.Spending.{gathered_most}
use Rattle.laws_checkpoint.proofs.Reading.{sizes, Read, read_begun, read_on, read_most}
use Rattle.laws_checkpoint.proofs.Ended.{empty, first_state, first_over, first_phase}
use Rattle.laws_checkpoint.proofs.Sums.{all-most}
use Rattle.laws_checkpoint.proofs.Working.{asks_back, near, root_there, valid_start, few_start, root_space, mets, spaces, contents, pointers, Phase}
use Rattle.laws_checkpoint.proofs.Working.{begins_seeking, others, own}
use Rattle.laws_checkpoint.proofs.Working.Phase.{AtFirst, AtSecond, AtThird, AtWalks, AtSeeks, AtReads, AtGathers, AtDrops, AtTwoLeft, AtOneLeft, AtReleases}
use Rattle.laws_checkpoint.proofs.Working.Phase.{AtOver}

none_more : {A : Type 0} (xs : List A) → xs ++ [] ≡ xs
none_more [] = refl
none_more (x ∷ xs) = ap (λ ys. x ∷ ys) (none_more xs)

pub live_of : (o : Option Body) → option_map kind_of o ≡ Some kinds.Space → IsSome o
live_of None e = cc
live_of (Some b) e = refl

module _ (nester : Path) (slot birth : ℕ) (low : slot ≤ LAST_USER_SLOT) (w : World) (may : MayBegin w nester birth) (held : Held nester slot w)
    (sound : IsSound (held_world nester slot w)) (d : ℕ) (deep : LiesWithin (cut (held_world nester slot w) nester slot) d) where
  abbrev start : World
  start = held_world nester slot w

  abbrev c : World
  c = cut start nester slot

  abbrev is_near : far_field (c.body []) ≡ None
  is_near = near nester slot birth low w may held sound

  abbrev is_valid : IsValid start
  is_valid = valid_start nester slot birth low w may held sound

  abbrev is_few : start.next ≤ depth
  is_few = few_start nester slot birth low w may held sound

  abbrev all_met : List Met
  all_met = mets nester slot birth low w may held sound

  abbrev all_spaces : List Path
  all_spaces = spaces nester slot birth low w may held sound

  abbrev all_read : List Content
  all_read = contents nester slot birth low w may held sound

  abbrev all_gathered : List Ptr
  all_gathered = pointers nester slot birth low w may held sound

  abbrev At_phase : World → State → Type 0
  At_phase v s = Phase nester slot birth low w may held sound v s

  -- ---- what each part may come to

  abbrev read_base : ℕ
  read_base = 5 + weigh (d + 6) all_met + costs (sought_tasks all_met)

  abbrev gather_base : ℕ
  gather_base = read_base + sizes nester slot start is_near is_valid is_few all_read

  abbrev pub most : ℕ
  most = gather_base + gather_costs slot d 0 (gathered_tasks all_read)

  abbrev Made : ℕ → State → Type 0
  Made n Holds = ⊥
  Made n (Readies r rest) = n + length rest + 1 ≤ 4
  Made n (Walks s) = Walked slot d 4 n s
  Made n (Seeks ms s) = n + seeks_left s ≤ read_base
  Made n (Reads s) = Read nester slot start is_near is_valid is_few read_base n s
  Made n (Gathers cs s) = Gathered slot d most n s
  Made n (Drops r rest end) = n + length rest + 1 ≤ most + 3
  Made n (Releases end) = n ≤ most + 3
  Made n (Over end) = n ≤ most + 4

  same_costs : (ts : List seeks.Task) → gather_costs slot d most ts ≡ gather_costs slot d 0 ts
  same_costs [] = refl
  same_costs (t ∷ ts) = let rest = same_costs ts in omega (arith, rest)

  -- ---- how deep it is

  within : (q : Path) → is_some (start.body (q ++ slot ∷ nester)) ≡ true → length q ≤ d
  within q live = deep q (walking_on.some_seen nester slot start is_near is_valid is_few q ∙ live)

  walk_deep : (v : World) (s : walks.State) → walking_on.Position nester slot start is_near is_valid is_few v s → length (walk_place slot d 4 s) ≤ d
  unfolding kind_there
  walk_deep v _ (w_AtDown from way ways j q k got at p h inside is space high) = within (j ∷ q) (live_of (start.body ((j ∷ q) ++ slot ∷ nester)) space)
  walk_deep v _ (w_AtSearches q k got placed space high) = within q (live_of (start.body (q ++ slot ∷ nester)) space)
  walk_deep v _ (w_AtOver got) = omega arith

  reached : (v : World) → Base nester slot start is_near v → IsValid v → v.next ≤ depth → (k : ℕ) (p : Path) (to : Ptr)
      → v.body (TARGETS ∷ nester) ≡ Some (Reference to) → (j : ℕ) (q : Path) →
      to ≡ At ((j ∷ q) ++ ((k ∷ p) ++ slot ∷ nester)) → length (k ∷ p) ≤ d
  unfolding kind_there
  reached v base valid few k p to ref j q is =
      let x = (j ∷ q) ++ ((k ∷ p) ++ slot ∷ nester) in
      let target : v.body (TARGETS ∷ nester) ≡ Some (Reference (At x)) = ref ∙ ap (λ (t : Ptr). Some (Reference t)) is in
      let live = live_target nester slot x v base.holding target valid few in
      let kind = above_live nester slot x v base.holding target valid few j q ((k ∷ p) ++ slot ∷ nester) live in
      let there : IsSome (v.body ((k ∷ p) ++ slot ∷ nester)) = live_of (v.body ((k ∷ p) ++ slot ∷ nester)) kind in
      within (k ∷ p) (sym (ap is_some (base.inside.bodies (k ∷ p))) ∙ there)

  gather_deep : (v : World) → Base nester slot start is_near v → IsValid v → v.next ≤ depth → (s : gathers.State)
      → gathering_on.Position nester slot start is_near v s → gather_depth slot d most s ≤ d
  gather_deep v base valid few _ (g_AtDown from k ways j s t ts got at p h inside is path) = omega arith
  gather_deep v base valid few _ (g_AtFields n fs t ts got placed counts) = omega arith
  gather_deep v base valid few _ (g_AtLooks [] n fs t ts got placed counts field steps beneath) = omega arith
  gather_deep v base valid few _ (g_AtLooks (k ∷ p) n fs t ts got placed counts field steps beneath) =
      reached v base valid few k p field.to field.ref beneath.j beneath.q beneath.is
  gather_deep v base valid few _ (g_AtLeads k at n fs t ts got placed counts field steps beneath) =
      let it = reached v base valid few k at field.to field.ref beneath.j beneath.q beneath.is in
      omega (arith, it)
  gather_deep v base valid few _ (g_AtBeside n fs t ts got placed counts field out) = omega arith
  gather_deep v base valid few _ (g_AtOver got) = omega arith

  -- ---- from part to part

  made_drops : (n : ℕ) (end : End) → n ≤ most → Made n (ends_as end)
  made_drops n end few = omega (arith, few)

  made_gathers : (v : World) (n : ℕ) (s : gathers.State) → IsValid v → v.next ≤ depth → gathering_on.Stands nester slot start is_near v s all_gathered
      → Gathered slot d most n s →
      Made n (gathering slot all_read s)
  made_gathers v n s valid few its spent = by (gathers.head slot s)
    where
      by : (h : Head (List Ptr)) → Made n (gathers_on all_read s h)
      by (Asks stage words) = spent
      by (Stops ps) = made_drops n (Done (assembled all_read ps)) (gathered_most slot d most n s (gather_deep v its.base valid few s its.position) spent)

  made_reads : (v : World) (n : ℕ) (s : reads.State) → IsValid v → v.next ≤ depth → reading_on.Stands nester slot start is_near is_valid is_few v s all_read →
      Read nester slot start is_near is_valid is_few read_base n s → Made n (reading slot s)
  made_reads v n s valid few its spent = by (reads.head slot s) refl
    where
      by : (h : Head (List Content)) → reads.head slot s ≡ h → Made n (reads_on slot s h)
      by (Asks stage words) e = spent
      by (Stops got) e =
          let same = reading_on.finds nester slot start is_near is_valid is_few v s got all_read its e in
          let few_calls = read_most nester slot start is_near is_valid is_few read_base n s all_read its.end spent in
          let costs_same = same_costs (gathered_tasks all_read) in
          subst (λ (cs : List Content). Made n (gathering slot cs (gathers.begin slot (gathered_tasks cs) []))) (sym same)
          (made_gathers v n (gathers.begin slot (gathered_tasks all_read) []) valid few
          (gathering_on.begins nester slot start is_near v (gathered_tasks all_read) [] its.base its.base.scratched.steps
          (gathered_ok nester slot start is_near (root_space nester slot birth low w may held sound)))
          (gather_begun slot d most n (gathered_tasks all_read) [] (omega (arith, few_calls, costs_same))))

  made_seeks : (v : World) (n : ℕ) (s : seeks.State) → IsValid v → v.next ≤ depth → seeking_on.Stands nester slot start is_near v s (open_place w nester slot)
      → n + seeks_left s ≤ read_base →
      Made n (seeking slot all_met s)
  made_seeks v n s valid few its spent = by (seeks.head slot s)
    where
      ended : (place : Option Place) → Made n (sought slot all_met place)
      ended (Some place) = made_drops n (Foreign place) (omega (arith, spent))
      ended None =
          made_reads v n (reads.begin slot all_spaces []) valid few
          (reading_on.begins nester slot start is_near is_valid is_few v all_spaces [] its.base
          (reading_on.spaces_of nester slot start is_near is_valid is_few all_spaces
          (λ q is. spaces_are c (root_space nester slot birth low w may held sound) q is)))
          (read_begun nester slot start is_near is_valid is_few read_base n all_spaces [] (omega (arith, spent)))

      by : (h : Head (Option Place)) → Made n (seeks_on slot all_met s h)
      by (Asks stage words) = spent
      by (Stops place) = ended place

  walked_few : (v : World) (n : ℕ) (s : walks.State) → walking_on.Stands nester slot start is_near is_valid is_few v s all_met → Walked slot d 4 n s
      → n ≤ 4 + weigh (d + 6) all_met + 1
  walked_few v n s its spent = by s its.level its.end spent
    where
      by : (s : walks.State) (level : ℕ) → walking_on.ends nester slot start is_near is_valid is_few level s ≡ all_met → Walked slot d 4 n s
          → n ≤ 4 + weigh (d + 6) all_met + 1
      by (walks.Down from ways q k got) level e spent = walked_most slot d 4 n (walks.Down from ways q k got) spent _ all_met e
      by (walks.Searches q k got) level e spent = walked_most slot d 4 n (walks.Searches q k got) spent _ all_met e
      by (walks.Over got) level e spent = walked_most slot d 4 n (walks.Over got) spent [] all_met (none_more got ∙ e)

  made_walks : (v : World) (n : ℕ) (s : walks.State) → IsValid v → v.next ≤ depth → walking_on.Stands nester slot start is_near is_valid is_few v s all_met
      → Walked slot d 4 n s → Made n (walking slot s)
  made_walks v n s valid few its spent = by (walks.head slot s) refl
    where
      by : (h : Head (List Met)) → walks.head slot s ≡ h → Made n (walks_on slot s h)
      by (Asks stage words) e = spent
      by (Stops got) e =
          let same = walking_on.finds nester slot start is_near is_valid is_few v s got all_met its e in
          let few_calls = walked_few v n s its spent in
          let first = seeks_begin slot (sought_tasks all_met) in
          subst (λ (ms : List Met). Made n (seeking slot ms (seeks.begin slot (sought_tasks ms)))) (sym same)
          (made_seeks v n (seeks.begin slot (sought_tasks all_met)) valid few (begins_seeking nester slot birth low w may held sound v its.base)
          (omega (arith, few_calls, first)))

  -- ---- each call

  abbrev asking : Stage → List ℕ → Head End
  asking stage words = Asks stage words

  -- where the part goes on by its own answer, in the world after it
  module _ (v : World) (n : ℕ) (stage : Stage) (words : List ℕ) (reply : Reply) (answered : IsAnswered nester v stage words reply)
      (valid : IsValid (after v (call_of nester stage words))) (few : (after v (call_of nester stage words)).next ≤ depth) where
    abbrev u : World
    u = after v (call_of nester stage words)

    pub made_on : (s : State) → At_phase v s → head slot s ≡ Asks stage words → Made n s → Made (n + 1) (next slot s reply.status reply.words)
    made_on _ (AtFirst its tidy) e spent = omega (arith, spent)
    made_on _ (AtSecond its places tidy) e spent = omega (arith, spent)
    made_on _ (AtThird its places targets tidy) e spent = omega (arith, spent)
    made_on _ (AtWalks s its asking_it tidy) e spent =
        let asks_now = asks_back (walks.head slot s) stage words e in
        let later = walking_on.own nester slot start is_near is_valid is_few v s stage words reply all_met its asks_now answered in
        made_walks u (n + 1) (walks.next slot s reply.status reply.words) valid few later
        (walked_on slot d 4 n s stage words reply.words reply.status asks_now (walk_deep v s its.position) spent)
    made_on _ (AtSeeks s its asking_it tidy) e spent =
        let asks_now = asks_back (seeks.head slot s) stage words e in
        let later = seeking_on.own nester slot start is_near v s stage words reply (open_place w nester slot) its asks_now answered in
        let fewer = seeks_fewer slot s stage words reply.words reply.status asks_now in
        made_seeks u (n + 1) (seeks.next slot s reply.status reply.words) valid few later (omega (arith, spent, fewer))
    made_on _ (AtReads s closed its asking_it tidy) e spent =
        let asks_now = asks_back (reads.head slot s) stage words e in
        let later = reading_on.own nester slot start is_near is_valid is_few v s stage words reply all_read its asks_now answered in
        made_reads u (n + 1) (reads.next slot s reply.status reply.words) valid few later
        (read_on nester slot start is_near is_valid is_few read_base v n s stage words reply its.base answered.valid answered.few its.position asks_now answered
        spent)
    made_on _ (AtGathers s closed its asking_it tidy) e spent =
        let asks_now = asks_back (gathers.head slot s) stage words e in
        let later = gathering_on.own nester slot start is_near v s stage words reply all_gathered its asks_now answered in
        made_gathers u (n + 1) (gathers.next slot s reply.status reply.words) valid few later
        (gathered_on slot d most n s stage words reply.words reply.status asks_now (gather_deep v its.base answered.valid answered.few s its.position) spent)
    made_on _ (AtDrops end verdict its scratched tidy) e spent = omega (arith, spent)
    made_on _ (AtTwoLeft end verdict its targets places tidy) e spent = omega (arith, spent)
    made_on _ (AtOneLeft end verdict its places tidy) e spent = omega (arith, spent)
    made_on _ (AtReleases end verdict its tidy) e spent = omega (arith, spent)
    made_on _ (AtOver end verdict same unheld tidy) e spent = cc

  -- ---- the whole

  made_most : (v : World) → IsValid v → v.next ≤ depth → (n : ℕ) (s : State) → At_phase v s → Made n s → n ≤ most + 4
  made_most v valid few n _ (AtFirst its tidy) spent = omega (arith, spent)
  made_most v valid few n _ (AtSecond its places tidy) spent = omega (arith, spent)
  made_most v valid few n _ (AtThird its places targets tidy) spent = omega (arith, spent)
  made_most v valid few n _ (AtWalks s its asking_it tidy) spent = let calls = walked_few v n s its spent in omega (arith, calls)
  made_most v valid few n _ (AtSeeks s its asking_it tidy) spent = omega (arith, spent)
  made_most v valid few n _ (AtReads s closed its asking_it tidy) spent =
      let calls = read_most nester slot start is_near is_valid is_few read_base n s all_read its.end spent in
      omega (arith, calls)
  made_most v valid few n _ (AtGathers s closed its asking_it tidy) spent =
      let calls = gathered_most slot d most n s (gather_deep v its.base valid few s its.position) spent in
      omega (arith, calls)
  made_most v valid few n _ (AtDrops end verdict its scratched tidy) spent = omega (arith, spent)
  made_most v valid few n _ (AtTwoLeft end verdict its targets places tidy) spent = omega (arith, spent)
  made_most v valid few n _ (AtOneLeft end verdict its places tidy) spent = omega (arith, spent)
  made_most v valid few n _ (AtReleases end verdict its tidy) spent = omega (arith, spent)
  made_most v valid few n _ (AtOver end verdict same unheld tidy) spent = omega (arith, spent)

  pub bounded : (v u : World) (s t : State) (es : List Event) (n : ℕ) → At_phase v s → Made n s → (run : Interleaved (checkpoint slot) nester v s es u t)
      → n + own_moves run ≤ most + 4
  bounded _ _ _ _ _ n phase spent (Here v s its_sound) = let calls = made_most v its_sound.whole.valid its_sound.whole.few n s phase spent in
      omega (arith, calls)
  bounded _ u _ t _ n phase spent (Another v s e es _ _ its_sound works moves rest) =
      bounded (after v e) u s t es n (others nester slot birth low w may held sound v e s moves
      (first_sound (checkpoint slot) nester (after v e) s es u t rest).whole.few works phase) spent rest
  bounded _ u _ t _ n phase spent (Own v s stage words es _ _ its_sound asks_it ready rest) =
      let reply = reply_of (said_of v (call_of nester stage words)) in
      let answered : IsAnswered nester v stage words reply = record { valid = its_sound.whole.valid; few = its_sound.whole.few; ready = ready; said = refl } in
      let behind = first_sound (checkpoint slot) nester (after v (call_of nester stage words)) (next slot s reply.status reply.words) es u t rest in
      let later = bounded (after v (call_of nester stage words)) u (next slot s reply.status reply.words) t es (n + 1)
      (own nester slot birth low w may held sound v s stage words reply phase asks_it answered)
      (made_on v n stage words reply answered behind.whole.valid behind.whole.few s phase asks_it spent) rest in
      omega (arith, later)

  -- so much in all
  pub most-calls : most + 4 ≤ 100 * ((count_of c + 1) * (d + 1))
  most-calls =
      let all = all-most nester slot start is_near is_valid is_few (root_there nester slot birth low w may held sound) d deep 0 in
      omega (arith, all)

module _ (slot birth : ℕ) (w v : World) (nester : Path) (t : State) (d : ℕ) (low : slot ≤ LAST_USER_SLOT) (may : MayBegin w nester birth)
    (deep : LiesWithin (cut w nester slot) d) where
  abbrev limit : ℕ
  limit = 100 * ((count_of (cut w nester slot) + 1) * (d + 1))

  abbrev Limited : World → State → Type 0
  Limited u s = (es : List Event) (run : Interleaved (checkpoint slot) nester u s es v t) → suc (own_moves run) ≤ limit

  over_none : (es : List Event) (u : World) (s : State) (end : End) → s ≡ Over end → (run : Interleaved (checkpoint slot) nester u s es v t) → own_moves run ≡ 0
  over_none _ _ _ end same (Here u s sound) = refl
  over_none _ _ _ end same (Another u s e es _ _ sound works moves rest) =
      let stops : head slot s ≡ Stops end = ap (head slot) same in
      let asks_it = works.2 in
      let both = sym stops ∙ asks_it in
      cc
  over_none _ _ _ end same (Own u s stage words es _ _ sound asks_it ready rest) =
      let stops : head slot s ≡ Stops end = ap (head slot) same in
      let both = sym stops ∙ asks_it in
      cc

  limited_over : (u : World) → Limited u (Over Gone)
  limited_over u es run =
      let none = over_none es u (Over Gone) Gone refl run in
      let count = count_of (cut w nester slot) in
      let is : (count + 1) * (d + 1) ≡ suc count * suc d = ap (λ k. k * (d + 1)) (omega arith) ∙ ap (λ k. suc count * k) (omega arith) in
      let product = suc-mul count (suc d) in
      omega (arith, none, is, product)

  limited_held : (held : Held nester slot w) (sound : IsSound (held_world nester slot w))
      → Limited (held_world nester slot w) (Readies PLACES (TARGETS ∷ STEPS ∷ []))
  limited_held held sound es run =
      let deep_there = subst (λ (c : World). LiesWithin c d) (sym held.cut) deep in
      let first : Phase nester slot birth low w may held sound (held_world nester slot w)
      (Readies PLACES (TARGETS ∷ STEPS ∷ [])) = first_phase slot birth w nester low may held sound in
      let calls = bounded nester slot birth low w may held sound d deep_there (held_world nester slot w) v
      (Readies PLACES (TARGETS ∷ STEPS ∷ [])) t es 1 first (omega arith) run in
      let all = most-calls nester slot birth low w may held sound d deep_there in
      let same = ap (λ (c : World). 100 * ((count_of c + 1) * (d + 1))) held.cut in
      omega (arith, calls, all, same)

  limited : IsReadyAt w (hold nester slot) → Limited (after w (hold nester slot)) (heard (checkpoint slot) Holds (said_of w (hold nester slot)))
  limited ready es run =
      let sound = first_sound (checkpoint slot) nester (after w (hold nester slot)) (heard (checkpoint slot) Holds (said_of w (hold nester slot))) es v t run in
      by sound (hold_comes_to nester slot w low (empty slot birth w nester low may) may.sound.whole.valid sound.whole.valid may.sound.whole.few ready)
    where
      by : IsSound (after w (hold nester slot)) → Held nester slot w ⊎ Unheld nester slot w → suc (own_moves run) ≤ limit
      by sound (inl held) =
          subst (Limited (after w (hold nester slot))) (sym (first_state slot birth w nester low may (said_of w (hold nester slot)) held.said))
          (subst (λ (u : World). Limited u (Readies PLACES (TARGETS ∷ STEPS ∷ []))) (sym held.world)
          (limited_held held (subst IsSound held.world sound))) es run
      by sound (inr none) =
          subst (Limited (after w (hold nester slot)))
          (sym (first_over slot birth w nester low may (said_of w (hold nester slot)) none.status none.refused none.said))
          (limited_over (after w (hold nester slot))) es run

pub checkpoint_is_bounded : CheckpointIsBounded
checkpoint_is_bounded slot birth w v nester t d low may deep work =
    let asked_it = work.asked in
    let one : work.stage ≡ SpaceHold OWN_SPACE slot = cc in
    let two : work.words ≡ no_words = cc in
    let is : call_of nester work.stage work.words ≡ hold nester slot = λ i. call_of nester (one i) (two i) in
    subst (λ (e : Event). IsReadyAt w e → Limited slot birth w v nester t d low may deep (after w e) (heard (checkpoint slot) Holds (said_of w e))) (sym is)
    (limited slot birth w v nester t d low may deep) work.ready work.events work.run
