-- What the calls of a reader have come to, against what it has read: each object that is passed pays for its search.
use Rattle.std.proofs.Common.{◌≡◌, ℕ, suc, ◌+◌, ◌-◌, ◌*◌, ◌≤◌, Bool, true, false, cond, ◌&&◌, ◌==◌, nat_le, nat_lt, is_some, List, [], ◌∷◌, ◌++◌, filter}
use Rattle.std.proofs.Common.{length, Option, Some, None, refl, sym, ap, subst, arith, length-append}
use Rattle.std.proofs.lemmas.Bool.{le-leb}
use Rattle.fk_model.specs.declared.limits.TheConstants.{SLOTS, PAGES}
use Rattle.fk_model.specs.declared.names.Kind.TheVariants as kinds
use Rattle.fk_model.specs.declared.stage.Stage.{Stage}
use Rattle.fk_model.specs.declared.stage.Stage.TheVariants.{Search}
use Rattle.fk_model.specs.declared.statuses.status.TheConstants.{OK, NONE}
use Rattle.fk_model.specs.Places.{Path}
use Rattle.fk_model.specs.Objects.{Body, kind_of, number_of_kind}
use Rattle.fk_model.specs.World.{World}
use Rattle.fk_model.specs.Searches.{depth}
use Rattle.fk_model.specs.Valid.{IsValid}
use Rattle.fk_model.specs.Closed.{far_field}
use Rattle.fk_model.specs.Cut.{cut}
use Rattle.laws_jobs.specs.Machines.{Head, Reply, no_words, IsAnswered}
use Rattle.laws_jobs.specs.Machines.Head.{Asks}
use Rattle.laws_checkpoint.specs.Walk.{space_at}
use Rattle.laws_checkpoint.specs.Contents.{Item, Content, State, begin, arrive, head, searched, looked, next}
use Rattle.laws_checkpoint.specs.Contents.State.{Down, Searches, Reads, Looks, Copies, Over}
use Rattle.laws_checkpoint.proofs.Scans.{rising, Scan, scan, lowest_none, lowest_first}
use Rattle.laws_checkpoint.proofs.Scans.Scan.{Nobody, First}
use Rattle.laws_checkpoint.proofs.Seeks.{Base, no_change}
use Rattle.laws_checkpoint.proofs.SeekBounds.{way-long}
use Rattle.laws_checkpoint.proofs.Walks.{there, IsSpace, PlacedIn, seen_taken, below_none, empty_none, found_there, searched as search_comes}
use Rattle.laws_checkpoint.proofs.Contents.{Position, ends, left_objects, left_pages}
use Rattle.laws_checkpoint.proofs.Contents.Position.{AtDown, AtSearches, AtReads, AtLooks, AtCopies, AtOver}

module _ (nester : Path) (slot : ℕ) (start : World) (near : far_field ((cut start nester slot).body []) ≡ None) (valid_start : IsValid start)
    (few_start : start.next ≤ depth) where
  abbrev is_there : Path → ℕ → Option Body
  is_there q k = there nester slot start near valid_start few_start q k

  abbrev pub taken_from : Path → ℕ → List ℕ
  taken_from q k = filter (λ j. is_some (is_there q j)) (rising (SLOTS - k) k)

  -- what stands in a space in its slots from one on
  abbrev pub residents_from : Path → ℕ → ℕ
  residents_from q k = length (taken_from q k)

  abbrev pub size : Path → ℕ → ℕ → ℕ
  size q objects pages = length q + (3 + (objects + (2 * pages + residents_from q 0)))

  abbrev pub size_of : Content → ℕ
  size_of c = size c.path (length c.objects) (length c.pages)

  abbrev pub sizes : List Content → ℕ
  sizes [] = 0
  sizes (c ∷ cs) = size_of c + sizes cs

  sizes-append : (xs ys : List Content) → sizes (xs ++ ys) ≡ sizes xs + sizes ys
  sizes-append [] ys = omega arith
  sizes-append (x ∷ xs) ys = let rest = sizes-append xs ys in omega (arith, rest)

  -- ---- what a search tells

  data Told (k : ℕ) (objects : List Item) (q : Path) (qs : List Path) (got : List Content) (s : State) : Type 0 where
    NoneLeft : s ≡ Looks 0 objects [] q qs got → Told k objects q qs got s
    Passes : (j : ℕ) → residents_from q k ≡ suc (residents_from q (j + 1)) → s ≡ Searches (j + 1) objects q qs got → Told k objects q qs got s
    Finds : (j : ℕ) → residents_from q k ≡ suc (residents_from q (j + 1)) → s ≡ Reads j objects q qs got → Told k objects q qs got s

  module _ (w : World) (base : Base nester slot start near w) (valid : IsValid w) (few : w.next ≤ depth) where
    told : (k : ℕ) (objects : List Item) (q : Path) (qs : List Path) (got : List Content) (reply : Reply)
        → PlacedIn nester slot start near valid_start few_start w q →
        IsSpace nester slot start near valid_start few_start q → k ≤ SLOTS → IsAnswered nester w (Search (space_at slot q) k) no_words reply →
        Told k objects q qs got (searched k objects q qs got reply.status reply.words)
    told k objects q qs got reply placed space low answered = by (scan (is_there q) SLOTS k low)
      where
        answers : (status : ℕ) (given : List ℕ) → (reply.status ≡ status) × (reply.words ≡ given)
            → Told k objects q qs got (searched k objects q qs got status given) →
            Told k objects q qs got (searched k objects q qs got reply.status reply.words)
        answers status given same its =
            subst (λ (st : ℕ). Told k objects q qs got (searched k objects q qs got st reply.words)) (sym same.0)
            (subst (λ (ws : List ℕ). Told k objects q qs got (searched k objects q qs got status ws)) (sym same.1) its)

        found : (j : ℕ) → residents_from q k ≡ suc (residents_from q (j + 1)) → (b : Bool)
            → Told k objects q qs got (cond b (Searches (j + 1) objects q qs got) (Reads j objects q qs got))
        found j fewer true = Passes j fewer refl
        found j fewer false = Finds j fewer refl

        by : Scan (is_there q) SLOTS k → Told k objects q qs got (searched k objects q qs got reply.status reply.words)
        by (Nobody none listed) =
            let row = search_comes nester slot start near valid_start few_start w base valid few q k placed space None
            (lowest_none (is_there q) SLOTS (seen_taken nester slot start near valid_start few_start w base valid few q k) k
            (below_none nester slot start near valid_start few_start w base valid few q k)
            (λ j up high. empty_none nester slot start near valid_start few_start w base valid few q k j (none j up high))) in
            let goes = no_change nester slot start near w base valid few (Search (space_at slot q) k) reply NONE [] answered row in
            answers NONE [] goes.1 (NoneLeft refl)
        by (First j b up high is before listed) =
            let row = search_comes nester slot start near valid_start few_start w base valid few q k placed space (Some (j, number_of_kind (kind_of b)))
            (lowest_first (is_there q) SLOTS (seen_taken nester slot start near valid_start few_start w base valid few q k) k
            (below_none nester slot start near valid_start few_start w base valid few q k) j (j, number_of_kind (kind_of b)) up high
            (found_there nester slot start near valid_start few_start w base valid few q k j b up high is)
            (λ i least less. empty_none nester slot start near valid_start few_start w base valid few q k i (before i least less))) in
            let goes = no_change nester slot start near w base valid few (Search (space_at slot q) k) reply OK (j ∷ number_of_kind (kind_of b)
            ∷ []) answered row in
            answers OK (j ∷ number_of_kind (kind_of b) ∷ []) goes.1
            (rw (le-leb k j up, le-leb (suc j) SLOTS high)
            (found j (ap (λ (ks : List ℕ). length ks) listed) (number_of_kind (kind_of b) == number_of_kind kinds.Space)))

  abbrev asking : Stage → List ℕ → Head (List Content)
  asking stage words = Asks stage words

  -- ---- the relation

  module _ (base : ℕ) where
    abbrev pub Read : ℕ → State → Type 0
    Read n (Down from ways q qs got) = n + length ways ≤ base + sizes got + (length q + 1)
    Read n (Searches k objects q qs got) = n + residents_from q k ≤ base + sizes got + (length q + (1 + (length objects + residents_from q 0)))
    Read n (Reads j objects q qs got) = n + residents_from q (j + 1) ≤ base + sizes got + (length q + (1 + (length objects + residents_from q 0)))
    Read n (Looks from objects pages q qs got) = n ≤ base + sizes got + (length q + (2 + (length objects + (2 * length pages + residents_from q 0))))
    Read n (Copies page objects pages q qs got) = n ≤ base + sizes got + (length q + (3 + (length objects + (2 * length pages + residents_from q 0))))
    Read n (Over got) = n ≤ base + sizes got

    pub read_begun : (n : ℕ) (qs : List Path) (got : List Content) → n ≤ base + sizes got → Read n (begin slot qs got)
    read_begun n [] got few = few
    read_begun n ([] ∷ qs) got few = omega (arith, few)
    read_begun n ((j ∷ q) ∷ qs) got few = let long = way-long (j ∷ q) [] in omega (arith, few, long)

    pub read_on : (w : World) (n : ℕ) (s : State) (stage : Stage) (words : List ℕ) (reply : Reply) → Base nester slot start near w → IsValid w
        → w.next ≤ depth →
        Position nester slot start near valid_start few_start w s → head slot s ≡ Asks stage words → IsAnswered nester w stage words reply → Read n s
        → Read (n + 1) (next slot s reply.status reply.words)
    read_on w n s stage words reply its valid few position asks answered spent = by s position asks answered spent
      where
        same_call : (other : Stage) → asking other no_words ≡ Asks stage words → IsAnswered nester w stage words reply
            → IsAnswered nester w other no_words reply
        same_call other e given =
            let stages : other ≡ stage = cc in
            let same : no_words ≡ words = cc in
            subst (λ (st : Stage). IsAnswered nester w st no_words reply) (sym stages)
            (subst (λ (ws : List ℕ). IsAnswered nester w stage ws reply) (sym same) given)

        by : (s : State) → Position nester slot start near valid_start few_start w s → head slot s ≡ Asks stage words → IsAnswered nester w stage words reply
            → Read n s → Read (n + 1) (next slot s reply.status reply.words)
        by _ (AtDown from way ways j q qs got at p h inside is space) e given few_left = on ways few_left
          where
            on : (ways : List ℕ) → n + suc (length ways) ≤ base + sizes got + (length (j ∷ q) + 1) → Read (n + 1) (arrive ways (j ∷ q) qs got)
            on [] few = omega (arith, few)
            on (way ∷ ways) few = omega (arith, few)
        by _ (AtSearches k objects q qs got placed space low) e given few_left =
            on (searched k objects q qs got reply.status reply.words)
            (told w its valid few k objects q qs got reply placed space low (same_call (Search (space_at slot q) k) e given))
          where
            on : (s : State) → Told k objects q qs got s → Read (n + 1) s
            on s (NoneLeft is) = subst (Read (n + 1)) (sym is) (omega (arith, few_left))
            on s (Passes j fewer is) = subst (Read (n + 1)) (sym is) (omega (arith, few_left, fewer))
            on s (Finds j fewer is) = subst (Read (n + 1)) (sym is) (omega (arith, few_left, fewer))
        by _ (AtReads j objects q qs got placed space high object) e given few_left =
            let long = length-append objects (record { number = j; words = reply.words } ∷ []) in
            omega (arith, few_left, long)
        by _ (AtLooks from objects pages q qs got placed space low) e given few_left = on reply.words
          where
            done : Content
            done = record { path = q; objects = objects; pages = pages }

            ended : Read (n + 1) (begin slot qs (got ++ done ∷ []))
            ended = let more = sizes-append got (done ∷ []) in read_begun (n + 1) qs (got ++ done ∷ []) (omega (arith, few_left, more))

            either : (page : ℕ) (b : Bool) → Read (n + 1) (cond b (Copies page objects pages q qs got) (begin slot qs (got ++ done ∷ [])))
            either page true = omega (arith, few_left)
            either page false = ended

            on : (answer : List ℕ) → Read (n + 1) (looked slot from objects pages q qs got reply.status answer)
            on [] = ended
            on (page ∷ rest) = either page (reply.status == OK && (nat_le from page && nat_lt page PAGES))
        by _ (AtCopies page objects pages q qs got given_words placed space high is) e given few_left =
            let long = length-append pages (record { number = page; words = reply.words } ∷ []) in
            omega (arith, few_left, long)
        by _ (AtOver got) e given few_left = cc

    -- ---- and what it can come to

    pub read_most : (n : ℕ) (s : State) (total : List Content) → ends nester slot start near valid_start few_start s ≡ total → Read n s → n ≤ base + sizes total
    read_most n s total e spent = by s e spent
      where
        within : (got : List Content) (q : Path) (objects pages : List Item) (rest : List Content)
            → got ++ record { path = q; objects = objects; pages = pages } ∷ rest ≡ total →
            sizes got + size q (length objects) (length pages) ≤ sizes total
        within got q objects pages rest e =
            let both = sizes-append got (record { path = q; objects = objects; pages = pages } ∷ rest) in
            let is = ap sizes e in
            omega (arith, both, is)

        by : (s : State) → ends nester slot start near valid_start few_start s ≡ total → Read n s → n ≤ base + sizes total
        by (Down from ways q qs got) e spent =
            let more = within got q (left_objects nester slot start near valid_start few_start q 0)
            (left_pages nester slot start near valid_start few_start q 0) _ e in
            omega (arith, more, spent)
        by (Searches k objects q qs got) e spent =
            let more = within got q (objects ++ left_objects nester slot start near valid_start few_start q k)
            (left_pages nester slot start near valid_start few_start q 0) _ e in
            let long = length-append objects (left_objects nester slot start near valid_start few_start q k) in
            omega (arith, more, spent, long)
        by (Reads j objects q qs got) e spent =
            let more = within got q (objects ++ left_objects nester slot start near valid_start few_start q j)
            (left_pages nester slot start near valid_start few_start q 0) _ e in
            let long = length-append objects (left_objects nester slot start near valid_start few_start q j) in
            omega (arith, more, spent, long)
        by (Looks from objects pages q qs got) e spent =
            let more = within got q objects (pages ++ left_pages nester slot start near valid_start few_start q from) _ e in
            let long = length-append pages (left_pages nester slot start near valid_start few_start q from) in
            omega (arith, more, spent, long)
        by (Copies page objects pages q qs got) e spent =
            let more = within got q objects (pages ++ left_pages nester slot start near valid_start few_start q page) _ e in
            let long = length-append pages (left_pages nester slot start near valid_start few_start q page) in
            omega (arith, more, spent, long)
        by (Over got) e spent = let is = ap sizes e in omega (arith, is, spent)
