-- A reader gathers what stands in each space.
use Rattle.std.proofs.Common.{◌≡◌, ℕ, zero, suc, ◌+◌, ◌-◌, ◌≤◌, ◌<◌, Bool, true, false, cond, ◌==◌, nat_le, List, [], ◌∷◌, ◌++◌, map, Option, Some, None}
use Rattle.std.proofs.Common.{option_map, refl, sym, ap, subst, arith, ◌∙◌, inl, inr}
use Rattle.std.proofs.lemmas.Bool.{le-leb, leb-true}
use Rattle.fk_model.specs.declared.limits.TheConstants.{OWN_SPACE, SLOTS, PAGES, LAST_PORTER_SLOT}
use Rattle.fk_model.specs.declared.names.Kind.TheVariants as kinds
use Rattle.fk_model.specs.declared.stage.Stage.{Stage}
use Rattle.fk_model.specs.declared.stage.Stage.TheVariants.{Point, Search, GetState, PageNext, PageRead}
use Rattle.fk_model.specs.declared.statuses.status.TheConstants.{OK, NONE}
use Rattle.fk_model.specs.Places.{Path, leads_to}
use Rattle.fk_model.specs.Places.Ptr.{At}
use Rattle.fk_model.specs.Objects.{Talk, Fault, Thread, Peer, Body, kind_of, number_of_kind}
use Rattle.fk_model.specs.Objects.Body.{Mutex, Cond, Mapping, Region, Port, Portset, Space, Thread_of, Reference}
use Rattle.fk_model.specs.World.{World, apply}
use Rattle.fk_model.specs.World.Change.{Alter}
use Rattle.fk_model.specs.World.Edit.{SetPointer}
use Rattle.fk_model.specs.Searches.{lowest, depth}
use Rattle.fk_model.specs.Outcomes.Outcome.{Goes}
use Rattle.fk_model.specs.Outcomes.Said.{Answered}
use Rattle.fk_model.specs.Readers.{anything}
use Rattle.fk_model.specs.Records.{record_of}
use Rattle.fk_model.specs.SpaceRows.{next_page}
use Rattle.fk_model.specs.Moves.{call_row}
use Rattle.fk_model.specs.Runs.{Event, after}
use Rattle.fk_model.specs.Valid.{IsValid, is_fit, kind_there}
use Rattle.fk_model.specs.Closed.{far_field}
use Rattle.fk_model.specs.Cut.{cut, cutting, ports_of, seen_by, unheld}
use Rattle.fk_model.proofs.walks.PlaceLaws.{same_path_eq}
use Rattle.fk_model.proofs.walks.Members.{IsIn}
use Rattle.laws_moves.specs.Frozen.Holding.{IsUsersMove, IsNear}
use Rattle.laws_moves.proofs.InFrozen.Holding.{others_keep_hold}
use Rattle.laws_jobs.specs.Machines.{Head, Reply, reply_of, heard, said_of, porter, no_words, call_of, IsAnswered, Interleaved}
use Rattle.laws_jobs.specs.Machines.Head.{Stops, Asks}
use Rattle.laws_jobs.specs.Machines.Interleaved.{Here, Another, Own}
use Rattle.laws_jobs.proofs.Own.{own_body}
use Rattle.laws_jobs.proofs.Rows.{own-place, object-there, point-row, space_pointer, state-row, page_as, page_next-row, page_read-row}
use Rattle.laws_jobs.proofs.Weaving.{first_sound}
use Rattle.laws_checkpoint.specs.Foreign.{PLACES, way_from}
use Rattle.laws_checkpoint.specs.Walk.{space_at}
use Rattle.laws_checkpoint.specs.Contents.{Item, Content, with_item, items_from, record_in, record_at, content, State, begin, arrive, head, searched, looked}
use Rattle.laws_checkpoint.specs.Contents.{next, reader, SpacesAreRead}
use Rattle.laws_checkpoint.specs.Contents.State.{Down, Searches, Reads, Looks, Copies, Over}
use Rattle.laws_checkpoint.proofs.Scans.{Scan, scan, lowest_none, lowest_first}
use Rattle.laws_checkpoint.proofs.Scans.Scan.{Nobody, First}
use Rattle.laws_checkpoint.proofs.Mild.{Comes, ComesWith}
use Rattle.laws_checkpoint.proofs.Mild.IsMild.{Changes_nothing}
use Rattle.laws_checkpoint.proofs.Tells.{above_kind}
use Rattle.laws_checkpoint.proofs.Ways.{follow, follow-way}
use Rattle.laws_checkpoint.proofs.Seeks.{FromIs, Base, base_others, own_base, kind_up, live_slot, space_live, free}
use Rattle.laws_checkpoint.proofs.Sought.{first_base, root_is}
use Rattle.laws_checkpoint.proofs.Seeks.{from_named, ref_read, valid_own, one_change, no_change, is_places}
use Rattle.laws_checkpoint.proofs.Walks.{there, kind_seen, IsSpace, PlacedIn, placed_moved, from_moved, same_there, space_now, named, seen_taken, below_none}
use Rattle.laws_checkpoint.proofs.Walks.{empty_none, found_there, searched as search_comes, comes_down, comes_search}

-- ---- what is listed from a number on

-- numbers at which nothing is are passed over
skip : (f : ℕ → Option (List ℕ)) (last n k j : ℕ) → k + n ≡ j → j ≤ last → ((i : ℕ) → k ≤ i → i < j → f i ≡ None)
    → items_from f (last - k) k ≡ items_from f (last - j) j
unfolding items_from
skip f last zero k j sum high none = let same : k ≡ j = omega (arith, sum) in ap (λ i. items_from f (last - i) i) same
skip f last (suc n) k j sum high none =
    let one : last - k ≡ suc (last - suc k) = omega (arith, sum, high) in
    ap (λ m. items_from f m k) one ∙ (ap (λ (o : Option (List ℕ)). with_item k o (items_from f (last - suc k) (suc k)))
    (none k (omega arith) (omega (arith, sum)))
    ∙ skip f last n (suc k) j (omega (arith, sum)) high (λ i low less. none i (omega (arith, low)) less))

pub listed_none : (f : ℕ → Option (List ℕ)) (last k : ℕ) → k ≤ last → ((i : ℕ) → k ≤ i → i < last → f i ≡ None) → items_from f (last - k) k ≡ []
unfolding items_from
listed_none f last k low none =
    let over : last - last ≡ 0 = omega arith in
    skip f last (last - k) k last (omega (arith, low)) (omega arith) none ∙ ap (λ m. items_from f m last) over

pub listed_first : (f : ℕ → Option (List ℕ)) (last k j : ℕ) → k ≤ j → j < last → ((i : ℕ) → k ≤ i → i < j → f i ≡ None) →
    items_from f (last - k) k ≡ with_item j (f j) (items_from f (last - (j + 1)) (j + 1))
unfolding items_from
listed_first f last k j low high none =
    let one : last - j ≡ suc (last - (j + 1)) = omega (arith, high) in
    let next_one : suc j ≡ j + 1 = omega arith in
    skip f last (j - k) k j (omega (arith, low)) (omega (arith, high)) none ∙ (ap (λ m. items_from f m j) one
    ∙ ap (λ i. with_item j (f j) (items_from f (last - (j + 1)) i)) next_one)

pushed : {A : Type 0} (got : List A) (x : A) (rest : List A) → (got ++ x ∷ []) ++ rest ≡ got ++ x ∷ rest
pushed [] x rest = refl
pushed (g ∷ got) x rest = ap (λ xs. g ∷ xs) (pushed got x rest)

none_more : {A : Type 0} (xs : List A) → xs ++ [] ≡ xs
none_more [] = refl
none_more (x ∷ xs) = ap (λ ys. x ∷ ys) (none_more xs)

module _ (nester : Path) (slot : ℕ) (start : World) (near : far_field ((cut start nester slot).body []) ≡ None) (valid_start : IsValid start)
    (few_start : start.next ≤ depth) where
  abbrev root : Path
  root = slot ∷ nester

  abbrev c : World
  c = cut start nester slot

  abbrev is_there : Path → ℕ → Option Body
  is_there q k = there nester slot start near valid_start few_start q k

  abbrev Space_at : Path → Type 0
  Space_at q = IsSpace nester slot start near valid_start few_start q

  abbrev Placed : World → Path → Type 0
  Placed w q = PlacedIn nester slot start near valid_start few_start w q

  -- ---- a record of what is seen is the record of what is there

  talk_same : (t : Thread) (o : Option Talk) → record_of
      (seen_by (cutting (ports_of start nester slot) nester slot) (Thread_of (record t { talk = o; fault = None })))
      ≡ record_of (Thread_of (record t { talk = o; fault = None }))
  unfolding record_of seen_by
  talk_same t None = refl
  talk_same t (Some talk) = refl

  thread_same : (t : Thread) (o : Option Talk) (p : Option Fault) →
      record_of (seen_by (cutting (ports_of start nester slot) nester slot) (Thread_of (record t { talk = o; fault = p })))
      ≡ record_of (Thread_of (record t { talk = o; fault = p }))
  unfolding record_of seen_by
  thread_same t None None = refl
  thread_same t (Some talk) None = refl
  thread_same t None (Some fault) = by fault.taker
    where
      by : (taker : Option Peer) → record_of (seen_by (cutting (ports_of start nester slot) nester slot)
          (Thread_of (record t { talk = None; fault = Some (record fault { taker = taker }) })))
          ≡ record_of (Thread_of (record t { talk = None; fault = Some (record fault { taker = taker }) }))
      by None = refl
      by (Some peer) = refl
  thread_same t (Some talk) (Some fault) = by fault.taker
    where
      by : (taker : Option Peer) → record_of (seen_by (cutting (ports_of start nester slot) nester slot)
          (Thread_of (record t { talk = Some talk; fault = Some (record fault { taker = taker }) })))
          ≡ record_of (Thread_of (record t { talk = Some talk; fault = Some (record fault { taker = taker }) }))
      by None = refl
      by (Some peer) = refl

  pub record_seen : (b : Body) → record_in (Some (seen_by (cutting (ports_of start nester slot) nester slot) b)) ≡ record_in (Some b)
  unfolding seen_by record_of
  record_seen (Mutex locked) = refl
  record_seen Cond = refl
  record_seen (Mapping m) = refl
  record_seen (Region r) = refl
  record_seen (Port None served) = refl
  record_seen (Port (Some set) served) = refl
  record_seen Portset = refl
  record_seen (Space birth holder) = refl
  record_seen (Thread_of t) = ap Some (thread_same t t.talk t.fault)
  record_seen (Reference to) = refl

  record_there : (q : Path) (k : ℕ) → record_at c q k ≡ record_in (is_there q k)
  unfolding cut
  record_there q k = by (is_there q k)
    where
      by : (o : Option Body) → record_in (option_map (λ b. unheld (k ∷ q) (seen_by (cutting (ports_of start nester slot) nester slot) b)) o) ≡ record_in o
      by None = refl
      by (Some b) = record_seen b

  page_there : (q : Path) (page : ℕ) → c.page q page ≡ start.page (q ++ root) page
  unfolding cut
  page_there q page = refl

  -- ---- what is left

  abbrev pub left_objects : Path → ℕ → List Item
  left_objects q k = items_from (record_at c q) (SLOTS - k) k

  abbrev pub left_pages : Path → ℕ → List Item
  left_pages q from = items_from (c.page q) (PAGES - from) from

  abbrev pub with_content : List Content → Path → List Item → List Item → List Path → List Content
  with_content got q objects pages qs = got ++ record { path = q; objects = objects; pages = pages } ∷ map (content c) qs

  abbrev pub ends : State → List Content
  ends (Down from ways q qs got) = with_content got q (left_objects q 0) (left_pages q 0) qs
  ends (Searches k objects q qs got) = with_content got q (objects ++ left_objects q k) (left_pages q 0) qs
  ends (Reads j objects q qs got) = with_content got q (objects ++ left_objects q j) (left_pages q 0) qs
  ends (Looks from objects pages q qs got) = with_content got q objects (pages ++ left_pages q from) qs
  ends (Copies page objects pages q qs got) = with_content got q objects (pages ++ left_pages q page) qs
  ends (Over got) = got

  -- an object that is no space
  pub record Object_at (q : Path) (j : ℕ) : Type 0 where
    pub body : Body
    pub is : is_there q j ≡ Some body
    pub has : record_in (Some body) ≡ Some (record_of body)

  pub data Position (w : World) : State → Type 0 where
    AtDown : (from way : ℕ) (ways : List ℕ) (j : ℕ) (q : Path) (qs : List Path) (got : List Content) (at p : Path) → FromIs nester slot start near w from at
        → way ∷ at ≡ p ++ root →
        follow (way ∷ at) ways ≡ (j ∷ q) ++ root → Space_at (j ∷ q) → Position w (Down from (way ∷ ways) (j ∷ q) qs got)
    AtSearches : (k : ℕ) (objects : List Item) (q : Path) (qs : List Path) (got : List Content) → Placed w q → Space_at q → k ≤ SLOTS
        → Position w (Searches k objects q qs got)
    AtReads : (j : ℕ) (objects : List Item) (q : Path) (qs : List Path) (got : List Content) → Placed w q → Space_at q → j < SLOTS → Object_at q j
        → Position w (Reads j objects q qs got)
    AtLooks : (from : ℕ) (objects pages : List Item) (q : Path) (qs : List Path) (got : List Content) → Placed w q → Space_at q → from ≤ PAGES
        → Position w (Looks from objects pages q qs got)
    AtCopies : (page : ℕ) (objects pages : List Item) (q : Path) (qs : List Path) (got : List Content) (words : List ℕ) → Placed w q → Space_at q
        → page < PAGES →
        c.page q page ≡ Some words → Position w (Copies page objects pages q qs got)
    AtOver : (got : List Content) → Position w (Over got)

  abbrev pub Spaces_left : List Path → Type 0
  Spaces_left [] = Unit {0}
  Spaces_left (q ∷ qs) = Space_at q × Spaces_left qs

  abbrev pub rest_of : State → List Path
  rest_of (Down from ways q qs got) = qs
  rest_of (Searches k objects q qs got) = qs
  rest_of (Reads j objects q qs got) = qs
  rest_of (Looks from objects pages q qs got) = qs
  rest_of (Copies page objects pages q qs got) = qs
  rest_of (Over got) = []

  pub record Stands (w : World) (s : State) (total : List Content) : Type 0 where
    pub base : Base nester slot start near w
    pub position : Position w s
    pub spaces : Spaces_left (rest_of s)
    pub end : ends s ≡ total

  position_same : (w v : World) → v.body (PLACES ∷ nester) ≡ w.body (PLACES ∷ nester) → (s : State) → Position w s → Position v s
  position_same w v same _ (AtDown from way ways j q qs got at p h inside is space) =
      AtDown from way ways j q qs got at p (from_moved nester slot start near valid_start few_start w v same from at h) inside is space
  position_same w v same _ (AtSearches k objects q qs got h space low) = AtSearches k objects q qs got
      (placed_moved nester slot start near valid_start few_start w v same q h) space low
  position_same w v same _ (AtReads j objects q qs got h space low object) = AtReads j objects q qs got
      (placed_moved nester slot start near valid_start few_start w v same q h) space low object
  position_same w v same _ (AtLooks from objects pages q qs got h space low) = AtLooks from objects pages q qs got
      (placed_moved nester slot start near valid_start few_start w v same q h) space low
  position_same w v same _ (AtCopies page objects pages q qs got words h space low is) =
      AtCopies page objects pages q qs got words (placed_moved nester slot start near valid_start few_start w v same q h) space low is
  position_same w v same _ (AtOver got) = AtOver got

  pub others : (w : World) (e : Event) (s : State) (end : List Content) → IsUsersMove nester w e → (after w e).next ≤ depth → Stands w s end
      → Stands (after w e) s end
  others w e s end moves few its =
      let kept = others_keep_hold nester slot w e its.base.holding moves in
      record {
        base = base_others nester slot start near w e moves few its.base;
        position = position_same w (after w e) (kept.around.scratch PLACES (is_places nester slot start near)) s its.position;
        spaces = its.spaces;
        end = its.end;
      }

  -- ---- it begins with the next space

  whole : (q : Path) (qs : List Path) (got : List Content) → with_content got q (left_objects q 0) (left_pages q 0) qs ≡ got ++ map (content c) (q ∷ qs)
  whole q qs got =
      let slots : SLOTS - 0 ≡ SLOTS = omega arith in
      let numbers : PAGES - 0 ≡ PAGES = omega arith in
      λ i. got ++ record { path = q; objects = items_from (record_at c q) (slots i) 0; pages = items_from (c.page q) (numbers i) 0 } ∷ map (content c) qs

  pub begins : (w : World) (qs : List Path) (got : List Content) → Base nester slot start near w → Spaces_left qs
      → Stands w (begin slot qs got) (got ++ map (content c) qs)
  begins w [] got base spaces = record { base = base; position = AtOver got; spaces = tt; end = sym (none_more got) }
  begins w ([] ∷ qs) got base spaces = record {
    base = base;
    position = AtSearches 0 [] [] qs got tt spaces.0 (omega arith);
    spaces = spaces.1;
    end = whole [] qs got;
  }
  begins w ((j ∷ q) ∷ qs) got base spaces = record {
    base = base;
    position = AtDown OWN_SPACE slot (way_from [] (j ∷ q)) j q qs got nester [] (inl (refl, refl)) refl (follow-way root (j ∷ q) []) spaces.0;
    spaces = spaces.1;
    end = whole (j ∷ q) qs got;
  }

  arrived : (w : World) (ways : List ℕ) (j : ℕ) (q : Path) (qs : List Path) (got end : List Content) (at p : Path) → Base nester slot start near w
      → w.body (PLACES ∷ nester) ≡ Some (Reference (At at)) →
      at ≡ p ++ root → follow at ways ≡ (j ∷ q) ++ root → Space_at (j ∷ q) → Spaces_left qs
      → with_content got (j ∷ q) (left_objects (j ∷ q) 0) (left_pages (j ∷ q) 0) qs ≡ end →
      Stands w (arrive ways (j ∷ q) qs got) end
  arrived w [] j q qs got end at p base ref inside is space spaces eq = record {
    base = base;
    position = AtSearches 0 [] (j ∷ q) qs got (ref ∙ ap (λ (y : Path). Some (Reference (At y))) is) space (omega arith);
    spaces = spaces;
    end = eq;
  }
  arrived w (way ∷ ways) j q qs got end at p base ref inside is space spaces eq = record {
    base = base;
    position = AtDown PLACES way ways j q qs got at (way ∷ p) (inr (refl, ref)) (ap (λ (y : Path). way ∷ y) inside) is space;
    spaces = spaces;
    end = eq;
  }

  -- ---- its own calls

  module _ (w : World) (base : Base nester slot start near w) (valid : IsValid w) (few : w.next ≤ depth) where
    own_down : (from way : ℕ) (ways : List ℕ) (j : ℕ) (q : Path) (qs : List Path) (got : List Content) (at p : Path) (reply : Reply) (end : List Content)
        → FromIs nester slot start near w from at →
        way ∷ at ≡ p ++ root → follow (way ∷ at) ways ≡ (j ∷ q) ++ root → Space_at (j ∷ q) → Spaces_left qs
        → IsAnswered nester w (Point OWN_SPACE PLACES from way) no_words reply →
        with_content got (j ∷ q) (left_objects (j ∷ q) 0) (left_pages (j ∷ q) 0) qs ≡ end →
        Stands (after w (call_of nester (Point OWN_SPACE PLACES from way) no_words)) (arrive ways (j ∷ q) qs got) end
    unfolding is_fit
    own_down from way ways j q qs got at p reply end h inside is space spaces answered eq =
        let comes = comes_down nester slot start near valid_start few_start w base valid few from way ways j q at h is space in
        let kind = kind_up nester slot start near w base valid few ways (way ∷ at) ((j ∷ q) ++ root) is
        (space_now nester slot start near valid_start few_start w base valid few (j ∷ q) space) in
        let old = base.scratched.places in
        let row = point-row nester no_words w OWN_SPACE PLACES from way nester at old.0 (At (way ∷ at)) (own-place nester no_words w)
        (ref_read nester slot start near w base valid few PLACES old.0 refl old.1)
        (from_named nester slot start near w base valid few from at h (above_kind nester slot w base.holding valid way at kind))
        (space_pointer nester no_words w at way (live_slot nester slot start near w base valid few way at
        (space_live nester slot start near w base valid few (way ∷ at) kind)) kind)
        (free nester slot start near w base valid few PLACES old.0 old.1) in
        let goes = one_change nester slot start near w base valid few (Point OWN_SPACE PLACES from way) reply
        (Alter (PLACES ∷ nester) (SetPointer (At (way ∷ at)))) OK [] answered row in
        let nearby : (x : Path) → leads_to x (At (way ∷ at)) ≡ true → IsNear w root x = λ x led. inl (p, sym (same_path_eq (way ∷ at) x led) ∙ inside) in
        let valid_after : IsValid (apply (Alter (PLACES ∷ nester) (SetPointer (At (way ∷ at)))) w) =
        subst IsValid goes.0 (valid_own nester slot start near w base valid few (Point OWN_SPACE PLACES from way) refl) in
        subst (λ (v : World). Stands v (arrive ways (j ∷ q) qs got) end) (sym goes.0)
        (arrived (apply (Alter (PLACES ∷ nester) (SetPointer (At (way ∷ at)))) w) ways j q qs got end (way ∷ at) p
        (own_base nester slot start near w PLACES old.0 (At (way ∷ at)) base valid valid_after few (is_places nester slot start near) old.1 nearby)
        (own_body nester slot w PLACES old.0 (At (way ∷ at)) base.holding (is_places nester slot start near) old.1 nearby) inside is space spaces eq)

    -- a call that changes nothing
    stands_at : (stage : Stage) (reply : Reply) (status : ℕ) (given : List ℕ) (s t : State) (end : List Content) → IsAnswered nester w stage no_words reply →
        call_row w (porter nester no_words) None stage ≡ Goes [] (Answered status given) → next slot s status given ≡ t → Stands w t end →
        Stands (after w (call_of nester stage no_words)) (next slot s reply.status reply.words) end
    stands_at stage reply status given s t end answered row is its =
        let goes = no_change nester slot start near w base valid few stage reply status given answered row in
        subst (λ (v : World). Stands v (next slot s reply.status reply.words) end) (sym goes.0)
        (subst (λ (st : ℕ). Stands w (next slot s st reply.words) end) (sym goes.1.0)
        (subst (λ (ws : List ℕ). Stands w (next slot s status ws) end) (sym goes.1.1) (subst (λ (t : State). Stands w t end) (sym is) its)))

    -- a search

    taken_none : (q : Path) (k i : ℕ) → is_there q i ≡ None → record_at c q i ≡ None
    taken_none q k i e = record_there q i ∙ ap record_in e

    own_search : (k : ℕ) (objects : List Item) (q : Path) (qs : List Path) (got : List Content) (reply : Reply) (end : List Content) → Placed w q → Space_at q
        → k ≤ SLOTS → Spaces_left qs →
        IsAnswered nester w (Search (space_at slot q) k) no_words reply → with_content got q (objects ++ left_objects q k) (left_pages q 0) qs ≡ end →
        Stands (after w (call_of nester (Search (space_at slot q) k) no_words)) (searched k objects q qs got reply.status reply.words) end
    own_search k objects q qs got reply end placed space low spaces answered eq = by (scan (is_there q) SLOTS k low)
      where
        Goal : Type 0
        Goal = Stands (after w (call_of nester (Search (space_at slot q) k) no_words)) (searched k objects q qs got reply.status reply.words) end

        over : ((i : ℕ) → k ≤ i → i < SLOTS → is_there q i ≡ None) → Stands w (Looks 0 objects [] q qs got) end
        over none = record {
          base = base;
          position = AtLooks 0 objects [] q qs got placed space (omega arith);
          spaces = spaces;
          end = ap (λ (os : List Item). with_content got q os (left_pages q 0) qs)
              (sym (none_more objects) ∙ ap (λ (os : List Item). objects ++ os)
              (sym (listed_none (record_at c q) SLOTS k low (λ i up less. taken_none q k i (none i up less))))) ∙ eq;
        }

        listed : (j : ℕ) → k ≤ j → j < SLOTS → ((i : ℕ) → k ≤ i → i < j → is_there q i ≡ None)
            → left_objects q k ≡ with_item j (record_at c q j) (left_objects q (j + 1))
        listed j up high before = listed_first (record_at c q) SLOTS k j up high (λ i least less. taken_none q k i (before i least less))

        here : (j : ℕ) → j < SLOTS → left_objects q j ≡ with_item j (record_at c q j) (left_objects q (j + 1))
        here j high = listed_first (record_at c q) SLOTS j j (omega arith) high (λ i low less. absurd (omega (arith, low, less)))

        reads : (j : ℕ) (b : Body) → k ≤ j → j < SLOTS → is_there q j ≡ Some b → ((i : ℕ) → k ≤ i → i < j → is_there q i ≡ None)
            → record_in (Some b) ≡ Some (record_of b) →
            Stands w (Reads j objects q qs got) end
        reads j b up high is before has = record {
          base = base;
          position = AtReads j objects q qs got placed space high (record { body = b; is = is; has = has });
          spaces = spaces;
          end = ap (λ (os : List Item). with_content got q (objects ++ os) (left_pages q 0) qs) (here j high ∙ sym (listed j up high before)) ∙ eq;
        }

        passes : (j birth : ℕ) (holder : _) → k ≤ j → j < SLOTS → is_there q j ≡ Some (Space birth holder) → ((i : ℕ) → k ≤ i → i < j → is_there q i ≡ None) →
            Stands w (Searches (j + 1) objects q qs got) end
        passes j birth holder up high is before = record {
          base = base;
          position = AtSearches (j + 1) objects q qs got placed space (omega (arith, high));
          spaces = spaces;
          end = ap (λ (os : List Item). with_content got q (objects ++ os) (left_pages q 0) qs)
              (sym (listed j up high before ∙ ap (λ (o : Option (List ℕ)). with_item j o (left_objects q (j + 1))) (record_there q j ∙ ap record_in is))) ∙ eq;
        }

        found : (j : ℕ) (b : Body) → k ≤ j → j < SLOTS → is_there q j ≡ Some b → ((i : ℕ) → k ≤ i → i < j → is_there q i ≡ None) → (t : State) →
            cond (number_of_kind (kind_of b) == number_of_kind kinds.Space) (Searches (j + 1) objects q qs got) (Reads j objects q qs got) ≡ t
            → Stands w t end → Goal
        found j b up high is before t e its =
            let row = search_comes nester slot start near valid_start few_start w base valid few q k placed space (Some (j, number_of_kind (kind_of b)))
            (lowest_first (is_there q) SLOTS (seen_taken nester slot start near valid_start few_start w base valid few q k) k
            (below_none nester slot start near valid_start few_start w base valid few q k) j (j, number_of_kind (kind_of b)) up high
            (found_there nester slot start near valid_start few_start w base valid few q k j b up high is)
            (λ i least less. empty_none nester slot start near valid_start few_start w base valid few q k i (before i least less))) in
            stands_at (Search (space_at slot q) k) reply OK (j ∷ number_of_kind (kind_of b) ∷ []) (Searches k objects q qs got) t end answered row
            (rw (le-leb k j up, le-leb (suc j) SLOTS high) e) its

        by : Scan (is_there q) SLOTS k → Goal
        by (Nobody none listed) =
            let row = search_comes nester slot start near valid_start few_start w base valid few q k placed space None
            (lowest_none (is_there q) SLOTS (seen_taken nester slot start near valid_start few_start w base valid few q k) k
            (below_none nester slot start near valid_start few_start w base valid few q k)
            (λ j up high. empty_none nester slot start near valid_start few_start w base valid few q k j (none j up high))) in
            stands_at (Search (space_at slot q) k) reply NONE [] (Searches k objects q qs got) (Looks 0 objects [] q qs got) end answered row refl (over none)
        by (First j (Space birth holder) up high is before ignored) = found j (Space birth holder) up high is before (Searches (j + 1) objects q qs got) refl
            (passes j birth holder up high is before)
        by (First j (Mutex locked) up high is before ignored) = found j (Mutex locked) up high is before (Reads j objects q qs got) refl
            (reads j (Mutex locked) up high is before refl)
        by (First j Cond up high is before ignored) = found j Cond up high is before (Reads j objects q qs got) refl (reads j Cond up high is before refl)
        by (First j (Mapping m) up high is before ignored) = found j (Mapping m) up high is before (Reads j objects q qs got) refl
            (reads j (Mapping m) up high is before refl)
        by (First j (Region r) up high is before ignored) = found j (Region r) up high is before (Reads j objects q qs got) refl
            (reads j (Region r) up high is before refl)
        by (First j (Port set served) up high is before ignored) = found j (Port set served) up high is before (Reads j objects q qs got) refl
            (reads j (Port set served) up high is before refl)
        by (First j Portset up high is before ignored) = found j Portset up high is before (Reads j objects q qs got) refl
            (reads j Portset up high is before refl)
        by (First j (Thread_of t) up high is before ignored) = found j (Thread_of t) up high is before (Reads j objects q qs got) refl
            (reads j (Thread_of t) up high is before refl)
        by (First j (Reference to) up high is before ignored) = found j (Reference to) up high is before (Reads j objects q qs got) refl
            (reads j (Reference to) up high is before refl)

    -- a record

    record_row : (q : Path) (j : ℕ) (b : Body) → Placed w q → Space_at q → j < SLOTS → is_there q j ≡ Some b →
        call_row w (porter nester no_words) None (GetState (space_at slot q) j 0) ≡ Goes [] (Answered OK (record_of b))
    record_row q j b placed space high is =
        state-row nester no_words w (space_at slot q) j (q ++ root) b (named nester slot start near valid_start few_start w base valid few q placed space)
        (object-there nester no_words w anything (q ++ root) j b b (le-leb j LAST_PORTER_SLOT (omega (arith, high)))
        (same_there nester slot start near valid_start few_start w base valid few q j ∙ is) refl)

    own_record : (j : ℕ) (objects : List Item) (q : Path) (qs : List Path) (got : List Content) (reply : Reply) (end : List Content) → Placed w q → Space_at q
        → j < SLOTS → Object_at q j → Spaces_left qs →
        IsAnswered nester w (GetState (space_at slot q) j 0) no_words reply → with_content got q (objects ++ left_objects q j) (left_pages q 0) qs ≡ end →
        Stands (after w (call_of nester (GetState (space_at slot q) j 0) no_words)) (next slot (Reads j objects q qs got) reply.status reply.words) end
    own_record j objects q qs got reply end placed space high object spaces answered eq =
        let item : Item = record { number = j; words = record_of object.body } in
        let listed : left_objects q j ≡ item ∷ left_objects q (j + 1) =
        listed_first (record_at c q) SLOTS j j (omega arith) high (λ i low less. absurd (omega (arith, low, less)))
        ∙ ap (λ (o : Option (List ℕ)). with_item j o (left_objects q (j + 1))) (record_there q j ∙ (ap record_in object.is ∙ object.has)) in
        stands_at (GetState (space_at slot q) j 0) reply OK (record_of object.body) (Reads j objects q qs got)
        (Searches (j + 1) (objects ++ item ∷ []) q qs got) end answered
        (record_row q j object.body placed space high object.is) refl
        (record {
          base = base;
          position = AtSearches (j + 1) (objects ++ item ∷ []) q qs got placed space (omega (arith, high));
          spaces = spaces;
          end = ap (λ (os : List Item). with_content got q os (left_pages q 0) qs) (pushed objects item (left_objects q (j + 1))
              ∙ ap (λ (os : List Item). objects ++ os) (sym listed)) ∙ eq;
        })

    -- pages

    abbrev seen_page : Path → ℕ → ℕ → Option ℕ
    seen_page q from page = cond (nat_le from page) (option_map {T = List ℕ} {U = ℕ} (λ words. page) (w.page (q ++ root) page)) None

    page_now : (q : Path) (page : ℕ) → w.page (q ++ root) page ≡ c.page q page
    page_now q page = base.inside.pages q page ∙ sym (page_there q page)

    page_below : (q : Path) (from page : ℕ) → page < from → seen_page q from page ≡ None
    page_below q from page less = by (nat_le from page) refl
      where
        by : (t : Bool) → nat_le from page ≡ t → cond t (option_map {T = List ℕ} {U = ℕ} (λ words. page) (w.page (q ++ root) page)) None ≡ None
        by true e = let most = leb-true from page e in absurd (omega (arith, most, less))
        by false e = refl

    page_none : (q : Path) (from page : ℕ) → c.page q page ≡ None → seen_page q from page ≡ None
    page_none q from page e = ap (λ (o : Option (List ℕ)). cond (nat_le from page) (option_map {T = List ℕ} {U = ℕ} (λ words. page) o) None) (page_now q page
        ∙ e) ∙ by (nat_le from page)
      where
        by : (t : Bool) → cond t (option_map {T = List ℕ} {U = ℕ} (λ words. page) None) None ≡ None
        by true = refl
        by false = refl

    page_found : (q : Path) (from page : ℕ) (words : List ℕ) → from ≤ page → c.page q page ≡ Some words → seen_page q from page ≡ Some page
    page_found q from page words low e = rw (le-leb from page low, page_now q page ∙ e) refl

    pages_row : (q : Path) (from : ℕ) → Placed w q → Space_at q → (o : Option ℕ) → lowest PAGES (seen_page q from) ≡ o →
        call_row w (porter nester no_words) None (PageNext (space_at slot q) from) ≡ page_as nester no_words w o
    unfolding next_page
    pages_row q from placed space o e =
        page_next-row nester no_words w (space_at slot q) from (q ++ root)
        (named nester slot start near valid_start few_start w base valid few q placed space) ∙ ap (page_as nester no_words w) e

    own_pages : (from : ℕ) (objects pages : List Item) (q : Path) (qs : List Path) (got : List Content) (reply : Reply) (end : List Content) → Placed w q
        → Space_at q → from ≤ PAGES → Spaces_left qs →
        IsAnswered nester w (PageNext (space_at slot q) from) no_words reply → with_content got q objects (pages ++ left_pages q from) qs ≡ end →
        Stands (after w (call_of nester (PageNext (space_at slot q) from) no_words)) (looked slot from objects pages q qs got reply.status reply.words) end
    own_pages from objects pages q qs got reply end placed space low spaces answered eq = by (scan (c.page q) PAGES from low)
      where
        Goal : Type 0
        Goal = Stands (after w (call_of nester (PageNext (space_at slot q) from) no_words))
            (looked slot from objects pages q qs got reply.status reply.words) end

        ended : ((i : ℕ) → from ≤ i → i < PAGES → c.page q i ≡ None)
            → Stands w (begin slot qs (got ++ record { path = q; objects = objects; pages = pages } ∷ [])) end
        ended none =
            let all : pages ≡ pages ++ left_pages q from = sym (none_more pages)
            ∙ ap (λ (ps : List Item). pages ++ ps) (sym (listed_none (c.page q) PAGES from low none)) in
            subst (λ (end : List Content). Stands w (begin slot qs (got ++ record { path = q; objects = objects; pages = pages } ∷ [])) end)
            (pushed got (record { path = q; objects = objects; pages = pages }) (map (content c) qs)
            ∙ (ap (λ (ps : List Item). with_content got q objects ps qs) all ∙ eq))
            (begins w qs (got ++ record { path = q; objects = objects; pages = pages } ∷ []) base spaces)

        by : Scan (c.page q) PAGES from → Goal
        by (Nobody none ignored) =
            stands_at (PageNext (space_at slot q) from) reply NONE [] (Looks from objects pages q qs got)
            (begin slot qs (got ++ record { path = q; objects = objects; pages = pages } ∷ [])) end answered
            (pages_row q from placed space None (lowest_none (c.page q) PAGES (seen_page q from) from (page_below q from)
            (λ j up high. page_none q from j (none j up high)))) refl (ended none)
        by (First j words up high is before ignored) =
            stands_at (PageNext (space_at slot q) from) reply OK (j ∷ []) (Looks from objects pages q qs got) (Copies j objects pages q qs got) end answered
            (pages_row q from placed space (Some j)
            (lowest_first (c.page q) PAGES (seen_page q from) from (page_below q from) j j up high (page_found q from j words up is)
            (λ i least less. page_none q from i (before i least less))))
            (rw (le-leb from j up, le-leb (suc j) PAGES high) refl)
            (record {
              base = base;
              position = AtCopies j objects pages q qs got words placed space high is;
              spaces = spaces;
              end = ap (λ (ps : List Item). with_content got q objects (pages ++ ps) qs)
                  (listed_first (c.page q) PAGES j j (omega arith) high (λ i low less. absurd (omega (arith, low, less)))
                  ∙ sym (listed_first (c.page q) PAGES from j up high before)) ∙ eq;
            })

    page_row : (q : Path) (page : ℕ) (words : List ℕ) → Placed w q → Space_at q → page < PAGES → c.page q page ≡ Some words →
        call_row w (porter nester no_words) None (PageRead (space_at slot q) page 0) ≡ Goes [] (Answered OK words)
    page_row q page words placed space high is =
        page_read-row nester no_words w (space_at slot q) page (q ++ root) words
        (named nester slot start near valid_start few_start w base valid few q placed space) (le-leb (suc page) PAGES high) (page_now q page ∙ is)

    own_page : (page : ℕ) (objects pages : List Item) (q : Path) (qs : List Path) (got : List Content) (words : List ℕ) (reply : Reply) (end : List Content)
        → Placed w q → Space_at q → page < PAGES →
        c.page q page ≡ Some words → Spaces_left qs → IsAnswered nester w (PageRead (space_at slot q) page 0) no_words reply
        → with_content got q objects (pages ++ left_pages q page) qs ≡ end →
        Stands (after w (call_of nester (PageRead (space_at slot q) page 0) no_words))
        (next slot (Copies page objects pages q qs got) reply.status reply.words) end
    own_page page objects pages q qs got words reply end placed space high is spaces answered eq =
        let item : Item = record { number = page; words = words } in
        let listed : left_pages q page ≡ item ∷ left_pages q (page + 1) =
        listed_first (c.page q) PAGES page page (omega arith) high (λ i low less. absurd (omega (arith, low, less)))
        ∙ ap (λ (o : Option (List ℕ)). with_item page o (left_pages q (page + 1))) is in
        stands_at (PageRead (space_at slot q) page 0) reply OK words (Copies page objects pages q qs got)
        (Looks (page + 1) objects (pages ++ item ∷ []) q qs got) end answered
        (page_row q page words placed space high is) refl
        (record {
          base = base;
          position = AtLooks (page + 1) objects (pages ++ item ∷ []) q qs got placed space (omega (arith, high));
          spaces = spaces;
          end = ap (λ (ps : List Item). with_content got q objects ps qs) (pushed pages item (left_pages q (page + 1))
              ∙ ap (λ (ps : List Item). pages ++ ps) (sym listed)) ∙ eq;
        })

    -- ---- each call comes to something

    comes_pages : (q : Path) (from : ℕ) → Placed w q → Space_at q → Comes nester w (PageNext (space_at slot q) from)
    comes_pages q from placed space = by (lowest PAGES (seen_page q from)) refl
      where
        by : (o : Option ℕ) → lowest PAGES (seen_page q from) ≡ o → Comes nester w (PageNext (space_at slot q) from)
        by None e = record { changes = []; status = NONE; given = []; row = pages_row q from placed space None e; mild = Changes_nothing }
        by (Some page) e = record { changes = []; status = OK; given = page ∷ []; row = pages_row q from placed space (Some page) e; mild = Changes_nothing }

    abbrev asking : Stage → List ℕ → Head (List Content)
    asking stage words = Asks stage words

    asked : (stage other : Stage) (words given : List ℕ) → asking stage words ≡ Asks other given → (P : Stage → List ℕ → Type 0) → P stage words → P other given
    asked stage other words given e P p =
        let stages : stage ≡ other = cc in
        let same : words ≡ given = cc in
        subst (λ (ws : List ℕ). P other ws) same (subst (λ (st : Stage). P st words) stages p)

    pub comes_next : (s : State) (stage : Stage) (words : List ℕ) → Position w s → head slot s ≡ Asks stage words → ComesWith nester w stage words
    comes_next _ stage words (AtDown from way ways j q qs got at p h inside is space) asks =
        asked (Point OWN_SPACE PLACES from way) stage no_words words asks (λ st ws. ComesWith nester w st ws)
        (refl, comes_down nester slot start near valid_start few_start w base valid few from way ways j q at h is space)
    comes_next _ stage words (AtSearches k objects q qs got placed space low) asks =
        asked (Search (space_at slot q) k) stage no_words words asks (λ st ws. ComesWith nester w st ws)
        (refl, comes_search nester slot start near valid_start few_start w base valid few q k placed space)
    comes_next _ stage words (AtReads j objects q qs got placed space high object) asks =
        asked (GetState (space_at slot q) j 0) stage no_words words asks (λ st ws. ComesWith nester w st ws) (
          refl,
          record {
            changes = [];
            status = OK;
            given = record_of object.body;
            row = record_row q j object.body placed space high object.is;
            mild = Changes_nothing;
          },
        )
    comes_next _ stage words (AtLooks from objects pages q qs got placed space low) asks =
        asked (PageNext (space_at slot q) from) stage no_words words asks (λ st ws. ComesWith nester w st ws) (refl, comes_pages q from placed space)
    comes_next _ stage words (AtCopies page objects pages q qs got found placed space high is) asks =
        asked (PageRead (space_at slot q) page 0) stage no_words words asks (λ st ws. ComesWith nester w st ws)
        (refl, record { changes = []; status = OK; given = found; row = page_row q page found placed space high is; mild = Changes_nothing })
    comes_next _ stage words (AtOver got) asks = cc

  -- ---- the whole

  pub own : (w : World) (s : State) (stage : Stage) (words : List ℕ) (reply : Reply) (end : List Content) → Stands w s end → head slot s ≡ Asks stage words
      → IsAnswered nester w stage words reply →
      Stands (after w (call_of nester stage words)) (next slot s reply.status reply.words) end
  own w s stage words reply end its asks answered = by s its.position its.spaces its.end asks answered
    where
      Goal : State → Stage → List ℕ → Type 0
      Goal s st ws = IsAnswered nester w st ws reply → Stands (after w (call_of nester st ws)) (next slot s reply.status reply.words) end

      go : (stage other : Stage) (words given : List ℕ) → asking w its.base answered.valid answered.few stage words ≡ Asks other given
          → (P : Stage → List ℕ → Type 0) → P stage words → P other given
      go = asked w its.base answered.valid answered.few

      by : (s : State) → Position w s → Spaces_left (rest_of s) → ends s ≡ end → head slot s ≡ Asks stage words → Goal s stage words
      by _ (AtDown from way ways j q qs got at p h inside is space) spaces eq asks =
          go (Point OWN_SPACE PLACES from way) stage no_words words asks (Goal (Down from (way ∷ ways) (j ∷ q) qs got))
          (λ mine. own_down w its.base mine.valid mine.few from way ways j q qs got at p reply end h inside is space spaces mine eq)
      by _ (AtSearches k objects q qs got placed space low) spaces eq asks =
          go (Search (space_at slot q) k) stage no_words words asks (Goal (Searches k objects q qs got))
          (λ mine. own_search w its.base mine.valid mine.few k objects q qs got reply end placed space low spaces mine eq)
      by _ (AtReads j objects q qs got placed space high object) spaces eq asks =
          go (GetState (space_at slot q) j 0) stage no_words words asks (Goal (Reads j objects q qs got))
          (λ mine. own_record w its.base mine.valid mine.few j objects q qs got reply end placed space high object spaces mine eq)
      by _ (AtLooks from objects pages q qs got placed space low) spaces eq asks =
          go (PageNext (space_at slot q) from) stage no_words words asks (Goal (Looks from objects pages q qs got))
          (λ mine. own_pages w its.base mine.valid mine.few from objects pages q qs got reply end placed space low spaces mine eq)
      by _ (AtCopies page objects pages q qs got found placed space high is) spaces eq asks =
          go (PageRead (space_at slot q) page 0) stage no_words words asks (Goal (Copies page objects pages q qs got))
          (λ mine. own_page w its.base mine.valid mine.few page objects pages q qs got found reply end placed space high is spaces mine eq)
      by _ (AtOver got) spaces eq asks = cc

  pub arrives : (w v : World) (s t : State) (es : List Event) (end : List Content) → Stands w s end → Interleaved (reader slot) nester w s es v t
      → Stands v t end
  arrives _ _ _ _ _ end its (Here w s sound) = its
  arrives _ v _ t _ end its (Another w s e es _ _ sound works moves rest) =
      arrives (after w e) v s t es end (others w e s end moves (first_sound (reader slot) nester (after w e) s es v t rest).whole.few its) rest
  arrives _ v _ t _ end its (Own w s stage words es _ _ sound asks ready rest) =
      arrives (after w (call_of nester stage words)) v (heard (reader slot) s (said_of w (call_of nester stage words))) t es end
      (own w s stage words (reply_of (said_of w (call_of nester stage words))) end its asks
      (record { valid = sound.whole.valid; few = sound.whole.few; ready = ready; said = refl })) rest

  pub finds : (w : World) (s : State) (got end : List Content) → Stands w s end → head slot s ≡ Stops got → got ≡ end
  finds w s got end its stops = by s its.position its.end stops
    where
      by : (s : State) → Position w s → ends s ≡ end → head slot s ≡ Stops got → got ≡ end
      by _ (AtDown from way ways j q qs found at p h inside is space) e stops = cc
      by _ (AtSearches k objects q qs found placed space low) e stops = cc
      by _ (AtReads j objects q qs found placed space high object) e stops = cc
      by _ (AtLooks from objects pages q qs found placed space low) e stops = cc
      by _ (AtCopies page objects pages q qs found words placed space high is) e stops = cc
      by _ (AtOver found) e stops = let same : found ≡ got = cc in sym same ∙ e

  -- spaces of the cut are spaces
  pub spaces_of : (qs : List Path) → ((q : Path) → IsIn q qs → kind_there c q ≡ Some kinds.Space) → Spaces_left qs
  unfolding kind_there
  spaces_of [] h = tt
  spaces_of (q ∷ qs) h = (sym (kind_seen nester slot start near valid_start few_start q) ∙ h q (inl refl), spaces_of qs (λ x is. h x (inr is)))

pub spaces_are_read : SpacesAreRead
spaces_are_read nester slot w v t es got qs holding sound scratched spaces run stops =
    let near = (root_is nester slot w holding sound.whole.valid).0 in
    let base = first_base nester slot w holding near scratched in
    let first = begins nester slot w near sound.whole.valid sound.whole.few w qs [] base
    (spaces_of nester slot w near sound.whole.valid sound.whole.few qs spaces) in
    finds nester slot w near sound.whole.valid sound.whole.few v t got (map (content (cut w nester slot)) qs)
    (arrives nester slot w near sound.whole.valid sound.whole.few w v (begin slot qs []) t es (map (content (cut w nester slot)) qs) first run) stops
