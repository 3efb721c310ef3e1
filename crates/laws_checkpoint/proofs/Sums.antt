-- How much a subtree has in it, summed over its objects: what is spent on each, and how often each is come to.
use Rattle.std.proofs.Common.{◌≡◌, ℕ, zero, suc, ◌+◌, ◌-◌, ◌*◌, ◌≤◌, Bool, true, false, cond, ◌==◌, is_some, IsSome, List, [], ◌∷◌, ◌++◌, map, filter, length}
use Rattle.std.proofs.Common.{Option, Some, None, refl, sym, ap, arith, ◌∙◌, inl, inr, length-append}
use Rattle.std.specs.List.{flat_map}
use Rattle.std.proofs.Math.Nat.{suc-mul, mul-suc, add-mul}
use Rattle.fk_model.specs.declared.limits.TheConstants.{SLOTS}
use Rattle.fk_model.specs.declared.names.Kind.TheVariants as kinds
use Rattle.fk_model.specs.Places.{Path}
use Rattle.fk_model.specs.Objects.{Body, number_of_kind}
use Rattle.fk_model.specs.Objects.Body.{Mutex, Cond, Mapping, Region, Port, Portset, Space, Thread_of, Reference}
use Rattle.fk_model.specs.World.{World}
use Rattle.fk_model.specs.Records.{word}
use Rattle.fk_model.specs.Searches.{slots, residents, beneath_by, beneath, objects, depth}
use Rattle.fk_model.specs.Valid.{IsValid}
use Rattle.fk_model.specs.Closed.{far_field}
use Rattle.fk_model.specs.Cut.{cut}
use Rattle.fk_model.proofs.walks.Members.{IsIn, of_filter}
use Rattle.fk_model.proofs.walks.WalkLaws.{short}
use Rattle.laws_jobs.specs.Machines.{LiesWithin}
use Rattle.laws_checkpoint.specs.Foreign.{Task, task_of, fields_of, costs}
use Rattle.laws_checkpoint.specs.Walk.{Met, met}
use Rattle.laws_checkpoint.specs.Contents.{Item, Content, with_item, items_from, record_in, record_at, content}
use Rattle.laws_checkpoint.specs.Assembly.{spaces_met, sought_tasks, pointers_by, item_task, holder_task, content_tasks, gathered_tasks}
use Rattle.laws_checkpoint.specs.Bounded.{sum_of, pages_in, count_of}
use Rattle.laws_checkpoint.proofs.Scans.{rising, slots_rise}
use Rattle.laws_checkpoint.proofs.Preorder.{is_space_in, met_are}
use Rattle.laws_checkpoint.proofs.Tasks.{sought_are}
use Rattle.laws_checkpoint.proofs.Sought.{preorder_live}
use Rattle.laws_checkpoint.proofs.Spending.{weigh, field, gather_costs}
use Rattle.laws_checkpoint.proofs.Walks.{some_seen, residents_rise, scan_filter}
use Rattle.laws_checkpoint.proofs.Reading.{residents_from, sizes}

-- ---- products

pub weigh-is : {A : Type 0} (m : ℕ) (xs : List A) → weigh m xs ≡ length xs * m
weigh-is m [] = omega arith
weigh-is m (x ∷ xs) = let rest = weigh-is m xs in let product = suc-mul (length xs) m in omega (arith, rest, product)

weigh-most : {A : Type 0} (m e : ℕ) (xs : List A) → m ≤ 13 * e → weigh m xs ≤ 13 * weigh e xs
weigh-most m e [] low = omega arith
weigh-most m e (x ∷ xs) low = let rest = weigh-most m e xs low in omega (arith, rest, low)

weigh-map : {A B : Type 0} (m : ℕ) (f : A → B) (xs : List A) → weigh m (map f xs) ≡ weigh m xs
weigh-map m f [] = refl
weigh-map m f (x ∷ xs) = ap (λ n. m + n) (weigh-map m f xs)

weigh-filter : (m : ℕ) (test : Path → Bool) (xs : List Path) → weigh m (filter test xs) ≤ weigh m xs
weigh-filter m test [] = omega arith
weigh-filter m test (x ∷ xs) = by (test x) (weigh-filter m test xs)
  where
    by : (t : Bool) → weigh m (filter test xs) ≤ weigh m xs → weigh m (cond t (x ∷ filter test xs) (filter test xs)) ≤ m + weigh m xs
    by true rest = omega (arith, rest)
    by false rest = omega (arith, rest)

sum-filter : (f : Path → ℕ) (test : Path → Bool) (xs : List Path) → sum_of f (filter test xs) ≤ sum_of f xs
sum-filter f test [] = omega arith
sum-filter f test (x ∷ xs) = by (test x) (sum-filter f test xs)
  where
    by : (t : Bool) → sum_of f (filter test xs) ≤ sum_of f xs → sum_of f (cond t (x ∷ filter test xs) (filter test xs)) ≤ f x + sum_of f xs
    by true rest = omega (arith, rest)
    by false rest = omega (arith, rest)

sum-append : (f : Path → ℕ) (xs ys : List Path) → sum_of f (xs ++ ys) ≡ sum_of f xs + sum_of f ys
sum-append f [] ys = omega arith
sum-append f (x ∷ xs) ys = let rest = sum-append f xs ys in omega (arith, rest)

times-more : (a b e : ℕ) → a ≤ b → a * e ≤ b * e
times-more zero b e low = omega arith
times-more (suc a) zero e low = absurd (omega (arith, low))
times-more (suc a) (suc b) e low =
    let rest = times-more a b e (omega (arith, low)) in
    let one = suc-mul a e in
    let two = suc-mul b e in
    omega (arith, rest, one, two)

-- ---- every object stands in one space

module _ (c : World) where
  abbrev pub crowd : Path → ℕ
  crowd q = length (residents c q)

  abbrev stretch : ℕ → Path → ℕ → List Path
  stretch n s j = (j ∷ s) ∷ beneath_by n c (j ∷ s)

  one-each : (s : Path) (ks : List ℕ) → length (flat_map (stretch zero s) ks) ≡ length ks
  unfolding beneath_by
  one-each s [] = refl
  one-each s (k ∷ ks) = ap suc (one-each s ks)

  crowds : (n : ℕ) (s : Path) → sum_of crowd (beneath_by n c s) + crowd s ≡ length (beneath_by (suc n) c s)
  unfolding beneath_by
  crowds zero s = let ones = one-each s (residents c s) in omega (arith, ones)
  crowds (suc n) s = by (λ k. crowds n (k ∷ s)) (residents c s)
    where
      by : ((k : ℕ) → sum_of crowd (beneath_by n c (k ∷ s)) + crowd (k ∷ s) ≡ length (beneath_by (suc n) c (k ∷ s))) → (ks : List ℕ)
          → sum_of crowd (flat_map (stretch n s) ks) + length ks ≡ length (flat_map (stretch (suc n) s) ks)
      by each [] = omega arith
      by each (k ∷ ks) =
          let rest = by each ks in
          let here = each k in
          let both = sum-append crowd (beneath_by n c (k ∷ s)) (flat_map (stretch n s) ks) in
          let long = length-append (beneath_by (suc n) c (k ∷ s)) (flat_map (stretch (suc n) s) ks) in
          omega (arith, rest, here, both, long)

  module _ (bottom : ℕ) (none : (k : ℕ) (s : Path) → length s ≡ bottom → c.body (k ∷ s) ≡ None) where
    nobody : (s : Path) → length s ≡ bottom → (ks : List ℕ) → filter (λ j. is_some (c.body (j ∷ s))) ks ≡ []
    nobody s deep [] = refl
    nobody s deep (k ∷ ks) = rw (none k s deep) (nobody s deep ks)

    no-deeper : (n : ℕ) (s : Path) → length s + n ≡ bottom → length (beneath_by (suc n) c s) ≤ length (beneath_by n c s)
    unfolding beneath_by residents
    no-deeper zero s deep = let is = ap (λ (ks : List ℕ). length (flat_map (stretch zero s) ks)) (nobody s (omega (arith, deep)) (slots SLOTS)) in
        omega (arith, is)
    no-deeper (suc n) s deep = by (λ k. no-deeper n (k ∷ s) (omega (arith, deep))) (residents c s)
      where
        by : ((k : ℕ) → length (beneath_by (suc n) c (k ∷ s)) ≤ length (beneath_by n c (k ∷ s))) → (ks : List ℕ)
            → length (flat_map (stretch (suc n) s) ks) ≤ length (flat_map (stretch n s) ks)
        by each [] = omega arith
        by each (k ∷ ks) =
            let rest = by each ks in
            let here = each k in
            let one = length-append (beneath_by (suc n) c (k ∷ s)) (flat_map (stretch (suc n) s) ks) in
            let two = length-append (beneath_by n c (k ∷ s)) (flat_map (stretch n s) ks) in
            omega (arith, rest, here, one, two)

    pub all-crowds : sum_of crowd (beneath_by bottom c []) + crowd [] ≤ length (beneath_by bottom c [])
    all-crowds = let all = crowds bottom [] in let most = no-deeper bottom [] (omega arith) in omega (arith, all, most)

  -- ---- how deep

  abbrev pub AllWithin : ℕ → List Path → Type 0
  AllWithin d [] = Unit {0}
  AllWithin d (q ∷ qs) = (length q ≤ d) × AllWithin d qs

  pub all_within : (d : ℕ) (qs : List Path) → ((q : Path) → IsIn q qs → length q ≤ d) → AllWithin d qs
  all_within d [] h = tt
  all_within d (q ∷ qs) h = (h q (inl refl), all_within d qs (λ x is. h x (inr is)))

  -- ---- a seeker's tasks

  fields-few : (o : Option Body) → length (fields_of o) ≤ 2
  fields-few None = omega arith
  fields-few (Some (Mutex locked)) = omega arith
  fields-few (Some Cond) = omega arith
  fields-few (Some (Mapping m)) = omega arith
  fields-few (Some (Region r)) = omega arith
  fields-few (Some (Port set served)) = omega arith
  fields-few (Some Portset) = omega arith
  fields-few (Some (Space birth holder)) = omega arith
  fields-few (Some (Thread_of t)) = omega arith
  fields-few (Some (Reference to)) = omega arith

  task-few : (d : ℕ) (q : Path) → length q ≤ d → length (task_of c q).path + 3 * length (task_of c q).fields + 1 ≤ d + 7
  task-few d [] low = omega arith
  task-few d (k ∷ q) low = let few = fields-few (c.body (k ∷ q)) in omega (arith, low, few)

  pub tasks-few : (d : ℕ) (qs : List Path) → AllWithin d qs → costs (map (task_of c) qs) ≤ weigh (d + 7) qs
  tasks-few d [] h = omega arith
  tasks-few d (q ∷ qs) h = let one = task-few d q h.0 in let rest = tasks-few d qs h.1 in omega (arith, one, rest)

  -- ---- what stands in a space

  items-few : (q : Path) (n k : ℕ) → length (items_from (record_at c q) n k) ≤ length (filter (λ j. is_some (c.body (j ∷ q))) (rising n k))
  unfolding items_from rising
  items-few q zero k = omega arith
  items-few q (suc n) k = by (c.body (k ∷ q)) (items-few q n (suc k))
    where
      rest_items : List Item
      rest_items = items_from (record_at c q) n (suc k)

      rest_slots : List ℕ
      rest_slots = filter (λ j. is_some (c.body (j ∷ q))) (rising n (suc k))

      with_one : (o : Option (List ℕ)) → length rest_items ≤ length rest_slots → length (with_item k o rest_items) ≤ suc (length rest_slots)
      with_one None few = omega (arith, few)
      with_one (Some words) few = omega (arith, few)

      by : (o : Option Body) → length rest_items ≤ length rest_slots
          → length (with_item k (record_in o) rest_items) ≤ length (cond (is_some o) (k ∷ rest_slots) rest_slots)
      by None few = omega (arith, few)
      by (Some b) few = with_one (record_in (Some b)) few

  objects-few : (q : Path) → length (content c q).objects ≤ crowd q
  unfolding residents
  objects-few q =
      let few = items-few q SLOTS 0 in
      let is = ap (λ (ks : List ℕ). length (filter (λ j. is_some (c.body (j ∷ q))) ks)) (slots_rise SLOTS) in
      omega (arith, few, is)

  -- ---- a gatherer's tasks

  module _ (slot d most : ℕ) where
    abbrev each : ℕ
    each = field slot d most

    costs-append : (xs ys : List Task) → gather_costs slot d most (xs ++ ys) ≡ gather_costs slot d most xs + gather_costs slot d most ys
    costs-append [] ys = omega arith
    costs-append (x ∷ xs) ys = let rest = costs-append xs ys in omega (arith, rest)

    four : (kind : ℕ) → weigh each (pointers_by kind) ≤ 4 * each
    four kind = by (kind == number_of_kind kinds.Thread) (kind == number_of_kind kinds.Mapping) (kind == number_of_kind kinds.Region) (kind
        == number_of_kind kinds.Reference)
      where
        by : (a b e f : Bool) → weigh {A = ℕ} each (cond a (0 ∷ 1 ∷ 2 ∷ 3 ∷ []) (cond b (0 ∷ []) (cond e (0 ∷ []) (cond f (0 ∷ []) [])))) ≤ 4 * each
        by true b e f = omega arith
        by false true e f = omega arith
        by false false true f = omega arith
        by false false false true = omega arith
        by false false false false = omega arith

    items-cost : (q : Path) (is : List Item) → length q ≤ d → gather_costs slot d most (map (item_task q) is) ≤ weigh (d + 1 + 4 * each) is
    items-cost q [] low = omega arith
    items-cost q (i ∷ is) low = let rest = items-cost q is low in let one = four (word i.words 0) in omega (arith, rest, one, low)

    holder-cost : (q : Path) → length q ≤ d → gather_costs slot d most (holder_task q) ≤ d + each
    holder-cost [] low = omega arith
    holder-cost (k ∷ q) low = omega (arith, low)

    abbrev item_most : ℕ
    item_most = d + 1 + 4 * each

    weigh-fewer : (m : ℕ) (is : List Item) (ks : List ℕ) → length is ≤ length ks → weigh m is ≤ weigh m ks
    weigh-fewer m [] ks low = omega arith
    weigh-fewer m (i ∷ is) [] low = absurd (omega (arith, low))
    weigh-fewer m (i ∷ is) (k ∷ ks) low = let rest = weigh-fewer m is ks (omega (arith, low)) in omega (arith, rest)

    content-cost : (q : Path) → length q ≤ d → gather_costs slot d most (content_tasks (content c q)) ≤ (d + each) + weigh item_most (residents c q)
    content-cost q low =
        let both = costs-append (holder_task q) (map (item_task q) (content c q).objects) in
        let one = holder-cost q low in
        let two = items-cost q (content c q).objects low in
        let three = weigh-fewer item_most (content c q).objects (residents c q) (objects-few q) in
        omega (arith, both, one, two, three)

    contents-cost : (qs : List Path) → AllWithin d qs
        → gather_costs slot d most (gathered_tasks (map (content c) qs)) ≤ weigh (d + each) qs + sum_of (λ q. weigh item_most (residents c q)) qs
    contents-cost [] h = omega arith
    contents-cost (q ∷ qs) h =
        let both = costs-append (content_tasks (content c q)) (gathered_tasks (map (content c) qs)) in
        let one = content-cost q h.0 in
        let rest = contents-cost qs h.1 in
        omega (arith, both, one, rest)

    crowds-weigh : (e : ℕ) (qs : List Path) → item_most ≤ 13 * e → sum_of (λ q. weigh item_most (residents c q)) qs ≤ 13 * (sum_of crowd qs * e)
    crowds-weigh e [] low = omega arith
    crowds-weigh e (q ∷ qs) low =
        let rest = crowds-weigh e qs low in
        let one = weigh-most item_most e (residents c q) low in
        let is = weigh-is e (residents c q) in
        let both = add-mul (crowd q) (sum_of crowd qs) e in
        omega (arith, rest, one, is, both)

-- ---- a held subtree

module _ (nester : Path) (slot : ℕ) (start : World) (near : far_field ((cut start nester slot).body []) ≡ None) (valid_start : IsValid start)
    (few_start : start.next ≤ depth) where
  abbrev shown : World
  shown = cut start nester slot

  crowd_is : (q : Path) → residents_from nester slot start near valid_start few_start q 0 ≡ crowd shown q
  crowd_is q =
      ap (λ (ks : List ℕ). length ks) (sym (residents_rise nester slot start near valid_start few_start q
      ∙ scan_filter nester slot start near valid_start few_start q (SLOTS - 0) 0))

  size-few : (d : ℕ) (q : Path) → length q ≤ d → sizes nester slot start near valid_start few_start (content shown q ∷ []) ≤
      (d + 3) + 2 * crowd shown q + 2 * pages_in shown q
  size-few d q low = let is = crowd_is q in let few = objects-few shown q in omega (arith, low, is, few)

  pub sizes-few : (d : ℕ) (qs : List Path) → AllWithin shown d qs →
      sizes nester slot start near valid_start few_start (map (content shown) qs) ≤ weigh (d + 3) qs + 2 * sum_of (crowd shown) qs + 2 * sum_of
      (pages_in shown) qs
  sizes-few d [] h = omega arith
  sizes-few d (q ∷ qs) h = let one = size-few d q h.0 in let rest = sizes-few d qs h.1 in omega (arith, one, rest)

  -- nothing stands deeper than there are birth numbers
  none_deep : (k : ℕ) (s : Path) → length s ≡ depth → shown.body (k ∷ s) ≡ None
  none_deep k s deep = by (shown.body (k ∷ s)) (some_seen nester slot start near valid_start few_start (k ∷ s))
    where
      too_long : is_some (start.body ((k ∷ s) ++ slot ∷ nester)) ≡ true → ⊥
      too_long live =
          let long = short start valid_start.consistent ((k ∷ s) ++ slot ∷ nester) live in
          let both = length-append s (slot ∷ nester) in
          omega (arith, long, both, deep, few_start)

      by : (o : Option Body) → is_some o ≡ is_some (start.body ((k ∷ s) ++ slot ∷ nester)) → o ≡ None
      by None e = refl
      by (Some b) e = absurd (too_long (sym e))

  pub all_crowds : sum_of (crowd shown) (objects shown) + crowd shown [] ≤ length (objects shown)
  unfolding beneath
  all_crowds = all-crowds shown depth none_deep

  module _ (root_there : IsSome (shown.body [])) (d : ℕ) (deep : LiesWithin shown d) (most : ℕ) where
    abbrev all : List Path
    all = [] ∷ objects shown

    abbrev mets : List Met
    mets = map (met shown) (objects shown)

    abbrev contents : List Content
    contents = map (content shown) (spaces_met mets)

    low_all : AllWithin shown d all
    low_all = all_within shown d all (λ q is. deep q (preorder_live start nester slot root_there q is))

    abbrev spaces : List Path
    spaces = [] ∷ filter (is_space_in shown) (objects shown)

    low_spaces : AllWithin shown d spaces
    low_spaces = all_within shown d spaces (λ q is. deep q (preorder_live start nester slot root_there q (among q is)))
      where
        among : (q : Path) → IsIn q spaces → IsIn q all
        among q (inl e) = inl e
        among q (inr is) = inr (of_filter (is_space_in shown) q (objects shown) is).0

    are_contents : contents ≡ map (content shown) spaces
    are_contents = ap (λ (qs : List Path). map (content shown) ([] ∷ qs)) (met_are shown (objects shown))

    abbrev e : ℕ
    e = suc d

    -- objects, and objects times the depth
    abbrev n : ℕ
    n = length (objects shown)

    abbrev p : ℕ
    p = sum_of (pages_in shown) all

    walk-most : weigh (d + 6) mets ≤ 13 * (n * e)
    walk-most =
        let same = weigh-map (d + 6) (met shown) (objects shown) in
        let low = weigh-most (d + 6) e (objects shown) (omega arith) in
        let is = weigh-is e (objects shown) in
        omega (arith, same, low, is)

    weigh-all : (m : ℕ) → m ≤ 13 * e → weigh m all ≤ 13 * (e + n * e)
    weigh-all m low = let most = weigh-most m e all low in let is = weigh-is e (objects shown) in omega (arith, most, is)

    seek-most : costs (sought_tasks mets) ≤ 13 * (e + n * e)
    seek-most =
        let is = ap costs (sought_are shown) in
        let few = tasks-few shown d all low_all in
        let low = weigh-all (d + 7) (omega arith) in
        omega (arith, is, few, low)

    spaces-crowd : sum_of (crowd shown) spaces ≤ n
    spaces-crowd =
        let few = sum-filter (crowd shown) (is_space_in shown) (objects shown) in
        let sum = all_crowds in
        omega (arith, few, sum)

    read-most : sizes nester slot start near valid_start few_start contents ≤ 13 * (e + n * e) + 2 * n + 2 * p
    read-most =
        let is = ap (sizes nester slot start near valid_start few_start) are_contents in
        let few = sizes-few d spaces low_spaces in
        let low = weigh-all (d + 3) (omega arith) in
        let fewer = weigh-filter (d + 3) (is_space_in shown) (objects shown) in
        let crowd_few = spaces-crowd in
        let pages = sum-filter (pages_in shown) (is_space_in shown) (objects shown) in
        omega (arith, is, few, low, fewer, crowd_few, pages)

    gather-most : gather_costs slot d most (gathered_tasks contents) ≤ 13 * (e + n * e) + 13 * (n * e)
    gather-most =
        let is = ap (λ (cs : List Content). gather_costs slot d most (gathered_tasks cs)) are_contents in
        let few = contents-cost shown slot d most spaces low_spaces in
        let low = weigh-all (d + field slot d most) (omega arith) in
        let fewer = weigh-filter (d + field slot d most) (is_space_in shown) (objects shown) in
        let weighed = crowds-weigh shown slot d most e spaces (omega arith) in
        let times = times-more (sum_of (crowd shown) spaces) n e spaces-crowd in
        omega (arith, is, few, low, fewer, weighed, times)

    count_is : count_of shown ≡ suc n + p
    count_is = ones all
      where
        ones : (qs : List Path) → sum_of (λ q. 1 + pages_in shown q) qs ≡ length qs + sum_of (pages_in shown) qs
        ones [] = refl
        ones (q ∷ qs) = let rest = ones qs in omega (arith, rest)

    -- all together
    pub all-most : 9 + weigh (d + 6) mets + costs (sought_tasks mets) + sizes nester slot start near valid_start few_start contents + gather_costs slot d most
        (gathered_tasks contents)
        ≤ 100 * ((count_of shown + 1) * (d + 1))
    all-most =
        let walk = walk-most in
        let seek = seek-most in
        let read = read-most in
        let gather = gather-most in
        let count = count_is in
        let is : (count_of shown + 1) * (d + 1) ≡ suc (suc n + p) * e = ap (λ k. (k + 1) * (d + 1)) count
        ∙ (ap (λ k. k * (d + 1)) (omega arith) ∙ ap (λ k. suc (suc n + p) * k) (omega arith)) in
        let one = suc-mul (suc n + p) e in
        let two = add-mul (suc n) p e in
        let three = suc-mul n e in
        let four = mul-suc n d in
        let five = mul-suc p d in
        omega (arith, walk, seek, read, gather, is, one, two, three, four, five)
