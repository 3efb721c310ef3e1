-- QuietLaws: a body changes where it stands, and leads where it led.
use Rattle.std.proofs.Common.{◌≡◌, ◌≢◌, ℕ, ◌+◌, ◌*◌, ◌/◌, ◌%◌, ◌≤◌, Bool, true, false, cond, ◌==◌, length, nat_lt, List, Option, Some, None, IsSome}
use Rattle.std.proofs.Common.{option_map, ◌⊎◌, inl, inr, refl, sym, ap, subst, ◌∙◌, arith}
use Rattle.std.proofs.lemmas.Bool.Decides.{nat_tests}
use Rattle.std.specs.FinMap as finmap
use Rattle.std.specs.FinMap.{get}
use Rattle.fk_model.specs.Objects.{and_then}
use Rattle.fk_model.specs.declared.names.Who.{Who}
use Rattle.fk_model.specs.declared.body.Body.{Body}
use Rattle.fk_model.specs.declared.body.Body.TheVariants.{Mutex, Cond, Mapping, Region, Port, Portset, Space, Thread, Reference}
use Rattle.fk_model.specs.declared.thread.Fault.{Fault}
use Rattle.fk_model.specs.declared.thread.Mode.{Mode}
use Rattle.fk_model.specs.declared.thread.Talk.{Talk}
use Rattle.fk_model.specs.declared.thread.Thread.{Thread as State}
use Rattle.fk_model.specs.declared.thread.Turn.{Turn}
use Rattle.fk_store_graph.specs.Linked.Shapes.{Lead}
use Rattle.fk_store_graph.specs.Linked.Leads.{led, of_thread, of_talk, of_fault}
use Rattle.fk_store_graph.specs.Linked.Tables.{mark_at}
use Rattle.fk_store_graph.specs.Linked.Cells.{cell}
use Rattle.fk_store_graph.specs.Linked.Shapes.{Link}
use Rattle.fk_store_graph.specs.Linked.Links.{AreRings}
use Rattle.fk_store_graph.specs.Linked.Nodes.{node_of}
use Rattle.fk_store_graph.proofs.InLinked.NodeLaws.{rings_along}
use Rattle.fk_store_graph.specs.Linked.Shapes.{Entry}
use Rattle.fk_store_graph.specs.Linked.Filed.{Filed, IsFiled, entry_under, key_of, name_under}
use Rattle.fk_store_graph.specs.Linked.Edits.{Edits, on_body}
use Rattle.fk_store_graph.specs.Linked.Threads.{on_mutex, on_thread, going, stopping, counting, counted, passing, passed}
use Rattle.fk_store_graph.specs.Linked.Births.{stored_birth}
use Rattle.fk_store_graph.specs.Linked.Bodied.{body_under, bodies, head_by, owner, Tells, told_by, AreBodies}
use Rattle.fk_store_graph.specs.Linked.Leading.{target}
use Rattle.fk_store_graph.specs.Linked.Held.{is_held, IsCount, held_in}
use Rattle.fk_store_graph.specs.Linked.Marks.{is_of_pages, is_member}
use Rattle.fk_store_graph.proofs.InLinked.BodyLaws.{get-bodies, is-bodies, bodies-put, name-of, body-of, no-body, under_name, get_at}
use Rattle.fk_store_graph.proofs.InLinked.HeldLaws.{enough-same}

-- what a change of a body leaves
pub record IsQuiet (f : Body → Body) : Type 0 where
  pub leads : (b : Body) (i : ℕ) → led (f b) i ≡ led b i
  pub birth : (b : Body) → stored_birth (f b) ≡ stored_birth b
  pub held : (b : Body) → is_held (f b) ≡ is_held b
  pub pages : (b : Body) → is_of_pages (f b) ≡ is_of_pages b
  pub members : (b : Body) → is_member (f b) ≡ is_member b

bodied : (f : Body → Body) (o : Option Entry) → option_map (λ (e : Entry). e.body) (option_map (on_body f) o)
    ≡ option_map f (option_map (λ (e : Entry). e.body) o)
bodied f None = refl
bodied f (Some e) = refl

module _ (o p : Filed) (key : ℕ) (f : Body → Body) (edits : Edits o p key (on_body f)) where
  pub body_now : (j : ℕ) → body_under p j ≡ cond (j == key) (option_map f (body_under o key)) (body_under o j)
  unfolding body_under
  body_now j = ap (option_map (λ (e : Entry). e.body)) (edits.entries j) ∙ by (j == key)
    where
      by : (b : Bool) → option_map (λ (e : Entry). e.body) (cond b (option_map (on_body f) (entry_under o key)) (entry_under o j))
          ≡ cond b (option_map f (option_map (λ (e : Entry). e.body) (entry_under o key))) (option_map (λ (e : Entry). e.body) (entry_under o j))
      by true = bodied f (entry_under o key)
      by false = refl

  pub keys_now : (q : Who) → key_of p q ≡ key_of o q
  unfolding key_of
  keys_now q = ap (λ keys. cell keys q.space q.slot) edits.keys

  -- what is read of a body by a word that the change leaves
  module _ {A : Type 0} (g : Body → Option A) (stays : (b : Body) → g (f b) ≡ g b) where
    pub read_now : (j : ℕ) → and_then g (body_under p j) ≡ and_then g (body_under o j)
    read_now j = ap (and_then g) (body_now j) ∙ by (j == key) refl
      where
        mapped : (x : Option Body) → and_then g (option_map f x) ≡ and_then g x
        mapped None = refl
        mapped (Some b) = stays b

        by : (b : Bool) → (j == key) ≡ b → and_then g (cond b (option_map f (body_under o key)) (body_under o j)) ≡ and_then g (body_under o j)
        by false e = refl
        by true e = let is : j ≡ key = grind (arith, nat_tests) in mapped (body_under o key) ∙ sym (ap (λ j. and_then g (body_under o j)) is)

  -- a body now is one before, changed or not
  pub was : (j : ℕ) (b : Body) → body_under p j ≡ Some b → (a : Body) × (body_under o j ≡ Some a) × ((b ≡ a) ⊎ (b ≡ f a))
  was j b there = by (j == key) refl (sym (body_now j) ∙ there)
    where
      mapped : (x : Option Body) → body_under o key ≡ x → j ≡ key → option_map f x ≡ Some b → (a : Body) × (body_under o j ≡ Some a) × ((b ≡ a) ⊎ (b ≡ f a))
      mapped None e is h = absurd (cc)
      mapped (Some a) e is h = (a, ap (body_under o) is ∙ e, inr (let same : f a ≡ b = cc in sym same))

      by : (c : Bool) → (j == key) ≡ c → cond c (option_map f (body_under o key)) (body_under o j) ≡ Some b →
          (a : Body) × (body_under o j ≡ Some a) × ((b ≡ a) ⊎ (b ≡ f a))
      by true e h = mapped (body_under o key) refl (grind (arith, nat_tests)) h
      by false e h = (b, h, inl refl)

module _ (o p : Filed) (key : ℕ) (f : Body → Body) (edits : Edits o p key (on_body f)) (quiet : IsQuiet f)
    (links : List Link) (homes : List ℕ) (held : ℕ) (filed : IsFiled o) (are : AreBodies o links homes held) where
  same_target : (i : ℕ) (b : Body) → target i (f b) ≡ target i b
  unfolding target
  same_target i b = ap (and_then _) (quiet.leads b i)

  same_owner : (n : ℕ) → owner p n ≡ owner o n
  unfolding owner
  same_owner n = heads (and_then (target (n % 5)) (body_under p (n / 5)))
      ∙ ap (and_then (head_by o)) (read_now o p key f edits (target (n % 5)) (same_target (n % 5)) (n / 5))
    where
      heads : (x : Option Who) → and_then (head_by p) x ≡ and_then (head_by o) x
      heads None = refl
      heads (Some who) = ap (option_map (λ k. node_of k 2)) (keys_now o p key f edits who)

  leads_was : (j : ℕ) (b : Body) (i : ℕ) (l : Lead) → body_under p j ≡ Some b → led b i ≡ Some l → (a : Body) × (body_under o j ≡ Some a) × (led a i ≡ Some l)
  leads_was j b i l there is =
      let found = was o p key f edits j b there in (
        found.0,
        found.1,
        elim found.2 [
          | inl same ↦ ap (λ b. led b i) (sym same) ∙ is
          | inr same ↦ sym (quiet.leads found.0 i)
              ∙ ap (λ b. led b i) (sym same) ∙ is
        ],
      )

  hints_was : (k : ℕ) (e : Entry) → entry_under p k ≡ Some e → (d : Entry) × (entry_under o k ≡ Some d) × (e.hints ≡ d.hints)
  hints_was k e there = by (k == key) refl (sym (edits.entries k) ∙ there)
    where
      mapped : (x : Option Entry) → entry_under o key ≡ x → k ≡ key → option_map (on_body f) x ≡ Some e → (d : Entry) × (entry_under o k ≡ Some d)
          × (e.hints ≡ d.hints)
      mapped None is same h = absurd (cc)
      mapped (Some d) is same h = (d, ap (entry_under o) same ∙ is, (let it : on_body f d ≡ e = cc in sym (ap (λ (e : Entry). e.hints) it)))

      by : (c : Bool) → (k == key) ≡ c → cond c (option_map (on_body f) (entry_under o key)) (entry_under o k) ≡ Some e →
          (d : Entry) × (entry_under o k ≡ Some d) × (e.hints ≡ d.hints)
      by true is h = mapped (entry_under o key) refl (grind (arith, nat_tests)) h
      by false is h = (e, h, refl)

  -- the body under the key is another, or there is none
  held_kept : IsCount (held_in (bodies p)) held
  held_kept = by (entry_under o key) refl
    where
      same_bodies : body_under o key ≡ None → bodies p ≡ bodies o
      same_bodies none = is-bodies p (bodies o) (λ q.
          ap (and_then (body_under p)) (keys_now o p key f edits q) ∙ step (key_of o q) ∙ sym (get-bodies o q))
        where
          step : (x : Option ℕ) → and_then (body_under p) x ≡ and_then (body_under o) x
          step None = refl
          step (Some j) = body_now o p key f edits j ∙ go (j == key) refl
            where
              go : (b : Bool) → (j == key) ≡ b → cond b (option_map f (body_under o key)) (body_under o j) ≡ body_under o j
              go false e = refl
              go true e = let is : j ≡ key = grind (arith, nat_tests) in
                  ap (option_map f) none ∙ sym (ap (body_under o) is ∙ none)

      by : (x : Option Entry) → entry_under o key ≡ x → IsCount (held_in (bodies p)) held
      by None e = subst (λ m. IsCount (held_in m) held) (sym (same_bodies (no-body o key e))) are.held
      by (Some e) is =
          let name = filed.found key e.who (name_is is) in
          let there : get (bodies o) e.who ≡ Some e.body = get-bodies o e.who ∙ ap (and_then (body_under o)) name ∙ body_is is in
          let now = bodies-put o p filed e.who key (f e.body) name (keys_now o p key f edits)
          (λ j. body_now o p key f edits j ∙ ap (λ x. cond (j == key) (option_map f x) (body_under o j)) (body_is is)) in
          subst (λ m. IsCount (held_in m) held) (sym now) (enough-same (bodies o) e.who e.body (f e.body) held there (quiet.held e.body) are.held)
        where
          name_is : entry_under o key ≡ Some e → name_under o key ≡ Some e.who
          name_is is = name-of o key e is

          body_is : entry_under o key ≡ Some e → body_under o key ≡ Some e.body
          body_is is = body-of o key e is

  pub quiet_kept : AreBodies p links homes held
  quiet_kept = record {
    rings = rings_along links (owner o) (owner p) (λ n field. same_owner n) are.rings;
    long = λ j b there. let found = was o p key f edits j b there in are.long j found.0 found.1;
    leads = λ j b i l there is.
        let found = leads_was j b i l there is in
        subst IsSome (sym (keys_now o p key f edits l.to)) (are.leads j found.0 i l found.1 found.2);
    told = λ j b i l there is k e at under.
        let found = leads_was j b i l there is in
        let hint = hints_was k e under in
        subst (λ h. Tells (told_by l.sort h) j) (sym hint.2)
        (are.told j found.0 i l found.1 found.2 k hint.0 (sym (keys_now o p key f edits l.to) ∙ at) hint.1);
    homed = λ n k.
        let same = read_now o p key f edits stored_birth quiet.birth k in
        (λ h. same ∙ (are.homed n k).0 h, λ h. (are.homed n k).1 (sym same ∙ h));
    held = held_kept;
    pages = λ who k b at there is.
        let found = was o p key f edits k b there in
        marks_now (λ b. is_of_pages b) quiet.pages who.space (who.slot / 16) found.0 b found.2 is
        (are.pages who k found.0 (sym (keys_now o p key f edits who) ∙ at) found.1);
    members = λ who k b at there is.
        let found = was o p key f edits k b there in
        marks_now (λ b. is_member b) quiet.members who.space (16 + who.slot / 16) found.0 b found.2 is
        (are.members who k found.0 (sym (keys_now o p key f edits who) ∙ at) found.1);
  }
    where
      marks_now : (g : Body → Bool) → ((b : Body) → g (f b) ≡ g b) → (space mark : ℕ) (a b : Body) → (b ≡ a) ⊎ (b ≡ f a) → g b ≡ true →
          (g a ≡ true → mark_at o.marks space mark ≡ true) → mark_at p.marks space mark ≡ true
      marks_now g stays space mark a b (inl same) is marked = ap (λ m. mark_at m space mark) edits.marks ∙ marked (ap g (sym same) ∙ is)
      marks_now g stays space mark a b (inr same) is marked = ap (λ m. mark_at m space mark) edits.marks ∙ marked (sym (stays a) ∙ ap g (sym same) ∙ is)

-- ---- changes of a thread by which it leads where it led

module _ (g : State → State) (same : (t : State) (i : ℕ) → of_thread (g t).talk (g t).fault i ≡ of_thread t.talk t.fault i) where
  leads_same : (b : Body) (i : ℕ) → led (on_thread g b) i ≡ led b i
  unfolding led
  leads_same (Mutex locked) i = refl
  leads_same Cond i = refl
  leads_same (Mapping page count offset write region) i = refl
  leads_same (Region page count write keeper) i = refl
  leads_same (Port set served) i = refl
  leads_same Portset i = refl
  leads_same (Space birth holder) i = refl
  leads_same (Thread thread) i = same thread i
  leads_same (Reference to) i = refl

  -- what no thread has to do with
  module _ {A : Type 0} (read : Body → A) (thread : (t u : State) → read (Thread t) ≡ read (Thread u)) where
    read_same : (b : Body) → read (on_thread g b) ≡ read b
    read_same (Mutex locked) = refl
    read_same Cond = refl
    read_same (Mapping page count offset write region) = refl
    read_same (Region page count write keeper) = refl
    read_same (Port set served) = refl
    read_same Portset = refl
    read_same (Space birth holder) = refl
    read_same (Thread t) = thread (g t) t
    read_same (Reference to) = refl

  pub quiet_thread : IsQuiet (on_thread g)
  quiet_thread = record {
    leads = leads_same;
    birth = read_same stored_birth (λ t u. refl);
    held = read_same (λ b. is_held b) (λ t u. refl);
    pages = read_same (λ b. is_of_pages b) (λ t u. refl);
    members = read_same (λ b. is_member b) (λ t u. refl);
  }

-- another count of its talk, or another turn
talk_same : (h : Talk → Talk) → ((k : Talk) (i : ℕ) → of_talk i (h k) ≡ of_talk i k) → (o : Option Talk) (fault : Option Fault) (i : ℕ) →
    of_thread (option_map h o) fault i ≡ of_thread o fault i
unfolding of_thread
talk_same h same None fault i = refl
talk_same h same (Some k) fault i = ap (λ x. cond (nat_lt i 3) x (and_then (of_fault i) fault)) (same k i)

pub quiet_going : (registers : List ℕ) (counter : ℕ) (mode : Mode) → IsQuiet (on_thread (going registers counter mode))
quiet_going registers counter mode = quiet_thread _ (λ t i. refl)

pub quiet_stopping : (stops : ℕ) → IsQuiet (on_thread (stopping stops))
quiet_stopping stops = quiet_thread _ (λ t i. refl)

pub quiet_counting : (words : ℕ) → IsQuiet (on_thread (counting words))
unfolding of_talk
quiet_counting words = quiet_thread _ (λ t i. talk_same (counted words) (λ k j. refl) t.talk t.fault i)

pub quiet_passing : (turn : Turn) → IsQuiet (on_thread (passing turn))
unfolding of_talk
quiet_passing turn = quiet_thread _ (λ t i. talk_same (passed turn) (λ k j. refl) t.talk t.fault i)

-- a mutex leads nowhere
read_set : {A : Type 0} (g : Body → A) (locked : Bool) → ((old : Bool) → g (Mutex locked) ≡ g (Mutex old)) → (b : Body) → g (on_mutex locked b) ≡ g b
read_set g locked same (Mutex old) = same old
read_set g locked same Cond = refl
read_set g locked same (Mapping first count offset write region) = refl
read_set g locked same (Region first count write keeper) = refl
read_set g locked same (Port set served) = refl
read_set g locked same Portset = refl
read_set g locked same (Space birth holder) = refl
read_set g locked same (Thread thread) = refl
read_set g locked same (Reference to) = refl

pub quiet_locking : (locked : Bool) → IsQuiet (on_mutex locked)
unfolding led
quiet_locking locked = record {
  leads = λ b i. read_set (λ b. led b i) locked (λ old. refl) b;
  birth = read_set (λ b. stored_birth b) locked (λ old. refl);
  held = read_set (λ b. is_held b) locked (λ old. refl);
  pages = read_set (λ b. is_of_pages b) locked (λ old. refl);
  members = read_set (λ b. is_member b) locked (λ old. refl);
}

-- a change that makes the same of each body
pub quiet_along : (f g : Body → Body) → ((b : Body) → f b ≡ g b) → IsQuiet f → IsQuiet g
quiet_along f g same quiet = record {
  leads = λ b i. sym (ap (λ x. led x i) (same b)) ∙ quiet.leads b i;
  birth = λ b. sym (ap stored_birth (same b)) ∙ quiet.birth b;
  held = λ b. sym (ap is_held (same b)) ∙ quiet.held b;
  pages = λ b. sym (ap is_of_pages (same b)) ∙ quiet.pages b;
  members = λ b. sym (ap is_member (same b)) ∙ quiet.members b;
}

-- the map, where the body of a name changes
module _ (o p : Filed) (key : ℕ) (f : Body → Body) (edits : Edits o p key (on_body f)) (filed : IsFiled o) (who : Who) (here : key_of o who ≡ Some key) where
  pub quiet_map : (b : Body) → get (bodies o) who ≡ Some b → bodies p ≡ finmap.insert (bodies o) who (f b)
  quiet_map b there = bodies-put o p filed who key (f b) here (keys_now o p key f edits)
      (λ j. body_now o p key f edits j ∙ ap (λ x. cond (j == key) (option_map f x) (body_under o j)) (sym (get_at o who key here) ∙ there))

  pub quiet_there : get (bodies o) who ≡ None → ⊥
  quiet_there none =
      let found = under_name o who key filed here in
      let there = get_at o who key here ∙ found.1 in
      absurd (cc)

pub quiet_nobody : (o : Filed) (who : Who) (b : Body) → None ≡ key_of o who → get (bodies o) who ≡ Some b → ⊥
quiet_nobody o who b none there =
    let gone = get-bodies o who ∙ ap (and_then (body_under o)) (sym none) in
    absurd (cc)

pub gone_there : (o : Filed) (who : Who) → None ≡ key_of o who → IsSome (get (bodies o) who) → ⊥
gone_there o who none some = let gone = get-bodies o who ∙ ap (and_then (body_under o)) (sym none) in absurd (cc)
