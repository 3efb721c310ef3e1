-- TreeLaws: what stands beside the objects, as they come, go, change and get other names.
use Rattle.std.proofs.Common.{◌≡◌, ◌≢◌, ◌⊎◌, inl, inr, ℕ, ◌<◌, Bool, true, false, cond, is_some, List, [], Option, Some, None, option_map, refl, sym}
use Rattle.std.proofs.Common.{ap, subst, ◌∙◌}
use Rattle.std.specs.FinMap as finmap
use Rattle.std.specs.FinMap.{FinMap, get, insert, get-insert, get-empty}
use Rattle.fk_model.specs.declared.names.Who.{Who}
use Rattle.fk_model.specs.declared.body.Body.{Body}
use Rattle.fk_model.specs.declared.body.Body.TheVariants.{Mutex, Cond, Mapping, Region, Port, Portset, Space, Thread, Reference}
use Rattle.fk_model.specs.declared.thread.Fault.{Fault}
use Rattle.fk_model.specs.declared.thread.Mode.{Mode}
use Rattle.fk_model.specs.declared.thread.Thread.{Thread as State}
use Rattle.fk_model.specs.Objects.{and_then, holds}
use Rattle.fk_store.specs.Holds.Frozen.{mark_at}
use Rattle.fk_store.specs.Holds.Held.{IsTold}
use Rattle.fk_store_graph.specs.Bodies.Births.{stored_birth, home_in, birth_in}
use Rattle.fk_store_graph.specs.Bodies.Held.{is_held}
use Rattle.fk_store_graph.specs.Bodies.Leading.{with_fault}
use Rattle.fk_store_graph.specs.Bodies.Names.{who_cmp, same_who}
use Rattle.fk_store_graph.specs.Bodies.Nudges.{nudged}
use Rattle.fk_store_graph.specs.Bodies.Sweeps.{after, body_after}
use Rattle.fk_store_graph.specs.Bodies.Threads.{proceeded}
use Rattle.fk_store_graph.specs.declared.leads.nudges.Nudge.{Nudge}
use Rattle.fk_store_graph.specs.declared.leads.sweeps.Sweep.{Sweep}
use Rattle.fk_store_graph.proofs.InBodies.BirthLaws.{births-found, births-none}
use Rattle.fk_store_graph.proofs.InBodies.LedLaws.{swept-birth}
use Rattle.fk_store_graph.proofs.InBodies.NameLaws.{who_total, same_tied, same_who_eq, same_who_refl}
use Rattle.fk_store.specs.Freezing.Freezing.{is_held_at, IsUnder, AreFrozen, AreFrozenBut, AreTold, AreToldBut, AreKnown, IsTree}
use Rattle.fk_store.proofs.InFreezing.FreezeLaws.{one_name}

pub inserted : (m : FinMap who_cmp Body) (who : Who) (b : Body) (q : Who) → get (insert m who b) q ≡ cond (same_who q who) (Some b) (get m q)
inserted m who b q = get-insert who_total m who b q ∙ ap (λ t. cond t (Some b) (get m q)) (same_tied q who)

same_some : {A : Type 0} (o : Option A) (a b : A) → o ≡ Some a → o ≡ Some b → a ≡ b
same_some o a b h k = cc

-- ---- no objects

none_born : (who : Who) (n : ℕ) → birth_in finmap.empty who ≡ Some n → ⊥
none_born who n born = let none = sym (ap (and_then stored_birth) (get-empty who_cmp who)) ∙ born in absurd (cc)

pub fresh : (marks : List Bool) (held : List ℕ × Bool) → IsTree finmap.empty marks held
fresh marks held = record { frozen = λ who n born under. absurd (none_born who n born); told = λ who n born on. absurd (none_born who n born) }

-- ---- names and birth numbers

-- one name a number is enough
known_by : (m : FinMap who_cmp Body) → ((a b : Who) (n : ℕ) → birth_in m a ≡ Some n → birth_in m b ≡ Some n → a ≡ b) →
    ((who : Who) (n : ℕ) → birth_in m who ≡ Some n → who.space < n) → AreKnown m
known_by m one younger = record { known = λ who n born. by who n born (home_in m n) refl; younger = younger }
  where
    by : (who : Who) (n : ℕ) → birth_in m who ≡ Some n → (x : Option Who) → home_in m n ≡ x → home_in m n ≡ Some who
    by who n born None e = absurd (births-none m n who e born)
    by who n born (Some w) e = e ∙ ap Some (one w who n (births-found m n w e) born)

-- ---- an object comes, or has another body

module _ (old : FinMap who_cmp Body) (who : Who) (b : Body) where
  abbrev now : FinMap who_cmp Body
  now = insert old who b

  here : (q : Who) → same_who q who ≡ true → get now q ≡ Some b
  here q e = inserted old who b q ∙ ap (λ t. cond t (Some b) (get old q)) e

  beside : (q : Who) → same_who q who ≡ false → get now q ≡ get old q
  beside q e = inserted old who b q ∙ ap (λ t. cond t (Some b) (get old q)) e

  -- all others are as they were
  pub frozen_beside : (marks : List Bool) → AreFrozen old marks → AreFrozenBut now marks who
  frozen_beside marks frozen q n off born under =
      frozen q n (ap (and_then stored_birth) (sym (beside q off)) ∙ born) (elim under [
        | inl held ↦ inl (ap (holds is_held) (sym (beside q off)) ∙ held)
        | inr above ↦ inr above
      ])

  pub told_beside : (held : List ℕ × Bool) → AreTold old held → AreToldBut now held who
  told_beside held told q n off born on =
      told q n (ap (and_then stored_birth) (sym (beside q off)) ∙ born) (ap (holds is_held) (sym (beside q off)) ∙ on)

  -- with the number that it had
  module _ (known : AreKnown old) (same : birth_in old who ≡ stored_birth b) where
    birth_stays : (q : Who) → birth_in now q ≡ birth_in old q
    birth_stays q = by (same_who q who) refl
      where
        by : (t : Bool) → same_who q who ≡ t → birth_in now q ≡ birth_in old q
        by true e = ap (and_then stored_birth) (here q e) ∙ sym same ∙ ap (birth_in old) (sym (same_who_eq q who e))
        by false e = ap (and_then stored_birth) (beside q e)

    pub known_set : AreKnown now
    known_set = known_by now
        (λ a c n h k. one_name old known a c n (sym (birth_stays a) ∙ h) (sym (birth_stays c) ∙ k))
        (λ q n born. known.younger q n (sym (birth_stays q) ∙ born))

  -- with a number that no other has
  module _ (known : AreKnown old) (alone : (n : ℕ) → stored_birth b ≡ Some n → home_in old n ≡ None)
      (younger : (n : ℕ) → stored_birth b ≡ Some n → who.space < n) where
    born_here : (q : Who) (n : ℕ) → same_who q who ≡ true → birth_in now q ≡ Some n → stored_birth b ≡ Some n
    born_here q n e born = sym (ap (and_then stored_birth) (here q e)) ∙ born

    born_there : (q : Who) (n : ℕ) → same_who q who ≡ false → birth_in now q ≡ Some n → birth_in old q ≡ Some n
    born_there q n e born = ap (and_then stored_birth) (sym (beside q e)) ∙ born

    not_both : (q : Who) (n : ℕ) → stored_birth b ≡ Some n → birth_in old q ≡ Some n → ⊥
    not_both q n born other = let both = sym (alone n born) ∙ known.known q n other in absurd (cc)

    one : (a c : Who) (n : ℕ) → birth_in now a ≡ Some n → birth_in now c ≡ Some n → a ≡ c
    one a c n h k = by (same_who a who) refl (same_who c who) refl
      where
        by : (s : Bool) → same_who a who ≡ s → (t : Bool) → same_who c who ≡ t → a ≡ c
        by true e true f = same_who_eq a who e ∙ sym (same_who_eq c who f)
        by true e false f = absurd (not_both c n (born_here a n e h) (born_there c n f k))
        by false e true f = absurd (not_both a n (born_here c n f k) (born_there a n e h))
        by false e false f = one_name old known a c n (born_there a n e h) (born_there c n f k)

    pub known_put : AreKnown now
    known_put = known_by now one (λ q n born. by q n born (same_who q who) refl)
      where
        by : (q : Who) (n : ℕ) → birth_in now q ≡ Some n → (t : Bool) → same_who q who ≡ t → q.space < n
        by q n born true e = subst (λ (w : Who). w.space < n) (sym (same_who_eq q who e)) (younger n (born_here q n e born))
        by q n born false e = known.younger q n (born_there q n e born)

-- what it leads to is there once more
pub here_now : (old : FinMap who_cmp Body) (who : Who) (b : Body) → get (insert old who b) who ≡ Some b
here_now old who b = here old who b who (same_who_refl who)

-- marks that say the same
pub frozen_marks : (m : FinMap who_cmp Body) (marks now : List Bool) (top : Who) → ((n : ℕ) → mark_at now n ≡ mark_at marks n) →
    AreFrozenBut m marks top → AreFrozenBut m now top
frozen_marks m marks after top same closed who n off born under = same n ∙ closed who n off born (elim under [
  | inl held ↦ inl held
  | inr above ↦ inr (sym (same who.space) ∙ above)
])

-- ---- what is no space, or is one with its mark

pub no_number : (b : Body) → ((birth : ℕ) (holder : Option Who) → b ≡ Space birth holder → ⊥) → stored_birth b ≡ None
no_number (Mutex locked) off = refl
no_number Cond off = refl
no_number (Mapping first count offset write region) off = refl
no_number (Region first count write keeper) off = refl
no_number (Port set served) off = refl
no_number Portset off = refl
no_number (Space birth holder) off = absurd (off birth holder refl)
no_number (Thread thread) off = refl
no_number (Reference to) off = refl

module _ (m : FinMap who_cmp Body) (top : Who) (b : Body) (here : get m top ≡ Some b) where
  no_birth : stored_birth b ≡ None → (who : Who) (n : ℕ) → birth_in m who ≡ Some n → same_who who top ≡ false
  no_birth none who n born = by (same_who who top) refl
    where
      by : (t : Bool) → same_who who top ≡ t → t ≡ false
      by false e = refl
      by true e =
          let both = sym born ∙ ap (birth_in m) (same_who_eq who top e) ∙ ap (and_then stored_birth) here ∙ none in
          absurd (cc)

  pub frozen_all : (marks : List Bool) → stored_birth b ≡ None → AreFrozenBut m marks top → AreFrozen m marks
  frozen_all marks none closed who n born under = closed who n (no_birth none who n born) born under

  pub told_all : (held : List ℕ × Bool) → stored_birth b ≡ None → AreToldBut m held top → AreTold m held
  told_all held none closed who n born on = closed who n (no_birth none who n born) born on

  -- a space is told of anew
  module _ (known : AreKnown m) (birth : ℕ) (born : stored_birth b ≡ Some birth) where
    pub born_top : birth_in m top ≡ Some birth
    born_top = ap (and_then stored_birth) here ∙ born

    pub told_anew : (held now : List ℕ × Bool) → (is_held b ≡ true → IsTold now birth) → ((n : ℕ) → n ≢ birth → IsTold held n → IsTold now n) →
        AreToldBut m held top → AreTold m now
    told_anew held now this others closed who n is on = by (same_who who top) refl
      where
        apart : same_who who top ≡ false → n ≢ birth
        apart off same =
            let one = one_name m known who top birth (is ∙ ap Some same) born_top in
            let yes = ap (λ w. same_who w top) one ∙ same_who_refl top in
            let none = sym yes ∙ off in absurd (cc)

        by : (t : Bool) → same_who who top ≡ t → IsTold now n
        by false e = others n (apart e) (closed who n e is on)
        by true e =
            let same = same_who_eq who top e in
            let number = sym born_top ∙ ap (birth_in m) (sym same) ∙ is in
            let which : birth ≡ n = cc in
            subst (IsTold now) which (this (ap (holds is_held) (sym here) ∙ ap (is_held_at m) (sym same) ∙ on))

-- ---- spaces that were there, in the space in which they are, and were held if they are

abbrev pub Follows : FinMap who_cmp Body → FinMap who_cmp Body → Type 0
Follows old new = (who : Who) (n : ℕ) → birth_in new who ≡ Some n →
    (p : Who) × (p.space ≡ who.space) × (birth_in old p ≡ Some n) × (is_held_at new who ≡ true → is_held_at old p ≡ true)

pub tree_follows : (old new : FinMap who_cmp Body) → Follows old new → (marks : List Bool) (held : List ℕ × Bool) → IsTree old marks held →
    IsTree new marks held
tree_follows old new follows marks held tree = record {
  frozen = λ who n born under.
      let was = follows who n born in
      tree.frozen was.0 n was.2 (elim under [ inl on ↦ inl (was.3 on) | inr above ↦ inr (ap (mark_at marks) was.1 ∙ above) ]);
  told = λ who n born on. let was = follows who n born in tree.told was.0 n was.2 (was.3 on);
}

-- a body is another that is born and held as it was
module _ (old : FinMap who_cmp Body) (who : Who) (f : Body → Body) (birth : (b : Body) → stored_birth (f b) ≡ stored_birth b)
    (held : (b : Body) → is_held (f b) ≡ is_held b) where
  follows_changed : (b : Body) → get old who ≡ Some b → Follows old (insert old who (f b))
  follows_changed b there q n born = (q, refl, sym both.0 ∙ born, λ on. sym both.1 ∙ on)
    where
      value : get (insert old who (f b)) q ≡ cond (same_who q who) (Some (f b)) (get old q)
      value = inserted old who (f b) q

      by : (t : Bool) → same_who q who ≡ t → (birth_in (insert old who (f b)) q ≡ birth_in old q) × (is_held_at (insert old who (f b)) q ≡ is_held_at old q)
      by true e =
          let now = value ∙ ap (λ t. cond t (Some (f b)) (get old q)) e in
          let was = ap (get old) (same_who_eq q who e) ∙ there in
          (ap (and_then stored_birth) now ∙ birth b ∙ sym (ap (and_then stored_birth) was), ap (holds is_held) now ∙ held b ∙ sym (ap (holds is_held) was))
      by false e =
          let now = value ∙ ap (λ t. cond t (Some (f b)) (get old q)) e in
          (ap (and_then stored_birth) now, ap (holds is_held) now)

      both : (birth_in (insert old who (f b)) q ≡ birth_in old q) × (is_held_at (insert old who (f b)) q ≡ is_held_at old q)
      both = by (same_who q who) refl

  -- or there is none
  pub tree_changed : (new : FinMap who_cmp Body) → ((b : Body) → get old who ≡ Some b → new ≡ insert old who (f b)) → (get old who ≡ None → new ≡ old) →
      (marks : List Bool) (told : List ℕ × Bool) → IsTree old marks told → IsTree new marks told
  tree_changed new there none marks told tree = by (get old who) refl
    where
      by : (x : Option Body) → get old who ≡ x → IsTree new marks told
      by None e = subst (λ m. IsTree m marks told) (sym (none e)) tree
      by (Some b) e = subst (λ m. IsTree m marks told) (sym (there b e)) (tree_follows old (insert old who (f b)) (follows_changed b e) marks told tree)

-- ---- a thread changes

pub proceeded-birth : (registers : List ℕ) (counter : ℕ) (mode : Mode) (b : Body) → stored_birth (proceeded registers counter mode b) ≡ stored_birth b
proceeded-birth registers counter mode (Mutex locked) = refl
proceeded-birth registers counter mode Cond = refl
proceeded-birth registers counter mode (Mapping first count offset write region) = refl
proceeded-birth registers counter mode (Region first count write keeper) = refl
proceeded-birth registers counter mode (Port set served) = refl
proceeded-birth registers counter mode Portset = refl
proceeded-birth registers counter mode (Space birth holder) = refl
proceeded-birth registers counter mode (Thread thread) = refl
proceeded-birth registers counter mode (Reference to) = refl

pub proceeded-held : (registers : List ℕ) (counter : ℕ) (mode : Mode) (b : Body) → is_held (proceeded registers counter mode b) ≡ is_held b
proceeded-held registers counter mode (Mutex locked) = refl
proceeded-held registers counter mode Cond = refl
proceeded-held registers counter mode (Mapping first count offset write region) = refl
proceeded-held registers counter mode (Region first count write keeper) = refl
proceeded-held registers counter mode (Port set served) = refl
proceeded-held registers counter mode Portset = refl
proceeded-held registers counter mode (Space birth holder) = refl
proceeded-held registers counter mode (Thread thread) = refl
proceeded-held registers counter mode (Reference to) = refl

pub nudged-birth : (change : Nudge) (b : Body) → stored_birth (nudged change b) ≡ stored_birth b
nudged-birth change (Mutex locked) = refl
nudged-birth change Cond = refl
nudged-birth change (Mapping first count offset write region) = refl
nudged-birth change (Region first count write keeper) = refl
nudged-birth change (Port set served) = refl
nudged-birth change Portset = refl
nudged-birth change (Space birth holder) = refl
nudged-birth change (Thread thread) = refl
nudged-birth change (Reference to) = refl

pub nudged-held : (change : Nudge) (b : Body) → is_held (nudged change b) ≡ is_held b
nudged-held change (Mutex locked) = refl
nudged-held change Cond = refl
nudged-held change (Mapping first count offset write region) = refl
nudged-held change (Region first count write keeper) = refl
nudged-held change (Port set served) = refl
nudged-held change Portset = refl
nudged-held change (Space birth holder) = refl
nudged-held change (Thread thread) = refl
nudged-held change (Reference to) = refl

-- a thread has another fault
pub faulted_tree : (old : FinMap who_cmp Body) (who : Who) (t : State) (fault : Option Fault) → get old who ≡ Some (Thread t) → (new : FinMap who_cmp Body) →
    new ≡ insert old who (with_fault t fault) → (marks : List Bool) (told : List ℕ × Bool) → IsTree old marks told → IsTree new marks told
faulted_tree old who t fault here new is =
    tree_changed old who faulted births holds_on new (λ b there. is ∙ ap (insert old who) (same b there)) (λ none. absurd (cc))
  where
    faulted : Body → Body
    faulted (Mutex locked) = Mutex locked
    faulted Cond = Cond
    faulted (Mapping first count offset write region) = Mapping first count offset write region
    faulted (Region first count write keeper) = Region first count write keeper
    faulted (Port set served) = Port set served
    faulted Portset = Portset
    faulted (Space birth holder) = Space birth holder
    faulted (Thread thread) = with_fault thread fault
    faulted (Reference to) = Reference to

    births : (b : Body) → stored_birth (faulted b) ≡ stored_birth b
    births (Mutex locked) = refl
    births Cond = refl
    births (Mapping first count offset write region) = refl
    births (Region first count write keeper) = refl
    births (Port set served) = refl
    births Portset = refl
    births (Space birth holder) = refl
    births (Thread thread) = refl
    births (Reference to) = refl

    holds_on : (b : Body) → is_held (faulted b) ≡ is_held b
    holds_on (Mutex locked) = refl
    holds_on Cond = refl
    holds_on (Mapping first count offset write region) = refl
    holds_on (Region first count write keeper) = refl
    holds_on (Port set served) = refl
    holds_on Portset = refl
    holds_on (Space birth holder) = refl
    holds_on (Thread thread) = refl
    holds_on (Reference to) = refl

    same : (b : Body) → get old who ≡ Some b → with_fault t fault ≡ faulted b
    same b there = let is_thread : Thread t ≡ b = same_some (get old who) (Thread t) b here there in ap faulted is_thread

-- ---- an object goes, or gets another name

module _ (sweep : Sweep) where
  -- who is held after a sweep was before
  swept-held : (space : ℕ) (b : Body) → is_held (body_after sweep space b) ≡ true → is_held b ≡ true
  swept-held space (Mutex locked) on = on
  swept-held space Cond on = on
  swept-held space (Mapping first count offset write region) on = on
  swept-held space (Region first count write keeper) on = on
  swept-held space (Port set served) on = on
  swept-held space Portset on = on
  swept-held space (Space birth None) on = on
  swept-held space (Space birth (Some who)) on = refl
  swept-held space (Thread thread) on = on
  swept-held space (Reference to) on = on

  swept_born : (space : ℕ) (o : Option Body) → and_then stored_birth (option_map (body_after sweep space) o) ≡ and_then stored_birth o
  swept_born space None = refl
  swept_born space (Some b) = swept-birth sweep space b

  swept_on : (space : ℕ) (o : Option Body) → holds is_held (option_map (body_after sweep space) o) ≡ true → holds is_held o ≡ true
  swept_on space None on = on
  swept_on space (Some b) on = swept-held space b on

module _ (old new : FinMap who_cmp Body) (who : Who)
    (killed : (q : Who) → get new q ≡ cond (same_who q who) None (option_map (body_after (record { from = who; to = None }) q.space) (get old q))) where
  abbrev gone : Sweep
  gone = record { from = who; to = None }

  left : (q : Who) (n : ℕ) → birth_in new q ≡ Some n → same_who q who ≡ false
  left q n born = by (same_who q who) refl
    where
      by : (t : Bool) → same_who q who ≡ t → t ≡ false
      by false e = refl
      by true e =
          let none = killed q ∙ ap (λ t. cond t None (option_map (body_after gone q.space) (get old q))) e in
          let both = sym (ap (and_then stored_birth) none) ∙ born in absurd (cc)

  value_left : (q : Who) → same_who q who ≡ false → get new q ≡ option_map (body_after gone q.space) (get old q)
  value_left q off = killed q ∙ ap (λ t. cond t None (option_map (body_after gone q.space) (get old q))) off

  follows_killed : Follows old new
  follows_killed q n born =
      let is = value_left q (left q n born) in (
        q,
        refl,
        sym (ap (and_then stored_birth) is ∙ swept_born gone q.space (get old q))
            ∙ born,
        λ on. swept_on gone q.space (get old q) (sym (ap (holds is_held) is) ∙ on),
      )

  -- its number is told of no more
  pub tree_killed : AreKnown old → (marks : List Bool) (held now : List ℕ × Bool) → IsTree old marks held →
      ((n : ℕ) → birth_in old who ≢ Some n → IsTold held n → IsTold now n) → IsTree new marks now
  unfolding follows_killed
  tree_killed known marks held now tree others = record {
    frozen = (tree_follows old new follows_killed marks held tree).frozen;
    told = λ q n born on. others n (apart q n born) ((tree_follows old new follows_killed marks held tree).told q n born on);
  }
    where
      apart : (q : Who) (n : ℕ) → birth_in new q ≡ Some n → birth_in old who ≢ Some n
      apart q n born here =
          let one = one_name old known q who n (follows_killed q n born).2 here in
          let yes = ap (λ w. same_who w who) one ∙ same_who_refl who in
          let none = sym yes ∙ left q n born in absurd (cc)

module _ (old new : FinMap who_cmp Body) (from to : Who) (space : to.space ≡ from.space)
    (renamed : (q : Who) → get new q ≡ cond (same_who q to) (option_map (body_after (record { from = from; to = Some to }) from.space) (get old from))
    (cond (same_who q from) None (option_map (body_after (record { from = from; to = Some to }) q.space) (get old q)))) where
  abbrev named : Sweep
  named = record { from = from; to = Some to }

  follows_renamed : Follows old new
  follows_renamed q n born = by (same_who q to) refl (same_who q from) refl
    where
      value : (s t : Bool) → same_who q to ≡ s → same_who q from ≡ t → get new q
          ≡ cond s (option_map (body_after named from.space) (get old from)) (cond t None (option_map (body_after named q.space) (get old q)))
      value s t e f = renamed q ∙ (λ i. cond (e i) (option_map (body_after named from.space) (get old from))
          (cond (f i) None (option_map (body_after named q.space) (get old q))))

      follow : (p : Who) → p.space ≡ q.space → (s : ℕ) → get new q ≡ option_map (body_after named s) (get old p) →
          (p : Who) × (p.space ≡ q.space) × (birth_in old p ≡ Some n) × (is_held_at new q ≡ true → is_held_at old p ≡ true)
      follow p same s is = (
        p,
        same,
        sym (ap (and_then stored_birth) is ∙ swept_born named s (get old p))
            ∙ born,
        λ on. swept_on named s (get old p) (sym (ap (holds is_held) is) ∙ on),
      )

      by : (s : Bool) → same_who q to ≡ s → (t : Bool) → same_who q from ≡ t →
          (p : Who) × (p.space ≡ q.space) × (birth_in old p ≡ Some n) × (is_held_at new q ≡ true → is_held_at old p ≡ true)
      by true e t f = follow from (sym space ∙ ap (λ (w : Who). w.space) (sym (same_who_eq q to e))) from.space (value true t e f)
      by false e true f = let both = sym (ap (and_then stored_birth) (value false true e f)) ∙ born in absurd (cc)
      by false e false f = follow q refl q.space (value false false e f)

  pub tree_renamed : (marks : List Bool) (held : List ℕ × Bool) → IsTree old marks held → IsTree new marks held
  tree_renamed marks held tree = tree_follows old new follows_renamed marks held tree
