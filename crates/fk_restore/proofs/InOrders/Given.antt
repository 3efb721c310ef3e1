-- Orders whose call goes with no words, and the words of a thread's record.
use Rattle.std.proofs.Common.{◌≡◌, ℕ, zero, suc, Bool, true, false, cond, List, [], ◌∷◌, ◌++◌, length, map, replicate, Option, Some, None, option_map}
use Rattle.std.proofs.Common.{slice_set, refl, sym, ap, subst, ◌∙◌}
use Rattle.std.specs.Prelude.{◌==◌, nat_lt, slice_get}
use Rattle.std.proofs.lemmas.Option.{slice_get-map}
use Rattle.fk_model.specs.declared.stage.Stage.{Stage}
use Rattle.fk_model.specs.Calls.{todo_of}
use Rattle.fk_model.specs.Objects.{registers_of}
use Rattle.fk_model.specs.Objects.Mode.{Running, Halted}
use Rattle.fk_model.specs.Objects.Body.{Thread_of}
use Rattle.fk_model.specs.Records.{fault_words, halt_code, mode_number, padded, record_of, talk_words}
use Rattle.fk_model.proofs.calls.CallLaws.{sixteen, todo_writes_back_lem}
use Rattle.fk_image.specs.declared.image.image.Link.{Link}
use Rattle.fk_image.specs.declared.image.image.Link.TheVariants.{Null, Dead, In, Out, Root, Outside}
use Rattle.fk_image.specs.declared.image.image.ObjectRec.{ObjectRec}
use Rattle.fk_image.specs.declared.image.image.SpaceRec.{SpaceRec}
use Rattle.fk_image.specs.declared.image.image.ThreadRec.{ThreadRec}
use Rattle.fk_model.specs.declared.names.Kind.TheVariants as kinds
use Rattle.fk_image.specs.Image.Picture.{space_path, mode, mode_while_calling, pictured_talk, pictured_fault, pictured_thread}
use Rattle.laws_jobs.specs.Machines.{no_words}
use Rattle.laws_restore.specs.Sites.Orders.{Order, words_of}
use Rattle.laws_restore.specs.Sites.Orders.Order.{Leads, LeadsTop, Makes, Points, Holds as HoldsOrder}
use Rattle.laws_restore.specs.Restore.Script as script
use Rattle.fk_restore.specs.declared.positions.position.Walk.{Walk}
use Rattle.fk_restore.specs.declared.positions.position.Walk.TheVariants.{Done, Top, Down}
use Rattle.fk_restore.specs.declared.positions.position.Pass.{Pass}
use Rattle.fk_restore.specs.declared.positions.position.Pass.TheVariants.{Spaces, Fills, Inward, Outward, Ties, Holds}
use Rattle.fk_restore.specs.Positions.Passes.{Part, leads_within, link_of, is_out, path_of, object_part, makes_object, makes_part, walks_to, points_to}
use Rattle.fk_restore.specs.Positions.Passes.{points_out_part, inward_part, holds_part, object_parts, part_at, before, behind, leads_out_any}
use Rattle.fk_restore.specs.Positions.Passes.Part.{Nothing, Walks, Asks}
use Rattle.fk_restore.specs.Positions.Doing.{pins}
use Rattle.fk_restore.specs.Positions.Walks.{walk_order, last_order, slot_at, child_towards, leads}
use Rattle.fk_restore.specs.Positions.Positions.{asked, asked_in}
use Rattle.fk_restore.specs.Orders.Given.{words_in}

-- ---- lists of orders without words

abbrev or_none : Option (List ℕ) → List ℕ
or_none None = no_words
or_none (Some words) = words

said : (o : Option Order) → words_in o ≡ or_none (option_map words_of o)
said None = refl
said (Some o) = refl

alike : (n k : ℕ) → or_none (slice_get (replicate n no_words) k) ≡ no_words
alike zero k = refl
alike (suc n) zero = refl
alike (suc n) (suc k) = alike n k

quiet : (os : List Order) (n k : ℕ) → map words_of os ≡ replicate n no_words → words_in (slice_get os k) ≡ no_words
quiet os n k e = said (slice_get os k) ∙ ap or_none (sym (slice_get-map words_of os k) ∙ ap (λ xs. slice_get xs k) e) ∙ alike n k

pub before_none : (ss : List SpaceRec) (slot : ℕ) (bind : ℕ → ℕ) (pass : Pass) (k : ℕ) → words_in (slice_get (before ss slot bind pass) k) ≡ no_words
before_none ss slot bind Spaces k = quiet (script.opens slot) 9 k refl
before_none ss slot bind Fills k = refl
before_none ss slot bind Inward k = refl
before_none ss slot bind Ties k = refl
before_none ss slot bind Holds k = refl
before_none ss slot bind (Outward i) k = by (leads_out_any ss i)
  where
    by : (b : Bool) → words_in (slice_get (cond b (pins (bind i)) []) k) ≡ no_words
    by true = quiet (pins (bind i)) 3 k refl
    by false = refl

pub behind_none : (ss : List SpaceRec) (pass : Pass) (k : ℕ) → words_in (slice_get (behind ss pass) k) ≡ no_words
behind_none ss Spaces k = refl
behind_none ss Fills k = refl
behind_none ss Inward k = refl
behind_none ss Ties k = refl
behind_none ss Holds k = quiet script.closes 7 k refl
behind_none ss (Outward i) k = by (leads_out_any ss i)
  where
    by : (b : Bool) → words_in (slice_get (cond b (LeadsTop script.T ∷ []) []) k) ≡ no_words
    by true = quiet (LeadsTop script.T ∷ []) 1 k refl
    by false = refl

-- ---- walks

pub walk_none : (ss : List SpaceRec) (w : Walk) → words_in (walk_order ss w) ≡ no_words
walk_none ss Done = refl
walk_none ss (Top r) = refl
walk_none ss (Down r name from to last) = by (from == to)
  where
    ends : (last : Option ℕ) → words_in (last_order r name (space_path ss to) last) ≡ no_words
    ends None = refl
    ends (Some k) = refl

    by : (b : Bool) → words_in (cond b (last_order r name (space_path ss to) last)
        (Some (Leads r name (space_path ss from) (slot_at ss (child_towards ss from to))))) ≡ no_words
    by true = ends last
    by false = refl

-- ---- parts

module _ (ss : List SpaceRec) (slot : ℕ) (bind : ℕ → ℕ) (n : ℕ) (s : SpaceRec) where
  abbrev Silent : Part → Type 0
  Silent part = words_in (asked ss slot bind part) ≡ no_words

  -- a choice of silent parts
  if_silent : (b : Bool) (p q : Part) → Silent p → Silent q → Silent (cond b p q)
  if_silent true p q hp hq = hp
  if_silent false p q hp hq = hq

  pub made_none : (j : ℕ) (os : List ObjectRec) → words_in (asked ss slot bind (object_part ss slot bind n s (makes_object ss slot bind n s) j os)) ≡ no_words
  made_none j os = by (slice_get os j)
    where
      by : (o : Option ObjectRec) → Silent (elim o [ None ↦ Nothing | Some o ↦ Asks (makes_object ss slot bind n s o) ])
      by None = refl
      by (Some o) = refl

  pub points_none : (i x : ℕ) (to : Link) → words_in (asked ss slot bind (points_out_part ss slot bind n s i x to)) ≡ no_words
  points_none i x to = if_silent (is_out ss slot bind n s i to) (Asks (Points script.P (space_path ss n) x script.T)) Nothing refl refl

  pub walks_none : (r a : ℕ) (to : Link) → words_in (asked ss slot bind (walks_to ss slot bind n s r a to)) ≡ no_words
  walks_none r a (In k m) = refl
  walks_none r a Root = refl
  walks_none r a Null = refl
  walks_none r a Dead = refl
  walks_none r a Outside = refl
  walks_none r a (Out j) = refl

  pub makes_none : (k : ℕ) → words_in (asked ss slot bind (makes_part ss slot bind n s k)) ≡ no_words
  makes_none k = if_silent (k == 0) (Asks (Makes script.P (space_path ss s.parent) s.slot kinds.Space)) Nothing refl refl

  points_to_none : (x : ℕ) (to : Link) → Silent (points_to ss slot bind n s x to)
  points_to_none x (In k m) = refl
  points_to_none x Root = refl
  points_to_none x Null = refl
  points_to_none x Dead = refl
  points_to_none x Outside = refl
  points_to_none x (Out j) = refl

  pub inward_none : (j k : ℕ) → words_in (asked ss slot bind (object_parts ss slot bind n s (inward_part ss slot bind n s) j k)) ≡ no_words
  inward_none j k = by (slice_get s.objects j)
    where
      by : (o : Option ObjectRec) → Silent (elim o [ None ↦ Nothing | Some o ↦ inward_part ss slot bind n s o.slot o.body k ])
      by None = refl
      by (Some o) =
          if_silent (k == 0) (walks_to ss slot bind n s script.T n (link_of o.body))
          (cond (k == 1) (points_to ss slot bind n s o.slot (link_of o.body)) Nothing)
          (walks_none script.T n (link_of o.body))
          (if_silent (k == 1) (points_to ss slot bind n s o.slot (link_of o.body)) Nothing (points_to_none o.slot (link_of o.body)) refl)

  pub holds_none : (k : ℕ) → words_in (asked ss slot bind (holds_part ss slot bind n s k)) ≡ no_words
  holds_none k =
      if_silent (leads_within s.holder) (cond (k == 0) walk (cond (k == 1) hold Nothing)) Nothing
      (if_silent (k == 0) walk (cond (k == 1) hold Nothing) refl (if_silent (k == 1) hold Nothing refl refl)) refl
    where
      walk : Part
      walk = Walks (leads ss slot script.T s.parent s.holder)

      hold : Part
      hold = Asks (HoldsOrder script.P (space_path ss s.parent) s.slot script.T (path_of ss slot bind n s s.holder))

-- ---- a thread's record

kept : (g : List ℕ) (n code : ℕ) → length g ≡ 16 → g ≡ registers_of (mode g n code)
kept g n code long = by (n == 0) (n == 1) (todo_of g) refl
  where
    by : (p q : Bool) (o : Option (List Stage)) → todo_of g ≡ o → g ≡ registers_of (cond p (Running g) (cond q (mode_while_calling g o) (Halted g code)))
    by true q o e = refl
    by false false o e = refl
    by false true None e = refl
    by false true (Some todo) e = sym (todo_writes_back_lem g todo long e).2

-- the words of a thread's record, each in its place
placed : (g : List ℕ) (n m h s a b c d e : ℕ) → length g ≡ 16 → 8 ∷ slice_set (slice_set (slice_set (slice_set (slice_set (slice_set (slice_set (slice_set
    (slice_set (g ++ replicate 47 0) 16 n) 17 m) 18 h) 19 s) 20 a) 21 b) 22 c) 23 d) 24 e
    ≡ script.padded (padded 32 (8 ∷ (((g ++ n ∷ m ∷ h ∷ s ∷ []) ++ a ∷ b ∷ []) ++ c ∷ d ∷ e ∷ [])))
placed g n m h s a b c d e long =
    subst (λ g. 8 ∷ slice_set (slice_set (slice_set (slice_set (slice_set (slice_set (slice_set (slice_set
    (slice_set (g ++ replicate 47 0) 16 n) 17 m) 18 h) 19 s) 20 a) 21 b) 22 c) 23 d) 24 e
    ≡ script.padded (padded 32 (8 ∷ (((g ++ n ∷ m ∷ h ∷ s ∷ []) ++ a ∷ b ∷ []) ++ c ∷ d ∷ e ∷ [])))) (sixteen g long) refl

-- are the record
pub thread_words : (ss : List SpaceRec) (t : ThreadRec) (m h a b c d e : ℕ) → length t.regs ≡ 16 →
    m ≡ mode_number (mode t.regs t.mode t.code) → h ≡ halt_code (mode t.regs t.mode t.code) →
    talk_words (option_map (pictured_talk ss) t.talk) ≡ a ∷ b ∷ [] → fault_words (option_map (pictured_fault ss) t.fault) ≡ c ∷ d ∷ e ∷ [] →
    8 ∷ slice_set (slice_set (slice_set (slice_set (slice_set (slice_set (slice_set (slice_set
    (slice_set (t.regs ++ replicate 47 0) 16 t.pc) 17 m) 18 h) 19 t.stops) 20 a) 21 b) 22 c) 23 d) 24 e
    ≡ script.padded (record_of (Thread_of (pictured_thread ss t)))
unfolding record_of
thread_words ss t m h a b c d e long number code talk fault =
    let shown : padded 32 (8 ∷ (((t.regs ++ t.pc ∷ m ∷ h ∷ t.stops ∷ []) ++ a ∷ b ∷ []) ++ c ∷ d ∷ e ∷ []))
    ≡ record_of (Thread_of (pictured_thread ss t)) =
    (λ i. padded 32 (8 ∷ (((kept t.regs t.mode t.code long i ++ t.pc ∷ number i ∷ code i ∷ t.stops ∷ []) ++ sym talk i) ++ sym fault i))) in
    placed t.regs t.pc m h t.stops a b c d e long ∙ ap script.padded shown

-- the words of a part, where there is such a space
pub part_given : (ss : List SpaceRec) (slot : ℕ) (bind : ℕ → ℕ) (pass : Pass) (n j k : ℕ) (o : Option SpaceRec) (s : SpaceRec) (r : List ℕ) →
    o ≡ Some s → nat_lt k 6 ≡ true → r ≡ words_in (asked ss slot bind (part_at ss slot bind n s pass j k)) → r ≡ words_in (asked_in ss slot bind pass n j k o)
part_given ss slot bind pass n j k o s r here low e =
    e ∙ ap (λ t. words_in (cond t (asked ss slot bind (part_at ss slot bind n s pass j k)) None)) (sym low)
    ∙ ap (λ o. words_in (asked_in ss slot bind pass n j k o)) (sym here)
