-- Rows step by step: what follows an answer that is alike goes alike, and so do the ends of a stage.
use Rattle.std.proofs.Common.{◌≡◌, ℕ, Bool, true, false, cond, List, [], ◌∷◌, ◌++◌, Option, Some, None, IfSome, Result, Ok, Err, refl}
use Rattle.fk_model.specs.declared.statuses.halt.TheConstants.{BAD_ADDRESS, MISSING_PAGE}
use Rattle.fk_model.specs.declared.statuses.status.TheConstants.{OK}
use Rattle.fk_model.specs.Places.{Path, Ptr}
use Rattle.fk_model.specs.Objects.{Peer, Talk, Fault, Thread, Body, and_then}
use Rattle.fk_model.specs.Objects.Body.{Thread_of}
use Rattle.fk_model.specs.World.{World, Change, apply_all}
use Rattle.fk_model.specs.World.Change.{Alter}
use Rattle.fk_model.specs.World.Edit.{Finish, End, SetFault}
use Rattle.fk_model.specs.Searches.{talk_at}
use Rattle.fk_model.specs.Reach.{Reach}
use Rattle.fk_model.specs.Outcomes.{Said, Outcome, ◌>>=◌, refuse, when, Caller, path_of, done, telling}
use Rattle.fk_model.specs.Outcomes.Outcome.{Refused, Waits, Goes}
use Rattle.fk_model.specs.Outcomes.Said.{Nothing, Answered}
use Rattle.fk_model.specs.Readers.{missed, accessed, own_page_at, own_page, their_page_at, their_page}
use Rattle.fk_model.specs.Talks.{Line}
use Rattle.fk_model.specs.Moves.{closed}
use Rattle.fk_model.specs.Cut.{seen_by}
use Rattle.laws_subtrees.specs.Cut.Likeness.{seeing, seen_talk, seen_thread, HasLikeness, AllInTalk, IsPlainBody, IsLikeness, under, AlikeResults, AlikeOptions}
use Rattle.laws_subtrees.specs.Cut.Likeness.{IsBeneath, IsSeenAs, IsSeenBody, IsSeenHolder, PeerLikeness, EndLikeness, LineLikeness, ReachLikeness}
use Rattle.laws_subtrees.specs.Cut.Likeness.EndLikeness.{Ends}
use Rattle.laws_subtrees.specs.Cut.Likeness.LineLikeness.{Lines}
use Rattle.laws_subtrees.specs.Cut.Likeness.ReachLikeness.{Homes, Misses, Bads}
use Rattle.laws_subtrees.specs.Cut.LikeChanges.{LikeChanges, IsLikeOutcome, IsLikeUnlessWaiting}
use Rattle.laws_subtrees.specs.Cut.LikeChanges.LikeChange.{Alters}
use Rattle.laws_subtrees.specs.Cut.LikeChanges.LikeChanges.{Empty, Both, Beyond}
use Rattle.laws_subtrees.proofs.InCut.likeness.Memory.{reach_word-like}

-- ---- lists of changes

pub append-like : {root : Path} {see : Ptr → Ptr} {big : World} {cs ds es fs : List Change} →
    LikeChanges root see big cs ds → LikeChanges root see (apply_all ds big) es fs → LikeChanges root see big (cs ++ es) (ds ++ fs)
unfolding apply_all
append-like Empty h = h
append-like (Both c cs) h = Both c (append-like cs h)
append-like (Beyond d cs) h = Beyond d (append-like cs h)

module _ {root : Path} {see : Ptr → Ptr} {small big : World} (like : IsLikeness root see small big) where
  abbrev Alike : Outcome → Outcome → Type 0
  Alike = IsLikeOutcome root see big

  -- ---- the next step of a row, after an answer

  pub bind-like : {A B : Type 0} (R : A → B → Type 0) (a : Result A ℕ) (b : Result B ℕ) (f : A → Outcome) (g : B → Outcome) →
      AlikeResults R a b → ((x : A) (y : B) → R x y → Alike (f x) (g y)) → Alike (a >>= f) (b >>= g)
  bind-like R (Ok x) (Ok y) f g h go = go x y h
  bind-like R (Err status) (Err refusal) f g h go = h
  bind-like R (Ok x) (Err refusal) f g h go = absurd h
  bind-like R (Err status) (Ok y) f g h go = absurd h

  -- the answers don't matter
  pub bind_any : {A B : Type 0} (R : A → B → Type 0) (a : Result A ℕ) (b : Result B ℕ) (f : A → Outcome) (g : B → Outcome) →
      AlikeResults R a b → ((x : A) (y : B) → Alike (f x) (g y)) → Alike (a >>= f) (b >>= g)
  bind_any R a b f g h go = bind-like R a b f g h (λ x y same. go x y)

  -- one answer
  pub bind_same : {A : Type 0} (a b : Result A ℕ) (f g : A → Outcome) → AlikeResults ◌≡◌ a b → ((x : A) → Alike (f x) (g x)) → Alike (a >>= f) (b >>= g)
  bind_same a b f g h go = bind-like ◌≡◌ a b f g h (λ x y e. rw e (go y))

  -- a space inside
  pub bind_path : (a b : Result Path ℕ) (f g : Path → Outcome) →
      AlikeResults (IsBeneath root) a b → ((q : Path) → Alike (f q) (g (q ++ root))) → Alike (a >>= f) (b >>= g)
  bind_path a b f g h go = bind-like (IsBeneath root) a b f g h (λ q x e. rw e (go q))

  -- a pointer
  pub bind_ptr : (a b : Result Ptr ℕ) (f g : Ptr → Outcome) →
      AlikeResults (IsSeenAs root see big) a b → ((p : Ptr) → HasLikeness root see big p → Alike (f (see p)) (g p)) → Alike (a >>= f) (b >>= g)
  bind_ptr a b f g h go = bind-like (IsSeenAs root see big) a b f g h (λ seen p h. rw h.0 (go p h.1))

  -- an object, a thread, a holder
  pub bind_body : (a b : Result Body ℕ) (f g : Body → Outcome) → AlikeResults (IsSeenBody root see big) a b →
      ((b : Body) → IsPlainBody see (HasLikeness root see big) b → Alike (f (seen_by (seeing see) b)) (g b)) → Alike (a >>= f) (b >>= g)
  bind_body a b f g h go = bind-like (IsSeenBody root see big) a b f g h (λ seen b h. rw h.0 (go b h.1))

  pub bind_holder : (a b : Result (Option Ptr) ℕ) (f g : Option Ptr → Outcome) → AlikeResults (IsSeenHolder root see big) a b →
      ((holder : Option Ptr) → IfSome holder (HasLikeness root see big) → Alike (f (and_then (seeing see).holder holder)) (g holder)) →
      Alike (a >>= f) (b >>= g)
  bind_holder a b f g h go = bind-like (IsSeenHolder root see big) a b f g h (λ seen holder h. rw h.0 (go holder h.1))

  -- a thread with its path
  pub bind_end : (a b : Result (Path × Thread) ℕ) (f g : Path × Thread → Outcome) → AlikeResults (EndLikeness root see big) a b →
      ((k : ℕ) (q : Path) (t : Thread) → big.body (k ∷ (q ++ root)) ≡ Some (Thread_of t) →
      IsPlainBody see (HasLikeness root see big) (Thread_of t) → Alike (f (k ∷ q, seen_thread see t)) (g (k ∷ (q ++ root), t))) →
      Alike (a >>= f) (b >>= g)
  bind_end a b f g h go = bind-like (EndLikeness root see big) a b f g h by
    where
      by : (seen e : Path × Thread) → EndLikeness root see big seen e → Alike (f seen) (g e)
      by _ _ (Ends k q t is near) = go k q t is near

  -- a line
  pub bind_line : (a b : Result Line ℕ) (f g : Line → Outcome) → AlikeResults (LineLikeness root see big) a b →
      ((k : ℕ) (q : Path) (talk : Talk) (other seen : Peer) →
      talk_at big (k ∷ (q ++ root)) ≡ Some talk → AllInTalk see (HasLikeness root see big) talk → PeerLikeness root see big other seen →
      Alike (f (record { client = k ∷ q; talk = seen_talk see talk; other = seen })) (g (record { client = k ∷ (q ++ root); talk = talk; other = other }))) →
      Alike (a >>= f) (b >>= g)
  bind_line a b f g h go = bind-like (LineLikeness root see big) a b f g h by
    where
      by : (near far : Line) → LineLikeness root see big near far → Alike (f near) (g far)
      by _ _ (Lines k q talk other seen is near peer) = go k q talk other seen is near peer

  -- ---- checks

  pub refuse-like : (status : ℕ) (a b : Bool) (f g : Unit {0} → Outcome) →
      a ≡ b → (b ≡ false → Alike (f tt) (g tt)) → Alike (refuse status a >>= f) (refuse status b >>= g)
  refuse-like status a b f g same go = rw same (by b refl)
    where
      by : (t : Bool) → b ≡ t → Alike (refuse status t >>= f) (refuse status t >>= g)
      by true e = refl
      by false e = go e

  -- the test is one in both worlds
  pub when-like : (test : Bool) (near far : Outcome) → Alike near far → Alike (when test near) (when test far)
  when-like true near far h = h
  when-like false near far h = tt

  -- what is alike is so unless the big world waits
  pub unless_waiting : (near far : Outcome) → Alike near far → IsLikeUnlessWaiting root see big near far
  unless_waiting near Waits h = tt
  unless_waiting near (Refused status) h = h
  unless_waiting near (Goes changes said) h = h

  -- ---- the ends of a stage

  pub done-like : (c : Caller) (cs ds : List Change) (answers : List ℕ) →
      LikeChanges root see big cs ds → Alike (done c cs answers) (done (under root c) ds answers)
  done-like c cs ds answers h = by c.is_porter
    where
      by : (b : Bool) → Alike (cond b (Goes cs (Answered OK answers)) (Goes (cs ++ Alter (path_of c) (Finish answers) ∷ []) Nothing))
          (cond b (Goes ds (Answered OK answers)) (Goes (ds ++ Alter (path_of (under root c)) (Finish answers) ∷ []) Nothing))
      by true = h
      by false = append-like h (Both (Alters c.slot c.space _ _ refl tt) Empty)

  pub telling-like : (said told : Said) (near far : Outcome) → Alike near far → Alike (telling said near) (telling told far)
  telling-like said told Waits Waits h = tt
  telling-like said told (Refused status) Waits h = absurd h
  telling-like said told (Goes cs was) Waits h = absurd h
  telling-like said told (Refused status) (Refused refusal) h = h
  telling-like said told (Goes cs was) (Goes ds heard) h = by was heard
    where
      hears : (s : Said) (heard : Said) → Alike (Goes cs s) (telling told (Goes ds heard))
      hears s Nothing = h
      hears s heard = h

      by : (was heard : Said) → Alike (telling said (Goes cs was)) (telling told (Goes ds heard))
      by Nothing heard = hears said heard
      by was heard = hears was heard
  telling-like said told (Refused status) (Goes ds heard) h = absurd h
  telling-like said told (Goes cs was) (Refused refusal) h = absurd h
  telling-like said told Waits (Refused refusal) h = absurd h
  telling-like said told Waits (Goes ds heard) h = absurd h

  -- a refused stage ends its call
  pub closed-like : (c : Caller) (near far : Outcome) → Alike near far → Alike (closed c near) (closed (under root c) far)
  closed-like c Waits Waits h = tt
  closed-like c (Refused status) Waits h = absurd h
  closed-like c (Goes cs said) Waits h = absurd h
  closed-like c (Refused status) (Refused refusal) h = rw h (by c.is_porter)
    where
      by : (b : Bool) → Alike (cond b (Goes [] (Answered refusal [])) (Goes (Alter (path_of c) (End refusal []) ∷ []) Nothing))
          (cond b (Goes [] (Answered refusal [])) (Goes (Alter (path_of (under root c)) (End refusal []) ∷ []) Nothing))
      by true = Empty
      by false = Both (Alters c.slot c.space _ _ refl tt) Empty
  closed-like c (Goes cs said) (Goes ds told) h = h
  closed-like c (Refused status) (Goes ds told) h = absurd h
  closed-like c (Goes cs said) (Refused refusal) h = absurd h
  closed-like c Waits (Refused refusal) h = absurd h
  closed-like c Waits (Goes ds told) h = absurd h

  pub closed-unless : (c : Caller) (near far : Outcome) →
      IsLikeUnlessWaiting root see big near far → IsLikeUnlessWaiting root see big (closed c near) (closed (under root c) far)
  closed-unless c near Waits h = tt
  closed-unless c near (Refused status) h = unless_waiting _ _ (closed-like c near (Refused status) h)
  closed-unless c near (Goes changes said) h = unless_waiting _ _ (closed-like c near (Goes changes said) h)

  -- ---- accesses

  missed-like : (k : ℕ) (q : Path) (page : ℕ) (write : Bool) (near far : Outcome) (keeper port : Option Ptr) →
      AlikeOptions (IsSeenAs root see big) keeper port → Alike near far →
      Alike (missed near (k ∷ q) page write keeper) (missed far (k ∷ (q ++ root)) page write port)
  missed-like k q page write near far None None h otherwise = otherwise
  missed-like k q page write near far (Some seen) (Some port) h otherwise =
      let fault : Fault = record { page = page; write = write; port = port; taker = None } in
      rw h.0 (Both (Alters k q _ (SetFault (Some fault)) refl (h.1, tt)) Empty)
  missed-like k q page write near far None (Some port) h otherwise = absurd h
  missed-like k q page write near far (Some seen) None h otherwise = absurd h

  pub accessed-like : (k : ℕ) (q : Path) (write : Bool) (halts stops : ℕ → Outcome) (go on : Path → ℕ → Outcome) (a b : Reach) →
      ReachLikeness root see big a b → ((code : ℕ) → Alike (halts code) (stops code)) → ((s : Path) (page : ℕ) → Alike (go s page) (on (s ++ root) page)) →
      Alike (accessed (k ∷ q) write halts go a) (accessed (k ∷ (q ++ root)) write stops on b)
  accessed-like k q write halts stops go on _ _ (Homes s page) stop goes = goes s page
  accessed-like k q write halts stops go on _ _ (Misses s page keeper port h) stop goes = missed-like k q page write _ _ keeper port h (stop MISSING_PAGE)
  accessed-like k q write halts stops go on _ _ Bads stop goes = stop BAD_ADDRESS

  own_page_at-like : (k : ℕ) (q : Path) (write : Bool) (go on : Path → ℕ → Outcome) (a b : Reach) → ReachLikeness root see big a b →
      ((s : Path) (page : ℕ) → Alike (go s page) (on (s ++ root) page)) → Alike (own_page_at (k ∷ q) write go a) (own_page_at (k ∷ (q ++ root)) write on b)
  own_page_at-like k q write go on _ _ (Homes s page) goes = goes s page
  own_page_at-like k q write go on _ _ (Misses s page keeper port h) goes = missed-like k q page write _ _ keeper port h refl
  own_page_at-like k q write go on _ _ Bads goes = refl

  pub own_page-like : (c : Caller) (address : ℕ) (write : Bool) (go on : Path → ℕ → Outcome) →
      ((s : Path) (page : ℕ) → Alike (go s page) (on (s ++ root) page)) →
      Alike (own_page small c address write go) (own_page big (under root c) address write on)
  own_page-like c address write go on goes = own_page_at-like c.slot c.space write go on _ _ (reach_word-like like c.space address write) goes

  their_page_at-like : (go on : Path → ℕ → Outcome) (a b : Reach) →
      ReachLikeness root see big a b → ((s : Path) (page : ℕ) → Alike (go s page) (on (s ++ root) page)) → Alike (their_page_at go a) (their_page_at on b)
  their_page_at-like go on _ _ (Homes s page) goes = goes s page
  their_page_at-like go on _ _ (Misses s page keeper port h) goes = tt
  their_page_at-like go on _ _ Bads goes = tt

  pub their_page-like : (space : Path) (address : ℕ) (go on : Path → ℕ → Outcome) →
      ((s : Path) (page : ℕ) → Alike (go s page) (on (s ++ root) page)) → Alike (their_page small space address go) (their_page big (space ++ root) address on)
  their_page-like space address go on goes = their_page_at-like go on _ _ (reach_word-like like space address true) goes
