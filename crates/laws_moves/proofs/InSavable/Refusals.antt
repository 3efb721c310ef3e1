-- Each reader refuses with a status that is a word.
use Rattle.std.proofs.Common.{◌≡◌, ℕ, Bool, true, false, if◌then◌else◌, ◌==◌, nat_le, ◌∷◌, Option, Some, None, Result, Ok, Err, refl}
use Rattle.fk_model.specs.declared.limits.TheConstants.{OWN_SPACE}
use Rattle.fk_model.specs.declared.names.Kind.{Kind}
use Rattle.fk_model.specs.declared.names.Kind.TheVariants as kinds
use Rattle.fk_model.specs.declared.statuses.status.TheConstants.{BADHANDLE, WRONGKIND, NOTLINKED, WRONGTURN}
use Rattle.fk_model.specs.declared.thread.Turn.{Turn}
use Rattle.fk_model.specs.Places.{Path, Ptr}
use Rattle.fk_model.specs.Places.Ptr.{Null, Dead, At, Out}
use Rattle.fk_model.specs.Objects.{Body, kind_of, same_kind}
use Rattle.fk_model.specs.Objects.Peer.{Server}
use Rattle.fk_model.specs.Objects.Body.{Mutex, Reference}
use Rattle.fk_model.specs.World.{World}
use Rattle.fk_model.specs.Outcomes.{Caller, refuse, or_refuse, last_slot}
use Rattle.fk_model.specs.Readers.{and_read, slot_for, seen_as, anything, object_in, kind_at, is_kind, led_to, handled, handle, path_at, space_argument}
use Rattle.fk_model.specs.Readers.{referred}
use Rattle.fk_model.specs.Talks.{Line, line, same_side, thread_led_to}
use Rattle.fk_model.specs.TransferRows.{at_turn, in_turn}
use Rattle.fk_model.specs.FaultRows.{named_taker}
use Rattle.fk_model.specs.SpaceRows.{thread_by_handle}
use Rattle.fk_model.specs.ObjectRows.{target_of, object_or_space}
use Rattle.laws_moves.proofs.InSavable.Words.{IsWord}
use Rattle.laws_moves.proofs.InSavable.Kept.{RefusesByWord, kept->>=, kept-refuse, kept-or_refuse, kept-when, waits, refused}

reads : {A : Type 0} (a : A) → RefusesByWord (Ok a)
reads a = record { word = λ status h. cc }

refuses : {A : Type 0} (status : ℕ) → IsWord status → RefusesByWord {A = A} (Err status)
refuses status word = record { word = λ other h. let same : status ≡ other = cc in rw (← same) word }

either : {A : Type 0} (t : Bool) (a b : Result A ℕ) → RefusesByWord a → RefusesByWord b → RefusesByWord (if t then a else b)
either true a b first second = first
either false a b first second = second

pub refuse-word : (status : ℕ) (test : Bool) → IsWord status → RefusesByWord (refuse status test)
refuse-word status test word = either test _ _ (refuses status word) (reads tt)

pub or_refuse-word : {A : Type 0} (status : ℕ) (o : Option A) → IsWord status → RefusesByWord (or_refuse status o)
or_refuse-word status (Some a) word = reads a
or_refuse-word status None word = refuses status word

then-word : {A B : Type 0} (r : Result A ℕ) (go : A → Result B ℕ) → RefusesByWord r → ((a : A) → RefusesByWord (go a)) → RefusesByWord (and_read r go)
then-word (Ok a) go first later = later a
then-word (Err status) go first later = refuses status (first.word status refl)

pub slot_for-word : (c : Caller) (k : ℕ) → RefusesByWord (slot_for c k)
slot_for-word c k = either (nat_le k (last_slot c)) _ _ (reads k) (refuses BADHANDLE refl)

seen_as-word : {A : Type 0} (view : Body → Option A) (o : Option Body) → RefusesByWord (seen_as view o)
seen_as-word view None = refuses BADHANDLE refl
seen_as-word view (Some b) = or_refuse-word WRONGKIND (view b) refl

pub object_in-word : {A : Type 0} (w : World) (c : Caller) (view : Body → Option A) (s : Path) (k : ℕ) → RefusesByWord (object_in w c view s k)
unfolding object_in
object_in-word w c view s k = then-word (slot_for c k) _ (slot_for-word c k) (λ j. seen_as-word view (w.body (j ∷ s)))

led_to-word : (w : World) (wanted : Kind) (p : Ptr) → RefusesByWord (led_to w wanted p)
led_to-word w wanted Null = refuses _ refl
led_to-word w wanted Dead = refuses _ refl
led_to-word w wanted (At x) = either (is_kind wanted (kind_at w (At x))) _ _ (reads (At x)) (refuses WRONGKIND refl)
led_to-word w wanted (Out slot) = either (is_kind wanted (kind_at w (Out slot))) _ _ (reads (Out slot)) (refuses WRONGKIND refl)
led_to-word w wanted p = refuses WRONGKIND refl

handled-word : (w : World) (wanted : Kind) (x : Path) (o : Option Body) → RefusesByWord (handled w wanted x o)
handled-word w wanted x None = refuses BADHANDLE refl
handled-word w wanted x (Some (Reference to)) = led_to-word w wanted to
handled-word w wanted x (Some (Mutex locked)) = either (same_kind wanted kinds.Mutex) _ _ (reads (At x)) (refuses WRONGKIND refl)
handled-word w wanted x (Some b) = either (same_kind wanted (kind_of b)) _ _ (reads (At x)) (refuses WRONGKIND refl)

pub handle-word : (w : World) (c : Caller) (wanted : Kind) (h : ℕ) → RefusesByWord (handle w c wanted h)
unfolding handle
handle-word w c wanted h = then-word (slot_for c h) _ (slot_for-word c h) (λ k. handled-word w wanted (k ∷ c.space) (w.body (k ∷ c.space)))

path_at-word : (p : Ptr) → RefusesByWord (path_at p)
path_at-word (At x) = reads x
path_at-word Null = refuses WRONGKIND refl
path_at-word p = refuses WRONGKIND refl

pub space_argument-word : (w : World) (c : Caller) (s : ℕ) → RefusesByWord (space_argument w c s)
unfolding space_argument
space_argument-word w c s = either (s == OWN_SPACE) _ _ (reads c.space)
    (then-word (handle w c kinds.Space s) path_at (handle-word w c kinds.Space s) path_at-word)

pub referred-word : (w : World) (c : Caller) (wanted : Kind) (k : ℕ) → RefusesByWord (referred w c wanted k)
unfolding referred
referred-word w c wanted k = then-word (object_in w c _ c.space k) (led_to w wanted) (object_in-word w c _ c.space k) (led_to-word w wanted)

pub named_taker-word : (w : World) (c : Caller) (taker : ℕ) → RefusesByWord (named_taker w c taker)
named_taker-word w c taker = either (taker == OWN_SPACE) _ _ (reads None)
    (then-word (referred w c kinds.Thread taker) _ (referred-word w c kinds.Thread taker) (λ thread. reads (Some (Server thread))))

pub thread_by_handle-word : (w : World) (c : Caller) (h : ℕ) → RefusesByWord (thread_by_handle w c h)
thread_by_handle-word w c h =
    then-word (handle w c kinds.Thread h) _ (handle-word w c kinds.Thread h) (λ p. or_refuse-word WRONGKIND (thread_led_to w p) refl)

pub in_turn-word : (w : World) (me : Path) (side turn : Turn) → RefusesByWord (in_turn w me side turn)
in_turn-word w me side turn = by (line w me side)
  where
    by : (o : Option Line) → RefusesByWord (at_turn turn o)
    by None = refuses NOTLINKED refl
    by (Some l) = either (same_side l.talk.turn turn) _ _ (reads l) (refuses WRONGTURN refl)

pub target_of-word : (p : Ptr) → RefusesByWord (target_of p)
target_of-word Null = refuses _ refl
target_of-word Dead = refuses _ refl
target_of-word (At x) = reads (At x)
target_of-word p = reads p

pub object_or_space-word : (w : World) (c : Caller) (space : Path) (x : ℕ) → RefusesByWord (object_or_space w c space x)
object_or_space-word w c space x = either (x == OWN_SPACE) _ _ (reads space)
    (then-word (object_in w c anything space x) _ (object_in-word w c anything space x) (λ b. reads (x ∷ space)))

-- a row is a walk through its checks
pub ruleset kept_row = (
  kept->>=,
  kept-refuse,
  kept-or_refuse,
  kept-when,
  waits,
  refused,
  refuse-word,
  or_refuse-word,
  slot_for-word,
  object_in-word,
  handle-word,
  space_argument-word,
  referred-word,
  named_taker-word,
  thread_by_handle-word,
  in_turn-word,
  target_of-word,
  object_or_space-word,
)
