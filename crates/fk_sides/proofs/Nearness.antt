-- The near side: what a checkpoint asks for and comes to, and its image.
use Rattle.std.proofs.Common.{◌≡◌, ℕ, zero, suc, ◌+◌, ◌-◌, ◌<◌, ◌≤◌, Bool, true, false, List, [], ◌∷◌, ◌++◌, length, map, Option, Some, None, option_map, is_some}
use Rattle.std.proofs.Common.{◌↔◌, IsTrue, IfSome, IfNone, refl, sym, ap, subst, ◌∙◌, arith}
use Rattle.std.specs.List.{slice_get}
use Rattle.fk_model.specs.declared.stage.Stage.{Stage}
use Rattle.fk_image.specs.declared.image.image.Image.{Image}
use Rattle.fk_checkpoint.specs.declared.checkpoint.checkpoint.Phase.{Phase}
use Rattle.fk_checkpoint.specs.declared.checkpoint.checkpoint.Phase.TheVariants as phases
use Rattle.fk_checkpoint.specs.Checkpoint.Checkpoints.{end_of, gathered_in}
use Rattle.fk_checkpoint.specs.Checkpoint.Phases.{phase_of, state_of, IsOver}
use Rattle.laws_jobs.specs.Machines.{no_words, Head}
use Rattle.laws_jobs.specs.Machines.Head.{Asks}
use Rattle.laws_checkpoint.specs.Checkpoint as checks
use Rattle.laws_handover.specs.NearSide as near
use Rattle.fk_image.specs.Format.Spelling.{spelling}
use Rattle.fk_checkpoint.specs.declared.checkpoint.checkpoint.Checkpoint.{Checkpoint}
use Rattle.laws_handover.specs.Handover.{near_told}
use Rattle.laws_handover.specs.Packets.{Packet}
use Rattle.laws_handover.specs.Pieces.{Piece, pieces}
use Rattle.laws_handover.specs.Sent.{sent_near}
use Rattle.laws_migrate.specs.Images.{image_codec}
use Rattle.laws_migrate.specs.Migration.{Why, may_give_up}
use Rattle.fk_sides.specs.declared.near.Since.{Since}
use Rattle.fk_sides.specs.declared.near.Since.TheVariants as sinces
use Rattle.fk_sides.specs.declared.near.Saves.{Saves}
use Rattle.fk_sides.specs.declared.near.Saves.TheVariants as saves
use Rattle.fk_sides.specs.Nears.{since_of, last_of, saves_of, slot_in, IsSpelled}
use Rattle.fk_sides.specs.Sides.{NearSide, bare, both, asks_for, near_at, near_call, near_heard, option_list}
use Rattle.fk_sides.proofs.Cuts.{packet_is, before, behind}

abbrev waiting : Image → NearSide
waiting i = near.Waits i

abbrev cleared : Image → NearSide
cleared i = near.Cleared i

abbrev pub clearing : Image → ℕ → NearSide
clearing i more = near.Clears i more

abbrev an_image : Image → Option Image
an_image i = Some i

some_none : (i : Image) → an_image i ≡ None → ⊥
some_none i e = cc

-- one that has no image asks for what its machine asks
call_is : (slot : ℕ) (s : checks.State) → gathered_in s ≡ None → near_call slot (near_at s) ≡ asks_for (checks.head slot s)
call_is slot checks.Holds none = refl
call_is slot (checks.Readies r rest) none = refl
call_is slot (checks.Walks s) none = refl
call_is slot (checks.Seeks mets s) none = refl
call_is slot (checks.Reads s) none = refl
call_is slot (checks.Gathers contents s) none = refl
call_is slot (checks.Drops r rest end) none = refl
call_is slot (checks.Releases checks.Gone) none = refl
call_is slot (checks.Releases (checks.Foreign place)) none = refl
call_is slot (checks.Releases (checks.Done i)) none = absurd (some_none i none)
call_is slot (checks.Over checks.Gone) none = refl
call_is slot (checks.Over (checks.Foreign place)) none = refl
call_is slot (checks.Over (checks.Done i)) none = refl

-- and hears what its machine hears
heard_is : (slot : ℕ) (s : checks.State) (status : ℕ) (words : List ℕ) → gathered_in s ≡ None
    → near_at (checks.next slot s status words) ≡ near_heard slot (near_at s) status words
heard_is slot checks.Holds status words none = refl
heard_is slot (checks.Readies r rest) status words none = refl
heard_is slot (checks.Walks s) status words none = refl
heard_is slot (checks.Seeks mets s) status words none = refl
heard_is slot (checks.Reads s) status words none = refl
heard_is slot (checks.Gathers contents s) status words none = refl
heard_is slot (checks.Drops r rest end) status words none = refl
heard_is slot (checks.Releases checks.Gone) status words none = refl
heard_is slot (checks.Releases (checks.Foreign place)) status words none = refl
heard_is slot (checks.Releases (checks.Done i)) status words none = absurd (some_none i none)
heard_is slot (checks.Over checks.Gone) status words none = refl
heard_is slot (checks.Over (checks.Foreign place)) status words none = refl
heard_is slot (checks.Over (checks.Done i)) status words none = refl

-- one that has an image waits
waits : (s : checks.State) (i : Image) → gathered_in s ≡ Some i → near_at s ≡ near.Waits i
waits checks.Holds i e = cc
waits (checks.Readies r rest) i e = cc
waits (checks.Walks s) i e = cc
waits (checks.Seeks mets s) i e = cc
waits (checks.Reads s) i e = cc
waits (checks.Gathers contents s) i e = cc
waits (checks.Drops r rest end) i e = cc
waits (checks.Releases checks.Gone) i e = cc
waits (checks.Releases (checks.Foreign place)) i e = cc
waits (checks.Releases (checks.Done j)) i e = let same : j ≡ i = cc in ap waiting same
waits (checks.Over end) i e = cc

over_asks_none : (slot : ℕ) (end : checks.End) → near_call slot (near_at (checks.Over end)) ≡ None
over_asks_none slot checks.Gone = refl
over_asks_none slot (checks.Foreign place) = refl
over_asks_none slot (checks.Done i) = refl

phase_over : (slot : ℕ) (phase : Phase) → IsOver phase → near_call slot (near_at (phase_of slot phase)) ≡ None
phase_over slot (phases.Over end) over = over_asks_none slot (end_of end)
phase_over slot phases.Holds over = absurd over
phase_over slot (phases.Readies scratch) over = absurd over
phase_over slot (phases.Walks walk) over = absurd over
phase_over slot (phases.Seeks walk seek) over = absurd over
phase_over slot (phases.Closed walk) over = absurd over
phase_over slot (phases.Reads read) over = absurd over
phase_over slot (phases.Gathers contents gather) over = absurd over
phase_over slot (phases.Ends ending) over = absurd over
phase_over slot (phases.Drops scratch end) over = absurd over
phase_over slot (phases.Releases end) over = absurd over

pub call_there : (slot : ℕ) (phase : Phase) (o : Option Stage) → gathered_in (phase_of slot phase) ≡ None
    → IfSome o (λ stage. checks.head slot (phase_of slot phase) ≡ Asks stage no_words) → IfNone o (IsOver phase)
    → option_map bare o ≡ near_call slot (near_at (phase_of slot phase))
call_there slot phase (Some stage) none asks over = sym (call_is slot (phase_of slot phase) none ∙ ap (λ (h : Head checks.End). asks_for h) asks)
call_there slot phase None none asks over = sym (phase_over slot phase over)

pub heard_there : (slot : ℕ) (s t : checks.State) (status : ℕ) (words : List ℕ) → gathered_in s ≡ None → t ≡ checks.next slot s status words
    → near_at t ≡ near_heard slot (near_at s) status words
heard_there slot s t status words none is = ap near_at is ∙ heard_is slot s status words none

-- ---- whether there is an image

pub some_map : {A B : Type 0} (f : A → B) (o : Option A) → is_some o ≡ is_some (option_map f o)
some_map f None = refl
some_map f (Some x) = refl

pub none_there : (o : Option Image) → is_some o ≡ false → o ≡ None
none_there None e = refl
none_there (Some i) e = cc

image_there : (o : Option Image) → is_some o ≡ true → (i : Image) × (o ≡ Some i)
image_there (Some i) e = (i, refl)
image_there None e = cc

pub waits_asks_none : (slot : ℕ) (s : checks.State) → is_some (gathered_in s) ≡ true → None ≡ near_call slot (near_at s)
waits_asks_none slot s there =
    let its = image_there (gathered_in s) there in
    sym (ap (near_call slot) (waits s its.0 its.1))

pub waits_hears_none : (slot : ℕ) (s : checks.State) (status : ℕ) (words : List ℕ) → is_some (gathered_in s) ≡ true
    → near_at s ≡ near_heard slot (near_at s) status words
waits_hears_none slot s status words there =
    let its = image_there (gathered_in s) there in
    waits s its.0 its.1 ∙ sym (ap (λ (n : NearSide). near_heard slot n status words) (waits s its.0 its.1))

-- ---- one without an image takes no packet

pub told_nothing : (slot : ℕ) (s : checks.State) (p : Packet Piece Why) → gathered_in s ≡ None → near_at s ≡ near_told (both slot) (near_at s) p
told_nothing slot checks.Holds p none = refl
told_nothing slot (checks.Readies r rest) p none = refl
told_nothing slot (checks.Walks s) p none = refl
told_nothing slot (checks.Seeks mets s) p none = refl
told_nothing slot (checks.Reads s) p none = refl
told_nothing slot (checks.Gathers contents s) p none = refl
told_nothing slot (checks.Drops r rest end) p none = refl
told_nothing slot (checks.Releases checks.Gone) p none = refl
told_nothing slot (checks.Releases (checks.Foreign place)) p none = refl
told_nothing slot (checks.Releases (checks.Done i)) p none = absurd (some_none i none)
told_nothing slot (checks.Over checks.Gone) p none = refl
told_nothing slot (checks.Over (checks.Foreign place)) p none = refl
told_nothing slot (checks.Over (checks.Done i)) p none = refl

-- one waits exactly where it has an image
image_waits : (s : checks.State) → is_some (gathered_in s) ≡ true → may_give_up (near_at s)
image_waits s there =
    let its = image_there (gathered_in s) there in
    subst may_give_up (sym (waits s its.0 its.1)) tt

waits_image : (s : checks.State) → may_give_up (near_at s) → is_some (gathered_in s) ≡ true
waits_image checks.Holds may = absurd may
waits_image (checks.Readies r rest) may = absurd may
waits_image (checks.Walks s) may = absurd may
waits_image (checks.Seeks mets s) may = absurd may
waits_image (checks.Reads s) may = absurd may
waits_image (checks.Gathers contents s) may = absurd may
waits_image (checks.Drops r rest end) may = absurd may
waits_image (checks.Releases checks.Gone) may = absurd may
waits_image (checks.Releases (checks.Foreign place)) may = absurd may
waits_image (checks.Releases (checks.Done i)) may = refl
waits_image (checks.Over checks.Gone) may = absurd may
waits_image (checks.Over (checks.Foreign place)) may = absurd may
waits_image (checks.Over (checks.Done i)) may = absurd may

pub works_wait : (s : Saves) (c : Checkpoint) (b : Bool) → s ≡ saves.Works c → b ≡ is_some (gathered_in (state_of c)) → IsTrue b ↔ may_give_up (saves_of s)
works_wait s c b is there = (
  λ yes. subst (λ (x : Saves). may_give_up (saves_of x)) (sym is) (image_waits (state_of c) (sym there ∙ yes)),
  λ may. there ∙ waits_image (state_of c) (subst (λ (x : Saves). may_give_up (saves_of x)) is may),
)

-- ---- stages of destroying

pub clears_done : (slot : ℕ) (i : Image) (more status : ℕ) (words : List ℕ) → more ≡ 0 → cleared i ≡ near_heard slot (clearing i more) status words
clears_done slot i more status words e = sym (ap (λ (n : ℕ). near_heard slot (clearing i n) status words) e)

pub clears_on : (slot : ℕ) (i : Image) (more status : ℕ) (words : List ℕ) → (more ≡ 0 → ⊥)
    → clearing i (more - 1) ≡ near_heard slot (clearing i more) status words
clears_on slot i zero status words e = absurd (e refl)
clears_on slot i (suc more) status words e = ap (clearing i) (let one : suc more - 1 ≡ more = omega arith in one)

-- ---- what is sent: the pieces, and maybe one packet more

sent_is : (i : Image) (s : Since) → sent_near image_codec (since_of i s) ≡ map packet_is (pieces (spelling i)) ++ option_list (last_of s)
sent_is i sinces.Waits = refl
sent_is i (sinces.Clears more) = refl
sent_is i sinces.Cleared = refl
sent_is i (sinces.Cancels why) = refl
sent_is i (sinces.Cancelled why) = refl

abbrev Packets : Type 0
Packets = List (Packet Piece Why)

pub sent_first : (i : Image) (s : Since) (n total : ℕ) → total ≡ length (pieces (spelling i)) → n < total
    → option_map packet_is (slice_get (pieces (spelling i)) n) ≡ slice_get (sent_near image_codec (since_of i s)) n
sent_first i s n total is lt =
    sym (ap (λ (ps : Packets). slice_get ps n) (sent_is i s)
    ∙ before packet_is (pieces (spelling i)) (option_list (last_of s)) n (omega (arith, is, lt)))

behind_none : (o : Option (Packet Piece Why)) (n : ℕ) → 0 < n → slice_get (option_list o) n ≡ None
behind_none None n lt = refl
behind_none (Some p) zero lt = absurd (omega (arith, lt))
behind_none (Some p) (suc n) lt = refl

pub sent_past : (i : Image) (s : Since) (n total : ℕ) → total ≡ length (pieces (spelling i)) → total < n
    → None ≡ slice_get (sent_near image_codec (since_of i s)) n
sent_past i s n total is lt =
    sym (ap (λ (ps : Packets). slice_get ps n) (sent_is i s)
    ∙ behind packet_is (pieces (spelling i)) (option_list (last_of s)) n (omega (arith, is, lt))
    ∙ behind_none (last_of s) (n - length (pieces (spelling i))) (omega (arith, is, lt)))

front_is : (o : Option (Packet Piece Why)) (n : ℕ) → n ≡ 0 → slice_get (option_list o) n ≡ o
front_is None n e = refl
front_is (Some p) zero e = refl
front_is (Some p) (suc n) e = absurd (omega (arith, e))

pub sent_last : (i : Image) (s : Since) (n total : ℕ) → total ≡ length (pieces (spelling i)) → total ≤ n → n ≤ total
    → last_of s ≡ slice_get (sent_near image_codec (since_of i s)) n
sent_last i s n total is low high =
    sym (ap (λ (ps : Packets). slice_get ps n) (sent_is i s)
    ∙ behind packet_is (pieces (spelling i)) (option_list (last_of s)) n (omega (arith, is, low))
    ∙ front_is (last_of s) (n - length (pieces (spelling i))) (omega (arith, is, high)))

pub sent_long : (i : Image) (s : Since) (total last : ℕ) → total ≡ length (pieces (spelling i)) → last ≡ length (option_list (last_of s))
    → total + last ≡ length (sent_near image_codec (since_of i s))
sent_long i s total last is more =
    let all : length (sent_near image_codec (since_of i s)) ≡ length (pieces (spelling i)) + length (option_list (last_of s)) =
    ap (λ (ps : Packets). length ps) (sent_is i s) ∙ long (pieces (spelling i)) (option_list (last_of s)) in
    omega (arith, all, is, more)
  where
    long : (xs : List Piece) (ys : Packets) → length (map packet_is xs ++ ys) ≡ length xs + length ys
    long [] ys = omega arith
    long (x ∷ xs) ys = let rest = long xs ys in omega (arith, rest)

-- ---- what it has come to, as a whole

pub works_next : (slot : ℕ) (s : Saves) (c : Checkpoint) (o : Option Stage) → s ≡ saves.Works c → slot_in slot s ≡ slot
    → option_map bare o ≡ near_call c.slot (near_at (state_of c)) → option_map bare o ≡ near_call slot (saves_of s)
works_next slot s c o is same next =
    let here : c.slot ≡ slot = sym (ap (slot_in slot) is) ∙ same in
    next ∙ ap (λ (k : ℕ). near_call k (near_at (state_of c))) here ∙ sym (ap (λ (x : Saves). near_call slot (saves_of x)) is)

-- ---- a packet, and giving up, once what is gathered is spelled

pub told_works : (slot : ℕ) (old s : Saves) (c : Checkpoint) (p : Packet Piece Why) → s ≡ saves.Works c → IsSpelled s → saves_of s ≡ saves_of old
    → saves_of s ≡ near_told (both slot) (saves_of old) p
told_works slot old s c p is spelled same =
    let none : gathered_in (state_of c) ≡ None = subst IsSpelled is spelled in
    let here : near_at (state_of c) ≡ saves_of old = sym (ap saves_of is) ∙ same in
    ap saves_of is ∙ told_nothing slot (state_of c) p none ∙ ap (λ (n : NearSide). near_told (both slot) n p) here

pub told_gathered : (slot : ℕ) (old s : Saves) (i : Image) (was new : Since) (p : Packet Piece Why) → s ≡ saves.Gathered i was → saves_of s ≡ saves_of old
    → since_of i new ≡ near_told (both slot) (since_of i was) p → since_of i new ≡ near_told (both slot) (saves_of old) p
told_gathered slot old s i was new p is same told =
    told ∙ ap (λ (n : NearSide). near_told (both slot) n p) (sym (ap saves_of is) ∙ same)
