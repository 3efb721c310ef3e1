-- Talking: a stage in which two threads meet leaves the reasons of all others, and the same are users' threads.
use Rattle.std.proofs.Common.{◌≡◌, ◌&&◌, ℕ, Bool, true, false, List, [], ◌∷◌, Option, Some, None, IsSome, if◌then◌else◌, option_map}
use Rattle.std.proofs.Common.{refl, sym, ap, subst, ◌∙◌}
use Rattle.std.proofs.lemmas.Bool.{and_parts}
use Rattle.fk_model.specs.declared.moves.Ask.TheVariants as asks
use Rattle.fk_model.specs.declared.names.Who.{Who}
use Rattle.fk_model.specs.declared.thread.Turn.{Turn}
use Rattle.fk_model.specs.declared.thread.Turn.TheVariants as turns
use Rattle.fk_model.specs.Moves.{outcome, step, stepped}
use Rattle.fk_model.specs.Objects.{Body, Talk, Thread, and_then, thread_of}
use Rattle.fk_model.specs.Outcomes.{Outcome, listed}
use Rattle.fk_model.specs.Outcomes.Outcome.{Goes, Refused, Waits}
use Rattle.fk_model.specs.Places.{Path, same_path}
use Rattle.fk_model.specs.Searches.{talk_at, thread_at}
use Rattle.fk_model.specs.Talks.{other_side}
use Rattle.fk_model.specs.World.{World, Change, Edit, apply, apply_all, edited}
use Rattle.fk_model.specs.World.Change.{Alter, PutPage}
use Rattle.fk_model.specs.World.Edit.{CountMoved, Finish, PassTurn, Shift}
use Rattle.fk_plans.specs.declared.wakes.touching.Touched.{Touched}
use Rattle.fk_plans.specs.declared.wakes.touching.Touched.TheVariants.{Few}
use Rattle.fk_plans.specs.Wakes.Touches.{leave}
use Rattle.fk_store.specs.Store.Contents.{Contents}
use Rattle.fk_store.specs.Store.Paths.{path}
use Rattle.fk_store.specs.Store.Threads.{is_free_at}
use Rattle.fk_store.specs.Store.World.{world, place_of}
use Rattle.fk_turns.specs.declared.whys.whys.Why.{Why}
use Rattle.fk_turns.specs.declared.whys.whys.Why.TheVariants as whys
use Rattle.fk_turns.specs.Moved.Kept.{is_user_at}
use Rattle.fk_turns.specs.Moved.Moved.{is_put, IsMoved}
use Rattle.fk_turns.specs.Moved.Told.{IsMadeTo, IsStored}
use Rattle.fk_turns.specs.Next.Goings.{sending, HasPassed, HasSent}
use Rattle.fk_turns.specs.Next.Speaking.{HasTold, HasYielded}
use Rattle.fk_turns.specs.Steps.Talks.{IsAlone}
use Rattle.fk_turns.specs.Whys.Whys.{IsAt, IsLoudly, IsStill, IsWhy}
use Rattle.fk_turns.proofs.InMoved.Told.{same_name, stays, taken_off, user_there}
use Rattle.fk_turns.proofs.InWhys.Apart.{is_barred_why, key_there}
use Rattle.fk_turns.proofs.InWhys.Passing.{alone_before, parted, passes, why_passed}
use Rattle.fk_turns.proofs.InWhys.Speaking.{unserved_before, why_told, why_yielded}
use Rattle.fk_turns.proofs.InWhys.Talking.{anywhere, in_call, is_at, is_sender, is_sending, pair, why_sent, IsIn}
use Rattle.fk_waits.proofs.InCauses.Numbers.{clash}
use Rattle.fk_waits.specs.Causes.Names.{is_same}
use Rattle.laws_moves.proofs.InFrozen.Edited.{same-native}
use Rattle.laws_moves.proofs.InUsers.Stood.{same-users, users_in}
use Rattle.laws_moves.specs.Users.Stood.{is_users_at}
use Rattle.laws_waits.specs.Few.{is_peer_of}

-- what a move comes to is done
step_world : (w : World) (x : Path) → (step w x None asks.Run).world ≡ apply_all (listed (outcome w x None asks.Run)) w
unfolding step apply_all
step_world w x = by (outcome w x None asks.Run)
  where
    by : (o : Outcome) → (stepped w o).world ≡ apply_all (listed o) w
    by (Goes changes said) = refl
    by (Refused status) = refl
    by Waits = refl

-- changes of talks
abbrev is_talk_edit : Edit → Bool
is_talk_edit (Finish answers) = true
is_talk_edit (Shift count) = true
is_talk_edit (CountMoved count) = true
is_talk_edit (PassTurn turn) = true
is_talk_edit other = false

abbrev are_talk_edits : List Change → Bool
are_talk_edits [] = true
are_talk_edits (Alter x edit ∷ cs) = is_talk_edit edit && are_talk_edits cs
are_talk_edits (PutPage space page words ∷ cs) = are_talk_edits cs
are_talk_edits other = false

-- they take nothing from its place
none_left : (p : ℕ → Path) (cs : List Change) → are_talk_edits cs ≡ true → leave p (Few None None None) cs ≡ true
none_left p [] are = refl
none_left p (Alter x edit ∷ cs) are = none_left p cs (and_parts (is_talk_edit edit) (are_talk_edits cs) are).1
none_left p (PutPage space page words ∷ cs) are = none_left p cs are
none_left p (c ∷ cs) are = absurd (cc)

-- and leave who is a user's thread
one_edit : (e : Edit) (b : Body) → is_talk_edit e ≡ true → users_in (Some (edited e b)) ≡ users_in (Some b)
one_edit (Finish answers) b is = same-users (Finish answers) b (same-native (Finish answers) b refl)
one_edit (Shift count) b is = same-users (Shift count) b (same-native (Shift count) b refl)
one_edit (CountMoved count) b is = same-users (CountMoved count) b (same-native (CountMoved count) b refl)
one_edit (PassTurn turn) b is = same-users (PassTurn turn) b (same-native (PassTurn turn) b refl)
one_edit e b is = absurd (cc)

users_after : (cs : List Change) (v : World) (q : Path) → are_talk_edits cs ≡ true → is_users_at (apply_all cs v) q ≡ is_users_at v q
unfolding apply apply_all
users_after [] v q are = refl
users_after (Alter x edit ∷ cs) v q are =
    let both = and_parts (is_talk_edit edit) (are_talk_edits cs) are in
    users_after cs (apply (Alter x edit) v) q both.1 ∙ by both.0 (same_path q x)
  where
    mapped : is_talk_edit edit ≡ true → (o : Option Body) → users_in (option_map (edited edit) o) ≡ users_in o
    mapped is None = refl
    mapped is (Some b) = one_edit edit b is

    by : is_talk_edit edit ≡ true → (t : Bool) → users_in (if t then option_map (edited edit) (v.body q) else v.body q) ≡ users_in (v.body q)
    by is true = mapped is (v.body q)
    by is false = refl
users_after (PutPage space page words ∷ cs) v q are = users_after cs (apply (PutPage space page words) v) q are
users_after (c ∷ cs) v q are = absurd (cc)

talk_there : (w : World) (x : Path) (talk : Talk) → talk_at w x ≡ Some talk → IsSome (w.body x)
talk_there w x talk is = by (w.body x) is
  where
    by : (o : Option Body) → and_then (λ (t : Thread). t.talk) (and_then thread_of o) ≡ Some talk → IsSome o
    by None h = absurd (cc)
    by (Some b) h = refl

module _ (m n : Contents) (mover : Who) (old : IsStored m) (new : IsStored n) (made : IsMadeTo m n mover None asks.Run) where
  abbrev changes : List Change
  changes = listed (outcome (world m) (place_of m mover) None asks.Run)

  then_world : world n ≡ apply_all changes (world m)
  then_world = made.step ∙ step_world (world m) (place_of m mover)

  module _ (are : are_talk_edits changes ≡ true) where
    -- a name of what is there leads where it led
    leads : (who : Who) → IsSome ((world m).body (place_of m who)) → place_of n who ≡ place_of m who
    leads who live =
        stays m n mover None asks.Run old new made who live
        (taken_off m n mover None asks.Run old new made (Few None None None) (none_left (path m) changes are) who refl live)

    users_same : (touched : Touched) → IsMoved m n mover touched → ((who : Who) → is_put touched who ≡ false) → (who : Who) → is_user_at n who ≡ is_user_at m who
    users_same touched moved put who = by (is_user_at m who) (is_user_at n who) refl refl
      where
        by : (a b : Bool) → is_user_at m who ≡ a → is_user_at n who ≡ b → is_user_at n who ≡ is_user_at m who
        by true b e f =
            rw (leads who (user_there (world m) (place_of m who) e), then_world) (users_after changes (world m) (place_of m who) are)
        by false true e f = clash (is_user_at m who) (moved.grown who f (put who)) e
        by false false e f = f ∙ sym e

    other_place : (a b : Who) → is_same b a ≡ false → IsSome ((world m).body (place_of m a)) → same_path (place_of m a) (place_of m b) ≡ false
    other_place a b off there = by (same_path (place_of m a) (place_of m b)) refl
      where
        by : (t : Bool) → same_path (place_of m a) (place_of m b) ≡ t → same_path (place_of m a) (place_of m b) ≡ false
        by false e = e
        by true e = clash (is_same b a) (same_name m old a b there e) off

    -- a reason that the step leaves is one in the store
    why_then : (who : Who) (why : Why) → IsSome ((world m).body (place_of m who)) → is_barred_why why ≡ false →
        IsWhy (world m) (path m) (place_of m who) why → IsWhy (step (world m) (place_of m mover) None asks.Run).world (path m) (place_of m who) why →
        IsWhy (world n) (path n) (place_of n who) why
    why_then who whys.Still there named was now =
        subst (λ (x : Path). IsStill (world n) x) (sym (leads who there)) (subst (λ (u : World). IsStill u (place_of m who)) (sym made.step) now)
    why_then who (whys.At key) there named was now =
        let its = key_there (world m) (place_of m who) (place_of m key) was in
        subst (λ (x : Path). IsAt (world n) (place_of n who) x) (sym (leads key its))
        (subst (λ (x : Path). IsAt (world n) x (place_of m key)) (sym (leads who there))
        (subst (λ (u : World). IsAt u (place_of m who) (place_of m key)) (sym made.step) now))
    why_then who whys.Loud there named was now =
        subst (λ (x : Path). IsLoudly (world n) x) (sym (leads who there)) (subst (λ (u : World). IsLoudly u (place_of m who)) (sym made.step) now)
    why_then who whys.Barred there named was now = absurd (cc)

  -- ---- words

  module _ (client receiver : Who) (row : HasSent m mover client receiver) where
    sent_edits : are_talk_edits changes ≡ true
    sent_edits = ap are_talk_edits row.sends.changes ∙ by row.sends.last
      where
        by : (last : Bool) → are_talk_edits (if last then Alter (place_of m mover) (Finish []) ∷ [] else []) ≡ true
        by true = refl
        by false = refl

    pub sent_users : (touched : Touched) → IsMoved m n mover touched → ((who : Who) → is_put touched who ≡ false) → (who : Who) →
        is_user_at n who ≡ is_user_at m who
    sent_users = users_same sent_edits

    sender : IsIn (world m) (place_of m mover) (sending row.side row.address row.count ∷ row.at.later)
    sender = in_call (world m) (place_of m mover) (sending row.side row.address row.count) row.at.later row.at.todo

    sender_is : is_at is_sender (thread_at (world m) (place_of m mover)) ≡ true
    sender_is = ap (is_at is_sender) sender.there ∙ ap is_sender sender.mode
        ∙ is_sending row.side row.address row.count row.at.later sender.rest row.at.orderly

    receiver_in : IsIn (world m) (place_of m receiver) (row.receiving.stage ∷ [])
    receiver_in = in_call (world m) (place_of m receiver) row.receiving.stage [] row.receiving.alone

    pub left_sent : (who : Who) (why : Why) → is_same mover who ≡ false → is_same receiver who ≡ false → is_user_at m who ≡ true → is_barred_why why ≡ false →
        IsWhy (world m) (path m) (place_of m who) why → IsWhy (world n) (path n) (place_of n who) why
    left_sent who why off_mover off_receiver user named is =
        let there = user_there (world m) (place_of m who) user in
        why_then sent_edits who why there named is
        (why_sent (world m) (place_of m mover) (place_of m client) (place_of m receiver) row.sends.space row.sends.page row.sends.count row.sends.words
        row.sends.there sender_is (ap (is_at anywhere) receiver_in.there) row.side
        (pair (world m) (place_of m mover) (place_of m client) (place_of m receiver) row.side row.meets) (place_of m who)
        (other_place sent_edits who mover off_mover there) (other_place sent_edits who receiver off_receiver there) old.valid old.few row.receiving
        row.sends.last None asks.Run row.sends.changes (path m) why named is)

  -- ---- a turn

  module _ (client receiver : Who) (row : HasPassed m mover client receiver) where
    passed_edits : are_talk_edits changes ≡ true
    passed_edits = ap are_talk_edits row.changes

    pub passed_users : (touched : Touched) → IsMoved m n mover touched → ((who : Who) → is_put touched who ≡ false) → (who : Who) →
        is_user_at n who ≡ is_user_at m who
    passed_users = users_same passed_edits

    pub left_passed : is_free_at (world m) (place_of m mover) ≡ true → IsAlone (world n) (place_of n client) → (who : Who) (why : Why) →
        is_same mover who ≡ false → is_same receiver who ≡ false → is_user_at m who ≡ true → is_barred_why why ≡ false →
        IsWhy (world m) (path m) (place_of m who) why → IsWhy (world n) (path n) (place_of n who) why
    unfolding apply_all
    left_passed free alone who why off_mover off_receiver user named is =
        let there = user_there (world m) (place_of m who) user in
        let meets = pair (world m) (place_of m mover) (place_of m client) (place_of m receiver) row.side row.meets in
        let world_is : world n ≡ parted (world m) (place_of m mover) (place_of m receiver) (place_of m client) row.answers (other_side row.side) =
        then_world ∙ ap (λ (l : List Change). apply_all l (world m)) row.changes ∙ all_parted (place_of m mover) (place_of m receiver) (place_of m client)
        row.answers (other_side row.side) in
        let before = alone_before (world m) (place_of m mover) (place_of m receiver) (place_of m client) meets.server row.answers (other_side row.side)
        meets.talk meets.there meets.peer
        (subst (λ (u : World). IsAlone u (place_of m client)) world_is (subst (λ (q : Path). IsAlone (world n) q)
        (leads passed_edits client (talk_there (world m) (place_of m client) meets.talk meets.there)) alone)) in
        why_then passed_edits who why there named is
        (why_passed (world m) (place_of m mover) (place_of m receiver) (place_of m client) meets.server row.side row.answers row.at free row.receiving before
        meets.two old.valid old.few (place_of m who) (other_place passed_edits who mover off_mover there)
        (other_place passed_edits who receiver off_receiver there) None asks.Run row.changes (path m) why named is)
      where
        all_parted : (me y c : Path) (answers : List ℕ) (turn : Turn) → apply_all (passes me y c answers turn) (world m) ≡ parted (world m) me y c answers turn
        all_parted me y c answers turn = refl

  -- ---- words that go to a native server

  module _ (row : HasTold m mover) where
    told_edits : are_talk_edits changes ≡ true
    told_edits = ap are_talk_edits row.changes ∙ by row.last
      where
        by : (last : Bool) → are_talk_edits (if last then Alter (place_of m mover) (Finish []) ∷ [] else []) ≡ true
        by true = refl
        by false = refl

    pub told_users : (touched : Touched) → IsMoved m n mover touched → ((who : Who) → is_put touched who ≡ false) → (who : Who) →
        is_user_at n who ≡ is_user_at m who
    told_users = users_same told_edits

    teller : IsIn (world m) (place_of m mover) (sending turns.Client row.address row.count ∷ row.at.later)
    teller = in_call (world m) (place_of m mover) (sending turns.Client row.address row.count) row.at.later row.at.todo

    teller_is : is_at is_sender (thread_at (world m) (place_of m mover)) ≡ true
    teller_is = ap (is_at is_sender) teller.there ∙ ap is_sender teller.mode
        ∙ is_sending turns.Client row.address row.count row.at.later teller.rest row.at.orderly

    pub left_told : (who : Who) (why : Why) → is_same mover who ≡ false → is_same mover who ≡ false → is_user_at m who ≡ true → is_barred_why why ≡ false →
        IsWhy (world m) (path m) (place_of m who) why → IsWhy (world n) (path n) (place_of n who) why
    left_told who why off again user named is =
        let there = user_there (world m) (place_of m who) user in
        why_then told_edits who why there named is
        (why_told (world m) (place_of m mover) row.moved teller_is (place_of m who) (other_place told_edits who mover off there) row.last None asks.Run
        row.changes (path m) why named is)

  -- ---- a turn that goes to a native server

  module _ (row : HasYielded m mover) where
    yielded_edits : are_talk_edits changes ≡ true
    yielded_edits = ap are_talk_edits row.changes

    pub yielded_users : (touched : Touched) → IsMoved m n mover touched → ((who : Who) → is_put touched who ≡ false) → (who : Who) →
        is_user_at n who ≡ is_user_at m who
    yielded_users = users_same yielded_edits

    pub left_yielded : is_free_at (world m) (place_of m mover) ≡ true → ((q : Path) → is_peer_of (world n) (place_of n mover) q ≡ false) → (who : Who) (why : Why) →
        is_same mover who ≡ false → is_same mover who ≡ false → is_user_at m who ≡ true → is_barred_why why ≡ false →
        IsWhy (world m) (path m) (place_of m who) why → IsWhy (world n) (path n) (place_of n who) why
    unfolding apply_all
    left_yielded free unserved who why off again user named is =
        let there = user_there (world m) (place_of m who) user in
        let me = place_of m mover in
        let world_is : world n ≡ apply (Alter me (Finish [])) (apply (Alter me (PassTurn turns.Server)) (world m)) =
        then_world ∙ ap (λ (l : List Change). apply_all l (world m)) row.changes in
        let here : place_of n mover ≡ me = leads yielded_edits mover (talk_there (world m) me row.served.talk row.served.there) in
        let before : is_peer_of (world m) me (place_of m who) ≡ false = sym (unserved_before (world m) me row.at free row.served (place_of m who))
        ∙ subst (λ (u : World). is_peer_of u me (place_of m who) ≡ false) world_is
        (subst (λ (q : Path). is_peer_of (world n) q (place_of m who) ≡ false) here (unserved (place_of m who))) in
        why_then yielded_edits who why there named is
        (why_yielded (world m) me row.at free row.served (place_of m who) (other_place yielded_edits who mover off there) before None asks.Run row.changes
        (path m) why named is)
