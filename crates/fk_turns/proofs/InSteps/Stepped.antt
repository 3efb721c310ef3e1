-- Stepped: the lists are kept by a move.
use Rattle.std.proofs.Common.{◌≡◌, ◌≤◌, ◌||◌, ◌++◌, Bool, true, false, Option, Some, None, IsSome, is_some, Result, Ok, Err, IfOk, IfSome, IfNone, OnErr}
use Rattle.std.proofs.Common.{refl, sym, ap, subst, ◌∙◌}
use Rattle.std.specs.Bool.{⊤, OnTrue, OnFalse}
use Rattle.fk_model.specs.declared.moves.Ask.{Ask}
use Rattle.fk_model.specs.declared.moves.Ask.TheVariants as asks
use Rattle.fk_model.specs.declared.moves.Move.{Move}
use Rattle.fk_model.specs.declared.moves.Said.{Said}
use Rattle.fk_model.specs.declared.names.Who.{Who}
use Rattle.fk_model.specs.Moves.{Step}
use Rattle.fk_model.specs.Searches.{depth}
use Rattle.fk_model.specs.Valid.{IsValid, is_fit}
use Rattle.fk_model.specs.Who.{space_born}
use Rattle.fk_store.specs.Store.Contents.{Contents}
use Rattle.fk_store.specs.Store.Moves.{picked_by}
use Rattle.fk_store.specs.Store.Paths.{path, place}
use Rattle.fk_store.specs.Store.World.{world}
use Rattle.fk_turns.specs.Next.Tellings.{Told}
use Rattle.fk_turns.specs.Next.Judgements.{is_fit_move, may_lack, IsReadyMove, IsStepTo, TellsTouched}
use Rattle.fk_turns.specs.Next.Tried.{IsLacking, IsMade, IsUnready, TellsOf}
use Rattle.fk_waits.specs.Turns.Turns.{all_marks, waits_at}
use Rattle.fk_turns.specs.Moved.Kept.{is_user_at, AreKept}
use Rattle.fk_turns.specs.Moved.Moved.{now_named, HasPlaceFor, HasRoom, IsLeft, IsMoved}
use Rattle.fk_turns.specs.Next.Waiting.{standing, ComesAfter, IsPlaced}
use Rattle.fk_turns.specs.Moved.Told.{goes_quietly_at, IsMadeTo, IsRunning, IsStored, IsToldOf}
use Rattle.fk_turns.proofs.InMoved.After.{refiled}
use Rattle.fk_turns.proofs.InMoved.Quiet.{enters_quietly}
use Rattle.fk_turns.proofs.InMoved.Told.{told_moves_leave, told_names}
use Rattle.fk_waits.specs.Waits.Lists.{is_in, is_queued, stands, Lists}
use Rattle.fk_waits.proofs.InCauses.Numbers.{clash}
use Rattle.fk_plans.specs.declared.wakes.touching.Touched.{Touched}
use Rattle.fk_plans.specs.declared.wakes.touching.Touched.TheVariants.{Any, Dies, Few, Makes, Moves}
use Rattle.fk_plans.specs.Wakes.Touches.{is_making}
use Rattle.laws_moves.proofs.InMachine.validity.Steps.{step_keeps_valid_lem}
use Rattle.fk_turns.specs.Steps.Steps.{is_porter_at, may_make, was_made, ComesByPorter, HasSeat, IsPut, IsQuietFrom, IsWider, MayBeQuiet}
use Rattle.fk_turns.proofs.InSteps.Giving.{lacks_gives, stood_before}
use Rattle.fk_turns.proofs.InSteps.Went.{free_when_ready}

-- what is no instruction
pub never_quiet : (n : Contents) (mover : Who) (made : Bool) (touched : Touched) (waits marks : Lists) →
    OnTrue made (MayBeQuiet n mover false touched waits marks)
never_quiet n mover true touched waits marks = λ never alone on. absurd (cc)
never_quiet n mover false touched waits marks = tt

-- ---- room

-- more room changes nothing
pub kept_wider : (m : Contents) (waits marks now then_marks : Lists) → AreKept m waits marks → IsWider waits marks now then_marks → AreKept m now then_marks
kept_wider m waits marks now then_marks kept wider = record {
  each = λ who. (λ i. is_in who (wider.ready i) || is_queued who (wider.queued i)) ∙ kept.each who;
  sound = wider.sound;
  filed = λ who here. refiled m (all_marks waits marks) (all_marks now then_marks) who
      (kept.filed who (ap (is_queued who) (sym wider.queued) ∙ here)) (λ is. ap (is_in who) wider.marked ∙ is)
      (λ key is. (λ i. waits_at key who (wider.keyed i ++ wider.queued i)) ∙ is);
}

-- a thread that is made has a seat
abbrev HasSeatFor : Contents → Touched → Lists → Lists → Type 0
HasSeatFor n (Makes object) waits marks = is_user_at n object ≡ true → stands object waits ≡ false → HasSeat waits marks
HasSeatFor n other waits marks = ⊤

-- what is told stands, or has room
has_room : (m n : Contents) (mover : Who) (touched : Touched) (waits marks : Lists) → AreKept m waits marks → IsMoved m n mover touched →
    HasSeatFor n touched waits marks → HasRoom n mover touched waits marks
has_room m n mover touched waits marks kept moved seat = record {
  named = record { known = λ who is off user. kept.each who ∙ moved.grown who user off; put = by touched moved.left seat };
  own = λ off user. kept.each mover ∙ moved.grown mover user off;
}
  where
    by : (t : Touched) → IsLeft m n t → HasSeatFor n t waits marks → HasPlaceFor n waits marks t
    by (Makes object) left seat = seat
    by (Moves object slot) left seat = (λ user. kept.each object ∙ left.0 user, left.1)
    by (Few first second third) left seat = tt
    by Any left seat = tt
    by (Dies object) left seat = tt

-- ---- a move

module _ (m n : Contents) (move : Move) (ask : Ask) (valid : IsValid (world m)) (few : (world m).next ≤ depth) (fit : is_fit_move m move ask ≡ true) where
  pub kept_valid : (said : Said) → IsStepTo m move ask n said → IsValid (world n)
  kept_valid said is = subst IsValid (ap (λ (s : Step). s.world) is)
      (step_keeps_valid_lem (world m) (place (path m) move.who) (picked_by (path m) move.pick) ask valid few fit)

  same_valid : n ≡ m → IsValid (world n)
  same_valid same = subst (λ (c : Contents). IsValid (world c)) (sym same) valid

  -- the world stays valid
  pub valid_tried : {E : Type 0} (r : Result (Option Told) E) → IfOk r (IsMade m move ask n) → IfOk r (IsUnready m move ask n) →
      OnErr r (IsLacking m move ask n) → IsValid (world n)
  valid_tried (Ok (Some told)) made same lacking = kept_valid told.said made.1
  valid_tried (Ok None) made same lacking = same_valid same.1
  valid_tried (Err e) made same lacking = same_valid lacking.1

  pub valid_true : (said : Said) (b : Bool) → OnTrue b (IsReadyMove m move ask × IsStepTo m move ask n said) → OnFalse b (n ≡ m) → IsValid (world n)
  valid_true said true made same = kept_valid said made.1
  valid_true said false made same = same_valid same

  pub valid_some : {A : Type 0} (said : A → Said) (o : Option A) → IfSome o (λ a. IsReadyMove m move ask × IsStepTo m move ask n (said a)) →
      IfNone o (n ≡ m) → IsValid (world n)
  valid_some said (Some a) made same = kept_valid (said a) made.1
  valid_some said None made same = same_valid same

  -- where it isn't made the lists are as they should be
  pub still_tried : {E : Type 0} (waits marks : Lists) (r : Result (Option Told) E) → AreKept m waits marks → IfOk r (IsUnready m move ask n) →
      OnErr r (IsLacking m move ask n) → OnFalse (was_made r) (AreKept n waits marks)
  still_tried waits marks (Ok (Some told)) kept same lacking = tt
  still_tried waits marks (Ok None) kept same lacking = subst (λ (c : Contents). AreKept c waits marks) (sym same.1) kept
  still_tried waits marks (Err e) kept same lacking = subst (λ (c : Contents). AreKept c waits marks) (sym lacking.1) kept

  pub still_true : (waits marks : Lists) (b : Bool) → AreKept m waits marks → OnFalse b (n ≡ m) → OnFalse b (AreKept n waits marks)
  still_true waits marks true kept same = tt
  still_true waits marks false kept same = subst (λ (c : Contents). AreKept c waits marks) (sym same) kept

  module _ (born : path m ≡ space_born (world m)) (born_new : path n ≡ space_born (world n)) (few_new : (world n).next ≤ depth) (touched : Touched) where
    old : IsStored m
    old = record { valid = valid; born = born; few = few }

    told_of : TellsTouched m move ask touched → IsToldOf m move.who (picked_by (path m) move.pick) ask touched
    told_of told = record { names = told.names; leaves = told.leaves; moves = told.moves }

    comes : (waits marks : Lists) → AreKept m waits marks → HasSeatFor n touched waits marks → (said : Said) → IsReadyMove m move ask →
        IsStepTo m move ask n said → TellsTouched m move ask touched → ComesAfter n move.who touched waits marks
    comes waits marks kept seat said ready is told =
        let new : IsStored n = record { valid = kept_valid said is; born = born_new; few = few_new } in
        let made : IsMadeTo m n move.who (picked_by (path m) move.pick) ask =
        record { fit = fit; ready = ready; step = ap (λ (s : Step). s.world) (sym is) } in
        let moved : IsMoved m n move.who touched =
        told_moves_leave m n move.who (picked_by (path m) move.pick) ask touched old new made (told_of told) in
        record { before = m; kept = kept; moved = moved; room = has_room m n move.who touched waits marks kept moved seat }

    -- the name that is told is the one that the move leaves
    pub put_by : (waits : Lists) → IsReadyMove m move ask → TellsTouched m move ask touched →
        (is_user_at n (now_named move.who touched) ≡ true → IsPlaced n (standing waits) (now_named move.who touched)) → IsPut m move ask n (standing waits)
    put_by waits ready told placed =
        subst (λ (w : Who). is_user_at n w ≡ true → IsPlaced n (standing waits) w)
        (told_names m move.who (picked_by (path m) move.pick) ask touched old fit ready (told_of told)) placed

    -- what makes something has a seat: an object was made, or nothing was put anywhere
    seat_by : (waits marks : Lists) → AreKept m waits marks → (may_make m move ask ≡ true → HasSeat waits marks) → (said : Said) →
        IsStepTo m move ask n said → TellsTouched m move ask touched → HasSeatFor n touched waits marks
    seat_by waits marks kept room said is told = by touched refl
      where
        made : (t : Touched) → touched ≡ t → is_making t ≡ true → may_lack m move ask ≡ true
        made t e making = by_lack (may_lack m move ask) refl
          where
            by_lack : (b : Bool) → may_lack m move ask ≡ b → may_lack m move ask ≡ true
            by_lack true f = f
            by_lack false f = clash (is_making touched) (ap is_making e ∙ making) (told.makes f)

        by_make : (object : Who) → may_lack m move ask ≡ true → (b : Bool) → may_make m move ask ≡ b → is_user_at n object ≡ true →
            stands object waits ≡ false → HasSeat waits marks
        by_make object lack true f user off = room f
        by_make object lack false f user off =
            clash (stands object waits)
            (kept.each object ∙ stood_before m n (place (path m) move.who) (picked_by (path m) move.pick) ask valid few born born_new few_new fit
            (ap (λ (s : Step). s.world) (sym is)) (lacks_gives m move ask lack f) object user) off

        by : (t : Touched) → touched ≡ t → HasSeatFor n t waits marks
        by (Makes object) e = λ user off. by_make object (made (Makes object) e refl) (may_make m move ask) refl user off
        by (Moves object slot) e = tt
        by (Few first second third) e = tt
        by Any e = tt
        by (Dies object) e = tt

    -- a porter's
    pub comes_by : (waits marks : Lists) → AreKept m waits marks → (may_make m move ask ≡ true → HasSeat waits marks) → (told : Told) →
        IsMade m move ask n (Some told) → TellsOf m move ask touched (Some told) → is_porter_at m move.who ≡ true →
        ComesByPorter n move.who touched waits marks
    unfolding comes
    comes_by waits marks kept room told made tells porter = record {
      comes = comes waits marks kept (seat_by waits marks kept room told.said made.1 tells) told.said made.0 made.1 tells;
      porter = porter;
    }

    pub comes_tried : {E : Type 0} (waits marks : Lists) (r : Result (Option Told) E) → AreKept m waits marks →
        (may_make m move ask ≡ true → HasSeat waits marks) → IfOk r (IsMade m move ask n) → IfOk r (TellsOf m move ask touched) →
        OnTrue (was_made r) (ComesAfter n move.who touched waits marks)
    comes_tried waits marks (Ok (Some told)) kept room made tells =
        comes waits marks kept (seat_by waits marks kept room told.said made.1 tells) told.said made.0 made.1 tells
    comes_tried waits marks (Ok None) kept room made tells = tt
    comes_tried waits marks (Err e) kept room made tells = tt

    pub put_tried : {E : Type 0} (waits : Lists) (r : Result (Option Told) E) → IfOk r (IsMade m move ask n) → IfOk r (TellsOf m move ask touched) →
        OnTrue (was_made r) (is_user_at n (now_named move.who touched) ≡ true → IsPlaced n (standing waits) (now_named move.who touched)) →
        OnTrue (was_made r) (IsPut m move ask n (standing waits))
    put_tried waits (Ok (Some told)) made tells placed = put_by waits made.0 tells placed
    put_tried waits (Ok None) made tells placed = tt
    put_tried waits (Err e) made tells placed = tt

    pub comes_true : (waits marks : Lists) (said : Said) (b : Bool) → AreKept m waits marks → (may_make m move ask ≡ true → HasSeat waits marks) →
        OnTrue b (IsReadyMove m move ask × IsStepTo m move ask n said) → OnTrue b (TellsTouched m move ask touched) →
        OnTrue b (ComesAfter n move.who touched waits marks)
    comes_true waits marks said true kept room made tells = comes waits marks kept (seat_by waits marks kept room said made.1 tells) said made.0 made.1 tells
    comes_true waits marks said false kept room made tells = tt

    pub put_true : (waits : Lists) (said : Said) (b : Bool) → OnTrue b (IsReadyMove m move ask × IsStepTo m move ask n said) →
        OnTrue b (TellsTouched m move ask touched) →
        OnTrue b (is_user_at n (now_named move.who touched) ≡ true → IsPlaced n (standing waits) (now_named move.who touched)) →
        OnTrue b (IsPut m move ask n (standing waits))
    put_true waits said true made tells placed = put_by waits made.0 tells placed
    put_true waits said false made tells placed = tt

-- what makes nothing wants no seat
no_seat : (n : Contents) (touched : Touched) (waits marks : Lists) → is_making touched ≡ false → HasSeatFor n touched waits marks
no_seat n (Makes object) waits marks none = absurd (cc)
no_seat n (Moves object slot) waits marks none = tt
no_seat n (Few first second third) waits marks none = tt
no_seat n Any waits marks none = tt
no_seat n (Dies object) waits marks none = tt

-- ---- a move that makes nothing

module _ (m n : Contents) (move : Move) (ask : Ask) (valid : IsValid (world m)) (few : (world m).next ≤ depth) (fit : is_fit_move m move ask ≡ true)
    (born : path m ≡ space_born (world m)) (born_new : path n ≡ space_born (world n)) (few_new : (world n).next ≤ depth) (touched : Touched) where
  pub comes_asked : (waits marks : Lists) (said : Said) → AreKept m waits marks → is_making touched ≡ false → IsReadyMove m move ask →
      IsStepTo m move ask n said → TellsTouched m move ask touched → ComesAfter n move.who touched waits marks
  comes_asked waits marks said kept none ready step tells =
      comes m n move ask valid few fit born born_new few_new touched waits marks kept (no_seat n touched waits marks none) said ready step tells

-- ---- an instruction, by which nobody else is touched

module _ (m n : Contents) (move : Move) (valid : IsValid (world m)) (few : (world m).next ≤ depth) (fit : is_fit_move m move asks.Run ≡ true)
    (born : path m ≡ space_born (world m)) (born_new : path n ≡ space_born (world n)) (few_new : (world n).next ≤ depth) (touched : Touched) where
  pub comes_ran : (waits marks : Lists) (said : Said) → AreKept m waits marks → is_making touched ≡ false → IsReadyMove m move asks.Run →
      IsStepTo m move asks.Run n said → TellsTouched m move asks.Run touched → ComesAfter n move.who touched waits marks
  comes_ran waits marks said kept none ready step tells =
      comes m n move asks.Run valid few fit born born_new few_new touched waits marks kept (no_seat n touched waits marks none) said ready step tells

  pub quiet_ran : (waits marks : Lists) (said : Said) → AreKept m waits marks → IsRunning m move.who → goes_quietly_at n move.who ≡ true →
      touched ≡ Few None None None → IsReadyMove m move asks.Run → IsStepTo m move asks.Run n said → TellsTouched m move asks.Run touched →
      IsQuietFrom n move.who waits marks
  quiet_ran waits marks said kept running on alone ready step tells =
      let old : IsStored m = record { valid = valid; born = born; few = few } in
      let new : IsStored n = record { valid = kept_valid m n move asks.Run valid few fit said step; born = born_new; few = few_new } in
      let was : IsMadeTo m n move.who (picked_by (path m) move.pick) asks.Run =
      record { fit = fit; ready = ready; step = ap (λ (s : Step). s.world) (sym step) } in
      let told : IsToldOf m move.who (picked_by (path m) move.pick) asks.Run (Few None None None) =
      subst (IsToldOf m move.who (picked_by (path m) move.pick) asks.Run) alone (record { names = tells.names; leaves = tells.leaves; moves = tells.moves }) in
      record {
        before = m;
        kept = kept;
        free = free_when_ready m waits marks move.who (picked_by (path m) move.pick) valid few kept ready;
        moved = told_moves_leave m n move.who (picked_by (path m) move.pick) asks.Run (Few None None None) old new was told;
        quiet = enters_quietly m n move.who (picked_by (path m) move.pick) old new was told running on;
      }

-- ---- words for a native server

module _ (m n : Contents) (move : Move) (valid : IsValid (world m)) (few : (world m).next ≤ depth) (fit : is_fit_move m move asks.Run ≡ true)
    (born : path m ≡ space_born (world m)) (born_new : path n ≡ space_born (world n)) (few_new : (world n).next ≤ depth) (touched : Touched) where
  pub comes_some : {A : Type 0} (waits marks : Lists) (said : A → Said) (o : Option A) → AreKept m waits marks → (IsSome o → is_making touched ≡ false) →
      IfSome o (λ a. IsReadyMove m move asks.Run × IsStepTo m move asks.Run n (said a)) → (IsSome o → TellsTouched m move asks.Run touched) →
      OnTrue (is_some o) (ComesAfter n move.who touched waits marks)
  comes_some waits marks said (Some a) kept none made tells =
      comes m n move asks.Run valid few fit born born_new few_new touched waits marks kept (no_seat n touched waits marks (none refl)) (said a)
      made.0 made.1 (tells refl)
  comes_some waits marks said None kept none made tells = tt

  pub still_some : {A : Type 0} (waits marks : Lists) (o : Option A) → AreKept m waits marks → IfNone o (n ≡ m) → OnFalse (is_some o) (AreKept n waits marks)
  still_some waits marks (Some a) kept same = tt
  still_some waits marks None kept same = subst (λ (c : Contents). AreKept c waits marks) (sym same) kept

  pub put_some : {A : Type 0} (waits : Lists) (said : A → Said) (o : Option A) →
      IfSome o (λ a. IsReadyMove m move asks.Run × IsStepTo m move asks.Run n (said a)) → (IsSome o → TellsTouched m move asks.Run touched) →
      OnTrue (is_some o) (is_user_at n (now_named move.who touched) ≡ true → IsPlaced n (standing waits) (now_named move.who touched)) → IsSome o →
      IsPut m move asks.Run n (standing waits)
  put_some waits said (Some a) made tells placed some =
      put_by m n move asks.Run valid few fit born born_new few_new touched waits made.0 (tells refl) placed
  put_some waits said None made tells placed some = absurd (cc)

pub none_same : {A : Type 0} (a b : Lists) (o : Option A) → OnFalse (is_some o) (standing b ≡ standing a) → IfNone o (standing b ≡ standing a)
none_same a b (Some x) same = tt
none_same a b None same = same

-- the lists stay where they were only given room
pub same_wider : (waits marks now then_marks : Lists) → IsWider waits marks now then_marks → standing now ≡ standing waits
same_wider waits marks now then_marks wider = λ i. record { ready = wider.ready i; queued = wider.queued i }

pub still_then : (a b c : Lists) (made : Bool) → standing b ≡ standing a → OnFalse made (standing c ≡ standing b) → OnFalse made (standing c ≡ standing a)
still_then a b c true first second = tt
still_then a b c false first second = second ∙ first

-- to run is fit
pub run_fit : (m : Contents) (move : Move) → is_fit_move m move asks.Run ≡ true
unfolding is_fit
run_fit m move = refl
