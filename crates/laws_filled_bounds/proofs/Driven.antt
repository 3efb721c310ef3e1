-- A pager makes few calls along a run.
use Rattle.std.proofs.Common.{◌≡◌, ℕ, ◌+◌, ◌*◌, ◌≤◌, Bool, true, false, cond, if◌then◌else◌, ◌&&◌, ◌==◌, nat_le, is_some, List, [], ◌∷◌, ◌++◌, drop, length}
use Rattle.std.proofs.Common.{slice_index, Option, Some, None, refl, sym, ap, subst, ◌∙◌, arith}
use Rattle.fk_model.specs.declared.limits.TheConstants.{LAST_PORTER_SLOT, LAST_USER_SLOT}
use Rattle.fk_model.specs.declared.moves.Ask.{Ask}
use Rattle.fk_model.specs.declared.moves.Ask.TheVariants as asks
use Rattle.fk_model.specs.declared.statuses.status.TheConstants.{OK, HELD}
use Rattle.fk_model.specs.Places.{Path, same_path}
use Rattle.fk_model.specs.Objects.{Fault, holds}
use Rattle.fk_model.specs.World.{World}
use Rattle.fk_model.specs.Searches.{fault_at}
use Rattle.fk_model.specs.Outcomes.{Said, Outcome, listed}
use Rattle.fk_model.specs.Outcomes.Said.{Nothing, Answered, Taken, Words, Given, Full, Passed, Ended}
use Rattle.fk_model.specs.Moves.{stepped, outcome, step, call_row, IsReady, porter_at as caller_at}
use Rattle.fk_model.specs.Runs.{Event, after}
use Rattle.fk_model.proofs.walks.PlaceLaws.{same_path_refl}
use Rattle.laws_filled.specs.Filled.{is_paged}
use Rattle.laws_filled.specs.Pager.{Desk, State, Phase, paging, at_phase, put, counted, makes_room, looked, no_words, words_of, stage_of, next, first, hears}
use Rattle.laws_filled.specs.Pager.{is_opening, IsPick, call_of, said_of, IsGood, IsOwn, homes, left_of, spent, begun, spent_by}
use Rattle.laws_filled.specs.Pager.Phase.{Seeking, Taking, Waiting, Looking, Evicting, Giving, Ending}
use Rattle.laws_filled.proofs.First.{first-good}
use Rattle.laws_filled.proofs.Own.{own}
use Rattle.laws_filled.proofs.Opening.{left, IsThere, spends}
use Rattle.laws_filled.proofs.Spends.{calls_are_few_lem}
use Rattle.laws_filled.proofs.Results.{is_call, wait_result, WaitResult}
use Rattle.laws_filled.proofs.Results.WaitResult.{Idle, TookFault}
use Rattle.laws_filled_bounds.specs.Taken.{taken_in, raised_in, AreSparing, IsSparing}
use Rattle.laws_filled_bounds.specs.Taken.IsSparing.{Here as Nothing_moves, Goes}
use Rattle.laws_filled_bounds.specs.Driven.{port_at, porter_at, IsDriven, CallsAreBounded}
use Rattle.fk_model.specs.Seen.{changes_of}
use Rattle.laws_filled_bounds.specs.Driven.IsDriven.{Here, Another, Own}
use Rattle.laws_filled_bounds.proofs.Tracked.{taken_are_raised_lem}

module _ (d : Desk) where
  -- ---- phases

  room-opened : (s : State) (page : ℕ) (ys : List ℕ) → is_opening (makes_room d s page ys).phase ≡ false
  room-opened s page [] = refl
  room-opened s page (old ∷ rest) = by (nat_le d.room (length (old ∷ rest)))
    where
      by : (b : Bool) → is_opening (cond b (at_phase s (Evicting old page)) (at_phase s (Giving page))).phase ≡ false
      by true = refl
      by false = refl

  next-opened : (s : State) (ph : Phase) (status : ℕ) (words : List ℕ) → is_opening ph ≡ false →
      is_opening (next d (at_phase s ph) ph status words).phase ≡ false
  unfolding next
  next-opened s (Seeking from) status words opened = cc
  next-opened s (Taking page) status words opened = cc
  next-opened s Waiting status words opened = by (status == OK)
    where
      by : (b : Bool) → is_opening (if b then at_phase s (Looking (slice_index words 2)) else at_phase s Waiting).phase ≡ false
      by true = refl
      by false = refl
  next-opened s (Looking page) status words opened = by (status == OK && slice_index words 0 == page)
    where
      by : (b : Bool) → is_opening (if b then at_phase s (Ending page) else looked d (at_phase s (Looking page)) page).phase ≡ false
      by true = refl
      by false = room-opened (at_phase s (Looking page)) page s.inside
  next-opened s (Evicting old page) status words opened = by (status == OK) (status == HELD)
    where
      by : (a b : Bool) → is_opening (if a then record { backing = put old words s.backing; inside = drop 1 s.inside; faults = s.faults; phase = Giving page }
          else (if b then at_phase s (Evicting old page)
          else record { backing = s.backing; inside = drop 1 s.inside; faults = s.faults; phase = Giving page })).phase ≡ false
      by true b = refl
      by false true = refl
      by false false = refl
  next-opened s (Giving page) status words opened = by (status == OK) (status == HELD)
    where
      by : (a b : Bool) → is_opening (if a then record { backing = s.backing; inside = s.inside ++ page ∷ []; faults = s.faults; phase = Ending page }
          else (if b then at_phase s (Giving page) else at_phase s (Ending page))).phase ≡ false
      by true b = refl
      by false true = refl
      by false false = refl
  next-opened s (Ending page) status words opened = by (status == OK)
    where
      by : (b : Bool) → is_opening
          (if b then record { backing = s.backing; inside = s.inside; faults = counted s.faults; phase = Waiting } else at_phase s Waiting).phase ≡ false
      by true = refl
      by false = refl

  stays-opened : (s : State) (said : Said) → is_opening s.phase ≡ false → is_opening (hears d s said).phase ≡ false
  stays-opened s (Answered status words) opened = next-opened s s.phase status words opened
  stays-opened s said opened = opened

  -- after a call of the opening nothing of a fault is left to do
  next-idle : (s : State) (ph : Phase) (status : ℕ) (words : List ℕ) → is_opening ph ≡ true → left_of (next d (at_phase s ph) ph status words).phase ≡ 0
  unfolding next
  next-idle s (Seeking from) status words opening = by (status == OK)
    where
      by : (b : Bool) → left_of (if b then at_phase s (Taking (slice_index words 0)) else at_phase s Waiting).phase ≡ 0
      by true = refl
      by false = refl
  next-idle s (Taking page) status words opening = by (status == OK) (status == HELD)
    where
      by : (a b : Bool) → left_of (if a then record { backing = put page words s.backing; inside = s.inside; faults = s.faults; phase = Seeking (page + 1) }
          else (if b then at_phase s (Taking page) else at_phase s (Seeking (page + 1)))).phase ≡ 0
      by true b = refl
      by false true = refl
      by false false = refl
  next-idle s Waiting status words opening = cc
  next-idle s (Looking page) status words opening = cc
  next-idle s (Evicting old page) status words opening = cc
  next-idle s (Giving page) status words opening = cc
  next-idle s (Ending page) status words opening = cc

  idle-left : (ph : Phase) → is_opening ph ≡ true → left_of ph ≡ 0
  idle-left (Seeking from) opening = refl
  idle-left (Taking page) opening = refl
  idle-left Waiting opening = cc
  idle-left (Looking page) opening = cc
  idle-left (Evicting old page) opening = cc
  idle-left (Giving page) opening = cc
  idle-left (Ending page) opening = cc

  stays-idle : (s : State) (said : Said) → is_opening s.phase ≡ true → left_of (hears d s said).phase ≡ 0
  stays-idle s (Answered status words) opening = next-idle s s.phase status words opening
  stays-idle s said opening = idle-left s.phase opening

  -- ---- one call, once the opening is done: it takes a fault, or goes on with one

  abbrev Advances : State → Phase → Said → ℕ → Type 0
  Advances s ph said taken = left_of (hears d (at_phase s ph) said).phase + spent_by said ≤ left_of ph + 5 * taken

  going-on : (s : State) (ph : Phase) (said : Said) → is_opening ph ≡ false → begun ph ≡ 0 → (ph ≡ Waiting → ⊥) → Advances s ph said 0
  going-on s ph (Answered status words) opened none other = let few = calls_are_few_lem d s ph status words opened (λ e. absurd (other e)) in
      omega (arith, few, none)
  going-on s ph said opened none other = omega arith

  module _ (low : nat_le d.slot LAST_USER_SLOT ≡ true) (w : World) (s : State) where
    abbrev me : Path
    me = LAST_PORTER_SLOT ∷ d.nester

    abbrev Takes : Outcome → Type 0
    Takes o = Advances s Waiting (stepped w o).said (taken_in me (listed o))

    taking : (y : Path) (fault : Fault) (o : Outcome) → WaitResult d.nester d.slot low w no_words y fault o → Takes o
    unfolding next
    taking y fault _ Idle = omega arith
    taking y fault _ (TookFault slot kind) = rw (same_path_refl me) (omega arith)

    waiting : (pick : Option Path) → IsPick d s w Waiting pick → IsReady w me pick (asks.Call (stage_of d Waiting) no_words) →
        Takes (outcome w me pick (asks.Call (stage_of d Waiting) no_words))
    waiting None picks ready = absurd picks
    waiting (Some y) picks ready = by (fault_at w y) refl picks
      where
        by : (o : Option Fault) → fault_at w y ≡ o → holds (is_paged (paging d s)) o ≡ true →
            Takes (outcome w me (Some y) (asks.Call (stage_of d Waiting) no_words))
        by None e h = cc
        by (Some fault) e h = subst Takes (sym (is_call d.nester d.slot low w no_words (Some y) (stage_of d Waiting) ready))
            (taking y fault _ (wait_result d.nester d.slot low w no_words d.set y fault e))

    abbrev asked : Phase → Ask
    asked ph = asks.Call (stage_of d ph) (words_of s ph)

    advances : (ph : Phase) (pick : Option Path) → is_opening ph ≡ false → IsPick d s w ph pick → IsReady w me pick (asked ph) →
        Advances s ph (stepped w (outcome w me pick (asked ph))).said (taken_in me (listed (outcome w me pick (asked ph))))
    advances (Seeking from) pick opened picks ready = cc
    advances (Taking page) pick opened picks ready = cc
    advances Waiting pick opened picks ready = waiting pick picks ready
    advances (Looking page) pick opened picks ready =
        let one = going-on s (Looking page) (stepped w (outcome w me pick (asked (Looking page)))).said refl refl (λ e. cc) in omega (arith, one)
    advances (Evicting old page) pick opened picks ready =
        let one = going-on s (Evicting old page) (stepped w (outcome w me pick (asked (Evicting old page)))).said refl refl (λ e. cc) in omega (arith, one)
    advances (Giving page) pick opened picks ready =
        let one = going-on s (Giving page) (stepped w (outcome w me pick (asked (Giving page)))).said refl refl (λ e. cc) in omega (arith, one)
    advances (Ending page) pick opened picks ready =
        let one = going-on s (Ending page) (stepped w (outcome w me pick (asked (Ending page)))).said refl refl (λ e. cc) in omega (arith, one)

  -- ---- a run

  record Spent (w v : World) (most calls raised : ℕ) : Type 0 where
    taken : ℕ
    moves : IsSparing (port_at d) (porter_at d) w v taken raised
    few : calls ≤ most + 5 * taken

  opened-few : (low : nat_le d.slot LAST_USER_SLOT ≡ true) (w : World) (s : State) (v : World) (t : State) (calls raised : ℕ) → is_opening s.phase ≡ false →
      IsDriven d w s v t calls raised → Spent w v (left_of s.phase) calls raised
  unfolding step
  opened-few low w s _ _ _ _ opened (Here _ _) = record { taken = 0; moves = Nothing_moves w; few = omega arith }
  opened-few low w s v t _ _ opened (Another _ _ e _ _ calls raised done other sparing rest) =
      let more = opened-few low (after w e) s v t calls raised opened rest in
      record {
        taken = taken_in (porter_at d) (changes_of w e) + more.taken;
        moves = Goes w e v more.taken raised sparing more.moves;
        few =
            omega (arith, more.few);
      }
  opened-few low w s v t _ _ opened (Own _ _ pick _ _ calls raised own_move sparing rest) =
      let e = call_of d s pick in
      let one = advances low w s s.phase pick opened own_move.picks own_move.ready in
      let more = opened-few low (after w e) (hears d s (said_of w e)) v t calls raised (stays-opened s (said_of w e) opened) rest in
      record {
        taken = taken_in (porter_at d) (changes_of w e) + more.taken;
        moves = Goes w e v more.taken raised sparing more.moves;
        few =
            omega (arith, one, more.few);
      }

  opening-few : (low : nat_le d.slot LAST_USER_SLOT ≡ true) (room : 1 ≤ d.room) (w : World) (s : State) (v : World) (t : State) (calls raised : ℕ) →
      IsGood d w s → IsThere d low room w s.phase → left_of s.phase ≡ 0 → IsDriven d w s v t calls raised → Spent w v (left d low room w s.phase) calls raised
  unfolding step
  opening-few low room w s _ _ _ _ good there idle (Here _ _) = record { taken = 0; moves = Nothing_moves w; few = omega arith }
  opening-few low room w s v t _ _ good there idle (Another _ _ e _ _ calls raised done other sparing rest) =
      let all = opened-few low w s v t _ _ done (Another w s e v t calls raised done other sparing rest) in
      record { taken = all.taken; moves = all.moves; few = omega (arith, all.few, idle) }
  opening-few low room w s v t _ _ good there idle (Own _ _ pick _ _ calls raised own_move sparing rest) =
      by (is_opening s.phase) refl
      (λ fine home none. opening-few low room (after w (call_of d s pick)) (hears d s (said_of w (call_of d s pick))) v t calls raised fine home none rest)
    where
      by : (b : Bool) → is_opening s.phase ≡ b →
          (IsGood d (after w (call_of d s pick)) (hears d s (said_of w (call_of d s pick))) →
          IsThere d low room (after w (call_of d s pick)) (hears d s (said_of w (call_of d s pick))).phase →
          left_of (hears d s (said_of w (call_of d s pick))).phase ≡ 0 →
          Spent (after w (call_of d s pick)) v (left d low room (after w (call_of d s pick)) (hears d s (said_of w (call_of d s pick))).phase) calls raised) →
          Spent w v (left d low room w s.phase) (spent_by (said_of w (call_of d s pick)) + calls)
          (raised_in (port_at d) (changes_of w (call_of d s pick)) + raised)
      by false done later =
          let all = opened-few low w s v t _ _ done (Own w s pick v t calls raised own_move sparing rest) in
          record { taken = all.taken; moves = all.moves; few = omega (arith, all.few, idle) }
      by true opening later =
          let comes = own d low room w s s.phase pick good own_move.picks own_move.ready in
          let one = spends d low room w s s.phase pick good opening there own_move.picks own_move.ready in
          let more = later comes.1 one.0 (stays-idle s (said_of w (call_of d s pick)) opening) in
          record {
            taken = taken_in (porter_at d) (changes_of w (call_of d s pick)) + more.taken;
            moves = Goes w (call_of d s pick) v more.taken raised sparing more.moves;
            few = omega (arith, one.1, more.few);
          }

pub calls_are_bounded_lem : CallsAreBounded
unfolding first
calls_are_bounded_lem d w v t calls raised low room is port porter moves =
    let all = opening-few d low room w first v t calls raised (first-good d w is) tt refl moves in
    let taken = taken_are_raised_lem (port_at d) (porter_at d) w v all.taken raised port porter is.clear all.moves in
    omega (arith, all.few, taken)
