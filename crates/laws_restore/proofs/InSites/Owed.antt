-- Each order that suits is owed.
use Rattle.std.proofs.Common.{◌≡◌, ℕ, Bool, true, false, ◌&&◌, ◌||◌, ◌≤◌, nat_le, is_some, List, [], ◌∷◌, ◌++◌, Option, Some, None, Result, Ok, Err, refl, sym}
use Rattle.std.proofs.Common.{ap, subst, ◌∙◌}
use Rattle.std.proofs.lemmas.Bool.{le-leb, and_parts}
use Rattle.fk_model.specs.declared.limits.TheConstants.{OWN_SPACE, LAST_USER_SLOT, FIRST_SCRATCH_SLOT, LAST_SCRATCH_SLOT, LAST_PORTER_SLOT}
use Rattle.fk_model.specs.declared.names.Kind.TheVariants as kinds
use Rattle.fk_model.specs.declared.stage.Stage.TheVariants.{LinkSet, FaultSet, HoldSet}
use Rattle.fk_model.specs.Places.{Path, Ptr, parent, same_path, strip, is_within, leads_to}
use Rattle.fk_model.specs.Places.Ptr.{At}
use Rattle.fk_model.specs.Objects.{holds, number_of_kind, reference_of}
use Rattle.fk_model.specs.Objects.Body.{Reference}
use Rattle.fk_model.specs.World.{World}
use Rattle.fk_model.specs.Holds.{holder_of}
use Rattle.fk_model.specs.Readers.{space_argument, referred}
use Rattle.fk_model.specs.StateRows.{is_native}
use Rattle.fk_model.specs.Searches.{is_serving}
use Rattle.fk_model.specs.Valid.{IsValid, is_fit, both_idle}
use Rattle.fk_model.specs.Whole.{is_porters}
use Rattle.fk_model.proofs.walks.PlaceLaws.{same_path_refl, same_path_cancel, same_path_eq, strip-append, strip_some}
use Rattle.laws_moves.specs.Savable.Savable.{may_make, MayMake, NamesHolderOutside, LeavesNoScratch}
use Rattle.laws_jobs.specs.Machines.{porter, no_words, IsOwedCall}
use Rattle.laws_jobs.proofs.Rows.{object-there}
use Rattle.laws_restore.specs.Sites.Orders.{Site, Shows, Order, May, MayLink, MayHold, MayRaise, is_ref_slot, stage_of, words_of}
use Rattle.laws_restore.specs.Sites.Orders.Order.{Readies, Leads, LeadsTop, Makes, Sets, Points, Gives, MakesPin, Pins, Takes, Checks, ParksTalk, ParksFault}
use Rattle.laws_restore.specs.Sites.Orders.Order.{LinksTalk}
use Rattle.laws_restore.specs.Sites.Orders.Order.{RaisesFault, LinksFault, Holds, Drops, DropsPin, Deadens}
use Rattle.laws_restore.specs.Sites.Fit.{IsUnled, IsIdleIn}
use Rattle.laws_restore.specs.Sites.Owed.{IsFree, Suits, OrdersAreOwed}
use Rattle.laws_restore.proofs.InSites.Standing.{place-row, root_named, ref_named, ref_led, empty_beneath}
use Rattle.laws_restore.proofs.InSites.Tied.{thread-there, port-there, kind_of_there, no_place}
use Rattle.laws_restore.proofs.InSites.Fit.{serves_nobody}

abbrev placed : Path → Result Path ℕ
placed x = Ok x

same_place : (x y : Path) → placed x ≡ Ok y → x ≡ y
same_place x y e = cc

abbrev led : Ptr → Result Ptr ℕ
led p = Ok p

same_ptr : (x y : Path) → led (At x) ≡ Ok (At y) → x ≡ y
same_ptr x y e = cc

-- what lies beneath a root lies in the same of it as it does by itself
within_by : (p z root : Path) → is_within p z ≡ false → is_within (p ++ root) (z ++ root) ≡ false
within_by p z root off = by (strip (p ++ root) (z ++ root)) refl
  where
    assoc : (a b c : Path) → a ++ (b ++ c) ≡ (a ++ b) ++ c
    assoc [] b c = refl
    assoc (k ∷ a) b c = ap (λ (x : Path). k ∷ x) (assoc a b c)

    by : (o : Option Path) → strip (p ++ root) (z ++ root) ≡ o → is_some o ≡ false
    by None e = refl
    by (Some a) e =
        let here : z ++ root ≡ (a ++ p) ++ root = strip_some (p ++ root) (z ++ root) a e ∙ assoc a p root in
        let alike : same_path z (a ++ p) ≡ true = sym (same_path_cancel z (a ++ p) root) ∙ rw here (same_path_refl ((a ++ p) ++ root)) in
        let is : z ≡ a ++ p = same_path_eq z (a ++ p) alike in
        let on : is_within p z ≡ true = rw (is, strip-append p a) refl in
        let both = sym on ∙ off in
        cc

module _ (nester : Path) (slot : ℕ) (g : Site) (w : World) (shows : Shows nester slot g w) where
  abbrev root : Path
  root = slot ∷ nester

  -- ---- what is made

  make_low : (words : List ℕ) (s x kind : ℕ) → x ≤ LAST_USER_SLOT → MayMake w (porter nester words) s x kind
  make_low words s x kind low space e = rw (le-leb x LAST_USER_SLOT low) refl

  or_last : (a b : Bool) → b ≡ true → (a || b) ≡ true
  or_last true b h = refl
  or_last false b h = h

  make_scratch : (r : ℕ) → is_ref_slot r ≡ true → MayMake w (porter nester no_words) OWN_SPACE r 9
  unfolding space_argument
  make_scratch r is space e =
      let here = same_place nester space e in
      let both = and_parts (nat_le FIRST_SCRATCH_SLOT r) (nat_le r LAST_SCRATCH_SLOT) is in
      subst (λ (s : Path). may_make w s r 9 ≡ true) here
      (or_last (nat_le r LAST_USER_SLOT) (nat_le r LAST_SCRATCH_SLOT && is_porters w nester) (rw (both.1, shows.porter) refl))

  make_pin : MayMake w (porter nester no_words) slot FIRST_SCRATCH_SLOT 9
  make_pin space e =
      let here = same_place root space (sym (root_named nester slot g w shows no_words) ∙ e) in
      subst (λ (s : Path). may_make w s FIRST_SCRATCH_SLOT 9 ≡ true) here
      (or_last (holds is_native (w.body (LAST_PORTER_SLOT ∷ root))) (holds (leads_to (LAST_PORTER_SLOT ∷ nester)) (holder_of (w.body root)))
      (rw shows.holder (same_path_refl (LAST_PORTER_SLOT ∷ nester))))

  low_scratch : (r : ℕ) → is_ref_slot r ≡ true → nat_le r LAST_SCRATCH_SLOT ≡ true
  low_scratch r is = (and_parts (nat_le FIRST_SCRATCH_SLOT r) (nat_le r LAST_SCRATCH_SLOT) is).1

  -- ---- servers

  module _ (valid : IsValid w) (unled : IsUnled nester slot w) where
    module _ (s : ℕ) (q : Path) (x r u : ℕ) (port server : Path) (may : MayLink g slot s q x r u port server) (free : IsFree g port server)
        (words : List ℕ) where
      port_at : referred w (porter nester words) kinds.Port r ≡ Ok (At (port ++ root))
      port_at =
          let to = ref_led nester slot g w shows r (At port) may.scratch may.led in
          port-there nester words w r (port ++ root)
          (object-there nester words w reference_of nester r (Reference (At (port ++ root))) (At (port ++ root))
          (ref_named nester slot g w shows r may.scratch) to.0 refl)
          (kind_of_there nester slot g w shows valid.consistent port kinds.Port may.port_there)

      server_at : referred w (porter nester words) kinds.Thread u ≡ Ok (At (server ++ root))
      server_at =
          let to = ref_led nester slot g w shows u (At server) may.second may.served in
          thread-there nester words w u (server ++ root)
          (object-there nester words w reference_of nester u (Reference (At (server ++ root))) (At (server ++ root))
          (ref_named nester slot g w shows u may.second) to.0 refl)
          (kind_of_there nester slot g w shows valid.consistent server kinds.Thread may.server_there)

      idle : is_serving w (server ++ root) ≡ false
      idle = subst (λ (y : Path). is_serving w (y ++ root) ≡ false) (sym free.server_is)
          (serves_nobody nester slot g w free.server_slot free.space shows unled valid.consistent (subst (IsIdleIn g.built) free.server_is free.idle))

      beside : same_path (parent (server ++ root)) (parent (port ++ root)) ≡ true
      beside = rw (free.server_is, free.port_is) (same_path_refl (free.space ++ root))

    links_talk-owed : (s : ℕ) (q : Path) (x r u : ℕ) (port server : Path) (words : List ℕ) → MayLink g slot s q x r u port server
        → Suits g (LinksTalk s q x r u port server words) → IsOwedCall w nester (LinkSet s x r u) words
    unfolding is_fit
    links_talk-owed s q x r u port server words may suits = record {
      proper = record {
        fit = rw (
          suits.1,
          port_at s q x r u port server may suits.2 words,
          server_at s q x r u port server may suits.2 words,
          beside s q x r u port server may suits.2 words,
          idle s q x r u port server may suits.2 words,
        ) refl;
        words = suits.0;
      };
      owes = tt;
      unpicking = refl;
    }

    links_fault-owed : (s : ℕ) (q : Path) (x r u : ℕ) (port server : Path) (words : List ℕ) → MayLink g slot s q x r u port server
        → Suits g (LinksFault s q x r u port server words) → IsOwedCall w nester (FaultSet s x r u) words
    unfolding is_fit
    links_fault-owed s q x r u port server words may suits = record {
      proper = record {
        fit = rw (
          suits.1,
          no_place u may.second,
          port_at s q x r u port server may suits.2 words,
          server_at s q x r u port server may suits.2 words,
          beside s q x r u port server may suits.2 words,
          idle s q x r u port server may suits.2 words,
        ) refl;
        words = suits.0;
      };
      owes = tt;
      unpicking = refl;
    }

    raises_fault-owed : (s : ℕ) (q : Path) (x r : ℕ) (port : Path) (words : List ℕ) → MayRaise g slot s q x r port → Suits g (RaisesFault s q x r port words)
        → IsOwedCall w nester (FaultSet s x r OWN_SPACE) words
    unfolding is_fit
    raises_fault-owed s q x r port words may suits = record {
      proper = record {
        fit = rw suits.1 (by (referred w (porter nester words) kinds.Port r));
        words = suits.0;
      };
      owes = tt;
      unpicking = refl;
    }
      where
        by : (o : Result Ptr ℕ) → both_idle w o (Ok None) ≡ true
        by (Ok to) = refl
        by (Err status) = refl

    -- ---- holders

    holds-owed : (s : ℕ) (q : Path) (x r : ℕ) (holder : Path) → MayHold g slot s q x r holder → Suits g (Holds s q x r holder)
        → IsOwedCall w nester (HoldSet s x r) no_words
    unfolding is_fit
    holds-owed s q x r holder may suits = record { proper = record { fit = refl; words = refl }; owes = (outside, bare_there); unpicking = refl }
      where
        place : space_argument w (porter nester no_words) s ≡ Ok (q ++ root)
        place = place-row nester slot g w shows no_words s q may.place

        holder_at : referred w (porter nester no_words) kinds.Thread r ≡ Ok (At (holder ++ root))
        holder_at =
            let to = ref_led nester slot g w shows r (At holder) may.scratch may.led in
            thread-there nester no_words w r (holder ++ root)
            (object-there nester no_words w reference_of nester r (Reference (At (holder ++ root))) (At (holder ++ root))
            (ref_named nester slot g w shows r may.scratch) to.0 refl)
            (kind_of_there nester slot g w shows valid.consistent holder kinds.Thread may.holder_there)

        outside : NamesHolderOutside w (porter nester no_words) s x r
        outside space y at to =
            let here = same_place (q ++ root) space (sym place ∙ at) in
            let there = same_ptr (holder ++ root) y (sym holder_at ∙ to) in
            subst (λ (a : Path). is_within (x ∷ a) y ≡ false) here
            (subst (λ (y : Path). is_within (x ∷ (q ++ root)) y ≡ false) there (within_by (x ∷ q) holder root suits.0))

        bare_there : LeavesNoScratch w (porter nester no_words) s x
        bare_there space at k is live =
            let here = same_place (q ++ root) space (sym place ∙ at) in
            let empty = empty_beneath nester slot g w shows k x q (suits.1 k is) in
            let none : w.body (k ∷ x ∷ space) ≡ None = subst (λ (a : Path). w.body (k ∷ x ∷ a) ≡ None) here empty in
            let both : is_some (w.body (k ∷ x ∷ space)) ≡ false = rw none refl in
            let clash = sym live ∙ both in
            cc

    -- ---- each

    pub owed : (o : Order) → May slot o g → Suits g o → IsOwedCall w nester (stage_of slot o) (words_of o)
    unfolding is_fit
    owed (Readies r) may suits = record { proper = record { fit = refl; words = refl }; owes = make_scratch r may.0; unpicking = refl }
    owed (Leads r s q x) may suits = record { proper = record { fit = refl; words = refl }; owes = tt; unpicking = refl }
    owed (LeadsTop r) may suits = record { proper = record { fit = refl; words = refl }; owes = tt; unpicking = refl }
    owed (Makes s q x kind) may suits = record {
      proper = record { fit = refl; words = refl };
      owes = make_low no_words s x (number_of_kind kind) may.low;
      unpicking = refl;
    }
    owed (Sets s q x words) may suits = record { proper = record { fit = refl; words = suits }; owes = tt; unpicking = refl }
    owed (Points s q x r) may suits = record { proper = record { fit = refl; words = refl }; owes = tt; unpicking = refl }
    owed (Gives s q page words) may suits = record { proper = record { fit = refl; words = suits }; owes = tt; unpicking = refl }
    owed MakesPin may suits = record { proper = record { fit = refl; words = refl }; owes = make_pin; unpicking = refl }
    owed (Pins i) may suits = record { proper = record { fit = refl; words = refl }; owes = tt; unpicking = refl }
    owed (Takes r) may suits = record { proper = record { fit = refl; words = refl }; owes = tt; unpicking = refl }
    owed (Checks r i) may suits = record { proper = record { fit = refl; words = refl }; owes = tt; unpicking = refl }
    owed (ParksTalk s q x i words) may suits = record { proper = record { fit = suits.1; words = suits.0 }; owes = tt; unpicking = refl }
    owed (ParksFault s q x i taken words) may suits = record {
      proper = record { fit = rw (suits.1, suits.2) refl; words = suits.0 };
      owes = tt;
      unpicking = refl;
    }
    owed (Drops r) may suits = record { proper = record { fit = refl; words = refl }; owes = low_scratch r may.0; unpicking = refl }
    owed DropsPin may suits = record { proper = record { fit = refl; words = refl }; owes = refl; unpicking = refl }
    owed (Deadens r) may suits = record { proper = record { fit = refl; words = refl }; owes = refl; unpicking = refl }
    owed (LinksTalk s q x r u port server words) may suits = links_talk-owed s q x r u port server words may suits
    owed (RaisesFault s q x r port words) may suits = raises_fault-owed s q x r port words may suits
    owed (LinksFault s q x r u port taker words) may suits = links_fault-owed s q x r u port taker words may suits
    owed (Holds s q x r holder) may suits = holds-owed s q x r holder may suits

pub orders_are_owed : OrdersAreOwed
orders_are_owed nester slot g w o shows may suits unled valid = owed nester slot g w shows valid unled o may suits
