-- A tie is put at one path, or ties are lost: what stays of them.
use Rattle.std.proofs.Common.{◌≡◌, ◌<◌, ◌≤◌, Bool, true, false, if◌then◌else◌, Option, Some, None, refl, arith, add_comm, zero-le}
use Rattle.fk_model.specs.Places.{Path, same_path, Ptr}
use Rattle.fk_model.specs.Objects.Peer.{Server, Service}
use Rattle.fk_model.specs.Valid.{lies_with}
use Rattle.fk_model.proofs.walks.PlaceLaws.{same_path_eq}
use Rattle.laws_moves.proofs.InMachine.validity.Ties.{Tie, is_tied_to, load, IsServedAll, IsNear, IsSingle, AreTied}
use Rattle.laws_moves.proofs.InMachine.validity.Ties.Tie.{Joins}
use Rattle.laws_moves.proofs.InMachine.validity.Outlines.{put}
use Rattle.fk_model.specs.Objects.{flag_of}

load_flip : (s : Path) (a b : Option Tie) → load s a b ≡ load s b a
load_flip s a b = add_comm (flag_of (is_tied_to s a)) (flag_of (is_tied_to s b))

pub single_flip : (s : Path) (a b : Path → Option Tie) → IsSingle s a b → IsSingle s b a
single_flip s a b single = record {
  one = λ x y h g. single.one x y (rw (load_flip s (b x) (a x)) at h) (rw (load_flip s (b y) (a y)) at g);
  each = λ x. rw (load_flip s (b x) (a x)) (single.each x);
}

-- nobody serves more than before
pub single_less : (s : Path) (a b c d : Path → Option Tie) → ((q : Path) → load s (c q) (d q) ≤ load s (a q) (b q)) → IsSingle s a b → IsSingle s c d
single_less s a b c d less single = record {
  one = λ x y h g. single.one x y (omega (arith, less x)) (omega (arith, less y));
  each = λ x. omega (arith, less x, single.each x);
}

pub single_put : (s x : Path) (u : Option Tie) (a b : Path → Option Tie) →
    (is_tied_to s u ≡ true → (q : Path) → load s (a q) (b q) ≡ 0) → IsSingle s a b → IsSingle s (put x u a) b
single_put s x u a b idle single = by (is_tied_to s u) refl
  where
    least : (q : Path) (t : Bool) → is_tied_to s u ≡ false → load s (if t then u else a q) (b q) ≤ load s (a q) (b q)
    least q true e = rw e (omega arith)
    least q false e = omega arith

    only : is_tied_to s u ≡ true → (q : Path) (t : Bool) → same_path q x ≡ t → 0 < load s (if t then u else a q) (b q) → q ≡ x
    only e q true g h = same_path_eq q x g
    only e q false g h = absurd (omega (arith, idle e q))

    few : is_tied_to s u ≡ true → (q : Path) (t : Bool) → load s (if t then u else a q) (b q) ≤ 1
    few e q true = rw e (omega (arith, idle e q))
    few e q false = omega (arith, idle e q)

    by : (t : Bool) → is_tied_to s u ≡ t → IsSingle s (put x u a) b
    by false e = single_less s a b (put x u a) b (λ q. least q (same_path q x) e) single
    by true e = record {
      one = λ y z h g. let left = only e y (same_path y x) refl h in let right = only e z (same_path z x) refl g in rw (left, right) refl;
      each = λ q. few e q (same_path q x);
    }

-- who may be put there
pub record IsFit (a b : Path → Option Tie) (u : Option Tie) : Type 0 where
  pub near : (port server : Ptr) → u ≡ Some (Joins port (Server server)) → lies_with port server
  pub idle : (s : Path) → is_tied_to s u ≡ true → (q : Path) → load s (a q) (b q) ≡ 0

pub record IsFitTalk (served : Ptr → Bool) (a b : Path → Option Tie) (x : Path) (u : Option Tie) : Type 0 where
  pub fit : IsFit a b u
  pub at_served : (port : Ptr) → u ≡ Some (Joins port Service) → served port ≡ true
  pub alone : (port : Ptr) (q : Path) → u ≡ Some (Joins port Service) → a q ≡ Some (Joins port Service) → q ≡ x

near_put : (x : Path) (u : Option Tie) (a : Path → Option Tie) →
    ((port server : Ptr) → u ≡ Some (Joins port (Server server)) → lies_with port server) → IsNear a → IsNear (put x u a)
near_put x u a near old q port server = by (same_path q x)
  where
    by : (t : Bool) → (if t then u else a q) ≡ Some (Joins port (Server server)) → lies_with port server
    by true h = near port server h
    by false h = old q port server h

pub put_talk : (served : Ptr → Bool) (a b : Path → Option Tie) (x : Path) (u : Option Tie) →
    IsFitTalk served a b x u → AreTied served a b → AreTied served (put x u a) b
put_talk served a b x u new tied = record {
  served_all = λ q port. served_by q port (same_path q x);
  one_client = λ y z port. one_of y z port (same_path y x) refl (same_path z x) refl;
  talks_near = near_put x u a new.fit.near tied.talks_near;
  claims_near = tied.claims_near;
  single = λ s. single_put s x u a b (new.fit.idle s) (tied.single s);
}
  where
    served_by : (q : Path) (port : Ptr) (t : Bool) → (if t then u else a q) ≡ Some (Joins port Service) → served port ≡ true
    served_by q port true h = new.at_served port h
    served_by q port false h = tied.served_all q port h

    one_of : (y z : Path) (port : Ptr) (t : Bool) → same_path y x ≡ t →
        (r : Bool) → same_path z x ≡ r → (if t then u else a y) ≡ Some (Joins port Service) → (if r then u else a z) ≡ Some (Joins port Service) → y ≡ z
    one_of y z port true e true f h g = let left = same_path_eq y x e in let right = same_path_eq z x f in rw (left, right) refl
    one_of y z port true e false f h g = let left = same_path_eq y x e in let right = new.alone port z h g in rw (left, right) refl
    one_of y z port false e true f h g = let left = new.alone port y g h in let right = same_path_eq z x f in rw (left, right) refl
    one_of y z port false e false f h g = tied.one_client y z port h g

pub put_claim : (served : Ptr → Bool) (a b : Path → Option Tie) (x : Path) (u : Option Tie) → IsFit a b u → AreTied served a b → AreTied served a (put x u b)
put_claim served a b x u new tied = record {
  served_all = tied.served_all;
  one_client = tied.one_client;
  talks_near = tied.talks_near;
  claims_near = near_put x u b new.near tied.claims_near;
  single = λ s. single_flip s (put x u b) a (single_put s x u b a (λ e q. rw (load_flip s (b q) (a q)) (new.idle s e q)) (single_flip s a b (tied.single s)));
}

-- ---- ties are lost

abbrev pub IsWithin : (Path → Option Tie) → (Path → Option Tie) → Type 0
IsWithin c a = (q : Path) (tie : Tie) → c q ≡ Some tie → a q ≡ Some tie

flag_within : (s : Path) (c a : Option Tie) → ((tie : Tie) → c ≡ Some tie → a ≡ Some tie) → flag_of (is_tied_to s c) ≤ flag_of (is_tied_to s a)
flag_within s None a within = zero-le
flag_within s (Some tie) a within = rw (within tie refl) (omega arith)

pub tied_within : (served still : Ptr → Bool) (a b c d : Path → Option Tie) →
    IsWithin c a → IsWithin d b → IsServedAll still c → AreTied served a b → AreTied still c d
tied_within served still a b c d talks claims all tied = record {
  served_all = all;
  one_client = λ x y port h g. tied.one_client x y port (talks x _ h) (talks y _ g);
  talks_near = λ x port server h. tied.talks_near x port server (talks x _ h);
  claims_near = λ x port server h. tied.claims_near x port server (claims x _ h);
  single = λ s. single_less s a b c d (λ q. omega (arith, flag_within s (c q) (a q) (talks q), flag_within s (d q) (b q) (claims q))) (tied.single s);
}
