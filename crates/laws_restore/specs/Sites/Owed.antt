-- What an order needs besides, so that its call is owed: words such as a porter gives, servers that serve nobody, holders outside.
use Rattle.std.specs.Prelude.{◌≡◌, ℕ, true, false, ◌&&◌, ◌==◌, nat_le, List, [], ◌∷◌, length, None}
use Rattle.fk_model.specs.declared.limits.TheConstants.{PAGE_WORDS}
use Rattle.fk_model.specs.Places.{Path, is_within}
use Rattle.fk_model.specs.World.{World}
use Rattle.fk_model.specs.Valid.{IsValid, are_talk_words, are_fault_words}
use Rattle.fk_model.specs.Whole.{are_words, is_scratch_slot}
use Rattle.laws_jobs.specs.Machines.{IsOwedCall}
use Rattle.laws_restore.specs.Sites.Orders.{Site, Shows, Order, does, May, stage_of, words_of}
use Rattle.laws_restore.specs.Sites.Orders.Order.{Sets, Gives, ParksTalk, ParksFault, LinksTalk, RaisesFault, LinksFault, Holds}
use Rattle.laws_restore.specs.Sites.Fit.{IsUnled, IsIdleIn}

-- what a porter gives: 64 words
abbrev pub IsGiven : List ℕ → Type 0
IsGiven words = (length words == PAGE_WORDS && are_words words) ≡ true

-- a server stands beside its port, and serves nobody yet
pub record IsFree (g : Site) (port server : Path) : Type 0 where
  pub space : Path
  pub port_slot : ℕ
  pub server_slot : ℕ
  pub port_is : port ≡ port_slot ∷ space
  pub server_is : server ≡ server_slot ∷ space
  pub idle : IsIdleIn g.built server

abbrev pub Suits : Site → Order → Type 0
Suits g (Sets s q x words) = IsGiven words
Suits g (Gives s q page words) = IsGiven words
Suits g (ParksTalk s q x i words) = IsGiven words × (are_talk_words words ≡ true)
Suits g (ParksFault s q x i taken words) = IsGiven words × (are_fault_words words ≡ true) × (nat_le taken 1 ≡ true)
Suits g (LinksTalk s q x r u port server words) = IsGiven words × (are_talk_words words ≡ true) × IsFree g port server
Suits g (RaisesFault s q x r port words) = IsGiven words × (are_fault_words words ≡ true)
Suits g (LinksFault s q x r u port taker words) = IsGiven words × (are_fault_words words ≡ true) × IsFree g port taker
-- the holder doesn't lie in what it holds, and no scratch is there
Suits g (Holds s q x r holder) = (is_within (x ∷ q) holder ≡ false) × ((k : ℕ) → is_scratch_slot k ≡ true → g.built.body (k ∷ x ∷ q) ≡ None)
Suits g other = Unit {0}

abbrev pub SuitsAll : List Order → Site → Type 0
SuitsAll [] g = Unit {0}
SuitsAll (o ∷ os) g = Suits g o × SuitsAll os (does o g)

-- where nobody leads in, the call of each order that suits is owed: fit, with words such as a porter gives, and leaving the world such as can be saved
abbrev pub OrdersAreOwed : Type 0
OrdersAreOwed = (nester : Path) (slot : ℕ) (g : Site) (w : World) (o : Order) → Shows nester slot g w → May slot o g → Suits g o → IsUnled nester slot w
    → IsValid w →
    IsOwedCall w nester (stage_of slot o) (words_of o)
