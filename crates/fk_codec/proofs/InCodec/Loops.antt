-- Reading one space after the other, as a loop does.
use Rattle.std.proofs.Common.{◌≡◌, ℕ, Bool, ◌-◌, ◌+◌, ◌≤◌, ◌<◌, List, [], ◌∷◌, ◌++◌, Result, Ok}
use Rattle.fk_image.specs.declared.image.image.SpaceRec.{SpaceRec}
use Rattle.fk_image.specs.declared.image.open.Open.{Open}
use Rattle.fk_image.specs.Image.Preorder.{after_space}
use Rattle.fk_image.specs.declared.format.stop.Stop.{Stop}
use Rattle.fk_image.specs.Format.Fields.{read_many}
use Rattle.fk_image.specs.Format.Reading.{read_space}
use Rattle.fk_codec.specs.declared.reading.fail.Fail.{Fail}
use Rattle.fk_codec.specs.Reading.Given.{Fails}
use Rattle.fk_codec.proofs.InReading.Loops.{goes_on, fails_there, is_done}

pub spaces_go : (new : Bool) (count i : ℕ) (before : List SpaceRec × List Open) (done : List SpaceRec) (bytes : List ℕ) (x : SpaceRec) (after : List ℕ) →
    i < count → read_space new before bytes ≡ Ok (x, after)
    → read_many (read_space new) after_space (count - i) before done bytes
    ≡ read_many (read_space new) after_space (count - (i + 1)) (after_space before x) (done ++ x ∷ []) after
spaces_go new = goes_on (read_space new) after_space

pub spaces_fail : (new : Bool) (e : Fail) (count i : ℕ) (before : List SpaceRec × List Open)
    (done : List SpaceRec) (bytes : List ℕ) (total : Result (List SpaceRec × List ℕ) Stop) → i < count → Fails e (read_space new before bytes)
    → read_many (read_space new) after_space (count - i) before done bytes ≡ total → Fails e total
spaces_fail new = fails_there (read_space new) after_space

pub spaces_end : (new : Bool) (count i : ℕ) (before : List SpaceRec × List Open) (done : List SpaceRec) (bytes : List ℕ) →
    count ≤ i → read_many (read_space new) after_space (count - i) before done bytes ≡ Ok (done, bytes)
spaces_end new = is_done (read_space new) after_space

pub ruleset spaces = (spaces_go, spaces_fail, spaces_end)
