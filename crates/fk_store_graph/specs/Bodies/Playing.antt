-- Playing: who plays a part, by keys.
use Rattle.std.specs.Prelude.{◌≡◌, ℕ, true, false, Some}
use Rattle.fk_model.specs.declared.names.Who.{Who}
use Rattle.fk_model.specs.declared.body.Body.{Body}
use Rattle.fk_store_graph.specs.Linked.Filed.{Filed, name_under}
use Rattle.fk_store_graph.specs.Linked.Bodied.{body_under}
use Rattle.fk_store_graph.specs.Linked.Parts.{plays}
use Rattle.fk_store_graph.specs.Linked.Shapes.{Part}

-- the object with a name plays the part
pub record IsPlayer (o : Filed) (part : Part) (who : Who) : Type 0 where
  pub key : ℕ
  pub body : Body
  pub named : name_under o key ≡ Some who
  pub there : body_under o key ≡ Some body
  pub playing : plays part body ≡ true

-- no object has this part in a talk or a fault
abbrev pub NobodyPlays : Filed → Part → Type 0
NobodyPlays o part = (key : ℕ) (b : Body) → body_under o key ≡ Some b → plays part b ≡ false
