-- How the answer to an order's call is heard.
use Rattle.std.specs.Prelude.{Option, Some, None}
use Rattle.laws_restore.specs.Sites.Orders.{Order}
use Rattle.laws_restore.specs.Sites.Orders.Order.{Pins, Checks}
use Rattle.fk_restore.specs.declared.orders.looks.Look.{Look, Look as looks}

abbrev pub look_of : Order → Look
look_of (Pins i) = looks.Pins i
look_of (Checks r i) = looks.Checks i
look_of other = looks.Plain

-- what is heard of the answer to an order
abbrev pub look_in : Option Order → Look
look_in None = looks.Plain
look_in (Some o) = look_of o
