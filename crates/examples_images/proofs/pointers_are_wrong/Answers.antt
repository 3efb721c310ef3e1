use Rattle.std.proofs.Common.{refl}
use Rattle.fk_image.specs.Image.Objects.{kind_in}
use Rattle.fk_image.specs.Format.Offsets.{peer_walk, port_walk, link_walk, thread_walk, set_walk, objects_walk, space_walk, spaces_walk, wrong_in}
use Rattle.examples_images.specs.Images.{two_servers, one_server, maps_a_port}
use Rattle.examples_images.proofs.Spaces.{alone}
use Rattle.laws_image_faults.proofs.Formed.{wrong-first}
use Rattle.examples_images.proofs.pointers_are_wrong.Goals as goal

pub returns-clause-right : goal.returns-clause-right
unfolding kind_in peer_walk port_walk link_walk thread_walk set_walk objects_walk space_walk spaces_walk wrong_in
returns-clause-right c = (wrong-first two_servers (alone _)).1.0 refl

pub returns-clause-again : goal.returns-clause-again
unfolding kind_in peer_walk port_walk link_walk thread_walk set_walk objects_walk space_walk spaces_walk wrong_in
returns-clause-again c = ((wrong-first one_server (alone _)).0 479).0 refl

pub returns-clause-mapping : goal.returns-clause-mapping
unfolding kind_in peer_walk port_walk link_walk thread_walk set_walk objects_walk space_walk spaces_walk wrong_in
returns-clause-mapping c = ((wrong-first maps_a_port (alone _)).0 33).0 refl
