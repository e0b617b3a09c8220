use Rattle.mrpdu_codec.proofs.{PlacesOfTree.tree_walked, PlacesStand.first_values_stand}
use Rattle.mrpdu_codec.proofs.places.first_values_have_places.Goals as goal

pub returns-clause-of_tree : goal.returns-clause-of_tree
returns-clause-of_tree c = λ form tree is. tree_walked form tree is

pub returns-clause-one_each : goal.returns-clause-one_each
returns-clause-one_each c = λ form octets pdu s. first_values_stand form octets pdu s
