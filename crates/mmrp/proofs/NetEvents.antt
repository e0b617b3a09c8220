-- An event of a network that runs MMRP is one of a network of nodes.
use Rattle.std.proofs.Common.{◌≡◌, refl}
use Rattle.mmrp.specs.{GroupEvent, Join, Port, Lose, Repeat, Carry, Clock, NetGroups, after_net_event, group_step, net_event}
use Rattle.mmrp.specs.declared.events.GroupEvent.TheVariants.{Part as Parted}

pub step_is : (e : GroupEvent) (w : NetGroups) → group_step e w ≡ after_net_event (net_event e) w
step_is (Join n mac) w = refl
step_is (Parted n mac) w = refl
step_is (Port p step) w = refl
step_is (Lose p index) w = refl
step_is (Repeat p index) w = refl
step_is (Carry p) w = refl
step_is Clock w = refl
