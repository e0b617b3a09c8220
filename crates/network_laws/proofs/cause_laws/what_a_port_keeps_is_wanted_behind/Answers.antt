use Rattle.network_laws.proofs.{StreamRest.are-still, Wanted.wanted-behind}
use Rattle.network_laws.proofs.cause_laws.what_a_port_keeps_is_wanted_behind.Goals as goal

pub returns : goal.returns
returns c w stream p s port want kept rest once has node at e =
    wanted-behind w (are-still w kept rest (c.ports.ensures w.tree kept.tree) c.a_still_marked_link_registers_what_is_declared.ensures.near)
    stream c.decisions_stand.ensures.kept once p has (record { s = s; node = node; port = port; has = at }) want e
