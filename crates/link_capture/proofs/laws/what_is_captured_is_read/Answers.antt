use Rattle.std.proofs.Common.{map}
use Rattle.capture_file.specs.declared.setting.ByteOrder.TheVariants.{Big}
use Rattle.capture_file.specs.declared.setting.LinkType.TheVariants.{Ethernet}
use Rattle.link_capture.specs.{crossings, packet_of}
use Rattle.link_capture.proofs.ReadLemmas.{crossings_fit, crossings_seen}
use Rattle.link_capture.proofs.laws.what_is_captured_is_read.Goals as goal

pub returns-clause-read : goal.returns-clause-read
returns-clause-read c = λ plan ticks end n rules has legal.
    c.what_is_written_is_read.ensures.read Big Ethernet (map packet_of (crossings plan ticks n))
    (crossings_fit c.what_is_written_is_seen.ensures.most plan (c.laws_of_all_ticks.ensures plan rules) ticks end n has legal)

pub returns-clause-seen : goal.returns-clause-seen
returns-clause-seen c = λ plan ticks end n rules has legal.
    crossings_seen c.what_is_written_is_seen.ensures.seen plan (c.laws_of_all_ticks.ensures plan rules) ticks end n has legal
