use Rattle.class_delays.specs.{class_traffic, numbers_of, with_frames}
use Rattle.class_delays.proofs.Frames.{all-rules-too, is-class}
use Rattle.class_delays.proofs.laws.frames_go_in_time.Goals as goal

pub returns : goal.returns
returns c a frames flows ports tick p given sound flow steady are rules port =
    let s = with_frames frames a.setting in
    let traffic = class_traffic a.class in
    let n = numbers_of a ports in
    c.each_frame_goes_in_time.ensures s flows traffic a.streams n tick p given sound flow (is-class a.class) steady are (all-rules-too a.setting frames traffic a.streams n rules) port
