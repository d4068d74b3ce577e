use Rattle.erasure.proofs.Erasing.{keeps_sound}
use Rattle.erasure.proofs.only_hull_is_left_stands.Goals as goal

pub returns : goal.returns
returns c = keeps_sound
