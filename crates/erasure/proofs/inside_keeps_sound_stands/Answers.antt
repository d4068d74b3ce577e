use Rattle.erasure.proofs.Erasing.{inside_keeps_sound}
use Rattle.erasure.proofs.inside_keeps_sound_stands.Goals as goal

pub returns : goal.returns
returns c = inside_keeps_sound
