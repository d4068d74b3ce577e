use Rattle.erasure.proofs.Erasing.{line_keeps_sound}
use Rattle.erasure.proofs.line_keeps_sound_stands.Goals as goal

pub returns : goal.returns
returns c = line_keeps_sound
