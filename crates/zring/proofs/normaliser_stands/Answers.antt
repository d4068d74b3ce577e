use Rattle.zring.proofs.Ring.{norm_sound, ring}
use Rattle.zring.proofs.normaliser_stands.Goals as goal

pub returns : goal.returns
returns c = record { normal = norm_sound; identities = ring }
