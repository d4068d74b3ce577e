use Rattle.surgery.proofs.Sound.{inner_spoked}
use Rattle.surgery.proofs.inner_spoked_stands.Goals as goal

pub returns : goal.returns
returns c = inner_spoked
