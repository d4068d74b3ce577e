use Rattle.links.proofs.Law.{law}
use Rattle.links.proofs.theorems.accepted_if_sound_stands.Goals as goal

pub returns : goal.returns
returns c = law
