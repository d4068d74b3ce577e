use Rattle.delaunay.proofs.Legal.{sound_is_legal}
use Rattle.delaunay.proofs.sound_is_legal_stands.Goals as goal

pub returns : goal.returns
returns c = sound_is_legal
