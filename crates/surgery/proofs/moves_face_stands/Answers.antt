use Rattle.surgery.proofs.Theorems.{moves_face}
use Rattle.surgery.proofs.moves_face_stands.Goals as goal

pub returns : goal.returns
returns c = moves_face
