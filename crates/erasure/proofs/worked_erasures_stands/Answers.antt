use Rattle.erasure.proofs.Worked.{worked}
use Rattle.erasure.proofs.worked_erasures_stands.Goals as goal

pub returns : goal.returns
returns c = worked
