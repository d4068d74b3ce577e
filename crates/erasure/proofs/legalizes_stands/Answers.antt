use Rattle.erasure.proofs.Legalized.{legalizes}
use Rattle.erasure.proofs.legalizes_stands.Goals as goal

pub returns : goal.returns
returns c = legalizes
