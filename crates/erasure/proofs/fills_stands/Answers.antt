use Rattle.erasure.proofs.Filled.{fills}
use Rattle.erasure.proofs.fills_stands.Goals as goal

pub returns : goal.returns
returns c = fills
