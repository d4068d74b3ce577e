use Rattle.zring.proofs.Signs.{three-≥}
use Rattle.zring.proofs.three_terms_stands.Goals as goal

pub returns : goal.returns
returns c = three-≥
