use Rattle.zring.proofs.Laws.{*ℤ-assoc, *ℤ-distl, *ℤ-distr}
use Rattle.zring.proofs.ring_laws_stands.Goals as goal

pub returns : goal.returns
returns c = (*ℤ-assoc, *ℤ-distl, *ℤ-distr)
