use Rattle.plane.proofs.Forms.{sector}
use Rattle.plane.proofs.Places.{sector_form}
use Rattle.plane.proofs.theorems.sector_form_stands.Goals as goal

pub returns : goal.returns
returns c = record { vectors = sector; points = sector_form }
