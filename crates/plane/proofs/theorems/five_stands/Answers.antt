use Rattle.plane.proofs.Forms.{five}
use Rattle.plane.proofs.Circles.{five_points}
use Rattle.plane.proofs.theorems.five_stands.Goals as goal

pub returns : goal.returns
returns c = record { vectors = five; points = five_points }
