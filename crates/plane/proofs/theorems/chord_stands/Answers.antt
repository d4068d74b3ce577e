use Rattle.plane.proofs.Signs.{on_chord}
use Rattle.plane.proofs.theorems.chord_stands.Goals as goal

pub returns : goal.returns
returns c = on_chord
