-- A kind is left only at a line of the script.
use Rattle.pad.specs.Turns.{to_play}
use Rattle.pad.proofs.player.play.Given as goal

abbrev pub decreases-loop-next : goal.decreases-loop-next
decreases-loop-next l = to_play l.next
