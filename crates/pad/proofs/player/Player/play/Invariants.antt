-- A draft follows another only at a line of the script.
use Rattle.std.proofs.Common.{◌≤◌}
use Rattle.pad.specs.Turns.{bytes, to_start}
use Rattle.pad.proofs.player.Player.play.Given as goal

abbrev pub invariant-loop-start : goal.invariant-loop-start
invariant-loop-start g l = to_start l.start l.self.script ≤ bytes l.fn.self.script

abbrev pub decreases-loop-start : goal.decreases-loop-start
decreases-loop-start g l = to_start l.start l.self.script
