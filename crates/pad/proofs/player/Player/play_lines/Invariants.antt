-- Each line takes bytes off the script.
use Rattle.std.proofs.Common.{◌≤◌}
use Rattle.pad.specs.Turns.{bytes}
use Rattle.pad.proofs.player.Player.play_lines.Given as goal

abbrev pub invariant-loop-line : goal.invariant-loop-line
invariant-loop-line g l = bytes l.self.script ≤ bytes l.fn.self.script

abbrev pub decreases-loop-line : goal.decreases-loop-line
decreases-loop-line g l = bytes l.self.script
