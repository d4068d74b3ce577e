-- How much of a script is left.
use Rattle.std.specs.Prelude.{◌≡◌, ℕ, suc, ◌<◌, length, Option, Some, None}
use Rattle.pad.specs.declared.kind.Kind.{Kind}
use Rattle.pad.specs.declared.player.Start.{Start}
use Rattle.pad.specs.declared.script.Script.{Script}

-- the bytes that are still to be read
abbrev pub bytes : Script → ℕ
bytes s = length s.rest.now

-- a new start takes a line off the script, and without one the script has ended
abbrev pub Left : Option Start → Script → Script → Type 0
Left None before after = bytes after ≡ 0
Left (Some start) before after = bytes after < bytes before

-- what is left to play: a turn to a kind counts as a byte
abbrev pub to_play : Option (Kind × Script) → ℕ
to_play None = 0
to_play (Some next) = suc (bytes next.1)

-- what is left to play before the next kind: a new start counts as a byte
abbrev pub to_start : Option Start → Script → ℕ
to_start None s = 0
to_start (Some start) s = suc (bytes s)
