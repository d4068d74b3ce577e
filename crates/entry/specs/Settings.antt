-- The numbers of settings.
use Rattle.std.specs.Prelude.{ℕ}
use Rattle.entry.specs.declared.preset.Setting.{Setting}
use Rattle.entry.specs.declared.preset.Setting.TheVariants.{Dial, Switch, Unset}

-- a setting's number in answers, whatever value it holds
abbrev pub setting_number : Setting → ℕ
setting_number (Dial _) = 1
setting_number (Switch _) = 2
setting_number Unset = 3
