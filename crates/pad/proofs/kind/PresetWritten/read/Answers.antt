-- One word after the other is a number, a name or a setting.
use Rattle.pad.proofs.Taking.{number_taken, setting_taken}
use Rattle.pad.proofs.kind.PresetWritten.read.Goals as goal

pub returns : goal.returns
returns c = (
  c.read.new.self,
  c.read-2.new.self,
  c.word.new.self,
  number_taken 16 _ c.args.words.now _ c.read.new.self c.in_ok-x.ensures,
  number_taken 16 _ c.read.new.self _ c.read-2.new.self c.in_ok-y.ensures,
  (c.in_ok-word.field-0, c.in_ok-word.ensures, c.in_ok-name.ensures.named),
  setting_taken _ c.word.new.self _ c.read-3.new.self c.in_ok-setting.ensures,
)
