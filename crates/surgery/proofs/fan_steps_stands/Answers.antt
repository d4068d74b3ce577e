use Rattle.surgery.proofs.Theorems.{fan_steps}
use Rattle.surgery.proofs.fan_steps_stands.Goals as goal

pub returns : goal.returns
returns c = fan_steps
