use Rattle.preset_map.proofs.Updates.{writes_update}
use Rattle.preset_map.proofs.theorems.writes_update_stands.Goals as goal

pub returns : goal.returns
returns c = writes_update
