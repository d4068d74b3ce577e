-- Whether a draft or a map lies beside the shelf.
use Rattle.pad.specs.declared.player.Beside.{Beside}
use Rattle.pad.specs.declared.player.Beside.TheVariants.{Nothing, Draft, Map}

abbrev pub IsDraft : Beside → Type 0
IsDraft Nothing = ⊥
IsDraft (Draft draft) = Unit {0}
IsDraft (Map map) = ⊥

abbrev pub IsMap : Beside → Type 0
IsMap Nothing = ⊥
IsMap (Draft draft) = ⊥
IsMap (Map map) = Unit {0}
