-- What settle gives: a map, or check's fault beside an empty map.
use Rattle.std.specs.Prelude.{Ok, Err, Result}
use Rattle.links.specs.declared.fault.CheckFault.{CheckFault}
use Rattle.preset_map.specs.declared.map.Map.{Map}
use Rattle.preset_map.specs.declared.refused.Refused.{Refused}

-- what check answered
abbrev pub verdict_of : Result Map Refused → Result (Unit {0}) CheckFault
verdict_of (Ok m) = Ok tt
verdict_of (Err r) = Err r.fault

-- the map over the draft's memory, settled or empty
abbrev pub map_of : Result Map Refused → Map
map_of (Ok m) = m
map_of (Err r) = r.map
