-- The worked maps, by computation.
use Rattle.std.proofs.Common.{refl}
use Rattle.plane.specs.Plane.{S, C, dot}
use Rattle.links.specs.Links.{rev}
use Rattle.links.specs.Worked.{square, crossed, line, WorkedMaps}
use Rattle.links.proofs.Law.{sound_by_tests}

pub worked : WorkedMaps
unfolding S C dot rev
worked = (sound_by_tests square tt tt refl, sound_by_tests crossed tt tt refl, sound_by_tests line tt tt refl, refl)
