use Rattle.std.proofs.Common.{rules}
use Rattle.preset_map.proofs.Agreement.{spot_read}
use Rattle.preset_map.proofs.comparing.is_at.Goals as goal

pub returns : goal.returns
returns g c =
    let at = spot_read g.E.Scalar.GridScalar.reading g.E.HasPosition.across g.E.HasPosition.along c.args.shelf.now c.args.v c.index-shelf-v.result c.requires.within c.index-shelf-v.is c.place.ensures in
    rw (at, ← c.place_of-there.ensures.0, ← c.place_of-there.ensures.1) (search rules)
