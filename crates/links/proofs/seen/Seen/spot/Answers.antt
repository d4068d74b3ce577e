use Rattle.std.proofs.Common.{rules, length, sym, ltb-false}
use Rattle.links.proofs.Decide.{dec_nat_lt}
use Rattle.links.proofs.Law.{passes2}
use Rattle.links.proofs.Spots.{place_past, place_is}
use Rattle.links.specs.Shelf.{spot_at}
use Rattle.links.proofs.seen.Seen.spot.Goals as goal

pub returns-in_default : goal.returns-in_default
returns-in_default g c =
    place_past g.E.Scalar.GridScalar.reading g.E.HasPosition.across g.E.HasPosition.along c.args.self.now.entries.now c.args.v
    (ltb-false c.args.v (length c.args.self.now.entries.now) (sym c.in_default.ensures.lookup.0))

pub returns : goal.returns
returns g c =
    let es = c.args.self.now.entries.now in
    let spots = spot_at g.E.Scalar.GridScalar.reading g.E.HasPosition.across g.E.HasPosition.along es in
    let within = (dec_nat_lt c.args.v (length es)).0 (sym c.in-Some.ensures.lookup.0) in
    place_is g.E.Scalar.GridScalar.reading g.E.HasPosition.across g.E.HasPosition.along es c.args.v c.in-Some.entry.now
    c.grid_place.result.x c.grid_place.result.y within (search rules) ((passes2 (length es) spots).0 c.args.self.now.placed) c.grid_place.ensures
