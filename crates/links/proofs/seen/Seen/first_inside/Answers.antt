use Rattle.std.proofs.Common.{sym}
use Rattle.links.specs.Sight.{links_of}
use Rattle.links.proofs.Sights.{outer_none}
use Rattle.links.proofs.seen.Seen.first_inside.Goals as goal

pub returns-then-k-eq0 : goal.returns-then-k-eq0
returns-then-k-eq0 g c =
    sym (outer_none (links_of c.args.self.now)
    c.args.self.now.tables.shape.n c.args.k c.if-k-eq0.true)
