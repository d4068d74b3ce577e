use Rattle.std.proofs.Common.{sym, ◌∙◌}
use Rattle.links.specs.Sight.{links_of}
use Rattle.links.proofs.Sights.{inner_none}
use Rattle.links.proofs.seen.Seen.first_left.Goals as goal

pub returns-then-face-ne0 : goal.returns-then-face-ne0
returns-then-face-ne0 g c =
    sym (inner_none (links_of c.args.self.now)
    c.args.self.now.tables.shape.n c.args.h (λ e. c.if-face-ne0.true (c.face.ensures ∙ e)))
