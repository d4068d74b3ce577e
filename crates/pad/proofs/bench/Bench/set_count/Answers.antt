-- The count is the number that the word writes.
use Rattle.std.proofs.Common.{refl}
use Rattle.pad.proofs.Taking.{number_taken}
use Rattle.pad.proofs.bench.Bench.set_count.Goals as goal

pub returns-clause-set : goal.returns-clause-set
returns-clause-set g c =
    (c.in_ok-given.given, c.read.new.self, number_taken 64 _ c.args.words.now _ c.read.new.self c.in_ok-given.ensures, refl)
