-- The word that is dropped begins a comment.
use Rattle.std.proofs.Common.{◌≡◌, inr, rules, tests, slice_index}
use Rattle.pad.specs.Reading.{hash}
use Rattle.pad.proofs.script.Words.next_word.Goals as goal

pub returns-then-starts_with : goal.returns-then-starts_with
returns-then-starts_with c =
    let begins : slice_index c.in_ok-word.word.now 0 ≡ hash = search (rules, tests) in
    inr (c.in_ok-word.word, c.next.new.self, c.in_ok-word.ensures.steps, begins)
