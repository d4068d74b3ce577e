use Rattle.erasure.proofs.Corpus.{same_as_rust}
use Rattle.erasure.proofs.same_as_rust_stands.Goals as goal

pub returns : goal.returns
returns c = same_as_rust
