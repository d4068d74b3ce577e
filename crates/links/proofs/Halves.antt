-- The other half of an edge.
use Rattle.std.proofs.Common.{◌≡◌, ℕ, ◌+◌, ◌*◌, ◌/◌, ◌<◌, ◌≢◌, sym, ap, ◌∙◌, arith}
use Rattle.links.specs.Links.{rev}

pub rev_rev : (h : ℕ) → rev (rev h) ≡ h
unfolding rev
rev_rev h = omega arith

pub rev_below : (e h : ℕ) → h < 2 * e → rev h < 2 * e
unfolding rev
rev_below e h l = omega arith

pub rev_even : (k : ℕ) → rev (2 * k) ≡ 2 * k + 1
unfolding rev
rev_even k = omega arith

pub rev_odd : (k : ℕ) → rev (2 * k + 1) ≡ 2 * k
unfolding rev
rev_odd k = omega arith

pub rev_half : (h : ℕ) → rev h / 2 ≡ h / 2
unfolding rev
rev_half h = omega arith

pub rev_other : (h : ℕ) → rev h ≢ h
unfolding rev
rev_other h = omega arith

-- h is the other half of what it has as its other half
pub rev_is : (h k : ℕ) → rev h ≡ k → h ≡ rev k
rev_is h k e = sym (rev_rev h) ∙ ap rev e
