-- The values of a polynomial at the corners of the box 0 .. n.
use Rattle.std.specs.Prelude.{List, [], ◌∷◌, Bool, false, ℕ, zero, suc, leb, ℤ, pos, nat_abs}
use Rattle.zring.specs.Normal.{P, con, nod, plus, scale}
use Rattle.zring.specs.Machine.{both}

-- each corner's value has size at most `most`; the depth is at least the number of variables
abbrev pub corner : (n most : ℕ) → ℕ → P → Bool
corner n most zero (con c) = leb (nat_abs c) most
corner n most zero (nod i p q) = false
corner n most (suc d) (con c) = leb (nat_abs c) most
corner n most (suc d) (nod i p q) = both (corner n most d q) (corner n most d (plus (scale (pos n) p) q))

-- naturals as integers
abbrev pub naturals : List ℕ → List ℤ
naturals [] = []
naturals (n ∷ ns) = pos n ∷ naturals ns
