-- What the library offers.
use Rattle.std.specs.Prelude.{◌≡◌, List, ℕ, ◌^◌, ◌≤◌, ◌<◌, T, ltb, ℤ, pos, ◌+ℤ◌, ◌*ℤ◌, nat_abs, ◌≤ℤ◌, ◌<ℤ◌}
use Rattle.std.specs.Int.{Width}
use mir.Val.{SFits, hbits}
use Rattle.zring.specs.Expression.{E, ◌⊖◌, den}
use Rattle.zring.specs.Normal.{ev, norm, is_zero}
use Rattle.zring.specs.Machine.{raws, vals, wide, most, run, last, roomy, cast, held, AllLe, AllNear}
use Rattle.zring.specs.Corners.{corner, naturals}

-- the product is associative and distributes over the sum
abbrev pub RingLaws : Type 0
RingLaws =
    ((a b c : ℤ) → (a *ℤ b) *ℤ c ≡ a *ℤ (b *ℤ c))
    × ((a b c : ℤ) → a *ℤ (b +ℤ c) ≡ a *ℤ b +ℤ a *ℤ c)
    × ((a b c : ℤ) → (a +ℤ b) *ℤ c ≡ a *ℤ c +ℤ b *ℤ c)

-- a normal form has the value of its expression
abbrev pub NormalForm : Type 0
NormalForm = (e : E) (ρ : List ℤ) → den e ρ ≡ ev (norm e) ρ

-- where the normal form of l - r is zero, l and r have the same value everywhere
abbrev pub Normaliser : Type 0
Normaliser = (l r : E) (ρ : List ℤ) → T (is_zero (norm (l ⊖ r))) → den l ρ ≡ den r ρ

-- where the ranges fit, an expression over casts of naturals is computed without loss
abbrev pub FitsCasts : Type 0
FitsCasts =
    (w : Width) (top : ℕ) (ns : List ℕ) (e : E) → AllLe top ns → T (ltb top (2 ^ hbits w)) → T (roomy w e (cast w top ns))
    → SFits w (last w e (raws (cast w top ns))) × (run w e (raws (cast w top ns)) ≡ den e (vals (cast w top ns)))

-- and so is one over signed numbers
abbrev pub FitsHeld : Type 0
FitsHeld =
    (w : Width) (top : ℕ) (zs : List ℤ) (e : E) → AllNear top zs → T (ltb top (2 ^ hbits w)) → T (roomy w e (held w top zs))
    → SFits w (last w e (raws (held w top zs))) × (run w e (raws (held w top zs)) ≡ den e (vals (held w top zs)))

-- the value is in the range
abbrev pub InRange : Type 0
InRange =
    (w : Width) (top : ℕ) (ns : List ℕ) (e : E) (m : ℕ) → AllLe top ns → T (ltb top (2 ^ hbits w)) → T (roomy w e (cast w top ns))
    → T (ltb (wide (most e (cast w top ns))) m) → nat_abs (den e (vals (cast w top ns))) < m

-- in the box 0 .. n no value is larger than the largest at a corner
abbrev pub AtCorners : Type 0
AtCorners = (n m d : ℕ) (ns : List ℕ) (e : E) → AllLe n ns → 0 < n → T (corner n m d (norm e)) → nat_abs (den e (naturals ns)) ≤ m

-- a v = b w + c u with v positive and the rest not negative: a is not negative
abbrev pub ThreeTerms : Type 0
ThreeTerms =
    (a v b w c u : ℤ) → a *ℤ v ≡ b *ℤ w +ℤ c *ℤ u → pos 0 <ℤ v → pos 0 ≤ℤ b → pos 0 ≤ℤ w → pos 0 ≤ℤ c → pos 0 ≤ℤ u → pos 0 ≤ℤ a
