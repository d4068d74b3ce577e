-- How large products are, and the determinant of a circle along its last column.
use Rattle.std.proofs.Common.{◌≡◌, ℕ, ◌*◌, ◌≤◌, [], ◌∷◌, ℤ, ◌+ℤ◌, ◌-ℤ◌, ◌*ℤ◌, arith, w64, to_z, of_z, SFits}
use borrow.Author.Differences.{ints}
use Rattle.std.specs.Prelude.{unsigned_abs}
use Rattle.std.proofs.lemmas.Int.{unsigned_abs-mul}
use Rattle.std.proofs.Math.Nat.{mul-le-mul}
use Rattle.zring.proofs.Ring.{v, ◌⊹◌, ◌⊖◌, ◌⊛◌, ring}
use Rattle.zring.proofs.Machine.{AllNear, held_fits, held_is}
use Rattle.plane.specs.Plane.{sq, det3}
use Rattle.plane.proofs.Sym.{sq_e, det3E}

product_small : (a b : ℤ) (m n : ℕ) → unsigned_abs a ≤ m → unsigned_abs b ≤ n → unsigned_abs (a *ℤ b) ≤ m * n
product_small a b m n h l = rw unsigned_abs-mul (mul-le-mul h l)

pub products_small : (a b c d : ℤ) → AllNear 16383 (a ∷ b ∷ c ∷ d ∷ []) → (unsigned_abs (a *ℤ d -ℤ b *ℤ c) ≤ 536805378) × (unsigned_abs (a *ℤ c +ℤ b *ℤ d) ≤ 536805378)
products_small a b c d h =
    let ac = product_small a c 16383 16383 h.0 h.1.1.0 in
    let ad = product_small a d 16383 16383 h.0 h.1.1.1.0 in
    let bc = product_small b c 16383 16383 h.1.0 h.1.1.0 in
    let bd = product_small b d 16383 16383 h.1.0 h.1.1.1.0 in
    (omega (arith, ints, ad, bc), omega (arith, ints, ac, bd))

pub by_last_column : (px py qx qy rx ry : ℤ)
    → det3 px py (sq px py) qx qy (sq qx qy) rx ry (sq rx ry)
    ≡ sq px py *ℤ (qx *ℤ ry -ℤ qy *ℤ rx) +ℤ sq qx qy *ℤ (rx *ℤ py -ℤ ry *ℤ px) +ℤ sq rx ry *ℤ (px *ℤ qy -ℤ py *ℤ qx)
by_last_column px py qx qy rx ry =
    let p = sq_e (v 0) (v 1) in
    let q = sq_e (v 2) (v 3) in
    let r = sq_e (v 4) (v 5) in
    ring (det3E (v 0) (v 1) p (v 2) (v 3) q (v 4) (v 5) r)
    (p ⊛ (v 2 ⊛ v 5 ⊖ v 3 ⊛ v 4) ⊹ q ⊛ (v 4 ⊛ v 1 ⊖ v 5 ⊛ v 0) ⊹ r ⊛ (v 0 ⊛ v 3 ⊖ v 1 ⊛ v 2))
    (px ∷ py ∷ qx ∷ qy ∷ rx ∷ ry ∷ []) tt

-- ---- one, two and three products of numbers below 2 ^ 30, as the machine has them
abbrev Near : ℤ → Type 0
Near z = unsigned_abs z ≤ 536805378

abbrev machine : ℤ → ℤ
machine z = to_z w64 (of_z w64 z)

abbrev product : ℤ → ℤ → ℤ
product a b = machine (machine a *ℤ machine b)

pub one_fits : (a b : ℤ) → Near a → Near b → SFits w64 (machine a *ℤ machine b)
one_fits a b h l = held_fits w64 536805378 (a ∷ b ∷ []) (v 0 ⊛ v 1) (h, (l, tt)) tt tt

pub two_fit : (a b c d : ℤ) → Near a → Near b → Near c → Near d → SFits w64 (product a b +ℤ product c d)
two_fit a b c d ha hb hc hd = held_fits w64 536805378 (a ∷ b ∷ c ∷ d ∷ []) (v 0 ⊛ v 1 ⊹ v 2 ⊛ v 3) (ha, (hb, (hc, (hd, tt)))) tt tt

pub three_fit : (a b c d e f : ℤ) → Near a → Near b → Near c → Near d → Near e → Near f → SFits w64 (machine (product a b +ℤ product c d) +ℤ product e f)
three_fit a b c d e f ha hb hc hd he hf =
    held_fits w64 536805378 (a ∷ b ∷ c ∷ d ∷ e ∷ f ∷ []) (v 0 ⊛ v 1 ⊹ v 2 ⊛ v 3 ⊹ v 4 ⊛ v 5) (ha, (hb, (hc, (hd, (he, (hf, tt)))))) tt tt

pub three_are : (a b c d e f : ℤ) → Near a → Near b → Near c → Near d → Near e → Near f → machine (machine (product a b +ℤ product c d) +ℤ product e f) ≡ a *ℤ b +ℤ c *ℤ d +ℤ e *ℤ f
three_are a b c d e f ha hb hc hd he hf =
    held_is w64 536805378 (a ∷ b ∷ c ∷ d ∷ e ∷ f ∷ []) (v 0 ⊛ v 1 ⊹ v 2 ⊛ v 3 ⊹ v 4 ⊛ v 5) (ha, (hb, (hc, (hd, (he, (hf, tt)))))) tt tt
