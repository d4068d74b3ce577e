use mathlib.Core.Path.{◌≡◌, refl, sym, ◌∙◌, ap}
use Prim.Native.Nat.{ℕ, zero, suc, ◌+◌, ◌*◌}
use native.Mathlib.Omega.{arith}
use lib.IntN.{ℤ, pos, ◌+ℤ◌, neg_ℤ}
use borrow.Author.Differences.{ints}
use Rattle.links.specs.Links.{rev}
use Rattle.links.proofs.Halves.{rev_even}
use Rattle.planar.proofs.Sums.{sum}

suc_one : (k : ℕ) → suc k ≡ k + 1
suc_one k = omega arith

double_suc : (k : ℕ) → 2 * suc k ≡ suc (suc (2 * k))
double_suc k = omega arith

cancels : (s a b : ℤ) → s ≡ pos 0 → b ≡ neg_ℤ a → s +ℤ a +ℤ b ≡ pos 0
cancels s a b p q = omega (arith, ints)

-- the two halves of an edge cancel
pub sum_halves : (e : ℕ) (w : ℕ → ℤ) → ((h : ℕ) → w (rev h) ≡ neg_ℤ (w h)) → sum (2 * e) w ≡ pos 0
unfolding sum
sum_halves zero w odd = refl
sum_halves (suc e) w odd =
    ap (λ k. sum k w) (double_suc e)
    ∙ cancels (sum (2 * e) w) (w (2 * e)) (w (suc (2 * e))) (sum_halves e w odd) (ap w (suc_one (2 * e) ∙ sym (rev_even e)) ∙ odd (2 * e))
