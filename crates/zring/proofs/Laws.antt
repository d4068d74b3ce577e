-- The ring laws of ℤ that lib.IntN lacks: the product is associative, distributes, and has units on both sides.
use mathlib.Core.Path.{◌≡◌, sym, ◌∙◌, ap, ap₂}
use Prim.Native.Nat.{ℕ, ◌+◌, ◌*◌}
use native.Mathlib.Omega.{arith}
use lib.IntN.{ℤ, pos, negsuc, ◌+ℤ◌, ◌*ℤ◌, neg_ℤ, +ℤ_assoc, +ℤ_comm, *ℤ_comm, *ℤ-one, one}
use borrow.Author.Differences.{up, down, same_in, sum_is_lem, product_is, neg_is}

up_mul : (a b : ℤ) → up (a *ℤ b) ≡ up a * up b + down a * down b
up_mul a b = (product_is a b).0

down_mul : (a b : ℤ) → down (a *ℤ b) ≡ up a * down b + down a * up b
down_mul a b = (product_is a b).1

pub *ℤ-assoc : (a b c : ℤ) → (a *ℤ b) *ℤ c ≡ a *ℤ (b *ℤ c)
*ℤ-assoc a b c = same_in ((a *ℤ b) *ℤ c) (a *ℤ (b *ℤ c)) (simp (up_mul, down_mul) (omega arith))

pub *ℤ-distl : (a b c : ℤ) → a *ℤ (b +ℤ c) ≡ a *ℤ b +ℤ a *ℤ c
*ℤ-distl a b c =
    let s = sum_is_lem b c in
    let t = sum_is_lem (a *ℤ b) (a *ℤ c) in
    let p = ap (λ (n : ℕ). up a * n) s in
    let q = ap (λ (n : ℕ). down a * n) s in
    same_in (a *ℤ (b +ℤ c)) (a *ℤ b +ℤ a *ℤ c)
    (omega (arith, up_mul a (b +ℤ c), down_mul a (b +ℤ c), up_mul a b, down_mul a b, up_mul a c, down_mul a c, s, t, p, q))

pub *ℤ-distr : (a b c : ℤ) → (a +ℤ b) *ℤ c ≡ a *ℤ c +ℤ b *ℤ c
*ℤ-distr a b c = *ℤ_comm (a +ℤ b) c ∙ *ℤ-distl c a b ∙ ap₂ ◌+ℤ◌ (*ℤ_comm c a) (*ℤ_comm c b)

pub *ℤ-one-r : (a : ℤ) → a *ℤ pos 1 ≡ a
unfolding one
*ℤ-one-r a = *ℤ-one a

pub *ℤ-one-l : (a : ℤ) → pos 1 *ℤ a ≡ a
*ℤ-one-l a = *ℤ_comm (pos 1) a ∙ *ℤ-one-r a

pub neg_is_mul : (a : ℤ) → neg_ℤ a ≡ negsuc 0 *ℤ a
neg_is_mul a =
    same_in (neg_ℤ a) (negsuc 0 *ℤ a) (omega (arith, (neg_is a).0, (neg_is a).1, (product_is (negsuc 0) a).0, (product_is (negsuc 0) a).1))

pub neg_mul : (a b : ℤ) → neg_ℤ a *ℤ b ≡ neg_ℤ (a *ℤ b)
neg_mul a b = ap (λ t. t *ℤ b) (neg_is_mul a) ∙ *ℤ-assoc (negsuc 0) a b ∙ sym (neg_is_mul (a *ℤ b))

-- (p + q) + (r + s) = (p + r) + (q + s)
pub swap4 : (p q r s : ℤ) → (p +ℤ q) +ℤ (r +ℤ s) ≡ (p +ℤ r) +ℤ (q +ℤ s)
swap4 p q r s =
    +ℤ_assoc p q (r +ℤ s) ∙ ap (λ t. p +ℤ t) (sym (+ℤ_assoc q r s) ∙ ap (λ t. t +ℤ s) (+ℤ_comm q r) ∙ +ℤ_assoc r q s) ∙ sym (+ℤ_assoc p r (q +ℤ s))

-- a (x b) = x (a b)
pub mul_left_comm : (a x b : ℤ) → a *ℤ (x *ℤ b) ≡ x *ℤ (a *ℤ b)
mul_left_comm a x b = sym (*ℤ-assoc a x b) ∙ ap (λ t. t *ℤ b) (*ℤ_comm a x) ∙ *ℤ-assoc x a b
