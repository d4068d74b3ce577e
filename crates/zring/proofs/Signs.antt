-- Signs of integers: products, sums, cases and cancelling.
use mathlib.Core.Path.{◌≡◌, refl, sym, ◌∙◌, ap, subst}
use mathlib.Core.Logic.{◌⊎◌, inl, inr}
use Prim.Native.Nat.{ℕ, zero, suc, ◌*◌, ◌<◌}
use native.Mathlib.Omega.{arith}
use lib.IntN.{ℤ, pos, negsuc, ◌+ℤ◌, ◌-ℤ◌, ◌*ℤ◌, neg_ℤ, *ℤ_comm, zero-*ℤ}
use lib.Signed.{◌≤ℤ◌, ◌<ℤ◌}
use borrow.Author.Differences.{ints}
use Rattle.zring.proofs.Laws.{neg_mul}

pos_le : (n : ℕ) → pos 0 ≤ℤ pos n
pos_le n = omega (arith, ints)

pos_lt : (n : ℕ) → pos 0 <ℤ pos (suc n)
pos_lt n = omega (arith, ints)

-- ---- cases
pub pos_or : (z : ℤ) → (pos 0 <ℤ z) ⊎ (z ≤ℤ pos 0)
pos_or (pos zero) = inr (omega (arith, ints))
pos_or (pos (suc n)) = inl (pos_lt n)
pos_or (negsuc n) = inr (omega (arith, ints))

pub ≥-or : (z : ℤ) → (pos 0 ≤ℤ z) ⊎ (z <ℤ pos 0)
≥-or (pos n) = inl (pos_le n)
≥-or (negsuc n) = inr (omega (arith, ints))

-- zero, or positive
pub sign-≥ : (z : ℤ) → pos 0 ≤ℤ z → (z ≡ pos 0) ⊎ (pos 0 <ℤ z)
sign-≥ (pos zero) h = inl refl
sign-≥ (pos (suc n)) h = inr (pos_lt n)
sign-≥ (negsuc n) h = absurd h.le

pub clash : (z : ℤ) → pos 0 <ℤ z → z ≤ℤ pos 0 → ⊥
clash z p q = omega (arith, ints)

pub clash-< : (z : ℤ) → z <ℤ pos 0 → pos 0 ≤ℤ z → ⊥
clash-< z p q = omega (arith, ints)

pub weaken : (a b : ℤ) → a <ℤ b → a ≤ℤ b
weaken a b h = omega (arith, ints)

pub zero-≥ : (z : ℤ) → z ≡ pos 0 → pos 0 ≤ℤ z
zero-≥ z e = omega (arith, ints)

pub zero-≤ : (z : ℤ) → z ≡ pos 0 → z ≤ℤ pos 0
zero-≤ z e = omega (arith, ints)

pub zero_clash : (z : ℤ) → z ≡ pos 0 → pos 0 <ℤ z → ⊥
zero_clash z e h = omega (arith, ints)

pub one-≥ : (z : ℤ) → z ≡ pos 1 → pos 1 ≤ℤ z
one-≥ z e = omega (arith, ints)

pub both_zero : (z : ℤ) → pos 0 ≤ℤ z → z ≤ℤ pos 0 → z ≡ pos 0
both_zero z h l = omega (arith, ints)

-- ---- negation: x = -y
pub neg-≥ : (x y : ℤ) → x ≡ neg_ℤ y → y ≤ℤ pos 0 → pos 0 ≤ℤ x
neg-≥ x y e h = omega (arith, ints)

pub neg-≤ : (x y : ℤ) → x ≡ neg_ℤ y → pos 0 ≤ℤ y → x ≤ℤ pos 0
neg-≤ x y e h = omega (arith, ints)

pub neg-> : (x y : ℤ) → x ≡ neg_ℤ y → y <ℤ pos 0 → pos 0 <ℤ x
neg-> x y e h = omega (arith, ints)

pub neg-< : (x y : ℤ) → x ≡ neg_ℤ y → pos 0 <ℤ y → x <ℤ pos 0
neg-< x y e h = omega (arith, ints)

pub neg-back-≥ : (x y : ℤ) → x ≡ neg_ℤ y → x ≤ℤ pos 0 → pos 0 ≤ℤ y
neg-back-≥ x y e h = omega (arith, ints)

pub neg_zero : (x y : ℤ) → x ≡ neg_ℤ y → y ≡ pos 0 → x ≡ pos 0
neg_zero x y e h = omega (arith, ints)

-- neither is positive: both are zero
pub neg_both : (x y : ℤ) → x ≡ neg_ℤ y → x ≤ℤ pos 0 → y ≤ℤ pos 0 → x ≡ pos 0
neg_both x y e h l = omega (arith, ints)

pub neg_clash : (x y : ℤ) → x ≡ neg_ℤ y → pos 0 <ℤ x → pos 0 <ℤ y → ⊥
neg_clash x y e h l = omega (arith, ints)

neg_back : (x y : ℤ) → x ≡ neg_ℤ y → y ≡ neg_ℤ x
neg_back x y e = omega (arith, ints)

-- ---- sums: m = s + t
pub sum-≥≥ : (m n : ℤ) → pos 0 ≤ℤ m → pos 0 ≤ℤ n → pos 0 ≤ℤ (m +ℤ n)
sum-≥≥ m n h l = omega (arith, ints)

pub sum->≥ : (m n : ℤ) → pos 0 <ℤ m → pos 0 ≤ℤ n → pos 0 <ℤ (m +ℤ n)
sum->≥ m n h l = omega (arith, ints)

pub sum-≥ : (m s t : ℤ) → m ≡ s +ℤ t → pos 0 ≤ℤ s → pos 0 ≤ℤ t → pos 0 ≤ℤ m
sum-≥ m s t e h l = omega (arith, ints)

pub sum-> : (m s t : ℤ) → m ≡ s +ℤ t → pos 0 ≤ℤ s → pos 0 <ℤ t → pos 0 <ℤ m
sum-> m s t e h l = omega (arith, ints)

pub sum-≤ : (m s t : ℤ) → m ≡ s +ℤ t → s ≤ℤ pos 0 → t ≤ℤ pos 0 → m ≤ℤ pos 0
sum-≤ m s t e h l = omega (arith, ints)

pub sum_clash : (m s t : ℤ) → m ≡ s +ℤ t → pos 0 <ℤ m → s ≡ pos 0 → t ≡ pos 0 → ⊥
sum_clash m s t e h p q = omega (arith, ints)

pub diff-≥ : (m n : ℤ) → n ≤ℤ m → pos 0 ≤ℤ (m -ℤ n)
diff-≥ m n h = omega (arith, ints)

-- ---- products
pub mul-≥≥ : (a b : ℤ) → pos 0 ≤ℤ a → pos 0 ≤ℤ b → pos 0 ≤ℤ (a *ℤ b)
mul-≥≥ (pos a) (pos b) h l = pos_le (a * b)
mul-≥≥ (pos a) (negsuc b) h l = absurd l.le
mul-≥≥ (negsuc a) b h l = absurd h.le

pub mul->> : (a b : ℤ) → pos 0 <ℤ a → pos 0 <ℤ b → pos 0 <ℤ (a *ℤ b)
mul->> (pos zero) b h l = absurd h.lt
mul->> (pos (suc a)) (pos zero) h l = absurd l.lt
mul->> (pos (suc a)) (pos (suc b)) h l = let e : 0 < suc a * suc b = omega arith in omega (arith, ints)
mul->> (pos (suc a)) (negsuc b) h l = absurd l.lt
mul->> (negsuc a) b h l = absurd h.lt

pub mul-≤≥ : (a b : ℤ) → a ≤ℤ pos 0 → pos 0 ≤ℤ b → (a *ℤ b) ≤ℤ pos 0
mul-≤≥ a b h l =
    neg-≤ (a *ℤ b) (neg_ℤ a *ℤ b) (neg_back (neg_ℤ a *ℤ b) (a *ℤ b) (neg_mul a b)) (mul-≥≥ (neg_ℤ a) b (neg-≥ (neg_ℤ a) a refl h) l)

pub mul-≥≤ : (a b : ℤ) → pos 0 ≤ℤ a → b ≤ℤ pos 0 → (a *ℤ b) ≤ℤ pos 0
mul-≥≤ a b h l = subst (λ z. z ≤ℤ pos 0) (*ℤ_comm b a) (mul-≤≥ b a l h)

pub mul-≤≤ : (a b : ℤ) → a ≤ℤ pos 0 → b ≤ℤ pos 0 → pos 0 ≤ℤ (a *ℤ b)
mul-≤≤ a b h l =
    neg-≥ (a *ℤ b) (neg_ℤ a *ℤ b) (neg_back (neg_ℤ a *ℤ b) (a *ℤ b) (neg_mul a b)) (mul-≥≤ (neg_ℤ a) b (neg-≥ (neg_ℤ a) a refl h) l)

pub mul-<> : (a b : ℤ) → a <ℤ pos 0 → pos 0 <ℤ b → (a *ℤ b) <ℤ pos 0
mul-<> a b h l =
    neg-< (a *ℤ b) (neg_ℤ a *ℤ b) (neg_back (neg_ℤ a *ℤ b) (a *ℤ b) (neg_mul a b)) (mul->> (neg_ℤ a) b (neg-> (neg_ℤ a) a refl h) l)

pub mul->< : (a b : ℤ) → pos 0 <ℤ a → b <ℤ pos 0 → (a *ℤ b) <ℤ pos 0
mul->< a b h l = subst (λ z. z <ℤ pos 0) (*ℤ_comm b a) (mul-<> b a l h)

pub mul-<< : (a b : ℤ) → a <ℤ pos 0 → b <ℤ pos 0 → pos 0 <ℤ (a *ℤ b)
mul-<< a b h l =
    neg-> (a *ℤ b) (neg_ℤ a *ℤ b) (neg_back (neg_ℤ a *ℤ b) (a *ℤ b) (neg_mul a b)) (mul->< (neg_ℤ a) b (neg-> (neg_ℤ a) a refl h) l)

pub sq-≥ : (a : ℤ) → pos 0 ≤ℤ (a *ℤ a)
sq-≥ (pos a) = pos_le (a * a)
sq-≥ (negsuc a) = pos_le (suc a * suc a)

-- ---- cancelling a positive factor
pub cancel-≥ : (a b : ℤ) → pos 0 <ℤ a → pos 0 ≤ℤ (a *ℤ b) → pos 0 ≤ℤ b
cancel-≥ a b h l =
    elim (≥-or b) [
      | inl p ↦ p
      | inr p ↦ absurd (clash-< (a *ℤ b) (mul->< a b h p) l)
    ]

pub cancel-≤ : (a b : ℤ) → pos 0 <ℤ a → (a *ℤ b) ≤ℤ pos 0 → b ≤ℤ pos 0
cancel-≤ a b h l =
    elim (pos_or b) [
      | inl p ↦ absurd (clash (a *ℤ b) (mul->> a b h p) l)
      | inr p ↦ p
    ]

pub cancel-> : (a b : ℤ) → pos 0 <ℤ a → pos 0 <ℤ (a *ℤ b) → pos 0 <ℤ b
cancel-> a b h l =
    elim (pos_or b) [
      | inl p ↦ p
      | inr p ↦ absurd (clash (a *ℤ b) l (mul-≥≤ a b (weaken (pos 0) a h) p))
    ]

-- a factor that is not negative is positive where the product is
pub factor-> : (a b : ℤ) → pos 0 ≤ℤ a → pos 0 <ℤ (a *ℤ b) → pos 0 <ℤ a
factor-> a b h p =
    elim (sign-≥ a h) [
      | inl e ↦ absurd (clash (a *ℤ b) p (zero-≤ (a *ℤ b) (ap (λ z. z *ℤ b) e ∙ zero-*ℤ b)))
      | inr q ↦ q
    ]

-- ---- three terms: a v = b w + c u
pub three-≥ : (a v b w c u : ℤ) → a *ℤ v ≡ b *ℤ w +ℤ c *ℤ u → pos 0 <ℤ v → pos 0 ≤ℤ b → pos 0 ≤ℤ w → pos 0 ≤ℤ c → pos 0 ≤ℤ u → pos 0 ≤ℤ a
three-≥ a v b w c u e hv hb hw hc hu =
    cancel-≥ v a hv (sum-≥ (v *ℤ a) (b *ℤ w) (c *ℤ u) (*ℤ_comm v a ∙ e) (mul-≥≥ b w hb hw) (mul-≥≥ c u hc hu))

-- a = 0: then b = 0, where w is positive
pub three_zero : (a v b w c u : ℤ) → a *ℤ v ≡ b *ℤ w +ℤ c *ℤ u → a ≡ pos 0 → pos 0 <ℤ w → pos 0 ≤ℤ b → pos 0 ≤ℤ c → pos 0 ≤ℤ u → b ≡ pos 0
three_zero a v b w c u e ha hw hb hc hu =
    let e' : pos 0 ≡ b *ℤ w +ℤ c *ℤ u = sym (ap (λ z. z *ℤ v) ha ∙ zero-*ℤ v) ∙ e in
    let m = part (b *ℤ w) (c *ℤ u) e' (mul-≥≥ c u hc hu) in
    both_zero b hb (cancel-≤ w b hw (subst (λ z. z ≤ℤ pos 0) (*ℤ_comm b w) m))
  where
    part : (s t : ℤ) → pos 0 ≡ s +ℤ t → pos 0 ≤ℤ t → s ≤ℤ pos 0
    part s t e l = omega (arith, ints)
