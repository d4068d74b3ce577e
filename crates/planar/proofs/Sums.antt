-- Finite sums of integers.
use mathlib.Core.Path.{◌≡◌, refl, sym, ◌∙◌, ap, ap₂, subst}
use mathlib.Core.Bool.{Bool, true, false}
use mathlib.Core.Logic.{◌⊎◌, inl, inr}
use Prim.Native.Nat.{ℕ, zero, suc, ◌≤◌, ◌<◌}
use native.Mathlib.Omega.{arith}
use native.Mathlib.Nat.{le_of_suc-le-suc, not-suc-le-zero, eq-or-lt_of_le}
use native.Mathlib.Decide.{ℕ_discrete}
use lib.Dec.{T, eqb, eqb→eq, eqb_refl}
use lib.IntN.{ℤ, pos, ◌+ℤ◌, +ℤ_idl, +ℤ_idr}
use lib.Signed.{◌≤ℤ◌}
use borrow.Author.Differences.{ints}
use Rattle.zring.proofs.Laws.{swap4}
use Rattle.links.proofs.Decide.{is_true}

-- g 0 + .. + g (k - 1)
unfoldable pub sum : ℕ → (ℕ → ℤ) → ℤ
sum zero g = pos 0
sum (suc k) g = sum k g +ℤ g k

below : {i k : ℕ} → i < k → i < suc k
below h = omega arith

at_last : (k : ℕ) → k < suc k
at_last k = omega arith

pub sum_same : (k : ℕ) (g h : ℕ → ℤ) → ((i : ℕ) → i < k → g i ≡ h i) → sum k g ≡ sum k h
unfolding sum
sum_same zero g h p = refl
sum_same (suc k) g h p = ap₂ ◌+ℤ◌ (sum_same k g h (λ i l. p i (below l))) (p k (at_last k))

le_add : (a b c d : ℤ) → a ≤ℤ b → c ≤ℤ d → (a +ℤ c) ≤ℤ (b +ℤ d)
le_add a b c d p q = omega (arith, ints)

pub sum_le : (k : ℕ) (g h : ℕ → ℤ) → ((i : ℕ) → i < k → g i ≤ℤ h i) → sum k g ≤ℤ sum k h
unfolding sum
sum_le zero g h p = omega (arith, ints)
sum_le (suc k) g h p = le_add (sum k g) (sum k h) (g k) (h k) (sum_le k g h (λ i l. p i (below l))) (p k (at_last k))

pub sum_zero : (k : ℕ) (g : ℕ → ℤ) → ((i : ℕ) → i < k → g i ≡ pos 0) → sum k g ≡ pos 0
unfolding sum
sum_zero zero g p = refl
sum_zero (suc k) g p = ap₂ ◌+ℤ◌ (sum_zero k g (λ i l. p i (below l))) (p k (at_last k))

pub sum_add : (k : ℕ) (g h : ℕ → ℤ) → sum k (λ i. g i +ℤ h i) ≡ sum k g +ℤ sum k h
unfolding sum
sum_add zero g h = refl
sum_add (suc k) g h = ap (λ z. z +ℤ (g k +ℤ h k)) (sum_add k g h) ∙ swap4 (sum k g) (sum k h) (g k) (h k)

pub sum_swap : (k l : ℕ) (g : ℕ → ℕ → ℤ) → sum k (λ i. sum l (λ j. g i j)) ≡ sum l (λ j. sum k (λ i. g i j))
unfolding sum
sum_swap zero l g = sym (sum_zero l (λ j. pos 0) (λ j h. refl))
sum_swap (suc k) l g = ap (λ z. z +ℤ sum l (λ j. g k j)) (sum_swap k l g) ∙ sym (sum_add l (λ j. sum k (λ i. g i j)) (λ j. g k j))

-- z or nothing
abbrev pub when : Bool → ℤ → ℤ
when true z = z
when false z = pos 0

pub is_false : (b : Bool) → (T b → ⊥) → b ≡ false
is_false true n = absurd (n tt)
is_false false n = refl

pub when_same : (i j : ℕ) (z : ℤ) → i ≡ j → when (eqb i j) z ≡ z
when_same i j z e = ap (λ b. when b z) (is_true (eqb i j) (subst (λ k. T (eqb i k)) e (eqb_refl i)))

pub when_other : (i j : ℕ) (z : ℤ) → ¬ (i ≡ j) → when (eqb i j) z ≡ pos 0
when_other i j z n = ap (λ b. when b z) (is_false (eqb i j) (λ t. n (eqb→eq i j t)))

pick_none : (k j : ℕ) (g : ℕ → ℤ) → k ≤ j → sum k (λ i. when (eqb j i) (g i)) ≡ pos 0
pick_none k j g h = sum_zero k (λ i. when (eqb j i) (g i)) (λ i l. when_other j i (g i) (omega arith))

-- of a sum with one term alone
pub sum_pick : (k j : ℕ) (g : ℕ → ℤ) → j < k → sum k (λ i. when (eqb j i) (g i)) ≡ g j
unfolding sum
sum_pick zero j g h = absurd (not-suc-le-zero h)
sum_pick (suc k) j g h =
    let before : j < k → sum k (λ i. when (eqb j i) (g i)) ≡ g j = sum_pick k j g in
    elim (eq-or-lt_of_le (le_of_suc-le-suc h)) [
      | inl e ↦ ap₂ ◌+ℤ◌ (pick_none k j g (omega arith)) (when_same j k (g k) e) ∙ +ℤ_idl (g k) ∙ ap g (sym e)
      | inr l ↦ ap₂ ◌+ℤ◌ (before l) (when_other j k (g k) (omega arith)) ∙ +ℤ_idr (g j)
    ]

-- a sum by the values of another function, as by the faces of halves
pub sum_by : (k l : ℕ) (c : ℕ → ℕ) (g : ℕ → ℤ) → ((i : ℕ) → i < k → c i < l) → sum k g ≡ sum l (λ j. sum k (λ i. when (eqb (c i) j) (g i)))
sum_by k l c g h =
    sum_same k g (λ i. sum l (λ j. when (eqb (c i) j) (g i))) (λ i p. sym (sum_pick l (c i) (λ _. g i) (h i p)))
    ∙ sum_swap k l (λ i j. when (eqb (c i) j) (g i))

-- the indices with one value are a, b and d
pub sum_three : (k : ℕ) (c : ℕ → ℕ) (g : ℕ → ℤ) (j a b d : ℕ) → a < k → b < k → d < k → ¬ (a ≡ b) → ¬ (b ≡ d) → ¬ (d ≡ a)
    → c a ≡ j → c b ≡ j → c d ≡ j → ((i : ℕ) → i < k → c i ≡ j → (a ≡ i) ⊎ ((b ≡ i) ⊎ (d ≡ i)))
    → sum k (λ i. when (eqb (c i) j) (g i)) ≡ g a +ℤ g b +ℤ g d
sum_three k c g j a b d ha hb hd ab bd da ca cb cd all =
    sum_same k (λ i. when (eqb (c i) j) (g i)) (λ i. (A i +ℤ B i) +ℤ D i) each
    ∙ sum_add k (λ i. A i +ℤ B i) D ∙ ap (λ z. z +ℤ sum k D) (sum_add k A B)
    ∙ ap₂ ◌+ℤ◌ (ap₂ ◌+ℤ◌ (sum_pick k a g ha) (sum_pick k b g hb)) (sum_pick k d g hd)
  where
    A : ℕ → ℤ
    A i = when (eqb a i) (g i)

    B : ℕ → ℤ
    B i = when (eqb b i) (g i)

    D : ℕ → ℤ
    D i = when (eqb d i) (g i)

    one : (p q r z : ℤ) → p ≡ z → q ≡ pos 0 → r ≡ pos 0 → z ≡ (p +ℤ q) +ℤ r
    one p q r z e f g = omega (arith, ints)

    two : (p q r z : ℤ) → p ≡ pos 0 → q ≡ z → r ≡ pos 0 → z ≡ (p +ℤ q) +ℤ r
    two p q r z e f g = omega (arith, ints)

    three : (p q r z : ℤ) → p ≡ pos 0 → q ≡ pos 0 → r ≡ z → z ≡ (p +ℤ q) +ℤ r
    three p q r z e f g = omega (arith, ints)

    nought : (p q r : ℤ) → p ≡ pos 0 → q ≡ pos 0 → r ≡ pos 0 → pos 0 ≡ (p +ℤ q) +ℤ r
    nought p q r e f g = omega (arith, ints)

    each : (i : ℕ) → i < k → when (eqb (c i) j) (g i) ≡ (A i +ℤ B i) +ℤ D i
    each i hi = go (ℕ_discrete (c i) j)
      where
        found : c i ≡ j → (a ≡ i) ⊎ ((b ≡ i) ⊎ (d ≡ i)) → when (eqb (c i) j) (g i) ≡ (A i +ℤ B i) +ℤ D i
        found e (inl p) = when_same (c i) j (g i) e ∙ one (A i) (B i) (D i) (g i) (when_same a i (g i) p) (when_other b i (g i) (λ q. ab (p ∙ sym q))) (when_other d i (g i) (λ q. da (q ∙ sym p)))
        found e (inr (inl p)) = when_same (c i) j (g i) e ∙ two (A i) (B i) (D i) (g i) (when_other a i (g i) (λ q. ab (q ∙ sym p))) (when_same b i (g i) p) (when_other d i (g i) (λ q. bd (p ∙ sym q)))
        found e (inr (inr p)) = when_same (c i) j (g i) e ∙ three (A i) (B i) (D i) (g i) (when_other a i (g i) (λ q. da (p ∙ sym q))) (when_other b i (g i) (λ q. bd (q ∙ sym p))) (when_same d i (g i) p)

        go : Dec (c i ≡ j) → when (eqb (c i) j) (g i) ≡ (A i +ℤ B i) +ℤ D i
        go (yes e) = found e (all i hi e)
        go (no n) = when_other (c i) j (g i) n ∙ nought (A i) (B i) (D i) (when_other a i (g i) (λ q. n (ap c (sym q) ∙ ca))) (when_other b i (g i) (λ q. n (ap c (sym q) ∙ cb))) (when_other d i (g i) (λ q. n (ap c (sym q) ∙ cd)))

-- terms 0 and 1, of which at most one is 1
pub sum_most_one : (k : ℕ) (g : ℕ → ℤ) → ((i : ℕ) → i < k → (g i ≡ pos 0) ⊎ (g i ≡ pos 1)) → ((i j : ℕ) → i < k → j < k → g i ≡ pos 1 → g j ≡ pos 1 → i ≡ j) → sum k g ≤ℤ pos 1
unfolding sum
sum_most_one zero g bit same = omega (arith, ints)
sum_most_one (suc k) g bit same = go (bit k (at_last k)) (sum_most_one k g (λ i l. bit i (below l)) (λ i j l r. same i j (below l) (below r)))
  where
    add_0 : (s z : ℤ) → s ≤ℤ pos 1 → z ≡ pos 0 → (s +ℤ z) ≤ℤ pos 1
    add_0 s z h e = omega (arith, ints)

    add_1 : (s z : ℤ) → s ≡ pos 0 → z ≡ pos 1 → (s +ℤ z) ≤ℤ pos 1
    add_1 s z h e = omega (arith, ints)

    lone : g k ≡ pos 1 → (i : ℕ) → i < k → (g i ≡ pos 0) ⊎ (g i ≡ pos 1) → g i ≡ pos 0
    lone e i l (inl z) = z
    lone e i l (inr o) = let q = same i k (below l) (at_last k) o e in absurd (omega arith)

    go : (g k ≡ pos 0) ⊎ (g k ≡ pos 1) → sum k g ≤ℤ pos 1 → (sum k g +ℤ g k) ≤ℤ pos 1
    go (inl e) h = add_0 (sum k g) (g k) h e
    go (inr e) h = add_1 (sum k g) (g k) (sum_zero k g (λ i l. lone e i l (bit i (below l)))) e
