use Rattle.std.proofs.Common.{◌≡◌, ℕ, zero, suc, ◌+◌, ◌*◌, ◌<◌, ◌≤◌, ℤ, pos, ◌+ℤ◌, nat_abs, ◌≤ℤ◌, ◌<ℤ◌, sym, refl, ◌∙◌, subst, ap₂, arith}
use native.Mathlib.Decide.{ℕ_discrete}
use borrow.Author.Differences.{ints}
use Rattle.zring.proofs.Signs.{sum-≥≥}
use Rattle.plane.specs.Plane.{Pt, C}
use Rattle.plane.proofs.Circles.{volume}
use Rattle.delaunay.specs.Measure.{total, Changed}

same : (f g : ℕ → ℤ) (n : ℕ) → ((m : ℕ) → m < n → g m ≡ f m) → total g n ≡ total f n
same f g zero h = refl
same f g (suc n) h = ap₂ ◌+ℤ◌ (same f g n (λ m l. h m (omega arith))) (h n (omega arith))

one : (f g : ℕ → ℤ) (i n : ℕ) → i < n → ((m : ℕ) → m < n → (m ≡ i → ⊥) → g m ≡ f m) → total g n +ℤ f i ≡ total f n +ℤ g i
one f g i zero l h = absurd (none l)
  where
    none : i < 0 → ⊥
    none l = omega arith
one f g i (suc n) l h =
    let rec = one f g i n in
    elim (ℕ_discrete i n) [
      | yes e ↦
          let q = same f g n (λ m k. h m (omega arith) (λ x. omega arith)) in
          subst (λ j. total g n +ℤ g n +ℤ f j ≡ total f n +ℤ f n +ℤ g j) (sym e) (swap (total g n) (total f n) (g n) (f n) q)
      | no e ↦ join (total g n) (total f n) (g n) (f n) (f i) (g i) (h n (omega arith) (λ x. e (sym x))) (rec (omega arith) (λ m k x. h m (omega arith) x))
    ]
  where
    swap : (s t x y : ℤ) → s ≡ t → s +ℤ x +ℤ y ≡ t +ℤ y +ℤ x
    swap s t x y e = omega (arith, ints)

    join : (s t x y a b : ℤ) → x ≡ y → s +ℤ a ≡ t +ℤ b → s +ℤ x +ℤ a ≡ t +ℤ y +ℤ b
    join s t x y a b e f = omega (arith, ints)

pub two : (f g : ℕ → ℤ) (i j n : ℕ) → Changed f g i j n → total g n +ℤ (f i +ℤ f j) ≡ total f n +ℤ (g i +ℤ g j)
two f g i j n c = go n c.first c.second c.other
  where
    join : (s t x y a b d e : ℤ) → x ≡ y → s +ℤ (a +ℤ b) ≡ t +ℤ (d +ℤ e) → s +ℤ x +ℤ (a +ℤ b) ≡ t +ℤ y +ℤ (d +ℤ e)
    join s t x y a b d e p q = omega (arith, ints)

    last : (s t x y a b : ℤ) → s +ℤ a ≡ t +ℤ b → s +ℤ x +ℤ (a +ℤ y) ≡ t +ℤ y +ℤ (b +ℤ x)
    last s t x y a b p = omega (arith, ints)

    last' : (s t x y a b : ℤ) → s +ℤ a ≡ t +ℤ b → s +ℤ x +ℤ (y +ℤ a) ≡ t +ℤ y +ℤ (x +ℤ b)
    last' s t x y a b p = omega (arith, ints)

    go : (n : ℕ) → i < n → j < n → ((m : ℕ) → m < n → (m ≡ i → ⊥) → (m ≡ j → ⊥) → g m ≡ f m) → total g n +ℤ (f i +ℤ f j) ≡ total f n +ℤ (g i +ℤ g j)
    go zero hi hj h = absurd (none hi)
      where
        none : i < 0 → ⊥
        none l = omega arith
    go (suc n) hi hj h =
        let rec = go n in
        let ap' = c.apart in
        elim (ℕ_discrete j n) [
          | yes e ↦
              let ni : i ≡ n → ⊥ = λ x. ap' (x ∙ sym e) in
              subst (λ l. total g n +ℤ g n +ℤ (f i +ℤ f l) ≡ total f n +ℤ f n +ℤ (g i +ℤ g l)) (sym e)
              (last (total g n) (total f n) (g n) (f n) (f i) (g i) (one f g i n (omega arith) (λ m l x. h m (omega arith) x (λ y. omega arith))))
          | no e ↦ elim (ℕ_discrete i n) [
            | yes d ↦
                subst (λ l. total g n +ℤ g n +ℤ (f l +ℤ f j) ≡ total f n +ℤ f n +ℤ (g l +ℤ g j)) (sym d)
                (last' (total g n) (total f n) (g n) (f n) (f j) (g j) (one f g j n (omega arith) (λ m l x. h m (omega arith) (λ y. omega arith) x)))
            | no d ↦ join (total g n) (total f n) (g n) (f n) (f i) (f j) (g i) (g j) (h n (omega arith) (λ x. d (sym x)) (λ x. e (sym x)))
                (rec (omega arith) (omega arith) (λ m l x y. h m (omega arith) x y))
          ]
        ]

-- a flip lowers the measure by exactly C a b c d
pub flip_falls : (a b c d o : Pt) (f g : ℕ → ℤ) (i j n : ℕ) → Changed f g i j n → f i +ℤ f j ≡ C a b c o +ℤ C b a d o → g i +ℤ g j ≡ C c d b o +ℤ C d c a o
    → total f n ≡ total g n +ℤ C a b c d
flip_falls a b c d o f g i j n ch ef eg =
    go (total f n) (total g n) (f i +ℤ f j) (g i +ℤ g j) (C a b c o +ℤ C b a d o) (C c d b o +ℤ C d c a o) (C a b c d) (two f g i j n ch) ef eg (volume a b c d o)
  where
    go : (t s x y u v z : ℤ) → s +ℤ x ≡ t +ℤ y → x ≡ u → y ≡ v → u ≡ v +ℤ z → t ≡ s +ℤ z
    go t s x y u v z e p q r = omega (arith, ints)

pub total-≥ : (f : ℕ → ℤ) (n : ℕ) → ((m : ℕ) → m < n → pos 0 ≤ℤ f m) → pos 0 ≤ℤ total f n
total-≥ f zero h = omega (arith, ints)
total-≥ f (suc n) h =
    sum-≥≥ (total f n) (f n) (total-≥ f n (λ m l. h m (omega arith))) (h n (omega arith))

-- as a natural number, with the length of the list: a flip pops one edge and pushes at most four
pub falls : (t s z : ℤ) (now then : ℕ) → t ≡ s +ℤ z → pos 0 ≤ℤ s → pos 0 <ℤ z → then ≤ now + 3 → 4 * nat_abs s + then < 4 * nat_abs t + now
falls t s z now then e h l q = omega (arith, ints)
