-- Across a legal edge toward a place: its circle still holds the place, and the wedge in which the place sees the edge grows.
use Rattle.std.proofs.Common.{◌≡◌, ℕ, zero, suc, ◌<◌, ◌≤◌, Bool, true, false, cond, ◌&&◌, T, ℤ, pos, ◌+ℤ◌, ◌-ℤ◌, ◌*ℤ◌, ◌≤ℤ◌, ◌<ℤ◌, sym, refl, ◌∙◌, subst, inl, inr, not-suc-le-zero, arith}
use native.Mathlib.Decide.{ℕ_discrete}
use lib.IntN.{*ℤ_comm}
use lib.Signed.{le_z}
use borrow.Author.Differences.{ints}
use Rattle.zring.proofs.Signs.{pos_or, ≥-or, clash, weaken, neg-≥, neg-≤, neg->, neg-<, mul-≥≥, mul-><, mul-≤≤, mul-≤≥, three-≥}
use Rattle.plane.specs.Plane.{Pt, S, C, far}
use Rattle.plane.proofs.Sides.{S-cyc, S-swap}
use Rattle.plane.proofs.Circles.{C-swap, C-end, pencil}
use Rattle.plane.proofs.Terms.{height}
use Rattle.plane.proofs.Signs.{far-≥}
use Rattle.planar.proofs.Turning.{plu}

-- ---- how many numbers below k have f
pub tally : (ℕ → Bool) → ℕ → ℕ
tally f zero = 0
tally f (suc k) = cond (f k) (suc (tally f k)) (tally f k)

pub tally_few : (f : ℕ → Bool) (k : ℕ) → tally f k ≤ k
unfolding tally
tally_few f zero = omega arith
tally_few f (suc k) = go (f k) (tally_few f k)
  where
    go : (b : Bool) → tally f k ≤ k → cond b (suc (tally f k)) (tally f k) ≤ suc k
    go true h = omega arith
    go false h = omega arith

both_cond : (b c : Bool) (x y : ℕ) → x ≤ y → (T b → T c) → cond b (suc x) x ≤ cond c (suc y) y
both_cond true true x y h i = omega arith
both_cond true false x y h i = absurd (i tt)
both_cond false true x y h i = omega arith
both_cond false false x y h i = omega arith

tally_all : (f g : ℕ → Bool) (k : ℕ) → ((i : ℕ) → i < k → T (f i) → T (g i)) → tally f k ≤ tally g k
unfolding tally
tally_all f g zero h = omega arith
tally_all f g (suc k) h = both_cond (f k) (g k) (tally f k) (tally g k) (tally_all f g k (λ i l. h i (omega arith))) (h k (omega arith))

-- where g has all that f has, and one more
pub tally_more : (f g : ℕ → Bool) (k j : ℕ) → ((i : ℕ) → i < k → T (f i) → T (g i)) → j < k → (T (f j) → ⊥) → T (g j) → tally f k < tally g k
unfolding tally
tally_more f g zero j h l out on = absurd (not-suc-le-zero l)
tally_more f g (suc k) j h l out on = go (ℕ_discrete j k) (tally_more f g k j)
  where
    here : (b c : Bool) (x y : ℕ) → x ≤ y → (T b → ⊥) → T c → cond b (suc x) x < cond c (suc y) y
    here true c x y e n q = absurd (n tt)
    here false true x y e n q = omega arith
    here false false x y e n q = absurd q

    later : (b c : Bool) (x y : ℕ) → x < y → (T b → T c) → cond b (suc x) x < cond c (suc y) y
    later true true x y e i = omega arith
    later true false x y e i = absurd (i tt)
    later false true x y e i = omega arith
    later false false x y e i = omega arith

    go : Dec (j ≡ k) → (((i : ℕ) → i < k → T (f i) → T (g i)) → j < k → (T (f j) → ⊥) → T (g j) → tally f k < tally g k)
        → cond (f k) (suc (tally f k)) (tally f k) < cond (g k) (suc (tally g k)) (tally g k)
    go (yes e) before =
        here (f k) (g k) (tally f k) (tally g k) (tally_all f g k (λ i b. h i (omega arith))) (subst (λ z. T (f z) → ⊥) e out) (subst (λ z. T (g z)) e on)
    go (no d) before = later (f k) (g k) (tally f k) (tally g k) (before (λ i b. h i (omega arith)) (omega arith) out on) (h k (omega arith))

-- ---- one step
-- d is the far corner across a b, and o is across a b: where the circle of a, b, c holds o, so does that of b, a, d
pub still_inside : (a b c d o : Pt) → pos 0 <ℤ S a b c → pos 0 <ℤ S b a d → C a b c d ≤ℤ pos 0 → S a b o ≤ℤ pos 0 → pos 0 <ℤ C a b c o → pos 0 <ℤ C b a d o
still_inside a b c d o hc hd legal ho h =
    neg-> (C b a d o) (C a b d o) (C-swap b a d o)
    (below (C a b c o *ℤ S a b d) (C a b d o *ℤ S a b c) (C a b c d *ℤ S a b o) (S a b c) (C a b d o) hc refl (pencil a b c d o)
    (mul->< (C a b c o) (S a b d) h (neg-< (S a b d) (S b a d) (S-swap a b d) hd)) (mul-≤≤ (C a b c d) (S a b o) legal ho))
  where
    below : (x y z s q : ℤ) → pos 0 <ℤ s → y ≡ q *ℤ s → x -ℤ y ≡ z → x <ℤ pos 0 → pos 0 ≤ℤ z → q <ℤ pos 0
    below x y z s q hs e f hx hz =
        elim (≥-or q) [
          | inr l ↦ l
          | inl l ↦ absurd (no x y z f hx hz (subst (λ w. pos 0 ≤ℤ w) (sym e) (mul-≥≥ q s l (weaken (pos 0) s hs))))
        ]
      where
        no : (x y z : ℤ) → x -ℤ y ≡ z → x <ℤ pos 0 → pos 0 ≤ℤ z → pos 0 ≤ℤ y → ⊥
        no x y z f hx hz hy = omega (arith, ints)

-- what is not left of a d, and not left of d b, is not inside the circle of b, a, d
corner_out : (a b d o : Pt) → pos 0 <ℤ S b a d → S a d o ≤ℤ pos 0 → S d b o ≤ℤ pos 0 → C b a d o ≤ℤ pos 0
corner_out a b d o hd ha hb =
    neg-≤ (C b a d o) (C b a o d) (C-end b a d o)
    (subst (λ z. pos 0 ≤ℤ z) (sym (height d b a o))
    (least (S d a o *ℤ far d b) (S d b a *ℤ far d o) (S d b o *ℤ far d a)
    (mul-≥≥ (S d a o) (far d b) (neg-≥ (S d a o) (S a d o) (S-swap d a o) ha) (far-≥ d b))
    (mul-≥≥ (S d b a) (far d o) (weaken (pos 0) (S d b a) (subst (λ z. pos 0 <ℤ z) (sym (S-cyc d b a)) hd)) (far-≥ d o))
    (mul-≤≥ (S d b o) (far d a) hb (far-≥ d a))))
  where
    least : (x y z : ℤ) → pos 0 ≤ℤ x → pos 0 ≤ℤ y → z ≤ℤ pos 0 → pos 0 ≤ℤ ((x +ℤ y) -ℤ z)
    least x y z h l r = omega (arith, ints)

pub left_of_db : (a b d o : Pt) → pos 0 <ℤ S b a d → pos 0 <ℤ C b a d o → S a d o ≤ℤ pos 0 → pos 0 <ℤ S d b o
left_of_db a b d o hd h l = elim (pos_or (S d b o)) [ inl p ↦ p | inr p ↦ absurd (clash (C b a d o) h (corner_out a b d o hd l p)) ]

pub left_of_ad : (a b d o : Pt) → pos 0 <ℤ S b a d → pos 0 <ℤ C b a d o → S d b o ≤ℤ pos 0 → pos 0 <ℤ S a d o
left_of_ad a b d o hd h l = elim (pos_or (S a d o)) [ inl p ↦ p | inr p ↦ absurd (clash (C b a d o) h (corner_out a b d o hd p l)) ]

-- ---- the wedge in which o sees a and b, from b counterclockwise to a
pub wedge : Pt → Pt → Pt → Pt → Bool
wedge o a b v = le_z (pos 0) (S o b v) && le_z (pos 0) (S o v a)

pub wedge_in : (o a b v : Pt) → pos 0 ≤ℤ S o b v → pos 0 ≤ℤ S o v a → T (wedge o a b v)
unfolding wedge
wedge_in o a b v h l = join (le_z (pos 0) (S o b v)) (le_z (pos 0) (S o v a)) h.le l.le
  where
    join : (p q : Bool) → T p → T q → T (p && q)
    join true true h l = tt
    join true false h l = absurd l
    join false q h l = absurd h

pub wedge_out : (o a b v : Pt) → T (wedge o a b v) → (pos 0 ≤ℤ S o b v) × (pos 0 ≤ℤ S o v a)
unfolding wedge
wedge_out o a b v t = let s = part (le_z (pos 0) (S o b v)) (le_z (pos 0) (S o v a)) t in (record { le = s.0 }, record { le = s.1 })
  where
    part : (p q : Bool) → T (p && q) → T p × T q
    part true true t = (tt, tt)
    part true false t = absurd t
    part false q t = absurd t

-- over the side a d
pub wider_ad : (o a b d v : Pt) → pos 0 <ℤ S o b a → pos 0 <ℤ S o d b → pos 0 ≤ℤ S o d a → T (wedge o a b v) → T (wedge o a d v)
wider_ad o a b d v hba hdb hda t =
    let w = wedge_out o a b v t in
    wedge_in o a d v
    (three-≥ (S o d v) (S o b a) (S o d b) (S o v a) (S o d a) (S o b v) (sym (plu o d b v a)) hba (weaken (pos 0) (S o d b) hdb) w.1 hda w.0)
    w.1

-- over the side d b
pub wider_db : (o a b d v : Pt) → pos 0 <ℤ S o b a → pos 0 <ℤ S o a d → pos 0 ≤ℤ S o b d → T (wedge o a b v) → T (wedge o d b v)
wider_db o a b d v hba had hbd t =
    let w = wedge_out o a b v t in
    wedge_in o d b v w.0
    (three-≥ (S o v d) (S o b a) (S o b v) (S o a d) (S o b d) (S o v a) (*ℤ_comm (S o v d) (S o b a) ∙ sym (plu o b v a d)) hba w.0 (weaken (pos 0) (S o a d) had) hbd w.1)
