-- A bound of a polynomial over the box 0 .. n, by its values at the corners. Sharp where no variable stands twice in a product.
use mathlib.Core.Path.{◌∙◌, ap, subst, subst⁻¹}
use mathlib.Core.List.{List, [], ◌∷◌}
use Prim.Native.Nat.{ℕ, zero, suc, ◌≤◌, ◌<◌}
use native.Mathlib.Omega.{arith}
use lib.Dec.{T, leb→le}
use lib.IntN.{ℤ, pos, ◌+ℤ◌, ◌-ℤ◌, ◌*ℤ◌, nat_abs}
use lib.Signed.{◌≤ℤ◌, ◌<ℤ◌}
use borrow.Author.Differences.{ints}
use Rattle.zring.proofs.Ring.{E, v, ◌⊹◌, ◌⊖◌, ◌⊛◌, P, con, nod, nth, den, ev, plus, scale, norm, ring, norm_sound, ev_plus, ev_scale}
use Rattle.zring.proofs.Machine.{AllLe, both_out}
use Rattle.zring.proofs.Signs.{three-≥}
pub use Rattle.zring.specs.Corners.{corner, naturals}

-- each variable is from 0 to n
pub Box : ℕ → List ℤ → Type 0
Box n ρ = (i : ℕ) → (pos 0 ≤ℤ nth ρ i) × (nth ρ i ≤ℤ pos n)

over : (m : ℕ) (z : ℤ) → nat_abs z ≤ m → pos 0 ≤ℤ (pos m -ℤ z)
over m z h = omega (arith, ints)

under : (m : ℕ) (z : ℤ) → nat_abs z ≤ m → pos 0 ≤ℤ (pos m +ℤ z)
under m z h = omega (arith, ints)

within : (m : ℕ) (z : ℤ) → pos 0 ≤ℤ (pos m -ℤ z) → pos 0 ≤ℤ (pos m +ℤ z) → nat_abs z ≤ m
within m z h l = omega (arith, ints)

-- between its ends a line is no higher than they are
between : (n m : ℕ) (x a b : ℤ) → 0 < n → pos 0 ≤ℤ x → x ≤ℤ pos n → nat_abs b ≤ m → nat_abs (pos n *ℤ a +ℤ b) ≤ m → nat_abs (x *ℤ a +ℤ b) ≤ m
between n m x a b hn h0 h1 hb hc =
    let pn : pos 0 <ℤ pos n = omega (arith, ints) in
    let rest : pos 0 ≤ℤ (pos n -ℤ x) = omega (arith, ints) in
    let ρ = pos m ∷ pos n ∷ x ∷ a ∷ b ∷ [] in
    let X = v 2 ⊛ v 3 ⊹ v 4 in
    let N = v 1 ⊛ v 3 ⊹ v 4 in
    within m (x *ℤ a +ℤ b)
    (three-≥ (pos m -ℤ (x *ℤ a +ℤ b)) (pos n) (pos m -ℤ (pos n *ℤ a +ℤ b)) x (pos m -ℤ b) (pos n -ℤ x)
    (ring ((v 0 ⊖ X) ⊛ v 1) ((v 0 ⊖ N) ⊛ v 2 ⊹ (v 0 ⊖ v 4) ⊛ (v 1 ⊖ v 2)) ρ tt) pn (over m (pos n *ℤ a +ℤ b) hc) h0 (over m b hb) rest)
    (three-≥ (pos m +ℤ (x *ℤ a +ℤ b)) (pos n) (pos m +ℤ (pos n *ℤ a +ℤ b)) x (pos m +ℤ b) (pos n -ℤ x)
    (ring ((v 0 ⊹ X) ⊛ v 1) ((v 0 ⊹ N) ⊛ v 2 ⊹ (v 0 ⊹ v 4) ⊛ (v 1 ⊖ v 2)) ρ tt) pn (under m (pos n *ℤ a +ℤ b) hc) h0 (under m b hb) rest)

corner_ok : (n m d : ℕ) (p : P) (ρ : List ℤ) → 0 < n → Box n ρ → T (corner n m d p) → nat_abs (ev p ρ) ≤ m
unfolding Box
corner_ok n m zero (con c) ρ hn b t = leb→le (nat_abs c) m t
corner_ok n m zero (nod i p q) ρ hn b t = absurd t
corner_ok n m (suc d) (con c) ρ hn b t = leb→le (nat_abs c) m t
corner_ok n m (suc d) (nod i p q) ρ hn b t =
    let s = both_out (corner n m d q) (corner n m d (plus (scale (pos n) p) q)) t in
    let e = ev_plus (scale (pos n) p) q ρ ∙ ap (λ z. z +ℤ ev q ρ) (ev_scale (pos n) p ρ) in
    between n m (nth ρ i) (ev p ρ) (ev q ρ) hn (b i).0 (b i).1 (corner_ok n m d q ρ hn b s.0)
    (subst (λ z. nat_abs z ≤ m) e (corner_ok n m d (plus (scale (pos n) p) q) ρ hn b s.1))

box : (n : ℕ) (ns : List ℕ) → AllLe n ns → (i : ℕ) → (pos 0 ≤ℤ nth (naturals ns) i) × (nth (naturals ns) i ≤ℤ pos n)
box n [] a i = (omega (arith, ints), omega (arith, ints))
box n (x ∷ ns) a zero = let h = a.0 in (omega (arith, ints), omega (arith, ints))
box n (x ∷ ns) a (suc i) = box n ns a.1 i

pub at_corners : (n m d : ℕ) (ns : List ℕ) (e : E) → AllLe n ns → 0 < n → T (corner n m d (norm e)) → nat_abs (den e (naturals ns)) ≤ m
unfolding Box
at_corners n m d ns e a hn t =
    subst⁻¹ (λ z. nat_abs z ≤ m) (norm_sound e (naturals ns)) (corner_ok n m d (norm e) (naturals ns) hn (box n ns a) t)
