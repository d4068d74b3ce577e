-- How many spokes there are: the size of their ring.
use Rattle.std.proofs.Common.{◌≡◌, ℕ, zero, suc, ◌<◌, Bool, true, false, eqb, sym, ap, ◌∙◌, subst, not-suc-le-zero, arith, eq-eqb, ne_eqb}
use Rattle.links.specs.Links.{Links, halves}
use Rattle.planar.specs.Parts.{InRange, Woven}
use Rattle.planar.specs.Star.{spoke, Ring}
use Rattle.planar.proofs.Rings.{rings}
use Rattle.erasure.specs.Spokes.{first, degree}

-- the lowest is found
pub first_at : (k : ℕ) (t : ℕ → Bool) (i : ℕ) → i < k → t i ≡ true → ((a : ℕ) → a < i → t a ≡ false) → first k t ≡ i
first_at zero t i l e none_less = absurd (not-suc-le-zero l)
first_at (suc k) t zero l e none_less = ap (λ b. elim b [ true ↦ 0 | false ↦ suc (first k (λ i. t (suc i))) ]) e
first_at (suc k) t (suc i) l e none_less =
    ap (λ b. elim b [ true ↦ 0 | false ↦ suc (first k (λ i. t (suc i))) ]) (none_less 0 (omega arith))
    ∙ ap suc (first_at k (λ i. t (suc i)) i (omega arith) e (λ a h. none_less (suc a) (omega arith)))

-- the ring has as many spokes as it takes to come around
pub degree_is : (m : Links) (s size : ℕ) → Ring m s size → degree m s ≡ size
degree_is m s zero r = absurd (not-suc-le-zero r.some)
degree_is m s (suc d) r =
    ap suc (first_at (halves m) (λ i. eqb (spoke m s (suc i)) s) d r.few (eq-eqb (spoke m s (suc d)) s r.closed)
    (λ a l. ne_eqb (spoke m s (suc a)) s (λ e. r.apart 0 (suc a) (omega arith) (omega arith) (sym e))))

-- the spokes from any half on are a ring
pub ring_degree : (m : Links) → InRange m → Woven m → (s : ℕ) → s < halves m → Ring m s (degree m s)
ring_degree m r w s l = let x = rings m r w s l in subst (λ k. Ring m s k) (sym (degree_is m s x.0 x.1)) x.1
