-- Numbers taken from either end of a row hand out each of them once, then none.
use Rattle.std.specs.Prelude.{◌≡◌, ℕ, zero, suc, ◌+◌, ◌<◌, ◌≤◌, Bool, true, false, cond, List, [], ◌∷◌, length, get_or, Some, None, Option, refl}
use Rattle.std.proofs.Common.{ap, arith, not-suc-le-zero, eq-eqb, ne_eqb}
use Rattle.std.proofs.Math.Decide.{ℕ_discrete}
use Rattle.walk.specs.Walking.{hit, times}

-- what steps from the front (true) and from the back (false) take of k numbers, from i on
abbrev pub taken : List Bool → ℕ → ℕ → List (Option ℕ)
taken [] i k = []
taken (b ∷ bs) i zero = None ∷ taken bs i zero
taken (true ∷ bs) i (suc k) = Some i ∷ taken bs (suc i) k
taken (false ∷ bs) i (suc k) = Some (i + k) ∷ taken bs i k

hit_at : (j k : ℕ) → k ≡ j → hit j (Some k) ≡ 1
hit_at j k e = ap (λ b. cond b 1 0) (eq-eqb k j e)

pub hit_off : (j k : ℕ) → ¬ (k ≡ j) → hit j (Some k) ≡ 0
hit_off j k n = ap (λ b. cond b 1 0) (ne_eqb k j n)

-- what is not in the row is not taken
off : (bs : List Bool) (i k j : ℕ) → (i ≤ j → i + k ≤ j) → times j (taken bs i k) ≡ 0
off [] i k j o = refl
off (b ∷ bs) i zero j o = rw (off bs i zero j o) refl
off (true ∷ bs) i (suc k) j o = rw (hit_off j i (λ e. omega arith), off bs (suc i) k j (λ l. omega arith)) refl
off (false ∷ bs) i (suc k) j o = rw (hit_off j (i + k) (λ e. omega arith), off bs i k j (λ l. omega arith)) refl

-- nothing is taken twice
pub few : (bs : List Bool) (i k j : ℕ) → times j (taken bs i k) ≤ 1
few [] i k j = omega arith
few (b ∷ bs) i zero j = let r = few bs i zero j in omega arith
few (true ∷ bs) i (suc k) j =
    elim (ℕ_discrete i j) [
      | yes e ↦ rw (hit_at j i e, off bs (suc i) k j (λ l. omega arith)) (omega arith)
      | no n ↦ let r = few bs (suc i) k j in rw (hit_off j i n) (omega arith)
    ]
few (false ∷ bs) i (suc k) j =
    elim (ℕ_discrete (i + k) j) [
      | yes e ↦ rw (hit_at j (i + k) e, off bs i k j (λ l. omega arith)) (omega arith)
      | no n ↦ let r = few bs i k j in rw (hit_off j (i + k) n) (omega arith)
    ]

-- what is in the row is taken, if there are steps enough
pub one : (bs : List Bool) (i k j : ℕ) → i ≤ j → j < i + k → k ≤ length bs → times j (taken bs i k) ≡ 1
one bs i zero j l r m = absurd (omega arith)
one [] i (suc k) j l r m = absurd (not-suc-le-zero m)
one (true ∷ bs) i (suc k) j l r m =
    elim (ℕ_discrete i j) [
      | yes e ↦ rw (hit_at j i e, off bs (suc i) k j (λ l. omega arith)) refl
      | no n ↦ rw (hit_off j i n, one bs (suc i) k j (omega arith) (omega arith) (omega arith)) refl
    ]
one (false ∷ bs) i (suc k) j l r m =
    elim (ℕ_discrete (i + k) j) [
      | yes e ↦ rw (hit_at j (i + k) e, off bs i k j (λ l. omega arith)) refl
      | no n ↦ rw (hit_off j (i + k) n, one bs i k j l (omega arith) (omega arith)) refl
    ]

-- then none
pub silent : (bs : List Bool) (i k n : ℕ) → k ≤ n → get_or (taken bs i k) n None ≡ None
silent [] i k n m = refl
silent (b ∷ bs) i zero zero m = refl
silent (b ∷ bs) i zero (suc n) m = silent bs i zero n (omega arith)
silent (b ∷ bs) i (suc k) zero m = absurd (not-suc-le-zero m)
silent (true ∷ bs) i (suc k) (suc n) m = silent bs (suc i) k n (omega arith)
silent (false ∷ bs) i (suc k) (suc n) m = silent bs i k n (omega arith)
