-- Walks by a step among numbers below a bound: what is reached is reached soon.
use Rattle.std.proofs.Common.{◌≡◌, ℕ, zero, suc, ◌+◌, ◌-◌, ◌<◌, ◌≤◌, true, eqb, ◌⊎◌, Decides, sym, ap, ◌∙◌, subst, inl, inr, le_of_suc-le-suc, not-suc-le-zero, eq-or-lt_of_le, arith}
use native.Mathlib.Decide.{ℕ_discrete}
use Rattle.links.specs.Links.{walk, Reached}
use Rattle.links.specs.Tests.{reaches}
use Rattle.links.proofs.Decide.{any_out, any_in, dec_eq}

-- i steps after j steps
pub walk_add : (step : ℕ → ℕ) (i j s : ℕ) → walk step (i + j) s ≡ walk step i (walk step j s)
walk_add step zero j s = ap (λ k. walk step k s) zero_plus
  where
    zero_plus : 0 + j ≡ j
    zero_plus = omega arith
walk_add step (suc i) j s = ap (λ k. walk step k s) suc_plus ∙ ap step (walk_add step i j s)
  where
    suc_plus : suc i + j ≡ suc (i + j)
    suc_plus = omega arith

pub walk_in : (H : ℕ) (step : ℕ → ℕ) → ((h : ℕ) → h < H → step h < H) → (s : ℕ) → s < H → (i : ℕ) → walk step i s < H
walk_in H step inside s l zero = l
walk_in H step inside s l (suc i) = inside (walk step i s) (walk_in H step inside s l i)

-- the least number of a kind
pub least : (P : ℕ → Type 0) → ((i : ℕ) → Dec (P i)) → (j : ℕ) → P j → (i : ℕ) × P i × ((l : ℕ) → l < i → ¬ P l)
least P dec j p = done (upto (suc j))
  where
    upto : (n : ℕ) → ((l : ℕ) → l < n → ¬ P l) ⊎ ((i : ℕ) × P i × ((l : ℕ) → l < i → ¬ P l))
    upto zero = inl (λ l h. absurd (not-suc-le-zero h))
    upto (suc n) = go (upto n) (dec n)
      where
        go : ((l : ℕ) → l < n → ¬ P l) ⊎ ((i : ℕ) × P i × ((l : ℕ) → l < i → ¬ P l)) → Dec (P n) → ((l : ℕ) → l < suc n → ¬ P l) ⊎ ((i : ℕ) × P i × ((l : ℕ) → l < i → ¬ P l))
        go (inr r) d = inr r
        go (inl no_one) (yes q) = inr (n, q, no_one)
        go (inl no_one) (no q) = inl (λ l h. elim (eq-or-lt_of_le (le_of_suc-le-suc h)) [ inl e ↦ λ z. q (subst P e z) | inr b ↦ no_one l b ])

    done : ((l : ℕ) → l < suc j → ¬ P l) ⊎ ((i : ℕ) × P i × ((l : ℕ) → l < i → ¬ P l)) → (i : ℕ) × P i × ((l : ℕ) → l < i → ¬ P l)
    done (inl no_one) = absurd (no_one j (omega arith) p)
    done (inr r) = r

-- k different numbers below l: k is at most l
pub pigeons : (l k : ℕ) (c : ℕ → ℕ) → ((i : ℕ) → i < k → c i < l) → ((i j : ℕ) → i < j → j < k → ¬ (c i ≡ c j)) → k ≤ l
pigeons zero zero c small only = omega arith
pigeons zero (suc k) c small only = absurd (not-suc-le-zero (small k (omega arith)))
pigeons (suc l) zero c small only = omega arith
pigeons (suc l) (suc k) c small only = go (ℕ_discrete (c k) l) (pigeons l k)
  where
    -- the last number takes the place of whoever has the highest
    c' : ℕ → ℕ
    c' i = elim (ℕ_discrete (c i) l) [ yes e ↦ c k | no n ↦ c i ]

    lower : (z : ℕ) → z < suc l → ¬ (z ≡ l) → z < l
    lower z h n = omega arith

    within : ¬ (c k ≡ l) → (i : ℕ) → i < k → c' i < l
    within n i h = at (ℕ_discrete (c i) l)
      where
        at : (d : Dec (c i ≡ l)) → elim d [ yes e ↦ c k | no n ↦ c i ] < l
        at (yes e) = lower (c k) (small k (omega arith)) n
        at (no m) = lower (c i) (small i (omega arith)) m

    apart : (i j : ℕ) → i < j → j < k → ¬ (c' i ≡ c' j)
    apart i j h b = at (ℕ_discrete (c i) l) (ℕ_discrete (c j) l)
      where
        at : (d : Dec (c i ≡ l)) (g : Dec (c j ≡ l)) → ¬ (elim d [ yes e ↦ c k | no n ↦ c i ] ≡ elim g [ yes e ↦ c k | no n ↦ c j ])
        at (yes e) (yes f) q = only i j h (omega arith) (e ∙ sym f)
        at (yes e) (no m) q = only j k b (omega arith) (sym q)
        at (no m) (yes f) q = only i k (omega arith) (omega arith) q
        at (no m) (no o) q = only i j h (omega arith) q

    go : Dec (c k ≡ l) → ((c : ℕ → ℕ) → ((i : ℕ) → i < k → c i < l) → ((i j : ℕ) → i < j → j < k → ¬ (c i ≡ c j)) → k ≤ l) → suc k ≤ suc l
    go (yes e) fewer = let r = fewer c (λ i h. lower (c i) (small i (omega arith)) (λ q. only i k h (omega arith) (q ∙ sym e))) (λ i j h b. only i j h (omega arith)) in omega arith
    go (no n) fewer = let r = fewer c' (within n) apart in omega arith

-- what is reached at all is reached in fewer steps than there are numbers
pub soon : (H : ℕ) (step : ℕ → ℕ) → ((h : ℕ) → h < H → step h < H) → (s k : ℕ) → s < H → Reached step s k → (j : ℕ) × (j < H) × (walk step j s ≡ k)
soon H step inside s k l r = go (least (λ i. walk step i s ≡ k) (λ i. ℕ_discrete (walk step i s) k) r.0 r.1)
  where
    go : (i : ℕ) × (walk step i s ≡ k) × ((d : ℕ) → d < i → ¬ (walk step d s ≡ k)) → (j : ℕ) × (j < H) × (walk step j s ≡ k)
    go (i, e, none_less) = (i, pigeons H (suc i) (λ a. walk step a s) (λ a b. walk_in H step inside s l a) apart, e)
      where
        -- a repeated number makes a shorter way
        apart : (a b : ℕ) → a < b → b < suc i → ¬ (walk step a s ≡ walk step b s)
        apart a b h q m =
            let e1 : walk step ((i - b) + a) s ≡ walk step ((i - b) + b) s = walk_add step (i - b) a s ∙ ap (walk step (i - b)) m ∙ sym (walk_add step (i - b) b s) in
            let e2 : (i - b) + b ≡ i = omega arith in
            none_less ((i - b) + a) (omega arith) (e1 ∙ ap (λ z. walk step z s) e2 ∙ e)

pub dec_reached : (H : ℕ) (step : ℕ → ℕ) → ((h : ℕ) → h < H → step h < H) → (s k : ℕ) → s < H → Decides (reaches step H s k) (Reached step s k)
dec_reached H step inside s k l = (out, back)
  where
    out : reaches step H s k ≡ true → Reached step s k
    out e = let r = any_out H (λ j. eqb (walk step j s) k) e in (r.0, (dec_eq (walk step r.0 s) k).0 r.2)

    back : Reached step s k → reaches step H s k ≡ true
    back r = let q = soon H step inside s k l r in any_in H (λ j. eqb (walk step j s) k) q.0 q.1 ((dec_eq (walk step q.0 s) k).1 q.2)
