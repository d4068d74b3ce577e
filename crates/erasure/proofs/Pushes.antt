-- What a list contains after numbers were pushed that it did not contain.
use Rattle.std.proofs.Common.{◌≡◌, ℕ, suc, ◌≤◌, true, eqb, List, ◌∷◌, length, refl, subst, inl, inr, arith}
use Rattle.std.proofs.lemmas.Bool.{cond_both, eq-eqb, eqb-true, or_cases, or_left, or_right}
use Rattle.erasure.specs.Legalize.{contains, push_if_not_contained}

-- what was contained still is
pub push_old : (l : List ℕ) (k j : ℕ) → contains l j ≡ true → contains (push_if_not_contained l k) j ≡ true
push_old l k j h = cond_both (contains l k) l (k ∷ l) (λ m. contains m j ≡ true) (λ _. h) (λ _. or_right (eqb k j) (contains l j) h)

-- what was pushed is
pub push_new : (l : List ℕ) (k : ℕ) → contains (push_if_not_contained l k) k ≡ true
push_new l k = cond_both (contains l k) l (k ∷ l) (λ m. contains m k ≡ true) (λ h. h) (λ _. or_left (eqb k k) (contains l k) (eq-eqb k k refl))

-- and nothing else
pub push_all : (P : ℕ → Type 0) (l : List ℕ) (k : ℕ) → ((j : ℕ) → contains l j ≡ true → P j) → P k → (j : ℕ) → contains (push_if_not_contained l k) j ≡ true → P j
push_all P l k old new j =
    cond_both (contains l k) l (k ∷ l) (λ m. contains m j ≡ true → P j) (λ _. old j)
    (λ _ h. elim (or_cases (eqb k j) (contains l j) h) [ inl q ↦ subst P (eqb-true k j q) new | inr q ↦ old j q ])

-- it is longer by one at most
pub push_length : (l : List ℕ) (k : ℕ) → length (push_if_not_contained l k) ≤ suc (length l)
push_length l k = cond_both (contains l k) l (k ∷ l) (λ m. length m ≤ suc (length l)) (λ _. omega arith) (λ _. omega arith)
