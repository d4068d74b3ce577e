-- What a list contains.
use Rattle.std.proofs.Common.{◌≡◌, ℕ, Bool, true, false, ◌||◌, eqb, ◌⊎◌, List, [], ◌∷◌, refl, ap, inl, inr}
use Rattle.links.proofs.Decide.{dec_eq, never}
use Rattle.erasure.specs.Legalize.{contains}

pub contains_head : (j : ℕ) (l : List ℕ) (k : ℕ) → j ≡ k → contains (j ∷ l) k ≡ true
contains_head j l k q = ap (λ b. b || contains l k) ((dec_eq j k).1 q)

pub contains_tail : (j : ℕ) (l : List ℕ) (k : ℕ) → contains l k ≡ true → contains (j ∷ l) k ≡ true
contains_tail j l k q = go (eqb j k)
  where
    go : (b : Bool) → (b || contains l k) ≡ true
    go true = refl
    go false = q

pub contains_cons : (j : ℕ) (l : List ℕ) (k : ℕ) → contains (j ∷ l) k ≡ true → (j ≡ k) ⊎ (contains l k ≡ true)
contains_cons j l k q = go (eqb j k) refl q
  where
    go : (b : Bool) → eqb j k ≡ b → (b || contains l k) ≡ true → (j ≡ k) ⊎ (contains l k ≡ true)
    go true e _ = inl ((dec_eq j k).0 e)
    go false e r = inr r

pub contains_none : (k : ℕ) {A : Type 0} → contains [] k ≡ true → A
contains_none k q = never q
