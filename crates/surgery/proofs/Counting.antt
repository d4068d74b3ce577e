-- How many numbers are dead, by a list of them.
use Rattle.std.proofs.Common.{◌≡◌, ℕ, zero, suc, ◌<◌, Bool, true, false, ◌≢◌, sym, refl, ap, ◌∙◌, inl, inr, arith}
use Rattle.std.proofs.lemmas.Bool.{cases_eq}
use Rattle.links.proofs.Decide.{never}
use Rattle.surgery.specs.Update.{upd}
use Rattle.surgery.specs.Sweep.{number}
use Rattle.surgery.proofs.Updates.{upd_same, upd_other, cases_to}

-- g i, for i below size, are the dead numbers below bound, each once
pub record Lists (dead : ℕ → Bool) (bound size : ℕ) (g : ℕ → ℕ) : Type 0 where
  pub low : (i : ℕ) → i < size → g i < bound
  pub is_dead : (i : ℕ) → i < size → dead (g i) ≡ true
  pub once : (i j : ℕ) → i < size → j < size → g i ≡ g j → i ≡ j
  pub all : (k : ℕ) → k < bound → dead k ≡ true → (i : ℕ) × ((i < size) × (g i ≡ k))

-- the numbers up to s but i, as those below s: s stands in for i
pub record Past (s i : ℕ) (p : ℕ → ℕ) : Type 0 where
  pub within : (j : ℕ) → j < s → p j < suc s
  pub not_i : (j : ℕ) → j < s → p j ≢ i
  pub one : (j k : ℕ) → j < s → k < s → p j ≡ p k → j ≡ k
  pub onto : (j : ℕ) → j < suc s → j ≢ i → (k : ℕ) × ((k < s) × (p k ≡ j))

-- so by an update
past : (s i : ℕ) → i < suc s → Past s i (upd (λ j. j) i s)
past s i l = record {
  within = λ j b. cases_to (λ j. j < s → p j < suc s) i j (λ _. omega (arith, at_i)) (λ n b'. omega (arith, else j n)) b;
  not_i = λ j b. cases_to (λ j. j < s → p j ≢ i) i j (λ b' q. omega (arith, at_i, q)) (λ n _ q. n (sym (else j n) ∙ q)) b;
  one = λ j k bj bk. cases_to (λ j. j < s → p j ≡ p k → j ≡ k) i j
      (λ _. cases_to (λ k. k < s → p i ≡ p k → i ≡ k) i k (λ _ _. refl) (λ n b q. absurd (omega (arith, q, at_i, else k n, b))) bk)
      (λ n b. cases_to (λ k. k < s → p j ≡ p k → j ≡ k) i k (λ _ q. absurd (omega (arith, q, at_i, else j n, b))) (λ m _ q. sym (else j n) ∙ q ∙ else k m) bk) bj;
  onto = λ j b n. elim (cases_eq j s) [
    | inl q ↦ (i, (omega arith, at_i ∙ sym q))
    | inr m ↦ (j, (omega arith, else j n))
  ];
}
  where
    p : ℕ → ℕ
    p = upd (λ j. j) i s

    at_i : p i ≡ s
    at_i = upd_same _ i s

    else : (j : ℕ) → j ≢ i → p j ≡ j
    else = upd_other _ i s

-- the highest number is not dead: the list is one of those below it
lists_alive : (dead : ℕ → Bool) (b size : ℕ) (g : ℕ → ℕ) → dead b ≡ false → Lists dead (suc b) size g → Lists dead b size g
lists_alive dead b size g d l = record {
  low = λ i h. let n : g i ≢ b = λ q. never (sym d ∙ ap dead (sym q) ∙ l.is_dead i h) in omega (arith, l.low i h, n);
  is_dead = l.is_dead;
  once = l.once;
  all = λ k h. l.all k (omega arith);
}

-- it is dead, and the i-th of the list: the last of the list takes its place
lists_dead : (dead : ℕ → Bool) (b s i : ℕ) (g : ℕ → ℕ) → i < suc s → g i ≡ b → Lists dead (suc b) (suc s) g → Lists dead b s (λ j. g (upd (λ j. j) i s j))
lists_dead dead b s i g h e l = record {
  low = λ j c. let n : g (p j) ≢ b = λ q. P.not_i j c (l.once _ i (P.within j c) h (q ∙ sym e)) in omega (arith, l.low _ (P.within j c), n);
  is_dead = λ j c. l.is_dead _ (P.within j c);
  once = λ j k c d q. P.one j k c d (l.once _ _ (P.within j c) (P.within k d) q);
  all = λ k c d. let w = l.all k (omega arith) d in
      let j = P.onto w.0 w.1.0 (λ q. omega (arith, c, sym w.1.1 ∙ ap g q ∙ e)) in
      (j.0, (j.1.0, ap g j.1.1 ∙ w.1.1));
}
  where
    p : ℕ → ℕ
    p = upd (λ j. j) i s

    P : Past s i p
    P = past s i h

-- the list is as long as there are dead numbers
pub numbered : (dead : ℕ → Bool) (bound size : ℕ) (g : ℕ → ℕ) → Lists dead bound size g → number dead bound ≡ size
numbered dead zero zero g l = refl
numbered dead zero (suc s) g l = absurd (omega (arith, l.low 0 (omega arith)))
numbered dead (suc b) size g l = go (dead b) refl (numbered dead b)
  where
    go : (t : Bool) → dead b ≡ t → ((size : ℕ) (g : ℕ → ℕ) → Lists dead b size g → number dead b ≡ size) → elim t [ true ↦ suc (number dead b) | false ↦ number dead b ] ≡ size
    go false d rest = rest size g (lists_alive dead b size g d l)
    go true d rest = let w = l.all b (omega arith) d in fall size w.0 w.1.0 w.1.1 l
      where
        fall : (size i : ℕ) → i < size → g i ≡ b → Lists dead (suc b) size g → suc (number dead b) ≡ size
        fall zero i h e l = absurd (omega (arith, h))
        fall (suc s) i h e l = ap suc (rest s _ (lists_dead dead b s i g h e l))
