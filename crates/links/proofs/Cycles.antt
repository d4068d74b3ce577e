-- When the halves of a number are one cycle, and when not.
use Rattle.std.proofs.Common.{◌≡◌, ℕ, zero, suc, ◌<◌, ◌≤◌, Bool, true, false, cond, not, ◌&&◌, eqb, ltb, Some, None, sym, refl, ap, ◌∙◌, subst, inl, inr, le_of_suc-le-suc, not-suc-le-zero, eq-or-lt_of_le, arith, ltb-false, Option}
use Rattle.std.specs.Bool.{then_some}
use Rattle.std.specs.Option.{unwrap_or}
use Rattle.links.specs.Links.{Links, halves}
use Rattle.links.specs.Tests.{all, implies}
use Rattle.links.specs.Rings.{own, home, whole, lower, Loose}
use Rattle.links.specs.Verdict.{failing}
use Rattle.links.proofs.Decide.{dec_eq, dec_nat_lt, never, below_next}
use Rattle.links.proofs.First.{none_failing, first_failing_is, Lowest, found_is}

all_yes : (k : ℕ) (t : ℕ → Bool) → ((i : ℕ) → i < k → t i ≡ true) → all k t ≡ true
all_yes zero t h = refl
all_yes (suc k) t h = rw (h k (omega arith), all) (all_yes k t (λ i l. h i (omega arith)))

all_no : (k : ℕ) (t : ℕ → Bool) (i : ℕ) → i < k → t i ≡ false → all k t ≡ false
all_no zero t i l e = absurd (not-suc-le-zero l)
all_no (suc k) t i l e = go (t k) refl (λ b. all_no k t i b e)
  where
    go : (b : Bool) → t k ≡ b → (i < k → all k t ≡ false) → elim b [ true ↦ all k t | false ↦ false ] ≡ false
    go false q before = refl
    go true q before = elim (eq-or-lt_of_le (le_of_suc-le-suc l)) [ inl f ↦ absurd (clash (sym q ∙ subst (λ z. t z ≡ false) f e)) | inr b ↦ before b ]
      where
        clash : true ≡ false → ⊥
        clash e = never (sym e)

implied : (a b : Bool) → (a ≡ true → b ≡ true) → implies a b ≡ true
implied true b h = h refl
implied false b h = refl

and_no : (a b : Bool) → b ≡ false → (a && b) ≡ false
and_no true b e = e
and_no false b e = refl

-- the search for a cycle that is not its own tells the lowest
pub loose_from : (owner root : ℕ → ℕ) (count : ℕ) (o : Option ℕ) → o ≡ failing count (λ k. own owner k (root k)) → Loose owner root count (unwrap_or o count)
loose_from owner root count o e = go o (subst (Lowest count (λ k. own owner k (root k))) (sym e) (found_is count (λ k. own owner k (root k))))
  where
    irrefl : (z : ℕ) → z < z → ⊥
    irrefl z l = omega (arith, l)

    go : (o : Option ℕ) → Lowest count (λ k. own owner k (root k)) o → Loose owner root count (unwrap_or o count)
    go None h = (omega arith, h, (λ l. absurd (irrefl count l)))
    go (Some i) h = (omega (arith, h.0), h.2, (λ _. h.1))

module _ (m : Links) (step owner root : ℕ → ℕ) where
  pub is_whole : (k : ℕ) → own owner k (root k) ≡ true → ((h : ℕ) → h < halves m → owner h ≡ k → home step (halves m) (root k) h ≡ true) → whole m step owner root k ≡ true
  is_whole k o h =
      rw o (all_yes (halves m) _ (λ i l. implied (eqb (owner i) k) (home step (halves m) (root k) i) (λ e. h i l ((dec_eq (owner i) k).0 e))))

  pub loose_breaks : (k : ℕ) → own owner k (root k) ≡ false → whole m step owner root k ≡ false
  loose_breaks k o = rw o refl

  pub stray_breaks : (k h : ℕ) → h < halves m → owner h ≡ k → home step (halves m) (root k) h ≡ false → whole m step owner root k ≡ false
  stray_breaks k h l e o =
      and_no (own owner k (root k)) _ (all_no (halves m) _ h l (ap (λ b. implies b (home step (halves m) (root k) h)) ((dec_eq (owner h) k).1 e) ∙ o))

  -- below low every cycle is its own and leads to each half before h; that of low is broken
  pub record Found (count low h : ℕ) : Type 0 where
    pub within : low ≤ count
    pub owns : (k : ℕ) → k < low → own owner k (root k) ≡ true
    pub breaks : low < count → whole m step owner root low ≡ false
    pub leads : (i : ℕ) → i < h → owner i < low → home step (halves m) (root (owner i)) i ≡ true

  pub started : (count low : ℕ) → Loose owner root count low → Found count low 0
  started count low l = record { within = l.0; owns = l.1; breaks = λ b. loose_breaks low (l.2 b); leads = λ i b. absurd (not-suc-le-zero b) }

  pub went_on : (count low h : ℕ) → h < halves m → Found count low h → Found count (lower low (owner h) (home step (halves m) (root (owner h)) h)) (suc h)
  went_on count low h l f = go (ltb (owner h) low) (home step (halves m) (root (owner h)) h) refl refl
    where
      go : (a b : Bool) → ltb (owner h) low ≡ a → home step (halves m) (root (owner h)) h ≡ b → Found count (cond (a && not b) (owner h) low) (suc h)
      go true true p q = record {
        within = f.within;
        owns = f.owns;
        breaks = f.breaks;
        leads = below_next (λ i. owner i < low → home step (halves m) (root (owner i)) i ≡ true) h f.leads (λ _. q);
      }
      go false b p q = record {
        within = f.within;
        owns = f.owns;
        breaks = f.breaks;
        leads = below_next (λ i. owner i < low → home step (halves m) (root (owner i)) i ≡ true) h f.leads (λ o. never (sym p ∙ (dec_nat_lt (owner h) low).1 o));
      }
      go true false p q = let less = (dec_nat_lt (owner h) low).0 p in record {
        within = (let w = f.within in omega arith);
        owns = λ k b. f.owns k (omega arith);
        breaks = λ _. stray_breaks (owner h) h l refl q;
        leads = below_next (λ i. owner i < owner h → home step (halves m) (root (owner i)) i ≡ true) h (λ i b o. f.leads i b (omega arith)) (λ o. absurd (lt_irrefl (owner h) o));
      }
        where
          lt_irrefl : (z : ℕ) → z < z → ⊥
          lt_irrefl z o = omega arith

  pub all_whole : (count low : ℕ) → Found count low (halves m) → (k : ℕ) → k < low → whole m step owner root k ≡ true
  all_whole count low f k b = is_whole k (f.owns k b) (λ h l e. subst (λ z. home step (halves m) (root z) h ≡ true) e (f.leads h l (subst (λ z. z < low) (sym e) b)))

  pub found_some : (count low : ℕ) → Found count low (halves m) → low < count → failing count (whole m step owner root) ≡ Some low
  found_some count low f b = first_failing_is count (whole m step owner root) low b (all_whole count low f) (f.breaks b)

  pub found_none : (count low : ℕ) → Found count low (halves m) → count ≤ low → failing count (whole m step owner root) ≡ None
  found_none count low f b = none_failing count (whole m step owner root) (λ k l. all_whole count low f k (omega arith))

  -- all halves are seen
  pub at_end : (count low h k : ℕ) → k ≡ halves m → k ≤ h → Found count low h → then_some (ltb low count) low ≡ failing count (whole m step owner root)
  at_end count low h k e l f = go (ltb low count) refl
    where
      seen : Found count low (halves m)
      seen = record { within = f.within; owns = f.owns; breaks = f.breaks; leads = λ i b. f.leads i (omega arith) }

      go : (b : Bool) → ltb low count ≡ b → then_some b low ≡ failing count (whole m step owner root)
      go true p = sym (found_some count low seen ((dec_nat_lt low count).0 p))
      go false p = sym (found_none count low seen (ltb-false low count p))
