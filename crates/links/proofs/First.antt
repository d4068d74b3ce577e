-- The lowest number at which a test fails, by what holds of it.
use Rattle.std.proofs.Common.{◌≡◌, ℕ, zero, suc, ◌<◌, ◌≤◌, Bool, true, false, not, eqb, Some, None, Ok, Err, Option, Result, sym, refl, ap, ◌∙◌, subst, inl, inr, le_of_suc-le-suc, not-suc-le-zero, eq-or-lt_of_le, arith, le-ltb, lt-ltb, ltb, ltb-false}
use Rattle.std.specs.Prelude.{MatchOption}
use Rattle.std.specs.Option.{option_map, option_or}
use Rattle.std.specs.Bool.{then_some}
use Rattle.links.specs.Links.{Links, walk}
use Rattle.links.specs.Tests.{implies, reaches, single, twins}
use Rattle.entry.specs.declared.fault.EntryFault.{EntryFault}
use Rattle.links.specs.declared.fault.CheckFault.{CheckFault}
use Rattle.links.specs.Verdict.{failing, failing2, told, rule2, unplaced}
use Rattle.links.proofs.Decide.{any_in, any_out, below_next, dec_eq, dec_nat_lt}

pub none_failing : (k : ℕ) (t : ℕ → Bool) → ((i : ℕ) → i < k → t i ≡ true) → failing k t ≡ None
none_failing zero t h = refl
none_failing (suc k) t h = rw (none_failing k t (λ i l. h i (omega arith)), h k (omega arith)) refl

pub first_failing_is : (k : ℕ) (t : ℕ → Bool) (i : ℕ) → i < k → ((j : ℕ) → j < i → t j ≡ true) → t i ≡ false → failing k t ≡ Some i
first_failing_is zero t i l h e = absurd (not-suc-le-zero l)
first_failing_is (suc k) t i l h e =
    elim (eq-or-lt_of_le (le_of_suc-le-suc l)) [
      | inl q ↦ ap (λ o. option_or o (then_some (not (t k)) k)) (none_failing k t (λ j b. h j (omega arith))) ∙ rw (sym q) (rw e refl)
      | inr b ↦ ap (λ o. option_or o (then_some (not (t k)) k)) (first_failing_is k t i b h e)
    ]

pub none_failing2 : (k l : ℕ) (t : ℕ → ℕ → Bool) → ((i : ℕ) → i < k → failing l (t i) ≡ None) → failing2 k l t ≡ None
none_failing2 zero l t h = refl
none_failing2 (suc k) l t h = rw (none_failing2 k l t (λ i b. h i (omega arith)), h k (omega arith)) refl

pub first_failing2 : (k l : ℕ) (t : ℕ → ℕ → Bool) (i j : ℕ) → i < k → ((a : ℕ) → a < i → failing l (t a) ≡ None) → failing l (t i) ≡ Some j → failing2 k l t ≡ Some (i, j)
first_failing2 zero l t i j b h e = absurd (not-suc-le-zero b)
first_failing2 (suc k) l t i j b h e =
    elim (eq-or-lt_of_le (le_of_suc-le-suc b)) [
      | inl q ↦ ap (λ o. option_or o (option_map (λ d. (k, d)) (failing l (t k)))) (none_failing2 k l t (λ a c. h a (omega arith))) ∙ rw (sym q) (rw e refl)
      | inr c ↦ ap (λ o. option_or o (option_map (λ d. (k, d)) (failing l (t k)))) (first_failing2 k l t i j c h e)
    ]

-- ---- what a search finds, by what its tests said
-- over the numbers from s up to k, where each test said what t says, and t holds before s
pub failing_from : (s k : ℕ) (t : ℕ → Bool) (Said : ℕ → Bool → Type 0) → ((i : ℕ) → i < s → t i ≡ true) → ((i : ℕ) (b : Bool) → s ≤ i → i < k → Said i b → b ≡ t i)
    → (r : Option ℕ) → MatchOption r ((i : ℕ) → s ≤ i → i < k → Said i true) (λ i. (s ≤ i) × (i < k) × Said i false × ((j : ℕ) → s ≤ j → j < i → Said j true)) → r ≡ failing k t
failing_from s k t Said early is None h = sym (none_failing k t (λ i l. go i l (ltb i s) refl))
  where
    go : (i : ℕ) → i < k → (b : Bool) → ltb i s ≡ b → t i ≡ true
    go i l true p = early i ((dec_nat_lt i s).0 p)
    go i l false p = let a = ltb-false i s p in sym (is i true a l (h i a l))
failing_from s k t Said early is (Some i) h = sym (first_failing_is k t i h.1 (λ j l. go j l (ltb j s) refl) (sym (is i false h.0 h.1 h.2)))
  where
    before : (j : ℕ) → j < i → i < k → j < k
    before j a b = omega (arith, a, b)

    go : (j : ℕ) → j < i → (b : Bool) → ltb j s ≡ b → t j ≡ true
    go j l true p = early j ((dec_nat_lt j s).0 p)
    go j l false p = let a = ltb-false j s p in sym (is j true a (before j l h.1) (h.3 j a l))

-- over all numbers below k
pub failing_by : (k : ℕ) (t : ℕ → Bool) (Said : ℕ → Bool → Type 0) → ((i : ℕ) (b : Bool) → i < k → Said i b → b ≡ t i)
    → (r : Option ℕ) → MatchOption r ((i : ℕ) → 0 ≤ i → i < k → Said i true) (λ i. (0 ≤ i) × (i < k) × Said i false × ((j : ℕ) → 0 ≤ j → j < i → Said j true)) → r ≡ failing k t
failing_by k t Said is = failing_from 0 k t Said (λ i l. absurd (never i l)) (λ i b a l s. is i b l s)
  where
    never : (i : ℕ) → i < 0 → ⊥
    never i l = omega (arith, l)

-- the answer o of a search below k: it fails at the number found, and passes before it
abbrev pub Lowest : ℕ → (ℕ → Bool) → Option ℕ → Type 0
Lowest k t o = MatchOption o ((i : ℕ) → i < k → t i ≡ true) (λ i. (i < k) × (t i ≡ false) × ((j : ℕ) → j < i → t j ≡ true))

pub found_is : (k : ℕ) (t : ℕ → Bool) → Lowest k t (failing k t)
found_is zero t = λ i l. absurd (not-suc-le-zero l)
found_is (suc k) t = go (failing k t) (found_is k t) (t k) refl
  where
    go : (o : Option ℕ) → Lowest k t o → (b : Bool) → t k ≡ b → Lowest (suc k) t (option_or o (then_some (not b) k))
    go (Some i) h b e = (omega (arith, h.0), h.1, h.2)
    go None h true e = below_next (λ i. t i ≡ true) k h e
    go None h false e = (omega arith, e, h)

-- ---- reaching
pub reaches_yes : (step : ℕ → ℕ) (bound s h j : ℕ) → j < bound → walk step j s ≡ h → reaches step bound s h ≡ true
reaches_yes step bound s h j l e = any_in bound (λ i. eqb (walk step i s) h) j l ((dec_eq (walk step j s) h).1 e)

pub reaches_no : (step : ℕ → ℕ) (bound s h : ℕ) → ((i : ℕ) → i < bound → ¬ (walk step i s ≡ h)) → reaches step bound s h ≡ false
reaches_no step bound s h n = go (reaches step bound s h) refl
  where
    go : (b : Bool) → reaches step bound s h ≡ b → b ≡ false
    go true e = let r = any_out bound (λ i. eqb (walk step i s) h) e in absurd (n r.0 r.1 ((dec_eq (walk step r.0 s) h).0 r.2))
    go false e = refl

-- ---- twins: only edges after k are asked for
pub single_early : (m : Links) (k l : ℕ) → l ≤ k → single m k l ≡ true
single_early m k l h = ap (λ b. implies b (not (twins m k l))) (le-ltb k l h)

pub single_now : (m : Links) (k l : ℕ) (b : Bool) → k < l → twins m k l ≡ b → single m k l ≡ not b
single_now m k l b h e = ap (λ a. implies a (not (twins m k l))) (lt-ltb k l h) ∙ ap not e

-- ---- the places of a shelf
pub rule2_none : (n : ℕ) (spot : ℕ → Result (ℕ × ℕ) EntryFault) → ((v : ℕ) → v < n → unplaced v (spot v) ≡ None) → rule2 n spot ≡ None
rule2_none zero spot h = refl
rule2_none (suc n) spot h = rw (rule2_none n spot (λ v l. h v (omega arith)), h n (omega arith)) refl

pub rule2_first : (n : ℕ) (spot : ℕ → Result (ℕ × ℕ) EntryFault) (v : ℕ) (f : CheckFault) → v < n → ((i : ℕ) → i < v → unplaced i (spot i) ≡ None) → unplaced v (spot v) ≡ Some f → rule2 n spot ≡ Some f
rule2_first zero spot v f l h e = absurd (not-suc-le-zero l)
rule2_first (suc n) spot v f l h e =
    elim (eq-or-lt_of_le (le_of_suc-le-suc l)) [
      | inl q ↦ ap (λ o. option_or o (unplaced n (spot n))) (rule2_none n spot (λ i b. h i (omega arith))) ∙ subst (λ z. unplaced z (spot z) ≡ Some f) q e
      | inr b ↦ ap (λ o. option_or o (unplaced n (spot n))) (rule2_first n spot v f b h e)
    ]

-- an answer tells whether there is a fault, and which
pub told_ok : (o : Option CheckFault) → told o ≡ Ok tt → o ≡ None
told_ok None e = refl
told_ok (Some f) e = absurd (subst tells e tt)
  where
    tells : Result (Unit {0}) CheckFault → Type 0
    tells (Ok u) = ⊥
    tells (Err g) = Unit {0}

pub told_err : (o : Option CheckFault) (f : CheckFault) → told o ≡ Err f → o ≡ Some f
told_err None f e = absurd (subst tells e tt)
  where
    tells : Result (Unit {0}) CheckFault → Type 0
    tells (Ok u) = Unit {0}
    tells (Err g) = ⊥
told_err (Some g) f e = ap fault e
  where
    fault : Result (Unit {0}) CheckFault → Option CheckFault
    fault (Ok u) = Some g
    fault (Err h) = Some h

pub told_then : (o p : Option CheckFault) → told o ≡ Ok tt → told (option_or o p) ≡ told p
told_then o p e = ap (λ z. told (option_or z p)) (told_ok o e)

pub told_first : (o p : Option CheckFault) (f : CheckFault) → told o ≡ Err f → told (option_or o p) ≡ Err f
told_first o p f e = ap (λ z. told (option_or z p)) (told_err o f e)
