-- A test decides a fact: it is true exactly if the fact holds. How tests of parts make tests of the whole.
use Rattle.std.proofs.Common.{◌≡◌, ℕ, zero, suc, ◌<◌, ◌≤◌, Bool, true, false, not, ◌&&◌, ◌||◌, T, eqb, ltb, leb, ◌⊎◌, ◌↔◌, ℤ, pos, ◌≤ℤ◌, ◌<ℤ◌, Decides, sym, refl, ◌∙◌, subst, inl, inr, le_of_suc-le-suc, not-suc-le-zero, eq-or-lt_of_le, arith, le→leb, eqb→eq, ltb→lt, lt→ltb, leb→le}
use lib.Dec.{eqb_refl}
use lib.Signed.{le_z, lt_z, le_z_yes, lt_z_yes}
use borrow.Author.Differences.{ints}
use Rattle.links.specs.Tests.{all, any, implies, same}

pub is_true : (b : Bool) → T b → b ≡ true
is_true true t = refl
is_true false t = absurd t

pub holds : {b : Bool} → b ≡ true → T b
holds e = subst T (sym e) tt

pub never : {A : Type 0} → false ≡ true → A
never e = absurd (holds e)

-- ---- what connects tests
pub dec_and : {a b : Bool} {P Q : Type 0} → Decides a P → Decides b Q → Decides (a && b) (P × Q)
dec_and {a = true} p q = ((λ e. (p.0 refl, q.0 e)), (λ h. q.1 h.1))
dec_and {a = false} p q = ((λ e. never e), (λ h. p.1 h.0))

pub dec_and3 : {a b c : Bool} {P Q R : Type 0} → Decides a P → Decides b Q → Decides c R → Decides (a && b && c) (P × Q × R)
dec_and3 p q r =
    let s = dec_and (dec_and p q) r in
    ((λ e. let h = s.0 e in (h.0.0, h.0.1, h.1)), (λ h. s.1 ((h.0, h.1), h.2)))

pub dec_and4 : {a b c d : Bool} {P Q R U : Type 0} → Decides a P → Decides b Q → Decides c R → Decides d U → Decides (a && b && c && d) (P × Q × R × U)
dec_and4 p q r u =
    let s = dec_and (dec_and3 p q r) u in
    ((λ e. let h = s.0 e in (h.0.0, h.0.1, h.0.2, h.1)), (λ h. s.1 ((h.0, h.1, h.2), h.3)))

pub dec_or : {a b : Bool} {P Q : Type 0} → Decides a P → Decides b Q → Decides (a || b) (P ⊎ Q)
dec_or {a = true} p q = ((λ e. inl (p.0 refl)), (λ h. refl))
dec_or {a = false} {b = b} {P = P} {Q = Q} p q = ((λ e. inr (q.0 e)), back)
  where
    back : P ⊎ Q → b ≡ true
    back (inl h) = never (p.1 h)
    back (inr h) = q.1 h

pub dec_not : {a : Bool} {P : Type 0} → Decides a P → Decides (not a) (¬ P)
dec_not {a = true} p = ((λ e. never e), (λ n. absurd (n (p.0 refl))))
dec_not {a = false} p = ((λ e h. never (p.1 h)), (λ n. refl))

pub dec_implies : {a b : Bool} {P Q : Type 0} → Decides a P → Decides b Q → Decides (implies a b) (P → Q)
dec_implies {a = true} p q = ((λ e h. q.0 e), (λ f. q.1 (f (p.0 refl))))
dec_implies {a = false} p q = ((λ e h. never (p.1 h)), (λ f. refl))

pub dec_same : {a b : Bool} {P Q : Type 0} → Decides a P → Decides b Q → Decides (same a b) (P ↔ Q)
dec_same {a = true} p q = ((λ e. ((λ h. q.0 e), (λ h. p.0 refl))), (λ f. q.1 (f.0 (p.0 refl))))
dec_same {a = false} {b = true} p q = ((λ e. never e), (λ f. p.1 (f.1 (q.0 refl))))
dec_same {a = false} {b = false} p q = ((λ e. ((λ h. never (p.1 h)), (λ h. never (q.1 h)))), (λ f. refl))

-- ---- numbers
pub dec_eq : (i j : ℕ) → Decides (eqb i j) (i ≡ j)
dec_eq i j = ((λ e. eqb→eq i j (holds e)), (λ e. is_true (eqb i j) (subst (λ k. T (eqb i k)) e (eqb_refl i))))

pub dec_nat_lt : (i j : ℕ) → Decides (ltb i j) (i < j)
dec_nat_lt i j = ((λ e. ltb→lt i j (holds e)), (λ h. is_true (ltb i j) (lt→ltb i j h)))

pub dec_nat_le : (i j : ℕ) → Decides (leb i j) (i ≤ j)
dec_nat_le i j = ((λ e. leb→le i j (holds e)), (λ h. is_true (leb i j) (le→leb i j h)))

pub dec_le_z : (i j : ℤ) → Decides (le_z i j) (i ≤ℤ j)
dec_le_z i j = ((λ e. le_z_yes (holds e)), (λ h. is_true (le_z i j) h.le))

pub dec_lt_z : (i j : ℤ) → Decides (lt_z i j) (i <ℤ j)
dec_lt_z i j = ((λ e. lt_z_yes (holds e)), (λ h. is_true (lt_z i j) h.lt))

pub dec_zero : (z : ℤ) → Decides (le_z z (pos 0) && le_z (pos 0) z) (z ≡ pos 0)
dec_zero z =
    let d = dec_and (dec_le_z z (pos 0)) (dec_le_z (pos 0) z) in
    ((λ e. both (d.0 e).0 (d.0 e).1), (λ e. d.1 (under e, over e)))
  where
    both : z ≤ℤ pos 0 → pos 0 ≤ℤ z → z ≡ pos 0
    both a b = omega (arith, ints)

    under : z ≡ pos 0 → z ≤ℤ pos 0
    under e = omega (arith, ints)

    over : z ≡ pos 0 → pos 0 ≤ℤ z
    over e = omega (arith, ints)

-- ---- all, and some
pub below_next : (P : ℕ → Type 0) (k : ℕ) → ((i : ℕ) → i < k → P i) → P k → (i : ℕ) → i < suc k → P i
below_next P k h p i l = elim (eq-or-lt_of_le (le_of_suc-le-suc l)) [ inl e ↦ subst P (sym e) p | inr q ↦ h i q ]

pub dec_all : (k : ℕ) (t : ℕ → Bool) (P : ℕ → Type 0) → ((i : ℕ) → i < k → Decides (t i) (P i)) → Decides (all k t) ((i : ℕ) → i < k → P i)
dec_all zero t P d = ((λ e i l. absurd (not-suc-le-zero l)), (λ h. refl))
dec_all (suc k) t P d = go (t k) (d k (omega arith)) (dec_all k t P (λ i l. d i (omega arith)))
  where
    go : (b : Bool) → Decides b (P k) → Decides (all k t) ((i : ℕ) → i < k → P i) → Decides (elim b [ true ↦ all k t | false ↦ false ]) ((i : ℕ) → i < suc k → P i)
    go true p r = ((λ e. below_next P k (r.0 e) (p.0 refl)), (λ h. r.1 (λ i l. h i (omega arith))))
    go false p r = ((λ e. never e), (λ h. p.1 (h k (omega arith))))

pub any_out : (k : ℕ) (t : ℕ → Bool) → any k t ≡ true → (i : ℕ) × (i < k) × (t i ≡ true)
any_out zero t e = never e
any_out (suc k) t e = go (t k) refl e (any_out k t)
  where
    go : (b : Bool) → t k ≡ b → elim b [ true ↦ true | false ↦ any k t ] ≡ true → (any k t ≡ true → (i : ℕ) × (i < k) × (t i ≡ true)) → (i : ℕ) × (i < suc k) × (t i ≡ true)
    go true q e before = (k, omega arith, q)
    go false q e before = let r = before e in (r.0, (let l = r.1 in omega arith), r.2)

pub any_in : (k : ℕ) (t : ℕ → Bool) (i : ℕ) → i < k → t i ≡ true → any k t ≡ true
any_in zero t i l e = absurd (not-suc-le-zero l)
any_in (suc k) t i l e = go (t k) refl (λ h. any_in k t i h e)
  where
    go : (b : Bool) → t k ≡ b → (i < k → any k t ≡ true) → elim b [ true ↦ true | false ↦ any k t ] ≡ true
    go true q before = refl
    go false q before = elim (eq-or-lt_of_le (le_of_suc-le-suc l)) [ inl f ↦ never (sym q ∙ subst (λ z. t z ≡ true) f e) | inr h ↦ before h ]
