-- One element put into a cycle, one taken out, and two moved from cycle to cycle.
use Rattle.std.proofs.Common.{◌≡◌, ℕ, Bool, true, false, ◌≢◌, ◌⊎◌, sym, refl, ap, ◌∙◌, subst, inl, inr}
use Rattle.std.proofs.lemmas.Bool.{cases_eq}
use Rattle.surgery.specs.Update.{upd}
use Rattle.surgery.proofs.Cycles.{here, one, two, same, Conn, carry, Reach}
use Rattle.surgery.proofs.Updates.{upd_same, upd_other, Out, by_six}

-- d goes from behind p to behind q, and c from behind r to behind u
pub record Moves (s s' o o' : ℕ → ℕ) (P : ℕ → Type 0) (d p q c r u : ℕ) : Type 0 where
  pub keeps : (x : ℕ) → P x → P (s x)
  pub class : (x : ℕ) → P x → o (s x) ≡ o x
  pub live_q : P q
  pub live_u : P u
  -- the steps before
  pub only_d : (x : ℕ) → P x → s x ≡ d → x ≡ p
  pub only_c : (x : ℕ) → P x → s x ≡ c → x ≡ r
  pub to_d : s p ≡ d
  pub to_c : s r ≡ c
  -- the steps after
  pub at_p : s' p ≡ s d
  pub at_q : s' q ≡ d
  pub at_d : s' d ≡ s q
  pub at_r : s' r ≡ s c
  pub at_u : s' u ≡ c
  pub at_c : s' c ≡ s u
  pub at_else : (x : ℕ) → Out d p q c r u x → s' x ≡ s x
  -- the classes after
  pub class_d : o' d ≡ o q
  pub class_c : o' c ≡ o u
  pub class_else : (x : ℕ) → x ≢ d → x ≢ c → o' x ≡ o x
  -- d and c stand apart
  pub dc : d ≢ c
  pub pd : p ≢ d
  pub pc : p ≢ c
  pub qd : q ≢ d
  pub qc : q ≢ c
  pub rd : r ≢ d
  pub rc : r ≢ c
  pub ud : u ≢ d
  pub uc : u ≢ c
  pub sdd : s d ≢ d
  pub sdc : s d ≢ c
  pub scd : s c ≢ d
  pub scc : s c ≢ c
  pub sqd : s q ≢ d
  pub sqc : s q ≢ c
  pub sud : s u ≢ d
  pub suc' : s u ≢ c

pub moved : (s s' o o' : ℕ → ℕ) (P : ℕ → Type 0) (d p q c r u : ℕ) → Moves s s' o o' P d p q c r u → Conn s o P → Conn s' o' P
moved s s' o o' P d p q c r u M conn = carry s o s' o' f (λ v. v) P P conn M.keeps steps lead trail
  where
    f : ℕ → ℕ
    f = upd (upd (λ x. x) d (s d)) c (s c)

    f_d : f d ≡ s d
    f_d = upd_other _ c (s c) d M.dc ∙ upd_same _ d (s d)

    f_c : f c ≡ s c
    f_c = upd_same _ c (s c)

    f_else : (x : ℕ) → x ≢ d → x ≢ c → f x ≡ x
    f_else x a b = upd_other _ c (s c) x b ∙ upd_other _ d (s d) x a

    from : (x y z : ℕ) → f x ≡ y → Reach s' y z → Reach s' (f x) z
    from x y z e k = subst (λ w. Reach s' w z) (sym e) k

    onto : (x y z : ℕ) → f x ≡ y → Reach s' z y → Reach s' z (f x)
    onto x y z e k = subst (λ w. Reach s' z w) (sym e) k

    stay : (x : ℕ) → f x ≡ s x → s x ≢ d → s x ≢ c → Reach s' (f x) (f (s x))
    stay x e a b = same s' _ _ (e ∙ sym (f_else (s x) a b))

    steps : (x : ℕ) → P x → Reach s' (f x) (f (s x))
    steps =
        by_six (λ x. P x → Reach s' (f x) (f (s x))) d p q c r u
        (λ l. stay d f_d M.sdd M.sdc)
        (λ l. from p p _ (f_else p M.pd M.pc) (one s' p _ (M.at_p ∙ sym (ap f M.to_d ∙ f_d))))
        (λ l. from q q _ (f_else q M.qd M.qc) (onto (s q) (s q) q (f_else (s q) M.sqd M.sqc) (two s' q d (s q) M.at_q M.at_d)))
        (λ l. stay c f_c M.scd M.scc)
        (λ l. from r r _ (f_else r M.rd M.rc) (one s' r _ (M.at_r ∙ sym (ap f M.to_c ∙ f_c))))
        (λ l. from u u _ (f_else u M.ud M.uc) (onto (s u) (s u) u (f_else (s u) M.sud M.suc') (two s' u c (s u) M.at_u M.at_c)))
        (λ x w l. from x x _ (f_else x w.na w.nd) (onto (s x) (s x) x (f_else (s x) (λ e. w.nb (M.only_d x l e)) (λ e. w.ne (M.only_c x l e))) (one s' x (s x) (M.at_else x w))))

    lead : (h : ℕ) → P h → (a : ℕ) × (P a × (o a ≡ o' h) × Reach s' h (f a))
    lead h l =
        elim (cases_eq h d) [
          | inl e ↦ (s q, (M.keeps q M.live_q, M.class q M.live_q ∙ sym (ap o' e ∙ M.class_d), one s' h _ (ap s' e ∙ M.at_d ∙ sym (f_else (s q) M.sqd M.sqc))))
          | inr nd ↦ elim (cases_eq h c) [
            | inl e ↦ (s u, (M.keeps u M.live_u, M.class u M.live_u ∙ sym (ap o' e ∙ M.class_c), one s' h _ (ap s' e ∙ M.at_c ∙ sym (f_else (s u) M.sud M.suc'))))
            | inr nc ↦ (h, (l, sym (M.class_else h nd nc), same s' _ _ (sym (f_else h nd nc))))
          ]
        ]

    trail : (k : ℕ) → P k → (b : ℕ) × (P b × (o b ≡ o' k) × Reach s' (f b) k)
    trail k l =
        elim (cases_eq k d) [
          | inl e ↦ (q, (M.live_q, sym (ap o' e ∙ M.class_d), from q q k (f_else q M.qd M.qc) (one s' q k (M.at_q ∙ sym e))))
          | inr nd ↦ elim (cases_eq k c) [
            | inl e ↦ (u, (M.live_u, sym (ap o' e ∙ M.class_c), from u u k (f_else u M.ud M.uc) (one s' u k (M.at_u ∙ sym e))))
            | inr nc ↦ (k, (l, sym (M.class_else k nd nc), same s' _ _ (f_else k nd nc)))
          ]
        ]

-- ---- one element put in, elements taken out

-- d comes behind q
pub inserted : (s s' o o' : ℕ → ℕ) (P P' : ℕ → Type 0) (d q : ℕ)
    → ((x : ℕ) → P x → P (s x)) → ((x : ℕ) → P x → o (s x) ≡ o x) → P q
    → ((x : ℕ) → P' x → (x ≡ d) ⊎ P x) → s' q ≡ d → s' d ≡ s q → ((x : ℕ) → P x → x ≢ q → s' x ≡ s x)
    → o' d ≡ o q → ((x : ℕ) → P x → o' x ≡ o x)
    → (P d → ⊥) → Conn s o P → Conn s' o' P'
inserted s s' o o' P P' d q keeps class lq new at_q at_d at_else class_d class_else fresh conn =
    carry s o s' o' (λ x. x) (λ v. v) P P' conn keeps
    (λ x l. elim (cases_eq x q) [
      | inl e ↦ two s' x d (s x) (ap s' e ∙ at_q) (at_d ∙ sym (ap s e))
      | inr n ↦ one s' x (s x) (at_else x l n)
    ])
    (λ h l. elim (new h l) [
      | inl e ↦ (s q, (keeps q lq, class q lq ∙ sym (ap o' e ∙ class_d), one s' h (s q) (ap s' e ∙ at_d)))
      | inr p ↦ (h, (p, sym (class_else h p), here s' h))
    ])
    (λ k l. elim (new k l) [
      | inl e ↦ (q, (lq, sym (ap o' e ∙ class_d), one s' q k (at_q ∙ sym e)))
      | inr p ↦ (k, (p, sym (class_else k p), here s' k))
    ])

abbrev choose : Bool → ℕ → ℕ → ℕ
choose true a b = a
choose false a b = b

-- all that passes the test goes; no two of these follow each other
pub removed : (s s' o o' : ℕ → ℕ) (P P' : ℕ → Type 0) (gone : ℕ → Bool)
    → ((x : ℕ) → P x → P (s x))
    → ((x : ℕ) → P' x → P x × (gone x ≡ false) × (o' x ≡ o x))
    → ((x : ℕ) → P x → gone x ≡ true → gone (s x) ≡ false)
    → ((x : ℕ) → P x → gone x ≡ false → gone (s x) ≡ false → s' x ≡ s x)
    → ((x : ℕ) → P x → gone x ≡ false → gone (s x) ≡ true → s' x ≡ s (s x))
    → Conn s o P → Conn s' o' P'
removed s s' o o' P P' gone keeps old alone far near conn =
    carry s o s' o' f (λ v. v) P P' conn keeps steps
    (λ h l. (h, ((old h l).0, sym (old h l).2, same s' _ _ (sym (stays h (old h l).1)))))
    (λ h l. (h, ((old h l).0, sym (old h l).2, same s' _ _ (stays h (old h l).1))))
  where
    f : ℕ → ℕ
    f x = choose (gone x) (s x) x

    stays : (x : ℕ) → gone x ≡ false → f x ≡ x
    stays x e = ap (λ t. choose t (s x) x) e

    goes : (x : ℕ) → gone x ≡ true → f x ≡ s x
    goes x e = ap (λ t. choose t (s x) x) e

    steps : (x : ℕ) → P x → Reach s' (f x) (f (s x))
    steps x l = by (gone x) (gone (s x)) refl refl
      where
        by : (a b : Bool) → gone x ≡ a → gone (s x) ≡ b → Reach s' (f x) (f (s x))
        by true b p q = same s' _ _ (goes x p ∙ sym (stays (s x) (alone x l p)))
        by false true p q = subst (λ z. Reach s' z (f (s x))) (sym (stays x p)) (one s' x _ (near x l p q ∙ sym (goes (s x) q)))
        by false false p q = subst (λ z. Reach s' z (f (s x))) (sym (stays x p)) (one s' x _ (far x l p q ∙ sym (stays (s x) q)))
