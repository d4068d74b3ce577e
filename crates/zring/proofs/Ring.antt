-- The normaliser is sound: an identity of polynomials is proved by `ring l r ρ tt`.
use mathlib.Core.Path.{◌≡◌, refl, sym, ◌∙◌, ap, ap₂}
use mathlib.Core.List.{List}
use Prim.Native.Nat.{ℕ, zero, suc, compare, Ordering}
use lib.Dec.{T, compare_is_eq, eqb→eq}
use lib.IntN.{ℤ, pos, negsuc, ◌+ℤ◌, ◌-ℤ◌, ◌*ℤ◌, neg_ℤ, +ℤ_idl, +ℤ_idr, +ℤ_assoc, +ℤ_comm, +ℤ_invl, *ℤ-zero}
use Rattle.zring.proofs.Laws.{*ℤ-assoc, *ℤ-distl, *ℤ-distr, *ℤ-one-r, neg_is_mul, neg_mul, swap4, mul_left_comm}
pub use Rattle.zring.specs.Expression.{E, v, k, ◌⊹◌, ◌⊖◌, ◌⊛◌, ⊝◌, nth, den}
pub use Rattle.zring.specs.Normal.{P, con, nod, ev, step, mk, addc, into, plus, scale, mulv, onto, norm, is_zero}

step_ind : (C : P → Type 0) (o : Ordering) (f g h : Unit {0} → P) → C (f tt) → (T (compare_is_eq o) → C (g tt)) → C (h tt) → C (step o f g h)
step_ind C Ordering.lt f g h a b c = a
step_ind C Ordering.eq f g h a b c = b tt
step_ind C Ordering.gt f g h a b c = c

ev_mk : (i : ℕ) (p q : P) (ρ : List ℤ) → ev (mk i p q) ρ ≡ nth ρ i *ℤ ev p ρ +ℤ ev q ρ
ev_mk i (con (pos zero)) q ρ = sym (ap (λ t. t +ℤ ev q ρ) (*ℤ-zero (nth ρ i)) ∙ +ℤ_idl (ev q ρ))
ev_mk i (con (pos (suc n))) q ρ = refl
ev_mk i (con (negsuc n)) q ρ = refl
ev_mk i (nod j a b) q ρ = refl

-- a + (x + y) = x + (a + y)
left_comm : (a x y : ℤ) → a +ℤ (x +ℤ y) ≡ x +ℤ (a +ℤ y)
left_comm a x y = sym (+ℤ_assoc a x y) ∙ ap (λ t. t +ℤ y) (+ℤ_comm a x) ∙ +ℤ_assoc x a y

ev_addc : (a : ℤ) (r : P) (ρ : List ℤ) → ev (addc a r) ρ ≡ a +ℤ ev r ρ
ev_addc a (con b) ρ = refl
ev_addc a (nod i p q) ρ = ap (λ t. nth ρ i *ℤ ev p ρ +ℤ t) (ev_addc a q ρ) ∙ sym (left_comm a (nth ρ i *ℤ ev p ρ) (ev q ρ))

ev_into : (ρ : List ℤ) (i : ℕ) (p : P) (fp fq : P → P) (y z : ℤ) → ((r : P) → ev (fp r) ρ ≡ y +ℤ ev r ρ) → ((r : P) → ev (fq r) ρ ≡ z +ℤ ev r ρ) → ev p ρ ≡ y → (r : P) → ev (into i p fp fq r) ρ ≡ (nth ρ i *ℤ y +ℤ z) +ℤ ev r ρ
ev_into ρ i p fp fq y z hp hq e (con b) =
    ap₂ (λ s t. nth ρ i *ℤ s +ℤ t) e (hq (con b)) ∙ sym (+ℤ_assoc (nth ρ i *ℤ y) z b)
ev_into ρ i p fp fq y z hp hq e (nod j r s) =
    step_ind (λ u. ev u ρ ≡ (nth ρ i *ℤ y +ℤ z) +ℤ (nth ρ j *ℤ ev r ρ +ℤ ev s ρ)) (compare i j)
    (λ _. nod i p (fq (nod j r s))) (λ _. mk i (fp r) (fq s)) (λ _. nod j r (into i p fp fq s))
    (ap₂ (λ a t. nth ρ i *ℤ a +ℤ t) e (hq (nod j r s)) ∙ sym (+ℤ_assoc (nth ρ i *ℤ y) z (nth ρ j *ℤ ev r ρ +ℤ ev s ρ)))
    (λ t. ev_mk i (fp r) (fq s) ρ ∙ ap₂ (λ a b. nth ρ i *ℤ a +ℤ b) (hp r) (hq s) ∙ ap (λ a. a +ℤ (z +ℤ ev s ρ)) (*ℤ-distl (nth ρ i) y (ev r ρ))
    ∙ swap4 (nth ρ i *ℤ y) (nth ρ i *ℤ ev r ρ) z (ev s ρ) ∙ ap (λ n. (nth ρ i *ℤ y +ℤ z) +ℤ (nth ρ n *ℤ ev r ρ +ℤ ev s ρ)) (eqb→eq i j t))
    (ap (λ t. nth ρ j *ℤ ev r ρ +ℤ t) (ev_into ρ i p fp fq y z hp hq e s) ∙ left_comm (nth ρ j *ℤ ev r ρ) (nth ρ i *ℤ y +ℤ z) (ev s ρ))

pub ev_plus : (p r : P) (ρ : List ℤ) → ev (plus p r) ρ ≡ ev p ρ +ℤ ev r ρ
ev_plus (con a) r ρ = ev_addc a r ρ
ev_plus (nod i p q) r ρ = ev_into ρ i p (plus p) (plus q) (ev p ρ) (ev q ρ) (λ u. ev_plus p u ρ) (λ u. ev_plus q u ρ) refl r

pub ev_scale : (c : ℤ) (p : P) (ρ : List ℤ) → ev (scale c p) ρ ≡ c *ℤ ev p ρ
ev_scale c (con a) ρ = refl
ev_scale c (nod i p q) ρ =
    ev_mk i (scale c p) (scale c q) ρ ∙ ap₂ (λ a b. nth ρ i *ℤ a +ℤ b) (ev_scale c p ρ) (ev_scale c q ρ)
    ∙ ap (λ t. t +ℤ c *ℤ ev q ρ) (mul_left_comm (nth ρ i) c (ev p ρ)) ∙ sym (*ℤ-distl c (nth ρ i *ℤ ev p ρ) (ev q ρ))

ev_mulv : (i : ℕ) (p : P) (ρ : List ℤ) → ev (mulv i p) ρ ≡ nth ρ i *ℤ ev p ρ
ev_mulv i (con a) ρ = ev_mk i (con a) (con (pos 0)) ρ ∙ +ℤ_idr (nth ρ i *ℤ a)
ev_mulv i (nod j p q) ρ =
    step_ind (λ u. ev u ρ ≡ nth ρ i *ℤ (nth ρ j *ℤ ev p ρ +ℤ ev q ρ)) (compare i j)
    (λ _. nod i (nod j p q) (con (pos 0))) (λ _. nod i (nod j p q) (con (pos 0))) (λ _. nod j (mulv i p) (mulv i q))
    (+ℤ_idr (nth ρ i *ℤ (nth ρ j *ℤ ev p ρ +ℤ ev q ρ)))
    (λ _. +ℤ_idr (nth ρ i *ℤ (nth ρ j *ℤ ev p ρ +ℤ ev q ρ)))
    (ap₂ (λ a b. nth ρ j *ℤ a +ℤ b) (ev_mulv i p ρ) (ev_mulv i q ρ) ∙ ap (λ t. t +ℤ nth ρ i *ℤ ev q ρ) (mul_left_comm (nth ρ j) (nth ρ i) (ev p ρ))
    ∙ sym (*ℤ-distl (nth ρ i) (nth ρ j *ℤ ev p ρ) (ev q ρ)))

ev_onto : (e : E) (p : P) (ρ : List ℤ) → ev (onto e p) ρ ≡ den e ρ *ℤ ev p ρ
ev_onto (v i) p ρ = ev_mulv i p ρ
ev_onto (k c) p ρ = ev_scale c p ρ
ev_onto (a ⊹ b) p ρ = ev_plus (onto a p) (onto b p) ρ ∙ ap₂ ◌+ℤ◌ (ev_onto a p ρ) (ev_onto b p ρ) ∙ sym (*ℤ-distr (den a ρ) (den b ρ) (ev p ρ))
ev_onto (a ⊖ b) p ρ =
    ev_plus (onto a p) (scale (negsuc 0) (onto b p)) ρ
    ∙ ap₂ ◌+ℤ◌ (ev_onto a p ρ) (ev_scale (negsuc 0) (onto b p) ρ ∙ ap (λ t. negsuc 0 *ℤ t) (ev_onto b p ρ) ∙ sym (*ℤ-assoc (negsuc 0) (den b ρ) (ev p ρ)) ∙ ap (λ t. t *ℤ ev p ρ) (sym (neg_is_mul (den b ρ))))
    ∙ sym (*ℤ-distr (den a ρ) (neg_ℤ (den b ρ)) (ev p ρ))
ev_onto (a ⊛ b) p ρ = ev_onto a (onto b p) ρ ∙ ap (λ t. den a ρ *ℤ t) (ev_onto b p ρ) ∙ sym (*ℤ-assoc (den a ρ) (den b ρ) (ev p ρ))
ev_onto (⊝ a) p ρ = ev_scale (negsuc 0) (onto a p) ρ ∙ ap (λ t. negsuc 0 *ℤ t) (ev_onto a p ρ) ∙ sym (neg_is_mul (den a ρ *ℤ ev p ρ)) ∙ sym (neg_mul (den a ρ) (ev p ρ))

pub norm_sound : (e : E) (ρ : List ℤ) → den e ρ ≡ ev (norm e) ρ
norm_sound e ρ = sym (ev_onto e (con (pos 1)) ρ ∙ *ℤ-one-r (den e ρ))

zero_sound : (p : P) (ρ : List ℤ) → T (is_zero p) → ev p ρ ≡ pos 0
zero_sound (con (pos zero)) ρ t = refl
zero_sound (con (pos (suc n))) ρ t = absurd t
zero_sound (con (negsuc n)) ρ t = absurd t
zero_sound (nod i p q) ρ t = absurd t

pub vanishes : (e : E) (ρ : List ℤ) → T (is_zero (norm e)) → den e ρ ≡ pos 0
vanishes e ρ t = norm_sound e ρ ∙ zero_sound (norm e) ρ t

-- a - b = 0 gives a = b
pub same_of_sub : (a b : ℤ) → a -ℤ b ≡ pos 0 → a ≡ b
same_of_sub a b e =
    sym (+ℤ_idr a) ∙ ap (λ t. a +ℤ t) (sym (+ℤ_invl b)) ∙ sym (+ℤ_assoc a (neg_ℤ b) b) ∙ ap (λ t. t +ℤ b) e ∙ +ℤ_idl b

-- the two sides are one polynomial: `ring l r ρ tt`
pub ring : (l r : E) (ρ : List ℤ) → T (is_zero (norm (l ⊖ r))) → den l ρ ≡ den r ρ
ring l r ρ t = same_of_sub (den l ρ) (den r ρ) (vanishes (l ⊖ r) ρ t)

-- the same by equal normal forms: `ring≡ l r ρ refl`
pub ring≡ : (l r : E) (ρ : List ℤ) → norm l ≡ norm r → den l ρ ≡ den r ρ
ring≡ l r ρ e = norm_sound l ρ ∙ ap (λ p. ev p ρ) e ∙ sym (norm_sound r ρ)
