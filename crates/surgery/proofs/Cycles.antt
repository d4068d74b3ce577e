-- Reachability under any step function.
use Rattle.std.proofs.Common.{◌≡◌, ℕ, zero, suc, ◌<◌, ◌≤◌, ◌≢◌, ◌⊎◌, sym, refl, ap, ◌∙◌, subst, inl, inr, arith}
use Rattle.std.proofs.lemmas.Bool.{cases_eq}
use Rattle.links.specs.Links.{walk, Reached}
use Rattle.links.proofs.Walks.{pigeons}

-- shut, so that its arguments are seen
unfoldable pub Reach : (ℕ → ℕ) → ℕ → ℕ → Type 0
Reach s a b = Reached s a b

pub reach_in : (s : ℕ → ℕ) (a b : ℕ) → Reached s a b → Reach s a b
unfolding Reach
reach_in s a b r = r

pub reach_out : (s : ℕ → ℕ) (a b : ℕ) → Reach s a b → Reached s a b
unfolding Reach
reach_out s a b r = r

pub here : (s : ℕ → ℕ) (a : ℕ) → Reach s a a
unfolding Reach
here s a = (0, refl)

pub step : (s : ℕ → ℕ) (a b c : ℕ) → Reach s a b → s b ≡ c → Reach s a c
unfolding Reach
step s a b c r e = (suc r.0, ap s r.1 ∙ e)

pub one : (s : ℕ → ℕ) (a b : ℕ) → s a ≡ b → Reach s a b
one s a b e = step s a a b (here s a) e

-- what holds at a and is kept by each step holds at b
pub along_reach : (s : ℕ → ℕ) (a b : ℕ) (P : ℕ → Type 0) → Reach s a b → P a → ((x : ℕ) → P x → P (s x)) → P b
unfolding Reach
along_reach s a b P r base more = subst P r.1 (go r.0)
  where
    go : (k : ℕ) → P (walk s k a)
    go zero = base
    go (suc k) = more (walk s k a) (go k)

pub trans : (s : ℕ → ℕ) (a b c : ℕ) → Reach s a b → Reach s b c → Reach s a c
trans s a b c p q = along_reach s b c (λ x. Reach s a x) q p (λ x r. step s a x (s x) r refl)

pub two : (s : ℕ → ℕ) (a b c : ℕ) → s a ≡ b → s b ≡ c → Reach s a c
two s a b c p q = step s a b c (one s a b p) q

pub same : (s : ℕ → ℕ) (a b : ℕ) → a ≡ b → Reach s a b
same s a b e = subst (λ x. Reach s a x) e (here s a)

-- a map that takes each step to some steps takes roads to roads
pub sim : (s s' f : ℕ → ℕ) (P : ℕ → Type 0) (a b : ℕ) → ((x : ℕ) → P x → P (s x)) → ((x : ℕ) → P x → Reach s' (f x) (f (s x))) → P a → Reach s a b → Reach s' (f a) (f b)
sim s s' f P a b keeps steps p r =
    (along_reach s a b (λ x. P x × Reach s' (f a) (f x)) r (p, here s' (f a)) (λ x h. (keeps x h.0, trans s' _ _ _ h.1 (steps x h.0)))).1

-- all elements of one class reach each other: each class is one cycle, whatever its root
abbrev pub Conn : (s o : ℕ → ℕ) (P : ℕ → Type 0) → Type 0
Conn s o P = (h k : ℕ) → P h → P k → o h ≡ o k → Reach s h k

-- Cycles are carried over: the old step is followed by some new steps through the map f; each new element leads to an old one of its
-- class, and is led to from an old one of its class. (g names the old class of a new one.)
pub carry : (s o s' o' f g : ℕ → ℕ) (P P' : ℕ → Type 0)
    → Conn s o P
    → ((x : ℕ) → P x → P (s x))
    → ((x : ℕ) → P x → Reach s' (f x) (f (s x)))
    → ((h : ℕ) → P' h → (a : ℕ) × (P a × (o a ≡ g (o' h)) × Reach s' h (f a)))
    → ((k : ℕ) → P' k → (b : ℕ) × (P b × (o b ≡ g (o' k)) × Reach s' (f b) k))
    → Conn s' o' P'
carry s o s' o' f g P P' conn keeps steps lead trail h k ph pk e =
    let l = lead h ph in
    let t = trail k pk in
    trans s' _ _ _ l.1.2 (trans s' _ _ _ (sim s s' f P l.0 t.0 keeps steps l.1.0 (conn l.0 t.0 l.1.0 t.1.0 (l.1.1 ∙ ap g e ∙ sym t.1.1))) t.1.2)

-- ---- a permutation of finitely many returns

find : (p : ℕ → ℕ) (x m : ℕ) → ((j : ℕ) × (p j ≡ x)) ⊎ ((j : ℕ) → j < m → p j ≢ x)
find p x zero = inr (λ j h. absurd (omega (arith, h)))
find p x (suc m) =
    elim (cases_eq (p m) x) [
      | inl e ↦ inl (m, e)
      | inr d ↦ elim (find p x m) [
        | inl w ↦ inl w
        | inr a ↦ inr (λ j h. elim (cases_eq j m) [ inl e ↦ λ q. d (ap p (sym e) ∙ q) | inr k ↦ a j (omega arith) ])
      ]
    ]

walk_shift : (s : ℕ → ℕ) (k a : ℕ) → walk s k (s a) ≡ s (walk s k a)
walk_shift s zero a = refl
walk_shift s (suc k) a = ap s (walk_shift s k a)

-- a step that keeps P, is injective on it, and P holds only below m
pub record Turns (s : ℕ → ℕ) (P : ℕ → Type 0) (m : ℕ) : Type 0 where
  pub keeps : (x : ℕ) → P x → P (s x)
  pub low : (x : ℕ) → P x → x < m
  pub inj : (x y : ℕ) → P x → P y → s x ≡ s y → x ≡ y

period : (s : ℕ → ℕ) (P : ℕ → Type 0) (m x : ℕ) → Turns s P m → P x → Reach s (s x) x
unfolding Reach
period s P m x T p =
    elim (find (λ j. walk s j (s x)) x m) [ inl w ↦ w | inr away ↦ absurd (crowd (pigeons m (suc m) (λ i. walk s i x) (λ i h. T.low _ (all i)) (λ i j h l e. omega (arith, h, apart away i j (omega arith) (omega arith) e)))) ]
  where
    crowd : suc m ≤ m → ⊥
    crowd h = omega arith

    all : (i : ℕ) → P (walk s i x)
    all zero = p
    all (suc i) = T.keeps _ (all i)

    apart : ((j : ℕ) → j < m → walk s j (s x) ≢ x) → (i j : ℕ) → i ≤ m → j ≤ m → walk s i x ≡ walk s j x → i ≡ j
    apart away zero zero u v e = refl
    apart away zero (suc j) u v e = absurd (away j v (walk_shift s j x ∙ sym e))
    apart away (suc i) zero u v e = absurd (away i u (walk_shift s i x ∙ e))
    apart away (suc i) (suc j) u v e = ap suc (apart away i j (omega arith) (omega arith) (T.inj _ _ (all i) (all j) e))

pub back : (s : ℕ → ℕ) (P : ℕ → Type 0) (m a b : ℕ) → Turns s P m → P a → Reach s a b → Reach s b a
back s P m a b T p r =
    (along_reach s a b (λ x. P x × Reach s x a) r (p, here s a) (λ x h. (T.keeps x h.0, trans s _ _ _ (period s P m x T h.0) h.1))).1

-- a change of root: what is a cycle from one root is a cycle from every root
pub rootless : (s o r : ℕ → ℕ) (P : ℕ → Type 0) (m : ℕ) → Turns s P m → ((h : ℕ) → P h → P (r (o h)) × Reach s (r (o h)) h) → Conn s o P
rootless s o r P m T reach h k ph pk e =
    trans s _ _ _ (back s P m _ _ T (reach h ph).0 (reach h ph).1) (subst (λ v. Reach s (r v) k) (sym e) (reach k pk).1)
