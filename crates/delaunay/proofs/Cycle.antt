-- The order of numbers on a ring.
use Rattle.std.proofs.Common.{◌≡◌, ℕ, suc, ◌+◌, ◌<◌, ◌≤◌, ◌⊎◌, sym, subst, inl, inr, eq-or-lt_of_le, arith}
use native.Mathlib.Decide.{dec_lt}
use Rattle.delaunay.specs.Ring.{Cyc, Next}

pub lt_or_ge : (a b : ℕ) → (a < b) ⊎ (b ≤ a)
lt_or_ge a b = elim (dec_lt a b) [ yes h ↦ inl h | no h ↦ inr (omega arith) ]

-- the order by what each comparison implies: what omega can show
pub cyc_in : (k a b c : ℕ) → a < k → b < k → c < k → (c ≤ b → (c < a) × (a < b)) → (a ≤ c → (a < b) × (b < c)) → (b ≤ a → (b < c) × (c < a)) → Cyc k a b c
cyc_in k a b c ha hb hc p q r =
    elim (lt_or_ge b c) [
      | inl h ↦ elim (lt_or_ge c a) [
        | inl l ↦ inr (inl (h, l, ha))
        | inr l ↦ let s = q l in inl (s.0, s.1, hc)
      ]
      | inr h ↦ let s = p h in inr (inr (s.0, s.1, hb))
    ]

pub cyc_turn : (k a b c : ℕ) → Cyc k a b c → Cyc k b c a
cyc_turn k a b c (inl h) = inr (inr h)
cyc_turn k a b c (inr (inl h)) = inl h
cyc_turn k a b c (inr (inr h)) = inr (inl h)

-- j and d both between a and b
pub between : (k a b d j : ℕ) → Cyc k a j b → Cyc k b a d → (j ≡ d) ⊎ (Cyc k a j d ⊎ Cyc k d j b)
between k a b d j p q =
    elim (lt_or_ge j d) [
      | inl h ↦ inr (low k a b d j p q h)
      | inr h ↦ elim (eq-or-lt_of_le h) [ inl e ↦ inl (sym e) | inr l ↦ inr (high k a b d j p q l) ]
    ]
  where
    low : (k a b d j : ℕ) → Cyc k a j b → Cyc k b a d → j < d → Cyc k a j d ⊎ Cyc k d j b
    low k a b d j (inl p) q h = inl (cyc_in k a j d (omega arith) (omega arith) (omega arith) (omega arith) (omega arith) (omega arith))
    low k a b d j (inr (inl p)) (inl q) h = inr (cyc_in k d j b (omega arith) (omega arith) (omega arith) (omega arith) (omega arith) (omega arith))
    low k a b d j (inr (inl p)) (inr q) h = inl (cyc_in k a j d (omega arith) (omega arith) (omega arith) (omega arith) (omega arith) (omega arith))
    low k a b d j (inr (inr p)) q h = inl (cyc_in k a j d (omega arith) (omega arith) (omega arith) (omega arith) (omega arith) (omega arith))

    high : (k a b d j : ℕ) → Cyc k a j b → Cyc k b a d → d < j → Cyc k a j d ⊎ Cyc k d j b
    high k a b d j (inl p) q h = inr (cyc_in k d j b (omega arith) (omega arith) (omega arith) (omega arith) (omega arith) (omega arith))
    high k a b d j (inr (inl p)) q h = inr (cyc_in k d j b (omega arith) (omega arith) (omega arith) (omega arith) (omega arith) (omega arith))
    high k a b d j (inr (inr p)) (inl q) h = inr (cyc_in k d j b (omega arith) (omega arith) (omega arith) (omega arith) (omega arith) (omega arith))
    high k a b d j (inr (inr p)) (inr q) h = inl (cyc_in k a j d (omega arith) (omega arith) (omega arith) (omega arith) (omega arith) (omega arith))

-- b is at most n steps on from a
abbrev pub Near : ℕ → ℕ → ℕ → ℕ → Type 0
Near k n a b = (a < b → b ≤ a + n) × (b ≤ a → b + k ≤ a + n)

pub near_all : (k a b : ℕ) → b < k → Near k k a b
near_all k a b h = omega arith

pub nearer_left : (k n a b d : ℕ) → Cyc k b a d → Near k (suc n) a b → Near k n a d
nearer_left k n a b d (inl q) h = let m = h.1 (omega arith) in omega arith
nearer_left k n a b d (inr (inl q)) h = let m = h.0 (omega arith) in omega arith
nearer_left k n a b d (inr (inr q)) h = let m = h.1 (omega arith) in omega arith

pub nearer_right : (k n a b d : ℕ) → Cyc k b a d → Near k (suc n) a b → Near k n d b
nearer_right k n a b d (inl q) h = let m = h.1 (omega arith) in omega arith
nearer_right k n a b d (inr (inl q)) h = let m = h.0 (omega arith) in omega arith
nearer_right k n a b d (inr (inr q)) h = let m = h.1 (omega arith) in omega arith

pub not_near : (k a b j : ℕ) → Cyc k a j b → Near k 0 a b → ⊥
not_near k a b j (inl q) h = let m = h.0 (omega arith) in omega arith
not_near k a b j (inr (inl q)) h = let m = h.1 (omega arith) in omega arith
not_near k a b j (inr (inr q)) h = let m = h.1 (omega arith) in omega arith

pub not_next : (k a b j : ℕ) → Cyc k a j b → Next k a b → ⊥
not_next k a b j p q = omega arith

-- a flip keeps the order of the ring
pub flip_order : (k a b c d : ℕ) → Cyc k a b c → Cyc k b a d → Cyc k c d b × Cyc k d c a
flip_order k a b c d p q = (
  cyc_in k c d b (omega arith) (omega arith) (omega arith) (omega arith) (omega arith) (omega arith),
  cyc_in k d c a (omega arith) (omega arith) (omega arith) (omega arith) (omega arith) (omega arith),
)

pub cyc3 : (k : ℕ) {a a' b b' c c' : ℕ} → a ≡ a' → b ≡ b' → c ≡ c' → Cyc k a b c → Cyc k a' b' c'
cyc3 k {a} {a'} {b} {b'} {c} {c'} x y z h = subst (λ n. Cyc k n b' c') x (subst (λ n. Cyc k a n c') y (subst (λ n. Cyc k a b n) z h))
