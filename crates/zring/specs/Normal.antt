-- Normal forms of polynomials. An expression is multiplied onto a normal form, leaf by leaf.
use Rattle.std.specs.Prelude.{List, Bool, true, false, ℤ, pos, negsuc, ◌+ℤ◌, ◌*ℤ◌}
use Prim.Native.Nat.{ℕ, zero, suc, compare, Ordering}
use Rattle.zring.specs.Expression.{E, v, k, ◌⊹◌, ◌⊖◌, ◌⊛◌, ⊝◌, nth}

-- a number, or x·p + q: x is the least variable, those of p are x or later, those of q later, and p is not zero
pub data P : Type 0 where
  con : ℤ → P
  nod : ℕ → P → P → P

-- the value of a normal form
abbrev pub ev : P → List ℤ → ℤ
ev (con a) ρ = a
ev (nod i p q) ρ = nth ρ i *ℤ ev p ρ +ℤ ev q ρ

-- cases of a comparison; each way is computed only where it is taken
abbrev pub step : Ordering → (Unit {0} → P) → (Unit {0} → P) → (Unit {0} → P) → P
step Ordering.lt f g h = f tt
step Ordering.eq f g h = g tt
step Ordering.gt f g h = h tt

-- x·p + q where p may be zero
abbrev pub mk : ℕ → P → P → P
mk i (con (pos zero)) q = q
mk i (con (pos (suc n))) q = nod i (con (pos (suc n))) q
mk i (con (negsuc n)) q = nod i (con (negsuc n)) q
mk i (nod j a b) q = nod i (nod j a b) q

-- a number and a normal form
abbrev pub addc : ℤ → P → P
addc a (con b) = con (a +ℤ b)
addc a (nod i p q) = nod i p (addc a q)

-- x·p and the rest into a normal form: fp adds p, fq adds the rest
abbrev pub into : ℕ → P → (P → P) → (P → P) → P → P
into i p fp fq (con b) = nod i p (fq (con b))
into i p fp fq (nod j r s) = step (compare i j) (λ _. nod i p (fq (nod j r s))) (λ _. mk i (fp r) (fq s)) (λ _. nod j r (into i p fp fq s))

-- the sum of two normal forms
abbrev pub plus : P → P → P
plus (con a) r = addc a r
plus (nod i p q) r = into i p (plus p) (plus q) r

-- a number times a normal form
abbrev pub scale : ℤ → P → P
scale c (con a) = con (c *ℤ a)
scale c (nod i p q) = mk i (scale c p) (scale c q)

-- a variable times a normal form
abbrev pub mulv : ℕ → P → P
mulv i (con a) = mk i (con a) (con (pos 0))
mulv i (nod j p q) = step (compare i j) (λ _. nod i (nod j p q) (con (pos 0))) (λ _. nod i (nod j p q) (con (pos 0))) (λ _. nod j (mulv i p) (mulv i q))

-- an expression times a normal form
abbrev pub onto : E → P → P
onto (v i) p = mulv i p
onto (k c) p = scale c p
onto (a ⊹ b) p = plus (onto a p) (onto b p)
onto (a ⊖ b) p = plus (onto a p) (scale (negsuc 0) (onto b p))
onto (a ⊛ b) p = onto a (onto b p)
onto (⊝ a) p = scale (negsuc 0) (onto a p)

-- the normal form of an expression
abbrev pub norm : E → P
norm e = onto e (con (pos 1))

-- the test for the zero polynomial
abbrev pub is_zero : P → Bool
is_zero (con (pos zero)) = true
is_zero (con (pos (suc n))) = false
is_zero (con (negsuc n)) = false
is_zero (nod i p q) = false
