-- What the machine computes at a signed width, and ranges that say where it loses nothing.
use Rattle.std.specs.Prelude.{List, [], ◌∷◌, Bool, true, false, ℕ, zero, suc, ◌+◌, ◌*◌, ◌^◌, ◌≤◌, max, ltb, ℤ, pos, ◌+ℤ◌, ◌-ℤ◌, ◌*ℤ◌, neg_ℤ, nat_abs}
use Rattle.std.specs.Int.{Width}
use mir.Val.{to_z, of_z, hbits}
use borrow.Author.Differences.{up, down}
use Rattle.zring.specs.Expression.{E, v, k, ◌⊹◌, ◌⊖◌, ◌⊛◌, ⊝◌, nth}

-- the numbers from -neg to top
pub record Span : Type 0 where
  pub neg : ℕ
  pub top : ℕ

-- z is in the range
pub record In (z : ℤ) (s : Span) : Type 0 where
  pub over : down z ≤ up z + s.neg
  pub under : up z ≤ down z + s.top

-- a variable: what the code has, what it means, and its range
pub record Leaf : Type 0 where
  pub raw : ℤ
  pub val : ℤ
  pub span : Span

-- what the code has for each variable
abbrev pub raws : List Leaf → List ℤ
raws [] = []
raws (l ∷ ls) = l.raw ∷ raws ls

-- what each variable means
abbrev pub vals : List Leaf → List ℤ
vals [] = []
vals (l ∷ ls) = l.val ∷ vals ls

-- the range of variable i
abbrev pub span_at : List Leaf → ℕ → Span
span_at [] i = record { neg = 0; top = 0 }
span_at (l ∷ ls) zero = l.span
span_at (l ∷ ls) (suc i) = span_at ls i

-- the range of a sum
abbrev pub sum : Span → Span → Span
sum a b = record { neg = a.neg + b.neg; top = a.top + b.top }

-- the range of a negation
abbrev pub turned : Span → Span
turned a = record { neg = a.top; top = a.neg }

-- the largest size in a range
abbrev pub wide : Span → ℕ
wide a = max a.neg a.top

-- the range of a product
abbrev pub times : Span → Span → Span
times a b = record { neg = wide a * wide b; top = wide a * wide b }

-- the range of one number
abbrev pub only : ℤ → Span
only c = record { neg = down c; top = up c }

-- the range of an expression
abbrev pub most : E → List Leaf → Span
most (v i) ls = span_at ls i
most (k c) ls = only c
most (a ⊹ b) ls = sum (most a ls) (most b ls)
most (a ⊖ b) ls = sum (most a ls) (turned (most b ls))
most (a ⊛ b) ls = times (most a ls) (most b ls)
most (⊝ a) ls = turned (most a ls)

-- both hold; the second is not computed where the first fails
abbrev pub both : Bool → Bool → Bool
both true b = b
both false b = false

module _ (w : Width) where
  -- what the machine computes: each result goes to bits and is read again
  abbrev pub run : E → List ℤ → ℤ
  run (v i) ρ = nth ρ i
  run (k c) ρ = c
  run (a ⊹ b) ρ = to_z w (of_z w (run a ρ +ℤ run b ρ))
  run (a ⊖ b) ρ = to_z w (of_z w (run a ρ -ℤ run b ρ))
  run (a ⊛ b) ρ = to_z w (of_z w (run a ρ *ℤ run b ρ))
  run (⊝ a) ρ = to_z w (of_z w (neg_ℤ (run a ρ)))

  -- the last operation, before its result goes to bits
  abbrev pub last : E → List ℤ → ℤ
  last (v i) ρ = nth ρ i
  last (k c) ρ = c
  last (a ⊹ b) ρ = run a ρ +ℤ run b ρ
  last (a ⊖ b) ρ = run a ρ -ℤ run b ρ
  last (a ⊛ b) ρ = run a ρ *ℤ run b ρ
  last (⊝ a) ρ = neg_ℤ (run a ρ)

  -- a range fits the width
  abbrev pub room : Span → Bool
  room s = ltb (wide s) (2 ^ hbits w)

  -- the range of each step fits
  abbrev pub roomy : E → List Leaf → Bool
  roomy (v i) ls = room (span_at ls i)
  roomy (k c) ls = room (only c)
  roomy (a ⊹ b) ls = both (room (most (a ⊹ b) ls)) (both (roomy a ls) (roomy b ls))
  roomy (a ⊖ b) ls = both (room (most (a ⊖ b) ls)) (both (roomy a ls) (roomy b ls))
  roomy (a ⊛ b) ls = both (room (most (a ⊛ b) ls)) (both (roomy a ls) (roomy b ls))
  roomy (⊝ a) ls = both (room (most (⊝ a) ls)) (roomy a ls)

-- variables that are casts of naturals of at most `top`
abbrev pub cast : Width → ℕ → List ℕ → List Leaf
cast w top [] = []
cast w top (n ∷ ns) = record { raw = to_z w n; val = pos n; span = record { neg = 0; top = top } } ∷ cast w top ns

-- each number is at most `top`
abbrev pub AllLe : ℕ → List ℕ → Type 0
AllLe top [] = Unit {0}
AllLe top (n ∷ ns) = (n ≤ top) × AllLe top ns

-- variables that are signed numbers of the width, of size at most `top`
abbrev pub held : Width → ℕ → List ℤ → List Leaf
held w top [] = []
held w top (z ∷ zs) = record { raw = to_z w (of_z w z); val = z; span = record { neg = top; top = top } } ∷ held w top zs

-- each number has size at most `top`
abbrev pub AllNear : ℕ → List ℤ → Type 0
AllNear top [] = Unit {0}
AllNear top (z ∷ zs) = (nat_abs z ≤ top) × AllNear top zs
