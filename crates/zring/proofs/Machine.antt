-- Where the ranges fit at each step, the machine's value is the integer's.
use mathlib.Core.Path.{◌≡◌, refl, ◌∙◌, ap, ap₂, subst⁻¹}
use mathlib.Core.List.{List, [], ◌∷◌}
use mathlib.Core.Bool.{Bool, true, false}
use Prim.Native.Nat.{ℕ, zero, suc, ◌*◌, ◌^◌, ◌≤◌, ◌<◌}
use native.Mathlib.Nat.{le_trans, le_of_eq, lt_of_le_of_lt, mul-le-mul}
use native.Mathlib.Omega.{arith}
use lib.Dec.{T, ltb, ltb→lt}
use lib.IntN.{ℤ, pos, negsuc, ◌+ℤ◌, ◌-ℤ◌, ◌*ℤ◌, neg_ℤ, nat_abs}
use mir.Syntax.{Width}
use mir.Val.{SFits, to_z, of_z, hbits}
use mir.Facts.{to_z-of_z, to_z_pos}
use borrow.Author.Differences.{ints}
use Rattle.zring.specs.Expression.{E, v, k, ◌⊹◌, ◌⊖◌, ◌⊛◌, ⊝◌, nth, den}
pub use Rattle.zring.specs.Machine.{Span, In, Leaf, raws, vals, span_at, sum, turned, wide, times, only, most, both, run, last, room, roomy, cast, AllLe, held, AllNear}

-- what the code has is what it means, and that is in its range
pub record LeafOk (l : Leaf) : Type 0 where
  pub same : l.raw ≡ l.val
  pub within : In l.val l.span

abbrev pub Ok : List Leaf → Type 0
Ok [] = Unit {0}
Ok (l ∷ ls) = LeafOk l × Ok ls

pub both_out : (a b : Bool) → T (both a b) → T a × T b
both_out true b t = (tt, t)
both_out false b t = absurd t

in_sum : (a b : ℤ) (s t : Span) → In a s → In b t → In (a +ℤ b) (sum s t)
in_sum a b s t h l = record { over = omega (arith, ints); under = omega (arith, ints) }

in_neg : (a : ℤ) (s : Span) → In a s → In (neg_ℤ a) (turned s)
in_neg a s h = record { over = omega (arith, ints); under = omega (arith, ints) }

abs_neg : (a : ℤ) → nat_abs (neg_ℤ a) ≡ nat_abs a
abs_neg (pos zero) = refl
abs_neg (pos (suc n)) = refl
abs_neg (negsuc n) = refl

abs_mul : (a b : ℤ) → nat_abs (a *ℤ b) ≡ nat_abs a * nat_abs b
abs_mul (pos a) (pos b) = refl
abs_mul (pos a) (negsuc b) = abs_neg (pos (a * suc b))
abs_mul (negsuc a) (pos b) = abs_neg (pos (suc a * b))
abs_mul (negsuc a) (negsuc b) = refl

abs_of : (a : ℤ) (s : Span) → In a s → nat_abs a ≤ wide s
abs_of (pos n) s h = let u = h.under in omega arith
abs_of (negsuc n) s h = let o = h.over in omega arith

in_of : (a : ℤ) (n : ℕ) → nat_abs a ≤ n → In a (record { neg = n; top = n })
in_of (pos m) n h = record { over = omega arith; under = omega arith }
in_of (negsuc m) n h = record { over = omega arith; under = omega arith }

in_mul : (a b : ℤ) (s t : Span) → In a s → In b t → In (a *ℤ b) (times s t)
in_mul a b s t h l = in_of (a *ℤ b) (wide s * wide t) (le_trans (le_of_eq (abs_mul a b)) (mul-le-mul (abs_of a s h) (abs_of b t l)))

in_self : (c : ℤ) → In c (only c)
in_self c = record { over = omega arith; under = omega arith }

fits_abs : (w : Width) (z : ℤ) → nat_abs z < 2 ^ hbits w → SFits w z
fits_abs w (pos n) h = record { sfits = h }
fits_abs w (negsuc n) h = record { sfits = omega arith }

leaf_is : (ls : List Leaf) (i : ℕ) → Ok ls → nth (raws ls) i ≡ nth (vals ls) i
leaf_is [] i o = refl
leaf_is (l ∷ ls) zero o = o.0.same
leaf_is (l ∷ ls) (suc i) o = leaf_is ls i o.1

leaf_within : (ls : List Leaf) (i : ℕ) → Ok ls → In (nth (vals ls) i) (span_at ls i)
leaf_within [] i o = in_self (pos 0)
leaf_within (l ∷ ls) zero o = o.0.within
leaf_within (l ∷ ls) (suc i) o = leaf_within ls i o.1

module _ (w : Width) where
  back : (z y : ℤ) (s : Span) → z ≡ y → In y s → T (room w s) → (SFits w z) × (to_z w (of_z w z) ≡ y)
  back z y s e h t =
      let f : SFits w z = subst⁻¹ (SFits w) e (fits_abs w y (lt_of_le_of_lt (abs_of y s h) (ltb→lt (wide s) (2 ^ hbits w) t))) in
      (f, to_z-of_z f ∙ e)

  meets : (e : E) (ls : List Leaf) → Ok ls → T (roomy w e ls) → (SFits w (last w e (raws ls))) × (run w e (raws ls) ≡ den e (vals ls)) × In (den e (vals ls)) (most e ls)
  meets (v i) ls o t =
      ((back (nth (raws ls) i) (nth (vals ls) i) (span_at ls i) (leaf_is ls i o) (leaf_within ls i o) t).0, leaf_is ls i o, leaf_within ls i o)
  meets (k c) ls o t = ((back c c (only c) refl (in_self c) t).0, refl, in_self c)
  meets (a ⊹ b) ls o t =
      let s = both_out (room w (most (a ⊹ b) ls)) (both (roomy w a ls) (roomy w b ls)) t in
      let u = both_out (roomy w a ls) (roomy w b ls) s.1 in
      let ma = meets a ls o u.0 in
      let mb = meets b ls o u.1 in
      let h : In (den (a ⊹ b) (vals ls)) (most (a ⊹ b) ls) = in_sum (den a (vals ls)) (den b (vals ls)) (most a ls) (most b ls) ma.2 mb.2 in
      let r = back (run w a (raws ls) +ℤ run w b (raws ls)) (den a (vals ls) +ℤ den b (vals ls)) (most (a ⊹ b) ls) (ap₂ ◌+ℤ◌ ma.1 mb.1) h s.0 in
      (r.0, r.1, h)
  meets (a ⊖ b) ls o t =
      let s = both_out (room w (most (a ⊖ b) ls)) (both (roomy w a ls) (roomy w b ls)) t in
      let u = both_out (roomy w a ls) (roomy w b ls) s.1 in
      let ma = meets a ls o u.0 in
      let mb = meets b ls o u.1 in
      let h : In (den (a ⊖ b) (vals ls)) (most (a ⊖ b) ls) = in_sum (den a (vals ls)) (neg_ℤ (den b (vals ls))) (most a ls) (turned (most b ls)) ma.2 (in_neg (den b (vals ls)) (most b ls) mb.2) in
      let r = back (run w a (raws ls) -ℤ run w b (raws ls)) (den a (vals ls) -ℤ den b (vals ls)) (most (a ⊖ b) ls) (ap₂ ◌-ℤ◌ ma.1 mb.1) h s.0 in
      (r.0, r.1, h)
  meets (a ⊛ b) ls o t =
      let s = both_out (room w (most (a ⊛ b) ls)) (both (roomy w a ls) (roomy w b ls)) t in
      let u = both_out (roomy w a ls) (roomy w b ls) s.1 in
      let ma = meets a ls o u.0 in
      let mb = meets b ls o u.1 in
      let h : In (den (a ⊛ b) (vals ls)) (most (a ⊛ b) ls) = in_mul (den a (vals ls)) (den b (vals ls)) (most a ls) (most b ls) ma.2 mb.2 in
      let r = back (run w a (raws ls) *ℤ run w b (raws ls)) (den a (vals ls) *ℤ den b (vals ls)) (most (a ⊛ b) ls) (ap₂ ◌*ℤ◌ ma.1 mb.1) h s.0 in
      (r.0, r.1, h)
  meets (⊝ a) ls o t =
      let s = both_out (room w (most (⊝ a) ls)) (roomy w a ls) t in
      let ma = meets a ls o s.1 in
      let h : In (den (⊝ a) (vals ls)) (most (⊝ a) ls) = in_neg (den a (vals ls)) (most a ls) ma.2 in
      let r = back (neg_ℤ (run w a (raws ls))) (neg_ℤ (den a (vals ls))) (most (⊝ a) ls) (ap neg_ℤ ma.1) h s.0 in
      (r.0, r.1, h)

  pub run_fits : (e : E) (ls : List Leaf) → Ok ls → T (roomy w e ls) → SFits w (last w e (raws ls))
  run_fits e ls o t = (meets e ls o t).0

  pub run_in : (e : E) (ls : List Leaf) → Ok ls → T (roomy w e ls) → In (den e (vals ls)) (most e ls)
  run_in e ls o t = (meets e ls o t).2

  pub run_is : (e : E) (ls : List Leaf) → Ok ls → T (roomy w e ls) → run w e (raws ls) ≡ den e (vals ls)
  run_is e ls o t = (meets e ls o t).1

-- ---- variables that are casts of naturals, under one bound
in_top : (n top : ℕ) → n ≤ top → In (pos n) (record { neg = 0; top = top })
in_top n top h = record { over = omega arith; under = omega arith }

cast_ok : (w : Width) (top : ℕ) (ns : List ℕ) → top < 2 ^ hbits w → AllLe top ns → Ok (cast w top ns)
cast_ok w top [] h a = tt
cast_ok w top (n ∷ ns) h a = (record { same = to_z_pos w (lt_of_le_of_lt a.0 h); within = in_top n top a.0 }, cast_ok w top ns h a.1)

pub cast_fits : (w : Width) (top : ℕ) (ns : List ℕ) (e : E) → AllLe top ns → T (ltb top (2 ^ hbits w)) → T (roomy w e (cast w top ns)) → SFits w (last w e (raws (cast w top ns)))
cast_fits w top ns e a h t = run_fits w e (cast w top ns) (cast_ok w top ns (ltb→lt top (2 ^ hbits w) h) a) t

pub cast_is : (w : Width) (top : ℕ) (ns : List ℕ) (e : E) → AllLe top ns → T (ltb top (2 ^ hbits w)) → T (roomy w e (cast w top ns)) → run w e (raws (cast w top ns)) ≡ den e (vals (cast w top ns))
cast_is w top ns e a h t = run_is w e (cast w top ns) (cast_ok w top ns (ltb→lt top (2 ^ hbits w) h) a) t

-- ---- variables that are signed numbers of the same width, within one bound either way
held_ok : (w : Width) (top : ℕ) (zs : List ℤ) → top < 2 ^ hbits w → AllNear top zs → Ok (held w top zs)
held_ok w top [] h a = tt
held_ok w top (z ∷ zs) h a = (record { same = to_z-of_z (fits_abs w z (lt_of_le_of_lt a.0 h)); within = in_of z top a.0 }, held_ok w top zs h a.1)

pub held_fits : (w : Width) (top : ℕ) (zs : List ℤ) (e : E) → AllNear top zs → T (ltb top (2 ^ hbits w)) → T (roomy w e (held w top zs)) → SFits w (last w e (raws (held w top zs)))
held_fits w top zs e a h t = run_fits w e (held w top zs) (held_ok w top zs (ltb→lt top (2 ^ hbits w) h) a) t

pub held_is : (w : Width) (top : ℕ) (zs : List ℤ) (e : E) → AllNear top zs → T (ltb top (2 ^ hbits w)) → T (roomy w e (held w top zs)) → run w e (raws (held w top zs)) ≡ den e (vals (held w top zs))
held_is w top zs e a h t = run_is w e (held w top zs) (held_ok w top zs (ltb→lt top (2 ^ hbits w) h) a) t

-- the range itself
pub cast_below : (w : Width) (top : ℕ) (ns : List ℕ) (e : E) (most_is : ℕ) → AllLe top ns → T (ltb top (2 ^ hbits w)) → T (roomy w e (cast w top ns)) → T (ltb (wide (most e (cast w top ns))) most_is) → nat_abs (den e (vals (cast w top ns))) < most_is
cast_below w top ns e m a h t b =
    lt_of_le_of_lt (abs_of (den e (vals (cast w top ns))) (most e (cast w top ns)) (run_in w e (cast w top ns) (cast_ok w top ns (ltb→lt top (2 ^ hbits w) h) a) t)) (ltb→lt (wide (most e (cast w top ns))) m b)
