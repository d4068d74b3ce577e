-- How large sides and circles of places are.
use Rattle.std.proofs.Common.{◌≡◌, ℕ, ◌^◌, ◌<◌, ◌≤◌, [], ◌∷◌, ℤ, pos, nat_abs, ◌≤ℤ◌, refl, subst, arith, lit<, w64}
use borrow.Author.Differences.{ints}
use Rattle.zring.proofs.Machine.{AllLe, cast_below}
use Rattle.zring.proofs.Corners.{at_corners}
use Rattle.plane.specs.Plane.{Pt, S, C}
use Rattle.plane.specs.Spot.{«at», spot, Small}
use Rattle.plane.specs.declared.place.Place.{Place}
use Rattle.plane.proofs.Sym.{SE, CE}

-- sharp: by the 64 corners
pub side_at_small : (ax ay bx by qx qy : ℕ) → AllLe 16383 (ax ∷ ay ∷ bx ∷ by ∷ qx ∷ qy ∷ []) → nat_abs (S («at» ax ay) («at» bx by) («at» qx qy)) ≤ 268402689
unfolding S
side_at_small ax ay bx by qx qy h = at_corners 16383 268402689 6 (ax ∷ ay ∷ bx ∷ by ∷ qx ∷ qy ∷ []) (SE 0 1 2) h (lit< tt) tt

pub side_sharp : S («at» 0 0) («at» 16383 0) («at» 0 16383) ≡ pos 268402689
unfolding S
side_sharp = refl

pub circle_at_small : (ax ay bx by cx cy dx dy : ℕ) → AllLe 16383 (ax ∷ ay ∷ bx ∷ by ∷ cx ∷ cy ∷ dx ∷ dy ∷ []) → nat_abs (C («at» ax ay) («at» bx by) («at» cx cy) («at» dx dy)) < 2 ^ 60
unfolding C
circle_at_small ax ay bx by cx cy dx dy h = cast_below w64 16383 (ax ∷ ay ∷ bx ∷ by ∷ cx ∷ cy ∷ dx ∷ dy ∷ []) (CE 0 1 2 3) (2 ^ 60) h tt tt tt

-- ---- points with small coordinates
small_is : (z : ℤ) → pos 0 ≤ℤ z → pos (nat_abs z) ≡ z
small_is z h = omega (arith, ints)

small_nat : (z : ℤ) → pos 0 ≤ℤ z → z ≤ℤ pos 16383 → nat_abs z ≤ 16383
small_nat z h l = omega (arith, ints)

abbrev again : Pt → Pt
again a = «at» (nat_abs a.x) (nat_abs a.y)

again_is : (a : Pt) → Small a → again a ≡ a
again_is a h = λ i. record { x = small_is a.x h.x_low i; y = small_is a.y h.y_low i }

again_x : (a : Pt) → Small a → nat_abs a.x ≤ 16383
again_x a h = small_nat a.x h.x_low h.x_high

again_y : (a : Pt) → Small a → nat_abs a.y ≤ 16383
again_y a h = small_nat a.y h.y_low h.y_high

pub side_small : (a b c : Pt) → Small a → Small b → Small c → nat_abs (S a b c) ≤ 268402689
side_small a b c ha hb hc =
    subst (λ z. nat_abs (S a b z) ≤ 268402689) (again_is c hc)
    (subst (λ z. nat_abs (S a z (again c)) ≤ 268402689) (again_is b hb)
    (subst (λ z. nat_abs (S z (again b) (again c)) ≤ 268402689) (again_is a ha)
    (side_at_small (nat_abs a.x) (nat_abs a.y) (nat_abs b.x) (nat_abs b.y) (nat_abs c.x) (nat_abs c.y)
    (again_x a ha, (again_y a ha, (again_x b hb, (again_y b hb, (again_x c hc, (again_y c hc, tt)))))))))

pub circle_small : (a b c d : Pt) → Small a → Small b → Small c → Small d → nat_abs (C a b c d) < 2 ^ 60
circle_small a b c d ha hb hc hd =
    subst (λ z. nat_abs (C a b c z) < 2 ^ 60) (again_is d hd)
    (subst (λ z. nat_abs (C a b z (again d)) < 2 ^ 60) (again_is c hc)
    (subst (λ z. nat_abs (C a z (again c) (again d)) < 2 ^ 60) (again_is b hb)
    (subst (λ z. nat_abs (C z (again b) (again c) (again d)) < 2 ^ 60) (again_is a ha)
    (circle_at_small (nat_abs a.x) (nat_abs a.y) (nat_abs b.x) (nat_abs b.y) (nat_abs c.x) (nat_abs c.y) (nat_abs d.x) (nat_abs d.y)
    (again_x a ha, (again_y a ha, (again_x b hb, (again_y b hb, (again_x c hc, (again_y c hc, (again_x d hd, (again_y d hd, tt))))))))))))

-- ---- places
pub spot_small : (p : Place) → Small (spot p)
spot_small p =
    let h = p.columns in
    let l = p.rows in
    record { x_low = omega (arith, ints); x_high = omega (arith, ints); y_low = omega (arith, ints); y_high = omega (arith, ints) }
