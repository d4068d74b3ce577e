-- The place of an entry of a shelf, as the code finds it.
use Rattle.std.proofs.Common.{◌≡◌, ℕ, zero, suc, ◌<◌, ◌≤◌, List, [], ◌∷◌, length, get_or, pos, Ok, Err, Result, sym, refl, ap, ◌∙◌, subst, ap₂, le_of_suc-le-suc, not-suc-le-zero, arith, lit≤}
use borrow.Author.Differences.{ints}
use Rattle.plane.specs.Plane.{Pt, pt}
use Rattle.entry.specs.Placing.{spot_of, both, on_axis}
use Rattle.entry.specs.declared.fault.Axis.TheVariants.{X, Y}
use Rattle.entry.specs.declared.fault.Cause.{Cause}
use Rattle.entry.specs.declared.fault.EntryFault.{EntryFault}
use Rattle.links.specs.Law.{EveryPlace, Gridded}
use Rattle.links.specs.Shelf.{spot_at, point_at}
use Rattle.links.specs.Verdict.{x_coordinate, y_coordinate}

pos_same : (i j : ℕ) → pos i ≡ pos j → i ≡ j
pos_same i j e = omega (arith, ints)

-- equal points have equal coordinates
pub point_x : (a b c d : ℕ) → pt (pos a) (pos b) ≡ pt (pos c) (pos d) → a ≡ c
point_x a b c d e = pos_same a c (ap (λ p. p.x) e)

pub point_y : (a b c d : ℕ) → pt (pos a) (pos b) ≡ pt (pos c) (pos d) → b ≡ d
point_y a b c d e = pos_same b d (ap (λ p. p.y) e)

abbrev same_spot : ℕ × ℕ → Result (ℕ × ℕ) EntryFault
same_spot p = Ok p

parts : {a b x y : ℕ} → same_spot (a, b) ≡ Ok (x, y) → (a ≡ x) × (b ≡ y)
parts e = (ap (λ r. x_coordinate r) e, ap (λ r. y_coordinate r) e)

fault : {A : Type 0} {f : EntryFault} {p : ℕ × ℕ} → Err f ≡ Ok p → A
fault e = absurd (subst tells e tt)
  where
    tells : Result (ℕ × ℕ) EntryFault → Type 0
    tells (Ok p) = ⊥
    tells (Err f) = Unit {0}

module _ {E Sc : Type 0} (reading : Sc → Result ℕ Cause) (across along : E → Sc) where
  pub spot_past : (es : List E) (v : ℕ) → length es ≤ v → spot_at reading across along es v ≡ Ok (0, 0)
  spot_past [] v h = refl
  spot_past (e ∷ es) zero h = absurd (not-suc-le-zero h)
  spot_past (e ∷ es) (suc v) h = spot_past es v (le_of_suc-le-suc h)

  pub spot_is : (es : List E) (v : ℕ) (d : E) → v < length es → spot_at reading across along es v ≡ spot_of reading (across (get_or es v d)) (along (get_or es v d))
  spot_is [] v d h = absurd (not-suc-le-zero h)
  spot_is (e ∷ es) zero d h = refl
  spot_is (e ∷ es) (suc v) d h = spot_is es v d (le_of_suc-le-suc h)

  point_of : Result (ℕ × ℕ) EntryFault → Pt
  point_of r = pt (pos (x_coordinate r)) (pos (y_coordinate r))

  pub place_past : (es : List E) (v : ℕ) → length es ≤ v → pt (pos 0) (pos 0) ≡ point_at reading across along es v
  place_past es v h = ap (λ r. pt (pos (x_coordinate r)) (pos (y_coordinate r))) (sym (spot_past es v h))

  pub place_is : (es : List E) (v : ℕ) (e : E) (x y : ℕ) → v < length es → e ≡ get_or es v e → EveryPlace (length es) (spot_at reading across along es)
      → ((a b : ℕ) → spot_of reading (across e) (along e) ≡ Ok (a, b) → (x ≡ a) × (y ≡ b)) → pt (pos x) (pos y) ≡ point_at reading across along es v
  place_is es v e x y h is every reads =
      let p = every v h in
      let at : spot_at reading across along es v ≡ spot_of reading (across e) (along e) = spot_is es v e h ∙ ap (λ z. spot_of reading (across z) (along z)) (sym is) in
      let q = reads p.0.0 p.0.1 (sym at ∙ p.1) in
      ap₂ (λ a b. pt (pos a) (pos b)) q.0 q.1 ∙ ap (λ r. pt (pos (x_coordinate r)) (pos (y_coordinate r))) (sym p.1)

  -- what a shelf tells lies on the grid, if what its scalars read does
  pub gridded : ((x : Sc) (n : ℕ) → reading x ≡ Ok n → n ≤ 16383) → (es : List E) → Gridded (spot_at reading across along es)
  gridded within [] v x y e = let p = parts e in (subst (λ z. z ≤ 16383) p.0 (lit≤ tt), subst (λ z. z ≤ 16383) p.1 (lit≤ tt))
  gridded within (a ∷ es) (suc v) x y e = gridded within es v x y e
  gridded within (a ∷ es) zero x y e = go (reading (across a)) (reading (along a)) refl refl e
    where
      go : (p q : Result ℕ Cause) → reading (across a) ≡ p → reading (along a) ≡ q → both (on_axis X p) (on_axis Y q) ≡ Ok (x, y) → (x ≤ 16383) × (y ≤ 16383)
      go (Ok m) (Ok n) hp hq e = let r = parts e in (subst (λ z. z ≤ 16383) r.0 (within (across a) m hp), subst (λ z. z ≤ 16383) r.1 (within (along a) n hq))
      go (Ok m) (Err f) hp hq e = fault e
      go (Err f) q hp hq e = fault e
