-- An erasure keeps a map sound without an inner face and inside; and everywhere, if it does on the hull.
use Rattle.std.proofs.Common.{◌≡◌, ℕ, zero, suc, ◌<◌, ◌≤◌, Bool, true, false, eqb, ltb, leb, sym, refl, ap, ◌∙◌, not-suc-le-zero, arith}
use Rattle.links.specs.Links.{Links, halves}
use Rattle.links.specs.Rules.{Sound}
use Rattle.links.proofs.Decide.{dec_eq, dec_nat_le, dec_nat_lt, never}
use Rattle.planar.specs.Star.{spoke, Ring, Inner}
use Rattle.planar.proofs.Views.{in_range, woven, ranges_of, weave_of}
use Rattle.planar.proofs.Rings.{spoke_in, spoke_origin}
use Rattle.erasure.specs.Spokes.{first, degree}
use Rattle.erasure.specs.Erased.{erased, erase_inside, erase_on_hull, outer_at}
use Rattle.erasure.specs.Line.{remove_when_degenerate}
use Rattle.erasure.specs.Keeps.{Without, LineKeepsSound, InsideKeepsSound, HullKeepsSound, KeepsSound}
use Rattle.erasure.proofs.Degree.{ring_degree}
use Rattle.erasure.proofs.Filled.{fills}
use Rattle.erasure.proofs.InsideSound.{inside_sound, inside_places, two_entries}
use Rattle.erasure.proofs.Line.{line_sound, line_places}

-- what is found says yes
first_yes : (k : ℕ) (t : ℕ → Bool) → first k t < k → t (first k t) ≡ true
first_yes zero t l = absurd (not-suc-le-zero l)
first_yes (suc k) t l = go (t 0) refl l (first_yes k (λ i. t (suc i)))
  where
    go : (b : Bool) → t 0 ≡ b → elim b [ true ↦ 0 | false ↦ suc (first k (λ i. t (suc i))) ] < suc k → (first k (λ i. t (suc i)) < k → t (suc (first k (λ i. t (suc i)))) ≡ true)
        → t (elim b [ true ↦ 0 | false ↦ suc (first k (λ i. t (suc i))) ]) ≡ true
    go true e l more = e
    go false e l more = more (omega arith)

-- where nothing is found, all say no
first_no : (k : ℕ) (t : ℕ → Bool) → k ≤ first k t → (i : ℕ) → i < k → t i ≡ false
first_no zero t h i l = absurd (not-suc-le-zero l)
first_no (suc k) t h i l = go (t 0) refl h (λ b j. first_no k (λ i. t (suc i)) b j) i l
  where
    go : (b : Bool) → t 0 ≡ b → suc k ≤ elim b [ true ↦ 0 | false ↦ suc (first k (λ i. t (suc i))) ] → (k ≤ first k (λ i. t (suc i)) → (j : ℕ) → j < k → t (suc j) ≡ false)
        → (i : ℕ) → i < suc k → t i ≡ false
    go true e h more i l = absurd (not-suc-le-zero h)
    go false e h more zero l = e
    go false e h more (suc i) l = more (omega arith) i (omega arith)

-- an entry of a map with an inner face
module _ (m : Links) (sd : Sound m) (v : ℕ) (vl : v < m.n) (f1 : 1 < m.f) where
  abbrev s : ℕ
  s = m.out v

  s_in : s < halves m
  s_in = sd.out_named v vl ((sd.out_rooted v vl).1 (two_entries m sd f1 v vl))

  s_from : m.origin s ≡ v
  s_from = (sd.around v vl).0 ((sd.out_rooted v vl).1 (two_entries m sd f1 v vl))

  ring : Ring m s (degree m s)
  ring = ring_degree m (in_range m sd) (woven m sd) s s_in

  -- where no spoke is found to be outer, the entry lies inside
  inner : degree m s ≤ outer_at m v → Inner m v
  inner none h l e =
      let i = ring.every h l (e ∙ sym s_from) in
      let n = first_no (degree m s) (λ i. eqb (m.face (spoke m s i)) 0) none i.0 i.1 in
      above (m.face h) (λ q. never (sym n ∙ (dec_eq (m.face (spoke m s i.0)) 0).1 (ap m.face i.2 ∙ q)))
    where
      above : (k : ℕ) → (k ≡ 0 → ⊥) → 0 < k
      above k n = omega arith

  -- where one is found, it is a spoke of the entry, and outer
  abbrev z : ℕ
  z = spoke m s (outer_at m v)

  z_in : z < halves m
  z_in = spoke_in m (ranges_of m sd) (weave_of m sd) s s_in (outer_at m v)

  z_from : m.origin z ≡ v
  z_from = spoke_origin m (ranges_of m sd) (weave_of m sd) s s_in (outer_at m v) ∙ s_from

  z_outer : outer_at m v < degree m s → m.face z ≡ 0
  z_outer l = (dec_eq (m.face z) 0).0 (first_yes (degree m s) (λ i. eqb (m.face (spoke m s i)) 0) l)

-- what an erasure gives, by the tests that it makes
abbrev by_tests : (m : Links) (v : ℕ) (faces found : Bool) → Links
by_tests m v faces found = elim faces [
  | true ↦ remove_when_degenerate m v
  | false ↦ elim found [ true ↦ erase_on_hull m v (spoke m (m.out v) (outer_at m v)) | false ↦ erase_inside m v ]
]

tested : (m : Links) (v : ℕ) (P : Links → Type 0) → P (by_tests m v (leb m.f 1) (ltb (outer_at m v) (degree m (m.out v)))) → P (erased m v)
tested m v P h = h

more : (m : Links) → ¬ (m.f ≤ 1) → 1 < m.f
more m n = omega arith

-- without an inner face
pub line_keeps_sound : LineKeepsSound
line_keeps_sound m sd f1 v vl = tested m v (Without m v) (go (leb m.f 1) refl (ltb (outer_at m v) (degree m (m.out v))))
  where
    few : m.f ≤ 1
    few = omega arith

    go : (b : Bool) → leb m.f 1 ≡ b → (c : Bool) → Without m v (by_tests m v b c)
    go true e c = let p = line_places m sd f1 v vl in record { sound = line_sound m sd f1 v vl; fewer = p.0; places = p.1 }
    go false e c = absurd (never (sym e ∙ (dec_nat_le m.f 1).1 few))

-- inside
pub inside_keeps_sound : InsideKeepsSound
inside_keeps_sound m sd f1 v vl inn = tested m v (Without m v) (go (leb m.f 1) refl (ltb (outer_at m v) (degree m (m.out v))) refl)
  where
    too_few : m.f ≤ 1 → ⊥
    too_few l = omega arith

    outside : m.face (z m sd v vl f1) ≡ 0 → ⊥
    outside q = let p = inn (z m sd v vl f1) (z_in m sd v vl f1) (z_from m sd v vl f1) in omega arith

    go : (b : Bool) → leb m.f 1 ≡ b → (c : Bool) → ltb (outer_at m v) (degree m (m.out v)) ≡ c → Without m v (by_tests m v b c)
    go true e c q = absurd (too_few ((dec_nat_le m.f 1).0 e))
    go false e true q = absurd (outside (z_outer m sd v vl f1 ((dec_nat_lt (outer_at m v) (degree m (m.out v))).0 q)))
    go false e false q = let p = inside_places fills m sd f1 v vl inn in record { sound = inside_sound fills m sd f1 v vl inn; fewer = p.0; places = p.1 }

-- so only the hull is left to show
pub keeps_sound : HullKeepsSound → KeepsSound
keeps_sound on_hull m sd v vl = go (leb m.f 1) refl
  where
    one : m.f ≤ 1 → m.f ≡ 1
    one l = let c = sd.counted.2 in omega arith

    go : (b : Bool) → leb m.f 1 ≡ b → Without m v (erased m v)
    go true e = line_keeps_sound m sd (one ((dec_nat_le m.f 1).0 e)) v vl
    go false e = found (ltb (outer_at m v) (degree m (m.out v))) refl
      where
        f1 : 1 < m.f
        f1 = more m (λ l. never (sym e ∙ (dec_nat_le m.f 1).1 l))

        found : (c : Bool) → ltb (outer_at m v) (degree m (m.out v)) ≡ c → Without m v (erased m v)
        found true q = on_hull m sd f1 v vl (z m sd v vl f1) (z_in m sd v vl f1) (z_from m sd v vl f1) (z_outer m sd v vl f1 ((dec_nat_lt (outer_at m v) (degree m (m.out v))).0 q))
        found false q = inside_keeps_sound m sd f1 v vl (inner m sd v vl f1 (none (λ l. never (sym q ∙ (dec_nat_lt (outer_at m v) (degree m (m.out v))).1 l))))
          where
            none : ¬ (outer_at m v < degree m (m.out v)) → degree m (m.out v) ≤ outer_at m v
            none n = omega arith
