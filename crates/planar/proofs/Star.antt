-- The order of the spokes: around an inner entry, and on the hull.
use mathlib.Core.Path.{◌≡◌, sym, ◌∙◌, ap, subst}
use mathlib.Core.Logic.{◌⊎◌, inl, inr}
use Prim.Native.Nat.{ℕ, zero, suc, ◌+◌, ◌-◌, ◌≤◌, ◌<◌}
use native.Mathlib.Omega.{arith}
use native.Mathlib.Decide.{ℕ_discrete}
use native.Mathlib.Nat.{le_of_suc-le-suc, not-suc-le-zero, eq-or-lt_of_le}
use lib.IntN.{ℤ, pos, ◌+ℤ◌, ◌*ℤ◌, zero-*ℤ}
use lib.Signed.{◌≤ℤ◌, ◌<ℤ◌}
use borrow.Author.Differences.{ints}
use Rattle.zring.proofs.Signs.{mul-≤≤, neg-≥, neg-<, zero-≥, mul-><, neg_both}
use Rattle.plane.specs.Plane.{Pt, S, dot}
use Rattle.plane.proofs.Sides.{S-swap}
use Rattle.links.specs.Links.{Links, rev, halves, to, ccw, place, walk}
use Rattle.links.specs.Rules.{Sound}
use Rattle.links.proofs.Halves.{rev_rev, rev_below}
use Rattle.links.proofs.Walks.{walk_add}
use Rattle.planar.specs.Order.{Two, Ccw3}
use Rattle.planar.specs.Planarity.{Sector}
use Rattle.planar.specs.Star.{spoke, tip, Ring, Inner, Ordered, Surrounded, Fan, Fans, Wedge}
use Rattle.planar.proofs.Terms.{S-last, S-back}
use Rattle.planar.proofs.Order.{sign, ccw3_skip, ccw3_rest}
use Rattle.planar.proofs.Turning.{surround, from_first, from_later, between}
use Rattle.planar.proofs.Faces.{triangle, third, to_in}
use Rattle.planar.proofs.Planarity.{one_sector}
use Rattle.planar.proofs.Spokes.{spokes_differ, one_outer, length->, opposite}
use Rattle.planar.proofs.Rings.{ccw_in, ccw_origin, ccw_only, spoke_in, spoke_origin, ring_at}
use Rattle.planar.proofs.Views.{ranges_of, weave_of, parts_of, triangles_of, edges_of, right_of, outside_of, positive}

-- ---- any ring
module _ (m : Links) (sd : Sound m) (s : ℕ) (sl : s < halves m) where
  abbrev o : Pt
  o = place m (m.origin s)

  abbrev p : ℕ → Pt
  p i = tip m s i

  i_in : (i : ℕ) → spoke m s i < halves m
  i_in i = spoke_in m (ranges_of m sd) (weave_of m sd) s sl i

  i_from : (i : ℕ) → m.origin (spoke m s i) ≡ m.origin s
  i_from i = spoke_origin m (ranges_of m sd) (weave_of m sd) s sl i

  -- a spoke with an inner face on its left
  pub turns_at : (i : ℕ) → 0 < m.face (spoke m s i) → pos 0 <ℤ S o (p i) (p (suc i))
  turns_at i f =
      let h = spoke m s i in
      let t = (triangle m (ranges_of m sd) (weave_of m sd) (triangles_of m sd) h (i_in i) f).turns in
      let t1 = subst (λ v. pos 0 <ℤ S (place m (m.origin h)) (place m v) (place m (m.origin (m.next (m.next h))))) (sym ((weave_of m sd).joins h (i_in i))) t in
      let t2 = subst (λ v. pos 0 <ℤ S (place m (m.origin h)) (p i) (place m v)) (third m (ranges_of m sd) (weave_of m sd) (triangles_of m sd) h (i_in i) f) t1 in
      subst (λ v. pos 0 <ℤ S (place m v) (p i) (p (suc i))) (i_from i) t2

  pub away : (i : ℕ) → ¬ (p i ≡ o)
  away i e = (edges_of m sd).apart (spoke m s i) (i_in i) (ap (place m) (i_from i) ∙ sym e)

  -- ---- an inner entry
  module _ (inn : Inner m (m.origin s)) (size : ℕ) (r : Ring m s size) where
    inner : (i : ℕ) → 0 < m.face (spoke m s i)
    inner i = inn (spoke m s i) (i_in i) (i_from i)

    turns : (i : ℕ) → pos 0 <ℤ S o (p i) (p (suc i))
    turns i = turns_at i (inner i)

    sector : (i : ℕ) (t : Pt) → pos 0 ≤ℤ S o (p i) t → pos 0 <ℤ S o t (p (suc i)) → Sector m (spoke m s i) t
    sector i t a b = record {
      since = subst (λ v. pos 0 ≤ℤ S (place m v) (p i) t) (sym (i_from i)) a;
      until = subst (λ v. pos 0 <ℤ S (place m v) t (p (suc i))) (sym (i_from i)) b;
    }

    -- the first spoke lies in no other sector
    alone : (i : ℕ) → 0 < i → i < size → pos 0 ≤ℤ S o (p i) (p 0) → pos 0 <ℤ S o (p 0) (p (suc i)) → ⊥
    alone i h l a b =
        r.apart 0 i h l
        (one_sector m (ranges_of m sd) (weave_of m sd) (triangles_of m sd) (outside_of m sd) (spoke m s 0) (spoke m s i) (p 0) (i_in 0) (i_in i) (inner 0) (inner i) (sym (i_from i))
        (sector 0 (p 0) (zero-≥ (S o (p 0) (p 0)) (S-last o (p 0))) (turns 0)) (sector i (p 0) a b))

    next_one : (i : ℕ) → 0 < i → suc i < size → Ccw3 o (p 0) (p i) (p (suc i))
    next_one i h l = record { most = first (sign (S o (p 0) (p i))) }
      where
        clash : (x y z : ℤ) → x ≡ y +ℤ z → z ≡ pos 0 → pos 0 ≤ℤ x → y <ℤ pos 0 → ⊥
        clash x y z e f h l = omega (arith, ints)

        -- p 0 and p (i + 1) on one line, p i not left of p 0
        opposed : S o (p 0) (p i) ≤ℤ pos 0 → S o (p 0) (p (suc i)) ≡ pos 0 → ⊥
        opposed a e = elim (sign (dot o (p 0) (p (suc i)))) [
          | inr d ↦ r.apart 0 (suc i) (omega arith) l (spokes_differ m sd (spoke m s 0) (spoke m s (suc i)) (i_in 0) (i_in (suc i)) (sym (i_from (suc i))) (record { line = e; ahead = d }))
          | inl d ↦ clash (dot o (p 0) (p (suc i)) *ℤ S o (p 0) (p i)) (dot o (p 0) (p 0) *ℤ S o (p (suc i)) (p i)) (S o (p 0) (p (suc i)) *ℤ dot o (p 0) (p i)) (opposite o (p 0) (p (suc i)) (p i))
              (ap (λ z. z *ℤ dot o (p 0) (p i)) e ∙ zero-*ℤ (dot o (p 0) (p i))) (mul-≤≤ (dot o (p 0) (p (suc i))) (S o (p 0) (p i)) d a)
              (mul->< (dot o (p 0) (p 0)) (S o (p (suc i)) (p i)) (length-> o (p 0) (away 0)) (neg-< (S o (p (suc i)) (p i)) (S o (p i) (p (suc i))) (S-back o (p (suc i)) (p i)) (turns i)))
        ]

        second : S o (p 0) (p i) ≤ℤ pos 0 → (S o (p 0) (p (suc i)) ≤ℤ pos 0) ⊎ (pos 0 <ℤ S o (p 0) (p (suc i))) → (S o (p (suc i)) (p 0) ≤ℤ pos 0) ⊎ (pos 0 <ℤ S o (p (suc i)) (p 0)) → Two (S o (p 0) (p i)) (S o (p i) (p (suc i))) (S o (p (suc i)) (p 0))
        second a (inr b) c = absurd (alone i h (omega arith) (neg-≥ (S o (p i) (p 0)) (S o (p 0) (p i)) (S-back o (p i) (p 0)) a) b)
        second a (inl b) (inr c) = inr (inl (turns i, c))
        second a (inl b) (inl c) = absurd (opposed a (neg_both (S o (p 0) (p (suc i))) (S o (p (suc i)) (p 0)) (S-back o (p 0) (p (suc i))) b c))

        first : (S o (p 0) (p i) ≤ℤ pos 0) ⊎ (pos 0 <ℤ S o (p 0) (p i)) → Two (S o (p 0) (p i)) (S o (p i) (p (suc i))) (S o (p (suc i)) (p 0))
        first (inr a) = inl (a, turns i)
        first (inl a) = second a (sign (S o (p 0) (p (suc i)))) (sign (S o (p (suc i)) (p 0)))

    from_zero : (i j : ℕ) → 0 < i → i < j → j < size → Ccw3 o (p 0) (p i) (p j)
    from_zero i zero h b l = absurd (not-suc-le-zero b)
    from_zero i (suc j) h b l =
        let before : i < j → Ccw3 o (p 0) (p i) (p j) = λ q. from_zero i j h q (omega arith) in
        elim (eq-or-lt_of_le (le_of_suc-le-suc b)) [
          | inl e ↦ subst (λ z. Ccw3 o (p 0) (p z) (p (suc j))) (sym e) (next_one j (omega arith) l)
          | inr q ↦ ccw3_skip o (p 0) (p i) (p j) (p (suc j)) (before q) (next_one j (omega arith) l)
        ]

    in_order : (i j l : ℕ) → i < j → j < l → l < size → Ccw3 o (p i) (p j) (p l)
    in_order zero j l a b c = from_zero j l a b c
    in_order (suc i) j l a b c = ccw3_rest o (p 0) (p (suc i)) (p j) (p l) (from_zero (suc i) j (omega arith) a (omega arith)) (from_zero j l (omega arith) b c)

    cycle : (n : ℕ) → size ≡ suc n → (i : ℕ) → p (suc n + i) ≡ p i
    cycle n e i = ap (λ h. place m (to m h)) (ap (λ z. spoke m s z) swap ∙ walk_add (ccw m) i size s ∙ ap (λ z. walk (ccw m) i z) r.closed)
      where
        swap : suc n + i ≡ i + size
        swap = omega arith

    all_around : (t : Pt) → ¬ (t ≡ o) → (i : ℕ) × (i < size) × (pos 0 ≤ℤ S o (p i) t) × (pos 0 <ℤ S o t (p (suc i)))
    all_around t n =
        let d = size - 1 in
        let e : size ≡ suc d = pred_suc r.some in
        let q = surround o p d turns (cycle d e) t n in
        (q.0, small q.0 q.1, neg-≥ (S o (p q.0) t) (S o t (p q.0)) (S-back o (p q.0) t) q.2.0, q.2.1)
      where
        pred_suc : 0 < size → size ≡ suc (size - 1)
        pred_suc h = omega arith

        small : (i : ℕ) → i ≤ size - 1 → i < size
        small i h = let z = r.some in omega arith

pub ordered : Ordered
ordered m sd s sl inn size r = in_order m sd s sl inn size r

pub surrounded : Surrounded
surrounded m sd s sl inn size r t n = all_around m sd s sl inn size r t n

-- ---- an entry of the hull
module _ (m : Links) (sd : Sound m) (f1 : 1 < m.f) (z : ℕ) (zl : z < halves m) (zf : m.face z ≡ 0) where
  abbrev s : ℕ
  s = ccw m z

  sl : s < halves m
  sl = ccw_in m (ranges_of m sd) (weave_of m sd) z zl

  from_v : m.origin s ≡ m.origin z
  from_v = ccw_origin m (ranges_of m sd) (weave_of m sd) z zl

  hull_fan : (last : ℕ) → Ring m s (suc last) → Fan m s last
  hull_fan last r = record {
    some = some;
    outer = ap m.face last_is ∙ zf;
    inner = inner;
    incoming = prev_outer;
    passes = ap m.next (rev_rev (m.prev z)) ∙ ((weave_of m sd).undone z zl).1 ∙ sym last_is;
    first_side = first_side;
    last_side = last_side;
    turns = turns;
    left = left;
    sector = sector;
  }
    where
      v : Pt
      v = place m (m.origin s)

      q : ℕ → Pt
      q i = tip m s i

      last_is : spoke m s last ≡ z
      last_is = ccw_only m (ranges_of m sd) (weave_of m sd) (spoke m s last) z (spoke_in m (ranges_of m sd) (weave_of m sd) s sl last) zl r.closed

      -- the half before z comes back along the first spoke
      prev_outer : m.face (rev s) ≡ 0
      prev_outer = ap m.face (rev_rev (m.prev z)) ∙ sym ((weave_of m sd).shares (m.prev z) ((ranges_of m sd).prev_names z zl)) ∙ ap m.face ((weave_of m sd).undone z zl).1 ∙ zf

      some : 0 < last
      some = go (ℕ_discrete last 0)
        where
          go : Dec (last ≡ 0) → 0 < last
          go (no d) = positive last d
          go (yes e) =
              let same : s ≡ z = subst (λ i. spoke m s i ≡ z) e last_is in
              absurd (parts_of m sd f1 z zl (zf ∙ sym (subst (λ h. m.face (rev h) ≡ 0) same prev_outer)))

      inner : (i : ℕ) → i < last → 0 < m.face (spoke m s i)
      inner i l = go (ℕ_discrete (m.face (spoke m s i)) 0)
        where
          go : Dec (m.face (spoke m s i) ≡ 0) → 0 < m.face (spoke m s i)
          go (no d) = positive (m.face (spoke m s i)) d
          go (yes e) =
              absurd (r.apart i last l (omega arith) (one_outer m sd f1 (spoke m s i) z (spoke_in m (ranges_of m sd) (weave_of m sd) s sl i) zl e zf (spoke_origin m (ranges_of m sd) (weave_of m sd) s sl i ∙ from_v) ∙ sym last_is))

      turns : (i : ℕ) → i < last → pos 0 <ℤ S v (q i) (q (suc i))
      turns i l = turns_at m sd s sl i (inner i l)

      first_side : (w : ℕ) → w < m.n → pos 0 ≤ℤ S v (q 0) (place m w)
      first_side w l =
          let h = right_of m sd (rev s) w (rev_below m.e s sl) prev_outer l in
          let h' = subst (λ g. S (place m (to m s)) (place m (m.origin g)) (place m w) ≤ℤ pos 0) (rev_rev s) h in
          neg-≥ (S v (q 0) (place m w)) (S (q 0) v (place m w)) (S-swap v (q 0) (place m w)) h'

      last_side : (w : ℕ) → w < m.n → pos 0 ≤ℤ S v (place m w) (q last)
      last_side w l =
          neg-≥ (S v (place m w) (q last)) (S v (q last) (place m w)) (S-back v (place m w) (q last))
          (subst (λ a. S (place m a) (q last) (place m w) ≤ℤ pos 0) (sym from_v) (subst (λ h. S (place m (m.origin z)) (place m (to m h)) (place m w) ≤ℤ pos 0) (sym last_is) (right_of m sd z w zl zf l)))

      no_right : (i : ℕ) → i ≤ last → pos 0 ≤ℤ S v (q 0) (q i)
      no_right i l = first_side (to m (spoke m s i)) (to_in m (ranges_of m sd) (weave_of m sd) (spoke m s i) (spoke_in m (ranges_of m sd) (weave_of m sd) s sl i))

      left : (i j : ℕ) → i < j → j ≤ last → (0 < i) ⊎ (j < last) → pos 0 <ℤ S v (q i) (q j)
      left i j a b (inl c) = from_later v q last turns no_right i j c a b
      left zero j a b (inr c) = from_first v q last turns no_right j a c
      left (suc i) j a b (inr c) = from_later v q last turns no_right (suc i) j (omega arith) a b

      sector : (w : ℕ) → w < m.n → (i : ℕ) × (i < last) × (pos 0 ≤ℤ S v (q i) (place m w)) × (pos 0 ≤ℤ S v (place m w) (q (suc i)))
      sector w l = between v q last turns no_right (place m w) some (first_side w l) (last_side w l)

  hull_ring : (size : ℕ) × Ring m s size → (last : ℕ) × Ring m s (suc last) × Fan m s last
  hull_ring (zero, r) = absurd (not-suc-le-zero r.some)
  hull_ring (suc last, r) = (last, r, hull_fan last r)

pub fans : Fans
fans m sd f1 z zl zf = hull_ring m sd f1 z zl zf (ring_at m (ranges_of m sd) (weave_of m sd) (ccw m z) (ccw_in m (ranges_of m sd) (weave_of m sd) z zl))

pub wedge : Wedge
wedge m sd f1 z zl zf v vl =
    let f = fans m sd f1 z zl zf in
    (subst (λ u. pos 0 ≤ℤ S (place m u) (place m (to m (ccw m z))) (place m v)) (ccw_origin m (ranges_of m sd) (weave_of m sd) z zl) (f.2.first_side v vl), sd.hulled z v zl vl zf)
