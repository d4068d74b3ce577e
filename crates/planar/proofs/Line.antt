-- Without an inner face the edges are a path.
use mathlib.Core.Path.{◌≡◌, refl, sym, ◌∙◌, ap, subst}
use mathlib.Core.Logic.{◌⊎◌, inl, inr}
use Prim.Native.Nat.{ℕ, zero, suc, ◌-◌, ◌*◌, ◌/◌, ◌%◌, ◌≤◌, ◌<◌}
use native.Mathlib.Omega.{arith}
use native.Mathlib.Decide.{ℕ_discrete, dec_lt}
use native.Mathlib.Nat.{not-suc-le-zero}
use Rattle.links.specs.Links.{Links, rev, halves, cw, ccw, walk}
use Rattle.links.specs.Rules.{Sound}
use Rattle.links.proofs.Halves.{rev_rev, rev_below, rev_is}
use Rattle.links.proofs.Walks.{walk_in, pigeons}
use Rattle.planar.specs.Star.{Cycle, Path, OnePath}
use Rattle.planar.proofs.Views.{Ranges, Weave, in_range, woven, ranges_of, weave_of}
use Rattle.planar.proofs.Rings.{ring_at, borders, ccw_in, cw_in, ccw_origin, ccw_cw, ccw_only}
use Rattle.planar.proofs.Degree.{two_spokes}

module _ (m : Links) (sd : Sound m) (f1 : m.f ≡ 1) where
  r3 : Ranges m
  r3 = ranges_of m sd

  r4 : Weave m
  r4 = weave_of m sd

  -- an entry has one spoke or two
  pub turn_back : (h : ℕ) → h < halves m → ccw m (ccw m h) ≡ h
  turn_back h l = let r = ring_at m r3 r4 h l in go r.0 r.1.some (two_spokes m sd f1 h l r.0 r.1) r.1.closed
    where
      go : (size : ℕ) → 0 < size → size ≤ 2 → walk (ccw m) size h ≡ h → ccw m (ccw m h) ≡ h
      go zero p q e = absurd (not-suc-le-zero p)
      go (suc zero) p q e = ap (ccw m) e ∙ e
      go (suc (suc zero)) p q e = e
      go (suc (suc (suc k))) p q e = absurd (omega arith)

  pub spokes_at : (h k : ℕ) → h < halves m → k < halves m → m.origin k ≡ m.origin h → (k ≡ h) ⊎ (k ≡ ccw m h)
  spokes_at h k l kl e =
      let r = ring_at m r3 r4 h l in
      let i = r.1.every k kl e in
      go i.0 i.1 (two_spokes m sd f1 h l r.0 r.1) i.2
    where
      go : (i : ℕ) {size : ℕ} → i < size → size ≤ 2 → walk (ccw m) i h ≡ k → (k ≡ h) ⊎ (k ≡ ccw m h)
      go zero p q e = inl (sym e)
      go (suc zero) p q e = inr (sym e)
      go (suc (suc i)) p q e = absurd (omega arith)

  -- ---- some entry has one spoke: two each would be too many
  module _ (n2 : 2 ≤ m.n) where
    out_in : (v : ℕ) → v < m.n → m.out v < halves m
    out_in v l = r3.out_in v l n2

    out_from : (v : ℕ) → v < m.n → m.origin (m.out v) ≡ v
    out_from v l = r4.out_at v l n2

    scan_leaf : (k : ℕ) → k ≤ m.n → ((v : ℕ) × (v < m.n) × (ccw m (m.out v) ≡ m.out v)) ⊎ ((v : ℕ) → v < k → ¬ (ccw m (m.out v) ≡ m.out v))
    scan_leaf zero l = inr (λ v h. absurd (not-suc-le-zero h))
    scan_leaf (suc k) l = go (ℕ_discrete (ccw m (m.out k)) (m.out k)) (scan_leaf k (omega arith))
      where
        go : Dec (ccw m (m.out k) ≡ m.out k) → ((v : ℕ) × (v < m.n) × (ccw m (m.out v) ≡ m.out v)) ⊎ ((v : ℕ) → v < k → ¬ (ccw m (m.out v) ≡ m.out v))
            → ((v : ℕ) × (v < m.n) × (ccw m (m.out v) ≡ m.out v)) ⊎ ((v : ℕ) → v < suc k → ¬ (ccw m (m.out v) ≡ m.out v))
        go (yes e) before = inl (k, l, e)
        go (no d) (inl r) = inl r
        go (no d) (inr none) = inr (λ v h. elim (ℕ_discrete v k) [ yes q ↦ subst (λ z. ¬ (ccw m (m.out z) ≡ m.out z)) (sym q) d | no q ↦ none v (omega arith) ])

    crowded : ((v : ℕ) → v < m.n → ¬ (ccw m (m.out v) ≡ m.out v)) → ⊥
    crowded none = over (pigeons (halves m) (2 * m.n) pick below apart)
      where
        one : (r v : ℕ) → ℕ
        one zero v = m.out v
        one (suc r) v = ccw m (m.out v)

        pick : ℕ → ℕ
        pick x = one (x % 2) (x / 2)

        one_in : (r v : ℕ) → v < m.n → one r v < halves m
        one_in zero v l = out_in v l
        one_in (suc r) v l = ccw_in m r3 r4 (m.out v) (out_in v l)

        one_from : (r v : ℕ) → v < m.n → m.origin (one r v) ≡ v
        one_from zero v l = out_from v l
        one_from (suc r) v l = ccw_origin m r3 r4 (m.out v) (out_in v l) ∙ out_from v l

        one_only : (r q v : ℕ) → r < 2 → q < 2 → v < m.n → one r v ≡ one q v → r ≡ q
        one_only zero zero v a b l e = refl
        one_only zero (suc q) v a b l e = absurd (none v l (sym e))
        one_only (suc r) zero v a b l e = absurd (none v l e)
        one_only (suc r) (suc q) v a b l e = omega arith

        below : (x : ℕ) → x < 2 * m.n → pick x < halves m
        below x l = one_in (x % 2) (x / 2) (omega arith)

        apart : (x y : ℕ) → x < y → y < 2 * m.n → ¬ (pick x ≡ pick y)
        apart x y h l e =
            let q : x / 2 ≡ y / 2 = sym (one_from (x % 2) (x / 2) (omega arith)) ∙ ap m.origin e ∙ one_from (y % 2) (y / 2) (omega arith) in
            let r = one_only (x % 2) (y % 2) (y / 2) (omega arith) (omega arith) (omega arith) (subst (λ z. one (x % 2) z ≡ pick y) q e) in
            absurd (omega arith)

        over : 2 * m.n ≤ halves m → ⊥
        over l = let e = sd.euler.1 (λ z. absurd (omega arith)) in omega arith

    leaf : (v : ℕ) × (v < m.n) × (ccw m (m.out v) ≡ m.out v)
    leaf = elim (scan_leaf m.n (omega arith)) [ inl r ↦ r | inr none ↦ absurd (crowded none) ]

    -- ---- from there on
    module _ (s : ℕ) (sl : s < halves m) (lone : ccw m s ≡ s) where
      abbrev w : ℕ → ℕ
      w i = walk m.next i s

      w_in : (i : ℕ) → w i < halves m
      w_in i = walk_in (halves m) m.next r3.next_names s sl i

      w_prev : (i : ℕ) → m.prev (w (suc i)) ≡ w i
      w_prev i = (r4.undone (w i) (w_in i)).0

      outer : (k : ℕ) → k < m.f → k ≡ 0
      outer k l = omega arith

      cycle : (size : ℕ) × Cycle (halves m) m.next (λ h. m.face h ≡ m.face s) s size
      cycle = borders m (in_range m sd) (woven m sd) s sl

      find : (h : ℕ) → h < halves m → (i : ℕ) × (i < cycle.0) × (w i ≡ h)
      find h l = cycle.1.every h l (outer (m.face h) (r3.face_names h l) ∙ sym (outer (m.face s) (r3.face_names s sl)))

      -- it has all halves
      size_is : cycle.0 ≡ halves m
      size_is = both cycle.1.few (pigeons cycle.0 (halves m) at at_in at_only)
        where
          at : ℕ → ℕ
          at h = elim (dec_lt h (halves m)) [ yes l ↦ (find h l).0 | no l ↦ 0 ]

          at_is : (h : ℕ) → h < halves m → (at h < cycle.0) × (w (at h) ≡ h)
          at_is h l = go (dec_lt h (halves m))
            where
              go : (d : Dec (h < halves m)) → (elim d as (λ _. ℕ) [ yes l ↦ (find h l).0 | no l ↦ 0 ] < cycle.0) × (w (elim d as (λ _. ℕ) [ yes l ↦ (find h l).0 | no l ↦ 0 ]) ≡ h)
              go (yes p) = ((find h p).1, (find h p).2)
              go (no p) = absurd (p l)

          at_in : (h : ℕ) → h < halves m → at h < cycle.0
          at_in h l = (at_is h l).0

          at_only : (h k : ℕ) → h < k → k < halves m → ¬ (at h ≡ at k)
          at_only h k l b e = differ (sym (at_is h (omega arith)).1 ∙ ap w e ∙ (at_is k b).1)
            where
              differ : h ≡ k → ⊥
              differ q = omega arith

          both : cycle.0 ≤ halves m → halves m ≤ cycle.0 → cycle.0 ≡ halves m
          both a b = omega arith

      closed : w (halves m) ≡ s
      closed = subst (λ k. w k ≡ s) size_is cycle.1.closed

      found : (h : ℕ) → h < halves m → (i : ℕ) × (i < halves m) × (w i ≡ h)
      found h l = let i = find h l in (i.0, subst (λ k. i.0 < k) size_is i.1, i.2)

      w_only : (i j : ℕ) → i < halves m → j < halves m → w i ≡ w j → i ≡ j
      w_only i j a b e = go (dec_lt i j) (dec_lt j i)
        where
          apart : (i j : ℕ) → i < j → j < halves m → ¬ (w i ≡ w j)
          apart i j h l = cycle.1.apart i j h (subst (λ k. j < k) (sym size_is) l)

          go : Dec (i < j) → Dec (j < i) → i ≡ j
          go (yes h) d = absurd (apart i j h b e)
          go (no h) (yes d) = absurd (apart j i d a (sym e))
          go (no h) (no d) = omega arith

      step_back : (k j : ℕ) → k ≡ suc j → m.prev (w k) ≡ w j
      step_back k j e = ap (λ z. m.prev (w z)) e ∙ w_prev j

      mirror : (i : ℕ) → i < halves m → rev (w i) ≡ w (halves m - suc i)
      mirror zero l = sym (rev_is (m.prev s) s lone) ∙ ap m.prev (sym closed) ∙ step_back (halves m) (halves m - 1) (omega arith)
      mirror (suc i) l =
          let x = rev (w i) in
          let xl = rev_below m.e (w i) (w_in i) in
          let same : cw m x ≡ ccw m x = ccw_only m r3 r4 (cw m x) (ccw m x) (cw_in m r3 r4 x xl) (ccw_in m r3 r4 x xl) (ccw_cw m r3 r4 x xl ∙ sym (turn_back x xl)) in
          let e : rev (m.prev x) ≡ w (suc i) = sym same ∙ ap m.next (rev_rev (w i)) in
          sym (rev_is (m.prev x) (w (suc i)) e) ∙ ap m.prev (mirror i (omega arith)) ∙ step_back (halves m - suc i) (halves m - suc (suc i)) (omega arith)

      -- the other spoke where the way comes by
      other : (i : ℕ) → suc i < halves m → ccw m (w (suc i)) ≡ w (halves m - suc i)
      other i l = ap rev (w_prev i) ∙ mirror i (omega arith)

      pub path : Path m s
      path = record { start = sl; differ = differ; every = every; back = mirror; closed = closed }
        where
          differ : (i j : ℕ) → i < j → j ≤ m.e → ¬ (m.origin (w i) ≡ m.origin (w j))
          differ zero j h l e =
              elim (spokes_at s (w j) sl (w_in j) (sym e)) [
                | inl q ↦ let z = w_only j 0 (omega arith) (omega arith) q in absurd (omega arith)
                | inr q ↦ let z = w_only j 0 (omega arith) (omega arith) (q ∙ lone) in absurd (omega arith)
              ]
          differ (suc i) j h l e =
              elim (spokes_at (w (suc i)) (w j) (w_in (suc i)) (w_in j) (sym e)) [
                | inl q ↦ let z = w_only j (suc i) (omega arith) (omega arith) q in absurd (omega arith)
                | inr q ↦ let z = w_only j (halves m - suc i) (omega arith) (omega arith) (q ∙ other i (omega arith)) in absurd (omega arith)
              ]

          every : (v : ℕ) → v < m.n → (i : ℕ) × (i ≤ m.e) × (m.origin (w i) ≡ v)
          every v l = let r = found (m.out v) (out_in v l) in go r.0 r.1 (ap m.origin r.2 ∙ out_from v l) (dec_lt m.e r.0)
            where
              go : (i : ℕ) → i < halves m → m.origin (w i) ≡ v → Dec (m.e < i) → (i : ℕ) × (i ≤ m.e) × (m.origin (w i) ≡ v)
              go i b e (no d) = (i, omega arith, e)
              go zero b e (yes d) = absurd (not-suc-le-zero d)
              go (suc i) b e (yes d) =
                  (halves m - suc i, omega arith, ap m.origin (sym (other i b)) ∙ ccw_origin m r3 r4 (w (suc i)) (w_in (suc i)) ∙ e)

pub one_path : OnePath
one_path m sd f1 n2 = let v = leaf m sd f1 n2 in (m.out v.0, path m sd f1 n2 (m.out v.0) (out_in m sd f1 n2 v.0 v.1) v.2)
