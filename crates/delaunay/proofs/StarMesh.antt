-- The star of an entry on the hull is a mesh, with the entry as its apex.
use Rattle.std.proofs.Common.{◌≡◌, ℕ, zero, suc, ◌<◌, ◌≤◌, Bool, true, false, cond, eqb, ◌⊎◌, pos, ◌≤ℤ◌, Decides, sym, refl, ap, ◌∙◌, subst, inl, inr, not-suc-le-zero, arith}
use native.Mathlib.Decide.{dec_lt}
use Rattle.plane.specs.Plane.{S}
use Rattle.links.specs.Links.{Links, rev, halves, to}
use Rattle.links.specs.Rules.{Sound}
use Rattle.links.specs.Tests.{any}
use Rattle.links.proofs.Halves.{rev_rev}
use Rattle.links.proofs.Decide.{dec_and, dec_eq, dec_nat_lt, any_in, any_out}
use Rattle.planar.specs.Star.{spoke, Ring, Fan, tip}
use Rattle.planar.proofs.Views.{Ranges, Weave, Triangles, ranges_of, weave_of, triangles_of}
use Rattle.planar.proofs.Faces.{Among, around, triangle, third, star_face}
use Rattle.planar.proofs.Spokes.{ends_differ}
use Rattle.planar.proofs.Rings.{spoke_in, spoke_origin}
use Rattle.delaunay.specs.Ring.{Cyc, Next}
use Rattle.delaunay.specs.Mesh.{Mesh, Across, Below}
use Rattle.delaunay.specs.Start.{index, in_star, number, StarIsMesh}
use Rattle.delaunay.specs.Scan.{Unscanned, ScanStarts}
use Rattle.delaunay.proofs.Cycle.{cyc_turn, cyc3}

-- ---- the number of an entry
index_yes : (c : ℕ → ℕ) (k u : ℕ) → c 0 ≡ u → index c (suc k) u ≡ 0
index_yes c k u e = ap (λ b. cond b 0 (suc (index (λ i. c (suc i)) k u))) ((dec_eq (c 0) u).1 e)

index_no : (c : ℕ → ℕ) (k u : ℕ) → ¬ (c 0 ≡ u) → index c (suc k) u ≡ suc (index (λ i. c (suc i)) k u)
index_no c k u n = go (eqb (c 0) u) refl
  where
    go : (b : Bool) → eqb (c 0) u ≡ b → cond b 0 (suc (index (λ i. c (suc i)) k u)) ≡ suc (index (λ i. c (suc i)) k u)
    go true e = absurd (n ((dec_eq (c 0) u).0 e))
    go false e = refl

index_none : (c : ℕ → ℕ) (k u : ℕ) → ((i : ℕ) → i < k → ¬ (c i ≡ u)) → index c k u ≡ k
index_none c zero u n = refl
index_none c (suc k) u n = index_no c k u (n 0 (omega arith)) ∙ ap suc (index_none (λ i. c (suc i)) k u (λ i l. n (suc i) (omega arith)))

pub index_at : (c : ℕ → ℕ) (k i u : ℕ) → i < k → ((a b : ℕ) → a < b → b < k → ¬ (c a ≡ c b)) → c i ≡ u → index c k u ≡ i
index_at c zero i u l apart e = absurd (not-suc-le-zero l)
index_at c (suc k) zero u l apart e = index_yes c k u e
index_at c (suc k) (suc i) u l apart e =
    index_no c k u (λ q. apart 0 (suc i) (omega arith) l (q ∙ sym e)) ∙ ap suc (index_at (λ j. c (suc j)) k i u (omega arith) (λ a b h b'. apart (suc a) (suc b) (omega arith) (omega arith)) e)

module _ (m : Links) (sd : Sound m) (s last : ℕ) (sl : s < halves m) (r : Ring m s (suc last)) (f : Fan m s last) where
  r3 : Ranges m
  r3 = ranges_of m sd

  r4 : Weave m
  r4 = weave_of m sd

  r5 : Triangles m
  r5 = triangles_of m sd

  abbrev h : ℕ → ℕ
  h i = spoke m s i

  abbrev Live : ℕ → Type 0
  Live x = in_star m s last x ≡ true

  abbrev num : ℕ → ℕ
  num x = number m s last x

  h_in : (i : ℕ) → h i < halves m
  h_in = spoke_in m r3 r4 s sl

  h_from : (i : ℕ) → m.origin (h i) ≡ m.origin s
  h_from = spoke_origin m r3 r4 s sl

  tips_differ : (a b : ℕ) → a < b → b < suc last → ¬ (to m (h a) ≡ to m (h b))
  tips_differ a b l q e = r.apart a b l q (ends_differ m sd (h a) (h b) (h_in a) (h_in b) (h_from a ∙ sym (h_from b)) e)

  pub num_apex : (x : ℕ) → m.origin x ≡ m.origin s → num x ≡ suc last
  num_apex x e = index_none (λ i. to m (h i)) (suc last) (m.origin x) (λ i l q. r4.ends (h i) (h_in i) (h_from i ∙ sym e ∙ sym q))

  pub num_tip : (x i : ℕ) → i < suc last → m.origin x ≡ to m (h i) → num x ≡ i
  num_tip x i l e = index_at (λ i. to m (h i)) (suc last) i (m.origin x) l tips_differ (sym e)

  -- ---- the face of spoke i: its corners are the apex, i and i + 1
  module _ (i : ℕ) (l : i < last) where
    inner : 0 < m.face (h i)
    inner = f.inner i l

    closes : m.next (m.next (m.next (h i))) ≡ h i
    closes = (triangle m r3 r4 r5 (h i) (h_in i) inner).closes

    returns : m.next (m.next (h i)) ≡ rev (h (suc i))
    returns = (star_face m r3 r4 r5 (h i) (h_in i) inner).returns

    num0 : num (h i) ≡ suc last
    num0 = num_apex (h i) (h_from i)

    pub num1 : num (m.next (h i)) ≡ i
    num1 = num_tip (m.next (h i)) i (omega arith) (sym (r4.joins (h i) (h_in i)))

    pub num2 : num (m.next (m.next (h i))) ≡ suc i
    num2 = num_tip (m.next (m.next (h i))) (suc i) (omega arith) (third m r3 r4 r5 (h i) (h_in i) inner)

    num3 : num (m.next (m.next (m.next (h i)))) ≡ suc last
    num3 = ap num closes ∙ num0

    base : Cyc (suc (suc last)) i (suc i) (suc last)
    base = inl (omega arith, omega arith, omega arith)

  -- a half of the face of spoke i
  At : ℕ → Type 0
  At x = (i : ℕ) × (i < last) × ((x ≡ h i) ⊎ ((x ≡ m.next (h i)) ⊎ (x ≡ m.next (m.next (h i)))))

  live_at : (x : ℕ) → Live x → At x
  unfolding At Among
  live_at x t =
      let p = (dec_and (dec_nat_lt x (halves m)) (dec_self x)).0 t in
      let a = any_out last (λ i. eqb (m.face x) (m.face (h i))) p.1 in
      let e = (dec_eq (m.face x) (m.face (h a.0))).0 a.2 in
      go a.0 a.1 (around m r3 r4 r5 (h a.0) x (h_in a.0) p.0 (f.inner a.0 a.1) e)
    where
      dec_self : (x : ℕ) → Decides (any last (λ i. eqb (m.face x) (m.face (h i)))) (any last (λ i. eqb (m.face x) (m.face (h i))) ≡ true)
      dec_self x = ((λ e. e), (λ e. e))

      go : (i : ℕ) → i < last → Among m (h i) x → (i : ℕ) × (i < last) × ((x ≡ h i) ⊎ ((x ≡ m.next (h i)) ⊎ (x ≡ m.next (m.next (h i)))))
      go i l (inl q) = (i, l, inl (sym q))
      go i l (inr (inl q)) = (i, l, inr (inl (sym q)))
      go i l (inr (inr q)) = (i, l, inr (inr (sym q)))

  -- where a half of the star starts: at the apex, or at a tip
  pub corner : (x : ℕ) → Live x → ((m.origin x ≡ m.origin s) × (num x ≡ suc last)) ⊎ ((i : ℕ) × (i < suc last) × (m.origin x ≡ to m (h i)) × (num x ≡ i))
  unfolding At
  corner x t = go (live_at x t)
    where
      go : At x → ((m.origin x ≡ m.origin s) × (num x ≡ suc last)) ⊎ ((i : ℕ) × (i < suc last) × (m.origin x ≡ to m (h i)) × (num x ≡ i))
      go (i, l, inl q) = inl (ap m.origin q ∙ h_from i, ap num q ∙ num0 i l)
      go (i, l, inr (inl q)) = inr (i, omega arith, ap m.origin q ∙ sym (r4.joins (h i) (h_in i)), ap num q ∙ num1 i l)
      go (i, l, inr (inr q)) = inr (suc i, omega arith, ap m.origin q ∙ third m r3 r4 r5 (h i) (h_in i) (f.inner i l), ap num q ∙ num2 i l)

  live_of : (x i : ℕ) → i < last → x < halves m → m.face x ≡ m.face (h i) → Live x
  live_of x i l b e = (dec_and (dec_nat_lt x (halves m)) (dec_self x)).1 (b, any_in last (λ i. eqb (m.face x) (m.face (h i))) i l ((dec_eq (m.face x) (m.face (h i))).1 e))
    where
      dec_self : (x : ℕ) → Decides (any last (λ i. eqb (m.face x) (m.face (h i)))) (any last (λ i. eqb (m.face x) (m.face (h i))) ≡ true)
      dec_self x = ((λ e. e), (λ e. e))

  pub live0 : (i : ℕ) → i < last → Live (h i)
  live0 i l = live_of (h i) i l (h_in i) refl

  pub live1 : (i : ℕ) → i < last → Live (m.next (h i))
  live1 i l = live_of (m.next (h i)) i l (r3.next_names (h i) (h_in i)) (r4.shares (h i) (h_in i))

  live2 : (i : ℕ) → i < last → Live (m.next (m.next (h i)))
  live2 i l =
      let n = r3.next_names (h i) (h_in i) in
      live_of (m.next (m.next (h i))) i l (r3.next_names (m.next (h i)) n) (r4.shares (m.next (h i)) n ∙ r4.shares (h i) (h_in i))

  abbrev Over : ℕ → Type 0
  Over x = Next (suc (suc last)) (num x) (num (m.next x)) ⊎ (Live (rev x) × (num (rev x) ≡ num (m.next x)) × (num (m.next (rev x)) ≡ num x))

  over0 : (i : ℕ) → i < last → Over (h i)
  over0 zero l = inl (inr (ap suc (num0 0 l), num1 0 l))
  over0 (suc j) l =
      let b : j < last = omega arith in
      let e = sym (returns j b) in
      inr (subst Live (sym e) (live2 j b), ap num e ∙ num2 j b ∙ sym (num1 (suc j) l), ap (λ x. num (m.next x)) e ∙ num3 j b ∙ sym (num0 (suc j) l))

  over1 : (i : ℕ) → i < last → Over (m.next (h i))
  over1 i l = inl (inl (ap suc (num1 i l) ∙ sym (num2 i l)))

  over2 : (i : ℕ) → i < last → Over (m.next (m.next (h i)))
  over2 i l = go (dec_lt (suc i) last)
    where
      back : rev (m.next (m.next (h i))) ≡ h (suc i)
      back = ap rev (returns i l) ∙ rev_rev (h (suc i))

      go : Dec (suc i < last) → Over (m.next (m.next (h i)))
      go (yes b) = inr (subst Live (sym back) (live0 (suc i) b), ap num back ∙ num0 (suc i) b ∙ sym (num3 i l), ap (λ x. num (m.next x)) back ∙ num1 (suc i) b ∙ sym (num2 i l))
      go (no b) = let e : suc i ≡ last = omega arith in inl (inl (ap suc (num2 i l ∙ e) ∙ sym (num3 i l)))

  pub mesh : Mesh ℕ Live m.next rev num (suc (suc last)) (Next (suc (suc last)))
  unfolding At
  mesh = record {
    stays = λ x t. stays x (live_at x t);
    three = λ x t. three x (live_at x t);
    back = rev_rev;
    order = λ x t. order x (live_at x t);
    over = λ x t. over x (live_at x t);
  }
    where
      stays : (x : ℕ) → At x → Live (m.next x)
      stays x (i, l, inl q) = subst (λ z. Live (m.next z)) (sym q) (live1 i l)
      stays x (i, l, inr (inl q)) = subst (λ z. Live (m.next z)) (sym q) (live2 i l)
      stays x (i, l, inr (inr q)) = subst Live (sym (ap m.next q ∙ closes i l)) (live0 i l)

      three : (x : ℕ) → At x → m.next (m.next (m.next x)) ≡ x
      three x (i, l, inl q) = ap (λ z. m.next (m.next (m.next z))) q ∙ closes i l ∙ sym q
      three x (i, l, inr (inl q)) = ap (λ z. m.next (m.next (m.next z))) q ∙ ap m.next (closes i l) ∙ sym q
      three x (i, l, inr (inr q)) = ap (λ z. m.next (m.next (m.next z))) q ∙ ap (λ z. m.next (m.next z)) (closes i l) ∙ sym q

      order : (x : ℕ) → At x → Cyc (suc (suc last)) (num x) (num (m.next x)) (num (m.next (m.next x)))
      order x (i, l, inl q) =
          subst (λ z. Cyc (suc (suc last)) (num z) (num (m.next z)) (num (m.next (m.next z)))) (sym q)
          (cyc3 (suc (suc last)) (sym (num0 i l)) (sym (num1 i l)) (sym (num2 i l)) (cyc_turn (suc (suc last)) (suc i) (suc last) i (cyc_turn (suc (suc last)) i (suc i) (suc last) (base i l))))
      order x (i, l, inr (inl q)) =
          subst (λ z. Cyc (suc (suc last)) (num z) (num (m.next z)) (num (m.next (m.next z)))) (sym q)
          (cyc3 (suc (suc last)) (sym (num1 i l)) (sym (num2 i l)) (sym (num3 i l)) (base i l))
      order x (i, l, inr (inr q)) =
          subst (λ z. Cyc (suc (suc last)) (num z) (num (m.next z)) (num (m.next (m.next z)))) (sym q)
          (cyc3 (suc (suc last)) (sym (num2 i l)) (sym (num3 i l)) (sym (ap (λ z. num (m.next z)) (closes i l) ∙ num1 i l)) (cyc_turn (suc (suc last)) i (suc i) (suc last) (base i l)))

      over : (x : ℕ) → At x → Over x
      over x (i, l, inl q) = subst Over (sym q) (over0 i l)
      over x (i, l, inr (inl q)) = subst Over (sym q) (over1 i l)
      over x (i, l, inr (inr q)) = subst Over (sym q) (over2 i l)

  -- ---- what is across from the apex
  pub across_at : (x : ℕ) → Across ℕ Live m.next num last x → (i : ℕ) × (i < last) × (x ≡ m.next (h i))
  unfolding At
  across_at x a = go (live_at x a.live)
    where
      high : (k : ℕ) → k < last → k ≡ suc last → ⊥
      high k l e = omega arith

      high_suc : (k : ℕ) → k < last → suc k ≡ suc last → ⊥
      high_suc k l e = omega arith

      go : At x → (i : ℕ) × (i < last) × (x ≡ m.next (h i))
      go (i, l, inl q) = absurd (high_suc i l (sym (num2 i l) ∙ ap (λ z. num (m.next (m.next z))) (sym q) ∙ a.apex))
      go (i, l, inr (inl q)) = (i, l, q)
      go (i, l, inr (inr q)) = absurd (high i l (sym (num1 i l) ∙ ap (λ z. num (m.next z)) (sym (closes i l)) ∙ ap (λ z. num (m.next (m.next z))) (sym q) ∙ a.apex))

  -- every face has the apex
  pub no_below : (x : ℕ) → Below ℕ Live m.next num last x → ⊥
  unfolding At
  no_below x b = go (live_at x b.live)
    where
      high : (k : ℕ) → k ≡ suc last → k ≤ last → ⊥
      high k e l = omega arith

      go : At x → ⊥
      go (i, l, inl q) = high (num x) (ap num q ∙ num0 i l) b.first
      go (i, l, inr (inl q)) = high (num (m.next (m.next x))) (ap (λ z. num (m.next (m.next z))) q ∙ num3 i l) b.third
      go (i, l, inr (inr q)) = high (num (m.next x)) (ap (λ z. num (m.next z)) q ∙ num3 i l) b.second

  pub unscanned : Unscanned m s last
  unfolding At
  unscanned = record {
    done = record { only = only; left = λ x b. absurd (no_below x b); right = right };
    across = λ i l. record { live = live1 i l; apex = num3 i l };
    from = num1;
    goes = num2;
  }
    where
      only : (x y : ℕ) → Across ℕ Live m.next num last x → Across ℕ Live m.next num last y → num (m.next x) ≡ num (m.next y) → x ≡ y
      only x y a b e =
          let i = across_at x a in
          let j = across_at y b in
          let q = sym (num2 i.0 i.1) ∙ ap (λ z. num (m.next z)) (sym i.2) ∙ e ∙ ap (λ z. num (m.next z)) j.2 ∙ num2 j.0 j.1 in
          i.2 ∙ ap (λ k. m.next (h k)) (same i.0 j.0 q) ∙ sym j.2
        where
          same : (i j : ℕ) → suc i ≡ suc j → i ≡ j
          same i j e = omega arith

      right : (x y : ℕ) → Across ℕ Live m.next num last x → Across ℕ Live m.next num last y → num (m.next x) ≡ num y → num (m.next y) ≤ 0
          → S (tip m s (num x)) (tip m s (num y)) (tip m s (num (m.next y))) ≤ℤ pos 0
      right x y a b e l =
          let j = across_at y b in absurd (low (num (m.next y)) j.0 (ap (λ z. num (m.next z)) j.2 ∙ num2 j.0 j.1) l)
        where
          low : (k i : ℕ) → k ≡ suc i → k ≤ 0 → ⊥
          low k i e l = omega arith

pub star_mesh : StarIsMesh
star_mesh m sd s last sl r f = mesh m sd s last sl r f

pub scan_start : ScanStarts
scan_start m sd s last sl r f = unscanned m sd s last sl r f
