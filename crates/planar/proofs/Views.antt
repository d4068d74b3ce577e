-- The rules in the form that the proofs read: by halves instead of edges, and each link on its own.
use mathlib.Core.Path.{◌≡◌, refl, sym, ◌∙◌, ap, subst}
use mathlib.Core.Logic.{◌⊎◌, inl, inr}
use Prim.Native.Nat.{ℕ, ◌+◌, ◌*◌, ◌/◌, ◌≤◌, ◌<◌}
use native.Mathlib.Omega.{arith}
use native.Mathlib.Decide.{dec_lt}
use lib.IntN.{ℤ, pos, neg_ℤ, nat_abs}
use lib.Signed.{◌≤ℤ◌, ◌<ℤ◌}
use Rattle.plane.specs.Plane.{Pt, S, C, dot}
use Rattle.plane.proofs.Sides.{S-swap}
use Rattle.links.specs.Links.{Links, rev, halves, to, ccw, place, Reached}
use Rattle.links.specs.Rules.{Sound, corner0, corner1, corner2}
use Rattle.links.specs.Rules as R
use Rattle.links.proofs.Halves.{rev_even, rev_odd}
use Rattle.planar.specs.Parts.{InRange, Woven, CcwFaces, HullRule, CircleRule, OuterClear, OuterOnly}
use Rattle.planar.proofs.Terms.{dot_swap}

-- q lies on the segment from a to b, ends included
pub record On (a b q : Pt) : Type 0 where
  pub line : S a b q ≡ pos 0
  pub between : dot q a b ≤ℤ pos 0

pub on_in : (a b q : Pt) → R.On a b q → On a b q
on_in a b q h = record { line = h.0; between = h.1 }

pub on_swap : (a b q : Pt) → On a b q → On b a q
on_swap a b q h = record { line = S-swap b a q ∙ ap neg_ℤ h.line; between = subst (λ z. z ≤ℤ pos 0) (dot_swap q a b) h.between }

pub on_out : (a b q : Pt) → On a b q → R.On a b q
on_out a b q h = (h.line, h.between)

pub positive : (k : ℕ) → ¬ (k ≡ 0) → 0 < k
positive k d = omega arith

module _ (m : Links) where
  -- S of the origins of h and the two halves after it
  abbrev pub area : ℕ → ℤ
  area h = S (corner0 m h) (corner1 m h) (corner2 m h)

  -- C of a face's corners and an entry
  abbrev pub power : ℕ → ℕ → ℤ
  power h v = C (corner0 m h) (corner1 m h) (corner2 m h) (place m v)

  -- rule 3
  pub record Ranges : Type 0 where
    pub out_in : (v : ℕ) → v < m.n → 2 ≤ m.n → m.out v < halves m
    pub next_names : (h : ℕ) → h < halves m → m.next h < halves m
    pub prev_names : (h : ℕ) → h < halves m → m.prev h < halves m
    pub face_names : (h : ℕ) → h < halves m → m.face h < m.f
    pub origin_names : (h : ℕ) → h < halves m → m.origin h < m.n
    pub adj_in : (k : ℕ) → k < m.f → 2 ≤ m.n → m.adj k < halves m

  -- rule 4 but for its clauses on sides and counts
  pub record Weave : Type 0 where
    pub undone : (h : ℕ) → h < halves m → (m.prev (m.next h) ≡ h) × (m.next (m.prev h) ≡ h)
    pub shares : (h : ℕ) → h < halves m → m.face (m.next h) ≡ m.face h
    pub joins : (h : ℕ) → h < halves m → to m h ≡ m.origin (m.next h)
    pub out_at : (v : ℕ) → v < m.n → 2 ≤ m.n → m.origin (m.out v) ≡ v
    pub out_cycle : (h : ℕ) → h < halves m → Reached (ccw m) (m.out (m.origin h)) h
    pub adj_at : (k : ℕ) → k < m.f → 2 ≤ m.n → m.face (m.adj k) ≡ k
    pub adj_cycle : (h : ℕ) → h < halves m → Reached m.next (m.adj (m.face h)) h
    pub ends : (h : ℕ) → h < halves m → ¬ (m.origin h ≡ to m h)

  -- rule 5
  pub record Triangles : Type 0 where
    pub three : (k : ℕ) → 0 < k → k < m.f → (¬ (m.next (m.adj k) ≡ m.adj k)) × (m.next (m.next (m.next (m.adj k))) ≡ m.adj k)
    pub turns : (k : ℕ) → 0 < k → k < m.f → pos 0 <ℤ area (m.adj k)

  -- rule 6
  pub record Edges : Type 0 where
    pub apart : (h : ℕ) → h < halves m → ¬ (place m (m.origin h) ≡ place m (to m h))
    pub only : (h k : ℕ) → h < halves m → k < halves m → m.origin h ≡ m.origin k → to m h ≡ to m k → h ≡ k
    pub clear : (h v : ℕ) → h < halves m → v < m.n → On (place m (m.origin h)) (place m (to m h)) (place m v) → (v ≡ m.origin h) ⊎ (v ≡ to m h)

  -- rule 7
  abbrev pub RightOf : Type 0
  RightOf = (h v : ℕ) → h < halves m → m.face h ≡ 0 → v < m.n → S (place m (m.origin h)) (place m (to m h)) (place m v) ≤ℤ pos 0

  -- rule 8
  abbrev pub Circles : Type 0
  Circles = (k v : ℕ) → 0 < k → k < m.f → v < m.n → power (m.adj k) v ≤ℤ pos 0

  -- what planarity asks of the outer face
  pub record Outside : Type 0 where
    pub right : RightOf
    pub clear : (h v : ℕ) → h < halves m → m.face h ≡ 0 → v < m.n → On (place m (m.origin h)) (place m (to m h)) (place m v) → (v ≡ m.origin h) ⊎ (v ≡ to m h)
    pub only : OuterOnly m

  -- ---- from the clauses
  pub ranges : InRange m → Ranges
  ranges r = record {
    out_in = λ v l t. r.out_named v l ((r.out_rooted v l).1 t);
    next_names = λ h l. (r.half_named h l).0;
    prev_names = λ h l. (r.half_named h l).1;
    face_names = λ h l. (r.half_named h l).2;
    origin_names = λ h l. (r.half_named h l).3;
    adj_in = λ k l t. r.adj_named k l ((r.adj_rooted k l).1 t);
  }

  -- a fact of the halves of each edge holds of every half
  pub by_edge : (P : ℕ → Type 0) → ((k : ℕ) → k < m.e → P (2 * k)) → ((k : ℕ) → k < m.e → P (2 * k + 1)) → (h : ℕ) → h < halves m → P h
  by_edge P even odd h l = go (h / 2) (split h)
    where
      split : (h : ℕ) → (h ≡ 2 * (h / 2)) ⊎ (h ≡ 2 * (h / 2) + 1)
      split h = elim (dec_lt (2 * (h / 2)) h) [ yes p ↦ inr (omega arith) | no p ↦ inl (omega arith) ]

      go : (k : ℕ) → (h ≡ 2 * k) ⊎ (h ≡ 2 * k + 1) → P h
      go k (inl e) = subst P (sym e) (even k (omega arith))
      go k (inr e) = subst P (sym e) (odd k (omega arith))

  pub weave : InRange m → Woven m → Weave
  weave r w = record {
    undone = w.undone;
    shares = w.shared;
    joins = w.joined;
    out_at = λ v l t. (w.around v l).0 ((r.out_rooted v l).1 t);
    out_cycle = λ h l. ((w.around (m.origin h) (r.half_named h l).3).1 h l refl).1;
    adj_at = λ k l t. (w.along k l).0 ((r.adj_rooted k l).1 t);
    adj_cycle = λ h l. ((w.along (m.face h) (r.half_named h l).2).1 h l refl).1;
    ends = by_edge (λ h. ¬ (m.origin h ≡ to m h)) (λ k l e. w.ended k l (e ∙ ap m.origin (rev_even k)))
        (λ k l e. w.ended k l (sym (e ∙ ap m.origin (rev_odd k))));
  }

  not_zero : {k : ℕ} → 0 < k → ¬ (k ≡ 0)
  not_zero p e = omega arith

  pub triangles : CcwFaces m → Triangles
  triangles t = record {
    three = λ k p l. let q = t k l (not_zero p) in (q.0, q.1);
    turns = λ k p l. (t k l (not_zero p)).2;
  }

  pub right_in : HullRule m → RightOf
  right_in u h v l f p = u h v l p f

  pub circles_in : CircleRule m → Circles
  circles_in c k v p l q = c k v l q (not_zero p)

  pub outside : HullRule m → OuterClear m → OuterOnly m → Outside
  outside u c o = record {
    right = right_in u;
    clear = λ h v l f p s. c h v l p f (on_out (place m (m.origin h)) (place m (to m h)) (place m v) s);
    only = o;
  }

  pub parted_halves : ((k : ℕ) → k < m.e → R.Parted m k) → 1 < m.f → (h : ℕ) → h < halves m → ¬ (m.face h ≡ m.face (rev h))
  parted_halves p f1 =
      by_edge (λ h. ¬ (m.face h ≡ m.face (rev h))) (λ k l e. p k l f1 (e ∙ ap m.face (rev_even k)))
      (λ k l e. p k l f1 (sym (e ∙ ap m.face (rev_odd k))))

  -- ---- from a sound map
  module _ (s : Sound m) where
    pub in_range : InRange m
    in_range = record {
      out_named = s.out_named;
      half_named = s.half_named;
      adj_named = s.adj_named;
      out_rooted = s.out_rooted;
      adj_rooted = s.adj_rooted;
    }

    pub woven : Woven m
    woven = record {
      undone = s.undone;
      shared = s.shared;
      joined = s.joined;
      around = s.around;
      along = s.along;
      ended = s.ended;
    }

    pub ranges_of : Ranges
    ranges_of = ranges in_range

    pub weave_of : Weave
    weave_of = weave in_range woven

    pub triangles_of : Triangles
    triangles_of = triangles s.turned

    pub right_of : RightOf
    right_of = right_in s.hulled

    pub circles_of : Circles
    circles_of = circles_in s.empty

    pub parts_of : 1 < m.f → (h : ℕ) → h < halves m → ¬ (m.face h ≡ m.face (rev h))
    parts_of = parted_halves s.parted

    pub edges_of : Edges
    edges_of = record { apart = apart; only = only; clear = clear }
      where
        nat : (a b : ℕ) → pos a ≡ pos b → a ≡ b
        nat a b e = ap nat_abs e

        xy : (u v : ℕ) → place m u ≡ place m v → (m.x u ≡ m.x v) × (m.y u ≡ m.y v)
        xy u v e = (nat (m.x u) (m.x v) (ap (λ p. p.x) e), nat (m.y u) (m.y v) (ap (λ p. p.y) e))

        apart : (h : ℕ) → h < halves m → ¬ (place m (m.origin h) ≡ place m (to m h))
        apart =
            by_edge (λ h. ¬ (place m (m.origin h) ≡ place m (to m h)))
            (λ k l e. s.apart k l (xy (m.origin (2 * k)) (m.origin (2 * k + 1)) (e ∙ ap (λ h. place m (m.origin h)) (rev_even k))))
            (λ k l e. s.apart k l (xy (m.origin (2 * k)) (m.origin (2 * k + 1)) (sym (e ∙ ap (λ h. place m (m.origin h)) (rev_odd k)))))

        -- two halves with the same ends are on one edge, and not the two halves of it
        only : (h k : ℕ) → h < halves m → k < halves m → m.origin h ≡ m.origin k → to m h ≡ to m k → h ≡ k
        only h k hl kl e q =
            by_edge (λ h. m.origin h ≡ m.origin k → to m h ≡ to m k → h ≡ k)
            (λ i il. by_edge (λ k. m.origin (2 * i) ≡ m.origin k → to m (2 * i) ≡ to m k → 2 * i ≡ k)
            (λ j jl e q. ap (λ z. 2 * z) (same i j il jl (inl (e, odd_to i ∙ q ∙ sym (odd_to j)))))
            (λ j jl e q. absurd (turned i j il jl (inr (e, odd_to i ∙ q ∙ even_to j)) e)) k kl)
            (λ i il. by_edge (λ k. m.origin (2 * i + 1) ≡ m.origin k → to m (2 * i + 1) ≡ to m k → 2 * i + 1 ≡ k)
            (λ j jl e q. absurd (turned j i jl il (inr (sym e, odd_to j ∙ sym q ∙ even_to i)) (sym e)))
            (λ j jl e q. ap (λ z. 2 * z + 1) (same i j il jl (inl (sym (even_to i) ∙ q ∙ even_to j, e)))) k kl)
            h hl e q
          where
            odd_to : (i : ℕ) → m.origin (2 * i + 1) ≡ to m (2 * i)
            odd_to i = ap m.origin (sym (rev_even i))

            even_to : (i : ℕ) → to m (2 * i + 1) ≡ m.origin (2 * i)
            even_to i = ap m.origin (rev_odd i)

            back : (i j : ℕ) → R.Twins m i j → R.Twins m j i
            back i j (inl (a, b)) = inl (sym a, sym b)
            back i j (inr (a, b)) = inr (sym b, sym a)

            same : (i j : ℕ) → i < m.e → j < m.e → R.Twins m i j → i ≡ j
            same i j il jl t = go (dec_lt i j) (dec_lt j i)
              where
                go : Dec (i < j) → Dec (j < i) → i ≡ j
                go (yes p) d = absurd (s.single i j il jl p t)
                go (no p) (yes d) = absurd (s.single j i jl il d (back i j t))
                go (no p) (no d) = omega arith

            turned : (i j : ℕ) → i < m.e → j < m.e → R.Twins m i j → m.origin (2 * i) ≡ m.origin (2 * j + 1) → ⊥
            turned i j il jl t e = s.ended j jl (ap (λ z. m.origin (2 * z)) (sym (same i j il jl t)) ∙ e)

        clear : (h v : ℕ) → h < halves m → v < m.n → On (place m (m.origin h)) (place m (to m h)) (place m v) → (v ≡ m.origin h) ⊎ (v ≡ to m h)
        clear h v hl vl =
            by_edge (λ h. On (place m (m.origin h)) (place m (to m h)) (place m v) → (v ≡ m.origin h) ⊎ (v ≡ to m h))
            (λ k l on. subst (λ i. (v ≡ m.origin (2 * k)) ⊎ (v ≡ m.origin i)) (sym (rev_even k)) (s.clear k v l vl (on_out (place m (m.origin (2 * k))) (place m (m.origin (2 * k + 1))) (place m v) (subst (λ i. On (place m (m.origin (2 * k))) (place m (m.origin i)) (place m v)) (rev_even k) on))))
            (λ k l on. other k (s.clear k v l vl (on_out (place m (m.origin (2 * k))) (place m (m.origin (2 * k + 1))) (place m v) (on_swap (place m (m.origin (2 * k + 1))) (place m (m.origin (2 * k))) (place m v) (subst (λ i. On (place m (m.origin (2 * k + 1))) (place m (m.origin i)) (place m v)) (rev_odd k) on)))))
            h hl
          where
            other : (k : ℕ) → (v ≡ m.origin (2 * k)) ⊎ (v ≡ m.origin (2 * k + 1)) → (v ≡ m.origin (2 * k + 1)) ⊎ (v ≡ to m (2 * k + 1))
            other k (inl e) = inr (e ∙ ap m.origin (sym (rev_odd k)))
            other k (inr e) = inl e

    pub outside_of : Outside
    outside_of = record { right = right_of; clear = λ h v l _ p. edges_of.clear h v l p; only = λ h k l r _ _. edges_of.only h k l r }
