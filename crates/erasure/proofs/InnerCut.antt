-- An entry inside is cut off: the links that are left are in order, and its hole has a rim.
use Rattle.std.proofs.Common.{◌≡◌, ℕ, zero, suc, ◌+◌, ◌-◌, ◌*◌, ◌/◌, ◌<◌, ◌≤◌, Bool, true, false, ◌≢◌, ◌⊎◌, Decides, sym, refl, ap, ◌∙◌, subst, inl, inr, not-suc-le-zero, arith, eq-eqb, ne_eqb}
use Rattle.std.proofs.lemmas.Bool.{cases_eq, cases_lt, cases_Bool, both_ways, cond-true, cond-false}
use Rattle.links.specs.Links.{Links, rev, halves, to}
use Rattle.links.specs.Rules.{Sound}
use Rattle.links.proofs.Halves.{rev_rev, rev_below, rev_even, rev_odd}
use Rattle.links.proofs.Decide.{dec_eq, dec_nat_lt, dec_and, dec_or}
use Rattle.planar.specs.Star.{spoke, Ring, Inner}
use Rattle.planar.proofs.Views.{Ranges, Weave, Triangles, ranges_of, weave_of, triangles_of, in_range, woven, by_edge}
use Rattle.planar.proofs.Faces.{two, star_face, Among, around}
use Rattle.planar.proofs.Rings.{spoke_in, spoke_origin}
use Rattle.planar.proofs.Spokes.{ends_differ}
use Rattle.planar.proofs.Degree.{three_spokes}
use Rattle.surgery.specs.Cut.{Spoked}
use Rattle.surgery.specs.Sound.{star_of, spoke_of}
use Rattle.surgery.specs.Update.{upd}
use Rattle.surgery.specs.Theorems.{AllLinked}
use Rattle.surgery.proofs.Updates.{upd_same, skip}
use Rattle.surgery.proofs.Roots.{Unrooted, unroot}
use Rattle.surgery.proofs.Theorems.{all_live}
use Rattle.surgery.proofs.Hole.{cut}
use Rattle.surgery.proofs.Sound.{inner_spoked}
use Rattle.erasure.specs.Spokes.{spoked, border}
use Rattle.erasure.specs.Detach.{detach, leading}
use Rattle.erasure.specs.Inside.{dead_edge, spokes}
use Rattle.erasure.proofs.Degree.{ring_degree}
use Rattle.erasure.proofs.Alike.{Alive}
use Rattle.erasure.proofs.Fanned.{Rim, Holed}

-- a test whose fact fails says no
pub refused : (b : Bool) → (b ≡ true → ⊥) → b ≡ false
refused b n = elim (cases_Bool b) [ inl e ↦ absurd (n e) | inr e ↦ e ]

-- a test decides what it says
pub dec_self : (b : Bool) → Decides b (b ≡ true)
dec_self b = ((λ e. e), (λ e. e))

-- where a border half starts, out_edge is such a half; elsewhere it stays
pub led : (m : Links) (s k : ℕ) (out : ℕ → ℕ) (w : ℕ)
    → ((a : ℕ) × (a < k) × (m.origin (m.next (spoke m s a)) ≡ w) × (leading m.origin out (border m s k) w ≡ m.next (spoke m s a)))
    ⊎ (((a : ℕ) → a < k → m.origin (m.next (spoke m s a)) ≢ w) × (leading m.origin out (border m s k) w ≡ out w))
led m s zero out w = inr ((λ a l. absurd (not-suc-le-zero l)), refl)
led m s (suc k) out w = elim (led m s k (upd out (m.origin g) g) w) [
  | inl (a, l, e, q) ↦ inl (a, omega arith, e, q)
  | inr (n, q) ↦ elim (cases_eq w (m.origin g)) [
    | inl e ↦ inl (k, omega arith, sym e, q ∙ ap (upd out (m.origin g) g) e ∙ upd_same out (m.origin g) g)
    | inr d ↦ inr ((λ a l. elim (cases_eq a k) [ inl e ↦ λ r. d (sym r ∙ ap (λ a. m.origin (m.next (spoke m s a))) e) | inr h ↦ n a (omega arith) ]), q ∙ skip out (m.origin g) g w _ d refl)
  ]
]
  where
    g : ℕ
    g = m.next (spoke m s k)

-- ---- edges that end at v
pub dead_half : (m : Links) (v h : ℕ) → h < halves m → Decides (dead_edge m v (h / 2)) ((m.origin h ≡ v) ⊎ (to m h ≡ v))
dead_half m v = by_edge m (λ h. Decides (dead_edge m v (h / 2)) ((m.origin h ≡ v) ⊎ (to m h ≡ v)))
    (λ k l. subst (λ h. Decides (dead_edge m v h) ((m.origin (2 * k) ≡ v) ⊎ (to m (2 * k) ≡ v))) (even k)
    (subst (λ h. Decides (dead_edge m v k) ((m.origin (2 * k) ≡ v) ⊎ (m.origin h ≡ v))) (sym (rev_even k)) (test k l)))
    (λ k l. subst (λ h. Decides (dead_edge m v h) ((m.origin (2 * k + 1) ≡ v) ⊎ (to m (2 * k + 1) ≡ v))) (odd k)
    (subst (λ h. Decides (dead_edge m v k) ((m.origin (2 * k + 1) ≡ v) ⊎ (m.origin h ≡ v))) (sym (rev_odd k)) ((λ e. turn ((test k l).0 e)), (λ e. (test k l).1 (turn e)))))
  where
    even : (k : ℕ) → k ≡ 2 * k / 2
    even k = omega arith

    odd : (k : ℕ) → k ≡ (2 * k + 1) / 2
    odd k = omega arith

    turn : {P Q : Type 0} → P ⊎ Q → Q ⊎ P
    turn (inl p) = inr p
    turn (inr q) = inl q

    test : (k : ℕ) → k < m.e → Decides (dead_edge m v k) ((m.origin (2 * k) ≡ v) ⊎ (m.origin (2 * k + 1) ≡ v))
    test k l =
        let d = dec_and (dec_nat_lt k m.e) (dec_or (dec_eq (m.origin (2 * k)) v) (dec_eq (m.origin (2 * k + 1)) v)) in
        ((λ e. (d.0 e).1), λ e. d.1 (l, e))

module _ (m : Links) (sd : Sound m) (f1 : 1 < m.f) (v : ℕ) (vl : v < m.n) (inn : Inner m v) where
  r3 : Ranges m
  r3 = ranges_of m sd

  r4 : Weave m
  r4 = weave_of m sd

  r5 : Triangles m
  r5 = triangles_of m sd

  -- where there is an inner face there is an edge, and so two entries
  n2 : 2 ≤ m.n
  n2 = let e = sd.euler.1 (λ z. absurd (omega arith)) in elim (cases_lt 1 m.n) [ inl h ↦ h | inr h ↦ two m r3 r4 0 (omega arith) ]

  abbrev s : ℕ
  s = m.out v

  abbrev k : ℕ
  k = spokes m v

  abbrev h : ℕ → ℕ
  h a = spoke m s a

  -- the halves across from v
  abbrev b : ℕ → ℕ
  b a = m.next (h a)

  -- the entries around v
  abbrev c : ℕ → ℕ
  c a = to m (h a)

  abbrev hole : ℕ
  hole = m.f + (k - 3)

  abbrev D : Links
  D = detach m v hole (border m s k) (m.next s)

  abbrev Dead : ℕ → Type 0
  Dead x = dead_edge m v x ≡ true

  abbrev Star : ℕ → Type 0
  Star g = star_of m v g ≡ true

  pub s_in : s < halves m
  s_in = r3.out_in v vl n2

  pub s_from : m.origin s ≡ v
  s_from = r4.out_at v vl n2

  -- its spokes are a ring
  pub ring : Ring m s k
  ring = ring_degree m (in_range m sd) (woven m sd) s s_in

  pub inner_at : Inner m (m.origin s)
  inner_at = subst (Inner m) (sym s_from) inn

  -- an inner entry has three spokes at least
  pub three : 3 ≤ k
  three = three_spokes m sd s s_in inner_at k ring

  h_in : (a : ℕ) → h a < halves m
  h_in = spoke_in m r3 r4 s s_in

  h_from : (a : ℕ) → m.origin (h a) ≡ v
  h_from a = spoke_origin m r3 r4 s s_in a ∙ s_from

  inner : (a : ℕ) → 0 < m.face (h a)
  inner a = inn (h a) (h_in a) (h_from a)

  pub b_in : (a : ℕ) → b a < halves m
  b_in a = r3.next_names (h a) (h_in a)

  about : Spoked m (λ x. x < m.e) v (star_of m v) (spoke_of m v)
  about = (inner_spoked m sd v vl inn).0

  half_in : (x : ℕ) → x / 2 < m.e → x < halves m
  half_in x l = omega arith

  pub edge_in : (x : ℕ) → x < halves m → x / 2 < m.e
  edge_in x l = omega arith

  -- ---- what lives
  -- an edge with neither end at v lives
  alive : (x : ℕ) → x < halves m → m.origin x ≢ v → to m x ≢ v → Alive m.e Dead (x / 2)
  alive x l d d' = (edge_in x l, λ e. elim ((dead_half m v x l).0 e) [ inl q ↦ d q | inr q ↦ d' q ])

  -- and has neither end at v
  pub off : (x : ℕ) → Alive m.e Dead (x / 2) → (m.origin x ≢ v) × (to m x ≢ v)
  off x l = let t = dead_half m v x (half_in x l.0) in ((λ q. l.1 (t.1 (inl q))), λ q. l.1 (t.1 (inr q)))

  -- a border half lives
  pub b_live : (a : ℕ) → Alive m.e Dead (b a / 2)
  b_live a = alive (b a) (b_in a) (λ q. r4.ends (h a) (h_in a) (h_from a ∙ sym (r4.joins (h a) (h_in a) ∙ q))) (about.thick (h a) (edge_in (h a) (h_in a)) (h_from a))

  -- and its face is about v
  pub b_star : (a : ℕ) → Star (m.face (b a))
  b_star a = ap (star_of m v) (r4.shares (h a) (h_in a)) ∙ about.starred (h a) (edge_in (h a) (h_in a)) (h_from a)

  -- a half of another face does not end at v
  pub beside : (x : ℕ) → x < halves m → (Star (m.face x) → ⊥) → Alive m.e Dead (x / 2)
  beside x l d = alive x l (λ q. d (about.starred x (edge_in x l) q))
      (λ q. d (ap (star_of m v) (sym (r4.shares x l)) ∙ about.starred (m.next x) (edge_in (m.next x) (r3.next_names x l)) (sym (r4.joins x l) ∙ q)))

  -- ---- out_edges: those of the entries around v are border halves, and the others do not lead to v
  out_kept : (w : ℕ) → w < m.n → w ≢ v → ((a : ℕ) → a < k → m.origin (b a) ≢ w) → Alive m.e Dead (m.out w / 2)
  out_kept w l d none = alive (m.out w) (r3.out_in w l n2) (λ q. d (sym (r4.out_at w l n2) ∙ q)) (λ q. tip q)
    where
      tip : to m (m.out w) ≡ v → ⊥
      tip q =
          let g = ring.every (rev (m.out w)) (rev_below m.e (m.out w) (r3.out_in w l n2)) (q ∙ sym s_from) in
          none g.0 g.1 (sym (r4.joins (h g.0) (h_in g.0)) ∙ ap (to m) g.2 ∙ ap m.origin (rev_rev (m.out w)) ∙ r4.out_at w l n2)

  -- so every out_edge lives, and leads out of its entry
  out_good : (w : ℕ) → w < m.n → w ≢ v → Alive m.e Dead (leading m.origin m.out (border m s k) w / 2) × (m.origin (leading m.origin m.out (border m s k) w) ≡ w)
  out_good w l d = elim (led m s k m.out w) [
    | inl (a, g, e, q) ↦ (subst (λ x. Alive m.e Dead (x / 2)) (sym q) (b_live a), ap m.origin q ∙ e)
    | inr (none, q) ↦ (subst (λ x. Alive m.e Dead (x / 2)) (sym q) (out_kept w l d none), ap m.origin q ∙ r4.out_at w l n2)
  ]

  -- ---- the cut
  all_linked : AllLinked m
  all_linked = all_live m n2 (in_range m sd) (woven m sd) sd.parted

  -- the links without v
  pub detached : Unrooted D (Alive m.n (λ w. w ≡ v)) (Alive m.e Dead) (Holed m.f Star hole)
  unfolding detach
  detached = cut m D (λ w. w < m.n) (λ x. x < m.e) (λ g. g < m.f) (Alive m.n (λ w. w ≡ v)) (Alive m.e Dead) (Holed m.f Star hole) v hole (star_of m v) (spoke_of m v)
      (record {
        entry = λ w l. l;
        entry' = λ w l d. (l, d);
        half = λ x l. let o = off x l in (l.0, o.0, o.1);
        half' = λ x l d d'. alive x (half_in x l) d d';
        inner = λ g l. elim l [ inl (q, d) ↦ inl (q, refused (star_of m v g) d) | inr q ↦ inr q ];
        inner' = λ g l e. inl (l, both_ways (star_of m v g) e);
        hole' = inr refl;
        hole_new = λ l. absurd (omega arith);
        star_at = about;
        next_far = λ x l d. cond-false _ _ _ (ne_eqb (to m (m.next x)) v d);
        next_near = λ x l q. cond-true _ _ _ (eq-eqb (to m (m.next x)) v q);
        prev_far = λ x l d. cond-false _ _ _ (ne_eqb (m.origin (m.prev x)) v d);
        prev_near = λ x l q. cond-true _ _ _ (eq-eqb (m.origin (m.prev x)) v q);
        face_star = λ x l e. cond-true _ _ _ e;
        face_else = λ x l e. cond-false _ _ _ e;
        origins = λ x l. refl;
        out_live = λ w l. (out_good w l.0 l.1).0;
        out_origin = λ w l. (out_good w l.0 l.1).1;
        adj_live = adj_live;
        adj_face = adj_face;
        before = λ g l n. (m.face (h 0), (r3.face_names (h 0) (h_in 0), some_face));
        walls = λ g x lg ng l. let o = off x l in (inner_spoked m sd v vl inn).1 x l.0 o.0 o.1;
      })
      (unroot m (λ w. w < m.n) (λ x. x < m.e) (λ g. g < m.f) m.e (λ x l. l) all_linked)
    where
      some_face : m.face (h 0) ≢ 0
      some_face q = let p = inner 0 in omega arith

      adj_live : (g : ℕ) → Holed m.f Star hole g → Alive m.e Dead (upd m.adj hole (b 0) g / 2)
      adj_live g (inr q) = subst (λ x. Alive m.e Dead (x / 2)) (sym (ap (upd m.adj hole (b 0)) q ∙ upd_same m.adj hole (b 0))) (b_live 0)
      adj_live g (inl (l, d)) =
          subst (λ x. Alive m.e Dead (x / 2)) (sym (skip m.adj hole (b 0) g _ (omega arith) refl))
          (beside (m.adj g) (r3.adj_in g l n2) (λ e. d (ap (star_of m v) (sym (r4.adj_at g l n2)) ∙ e)))

      adj_face : (g : ℕ) → Holed m.f Star hole g → D.face (upd m.adj hole (b 0) g) ≡ g
      adj_face g (inr q) = ap D.face (ap (upd m.adj hole (b 0)) q ∙ upd_same m.adj hole (b 0)) ∙ cond-true _ _ _ (b_star 0) ∙ sym q
      adj_face g (inl (l, d)) =
          ap D.face (skip m.adj hole (b 0) g _ (omega arith) refl)
          ∙ cond-false _ _ _ (refused (star_of m v (m.face (m.adj g))) (λ e. d (ap (star_of m v) (sym (r4.adj_at g l n2)) ∙ e))) ∙ r4.adj_at g l n2

  -- ---- the rim of the hole
  -- one border half leads to the next
  rim_next : (a : ℕ) → D.next (b a) ≡ b (suc a)
  unfolding detach
  rim_next a =
      let e = (star_face m r3 r4 r5 (h a) (h_in a) (inner a)).returns in
      cond-true _ _ _ (eq-eqb (to m (m.next (b a))) v (ap (to m) e ∙ ap m.origin (rev_rev (h (suc a))) ∙ h_from (suc a)))
      ∙ ap (λ x. m.next (rev x)) e ∙ ap m.next (rev_rev (h (suc a)))

  -- the border halves are its rim
  pub rim : Rim D (Alive m.n (λ w. w ≡ v)) Dead Star k hole b c
  unfolding detach
  rim = record {
    three = three;
    some = omega arith;
    number = refl;
    dead_low = λ x d. ((dec_and (dec_nat_lt x m.e) (dec_self (spoked m v x))).0 d).0;
    star_low = λ g d. ((dec_and (dec_and (dec_nat_lt 0 g) (dec_nat_lt g m.f)) (dec_self _)).0 d).0.1;
    linked = detached;
    live = λ a _. b_live a;
    next = λ a _. rim_next a;
    close = λ a q. rim_next a ∙ ap b q ∙ ap m.next ring.closed;
    from = λ a _. sym (r4.joins (h a) (h_in a));
    differ = λ a a' l l' q. ring.apart a a' l l' (ends_differ m sd (h a) (h a') (h_in a) (h_in a') (h_from a ∙ sym (h_from a')) q);
    face = λ a _. cond-true _ _ _ (b_star a);
  }

  -- a half of a face about v is a spoke, or a border half
  pub on_rim : (x : ℕ) → x < halves m → Star (m.face x) → (Dead (x / 2) → ⊥) → (a : ℕ) × (a < k) × (x ≡ b a)
  unfolding Among
  on_rim x l e d =
      let j = edge_in x l in
      let g = ring.every (spoke_of m v (m.face x)) (half_in _ (about.spoke_live x j e)) (about.spoke_from x j e ∙ sym s_from) in
      (g.0, g.1, which g.0 (around m r3 r4 r5 (h g.0) x (h_in g.0) l (inner g.0) (sym (ap m.face g.2 ∙ about.spoke_face x j e))))
    where
      which : (a : ℕ) → Among m (h a) x → x ≡ b a
      which a (inl q) = absurd (d ((dead_half m v x l).1 (inl (ap m.origin (sym q) ∙ h_from a))))
      which a (inr (inl q)) = sym q
      which a (inr (inr q)) = absurd (d ((dead_half m v x l).1 (inr (ap (to m) (sym q) ∙ ap (to m) (star_face m r3 r4 r5 (h a) (h_in a) (inner a)).returns ∙ ap m.origin (rev_rev (h (suc a))) ∙ h_from (suc a)))))
