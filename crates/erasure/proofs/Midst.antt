-- An entry amid a line goes, and one of its two edges.
use Rattle.std.proofs.Common.{◌≡◌, ℕ, ◌/◌, ◌<◌, ◌≤◌, Bool, cond, eqb, ◌≢◌, ◌⊎◌, pos, ◌≤ℤ◌, sym, refl, ap, ◌∙◌, subst, subst₂, inl, inr, arith, eq-eqb, ne_eqb}
use Rattle.zring.proofs.Signs.{zero-≤}
use Rattle.plane.specs.Plane.{S}
use Rattle.links.specs.Links.{Links, rev, to, ccw, place}
use Rattle.links.specs.Rules.{On, Sound}
use Rattle.links.proofs.Halves.{rev_rev, rev_half, rev_other, rev_is}
use Rattle.planar.specs.Star.{Joins}
use Rattle.planar.proofs.Joined.{joined_line}
use Rattle.surgery.specs.Update.{upd}
use Rattle.surgery.specs.Straight.{Ends, Goes, Straight}
use Rattle.surgery.specs.Sound.{Middle}
use Rattle.surgery.specs.Shaped.{Ruled}
use Rattle.surgery.specs.Sweep.{Others}
use Rattle.surgery.proofs.Updates.{upd_same, upd_other, skip, rev_live, cases_to}
use Rattle.surgery.proofs.Roots.{Unrooted, Half}
use Rattle.surgery.proofs.Straight.{straight}
use Rattle.surgery.proofs.Sound.{line_middle}
use Rattle.erasure.specs.Line.{straighten}
use Rattle.erasure.proofs.Level.{Level, Ready, flat_shaped, sound_level}
use Rattle.erasure.proofs.Leaf.{one_edge, sound_tree}

module _ (m : Links) (sd : Sound m) (f1 : m.f ≡ 1) (three : 3 ≤ m.n) (e1 : ℕ) (le1 : e1 / 2 < m.e) (two : ccw m e1 ≢ e1) where
  abbrev V : ℕ → Type 0
  V w = w < m.n

  abbrev E : ℕ → Type 0
  E k = k < m.e

  abbrev F : ℕ → Type 0
  F g = g < m.f

  abbrev e2 : ℕ
  e2 = ccw m e1

  abbrev t1 : ℕ
  t1 = rev e1

  abbrev r2 : ℕ
  r2 = rev e2

  G : Level m V E F
  G = sound_level m sd f1 (omega arith)

  W : Unrooted m V E F
  W = G.linked

  M : Middle m e1 e2
  M = line_middle m sd f1 e1 (omega arith) two

  le2 : E (e2 / 2)
  le2 = rev_live E _ (W.prev_live e1 le1)

  abbrev V' : ℕ → Type 0
  V' = Others m.n (m.origin e1)

  abbrev E' : ℕ → Type 0
  E' = Others m.e (e2 / 2)

  outer : (h : ℕ) → E (h / 2) → m.face h ≡ 0
  outer h l = omega (arith, W.face_live h l, f1)

  zero : (g : ℕ) → F g → g ≡ 0
  zero g l = omega (arith, f1)

  -- the edge of e1 stays
  le1' : E' (e1 / 2)
  le1' = (
    le1,
    λ q. elim (one_edge e1 e2 q) [
      | inl e ↦ two (sym e)
      | inr e ↦ W.ends e2 le2 (M.from ∙ ap m.origin e)
    ],
  )

  lt1' : E' (t1 / 2)
  lt1' = rev_live E' e1 le1'

  -- what follows e2, and what leads to r2, after
  abbrev last : Bool
  last = eqb (m.next e2) r2

  A : ℕ
  A = cond last e1 (m.next e2)

  Y : ℕ
  Y = cond last t1 (m.prev r2)

  way : Ends (m.next e2) (m.prev r2) e1 t1 e2 r2 A Y ⊎ Goes (m.next e2) (m.prev r2) e2 r2 A Y
  unfolding A Y
  way = elim M.way [
    | inl q ↦ let b = eq-eqb _ _ q.0 in inl (record { a_is = q.0; y_is = q.1; A-is = ap (λ b. cond b e1 (m.next e2)) b; Y-is = ap (λ b. cond b t1 (m.prev r2)) b })
    | inr q ↦ let b = ne_eqb _ _ q.0 in inr (record { a_not = q.0; y_not = q.1; A-is = ap (λ b. cond b e1 (m.next e2)) b; Y-is = ap (λ b. cond b t1 (m.prev r2)) b })
  ]

  -- a half of what stays
  kept : (h : ℕ) → E' (h / 2) → E (h / 2) × (h ≢ e2) × (h ≢ r2)
  kept h l = (l.0, (λ q. l.1 (ap (λ h. h / 2) q)), λ q. l.1 (ap (λ h. h / 2) q ∙ rev_half e2))

  -- the links after are those of a straightened line
  straightened : Straight m (straighten m e1 e2) V E F V' E' (m.origin e1) e1 t1 e2 r2 (m.next e2) (m.prev r2) A Y
  unfolding straighten A Y
  straightened = record {
    le1 = le1;
    le2 = le2;
    et1 = refl;
    te1 = rev_rev e1;
    er2 = refl;
    re2 = rev_rev e2;
    from1 = refl;
    from2 = M.from;
    only = M.only;
    next_t1 = M.next_1;
    next_r2 = M.next_2;
    next_e2 = refl;
    prev_r2 = refl;
    way = way;
    apart = M.apart;
    entry' = λ p l n. (l, n);
    half = kept;
    half' = λ h l n r. (l, λ q. elim (one_edge h e2 q) [ inl e ↦ n e | inr e ↦ r e ]);
    next_t1' = elim way [
      | inl w ↦ ap (λ z. upd (upd m.next t1 A) z e1 t1) w.Y-is ∙ upd_same _ t1 e1 ∙ sym w.A-is
      | inr w ↦ skip _ Y e1 t1 A (λ q. rev_other e2 (sym (W.next_prev r2 (rev_live E e2 le2)) ∙ ap m.next (sym (q ∙ w.Y-is)) ∙ M.next_1)) (upd_same _ t1 A)
    ];
    next_big_y = upd_same _ Y e1;
    next_else = λ x l n y. skip _ Y e1 x _ y (upd_other _ t1 A x n);
    prev_big_a = elim way [
      | inl w ↦ ap (upd (upd m.prev A t1) e1 Y) w.A-is ∙ upd_same _ e1 Y ∙ w.Y-is
      | inr w ↦ skip _ e1 Y A t1 (λ q. rev_other e2 (sym (W.prev_next r2 (rev_live E e2 le2)) ∙ ap m.prev (M.next_2 ∙ sym q ∙ w.A-is) ∙ W.prev_next e2 le2)) (upd_same _ A t1)
    ];
    prev_e1 = upd_same _ e1 Y;
    prev_else = λ x l n y. skip _ e1 Y x _ y (upd_other _ A t1 x n);
    faces = λ x l. refl;
    origin_e1 = upd_same _ e1 (to m e2);
    origin_else = λ x l n. upd_other _ e1 (to m e2) x n;
    out_live = λ p l. cases_to (λ p. V' p → E' (upd m.out (to m e2) e1 p / 2)) (to m e2) p
        (λ _. subst (Half E') (sym (upd_same _ (to m e2) e1)) le1')
        (λ n l'. subst (Half E') (sym (upd_other _ (to m e2) e1 p n)) (W.out_live p l'.0, away p l' n)) l;
    out_origin = λ p l. cases_to (λ p. V' p → upd m.origin e1 (to m e2) (upd m.out (to m e2) e1 p) ≡ p) (to m e2) p
        (λ _. ap (upd m.origin e1 (to m e2)) (upd_same _ (to m e2) e1) ∙ upd_same _ e1 (to m e2))
        (λ n l'. ap (upd m.origin e1 (to m e2)) (upd_other _ (to m e2) e1 p n) ∙ skip _ e1 (to m e2) (m.out p) p (λ q. l'.1 (sym (W.out_origin p l'.0) ∙ ap m.origin q)) (W.out_origin p l'.0)) l;
    adj_live = λ g l. subst (λ g. E' (upd m.adj 0 t1 g / 2)) (sym (zero g l)) (subst (Half E') (sym (upd_same m.adj 0 t1)) lt1');
    adj_face = λ g l. outer _ (subst (λ g. E (upd m.adj 0 t1 g / 2)) (sym (zero g l)) (subst (Half E) (sym (upd_same m.adj 0 t1)) lt1'.0)) ∙ sym (zero g l);
  }
    where
      -- the half of another entry is not of the edge that goes
      away : (p : ℕ) → V' p → p ≢ to m e2 → m.out p / 2 ≢ e2 / 2
      away p l n q = elim (one_edge (m.out p) e2 q) [
        | inl e ↦ l.1 (sym (W.out_origin p l.0) ∙ ap m.origin e ∙ M.from)
        | inr e ↦ n (sym (W.out_origin p l.0) ∙ ap m.origin e)
      ]

  -- ---- where the halves begin and end after
  abbrev L' : Links
  L' = straighten m e1 e2

  from_e1 : L'.origin e1 ≡ to m e2
  from_e1 = straightened.origin_e1

  to_e1 : to L' e1 ≡ to m e1
  to_e1 = straightened.origin_else t1 lt1' (rev_other e1)

  to_t1 : to L' t1 ≡ to m e2
  to_t1 = ap L'.origin (rev_rev e1) ∙ from_e1

  from_else : (h : ℕ) → E' (h / 2) → h ≢ e1 → L'.origin h ≡ m.origin h
  from_else = straightened.origin_else

  to_else : (h : ℕ) → E' (h / 2) → h ≢ t1 → to L' h ≡ to m h
  to_else h l n = straightened.origin_else (rev h) (rev_live E' h l) (λ q. n (rev_is h e1 q))

  -- the two halves of e1, and the others
  by_half : (T : ℕ → Type 0) → T e1 → T t1 → ((h : ℕ) → E' (h / 2) → h ≢ e1 → h ≢ t1 → T h) → (h : ℕ) → E' (h / 2) → T h
  by_half T a b else h l = cases_to (λ h. E' (h / 2) → T h) e1 h (λ _. a) (λ n. cases_to (λ h. h ≢ e1 → E' (h / 2) → T h) t1 h (λ _ _. b) (λ k n' l'. else h l' n' k) n) l

  -- what holds of the ends of the two edges as one, either way, and of those of each other half
  by_ends : (T : ℕ → ℕ → Type 0) → T (to m e2) (to m e1) → T (to m e1) (to m e2) → ((h : ℕ) → E (h / 2) → T (m.origin h) (to m h)) → (h : ℕ) → E' (h / 2) → T (L'.origin h) (to L' h)
  by_ends T a b else = by_half (λ h. T (L'.origin h) (to L' h)) (subst₂ T (sym from_e1) (sym to_e1) a) (subst₂ T (sym to_e1) (sym to_t1) b)
      (λ h l n k. subst₂ T (sym (from_else h l n)) (sym (to_else h l k)) (else h l.0))

  -- the two edges as one, either way
  J : Joins m e1 e2
  J = joined_line m sd f1 e1 e2 (omega arith) (omega (arith, le2)) (sym M.from) (λ q. two (sym q))

  J' : Joins m e2 e1
  J' = joined_line m sd f1 e2 e1 (omega (arith, le2)) (omega arith) M.from two

  live1 : V (to m e1)
  live1 = W.origin_live _ (rev_live E e1 le1)

  live2 : V (to m e2)
  live2 = W.origin_live _ (rev_live E e2 le2)

  -- no other half has the ends of e1
  is_e1 : (k : ℕ) → E' (k / 2) → L'.origin k ≡ to m e2 → to L' k ≡ to m e1 → k ≡ e1
  is_e1 = by_half (λ k. L'.origin k ≡ to m e2 → to L' k ≡ to m e1 → k ≡ e1) (λ _ _. refl)
      (λ q _. absurd (M.apart (sym to_e1 ∙ q)))
      (λ k l n r q t. absurd (J'.single k (omega (arith, l.0)) (sym (from_else k l n) ∙ q) (sym (to_else k l r) ∙ t)))

  is_t1 : (k : ℕ) → E' (k / 2) → L'.origin k ≡ to m e1 → to L' k ≡ to m e2 → k ≡ t1
  is_t1 k l q t = rev_is k e1 (is_e1 (rev k) (rev_live E' k l) t (ap L'.origin (rev_rev k) ∙ q))

  -- no two edges have the same ends
  single : (h k : ℕ) → E' (h / 2) → E' (k / 2) → L'.origin h ≡ L'.origin k → to L' h ≡ to L' k → h ≡ k
  single h k lh lk = by_half (λ h. L'.origin h ≡ L'.origin k → to L' h ≡ to L' k → h ≡ k)
      (λ q t. sym (is_e1 k lk (sym q ∙ from_e1) (sym t ∙ to_e1)))
      (λ q t. sym (is_t1 k lk (sym q ∙ to_e1) (sym t ∙ to_t1)))
      (λ h lh n r. by_half (λ k. L'.origin h ≡ L'.origin k → to L' h ≡ to L' k → h ≡ k)
      (λ q t. is_e1 h lh (q ∙ from_e1) (t ∙ to_e1))
      (λ q t. is_t1 h lh (q ∙ to_e1) (t ∙ to_t1))
      (λ k lk n' r' q t. G.ruled.single h k lh.0 lk.0 (sym (from_else h lh n) ∙ q ∙ from_else k lk n') (sym (to_else h lh r) ∙ t ∙ to_else k lk r')) k lk) h lh

  -- rule 6 after
  ruled : Ruled L' V' E'
  unfolding straighten
  ruled = record {
    apart = by_ends (λ a b. place m a ≢ place m b) (λ q. M.apart (sym (G.shaped.places _ _ live2 live1 q))) (λ q. M.apart (G.shaped.places _ _ live1 live2 q)) G.ruled.apart;
    single = single;
    clear = λ h w l lw. by_ends (λ a b. On (place m a) (place m b) (place m w) → (w ≡ a) ⊎ (w ≡ b))
        (λ on. ends (J'.clear w lw.0 on) (λ q. lw.1 (q ∙ M.from)))
        (λ on. ends (J.clear w lw.0 on) lw.1)
        (λ h l. G.ruled.clear h w l lw.0) h l;
  }
    where
      ends : {w a b c : ℕ} → (w ≡ a) ⊎ ((w ≡ b) ⊎ (w ≡ c)) → w ≢ c → (w ≡ a) ⊎ (w ≡ b)
      ends (inl q) n = inl q
      ends (inr (inl q)) n = inr q
      ends (inr (inr q)) n = absurd (n q)

  -- the entry and the second edge are dead
  pub midst_ready : Ready (straighten m e1 (ccw m e1)) (m.origin e1) (ccw m e1 / 2)
  unfolding straighten
  midst_ready = record {
    three = three;
    tree = let t = sound_tree m sd f1 (omega arith) in record { few = t.few; flat = t.flat; tree = t.tree };
    entry = W.origin_live e1 le1;
    edge = le2;
    level = record {
      linked = straight m L' V E F V' E' (m.origin e1) e1 t1 e2 r2 (m.next e2) (m.prev r2) A Y straightened W;
      shaped = flat_shaped (λ h l. outer h l.0)
          (λ h w l lw. by_ends (λ a b. S (place m a) (place m b) (place m w) ≤ℤ pos 0) (zero-≤ _ (J'.level w lw.0)) (zero-≤ _ (J.level w lw.0)) (λ h l. G.shaped.right h w l lw.0 (outer h l)) h l)
          (λ u w lu lw. G.shaped.places u w lu.0 lw.0) ruled;
      ruled = ruled;
      placed = λ w l. G.placed w l.0;
    };
  }
