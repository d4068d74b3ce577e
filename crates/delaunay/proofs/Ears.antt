-- A hole is filled by cutting off triangles: its faces stay in the order of the ring.
use Rattle.std.proofs.Common.{◌≡◌, ℕ, suc, ◌<◌, Bool, true, false, ◌≢◌, ◌⊎◌, sym, refl, ap, ◌∙◌, subst, inl, inr, arith}
use native.Mathlib.Decide.{ℕ_discrete}
use Rattle.links.proofs.Decide.{never}
use Rattle.delaunay.specs.Ring.{Cyc, Next}
use Rattle.delaunay.specs.Start.{Partial, Eared, Grown, Shrunk, RingStart, EarStep, RingEnd, ScanStep}
use Rattle.delaunay.proofs.Cycle.{cyc_in, cyc_turn, cyc3}
use Rattle.delaunay.proofs.Mesh.{scanned}

-- a, b, d and b, c, d: then a, c, d
cyc_join : (k a b c d : ℕ) → Cyc k a b d → Cyc k b c d → Cyc k a c d
cyc_join k a b c d p q = cyc_in k a c d (omega arith) (omega arith) (omega arith) (omega arith) (omega arith) (omega arith)

-- ---- one triangle
module _ (A : Type 0) (same? : (x y : A) → Dec (x ≡ y)) (Live Rest : A → Type 0) (nx nx' tw : A → A) (lab lab' : A → ℕ) (k : ℕ) (Edge : ℕ → ℕ → Type 0) (e t i o p n : A)
    (g : Partial A Live Rest nx tw lab k Edge) (E : Eared A e t i o p n nx nx' tw lab lab') (ri : Rest i) (rp : Rest p) (wide : n ≢ i)
    (fe : Live e → ⊥) (fe' : Rest e → ⊥) (ft : Live t → ⊥) (ft' : Rest t → ⊥) where
  Old : A → Type 0
  Old h = Live h ⊎ Rest h

  ro : Rest o
  ro = subst Rest E.at_i (g.goes i ri)

  rn : Rest n
  rn = subst Rest E.at_o (g.goes o ro)

  -- ---- which are different
  not_e : (h : A) → Old h → h ≢ e
  unfolding Old
  not_e h (inl l) q = fe (subst Live q l)
  not_e h (inr r) q = fe' (subst Rest q r)

  not_t : (h : A) → Old h → h ≢ t
  unfolding Old
  not_t h (inl l) q = ft (subst Live q l)
  not_t h (inr r) q = ft' (subst Rest q r)

  i_o : i ≢ o
  i_o q = wide (sym E.at_o ∙ ap nx (sym q) ∙ E.at_i ∙ sym q)

  n_o : n ≢ o
  n_o q = i_o (g.only i o ri ro (E.at_i ∙ sym q ∙ sym E.at_o))

  p_o : p ≢ o
  p_o q = wide (sym E.at_o ∙ ap nx (sym q) ∙ E.at_p)

  p_i : p ≢ i
  p_i q = i_o (sym E.at_p ∙ ap nx q ∙ E.at_i)

  -- ---- old labels
  lab_old : (h : A) → Old h → lab' h ≡ lab h
  lab_old h l = E.lab_else h (not_e h l) (not_t h l)

  next_old : (h : A) → Old h → h ≢ o → h ≢ p → nx' h ≡ nx h
  next_old h l a b = E.next_else h a (not_e h l) b (not_t h l)

  next_live : (h : A) → Live h → nx' h ≡ nx h
  unfolding Old
  next_live h l = next_old h (inl l) (λ q. g.apart h l (subst Rest (sym q) ro)) (λ q. g.apart h l (subst Rest (sym q) rp))

  next_i : nx' i ≡ o
  unfolding Old
  next_i = next_old i (inr ri) i_o (λ q. p_i (sym q)) ∙ E.at_i

  lab_next : (h : A) → Old h → lab' (nx' h) ≡ lab (nx h)
  unfolding Old
  lab_next h l = go (same? h o) (same? h p)
    where
      old_next : Old h → Old (nx h)
      old_next (inl x) = inl (g.stays h x)
      old_next (inr x) = inr (g.goes h x)

      go : Dec (h ≡ o) → Dec (h ≡ p) → lab' (nx' h) ≡ lab (nx h)
      go (yes q) d = ap (λ x. lab' (nx' x)) q ∙ ap lab' E.next_o ∙ E.lab_e ∙ ap lab (sym E.at_o) ∙ ap (λ x. lab (nx x)) (sym q)
      go (no a) (yes q) = ap (λ x. lab' (nx' x)) q ∙ ap lab' E.next_p ∙ E.lab_t ∙ ap lab (sym E.at_p) ∙ ap (λ x. lab (nx x)) (sym q)
      go (no a) (no b) = ap lab' (next_old h l a b) ∙ lab_old (nx h) (old_next l)

  -- ---- the new triangle
  corner : Cyc k (lab i) (lab o) (lab n)
  corner = elim (g.turn i n ri rn) [
    | inl q ↦ absurd (wide q)
    | inr (inl q) ↦ absurd (n_o (q ∙ E.at_i))
    | inr (inr c) ↦ cyc3 k refl (ap lab E.at_i) refl c
  ]

  lab_i : lab' i ≡ lab i
  unfolding Old
  lab_i = lab_old i (inr ri)

  lab_o : lab' o ≡ lab o
  unfolding Old
  lab_o = lab_old o (inr ro)

  grown : (h : A) → Old h → Grown A Live i o e h ⊎ Shrunk A Rest i o t h
  unfolding Old
  grown h (inl l) = inl (inl l)
  grown h (inr r) = go (same? h i) (same? h o)
    where
      go : Dec (h ≡ i) → Dec (h ≡ o) → Grown A Live i o e h ⊎ Shrunk A Rest i o t h
      go (yes q) d = inl (inr (inl q))
      go (no a) (yes q) = inl (inr (inr (inl q)))
      go (no a) (no b) = inr (inl (r, a, b))

  pub eared : Partial A (Grown A Live i o e) (Shrunk A Rest i o t) nx' tw lab' k Edge
  unfolding Old
  eared = record {
    stays = stays;
    three = three;
    order = order;
    apart = apart;
    goes = goes;
    only = only;
    turn = turn;
    back = g.back;
    over = over;
  }
    where
      stays : (h : A) → Grown A Live i o e h → Grown A Live i o e (nx' h)
      stays h (inl l) = inl (subst Live (sym (next_live h l)) (g.stays h l))
      stays h (inr (inl q)) = inr (inr (inl (ap nx' q ∙ next_i)))
      stays h (inr (inr (inl q))) = inr (inr (inr (ap nx' q ∙ E.next_o)))
      stays h (inr (inr (inr q))) = inr (inl (ap nx' q ∙ E.next_e))

      round : nx' (nx' (nx' i)) ≡ i
      round = ap (λ x. nx' (nx' x)) next_i ∙ ap nx' E.next_o ∙ E.next_e

      three : (h : A) → Grown A Live i o e h → nx' (nx' (nx' h)) ≡ h
      three h (inl l) =
          ap (λ x. nx' (nx' x)) (next_live h l) ∙ ap nx' (next_live (nx h) (g.stays h l)) ∙ next_live (nx (nx h)) (g.stays (nx h) (g.stays h l)) ∙ g.three h l
      three h (inr (inl q)) = ap (λ x. nx' (nx' (nx' x))) q ∙ round ∙ sym q
      three h (inr (inr (inl q))) = ap (λ x. nx' (nx' (nx' x))) q ∙ ap (λ x. nx' (nx' x)) E.next_o ∙ ap nx' E.next_e ∙ next_i ∙ sym q
      three h (inr (inr (inr q))) = ap (λ x. nx' (nx' (nx' x))) q ∙ ap (λ x. nx' (nx' x)) E.next_e ∙ ap nx' next_i ∙ E.next_o ∙ sym q

      order : (h : A) → Grown A Live i o e h → Cyc k (lab' h) (lab' (nx' h)) (lab' (nx' (nx' h)))
      order h (inl l) =
          cyc3 k (sym (lab_old h (inl l))) (sym (lab_next h (inl l))) (sym (ap (λ x. lab' (nx' x)) (next_live h l) ∙ lab_next (nx h) (inl (g.stays h l)))) (g.order h l)
      order h (inr (inl q)) =
          cyc3 k (sym (ap lab' q ∙ lab_i)) (sym (ap (λ x. lab' (nx' x)) q ∙ ap lab' next_i ∙ lab_o))
          (sym (ap (λ x. lab' (nx' (nx' x))) q ∙ ap (λ x. lab' (nx' x)) next_i ∙ ap lab' E.next_o ∙ E.lab_e)) corner
      order h (inr (inr (inl q))) =
          cyc3 k (sym (ap lab' q ∙ lab_o)) (sym (ap (λ x. lab' (nx' x)) q ∙ ap lab' E.next_o ∙ E.lab_e))
          (sym (ap (λ x. lab' (nx' (nx' x))) q ∙ ap (λ x. lab' (nx' x)) E.next_o ∙ ap lab' E.next_e ∙ lab_i)) (cyc_turn k (lab i) (lab o) (lab n) corner)
      order h (inr (inr (inr q))) =
          cyc3 k (sym (ap lab' q ∙ E.lab_e)) (sym (ap (λ x. lab' (nx' x)) q ∙ ap lab' E.next_e ∙ lab_i))
          (sym (ap (λ x. lab' (nx' (nx' x))) q ∙ ap (λ x. lab' (nx' x)) E.next_e ∙ ap lab' next_i ∙ lab_o)) (cyc_turn k (lab o) (lab n) (lab i) (cyc_turn k (lab i) (lab o) (lab n) corner))

      e_t : e ≢ t
      e_t q = loop
        where
          loop : ⊥
          loop = wide (sym E.next_t ∙ ap nx' (sym q) ∙ E.next_e)

      apart : (h : A) → Grown A Live i o e h → Shrunk A Rest i o t h → ⊥
      apart h (inl l) (inl r) = g.apart h l r.0
      apart h (inl l) (inr q) = ft (subst Live q l)
      apart h (inr (inl q)) (inl r) = r.1 q
      apart h (inr (inl q)) (inr z) = not_t i (inr ri) (sym q ∙ z)
      apart h (inr (inr (inl q))) (inl r) = r.2 q
      apart h (inr (inr (inl q))) (inr z) = not_t o (inr ro) (sym q ∙ z)
      apart h (inr (inr (inr q))) (inl r) = fe' (subst Rest q r.0)
      apart h (inr (inr (inr q))) (inr z) = e_t (sym q ∙ z)

      -- ---- the rest
      -- what follows an old half that is neither o nor before i is neither i nor o
      clear : (h : A) → Rest h → h ≢ i → h ≢ p → (nx h ≢ i) × (nx h ≢ o)
      clear h r a b = ((λ q. b (g.only h p r rp (q ∙ sym E.at_p))), (λ q. a (g.only h i r ri (q ∙ sym E.at_i))))

      goes : (h : A) → Shrunk A Rest i o t h → Shrunk A Rest i o t (nx' h)
      goes h (inr q) = inl (subst Rest (sym (ap nx' q ∙ E.next_t)) rn, (λ z. wide (sym (ap nx' q ∙ E.next_t) ∙ z)), (λ z. n_o (sym (ap nx' q ∙ E.next_t) ∙ z)))
      goes h (inl r) = go (same? h p)
        where
          go : Dec (h ≡ p) → Shrunk A Rest i o t (nx' h)
          go (yes q) = inr (ap nx' q ∙ E.next_p)
          go (no b) =
              let x = next_old h (inr r.0) r.2 b in
              let c = clear h r.0 r.1 b in
              inl (subst Rest (sym x) (g.goes h r.0), (λ z. c.0 (sym x ∙ z)), (λ z. c.1 (sym x ∙ z)))

      -- n after t, as it was after o
      after_t : (h : A) → Rest h → h ≢ i → h ≢ o → nx' h ≢ n
      after_t h r a b z = go (same? h p)
        where
          go : Dec (h ≡ p) → ⊥
          go (yes q) = not_t n (inr rn) (sym z ∙ ap nx' q ∙ E.next_p)
          go (no d) = b (g.only h o r ro (sym (next_old h (inr r) b d) ∙ z ∙ sym E.at_o))

      only : (h f : A) → Shrunk A Rest i o t h → Shrunk A Rest i o t f → nx' h ≡ nx' f → h ≡ f
      only h f (inr q) (inr z) e' = q ∙ sym z
      only h f (inr q) (inl r) e' = absurd (after_t f r.0 r.1 r.2 (sym e' ∙ ap nx' q ∙ E.next_t))
      only h f (inl r) (inr z) e' = absurd (after_t h r.0 r.1 r.2 (e' ∙ ap nx' z ∙ E.next_t))
      only h f (inl r) (inl u) e' = go (same? h p) (same? f p)
        where
          go : Dec (h ≡ p) → Dec (f ≡ p) → h ≡ f
          go (yes q) (yes z) = q ∙ sym z
          go (yes q) (no d) = absurd (not_t (nx f) (inr (g.goes f u.0)) (sym (next_old f (inr u.0) u.2 d) ∙ sym e' ∙ ap nx' q ∙ E.next_p))
          go (no b) (yes z) = absurd (not_t (nx h) (inr (g.goes h r.0)) (sym (next_old h (inr r.0) r.2 b) ∙ e' ∙ ap nx' z ∙ E.next_p))
          go (no b) (no d) = g.only h f r.0 u.0 (sym (next_old h (inr r.0) r.2 b) ∙ e' ∙ next_old f (inr u.0) u.2 d)

      turn : (h f : A) → Shrunk A Rest i o t h → Shrunk A Rest i o t f → (f ≡ h) ⊎ ((f ≡ nx' h) ⊎ Cyc k (lab' h) (lab' (nx' h)) (lab' f))
      turn h f (inr q) (inr z) = inl (z ∙ sym q)
      turn h f (inr q) (inl r) =
          elim (g.turn i f ri r.0) [
            | inl z ↦ absurd (r.1 z)
            | inr (inl z) ↦ absurd (r.2 (z ∙ E.at_i))
            | inr (inr c) ↦ elim (g.turn o f ro r.0) [
              | inl z ↦ absurd (r.2 z)
              | inr (inl z) ↦ inr (inl (z ∙ E.at_o ∙ sym (ap nx' q ∙ E.next_t)))
              | inr (inr d) ↦ inr (inr
                  (cyc3 k (sym (ap lab' q ∙ E.lab_t)) (sym (ap (λ x. lab' (nx' x)) q ∙ ap lab' E.next_t ∙ lab_old n (inr rn))) (sym (lab_old f (inr r.0)))
                  (cyc_join k (lab i) (lab o) (lab n) (lab f) (cyc3 k refl (ap lab E.at_i) refl c) (cyc3 k refl (ap lab E.at_o) refl d))))
            ]
          ]
      turn h f (inl r) (inr z) = go (same? h p)
        where
          go : Dec (h ≡ p) → (f ≡ h) ⊎ ((f ≡ nx' h) ⊎ Cyc k (lab' h) (lab' (nx' h)) (lab' f))
          go (yes q) = inr (inl (z ∙ sym (ap nx' q ∙ E.next_p)))
          go (no b) =
              elim (g.turn h i r.0 ri) [
                | inl y ↦ absurd (r.1 (sym y))
                | inr (inl y) ↦ absurd ((clear h r.0 r.1 b).0 (sym y))
                | inr (inr c) ↦ inr (inr (cyc3 k (sym (lab_old h (inr r.0))) (sym (lab_next h (inr r.0))) (sym (ap lab' z ∙ E.lab_t)) c))
              ]
      turn h f (inl r) (inl u) =
          elim (g.turn h f r.0 u.0) [
            | inl y ↦ inl y
            | inr (inl y) ↦ go y (same? h p)
            | inr (inr c) ↦ inr (inr (cyc3 k (sym (lab_old h (inr r.0))) (sym (lab_next h (inr r.0))) (sym (lab_old f (inr u.0))) c))
          ]
        where
          go : f ≡ nx h → Dec (h ≡ p) → (f ≡ h) ⊎ ((f ≡ nx' h) ⊎ Cyc k (lab' h) (lab' (nx' h)) (lab' f))
          go y (yes q) = absurd (u.1 (y ∙ ap nx q ∙ E.at_p))
          go y (no b) = inr (inl (y ∙ sym (next_old h (inr r.0) r.2 b)))

      -- ---- across
      t_e : tw t ≡ e
      t_e = ap tw (sym E.twin) ∙ g.back e

      old_over : (h : A) → Old h → Edge (lab' h) (lab' (nx' h)) ⊎ ((Grown A Live i o e (tw h) ⊎ Shrunk A Rest i o t (tw h)) × (lab' (tw h) ≡ lab' (nx' h)) × (lab' (nx' (tw h)) ≡ lab' h))
      old_over h l =
          elim (g.over h l) [
            | inl y ↦ inl (subst (λ a. Edge a (lab' (nx' h))) (sym (lab_old h l)) (subst (λ b. Edge (lab h) b) (sym (lab_next h l)) y))
            | inr y ↦ inr (grown (tw h) y.0, lab_old (tw h) y.0 ∙ y.1 ∙ sym (lab_next h l), lab_next (tw h) y.0 ∙ y.2 ∙ sym (lab_old h l))
          ]

      over : (h : A) → Grown A Live i o e h ⊎ Shrunk A Rest i o t h → Edge (lab' h) (lab' (nx' h)) ⊎ ((Grown A Live i o e (tw h) ⊎ Shrunk A Rest i o t (tw h)) × (lab' (tw h) ≡ lab' (nx' h)) × (lab' (nx' (tw h)) ≡ lab' h))
      over h (inl (inl l)) = old_over h (inl l)
      over h (inl (inr (inl q))) = old_over h (inr (subst Rest (sym q) ri))
      over h (inl (inr (inr (inl q)))) = old_over h (inr (subst Rest (sym q) ro))
      over h (inl (inr (inr (inr q)))) =
          let x : tw h ≡ t = ap tw q ∙ E.twin in
          inr (
            inr (inr x),
            ap lab' x ∙ E.lab_t ∙ sym (ap (λ y. lab' (nx' y)) q ∙ ap lab' E.next_e ∙ lab_i),
            ap (λ y. lab' (nx' y)) x ∙ ap lab' E.next_t ∙ lab_old n (inr rn) ∙ sym (ap lab' q ∙ E.lab_e),
          )
      over h (inr (inl r)) = old_over h (inr r.0)
      over h (inr (inr q)) =
          let x : tw h ≡ e = ap tw q ∙ t_e in
          inr (
            inl (inr (inr (inr x))),
            ap lab' x ∙ E.lab_e ∙ sym (ap (λ y. lab' (nx' y)) q ∙ ap lab' E.next_t ∙ lab_old n (inr rn)),
            ap (λ y. lab' (nx' y)) x ∙ ap lab' E.next_e ∙ lab_i ∙ sym (ap lab' q ∙ E.lab_t),
          )

not_both : (b : Bool) → b ≡ false → b ≡ true → ⊥
not_both b e f = never (sym e ∙ f)

pub ear_step : EarStep
ear_step live rest nx nx' tw lab lab' k edge e t i o p n g E ri rp wide fe fe' ft ft' =
    eared ℕ ℕ_discrete (λ h. live h ≡ true) (λ h. rest h ≡ true) nx nx' tw lab lab' k (λ a b. edge a b ≡ true) e t i o p n g E ri rp wide
    (not_both (live e) fe) (not_both (rest e) fe') (not_both (live t) ft) (not_both (rest t) ft')

-- ---- the start: neighbours
next_cyc : (k a b c : ℕ) → Next k a b → a < k → b < k → c < k → c ≢ a → c ≢ b → Cyc k a b c
next_cyc k a b c (inl e) ha hb hc p q = cyc_in k a b c ha hb hc (omega arith) (omega arith) (omega arith)
next_cyc k a b c (inr e) ha hb hc p q = cyc_in k a b c ha hb hc (omega arith) (omega arith) (omega arith)

next_only : (k a b c : ℕ) → Next k a c → Next k b c → a < k → b < k → c < k → a ≡ b
next_only k a b c (inl p) (inl q) ha hb hc = omega arith
next_only k a b c (inl p) (inr q) ha hb hc = absurd (omega arith)
next_only k a b c (inr p) (inl q) ha hb hc = absurd (omega arith)
next_only k a b c (inr p) (inr q) ha hb hc = omega arith

pub ring_start : RingStart
ring_start rest nx tw lab k back b = record {
  stays = λ h l. l;
  three = λ h l. never l;
  order = λ h l. never l;
  apart = λ h l r. never l;
  goes = b.goes;
  only = λ h g r u e.
      b.only h g r u (next_only k (lab h) (lab g) (lab (nx h)) (b.next h r) (subst (λ c. Next k (lab g) c) (ap lab (sym e)) (b.next g u)) (b.small h r) (b.small g u) (b.small (nx h) (b.goes h r)));
  turn = turn;
  back = back;
  over = λ h l. elim l [ inl x ↦ never x | inr r ↦ inl (b.next h r) ];
}
  where
    turn : (h g : ℕ) → rest h ≡ true → rest g ≡ true → (g ≡ h) ⊎ ((g ≡ nx h) ⊎ Cyc k (lab h) (lab (nx h)) (lab g))
    turn h g r u = go (ℕ_discrete (lab g) (lab h)) (ℕ_discrete (lab g) (lab (nx h)))
      where
        go : Dec (lab g ≡ lab h) → Dec (lab g ≡ lab (nx h)) → (g ≡ h) ⊎ ((g ≡ nx h) ⊎ Cyc k (lab h) (lab (nx h)) (lab g))
        go (yes q) d = inl (b.only g h u r q)
        go (no p) (yes q) = inr (inl (b.only g (nx h) u (b.goes h r) q))
        go (no p) (no q) = inr (inr (next_cyc k (lab h) (lab (nx h)) (lab g) (b.next h r) (b.small h r) (b.small (nx h) (b.goes h r)) (b.small g u) p q))

-- ---- the end: a triangle is left
pub ring_end : RingEnd
ring_end live rest nx tw lab k edge g last = record {
  stays = λ h l. elim l [ inl x ↦ inl (g.stays h x) | inr r ↦ inr (g.goes h r) ];
  three = λ h l. elim l [ inl x ↦ g.three h x | inr r ↦ (last h r).0 ];
  back = g.back;
  order = λ h l. elim l [ inl x ↦ g.order h x | inr r ↦ order h r ];
  over = λ h l. g.over h l;
}
  where
    order : (h : ℕ) → rest h ≡ true → Cyc k (lab h) (lab (nx h)) (lab (nx (nx h)))
    order h r =
        let r1 = g.goes h r in
        elim (g.turn h (nx (nx h)) r (g.goes (nx h) r1)) [
          | inl q ↦ absurd ((last h r).1 (sym (ap nx q) ∙ (last h r).0))
          | inr (inl q) ↦ absurd ((last (nx h) r1).1 q)
          | inr (inr c) ↦ c
        ]

pub scan_step : ScanStep
scan_step live nx tw lab m edge g nx' lab' e le lt from to fl apex =
    scanned ℕ ℕ_discrete (λ h. live h ≡ true) nx tw lab (suc (suc m)) (λ a b. edge a b ≡ true) g nx' lab' e le lt from to fl m apex
