-- A flip keeps the faces on the ring.
use Rattle.std.proofs.Common.{◌≡◌, ℕ, suc, ◌≤◌, ◌⊎◌, ℤ, pos, neg_ℤ, ◌≤ℤ◌, ◌<ℤ◌, sym, refl, ap, ◌∙◌, subst, inl, inr, arith}
use borrow.Author.Differences.{ints}
use Rattle.plane.specs.Vec.{Vec, D}
use Rattle.plane.specs.Plane.{Pt, S, C}
use Rattle.plane.proofs.Sides.{S-cyc}
use Rattle.plane.proofs.Signs.{flip_ccw}
use Rattle.plane.proofs.Forms.{D-flip, D-flip'}
use Rattle.delaunay.specs.Ring.{Cyc, Next}
use Rattle.delaunay.specs.Halves.{Halves}
use Rattle.delaunay.specs.Mesh.{Mesh, Flipped, Legal, Relisted, Left, Across, Below}
use Rattle.delaunay.specs.Start.{Scanned}
use Rattle.delaunay.proofs.Cycle.{cyc_turn, flip_order, cyc3}

pub halves_of : (A : Type 0) (Live : A → Type 0) (nx tw : A → A) (lab : A → ℕ) (w : ℕ → Vec) (k : ℕ) → Mesh A Live nx tw lab k (Next k)
    → ((h : A) → Live h → Live (tw h) → Legal A nx tw lab w h) → Halves A Live nx tw lab w k
halves_of A Live nx tw lab w k m ok =
    record {
      stays = m.stays;
      three = m.three;
      order = m.order;
      over = λ h l. elim (m.over h l) [ inl n ↦ inl n | inr o ↦ inr (o.0, o.1, o.2, ok h l o.0) ];
    }

module _ (A : Type 0) (same? : (x y : A) → Dec (x ≡ y)) (Live : A → Type 0) (nx tw : A → A) (lab : A → ℕ) (k : ℕ) (Edge : ℕ → ℕ → Type 0) (m : Mesh A Live nx tw lab k Edge)
    (nx' : A → A) (lab' : A → ℕ) (e : A) (le : Live e) (lt : Live (tw e)) (from : lab (tw e) ≡ lab (nx e)) (to : lab (nx (tw e)) ≡ lab e)
    (fl : Flipped A e (tw e) (nx e) (nx (nx e)) (nx (tw e)) (nx (nx (tw e))) nx nx' lab lab') where
  abbrev t : A
  t = tw e

  abbrev en : A
  en = nx e

  abbrev ep : A
  ep = nx (nx e)

  abbrev tn : A
  tn = nx t

  abbrev tp : A
  tp = nx (nx t)

  face_e : Cyc k (lab e) (lab en) (lab ep)
  face_e = m.order e le

  -- over the labels a, b, d of the other face
  face_t : Cyc k (lab en) (lab e) (lab tp)
  face_t = cyc3 k from to refl (m.order t lt)

  turned : Cyc k (lab ep) (lab tp) (lab en) × Cyc k (lab tp) (lab ep) (lab e)
  turned = flip_order k (lab e) (lab en) (lab ep) (lab tp) face_e face_t

  differ : (k a b c : ℕ) → Cyc k a b c → (a ≡ b → ⊥) × (b ≡ c → ⊥) × (c ≡ a → ⊥)
  differ k a b c y = (λ x. omega arith, λ x. omega arith, λ x. omega arith)

  -- labels a, b, c, d are four
  four : (k a b c d : ℕ) → Cyc k a b c → Cyc k b a d → (a ≡ b → ⊥) × (a ≡ c → ⊥) × (a ≡ d → ⊥) × (b ≡ c → ⊥) × (b ≡ d → ⊥) × (c ≡ d → ⊥)
  four k a b c d y z = (λ x. omega arith, λ x. omega arith, λ x. omega arith, λ x. omega arith, λ x. omega arith, λ x. omega arith)

  n4 : (lab e ≡ lab en → ⊥) × (lab e ≡ lab ep → ⊥) × (lab e ≡ lab tp → ⊥) × (lab en ≡ lab ep → ⊥) × (lab en ≡ lab tp → ⊥) × (lab ep ≡ lab tp → ⊥)
  n4 = four k (lab e) (lab en) (lab ep) (lab tp) face_e face_t

  en_e : en ≡ e → ⊥
  en_e x = n4.0 (sym (ap lab x))

  en_t : en ≡ t → ⊥
  en_t x = n4.1 (sym (ap (λ h. lab (nx h)) x ∙ to))

  ep_e : ep ≡ e → ⊥
  ep_e x = n4.1 (sym (ap lab x))

  ep_t : ep ≡ t → ⊥
  ep_t x = n4.3 (sym (ap lab x ∙ from))

  tn_e : tn ≡ e → ⊥
  tn_e x = n4.4 (sym (ap (λ h. lab (nx h)) x))

  tn_t : tn ≡ t → ⊥
  tn_t x = n4.0 (sym to ∙ ap lab x ∙ from)

  tp_e : tp ≡ e → ⊥
  tp_e x = n4.2 (sym (ap lab x))

  tp_t : tp ≡ t → ⊥
  tp_t x = n4.4 (sym (ap lab x ∙ from))

  l_en : lab' en ≡ lab en
  l_en = fl.labels en en_e en_t

  l_ep : lab' ep ≡ lab ep
  l_ep = fl.labels ep ep_e ep_t

  l_tn : lab' tn ≡ lab e
  l_tn = fl.labels tn tn_e tn_t ∙ to

  l_tp : lab' tp ≡ lab tp
  l_tp = fl.labels tp tp_e tp_t

  pub record Other (h : A) : Type 0 where
    pub no_e : h ≡ e → ⊥
    pub no_t : h ≡ t → ⊥
    pub no_en : h ≡ en → ⊥
    pub no_ep : h ≡ ep → ⊥
    pub no_tn : h ≡ tn → ⊥
    pub no_tp : h ≡ tp → ⊥

  data Which (h : A) : Type 0 where
    is_e : h ≡ e → Which h
    is_t : h ≡ t → Which h
    is_en : h ≡ en → Which h
    is_ep : h ≡ ep → Which h
    is_tn : h ≡ tn → Which h
    is_tp : h ≡ tp → Which h
    is_other : Other h → Which h

  which : (h : A) → Which h
  which h =
      elim (same? h e) [
        | yes x ↦ is_e x
        | no x0 ↦
            elim (same? h t) [
              | yes x ↦ is_t x
              | no x1 ↦
                  elim (same? h en) [
                    | yes x ↦ is_en x
                    | no x2 ↦
                        elim (same? h ep) [
                          | yes x ↦ is_ep x
                          | no x3 ↦
                              elim (same? h tn) [
                                | yes x ↦ is_tn x
                                | no x4 ↦
                                    elim (same? h tp) [
                                      | yes x ↦ is_tp x
                                      | no x5 ↦
                                          is_other (record { no_e = x0; no_t = x1; no_en = x2; no_ep = x3; no_tn = x4; no_tp = x5 })
                                    ]
                              ]
                        ]
                  ]
            ]
      ]

  same_nx : (h : A) → Other h → nx' h ≡ nx h
  same_nx h n = fl.others h n.no_e n.no_t n.no_en n.no_ep n.no_tn n.no_tp

  same_lab : (h : A) → Other h → lab' h ≡ lab h
  same_lab h n = fl.labels h n.no_e n.no_t

  -- h is two steps after its next
  two_back : (h x : A) → Live h → nx h ≡ x → h ≡ nx (nx x)
  two_back h x l q = sym (m.three h l) ∙ ap (λ y. nx (nx y)) q

  other_nx : (h : A) → Live h → Other h → Other (nx h)
  other_nx h l n =
      record {
        no_e = λ x. n.no_ep (two_back h e l x);
        no_t = λ x. n.no_tp (two_back h t l x);
        no_en = λ x. n.no_e (two_back h en l x ∙ m.three e le);
        no_ep = λ x. n.no_en (two_back h ep l x ∙ ap nx (m.three e le));
        no_tn = λ x. n.no_t (two_back h tn l x ∙ m.three t lt);
        no_tp = λ x. n.no_tn (two_back h tp l x ∙ ap nx (m.three t lt));
      }

  -- the two ends of every half but e and t stay
  ends : (h : A) → Live h → (h ≡ e → ⊥) → (h ≡ t → ⊥) → Which h → (lab' h ≡ lab h) × (lab' (nx' h) ≡ lab (nx h))
  ends h l he ht (is_e x) = absurd (he x)
  ends h l he ht (is_t x) = absurd (ht x)
  ends h l he ht (is_en x) = (fl.labels h he ht, ap (λ y. lab' (nx' y)) x ∙ ap lab' fl.next_en ∙ fl.lab_e ∙ ap (λ y. lab (nx y)) (sym x))
  ends h l he ht (is_ep x) = (fl.labels h he ht, ap (λ y. lab' (nx' y)) x ∙ ap lab' fl.next_ep ∙ l_tn ∙ ap lab (sym (m.three e le)) ∙ ap (λ y. lab (nx y)) (sym x))
  ends h l he ht (is_tn x) = (fl.labels h he ht, ap (λ y. lab' (nx' y)) x ∙ ap lab' fl.next_tn ∙ fl.lab_t ∙ ap (λ y. lab (nx y)) (sym x))
  ends h l he ht (is_tp x) = (fl.labels h he ht, ap (λ y. lab' (nx' y)) x ∙ ap lab' fl.next_tp ∙ l_en ∙ sym from ∙ ap lab (sym (m.three t lt)) ∙ ap (λ y. lab (nx y)) (sym x))
  ends h l he ht (is_other n) = (fl.labels h he ht, ap lab' (same_nx h n) ∙ same_lab (nx h) (other_nx h l n))

  live_tp : Live tp
  live_tp = m.stays tn (m.stays t lt)

  live_ep : Live ep
  live_ep = m.stays en (m.stays e le)

  stays' : (h : A) → Live h → Which h → Live (nx' h)
  stays' h l (is_e x) = subst Live (sym (ap nx' x ∙ fl.next_e)) live_tp
  stays' h l (is_t x) = subst Live (sym (ap nx' x ∙ fl.next_t)) live_ep
  stays' h l (is_en x) = subst Live (sym (ap nx' x ∙ fl.next_en)) le
  stays' h l (is_ep x) = subst Live (sym (ap nx' x ∙ fl.next_ep)) (m.stays t lt)
  stays' h l (is_tn x) = subst Live (sym (ap nx' x ∙ fl.next_tn)) lt
  stays' h l (is_tp x) = subst Live (sym (ap nx' x ∙ fl.next_tp)) (m.stays e le)
  stays' h l (is_other n) = subst Live (sym (same_nx h n)) (m.stays h l)

  -- three steps along the ring x, y, z
  ring3 : (h x y z : A) → h ≡ x → nx' x ≡ y → nx' y ≡ z → nx' z ≡ x → nx' (nx' (nx' h)) ≡ h
  ring3 h x y z q a b c = ap (λ u. nx' (nx' (nx' u))) q ∙ ap (λ u. nx' (nx' u)) a ∙ ap nx' b ∙ c ∙ sym q

  three' : (h : A) → Live h → Which h → nx' (nx' (nx' h)) ≡ h
  three' h l (is_e x) = ring3 h e tp en x fl.next_e fl.next_tp fl.next_en
  three' h l (is_t x) = ring3 h t ep tn x fl.next_t fl.next_ep fl.next_tn
  three' h l (is_en x) = ring3 h en e tp x fl.next_en fl.next_e fl.next_tp
  three' h l (is_ep x) = ring3 h ep tn t x fl.next_ep fl.next_tn fl.next_t
  three' h l (is_tn x) = ring3 h tn t ep x fl.next_tn fl.next_t fl.next_ep
  three' h l (is_tp x) = ring3 h tp en e x fl.next_tp fl.next_en fl.next_e
  three' h l (is_other n) =
      let n1 = other_nx h l n in
      let n2 = other_nx (nx h) (m.stays h l) n1 in
      ap (λ u. nx' (nx' u)) (same_nx h n) ∙ ap nx' (same_nx (nx h) n1) ∙ same_nx (nx (nx h)) n2 ∙ m.three h l

  -- labels along the ring x, y, z
  labs : (h x y z : A) → h ≡ x → nx' x ≡ y → nx' y ≡ z → Cyc k (lab' x) (lab' y) (lab' z) → Cyc k (lab' h) (lab' (nx' h)) (lab' (nx' (nx' h)))
  labs h x y z q a b c = cyc3 k (ap lab' (sym q)) (ap lab' (sym (ap nx' q ∙ a))) (ap lab' (sym (ap (λ u. nx' (nx' u)) q ∙ ap nx' a ∙ b))) c

  new_e : Cyc k (lab' e) (lab' tp) (lab' en)
  new_e = cyc3 k (sym fl.lab_e) (sym l_tp) (sym l_en) turned.0

  new_t : Cyc k (lab' t) (lab' ep) (lab' tn)
  new_t = cyc3 k (sym fl.lab_t) (sym l_ep) (sym l_tn) turned.1

  order' : (h : A) → Live h → Which h → Cyc k (lab' h) (lab' (nx' h)) (lab' (nx' (nx' h)))
  order' h l (is_e x) = labs h e tp en x fl.next_e fl.next_tp new_e
  order' h l (is_tp x) = labs h tp en e x fl.next_tp fl.next_en (cyc_turn k (lab' e) (lab' tp) (lab' en) new_e)
  order' h l (is_en x) = labs h en e tp x fl.next_en fl.next_e (cyc_turn k (lab' tp) (lab' en) (lab' e) (cyc_turn k (lab' e) (lab' tp) (lab' en) new_e))
  order' h l (is_t x) = labs h t ep tn x fl.next_t fl.next_ep new_t
  order' h l (is_ep x) = labs h ep tn t x fl.next_ep fl.next_tn (cyc_turn k (lab' t) (lab' ep) (lab' tn) new_t)
  order' h l (is_tn x) = labs h tn t ep x fl.next_tn fl.next_t (cyc_turn k (lab' ep) (lab' tn) (lab' t) (cyc_turn k (lab' t) (lab' ep) (lab' tn) new_t))
  order' h l (is_other n) =
      let n1 = other_nx h l n in
      let n2 = other_nx (nx h) (m.stays h l) n1 in
      cyc3 k (sym (same_lab h n)) (sym (ap lab' (same_nx h n) ∙ same_lab (nx h) n1)) (sym (ap (λ u. lab' (nx' u)) (same_nx h n) ∙ ap lab' (same_nx (nx h) n1) ∙ same_lab (nx (nx h)) n2)) (m.order h l)

  abbrev Over' : A → Type 0
  Over' h = Edge (lab' h) (lab' (nx' h)) ⊎ (Live (tw h) × (lab' (tw h) ≡ lab' (nx' h)) × (lab' (nx' (tw h)) ≡ lab' h))

  over_rest : (h : A) → Live h → (h ≡ e → ⊥) → (h ≡ t → ⊥) → Over' h
  over_rest h l he ht =
      let s = ends h l he ht (which h) in
      elim (m.over h l) [
        | inl n ↦ inl (subst (λ i. Edge i (lab' (nx' h))) (sym s.0) (subst (λ i. Edge (lab h) i) (sym s.1) n))
        | inr o ↦
            let r = ends (tw h) o.0 (λ x. ht (sym (m.back h) ∙ ap tw x)) (λ x. he (sym (m.back h) ∙ ap tw x ∙ m.back e)) (which (tw h)) in
            inr (o.0, r.0 ∙ o.1 ∙ sym s.1, r.1 ∙ o.2 ∙ sym s.0)
      ]

  at_e : Over' e
  at_e = inr (lt, fl.lab_t ∙ sym l_tp ∙ ap lab' (sym fl.next_e), ap lab' fl.next_t ∙ l_ep ∙ sym fl.lab_e)

  at_t : Over' t
  at_t =
      inr (subst Live (sym (m.back e)) le, ap lab' (m.back e) ∙ fl.lab_e ∙ sym l_ep ∙ ap lab' (sym fl.next_t), ap (λ u. lab' (nx' u)) (m.back e) ∙ ap lab' fl.next_e ∙ l_tp ∙ sym fl.lab_t)

  over' : (h : A) → Live h → Over' h
  over' h l =
      elim (same? h e) [
        | yes x ↦ subst Over' (sym x) at_e
        | no x ↦ elim (same? h t) [ yes y ↦ subst Over' (sym y) at_t | no y ↦ over_rest h l x y ]
      ]

  pub flipped : Mesh A Live nx' tw lab' k Edge
  flipped =
      record {
        stays = λ h l. stays' h l (which h);
        three = λ h l. three' h l (which h);
        back = m.back;
        order = λ h l. order' h l (which h);
        over = over';
      }

  -- ---- every edge that is not listed stays legal
  module _ (w : ℕ → Vec) (Listed Listed' : A → Type 0) (li : Relisted A e nx tw Listed Listed')
      (ok : (h : A) → Live h → Live (tw h) → Listed h ⊎ Legal A nx tw lab w h)
      (bad : pos 0 <ℤ D (w (lab e)) (w (lab en)) (w (lab ep)) (w (lab tp))) where
    low4 : {a a' b b' c c' d d' : ℕ} → a ≡ a' → b ≡ b' → c ≡ c' → d ≡ d' → D (w a) (w b) (w c) (w d) ≤ℤ pos 0 → D (w a') (w b') (w c') (w d') ≤ℤ pos 0
    low4 p q r s h = subst (λ z. z ≤ℤ pos 0) (λ i. D (w (p i)) (w (q i)) (w (r i)) (w (s i))) h

    minus : (x y : ℤ) → x ≡ neg_ℤ y → pos 0 <ℤ y → x ≤ℤ pos 0
    minus x y q h = omega (arith, ints)

    legal_e : Legal A nx' tw lab' w e
    legal_e =
        low4 (sym fl.lab_e) (sym (ap lab' fl.next_e ∙ l_tp)) (sym (ap (λ u. lab' (nx' u)) fl.next_e ∙ ap lab' fl.next_tp ∙ l_en)) (sym (ap (λ u. lab' (nx' u)) fl.next_t ∙ ap lab' fl.next_ep ∙ l_tn))
        (minus (D (w (lab ep)) (w (lab tp)) (w (lab en)) (w (lab e))) (D (w (lab e)) (w (lab en)) (w (lab ep)) (w (lab tp))) (D-flip (w (lab e)) (w (lab en)) (w (lab ep)) (w (lab tp))) bad)

    legal_t : Legal A nx' tw lab' w t
    legal_t =
        low4 (sym fl.lab_t) (sym (ap lab' fl.next_t ∙ l_ep)) (sym (ap (λ u. lab' (nx' u)) fl.next_t ∙ ap lab' fl.next_ep ∙ l_tn))
        (sym (ap (λ u. lab' (nx' (nx' u))) (m.back e) ∙ ap (λ u. lab' (nx' u)) fl.next_e ∙ ap lab' fl.next_tp ∙ l_en))
        (minus (D (w (lab tp)) (w (lab ep)) (w (lab e)) (w (lab en))) (D (w (lab e)) (w (lab en)) (w (lab ep)) (w (lab tp))) (D-flip' (w (lab e)) (w (lab en)) (w (lab ep)) (w (lab tp))) bad)

    same_third : (h : A) → Live h → Other h → lab' (nx' (nx' h)) ≡ lab (nx (nx h))
    same_third h l n =
        let n1 = other_nx h l n in
        ap (λ u. lab' (nx' u)) (same_nx h n) ∙ ap lab' (same_nx (nx h) n1) ∙ same_lab (nx (nx h)) (other_nx (nx h) (m.stays h l) n1)

    rest : (h : A) → Live h → Live (tw h) → Other h → Which (tw h) → Listed' h ⊎ Legal A nx' tw lab' w h
    rest h l r n (is_e x) = absurd (n.no_t (sym (m.back h) ∙ ap tw x))
    rest h l r n (is_t x) = absurd (n.no_e (sym (m.back h) ∙ ap tw x ∙ m.back e))
    rest h l r n (is_en x) = inl (subst Listed' (ap tw (sym x) ∙ m.back h) (li.twin en li.en))
    rest h l r n (is_ep x) = inl (subst Listed' (ap tw (sym x) ∙ m.back h) (li.twin ep li.ep))
    rest h l r n (is_tn x) = inl (subst Listed' (ap tw (sym x) ∙ m.back h) (li.twin tn li.tn))
    rest h l r n (is_tp x) = inl (subst Listed' (ap tw (sym x) ∙ m.back h) (li.twin tp li.tp))
    rest h l r n (is_other o) =
        elim (ok h l r) [
          | inl x ↦ inl (li.keeps h x n.no_e n.no_t)
          | inr x ↦ inr (low4 (sym (same_lab h n)) (sym (ap lab' (same_nx h n) ∙ same_lab (nx h) (other_nx h l n))) (sym (same_third h l n)) (sym (same_third (tw h) r o)) x)
        ]

    listed_or : (h : A) → Live h → Live (tw h) → Which h → Listed' h ⊎ Legal A nx' tw lab' w h
    listed_or h l r (is_e x) = inr (subst (Legal A nx' tw lab' w) (sym x) legal_e)
    listed_or h l r (is_t x) = inr (subst (Legal A nx' tw lab' w) (sym x) legal_t)
    listed_or h l r (is_en x) = inl (subst Listed' (sym x) li.en)
    listed_or h l r (is_ep x) = inl (subst Listed' (sym x) li.ep)
    listed_or h l r (is_tn x) = inl (subst Listed' (sym x) li.tn)
    listed_or h l r (is_tp x) = inl (subst Listed' (sym x) li.tp)
    listed_or h l r (is_other n) = rest h l r n (which (tw h))

    pub stay_legal : (h : A) → Live h → Live (tw h) → Listed' h ⊎ Legal A nx' tw lab' w h
    stay_legal h l r = listed_or h l r (which h)

  -- ---- and every face turns left
  module _ (p : ℕ → Pt) (left : (h : A) → Live h → Left A nx lab p h)
      (bad : pos 0 <ℤ C (p (lab e)) (p (lab en)) (p (lab ep)) (p (lab tp))) where
    high3 : {a a' b b' c c' : ℕ} → a ≡ a' → b ≡ b' → c ≡ c' → pos 0 <ℤ S (p a) (p b) (p c) → pos 0 <ℤ S (p a') (p b') (p c')
    high3 x y z h = subst (λ t. pos 0 <ℤ t) (λ i. S (p (x i)) (p (y i)) (p (z i))) h

    both : (pos 0 <ℤ S (p (lab ep)) (p (lab tp)) (p (lab en))) × (pos 0 <ℤ S (p (lab tp)) (p (lab ep)) (p (lab e)))
    both = flip_ccw (p (lab e)) (p (lab en)) (p (lab ep)) (p (lab tp)) (left e le) (high3 from to refl (left t lt)) bad

    -- along the ring x, y, z
    along : (h x y z : A) → h ≡ x → nx' x ≡ y → nx' y ≡ z → pos 0 <ℤ S (p (lab' x)) (p (lab' y)) (p (lab' z)) → Left A nx' lab' p h
    along h x y z q a b c = high3 (ap lab' (sym q)) (ap lab' (sym (ap nx' q ∙ a))) (ap lab' (sym (ap (λ u. nx' (nx' u)) q ∙ ap nx' a ∙ b))) c

    turn3 : (a b c : ℕ) → pos 0 <ℤ S (p a) (p b) (p c) → pos 0 <ℤ S (p b) (p c) (p a)
    turn3 a b c h = subst (λ t. pos 0 <ℤ t) (S-cyc (p a) (p b) (p c)) h

    left_e : pos 0 <ℤ S (p (lab' e)) (p (lab' tp)) (p (lab' en))
    left_e = high3 (sym fl.lab_e) (sym l_tp) (sym l_en) both.0

    left_t : pos 0 <ℤ S (p (lab' t)) (p (lab' ep)) (p (lab' tn))
    left_t = high3 (sym fl.lab_t) (sym l_ep) (sym l_tn) both.1

    lefts : (h : A) → Live h → Which h → Left A nx' lab' p h
    lefts h l (is_e x) = along h e tp en x fl.next_e fl.next_tp left_e
    lefts h l (is_tp x) = along h tp en e x fl.next_tp fl.next_en (turn3 (lab' e) (lab' tp) (lab' en) left_e)
    lefts h l (is_en x) = along h en e tp x fl.next_en fl.next_e (turn3 (lab' tp) (lab' en) (lab' e) (turn3 (lab' e) (lab' tp) (lab' en) left_e))
    lefts h l (is_t x) = along h t ep tn x fl.next_t fl.next_ep left_t
    lefts h l (is_ep x) = along h ep tn t x fl.next_ep fl.next_tn (turn3 (lab' t) (lab' ep) (lab' tn) left_t)
    lefts h l (is_tn x) = along h tn t ep x fl.next_tn fl.next_t (turn3 (lab' ep) (lab' tn) (lab' t) (turn3 (lab' t) (lab' ep) (lab' tn) left_t))
    lefts h l (is_other n) =
        let n1 = other_nx h l n in
        high3 (sym (same_lab h n)) (sym (ap lab' (same_nx h n) ∙ same_lab (nx h) n1))
        (sym (ap (λ u. lab' (nx' u)) (same_nx h n) ∙ ap lab' (same_nx (nx h) n1) ∙ same_lab (nx (nx h)) (other_nx (nx h) (m.stays h l) n1))) (left h l)

    pub stay_left : (h : A) → Live h → Left A nx' lab' p h
    stay_left h l = lefts h l (which h)

  -- ---- where e leads to the apex, the number M + 1: the halves across from it
  module _ (M : ℕ) (apex : lab en ≡ suc M) where
    across_e : Across A Live nx' lab' M e
    across_e = record { live = le; apex = ap (λ u. lab' (nx' u)) fl.next_e ∙ ap lab' fl.next_tp ∙ l_en ∙ apex }

    not_six : (x : A) → Across A Live nx lab M x → (x ≡ ep → ⊥) → (x ≡ tn → ⊥) → Other x
    not_six x a hp hn =
        record {
          no_e = λ q. n4.3 (apex ∙ sym a.apex ∙ ap (λ u. lab (nx (nx u))) q);
          no_t = λ q. n4.4 (apex ∙ sym a.apex ∙ ap (λ u. lab (nx (nx u))) q);
          no_en = λ q. n4.0 (ap lab (sym (m.three e le)) ∙ ap (λ u. lab (nx (nx u))) (sym q) ∙ a.apex ∙ sym apex);
          no_ep = hp;
          no_tn = hn;
          no_tp = λ q. n4.0 (sym to ∙ ap (λ u. lab (nx u)) (sym (m.three t lt)) ∙ ap (λ u. lab (nx (nx u))) (sym q) ∙ a.apex ∙ sym apex);
        }

    others : (x : A) → Across A Live nx lab M x → (x ≡ ep → ⊥) → (x ≡ tn → ⊥) → Across A Live nx' lab' M x × (lab' x ≡ lab x) × (lab' (nx' x) ≡ lab (nx x))
    others x a hp hn =
        let n = not_six x a hp hn in
        let n1 = other_nx x a.live n in
        let n2 = other_nx (nx x) (m.stays x a.live) n1 in (
          record { live = a.live; apex = ap (λ u. lab' (nx' u)) (same_nx x n) ∙ ap lab' (same_nx (nx x) n1) ∙ same_lab (nx (nx x)) n2 ∙ a.apex },
          same_lab x n,
          ap lab' (same_nx x n) ∙ same_lab (nx x) n1,
        )

    every : (x : A) → Across A Live nx' lab' M x → Which x → (x ≡ e) ⊎ (Across A Live nx lab M x × (x ≡ ep → ⊥) × (x ≡ tn → ⊥))
    every x a (is_e q) = inl q
    every x a (is_t q) = absurd (n4.0 (sym l_tn ∙ sym (ap (λ u. lab' (nx' (nx' u))) q ∙ ap (λ u. lab' (nx' u)) fl.next_t ∙ ap lab' fl.next_ep) ∙ a.apex ∙ sym apex))
    every x a (is_en q) = absurd (n4.4 (apex ∙ sym a.apex ∙ ap (λ u. lab' (nx' (nx' u))) q ∙ ap (λ u. lab' (nx' u)) fl.next_en ∙ ap lab' fl.next_e ∙ l_tp))
    every x a (is_ep q) = absurd (n4.4 (apex ∙ sym a.apex ∙ ap (λ u. lab' (nx' (nx' u))) q ∙ ap (λ u. lab' (nx' u)) fl.next_ep ∙ ap lab' fl.next_tn ∙ fl.lab_t))
    every x a (is_tn q) = absurd (n4.3 (apex ∙ sym a.apex ∙ ap (λ u. lab' (nx' (nx' u))) q ∙ ap (λ u. lab' (nx' u)) fl.next_tn ∙ ap lab' fl.next_t ∙ l_ep))
    every x a (is_tp q) = absurd (n4.3 (apex ∙ sym a.apex ∙ ap (λ u. lab' (nx' (nx' u))) q ∙ ap (λ u. lab' (nx' u)) fl.next_tp ∙ ap lab' fl.next_en ∙ fl.lab_e))
    every x a (is_other n) =
        let n1 = other_nx x a.live n in
        let n2 = other_nx (nx x) (m.stays x a.live) n1 in
        inr (
          record { live = a.live; apex = sym (ap (λ u. lab' (nx' u)) (same_nx x n) ∙ ap lab' (same_nx (nx x) n1) ∙ same_lab (nx (nx x)) n2) ∙ a.apex },
          n.no_ep,
          n.no_tn,
        )

    pub scanned : Scanned A Live nx nx' tw lab lab' M e
    scanned =
        record {
          across = across_e;
          from = fl.lab_e;
          goes = ap lab' fl.next_e ∙ l_tp;
          others = others;
          every = λ x a. every x a (which x);
          cut_off = (fl.lab_t, ap lab' fl.next_t ∙ l_ep, ap (λ u. lab' (nx' u)) fl.next_t ∙ ap lab' fl.next_ep ∙ l_tn);
        }

    -- ---- the faces without the apex turn left, or are flat, if the one that is cut off does
    module _ (p : ℕ → Pt) (left : (x : A) → Below A Live nx lab M x → pos 0 ≤ℤ S (p (lab x)) (p (lab (nx x))) (p (lab (nx (nx x)))))
        (new : pos 0 ≤ℤ S (p (lab ep)) (p (lab e)) (p (lab tp))) where
      high : {a a' b b' c c' : ℕ} → a ≡ a' → b ≡ b' → c ≡ c' → pos 0 ≤ℤ S (p a) (p b) (p c) → pos 0 ≤ℤ S (p a') (p b') (p c')
      high x y z h = subst (λ t. pos 0 ≤ℤ t) (λ i. S (p (x i)) (p (y i)) (p (z i))) h

      too_high : (n : ℕ) → n ≡ suc M → n ≤ M → ⊥
      too_high n e h = omega arith

      below : (x : A) → Below A Live nx' lab' M x → Which x → pos 0 ≤ℤ S (p (lab' x)) (p (lab' (nx' x))) (p (lab' (nx' (nx' x))))
      below x b (is_e q) =
          absurd (too_high (lab' (nx' (nx' x))) (ap (λ u. lab' (nx' (nx' u))) q ∙ ap (λ u. lab' (nx' u)) fl.next_e ∙ ap lab' fl.next_tp ∙ l_en ∙ apex) b.third)
      below x b (is_en q) = absurd (too_high (lab' x) (ap lab' q ∙ l_en ∙ apex) b.first)
      below x b (is_tp q) = absurd (too_high (lab' (nx' x)) (ap (λ u. lab' (nx' u)) q ∙ ap lab' fl.next_tp ∙ l_en ∙ apex) b.second)
      below x b (is_t q) =
          high (sym (ap lab' q ∙ fl.lab_t)) (sym (ap (λ u. lab' (nx' u)) q ∙ ap lab' fl.next_t ∙ l_ep))
          (sym (ap (λ u. lab' (nx' (nx' u))) q ∙ ap (λ u. lab' (nx' u)) fl.next_t ∙ ap lab' fl.next_ep ∙ l_tn))
          (subst (λ z. pos 0 ≤ℤ z) (sym (S-cyc (p (lab tp)) (p (lab ep)) (p (lab e)))) new)
      below x b (is_ep q) =
          high (sym (ap lab' q ∙ l_ep)) (sym (ap (λ u. lab' (nx' u)) q ∙ ap lab' fl.next_ep ∙ l_tn))
          (sym (ap (λ u. lab' (nx' (nx' u))) q ∙ ap (λ u. lab' (nx' u)) fl.next_ep ∙ ap lab' fl.next_tn ∙ fl.lab_t)) new
      below x b (is_tn q) =
          high (sym (ap lab' q ∙ l_tn)) (sym (ap (λ u. lab' (nx' u)) q ∙ ap lab' fl.next_tn ∙ fl.lab_t))
          (sym (ap (λ u. lab' (nx' (nx' u))) q ∙ ap (λ u. lab' (nx' u)) fl.next_tn ∙ ap lab' fl.next_t ∙ l_ep))
          (subst (λ z. pos 0 ≤ℤ z) (S-cyc (p (lab ep)) (p (lab e)) (p (lab tp))) new)
      below x b (is_other n) =
          let n1 = other_nx x b.live n in
          let n2 = other_nx (nx x) (m.stays x b.live) n1 in
          let x1 = ap lab' (same_nx x n) ∙ same_lab (nx x) n1 in
          let x2 = ap (λ u. lab' (nx' u)) (same_nx x n) ∙ ap lab' (same_nx (nx x) n1) ∙ same_lab (nx (nx x)) n2 in
          high (sym (same_lab x n)) (sym x1) (sym x2)
          (left x (record { live = b.live; first = subst (λ k. k ≤ M) (same_lab x n) b.first; second = subst (λ k. k ≤ M) x1 b.second; third = subst (λ k. k ≤ M) x2 b.third }))

      pub stay_left_below : (x : A) → Below A Live nx' lab' M x → pos 0 ≤ℤ S (p (lab' x)) (p (lab' (nx' x))) (p (lab' (nx' (nx' x))))
      stay_left_below x b = below x b (which x)

    -- ---- which halves have a face without the apex afterwards: those of the one that is cut off, and those that had one
    low : (n : ℕ) → n ≡ suc M → n ≤ M → ⊥
    low n e h = omega arith

    pub below_was : (x : A) → Below A Live nx' lab' M x → (x ≡ t) ⊎ ((x ≡ ep) ⊎ ((x ≡ tn) ⊎ Below A Live nx lab M x))
    below_was x b = go (which x)
      where
        go : Which x → (x ≡ t) ⊎ ((x ≡ ep) ⊎ ((x ≡ tn) ⊎ Below A Live nx lab M x))
        go (is_e q) = absurd (low (lab' (nx' (nx' x))) (ap (λ u. lab' (nx' (nx' u))) q ∙ across_e.apex) b.third)
        go (is_en q) = absurd (low (lab' x) (ap lab' q ∙ l_en ∙ apex) b.first)
        go (is_tp q) = absurd (low (lab' (nx' x)) (ap (λ u. lab' (nx' u)) q ∙ ap lab' fl.next_tp ∙ l_en ∙ apex) b.second)
        go (is_t q) = inl q
        go (is_ep q) = inr (inl q)
        go (is_tn q) = inr (inr (inl q))
        go (is_other n) =
            let n1 = other_nx x b.live n in
            let n2 = other_nx (nx x) (m.stays x b.live) n1 in
            let x1 = ap lab' (same_nx x n) ∙ same_lab (nx x) n1 in
            let x2 = ap (λ u. lab' (nx' u)) (same_nx x n) ∙ ap lab' (same_nx (nx x) n1) ∙ same_lab (nx (nx x)) n2 in
            inr (inr (inr (record { live = b.live; first = subst (λ k. k ≤ M) (same_lab x n) b.first; second = subst (λ k. k ≤ M) x1 b.second; third = subst (λ k. k ≤ M) x2 b.third })))

    pub below_stays : (x : A) → Below A Live nx lab M x → Below A Live nx' lab' M x
    below_stays x b = go (which x)
      where
        go : Which x → Below A Live nx' lab' M x
        go (is_e q) = absurd (low (lab (nx x)) (ap (λ u. lab (nx u)) q ∙ apex) b.second)
        go (is_en q) = absurd (low (lab x) (ap lab q ∙ apex) b.first)
        go (is_ep q) = absurd (low (lab (nx (nx x))) (ap (λ u. lab (nx (nx u))) q ∙ ap (λ u. lab (nx u)) (m.three e le) ∙ apex) b.third)
        go (is_t q) = absurd (low (lab x) (ap lab q ∙ from ∙ apex) b.first)
        go (is_tn q) = absurd (low (lab (nx (nx x))) (ap (λ u. lab (nx (nx u))) q ∙ ap lab (m.three t lt) ∙ from ∙ apex) b.third)
        go (is_tp q) = absurd (low (lab (nx x)) (ap (λ u. lab (nx u)) q ∙ ap lab (m.three t lt) ∙ from ∙ apex) b.second)
        go (is_other n) =
            let n1 = other_nx x b.live n in
            let n2 = other_nx (nx x) (m.stays x b.live) n1 in
            let x1 = ap lab' (same_nx x n) ∙ same_lab (nx x) n1 in
            let x2 = ap (λ u. lab' (nx' u)) (same_nx x n) ∙ ap lab' (same_nx (nx x) n1) ∙ same_lab (nx (nx x)) n2 in
            record { live = b.live; first = subst (λ k. k ≤ M) (sym (same_lab x n)) b.first; second = subst (λ k. k ≤ M) (sym x1) b.second; third = subst (λ k. k ≤ M) (sym x2) b.third }
