-- An entry of two edges, as in the midst of a line, goes: e2 dies, and e1 starts where e2 ended.
use Rattle.std.proofs.Common.{◌≡◌, ℕ, ◌/◌, ◌≢◌, sym, ap, ◌∙◌, subst, inl, inr}
use Rattle.links.specs.Links.{Links, rev, ccw}
use Rattle.links.proofs.Halves.{rev_is}
use Rattle.surgery.specs.Update.{upd}
use Rattle.surgery.specs.Straight.{Straight}
use Rattle.surgery.proofs.Cycles.{one, same, carry, Reach}
use Rattle.surgery.proofs.Updates.{upd_same, upd_other, rev_live, rev_not, cases_to}
use Rattle.surgery.proofs.Roots.{Unrooted, Half}

pub straight : (L L' : Links) (V E F V' E' : ℕ → Type 0) (v e1 t1 e2 r2 a y A Y : ℕ) → Straight L L' V E F V' E' v e1 t1 e2 r2 a y A Y → Unrooted L V E F → Unrooted L' V' E' F
straight L L' V E F V' E' v e1 t1 e2 r2 a y A Y S W = record {
  out_live = S.out_live;
  next_live = λ h l. cases_to (λ h. E' (h / 2) → E' (L'.next h / 2)) t1 h (λ _. live S.next_t1' l_a)
      (λ n1. cases_to (λ h. h ≢ t1 → E' (h / 2) → E' (L'.next h / 2)) Y h (λ _ _. live S.next_big_y le1')
      (λ n2 n1' l'. live (S.next_else h l' n1' n2) (next_stays h l' n1' n2)) n1) l;
  prev_live = λ h l. cases_to (λ h. E' (h / 2) → E' (L'.prev h / 2)) A h (λ _. live S.prev_big_a lt1')
      (λ n1. cases_to (λ h. h ≢ A → E' (h / 2) → E' (L'.prev h / 2)) e1 h (λ _ _. live S.prev_e1 l_y)
      (λ n2 n1' l'. live (S.prev_else h l' n1' n2) (prev_stays h l' n1' n2)) n1) l;
  face_live = λ h l. subst F (sym (S.faces h l)) (W.face_live h (old h l));
  origin_live = λ h l. cases_to (λ h. E' (h / 2) → V' (L'.origin h)) e1 h
      (λ _. subst V' (sym S.origin_e1) (S.entry' _ (W.origin_live r2 lr2) r2_v))
      (λ n l'. subst V' (sym (S.origin_else h l' n)) (S.entry' _ (W.origin_live h (old h l')) (off h l' n))) l;
  adj_live = S.adj_live;
  prev_next = λ h l. cases_to (λ h. E' (h / 2) → L'.prev (L'.next h) ≡ h) t1 h (λ _. ap L'.prev S.next_t1' ∙ S.prev_big_a)
      (λ n1. cases_to (λ h. h ≢ t1 → E' (h / 2) → L'.prev (L'.next h) ≡ h) Y h (λ _ _. ap L'.prev S.next_big_y ∙ S.prev_e1)
      (λ n2 n1' l'. ap L'.prev (S.next_else h l' n1' n2) ∙ S.prev_else _ (next_stays h l' n1' n2) (next_not_a h l') (next_not_e1 h l') ∙ W.prev_next h (old h l')) n1) l;
  next_prev = λ h l. cases_to (λ h. E' (h / 2) → L'.next (L'.prev h) ≡ h) A h (λ _. ap L'.next S.prev_big_a ∙ S.next_t1')
      (λ n1. cases_to (λ h. h ≢ A → E' (h / 2) → L'.next (L'.prev h) ≡ h) e1 h (λ _ _. ap L'.next S.prev_e1 ∙ S.next_big_y)
      (λ n2 n1' l'. ap L'.next (S.prev_else h l' n1' n2) ∙ S.next_else _ (prev_stays h l' n1' n2) (prev_not_t1 h l') (prev_not_y h l') ∙ W.next_prev h (old h l')) n1) l;
  face_next = λ h l. cases_to (λ h. E' (h / 2) → L'.face (L'.next h) ≡ L'.face h) t1 h (λ _. ap L'.face S.next_t1' ∙ S.faces A l_a ∙ f_a ∙ sym (S.faces t1 lt1'))
      (λ n1. cases_to (λ h. h ≢ t1 → E' (h / 2) → L'.face (L'.next h) ≡ L'.face h) Y h (λ _ l'. ap L'.face S.next_big_y ∙ S.faces e1 le1' ∙ f_y ∙ sym (S.faces Y l'))
      (λ n2 n1' l'. ap L'.face (S.next_else h l' n1' n2) ∙ S.faces _ (next_stays h l' n1' n2) ∙ W.face_next h (old h l') ∙ sym (S.faces h l')) n1) l;
  to_next = λ h l. cases_to (λ h. E' (h / 2) → L'.origin (L'.next h) ≡ L'.origin (rev h)) t1 h
      (λ _. ap L'.origin S.next_t1' ∙ o_a ∙ sym (ap L'.origin S.te1 ∙ S.origin_e1))
      (λ n1. cases_to (λ h. h ≢ t1 → E' (h / 2) → L'.origin (L'.next h) ≡ L'.origin (rev h)) Y h
      (λ n' l'. ap L'.origin S.next_big_y ∙ S.origin_e1 ∙ sym (o_y n' l'))
      (λ n2 n1' l'. ap L'.origin (S.next_else h l' n1' n2) ∙ S.origin_else _ (next_stays h l' n1' n2) (next_not_e1 h l') ∙ W.to_next h (old h l') ∙ sym (S.origin_else _ (rev_stays h l') (rev_not h e1 t1 S.et1 n1'))) n1) l;
  out_origin = S.out_origin;
  spin = carry (ccw L) L.origin (ccw L') L'.origin f (λ x. x) Off (Half E') (λ h k lh lk q. W.spin h k lh.0 lk.0 q)
      (λ x l. (rev_live E _ (W.prev_live x l.0), λ q. l.1 (sym (prev_to x l.0) ∙ q)))
      swings
      (λ h l. cases_to (λ h. E' (h / 2) → (b : ℕ) × (Off b × (L.origin b ≡ L'.origin h) × Reach (ccw L') h (f b))) e1 h
      (λ _. (r2, ((lr2, r2_v), sym S.origin_e1, same _ _ _ (sym f_r2))))
      (λ n l'. (h, ((old h l', off h l' n), sym (S.origin_else h l' n), same _ _ _ (sym (f_else h (S.half h l').2))))) l)
      (λ h l. cases_to (λ h. E' (h / 2) → (b : ℕ) × (Off b × (L.origin b ≡ L'.origin h) × Reach (ccw L') (f b) h)) e1 h
      (λ _. (r2, ((lr2, r2_v), sym S.origin_e1, same _ _ _ f_r2)))
      (λ n l'. (h, ((old h l', off h l' n), sym (S.origin_else h l' n), same _ _ _ (f_else h (S.half h l').2)))) l);
  adj_face = S.adj_face;
  turn = carry L.next L.face L'.next L'.face k (λ x. x) (Half E) (Half E') W.turn W.next_live turns
      (λ h l. (h, (old h l, sym (S.faces h l), same _ _ _ (sym (k_else h (S.half h l).1 (S.half h l).2)))))
      (λ h l. (h, (old h l, sym (S.faces h l), same _ _ _ (k_else h (S.half h l).1 (S.half h l).2))));
  sides = λ g h lg ng l q. W.sides g h lg ng (old h l) (sym (S.faces h l) ∙ q ∙ S.faces _ (rev_stays h l));
  ends = λ h l. cases_to (λ h. E' (h / 2) → L'.origin h ≢ L'.origin (rev h)) e1 h
      (λ _ q. S.apart (sym (S.origin_else t1 lt1' t1_e1) ∙ ap L'.origin (sym S.et1) ∙ sym q ∙ S.origin_e1))
      (λ n1. cases_to (λ h. h ≢ e1 → E' (h / 2) → L'.origin h ≢ L'.origin (rev h)) t1 h
      (λ _ _ q. S.apart (sym (S.origin_else t1 lt1' t1_e1) ∙ q ∙ ap L'.origin S.te1 ∙ S.origin_e1))
      (λ n2 n1' l' q. W.ends h (old h l') (sym (S.origin_else h l' n1') ∙ q ∙ S.origin_else _ (rev_stays h l') (rev_not h e1 t1 S.et1 n2))) n1) l;
}
  where
    live : {x z : ℕ} → z ≡ x → E' (x / 2) → E' (z / 2)
    live q l = subst (λ z. E' (z / 2)) (sym q) l

    old : (h : ℕ) → E' (h / 2) → E (h / 2)
    old h l = (S.half h l).0

    lt1 : E (t1 / 2)
    lt1 = subst (Half E) S.et1 (rev_live E e1 S.le1)

    lr2 : E (r2 / 2)
    lr2 = subst (Half E) S.er2 (rev_live E e2 S.le2)

    la : E (a / 2)
    la = subst (Half E) S.next_e2 (W.next_live e2 S.le2)

    ly : E (y / 2)
    ly = subst (Half E) S.prev_r2 (W.prev_live r2 lr2)

    next_y : L.next y ≡ r2
    next_y = ap L.next (sym S.prev_r2) ∙ W.next_prev r2 lr2

    t1_v : L.origin t1 ≢ v
    t1_v q = W.ends e1 S.le1 (S.from1 ∙ sym q ∙ ap L.origin (sym S.et1))

    r2_v : L.origin r2 ≢ v
    r2_v q = W.ends e2 S.le2 (S.from2 ∙ sym q ∙ ap L.origin (sym S.er2))

    t1_e1 : t1 ≢ e1
    t1_e1 q = t1_v (ap L.origin q ∙ S.from1)

    t1_e2 : t1 ≢ e2
    t1_e2 q = t1_v (ap L.origin q ∙ S.from2)

    t1_r2 : t1 ≢ r2
    t1_r2 q = S.apart (ap L.origin q)

    e1_r2 : e1 ≢ r2
    e1_r2 q = r2_v (ap L.origin (sym q) ∙ S.from1)

    e2_r2 : e2 ≢ r2
    e2_r2 q = r2_v (ap L.origin (sym q) ∙ S.from2)

    e1_e2 : e1 ≢ e2
    e1_e2 q = t1_r2 (sym S.et1 ∙ ap rev q ∙ S.er2)

    le1' : E' (e1 / 2)
    le1' = S.half' e1 S.le1 e1_e2 e1_r2

    lt1' : E' (t1 / 2)
    lt1' = S.half' t1 lt1 t1_e2 t1_r2

    o_at_a : L.origin a ≡ L.origin r2
    o_at_a = ap L.origin (sym S.next_e2) ∙ W.to_next e2 S.le2 ∙ ap L.origin S.er2

    a_e2 : a ≢ e2
    a_e2 q = r2_v (sym o_at_a ∙ ap L.origin q ∙ S.from2)

    a_e1 : a ≢ e1
    a_e1 q = r2_v (sym o_at_a ∙ ap L.origin q ∙ S.from1)

    y_r2 : y ≢ r2
    y_r2 q = W.ends r2 lr2 (ap L.origin (sym next_y ∙ ap L.next q) ∙ W.to_next r2 lr2)

    y_t1 : y ≢ t1
    y_t1 q = e2_r2 (sym S.next_t1 ∙ ap L.next (sym q) ∙ next_y)

    -- A and Y in both ways
    by : (T : ℕ → ℕ → Type 0) → T e1 t1 → (a ≢ r2 → y ≢ e2 → T a y) → T A Y
    by T te ta =
        elim S.way [
          | inl w ↦ subst (λ z. T z Y) (sym w.A-is) (subst (λ z. T e1 z) (sym w.Y-is) te)
          | inr w ↦ subst (λ z. T z Y) (sym w.A-is) (subst (λ z. T a z) (sym w.Y-is) (ta w.a_not w.y_not))
        ]

    l_a : E' (A / 2)
    l_a = by (λ A Y. E' (A / 2)) le1' (λ n _. S.half' a la a_e2 n)

    l_y : E' (Y / 2)
    l_y = by (λ A Y. E' (Y / 2)) lt1' (λ _ n. S.half' y ly n y_r2)

    fe2 : L.face e2 ≡ L.face t1
    fe2 = ap L.face (sym S.next_t1) ∙ W.face_next t1 lt1

    fe1 : L.face e1 ≡ L.face r2
    fe1 = ap L.face (sym S.next_r2) ∙ W.face_next r2 lr2

    fa : L.face a ≡ L.face e2
    fa = ap L.face (sym S.next_e2) ∙ W.face_next e2 S.le2

    fr : L.face r2 ≡ L.face y
    fr = ap L.face (sym next_y) ∙ W.face_next y ly

    -- where the line ends, all four lie in one face
    ended : (a ≡ r2) → L.face e1 ≡ L.face t1
    ended q = fe1 ∙ ap L.face (sym q) ∙ fa ∙ fe2

    f_a : L.face A ≡ L.face t1
    f_a = elim S.way [ inl w ↦ ap L.face w.A-is ∙ ended w.a_is | inr w ↦ ap L.face w.A-is ∙ fa ∙ fe2 ]

    f_y : L.face e1 ≡ L.face Y
    f_y = elim S.way [ inl w ↦ ended w.a_is ∙ ap L.face (sym w.Y-is) | inr w ↦ fe1 ∙ fr ∙ ap L.face (sym w.Y-is) ]

    o_a : L'.origin A ≡ L.origin r2
    o_a = by (λ A Y. L'.origin A ≡ L.origin r2) S.origin_e1 (λ n _. S.origin_else a (S.half' a la a_e2 n) a_e1 ∙ o_at_a)

    rev_stays : (h : ℕ) → E' (h / 2) → E' (rev h / 2)
    rev_stays h l = rev_live E' h l

    o_y : Y ≢ t1 → E' (Y / 2) → L'.origin (rev Y) ≡ L.origin r2
    o_y n l = S.origin_else _ (rev_stays Y l) (rev_not Y e1 t1 S.et1 n) ∙ elim S.way [
      | inl w ↦ absurd (n w.Y-is)
      | inr w ↦ ap (λ z. L.origin (rev z)) w.Y-is ∙ sym (W.to_next y ly) ∙ ap L.origin next_y
    ]

    off : (h : ℕ) → E' (h / 2) → h ≢ e1 → L.origin h ≢ v
    off h l n q = elim (S.only h (old h l) q) [ inl r ↦ n r | inr r ↦ (S.half h l).1 r ]

    came : (h x z : ℕ) → E (h / 2) → E (z / 2) → L.next z ≡ x → h ≢ z → L.next h ≢ x
    came h x z l lz p d q = d (sym (W.prev_next h l) ∙ ap L.prev (q ∙ sym p) ∙ W.prev_next z lz)

    went : (h x z : ℕ) → E (h / 2) → L.next z ≡ x → h ≢ x → L.prev h ≢ z
    went h x z l p d q = d (sym (W.next_prev h l) ∙ ap L.next q ∙ p)

    next_not_e1 : (h : ℕ) → E' (h / 2) → L.next h ≢ e1
    next_not_e1 h l = came h e1 r2 (old h l) lr2 S.next_r2 (S.half h l).2

    next_not_a : (h : ℕ) → E' (h / 2) → L.next h ≢ A
    next_not_a h l = by (λ A Y. L.next h ≢ A) (next_not_e1 h l) (λ _ _. came h a e2 (old h l) S.le2 S.next_e2 (S.half h l).1)

    next_stays : (h : ℕ) → E' (h / 2) → h ≢ t1 → h ≢ Y → E' (L.next h / 2)
    next_stays h l n1 n2 = S.half' _ (W.next_live h (old h l)) (came h e2 t1 (old h l) lt1 S.next_t1 n1) (came h r2 y (old h l) ly next_y h_y)
      where
        h_y : h ≢ y
        h_y q = elim S.way [ inl w ↦ (S.half h l).1 (q ∙ w.y_is) | inr w ↦ n2 (q ∙ sym w.Y-is) ]

    prev_not_t1 : (h : ℕ) → E' (h / 2) → L.prev h ≢ t1
    prev_not_t1 h l = went h e2 t1 (old h l) S.next_t1 (S.half h l).1

    prev_not_y : (h : ℕ) → E' (h / 2) → L.prev h ≢ Y
    prev_not_y h l = by (λ A Y. L.prev h ≢ Y) (prev_not_t1 h l) (λ _ _. went h r2 y (old h l) next_y (S.half h l).2)

    prev_stays : (h : ℕ) → E' (h / 2) → h ≢ A → h ≢ e1 → E' (L.prev h / 2)
    prev_stays h l n1 n2 = S.half' _ (W.prev_live h (old h l)) (went h a e2 (old h l) S.next_e2 h_at_a) (went h e1 r2 (old h l) S.next_r2 n2)
      where
        h_at_a : h ≢ a
        h_at_a q = elim S.way [ inl w ↦ (S.half h l).2 (q ∙ w.a_is) | inr w ↦ n1 (q ∙ sym w.A-is) ]

    Off : ℕ → Type 0
    Off x = E (x / 2) × (L.origin x ≢ v)

    prev_to : (h : ℕ) → E (h / 2) → L.origin (rev (L.prev h)) ≡ L.origin h
    prev_to h l = sym (W.to_next _ (W.prev_live h l)) ∙ ap L.origin (W.next_prev h l)

    -- in the cycle of an entry e1 takes the place of r2
    f : ℕ → ℕ
    f = upd (λ x. x) r2 e1

    f_r2 : f r2 ≡ e1
    f_r2 = upd_same _ r2 e1

    f_else : (x : ℕ) → x ≢ r2 → f x ≡ x
    f_else x n = upd_other _ r2 e1 x n

    step_to : (s g : ℕ → ℕ) (x x' z w : ℕ) → g x ≡ x' → g z ≡ w → s x' ≡ w → Reach s (g x) (g z)
    step_to s g x x' z w p q r = subst (λ u. Reach s u (g z)) (sym p) (one s x' (g z) (r ∙ sym q))

    prev_a : L.prev a ≡ e2
    prev_a = ap L.prev (sym S.next_e2) ∙ W.prev_next e2 S.le2

    swings : (x : ℕ) → Off x → Reach (ccw L') (f x) (f (ccw L x))
    swings x l =
        cases_to (λ x. Off x → Reach (ccw L') (f x) (f (ccw L x))) r2 x
        (λ _. elim S.way [
          | inl w ↦ same _ _ _ (ap f (sym (ap rev (S.prev_r2 ∙ w.y_is) ∙ S.er2)))
          | inr w ↦ step_to (ccw L') f r2 e1 (ccw L r2) (rev y) f_r2 (ap f (ap rev S.prev_r2) ∙ f_else (rev y) (rev_not y r2 e2 S.re2 w.y_not)) (ap rev (S.prev_e1 ∙ w.Y-is))
        ])
        (λ n1. cases_to (λ x. x ≢ r2 → Off x → Reach (ccw L') (f x) (f (ccw L x))) a x
        (λ n _. step_to (ccw L') f a a (ccw L a) e1 (f_else a n) (ap f (ap rev prev_a ∙ S.er2) ∙ f_r2)
        (elim S.way [ inl w ↦ absurd (n w.a_is) | inr w ↦ ap rev (ap L'.prev (sym w.A-is) ∙ S.prev_big_a) ∙ S.te1 ]))
        (λ n2 n1' l'.
        let x_e2 : x ≢ e2 = λ q. l'.1 (ap L.origin q ∙ S.from2) in
        let x_e1 : x ≢ e1 = λ q. l'.1 (ap L.origin q ∙ S.from1) in
        step_to (ccw L') f x x (ccw L x) (ccw L x) (f_else x n1') (f_else _ (λ q. n2 (sym (W.next_prev x l'.0) ∙ ap L.next (rev_is _ r2 q ∙ S.re2) ∙ S.next_e2)))
        (ap rev (S.prev_else x (S.half' x l'.0 x_e2 n1') (by (λ A Y. x ≢ A) x_e1 (λ _ _. n2)) x_e1))) n1) l

    -- in the cycle of a face e2 and r2 are passed over
    k : ℕ → ℕ
    k = upd (upd (λ x. x) r2 e1) e2 A

    k_e2 : k e2 ≡ A
    k_e2 = upd_same _ e2 A

    k_r2 : k r2 ≡ e1
    k_r2 = upd_other _ e2 A r2 (λ q. e2_r2 (sym q)) ∙ upd_same _ r2 e1

    k_else : (x : ℕ) → x ≢ e2 → x ≢ r2 → k x ≡ x
    k_else x p q = upd_other _ e2 A x p ∙ upd_other _ r2 e1 x q

    turns : (x : ℕ) → E (x / 2) → Reach L'.next (k x) (k (L.next x))
    turns x l =
        cases_to (λ x. E (x / 2) → Reach L'.next (k x) (k (L.next x))) t1 x
        (λ _. step_to L'.next k t1 t1 _ A (k_else t1 t1_e2 t1_r2) (ap k S.next_t1 ∙ k_e2) S.next_t1')
        (λ n1. cases_to (λ x. x ≢ t1 → E (x / 2) → Reach L'.next (k x) (k (L.next x))) e2 x
        (λ _ _. same _ _ _ (k_e2 ∙ sym (ap k S.next_e2 ∙ elim S.way [
          | inl w ↦ ap k w.a_is ∙ k_r2 ∙ sym w.A-is
          | inr w ↦ k_else a a_e2 w.a_not ∙ sym w.A-is
        ])))
        (λ n2. cases_to (λ x. x ≢ e2 → x ≢ t1 → E (x / 2) → Reach L'.next (k x) (k (L.next x))) r2 x
        (λ _ _ _. same _ _ _ (k_r2 ∙ sym (ap k S.next_r2 ∙ k_else e1 e1_e2 e1_r2)))
        (λ n3. cases_to (λ x. x ≢ r2 → x ≢ e2 → x ≢ t1 → E (x / 2) → Reach L'.next (k x) (k (L.next x))) y x
        (λ _ n _ _. step_to L'.next k y y _ e1 (k_else y n y_r2) (ap k next_y ∙ k_r2) (elim S.way [ inl w ↦ absurd (n w.y_is) | inr w ↦ ap L'.next (sym w.Y-is) ∙ S.next_big_y ]))
        (λ n4 n3' n2' n1' l'. step_to L'.next k x x _ (L.next x) (k_else x n2' n3') (k_else _ (came x e2 t1 l' lt1 S.next_t1 n1') (came x r2 y l' ly next_y n4))
        (S.next_else x (S.half' x l' n2' n3') n1' (by (λ A Y. x ≢ Y) n1' (λ _ _. n4)))) n3) n2) n1) l
