-- An entry is cut out: its spokes and itself die, and the faces about it become one.
use Rattle.std.proofs.Common.{◌≡◌, ℕ, ◌/◌, Bool, true, false, eqb, ◌≢◌, ◌⊎◌, sym, refl, ap, ◌∙◌, subst, inl, inr, ne_eqb, eqb-true}
use borrow.Author.Tests.{eqb-false}
use Rattle.std.proofs.lemmas.Bool.{cases_eq}
use Rattle.links.specs.Links.{Links, rev, ccw}
use Rattle.links.proofs.Halves.{rev_rev}
use Rattle.surgery.specs.Cut.{Cut}
use Rattle.surgery.proofs.Cycles.{here, step, trans, along_reach, Conn, Reach}
use Rattle.surgery.proofs.Updates.{rev_live}
use Rattle.surgery.proofs.Moves.{removed}
use Rattle.surgery.proofs.Roots.{Unrooted, Half}

tell : (b : Bool) → (b ≡ true) ⊎ (b ≡ false)
tell true = inl refl
tell false = inr refl

abbrev Yes : Bool → Type 0
Yes true = Unit {0}
Yes false = ⊥

clash : (b : Bool) → b ≡ true → b ≡ false → ⊥
clash b p q = subst Yes (sym p ∙ q) tt

pub cut : (L L' : Links) (V E F V' E' F' : ℕ → Type 0) (v hole : ℕ) (star : ℕ → Bool) (spoke : ℕ → ℕ)
    → Cut L L' V E F V' E' F' v hole star spoke → Unrooted L V E F → Unrooted L' V' E' F'
cut L L' V E F V' E' F' v hole star spoke C W = record {
  out_live = C.out_live;
  next_live = λ h l. next_case (λ z. E' (z / 2)) h l (λ far. far_live h l far) (λ near. near_live h l near);
  prev_live = λ h l. prev_case (λ z. E' (z / 2)) h l (λ far. prev_far_live h l far) (λ near. prev_near_live h l near);
  face_live = λ h l. elim (tell (star (L.face h))) [
    | inl t ↦ subst F' (sym (C.face_star h l t)) C.hole'
    | inr t ↦ subst F' (sym (C.face_else h l t)) (C.inner' _ (W.face_live h (old h l)) t)
  ];
  origin_live = λ h l. subst V' (sym (C.origins h l)) (C.entry' _ (W.origin_live h (old h l)) (C.half h l).1);
  adj_live = C.adj_live;
  prev_next = λ h l. next_case (λ z. L'.prev z ≡ h) h l
      (λ far. let e = W.prev_next h (old h l) in C.prev_far _ (far_live h l far) (λ q. (C.half h l).1 (ap L.origin (sym e) ∙ q)) ∙ e)
      (λ near. let e = W.prev_next (rev (L.next h)) (rev_live E _ (W.next_live h (old h l))) in
      C.prev_near _ (near_live h l near) (ap L.origin e ∙ near) ∙ ap (λ z. L.prev (rev z)) e ∙ ap L.prev (rev_rev _) ∙ W.prev_next h (old h l));
  next_prev = λ h l. prev_case (λ z. L'.next z ≡ h) h l
      (λ far. let e = W.next_prev h (old h l) in C.next_far _ (prev_far_live h l far) (λ q. (C.half h l).2 (ap (λ z. L.origin (rev z)) (sym e) ∙ q)) ∙ e)
      (λ near. let e = W.next_prev (rev (L.prev h)) (rev_live E _ (W.prev_live h (old h l))) in
      C.next_near _ (prev_near_live h l near) (ap (λ z. L.origin (rev z)) e ∙ ap L.origin (rev_rev _) ∙ near) ∙ ap (λ z. L.next (rev z)) e ∙ ap L.next (rev_rev _) ∙ W.next_prev h (old h l));
  face_next = face_next';
  to_next = λ h l. next_case (λ z. L'.origin z ≡ L'.origin (rev h)) h l
      (λ far. C.origins _ (far_live h l far) ∙ W.to_next h (old h l) ∙ sym (C.origins _ (rev_live E' h l)))
      (λ near. C.origins _ (near_live h l near) ∙ W.to_next _ (rev_live E _ (W.next_live h (old h l))) ∙ ap L.origin (rev_rev _) ∙ W.to_next h (old h l) ∙ sym (C.origins _ (rev_live E' h l)));
  out_origin = C.out_origin;
  spin = removed (ccw L) (ccw L') L.origin L'.origin Off (Half E') (λ x. eqb (L.origin (rev x)) v)
      (λ x l. (rev_live E _ (W.prev_live x l.0), λ q. l.1 (sym (prev_to x l.0) ∙ q)))
      (λ x l. ((old x l, (C.half x l).1), ne_eqb _ v (C.half x l).2, C.origins x l))
      (λ x l t. ne_eqb _ v (λ q. C.star_at.thick _ (W.prev_live x l.0) (ap L.origin (sym (rev_rev _)) ∙ q) (ap (λ z. L.origin (rev z)) (W.next_prev x l.0) ∙ eqb-true _ v t)))
      (λ x l t u. ap rev (C.prev_far x (C.half' x l.0 l.1 (eqb-false _ v t)) (λ q. eqb-false _ v u (ap L.origin (rev_rev _) ∙ q))))
      (λ x l t u. ap rev (C.prev_near x (C.half' x l.0 l.1 (eqb-false _ v t)) (ap L.origin (sym (rev_rev _)) ∙ eqb-true _ v u)))
      (λ h k lh lk e. W.spin h k lh.0 lk.0 e);
  adj_face = C.adj_face;
  turn = turn';
  sides = λ g h lg ng l. elim (tell (star (L.face h))) [
    | inl a ↦ elim (tell (star (L.face (rev h)))) [
      | inl b ↦ λ q. C.walls g h lg ng l a b
      | inr b ↦ λ q. hole_apart (rev h) (rev_live E' h l) b (sym q ∙ C.face_star h l a)
    ]
    | inr a ↦ elim (tell (star (L.face (rev h)))) [
      | inl b ↦ λ q. hole_apart h l a (q ∙ C.face_star (rev h) (rev_live E' h l) b)
      | inr b ↦ λ q. W.sides (C.before g lg ng).0 h (C.before g lg ng).1.0 (C.before g lg ng).1.1 (old h l) (sym (C.face_else h l a) ∙ q ∙ C.face_else (rev h) (rev_live E' h l) b)
    ]
  ];
  ends = λ h l q. W.ends h (old h l) (sym (C.origins h l) ∙ q ∙ C.origins _ (rev_live E' h l));
}
  where
    old : (h : ℕ) → E' (h / 2) → E (h / 2)
    old h l = (C.half h l).0

    next_case : (S : ℕ → Type 0) (h : ℕ) → E' (h / 2) → (L.origin (rev (L.next h)) ≢ v → S (L.next h)) → (L.origin (rev (L.next h)) ≡ v → S (L.next (rev (L.next h)))) → S (L'.next h)
    next_case S h l far near = elim (cases_eq (L.origin (rev (L.next h))) v) [ inl q ↦ subst S (sym (C.next_near h l q)) (near q) | inr d ↦ subst S (sym (C.next_far h l d)) (far d) ]

    prev_case : (S : ℕ → Type 0) (h : ℕ) → E' (h / 2) → (L.origin (L.prev h) ≢ v → S (L.prev h)) → (L.origin (L.prev h) ≡ v → S (L.prev (rev (L.prev h)))) → S (L'.prev h)
    prev_case S h l far near = elim (cases_eq (L.origin (L.prev h)) v) [ inl q ↦ subst S (sym (C.prev_near h l q)) (near q) | inr d ↦ subst S (sym (C.prev_far h l d)) (far d) ]

    far_live : (h : ℕ) → E' (h / 2) → L.origin (rev (L.next h)) ≢ v → E' (L.next h / 2)
    far_live h l far = C.half' _ (W.next_live h (old h l)) (λ q. (C.half h l).2 (sym (W.to_next h (old h l)) ∙ q)) far

    near_live : (h : ℕ) → E' (h / 2) → L.origin (rev (L.next h)) ≡ v → E' (L.next (rev (L.next h)) / 2)
    near_live h l near =
        let k = rev_live E _ (W.next_live h (old h l)) in
        C.half' _ (W.next_live _ k) (λ q. (C.half h l).2 (sym (W.to_next h (old h l)) ∙ ap L.origin (sym (rev_rev _)) ∙ sym (W.to_next _ k) ∙ q)) (C.star_at.thick _ k near)

    prev_to : (h : ℕ) → E (h / 2) → L.origin (rev (L.prev h)) ≡ L.origin h
    prev_to h l = sym (W.to_next _ (W.prev_live h l)) ∙ ap L.origin (W.next_prev h l)

    prev_far_live : (h : ℕ) → E' (h / 2) → L.origin (L.prev h) ≢ v → E' (L.prev h / 2)
    prev_far_live h l far = C.half' _ (W.prev_live h (old h l)) far (λ q. (C.half h l).1 (sym (prev_to h (old h l)) ∙ q))

    prev_near_live : (h : ℕ) → E' (h / 2) → L.origin (L.prev h) ≡ v → E' (L.prev (rev (L.prev h)) / 2)
    prev_near_live h l near =
        let k = rev_live E _ (W.prev_live h (old h l)) in
        C.half' _ (W.prev_live _ k)
        (λ q. C.star_at.thick _ (W.prev_live _ k) q (ap (λ z. L.origin (rev z)) (W.next_prev _ k) ∙ ap L.origin (rev_rev _) ∙ near))
        (λ q. (C.half h l).1 (sym (prev_to h (old h l)) ∙ sym (prev_to _ k) ∙ q))

    hole_apart : (h : ℕ) → E' (h / 2) → star (L.face h) ≡ false → L'.face h ≢ hole
    hole_apart h l a q =
        let e : L.face h ≡ hole = sym (C.face_else h l a) ∙ q in
        clash (star (L.face h)) (ap star e ∙ C.hole_new (subst F e (W.face_live h (old h l)))) a

    -- the half before a spoke lies in a star face
    into : (h : ℕ) → E (h / 2) → L.origin (rev h) ≡ v → star (L.face h) ≡ true
    into h l q = ap star (sym (W.face_next h l)) ∙ C.star_at.starred _ (W.next_live h l) (W.to_next h l ∙ q)

    face_next' : (h : ℕ) → E' (h / 2) → L'.face (L'.next h) ≡ L'.face h
    face_next' h l = next_case (λ z. L'.face z ≡ L'.face h) h l
        (λ far. elim (tell (star (L.face h))) [
          | inl t ↦ C.face_star _ (far_live h l far) (ap star (W.face_next h (old h l)) ∙ t) ∙ sym (C.face_star h l t)
          | inr t ↦ C.face_else _ (far_live h l far) (ap star (W.face_next h (old h l)) ∙ t) ∙ W.face_next h (old h l) ∙ sym (C.face_else h l t)
        ])
        (λ near. let k = rev_live E _ (W.next_live h (old h l)) in
        C.face_star _ (near_live h l near) (ap star (W.face_next _ k) ∙ C.star_at.starred _ k near)
        ∙ sym (C.face_star h l (ap star (sym (W.face_next h (old h l))) ∙ into _ (W.next_live h (old h l)) near)))

    Off : ℕ → Type 0
    Off x = E (x / 2) × (L.origin x ≢ v)

    -- the half after a spoke
    rim_live : (h : ℕ) → E (h / 2) → L.origin h ≡ v → E' (L.next h / 2)
    rim_live h l q = C.half' _ (W.next_live h l) (λ r. W.ends h l (q ∙ sym (sym (W.to_next h l) ∙ r))) (C.star_at.thick h l q)

    -- a spoke whose rim half is reached from x
    Found : ℕ → Type 0
    Found x = (k : ℕ) × (E (k / 2) × (L.origin k ≡ v) × Reach L'.next x (L.next k))

    Led : ℕ → Type 0
    Led y = (k : ℕ) × (E (k / 2) × (L.origin k ≡ v) × Reach L'.next (L.next k) y)

    leave : (x : ℕ) → E' (x / 2) → star (L.face x) ≡ true → Found x
    leave x l t =
        let sp = spoke (L.face x) in
        let lsp = C.star_at.spoke_live x (old x l) t in
        elim (along_reach L.next x sp (λ z. E (z / 2) × ((E' (z / 2) × Reach L'.next x z) ⊎ Found x))
        (W.turn x sp (old x l) lsp (sym (C.star_at.spoke_face x (old x l) t))) (old x l, inl (l, here _ x))
        (λ z w. (
          W.next_live z w.0,
          elim w.1 [
            | inl u ↦ elim (cases_eq (L.origin (rev (L.next z))) v) [
              | inl q ↦ inr (rev (L.next z), (rev_live E _ (W.next_live z w.0), q, step _ _ z _ u.1 (C.next_near z u.0 q)))
              | inr d ↦ inl (far_live z u.0 d, step _ _ z _ u.1 (C.next_far z u.0 d))
            ]
            | inr f ↦ inr f
          ],
        ))).1 [
          | inl u ↦ absurd ((C.half sp u.0).1 (C.star_at.spoke_from x (old x l) t))
          | inr f ↦ f
        ]

    enter : (y : ℕ) → E' (y / 2) → star (L.face y) ≡ true → Led y
    enter y l t =
        let sp = spoke (L.face y) in
        let lsp = C.star_at.spoke_live y (old y l) t in
        elim (along_reach L.next sp y (λ z. E (z / 2) × ((L.origin z ≡ v) ⊎ ((L.origin (rev z) ≡ v) ⊎ (E' (z / 2) × Led z))))
        (W.turn sp y lsp (old y l) (C.star_at.spoke_face y (old y l) t)) (lsp, inl (C.star_at.spoke_from y (old y l) t))
        (λ z w. (
          W.next_live z w.0,
          elim w.1 [
            | inl q ↦ inr (inr (rim_live z w.0 q, (z, (w.0, q, here _ _))))
            | inr u ↦ elim u [
              | inl q ↦ inl (W.to_next z w.0 ∙ q)
              | inr p ↦ elim (cases_eq (L.origin (rev (L.next z))) v) [
                | inl q ↦ inr (inl q)
                | inr d ↦ inr (inr (far_live z p.0 d, (p.1.0, (p.1.1.0, p.1.1.1, step _ _ z _ p.1.1.2 (C.next_far z p.0 d)))))
              ]
            ]
          ],
        ))).1 [
          | inl q ↦ absurd ((C.half y l).1 q)
          | inr u ↦ elim u [ inl q ↦ absurd ((C.half y l).2 q) | inr p ↦ p.1 ]
        ]

    -- from the rim of a face about v to that of the next
    round : (z : ℕ) → E (z / 2) → L.origin z ≡ v → Reach L'.next (L.next z) (L.next (ccw L z))
    round z l q =
        let lp = W.prev_live z l in
        elim (along_reach L.next (L.next z) (L.prev z) (λ u. (E (u / 2) × (L.face u ≡ L.face z)) × ((E' (u / 2) × Reach L'.next (L.next z) u) ⊎ Reach L'.next (L.next z) (L.next (ccw L z))))
        (W.turn (L.next z) (L.prev z) (W.next_live z l) lp (W.face_next z l ∙ ap L.face (sym (W.next_prev z l)) ∙ W.face_next _ lp))
        ((W.next_live z l, W.face_next z l), inl (rim_live z l q, here _ _))
        (λ u w. (
          (W.next_live u w.0.0, W.face_next u w.0.0 ∙ w.0.1),
          elim w.1 [
            | inl p ↦ elim (cases_eq (L.origin (rev (L.next u))) v) [
              | inl r ↦
                  let ln = W.next_live u w.0.0 in
                  let e : L.next (L.next u) ≡ z = C.star_at.lone _ z (W.next_live _ ln) l (W.to_next _ ln ∙ r) q (W.face_next _ ln ∙ W.face_next u w.0.0 ∙ w.0.1) in
                  inr (step _ _ u _ p.1 (C.next_near u p.0 r ∙ ap (λ y. L.next (rev y)) (sym (W.prev_next _ ln) ∙ ap L.prev e)))
              | inr d ↦ inl (far_live u p.0 d, step _ _ u _ p.1 (C.next_far u p.0 d))
            ]
            | inr f ↦ inr f
          ],
        ))).1 [
          | inl p ↦ absurd ((C.half _ p.0).2 (prev_to z l ∙ q))
          | inr r ↦ r
        ]

    rims : (k k' : ℕ) → E (k / 2) → E (k' / 2) → L.origin k ≡ v → L.origin k' ≡ v → Reach L'.next (L.next k) (L.next k')
    rims k k' l l' q q' =
        (along_reach (ccw L) k k' (λ z. (E (z / 2) × (L.origin z ≡ v)) × Reach L'.next (L.next k) (L.next z)) (W.spin k k' l l' (q ∙ sym q')) ((l, q), here _ _)
        (λ z w. ((rev_live E _ (W.prev_live z w.0.0), prev_to z w.0.0 ∙ w.0.1), trans _ _ _ _ w.1 (round z w.0.0 w.0.1)))).1

    -- a face that is not about v keeps its cycle
    beside : (z : ℕ) → E (z / 2) → star (L.face z) ≡ false → E' (z / 2)
    beside z l t = C.half' z l (λ q. clash _ (C.star_at.starred z l q) t) (λ q. clash _ (into z l q) t)

    turn' : Conn L'.next L'.face (Half E')
    turn' h k lh lk e =
        elim (tell (star (L.face h))) [
          | inl a ↦ elim (tell (star (L.face k))) [
            | inl b ↦ let x = leave h lh a in let y = enter k lk b in
                trans _ _ _ _ x.1.2 (trans _ _ _ _ (rims x.0 y.0 x.1.0 y.1.0 x.1.1 y.1.1) y.1.2)
            | inr b ↦ absurd (hole_apart k lk b (sym e ∙ C.face_star h lh a))
          ]
          | inr a ↦ elim (tell (star (L.face k))) [
            | inl b ↦ absurd (hole_apart h lh a (e ∙ C.face_star k lk b))
            | inr b ↦ (along_reach L.next h k (λ z. (E (z / 2) × (star (L.face z) ≡ false)) × Reach L'.next h z)
                (W.turn h k (old h lh) (old k lk) (sym (C.face_else h lh a) ∙ e ∙ C.face_else k lk b)) ((old h lh, a), here _ h)
                (λ z w. let t : star (L.face (L.next z)) ≡ false = ap star (W.face_next z w.0.0) ∙ w.0.1 in
                ((W.next_live z w.0.0, t), step _ _ z _ w.1 (C.next_far z (beside z w.0.0 w.0.1) (λ q. clash _ (into _ (W.next_live z w.0.0) q) t))))).1
          ]
        ]
