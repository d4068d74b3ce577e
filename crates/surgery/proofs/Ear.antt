-- An ear is cut off a face: a new edge e, t closes the triangle i, o, e, and t takes the place of i, o.
use Rattle.std.proofs.Common.{◌≡◌, ℕ, ◌/◌, ◌≢◌, sym, ap, ◌∙◌, subst, inl, inr}
use Rattle.std.proofs.lemmas.Bool.{cases_eq}
use Rattle.links.specs.Links.{Links, rev, ccw}
use Rattle.links.proofs.Halves.{rev_is, rev_other, rev_rev}
use Rattle.surgery.specs.Update.{upd}
use Rattle.surgery.specs.Ear.{Ear}
use Rattle.surgery.proofs.Cycles.{here, one, two, same, trans, Conn, carry, Reach}
use Rattle.surgery.proofs.Updates.{upd_same, upd_other, rev_live, cases_to}
use Rattle.surgery.proofs.Roots.{Unrooted, Half}

pub ear : (L L' : Links) (V E F E' F' : ℕ → Type 0) (e t i o p n new : ℕ) → Ear L L' V E F E' F' e t i o p n new → Unrooted L V E F → Unrooted L' V E' F'
ear L L' V E F E' F' e t i o p n new A W = record {
  out_live = A.out_live;
  next_live = by_new (λ x. E' (L'.next x / 2)) (live A.next_e A.li) (live A.next_t ln)
      (λ x l. at (λ x. E' (L'.next x / 2)) o x l (live' A.next_o A.le) (λ a. at (λ x. E' (L'.next x / 2)) p x l (live' A.next_p A.lt) (λ b. live (A.next_else x l a b) (W.next_live x l))));
  prev_live = by_new (λ x. E' (L'.prev x / 2)) (live A.prev_e lo) (live A.prev_t lp)
      (λ x l. at (λ x. E' (L'.prev x / 2)) i x l (live' A.prev_i A.le) (λ a. at (λ x. E' (L'.prev x / 2)) n x l (live' A.prev_n A.lt) (λ b. live (A.prev_else x l a b) (W.prev_live x l))));
  face_live = by_new (λ x. F' (L'.face x)) (subst F' (sym A.face_e) A.new_face) (subst F' (sym A.face_t) (A.keep_face _ (W.face_live i A.li)))
      (λ x l. at (λ x. F' (L'.face x)) i x l (subst F' (sym A.face_i) A.new_face) (λ a. at (λ x. F' (L'.face x)) o x l (subst F' (sym A.face_o) A.new_face) (λ b. subst F' (sym (A.face_else x l a b)) (A.keep_face _ (W.face_live x l)))));
  origin_live = by_new (λ x. V (L'.origin x)) (subst V (sym A.origin_e) (W.origin_live n ln)) (subst V (sym A.origin_t) (W.origin_live i A.li))
      (λ x l. subst V (sym (A.origin_else x l)) (W.origin_live x l));
  adj_live = A.adj_live;
  prev_next = by_new (λ x. L'.prev (L'.next x) ≡ x) (ap L'.prev A.next_e ∙ A.prev_i) (ap L'.prev A.next_t ∙ A.prev_n)
      (λ x l. at (λ x. L'.prev (L'.next x) ≡ x) o x l (ap L'.prev A.next_o ∙ A.prev_e)
      (λ a. at (λ x. L'.prev (L'.next x) ≡ x) p x l (ap L'.prev A.next_p ∙ A.prev_t)
      (λ b. ap L'.prev (A.next_else x l a b) ∙ A.prev_else _ (W.next_live x l) (not_i x l b) (not_n x l a) ∙ W.prev_next x l)));
  next_prev = by_new (λ x. L'.next (L'.prev x) ≡ x) (ap L'.next A.prev_e ∙ A.next_o) (ap L'.next A.prev_t ∙ A.next_p)
      (λ x l. at (λ x. L'.next (L'.prev x) ≡ x) i x l (ap L'.next A.prev_i ∙ A.next_e)
      (λ a. at (λ x. L'.next (L'.prev x) ≡ x) n x l (ap L'.next A.prev_n ∙ A.next_t)
      (λ b. ap L'.next (A.prev_else x l a b)
      ∙ A.next_else _ (W.prev_live x l) (λ q. b (sym (W.next_prev x l) ∙ ap L.next q ∙ A.at_o)) (λ q. a (sym (W.next_prev x l) ∙ ap L.next q ∙ next_p')) ∙ W.next_prev x l)));
  face_next = by_new (λ x. L'.face (L'.next x) ≡ L'.face x) (ap L'.face A.next_e ∙ A.face_i ∙ sym A.face_e)
      (ap L'.face A.next_t ∙ A.face_else n ln n_i n_o ∙ fn ∙ sym A.face_t)
      (λ x l. at (λ x. L'.face (L'.next x) ≡ L'.face x) o x l (ap L'.face A.next_o ∙ A.face_e ∙ sym A.face_o)
      (λ a. at (λ x. L'.face (L'.next x) ≡ L'.face x) p x l (ap L'.face A.next_p ∙ A.face_t ∙ sym fp ∙ sym (A.face_else p lp p_i p_o))
      (λ b. ap L'.face (A.next_else x l a b) ∙ at (λ x. x ≢ p → L'.face (L.next x) ≡ L'.face x) i x l (λ _. ap L'.face A.at_i ∙ A.face_o ∙ sym A.face_i)
      (λ c b'. A.face_else _ (W.next_live x l) (not_i x l b') (not_o x l c) ∙ W.face_next x l ∙ sym (A.face_else x l c a)) b)));
  to_next = by_new (λ x. L'.origin (L'.next x) ≡ L'.origin (rev x))
      (ap L'.origin A.next_e ∙ A.origin_else i A.li ∙ sym (ap L'.origin A.et ∙ A.origin_t))
      (ap L'.origin A.next_t ∙ A.origin_else n ln ∙ sym (ap L'.origin A.te ∙ A.origin_e))
      (λ x l. at (λ x. L'.origin (L'.next x) ≡ L'.origin (rev x)) o x l (ap L'.origin A.next_o ∙ A.origin_e ∙ ap L.origin (sym A.at_o) ∙ W.to_next o lo ∙ sym (A.origin_else _ (rev_live E o lo)))
      (λ a. at (λ x. L'.origin (L'.next x) ≡ L'.origin (rev x)) p x l (ap L'.origin A.next_p ∙ A.origin_t ∙ ap L.origin (sym next_p') ∙ W.to_next p lp ∙ sym (A.origin_else _ (rev_live E p lp)))
      (λ b. ap L'.origin (A.next_else x l a b) ∙ A.origin_else _ (W.next_live x l) ∙ W.to_next x l ∙ sym (A.origin_else _ (rev_live E x l)))));
  out_origin = A.out_origin;
  spin = carry (ccw L) L.origin (ccw L') L'.origin (λ x. x) (λ v. v) (Half E) (Half E') W.spin
      (λ x l. rev_live E _ (W.prev_live x l))
      (λ x l. at (λ x. Reach (ccw L') x (ccw L x)) i x l (two _ i t _ spin_i spin_t) (λ a. at (λ x. Reach (ccw L') x (ccw L x)) n x l (two _ n e _ spin_n spin_e) (λ b. one _ x _ (ap rev (A.prev_else x l a b)))))
      (by_new (λ h. (a : ℕ) × (E (a / 2) × (L.origin a ≡ L'.origin h) × Reach (ccw L') h a))
      (ccw L n, (rev_live E _ (W.prev_live n ln), turned n ln ∙ sym A.origin_e, one _ e _ spin_e))
      (ccw L i, (rev_live E _ (W.prev_live i A.li), turned i A.li ∙ sym A.origin_t, one _ t _ spin_t))
      (λ x l. (x, (l, sym (A.origin_else x l), here _ x))))
      (by_new (λ h. (a : ℕ) × (E (a / 2) × (L.origin a ≡ L'.origin h) × Reach (ccw L') a h))
      (n, (ln, sym A.origin_e, one _ n e spin_n))
      (i, (A.li, sym A.origin_t, one _ i t spin_i))
      (λ x l. (x, (l, sym (A.origin_else x l), here _ x))));
  adj_face = A.adj_face;
  turn = turn';
  sides = λ g h lg ng. by_new (λ h. L'.face h ≢ L'.face (rev h))
      (λ q. old_face i A.li (sym A.face_t ∙ ap L'.face (sym A.et) ∙ sym q ∙ A.face_e))
      (λ q. old_face i A.li (sym A.face_t ∙ q ∙ ap L'.face A.te ∙ A.face_e))
      sides' h;
  ends = by_new (λ h. L'.origin h ≢ L'.origin (rev h))
      (λ q. A.wide (sym A.origin_t ∙ ap L'.origin (sym A.et) ∙ sym q ∙ A.origin_e))
      (λ q. A.wide (sym A.origin_t ∙ q ∙ ap L'.origin A.te ∙ A.origin_e))
      (λ x l q. W.ends x l (sym (A.origin_else x l) ∙ q ∙ A.origin_else _ (rev_live E x l)));
}
  where
    by_new : (S : ℕ → Type 0) → S e → S t → ((x : ℕ) → E (x / 2) → S x) → (x : ℕ) → E' (x / 2) → S x
    by_new S se st so x l = elim (A.half x l) [ inl q ↦ subst S (sym q) se | inr w ↦ elim w [ inl q ↦ subst S (sym q) st | inr k ↦ so x k ] ]

    at : (S : ℕ → Type 0) (a x : ℕ) → E (x / 2) → S a → (x ≢ a → S x) → S x
    at S a x _ sa no' = cases_to S a x sa no'

    live : {a b : ℕ} → b ≡ a → E (a / 2) → E' (b / 2)
    live q l = subst (λ z. E' (z / 2)) (sym q) (A.keep _ l)

    live' : {a b : ℕ} → b ≡ a → E' (a / 2) → E' (b / 2)
    live' q l = subst (λ z. E' (z / 2)) (sym q) l

    lo : E (o / 2)
    lo = subst (Half E) A.at_i (W.next_live i A.li)

    lp : E (p / 2)
    lp = subst (Half E) A.at_p (W.prev_live i A.li)

    ln : E (n / 2)
    ln = subst (Half E) A.at_o (W.next_live o lo)

    next_p' : L.next p ≡ i
    next_p' = ap L.next (sym A.at_p) ∙ W.next_prev i A.li

    prev_n' : L.prev n ≡ o
    prev_n' = ap L.prev (sym A.at_o) ∙ W.prev_next o lo

    fo : L.face o ≡ L.face i
    fo = ap L.face (sym A.at_i) ∙ W.face_next i A.li

    fn : L.face n ≡ L.face i
    fn = ap L.face (sym A.at_o) ∙ W.face_next o lo ∙ fo

    fp : L.face p ≡ L.face i
    fp = sym (W.face_next p lp) ∙ ap L.face next_p'

    no_loop : (h : ℕ) → E (h / 2) → h ≢ L.next h
    no_loop h lh q = W.ends h lh (ap L.origin q ∙ W.to_next h lh)

    n_i : n ≢ i
    n_i q = A.wide (ap L.origin (sym q))

    n_o : n ≢ o
    n_o q = no_loop o lo (sym (A.at_o ∙ q))

    i_o : i ≢ o
    i_o q = no_loop i A.li (q ∙ sym A.at_i)

    p_i : p ≢ i
    p_i q = no_loop p lp (q ∙ sym next_p')

    p_o : p ≢ o
    p_o q = n_i (sym A.at_o ∙ ap L.next (sym q) ∙ next_p')

    not_i : (x : ℕ) → E (x / 2) → x ≢ p → L.next x ≢ i
    not_i x l d q = d (sym (W.prev_next x l) ∙ ap L.prev q ∙ A.at_p)

    not_o : (x : ℕ) → E (x / 2) → x ≢ i → L.next x ≢ o
    not_o x l d q = d (sym (W.prev_next x l) ∙ ap L.prev (q ∙ sym A.at_i) ∙ W.prev_next i A.li)

    not_n : (x : ℕ) → E (x / 2) → x ≢ o → L.next x ≢ n
    not_n x l d q = d (sym (W.prev_next x l) ∙ ap L.prev q ∙ prev_n')

    spin_i : ccw L' i ≡ t
    spin_i = ap rev A.prev_i ∙ A.et

    spin_t : ccw L' t ≡ ccw L i
    spin_t = ap rev (A.prev_t ∙ sym A.at_p)

    spin_n : ccw L' n ≡ e
    spin_n = ap rev A.prev_n ∙ A.te

    spin_e : ccw L' e ≡ ccw L n
    spin_e = ap rev (A.prev_e ∙ sym prev_n')

    turned : (x : ℕ) → E (x / 2) → L.origin (ccw L x) ≡ L.origin x
    turned x l = sym (W.to_next _ (W.prev_live x l)) ∙ ap L.origin (W.next_prev x l)

    -- an old face is not the new one
    old_face : (x : ℕ) → E (x / 2) → L.face x ≢ new
    old_face x l q = A.fresh_face (subst F q (W.face_live x l))

    no_fold : rev i ≢ o
    no_fold q = A.wide (sym (ap L.origin (sym A.at_o) ∙ W.to_next o lo ∙ ap (λ z. L.origin (rev z)) (sym q) ∙ ap L.origin (rev_rev i)))

    sides' : (x : ℕ) → E (x / 2) → L'.face x ≢ L'.face (rev x)
    sides' x l =
        at (λ x. L'.face x ≢ L'.face (rev x)) i x l (λ q. old_face _ (rev_live E i A.li) (sym (A.face_else _ (rev_live E i A.li) (rev_other i) no_fold) ∙ sym q ∙ A.face_i))
        (λ a. at (λ x. L'.face x ≢ L'.face (rev x)) o x l (λ q. old_face _ (rev_live E o lo) (sym (A.face_else _ (rev_live E o lo) (λ r. no_fold (sym (rev_is o i r))) (rev_other o)) ∙ sym q ∙ A.face_o))
        (λ b. elim (cases_eq (rev x) i) [
          | inl r ↦ λ q. old_face x l (sym (A.face_else x l a b) ∙ q ∙ ap L'.face r ∙ A.face_i)
          | inr c ↦ elim (cases_eq (rev x) o) [
            | inl r ↦ λ q. old_face x l (sym (A.face_else x l a b) ∙ q ∙ ap L'.face r ∙ A.face_o)
            | inr d ↦ λ q. W.sides _ x (W.face_live i A.li) A.inner l (sym (A.face_else x l a b) ∙ q ∙ A.face_else _ (rev_live E x l) c d)
          ]
        ]))

    -- the triangle i, o, e
    next_i : L'.next i ≡ o
    next_i = A.next_else i A.li i_o (λ q. p_i (sym q)) ∙ A.at_i

    ear_half : (x : ℕ) → E' (x / 2) → L'.face x ≡ new → Reach L'.next x i × Reach L'.next i x
    ear_half =
        by_new (λ x. L'.face x ≡ new → Reach L'.next x i × Reach L'.next i x)
        (λ _. (one _ e i A.next_e, two _ i o e next_i A.next_o))
        (λ q. absurd (old_face i A.li (sym A.face_t ∙ q)))
        (λ x l. at (λ x. L'.face x ≡ new → Reach L'.next x i × Reach L'.next i x) i x l (λ _. (here _ i, here _ i))
        (λ a. at (λ x. L'.face x ≡ new → Reach L'.next x i × Reach L'.next i x) o x l (λ _. (two _ o e i A.next_o A.next_e, one _ i o next_i))
        (λ b q. absurd (old_face x l (sym (A.face_else x l a b) ∙ q)))))

    f : ℕ → ℕ
    f = upd (upd (λ x. x) i t) o t

    f_i : f i ≡ t
    f_i = upd_other _ o t i i_o ∙ upd_same _ i t

    f_o : f o ≡ t
    f_o = upd_same _ o t

    f_else : (x : ℕ) → x ≢ i → x ≢ o → f x ≡ x
    f_else x a b = upd_other _ o t x b ∙ upd_other _ i t x a

    go : (x y z : ℕ) → f x ≡ y → L'.next y ≡ z → f (L.next x) ≡ z → Reach L'.next (f x) (f (L.next x))
    go x y z p' q r = subst (λ w. Reach L'.next w (f (L.next x))) (sym p') (one _ y _ (q ∙ sym r))

    steps : (x : ℕ) → E (x / 2) → Reach L'.next (f x) (f (L.next x))
    steps x l =
        at (λ x. Reach L'.next (f x) (f (L.next x))) i x l (same _ _ _ (f_i ∙ sym (ap f A.at_i ∙ f_o)))
        (λ a. at (λ x. Reach L'.next (f x) (f (L.next x))) o x l (go o t n f_o A.next_t (ap f A.at_o ∙ f_else n n_i n_o))
        (λ b. at (λ x. Reach L'.next (f x) (f (L.next x))) p x l (go p p t (f_else p p_i p_o) A.next_p (ap f next_p' ∙ f_i))
        (λ c. go x x (L.next x) (f_else x a b) (A.next_else x l b c) (f_else _ (not_i x l c) (not_o x l a)))))

    Rest : ℕ → Type 0
    Rest x = E' (x / 2) × (L'.face x ≢ new)

    rest : (R : ℕ → ℕ → Type 0) → R t (f i) → ((x : ℕ) → f x ≡ x → R x (f x)) → (h : ℕ) → Rest h → (a : ℕ) × (E (a / 2) × (L.face a ≡ L'.face h) × R h (f a))
    rest R rt rx h w =
        by_new (λ h. L'.face h ≢ new → (a : ℕ) × (E (a / 2) × (L.face a ≡ L'.face h) × R h (f a)))
        (λ d. absurd (d A.face_e))
        (λ _. (i, (A.li, sym A.face_t, rt)))
        (λ x l. at (λ x. L'.face x ≢ new → (a : ℕ) × (E (a / 2) × (L.face a ≡ L'.face x) × R x (f a))) i x l (λ d. absurd (d A.face_i))
        (λ a. at (λ x. L'.face x ≢ new → (a : ℕ) × (E (a / 2) × (L.face a ≡ L'.face x) × R x (f a))) o x l (λ d. absurd (d A.face_o))
        (λ b _. (x, (l, sym (A.face_else x l a b), rx x (f_else x a b))))))
        h w.0 w.1

    turn' : Conn L'.next L'.face (Half E')
    turn' h k lh lk q =
        elim (cases_eq (L'.face h) new) [
          | inl r ↦ trans _ _ _ _ (ear_half h lh r).0 (ear_half k lk (sym q ∙ r)).1
          | inr d ↦ carry L.next L.face L'.next L'.face f (λ v. v) (Half E) Rest W.turn W.next_live steps
              (rest (λ x y. Reach L'.next x y) (same _ _ _ (sym f_i)) (λ x r. same _ _ _ (sym r)))
              (rest (λ x y. Reach L'.next y x) (same _ _ _ f_i) (λ x r. same _ _ _ r))
              h k (lh, d) (lk, λ r. d (q ∙ r)) q
        ]
