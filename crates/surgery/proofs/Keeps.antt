-- A flip keeps the link rules.
use Rattle.std.proofs.Common.{◌≡◌, ℕ, ◌/◌, ◌≢◌, ◌⊎◌, sym, refl, ap, ◌∙◌, subst, inl, inr}
use Rattle.std.proofs.lemmas.Bool.{cases_eq}
use Rattle.links.specs.Links.{Links, rev, ccw}
use Rattle.links.proofs.Halves.{rev_is, rev_other}
use Rattle.surgery.proofs.Cycles.{along_reach}
use Rattle.surgery.proofs.Updates.{Out, by_six, rev_live, rev_not, cases_to}
use Rattle.surgery.proofs.Moves.{moved}
use Rattle.surgery.proofs.Roots.{Unrooted, Half}
use Rattle.surgery.proofs.Flip.{Quad, Flipped}

three : (P : ℕ → Type 0) (a b c x : ℕ) → (x ≡ a) ⊎ ((x ≡ b) ⊎ (x ≡ c)) → P a → P b → P c → P x
three P a b c x w pa pb pc =
    elim w [ inl q ↦ subst P (sym q) pa | inr w' ↦ elim w' [ inl q ↦ subst P (sym q) pb | inr q ↦ subst P (sym q) pc ] ]

-- the halves of a triangle
pub corner_of : (L : Links) (V E F : ℕ → Type 0) (a b c : ℕ) → Unrooted L V E F → E (a / 2) → L.next a ≡ b → L.next b ≡ c → L.next c ≡ a
    → (x : ℕ) → E (x / 2) → L.face x ≡ L.face a → (x ≡ a) ⊎ ((x ≡ b) ⊎ (x ≡ c))
corner_of L V E F a b c W la ab bc ca x lx q =
    along_reach L.next a x (λ y. (y ≡ a) ⊎ ((y ≡ b) ⊎ (y ≡ c))) (W.turn a x la lx (sym q)) (inl refl)
    (λ y w. elim w [
      | inl e ↦ inr (inl (ap L.next e ∙ ab))
      | inr w' ↦ elim w' [ inl e ↦ inr (inr (ap L.next e ∙ bc)) | inr e ↦ inl (ap L.next e ∙ ca) ]
    ])

pub keeps : (L L' : Links) (V E F : ℕ → Type 0) (e t en ep tn tp : ℕ) → Unrooted L V E F → Quad L E e t en ep tn tp → Flipped L L' e t en ep tn tp → Unrooted L' V E F
keeps L L' V E F e t en ep tn tp W Q G = record {
  out_live = λ v l. cases_to (λ z. V z → E (L'.out z / 2)) (L.origin e) v (λ _. at (sym G.out_e) Q.ltn)
      (λ a. cases_to (λ z. z ≢ L.origin e → V z → E (L'.out z / 2)) (L.origin t) v (λ _ _. at (sym G.out_t) Q.len) (λ b a' lv. at (sym (G.out_else v a' b)) (W.out_live v lv)) a) l;
  next_live = by_six (λ h. E (h / 2) → E (L'.next h / 2)) e t en ep tn tp
      (λ _. at (sym G.next_e) Q.ltp) (λ _. at (sym G.next_t) Q.lep) (λ _. at (sym G.next_en) Q.le)
      (λ _. at (sym G.next_ep) Q.ltn) (λ _. at (sym G.next_tn) Q.lt) (λ _. at (sym G.next_tp) Q.len)
      (λ x o l. at (sym (G.next_else x o)) (W.next_live x l));
  prev_live = by_six (λ h. E (h / 2) → E (L'.prev h / 2)) e t en ep tn tp
      (λ _. at (sym G.prev_e) Q.len) (λ _. at (sym G.prev_t) Q.ltn) (λ _. at (sym G.prev_en) Q.ltp)
      (λ _. at (sym G.prev_ep) Q.lt) (λ _. at (sym G.prev_tn) Q.lep) (λ _. at (sym G.prev_tp) Q.le)
      (λ x o l. at (sym (G.prev_else x o)) (W.prev_live x l));
  face_live = λ h l. cases_to (λ z. E (z / 2) → F (L'.face z)) ep h (λ _. subst F (sym G.face_ep) (W.face_live t Q.lt))
      (λ a. cases_to (λ z. z ≢ ep → E (z / 2) → F (L'.face z)) tp h (λ _ _. subst F (sym G.face_tp) (W.face_live e Q.le)) (λ b a' lz. subst F (sym (G.face_else h a' b)) (W.face_live h lz)) a) l;
  origin_live = λ h l. cases_to (λ z. E (z / 2) → V (L'.origin z)) e h (λ _. subst V (sym G.origin_e) (W.origin_live ep Q.lep))
      (λ a. cases_to (λ z. z ≢ e → E (z / 2) → V (L'.origin z)) t h (λ _ _. subst V (sym G.origin_t) (W.origin_live tp Q.ltp)) (λ b a' lz. subst V (sym (G.origin_else h a' b)) (W.origin_live h lz)) a) l;
  adj_live = λ g l. cases_to (λ z. F z → E (L'.adj z / 2)) (L.face e) g (λ _. at (sym G.adj_e) Q.le)
      (λ a. cases_to (λ z. z ≢ L.face e → F z → E (L'.adj z / 2)) (L.face t) g (λ _ _. at (sym G.adj_t) Q.lt) (λ b a' lg. at (sym (G.adj_else g a' b)) (W.adj_live g lg)) a) l;
  prev_next = by_six (λ h. E (h / 2) → L'.prev (L'.next h) ≡ h) e t en ep tn tp
      (λ _. ap L'.prev G.next_e ∙ G.prev_tp) (λ _. ap L'.prev G.next_t ∙ G.prev_ep) (λ _. ap L'.prev G.next_en ∙ G.prev_e)
      (λ _. ap L'.prev G.next_ep ∙ G.prev_tn) (λ _. ap L'.prev G.next_tn ∙ G.prev_t) (λ _. ap L'.prev G.next_tp ∙ G.prev_en)
      (λ x o l. ap L'.prev (G.next_else x o) ∙ G.prev_else _ (next_out x o l) ∙ W.prev_next x l);
  next_prev = by_six (λ h. E (h / 2) → L'.next (L'.prev h) ≡ h) e t en ep tn tp
      (λ _. ap L'.next G.prev_e ∙ G.next_en) (λ _. ap L'.next G.prev_t ∙ G.next_tn) (λ _. ap L'.next G.prev_en ∙ G.next_tp)
      (λ _. ap L'.next G.prev_ep ∙ G.next_t) (λ _. ap L'.next G.prev_tn ∙ G.next_ep) (λ _. ap L'.next G.prev_tp ∙ G.next_e)
      (λ x o l. ap L'.next (G.prev_else x o) ∙ G.next_else _ (prev_out x o l) ∙ W.next_prev x l);
  face_next = by_six (λ h. E (h / 2) → L'.face (L'.next h) ≡ L'.face h) e t en ep tn tp
      (λ _. ap L'.face G.next_e ∙ G.face_tp ∙ sym f_e) (λ _. ap L'.face G.next_t ∙ G.face_ep ∙ sym f_t)
      (λ _. ap L'.face G.next_en ∙ f_e ∙ sym f_en) (λ _. ap L'.face G.next_ep ∙ f_tn ∙ sym G.face_ep)
      (λ _. ap L'.face G.next_tn ∙ f_t ∙ sym f_tn) (λ _. ap L'.face G.next_tp ∙ f_en ∙ sym G.face_tp)
      (λ x o l. ap L'.face (G.next_else x o) ∙ G.face_else _ (next_out x o l).nd (next_out x o l).nf ∙ W.face_next x l ∙ sym (G.face_else x o.nd o.nf));
  to_next = by_six (λ h. E (h / 2) → L'.origin (L'.next h) ≡ L'.origin (rev h)) e t en ep tn tp
      (λ _. ap L'.origin G.next_e ∙ G.origin_else tp (ne' Q.e_tp) (ne' Q.t_tp) ∙ sym (ap L'.origin Q.et ∙ G.origin_t))
      (λ _. ap L'.origin G.next_t ∙ G.origin_else ep (ne' Q.e_ep) (ne' Q.t_ep) ∙ sym (ap L'.origin Q.te ∙ G.origin_e))
      (λ _. ap L'.origin G.next_en ∙ G.origin_e ∙ sym Q.to_en ∙ sym (o_rev en (ne' Q.t_en) (ne' Q.e_en)))
      (λ _. ap L'.origin G.next_ep ∙ G.origin_else tn (ne' Q.e_tn) (ne' Q.t_tn) ∙ Q.from_tn ∙ sym Q.to_ep ∙ sym (o_rev ep (ne' Q.t_ep) (ne' Q.e_ep)))
      (λ _. ap L'.origin G.next_tn ∙ G.origin_t ∙ sym Q.to_tn ∙ sym (o_rev tn (ne' Q.t_tn) (ne' Q.e_tn)))
      (λ _. ap L'.origin G.next_tp ∙ G.origin_else en (ne' Q.e_en) (ne' Q.t_en) ∙ Q.from_en ∙ sym Q.to_tp ∙ sym (o_rev tp (ne' Q.t_tp) (ne' Q.e_tp)))
      (λ x o l. ap L'.origin (G.next_else x o) ∙ G.origin_else _ (next_out x o l).na (next_out x o l).nb ∙ W.to_next x l ∙ sym (o_rev x o.nb o.na));
  out_origin = λ v l. cases_to (λ z. V z → L'.origin (L'.out z) ≡ z) (L.origin e) v
      (λ _. ap L'.origin G.out_e ∙ G.origin_else tn (ne' Q.e_tn) (ne' Q.t_tn) ∙ Q.from_tn)
      (λ a. cases_to (λ z. z ≢ L.origin e → V z → L'.origin (L'.out z) ≡ z) (L.origin t) v
      (λ _ _. ap L'.origin G.out_t ∙ G.origin_else en (ne' Q.e_en) (ne' Q.t_en) ∙ Q.from_en)
      (λ b a' lv. ap L'.origin (G.out_else v a' b) ∙ G.origin_else (L.out v) (λ q. a' (sym (W.out_origin v lv) ∙ ap L.origin q)) (λ q. b (sym (W.out_origin v lv) ∙ ap L.origin q)) ∙ W.out_origin v lv) a) l;
  spin = moved (ccw L) (ccw L') L.origin L'.origin (Half E) e tn ep t en tp
      (record {
        keeps = λ x l. rev_live E _ (W.prev_live x l);
        class = λ x l. sym (W.to_next _ (W.prev_live x l)) ∙ ap L.origin (W.next_prev x l);
        live_q = Q.lep;
        live_u = Q.ltp;
        only_d = λ x l q. sym (W.next_prev x l) ∙ ap L.next (rev_is _ e q ∙ Q.et) ∙ Q.next_t;
        only_c = λ x l q. sym (W.next_prev x l) ∙ ap L.next (rev_is _ t q ∙ Q.te) ∙ Q.next_e;
        to_d = ap rev Q.prev_tn ∙ Q.te;
        to_c = ap rev Q.prev_en ∙ Q.et;
        at_p = ap rev (G.prev_tn ∙ sym Q.prev_e);
        at_q = ap rev G.prev_ep ∙ Q.te;
        at_d = ap rev (G.prev_e ∙ sym Q.prev_ep);
        at_r = ap rev (G.prev_en ∙ sym Q.prev_t);
        at_u = ap rev G.prev_tp ∙ Q.et;
        at_c = ap rev (G.prev_t ∙ sym Q.prev_tp);
        at_else = λ x o. ap rev (G.prev_else x (record { na = o.na; nb = o.nd; nc = o.ne; nd = o.nc; ne = o.nb; nf = o.nf }));
        class_d = G.origin_e;
        class_c = G.origin_t;
        class_else = G.origin_else;
        dc = Q.e_t;
        pd = ne' Q.e_tn;
        pc = ne' Q.t_tn;
        qd = ne' Q.e_ep;
        qc = ne' Q.t_ep;
        rd = ne' Q.e_en;
        rc = ne' Q.t_en;
        ud = ne' Q.e_tp;
        uc = ne' Q.t_tp;
        sdd = not_e e ep Q.prev_e (ne' Q.t_ep);
        sdc = not_t e ep Q.prev_e (ne' Q.e_ep);
        scd = not_e t tp Q.prev_t (ne' Q.t_tp);
        scc = not_t t tp Q.prev_t (ne' Q.e_tp);
        sqd = not_e ep en Q.prev_ep (ne' Q.t_en);
        sqc = not_t ep en Q.prev_ep (ne' Q.e_en);
        sud = not_e tp tn Q.prev_tp (ne' Q.t_tn);
        suc' = not_t tp tn Q.prev_tp (ne' Q.e_tn);
      })
      W.spin;
  adj_face = λ g l. cases_to (λ z. F z → L'.face (L'.adj z) ≡ z) (L.face e) g
      (λ _. ap L'.face G.adj_e ∙ f_e)
      (λ a. cases_to (λ z. z ≢ L.face e → F z → L'.face (L'.adj z) ≡ z) (L.face t) g
      (λ _ _. ap L'.face G.adj_t ∙ f_t)
      (λ b a' lg. ap L'.face (G.adj_else g a' b) ∙ G.face_else (L.adj g) (λ q. a' (sym (W.adj_face g lg) ∙ ap L.face q ∙ Q.face_ep)) (λ q. b (sym (W.adj_face g lg) ∙ ap L.face q ∙ Q.face_tp)) ∙ W.adj_face g lg) a) l;
  turn = moved L.next L'.next L.face L'.face (Half E) ep en t tp tn e
      (record {
        keeps = W.next_live;
        class = W.face_next;
        live_q = Q.lt;
        live_u = Q.le;
        only_d = λ x l q. sym (W.prev_next x l) ∙ ap L.prev q ∙ Q.prev_ep;
        only_c = λ x l q. sym (W.prev_next x l) ∙ ap L.prev q ∙ Q.prev_tp;
        to_d = Q.next_en;
        to_c = Q.next_tn;
        at_p = G.next_en ∙ sym Q.next_ep;
        at_q = G.next_t;
        at_d = G.next_ep ∙ sym Q.next_t;
        at_r = G.next_tn ∙ sym Q.next_tp;
        at_u = G.next_e;
        at_c = G.next_tp ∙ sym Q.next_e;
        at_else = λ x o. G.next_else x (record { na = o.nf; nb = o.nc; nc = o.nb; nd = o.na; ne = o.ne; nf = o.nd });
        class_d = G.face_ep;
        class_c = G.face_tp;
        class_else = G.face_else;
        dc = Q.ep_tp;
        pd = Q.en_ep;
        pc = Q.en_tp;
        qd = Q.t_ep;
        qc = Q.t_tp;
        rd = ne' Q.ep_tn;
        rc = Q.tn_tp;
        ud = Q.e_ep;
        uc = Q.e_tp;
        sdd = λ q. Q.e_ep (sym Q.next_ep ∙ q);
        sdc = λ q. Q.e_tp (sym Q.next_ep ∙ q);
        scd = λ q. Q.t_ep (sym Q.next_tp ∙ q);
        scc = λ q. Q.t_tp (sym Q.next_tp ∙ q);
        sqd = λ q. Q.ep_tn (sym (sym Q.next_t ∙ q));
        sqc = λ q. Q.tn_tp (sym Q.next_t ∙ q);
        sud = λ q. Q.en_ep (sym Q.next_e ∙ q);
        suc' = λ q. Q.en_tp (sym Q.next_e ∙ q);
      })
      W.turn;
  sides = λ g h lg ng l. sides' g h lg ng l;
  ends = λ h l. ends' h l;
}
  where
    at : {a b : ℕ} → a ≡ b → E (a / 2) → E (b / 2)
    at q l = subst (λ z. E (z / 2)) q l

    ne' : {a b : ℕ} → a ≢ b → b ≢ a
    ne' d q = d (sym q)

    f_e : L'.face e ≡ L.face e
    f_e = G.face_else e Q.e_ep Q.e_tp

    f_en : L'.face en ≡ L.face e
    f_en = G.face_else en Q.en_ep Q.en_tp ∙ Q.face_en

    f_t : L'.face t ≡ L.face t
    f_t = G.face_else t Q.t_ep Q.t_tp

    f_tn : L'.face tn ≡ L.face t
    f_tn = G.face_else tn (ne' Q.ep_tn) Q.tn_tp ∙ Q.face_tn

    -- the other half of what is neither half of e
    o_rev : (x : ℕ) → x ≢ t → x ≢ e → L'.origin (rev x) ≡ L.origin (rev x)
    o_rev x a b = G.origin_else (rev x) (rev_not x e t Q.et a) (rev_not x t e Q.te b)

    came : (x a b : ℕ) → E (x / 2) → L.prev a ≡ b → x ≢ b → L.next x ≢ a
    came x a b l p d q = d (sym (W.prev_next x l) ∙ ap L.prev q ∙ p)

    went : (x a b : ℕ) → E (x / 2) → L.next a ≡ b → x ≢ b → L.prev x ≢ a
    went x a b l p d q = d (sym (W.next_prev x l) ∙ ap L.next q ∙ p)

    next_out : (x : ℕ) → Out e t en ep tn tp x → E (x / 2) → Out e t en ep tn tp (L.next x)
    next_out x o l = record {
      na = came x e ep l Q.prev_e o.nd;
      nb = came x t tp l Q.prev_t o.nf;
      nc = came x en e l Q.prev_en o.na;
      nd = came x ep en l Q.prev_ep o.nc;
      ne = came x tn t l Q.prev_tn o.nb;
      nf = came x tp tn l Q.prev_tp o.ne;
    }

    prev_out : (x : ℕ) → Out e t en ep tn tp x → E (x / 2) → Out e t en ep tn tp (L.prev x)
    prev_out x o l = record {
      na = went x e en l Q.next_e o.nc;
      nb = went x t tn l Q.next_t o.ne;
      nc = went x en ep l Q.next_en o.nd;
      nd = went x ep e l Q.next_ep o.na;
      ne = went x tn tp l Q.next_tn o.nf;
      nf = went x tp t l Q.next_tp o.nb;
    }

    not_e : (x y : ℕ) → L.prev x ≡ y → y ≢ t → ccw L x ≢ e
    not_e x y p d q = d (sym p ∙ rev_is _ e q ∙ Q.et)

    not_t : (x y : ℕ) → L.prev x ≡ y → y ≢ e → ccw L x ≢ t
    not_t x y p d q = d (sym p ∙ rev_is _ t q ∙ Q.te)

    side_tp : L'.face tp ≢ L'.face (rev tp)
    side_tp q =
        elim (cases_eq (rev tp) ep) [
          | inl r ↦ Q.faces (sym G.face_tp ∙ q ∙ ap L'.face r ∙ G.face_ep)
          | inr d ↦ three (λ x. rev tp ≡ x → ⊥) e en ep (rev tp)
              (corner_of L V E F e en ep W Q.le Q.next_e Q.next_en Q.next_ep (rev tp) (rev_live E tp Q.ltp) (sym (G.face_else (rev tp) d (rev_other tp)) ∙ sym q ∙ G.face_tp))
              (λ r. Q.t_tp (sym (rev_is tp e r ∙ Q.et)))
              (λ r. Q.corners (sym Q.to_en ∙ ap L.origin (sym (rev_is tp en r))))
              d refl
        ]

    side_ep : L'.face ep ≢ L'.face (rev ep)
    side_ep q =
        elim (cases_eq (rev ep) tp) [
          | inl r ↦ Q.faces (sym (sym G.face_ep ∙ q ∙ ap L'.face r ∙ G.face_tp))
          | inr d ↦ three (λ x. rev ep ≡ x → ⊥) t tn tp (rev ep)
              (corner_of L V E F t tn tp W Q.lt Q.next_t Q.next_tn Q.next_tp (rev ep) (rev_live E ep Q.lep) (sym (G.face_else (rev ep) (rev_other ep) d) ∙ sym q ∙ G.face_ep))
              (λ r. Q.e_ep (sym (rev_is ep t r ∙ Q.te)))
              (λ r. Q.corners (sym (sym Q.to_tn ∙ ap L.origin (sym (rev_is ep tn r)))))
              d refl
        ]

    other : (x : ℕ) → L'.face x ≢ L'.face (rev x) → (h : ℕ) → rev h ≡ x → L'.face h ≢ L'.face (rev h)
    other x d h r q = d (ap L'.face (sym r) ∙ sym q ∙ ap L'.face (rev_is h x r))

    sides' : (g h : ℕ) → F g → g ≢ 0 → E (h / 2) → L'.face h ≢ L'.face (rev h)
    sides' g h lg ng l =
        cases_to (λ z. E (z / 2) → L'.face z ≢ L'.face (rev z)) ep h (λ _. side_ep)
        (λ a. cases_to (λ z. z ≢ ep → E (z / 2) → L'.face z ≢ L'.face (rev z)) tp h (λ _ _. side_tp)
        (λ b a' lh. elim (cases_eq (rev h) ep) [
          | inl r ↦ other ep side_ep h r
          | inr c ↦ elim (cases_eq (rev h) tp) [
            | inl r ↦ other tp side_tp h r
            | inr d ↦ λ q. W.sides g h lg ng lh (sym (G.face_else h a' b) ∙ q ∙ G.face_else (rev h) c d)
          ]
        ]) a) l

    ends' : (h : ℕ) → E (h / 2) → L'.origin h ≢ L'.origin (rev h)
    ends' h l =
        cases_to (λ z. E (z / 2) → L'.origin z ≢ L'.origin (rev z)) e h (λ _ q. Q.corners (sym G.origin_e ∙ q ∙ ap L'.origin Q.et ∙ G.origin_t))
        (λ a. cases_to (λ z. z ≢ e → E (z / 2) → L'.origin z ≢ L'.origin (rev z)) t h (λ _ _ q. Q.corners (sym (sym G.origin_t ∙ q ∙ ap L'.origin Q.te ∙ G.origin_e)))
        (λ b a' lh q. W.ends h lh (sym (G.origin_else h a' b) ∙ q ∙ o_rev h b a')) a) l
