-- The link rules do not see names.
use Rattle.std.proofs.Common.{◌≡◌, ℕ, ◌/◌, ◌≢◌, sym, ap, ◌∙◌, subst}
use Rattle.links.specs.Links.{Links, rev, ccw}
use Rattle.surgery.specs.Renamed.{Names, Renamed}
use Rattle.surgery.proofs.Cycles.{carry, one, same}
use Rattle.surgery.proofs.Updates.{rev_live}
use Rattle.surgery.proofs.Roots.{Unrooted, Half}

pub renamed : (L L' : Links) (V E F V' E' F' : ℕ → Type 0) (pv qv ph qh pf qf : ℕ → ℕ)
    → Renamed L L' V E F V' E' F' pv qv ph qh pf qf → Unrooted L V E F → Unrooted L' V' E' F'
renamed L L' V E F V' E' F' pv qv ph qh pf qf R W = record {
  out_live = R.out_live;
  next_live = via (λ h. E' (L'.next h / 2)) (λ x l. live (sym (R.nexts x l)) (H.there _ (W.next_live x l)));
  prev_live = via (λ h. E' (L'.prev h / 2)) (λ x l. live (sym (R.prevs x l)) (H.there _ (W.prev_live x l)));
  face_live = via (λ h. F' (L'.face h)) (λ x l. subst F' (sym (R.sides x l)) (R.faces.there _ (W.face_live x l)));
  origin_live = via (λ h. V' (L'.origin h)) (λ x l. subst V' (sym (R.origins x l)) (R.entries.there _ (W.origin_live x l)));
  adj_live = R.adj_live;
  prev_next = via (λ h. L'.prev (L'.next h) ≡ h) (λ x l. ap L'.prev (R.nexts x l) ∙ R.prevs _ (W.next_live x l) ∙ ap ph (W.prev_next x l));
  next_prev = via (λ h. L'.next (L'.prev h) ≡ h) (λ x l. ap L'.next (R.prevs x l) ∙ R.nexts _ (W.prev_live x l) ∙ ap ph (W.next_prev x l));
  face_next = via (λ h. L'.face (L'.next h) ≡ L'.face h) (λ x l. ap L'.face (R.nexts x l) ∙ R.sides _ (W.next_live x l) ∙ ap pf (W.face_next x l) ∙ sym (R.sides x l));
  to_next = via (λ h. L'.origin (L'.next h) ≡ L'.origin (rev h)) (λ x l. ap L'.origin (R.nexts x l) ∙ R.origins _ (W.next_live x l) ∙ ap pv (W.to_next x l) ∙ sym (to' x l));
  out_origin = R.out_origin;
  spin = carry (ccw L) L.origin (ccw L') L'.origin ph qv (Half E) (Half E') W.spin
      (λ x l. rev_live E _ (W.prev_live x l))
      (λ x l. one _ _ _ (ap rev (R.prevs x l) ∙ R.revs _ (W.prev_live x l)))
      (λ h l. (qh h, (H.back h l, origin_back h l, same _ _ _ (sym (H.there_back h l)))))
      (λ h l. (qh h, (H.back h l, origin_back h l, same _ _ _ (H.there_back h l))));
  adj_face = R.adj_face;
  turn = carry L.next L.face L'.next L'.face ph qf (Half E) (Half E') W.turn
      W.next_live
      (λ x l. one _ _ _ (R.nexts x l))
      (λ h l. (qh h, (H.back h l, face_of_half h l, same _ _ _ (sym (H.there_back h l)))))
      (λ h l. (qh h, (H.back h l, face_of_half h l, same _ _ _ (H.there_back h l))));
  sides = λ g h lg ng. via (λ h. L'.face h ≢ L'.face (rev h))
      (λ x l q. W.sides (qf g) x (R.faces.back g lg) (R.inner g lg ng) l (sym (R.faces.back_there _ (W.face_live x l)) ∙ ap qf (sym (R.sides x l) ∙ q ∙ ap L'.face (R.revs x l) ∙ R.sides _ (rev_live E x l)) ∙ R.faces.back_there _ (W.face_live _ (rev_live E x l)))) h;
  ends = via (λ h. L'.origin h ≢ L'.origin (rev h))
      (λ x l q. W.ends x l (sym (R.entries.back_there _ (W.origin_live x l)) ∙ ap qv (sym (R.origins x l) ∙ q ∙ to' x l) ∙ R.entries.back_there _ (W.origin_live _ (rev_live E x l))));
}
  where
    H : Names (Half E) (Half E') ph qh
    H = R.halves

    live : {a b : ℕ} → a ≡ b → E' (a / 2) → E' (b / 2)
    live q l = subst (λ z. E' (z / 2)) q l

    -- what holds of each renamed half holds of each half
    via : (T : ℕ → Type 0) → ((x : ℕ) → E (x / 2) → T (ph x)) → (h : ℕ) → E' (h / 2) → T h
    via T t h l = subst T (H.there_back h l) (t (qh h) (H.back h l))

    to' : (x : ℕ) → E (x / 2) → L'.origin (rev (ph x)) ≡ pv (L.origin (rev x))
    to' x l = ap L'.origin (R.revs x l) ∙ R.origins _ (rev_live E x l)

    origin_back : (h : ℕ) → E' (h / 2) → L.origin (qh h) ≡ qv (L'.origin h)
    origin_back h l = sym (R.entries.back_there _ (W.origin_live _ (H.back h l))) ∙ ap qv (sym (R.origins _ (H.back h l)) ∙ ap L'.origin (H.there_back h l))

    face_of_half : (h : ℕ) → E' (h / 2) → L.face (qh h) ≡ qf (L'.face h)
    face_of_half h l = sym (R.faces.back_there _ (W.face_live _ (H.back h l))) ∙ ap qf (sym (R.sides _ (H.back h l)) ∙ ap L'.face (H.there_back h l))
