-- A flip keeps the link rules.
use Rattle.std.proofs.Common.{◌≡◌, ℕ, ◌/◌, ◌≢◌, sym, refl, ap, ◌∙◌}
use Rattle.links.specs.Links.{Links, rev}
use Rattle.links.proofs.Halves.{rev_rev}
use Rattle.surgery.specs.Update.{upd, flip}
use Rattle.surgery.proofs.Updates.{upd_same, Out, rev_live, skip}
use Rattle.surgery.proofs.Roots.{Unrooted}

-- e lies between the triangles e en ep and t tn tp
pub record Quad (L : Links) (E : ℕ → Type 0) (e t en ep tn tp : ℕ) : Type 0 where
  pub et : rev e ≡ t
  pub te : rev t ≡ e
  pub le : E (e / 2)
  pub lt : E (t / 2)
  pub len : E (en / 2)
  pub lep : E (ep / 2)
  pub ltn : E (tn / 2)
  pub ltp : E (tp / 2)
  pub next_e : L.next e ≡ en
  pub next_en : L.next en ≡ ep
  pub next_ep : L.next ep ≡ e
  pub next_t : L.next t ≡ tn
  pub next_tn : L.next tn ≡ tp
  pub next_tp : L.next tp ≡ t
  pub prev_e : L.prev e ≡ ep
  pub prev_en : L.prev en ≡ e
  pub prev_ep : L.prev ep ≡ en
  pub prev_t : L.prev t ≡ tp
  pub prev_tn : L.prev tn ≡ t
  pub prev_tp : L.prev tp ≡ tn
  pub face_en : L.face en ≡ L.face e
  pub face_ep : L.face ep ≡ L.face e
  pub face_tn : L.face tn ≡ L.face t
  pub face_tp : L.face tp ≡ L.face t
  pub from_en : L.origin en ≡ L.origin t
  pub from_tn : L.origin tn ≡ L.origin e
  pub to_en : L.origin (rev en) ≡ L.origin ep
  pub to_ep : L.origin (rev ep) ≡ L.origin e
  pub to_tn : L.origin (rev tn) ≡ L.origin tp
  pub to_tp : L.origin (rev tp) ≡ L.origin t
  pub faces : L.face e ≢ L.face t
  pub corners : L.origin ep ≢ L.origin tp
  pub e_t : e ≢ t
  pub e_en : e ≢ en
  pub e_ep : e ≢ ep
  pub e_tn : e ≢ tn
  pub e_tp : e ≢ tp
  pub t_en : t ≢ en
  pub t_ep : t ≢ ep
  pub t_tn : t ≢ tn
  pub t_tp : t ≢ tp
  pub en_ep : en ≢ ep
  pub en_tn : en ≢ tn
  pub en_tp : en ≢ tp
  pub ep_tn : ep ≢ tn
  pub ep_tp : ep ≢ tp
  pub tn_tp : tn ≢ tp

-- what a flip leaves, place by place
pub record Flipped (L L' : Links) (e t en ep tn tp : ℕ) : Type 0 where
  pub next_e : L'.next e ≡ tp
  pub next_tp : L'.next tp ≡ en
  pub next_en : L'.next en ≡ e
  pub next_t : L'.next t ≡ ep
  pub next_ep : L'.next ep ≡ tn
  pub next_tn : L'.next tn ≡ t
  pub next_else : (x : ℕ) → Out e t en ep tn tp x → L'.next x ≡ L.next x
  pub prev_e : L'.prev e ≡ en
  pub prev_tp : L'.prev tp ≡ e
  pub prev_en : L'.prev en ≡ tp
  pub prev_t : L'.prev t ≡ tn
  pub prev_ep : L'.prev ep ≡ t
  pub prev_tn : L'.prev tn ≡ ep
  pub prev_else : (x : ℕ) → Out e t en ep tn tp x → L'.prev x ≡ L.prev x
  pub face_tp : L'.face tp ≡ L.face e
  pub face_ep : L'.face ep ≡ L.face t
  pub face_else : (x : ℕ) → x ≢ ep → x ≢ tp → L'.face x ≡ L.face x
  pub origin_e : L'.origin e ≡ L.origin ep
  pub origin_t : L'.origin t ≡ L.origin tp
  pub origin_else : (x : ℕ) → x ≢ e → x ≢ t → L'.origin x ≡ L.origin x
  pub out_e : L'.out (L.origin e) ≡ tn
  pub out_t : L'.out (L.origin t) ≡ en
  pub out_else : (v : ℕ) → v ≢ L.origin e → v ≢ L.origin t → L'.out v ≡ L.out v
  pub adj_e : L'.adj (L.face e) ≡ e
  pub adj_t : L'.adj (L.face t) ≡ t
  pub adj_else : (g : ℕ) → g ≢ L.face e → g ≢ L.face t → L'.adj g ≡ L.adj g

apart : (g : ℕ → ℕ) (a b : ℕ) → g a ≢ g b → a ≢ b
apart g a b d e = d (ap g e)

-- the quadrilateral, from the rules and two triangles in different faces
pub quad : (L : Links) (V E F : ℕ → Type 0) (e : ℕ) → Unrooted L V E F → E (e / 2)
    → L.next (L.next e) ≡ L.prev e → L.next (L.next (rev e)) ≡ L.prev (rev e)
    → L.face e ≢ L.face (rev e) → L.origin (L.prev e) ≢ L.origin (L.prev (rev e))
    → Quad L E e (rev e) (L.next e) (L.prev e) (L.next (rev e)) (L.prev (rev e))
quad L V E F e W l three three' faces corners = record {
  et = refl;
  te = rev_rev e;
  le = l;
  lt = lt;
  len = W.next_live e l;
  lep = W.prev_live e l;
  ltn = W.next_live t lt;
  ltp = W.prev_live t lt;
  next_e = refl;
  next_en = three;
  next_ep = W.next_prev e l;
  next_t = refl;
  next_tn = three';
  next_tp = W.next_prev t lt;
  prev_e = refl;
  prev_en = W.prev_next e l;
  prev_ep = ap L.prev (sym three) ∙ W.prev_next _ (W.next_live e l);
  prev_t = refl;
  prev_tn = W.prev_next t lt;
  prev_tp = ap L.prev (sym three') ∙ W.prev_next _ (W.next_live t lt);
  face_en = fen;
  face_ep = fep;
  face_tn = ftn;
  face_tp = ftp;
  from_en = W.to_next e l;
  from_tn = W.to_next t lt ∙ ap L.origin (rev_rev e);
  to_en = sym (W.to_next _ (W.next_live e l)) ∙ ap L.origin three;
  to_ep = sym (W.to_next _ (W.prev_live e l)) ∙ ap L.origin (W.next_prev e l);
  to_tn = sym (W.to_next _ (W.next_live t lt)) ∙ ap L.origin three';
  to_tp = sym (W.to_next _ (W.prev_live t lt)) ∙ ap L.origin (W.next_prev t lt);
  faces = faces;
  corners = corners;
  e_t = apart L.face _ _ faces;
  e_en = no_loop e l;
  e_ep = λ q. no_loop (L.prev e) (W.prev_live e l) (sym q ∙ sym (W.next_prev e l));
  e_tn = apart L.face _ _ (λ q. faces (q ∙ ftn));
  e_tp = apart L.face _ _ (λ q. faces (q ∙ ftp));
  t_en = apart L.face _ _ (λ q. faces (sym (q ∙ fen)));
  t_ep = apart L.face _ _ (λ q. faces (sym (q ∙ fep)));
  t_tn = no_loop t lt;
  t_tp = λ q. no_loop (L.prev t) (W.prev_live t lt) (sym q ∙ sym (W.next_prev t lt));
  en_ep = λ q. no_loop (L.next e) (W.next_live e l) (q ∙ sym three);
  en_tn = apart L.face _ _ (λ q. faces (sym fen ∙ q ∙ ftn));
  en_tp = apart L.face _ _ (λ q. faces (sym fen ∙ q ∙ ftp));
  ep_tn = apart L.face _ _ (λ q. faces (sym fep ∙ q ∙ ftn));
  ep_tp = apart L.face _ _ (λ q. faces (sym fep ∙ q ∙ ftp));
  tn_tp = λ q. no_loop (L.next t) (W.next_live t lt) (q ∙ sym three');
}
  where
    t : ℕ
    t = rev e

    lt : E (t / 2)
    lt = rev_live E e l

    no_loop : (h : ℕ) → E (h / 2) → h ≢ L.next h
    no_loop h lh q = W.ends h lh (ap L.origin q ∙ W.to_next h lh)

    fen : L.face (L.next e) ≡ L.face e
    fen = W.face_next e l

    fep : L.face (L.prev e) ≡ L.face e
    fep = sym (W.face_next _ (W.prev_live e l)) ∙ ap L.face (W.next_prev e l)

    ftn : L.face (L.next t) ≡ L.face t
    ftn = W.face_next t lt

    ftp : L.face (L.prev t) ≡ L.face t
    ftp = sym (W.face_next _ (W.prev_live t lt)) ∙ ap L.face (W.next_prev t lt)

-- ---- the flip of the specs is such a flip

-- six updates at six places
record Six (g h : ℕ → ℕ) (a va b vb c vc d vd e ve f vf : ℕ) : Type 0 where
  at_a : h a ≡ va
  at_b : h b ≡ vb
  at_c : h c ≡ vc
  at_d : h d ≡ vd
  at_e : h e ≡ ve
  at_f : h f ≡ vf
  at_else : (x : ℕ) → Out a b c d e f x → h x ≡ g x

six : (g : ℕ → ℕ) (a va b vb c vc d vd e ve f vf : ℕ)
    → a ≢ b → a ≢ c → a ≢ d → a ≢ e → a ≢ f → b ≢ c → b ≢ d → b ≢ e → b ≢ f → c ≢ d → c ≢ e → c ≢ f → d ≢ e → d ≢ f → e ≢ f
    → Six g (upd (upd (upd (upd (upd (upd g a va) b vb) c vc) d vd) e ve) f vf) a va b vb c vc d vd e ve f vf
six g a va b vb c vc d vd e ve f vf ab ac ad ae af bc bd be bf cd ce cf de df ef = record {
  at_a = skip _ f vf a _ af (skip _ e ve a _ ae (skip _ d vd a _ ad (skip _ c vc a _ ac (skip _ b vb a _ ab (upd_same g a va)))));
  at_b = skip _ f vf b _ bf (skip _ e ve b _ be (skip _ d vd b _ bd (skip _ c vc b _ bc (upd_same _ b vb))));
  at_c = skip _ f vf c _ cf (skip _ e ve c _ ce (skip _ d vd c _ cd (upd_same _ c vc)));
  at_d = skip _ f vf d _ df (skip _ e ve d _ de (upd_same _ d vd));
  at_e = skip _ f vf e _ ef (upd_same _ e ve);
  at_f = upd_same _ f vf;
  at_else = λ x o. skip _ f vf x _ o.nf (skip _ e ve x _ o.ne (skip _ d vd x _ o.nd (skip _ c vc x _ o.nc (skip _ b vb x _ o.nb (skip _ a va x _ o.na refl)))));
}

pub flipped : (L : Links) (E : ℕ → Type 0) (e : ℕ)
    → Quad L E e (rev e) (L.next e) (L.prev e) (L.next (rev e)) (L.prev (rev e)) → L.origin e ≢ L.origin (rev e)
    → Flipped L (flip L e) e (rev e) (L.next e) (L.prev e) (L.next (rev e)) (L.prev (rev e))
unfolding flip
flipped L E e Q ends = record {
  next_e = nx.at_b;
  next_tp = nx.at_c;
  next_en = nx.at_a;
  next_t = nx.at_e;
  next_ep = nx.at_f;
  next_tn = nx.at_d;
  next_else = λ x o. nx.at_else x (sort x o);
  prev_e = pv.at_b;
  prev_tp = pv.at_c;
  prev_en = pv.at_a;
  prev_t = pv.at_e;
  prev_ep = pv.at_f;
  prev_tn = pv.at_d;
  prev_else = λ x o. pv.at_else x (sort x o);
  face_tp = skip _ ep _ tp _ (λ q. Q.ep_tp (sym q)) (upd_same _ tp _);
  face_ep = upd_same _ ep _;
  face_else = λ x a b. skip _ ep _ x _ a (skip _ tp _ x _ b refl);
  origin_e = skip _ t _ e _ Q.e_t (upd_same _ e _);
  origin_t = upd_same _ t _ ∙ skip _ e _ tp _ (λ q. Q.e_tp (sym q)) refl;
  origin_else = λ x a b. skip _ t _ x _ b (skip _ e _ x _ a refl);
  out_e = skip _ (L.origin t) _ (L.origin e) _ ends (upd_same _ _ _);
  out_t = upd_same _ _ _;
  out_else = λ v a b. skip _ _ _ v _ b (skip _ _ _ v _ a refl);
  adj_e = skip _ (L.face t) _ (L.face e) _ Q.faces (upd_same _ _ _);
  adj_t = upd_same _ _ _;
  adj_else = λ v a b. skip _ _ _ v _ b (skip _ _ _ v _ a refl);
}
  where
    t : ℕ
    t = rev e

    en : ℕ
    en = L.next e

    ep : ℕ
    ep = L.prev e

    tn : ℕ
    tn = L.next t

    tp : ℕ
    tp = L.prev t

    turned : {a b : ℕ} → a ≢ b → b ≢ a
    turned d q = d (sym q)

    sort : (x : ℕ) → Out e t en ep tn tp x → Out en e tp tn t ep x
    sort x o = record { na = o.nc; nb = o.na; nc = o.nf; nd = o.ne; ne = o.nb; nf = o.nd }

    nx : Six L.next (flip L e).next en e e tp tp en tn t t ep ep tn
    nx = six L.next en e e tp tp en tn t t ep ep tn
        (turned Q.e_en) Q.en_tp Q.en_tn (turned Q.t_en) Q.en_ep Q.e_tp Q.e_tn Q.e_t Q.e_ep
        (turned Q.tn_tp) (turned Q.t_tp) (turned Q.ep_tp) (turned Q.t_tn) (turned Q.ep_tn) Q.t_ep

    pv : Six L.prev (flip L e).prev en tp e en tp e tn ep t tn ep t
    pv = six L.prev en tp e en tp e tn ep t tn ep t
        (turned Q.e_en) Q.en_tp Q.en_tn (turned Q.t_en) Q.en_ep Q.e_tp Q.e_tn Q.e_t Q.e_ep
        (turned Q.tn_tp) (turned Q.t_tp) (turned Q.ep_tp) (turned Q.t_tn) (turned Q.ep_tn) Q.t_ep
