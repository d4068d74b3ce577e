-- The fan's step keeps the link rules.
use Rattle.std.proofs.Common.{◌≡◌, ℕ, ◌+◌, ◌*◌, ◌/◌, ◌≢◌, sym, refl, ap, ◌∙◌, subst, inl, inr, arith}
use Rattle.links.specs.Links.{Links}
use Rattle.links.proofs.Halves.{rev_even, rev_odd}
use Rattle.surgery.specs.Update.{upd}
use Rattle.surgery.specs.Fan.{With, cut_ear}
use Rattle.surgery.proofs.Updates.{upd_same, skip, cases_to}
use Rattle.surgery.proofs.Roots.{Unrooted, Half}
use Rattle.surgery.proofs.Ear.{ear}
use Rattle.surgery.proofs.MoveEdge.{half_of}

pub fan_step : (L : Links) (V E F : ℕ → Type 0) (i : ℕ) → (E L.e → ⊥) → (F L.f → ⊥) → E (i / 2) → L.face i ≢ 0
    → L.origin i ≢ L.origin (L.next (L.next i)) → Unrooted L V E F → Unrooted (cut_ear L i) V (With E L.e) (With F L.f)
unfolding cut_ear
fan_step L V E F i dead dead_f li inner wide W = ear L (cut_ear L i) V E F (With E m) (With F N) e t i o p n N
    (record {
      li = li;
      at_i = refl;
      at_p = refl;
      at_o = refl;
      wide = wide;
      inner = inner;
      et = rev_even m;
      te = rev_odd m;
      fresh = fresh;
      fresh_t = fresh_t;
      fresh_face = dead_f;
      le = inr (omega arith);
      lt = inr (omega arith);
      keep = λ _ l. inl l;
      half = λ x w. elim w [ inl l ↦ inr (inr l) | inr q ↦ elim (half_of x m q) [ inl r ↦ inl r | inr r ↦ inr (inl r) ] ];
      keep_face = λ _ l. inl l;
      new_face = inr refl;
      next_e = skip _ p t e i (new_e p lp) (skip _ t n e i et (upd_same _ e i));
      next_t = skip _ p t t n (new_t p lp) (upd_same _ t n);
      next_o = skip _ p t o e (λ q. p_o (sym q)) (skip _ t n o e (old_t o lo) (skip _ e i o e (old_e o lo) (upd_same _ o e)));
      next_p = upd_same _ p t;
      next_else = λ x l a b. skip _ p t x _ b (skip _ t n x _ (old_t x l) (skip _ e i x _ (old_e x l) (skip _ o e x _ a refl)));
      prev_e = skip _ n t e o (new_e n ln) (skip _ t p e o et (upd_same _ e o));
      prev_t = skip _ n t t p (new_t n ln) (upd_same _ t p);
      prev_i = skip _ n t i e (λ q. n_i (sym q)) (skip _ t p i e (old_t i li) (skip _ e o i e (old_e i li) (upd_same _ i e)));
      prev_n = upd_same _ n t;
      prev_else = λ x l a b. skip _ n t x _ b (skip _ t p x _ (old_t x l) (skip _ e o x _ (old_e x l) (skip _ i e x _ a refl)));
      face_e = face_e';
      face_t = upd_same _ t _;
      face_i = skip _ t _ i _ (old_t i li) (skip _ e _ i _ (old_e i li) (skip _ o _ i _ i_o (upd_same _ i _)));
      face_o = skip _ t _ o _ (old_t o lo) (skip _ e _ o _ (old_e o lo) (upd_same _ o _));
      face_else = face_else';
      origin_e = skip _ t _ e _ et (upd_same _ e _);
      origin_t = upd_same _ t _;
      origin_else = origin_else';
      out_live = λ v l. cases_to (λ v. V v → With E m (out' v / 2)) (L.origin o) v (λ _. inl (subst (Half E) (sym (upd_same _ _ o)) lo)) (λ d l'. inl (subst (Half E) (sym (skip _ _ o v _ d refl)) (W.out_live v l'))) l;
      out_origin = λ v l. cases_to (λ v. V v → origin' (out' v) ≡ v) (L.origin o) v (λ _. ap origin' (upd_same _ _ o) ∙ origin_else' o lo)
          (λ d l'. ap origin' (skip _ _ o v _ d refl) ∙ origin_else' _ (W.out_live v l') ∙ W.out_origin v l') l;
      adj_live = λ g w. cases_to (λ g. With F N g → With E m (adj' g / 2)) H g (λ _. inr (ap (λ z. z / 2) (upd_same _ H t) ∙ omega arith))
          (λ a w'. elim w' [
            | inl l ↦ inl (subst (Half E) (sym (adj_old g a l)) (W.adj_live g l))
            | inr q ↦ inr (ap (λ z. z / 2) (ap adj' q ∙ adj_new) ∙ omega arith)
          ]) w;
      adj_face = λ g w. cases_to (λ g. With F N g → face' (adj' g) ≡ g) H g (λ _. ap face' (upd_same _ H t) ∙ upd_same _ t _)
          (λ a w'. elim w' [
            | inl l ↦ ap face' (adj_old g a l) ∙ face_else' _ (W.adj_live g l) (λ q. a (sym (W.adj_face g l) ∙ ap L.face q)) (λ q. a (sym (W.adj_face g l) ∙ ap L.face q ∙ W.face_next i li)) ∙ W.adj_face g l
            | inr q ↦ ap face' (ap adj' q ∙ adj_new) ∙ face_e' ∙ sym q
          ]) w;
    })
    W
  where
    m : ℕ
    m = L.e

    N : ℕ
    N = L.f

    H : ℕ
    H = L.face i

    e : ℕ
    e = 2 * L.e

    t : ℕ
    t = 2 * L.e + 1

    o : ℕ
    o = L.next i

    p : ℕ
    p = L.prev i

    n : ℕ
    n = L.next o

    lo : E (o / 2)
    lo = W.next_live i li

    lp : E (p / 2)
    lp = W.prev_live i li

    ln : E (n / 2)
    ln = W.next_live o lo

    et : e ≢ t
    et = omega arith

    fresh : E (e / 2) → ⊥
    fresh l = dead (subst E (let h : e / 2 ≡ m = omega arith in h) l)

    fresh_t : E (t / 2) → ⊥
    fresh_t l = dead (subst E (let h : t / 2 ≡ m = omega arith in h) l)

    old_e : (x : ℕ) → E (x / 2) → x ≢ e
    old_e x l q = fresh (subst (Half E) q l)

    old_t : (x : ℕ) → E (x / 2) → x ≢ t
    old_t x l q = fresh_t (subst (Half E) q l)

    new_e : (x : ℕ) → E (x / 2) → e ≢ x
    new_e x l q = old_e x l (sym q)

    new_t : (x : ℕ) → E (x / 2) → t ≢ x
    new_t x l q = old_t x l (sym q)

    n_i : n ≢ i
    n_i q = wide (ap L.origin (sym q))

    i_o : i ≢ o
    i_o q = W.ends i li (ap L.origin q ∙ W.to_next i li)

    p_o : p ≢ o
    p_o q = n_i (ap L.next (sym q) ∙ W.next_prev i li)

    out' : ℕ → ℕ
    out' = upd L.out (L.origin o) o

    adj' : ℕ → ℕ
    adj' = upd (upd L.adj N e) H t

    face' : ℕ → ℕ
    face' = upd (upd (upd (upd L.face i N) o N) e N) t H

    origin' : ℕ → ℕ
    origin' = upd (upd L.origin e (L.origin n)) t (L.origin i)

    face_e' : face' e ≡ N
    face_e' = skip _ t _ e _ et (upd_same _ e _)

    face_else' : (x : ℕ) → E (x / 2) → x ≢ i → x ≢ o → face' x ≡ L.face x
    face_else' x l a b = skip _ t _ x _ (old_t x l) (skip _ e _ x _ (old_e x l) (skip _ o _ x _ b (skip _ i _ x _ a refl)))

    origin_else' : (x : ℕ) → E (x / 2) → origin' x ≡ L.origin x
    origin_else' x l = skip _ t _ x _ (old_t x l) (skip _ e _ x _ (old_e x l) refl)

    N-H : N ≢ H
    N-H q = dead_f (subst F (sym q) (W.face_live i li))

    adj_new : adj' N ≡ e
    adj_new = skip _ H t N e N-H (upd_same _ N e)

    adj_old : (g : ℕ) → g ≢ H → F g → adj' g ≡ L.adj g
    adj_old g a l = skip _ H t g _ a (skip _ N e g _ (λ q. dead_f (subst F q l)) refl)
