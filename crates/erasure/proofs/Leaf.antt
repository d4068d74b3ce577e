-- The end of a line is cut off.
use Rattle.std.proofs.Common.{◌≡◌, ℕ, ◌/◌, ◌<◌, ◌≤◌, eqb, ◌≢◌, ◌⊎◌, sym, refl, ap, ◌∙◌, subst, inl, inr, arith}
use Rattle.std.proofs.lemmas.Bool.{cases_eq}
use Rattle.links.specs.Links.{Links, rev, to, ccw}
use Rattle.links.specs.Rules.{Sound}
use Rattle.links.proofs.Halves.{rev_rev, rev_half}
use Rattle.surgery.specs.Update.{upd}
use Rattle.surgery.specs.Cut.{Spoked, Cut}
use Rattle.surgery.specs.Shaped.{Ruled}
use Rattle.surgery.specs.Sweep.{Others}
use Rattle.surgery.proofs.Updates.{upd_same, upd_other, rev_live, cases_to}
use Rattle.surgery.proofs.Roots.{Unrooted, Half}
use Rattle.surgery.proofs.Hole.{cut}
use Rattle.surgery.proofs.Sound.{line_leaf, line_middle}
use Rattle.erasure.specs.Line.{shorten}
use Rattle.erasure.proofs.Level.{Level, Tree, Ready, flat_shaped, sound_level}

-- halves of one edge are the same or each other's
pub one_edge : (h k : ℕ) → h / 2 ≡ k / 2 → (h ≡ k) ⊎ (h ≡ rev k)
unfolding rev
one_edge h k e = elim (cases_eq h k) [ inl q ↦ inl q | inr n ↦ inr (omega arith) ]

-- fewer records
fewer_ruled : {L : Links} {V E V' E' : ℕ → Type 0} → ((v : ℕ) → V' v → V v) → ((k : ℕ) → E' k → E k) → Ruled L V E → Ruled L V' E'
fewer_ruled iv ie r = record {
  apart = λ h l. r.apart h (ie _ l);
  single = λ h k lh lk. r.single h k (ie _ lh) (ie _ lk);
  clear = λ h v l lv. r.clear h v (ie _ l) (iv v lv);
}

-- the counts of a sound line
pub sound_tree : (m : Links) → Sound m → m.f ≡ 1 → 1 ≤ m.n → Tree m
sound_tree m sd f1 some = record { few = sd.counted.0; flat = f1; tree = let e = sd.euler.1 (λ z. absurd (omega (arith, z, some))) in omega (arith, e, f1) }

module _ (m : Links) (sd : Sound m) (f1 : m.f ≡ 1) (three : 3 ≤ m.n) (s : ℕ) (ls : s / 2 < m.e) (end : ccw m s ≡ s) where
  abbrev V : ℕ → Type 0
  V w = w < m.n

  abbrev E : ℕ → Type 0
  E k = k < m.e

  abbrev F : ℕ → Type 0
  F g = g < m.f

  G : Level m V E F
  G = sound_level m sd f1 (omega arith)

  W : Unrooted m V E F
  W = G.linked

  spoked : Spoked m E (m.origin s) (λ g. eqb g 0) (λ _. s)
  spoked = line_leaf m sd f1 three s (omega arith) end

  outer : (h : ℕ) → E (h / 2) → m.face h ≡ 0
  outer h l = omega (arith, W.face_live h l, f1)

  -- s is the only half out of its entry
  only_s : (h : ℕ) → E (h / 2) → m.origin h ≡ m.origin s → h ≡ s
  only_s h l q = spoked.lone h s l ls q refl (outer h l ∙ sym (outer s ls))

  lo : E (m.next s / 2)
  lo = W.next_live s ls

  o_origin : m.origin (m.next s) ≡ to m s
  o_origin = W.to_next s ls

  o_other : m.next s / 2 ≢ s / 2
  o_other q = elim (one_edge (m.next s) s q) [
    | inl e ↦ W.ends s ls (ap m.origin (sym e) ∙ o_origin)
    | inr e ↦ spoked.thick s ls refl (ap m.origin (ap rev e ∙ rev_rev s))
  ]

  -- the entry after has no other halves
  back : m.next (rev (m.next s)) ≡ rev s
  back = (line_middle m sd f1 (m.next s) (omega (arith, lo)) (λ q. o_other (ap (λ h. h / 2) (sym q ∙ ap rev (W.prev_next s ls)) ∙ rev_half s))).next_1 ∙ ap rev (W.prev_next s ls)

  lr : E (rev (m.next s) / 2)
  lr = rev_live E _ lo

  abbrev V' : ℕ → Type 0
  V' = Others m.n (m.origin s)

  abbrev E' : ℕ → Type 0
  E' = Others m.e (s / 2)

  -- the links after are those of a cut
  cut_off : Cut m (shorten m s) V E F V' E' F (m.origin s) 0 (λ g. eqb g 0) (λ _. s)
  unfolding shorten
  cut_off = record {
    entry = λ p l. l;
    entry' = λ p l n. (l, n);
    half = λ h l. (l.0, (λ q. l.1 (ap (λ h. h / 2) (only_s h l.0 q))), λ q. l.1 (sym (rev_half h) ∙ ap (λ h. h / 2) (only_s _ (rev_live E h l.0) q)));
    half' = λ h l n r. (l, λ q. elim (one_edge h s q) [ inl e ↦ n (ap m.origin e) | inr e ↦ r (ap m.origin (ap rev e ∙ rev_rev s)) ]);
    inner = λ g l. inr (omega (arith, l, f1));
    inner' = λ g l _. l;
    hole' = omega (arith, f1);
    hole_new = λ _. refl;
    star_at = spoked;
    next_far = λ h l n. upd_other _ (rev (m.next s)) (m.next s) h (λ q. n (ap (λ h. m.origin (rev (m.next h))) q ∙ ap m.origin (ap rev back ∙ rev_rev s)));
    next_near = λ h l q.
        let r : m.next h ≡ rev s = sym (rev_rev _) ∙ ap rev (only_s _ (rev_live E _ (W.next_live h l.0)) q) in
        let at : h ≡ rev (m.next s) = sym (W.prev_next h l.0) ∙ ap m.prev (r ∙ sym back) ∙ W.prev_next _ lr in
        ap (upd m.next (rev (m.next s)) (m.next s)) at ∙ upd_same _ (rev (m.next s)) (m.next s) ∙ sym (ap m.next (ap rev r ∙ rev_rev s));
    prev_far = λ h l n. upd_other _ (m.next s) (rev (m.next s)) h (λ q. n (ap (λ h. m.origin (m.prev h)) q ∙ ap m.origin (W.prev_next s ls)));
    prev_near = λ h l q.
        let r : m.prev h ≡ s = only_s _ (W.prev_live h l.0) q in
        let at : h ≡ m.next s = sym (W.next_prev h l.0) ∙ ap m.next r in
        ap (upd m.prev (m.next s) (rev (m.next s))) at ∙ upd_same _ (m.next s) (rev (m.next s)) ∙ sym (ap (λ h. m.prev (rev h)) r ∙ ap m.prev (sym back) ∙ W.prev_next _ lr);
    face_star = λ h l _. outer h l.0;
    face_else = λ h l _. refl;
    origins = λ h l. refl;
    out_live = λ p l. cases_to (λ p. V' p → E' (upd m.out (to m s) (m.next s) p / 2)) (to m s) p
        (λ _. subst (Half E') (sym (upd_same _ (to m s) (m.next s))) (lo, o_other))
        (λ n l'. subst (Half E') (sym (upd_other _ (to m s) (m.next s) p n)) (W.out_live p l'.0, away p l' n)) l;
    out_origin = λ p l. cases_to (λ p. V' p → m.origin (upd m.out (to m s) (m.next s) p) ≡ p) (to m s) p
        (λ _. ap m.origin (upd_same _ (to m s) (m.next s)) ∙ o_origin)
        (λ n l'. ap m.origin (upd_other _ (to m s) (m.next s) p n) ∙ W.out_origin p l'.0) l;
    adj_live = λ g l. subst (λ g. E' (upd m.adj 0 (m.next s) g / 2)) (sym (zero g l)) (subst (Half E') (sym (upd_same m.adj 0 (m.next s))) (lo, o_other));
    adj_face = λ g l. outer _ (subst (λ g. E (upd m.adj 0 (m.next s) g / 2)) (sym (zero g l)) (subst (Half E) (sym (upd_same m.adj 0 (m.next s))) lo)) ∙ sym (zero g l);
    before = λ g l n. (g, (l, n));
    walls = λ g h l n. absurd (n (zero g l));
  }
    where
      zero : (g : ℕ) → F g → g ≡ 0
      zero g l = omega (arith, f1)

      -- the half of another entry is not of the edge that goes
      away : (p : ℕ) → V' p → p ≢ to m s → m.out p / 2 ≢ s / 2
      away p l n q = elim (one_edge (m.out p) s q) [
        | inl e ↦ l.1 (sym (W.out_origin p l.0) ∙ ap m.origin e)
        | inr e ↦ n (sym (W.out_origin p l.0) ∙ ap m.origin e)
      ]

  -- the entry and its edge are dead
  pub leaf_ready : Ready (shorten m s) (m.origin s) (s / 2)
  unfolding shorten
  leaf_ready = record {
    three = three;
    tree = let t = sound_tree m sd f1 (omega arith) in record { few = t.few; flat = t.flat; tree = t.tree };
    entry = W.origin_live s ls;
    edge = ls;
    level = record {
      linked = cut m (shorten m s) V E F V' E' F (m.origin s) 0 (λ g. eqb g 0) (λ _. s) cut_off W;
      shaped = flat_shaped (λ h l. outer h l.0) (λ h w l lw. G.shaped.right h w l.0 lw.0 (outer h l.0)) (λ u w lu lw. G.shaped.places u w lu.0 lw.0) ruled;
      ruled = ruled;
      placed = λ w l. G.placed w l.0;
    };
  }
    where
      r : Ruled m V' E'
      r = fewer_ruled (λ _ l. l.0) (λ _ l. l.0) G.ruled

      ruled : Ruled (shorten m s) V' E'
      ruled = record { apart = r.apart; single = r.single; clear = r.clear }
