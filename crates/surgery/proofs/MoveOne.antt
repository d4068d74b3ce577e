-- Moving the last face or entry to the number of a dead one is a renaming.
use Rattle.std.proofs.Common.{◌≡◌, ℕ, ◌/◌, ◌≢◌, pos, sym, refl, ap, ◌∙◌, subst, ap₂, inl, inr}
use Rattle.plane.specs.Plane.{pt}
use Rattle.links.specs.Links.{Links}
use Rattle.surgery.specs.Update.{upd}
use Rattle.surgery.specs.Removal.{Without, move_face, move_entry}
use Rattle.surgery.specs.Renamed.{Names, Renamed, Renumbered}
use Rattle.surgery.proofs.Updates.{upd_same, upd_other, skip, cases_to}
use Rattle.surgery.proofs.Roots.{Unrooted, Half}
use Rattle.surgery.proofs.Keeps.{corner_of}
use Rattle.surgery.proofs.Renaming.{renamed}
use Rattle.surgery.proofs.MoveEdge.{apart}

-- what lives after is d, or lived before and is not m
new_case : (P S : ℕ → Type 0) (m d : ℕ) → (P d → ⊥) → S d → ((y : ℕ) → y ≢ m → y ≢ d → P y → S y) → (y : ℕ) → Without P m d y → S y
new_case P S m d dead sd else y w = elim w [ inl u ↦ else y u.0 (apart P y d u.1 dead) u.1 | inr r ↦ subst S (sym r) sd ]

names : (P : ℕ → Type 0) (m d : ℕ) → P m → (P d → ⊥) → Names P (Without P m d) (upd (λ x. x) m d) (upd (λ x. x) d m)
names P m d lm dead = record {
  there = λ x l. cases_to (λ x. P x → Without P m d (upd (λ x. x) m d x)) m x (λ _. inr (upd_same _ m d)) (λ n l'. inl ((λ e. n (sym (upd_other _ m d x n) ∙ e)), subst P (sym (upd_other _ m d x n)) l')) l;
  back = new_case P (λ y. P (upd (λ x. x) d m y)) m d dead (subst P (sym (upd_same _ d m)) lm) (λ y _ n l. subst P (sym (upd_other _ d m y n)) l);
  back_there = λ x l. cases_to (λ x. P x → upd (λ x. x) d m (upd (λ x. x) m d x) ≡ x) m x
      (λ _. ap (upd (λ x. x) d m) (upd_same _ m d) ∙ upd_same _ d m)
      (λ n l'. ap (upd (λ x. x) d m) (upd_other _ m d x n) ∙ upd_other _ d m x (apart P x d l' dead)) l;
  there_back = new_case P (λ y. upd (λ x. x) m d (upd (λ x. x) d m y) ≡ y) m d dead
      (ap (upd (λ x. x) m d) (upd_same _ d m) ∙ upd_same _ m d)
      (λ y nm nd _. ap (upd (λ x. x) m d) (upd_other _ d m y nd) ∙ upd_other _ m d y nm);
}

still : (P : ℕ → Type 0) → Names P P (λ x. x) (λ x. x)
still P = record { there = λ _ l. l; back = λ _ l. l; back_there = λ _ _. refl; there_back = λ _ _. refl }

-- the last face under the number of a dead one
pub face_renamed : (L : Links) (V E F : ℕ → Type 0) (m d : ℕ) → F m → m ≢ 0 → (F d → ⊥) → L.next (L.next (L.adj m)) ≡ L.prev (L.adj m) → Unrooted L V E F
    → Renamed L (move_face m d L) V E F V E (Without F m d) (λ v. v) (λ v. v) (λ h. h) (λ h. h) (upd (λ x. x) m d) (upd (λ x. x) d m)
unfolding move_face
face_renamed L V E F m d lm m0 dead three W = record {
  entries = still V;
  halves = still (Half E);
  faces = names F m d lm dead;
  inner = new_case F (λ g. g ≢ 0 → q g ≢ 0) m d dead (λ _ e. m0 (sym (upd_same _ d m) ∙ e)) (λ g _ nd _ n0 e. n0 (sym (upd_other _ d m g nd) ∙ e));
  revs = λ _ _. refl;
  nexts = λ _ _. refl;
  prevs = λ _ _. refl;
  sides = sides;
  origins = λ _ _. refl;
  out_live = W.out_live;
  out_origin = W.out_origin;
  adj_live = new_case F (λ g. E (adj' g / 2)) m d dead (subst (Half E) (sym (upd_same _ d a)) la) (λ g _ nd l. subst (Half E) (sym (upd_other _ d a g nd)) (W.adj_live g l));
  adj_face = new_case F (λ g. face' (adj' g) ≡ g) m d dead
      (ap face' (upd_same _ d a) ∙ sides a la ∙ ap p (W.adj_face m lm) ∙ upd_same _ m d)
      (λ g nm nd l. ap face' (upd_other _ d a g nd) ∙ sides _ (W.adj_live g l) ∙ ap p (W.adj_face g l) ∙ upd_other _ m d g nm);
}
  where
    F' : ℕ → Type 0
    F' = Without F m d

    p : ℕ → ℕ
    p = upd (λ x. x) m d

    q : ℕ → ℕ
    q = upd (λ x. x) d m

    a : ℕ
    a = L.adj m

    la : E (a / 2)
    la = W.adj_live m lm

    fa : L.face a ≡ m
    fa = W.adj_face m lm

    adj' : ℕ → ℕ
    adj' = upd L.adj d a

    face' : ℕ → ℕ
    face' = upd (upd (upd L.face (L.prev a) d) a d) (L.next a) d

    mine : (x : ℕ) → L.face x ≡ m → p (L.face x) ≡ d
    mine x e = ap p e ∙ upd_same _ m d

    sides : (x : ℕ) → E (x / 2) → face' x ≡ p (L.face x)
    sides x l =
        cases_to (λ x. E (x / 2) → face' x ≡ p (L.face x)) (L.next a) x (λ _. upd_same _ (L.next a) d ∙ sym (mine (L.next a) (W.face_next a la ∙ fa)))
        (λ n1. cases_to (λ x. x ≢ L.next a → E (x / 2) → face' x ≡ p (L.face x)) a x (λ n _. skip _ (L.next a) d a d n (upd_same _ a d) ∙ sym (mine a fa))
        (λ n2. cases_to (λ x. x ≢ a → x ≢ L.next a → E (x / 2) → face' x ≡ p (L.face x)) (L.prev a) x
        (λ n n' _. skip _ (L.next a) d _ d n' (skip _ a d _ d n (upd_same _ (L.prev a) d)) ∙ sym (mine (L.prev a) (sym (W.face_next _ (W.prev_live a la)) ∙ ap L.face (W.next_prev a la) ∙ fa)))
        (λ n3 n2' n1' l'. skip _ (L.next a) d x _ n1' (skip _ a d x _ n2' (skip _ (L.prev a) d x _ n3 refl))
        ∙ sym (upd_other _ m d _ (λ e. elim (corner_of L V E F a (L.next a) (L.prev a) W la refl three (W.next_prev a la) x l' (e ∙ sym fa)) [
          | inl r ↦ n2' r
          | inr r ↦ elim r [ inl s ↦ n1' s | inr s ↦ n3 s ]
        ]))) n2) n1) l

-- which keeps the link rules
pub moved_face : (L : Links) (V E F : ℕ → Type 0) (m d : ℕ) → F m → m ≢ 0 → (F d → ⊥) → L.next (L.next (L.adj m)) ≡ L.prev (L.adj m)
    → Unrooted L V E F → Unrooted (move_face m d L) V E (Without F m d)
moved_face L V E F m d lm m0 dead three W = renamed _ _ V E F V E _ _ _ _ _ _ _ (face_renamed L V E F m d lm m0 dead three W) W

-- two inner faces: the outer face keeps its number, and no other gets it
pub face_renumbered : (L : Links) (V E F : ℕ → Type 0) (m d : ℕ) → F m → m ≢ 0 → d ≢ 0 → (F d → ⊥) → L.next (L.next (L.adj m)) ≡ L.prev (L.adj m)
    → Unrooted L V E F → Renumbered L (move_face m d L) V E F V E (Without F m d)
unfolding move_face
face_renumbered L V E F m d lm m0 d0 dead three W = record {
  pv = λ v. v;
  qv = λ v. v;
  ph = λ h. h;
  qh = λ h. h;
  pf = upd (λ x. x) m d;
  qf = upd (λ x. x) d m;
  renamed = face_renamed L V E F m d lm m0 dead three W;
  places = λ _ _. refl;
  outer = upd_other _ m d 0 (λ q. m0 (sym q));
  only_outer = λ g _. cases_to (λ g. upd (λ x. x) m d g ≡ 0 → g ≡ 0) m g (λ q. absurd (d0 (sym (upd_same _ m d) ∙ q))) (λ n q. sym (upd_other _ m d g n) ∙ q);
}

-- the last entry under the number of a dead one
pub entry_renamed : (L : Links) (V E F : ℕ → Type 0) (m d : ℕ) → V m → (V d → ⊥) → Unrooted L V E F
    → Renamed L (move_entry m d L) V E F (Without V m d) E F (upd (λ x. x) m d) (upd (λ x. x) d m) (λ h. h) (λ h. h) (λ g. g) (λ g. g)
unfolding move_entry
entry_renamed L V E F m d lm dead W = record {
  entries = names V m d lm dead;
  halves = still (Half E);
  faces = still F;
  inner = λ g _ n. n;
  revs = λ _ _. refl;
  nexts = λ _ _. refl;
  prevs = λ _ _. refl;
  sides = λ _ _. refl;
  origins = λ _ _. refl;
  out_live = new_case V (λ v. E (out' v / 2)) m d dead (subst (Half E) (sym (upd_same _ d _)) (W.out_live m lm)) (λ v _ nd l. subst (Half E) (sym (upd_other _ d _ v nd)) (W.out_live v l));
  out_origin = new_case V (λ v. p (L.origin (out' v)) ≡ v) m d dead
      (ap (λ h. p (L.origin h)) (upd_same _ d _) ∙ ap p (W.out_origin m lm) ∙ upd_same _ m d)
      (λ v nm nd l. ap (λ h. p (L.origin h)) (upd_other _ d _ v nd) ∙ ap p (W.out_origin v l) ∙ upd_other _ m d v nm);
  adj_live = W.adj_live;
  adj_face = W.adj_face;
}
  where
    V' : ℕ → Type 0
    V' = Without V m d

    p : ℕ → ℕ
    p = upd (λ x. x) m d

    q : ℕ → ℕ
    q = upd (λ x. x) d m

    out' : ℕ → ℕ
    out' = upd L.out d (L.out m)

-- which keeps the link rules
pub moved_entry : (L : Links) (V E F : ℕ → Type 0) (m d : ℕ) → V m → (V d → ⊥) → Unrooted L V E F → Unrooted (move_entry m d L) (Without V m d) E F
moved_entry L V E F m d lm dead W = renamed _ _ V E F _ E F _ _ _ _ _ _ (entry_renamed L V E F m d lm dead W) W

-- a field of the last entry is copied
copied : (g : ℕ → ℕ) (m d v : ℕ) → v ≢ d → upd g d (g m) (upd (λ x. x) m d v) ≡ g v
copied g m d v n =
    cases_to (λ v. v ≢ d → upd g d (g m) (upd (λ x. x) m d v) ≡ g v) m v
    (λ _. ap (upd g d (g m)) (upd_same _ m d) ∙ upd_same g d (g m))
    (λ nm nd. ap (upd g d (g m)) (upd_other _ m d v nm) ∙ upd_other g d (g m) v nd) n

-- and places go with entries
pub entry_renumbered : (L : Links) (V E F : ℕ → Type 0) (m d : ℕ) → V m → (V d → ⊥) → Unrooted L V E F → Renumbered L (move_entry m d L) V E F (Without V m d) E F
unfolding move_entry
entry_renumbered L V E F m d lm dead W = record {
  pv = upd (λ x. x) m d;
  qv = upd (λ x. x) d m;
  ph = λ h. h;
  qh = λ h. h;
  pf = λ g. g;
  qf = λ g. g;
  renamed = entry_renamed L V E F m d lm dead W;
  places = λ v l. let n = apart V v d l dead in ap₂ (λ x y. pt (pos x) (pos y)) (copied L.x m d v n) (copied L.y m d v n);
  outer = refl;
  only_outer = λ _ _ q. q;
}
