-- Dead edges are removed from the highest number down.
use Rattle.std.proofs.Common.{◌≡◌, ℕ, suc, ◌/◌, ◌<◌, ◌≤◌, ◌≢◌, sym, refl, ap, ◌∙◌, subst, inl, inr, arith}
use Rattle.std.proofs.lemmas.Bool.{cases_eq}
use Rattle.links.specs.Links.{Links}
use Rattle.surgery.specs.Removal.{Without, move_edge}
use Rattle.surgery.specs.Alive.{Alive, Less}
use Rattle.surgery.specs.Renamed.{Names}
use Rattle.surgery.proofs.Roots.{Unrooted, Half}
use Rattle.surgery.proofs.Renaming.{renamed}
use Rattle.surgery.proofs.MoveEdge.{moved_edge}

-- two structures that agree on what lives
pub record Agree (L L' : Links) (V E F : ℕ → Type 0) : Type 0 where
  pub outs : (v : ℕ) → V v → L'.out v ≡ L.out v
  pub adjs : (g : ℕ) → F g → L'.adj g ≡ L.adj g
  pub nexts : (h : ℕ) → E (h / 2) → L'.next h ≡ L.next h
  pub prevs : (h : ℕ) → E (h / 2) → L'.prev h ≡ L.prev h
  pub sides : (h : ℕ) → E (h / 2) → L'.face h ≡ L.face h
  pub origins : (h : ℕ) → E (h / 2) → L'.origin h ≡ L.origin h

abbrev pub Iff : (ℕ → Type 0) → (ℕ → Type 0) → Type 0
Iff P Q = (k : ℕ) → (P k → Q k) × (Q k → P k)

alike : (P Q : ℕ → Type 0) → Iff P Q → Names P Q (λ x. x) (λ x. x)
alike P Q i = record { there = λ x. (i x).0; back = λ x. (i x).1; back_there = λ _ _. refl; there_back = λ _ _. refl }

-- what lives may be said in other words, and what does not live may change
pub agree : (L L' : Links) (V E F V' E' F' : ℕ → Type 0) → Agree L L' V E F → Iff V V' → Iff E E' → Iff F F' → Unrooted L V E F → Unrooted L' V' E' F'
agree L L' V E F V' E' F' A iv ie if W = renamed L L' V E F V' E' F' (λ v. v) (λ v. v) (λ h. h) (λ h. h) (λ g. g) (λ g. g)
    (record {
      entries = alike V V' iv;
      halves = alike (Half E) (Half E') (λ h. ie (h / 2));
      faces = alike F F' if;
      inner = λ _ _ n. n;
      revs = λ _ _. refl;
      nexts = A.nexts;
      prevs = A.prevs;
      sides = A.sides;
      origins = A.origins;
      out_live = λ v l. let k = (iv v).1 l in subst (Half E') (sym (A.outs v k)) ((ie _).0 (W.out_live v k));
      out_origin = λ v l. let k = (iv v).1 l in ap L'.origin (A.outs v k) ∙ A.origins _ (W.out_live v k) ∙ W.out_origin v k;
      adj_live = λ g l. let k = (if g).1 l in subst (Half E') (sym (A.adjs g k)) ((ie _).0 (W.adj_live g k));
      adj_face = λ g l. let k = (if g).1 l in ap L'.face (A.adjs g k) ∙ A.sides _ (W.adj_live g k) ∙ W.adj_face g k;
    })
    W

pub same_links : (L : Links) (V E F : ℕ → Type 0) → Agree L L V E F
same_links L V E F = record { outs = λ _ _. refl; adjs = λ _ _. refl; nexts = λ _ _. refl; prevs = λ _ _. refl; sides = λ _ _. refl; origins = λ _ _. refl }

pub ident : (P : ℕ → Type 0) → Iff P P
ident P k = (λ l. l, λ l. l)

-- the last edge is dead: the count falls
pub drop_last : (L : Links) (V F D : ℕ → Type 0) (m : ℕ) → D m → Unrooted L V (Alive (suc m) D) F → Unrooted L V (Alive m (Less D m)) F
drop_last L V F D m dm W =
    agree L L V (Alive (suc m) D) F V (Alive m (Less D m)) F (same_links L V _ F) (ident V)
    (λ k. (λ l. let n : k ≢ m = λ e. l.1 (subst D (sym e) dm) in (omega arith, λ w. l.1 w.0), λ l. (omega arith, λ w. l.1 (w, omega arith)))) (ident F) W

-- the last edge lives: it takes the number of the highest dead one
pub drop_moved : (L : Links) (V F D : ℕ → Type 0) (m d : ℕ) → D d → d < m → ((k : ℕ) → D k → k ≤ d)
    → Unrooted L V (Alive (suc m) D) F → Unrooted (move_edge m d L) V (Alive m (Less D d)) F
drop_moved L V F D m d dd low top W =
    agree _ _ V (Without (Alive (suc m) D) m d) F V (Alive m (Less D d)) F (same_links _ V _ F) (ident V)
    (λ k. (
      λ w. elim w [
        | inl u ↦ (omega arith, λ z. u.1.1 z.0)
        | inr e ↦ (omega arith, λ z. z.1 e)
      ],
      λ l. elim (cases_eq k d) [ inl e ↦ inr e | inr n ↦ inl (omega arith, (omega arith, λ z. l.1 (z, n))) ],
    ))
    (ident F)
    (moved_edge L V (Alive (suc m) D) F m d (omega arith, λ z. absurd (omega (arith, top m z))) (λ l. l.1 dd) W)
