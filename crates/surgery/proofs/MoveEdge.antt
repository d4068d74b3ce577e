-- Moving the last edge to the number of a dead one is a renaming.
use Rattle.std.proofs.Common.{◌≡◌, ℕ, ◌+◌, ◌*◌, ◌/◌, ◌≢◌, ◌⊎◌, sym, refl, ap, ◌∙◌, subst, inl, inr, arith}
use Rattle.std.proofs.lemmas.Bool.{cases_eq}
use Rattle.links.specs.Links.{Links, rev}
use Rattle.links.proofs.Halves.{rev_even, rev_odd}
use Rattle.surgery.specs.Update.{upd}
use Rattle.surgery.specs.Removal.{Without, renumber, carry_edge, fix_swap, move_edge}
use Rattle.surgery.specs.Renamed.{Renamed, Renumbered}
use Rattle.surgery.proofs.Updates.{upd_same, rev_not, skip, cases_to}
use Rattle.surgery.proofs.Roots.{Unrooted, Half}
use Rattle.surgery.proofs.Renaming.{renamed}

-- a and b become c and d
pub record Two (p : ℕ → ℕ) (a b c d : ℕ) : Type 0 where
  pub pa : p a ≡ c
  pub pb : p b ≡ d
  pub pelse : (x : ℕ) → x ≢ a → x ≢ b → p x ≡ x

pub two_of : (a b c d : ℕ) → a ≢ b → Two (upd (upd (λ x. x) a c) b d) a b c d
two_of a b c d ab = record {
  pa = skip _ b d a c ab (upd_same _ a c);
  pb = upd_same _ b d;
  pelse = λ x na nb. skip _ b d x x nb (skip _ a c x x na refl);
}

-- the two steps of a link and its inverse, over live numbers, none of which is c or d
pub record Ring (nx pv : ℕ → ℕ) (P : ℕ → Type 0) (a b c d : ℕ) : Type 0 where
  pub la : P a
  pub lb : P b
  pub dead_c : P c → ⊥
  pub dead_d : P d → ⊥
  pub ab : a ≢ b
  pub cd : c ≢ d
  pub undo : (x : ℕ) → P x → pv (nx x) ≡ x
  pub redo : (x : ℕ) → P x → nx (pv x) ≡ x
  pub closed : (x : ℕ) → P x → P (nx x)
  pub closed' : (x : ℕ) → P x → P (pv x)

pub apart : (P : ℕ → Type 0) (x c : ℕ) → P x → (P c → ⊥) → x ≢ c
apart P x c l dead q = dead (subst P q l)

inj : (p : ℕ → ℕ) (P : ℕ → Type 0) (a b c d : ℕ) → Two p a b c d → (P c → ⊥) → (P d → ⊥) → c ≢ d → (x y : ℕ) → P x → P y → p x ≡ p y → x ≡ y
inj p P a b c d T dc dd cd x y lx ly =
    cases_to (λ x. P x → p x ≡ p y → x ≡ y) a x
    (λ _. cases_to (λ y. P y → p a ≡ p y → a ≡ y) a y (λ _ _. refl)
    (λ na. cases_to (λ y. y ≢ a → P y → p a ≡ p y → a ≡ y) b y (λ _ _ e. absurd (cd (sym T.pa ∙ e ∙ T.pb)))
    (λ nb na' l e. absurd (apart P y c l dc (sym (sym T.pa ∙ e ∙ T.pelse y na' nb)))) na) ly)
    (λ na. cases_to (λ x. x ≢ a → P x → p x ≡ p y → x ≡ y) b x
    (λ _ _. cases_to (λ y. P y → p b ≡ p y → b ≡ y) b y (λ _ _. refl)
    (λ nb. cases_to (λ y. y ≢ b → P y → p b ≡ p y → b ≡ y) a y (λ _ _ e. absurd (cd (sym (sym T.pb ∙ e ∙ T.pa))))
    (λ na' nb' l e. absurd (apart P y d l dd (sym (sym T.pb ∙ e ∙ T.pelse y na' nb')))) nb) ly)
    (λ nb na' l. cases_to (λ y. P y → p x ≡ p y → x ≡ y) a y (λ _ e. absurd (apart P x c l dc (sym (T.pelse x na' nb) ∙ e ∙ T.pa)))
    (λ ma. cases_to (λ y. y ≢ a → P y → p x ≡ p y → x ≡ y) b y (λ _ _ e. absurd (apart P x d l dd (sym (T.pelse x na' nb) ∙ e ∙ T.pb)))
    (λ mb ma' ly' e. sym (T.pelse x na' nb) ∙ e ∙ T.pelse y ma' mb) ma) ly) na) lx

relink : (nx pv : ℕ → ℕ) (P : ℕ → Type 0) (a b c d : ℕ) (p : ℕ → ℕ) → Ring nx pv P a b c d → Two p a b c d
    → (x : ℕ) → P x → upd (upd (upd (upd nx c (nx a)) d (nx b)) (p (pv b)) d) (p (pv a)) c (p x) ≡ p (nx x)
relink nx pv P a b c d p R T x l =
    elim (cases_eq x (pv a)) [
      | inl q ↦ subst (λ z. new (p z) ≡ p (nx z)) (sym q) (upd_same _ (p (pv a)) c ∙ sym (ap p (R.redo a R.la) ∙ T.pa))
      | inr na ↦ skip _ (p (pv a)) c (p x) _ (λ q. na (one_one x (pv a) l (R.closed' a R.la) q)) (elim (cases_eq x (pv b)) [
        | inl q ↦ subst (λ z. upd old (p (pv b)) d (p z) ≡ p (nx z)) (sym q) (upd_same old (p (pv b)) d ∙ sym (ap p (R.redo b R.lb) ∙ T.pb))
        | inr nb ↦ skip old (p (pv b)) d (p x) _ (λ q. nb (one_one x (pv b) l (R.closed' b R.lb) q))
            (carried x l ∙ sym (T.pelse (nx x) (λ q. na (sym (R.undo x l) ∙ ap pv q)) (λ q. nb (sym (R.undo x l) ∙ ap pv q))))
      ])
    ]
  where
    old : ℕ → ℕ
    old = upd (upd nx c (nx a)) d (nx b)

    new : ℕ → ℕ
    new = upd (upd old (p (pv b)) d) (p (pv a)) c

    one_one : (x y : ℕ) → P x → P y → p x ≡ p y → x ≡ y
    one_one = inj p P a b c d T R.dead_c R.dead_d R.cd

    carried : (x : ℕ) → P x → old (p x) ≡ nx x
    carried x l =
        cases_to (λ x. P x → old (p x) ≡ nx x) a x (λ _. ap old T.pa ∙ skip _ d (nx b) c _ R.cd (upd_same _ c (nx a)))
        (λ na. cases_to (λ x. x ≢ a → P x → old (p x) ≡ nx x) b x (λ _ _. ap old T.pb ∙ upd_same _ d (nx b))
        (λ nb na' l'. ap old (T.pelse x na' nb) ∙ skip _ d (nx b) x _ (apart P x d l' R.dead_d) (skip _ c (nx a) x _ (apart P x c l' R.dead_c) refl)) na) l

-- what the second half reads after the first was fixed
pub reread : (nx pv : ℕ → ℕ) (P : ℕ → Type 0) (a b c d : ℕ) (p : ℕ → ℕ) → Ring nx pv P a b c d → Two p a b c d
    → p (upd (upd (upd pv c (pv a)) d (pv b)) (p (nx b)) d c) ≡ p (pv a)
reread nx pv P a b c d p R T =
    elim (cases_eq c (p (nx b))) [
      | inl q ↦ let back : nx b ≡ a = inj p P a b c d T R.dead_c R.dead_d R.cd (nx b) a (R.closed b R.lb) R.la (sym q ∙ sym T.pa) in
          ap p (ap (upd _ (p (nx b)) d) q ∙ upd_same _ (p (nx b)) d)
          ∙ T.pelse d (λ e. apart P a d R.la R.dead_d (sym e)) (λ e. apart P b d R.lb R.dead_d (sym e))
          ∙ sym (ap p (ap pv (sym back) ∙ R.undo b R.lb) ∙ T.pb)
      | inr n ↦ ap p (skip _ (p (nx b)) d c _ n (skip _ d (pv b) c _ R.cd (upd_same pv c (pv a))))
    ]

-- a field that is carried along
carried : (q : ℕ → ℕ) (P : ℕ → Type 0) (a b c d : ℕ) (p : ℕ → ℕ) → Two p a b c d → (P c → ⊥) → (P d → ⊥) → c ≢ d
    → (x : ℕ) → P x → upd (upd q c (q a)) d (q b) (p x) ≡ q x
carried q P a b c d p T dc dd cd x l =
    cases_to (λ x. P x → old (p x) ≡ q x) a x (λ _. ap old T.pa ∙ skip _ d (q b) c _ cd (upd_same _ c (q a)))
    (λ na. cases_to (λ x. x ≢ a → P x → old (p x) ≡ q x) b x (λ _ _. ap old T.pb ∙ upd_same _ d (q b))
    (λ nb na' l'. ap old (T.pelse x na' nb) ∙ skip _ d (q b) x _ (apart P x d l' dd) (skip _ c (q a) x _ (apart P x c l' dc) refl)) na) l
  where
    old : ℕ → ℕ
    old = upd (upd q c (q a)) d (q b)

pub half_of : (x d : ℕ) → x / 2 ≡ d → (x ≡ 2 * d) ⊎ (x ≡ 2 * d + 1)
half_of x d e = elim (cases_eq x (2 * d)) [ inl q ↦ inl q | inr n ↦ inr (omega arith) ]

-- the records after, under their new numbers
pub edge_renamed : (L : Links) (V E F : ℕ → Type 0) (m d : ℕ) → E m → (E d → ⊥) → Unrooted L V E F
    → Renamed L (move_edge m d L) V E F V (Without E m d) F (λ v. v) (λ v. v) (renumber m d) (renumber d m) (λ g. g) (λ g. g)
unfolding move_edge fix_swap carry_edge
edge_renamed L V E F m d lm dead W = record {
  entries = record { there = λ _ l. l; back = λ _ l. l; back_there = λ _ _. refl; there_back = λ _ _. refl };
  halves = record { there = there; back = back; back_there = back_there; there_back = there_back };
  faces = record { there = λ _ l. l; back = λ _ l. l; back_there = λ _ _. refl; there_back = λ _ _. refl };
  inner = λ g _ n. n;
  revs = revs;
  nexts = λ x l. ap (λ k. upd (upd on (p k) g) (p (upd op (p (on g)) g c)) c (p x)) op_g ∙ ap (λ k. upd (upd on (p (L.prev b)) g) k c (p x)) read_p ∙ relink L.next L.prev (Half E) a b c g p R T x l;
  prevs = λ x l. ap (λ k. upd (upd op (p k) g) (p (upd on (p (op g)) g c)) c (p x)) on_g ∙ ap (λ k. upd (upd op (p (L.next b)) g) k c (p x)) read_n ∙ relink L.prev L.next (Half E) a b c g p R' T x l;
  sides = carried L.face (Half E) a b c g p T dead_c dead_g cg;
  origins = carried L.origin (Half E) a b c g p T dead_c dead_g cg;
  out_live = λ v l. (rooted L.origin L.out v (W.out_live v l) (W.out_origin v l)).0;
  out_origin = λ v l. (rooted L.origin L.out v (W.out_live v l) (W.out_origin v l)).1;
  adj_live = λ v l. (rooted L.face L.adj v (W.adj_live v l) (W.adj_face v l)).0;
  adj_face = λ v l. (rooted L.face L.adj v (W.adj_live v l) (W.adj_face v l)).1;
}
  where
    E' : ℕ → Type 0
    E' = Without E m d

    a : ℕ
    a = 2 * m

    b : ℕ
    b = 2 * m + 1

    c : ℕ
    c = 2 * d

    g : ℕ
    g = 2 * d + 1

    p : ℕ → ℕ
    p = renumber m d

    q : ℕ → ℕ
    q = renumber d m

    cg : c ≢ g
    cg = omega arith

    ab : a ≢ b
    ab = omega arith

    T : Two p a b c g
    T = unfold renumber in two_of a b c g ab

    U : Two q c g a b
    U = unfold renumber in two_of c g a b cg

    dead_c : E (c / 2) → ⊥
    dead_c l = dead (subst E (let h : c / 2 ≡ d = omega arith in h) l)

    dead_g : E (g / 2) → ⊥
    dead_g l = dead (subst E (let h : g / 2 ≡ d = omega arith in h) l)

    la : E (a / 2)
    la = subst E (let h : m ≡ a / 2 = omega arith in h) lm

    lb : E (b / 2)
    lb = subst E (let h : m ≡ b / 2 = omega arith in h) lm

    R : Ring L.next L.prev (Half E) a b c g
    R = record { la = la; lb = lb; dead_c = dead_c; dead_d = dead_g; ab = ab; cd = cg; undo = W.prev_next; redo = W.next_prev; closed = W.next_live; closed' = W.prev_live }

    R' : Ring L.prev L.next (Half E) a b c g
    R' = record { la = la; lb = lb; dead_c = dead_c; dead_d = dead_g; ab = ab; cd = cg; undo = W.next_prev; redo = W.prev_next; closed = W.prev_live; closed' = W.next_live }

    on : ℕ → ℕ
    on = upd (upd L.next c (L.next a)) g (L.next b)

    op : ℕ → ℕ
    op = upd (upd L.prev c (L.prev a)) g (L.prev b)

    op_g : op g ≡ L.prev b
    op_g = upd_same _ g _

    on_g : on g ≡ L.next b
    on_g = upd_same _ g _

    read_p : p (upd op (p (on g)) g c) ≡ p (L.prev a)
    read_p = ap (λ k. p (upd op (p k) g c)) on_g ∙ reread L.next L.prev (Half E) a b c g p R T

    read_n : p (upd on (p (op g)) g c) ≡ p (L.next a)
    read_n = ap (λ k. p (upd on (p k) g c)) op_g ∙ reread L.prev L.next (Half E) a b c g p R' T

    at_c : E' (c / 2)
    at_c = inr (omega arith)

    at_g : E' (g / 2)
    at_g = inr (omega arith)

    past : (x : ℕ) → x ≢ a → x ≢ b → x / 2 ≢ m
    past x na nb e = elim (half_of x m e) [ inl r ↦ na r | inr r ↦ nb r ]

    there : (x : ℕ) → E (x / 2) → E' (p x / 2)
    there x l =
        cases_to (λ x. E (x / 2) → E' (p x / 2)) a x (λ _. subst (λ z. E' (z / 2)) (sym T.pa) at_c)
        (λ na. cases_to (λ x. x ≢ a → E (x / 2) → E' (p x / 2)) b x (λ _ _. subst (λ z. E' (z / 2)) (sym T.pb) at_g)
        (λ nb na' l'. subst (λ z. E' (z / 2)) (sym (T.pelse x na' nb)) (inl (past x na' nb, l'))) na) l

    -- a live half after is the number of d, or lives before and is no half of m
    new_case : (S : ℕ → Type 0) → S c → S g → ((y : ℕ) → y ≢ a → y ≢ b → y ≢ c → y ≢ g → E (y / 2) → S y) → (y : ℕ) → E' (y / 2) → S y
    new_case S sc sg else y w =
        elim w [
          | inl u ↦ else y (λ r. u.0 (ap (λ z. z / 2) r ∙ omega arith)) (λ r. u.0 (ap (λ z. z / 2) r ∙ omega arith)) (apart (Half E) y c u.1 dead_c) (apart (Half E) y g u.1 dead_g) u.1
          | inr r ↦ elim (half_of y d r) [ inl e ↦ subst S (sym e) sc | inr e ↦ subst S (sym e) sg ]
        ]

    back : (y : ℕ) → E' (y / 2) → E (q y / 2)
    back = new_case (λ y. E (q y / 2)) (subst (Half E) (sym U.pa) la) (subst (Half E) (sym U.pb) lb) (λ y _ _ nc ng l. subst (Half E) (sym (U.pelse y nc ng)) l)

    there_back : (y : ℕ) → E' (y / 2) → p (q y) ≡ y
    there_back = new_case (λ y. p (q y) ≡ y) (ap p U.pa ∙ T.pa) (ap p U.pb ∙ T.pb) (λ y na nb nc ng l. ap p (U.pelse y nc ng) ∙ T.pelse y na nb)

    back_there : (x : ℕ) → E (x / 2) → q (p x) ≡ x
    back_there x l =
        cases_to (λ x. E (x / 2) → q (p x) ≡ x) a x (λ _. ap q T.pa ∙ U.pa)
        (λ na. cases_to (λ x. x ≢ a → E (x / 2) → q (p x) ≡ x) b x (λ _ _. ap q T.pb ∙ U.pb)
        (λ nb na' l'. ap q (T.pelse x na' nb) ∙ U.pelse x (apart (Half E) x c l' dead_c) (apart (Half E) x g l' dead_g)) na) l

    revs : (x : ℕ) → E (x / 2) → rev (p x) ≡ p (rev x)
    revs x _ =
        cases_to (λ x. rev (p x) ≡ p (rev x)) a x (ap rev T.pa ∙ rev_even d ∙ sym (ap p (rev_even m) ∙ T.pb))
        (λ na. cases_to (λ x. x ≢ a → rev (p x) ≡ p (rev x)) b x (λ _. ap rev T.pb ∙ rev_odd d ∙ sym (ap p (rev_odd m) ∙ T.pa))
        (λ nb na'. ap rev (T.pelse x na' nb) ∙ sym (T.pelse (rev x) (rev_not x a b (rev_even m) nb) (rev_not x b a (rev_odd m) na'))) na)

    rooted : (o r : ℕ → ℕ) (v : ℕ) → E (r v / 2) → o (r v) ≡ v
        → E' (upd (upd r (upd (upd o c (o a)) g (o b) g) g) (upd (upd o c (o a)) g (o b) c) c v / 2) × (upd (upd o c (o a)) g (o b) (upd (upd r (upd (upd o c (o a)) g (o b) g) g) (upd (upd o c (o a)) g (o b) c) c v) ≡ v)
    rooted o r v l e =
        cases_to (λ z. z ≡ v → E' (r' z / 2) × (o' (r' z) ≡ z)) (o' c) v
        (λ _. (subst (λ k. E' (k / 2)) (sym (upd_same _ (o' c) c)) at_c, ap o' (upd_same _ (o' c) c)))
        (λ nc. cases_to (λ z. z ≢ o' c → z ≡ v → E' (r' z / 2) × (o' (r' z) ≡ z)) (o' g) v
        (λ n _. let k : r' (o' g) ≡ g = skip _ (o' c) c (o' g) g n (upd_same _ (o' g) g) in (subst (λ k. E' (k / 2)) (sym k) at_g, ap o' k))
        (λ ng nc' _. let k : r' v ≡ r v = skip _ (o' c) c v _ nc' (skip _ (o' g) g v _ ng refl) in (
          subst (λ z. E' (z / 2)) (sym k) (inl (past (r v) (λ s. nc' (sym e ∙ ap o s ∙ sym o'_c)) (λ s. ng (sym e ∙ ap o s ∙ sym o'_g)), l)),
          ap o' k ∙ skip _ g _ (r v) _ (apart (Half E) _ g l dead_g) (skip _ c _ (r v) _ (apart (Half E) _ c l dead_c) refl) ∙ e,
        )) nc) refl
      where
        o' : ℕ → ℕ
        o' = upd (upd o c (o a)) g (o b)

        r' : ℕ → ℕ
        r' = upd (upd r (o' g) g) (o' c) c

        o'_c : o' c ≡ o a
        o'_c = skip _ g _ c _ cg (upd_same _ c _)

        o'_g : o' g ≡ o b
        o'_g = upd_same _ g _

-- which keep the link rules
pub moved_edge : (L : Links) (V E F : ℕ → Type 0) (m d : ℕ) → E m → (E d → ⊥) → Unrooted L V E F → Unrooted (move_edge m d L) V (Without E m d) F
moved_edge L V E F m d lm dead W = renamed _ _ V E F V _ F _ _ _ _ _ _ (edge_renamed L V E F m d lm dead W) W

-- entries, faces and places stay
pub edge_renumbered : (L : Links) (V E F : ℕ → Type 0) (m d : ℕ) → E m → (E d → ⊥) → Unrooted L V E F → Renumbered L (move_edge m d L) V E F V (Without E m d) F
unfolding move_edge fix_swap carry_edge
edge_renumbered L V E F m d lm dead W = record {
  pv = λ v. v;
  qv = λ v. v;
  ph = renumber m d;
  qh = renumber d m;
  pf = λ g. g;
  qf = λ g. g;
  renamed = edge_renamed L V E F m d lm dead W;
  places = λ _ _. refl;
  outer = refl;
  only_outer = λ _ _ q. q;
}
