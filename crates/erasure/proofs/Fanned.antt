-- A hole is filled with a fan: which links it has after so many ears.
use Rattle.std.proofs.Common.{◌≡◌, ℕ, zero, suc, ◌+◌, ◌-◌, ◌*◌, ◌/◌, ◌<◌, ◌≤◌, ◌≢◌, ◌⊎◌, sym, refl, ap, ◌∙◌, subst, inl, inr, le_of_suc-le-suc, eq-or-lt_of_le, arith}
use Rattle.std.proofs.lemmas.Bool.{cases_eq, cases_order}
use Rattle.links.specs.Links.{Links, rev}
use Rattle.delaunay.specs.Start.{Eared}
use Rattle.surgery.specs.Update.{upd}
use Rattle.surgery.specs.Fan.{With, cut_ear}
use Rattle.surgery.proofs.Updates.{upd_same, skip, upd_other}
use Rattle.surgery.proofs.Roots.{Unrooted}
use Rattle.surgery.proofs.FanStep.{fan_step}
use Rattle.erasure.specs.Fill.{remesh, last_triangle}
use Rattle.erasure.proofs.Alike.{Alive, Alike, alike}
use Rattle.erasure.proofs.Ears.{ear_cut}

-- the faces that live, and the hole
abbrev pub Holed : ℕ → (ℕ → Type 0) → ℕ → ℕ → Type 0
Holed f Star hole g = Alive f Star g ⊎ (g ≡ hole)

-- a hole of k halves b 0, b 1, .. that start at k entries c 0, c 1, ..; its number is that of its last triangle
pub record Rim (D : Links) (V Dead Star : ℕ → Type 0) (k hole : ℕ) (b c : ℕ → ℕ) : Type 0 where
  pub three : 3 ≤ k
  pub some : 0 < D.f
  pub number : hole ≡ D.f + (k - 3)
  pub dead_low : (x : ℕ) → Dead x → x < D.e
  pub star_low : (g : ℕ) → Star g → g < D.f
  pub linked : Unrooted D V (Alive D.e Dead) (Holed D.f Star hole)
  pub live : (a : ℕ) → a < k → Alive D.e Dead (b a / 2)
  pub next : (a : ℕ) → suc a < k → D.next (b a) ≡ b (suc a)
  pub close : (a : ℕ) → suc a ≡ k → D.next (b a) ≡ b 0
  pub from : (a : ℕ) → a < k → D.origin (b a) ≡ c a
  pub differ : (a a' : ℕ) → a < a' → a' < k → c a ≢ c a'
  pub face : (a : ℕ) → a < k → D.face (b a) ≡ hole

module _ (D : Links) (b : ℕ → ℕ) where
  -- the half from the first entry, in the ear a
  unfoldable pub top : ℕ → ℕ
  top zero = b 0
  top (suc a) = 2 * (D.e + a) + 1

  -- the half back to it
  abbrev pub back : ℕ → ℕ
  back a = 2 * (D.e + a)

  -- a half of the hole after j ears
  abbrev pub Within : ℕ → ℕ → ℕ → Type 0
  Within k j h = ((a : ℕ) × (a < k) × (h ≡ b a)) ⊎ ((2 * D.e ≤ h) × (h < 2 * (D.e + j)))

-- after j ears
pub record Fanned (D : Links) (V Dead Star : ℕ → Type 0) (k hole : ℕ) (b c : ℕ → ℕ) (j : ℕ) (L : Links) : Type 0 where
  pub n : L.n ≡ D.n
  pub e : L.e ≡ D.e + j
  pub f : L.f ≡ D.f + j
  pub x : (w : ℕ) → L.x w ≡ D.x w
  pub y : (w : ℕ) → L.y w ≡ D.y w
  pub linked : Unrooted L V (Alive L.e Dead) (Holed L.f Star hole)
  -- the ears, and what is left
  pub first : (a : ℕ) → a ≤ j → L.next (top D b a) ≡ b (suc a)
  pub second : (a : ℕ) → a < j → L.next (b (suc a)) ≡ back D b a
  pub third : (a : ℕ) → a < j → L.next (back D b a) ≡ top D b a
  pub rest : (a : ℕ) → j < a → suc a < k → L.next (b a) ≡ b (suc a)
  pub close : (a : ℕ) → suc a ≡ k → L.next (b a) ≡ top D b j
  -- where they start
  pub from : (a : ℕ) → a < k → L.origin (b a) ≡ c a
  pub top_from : (a : ℕ) → a ≤ j → L.origin (top D b a) ≡ c 0
  pub back_from : (a : ℕ) → a < j → L.origin (back D b a) ≡ c (suc (suc a))
  -- their faces
  pub hole_face : L.face (top D b j) ≡ hole
  pub inner : (h : ℕ) → Within D b k j h → L.face h ≢ 0
  -- all else stays
  pub next_else : (h : ℕ) → h < 2 * D.e → ((a : ℕ) → a < k → h ≢ b a) → L.next h ≡ D.next h
  pub face_else : (h : ℕ) → h < 2 * D.e → ((a : ℕ) → a < k → h ≢ b a) → L.face h ≡ D.face h
  pub origin_else : (h : ℕ) → h < 2 * D.e → ((a : ℕ) → a < k → h ≢ b a) → L.origin h ≡ D.origin h

module _ (D : Links) (V Dead Star : ℕ → Type 0) (k hole : ℕ) (b c : ℕ → ℕ) (R : Rim D V Dead Star k hole b c) where
  abbrev State : ℕ → Links → Type 0
  State = Fanned D V Dead Star k hole b c

  hole_inner : hole ≢ 0
  hole_inner q = let s = R.some in let z = R.number in omega arith

  -- ---- the halves of the hole differ
  -- they are old
  low : (a : ℕ) → a < k → b a < 2 * D.e
  low a l = let x = (R.live a l).0 in omega arith

  -- two of the border differ
  apart : (a a' : ℕ) → a < k → a' < k → a ≢ a' → b a ≢ b a'
  apart a a' l l' d q = elim (cases_order a a') [
    | inl e ↦ d e
    | inr (inl h) ↦ R.differ a a' h l' (sym (R.from a l) ∙ ap D.origin q ∙ R.from a' l')
    | inr (inr h) ↦ R.differ a' a h l (sym (R.from a' l') ∙ ap D.origin (sym q) ∙ R.from a l)
  ]

  -- the halves from the first entry are numbered
  top_low : (a j : ℕ) → a ≤ j → top D b a < 2 * (D.e + j)
  unfolding top
  top_low zero j l = let x = low 0 (let t = R.three in omega arith) in omega arith
  top_low (suc a) j l = omega arith

  -- and are not of the border, but for the first
  top_apart : (a a' : ℕ) → 0 < a' → a' < k → top D b a ≢ b a'
  unfolding top
  top_apart zero a' p l = apart 0 a' (omega arith) l (omega arith)
  top_apart (suc a) a' p l = let x = low a' l in omega arith

  -- what is not of the hole is none of them
  top_else : (a h : ℕ) → h < 2 * D.e → ((a : ℕ) → a < k → h ≢ b a) → h ≢ top D b a
  unfolding top
  top_else zero h l d = d 0 (let t = R.three in omega arith)
  top_else (suc a) h l d = omega arith

  -- they live
  pub top_live : (a e : ℕ) → a ≤ e → Alive (D.e + e) Dead (top D b a / 2)
  unfolding top
  top_live zero e l = let x = R.live 0 (let t = R.three in omega arith) in ((let p = x.0 in omega arith), x.1)
  top_live (suc a) e l = (omega arith, λ d. let p = R.dead_low _ d in omega arith)

  -- ---- the first ear is still to be cut
  pub none_cut : State 0 D
  unfolding top
  none_cut = record {
    n = refl;
    e = omega arith;
    f = omega arith;
    x = λ _. refl;
    y = λ _. refl;
    linked = R.linked;
    first = λ a l. subst (λ a. D.next (top D b a) ≡ b (suc a)) (none a l) (R.next 0 (omega arith));
    second = λ a l. absurd (omega arith);
    third = λ a l. absurd (omega arith);
    rest = λ a _. R.next a;
    close = R.close;
    from = R.from;
    top_from = λ a l. subst (λ a. D.origin (top D b a) ≡ c 0) (none a l) (R.from 0 (omega arith));
    back_from = λ a l. absurd (omega arith);
    hole_face = R.face 0 (omega arith);
    inner = λ h w. elim w [ inl (a, l, q) ↦ λ z. hole_inner (sym (R.face a l) ∙ ap D.face (sym q) ∙ z) | inr (p, l) ↦ absurd (omega arith) ];
    next_else = λ _ _ _. refl;
    face_else = λ _ _ _. refl;
    origin_else = λ _ _ _. refl;
  }
    where
      none : (a : ℕ) → a ≤ 0 → 0 ≡ a
      none a l = omega arith

      three : 3 ≤ k
      three = R.three

  -- ---- one ear more
  module _ (j : ℕ) (L : Links) (F : State j L) (more : 3 + j < k) where
    abbrev L' : Links
    L' = cut_ear L (top D b j)

    -- the last half of the hole, which leads to the first
    abbrev p : ℕ
    p = b (k - 1)

    closes : L.next p ≡ top D b j
    closes = F.close (k - 1) (omega arith)

    -- the ear is the half from the first entry, b (j + 1) and the new half back
    cut : Eared ℕ (back D b j) (top D b (suc j)) (top D b j) (b (suc j)) p (b (suc (suc j))) L.next L'.next rev L.origin L'.origin
    unfolding top
    cut = ear_cut L (top D b j) (D.e + j) (b (suc j)) p (b (suc (suc j))) F.e (F.first j (omega arith))
        (sym (ap L.prev closes) ∙ F.linked.prev_next p lives) (F.rest (suc j) (omega arith) (omega arith)) closes
        (apart (suc j) (k - 1) (omega arith) (omega arith) (omega arith)) (higher (suc j) (omega arith)) (higher (k - 1) (omega arith))
      where
        higher : (a : ℕ) → a < k → b a < 2 * (D.e + j)
        higher a l = let x = low a l in omega arith

        lives : Alive L.e Dead (p / 2)
        lives = let x = R.live (k - 1) (omega arith) in ((let q = x.0 in let e = F.e in omega arith), x.1)

    -- what is neither new nor at the ear's ends keeps its next
    old_next : (h : ℕ) → h < 2 * (D.e + j) → h ≢ b (suc j) → h ≢ p → L'.next h ≡ L.next h
    unfolding top
    old_next h l d d' = cut.next_else h d (omega arith) d' (omega arith)

    -- and its start
    old_origin : (h : ℕ) → h < 2 * (D.e + j) → L'.origin h ≡ L.origin h
    unfolding top
    old_origin h l = cut.lab_else h (omega arith) (omega arith)

    -- so does the border but for the two
    rim_next : (a : ℕ) → a < k → a ≢ suc j → a ≢ k - 1 → L'.next (b a) ≡ L.next (b a)
    rim_next a l d d' = let x = low a l in old_next (b a) (omega arith) (apart a (suc j) l (omega arith) d) (apart a (k - 1) l (omega arith) d')

    -- new, or as before
    up_to : (P : ℕ → Type 0) (a i : ℕ) → a < suc i → P i → (a < i → P a) → P a
    up_to P a i l new old = elim (eq-or-lt_of_le (le_of_suc-le-suc l)) [ inl q ↦ subst P (sym q) new | inr h ↦ old h ]

    -- the link rules stay
    linked : Unrooted L' V (Alive L'.e Dead) (Holed L'.f Star hole)
    unfolding cut_ear
    linked = alike L' V V (With (Alive L.e Dead) L.e) (Alive (suc L.e) Dead) (With (Holed L.f Star hole) L.f) (Holed (suc L.f) Star hole)
        (λ _. ((λ l. l), (λ l. l))) edges faces
        (fan_step L V (Alive L.e Dead) (Holed L.f Star hole) (top D b j) (λ l. let p = l.0 in omega arith) fresh
        (subst (λ e. Alive e Dead (top D b j / 2)) (sym F.e) (top_live j j (omega arith))) (λ q. hole_inner (sym F.hole_face ∙ q)) wide F.linked)
      where
        number : hole ≡ D.f + (k - 3)
        number = R.number

        counted : L.f ≡ D.f + j
        counted = F.f

        summed : L.e ≡ D.e + j
        summed = F.e

        not_dead : Dead L.e → ⊥
        not_dead d = let x = R.dead_low L.e d in omega arith

        not_star : Star L.f → ⊥
        not_star d = let x = R.star_low L.f d in omega arith

        fresh : Holed L.f Star hole L.f → ⊥
        fresh (inl (l, d)) = omega arith
        fresh (inr q) = omega arith

        wide : L.origin (top D b j) ≢ L.origin (L.next (L.next (top D b j)))
        wide q = R.differ 0 (suc (suc j)) (omega arith) (omega arith)
            (sym (F.top_from j (omega arith)) ∙ q ∙ ap (λ h. L.origin (L.next h)) (F.first j (omega arith)) ∙ ap L.origin (F.rest (suc j) (omega arith) (omega arith)) ∙ F.from (suc (suc j)) (omega arith))

        edges : Alike (With (Alive L.e Dead) L.e) (Alive (suc L.e) Dead)
        edges x = (
          (λ w. elim w [ inl (l, d) ↦ (omega arith, d) | inr q ↦ (omega arith, λ d. not_dead (subst Dead q d)) ]),
          λ w. up_to (λ x. (Dead x → ⊥) → With (Alive L.e Dead) L.e x) x L.e w.0 (λ _. inr refl) (λ l d. inl (l, d)) w.1,
        )

        faces : Alike (With (Holed L.f Star hole) L.f) (Holed (suc L.f) Star hole)
        faces g = (
          (λ w. elim w [ inl (inl (l, d)) ↦ inl (omega arith, d) | inl (inr q) ↦ inr q | inr q ↦ inl (omega arith, λ d. not_star (subst Star q d)) ]),
          λ w. elim w [
            | inl (l, d) ↦ up_to (λ g. (Star g → ⊥) → With (Holed L.f Star hole) L.f g) g L.f l (λ _. inr refl) (λ l d. inl (inl (l, d))) d
            | inr q ↦ inl (inr q)
          ],
        )

    -- no face of the hole becomes the outer one
    inner : (h : ℕ) → Within D b k (suc j) h → L'.face h ≢ 0
    unfolding cut_ear
    inner h w =
        upd_keeps (λ z. z ≢ 0) _ (2 * L.e + 1) (L.face (top D b j)) h (λ q. hole_inner (sym F.hole_face ∙ q))
        (λ nt. upd_keeps (λ z. z ≢ 0) _ (2 * L.e) L.f h new (λ ne. upd_keeps (λ z. z ≢ 0) _ (L.next (top D b j)) L.f h new
        (λ _. upd_keeps (λ z. z ≢ 0) _ (top D b j) L.f h new (λ _. F.inner h (before w ne nt)))))
      where
        upd_keeps : (P : ℕ → Type 0) (g : ℕ → ℕ) (a z x : ℕ) → P z → (x ≢ a → P (g x)) → P (upd g a z x)
        upd_keeps P g a z x here else = elim (cases_eq x a) [ inl q ↦ subst P (sym (ap (upd g a z) q ∙ upd_same g a z)) here | inr d ↦ subst P (sym (upd_other g a z x d)) (else d) ]

        some : 0 < D.f
        some = R.some

        counted : L.f ≡ D.f + j
        counted = F.f

        summed : L.e ≡ D.e + j
        summed = F.e

        new : L.f ≢ 0
        new = omega arith

        before : Within D b k (suc j) h → h ≢ 2 * L.e → h ≢ 2 * L.e + 1 → Within D b k j h
        before (inl x) ne nt = inl x
        before (inr (p, l)) ne nt = inr (p, omega arith)

    -- a half that is not of the hole keeps its face
    face_else : (h : ℕ) → h < 2 * D.e → ((a : ℕ) → a < k → h ≢ b a) → L'.face h ≡ D.face h
    unfolding cut_ear
    face_else h l d =
        let e = F.e in
        skip _ (2 * L.e + 1) _ h _ (omega arith) (skip _ (2 * L.e) _ h _ (omega arith)
        (skip _ (L.next (top D b j)) _ h _ (λ q. d (suc j) (omega arith) (q ∙ F.first j (omega arith))) (skip _ (top D b j) _ h _ (top_else j h l d) (F.face_else h l d))))

    -- what is left has the number of the hole
    hole_face : L'.face (top D b (suc j)) ≡ hole
    unfolding cut_ear top
    hole_face = ap (λ e. (cut_ear L (top D b j)).face (2 * e + 1)) (sym F.e) ∙ upd_same _ _ _ ∙ F.hole_face

    -- so it is after one ear more
    pub one_more : State (suc j) L'
    unfolding cut_ear
    one_more = record {
      n = F.n;
      e = (let e = F.e in omega arith);
      f = (let f = F.f in omega arith);
      x = F.x;
      y = F.y;
      linked = linked;
      first = λ a l. up_to (λ a. L'.next (top D b a) ≡ b (suc a)) a (suc j) (omega arith) cut.next_t
          (λ h. old_next (top D b a) (top_low a j (omega arith)) (top_apart a (suc j) (omega arith) (omega arith)) (top_apart a (k - 1) (omega arith) (omega arith)) ∙ F.first a (omega arith));
      second = λ a l. up_to (λ a. L'.next (b (suc a)) ≡ back D b a) a j l cut.next_o (λ h. rim_next (suc a) (omega arith) (omega arith) (omega arith) ∙ F.second a h);
      third = λ a l. up_to (λ a. L'.next (back D b a) ≡ top D b a) a j l cut.next_e
          (λ h. old_next (back D b a) (omega arith) (λ q. high a (suc j) (omega arith) q) (λ q. high a (k - 1) (omega arith) q) ∙ F.third a h);
      rest = λ a l h. rim_next a (omega arith) (omega arith) (omega arith) ∙ F.rest a (omega arith) h;
      close = λ a l. ap (λ a. L'.next (b a)) (let q : a ≡ k - 1 = omega arith in q) ∙ cut.next_p;
      from = λ a l. (let x = low a l in old_origin (b a) (omega arith)) ∙ F.from a l;
      top_from = λ a l. up_to (λ a. L'.origin (top D b a) ≡ c 0) a (suc j) (omega arith) (cut.lab_t ∙ F.top_from j (omega arith))
          (λ h. old_origin (top D b a) (top_low a j (omega arith)) ∙ F.top_from a (omega arith));
      back_from = λ a l. up_to (λ a. L'.origin (back D b a) ≡ c (suc (suc a))) a j l (cut.lab_e ∙ F.from (suc (suc j)) (omega arith)) (λ h. old_origin (back D b a) (omega arith) ∙ F.back_from a h);
      hole_face = hole_face;
      inner = inner;
      next_else = λ h l d. old_next h (omega arith) (d (suc j) (omega arith)) (d (k - 1) (omega arith)) ∙ F.next_else h l d;
      face_else = face_else;
      origin_else = λ h l d. old_origin h (omega arith) ∙ F.origin_else h l d;
    }
      where
        high : (a a' : ℕ) → a' < k → back D b a ≢ b a'
        high a a' l q = let x = low a' l in omega arith

  -- the new half is where the next ear begins
  new_top : (j : ℕ) (L : Links) → State j L → 2 * L.e + 1 ≡ top D b (suc j)
  unfolding top
  new_top j L F = ap (λ e. 2 * e + 1) F.e

  -- after all ears a triangle is left
  pub all_cut : (r j : ℕ) (L : Links) → j + r ≡ k - 3 → State j L → (K : Links) × State (k - 3) K × (remesh r L (top D b j) ≡ last_triangle K (top D b (k - 3)))
  all_cut zero j L q F = let e : j ≡ k - 3 = omega arith in (L, subst (λ j. State j L) e F, ap (λ j. last_triangle L (top D b j)) e)
  all_cut (suc r) j L q F =
      let x = all_cut r (suc j) (cut_ear L (top D b j)) (omega arith) (one_more j L F (omega arith)) in
      (x.0, x.1, ap (remesh r (cut_ear L (top D b j))) (new_top j L F) ∙ x.2)
