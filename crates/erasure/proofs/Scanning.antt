-- The scan of the hull, step by step: the star stays a mesh with the entry as its apex, and what is across from it turns right.
use Rattle.std.proofs.Common.{◌≡◌, ℕ, zero, suc, ◌+◌, ◌*◌, ◌/◌, ◌<◌, ◌≤◌, Bool, true, false, cond, eqb, ◌≢◌, ◌⊎◌, List, [], ◌∷◌, length, pos, ◌≤ℤ◌, ◌<ℤ◌, sym, refl, ap, ◌∙◌, subst, inl, inr, arith}
use native.Mathlib.Decide.{ℕ_discrete}
use lib.Signed.{lt_z}
use Rattle.std.proofs.lemmas.Bool.{cases_eq}
use Rattle.plane.specs.Plane.{S}
use Rattle.links.specs.Links.{Links, rev, to, place}
use Rattle.links.proofs.Halves.{rev_rev, rev_half, rev_is}
use Rattle.links.proofs.Decide.{dec_lt_z, dec_eq, never}
use Rattle.planar.specs.Star.{spoke, tip}
use Rattle.delaunay.specs.Ring.{Cyc, Next}
use Rattle.delaunay.specs.Mesh.{Mesh, Below, Across}
use Rattle.delaunay.specs.Start.{Scanned}
use Rattle.delaunay.specs.Scan.{Done, Stacked}
use Rattle.delaunay.proofs.Ears.{scan_step}
use Rattle.delaunay.proofs.Scan.{scan_next, scan_before, scan_rest, scan_flip}
use Rattle.delaunay.proofs.Mesh.{below_was, below_stays}
use Rattle.erasure.specs.Region.{Hole, Inside, label, Region, Framed}
use Rattle.erasure.specs.Legalize.{contains, flip_cw}
use Rattle.erasure.specs.Scan.{Scan, pushed, scanned}
use Rattle.erasure.specs.Hull.{star_hole, numbering}
use Rattle.erasure.proofs.FlipRegion.{goes_to, comes_from, triangle}
use Rattle.erasure.proofs.ScanFlip.{Turned, turned, either_half}
use Rattle.erasure.proofs.Legalized.{framed_then}
use Rattle.erasure.proofs.FlipListed.{not_positive}
use Rattle.erasure.specs.Inside.{next_on}
use Rattle.erasure.proofs.Neighbours.{dec_next, with_border}
use Rattle.erasure.proofs.Contains.{contains_head, contains_tail, contains_cons}

module _ (m : Links) (s last : ℕ) where
  abbrev H : Hole
  H = star_hole m s last

  -- the number of a half's start
  abbrev pub lab : Links → ℕ → ℕ
  lab L h = label H L h

  -- in a face without the apex, and across from the apex
  abbrev pub Low : Links → ℕ → Type 0
  Low L h = Below ℕ (Inside H) L.next (lab L) last h

  abbrev pub Over : Links → ℕ → Type 0
  Over L h = Across ℕ (Inside H) L.next (lab L) last h

  -- the strip leads along halves across from the apex, from the number 0 to b
  abbrev pub Strip : Links → List ℕ → ℕ → Type 0
  Strip L [] b = b ≡ 0
  Strip L (t ∷ l) b = Over L t × (lab L (L.next t) ≡ b) × Strip L l (lab L t)

  -- what holds whenever the strip has come to the number j
  pub record Kept (j : ℕ) (L : Links) (turned : List ℕ) : Type 0 where
    pub region : Region H L
    pub framed : Framed H m L
    -- from j on, nothing was flipped
    pub flat : (h : ℕ) → Over L h → j ≤ lab L h → lab L (L.next h) ≡ suc (lab L h)
    pub ahead : (i : ℕ) → j ≤ i → i < last → (L.origin (spoke m s i) ≡ m.origin s) × (L.origin (rev (spoke m s i)) ≡ to m (spoke m s i))
    -- the edges of the faces that were cut off, but for the border, are those that were flipped
    pub flipped : (h : ℕ) → Inside H h → Low L (rev h) → contains turned (h / 2) ≡ true
    pub sided : (k : ℕ) → contains turned k ≡ true → Low L (2 * k) ⊎ Low L (rev (2 * k))
    -- if anything was
    pub none : ((turned ≡ []) × (L ≡ m)) ⊎ ((h : ℕ) × Low L h)

  -- the strip has come to j
  pub record At (j : ℕ) (a : Scan) : Type 0 where
    pub kept : Kept j a.links a.turned
    pub done : Done ℕ (Inside H) a.links.next (lab a.links) (tip m s) last j
    pub strip : Strip a.links a.strip j
    pub full : (h : ℕ) → Over a.links h → lab a.links (a.links.next h) ≤ j → contains a.strip h ≡ true
    pub few : length a.turned + length a.strip ≤ j

  -- top is to be put on the strip l, and leads to j
  pub record Putting (j : ℕ) (L : Links) (turned : List ℕ) (top : ℕ) (l : List ℕ) : Type 0 where
    pub kept : Kept j L turned
    pub stacked : Stacked ℕ (Inside H) L.next (lab L) (tip m s) last j top
    pub strip : Strip L l (lab L top)
    pub full : (h : ℕ) → Over L h → lab L (L.next h) ≤ j → (h ≡ top) ⊎ (contains l h ≡ true)
    pub few : length turned + suc (length l) ≤ j

  -- what is across from the apex rises
  rises : (a b c : ℕ) → Cyc (suc (suc last)) a b c → c ≡ suc last → (a < b) × (b ≤ last)
  rises a b c y e = (omega arith, omega arith)

  pub over_rises : (L : Links) → Region H L → (h : ℕ) → Over L h → (lab L h < lab L (L.next h)) × (lab L (L.next h) ≤ last)
  over_rises L R h a = rises (lab L h) (lab L (L.next h)) (lab L (L.next (L.next h))) (R.mesh.order h a.live) a.apex

  -- the other half of what is across from the apex lies in no face with the apex
  pub over_low : (L : Links) → Region H L → (h : ℕ) → Over L h → Inside H (rev h) → Low L (rev h)
  over_low L R h a i =
      let r = over_rises L R h a in
      let c = R.mesh.order (rev h) i in
      let p = goes_to H L R h a.live in
      let q = comes_from H L R h i in
      record { live = i; first = omega arith; second = omega arith; third = third (lab L (rev h)) (lab L (L.next (rev h))) (lab L (L.next (L.next (rev h)))) (lab L h) (lab L (L.next h)) c p q r.0 r.1 }
    where
      third : (a b c x y : ℕ) → Cyc (suc (suc last)) a b c → a ≡ y → b ≡ x → x < y → y ≤ last → c ≤ last
      third a b c x y o p q l e = omega arith

  -- the star as a mesh with neighbours as its border
  next_mesh : (L : Links) → Region H L → Mesh ℕ (Inside H) L.next rev (lab L) (suc (suc last)) (Next (suc (suc last)))
  next_mesh L R = with_border (Inside H) L.next rev (lab L) (suc (suc last)) (λ a b. next_on (suc (suc last)) a b ≡ true) (Next (suc (suc last))) (λ a b. (dec_next (suc (suc last)) a b).0) R.mesh

  -- an entry of a half whose number is on the ring is at its tip
  pub at_tip : (L : Links) → Region H L → (h : ℕ) → Inside H h → lab L h ≤ last → place L (L.origin h) ≡ tip m s (lab L h)
  at_tip L R h i l = R.at h i ∙ go (eqb (lab L h) (suc last)) refl
    where
      high : (a : ℕ) → a ≡ suc last → a ≤ last → ⊥
      high a e b = omega arith

      go : (b : Bool) → eqb (lab L h) (suc last) ≡ b → cond b (place m (m.origin s)) (tip m s (lab L h)) ≡ tip m s (lab L h)
      go true e = absurd (high (lab L h) ((dec_eq (lab L h) (suc last)).0 e) l)
      go false e = refl

  module _ (apex_num : numbering m s last (m.origin s) ≡ suc last) (tip_num : (i : ℕ) → i < last → numbering m s last (to m (spoke m s i)) ≡ i) where
    -- ---- the flip of the spoke between top and the half before it
    module _ (j : ℕ) (L : Links) (tl : List ℕ) (top below : ℕ) (l : List ℕ) (P : Putting j L tl top (below ∷ l)) where
      R : Region H L
      R = P.kept.region

      it : Inside H top
      it = P.stacked.across.live

      abbrev g : ℕ
      g = rev (L.prev top)

      -- top's face from the apex on
      prev_is : L.next (L.next top) ≡ L.prev top
      prev_is = triangle H L R top it

      rg : rev g ≡ L.next (L.next top)
      rg = rev_rev (L.prev top) ∙ sym prev_is

      over_below : Over L below
      over_below = P.strip.0

      starts : lab L (L.next below) ≡ lab L top
      starts = P.strip.1

      lt : Inside H (rev g)
      lt = subst (Inside H) (sym rg) (R.mesh.stays (L.next top) (R.mesh.stays top it))

      top_is : L.next (rev g) ≡ top
      top_is = ap L.next rg ∙ R.mesh.three top it

      before : (Inside H (rev (L.next (L.next top)))) × (lab L (rev (L.next (L.next top))) ≡ lab L top) × (lab L (L.next (rev (L.next (L.next top)))) ≡ suc last)
          × Over L (L.next (L.next (rev (L.next (L.next top)))))
      before = scan_before H.inside L.next rev (lab L) last (next_mesh L R) top P.stacked.across (λ q. let r = over_rises L R below over_below in omega (arith, starts))

      g_is : rev (L.next (L.next top)) ≡ g
      g_is = ap rev prev_is

      ig : Inside H g
      ig = subst (Inside H) g_is before.0

      lab_g : lab L g ≡ lab L top
      lab_g = subst (λ x. lab L x ≡ lab L top) g_is before.1

      apex : lab L (L.next g) ≡ suc last
      apex = subst (λ x. lab L (L.next x) ≡ suc last) g_is before.2

      over_back : Over L (L.next (L.next g))
      over_back = subst (λ x. Over L (L.next (L.next x))) g_is before.3

      below_is : L.next (L.next g) ≡ below
      below_is = P.stacked.only (L.next (L.next g)) below over_back over_below (ap (lab L) (R.mesh.three g ig) ∙ lab_g ∙ sym starts)

      -- the flip
      abbrev L' : Links
      L' = flip_cw L (g / 2)

      T : Turned H L L' g
      T = turned H L R g ig lt (λ q. never q)

      sc : Scanned ℕ (Inside H) L.next L'.next rev (lab L) (lab L') last g
      sc = scan_step H.inside L.next rev (lab L) last H.border R.mesh L'.next (lab L') g ig lt (goes_to H L R g ig) (comes_from H L R g lt) T.mesh apex

      -- halves of the strip before the one below are others
      lower : (x b : ℕ) → Over L x → lab L (L.next x) ≡ b → b ≤ lab L below → (x ≢ L.next (L.next g)) × (x ≢ L.next (rev g))
      lower x b o q h =
          let r = over_rises L R below over_below in
          let u = over_rises L R top P.stacked.across in (
            (λ e. no (lab L (L.next x)) (lab L (L.next below)) (ap (λ z. lab L (L.next z)) (e ∙ below_is)) (omega arith)),
            (λ e. no (lab L (L.next x)) (lab L (L.next top)) (ap (λ z. lab L (L.next z)) (e ∙ top_is)) (omega arith)),
          )
        where
          no : (a b : ℕ) → a ≡ b → a < b → ⊥
          no a b e l = omega arith

      strip_stays : (l : List ℕ) (b : ℕ) → b ≤ lab L below → Strip L l b → Strip L' l b
      strip_stays [] b h q = q
      strip_stays (x ∷ l) b h (o, q, r) =
          let n = lower x b o q h in
          let t = sc.others x o n.0 n.1 in
          (t.0, t.2 ∙ q, subst (Strip L' l) (sym t.1) (strip_stays l (lab L x) (let u = over_rises L R x o in omega arith) r))

      top_rises : (lab L top < lab L (L.next top)) × (lab L (L.next top) ≤ last)
      top_rises = over_rises L R top P.stacked.across

      below_rises : (lab L below < lab L (L.next below)) × (lab L (L.next below) ≤ last)
      below_rises = over_rises L R below over_below

      -- the flipped edge starts below j
      g_starts : lab L' g ≡ lab L below
      g_starts = sc.from ∙ ap (lab L) below_is

      flat' : (h : ℕ) → Over L' h → j ≤ lab L' h → lab L' (L'.next h) ≡ suc (lab L' h)
      flat' h o b = elim (sc.every h o) [
        | inl q ↦ absurd (no (lab L' h) (lab L below) (lab L top) (ap (lab L') q ∙ g_starts) (subst (λ x. lab L below < x) starts below_rises.0) (subst (λ x. lab L top < x) P.stacked.leads top_rises.0) b)
        | inr u ↦ let t = sc.others h u.0 u.1 u.2 in t.2 ∙ P.kept.flat h u.0 (subst (λ x. j ≤ x) t.1 b) ∙ ap suc (sym t.1)
      ]
        where
          no : (a b c : ℕ) → a ≡ b → b < c → c < j → j ≤ a → ⊥
          no a b c e p q r = omega arith

      ahead' : (i : ℕ) → j ≤ i → i < last → (L'.origin (spoke m s i) ≡ m.origin s) × (L'.origin (rev (spoke m s i)) ≡ to m (spoke m s i))
      ahead' i h b = (T.origins (spoke m s i) not_g not_rev ∙ o.0, T.origins (rev (spoke m s i)) (λ q. not_rev (rev_is (spoke m s i) g q)) (λ q. not_g (sym (rev_rev (spoke m s i)) ∙ ap rev q ∙ rev_rev g)) ∙ o.1)
        where
          o : (L.origin (spoke m s i) ≡ m.origin s) × (L.origin (rev (spoke m s i)) ≡ to m (spoke m s i))
          o = P.kept.ahead i h b

          high : (a c : ℕ) → a ≡ c → a ≡ suc last → c < j → j ≤ last → ⊥
          high a c e f p q = omega arith

          low : (a c : ℕ) → a ≡ c → a ≡ i → c < j → ⊥
          low a c e f p = omega arith

          top_low : lab L top < j
          top_low = subst (λ x. lab L top < x) P.stacked.leads top_rises.0

          not_g : spoke m s i ≢ g
          not_g q = high (lab L (spoke m s i)) (lab L top) (ap (lab L) q ∙ lab_g) (ap (numbering m s last) o.0 ∙ apex_num) top_low (subst (λ x. x ≤ last) P.stacked.leads top_rises.1)

          not_rev : spoke m s i ≢ rev g
          not_rev q = low (lab L (rev (spoke m s i))) (lab L top) (ap (lab L) (ap rev q ∙ rev_rev g) ∙ lab_g) (ap (numbering m s last) o.1 ∙ tip_num i b) top_low

      flipped' : (h : ℕ) → Inside H h → Low L' (rev h) → contains ((g / 2) ∷ tl) (h / 2) ≡ true
      flipped' h i b = go (below_was ℕ ℕ_discrete (Inside H) L.next rev (lab L) (suc (suc last)) (λ a b. H.border a b ≡ true) R.mesh L'.next (lab L') g ig lt (goes_to H L R g ig) (comes_from H L R g lt) T.mesh last apex (rev h) b)
        where
          -- h is the other half of what was across from the apex
          across : (x : ℕ) → rev h ≡ x → Over L x → contains ((g / 2) ∷ tl) (h / 2) ≡ true
          across x q o =
              let r : rev x ≡ h = ap rev (sym q) ∙ rev_rev h in
              contains_tail (g / 2) tl (h / 2)
              (subst (λ k. contains tl k ≡ true) (sym (rev_half x) ∙ ap (λ z. z / 2) r) (P.kept.flipped x o.live (over_low L R x o (subst (Inside H) (sym r) i))))

          go : (rev h ≡ rev g) ⊎ ((rev h ≡ L.next (L.next g)) ⊎ ((rev h ≡ L.next (rev g)) ⊎ Low L (rev h))) → contains ((g / 2) ∷ tl) (h / 2) ≡ true
          go (inl q) = contains_head (g / 2) tl (h / 2) (ap (λ z. z / 2) (sym (rev_rev g) ∙ ap rev (sym q) ∙ rev_rev h))
          go (inr (inl q)) = across (L.next (L.next g)) q over_back
          go (inr (inr (inl q))) = across (L.next (rev g)) q (subst (Over L) (sym top_is) P.stacked.across)
          go (inr (inr (inr o))) = contains_tail (g / 2) tl (h / 2) (P.kept.flipped h i o)

      -- the face that is cut off
      cut_low : Low L' (rev g)
      cut_low = record {
        live = lt;
        first = subst (λ x. x ≤ last) (sym (sc.cut_off.0 ∙ ap (λ x. lab L (L.next x)) top_is)) top_rises.1;
        second = subst (λ x. x ≤ last) (sym (sc.cut_off.1 ∙ ap (lab L) below_is)) (let r = below_rises in omega arith);
        third = subst (λ x. x ≤ last) (sym (sc.cut_off.2 ∙ lab_g)) (let r = top_rises in omega arith);
      }

      low_stays : (h : ℕ) → Low L h → Low L' h
      low_stays = below_stays ℕ ℕ_discrete (Inside H) L.next rev (lab L) (suc (suc last)) (λ a b. H.border a b ≡ true) R.mesh L'.next (lab L') g ig lt (goes_to H L R g ig) (comes_from H L R g lt) T.mesh last apex

      sided' : (k : ℕ) → contains ((g / 2) ∷ tl) k ≡ true → Low L' (2 * k) ⊎ Low L' (rev (2 * k))
      sided' k q = elim (contains_cons (g / 2) tl k q) [
        | inl e ↦ subst (λ z. Low L' (2 * z) ⊎ Low L' (rev (2 * z))) e (elim (either_half g) [
          | inl r ↦ inr (subst (λ z. Low L' (rev z)) (sym r) cut_low)
          | inr r ↦ inl (subst (Low L') (sym r) cut_low)
        ])
        | inr c ↦ elim (P.kept.sided k c) [ inl x ↦ inl (low_stays (2 * k) x) | inr x ↦ inr (low_stays (rev (2 * k)) x) ]
      ]

      full' : (h : ℕ) → Over L' h → lab L' (L'.next h) ≤ j → (h ≡ g) ⊎ (contains l h ≡ true)
      full' h o b = elim (sc.every h o) [
        | inl q ↦ inl q
        | inr u ↦ inr (old u)
      ]
        where
          old : Over L h × (h ≢ L.next (L.next g)) × (h ≢ L.next (rev g)) → contains l h ≡ true
          old u = elim (P.full h u.0 (subst (λ x. x ≤ j) (sc.others h u.0 u.1 u.2).2 b)) [
            | inl q ↦ absurd (u.2 (q ∙ sym top_is))
            | inr c ↦ elim (contains_cons below l h c) [ inl q ↦ absurd (u.1 (sym q ∙ sym below_is)) | inr r ↦ r ]
          ]

      -- the half before top is on the way to it, by places
      sides : S (place L (L.origin below)) (place L (to L below)) (place L (to L top)) ≡ S (tip m s (lab L below)) (tip m s (lab L top)) (tip m s j)
      sides i = S (p0 i) (p1 i) (p2 i)
        where
          p0 : place L (L.origin below) ≡ tip m s (lab L below)
          p0 = at_tip L R below over_below.live (let r = below_rises in omega arith)

          p1 : place L (to L below) ≡ tip m s (lab L top)
          p1 = ap (place L) (sym (R.linked.to_next below (R.live below over_below.live))) ∙ at_tip L R (L.next below) (R.mesh.stays below over_below.live) below_rises.1 ∙ ap (tip m s) starts

          p2 : place L (to L top) ≡ tip m s j
          p2 = ap (place L) (sym (R.linked.to_next top (R.live top it))) ∙ at_tip L R (L.next top) (R.mesh.stays top it) top_rises.1 ∙ ap (tip m s) P.stacked.leads

      turn : pos 0 <ℤ S (place L (L.origin below)) (place L (to L below)) (place L (to L top)) → pos 0 <ℤ S (tip m s (lab L (L.next (L.next g)))) (tip m s (lab L g)) (tip m s j)
      turn h = subst (λ z. pos 0 <ℤ z) (sides ∙ (λ i. S (tip m s (lab L (sym below_is i))) (tip m s (sym lab_g i)) (tip m s j))) h

      next_putting : pos 0 <ℤ S (place L (L.origin below)) (place L (to L below)) (place L (to L top)) → Putting j L' ((g / 2) ∷ tl) g l
      next_putting h = record {
        kept = record {
          region = T.region;
          framed = framed_then H m L L' P.kept.framed T.framed;
          flat = flat';
          ahead = ahead';
          flipped = flipped';
          sided = sided';
          none = inr (rev g, cut_low);
        };
        stacked = scan_flip H.inside L.next rev (lab L) (tip m s) last j H.border R.mesh L'.next (lab L') g ig lt (goes_to H L R g ig) (comes_from H L R g lt) T.mesh apex
            (subst (Stacked ℕ (Inside H) L.next (lab L) (tip m s) last j) (sym top_is) P.stacked) (turn h);
        strip = subst (Strip L' l) (sym g_starts) (strip_stays l (lab L below) (omega arith) P.strip.2);
        full = full';
        few = let f = P.few in omega arith;
      }

    -- top is put on the strip, where it does not turn left
    put : (j : ℕ) (L : Links) (tl : List ℕ) (top : ℕ) (l : List ℕ) → Putting j L tl top l
        → ((h : ℕ) → Over L h → lab L (L.next h) ≡ lab L top → S (tip m s (lab L h)) (tip m s (lab L top)) (tip m s j) ≤ℤ pos 0)
        → At j (record { links = L; strip = top ∷ l; turned = tl })
    put j L tl top l P ok = record {
      kept = P.kept;
      done = scan_rest H.inside L.next (lab L) (tip m s) last j top P.stacked ok;
      strip = (P.stacked.across, P.stacked.leads, P.strip);
      full = λ h o b. elim (P.full h o b) [ inl q ↦ contains_head top l h (sym q) | inr c ↦ contains_tail top l h c ];
      few = P.few;
    }

    -- and where it does, the spoke before it is flipped
    push : (j : ℕ) (l : List ℕ) (L : Links) (tl : List ℕ) (top : ℕ) → Putting j L tl top l → At j (pushed L tl top l)
    push j [] L tl top P = put j L tl top [] P (λ h o q. absurd (no (lab L h) (lab L (L.next h)) (q ∙ P.strip) (over_rises L P.kept.region h o).0))
      where
        no : (a b : ℕ) → b ≡ 0 → a < b → ⊥
        no a b e l = omega arith
    push j (below ∷ l) L tl top P = go (lt_z (pos 0) (S (place L (L.origin below)) (place L (to L below)) (place L (to L top)))) refl (λ P'. push j l (flip_cw L (rev (L.prev top) / 2)) ((rev (L.prev top) / 2) ∷ tl) (rev (L.prev top)) P')
      where
        go : (b : Bool) → lt_z (pos 0) (S (place L (L.origin below)) (place L (to L below)) (place L (to L top))) ≡ b
            → (Putting j (flip_cw L (rev (L.prev top) / 2)) ((rev (L.prev top) / 2) ∷ tl) (rev (L.prev top)) l → At j (pushed (flip_cw L (rev (L.prev top) / 2)) ((rev (L.prev top) / 2) ∷ tl) (rev (L.prev top)) l))
            → At j (elim b [
              | true ↦ pushed (flip_cw L (rev (L.prev top) / 2)) ((rev (L.prev top) / 2) ∷ tl) (rev (L.prev top)) l
              | false ↦ record { links = L; strip = top ∷ below ∷ l; turned = tl }
            ])
        go true e more = more (next_putting j L tl top below l P ((dec_lt_z (pos 0) _).0 e))
        go false e more =
            put j L tl top (below ∷ l) P
            (λ h o q. subst (λ x. S (tip m s (lab L x)) (tip m s (lab L top)) (tip m s j) ≤ℤ pos 0) (sym (P.stacked.only h below o P.strip.0 (q ∙ sym P.strip.1)))
            (subst (λ z. z ≤ℤ pos 0) (sides j L tl top below l P) (not_positive _ e)))

    -- a step of the scan
    step : (i : ℕ) → i < last → (a : Scan) → Inside H (spoke m s i) → At i a → At (suc i) (pushed a.links a.turned (a.links.next (spoke m s i)) a.strip)
    step i l a is A = push (suc i) a.strip a.links a.turned (a.links.next (spoke m s i))
        (record {
          kept = record {
            region = R';
            framed = A.kept.framed;
            flat = λ h o b. A.kept.flat h o (omega arith);
            ahead = λ k b. A.kept.ahead k (omega arith);
            flipped = A.kept.flipped;
            sided = A.kept.sided;
            none = A.kept.none;
          };
          stacked = scan_next H.inside a.links.next (lab a.links) (tip m s) last i (a.links.next (spoke m s i)) A.done over leads;
          strip = subst (Strip a.links a.strip) (sym from) A.strip;
          full = λ h o b. elim (cases_eq (lab a.links (a.links.next h)) (suc i)) [ inl q ↦ inl (A.done.only h (a.links.next (spoke m s i)) o over (q ∙ sym leads)) | inr n ↦ inr (A.full h o (omega arith)) ];
          few = let f = A.few in omega arith;
        })
      where
        R' : Region H a.links
        R' = A.kept.region

        from : lab a.links (a.links.next (spoke m s i)) ≡ i
        from = sym (goes_to H a.links R' (spoke m s i) is) ∙ ap (numbering m s last) (A.kept.ahead i (omega arith) l).1 ∙ tip_num i l

        over : Over a.links (a.links.next (spoke m s i))
        over = record { live = R'.mesh.stays (spoke m s i) is; apex = ap (lab a.links) (R'.mesh.three (spoke m s i) is) ∙ ap (numbering m s last) (A.kept.ahead i (omega arith) l).0 ∙ apex_num }

        leads : lab a.links (a.links.next (a.links.next (spoke m s i))) ≡ suc i
        leads = A.kept.flat (a.links.next (spoke m s i)) over (let f = from in omega arith) ∙ ap suc from

    -- the whole scan
    pub scan : ((i : ℕ) → i < last → Inside H (spoke m s i)) → At 0 (scanned m s 0) → (i : ℕ) → i ≤ last → At i (scanned m s i)
    scan star start zero l = start
    scan star start (suc i) l = step i l (scanned m s i) (star i l) (scan star start i (omega arith))
