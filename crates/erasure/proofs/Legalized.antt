-- The loop makes all edges in the hole legal.
use Rattle.std.proofs.Common.{◌≡◌, ℕ, zero, suc, ◌+◌, ◌*◌, ◌/◌, ◌^◌, ◌<◌, ◌≤◌, Bool, true, false, not, ◌&&◌, eqb, ◌⊎◌, List, [], ◌∷◌, length, nat_abs, sym, refl, ap, ◌∙◌, subst, inl, inr, arith}
use Rattle.std.proofs.lemmas.Bool.{both_ways, and_parts, and_cases, cases_Bool, or_cases, or_left, or_right, eq-eqb, eqb-true, not-true, not-false}
use Rattle.links.specs.Links.{Links, rev}
use Rattle.links.proofs.Decide.{never}
use Rattle.links.proofs.Halves.{rev_rev, rev_half}
use Rattle.delaunay.specs.Measure.{total}
use Rattle.delaunay.proofs.Measure.{falls}
use Rattle.surgery.specs.Update.{flip}
use Rattle.surgery.specs.Theorems.{On}
use Rattle.erasure.specs.Legalize.{contains, should_flip, flip_cw, around, legalize, turns}
use Rattle.erasure.specs.Region.{Hole, Inside, LawfulIn, Region, Listed, Framed, Fenced, Voluminous, Legalizes}
use Rattle.erasure.proofs.FlipMesh.{which_half}
use Rattle.erasure.proofs.FlipRegion.{flip_framed, flip_region}
use Rattle.erasure.proofs.FlipListed.{excess, said_no, said_yes, around_length, flip_listed}
use Rattle.erasure.proofs.Volume.{volume, total_low, total_high, flip_lowers}

-- nothing changes where nothing is done
pub framed_here : (H : Hole) (L : Links) → Framed H L L
framed_here H L = record {
  n = refl;
  e = refl;
  f = refl;
  x = λ _. refl;
  y = λ _. refl;
  next = λ _ _. refl;
  prev = λ _ _. refl;
  face = λ _ _. refl;
  origin = λ _ _. refl;
}

-- one change after another
pub framed_then : (H : Hole) (L K M : Links) → Framed H L K → Framed H K M → Framed H L M
framed_then H L K M F G = record {
  n = G.n ∙ F.n;
  e = G.e ∙ F.e;
  f = G.f ∙ F.f;
  x = λ v. G.x v ∙ F.x v;
  y = λ v. G.y v ∙ F.y v;
  next = λ h o. G.next h o ∙ F.next h o;
  prev = λ h o. G.prev h o ∙ F.prev h o;
  face = λ h o. G.face h o ∙ F.face h o;
  origin = λ h o. G.origin h o ∙ F.origin h o;
}

-- both halves of an edge lie in the hole, from either of them
pub both_halves : (H : Hole) (h k : ℕ) → h / 2 ≡ k → Inside H h → Inside H (rev h) → Inside H (2 * k) × Inside H (rev (2 * k))
both_halves H h k q i r = elim (which_half h k q) [
  | inl x ↦ (subst (Inside H) x i, subst (λ y. Inside H (rev y)) x r)
  | inr x ↦ (subst (Inside H) (ap rev x ∙ rev_rev (2 * k)) r, subst (Inside H) x i)
]

-- the edge of its first half
half_of : (k : ℕ) → (2 * k) / 2 ≡ k
half_of k = omega arith

module _ (H : Hole) (L : Links) (keep : ℕ → Bool) (fence : Fenced H L keep) (V : Voluminous H) (n : ℕ) (low : (g : ℕ) → On H.faces g → g < n) where
  -- all edges in the hole are legal, and the rest is as before
  abbrev Done : Links → Type 0
  Done K = Region H K × Framed H L K × ((h : ℕ) → Inside H h → Inside H (rev h) → LawfulIn H K h)

  -- four times the volume, and the length of the list
  abbrev measure : Links → List ℕ → ℕ
  measure K l = 4 * nat_abs (total (volume H K) n) + length l

  -- an edge is flipped
  abbrev turns_it : Links → ℕ → Bool
  turns_it K k = not (keep k) && should_flip K k

  -- an empty list: all is done
  done : (K : Links) → Region H K → Framed H L K → Listed H K [] → Done K
  done K R F N = (R, F, λ h i r. elim (N.legal h i r) [ inl x ↦ never x | inr x ↦ x ])

  -- an edge that is not flipped leaves the list: where it lies in the hole, it is legal
  dropped : (K : Links) (k : ℕ) (l : List ℕ) → Region H K → Listed H K (k ∷ l) → turns_it K k ≡ false → Listed H K l
  dropped K k l R N s = record {
    legal = λ h i r. elim (N.legal h i r) [
      | inl x ↦ elim (or_cases (eqb k (h / 2)) (contains l (h / 2)) x) [ inl q ↦ inr (here h i r (sym (eqb-true k (h / 2) q))) | inr q ↦ inl q ]
      | inr x ↦ inr x
    ];
    sided = λ j x. N.sided j (or_right (eqb k j) (contains l j) x);
  }
    where
      said : keep k ≡ false → should_flip K k ≡ false
      said f = elim (and_cases (not (keep k)) (should_flip K k) s) [ inl x ↦ absurd (both_ways (keep k) f (not-false (keep k) x)) | inr x ↦ x ]

      here : (h : ℕ) → Inside H h → Inside H (rev h) → h / 2 ≡ k → LawfulIn H K h
      here h i r q =
          let b = both_halves H h k q i r in
          said_no H K R k b.0 b.1 (said (ap keep (sym q) ∙ fence.free h i r)) h q

  -- an edge that is flipped has both halves in the hole
  both_in : (K : Links) (k : ℕ) → Region H K → Framed H L K → Inside H (2 * k) ⊎ Inside H (rev (2 * k)) → keep k ≡ false → should_flip K k ≡ true
      → Inside H (2 * k) × Inside H (rev (2 * k))
  both_in K k R F side free s = elim side [
    | inl i ↦ both_halves H (2 * k) k (half_of k) i (other (2 * k) (half_of k) i)
    | inr i ↦ let q = rev_half (2 * k) ∙ half_of k in both_halves H (rev (2 * k)) k q i (other (rev (2 * k)) q i)
  ]
    where
      other : (h : ℕ) → h / 2 ≡ k → Inside H h → Inside H (rev h)
      other h q i = elim (cases_Bool (H.inside (rev h))) [
        | inl x ↦ x
        | inr x ↦ absurd (both_ways (should_flip K k) (subst (λ j. should_flip K j ≡ false) q (fence.border K R F h i x (ap keep q ∙ free))) s)
      ]

  -- one turn, where d more are enough for what it leaves
  turn : (d k : ℕ) (l : List ℕ) (K : Links) → Region H K → Framed H L K → Listed H K (k ∷ l) → measure K (k ∷ l) ≤ suc d
      → ((l : List ℕ) (K : Links) → Region H K → Framed H L K → Listed H K l → measure K l ≤ d → Done (legalize d keep l K))
      → (b : Bool) → turns_it K k ≡ b → Done (elim b [ true ↦ legalize d keep (around K k l) (flip_cw K k) | false ↦ legalize d keep l K ])
  turn d k l K R F N m rest false s = rest l K R F (dropped K k l R N s) (omega arith)
  turn d k l K R F N m rest true s =
      let a = and_parts (not (keep k)) (should_flip K k) s in
      let b = both_in K k R F (N.sided k (or_left (eqb k k) (contains l k) (eq-eqb k k refl))) (not-true (keep k) a.0) a.1 in
      let bad = said_yes H K R k b.0 b.1 a.1 in
      let R' = flip_region H K R (2 * k) b.0 b.1 (λ _. bad) in
      let less : measure (flip K (2 * k)) (around K k l) < measure K (k ∷ l) =
      falls (total (volume H K) n) (total (volume H (flip K (2 * k))) n) (excess H K R k b.0 b.1) (length (k ∷ l)) (length (around K k l))
      (flip_lowers H K R (2 * k) b.0 b.1 bad n low) (total_low H (flip K (2 * k)) R' V n) bad (longer (around_length H K R k b.0 b.1 l)) in
      rest (around K k l) (flip K (2 * k)) R' (framed_then H L K (flip K (2 * k)) F (flip_framed H K R (2 * k) b.0 b.1))
      (flip_listed H K R k b.0 b.1 l bad N) (fewer less m)
    where
      longer : length (around K k l) ≤ length l + 4 → length (around K k l) ≤ suc (length l) + 3
      longer h = omega arith

      fewer : {x y : ℕ} → x < y → y ≤ suc d → x ≤ d
      fewer h k = omega arith

  -- so many turns as the measure are enough
  legalized : (d : ℕ) (l : List ℕ) (K : Links) → Region H K → Framed H L K → Listed H K l → measure K l ≤ d → Done (legalize d keep l K)
  legalized zero [] K R F N m = done K R F N
  legalized zero (k ∷ l) K R F N m = absurd (none m)
    where
      none : measure K (k ∷ l) ≤ 0 → ⊥
      none m = omega arith
  legalized (suc d) [] K R F N m = done K R F N
  legalized (suc d) (k ∷ l) K R F N m = turn d k l K R F N m (legalized d) (turns_it K k) refl

-- the volume is at most 2^76, so the turns are enough
pub legalizes : Legalizes
legalizes H L l keep R N fence V few short =
    legalized H L keep fence V L.f R.face_below turns l L R (framed_here H L) N (enough _ L.f (length l) (total_high H L R V L.f) few short)
  where
    enough : (v f m : ℕ) → v ≤ f * 2 ^ 60 → f ≤ 65536 → m ≤ 65536 → 4 * v + m ≤ turns
    enough v f m p q r = omega arith
