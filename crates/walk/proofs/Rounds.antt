-- A walk around a cycle from both ends hands out each of its halves once, then none.
use Rattle.std.specs.Prelude.{◌≡◌, ℕ, zero, suc, ◌+◌, ◌<◌, ◌≤◌, Bool, true, false, cond, ◌⊎◌, List, [], ◌∷◌, map, Some, None, Option, refl}
use Rattle.std.specs.Option.{option_map}
use Rattle.std.proofs.Common.{sym, ◌∙◌, ap, ap₂, subst, inl, inr, arith, eq-or-lt_of_le, eq-eqb, ne_eqb, lt-ltb, add-zero, zero-add}
use Rattle.std.proofs.Math.Decide.{ℕ_discrete}
use Rattle.std.proofs.Math.ListN.{get_or-map}
use Rattle.std.proofs.lemmas.Bool.{cases_order}
use Rattle.links.specs.Links.{walk}
use Rattle.links.proofs.Walks.{walk_in}
use Rattle.planar.specs.Star.{Cycle}
use Rattle.walk.specs.declared.reader.Walk.{Walk}
use Rattle.walk.specs.Walking.{around, between, done, fresh, moved, ready, front_answer, front_after, back_answer, back_after, played, hit, times, HandedOut}
use Rattle.walk.proofs.Taken.{taken, hit_off, few, one, silent}

module _ (step back : ℕ → ℕ) (H : ℕ) (undone : (h : ℕ) → h < H → back (step h) ≡ h) (inside : (h : ℕ) → h < H → step h < H)
    (Kind : ℕ → Type 0) (s K : ℕ) (s_in : s < H) (round : Cycle H step Kind s K) where
  abbrev W : ℕ → ℕ
  W i = walk step i s

  W-in : (i : ℕ) → W i < H
  W-in i = walk_in H step inside s s_in i

  apart : (a b : ℕ) → a < b → b ≤ K → b < a + K → ¬ (W a ≡ W b)
  apart a b l m n e = go (eq-or-lt_of_le m)
    where
      go : (b ≡ K) ⊎ (b < K) → ⊥
      go (inr r) = round.apart a b l r e
      go (inl q) = round.apart 0 a (omega arith) (omega arith) (sym (e ∙ ap W q ∙ round.closed))

  -- the walk with k halves left: those from the number i on
  abbrev rest : ℕ → ℕ → Walk
  rest i zero = done
  rest i (suc k) = around (W i) (W (i + suc k))

  begins : (k : ℕ) → 0 < k → rest 0 k ≡ around s (W k)
  begins zero l = absurd (omega arith)
  begins (suc k) l = ap (λ z. around s (W z)) (zero-add (suc k))

  met : (i k : ℕ) → i + k ≤ K → k < K → between (W i) (W (i + k)) ≡ rest i k
  met i zero m l = ap (λ b. cond b done (around (W i) (W (i + 0)))) (eq-eqb (W i) (W (i + 0)) (ap W (sym (add-zero i))))
  met i (suc k) m l = ap (λ b. cond b done (around (W i) (W (i + suc k)))) (ne_eqb (W i) (W (i + suc k)) (apart i (i + suc k) (omega arith) m (omega arith)))

  both : (i k : ℕ) → ready H (rest i (suc k)) ≡ Some (record { current = W i; last = W (i + suc k) })
  both i k = rw (lt-ltb (W i) H (W-in i), lt-ltb (W (i + suc k)) H (W-in (i + suc k))) refl

  front : (i k : ℕ) → i + suc k ≤ K → (front_answer step back H (rest i (suc k)) ≡ Some (W i)) × (front_after step back H (rest i (suc k)) ≡ rest (suc i) k)
  front i k m = (
    ap (option_map (λ p. p.current)) (both i k),
    ap (moved (rest i (suc k)) (λ p. between (step p.current) p.last)) (both i k) ∙ ap (λ z. between (W (suc i)) (W z)) shift ∙ met (suc i) k (omega arith) (omega arith),
  )
    where
      shift : i + suc k ≡ suc i + k
      shift = omega arith

  rear : (i k : ℕ) → i + suc k ≤ K → (back_answer step back H (rest i (suc k)) ≡ Some (W (i + k))) × (back_after step back H (rest i (suc k)) ≡ rest i k)
  rear i k m = (
    ap (option_map (λ p. back p.last)) (both i k) ∙ ap Some undo,
    ap (moved (rest i (suc k)) (λ p. between p.current (back p.last))) (both i k) ∙ ap (between (W i)) undo ∙ met i k (omega arith) (omega arith),
  )
    where
      shift : i + suc k ≡ suc (i + k)
      shift = omega arith

      undo : back (W (i + suc k)) ≡ W (i + k)
      undo = ap (λ z. back (W z)) shift ∙ undone (W (i + k)) (W-in (i + k))

  -- what a walk hands out are the numbers that are taken
  plays : (bs : List Bool) (i k : ℕ) → i + k ≤ K → played step back H bs (rest i k) ≡ map (option_map W) (taken bs i k)
  plays [] i k m = refl
  plays (true ∷ bs) i zero m = ap (λ z. None ∷ z) (plays bs i zero m)
  plays (false ∷ bs) i zero m = ap (λ z. None ∷ z) (plays bs i zero m)
  plays (true ∷ bs) i (suc k) m = let f = front i k m in ap₂ (λ a z. a ∷ z) f.0 (ap (played step back H bs) f.1 ∙ plays bs (suc i) k (omega arith))
  plays (false ∷ bs) i (suc k) m = let f = rear i k m in ap₂ (λ a z. a ∷ z) f.0 (ap (played step back H bs) f.1 ∙ plays bs i k (omega arith))

  -- a half of the cycle is handed out as often as its number is taken
  same : (p j : ℕ) → p < K → j < K → hit (W j) (Some (W p)) ≡ hit j (Some p)
  same p j a b = go (ℕ_discrete p j)
    where
      differ : ¬ (p ≡ j) → ¬ (W p ≡ W j)
      differ n e = elim (cases_order p j) [ inl q ↦ absurd (n q) | inr q ↦ elim q [ inl r ↦ round.apart p j r b e | inr r ↦ round.apart j p r a (sym e) ] ]

      go : Dec (p ≡ j) → hit (W j) (Some (W p)) ≡ hit j (Some p)
      go (yes e) = subst (λ z. hit (W j) (Some (W z)) ≡ hit j (Some z)) (sym e) (ap (λ b. cond b 1 0) (eq-eqb (W j) (W j) refl ∙ sym (eq-eqb j j refl)))
      go (no n) = hit_off (W j) (W p) (differ n) ∙ sym (hit_off j p n)

  counts : (bs : List Bool) (i k j : ℕ) → i + k ≤ K → j < K → times (W j) (map (option_map W) (taken bs i k)) ≡ times j (taken bs i k)
  counts [] i k j m l = refl
  counts (b ∷ bs) i zero j m l = ap (λ z. 0 + z) (counts bs i zero j m l)
  counts (true ∷ bs) i (suc k) j m l = ap₂ (λ a z. a + z) (same i j (omega arith) l) (counts bs (suc i) k j (omega arith) l)
  counts (false ∷ bs) i (suc k) j m l = ap₂ (λ a z. a + z) (same (i + k) j (omega arith) l) (counts bs i k j (omega arith) l)

  -- what is no half of the cycle is not handed out
  strange : (h : ℕ) → ((j : ℕ) → ¬ (W j ≡ h)) → (ps : List (Option ℕ)) → times h (map (option_map W) ps) ≡ 0
  strange h n [] = refl
  strange h n (None ∷ ps) = ap (λ z. 0 + z) (strange h n ps)
  strange h n (Some p ∷ ps) = ap₂ (λ a z. a + z) (hit_off h (W p) (n p)) (strange h n ps)

  whole : (bs : List Bool) → played step back H bs (fresh s) ≡ map (option_map W) (taken bs 0 K)
  whole bs = ap (played step back H bs) (ap (around s) (sym round.closed) ∙ sym (begins K round.some)) ∙ plays bs 0 K (omega arith)

  pub handed_out : ((i : ℕ) → Kind (W i)) → HandedOut H Kind (λ bs. played step back H bs (fresh s)) K
  handed_out stays = record {
    most = λ bs h l p. let q = round.every h l p in rw (whole bs, sym q.2, counts bs 0 K q.0 (omega arith) q.1) (few bs 0 K q.0);
    once = λ bs h l p m. let q = round.every h l p in rw (whole bs, sym q.2, counts bs 0 K q.0 (omega arith) q.1) (one bs 0 K q.0 (omega arith) (omega arith) m);
    others = λ bs h n. rw (whole bs) (strange h (λ j e. n (subst Kind e (stays j))) (taken bs 0 K));
    ends = λ bs i m. rw (whole bs) (get_or-map (option_map W) (taken bs 0 K) i None ∙ ap (option_map W) (silent bs 0 K i m));
  }
