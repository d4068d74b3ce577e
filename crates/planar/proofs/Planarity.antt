-- At each entry, every direction lies in at most one sector: by counting how the faces go around it.
use mathlib.Core.Path.{◌≡◌, refl, sym, ◌∙◌, ap, ap₂, subst}
use mathlib.Core.Bool.{Bool, true, false}
use mathlib.Core.Logic.{◌⊎◌, inl, inr}
use Prim.Native.Nat.{ℕ, ◌<◌}
use native.Mathlib.Omega.{arith}
use native.Mathlib.Decide.{ℕ_discrete}
use lib.Dec.{eqb}
use lib.IntN.{ℤ, pos, negsuc, ◌+ℤ◌, neg_ℤ}
use lib.Signed.{◌≤ℤ◌, ◌<ℤ◌}
use borrow.Author.Differences.{ints}
use Rattle.zring.proofs.Signs.{neg_both, one-≥}
use Rattle.plane.specs.Plane.{Pt, S}
use Rattle.plane.proofs.Sides.{S-cyc, S-swap}
use Rattle.links.specs.Links.{Links, rev, halves, to, place}
use Rattle.links.proofs.Halves.{rev_rev}
use Rattle.planar.specs.Planarity.{Sector, Planar}
use Rattle.planar.proofs.Sums.{sum, when, sum_le, sum_add, sum_by, sum_pick, sum_most_one, sum_zero, when_same, when_other}
use Rattle.planar.proofs.Halves.{sum_halves}
use Rattle.planar.proofs.Count.{count, count_swap, count_triangle, count_sector, count_least, crossing, crossing_bit, crossing_one}
use Rattle.planar.proofs.Faces.{triangle, third, sum_face, corner_once, two, to_in}
use Rattle.planar.proofs.Hull.{either_way, on_lines, on_segment_between}
use Rattle.planar.proofs.Views.{Ranges, Triangles, Weave, Outside, ranges, weave, triangles, outside}

less : (p q : ℤ) → p ≤ℤ pos 0 → pos 0 <ℤ q → p <ℤ q
less p q h l = omega (arith, ints)

less_eq : (p q : ℤ) → p ≤ℤ pos 0 → pos 0 <ℤ q → p ≤ℤ q
less_eq p q h l = omega (arith, ints)

differ : (p q : ℤ) → p ≤ℤ pos 0 → pos 0 <ℤ q → p ≡ q → ⊥
differ p q h l e = omega (arith, ints)

-- ---- at most one outer half goes from the left of a line to its right
module _ (m : Links) (r3 : Ranges m) (r4 : Weave m) (u : Outside m) (o t : Pt) (h k : ℕ) (hl : h < halves m) (kl : k < halves m) (hf : m.face h ≡ 0) (kf : m.face k ≡ 0)
    (ha : pos 0 <ℤ S o t (place m (m.origin h))) (hb : S o t (place m (to m h)) ≤ℤ pos 0) (hc : pos 0 <ℤ S o t (place m (m.origin k))) (hd : S o t (place m (to m k)) ≤ℤ pos 0) where
  abbrev side : ℕ → ℤ
  side v = S o t (place m v)

  abbrev vs : ℕ → ℕ → ℕ → ℤ
  vs a b c = S (place m a) (place m b) (place m c)

  cd-b·ab-d : (vs (m.origin k) (to m k) (to m h) ≡ pos 0) × (vs (m.origin h) (to m h) (to m k) ≡ pos 0)
  cd-b·ab-d =
      on_lines o t (place m (m.origin h)) (place m (to m h)) (place m (m.origin k)) (place m (to m k)) ha hb hc hd
      (u.right k (m.origin h) kl kf (r3.origin_names h hl)) (u.right k (to m h) kl kf (to_in m r3 r4 h hl))
      (u.right h (m.origin k) hl hf (r3.origin_names k kl)) (u.right h (to m k) hl hf (to_in m r3 r4 k kl))

  same_to : to m h ≡ to m k
  same_to = elim (either_way (side (to m h)) (side (to m k))) [
    | inl l ↦ elim (u.clear h (to m k) hl hf (to_in m r3 r4 k kl)
        (on_segment_between o t (place m (m.origin h)) (place m (to m h)) (place m (to m k)) (less (side (to m h)) (side (m.origin h)) hb ha) l (less_eq (side (to m k)) (side (m.origin h)) hd ha) cd-b·ab-d.1)) [
          | inl e ↦ absurd (differ (side (to m k)) (side (m.origin h)) hd ha (ap side e))
          | inr e ↦ sym e
        ]
    | inr l ↦ elim (u.clear k (to m h) kl kf (to_in m r3 r4 h hl)
        (on_segment_between o t (place m (m.origin k)) (place m (to m k)) (place m (to m h)) (less (side (to m k)) (side (m.origin k)) hd hc) l (less_eq (side (to m h)) (side (m.origin k)) hb hc) cd-b·ab-d.0)) [
          | inl e ↦ absurd (differ (side (to m h)) (side (m.origin k)) hb hc (ap side e))
          | inr e ↦ e
        ]
  ]

  ab_c : vs (m.origin h) (to m h) (m.origin k) ≡ pos 0
  ab_c = neg_both (vs (m.origin h) (to m h) (m.origin k)) (vs (m.origin k) (to m h) (m.origin h))
      (S-cyc (place m (m.origin h)) (place m (to m h)) (place m (m.origin k)) ∙ S-swap (place m (to m h)) (place m (m.origin k)) (place m (m.origin h)))
      (u.right h (m.origin k) hl hf (r3.origin_names k kl))
      (subst (λ b. vs (m.origin k) b (m.origin h) ≤ℤ pos 0) (sym same_to) (u.right k (m.origin h) kl kf (r3.origin_names h hl)))

  cd_a : vs (m.origin k) (to m k) (m.origin h) ≡ pos 0
  cd_a = neg_both (vs (m.origin k) (to m k) (m.origin h)) (vs (m.origin h) (to m k) (m.origin k))
      (S-cyc (place m (m.origin k)) (place m (to m k)) (place m (m.origin h)) ∙ S-swap (place m (to m k)) (place m (m.origin h)) (place m (m.origin k)))
      (u.right k (m.origin h) kl kf (r3.origin_names h hl))
      (subst (λ b. vs (m.origin h) b (m.origin k) ≤ℤ pos 0) same_to (u.right h (m.origin k) hl hf (r3.origin_names k kl)))

  same_origin : m.origin h ≡ m.origin k
  same_origin = elim (either_way (side (m.origin k)) (side (m.origin h))) [
    | inl l ↦ elim (u.clear h (m.origin k) hl hf (r3.origin_names k kl)
        (on_segment_between o t (place m (m.origin h)) (place m (to m h)) (place m (m.origin k)) (less (side (to m h)) (side (m.origin h)) hb ha) (less_eq (side (to m h)) (side (m.origin k)) hb hc) l ab_c)) [
          | inl e ↦ sym e
          | inr e ↦ absurd (differ (side (to m h)) (side (m.origin k)) hb hc (ap side (sym e)))
        ]
    | inr l ↦ elim (u.clear k (m.origin h) kl kf (r3.origin_names h hl)
        (on_segment_between o t (place m (m.origin k)) (place m (to m k)) (place m (m.origin h)) (less (side (to m k)) (side (m.origin k)) hd hc) (less_eq (side (to m k)) (side (m.origin h)) hd ha) l cd_a)) [
          | inl e ↦ e
          | inr e ↦ absurd (differ (side (to m k)) (side (m.origin h)) hd ha (ap side (sym e)))
        ]
  ]

  pub outer_one : h ≡ k
  outer_one = u.only h k hl kl hf kf same_origin same_to

-- ---- the count
module _ (m : Links) (r3 : Ranges m) (r4 : Weave m) (r5 : Triangles m) (u : Outside m) (o t : Pt) where
  abbrev W : ℕ → ℤ
  W h = count o t (place m (m.origin h)) (place m (to m h))

  abbrev back : ℕ → ℤ
  back h = crossing o t (place m (to m h)) (place m (m.origin h))

  -- how often the face k goes around o, at t
  pub face_count : ℕ → ℤ
  face_count k = sum (halves m) (λ i. when (eqb (m.face i) k) (W i))

  turned_back : (h : ℕ) → W (rev h) ≡ neg_ℤ (W h)
  turned_back h =
      ap (λ i. count o t (place m (to m h)) (place m (m.origin i))) (rev_rev h) ∙ count_swap o t (place m (m.origin h)) (place m (to m h))

  total : sum m.f face_count ≡ pos 0
  unfolding face_count
  total = sym (sum_by (halves m) m.f m.face W r3.face_names) ∙ sum_halves m.e W turned_back

  -- over the corners of a face
  pub corners : (h : ℕ) → h < halves m → 0 < m.face h → face_count (m.face h)
      ≡ count o t (place m (m.origin h)) (place m (m.origin (m.next h))) +ℤ count o t (place m (m.origin (m.next h))) (place m (m.origin (m.next (m.next h))))
      +ℤ count o t (place m (m.origin (m.next (m.next h)))) (place m (m.origin h))
  unfolding face_count
  corners h l p =
      let i = r3.next_names h l in
      let j = r3.next_names (m.next h) i in
      sum_face m r3 r4 r5 W h l p
      ∙ ap₂ ◌+ℤ◌ (ap₂ ◌+ℤ◌ (ap (λ v. count o t (place m (m.origin h)) (place m v)) (r4.joins h l))
      (ap (λ v. count o t (place m (m.origin (m.next h))) (place m v)) (r4.joins (m.next h) i)))
      (ap (λ v. count o t (place m (m.origin (m.next (m.next h)))) (place m v)) (r4.joins (m.next (m.next h)) j ∙ ap m.origin (triangle m r3 r4 r5 h l p).closes))

  inner_count : (h : ℕ) → h < halves m → 0 < m.face h → pos 0 ≤ℤ face_count (m.face h)
  inner_count h l p =
      subst (λ z. pos 0 ≤ℤ z) (sym (corners h l p))
      (count_triangle o t (place m (m.origin h)) (place m (m.origin (m.next h))) (place m (m.origin (m.next (m.next h)))) (triangle m r3 r4 r5 h l p).turns)

  back_once : sum (halves m) (λ i. when (eqb (m.face i) 0) (back i)) ≤ℤ pos 1
  back_once = sum_most_one (halves m) (λ i. when (eqb (m.face i) 0) (back i)) bits lone
    where
      bit_of : (i : ℕ) → Dec (m.face i ≡ 0) → (when (eqb (m.face i) 0) (back i) ≡ pos 0) ⊎ (when (eqb (m.face i) 0) (back i) ≡ pos 1)
      bit_of i (yes e) = subst (λ z. (z ≡ pos 0) ⊎ (z ≡ pos 1)) (sym (when_same (m.face i) 0 (back i) e)) (crossing_bit o t (place m (to m i)) (place m (m.origin i)))
      bit_of i (no n) = inl (when_other (m.face i) 0 (back i) n)

      bits : (i : ℕ) → i < halves m → (when (eqb (m.face i) 0) (back i) ≡ pos 0) ⊎ (when (eqb (m.face i) 0) (back i) ≡ pos 1)
      bits i l = bit_of i (ℕ_discrete (m.face i) 0)

      zero_one : (z : ℤ) → z ≡ pos 0 → z ≡ pos 1 → ⊥
      zero_one z e q = omega (arith, ints)

      outer : (i : ℕ) → when (eqb (m.face i) 0) (back i) ≡ pos 1 → Dec (m.face i ≡ 0) → (m.face i ≡ 0) × (back i ≡ pos 1)
      outer i e (yes q) = (q, sym (when_same (m.face i) 0 (back i) q) ∙ e)
      outer i e (no n) = absurd (zero_one (when (eqb (m.face i) 0) (back i)) (when_other (m.face i) 0 (back i) n) e)

      lone : (i j : ℕ) → i < halves m → j < halves m → when (eqb (m.face i) 0) (back i) ≡ pos 1 → when (eqb (m.face j) 0) (back j) ≡ pos 1 → i ≡ j
      lone i j il jl p q =
          let a = outer i p (ℕ_discrete (m.face i) 0) in
          let b = outer j q (ℕ_discrete (m.face j) 0) in
          let c = crossing_one o t (place m (to m i)) (place m (m.origin i)) a.1 in
          let d = crossing_one o t (place m (to m j)) (place m (m.origin j)) b.1 in
          outer_one m r3 r4 u o t i j il jl a.0 b.0 c.1 c.0 d.1 d.0

  outer_count : negsuc 0 ≤ℤ face_count 0
  unfolding face_count sum
  outer_count = go (face_count 0) (sum (halves m) B) (subst (λ z. sum (halves m) (λ _. pos 0) ≤ℤ z) (sum_add (halves m) A B) (sum_le (halves m) (λ _. pos 0) (λ i. A i +ℤ B i) each)) back_once
      (nought (halves m))
    where
      A : ℕ → ℤ
      A i = when (eqb (m.face i) 0) (W i)

      B : ℕ → ℤ
      B i = when (eqb (m.face i) 0) (back i)

      both : (b : Bool) (p q : ℤ) → pos 0 ≤ℤ (p +ℤ q) → pos 0 ≤ℤ (when b p +ℤ when b q)
      both true p q h = h
      both false p q h = omega (arith, ints)

      each : (i : ℕ) → i < halves m → pos 0 ≤ℤ (A i +ℤ B i)
      each i l = both (eqb (m.face i) 0) (W i) (back i) (count_least o t (place m (m.origin i)) (place m (to m i)))

      nought : (k : ℕ) → sum k (λ _. pos 0) ≡ pos 0
      nought k = sum_zero k (λ _. pos 0) (λ i l. refl)

      go : (a b : ℤ) → sum (halves m) (λ _. pos 0) ≤ℤ (a +ℤ b) → b ≤ℤ pos 1 → sum (halves m) (λ _. pos 0) ≡ pos 0 → negsuc 0 ≤ℤ a
      go a b h l e = final (sum (halves m) (λ _. pos 0)) a b h l e
        where
          final : (s a b : ℤ) → s ≤ℤ (a +ℤ b) → b ≤ℤ pos 1 → s ≡ pos 0 → negsuc 0 ≤ℤ a
          final s a b h l e = omega (arith, ints)

  -- at most one inner face goes around o, at t
  pub one_face : (h k : ℕ) → h < halves m → k < halves m → 0 < m.face h → 0 < m.face k → pos 1 ≤ℤ face_count (m.face h) → pos 1 ≤ℤ face_count (m.face k) → m.face h ≡ m.face k
  one_face h k hl kl hp kp hc kc = go (ℕ_discrete (m.face h) (m.face k))
    where
      i : ℕ
      i = m.face h

      j : ℕ
      j = m.face k

      A : ℕ → ℤ
      A c = when (eqb i c) (pos 1)

      B : ℕ → ℤ
      B c = when (eqb j c) (pos 1)

      O : ℕ → ℤ
      O c = when (eqb 0 c) (negsuc 0)

      some : 0 < m.f
      some = let l = r3.face_names h hl in omega arith

      sums : sum m.f (λ c. (A c +ℤ B c) +ℤ O c) ≡ pos 1
      sums =
          sum_add m.f (λ c. A c +ℤ B c) O ∙ ap (λ z. z +ℤ sum m.f O) (sum_add m.f A B)
          ∙ ap₂ ◌+ℤ◌ (ap₂ ◌+ℤ◌ (sum_pick m.f i (λ _. pos 1) (r3.face_names h hl)) (sum_pick m.f j (λ _. pos 1) (r3.face_names k kl))) (sum_pick m.f 0 (λ _. negsuc 0) some)

      add : (p q r z : ℤ) (a b c : ℤ) → p ≡ a → q ≡ b → r ≡ c → (a +ℤ b +ℤ c) ≤ℤ z → ((p +ℤ q) +ℤ r) ≤ℤ z
      add p q r z a b c e f g h = omega (arith, ints)

      inner : (c : ℕ) → 0 < c → c < m.f → pos 0 ≤ℤ face_count c
      inner c p l =
          let n2 = two m r3 r4 h hl in
          let e = r4.adj_at c l n2 in
          subst (λ z. pos 0 ≤ℤ face_count z) e (inner_count (m.adj c) (r3.adj_in c l n2) (subst (λ z. 0 < z) (sym e) p))

      each : ¬ (i ≡ j) → (c : ℕ) → c < m.f → ((A c +ℤ B c) +ℤ O c) ≤ℤ face_count c
      each d c l = at_c (ℕ_discrete i c) (ℕ_discrete j c) (ℕ_discrete 0 c)
        where
          at_c : Dec (i ≡ c) → Dec (j ≡ c) → Dec (0 ≡ c) → ((A c +ℤ B c) +ℤ O c) ≤ℤ face_count c
          at_c (yes e) (yes g) q = absurd (d (e ∙ sym g))
          at_c (yes e) (no g) (yes q) = absurd (omega arith)
          at_c (yes e) (no g) (no q) = add (A c) (B c) (O c) (face_count c) (pos 1) (pos 0) (pos 0) (when_same i c (pos 1) e) (when_other j c (pos 1) g) (when_other 0 c (negsuc 0) q) (subst (λ z. pos 1 ≤ℤ face_count z) e hc)
          at_c (no e) (yes g) (yes q) = absurd (omega arith)
          at_c (no e) (yes g) (no q) = add (A c) (B c) (O c) (face_count c) (pos 0) (pos 1) (pos 0) (when_other i c (pos 1) e) (when_same j c (pos 1) g) (when_other 0 c (negsuc 0) q) (subst (λ z. pos 1 ≤ℤ face_count z) g kc)
          at_c (no e) (no g) (yes q) = add (A c) (B c) (O c) (face_count c) (pos 0) (pos 0) (negsuc 0) (when_other i c (pos 1) e) (when_other j c (pos 1) g) (when_same 0 c (negsuc 0) q) (subst (λ z. negsuc 0 ≤ℤ face_count z) q outer_count)
          at_c (no e) (no g) (no q) = add (A c) (B c) (O c) (face_count c) (pos 0) (pos 0) (pos 0) (when_other i c (pos 1) e) (when_other j c (pos 1) g) (when_other 0 c (negsuc 0) q) (inner c (omega arith) l)

      clash : (s z : ℤ) → s ≤ℤ z → s ≡ pos 1 → z ≡ pos 0 → ⊥
      clash s z h e f = omega (arith, ints)

      go : Dec (i ≡ j) → i ≡ j
      go (yes e) = e
      go (no d) = absurd (clash (sum m.f (λ c. (A c +ℤ B c) +ℤ O c)) (sum m.f face_count) (sum_le m.f (λ c. (A c +ℤ B c) +ℤ O c) face_count (each d)) sums total)

-- ---- the theorem
module _ (m : Links) (r3 : Ranges m) (r4 : Weave m) (r5 : Triangles m) (u : Outside m) where
  pub sector_count : (h : ℕ) (t : Pt) → h < halves m → 0 < m.face h → Sector m h t → face_count m r3 r4 r5 u (place m (m.origin h)) t (m.face h) ≡ pos 1
  sector_count h t l p s =
      let o = place m (m.origin h) in
      let to_h = r4.joins h l in
      corners m r3 r4 r5 u o t h l p
      ∙ count_sector o t (place m (m.origin (m.next h))) (place m (m.origin (m.next (m.next h)))) (triangle m r3 r4 r5 h l p).turns
      (subst (λ v. pos 0 ≤ℤ S o (place m v) t) to_h s.since)
      (subst (λ v. pos 0 <ℤ S o t (place m v)) (sym (third m r3 r4 r5 h l p)) s.until)

  pub one_sector : (h k : ℕ) (t : Pt) → h < halves m → k < halves m → 0 < m.face h → 0 < m.face k → m.origin h ≡ m.origin k → Sector m h t → Sector m k t → h ≡ k
  one_sector h k t hl kl hp kp e hs ks =
      let o = place m (m.origin h) in
      let c = face_count m r3 r4 r5 u in
      let same = one_face m r3 r4 r5 u o t h k hl kl hp kp (one-≥ (c o t (m.face h)) (sector_count h t hl hp hs))
      (one-≥ (c o t (m.face k)) (subst (λ v. c (place m v) t (m.face k) ≡ pos 1) (sym e) (sector_count k t kl kp ks))) in
      corner_once m r3 r4 r5 h k hl kl hp same e

pub planar : Planar
planar m r w t u c o = one_sector m (ranges m r) (weave m r w) (triangles m t) (outside m u c o)
