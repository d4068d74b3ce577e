-- The fan is a mesh on the ring of the hole.
use Rattle.std.proofs.Common.{◌≡◌, ℕ, zero, suc, ◌+◌, ◌-◌, ◌/◌, ◌<◌, ◌≤◌, true, ◌⊎◌, sym, refl, ap, ◌∙◌, subst, inl, inr, arith}
use Rattle.std.proofs.lemmas.Bool.{cases_lt}
use Rattle.links.specs.Links.{Links, rev}
use Rattle.links.proofs.Decide.{dec_eq, dec_and, dec_or}
use Rattle.links.proofs.Halves.{rev_rev, rev_even}
use Rattle.delaunay.specs.Ring.{Cyc, Next}
use Rattle.delaunay.specs.Mesh.{Mesh}
use Rattle.delaunay.specs.Start.{index}
use Rattle.delaunay.proofs.Cycle.{cyc_turn, cyc3}
use Rattle.delaunay.proofs.StarMesh.{index_at}
use Rattle.surgery.proofs.MoveEdge.{half_of}
use Rattle.erasure.specs.Inside.{next_on}
use Rattle.erasure.proofs.Alike.{Alike}
use Rattle.erasure.proofs.Fanned.{Rim, Fanned, top, back, Within}

-- neighbours on the ring
pub next_on_holds : (k a b : ℕ) → Next k a b → next_on k a b ≡ true
next_on_holds k a b = (dec_or (dec_eq (suc a) b) (dec_and (dec_eq (suc a) k) (dec_eq b 0))).1

module _ (D : Links) (V Dead Star : ℕ → Type 0) (k hole : ℕ) (b c : ℕ → ℕ) (R : Rim D V Dead Star k hole b c)
    (L : Links) (F : Fanned D V Dead Star k hole b c (k - 3) L) where
  three : 3 ≤ k
  three = R.three

  -- the ears and the last triangle, from 0 on: the half from the first entry, a half of the border, and the third
  abbrev third : ℕ → ℕ
  third a = L.next (b (suc a))

  abbrev lab : ℕ → ℕ
  lab h = index c k (L.origin h)

  third_is : (a : ℕ) → a ≤ k - 3 → ((a < k - 3) × (third a ≡ back D b a)) ⊎ ((suc (suc (suc a)) ≡ k) × (third a ≡ b (suc (suc a))))
  third_is a l = elim (cases_lt a (k - 3)) [ inl h ↦ inl (h, F.second a h) | inr h ↦ inr (omega arith, F.rest (suc a) (omega arith) (omega arith)) ]

  closes : (a : ℕ) → a ≤ k - 3 → L.next (third a) ≡ top D b a
  closes a l = elim (third_is a l) [
    | inl (h, q) ↦ ap L.next q ∙ F.third a h
    | inr (h, q) ↦ ap L.next q ∙ F.close (suc (suc a)) h ∙ ap (top D b) (let e : k - 3 ≡ a = omega arith in e)
  ]

  -- ---- their numbers
  lab_at : (h a : ℕ) → a < k → L.origin h ≡ c a → lab h ≡ a
  lab_at h a l e = index_at c k a (L.origin h) l R.differ (sym e)

  lab0 : (a : ℕ) → a ≤ k - 3 → lab (top D b a) ≡ 0
  lab0 a l = lab_at (top D b a) 0 (omega arith) (F.top_from a l)

  lab1 : (a : ℕ) → a < k → lab (b a) ≡ a
  lab1 a l = lab_at (b a) a l (F.from a l)

  third_from : (a : ℕ) → a ≤ k - 3 → L.origin (third a) ≡ c (suc (suc a))
  third_from a l = elim (third_is a l) [
    | inl (h, q) ↦ ap L.origin q ∙ F.back_from a h
    | inr (h, q) ↦ ap L.origin q ∙ F.from (suc (suc a)) (omega arith)
  ]

  lab2 : (a : ℕ) → a ≤ k - 3 → lab (third a) ≡ suc (suc a)
  lab2 a l = lab_at (third a) (suc (suc a)) (omega arith) (third_from a l)

  -- ---- which halves they are
  abbrev Hole : ℕ → Type 0
  Hole = Within D b k (k - 3)

  in0 : (a : ℕ) → a ≤ k - 3 → Hole (top D b a)
  unfolding top
  in0 zero l = inl (0, omega arith, refl)
  in0 (suc a) l = inr (omega arith, omega arith)

  in1 : (a : ℕ) → a < k → Hole (b a)
  in1 a l = inl (a, l, refl)

  in2 : (a : ℕ) → a ≤ k - 3 → Hole (third a)
  in2 a l = elim (third_is a l) [
    | inl (h, q) ↦ subst Hole (sym q) (inr (omega arith, omega arith))
    | inr (h, q) ↦ subst Hole (sym q) (in1 (suc (suc a)) (omega arith))
  ]

  -- a half of one of them
  pub record At (h : ℕ) : Type 0 where
    pub ear : ℕ
    pub few : ear ≤ k - 3
    pub which : (h ≡ top D b ear) ⊎ ((h ≡ b (suc ear)) ⊎ (h ≡ third ear))

  at : (h : ℕ) → Hole h → At h
  unfolding top
  at h (inl (zero, l, q)) = record { ear = 0; few = omega arith; which = inl q }
  at h (inl (suc a, l, q)) = elim (cases_lt a (k - 2)) [
    | inl g ↦ record { ear = a; few = omega arith; which = inr (inl q) }
    | inr g ↦ record { ear = k - 3; few = omega arith; which = inr (inr (q ∙ sym (elim (third_is (k - 3) (omega arith)) [ inl (i, r) ↦ absurd (omega arith) | inr (i, r) ↦ r ∙ ap b (let e : suc (suc (k - 3)) ≡ suc a = omega arith in e) ]))) }
  ]
  at h (inr (p, l)) = elim (half_of h (D.e + (h / 2 - D.e)) (omega arith)) [
    | inl q ↦ record { ear = h / 2 - D.e; few = omega arith; which = inr (inr (q ∙ sym (F.second (h / 2 - D.e) (omega arith)))) }
    | inr q ↦ record { ear = suc (h / 2 - D.e); few = omega arith; which = inl q }
  ]

  -- what holds at each of the three holds at every half
  each : (P : ℕ → Type 0) → ((a : ℕ) → a ≤ k - 3 → P (top D b a)) → ((a : ℕ) → a ≤ k - 3 → P (b (suc a))) → ((a : ℕ) → a ≤ k - 3 → P (third a)) → (h : ℕ) → Hole h → P h
  each P p0 p1 p2 h l = let t = at h l in elim t.which [
    | inl q ↦ subst P (sym q) (p0 t.ear t.few)
    | inr (inl q) ↦ subst P (sym q) (p1 t.ear t.few)
    | inr (inr q) ↦ subst P (sym q) (p2 t.ear t.few)
  ]

  -- ---- across each half
  abbrev Over : ℕ → Type 0
  Over h = (next_on k (lab h) (lab (L.next h)) ≡ true) ⊎ (Hole (rev h) × (lab (rev h) ≡ lab (L.next h)) × (lab (L.next (rev h)) ≡ lab h))

  lab_next : (a : ℕ) → a ≤ k - 3 → lab (L.next (top D b a)) ≡ suc a
  lab_next a l = ap lab (F.first a l) ∙ lab1 (suc a) (omega arith)

  lab_close : (a : ℕ) → a ≤ k - 3 → lab (L.next (third a)) ≡ 0
  lab_close a l = ap lab (closes a l) ∙ lab0 a l

  -- the new edge between two ears
  twin : (a : ℕ) → a < k - 3 → rev (third a) ≡ top D b (suc a)
  unfolding top
  twin a l = ap rev (F.second a l) ∙ rev_even (D.e + a)

  over0 : (a : ℕ) → a ≤ k - 3 → Over (top D b a)
  over0 zero l = inl (next_on_holds k _ _ (inl (ap suc (lab0 0 l) ∙ sym (lab_next 0 l))))
  over0 (suc a) l =
      let e : rev (top D b (suc a)) ≡ third a = sym (ap rev (twin a l)) ∙ rev_rev (third a) in
      let h : a ≤ k - 3 = omega arith in
      inr (subst Hole (sym e) (in2 a h), ap lab e ∙ lab2 a h ∙ sym (lab_next (suc a) l), ap (λ h. lab (L.next h)) e ∙ lab_close a h ∙ sym (lab0 (suc a) l))

  over1 : (a : ℕ) → a ≤ k - 3 → Over (b (suc a))
  over1 a l = inl (next_on_holds k _ _ (inl (ap suc (lab1 (suc a) (omega arith)) ∙ sym (lab2 a l))))

  over2 : (a : ℕ) → a ≤ k - 3 → Over (third a)
  over2 a l = elim (cases_lt a (k - 3)) [
    | inl h ↦ let e = twin a h in
        inr (subst Hole (sym e) (in0 (suc a) h), ap lab e ∙ lab0 (suc a) h ∙ sym (lab_close a l), ap (λ h. lab (L.next h)) e ∙ lab_next (suc a) h ∙ sym (lab2 a l))
    | inr h ↦ let e : suc (suc (suc a)) ≡ k = omega arith in inl (next_on_holds k _ _ (inr (ap suc (lab2 a l) ∙ e, lab_close a l)))
  ]

  -- ---- the mesh
  stays : (h : ℕ) → Hole h → Hole (L.next h)
  stays = each (λ h. Hole (L.next h)) (λ a l. subst Hole (sym (F.first a l)) (in1 (suc a) (omega arith))) in2 (λ a l. subst Hole (sym (closes a l)) (in0 a l))

  returns : (h : ℕ) → Hole h → L.next (L.next (L.next h)) ≡ h
  returns = each (λ h. L.next (L.next (L.next h)) ≡ h) (λ a l. ap (λ h. L.next (L.next h)) (F.first a l) ∙ closes a l)
      (λ a l. ap L.next (closes a l) ∙ F.first a l) (λ a l. ap (λ h. L.next (L.next h)) (closes a l) ∙ ap L.next (F.first a l))

  abbrev Order : ℕ → Type 0
  Order h = Cyc k (lab h) (lab (L.next h)) (lab (L.next (L.next h)))

  order0 : (a : ℕ) → a ≤ k - 3 → Order (top D b a)
  order0 a l = cyc3 k (sym (lab0 a l)) (sym (lab_next a l)) (sym (ap (λ h. lab (L.next h)) (F.first a l) ∙ lab2 a l)) (inl (omega arith, omega arith, omega arith))

  -- from half to half
  order_on : (h : ℕ) → L.next (L.next (L.next h)) ≡ h → Order h → Order (L.next h)
  order_on h e o = subst (λ g. Cyc k (lab (L.next h)) (lab (L.next (L.next h))) (lab g)) (sym e) (cyc_turn k (lab h) (lab (L.next h)) (lab (L.next (L.next h))) o)

  order1 : (a : ℕ) → a ≤ k - 3 → Order (b (suc a))
  order1 a l = subst Order (F.first a l) (order_on (top D b a) (returns (top D b a) (in0 a l)) (order0 a l))

  order2 : (a : ℕ) → a ≤ k - 3 → Order (third a)
  order2 a l = order_on (b (suc a)) (returns (b (suc a)) (in1 (suc a) (omega arith))) (order1 a l)

  -- the halves of the hole are called Live
  pub fan_mesh : (Live : ℕ → Type 0) → Alike Hole Live → Mesh ℕ Live L.next rev lab k (λ a b. next_on k a b ≡ true)
  fan_mesh Live same = record {
    stays = λ h l. (same _).0 (stays h ((same h).1 l));
    three = λ h l. returns h ((same h).1 l);
    back = rev_rev;
    order = λ h l. each Order order0 order1 order2 h ((same h).1 l);
    over = λ h l. elim (each Over over0 over1 over2 h ((same h).1 l)) [ inl e ↦ inl e | inr (i, p, q) ↦ inr ((same _).0 i, p, q) ];
  }

  -- each half starts where its number says
  pub starts : (h : ℕ) → Hole h → L.origin h ≡ c (lab h)
  starts = each (λ h. L.origin h ≡ c (lab h)) (λ a l. F.top_from a l ∙ ap c (sym (lab0 a l)))
      (λ a l. F.from (suc a) (omega arith) ∙ ap c (sym (lab1 (suc a) (omega arith)))) (λ a l. third_from a l ∙ ap c (sym (lab2 a l)))
