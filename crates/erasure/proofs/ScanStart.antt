-- The scan of the hull from its beginning to its end.
use Rattle.std.proofs.Common.{◌≡◌, ℕ, suc, ◌/◌, ◌<◌, ◌≤◌, Bool, true, false, cond, eqb, ltb, sym, refl, ap, ◌∙◌, subst, inl, inr, arith}
use Rattle.links.specs.Links.{Links, rev, halves, to, place}
use Rattle.links.specs.Rules.{Sound}
use Rattle.links.proofs.Decide.{dec_eq, dec_nat_lt, dec_and, any_out, never}
use Rattle.planar.specs.Star.{spoke, tip, Ring, Fan}
use Rattle.planar.proofs.Views.{ranges_of, weave_of, in_range, woven}
use Rattle.planar.proofs.Faces.{two}
use Rattle.planar.proofs.Rings.{spoke_origin}
use Rattle.delaunay.specs.Ring.{Next}
use Rattle.delaunay.specs.Start.{number}
use Rattle.delaunay.proofs.StarMesh.{star_mesh, scan_start, num_apex, num_tip, corner, across_at, no_below, live0, num1, num2}
use Rattle.surgery.proofs.Roots.{root, unroot}
use Rattle.surgery.proofs.Theorems.{all_live}
use Rattle.erasure.specs.Region.{Hole, Inside, Region}
use Rattle.erasure.specs.Inside.{next_on}
use Rattle.erasure.specs.Scan.{scanned}
use Rattle.erasure.specs.Hull.{star_hole, numbering}
use Rattle.erasure.proofs.Alike.{alike}
use Rattle.erasure.proofs.Contains.{contains_none}
use Rattle.erasure.proofs.Legalized.{framed_here}
use Rattle.erasure.proofs.Neighbours.{dec_next, with_border}
use Rattle.erasure.proofs.Scanning.{At, scan}

module _ (m : Links) (sd : Sound m) (f1 : 1 < m.f) (s last : ℕ) (sl : s < halves m) (r : Ring m s (suc last)) (fan : Fan m s last) where
  abbrev H : Hole
  H = star_hole m s last

  apex_num : numbering m s last (m.origin s) ≡ suc last
  unfolding numbering
  apex_num = num_apex m sd s last sl r fan s refl

  tip_num : (i : ℕ) → i < last → numbering m s last (to m (spoke m s i)) ≡ i
  unfolding numbering
  tip_num i l = num_tip m sd s last sl r fan (rev (spoke m s i)) i (omega arith) refl

  -- a half of the star has an inner face, and is a half of the map
  star_half : (h : ℕ) → Inside H h → (h < halves m) × (0 < m.face h)
  star_half h t =
      let p = (dec_and (dec_nat_lt h (halves m)) ((λ e. e), (λ e. e))).0 t in
      let a = any_out last (λ i. eqb (m.face h) (m.face (spoke m s i))) p.1 in
      (p.0, subst (λ g. 0 < g) (sym ((dec_eq (m.face h) (m.face (spoke m s a.0))).0 a.2)) (fan.inner a.0 a.1))

  begins : Region H m
  unfolding numbering
  begins = record {
    linked = root m _ _ _ (alike m (λ v. v < m.n) (λ v. ltb v m.n ≡ true) (λ k. k < m.e) (λ k. ltb k m.e ≡ true) (λ g. g < m.f) (λ g. ltb g m.f ≡ true)
        (λ v. ((dec_nat_lt v m.n).1, (dec_nat_lt v m.n).0)) (λ k. ((dec_nat_lt k m.e).1, (dec_nat_lt k m.e).0)) (λ g. ((dec_nat_lt g m.f).1, (dec_nat_lt g m.f).0))
        (unroot m _ _ _ m.e (λ k l. l) (all_live m (two m (ranges_of m sd) (weave_of m sd) s sl) (in_range m sd) (woven m sd) sd.parted)));
    below = λ k l. (dec_nat_lt k m.e).0 l;
    face_below = λ g l. (dec_nat_lt g m.f).0 l;
    live = λ h t. let l = (star_half h t).0 in (dec_nat_lt (h / 2) m.e).1 (omega arith);
    inner = λ h t q. let l = (star_half h t).1 in omega arith;
    mesh = with_border (Inside H) m.next rev (number m s last) (suc (suc last)) (Next (suc (suc last))) (λ a b. next_on (suc (suc last)) a b ≡ true) (λ a b. (dec_next (suc (suc last)) a b).1) (star_mesh m sd s last sl r fan);
    at = at;
    left = λ q. never q;
  }
    where
      high : (k : ℕ) → k < suc last → k ≡ suc last → ⊥
      high k l e = omega arith

      pick : (k : ℕ) → k < suc last → cond (eqb k (suc last)) (place m (m.origin s)) (tip m s k) ≡ tip m s k
      pick k l = go (eqb k (suc last)) refl
        where
          go : (b : Bool) → eqb k (suc last) ≡ b → cond b (place m (m.origin s)) (tip m s k) ≡ tip m s k
          go true e = absurd (high k l ((dec_eq k (suc last)).0 e))
          go false e = refl

      apex : (k : ℕ) → k ≡ suc last → cond (eqb k (suc last)) (place m (m.origin s)) (tip m s k) ≡ place m (m.origin s)
      apex k e = ap (λ b. cond b (place m (m.origin s)) (tip m s k)) ((dec_eq k (suc last)).1 e)

      at : (h : ℕ) → Inside H h → place m (m.origin h) ≡ cond (eqb (number m s last h) (suc last)) (place m (m.origin s)) (tip m s (number m s last h))
      at h t = elim (corner m sd s last sl r fan h t) [
        | inl c ↦ ap (place m) c.0 ∙ sym (apex (number m s last h) c.1)
        | inr c ↦ ap (place m) c.2 ∙ ap (tip m s) (sym c.3) ∙ sym (pick (number m s last h) (subst (λ k. k < suc last) (sym c.3) c.1))
      ]

  start : At m s last 0 (scanned m s 0)
  unfolding numbering
  start = record {
    kept = record {
      region = begins;
      framed = framed_here H m;
      flat = λ h o _. let c = across_at m sd s last sl r fan h o in ap (λ x. number m s last (m.next x)) c.2 ∙ num2 m sd s last sl r fan c.0 c.1 ∙ ap suc (sym (ap (number m s last) c.2 ∙ num1 m sd s last sl r fan c.0 c.1));
      ahead = λ i _ _. (spoke_origin m (ranges_of m sd) (weave_of m sd) s sl i, refl);
      flipped = λ h _ b. absurd (no_below m sd s last sl r fan (rev h) b);
      sided = λ k q. contains_none k q;
      none = inl (refl, refl);
    };
    done = (scan_start m sd s last sl r fan).done;
    strip = refl;
    full = λ h o b. let c = across_at m sd s last sl r fan h o in absurd (low (number m s last (m.next h)) c.0 (ap (λ x. number m s last (m.next x)) c.2 ∙ num2 m sd s last sl r fan c.0 c.1) b);
    few = omega arith;
  }
    where
      low : (k i : ℕ) → k ≡ suc i → k ≤ 0 → ⊥
      low k i e l = omega arith

  -- the scan comes to the last tip
  pub scanned_all : At m s last last (scanned m s last)
  scanned_all = scan m s last apex_num tip_num (λ i l. live0 m sd s last sl r fan i l) start last (omega arith)
