-- Rule 6 from the others: an entry on a segment would be inside the circle of the face beside it.
use mathlib.Core.Path.{◌≡◌, sym, ◌∙◌, ap, subst}
use mathlib.Core.Logic.{◌⊎◌, inl, inr}
use Prim.Native.Nat.{ℕ, ◌+◌, ◌*◌, ◌≤◌, ◌<◌}
use native.Mathlib.Omega.{arith}
use native.Mathlib.Decide.{ℕ_discrete}
use lib.IntN.{ℤ, pos, ◌-ℤ◌, ◌*ℤ◌, *ℤ_comm, zero-*ℤ}
use lib.Signed.{◌≤ℤ◌, ◌<ℤ◌}
use borrow.Author.Differences.{ints}
use Rattle.zring.proofs.Signs.{mul->>, cancel-≥, sum_clash, both_zero}
use Rattle.plane.specs.Plane.{Pt, pt, S, C, dot}
use Rattle.plane.proofs.Sides.{S-cyc}
use Rattle.plane.proofs.Terms.{chord}
use Rattle.links.specs.Links.{Links, rev, halves, to, place}
use Rattle.links.specs.Rules as R
use Rattle.links.proofs.Halves.{rev_rev, rev_below, rev_even, rev_odd}
use Rattle.planar.specs.Parts.{CcwFaces, CircleRule}
use Rattle.planar.specs.Enough.{EdgeRule, Sixth, Enough, EnoughLine, EnoughEmpty}
use Rattle.planar.proofs.Faces.{triangle, to_in}
use Rattle.planar.proofs.Spokes.{parts_of_squares, length->, Pt-same?}
use Rattle.planar.proofs.Convex.{face_empty}
use Rattle.planar.proofs.Ends.{parts, differ as differ_by_ends}
use Rattle.planar.proofs.Views.{On, Ranges, Triangles, Edges, RightOf, Circles, Weave, on_in, on_swap, ranges, weave, triangles, right_in, circles_in, positive}

-- a place on the segment a b and not inside the circle of a, b and c is a or b
at_end : (a b c q : Pt) → pos 0 <ℤ S a b c → C a b c q ≤ℤ pos 0 → On a b q → (a ≡ q) ⊎ (b ≡ q)
at_end a b c q h l on = go (Pt-same? a q) (Pt-same? b q)
  where
    level : dot q a b ≡ pos 0
    level = both_zero (dot q a b) (cancel-≥ (S a b c) (dot q a b) h
        (subst (λ z. pos 0 ≤ℤ z) (*ℤ_comm (dot q a b) (S a b c)) (rest (C a b c q) (S a b q *ℤ dot c a b) (dot q a b *ℤ S a b c) (chord a b c q) (ap (λ z. z *ℤ dot c a b) on.line ∙ zero-*ℤ (dot c a b)) l))) on.between
      where
        rest : (x y z : ℤ) → x ≡ y -ℤ z → y ≡ pos 0 → x ≤ℤ pos 0 → pos 0 ≤ℤ z
        rest x y z e f l = omega (arith, ints)

    flat : S q a b ≡ pos 0
    flat = S-cyc q a b ∙ on.line

    go : Dec (a ≡ q) → Dec (b ≡ q) → (a ≡ q) ⊎ (b ≡ q)
    go (yes e) d = inl e
    go (no n) (yes e) = inr e
    go (no n) (no d) =
        absurd (sum_clash (dot q a a *ℤ dot q b b) (dot q a b *ℤ dot q a b) (S q a b *ℤ S q a b) (parts_of_squares q a b) (mul->> (dot q a a) (dot q b b) (length-> q a n) (length-> q b d))
        (ap (λ z. z *ℤ dot q a b) level ∙ zero-*ℤ (dot q a b)) (ap (λ z. z *ℤ S q a b) flat ∙ zero-*ℤ (S q a b)))

module _ (m : Links) (r3 : Ranges m) (r4 : Weave m) (r5 : Triangles m) (r7 : RightOf m) (r8 : Circles m) (f1 : 1 < m.f)
    (differ : (u v : ℕ) → u < m.n → v < m.n → place m u ≡ place m v → u ≡ v)
    (outer_only : (h k : ℕ) → h < halves m → k < halves m → m.face h ≡ 0 → m.face k ≡ 0 → m.origin h ≡ m.origin k → to m h ≡ to m k → h ≡ k) where
  ends_apart : (h : ℕ) → h < halves m → ¬ (place m (m.origin h) ≡ place m (to m h))
  ends_apart h l e = r4.ends h l (differ (m.origin h) (to m h) (r3.origin_names h l) (to_in m r3 r4 h l) e)

  inner_clear : (h w : ℕ) → h < halves m → w < m.n → 0 < m.face h → On (place m (m.origin h)) (place m (to m h)) (place m w) → (w ≡ m.origin h) ⊎ (w ≡ to m h)
  inner_clear h w l wl f on =
      let e = r4.joins h l in
      let t = (triangle m r3 r4 r5 h l f).turns in
      elim (at_end (place m (m.origin h)) (place m (to m h)) (place m (m.origin (m.next (m.next h)))) (place m w)
      (subst (λ i. pos 0 <ℤ S (place m (m.origin h)) (place m i) (place m (m.origin (m.next (m.next h))))) (sym e) t)
      (subst (λ i. C (place m (m.origin h)) (place m i) (place m (m.origin (m.next (m.next h)))) (place m w) ≤ℤ pos 0) (sym e) (face_empty m r3 r4 r5 r8 h w l f wl)) on) [
        | inl q ↦ inl (differ w (m.origin h) wl (r3.origin_names h l) (sym q))
        | inr q ↦ inr (differ w (to m h) wl (to_in m r3 r4 h l) (sym q))
      ]

  all_clear : (h w : ℕ) → h < halves m → w < m.n → On (place m (m.origin h)) (place m (to m h)) (place m w) → (w ≡ m.origin h) ⊎ (w ≡ to m h)
  all_clear h w l wl on = go (ℕ_discrete (m.face h) 0)
    where
      back : to m (rev h) ≡ m.origin h
      back = ap m.origin (rev_rev h)

      go : Dec (m.face h ≡ 0) → (w ≡ m.origin h) ⊎ (w ≡ to m h)
      go (no d) = inner_clear h w l wl (positive (m.face h) d) on
      go (yes z) =
          elim (inner_clear (rev h) w (rev_below m.e h l) wl (positive (m.face (rev h)) (λ q. parts m r3 r4 r5 r7 ends_apart f1 h l (z ∙ sym q)))
          (subst (λ i. On (place m (to m h)) (place m i) (place m w)) (sym back) (on_swap (place m (m.origin h)) (place m (to m h)) (place m w) on))) [
            | inl q ↦ inr q
            | inr q ↦ inl (q ∙ back)
          ]

  edges : Edges m
  edges = record {
    apart = ends_apart;
    only = differ_by_ends m r3 r4 r5 (record { right = r7; clear = λ h w l _ wl on. all_clear h w l wl on; only = outer_only }) ends_apart f1;
    clear = all_clear;
  }

  edge_rule : EdgeRule m
  edge_rule = record { apart = apart; single = single; clear = clear }
    where
      odd : (k : ℕ) → 2 * k + 1 ≡ rev (2 * k)
      odd k = sym (rev_even k)

      apart : (k : ℕ) → k < m.e → R.Apart m k
      apart k l (p, q) =
          edges.apart (2 * k) (omega arith) ((λ i. pt (pos (p i)) (pos (q i))) ∙ ap (λ h. place m (m.origin h)) (odd k))

      single : (k l : ℕ) → k < m.e → l < m.e → R.Single m k l
      single k l kl ll b (inl (p, q)) =
          let e = edges.only (2 * k) (2 * l) (omega arith) (omega arith) p (ap m.origin (sym (odd k)) ∙ q ∙ ap m.origin (odd l)) in omega arith
      single k l kl ll b (inr (p, q)) =
          let e = edges.only (2 * k) (2 * l + 1) (omega arith) (omega arith) p (ap m.origin (sym (odd k)) ∙ q ∙ ap m.origin (sym (rev_odd l))) in omega arith

      clear : (k v : ℕ) → k < m.e → v < m.n → R.Clear m k v
      clear k v l vl on =
          subst (λ h. (v ≡ m.origin (2 * k)) ⊎ (v ≡ m.origin h)) (sym (odd k))
          (edges.clear (2 * k) v (omega arith) vl
          (subst (λ h. On (place m (m.origin (2 * k))) (place m (m.origin h)) (place m v)) (odd k) (on_in (place m (m.origin (2 * k))) (place m (m.origin (2 * k + 1))) (place m v) on)))

pub sixth : Sixth
sixth m r w t u c f1 p o = edge_rule m (ranges m r) (weave m r w) (triangles m t) (right_in m u) (circles_in m c) f1 p o

pub enough : Enough
enough m count places some r w euler t u c f1 p o =
    let x = sixth m r w t u c f1 p o in
    record {
      counted = count;
      placed = places;
      out_named = r.out_named;
      half_named = r.half_named;
      adj_named = r.adj_named;
      out_rooted = r.out_rooted;
      adj_rooted = r.adj_rooted;
      undone = w.undone;
      shared = w.shared;
      joined = w.joined;
      around = w.around;
      along = w.along;
      parted = parted;
      ended = w.ended;
      euler = (none, λ _. euler);
      turned = t;
      apart = x.apart;
      single = x.single;
      clear = x.clear;
      hulled = u;
      empty = c;
    }
  where
    none : m.n ≡ 0 → (m.e ≡ 0) × (m.f ≡ 1)
    none e = absurd (omega arith)

    parted : (k : ℕ) → k < m.e → R.Parted m k
    parted k l _ e =
        parts m (ranges m r) (weave m r w) (triangles m t) (right_in m u) (ends_apart m (ranges m r) (weave m r w) (triangles m t) (right_in m u) (circles_in m c) f1 p o) f1 (2 * k) (omega arith)
        (e ∙ ap m.face (sym (rev_even k)))

-- without an inner face the rules on faces say nothing
module _ (m : Links) (f1 : m.f ≡ 1) where
  only_outer : (k : ℕ) → k < m.f → k ≡ 0
  only_outer k l = omega arith

  no_turn : CcwFaces m
  no_turn k l d = absurd (d (only_outer k l))

  no_circle : CircleRule m
  no_circle k v l _ d = absurd (d (only_outer k l))

  no_part : (k : ℕ) → k < m.e → R.Parted m k
  no_part k l f = absurd (omega arith)

pub enough_line : EnoughLine
enough_line m count places r w some f1 euler x u = record {
  counted = count;
  placed = places;
  out_named = r.out_named;
  half_named = r.half_named;
  adj_named = r.adj_named;
  out_rooted = r.out_rooted;
  adj_rooted = r.adj_rooted;
  undone = w.undone;
  shared = w.shared;
  joined = w.joined;
  around = w.around;
  along = w.along;
  parted = no_part m f1;
  ended = w.ended;
  euler = ((λ e. absurd (omega arith)), λ _. omega arith);
  turned = no_turn m f1;
  apart = x.apart;
  single = x.single;
  clear = x.clear;
  hulled = u;
  empty = no_circle m f1;
}

pub enough_empty : EnoughEmpty
enough_empty m r n0 e0 f1 = record {
  counted = (omega arith, omega arith, omega arith, omega arith);
  placed = λ v l. absurd (no_entry v l);
  out_named = r.out_named;
  half_named = r.half_named;
  adj_named = r.adj_named;
  out_rooted = r.out_rooted;
  adj_rooted = r.adj_rooted;
  undone = λ h l. absurd (no_half h l);
  shared = λ h l. absurd (no_half h l);
  joined = λ h l. absurd (no_half h l);
  around = λ v l. absurd (no_entry v l);
  along = λ k l. ((λ p. absurd (few ((r.adj_rooted k l).0 p))), λ h b _. absurd (no_half h b));
  parted = no_part m f1;
  ended = λ k l. absurd (no_edge k l);
  euler = ((λ _. (e0, f1)), λ d. absurd (d n0));
  turned = no_turn m f1;
  apart = λ k l. absurd (no_edge k l);
  single = λ k _ l. absurd (no_edge k l);
  clear = λ k _ l. absurd (no_edge k l);
  hulled = λ h _ l. absurd (no_half h l);
  empty = no_circle m f1;
}
  where
    no_entry : (v : ℕ) → v < m.n → ⊥
    no_entry v l = omega arith

    no_half : (h : ℕ) → h < halves m → ⊥
    no_half h l = omega arith

    no_edge : (k : ℕ) → k < m.e → ⊥
    no_edge k l = omega arith

    few : 2 ≤ m.n → ⊥
    few l = omega arith
