-- Around an entry of a sound map: its star, its chain and the other entries.
use Rattle.std.proofs.Common.{◌≡◌, ℕ, zero, suc, ◌+◌, ◌<◌, ◌≤◌, true, ◌⊎◌, pos, ◌≤ℤ◌, ◌<ℤ◌, sym, ap, ◌∙◌, subst, inl, inr, arith}
use Rattle.zring.proofs.Signs.{weaken, zero-≥, zero-≤, neg-≤, neg-<}
use Rattle.plane.specs.Plane.{Pt, S, far}
use Rattle.plane.proofs.Signs.{border_legal}
use Rattle.plane.proofs.Sides.{S-swap}
use Rattle.links.specs.Links.{Links, halves, to, place, rev, ccw}
use Rattle.links.specs.Rules.{Sound}
use Rattle.links.proofs.Halves.{rev_rev, rev_below}
use Rattle.planar.specs.Star.{spoke, tip, Inner}
use Rattle.planar.proofs.Views.{ranges_of, weave_of, Ranges, Weave, triangles_of}
use Rattle.planar.proofs.Terms.{S-back, S-first}
use Rattle.planar.proofs.Faces.{to_in, star_face, triangle}
use Rattle.planar.proofs.Rings.{spoke_in, spoke_origin}
use Rattle.planar.proofs.Spokes.{Pt-same?, far->, places_differ}
use Rattle.planar.proofs.Star.{turns_at, ordered, surrounded}
use Rattle.planar.proofs.Degree.{three_spokes}
use Rattle.planar.proofs.Convex.{star_empty}
use Rattle.planar.proofs.Weight.{small_place}
use Rattle.delaunay.specs.Erased.{InnerStar, InnerOthers, HullChain, HullOthers, ErasedInside, ErasedHull, BorderLegal}
use Rattle.delaunay.proofs.Holes.{filled}
use Rattle.delaunay.proofs.Apex.{capped}

module _ (m : Links) (sd : Sound m) (s : ℕ) (sl : s < halves m) where
  abbrev o : Pt
  o = place m (m.origin s)

  i_in : (i : ℕ) → spoke m s i < halves m
  i_in i = spoke_in m (ranges_of m sd) (weave_of m sd) s sl i

  tip_in : (i : ℕ) → to m (spoke m s i) < m.n
  tip_in i = to_in m (ranges_of m sd) (weave_of m sd) (spoke m s i) (i_in i)

  inner : Inner m (m.origin s) → (i : ℕ) → 0 < m.face (spoke m s i)
  inner inn i = inn (spoke m s i) (i_in i) (spoke_origin m (ranges_of m sd) (weave_of m sd) s sl i)

  elsewhere : (v : ℕ) → v < m.n → ¬ (v ≡ m.origin s) → pos 0 <ℤ far o (place m v)
  elsewhere v l d = far-> o (place m v) (λ e. d (places_differ m sd v (m.origin s) l ((ranges_of m sd).origin_names s sl) e))

pub inner_star : InnerStar
inner_star m sd s sl inn size r = record {
  three = three_spokes m sd s sl inn size r;
  closed = ap (λ h. place m (to m h)) r.closed;
  small = λ i _. small_place m (to m (spoke m s i)) (sd.placed (to m (spoke m s i)) (tip_in m sd s sl i));
  ahead = λ i _. turns_at m sd s sl i (inner m sd s sl inn i);
  around = ordered m sd s sl inn size r;
  empty = λ i l _ _. star_empty m sd s sl i (inner m sd s sl inn i) (to m (spoke m s l)) (tip_in m sd s sl l);
  sector = λ q. sector q (Pt-same? q (place m (m.origin s)));
}
  where
    p : ℕ → Pt
    p = tip m s

    some : 0 < size
    some = r.some

    sector : (q : Pt) → Dec (q ≡ place m (m.origin s)) → (i : ℕ) × (i < size) × (pos 0 ≤ℤ S (place m (m.origin s)) (p i) q) × (S (place m (m.origin s)) (p (suc i)) q ≤ℤ pos 0)
    sector q (yes e) =
        let at : (i : ℕ) → S (place m (m.origin s)) (p i) q ≡ pos 0 = λ i. ap (λ z. S (place m (m.origin s)) (p i) z) e ∙ S-first (place m (m.origin s)) (p i) in
        (0, some, zero-≥ (S (place m (m.origin s)) (p 0) q) (at 0), zero-≤ (S (place m (m.origin s)) (p 1) q) (at 1))
    sector q (no d) =
        let x = surrounded m sd s sl inn size r q d in
        let i = x.0 in
        (i, x.1, x.2, neg-≤ (S (place m (m.origin s)) (p (suc i)) q) (S (place m (m.origin s)) q (p (suc i))) (S-back (place m (m.origin s)) (p (suc i)) q) (weaken (pos 0) (S (place m (m.origin s)) q (p (suc i))) x.3))

pub inner_others : InnerOthers
inner_others m sd s sl inn v l d = (elsewhere m sd s sl v l d, λ i. star_empty m sd s sl i (inner m sd s sl inn i) v l)

pub hull_chain : HullChain
hull_chain m sd s sl last f = record {
  some = f.some;
  small = λ i _. small_place m (to m (spoke m s i)) (sd.placed (to m (spoke m s i)) (tip_in m sd s sl i));
  ahead = f.turns;
  fan = λ i j h l b. f.left i j h l (two i j l b);
  wide = f.first_side (to m (spoke m s last)) (tip_in m sd s sl last);
  empty = λ i l h _. star_empty m sd s sl i (f.inner i h) (to m (spoke m s l)) (tip_in m sd s sl l);
}
  where
    two : (i j : ℕ) → j ≤ last → j < i + last → (0 < i) ⊎ (j < last)
    two zero j l b = inr (omega arith)
    two (suc i) j l b = inl (omega arith)

pub hull_others : HullOthers
hull_others m sd s sl last f v l d = record {
  elsewhere = elsewhere m sd s sl v l d;
  after = f.first_side v l;
  before = f.last_side v l;
  out = λ i h. star_empty m sd s sl i (f.inner i h) v l;
}

pub erased_inside : ErasedInside
erased_inside m sd s sl inn size r live nx tw lab g ok h l =
    let f = filled ℕ (λ h. live h ≡ true) nx tw lab (place m (m.origin s)) (tip m s) size (inner_star m sd s sl inn size r) g ok h l in (
      f.left,
      λ v vl d. let q = inner_others m sd s sl inn v vl d in f.others (place m v) q.0 (λ i _. q.1 i),
    )

pub erased_hull : ErasedHull
erased_hull m sd s sl last f live nx tw lab g left ok right v vl d =
    let c = capped ℕ (λ h. live h ≡ true) nx tw lab last g (tip m s) left ok right (place m (m.origin s)) (hull_chain m sd s sl last f) in
    let q = hull_others m sd s sl last f v vl d in
    ((λ h b. c.others h (place m v) b q), (λ h a. c.hull_others h (place m v) a q))

pub border_stays : BorderLegal
border_stays m sd s sl i f outside x left round =
    border_legal (place m (m.origin s)) (tip m s i) (tip m s (suc i)) x (at q) (turns_at m sd s sl i f) left beyond round (star_empty m sd s sl i f q q_in)
  where
    at : ℕ → Pt
    at = place m

    r3 : Ranges m
    r3 = ranges_of m sd

    r4 : Weave m
    r4 = weave_of m sd

    h : ℕ
    h = spoke m s i

    hl : h < halves m
    hl = i_in m sd s sl i

    g : ℕ
    g = m.next h

    gl : g < halves m
    gl = r3.next_names h hl

    t : ℕ
    t = rev g

    tl : t < halves m
    tl = rev_below m.e g gl

    q : ℕ
    q = m.origin (m.next (m.next t))

    q_in : q < m.n
    q_in = r3.origin_names (m.next (m.next t)) (r3.next_names (m.next t) (r3.next_names t tl))

    -- from the second tip back to the first
    starts : m.origin t ≡ to m (ccw m h)
    starts = (star_face m r3 r4 (triangles_of m sd) h hl f).border_to

    goes : m.origin (m.next t) ≡ to m h
    goes = sym (r4.joins t tl) ∙ ap m.origin (rev_rev g) ∙ sym (r4.joins h hl)

    beyond : S (tip m s i) (tip m s (suc i)) (at q) <ℤ pos 0
    beyond =
        neg-< (S (tip m s i) (tip m s (suc i)) (at q)) (S (tip m s (suc i)) (tip m s i) (at q)) (S-swap (tip m s i) (tip m s (suc i)) (at q))
        (subst (λ v. pos 0 <ℤ S (tip m s (suc i)) (at v) (at q)) goes
        (subst (λ v. pos 0 <ℤ S (at v) (at (m.origin (m.next t))) (at q)) starts (triangle m r3 r4 (triangles_of m sd) t tl outside).turns))
