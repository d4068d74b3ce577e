-- The two walks: their steps stay among the halves and keep their subject.
use Rattle.std.specs.Prelude.{◌≡◌, ℕ, zero, suc, ◌<◌, ◌≤◌, refl}
use Rattle.std.proofs.Common.{◌∙◌, subst, arith}
use Rattle.links.specs.Links.{Links, halves, cw, ccw, walk}
use Rattle.links.specs.Rules.{Sound}
use Rattle.links.proofs.Walks.{walk_in}
use Rattle.planar.proofs.Rings.{rings, borders, ccw_in, cw_ccw, spoke_origin}
use Rattle.planar.proofs.Views.{in_range, woven, ranges_of, weave_of}
use Rattle.walk.specs.Walking.{fresh, played, HandedOut}
use Rattle.walk.specs.Theorems.{AroundEntry, AlongHull}
use Rattle.walk.proofs.Rounds.{handed_out}

module _ (m : Links) (s : Sound m) where
  next_in : (h : ℕ) → h < halves m → m.next h < halves m
  next_in h l = (s.half_named h l).0

  -- the hull walk keeps the face
  faces : (h : ℕ) → h < halves m → (i : ℕ) → m.face (walk m.next i h) ≡ m.face h
  faces h l zero = refl
  faces h l (suc i) = s.shared (walk m.next i h) (walk_in (halves m) m.next next_in h l i) ∙ faces h l i

pub around_entry : AroundEntry
around_entry m s v l p =
    let h = m.out v in
    let b = s.out_named v l p in
    let o : m.origin h ≡ v = (s.around v l).0 p in
    let r3 = ranges_of m s in
    let r4 = weave_of m s in
    let r = rings m (in_range m s) (woven m s) h b in
    (r.0, subst (λ z. HandedOut (halves m) (λ k. m.origin k ≡ z) (λ bs. played (ccw m) (cw m) (halves m) bs (fresh h)) r.0) o (handed_out (ccw m) (cw m) (halves m) (cw_ccw m r3 r4) (ccw_in m r3 r4) (λ k. m.origin k ≡ m.origin h) h r.0 b r.1 (spoke_origin m r3 r4 h b)))

pub along_hull : AlongHull
along_hull m s p =
    let h = m.adj 0 in
    let f : 0 < m.f = outer s.counted.2 in
    let b = s.adj_named 0 f p in
    let o : m.face h ≡ 0 = (s.along 0 f).0 p in
    let r = borders m (in_range m s) (woven m s) h b in
    (r.0, subst (λ z. HandedOut (halves m) (λ k. m.face k ≡ z) (λ bs. played m.next m.prev (halves m) bs (fresh h)) r.0) o (handed_out m.next m.prev (halves m) (λ k d. (s.undone k d).0) (next_in m s) (λ k. m.face k ≡ m.face h) h r.0 b r.1 (faces m s h b)))
  where
    outer : 1 ≤ m.f → 0 < m.f
    outer l = omega arith
