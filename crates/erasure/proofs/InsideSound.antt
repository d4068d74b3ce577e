-- The erasure of an entry that is not on the hull gives a sound map.
use Rattle.std.proofs.Common.{◌≡◌, ℕ, zero, suc, pred, ◌+◌, ◌-◌, ◌*◌, ◌<◌, ◌≤◌, cond, eqb, ltb, length, refl, ap, arith}
use Rattle.links.specs.Links.{Links, rev, place}
use Rattle.links.specs.Rules.{Sound}
use Rattle.planar.specs.Star.{spoke, Ring, Inner}
use Rattle.planar.proofs.Views.{in_range, woven, ranges_of, weave_of, triangles_of, positive}
use Rattle.planar.proofs.Faces.{two, triangle}
use Rattle.surgery.specs.Cleaned.{Three}
use Rattle.surgery.specs.Sound.{star_of}
use Rattle.surgery.specs.Sweep.{number}
use Rattle.surgery.proofs.Theorems.{all_live}
use Rattle.erasure.specs.Fill.{new_edges}
use Rattle.erasure.specs.Legalize.{legalize, turns}
use Rattle.erasure.specs.Region.{Inside, LawfulIn, Region}
use Rattle.erasure.specs.Inside.{spokes, dead_edge, inner_hole, AroundHole, Fills}
use Rattle.erasure.specs.Erased.{filled, erase_inside}
use Rattle.erasure.proofs.Legalized.{legalizes}
use Rattle.erasure.proofs.Finish.{in_halves}
use Rattle.erasure.proofs.Removed.{Ready, sound_left, entries_left, places_left}
use Rattle.erasure.proofs.SpokeCount.{Spokes, ring_spokes, edges_at, faces_at, number_below}
use Rattle.erasure.proofs.InsideShaped.{s_in, s_from, around_framed, linked, place_same, shaped}

-- a map with an entry and an inner face has two entries
pub two_entries : (m : Links) → Sound m → 1 < m.f → (v : ℕ) → v < m.n → 2 ≤ m.n
two_entries m sd f1 v vl = two m (ranges_of m sd) (weave_of m sd) 0 (let e = sd.euler.1 (λ z. absurd (omega arith)) in omega arith)

-- its inner faces have three halves
pub three_each : (m : Links) → Sound m → Three m (λ k. k < m.e)
three_each m sd h l d =
    let t = triangle m (ranges_of m sd) (weave_of m sd) (triangles_of m sd) h (in_halves h m.e l) (positive (m.face h) d) in
    (t.moves, t.closes)

new_edges_length : (e j : ℕ) → length (new_edges e j) ≡ j
new_edges_length e zero = refl
new_edges_length e (suc j) = ap suc (new_edges_length e j)

module _ (m : Links) (sd : Sound m) (v : ℕ) (vl : v < m.n) (n2 : 2 ≤ m.n) (inn : Inner m v) where
  -- an inner entry has as many edges, and as many faces, as spokes
  module _ (size : ℕ) (r : Ring m (m.out v) size) where
    around : Spokes m v size (spoke m (m.out v))
    around = ring_spokes m sd v (m.out v) (s_in m sd v vl n2 inn) (s_from m sd v vl n2 inn) size r

    pub dead_edges : (bound : ℕ) → m.e ≤ bound → number (dead_edge m v) bound ≡ size
    dead_edges = edges_at m v size (spoke m (m.out v)) around (weave_of m sd).ends

    pub dead_faces : (bound : ℕ) → m.f ≤ bound → number (star_of m v) bound ≡ size
    dead_faces =
        faces_at m v size (spoke m (m.out v)) around (all_live m n2 (in_range m sd) (woven m sd) sd.parted) (three_each m sd) size (omega arith)
        (λ i l. inn _ (around.below i l) (around.from i l)) (λ i l b. absurd (omega arith))

    -- there are three inner faces at least
    many_faces : 3 ≤ size → 3 < m.f
    many_faces t = more (number_below (star_of m v) refl m.f (omega (arith, sd.counted.2))) (dead_faces m.f (omega arith))
      where
        more : {x : ℕ} → x < m.f → x ≡ size → 3 < m.f
        more p q = omega arith

  -- all is ready for the removal
  module _ (L : Links) (R : Region (inner_hole m v) L) (A : AroundHole m v L)
      (legal : (h : ℕ) → Inside (inner_hole m v) h → Inside (inner_hole m v) (rev h) → LawfulIn (inner_hole m v) L h) where
    ready : Ready m L v (dead_edge m v) (star_of m v) (spokes m v) (spokes m v)
    ready = record {
      n = A.n;
      at = place_same m sd v vl n2 inn L R A legal;
      outer = refl;
      linked = linked m sd v vl n2 inn L R A legal;
      shaped = shaped m sd v vl n2 inn L R A legal;
      edges = dead_edges (spokes m v) A.ring L.e (omega (arith, A.e));
      faces = dead_faces (spokes m v) A.ring L.f (omega (arith, A.f));
    }

-- the hole is filled and made legal
legal_hole : Fills → (m : Links) → Sound m → 1 < m.f → (v : ℕ) → v < m.n → Inner m v
    → let L = legalize turns (λ k. ltb k m.e) (new_edges m.e (spokes m v - 3)) (filled m v) in
    Region (inner_hole m v) L × AroundHole m v L × ((h : ℕ) → Inside (inner_hole m v) h → Inside (inner_hole m v) (rev h) → LawfulIn (inner_hole m v) L h)
legal_hole fills m sd f1 v vl inn =
    let F = fills m sd f1 v vl inn in
    let D = legalizes (inner_hole m v) (filled m v) (new_edges m.e (spokes m v - 3)) (λ k. ltb k m.e) F.0 F.1 F.2 F.3
    (few _ m.f (spokes m v) m.e F.4.f F.4.ring.few sd.counted.1 sd.counted.3)
    (short _ (spokes m v) m.e (new_edges_length m.e (spokes m v - 3)) F.4.ring.few sd.counted.1) in
    (D.0, around_framed m sd v vl (two_entries m sd f1 v vl) inn (filled m v) _ F.4 D.1, D.2)
  where
    few : (x f k e : ℕ) → x ≡ f + (k - 2) → k ≤ 2 * e → e ≤ 12288 → f ≤ 8192 → x ≤ 65536
    few x f k e p q r t = omega arith

    short : (x k e : ℕ) → x ≡ k - 3 → k ≤ 2 * e → e ≤ 12288 → x ≤ 65536
    short x k e p q r = omega arith

-- what is left after the removal
module _ (fills : Fills) (m : Links) (sd : Sound m) (f1 : 1 < m.f) (v : ℕ) (vl : v < m.n) (inn : Inner m v) where
  abbrev L : Links
  L = legalize turns (λ k. ltb k m.e) (new_edges m.e (spokes m v - 3)) (filled m v)

  n2 : 2 ≤ m.n
  n2 = two_entries m sd f1 v vl

  A : AroundHole m v L
  A = (legal_hole fills m sd f1 v vl inn).1

  hole_ready : Ready m L v (dead_edge m v) (star_of m v) (spokes m v) (spokes m v)
  hole_ready = let X = legal_hole fills m sd f1 v vl inn in ready m sd v vl n2 inn L X.0 X.1 X.2

  pub inside_sound : Sound (erase_inside m v)
  inside_sound =
      sound_left m L v (dead_edge m v) (star_of m v) (spokes m v) (spokes m v) sd vl hole_ready (edges (spokes m v) L.e A.e) (faces (spokes m v) L.f A.f)
      (more (spokes m v) L.f A.f A.three (many_faces m sd v vl n2 inn (spokes m v) A.ring A.three))
      (balance (spokes m v) L.e L.f A.e A.f A.three (sd.euler.1 (λ z. absurd (omega arith))))
    where
      edges : (k e : ℕ) → e ≡ m.e + (k - 3) → e ≤ m.e + k
      edges k e q = omega arith

      faces : (k f : ℕ) → f ≡ m.f + (k - 2) → f ≤ m.f + k
      faces k f q = omega arith

      more : (k f : ℕ) → f ≡ m.f + (k - 2) → 3 ≤ k → 3 < m.f → suc k < f
      more k f q t u = omega arith

      balance : (k e f : ℕ) → e ≡ m.e + (k - 3) → f ≡ m.f + (k - 2) → 3 ≤ k → m.n + m.f ≡ m.e + 2 → m.n + f + k ≡ e + k + 3
      balance k e f p q t u = omega arith

  -- the last entry takes the place of v
  pub inside_places : (suc (erase_inside m v).n ≡ m.n) × ((w : ℕ) → w < (erase_inside m v).n → place (erase_inside m v) w ≡ place m (cond (eqb w v) (pred m.n) w))
  inside_places = (
    entries_left m L v (dead_edge m v) (star_of m v) (spokes m v) (spokes m v) sd vl hole_ready,
    places_left m L v (dead_edge m v) (star_of m v) (spokes m v) (spokes m v) sd vl hole_ready,
  )
