-- The hole of an entry on the hull: s is the first spoke after the outer one, and last the number of the outer one.
use Rattle.std.specs.Prelude.{ℕ, suc, true, false, cond, not, ◌&&◌, ◌==◌, nat_lt}
use Rattle.links.specs.Links.{Links, to, place}
use Rattle.planar.specs.Star.{spoke, tip}
use Rattle.delaunay.specs.Start.{index, in_star}
use Rattle.surgery.specs.Sound.{star_of}
use Rattle.erasure.specs.Spokes.{spoked}
use Rattle.erasure.specs.Region.{Hole}
use Rattle.erasure.specs.Inside.{next_on}

module _ (m : Links) (s last : ℕ) where
  -- the number of an entry: the tips from 0 on; all others, the entry itself among them, have the number after the last
  unfoldable pub numbering : ℕ → ℕ
  numbering = index (λ i. to m (spoke m s i)) (suc last)

  -- while the hull is scanned: the star, with the entry as its apex
  abbrev pub star_hole : Hole
  star_hole = record {
    o = place m (m.origin s);
    p = λ i. cond (i == suc last) (place m (m.origin s)) (tip m s i);
    size = suc (suc last);
    lab = numbering;
    border = next_on (suc (suc last));
    inside = in_star m s last;
    entries = λ w. nat_lt w m.n;
    edges = λ k. nat_lt k m.e;
    faces = λ g. nat_lt g m.f;
    turning = false;
  }

  -- after the entry was cut off from L: the faces of the star that the scan has cut off
  abbrev pub cut_hole : Links → Hole
  cut_hole L = record {
    o = place m (m.origin s);
    p = tip m s;
    size = suc last;
    lab = numbering;
    border = λ _ _. true;
    inside = λ h. in_star m s last h && not (star_of L (m.origin s) (L.face h));
    entries = λ w. nat_lt w m.n && not (w == m.origin s);
    edges = λ k. nat_lt k m.e && not (spoked L (m.origin s) k);
    faces = λ g. nat_lt g m.f && not (star_of L (m.origin s) g);
    turning = true;
  }
