-- Halves of faces: nx is the next half of the face, tw the other half of the edge, lab the number of the start on the ring.
use Rattle.std.specs.Prelude.{◌≡◌, ℕ, ◌⊎◌, pos, ◌≤ℤ◌}
use Rattle.plane.specs.Vec.{Vec, D}
use Rattle.delaunay.specs.Ring.{Cyc, Next}

-- Live h: h is a half of a face on the ring
pub record Halves (A : Type 0) (Live : A → Type 0) (nx tw : A → A) (lab : A → ℕ) (w : ℕ → Vec) (k : ℕ) : Type 0 where
  pub stays : (h : A) → Live h → Live (nx h)
  pub three : (h : A) → Live h → nx (nx (nx h)) ≡ h
  pub order : (h : A) → Live h → Cyc k (lab h) (lab (nx h)) (lab (nx (nx h)))
  pub over : (h : A) → Live h → Next k (lab h) (lab (nx h))
      ⊎ (Live (tw h) × (lab (tw h) ≡ lab (nx h)) × (lab (nx (tw h)) ≡ lab h)
      × (D (w (lab h)) (w (lab (nx h))) (w (lab (nx (nx h)))) (w (lab (nx (nx (tw h))))) ≤ℤ pos 0))
