-- What walks hand out on a sound map that does not change.
use Rattle.std.specs.Prelude.{◌≡◌, ℕ, ◌<◌}
use Rattle.links.specs.Links.{Links, halves, cw, ccw}
use Rattle.links.specs.Rules.{Present, Sound}
use Rattle.walk.specs.Walking.{fresh, played, HandedOut}

-- from an entry: each half with that origin once, then none
abbrev pub AroundEntry : Type 0
AroundEntry =
    (m : Links) → Sound m → (v : ℕ) → v < m.n → Present (m.out v)
    → (size : ℕ) × HandedOut (halves m) (λ h. m.origin h ≡ v) (λ bs. played (ccw m) (cw m) (halves m) bs (fresh (m.out v))) size

-- along the hull: each half in face 0 once, then none
abbrev pub AlongHull : Type 0
AlongHull =
    (m : Links) → Sound m → Present (m.adj 0)
    → (size : ℕ) × HandedOut (halves m) (λ h. m.face h ≡ 0) (λ bs. played m.next m.prev (halves m) bs (fresh (m.adj 0))) size
