-- Dead records are removed: what stays is as before, under other numbers.
use Rattle.std.specs.Prelude.{◌≡◌, ℕ, suc, pred, ◌+◌, ◌/◌, ◌<◌, Bool, false, cond, ◌≢◌, ◌==◌}
use Rattle.links.specs.Links.{Links, place}
use Rattle.surgery.specs.Linked.{Linked}
use Rattle.surgery.specs.Renamed.{Renumbered}
use Rattle.surgery.specs.Shaped.{Shaped, Ruled}
use Rattle.surgery.specs.Sweep.{swap_remove_entry, cleanup, Staying, number, Others}
use Rattle.surgery.specs.Theorems.{On, Below}

-- the halves of an inner face are three
abbrev pub Three : Links → (ℕ → Type 0) → Type 0
Three L E = (h : ℕ) → E (h / 2) → L.face h ≢ 0 → (L.next h ≢ h) × (L.next (L.next (L.next h)) ≡ h)

-- dead edges and faces go, the highest first, and then an entry; the last entry takes its number
abbrev pub Cleans : Type 0
Cleans =
    (L : Links) (v : ℕ) (edge face : ℕ → Bool) → v < L.n → face 0 ≡ false
    → Linked L (Others L.n v) (Staying L.e edge) (Staying L.f face) → Three L (Staying L.e edge)
    → let K = swap_remove_entry v (cleanup edge face L) in
    Renumbered L K (Others L.n v) (Staying L.e edge) (Staying L.f face) (λ w. w < K.n) (λ k. k < K.e) (λ g. g < K.f)
    × (suc K.n ≡ L.n) × (K.e + number edge L.e ≡ L.e) × (K.f + number face L.f ≡ L.f)
    × ((w : ℕ) → w < K.n → place K w ≡ place L (cond (w == v) (pred L.n) w))

-- other numbers carry over the link rules, and what is said of faces and places
abbrev pub CarriesOver : Type 0
CarriesOver =
    (L L' : Links) (V E F V' E' F' : ℕ → Bool) (m : ℕ) → Below E m → Renumbered L L' (On V) (On E) (On F) (On V') (On E') (On F')
    → Linked L (On V) (On E) (On F)
    → Linked L' (On V') (On E') (On F') × (Shaped L (On V) (On E) → Shaped L' (On V') (On E')) × (Ruled L (On V) (On E) → Ruled L' (On V') (On E'))
