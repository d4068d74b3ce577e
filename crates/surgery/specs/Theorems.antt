-- What keeps the link rules.
use Rattle.std.specs.Prelude.{◌≡◌, ℕ, ◌/◌, ◌<◌, ◌≤◌, Bool, true, ◌≢◌}
use Rattle.links.specs.Links.{Links, rev, Reached}
use Rattle.links.specs.Rules.{Parted}
use Rattle.planar.specs.Parts.{InRange, Woven}
use Rattle.planar.specs.Moved.{LiveLinks}
use Rattle.surgery.specs.Linked.{Linked}
use Rattle.surgery.specs.Update.{flip}
use Rattle.surgery.specs.Removal.{Without, move_edge, move_face, move_entry}
use Rattle.surgery.specs.Fan.{With, cut_ear}
use Rattle.surgery.specs.Cut.{Cut}
use Rattle.surgery.specs.Straight.{Straight}
use Rattle.surgery.specs.Renamed.{Renamed}

-- the numbers for which a test says yes (a statement over tests, unlike one over predicates, fits a contract)
abbrev pub On : (ℕ → Bool) → ℕ → Type 0
On b k = b k ≡ true

-- they are below m
abbrev pub Below : (ℕ → Bool) → ℕ → Type 0
Below b m = (k : ℕ) → On b k → k < m

-- the numbers with one owner reach each other
abbrev pub OneCycle : (ℕ → ℕ) → (ℕ → ℕ) → (ℕ → Bool) → Type 0
OneCycle step owner live = (h k : ℕ) → On live h → On live k → owner h ≡ owner k → Reached step h k

-- Cycles are carried over: each old step becomes some new steps through f, and each new number leads to an old one of its owner and is led to from one. g names the old owner of a new one.
abbrev pub Carries : Type 0
Carries =
    (s o s' o' f g : ℕ → ℕ) (P P' : ℕ → Bool) → OneCycle s o P → ((x : ℕ) → On P x → On P (s x)) → ((x : ℕ) → On P x → Reached s' (f x) (f (s x)))
    → ((h : ℕ) → On P' h → (a : ℕ) × (On P a × (o a ≡ g (o' h)) × Reached s' h (f a)))
    → ((k : ℕ) → On P' k → (b : ℕ) × (On P b × (o b ≡ g (o' k)) × Reached s' (f b) k))
    → OneCycle s' o' P'

-- the edge between two triangles of different faces is flipped
abbrev pub Flips : Type 0
Flips =
    (L : Links) (V E F : ℕ → Bool) (m e : ℕ) → Below E m → Linked L (On V) (On E) (On F) → On E (e / 2)
    → L.next (L.next e) ≡ L.prev e → L.next (L.next (rev e)) ≡ L.prev (rev e)
    → L.face e ≢ L.face (rev e) → L.origin (L.prev e) ≢ L.origin (L.prev (rev e))
    → Linked (flip L e) (On V) (On E) (On F)

-- an entry is cut out, inside, on the hull or at the end of a line
abbrev pub Cuts : Type 0
Cuts =
    (L L' : Links) (V E F V' E' F' : ℕ → Bool) (m v hole : ℕ) (star : ℕ → Bool) (spoke : ℕ → ℕ) → Below E m
    → Cut L L' (On V) (On E) (On F) (On V') (On E') (On F') v hole star spoke → Linked L (On V) (On E) (On F) → Linked L' (On V') (On E') (On F')

-- two halves of an inner face are cut off by a new edge
abbrev pub FanSteps : Type 0
FanSteps =
    (L : Links) (V E F : ℕ → Bool) (m i : ℕ) → Below E m → (On E L.e → ⊥) → (On F L.f → ⊥) → On E (i / 2) → L.face i ≢ 0
    → L.origin i ≢ L.origin (L.next (L.next i)) → Linked L (On V) (On E) (On F) → Linked (cut_ear L i) (On V) (With (On E) L.e) (With (On F) L.f)

-- an entry in the middle of a line goes
abbrev pub Straightens : Type 0
Straightens =
    (L L' : Links) (V E F V' E' : ℕ → Bool) (m v e1 t1 e2 r2 a y A Y : ℕ) → Below E m → Straight L L' (On V) (On E) (On F) (On V') (On E') v e1 t1 e2 r2 a y A Y
    → Linked L (On V) (On E) (On F) → Linked L' (On V') (On E') (On F)

-- records get new numbers
abbrev pub Renumbers : Type 0
Renumbers =
    (L L' : Links) (V E F V' E' F' : ℕ → Bool) (m : ℕ) (pv qv ph qh pf qf : ℕ → ℕ) → Below E m
    → Renamed L L' (On V) (On E) (On F) (On V') (On E') (On F') pv qv ph qh pf qf → Linked L (On V) (On E) (On F) → Linked L' (On V') (On E') (On F')

-- the last edge takes the number of a dead one
abbrev pub MovesEdge : Type 0
MovesEdge =
    (L : Links) (V E F : ℕ → Bool) (m d : ℕ) → ((k : ℕ) → On E k → k ≤ m) → Linked L (On V) (On E) (On F) → On E m → (On E d → ⊥)
    → Linked (move_edge m d L) (On V) (Without (On E) m d) (On F)

-- the last face, an inner one, takes the number of a dead one
abbrev pub MovesFace : Type 0
MovesFace =
    (L : Links) (V E F : ℕ → Bool) (u m d : ℕ) → Below E u → Linked L (On V) (On E) (On F) → On F m → m ≢ 0 → (On F d → ⊥)
    → L.next (L.next (L.adj m)) ≡ L.prev (L.adj m) → Linked (move_face m d L) (On V) (On E) (Without (On F) m d)

-- the last entry takes the number of a dead one
abbrev pub MovesEntry : Type 0
MovesEntry =
    (L : Links) (V E F : ℕ → Bool) (u m d : ℕ) → Below E u → Linked L (On V) (On E) (On F) → On V m → (On V d → ⊥)
    → Linked (move_entry m d L) (Without (On V) m d) (On E) (On F)

-- everything below the counts lives
abbrev pub AllLinked : Links → Type 0
AllLinked L = Linked L (λ v. v < L.n) (λ k. k < L.e) (λ g. g < L.f)

-- rules 3 and 4 of a map are the link rules where all below the counts lives
abbrev pub AllLive : Type 0
AllLive = (m : Links) → 2 ≤ m.n → InRange m → Woven m → ((k : ℕ) → k < m.e → Parted m k) → AllLinked m

-- and back, where there are not too many edges
abbrev pub AllLiveBack : Type 0
AllLiveBack = (m : Links) → 2 ≤ m.n → m.e ≤ 12288 → AllLinked m → InRange m × Woven m × ((k : ℕ) → k < m.e → Parted m k)

-- the link rules over live records are those that new numbers carry over
abbrev pub LiveLinked : Type 0
LiveLinked = (L : Links) (V E F : ℕ → Bool) → Linked L (On V) (On E) (On F) → LiveLinks L V (λ h. E (h / 2)) F
