-- What an accepted draft is: its tables and the shelf's places are sound.
use Rattle.std.specs.Prelude.{◌≡◌, ℕ, ◌+◌, ◌<◌, ◌≤◌, ◌↔◌, List, length, None, Ok, Result}
use Rattle.entry.specs.declared.fault.EntryFault.{EntryFault}
use Rattle.links.specs.declared.shape.Shape.{Shape}
use Rattle.links.specs.Rules.{Sound}
use Rattle.links.specs.Tables.{size}
use Rattle.links.specs.Verdict.{verdict, judged}

-- rule 1's clauses on the shelf's count, the slice and the tables
pub record Roomy (w : List ℕ) (s : Shape) (count : ℕ) : Type 0 where
  pub counts : count ≡ s.n
  pub holds : size s ≤ length w
  pub entries : s.n ≤ s.entries
  pub edges : s.e + s.n ≤ s.edges
  pub faces : s.f + s.n ≤ s.faces

-- the places that are told are two whole numbers 0 to 16383
abbrev pub Gridded : (ℕ → Result (ℕ × ℕ) EntryFault) → Type 0
Gridded spot = (v x y : ℕ) → spot v ≡ Ok (x, y) → (x ≤ 16383) × (y ≤ 16383)

-- every entry below n has a place
abbrev pub EveryPlace : ℕ → (ℕ → Result (ℕ × ℕ) EntryFault) → Type 0
EveryPlace n spot = (v : ℕ) → v < n → (p : ℕ × ℕ) × (spot v ≡ Ok p)

-- a draft is accepted exactly if there is room, every entry has a place, and links and places are sound
abbrev pub AcceptedIfSound : Type 0
AcceptedIfSound =
    (w : List ℕ) (s : Shape) (count : ℕ) (spot : ℕ → Result (ℕ × ℕ) EntryFault) → Gridded spot
    → (verdict w s count spot ≡ None) ↔ (Roomy w s count × EveryPlace s.n spot × Sound (judged w s spot))
