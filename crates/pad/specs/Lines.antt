-- How a script is cut into lines.
use Rattle.std.specs.Prelude.{◌≡◌, ◌⊎◌, ℕ, List, [], ◌∷◌, ◌++◌, Contains}

-- the byte that ends a line
abbrev pub line_feed : ℕ
line_feed = 10

-- the first line of a text, and the rest after its line feed
abbrev pub CutsLine : List ℕ → List ℕ → List ℕ → Type 0
CutsLine text line rest = ¬ (Contains line line_feed)
    × ((text ≡ line ++ line_feed ∷ rest) ⊎ ((text ≡ line) × (rest ≡ [])))
