-- What a map holds.
use Rattle.std.specs.Prelude.{ℕ, Bool, if◌then◌else◌, nat_eq}
use Rattle.links.specs.Kept.{map_links}
use Rattle.links.specs.Links.{Links, none}
use Rattle.links.specs.Tables.{looked}
use Rattle.preset_map.specs.declared.map.Map.{Map}

-- its links: those of its tables, unless it is empty
abbrev pub links_of : Map → Links
links_of m = map_links m.words.now m.shape

-- the number at a place of its memory, if it belongs to its table; none in an empty map
abbrev pub number_of : Map → Bool → ℕ → ℕ
number_of m in_table at = if nat_eq m.shape.n 0 then none else looked m.words.now in_table at
