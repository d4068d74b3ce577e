-- The links that the code reads: of tables, and of tables beside the entries that they link.
use Rattle.std.specs.Prelude.{ℕ, List, Result}
use Rattle.entry.specs.declared.fault.Cause.{Cause}
use Rattle.links.specs.declared.tables.Tables.{Tables}
use Rattle.links.specs.Links.{Links}
use Rattle.links.specs.Shelf.{seen}
use Rattle.links.specs.Tables.{held}

abbrev pub held_in : Tables → Links
held_in t = held t.words.now t.shape

-- with the places of entries of a kind, by how its scalars read
abbrev pub seen_in : {E Sc : Type 0} → (Sc → Result ℕ Cause) → (E → Sc) → (E → Sc) → Tables → List E → Links
seen_in reading across along t es = seen reading across along t.words.now t.shape es
