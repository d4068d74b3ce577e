-- The definition gives the tables of the Rust, by computation.
use Rattle.std.proofs.Common.{refl}
use Rattle.plane.specs.Plane.{S, C}
use Rattle.links.specs.Links.{rev}
use Rattle.surgery.specs.Update.{upd, flip}
use Rattle.surgery.specs.Removal.{renumber, carry_edge, fix_swap, move_edge, move_face, move_entry}
use Rattle.surgery.specs.Fan.{cut_ear}
use Rattle.erasure.specs.Detach.{detach}
use Rattle.erasure.specs.Fill.{last_triangle}
use Rattle.erasure.specs.Line.{unlinked, shorten, straighten}
use Rattle.erasure.specs.Corpus.{SameAsRust}

pub same_as_rust : SameAsRust
unfolding S C rev upd flip renumber carry_edge fix_swap move_edge move_face move_entry cut_ear detach last_triangle unlinked shorten straighten
same_as_rust = (
  (refl, refl),
  (refl, refl),
  (refl, refl),
  (refl, refl),
  (refl, refl),
  (refl, refl),
  (refl, refl),
  (refl, refl),
  (refl, refl),
  (refl, refl),
  (refl, refl),
  (refl, refl),
  (refl, refl),
  (refl, refl),
  (refl, refl),
  (refl, refl),
  (refl, refl),
  (refl, refl),
  (refl, refl),
  (refl, refl),
  (refl, refl),
  (refl, refl),
  (refl, refl),
  (refl, refl),
  (refl, refl),
  (refl, refl),
  (refl, refl),
  (refl, refl),
  (refl, refl),
  (refl, refl),
  (refl, refl),
  (refl, refl),
)
