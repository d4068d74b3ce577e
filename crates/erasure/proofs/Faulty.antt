-- The faulty ports break sound maps, by computation.
use Rattle.std.proofs.Common.{◌≡◌, ℕ, Some, None, sym, refl, ◌∙◌, arith}
use Rattle.plane.specs.Plane.{S, C, dot}
use Rattle.links.specs.Links.{Links, rev}
use Rattle.links.specs.Rules.{Sound}
use Rattle.links.specs.Verdict.{link_rules}
use Rattle.links.specs.declared.fault.CheckFault.{CheckFault}
use Rattle.links.proofs.Law.{sound_by_tests, sound_passes}
use Rattle.surgery.specs.Update.{upd, flip}
use Rattle.surgery.specs.Removal.{renumber, carry_edge, fix_swap, move_edge, move_face, move_entry}
use Rattle.surgery.specs.Fan.{cut_ear}
use Rattle.erasure.specs.Compared.{read}
use Rattle.erasure.specs.Detach.{detach}
use Rattle.erasure.specs.Fill.{last_triangle}
use Rattle.erasure.specs.Worked.{centred}
use Rattle.erasure.specs.Faulty.{hub, FaultyPorts}

-- a map that breaks a clause is not sound
refused : (m : Links) (f : CheckFault) → link_rules m ≡ Some f → ¬ (Sound m)
refused m f e s = tells (sym (sound_passes m s) ∙ e)
  where
    tells : None ≡ Some f → ⊥
    tells q = let z : ◌≡◌ {A = ℕ} 0 1 = cc in omega arith

pub faulty_ports : FaultyPorts
unfolding S C dot rev upd flip renumber carry_edge fix_swap move_edge move_face move_entry cut_ear detach last_triangle
faulty_ports = (
  sound_by_tests (read centred) tt tt refl,
  sound_by_tests hub tt tt refl,
  (refl, refused _ _ refl),
  (refl, refused _ _ refl),
  (refl, refused _ _ refl),
)
