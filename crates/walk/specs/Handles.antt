-- Small questions about a half.
use Rattle.std.specs.Prelude.{ℕ, Bool, cond, not, ◌&&◌, Some, None, Option, ◌==◌, nat_lt}
use Rattle.links.specs.Links.{Links, halves, to}

module _ (m : Links) where
  -- it lies in face 0
  abbrev pub is_outer : ℕ → Bool
  is_outer h = nat_lt h (halves m) && m.face h == 0

  -- the entry that it comes from, and that it leads to
  abbrev pub from_of : ℕ → Option ℕ
  from_of h = cond (nat_lt h (halves m)) (Some (m.origin h)) None

  abbrev pub to_of : ℕ → Option ℕ
  to_of h = cond (nat_lt h (halves m)) (Some (to m h)) None

  -- the entry across its face, which is the origin of its prev; none for an outer half
  abbrev pub opposite_of : ℕ → Option ℕ
  opposite_of h = cond (nat_lt h (halves m) && not (m.face h == 0)) (Some (m.origin (m.prev h))) None
