-- The clauses of the rules as tests of one record, or of a pair.
use Rattle.std.specs.Prelude.{ℕ, zero, suc, ◌+◌, ◌*◌, Bool, true, false, not, ◌&&◌, ◌||◌, pos, ◌==◌, int_le, int_lt, nat_eq, nat_le, nat_lt}
use Rattle.plane.specs.Plane.{S, C, on_segment}
use Rattle.links.specs.Links.{Links, none, halves, to, ccw, place, walk}
use Rattle.links.specs.Rules.{corner0, corner1, corner2, end0, end1}

-- t holds of each number below k
abbrev pub all : ℕ → (ℕ → Bool) → Bool
all zero t = true
all (suc k) t = elim (t k) [ true ↦ all k t | false ↦ false ]

-- t holds of some number below k
abbrev pub any : ℕ → (ℕ → Bool) → Bool
any zero t = false
any (suc k) t = elim (t k) [ true ↦ true | false ↦ any k t ]

-- if a then b
abbrev pub implies : Bool → Bool → Bool
implies true b = b
implies false b = true

-- both or neither
abbrev pub same : Bool → Bool → Bool
same true b = b
same false b = not b

abbrev pub present : ℕ → Bool
present i = not (i == none)

-- k is reached from s in fewer steps than the bound
abbrev pub reaches : (ℕ → ℕ) → ℕ → ℕ → ℕ → Bool
reaches step bound s k = any bound (λ j. nat_eq (walk step j s) k)

module _ (m : Links) where
  abbrev pub counted : Bool
  counted = nat_le m.n 4096 && nat_le m.e 12288 && nat_le 1 m.f && nat_le m.f 8192

  abbrev pub named : ℕ → Bool
  named i = implies (present i) (nat_lt i (halves m))

  abbrev pub half_named : ℕ → Bool
  half_named h = nat_lt (m.next h) (halves m) && nat_lt (m.prev h) (halves m) && nat_lt (m.face h) m.f && nat_lt (m.origin h) m.n

  abbrev pub rooted : ℕ → Bool
  rooted i = same (present i) (nat_le 2 m.n)

  abbrev pub undone : ℕ → Bool
  undone h = m.prev (m.next h) == h && m.next (m.prev h) == h

  abbrev pub shared : ℕ → Bool
  shared h = m.face (m.next h) == m.face h

  abbrev pub joined : ℕ → Bool
  joined h = to m h == m.origin (m.next h)

  abbrev pub cycle : (ℕ → ℕ) → (ℕ → ℕ) → ℕ → ℕ → Bool
  cycle step owner k s =
      implies (present s) (owner s == k)
      && all (halves m) (λ h. implies (owner h == k) (present s && reaches step (halves m) s h))

  abbrev pub around : ℕ → Bool
  around v = cycle (ccw m) m.origin v (m.out v)

  abbrev pub along : ℕ → Bool
  along k = cycle m.next m.face k (m.adj k)

  abbrev pub parted : ℕ → Bool
  parted k = implies (nat_lt 1 m.f) (not (m.face (2 * k) == m.face (2 * k + 1)))

  abbrev pub ended : ℕ → Bool
  ended k = not (m.origin (2 * k) == m.origin (2 * k + 1))

  abbrev pub euler : Bool
  euler = implies (m.n == 0) (m.e == 0 && m.f == 1) && implies (not (m.n == 0)) (m.n + m.f == m.e + 2)

  abbrev pub turned : ℕ → Bool
  turned k =
      implies (not (k == 0))
      (not (m.next (m.adj k) == m.adj k) && m.next (m.next (m.next (m.adj k))) == m.adj k
      && int_lt (pos 0) (S (corner0 m (m.adj k)) (corner1 m (m.adj k)) (corner2 m (m.adj k))))

  abbrev pub apart : ℕ → Bool
  apart k = not (m.x (m.origin (2 * k)) == m.x (m.origin (2 * k + 1)) && m.y (m.origin (2 * k)) == m.y (m.origin (2 * k + 1)))

  abbrev pub twins : ℕ → ℕ → Bool
  twins k l =
      (m.origin (2 * k) == m.origin (2 * l) && m.origin (2 * k + 1) == m.origin (2 * l + 1))
      || (m.origin (2 * k) == m.origin (2 * l + 1) && m.origin (2 * k + 1) == m.origin (2 * l))

  abbrev pub single : ℕ → ℕ → Bool
  single k l = implies (nat_lt k l) (not (twins k l))

  abbrev pub clear : ℕ → ℕ → Bool
  clear k v = implies (on_segment (end0 m k) (end1 m k) (place m v)) (v == m.origin (2 * k) || v == m.origin (2 * k + 1))

  abbrev pub hulled : ℕ → ℕ → Bool
  hulled h v = implies (m.face h == 0) (int_le (S (place m (m.origin h)) (place m (to m h)) (place m v)) (pos 0))

  abbrev pub empty : ℕ → ℕ → Bool
  empty k v =
      implies (not (k == 0)) (int_le (C (corner0 m (m.adj k)) (corner1 m (m.adj k)) (corner2 m (m.adj k)) (place m v)) (pos 0))
