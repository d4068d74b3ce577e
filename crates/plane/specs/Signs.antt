-- Signs of sides and circles.
use Rattle.std.specs.Prelude.{◌≡◌, ◌^◌, ◌<◌, ◌≤◌, ℤ, pos, ◌+ℤ◌, ◌-ℤ◌, ◌*ℤ◌, ◌≤ℤ◌, ◌<ℤ◌, unsigned_abs}
use Rattle.plane.specs.Plane.{Pt, S, C, far, dot}
use Rattle.plane.specs.Spot.{«at», Small}

-- more than any side of places: 16383² + 1
abbrev pub top : ℤ
top = pos 268402690

-- how large sides and circles of places are; the first bound is attained
abbrev pub Bounds : Type 0
Bounds =
    ((a b c : Pt) → Small a → Small b → Small c → unsigned_abs (S a b c) ≤ 268402689)
    × ((a b c d : Pt) → Small a → Small b → Small c → Small d → unsigned_abs (C a b c d) < 2 ^ 60)
    × (S («at» 0 0) («at» 16383 0) («at» 0 16383) ≡ pos 268402689)

-- x is on c's side of the chord a b and not inside the circle of a, b, c; o is across and not inside: o is not inside the circle of a, b, x
abbrev pub Pencil : Type 0
Pencil = (a b c x o : Pt) → pos 0 <ℤ S a b c → pos 0 <ℤ S a b x → C a b c x ≤ℤ pos 0 → S a b o <ℤ pos 0 → C a b c o ≤ℤ pos 0 → C a b x o ≤ℤ pos 0

-- where d is inside the circle of a, b, c, a flip of a b leaves two faces that turn left
abbrev pub Flip : Type 0
Flip = (a b c d : Pt) → pos 0 <ℤ S a b c → pos 0 <ℤ S b a d → pos 0 <ℤ C a b c d → (pos 0 <ℤ S c d b) × (pos 0 <ℤ S d c a)

-- a point strictly between two corners is inside the circle
abbrev pub Chord : Type 0
Chord = (a b c q : Pt) → pos 0 <ℤ S a b c → S a b q ≡ pos 0 → dot q a b <ℤ pos 0 → pos 0 <ℤ C a b c q

-- a point in the sector of a and b around o, and not inside the circle of o, a, b, is not on o's side of a b
abbrev pub Sector : Type 0
Sector = (o a b q : Pt) → pos 0 <ℤ S o a b → pos 0 ≤ℤ S o a q → pos 0 ≤ℤ S o q b → pos 0 <ℤ far o q → pos 0 ≤ℤ C a b q o → S a b q ≤ℤ pos 0

-- a, b, c in order around o, and o on their circle: they turn left, by less than a half turn
abbrev pub Tie : Type 0
Tie = (o a b c : Pt) → pos 0 <ℤ S o a b → pos 0 <ℤ S o b c → C a b c o ≡ pos 0 → (pos 0 <ℤ S o a c) × (pos 0 <ℤ S a b c)

-- q is the mean of a, b, c with the weights l, m, n: its squared distance from o is at most the mean of theirs
abbrev pub Mean : Type 0
Mean =
    (l m n : ℤ) (a b c q o : Pt) → pos 0 ≤ℤ l → pos 0 ≤ℤ m → pos 0 ≤ℤ n → pos 0 <ℤ (l +ℤ m +ℤ n)
    → (l +ℤ m +ℤ n) *ℤ (q.x -ℤ o.x) ≡ l *ℤ (a.x -ℤ o.x) +ℤ m *ℤ (b.x -ℤ o.x) +ℤ n *ℤ (c.x -ℤ o.x)
    → (l +ℤ m +ℤ n) *ℤ (q.y -ℤ o.y) ≡ l *ℤ (a.y -ℤ o.y) +ℤ m *ℤ (b.y -ℤ o.y) +ℤ n *ℤ (c.y -ℤ o.y)
    → pos 0 ≤ℤ ((l *ℤ far a o +ℤ m *ℤ far b o +ℤ n *ℤ far c o) -ℤ (l +ℤ m +ℤ n) *ℤ far q o)

-- around o: where neither a nor c is inside the circle of o, b and n, o is not outside that of a, b, c
abbrev pub Outward : Type 0
Outward = (o a b c n : Pt) → pos 0 <ℤ S o a b → pos 0 <ℤ S o b c → pos 0 <ℤ S o b n → pos 0 ≤ℤ C b n a o → pos 0 ≤ℤ C b n c o → pos 0 ≤ℤ C a b c o

-- around o: circles, with ties broken by sides, are positive
abbrev pub Broken : Type 0
Broken = (o a b c : Pt) → Small a → Small b → Small c → pos 0 <ℤ S o a b → pos 0 <ℤ S o b c → pos 0 ≤ℤ C a b c o → pos 0 <ℤ (top *ℤ C a b c o +ℤ S a b c)

-- an edge a b of a face at o, x on o's side of it and q beyond, o inside neither's circle: q is not inside that of a, b, x
abbrev pub Border : Type 0
Border = (o a b x q : Pt) → pos 0 <ℤ S o a b → pos 0 <ℤ S a b x → S a b q <ℤ pos 0 → pos 0 ≤ℤ C a b x o → pos 0 ≤ℤ C a b q o → C a b x q ≤ℤ pos 0
