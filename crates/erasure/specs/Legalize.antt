-- Edges are flipped until all are legal (triangulation_ext::legalize_edges_after_removal).
use Rattle.std.specs.Prelude.{ℕ, zero, suc, ◌*◌, ◌/◌, ◌^◌, Bool, true, false, cond, not, ◌&&◌, ◌||◌, List, [], ◌∷◌, pos, ◌==◌, int_le, int_lt}
use Rattle.plane.specs.Plane.{S, C}
use Rattle.links.specs.Links.{Links, rev, place}
use Rattle.surgery.specs.Update.{flip}

-- flip_cw turns an edge by its normalized half
abbrev pub flip_cw : Links → ℕ → Links
flip_cw L k = flip L (2 * k)

-- the test of an edge: by the circle between two inner faces, by the side where one is the outer face
abbrev pub should_flip : Links → ℕ → Bool
should_flip L k =
    let e = 2 * k in
    let from = place L (L.origin e) in
    let to = place L (L.origin (rev e)) in
    let left = place L (L.origin (L.prev e)) in
    let right = place L (L.origin (L.prev (rev e))) in
    cond (L.face e == 0)
    (cond (L.face (rev e) == 0) false (int_le (pos 0) (S right from to)))
    (cond (L.face (rev e) == 0) (int_le (pos 0) (S left to from)) (int_lt (pos 0) (C from to left right)))

-- is k in the list
abbrev pub contains : List ℕ → ℕ → Bool
contains [] k = false
contains (j ∷ l) k = j == k || contains l k

abbrev pub push_if_not_contained : List ℕ → ℕ → List ℕ
push_if_not_contained l k = cond (contains l k) l (k ∷ l)

-- the four edges around edge k, appended if they are not listed (the end of the list comes first)
abbrev pub around : Links → ℕ → List ℕ → List ℕ
around L k l =
    push_if_not_contained (push_if_not_contained (push_if_not_contained (push_if_not_contained l (L.next (2 * k) / 2)) (L.prev (2 * k) / 2))
    (L.next (rev (2 * k)) / 2)) (L.prev (rev (2 * k)) / 2)

-- the end of the list is taken, until it is empty: an edge that is not to be kept and wants it is flipped. So many turns at most
abbrev pub legalize : ℕ → (ℕ → Bool) → List ℕ → Links → Links
legalize zero keep l L = L
legalize (suc d) keep [] L = L
legalize (suc d) keep (k ∷ l) L =
    elim (not (keep k) && should_flip L k) [ true ↦ legalize d keep (around L k l) (flip_cw L k) | false ↦ legalize d keep l L ]

-- more turns than any list takes: each flip lowers the volume over the erased entry, which is at most 2^76
abbrev pub turns : ℕ
turns = 2 ^ 80
