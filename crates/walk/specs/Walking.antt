-- A walk around a cycle, from both ends, by a step and the step that undoes it.
use Rattle.std.specs.Prelude.{◌≡◌, ℕ, ◌+◌, ◌<◌, ◌≤◌, Bool, true, false, cond, ◌&&◌, List, [], ◌∷◌, length, Some, None, Option, ◌==◌, nat_lt, slice_index_or}
use Rattle.std.specs.Option.{option_map}
use Rattle.walk.specs.declared.reader.Ends.{Ends}
use Rattle.walk.specs.declared.reader.Walk.{Walk}

-- a walk with nothing to hand out
abbrev pub done : Walk
done = record { left = None }

-- a walk from one half around to another, or to itself
abbrev pub around : ℕ → ℕ → Walk
around a b = record { left = Some (record { current = a; last = b }) }

-- a walk that begins at a half, and ends there
abbrev pub fresh : ℕ → Walk
fresh h = around h h

-- what is left from one half up to another: nothing where they have met
abbrev pub between : ℕ → ℕ → Walk
between a b = cond (a == b) done (around a b)

-- the ends, if the map, with H halves, has both
abbrev pub both_in : ℕ → Option Ends → Option Ends
both_in H None = None
both_in H (Some p) = cond (nat_lt p.current H && nat_lt p.last H) (Some p) None

-- the ends, if something is left and the map has both
abbrev pub ready : ℕ → Walk → Option Ends
ready H w = both_in H w.left

-- the walk as it was, if its ends are not ready, else as it becomes
abbrev pub moved : Walk → (Ends → Walk) → Option Ends → Walk
moved w to None = w
moved w to (Some p) = to p

-- H: the number of halves
module _ (step back : ℕ → ℕ) (H : ℕ) where
  -- from the front: the half in front is handed out
  abbrev pub front_answer : Walk → Option ℕ
  front_answer w = option_map (λ p. p.current) (ready H w)

  abbrev pub front_after : Walk → Walk
  front_after w = moved w (λ p. between (step p.current) p.last) (ready H w)

  -- from the back: the half before the last one is handed out
  abbrev pub back_answer : Walk → Option ℕ
  back_answer w = option_map (λ p. back p.last) (ready H w)

  abbrev pub back_after : Walk → Walk
  back_after w = moved w (λ p. between p.current (back p.last)) (ready H w)

  -- what steps from the front (true) and from the back (false) hand out, in any mixture
  abbrev pub played : List Bool → Walk → List (Option ℕ)
  played [] w = []
  played (true ∷ bs) w = front_answer w ∷ played bs (front_after w)
  played (false ∷ bs) w = back_answer w ∷ played bs (back_after w)

-- how often a half is handed out
abbrev pub hit : ℕ → Option ℕ → ℕ
hit h None = 0
hit h (Some k) = cond (k == h) 1 0

abbrev pub times : ℕ → List (Option ℕ) → ℕ
times h [] = 0
times h (a ∷ rest) = hit h a + times h rest

-- each half of a kind is handed out once, in whatever mixture, no other half is, and then none: there are `size` of them
pub record HandedOut (H : ℕ) (Kind : ℕ → Type 0) (answers : List Bool → List (Option ℕ)) (size : ℕ) : Type 0 where
  pub most : (bs : List Bool) (h : ℕ) → h < H → Kind h → times h (answers bs) ≤ 1
  pub once : (bs : List Bool) (h : ℕ) → h < H → Kind h → size ≤ length bs → times h (answers bs) ≡ 1
  pub others : (bs : List Bool) (h : ℕ) → (Kind h → ⊥) → times h (answers bs) ≡ 0
  pub ends : (bs : List Bool) (i : ℕ) → size ≤ i → slice_index_or (answers bs) i None ≡ None
