-- A map's tables after its places are written: the links of the draft with the places of the shelf.
use Rattle.std.proofs.Common.{◌≡◌, ℕ, zero, suc, ◌+◌, ◌*◌, ◌<◌, ◌≤◌, Bool, true, false, cond, ltb, ◌≢◌, ◌⊎◌, List, length, get_or, set, Ok, Result, sym, refl, ap, ◌∙◌, subst, inl, inr, le_of_suc-le-suc, not-suc-le-zero, eq-or-lt_of_le, arith, length-set, get_or-set_other, get_or-set_same, ltb-false, ltb-true, lt-ltb}
use Rattle.entry.specs.declared.fault.EntryFault.{EntryFault}
use Rattle.links.specs.declared.shape.Shape.{Shape}
use Rattle.links.specs.Kept.{copied}
use Rattle.links.specs.Tables.{size, cell, of_entry, of_half, of_face, coordinate, held}
use Rattle.links.specs.Verdict.{x_coordinate, y_coordinate, judged}

module _ (w : List ℕ) (spot : ℕ → Result (ℕ × ℕ) EntryFault) where
  pub length_copied : (n : ℕ) → length (copied w spot n) ≡ length w
  length_copied zero = refl
  length_copied (suc n) = length-set (set (copied w spot n) (3 * n) (x_coordinate (spot n))) (3 * n + 1) (y_coordinate (spot n)) ∙ length-set (copied w spot n) (3 * n) (x_coordinate (spot n)) ∙ length_copied n

  -- what is no coordinate of the first n entries stays
  pub copied_other : (n i : ℕ) → ((v : ℕ) → v < n → (i ≢ 3 * v) × (i ≢ 3 * v + 1)) → get_or (copied w spot n) i 0 ≡ get_or w i 0
  copied_other zero i h = refl
  copied_other (suc n) i h =
      get_or-set_other (set (copied w spot n) (3 * n) (x_coordinate (spot n))) (3 * n + 1) i (y_coordinate (spot n)) 0 (h n (omega arith)).1
      ∙ get_or-set_other (copied w spot n) (3 * n) i (x_coordinate (spot n)) 0 (h n (omega arith)).0 ∙ copied_other n i (λ v l. h v (omega arith))

  pub copied_x : (n v : ℕ) → v < n → 3 * n ≤ length w → get_or (copied w spot n) (3 * v) 0 ≡ x_coordinate (spot v)
  copied_x zero v l r = absurd (not-suc-le-zero l)
  copied_x (suc n) v l r =
      get_or-set_other (set (copied w spot n) (3 * n) (x_coordinate (spot n))) (3 * n + 1) (3 * v) (y_coordinate (spot n)) 0 (λ e. absurd (off e))
      ∙ go (eq-or-lt_of_le (le_of_suc-le-suc l)) (λ b. copied_x n v b (omega arith))
    where
      off : 3 * v ≡ 3 * n + 1 → ⊥
      off e = omega arith

      inside : 3 * n < length (copied w spot n)
      inside = subst (λ z. 3 * n < z) (sym (length_copied n)) (omega arith)

      go : (v ≡ n) ⊎ (v < n) → (v < n → get_or (copied w spot n) (3 * v) 0 ≡ x_coordinate (spot v)) → get_or (set (copied w spot n) (3 * n) (x_coordinate (spot n))) (3 * v) 0 ≡ x_coordinate (spot v)
      go (inl e) before = subst (λ z. get_or (set (copied w spot n) (3 * n) (x_coordinate (spot n))) (3 * z) 0 ≡ x_coordinate (spot z)) (sym e) (get_or-set_same (copied w spot n) (3 * n) (x_coordinate (spot n)) 0 inside)
      go (inr b) before = get_or-set_other (copied w spot n) (3 * n) (3 * v) (x_coordinate (spot n)) 0 (λ e. absurd (lower b e)) ∙ before b
        where
          lower : v < n → 3 * v ≡ 3 * n → ⊥
          lower b e = omega arith

  pub copied_y : (n v : ℕ) → v < n → 3 * n ≤ length w → get_or (copied w spot n) (3 * v + 1) 0 ≡ y_coordinate (spot v)
  copied_y zero v l r = absurd (not-suc-le-zero l)
  copied_y (suc n) v l r = go (eq-or-lt_of_le (le_of_suc-le-suc l)) (λ b. copied_y n v b (omega arith))
    where
      inside : 3 * n + 1 < length (set (copied w spot n) (3 * n) (x_coordinate (spot n)))
      inside = subst (λ z. 3 * n + 1 < z) (sym (length-set (copied w spot n) (3 * n) (x_coordinate (spot n)) ∙ length_copied n)) (omega arith)

      go : (v ≡ n) ⊎ (v < n) → (v < n → get_or (copied w spot n) (3 * v + 1) 0 ≡ y_coordinate (spot v)) → get_or (copied w spot (suc n)) (3 * v + 1) 0 ≡ y_coordinate (spot v)
      go (inl e) before =
          subst (λ z. get_or (copied w spot (suc n)) (3 * z + 1) 0 ≡ y_coordinate (spot z)) (sym e) (get_or-set_same (set (copied w spot n) (3 * n) (x_coordinate (spot n))) (3 * n + 1) (y_coordinate (spot n)) 0 inside)
      go (inr b) before =
          get_or-set_other (set (copied w spot n) (3 * n) (x_coordinate (spot n))) (3 * n + 1) (3 * v + 1) (y_coordinate (spot n)) 0 (λ e. absurd (lower b e))
          ∙ get_or-set_other (copied w spot n) (3 * n) (3 * v + 1) (x_coordinate (spot n)) 0 (λ e. absurd (other b e)) ∙ before b
        where
          lower : v < n → 3 * v + 1 ≡ 3 * n + 1 → ⊥
          lower b e = omega arith

          other : v < n → 3 * v + 1 ≡ 3 * n → ⊥
          other b e = omega arith

  -- past the count the shelf tells (0, 0)
  module _ (s : Shape) (holds : size s ≤ length w) (fits : s.n ≤ s.entries) (past : (v : ℕ) → s.n ≤ v → spot v ≡ Ok (0, 0)) where
    abbrev after : List ℕ
    after = copied w spot s.n

    same_cell : (b : Bool) (i : ℕ) → (b ≡ true → get_or after i 0 ≡ get_or w i 0) → cell b after i ≡ cell b w i
    same_cell true i h = h refl
    same_cell false i h = refl

    -- what lies past the entries' coordinates
    far : (i : ℕ) → 3 * s.entries ≤ i → (v : ℕ) → v < s.n → (i ≢ 3 * v) × (i ≢ 3 * v + 1)
    far i h v l = ((λ e. absurd (a e)), (λ e. absurd (b e)))
      where
        a : i ≡ 3 * v → ⊥
        a e = omega arith

        b : i ≡ 3 * v + 1 → ⊥
        b e = omega arith

    same_out : (v : ℕ) → of_entry after s 2 v ≡ of_entry w s 2 v
    same_out v = same_cell (ltb v s.entries) (3 * v + 2) (λ _. copied_other s.n (3 * v + 2) (λ u l. ((λ e. absurd (a u e)), (λ e. absurd (b u e)))))
      where
        a : (u : ℕ) → 3 * v + 2 ≡ 3 * u → ⊥
        a u e = omega arith

        b : (u : ℕ) → 3 * v + 2 ≡ 3 * u + 1 → ⊥
        b u e = omega arith

    same_half : (field h : ℕ) → of_half after s field h ≡ of_half w s field h
    same_half field h = same_cell (ltb h (2 * s.edges)) (3 * s.entries + 4 * h + field) (λ _. copied_other s.n (3 * s.entries + 4 * h + field) (far (3 * s.entries + 4 * h + field) (omega arith)))

    same_face : (k : ℕ) → of_face after s k ≡ of_face w s k
    same_face k = same_cell (ltb k s.faces) (3 * s.entries + 8 * s.edges + k) (λ _. copied_other s.n (3 * s.entries + 8 * s.edges + k) (far (3 * s.entries + 8 * s.edges + k) (omega arith)))

    enough : 3 * s.n ≤ length w
    enough = omega arith

    cell_on : (b : Bool) (i : ℕ) → b ≡ true → cell b after i ≡ get_or after i 0
    cell_on b i e = rw e refl

    below : (v : ℕ) → ltb v s.n ≡ true → ltb v s.entries ≡ true
    below v e = let l = ltb-true v s.n e in lt-ltb v s.entries (omega arith)

    same_x : (v : ℕ) → coordinate after s 0 v ≡ x_coordinate (spot v)
    same_x v = go (ltb v s.n) refl
      where
        go : (b : Bool) → ltb v s.n ≡ b → cond b (of_entry after s 0 v) 0 ≡ x_coordinate (spot v)
        go true e = cell_on (ltb v s.entries) (3 * v + 0) (below v e) ∙ ap (λ i. get_or after i 0) plus ∙ copied_x s.n v (ltb-true v s.n e) enough
          where
            plus : 3 * v + 0 ≡ 3 * v
            plus = omega arith
        go false e = ap x_coordinate (sym (past v (ltb-false v s.n e)))

    same_y : (v : ℕ) → coordinate after s 1 v ≡ y_coordinate (spot v)
    same_y v = go (ltb v s.n) refl
      where
        go : (b : Bool) → ltb v s.n ≡ b → cond b (of_entry after s 1 v) 0 ≡ y_coordinate (spot v)
        go true e = cell_on (ltb v s.entries) (3 * v + 1) (below v e) ∙ copied_y s.n v (ltb-true v s.n e) enough
        go false e = ap y_coordinate (sym (past v (ltb-false v s.n e)))

    pub held_copied : held after s ≡ judged w s spot
    held_copied = λ i. record {
      n = s.n;
      e = s.e;
      f = s.f;
      x = λ v. same_x v i;
      y = λ v. same_y v i;
      out = λ v. same_out v i;
      adj = λ k. same_face k i;
      next = λ h. same_half 0 h i;
      prev = λ h. same_half 1 h i;
      face = λ h. same_half 2 h i;
      origin = λ h. same_half 3 h i;
    }
