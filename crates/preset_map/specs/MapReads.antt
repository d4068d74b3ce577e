-- What is read of a map's memory is its links: a law of reading.
use Rattle.std.specs.Prelude.{◌≡◌, ℕ, ◌+◌, ◌*◌, ◌<◌, Bool, true, false, cond, ◌&&◌, List, length, slice_index, nat_eq, nat_lt, refl}
use Rattle.std.proofs.Common.{sym, ap, ◌∙◌, subst, not-suc-le-zero, arith, ltb-true, lt-ltb, eqb-true}
use mathlib.Core.Logic.{∥∥₁_elim}
use native.Mathlib.Nat.{ℕ_set}
use borrow.Author.Tests.{eqb-false}
use Rattle.links.specs.declared.shape.Shape.{Shape}
use Rattle.links.specs.Kept.{Kept, Room, mapped_by, map_links}
use Rattle.links.specs.Links.{Links, none}
use Rattle.links.specs.Tables.{cell, looked, half_at, face_at, entry_at, of_entry}
use Rattle.preset_map.specs.declared.map.Map.{Map}
use Rattle.preset_map.specs.MapLinks.{links_of, number_of}
use Rattle.preset_map.specs.Records.{Reads}

module _ (w : List ℕ) (s : Shape) where
  -- in the table means in the slice
  in_slice : (b : Bool) (i : ℕ) → (b ≡ true → i < length w) → looked w b i ≡ cell b w i
  in_slice true i h = ap (λ z. cond (true && z) (slice_index w i) none) (lt-ltb i (length w) (h refl))
  in_slice false i h = refl

  -- the link that `pick` takes: none of an empty map, else the cell of its table
  read : (c : Bool) (i : ℕ) (pick : Links → ℕ) → (s.n ≡ 0 → none ≡ pick (mapped_by true w s)) → (cell c w i ≡ pick (mapped_by false w s)) → (Room w s → c ≡ true → i < length w) → (∥ Kept w s ∥₁)
      → cond (nat_eq s.n 0) none (looked w c i) ≡ pick (map_links w s)
  read c i pick vac full h kept = ∥∥₁_elim kept (ℕ_set _ _) (λ k. go (nat_eq s.n 0) refl k.room)
    where
      go : (b : Bool) → nat_eq s.n 0 ≡ b → (¬ (s.n ≡ 0) → Room w s) → cond b none (looked w c i) ≡ pick (mapped_by b w s)
      go true e room = vac (eqb-true s.n 0 e)
      go false e room = in_slice c i (h (room (eqb-false s.n 0 e))) ∙ full

  entry_bound : (field v : ℕ) → field < 3 → Room w s → nat_lt v s.entries ≡ true → entry_at s v + field < length w
  entry_bound field v small r e = let m = r.holds in let l = ltb-true v s.entries e in omega arith

  half_bound : (field h : ℕ) → field < 4 → Room w s → nat_lt h (2 * s.edges) ≡ true → half_at s h + field < length w
  half_bound field h small r e = let m = r.holds in let l = ltb-true h (2 * s.edges) e in omega arith

  face_bound : (k : ℕ) → Room w s → nat_lt k s.faces ≡ true → face_at s k < length w
  face_bound k r e = let m = r.holds in let l = ltb-true k s.faces e in omega arith

  -- a map with an entry is not empty
  some : (v : ℕ) {A : Type 0} → v < s.n → s.n ≡ 0 → A
  some v l e = absurd (not-suc-le-zero (subst (λ z. v < z) e l))

  -- a coordinate is told below n
  told : (field v : ℕ) → v < s.n → of_entry w s field v ≡ cond (nat_lt v s.n) (of_entry w s field v) 0
  told field v l = ap (λ b. cond b (of_entry w s field v) 0) (sym (lt-ltb v s.n l))

  -- the counts of a map are those of its shape
  same : (pick : Links → ℕ) (i : ℕ) → pick (mapped_by true w s) ≡ i → pick (mapped_by false w s) ≡ i → pick (map_links w s) ≡ i
  same pick i vac full = go (nat_eq s.n 0)
    where
      go : (b : Bool) → pick (mapped_by b w s) ≡ i
      go true = vac
      go false = full

pub map_reads : (m : Map) → Reads m.shape (number_of m) (links_of m)
map_reads m =
    let w = m.words.now in
    let s : Shape = m.shape in
    record {
      n = same w s (λ l. l.n) s.n refl refl;
      e = same w s (λ l. l.e) s.e refl refl;
      x = λ v l. read w s (nat_lt v s.entries) (entry_at s v + 0) (λ m. m.x v) (some w s v l) (told w s 0 v l) (entry_bound w s 0 v (omega arith)) m.sound;
      y = λ v l. read w s (nat_lt v s.entries) (entry_at s v + 1) (λ m. m.y v) (some w s v l) (told w s 1 v l) (entry_bound w s 1 v (omega arith)) m.sound;
      out = λ v. read w s (nat_lt v s.entries) (entry_at s v + 2) (λ m. m.out v) (λ _. refl) refl (entry_bound w s 2 v (omega arith)) m.sound;
      adj = λ k. read w s (nat_lt k s.faces) (face_at s k) (λ m. m.adj k) (λ _. refl) refl (face_bound w s k) m.sound;
      next = λ h. read w s (nat_lt h (2 * s.edges)) (half_at s h + 0) (λ m. m.next h) (λ _. refl) refl (half_bound w s 0 h (omega arith)) m.sound;
      prev = λ h. read w s (nat_lt h (2 * s.edges)) (half_at s h + 1) (λ m. m.prev h) (λ _. refl) refl (half_bound w s 1 h (omega arith)) m.sound;
      face = λ h. read w s (nat_lt h (2 * s.edges)) (half_at s h + 2) (λ m. m.face h) (λ _. refl) refl (half_bound w s 2 h (omega arith)) m.sound;
      origin = λ h. read w s (nat_lt h (2 * s.edges)) (half_at s h + 3) (λ m. m.origin h) (λ _. refl) refl (half_bound w s 3 h (omega arith)) m.sound;
    }
