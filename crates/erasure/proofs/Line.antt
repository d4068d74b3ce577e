-- Without an inner face, erasure keeps a map sound.
use Rattle.std.proofs.Common.{◌≡◌, ℕ, suc, pred, ◌/◌, ◌<◌, ◌≤◌, cond, eqb, sym, refl, ap, ◌∙◌, subst, arith}
use Rattle.links.specs.Links.{Links, none, ccw, place}
use Rattle.links.specs.Rules.{Placed, Sound}
use Rattle.links.proofs.Halves.{rev_half}
use Rattle.planar.proofs.Sixth.{enough_line, enough_empty}
use Rattle.surgery.specs.Update.{upd}
use Rattle.surgery.specs.Sweep.{counted, swap_remove_edge, swap_remove_entry}
use Rattle.surgery.proofs.Updates.{upd_same}
use Rattle.surgery.proofs.Sweeping.{by_test, edge_counts, entry_counts, entry_places}
use Rattle.erasure.specs.Line.{unlinked, shorten, straighten, remove_on_line, remove_when_degenerate}
use Rattle.erasure.proofs.Finish.{LastAt, placed_after}
use Rattle.erasure.proofs.Level.{sound_level, edge_first, entry_first}
use Rattle.erasure.proofs.Leaf.{sound_tree, leaf_ready}
use Rattle.erasure.proofs.Midst.{midst_ready}

-- no entry is left
none_left : (m : Links) → Sound m → m.f ≡ 1 → m.n ≡ 1 → Sound (counted 0 m.e m.f m)
none_left m sd f1 n1 = enough_empty (counted 0 m.e m.f m)
    (record {
      out_named = λ v l. absurd (omega (arith, l));
      half_named = λ h l. absurd (omega (arith, l, no_edge));
      adj_named = sd.adj_named;
      out_rooted = λ v l. absurd (omega (arith, l));
      adj_rooted = λ k l. ((λ p. absurd (omega (arith, (sd.adj_rooted k l).0 p, n1))), λ z. absurd (omega (arith, z)));
    })
    refl no_edge f1
  where
    no_edge : m.e ≡ 0
    no_edge = omega (arith, (sound_tree m sd f1 (omega arith)).tree, n1)

-- one is left, and no edge
one_left : (L : Links) → L.n ≡ 1 → L.f ≡ 1 → ((w : ℕ) → w < L.n → Placed L w) → Sound (unlinked L)
unfolding unlinked
one_left L n1 f1 placed = enough_line (unlinked L) (omega (arith, n1), omega arith, omega (arith, f1), omega (arith, f1)) placed
    (record {
      out_named = λ v l p. absurd (p (off L.out v (omega (arith, l, n1))));
      half_named = λ h l. absurd (omega (arith, l));
      adj_named = λ k l p. absurd (p (off L.adj k (omega (arith, l, f1))));
      out_rooted = λ v l. ((λ p. absurd (p (off L.out v (omega (arith, l, n1))))), λ z. absurd (omega (arith, z, n1)));
      adj_rooted = λ k l. ((λ p. absurd (p (off L.adj k (omega (arith, l, f1))))), λ z. absurd (omega (arith, z, n1)));
    })
    (record {
      undone = λ h l. absurd (omega (arith, l));
      shared = λ h l. absurd (omega (arith, l));
      joined = λ h l. absurd (omega (arith, l));
      around = λ v l. ((λ p. absurd (p (off L.out v (omega (arith, l, n1))))), λ h b. absurd (omega (arith, b)));
      along = λ k l. ((λ p. absurd (p (off L.adj k (omega (arith, l, f1))))), λ h b. absurd (omega (arith, b)));
      ended = λ k l. absurd (omega (arith, l));
    })
    (omega (arith, n1)) f1 (omega (arith, n1))
    (record {
      apart = λ k l. absurd (omega (arith, l));
      single = λ k j l. absurd (omega (arith, l));
      clear = λ k v l. absurd (omega (arith, l));
    })
    (λ h v l. absurd (omega (arith, l)))
  where
    -- its links lead nowhere
    off : (g : ℕ → ℕ) (k : ℕ) → k ≡ 0 → upd g 0 none k ≡ none
    off g k z = ap (upd g 0 none) z ∙ upd_same g 0 none

-- the last entry takes the number of the one that goes
pub entry_last : (m L : Links) (v : ℕ) → v < m.n → L.n ≡ m.n → ((w : ℕ) → place L w ≡ place m w) → (suc (swap_remove_entry v L).n ≡ m.n) × LastAt m v (swap_remove_entry v L)
entry_last m L v l q at =
    let c = (entry_counts L v (omega arith)).0 ∙ q in
    (c, λ w lw. entry_places L v w (omega arith) ∙ at (cond (eqb w v) (pred L.n) w) ∙ ap (λ n. place m (cond (eqb w v) (pred n) w)) q)

-- two or more are left
more_left : (m : Links) → Sound m → m.f ≡ 1 → 3 ≤ m.n → (v : ℕ) → v < m.n → Sound (remove_on_line m v)
more_left m sd f1 three v l =
    by_test Sound (ccw m s) s
    (λ e. subst (λ v. Sound (swap_remove_entry v (swap_remove_edge (s / 2) (shorten m s)))) at (edge_first _ _ _ (leaf_ready m sd f1 three s ls e)))
    (λ n. subst (λ v. Sound (swap_remove_edge (ccw m s / 2) (swap_remove_entry v (straighten m s (ccw m s))))) at (entry_first _ _ _ (midst_ready m sd f1 three s ls n)))
  where
    s : ℕ
    s = m.out v

    ls : s / 2 < m.e
    ls = (sound_level m sd f1 (omega arith)).linked.out_live v l

    at : m.origin s ≡ v
    at = (sound_level m sd f1 (omega arith)).linked.out_origin v l

-- any number of entries
pub line_sound : (m : Links) → Sound m → m.f ≡ 1 → (v : ℕ) → v < m.n → Sound (remove_when_degenerate m v)
line_sound m sd f1 v l =
    by_test Sound m.n 1 (none_left m sd f1)
    (λ n1. by_test Sound m.n 2
    (λ n2. let c = entry_counts m v l in one_left (swap_remove_entry v m) (omega (arith, c.0, n2)) (c.2 ∙ f1) (let e = entry_last m m v l refl (λ _. refl) in placed_after m (swap_remove_entry v m) v sd l e.0 e.1))
    (λ n2. more_left m sd f1 (omega arith) v l))

-- the places that are left
pub line_places : (m : Links) → Sound m → m.f ≡ 1 → (v : ℕ) → v < m.n → (suc (remove_when_degenerate m v).n ≡ m.n) × LastAt m v (remove_when_degenerate m v)
unfolding unlinked shorten straighten
line_places m sd f1 v l =
    by_test Left m.n 1 (λ q. (sym q, λ w b. absurd (omega (arith, b))))
    (λ n1. by_test Left m.n 2 (λ _. entry_last m m v l refl (λ _. refl))
    (λ n2. let W = (sound_level m sd f1 (omega arith)).linked in let ls = W.out_live v l in by_test Left (ccw m s) s
    (λ _. let c = (edge_counts (shorten m s) (s / 2) ls).2 in entry_last m (swap_remove_edge (s / 2) (shorten m s)) v l c.n c.at)
    (λ _.
    let e = entry_last m (straighten m s (ccw m s)) v l refl (λ _. refl) in
    let c = (edge_counts (swap_remove_entry v (straighten m s (ccw m s))) (ccw m s / 2)
    (subst (λ e. ccw m s / 2 < e) (sym (entry_counts (straighten m s (ccw m s)) v l).1) (subst (λ k. k < m.e) (sym (rev_half (m.prev s))) (W.prev_live s ls)))).2 in
    (ap suc c.n ∙ e.0, λ w b. c.at w ∙ e.1 w (subst (λ n. w < n) c.n b)))))
  where
    s : ℕ
    s = m.out v

    Left : Links → Type 0
    Left K = (suc K.n ≡ m.n) × LastAt m v K
