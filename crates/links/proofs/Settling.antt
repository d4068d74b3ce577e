-- What settle gives is kept: an accepted draft with its places written, and an empty map.
use Rattle.std.proofs.Common.{◌≡◌, ℕ, ◌*◌, ◌<◌, ◌≤◌, Bool, true, false, eqb, List, Ok, Result, sym, refl, subst, not-suc-le-zero, arith, eqb→eq}
use Rattle.entry.specs.declared.fault.EntryFault.{EntryFault}
use Rattle.links.specs.declared.shape.Shape.{Shape}
use Rattle.links.specs.Kept.{vacant, mapped_by, Kept, copied, emptied}
use Rattle.links.specs.Law.{Roomy}
use Rattle.links.specs.Rules.{Sound}
use Rattle.links.specs.Tables.{size}
use Rattle.links.specs.Verdict.{judged}
use Rattle.links.proofs.Copying.{length_copied, held_copied}
use Rattle.links.proofs.Decide.{holds}

module _ (s : Shape) (no_n : s.n ≡ 0) (no_e : s.e ≡ 0) (one_f : s.f ≡ 1) where
  no_entry : {A : Type 0} (v : ℕ) → v < s.n → A
  no_entry v l = absurd (not-suc-le-zero (subst (λ k. v < k) no_n l))

  no_edge : {A : Type 0} (k : ℕ) → k < s.e → A
  no_edge k l = absurd (not-suc-le-zero (subst (λ z. k < z) no_e l))

  no_half : {A : Type 0} (h : ℕ) → h < 2 * s.e → A
  no_half h l = absurd (none h l no_e)
    where
      none : (h : ℕ) → h < 2 * s.e → s.e ≡ 0 → ⊥
      none h l e = omega arith

  few : 2 ≤ s.n → ⊥
  few l = bad l no_n
    where
      bad : 2 ≤ s.n → s.n ≡ 0 → ⊥
      bad l e = omega arith

  outer : (k : ℕ) → k < s.f → k ≡ 0
  outer k l = only k l one_f
    where
      only : (k : ℕ) → k < s.f → s.f ≡ 1 → k ≡ 0
      only k l e = omega arith

  vacant_sound : Sound (vacant s)
  vacant_sound = record {
    counted = (omega (arith, no_n), omega (arith, no_e), omega (arith, one_f), omega (arith, one_f));
    placed = λ v l. no_entry v l;
    out_named = λ v l. no_entry v l;
    half_named = λ h l. no_half h l;
    adj_named = λ k l p. absurd (p refl);
    out_rooted = λ v l. no_entry v l;
    adj_rooted = λ k l. ((λ p. absurd (p refl)), (λ t. absurd (few t)));
    undone = λ h l. no_half h l;
    shared = λ h l. no_half h l;
    joined = λ h l. no_half h l;
    around = λ v l. no_entry v l;
    along = λ k l. ((λ p. absurd (p refl)), (λ h b. no_half h b));
    parted = λ k l. no_edge k l;
    ended = λ k l. no_edge k l;
    euler = ((λ _. (no_e, one_f)), (λ n. absurd (n no_n)));
    turned = λ k l n. absurd (n (outer k l));
    apart = λ k l. no_edge k l;
    single = λ k l a b. no_edge k a;
    clear = λ k v a b. no_edge k a;
    hulled = λ h v a b. no_half h a;
    empty = λ k v a b n. absurd (n (outer k a));
  }

-- an empty map is kept, whatever the memory holds
pub kept_empty : (w : List ℕ) (s : Shape) → Kept w (emptied s)
kept_empty w s = record { sound = vacant_sound (emptied s) refl refl refl; room = λ n. absurd (n refl) }

-- an accepted draft is kept once its places are written
pub kept_copied : (w : List ℕ) (s : Shape) (count : ℕ) (spot : ℕ → Result (ℕ × ℕ) EntryFault) → Roomy w s count → ((v : ℕ) → s.n ≤ v → spot v ≡ Ok (0, 0)) → Sound (judged w s spot) → Kept (copied w spot s.n) s
kept_copied w s count spot r past sound = record {
  sound = go (eqb s.n 0) refl;
  room = λ _. record { holds = subst (λ z. size s ≤ z) (sym (length_copied w spot s.n)) r.holds; entries = r.entries; edges = r.edges; faces = r.faces };
}
  where
    go : (b : Bool) → eqb s.n 0 ≡ b → Sound (mapped_by b (copied w spot s.n) s)
    go true e = let z = eqb→eq s.n 0 (holds e) in vacant_sound s z (sound.euler.0 z).0 (sound.euler.0 z).1
    go false e = subst Sound (sym (held_copied w spot s r.holds r.entries past)) sound
