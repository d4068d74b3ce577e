-- The clauses on entries that lie where they may not, as the code tries them.
use Rattle.std.proofs.Common.{◌≡◌, ℕ, None, refl, eq-eqb, ne_eqb}
use Rattle.links.specs.Links.{Links}
use Rattle.links.specs.Tests.{empty, hulled}
use Rattle.links.specs.Verdict.{failing}
use Rattle.links.proofs.First.{none_failing}

module _ (m : Links) where
  pub outer_none : (n k : ℕ) → k ≡ 0 → failing n (empty m k) ≡ None
  outer_none n k e = none_failing n (empty m k) (λ v l. rw (eq-eqb k 0 e) refl)

  pub inner_none : (n h : ℕ) → ¬ (m.face h ≡ 0) → failing n (hulled m h) ≡ None
  inner_none n h e = none_failing n (hulled m h) (λ v l. rw (ne_eqb (m.face h) 0 e) refl)
