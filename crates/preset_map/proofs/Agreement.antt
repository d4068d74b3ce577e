-- The lowest entry whose place differs.
use Rattle.std.proofs.Common.{◌≡◌, ℕ, ◌<◌, ◌≤◌, Bool, true, false, Result, Some, None, Option, MatchOption, List, length, get_or, zero-le, sym, ap, ◌∙◌}
use Rattle.entry.specs.Placing.{spot_of}
use Rattle.entry.specs.declared.fault.Cause.{Cause}
use Rattle.entry.specs.declared.fault.EntryFault.{EntryFault}
use Rattle.links.specs.Shelf.{spot_at}
use Rattle.links.specs.Verdict.{failing}
use Rattle.links.proofs.First.{none_failing, first_failing_is}
use Rattle.links.proofs.Spots.{spot_is}

-- the place of entry v of a shelf, as it was read
pub spot_read : {E Sc : Type 0} (reading : Sc → Result ℕ Cause) (across along : E → Sc) (es : List E) (v : ℕ) (e : E) {r : Result (ℕ × ℕ) EntryFault}
    → v < length es → e ≡ get_or es v e → r ≡ spot_of reading (across e) (along e) → spot_at reading across along es v ≡ r
spot_read reading across along es v e l is at = spot_is reading across along es v e l ∙ ap (λ z. spot_of reading (across z) (along z)) (sym is) ∙ sym at

-- what a search from 0 up to n tells
pub found : (n : ℕ) (test : ℕ → Bool) (o : Option ℕ)
    → MatchOption o ((v : ℕ) → 0 ≤ v → v < n → test v ≡ true) (λ v. (0 ≤ v) × (v < n) × (test v ≡ false) × ((u : ℕ) → 0 ≤ u → u < v → test u ≡ true))
    → o ≡ failing n test
found n test None h = sym (none_failing n test (λ v l. h v zero-le l))
found n test (Some v) h = sym (first_failing_is n test v h.1 (λ u l. h.3 u zero-le l) h.2)
