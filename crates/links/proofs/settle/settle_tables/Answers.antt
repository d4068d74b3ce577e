use Rattle.std.proofs.Common.{◌≡◌, ℕ, ◌≤◌, min, List, length, take, sym, ap, ◌∙◌, subst, refl}
use Rattle.std.proofs.lemmas.Result.{err_from_is_err_and}
use Rattle.links.specs.Kept.{Kept, copied}
use Rattle.links.specs.Shelf.{spot_at}
use Rattle.links.proofs.Settling.{kept_copied, kept_empty}
use Rattle.links.proofs.Spots.{spot_past}
use Rattle.links.proofs.settle.settle_tables.Goals as goal

pub returns-in_err-check-clause-sound : goal.returns-in_err-check-clause-sound
returns-in_err-check-clause-sound g c =
    let p = err_from_is_err_and c.from_residual.result c.from_residual.ensures.1 in
    rw p.1 (∣ kept_empty c.args.words.now c.args.shape ∣₁)

pub returns-clause-words : goal.returns-clause-words
returns-clause-words g c =
    let part = c.first_entries.ensures in
    c.copy_places.ensures ∙ (λ i. copied c.args.words.now (spot_at g.E.Scalar.GridScalar.reading g.E.HasPosition.across g.E.HasPosition.along (part.items i)) (part.len i))

pub returns-clause-sound : goal.returns-clause-sound
returns-clause-sound g c =
    let fits = c.in_ok-check.ensures.law.0 refl in
    let part = c.first_entries.ensures in
    let n : ℕ = c.args.shape.n in
    let spots = spot_at g.E.Scalar.GridScalar.reading g.E.HasPosition.across g.E.HasPosition.along (take n c.args.shelf.now) in
    let past : (v : ℕ) → n ≤ v → spots v ≡ _ =
    λ v l. spot_past g.E.Scalar.GridScalar.reading g.E.HasPosition.across g.E.HasPosition.along (take n c.args.shelf.now) v (subst (λ (k : ℕ). k ≤ v) (sym (ap length (sym part.items) ∙ part.len)) l) in
    let after : c.copy_places.new.words ≡ copied c.args.words.now spots n =
    c.copy_places.ensures ∙ (λ i. copied c.args.words.now (spot_at g.E.Scalar.GridScalar.reading g.E.HasPosition.across g.E.HasPosition.along (part.items i)) (part.len i)) in
    ∣ subst (λ (z : List ℕ). Kept z c.args.shape) (sym after) (kept_copied c.args.words.now c.args.shape (min c.args.count (length c.args.shelf.now)) spots fits.0 past fits.2) ∣₁
