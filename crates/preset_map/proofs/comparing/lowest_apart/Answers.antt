use Rattle.std.proofs.Common.{◌≡◌, ℕ, Bool, true, false, ap, ◌∙◌, sym, rules}
use Rattle.std.proofs.lemmas.Iterator.{first_from_Range}
use Rattle.links.specs.Shelf.{spot_at}
use Rattle.links.specs.Verdict.{failing}
use Rattle.preset_map.specs.Agreeing.{is_same_spot}
use Rattle.preset_map.specs.MapLinks.{links_of}
use Rattle.preset_map.specs.MapReads.{map_reads}
use Rattle.preset_map.proofs.Agreement.{found}
use Rattle.preset_map.proofs.comparing.lowest_apart.Goals as goal

pub returns : goal.returns
returns g c =
    let n : ℕ = c.shape.result.n in
    let test : ℕ → Bool = λ v. is_same_spot (spot_at g.E.Scalar.GridScalar.reading g.E.HasPosition.across g.E.HasPosition.along c.args.shelf.now v) ((links_of c.args.map.now).x v) ((links_of c.args.map.now).y v) in
    found n test _ (first_from_Range (record { start = 0; end = n }) _ _ c.find.result (λ v. test v ≡ false) (λ v. test v ≡ true) c.find.ensures.ran (λ x q e. search rules) (λ x q e. search rules))
    ∙ ap (λ k. failing k test) (ap (λ s. s.n) c.shape.ensures ∙ sym (map_reads c.args.map.now).n)
