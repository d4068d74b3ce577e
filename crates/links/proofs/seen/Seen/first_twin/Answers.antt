use Rattle.std.proofs.Common.{rules, ◌≡◌, ◌+◌, ◌≤◌, ℕ, ◌<◌, true, false, not, ap, sym, subst, refl, ◌∙◌, arith, min}
use Rattle.std.proofs.lemmas.Iterator.{first_from_Range}
use Rattle.links.specs.Tests.{single, twins}
use Rattle.links.specs.Verdict.{failing}
use Rattle.links.specs.Sight.{links_of}
use Rattle.links.proofs.First.{failing_from, single_early, single_now}
use Rattle.links.proofs.seen.Seen.first_twin.Goals as goal

-- the numbers before the one after k, and from it on
early : (k l a : ℕ) → a ≡ min (k + 1) 4294967295 → l < a → l ≤ k
early k l a e b = omega (arith, e, b)

late : (k l a e : ℕ) → a ≡ min (k + 1) 4294967295 → a ≤ l → l < e → e ≤ 12288 → k < l
late k l a e q b d f = omega (arith, q, b, d, f)

pub returns : goal.returns
returns g c =
    let m = links_of c.args.self.now in
    let k = c.args.k in
    let after = c.saturating_add-after.result in
    let is = c.saturating_add-after.ensures in
    failing_from after c.shape.result.e (single m k) (λ l b. b ≡ not (twins m k l)) (λ l b. single_early m k l (early k l after is b))
    (λ l b a d s. s ∙ sym (single_now m k l (twins m k l) (late k l after c.args.self.now.tables.shape.e is a (subst (λ z. l < z.e) c.shape.ensures d) c.args.self.now.tables.small.1.0) refl))
    c.find.result
    (first_from_Range _ _ _ c.find.result (λ l. false ≡ not (twins m k l)) (λ l. true ≡ not (twins m k l)) c.find.ensures.ran (λ x q p. let t : twins m k x ≡ true = search rules in sym (ap not t)) (λ x q p. let t : twins m k x ≡ false = search rules in (search rules, sym (ap not t))))
    ∙ ap (λ s. failing s.e (single m k)) c.shape.ensures
