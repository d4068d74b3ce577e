use Rattle.std.proofs.Common.{ℕ, ◌<◌, None, Some, sym, lt_of_lt_of_le, arith}
use Rattle.links.proofs.First.{none_failing2, first_failing2}
use Rattle.links.proofs.search.first_pair.Goals as goal

before : (a i k : ℕ) → a < i → i < k → a < k
before a i k p q = omega (arith, p, q)

pub returns-in-Some : goal.returns-in-Some
returns-in-Some g c l t is =
    sym (first_failing2 c.args.count l t c.loop-i.i c.in-Some.j c.loop-i-test.true
    (λ a b. sym (is a None (before a c.loop-i.i c.args.count b c.loop-i-test.true) (c.loop-i.invariant a b)))
    (sym (is c.loop-i.i (Some c.in-Some.j) c.loop-i-test.true c.in-Some.ensures)))

pub returns : goal.returns
returns g c l t is = sym (none_failing2 c.args.count l t (λ i b. sym (is i None b (c.loop-i.invariant i (lt_of_lt_of_le b c.loop-i-test.false)))))
