use Rattle.std.proofs.Common.{sym, subst, arith}
use Rattle.stage.specs.Periods.{GreatestCommonDivisor}
use Rattle.stage.proofs.Divisors.{gcd_step, gcd_zero}
use Rattle.stage.proofs.period.gcd.Goals as goal

pub loop-b-preserved : goal.loop-b-preserved
loop-b-preserved c = λ g h. c.loop-b.invariant g (gcd_step c.loop-b.a c.loop-b.b g (omega arith) h)

pub returns : goal.returns
returns c =
    c.loop-b.invariant c.loop-b.a
    (subst (λ b. GreatestCommonDivisor c.loop-b.a b c.loop-b.a) (sym c.loop-b-test.false) (gcd_zero c.loop-b.a))
