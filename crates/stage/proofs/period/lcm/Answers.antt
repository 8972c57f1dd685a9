use Rattle.std.proofs.Common.{◌<◌, subst, ⊎_elim, arith}
use native.Mathlib.Nat.{pos_of_dvd_of_pos, le_of_dvd}
use Rattle.stage.specs.Periods.{Divides}
use Rattle.stage.proofs.Divisors.{pair_first, pair_second, pair_least, zero_divides}
use Rattle.stage.proofs.period.lcm.Goals as goal

pub returns-then-a-lt1 : goal.returns-then-a-lt1
returns-then-a-lt1 c = λ m common.
    ⊎_elim
    (λ e. absurd (zero_divides m common.positive (subst (λ n. Divides n m) (omega arith) (pair_first c.args.a c.args.b m common))))
    (λ e. absurd (zero_divides m common.positive (subst (λ n. Divides n m) (omega (arith, e.1)) (pair_second c.args.a c.args.b m common))))
    c.then-a-lt1.either

pub nonzero_div-product : goal.nonzero_div-product
nonzero_div-product c =
    let pos : 0 < c.args.a = omega arith in
    pos_of_dvd_of_pos c.gcd.ensures.divides_first pos

pub returns-then-product : goal.returns-then-product
returns-then-product c =
    (pair_least c.args.a c.args.b c.gcd.result (omega arith) (omega arith) c.gcd.ensures, c.if-product.true)

pub returns-else-product : goal.returns-else-product
returns-else-product c = λ m common.
    let least = pair_least c.args.a c.args.b c.gcd.result (omega arith) (omega arith) c.gcd.ensures in
    omega (arith, le_of_dvd common.positive (least.least m common), c.if-product.false)
