-- What a layer learns from the answers of the platform below.
-- Assumes nothing.
use Rattle.std.proofs.Common.{◌≡◌, ℕ, ◌*◌, ◌/◌, ◌<◌, ◌≤◌, Some, None, Option, refl, arith}
use Rattle.std.proofs.lemmas.Bool.Decides.{nat_tests}
use Rattle.stage.specs.Stages.{Stage, Lawful, count_of, mark_of}
use Rattle.stage.proofs.Order.{in_order}
use Rattle.platform.specs.Platforms.{Sound, described}
use Rattle.platform.specs.Layers.{Shaped}
use Rattle.platform.specs.LayerSoundness.{mark_start, mark_stop}

-- the answer to `describe`
pub shaped : {o : Option Stage} {number cycle count rank : ℕ} → Sound number o → Some (cycle, count, rank) ≡ described o → Shaped o cycle count
shaped {o = None} h e = absurd (grind arith)
shaped {o = Some s} h e =
    record { stage = s; present = refl; lawful = h.lawful; cycle_is = grind arith; count_is = grind arith }

-- a mark stops at most two cycles after the cycle's beginning
pub stop_low : (s : Stage) → Lawful s → (b : ℕ) → b < count_of s → (mark_of s b).1 ≤ 2 * s.cycle
stop_low s l b h =
    let o = in_order s l in
    omega (arith, mark_start s l b h, mark_stop s l b h, l.start_in_cycle b h, o.stop_before_next b, o.next_within_cycle b)

-- the cycles before an instance of the first 16 cycles
pub whole_high : (i cycle count : ℕ) → i < 16 * count → 1 ≤ count → cycle ≤ 100_000_000 → i / count * cycle ≤ 1_600_000_000
whole_high i cycle count soon k c = grind (arith, nat_tests)

-- what an instance's answers are found by
pub ruleset instance_limits = (whole_high, stop_low)
