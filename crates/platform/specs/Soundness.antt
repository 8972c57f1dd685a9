-- The writers' proofs that their platforms are sound.
-- Assumes nothing.
use Rattle.std.specs.Prelude.{◌≡◌, ℕ, ◌<◌, ◌≤◌, true, List}
use Rattle.std.proofs.Common.{arith}
use Rattle.std.proofs.lemmas.Bool.Decides.{nat_tests}
use Rattle.std.proofs.lemmas.Grind.{common_steps}
use Rattle.stage.specs.Stages.{Lawful}
use Rattle.platform.specs.declared.record.Record.{Record}
use Rattle.platform.specs.Records.{in_range, record_stage, metronome_record, metronome_stage}
use Rattle.platform.specs.Platforms.{Sound}

-- the limits of a record, as orders
pub record Limits (r : Record) : Type 0 where
  pub period_low : 100 ≤ r.period
  pub period_high : r.period ≤ 1_000_000
  pub offset_high : r.offset < r.period
  pub response_low : 0 < r.response
  pub response_high : r.response ≤ r.period
  pub rank_high : r.rank ≤ 255

pub limits : (r : Record) → in_range r ≡ true → Limits r
limits r h =
    record {
      period_low = grind (arith, nat_tests);
      period_high = grind (arith, nat_tests);
      offset_high = grind (arith, nat_tests);
      response_low = grind (arith, nat_tests);
      response_high = grind (arith, nat_tests);
      rank_high = grind (arith, nat_tests);
    }

-- a record within the limits is a lawful stage
pub record_lawful : (r : Record) → in_range r ≡ true → Lawful (record_stage r)
record_lawful r h =
    let l = limits r h in
    record {
      cycle_low = omega arith;
      cycle_high = omega arith;
      count_low = omega arith;
      count_high = omega arith;
      rank_high = omega arith;
      start_in_cycle = λ a k. grind (arith, common_steps);
      stop_after_start = λ a k. grind (arith, common_steps);
      start_after_stop = λ a k. absurd (omega arith);
      last_stop_in_time = omega arith;
    }

pub metronome_sound : (records : List Record) (n : ℕ) → Sound n (metronome_stage records n)
unfolding metronome_record
metronome_sound records n =
    record {
      lawful = grind (arith, nat_tests, record_lawful);
      absent_above = λ h. grind (arith, nat_tests);
    }
