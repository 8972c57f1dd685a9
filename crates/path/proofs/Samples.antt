-- The worked cases hold: each figure is worked out by computing.
-- Assumes nothing.
use Rattle.std.proofs.Common.{ℕ, zero, suc, ◌<◌, ◌≤◌, List, [], ◌∷◌, length, Option, refl, arith}
use Rattle.std.specs.List.{AllByRecursion}
use Rattle.stage.specs.Stages.{Stage, Lawful, mark_of, start_of, stop_of}
use Rattle.path.specs.declared.semantics.Semantics.{Semantics}
use Rattle.path.specs.declared.semantics.Semantics.TheVariants.{LL, LF, FL, FF}
use Rattle.path.specs.Periods.{Common, instances_in}
use Rattle.path.specs.Figures.{Figure}
use Rattle.path.specs.Steps.{count_to, ready_of, trace_back}
use Rattle.path.specs.Samples.{one_mark, stage_1, stage_3, stage_4, stage_5, stage_128, Holds, samples}
use Rattle.path.proofs.Next.{next_of, ahead_quick, back_quick, quick_hops}
use Rattle.path.proofs.Found.{Found, visit_one, visit_many, figure_found}

one_mark_lawful : (period offset response rank : ℕ) → 1 ≤ period → period ≤ 100_000_000 → offset < period → 1 ≤ response → response ≤ period → rank ≤ 255 → Lawful (one_mark period offset response rank)
one_mark_lawful c o r k c1 c2 oc r1 rc k2 =
    record {
      cycle_low = c1;
      cycle_high = c2;
      count_low = omega arith;
      count_high = omega arith;
      rank_high = k2;
      start_in_cycle = starts;
      stop_after_start = stops;
      start_after_stop = λ a h. absurd (omega arith);
      last_stop_in_time = omega arith;
    }
  where
    starts : (a : ℕ) → a < 1 → (mark_of (one_mark c o r k) a).0 < c
    starts zero h = oc
    starts (suc a) h = absurd (omega arith)

    stops : (a : ℕ) → a < 1 → (mark_of (one_mark c o r k) a).0 < (mark_of (one_mark c o r k) a).1
    stops zero h = omega arith
    stops (suc a) h = absurd (omega arith)

stage_1_lawful : Lawful stage_1
stage_1_lawful = one_mark_lawful 10_000 0 2_000 5 (omega arith) (omega arith) (omega arith) (omega arith) (omega arith) (omega arith)

stage_3_lawful : Lawful stage_3
stage_3_lawful = one_mark_lawful 4_000 0 500 1 (omega arith) (omega arith) (omega arith) (omega arith) (omega arith) (omega arith)

stage_4_lawful : Lawful stage_4
stage_4_lawful = one_mark_lawful 4_000 0 500 9 (omega arith) (omega arith) (omega arith) (omega arith) (omega arith) (omega arith)

stage_5_lawful : Lawful stage_5
stage_5_lawful = one_mark_lawful 10_000 0 3_000 5 (omega arith) (omega arith) (omega arith) (omega arith) (omega arith) (omega arith)

stage_128_lawful : Lawful stage_128
stage_128_lawful = one_mark_lawful 20_000 0 5_000 1 (omega arith) (omega arith) (omega arith) (omega arith) (omega arith) (omega arith)

-- a worked route: its stages repeat after 20,000 microseconds
record Worked (ss : List Stage) : Type 0 where
  some : 0 < length ss
  lawful : AllByRecursion Lawful ss
  common : Common 20_000 ss

-- its figure, which nine blocks show
worked : {ss : List Stage} → Worked ss → (m : Semantics) (delay : ℕ) (predecessor : Option ℕ) (witness : List ℕ)
    → Found m ss (quick_hops ss) 20_000 9 delay predecessor witness → Figure m ss delay predecessor witness
worked {ss} r m d p w f = figure_found m ss r.some r.lawful 20_000 r.common 9 d p w f

slow_quick : Worked (stage_1 ∷ (stage_3 ∷ []))
slow_quick = record { some = omega arith; lawful = (stage_1_lawful, (stage_3_lawful, tt)); common = record { positive = omega arith; whole = (refl, (refl, tt)) } }

quick_slow : Worked (stage_3 ∷ (stage_1 ∷ []))
quick_slow = record { some = omega arith; lawful = (stage_3_lawful, (stage_1_lawful, tt)); common = record { positive = omega arith; whole = (refl, (refl, tt)) } }

alone : Worked (stage_1 ∷ [])
alone = record { some = omega arith; lawful = (stage_1_lawful, tt); common = record { positive = omega arith; whole = (refl, tt) } }

twice : Worked (stage_1 ∷ (stage_1 ∷ []))
twice = record { some = omega arith; lawful = (stage_1_lawful, (stage_1_lawful, tt)); common = record { positive = omega arith; whole = (refl, (refl, tt)) } }

three : Worked (stage_4 ∷ (stage_5 ∷ (stage_128 ∷ [])))
three = record { some = omega arith; lawful = (stage_4_lawful, (stage_5_lawful, (stage_128_lawful, tt))); common = record { positive = omega arith; whole = (refl, (refl, (refl, tt))) } }

pub samples_hold : AllByRecursion Holds samples
unfolding start_of stop_of count_to ready_of trace_back next_of ahead_quick back_quick visit_one visit_many instances_in
samples_hold = (
  worked slow_quick LL _ _ _ (record { enough = refl; delay_is = refl; predecessor_is = refl; witness_is = refl }),
  (
    worked slow_quick LF _ _ _ (record { enough = refl; delay_is = refl; predecessor_is = refl; witness_is = refl }),
    (
      worked slow_quick FL _ _ _ (record { enough = refl; delay_is = refl; predecessor_is = refl; witness_is = refl }),
      (
        worked slow_quick FF _ _ _ (record { enough = refl; delay_is = refl; predecessor_is = refl; witness_is = refl }),
        (
          worked quick_slow LL _ _ _ (record { enough = refl; delay_is = refl; predecessor_is = refl; witness_is = refl }),
          (
            worked quick_slow LF _ _ _ (record { enough = refl; delay_is = refl; predecessor_is = refl; witness_is = refl }),
            (
              worked quick_slow FL _ _ _ (record { enough = refl; delay_is = refl; predecessor_is = refl; witness_is = refl }),
              (
                worked quick_slow FF _ _ _ (record { enough = refl; delay_is = refl; predecessor_is = refl; witness_is = refl }),
                (
                  worked alone LL _ _ _ (record { enough = refl; delay_is = refl; predecessor_is = refl; witness_is = refl }),
                  (
                    worked alone LF _ _ _ (record { enough = refl; delay_is = refl; predecessor_is = refl; witness_is = refl }),
                    (
                      worked alone FL _ _ _ (record { enough = refl; delay_is = refl; predecessor_is = refl; witness_is = refl }),
                      (
                        worked alone FF _ _ _ (record { enough = refl; delay_is = refl; predecessor_is = refl; witness_is = refl }),
                        (
                          worked twice LL _ _ _ (record { enough = refl; delay_is = refl; predecessor_is = refl; witness_is = refl }),
                          (
                            worked twice LF _ _ _ (record { enough = refl; delay_is = refl; predecessor_is = refl; witness_is = refl }),
                            (
                              worked twice FL _ _ _ (record { enough = refl; delay_is = refl; predecessor_is = refl; witness_is = refl }),
                              (
                                worked twice FF _ _ _ (record { enough = refl; delay_is = refl; predecessor_is = refl; witness_is = refl }),
                                (
                                  worked three LL _ _ _ (record { enough = refl; delay_is = refl; predecessor_is = refl; witness_is = refl }),
                                  (
                                    worked three LF _ _ _ (record { enough = refl; delay_is = refl; predecessor_is = refl; witness_is = refl }),
                                    (
                                      worked three FL _ _ _ (record { enough = refl; delay_is = refl; predecessor_is = refl; witness_is = refl }),
                                      (
                                        worked three FF _ _ _ (record { enough = refl; delay_is = refl; predecessor_is = refl; witness_is = refl }),
                                        tt,
                                      ),
                                    ),
                                  ),
                                ),
                              ),
                            ),
                          ),
                        ),
                      ),
                    ),
                  ),
                ),
              ),
            ),
          ),
        ),
      ),
    ),
  ),
)
