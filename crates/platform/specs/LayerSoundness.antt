-- The layers' proofs that they are sound where the platform below is.
-- Assumes nothing.
use Rattle.std.specs.Prelude.{◌≡◌, ℕ, true, zero, suc, ◌+◌, ◌-◌, ◌*◌, ◌%◌, ◌<◌, ◌≤◌, List, [], ◌∷◌, length, Some, None, Option, slice_index_or, refl}
use Rattle.std.proofs.Common.{ap, mod-lt, div-lt_iff_lt-mul}
use Rattle.std.proofs.Math.Nat.{mul-le-mul_left, add-mul-div_right, add-mul-mod_self_right}
use native.Mathlib.Omega.{arith}
use Rattle.std.proofs.Math.Arith.{digits_lt}
use Rattle.std.proofs.lemmas.List.FromFn.{length-map-range_with_len, get_or-map-range_with_len}
use Rattle.std.proofs.lemmas.Bool.Decides.{nat_tests}
use Rattle.stage.specs.Stages.{Stage, Lawful, count_of, mark_of, start_of, stop_of}
use Rattle.stage.specs.Instances.{InOrder}
use Rattle.stage.proofs.Order.{in_order, start_at, stop_at}
use Rattle.platform.specs.Platforms.{Sound}
use Rattle.platform.specs.Phases.{before, staying, moved, phase_stage, phased}
use Rattle.platform.specs.Thins.{thin_stage, thinnable, thinned}

module _ (n r : ℕ) (s : Stage) where
  pub thin_count : count_of (thin_stage n r s) ≡ count_of s
  unfolding thin_stage
  thin_count = length-map-range_with_len _ 0 (count_of s)

  pub thin_mark : (a : ℕ) → a < count_of s → mark_of (thin_stage n r s) a ≡ (start_of s (n * a + r), stop_of s (n * a + r))
  unfolding thin_stage
  thin_mark a h = get_or-map-range_with_len _ 0 (count_of s) a a (0, 0) h (omega arith)

  pub thin_start : (a : ℕ) → a < count_of s → (mark_of (thin_stage n r s) a).0 ≡ start_of s (n * a + r)
  thin_start a h = ap (λ m. m.0) (thin_mark a h)

  pub thin_stop : (a : ℕ) → a < count_of s → (mark_of (thin_stage n r s) a).1 ≡ stop_of s (n * a + r)
  thin_stop a h = ap (λ m. m.1) (thin_mark a h)

-- what a thin's answers are found by
pub ruleset thin_answers = (thin_count, thin_mark)

-- what a lawful stage's instances keep, as the layers use it
module _ (s : Stage) (l : Lawful s) where
  order : InOrder s
  order = in_order s l

  -- m cycles later the instance m × count further on does the same
  pub start_later : (m i : ℕ) → start_of s (i + m * count_of s) ≡ start_of s i + m * s.cycle
  unfolding start_of
  start_later m i = rw (add-mul-div_right i m l.count_low, add-mul-mod_self_right i m (count_of s)) (omega arith)

  pub stop_later : (m i : ℕ) → stop_of s (i + m * count_of s) ≡ stop_of s i + m * s.cycle
  unfolding stop_of
  stop_later m i = rw (add-mul-div_right i m l.count_low, add-mul-mod_self_right i m (count_of s)) (omega arith)

  pub start_before_cycle : (m i : ℕ) → i < m * count_of s → start_of s i < m * s.cycle
  unfolding start_of
  start_before_cycle m i h =
      digits_lt ((div-lt_iff_lt-mul l.count_low).1 h) (l.start_in_cycle (i % count_of s) (mod-lt i l.count_low))

  pub starts_not_fall : (i j : ℕ) → i ≤ j → start_of s i ≤ start_of s j
  starts_not_fall i j h = grind (arith, order.starts_rise i j)

  pub stop_before_later : (i j : ℕ) → i < j → stop_of s i ≤ start_of s j
  stop_before_later i j h = omega (arith, order.stop_before_next i, starts_not_fall (i + 1) j (omega arith))

  pub mark_start : (a : ℕ) → a < count_of s → start_of s a ≡ (mark_of s a).0
  mark_start a h = grind (arith, start_at s 0 a h)

  pub mark_stop : (a : ℕ) → a < count_of s → stop_of s a ≡ (mark_of s a).1
  mark_stop a h = grind (arith, stop_at s 0 a h)

-- The marks of t are instances of s, in order, each moved by `later` and back by `earlier`; m cycles of s make one of t.
record Drawn (s t : Stage) (m : ℕ) (at : ℕ → ℕ) (later earlier : ℕ) : Type 0 where
  rises : (a : ℕ) → at a < at (a + 1)
  comes_round : (a : ℕ) → a < count_of s → at a < at 0 + m * count_of s
  cycles : t.cycle ≡ m * s.cycle
  same_rank : t.rank ≡ s.rank
  same_count : count_of t ≡ count_of s
  starts : (a : ℕ) → a < count_of s → (mark_of t a).0 + earlier ≡ start_of s (at a) + later
  stops : (a : ℕ) → a < count_of s → (mark_of t a).1 + earlier ≡ stop_of s (at a) + later
  in_cycle : (a : ℕ) → a < count_of s → (mark_of t a).0 < t.cycle

module _ (s t : Stage) (l : Lawful s) (m : ℕ) (at : ℕ → ℕ) (later earlier : ℕ) (some : 1 ≤ m) (fits : m * s.cycle ≤ 100_000_000)
    (d : Drawn s t m at later earlier) where
  drawn_last : (mark_of t (count_of s - 1)).1 ≤ t.cycle + (mark_of t 0).0
  drawn_last =
      let low = l.count_low in
      let last : ℕ = count_of s - 1 in
      let inside : last < count_of s = omega arith in
      let order = stop_before_later s l (at last) (at 0 + m * count_of s) (d.comes_round last inside) in
      omega (arith, d.cycles, d.stops last inside, d.starts 0 low, start_later s l m (at 0))

  drawn_lawful : Lawful t
  drawn_lawful =
      let k = d.same_count in
      record {
        cycle_low = omega (arith, d.cycles, l.cycle_low, mul-le-mul_left m l.cycle_low);
        cycle_high = omega (arith, d.cycles);
        count_low = omega (arith, l.count_low);
        count_high = omega (arith, l.count_high);
        rank_high = omega (arith, d.same_rank, l.rank_high);
        start_in_cycle = λ a h. d.in_cycle a (omega arith);
        stop_after_start = λ a h.
            omega (arith, d.starts a (omega arith), d.stops a (omega arith), (order s l).start_before_stop (at a));
        start_after_stop = λ a h.
            omega (arith, d.stops a (omega arith), d.starts (a + 1) (omega arith), stop_before_later s l (at a) (at (a + 1)) (d.rises a));
        last_stop_in_time = rw k drawn_last;
      }

pub thin_lawful : (n r : ℕ) (s : Stage) → Lawful s → 1 ≤ n → r < n → n * s.cycle ≤ 100_000_000 → Lawful (thin_stage n r s)
unfolding thin_stage
thin_lawful n r s l some below fits =
    let within : (a : ℕ) → a < count_of s → n * a + r < n * count_of s = λ a h. omega (arith, mul-le-mul_left n h) in
    drawn_lawful s (thin_stage n r s) l n (λ a. n * a + r) 0 0 some fits
    record {
      rises = λ a. omega arith;
      comes_round = λ a h. omega (arith, within a h);
      cycles = refl;
      same_rank = refl;
      same_count = thin_count n r s;
      starts = λ a h. omega (arith, thin_start n r s a h);
      stops = λ a h. omega (arith, thin_stop n r s a h);
      in_cycle = λ a h. rw (thin_start n r s a h) (start_before_cycle s l n (n * a + r) (within a h));
    }

-- the parts of the test, as orders
pub record Thinnable (n r cycle : ℕ) : Type 0 where
  pub some : 1 ≤ n
  pub few : n ≤ 16
  pub below : r < n
  pub fits : n * cycle ≤ 100_000_000

pub thinnable_parts : (n r cycle : ℕ) → thinnable n r cycle ≡ true → Thinnable n r cycle
thinnable_parts n r cycle h =
    record {
      some = grind (arith, nat_tests);
      few = grind (arith, nat_tests);
      below = grind (arith, nat_tests);
      fits = grind (arith, nat_tests);
    }

pub thinned_sound : (n r number : ℕ) (o : Option Stage) → Sound number o → Sound number (thinned n r o)
unfolding thinned
thinned_sound n r number None h = record { lawful = tt; absent_above = λ k. refl }
thinned_sound n r number (Some s) h =
    record { lawful = grind (arith, nat_tests, thin_lawful n r s h.lawful); absent_above = λ k. grind (arith, h.absent_above k) }

-- the marks before the first that starts at `end` or later
pub before_within : (end : ℕ) (ms : List (ℕ × ℕ)) → before end ms ≤ length ms
unfolding before
before_within end [] = omega arith
before_within end (m ∷ ms) = grind (arith, nat_tests, before_within end ms)

pub before_early : (end : ℕ) (ms : List (ℕ × ℕ)) (a : ℕ) → a < before end ms → (slice_index_or ms a (0, 0)).0 < end
unfolding before
before_early end [] a h = omega arith
before_early end (m ∷ ms) zero h = grind (arith, nat_tests)
before_early end (m ∷ ms) (suc a) h = grind (arith, nat_tests, before_early end ms a)

pub before_stops : (end : ℕ) (ms : List (ℕ × ℕ)) → before end ms < length ms → end ≤ (slice_index_or ms (before end ms) (0, 0)).0
unfolding before
before_stops end [] h = omega arith
before_stops end (m ∷ ms) h = grind (arith, nat_tests, before_stops end ms)

module _ (d : ℕ) (s : Stage) where
  pub phase_count : count_of (phase_stage d s) ≡ count_of s
  unfolding phase_stage
  phase_count = length-map-range_with_len _ 0 (count_of s)

  pub phase_mark : (a : ℕ) → a < count_of s → mark_of (phase_stage d s) a ≡ moved d s (staying d s + a)
  unfolding phase_stage
  phase_mark a h = get_or-map-range_with_len (λ a. moved d s (staying d s + a)) 0 (count_of s) a a (0, 0) h (omega arith)

  pub phase_start : (a : ℕ) → a < count_of s → (mark_of (phase_stage d s) a).0 ≡ start_of s (staying d s + a) + d % s.cycle - s.cycle
  phase_start a h = ap (λ m. m.0) (phase_mark a h)

  pub phase_stop : (a : ℕ) → a < count_of s → (mark_of (phase_stage d s) a).1 ≡ stop_of s (staying d s + a) + d % s.cycle - s.cycle
  phase_stop a h = ap (λ m. m.1) (phase_mark a h)

-- what a phase's answers are found by
pub ruleset phase_answers = (phase_count, phase_mark, before_within)

module _ (d : ℕ) (s : Stage) (l : Lawful s) where
  pub shift_low : d % s.cycle < s.cycle
  shift_low = mod-lt d l.cycle_low

  pub staying_within : staying d s ≤ count_of s
  staying_within = before_within (s.cycle - d % s.cycle) s.marks

  -- one cycle later
  pub start_next : (i : ℕ) → start_of s (i + count_of s) ≡ start_of s i + s.cycle
  start_next i = (in_order s l).start_shift i

  -- the first instance that leaves the cycle, and so all after it
  pub leaves : (i : ℕ) → staying d s ≤ i → s.cycle ≤ start_of s i + d % s.cycle
  leaves i h =
      let w : ℕ = staying d s in
      let first : s.cycle ≤ start_of s w + d % s.cycle =
      grind (arith, mark_start s l w, before_stops (s.cycle - d % s.cycle) s.marks, start_next 0, starts_not_fall s l (0 + count_of s) w) in
      omega (arith, starts_not_fall s l w i h)

  -- a count of instances later the marks leave the next cycle too
  pub remains : (i : ℕ) → i < staying d s + count_of s → start_of s i + d % s.cycle < s.cycle + s.cycle
  remains i h =
      let b : ℕ = i - count_of s in
      grind (
        arith,
        shift_low,
        staying_within,
        start_next b,
        mark_start s l i,
        mark_start s l b,
        l.start_in_cycle i,
        before_early (s.cycle - d % s.cycle) s.marks b,
      )

  pub phase_lawful : Lawful (phase_stage d s)
  unfolding phase_stage
  phase_lawful =
      drawn_lawful s (phase_stage d s) l 1 (λ a. staying d s + a) (d % s.cycle) s.cycle (omega arith) (omega (arith, l.cycle_high))
      record {
        rises = λ a. omega arith;
        comes_round = λ a h. omega arith;
        cycles = omega arith;
        same_rank = refl;
        same_count = phase_count d s;
        starts = λ a h. omega (arith, phase_start d s a h, leaves (staying d s + a) (omega arith));
        stops = λ a h.
            omega (arith, phase_stop d s a h, leaves (staying d s + a) (omega arith), (in_order s l).start_before_stop (staying d s + a));
        in_cycle = λ a h.
            omega (arith, phase_start d s a h, leaves (staying d s + a) (omega arith), remains (staying d s + a) (omega arith));
      }

pub phased_sound : (d number : ℕ) (o : Option Stage) → Sound number o → Sound number (phased d o)
phased_sound d number None h = record { lawful = tt; absent_above = λ k. refl }
phased_sound d number (Some s) h =
    record {
      lawful = phase_lawful d s h.lawful;
      absent_above = λ k. grind (arith, h.absent_above k);
    }
