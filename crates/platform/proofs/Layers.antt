-- What the layers promise of every lawful stage.
-- Assumes nothing.
use Rattle.std.proofs.Common.{◌≡◌, ℕ, ◌+◌, ◌-◌, ◌*◌, ◌/◌, ◌%◌, ◌<◌, ◌≤◌, refl, ap, subst, ⊎_elim, mod-lt, mod-eq_of_lt, div-add-mod', arith}
use native.Mathlib.Nat.{add-mod_right}
use Rattle.std.proofs.lemmas.Bool.{cases_lt}
use Rattle.stage.specs.Stages.{Stage, Lawful, count_of, mark_of, start_of, stop_of}
use Rattle.stage.proofs.Order.{in_order}
use Rattle.platform.specs.Phases.{staying, phase_stage, Runs, time_below, EveryPhase}
use Rattle.platform.specs.Thins.{thin_stage, EveryThinning}
use Rattle.platform.specs.LayerSoundness.{thin_count, thin_start, thin_stop, start_later, stop_later, mark_start, mark_stop, before_early, phase_count, phase_start, phase_stop, shift_low, staying_within, leaves, phase_lawful}

-- an instance, by its cycle and its mark
pub start_by : (t : Stage) (k i : ℕ) → count_of t ≡ k → start_of t i ≡ i / k * t.cycle + (mark_of t (i % k)).0
unfolding start_of
start_by t k i e = subst (λ n. start_of t i ≡ i / n * t.cycle + (mark_of t (i % n)).0) e refl

pub stop_by : (t : Stage) (k i : ℕ) → count_of t ≡ k → stop_of t i ≡ i / k * t.cycle + (mark_of t (i % k)).1
unfolding stop_of
stop_by t k i e = subst (λ n. stop_of t i ≡ i / n * t.cycle + (mark_of t (i % n)).1) e refl

module _ (n r : ℕ) (s : Stage) (l : Lawful s) (i : ℕ) where
  -- the instance below, by the mark above and its cycle
  below_at : n * (i % count_of s) + r + n * (i / count_of s) * count_of s ≡ n * i + r
  below_at = omega (arith, ap (λ x. n * x + r) (div-add-mod' i (count_of s)))

  thin_cycle : (thin_stage n r s).cycle ≡ n * s.cycle
  unfolding thin_stage
  thin_cycle = refl

  -- a start or a stop of the stage above, from its mark and the instance below
  thin_times : (time : Stage → ℕ → ℕ) (part : ℕ × ℕ → ℕ) → let t = thin_stage n r s in let a = i % count_of s in let q = i / count_of s in
      time t i ≡ q * t.cycle + part (mark_of t a) → part (mark_of t a) ≡ time s (n * a + r)
      → time s (n * a + r + n * q * count_of s) ≡ time s (n * a + r) + n * q * s.cycle → time t i ≡ time s (n * i + r)
  thin_times time part above mark later =
      let cycles = ap (λ x. i / count_of s * x) thin_cycle in
      let here = ap (time s) below_at in
      omega arith

  thin_starts : start_of (thin_stage n r s) i ≡ start_of s (n * i + r)
  thin_starts =
      thin_times start_of (λ m. m.0)
      (start_by (thin_stage n r s) (count_of s) i (thin_count n r s))
      (thin_start n r s (i % count_of s) (mod-lt i l.count_low))
      (start_later s l (n * (i / count_of s)) (n * (i % count_of s) + r))

  thin_stops : stop_of (thin_stage n r s) i ≡ stop_of s (n * i + r)
  thin_stops =
      thin_times stop_of (λ m. m.1)
      (stop_by (thin_stage n r s) (count_of s) i (thin_count n r s))
      (thin_stop n r s (i % count_of s) (mod-lt i l.count_low))
      (stop_later s l (n * (i / count_of s)) (n * (i % count_of s) + r))

pub every_thinning : EveryThinning
unfolding thin_stage
every_thinning n r s some few below l fits =
    record {
      n_cycles = refl;
      same_rank = refl;
      same_count = thin_count n r s;
      starts_below = thin_starts n r s l;
      stops_below = thin_stops n r s l;
    }

module _ (d : ℕ) (s : Stage) (l : Lawful s) where
  -- mark a above is mark b below, moved and then taken back by `back`
  record IsMoved (a b back : ℕ) : Type 0 where
    above_starts : (mark_of (phase_stage d s) a).0 + back ≡ (mark_of s b).0 + d % s.cycle
    above_stops : (mark_of (phase_stage d s) a).1 + back ≡ (mark_of s b).1 + d % s.cycle

  -- a mark that leaves the cycle comes back one cycle earlier
  wraps : (a b : ℕ) → staying d s + a ≡ b → b < count_of s → IsMoved a b s.cycle
  wraps a b e k =
      record {
        above_starts = grind (arith, phase_start d s a, mark_start s l b, leaves d s l b);
        above_stops = grind (arith, phase_stop d s a, mark_start s l b, mark_stop s l b, leaves d s l b, l.stop_after_start b);
      }

  stays : (a b : ℕ) → staying d s + a ≡ b + count_of s → b < staying d s → IsMoved a b 0
  stays a b e k =
      record {
        above_starts = grind (arith, staying_within d s l, phase_start d s a, mark_start s l b, (in_order s l).start_shift b);
        above_stops = grind (arith, staying_within d s l, phase_stop d s a, mark_stop s l b, (in_order s l).stop_shift b);
      }

  -- the time below of a time before the shift, and of one from the shift on
  time_wraps : (time : ℕ) → time < d % s.cycle → time_below d s time ≡ time + s.cycle - d % s.cycle
  time_wraps time h = mod-eq_of_lt (omega (arith, shift_low d s l))

  time_stays : (time : ℕ) → d % s.cycle ≤ time → time < s.cycle → time_below d s time ≡ time - d % s.cycle
  time_stays time h k =
      let back : ℕ = time - d % s.cycle in
      let same : back % s.cycle ≡ back = mod-eq_of_lt (omega arith) in
      grind (arith, add-mod_right back s.cycle)

  -- a mark leaves the cycle just where its number says so
  leaves_from : (b : ℕ) → s.cycle ≤ (mark_of s b).0 + d % s.cycle → staying d s ≤ b
  leaves_from b h = grind (arith, before_early (s.cycle - d % s.cycle) s.marks b)

  stays_before : (b : ℕ) → b < count_of s → (mark_of s b).0 + d % s.cycle < s.cycle → b < staying d s
  stays_before b h k = grind (arith, mark_start s l b h, leaves d s l b)

  to_above : (time span : ℕ) → time < s.cycle → Runs s (time_below d s time) span → Runs (phase_stage d s) time span
  to_above time span h run =
      let b = run.at in
      let n = phase_count d s in
      let w = staying_within d s l in
      ⊎_elim
      (λ early.
      let t = time_wraps time early in
      let from : staying d s ≤ b = leaves_from b (omega (arith, run.starts)) in
      let a : ℕ = b - staying d s in
      let above = wraps a b (omega arith) run.present in
      record { at = a; present = omega (arith, run.present); starts = omega (arith, run.starts); stops = omega (arith, run.stops) })
      (λ late.
      let t = time_stays time late h in
      let from : b < staying d s = stays_before b run.present (omega (arith, run.starts)) in
      let a : ℕ = b + count_of s - staying d s in
      let above = stays a b (omega arith) from in
      record { at = a; present = omega arith; starts = omega (arith, run.starts); stops = omega (arith, run.stops) })
      (cases_lt time (d % s.cycle))

  from_below : (time span : ℕ) → Runs (phase_stage d s) time span → Runs s (time_below d s time) span
  from_below time span run =
      let a = run.at in
      let n = phase_count d s in
      let w = staying_within d s l in
      ⊎_elim
      (λ k.
      let b : ℕ = staying d s + a in
      let above = wraps a b refl k in
      let low = l.start_in_cycle b k in
      let t = time_wraps time (omega (arith, run.starts)) in
      record { at = b; present = k; starts = omega (arith, run.starts); stops = omega (arith, run.starts, run.stops) })
      (λ k.
      let b : ℕ = staying d s + a - count_of s in
      let in_time : b < staying d s = omega (arith, run.present) in
      let above = stays a b (omega arith) in_time in
      let low = before_early (s.cycle - d % s.cycle) s.marks b in_time in
      let t = time_stays time (omega (arith, run.starts)) (omega (arith, run.starts)) in
      record { at = b; present = omega arith; starts = omega (arith, run.starts); stops = omega (arith, run.starts, run.stops) })
      (cases_lt (staying d s + a) (count_of s))

pub every_phase : EveryPhase
unfolding phase_stage
every_phase d s l =
    record {
      same_cycle = refl;
      same_rank = refl;
      same_count = phase_count d s;
      in_cycle = λ time span run. subst (λ x. x < s.cycle) run.starts ((phase_lawful d s l).start_in_cycle run.at run.present);
      from_below = from_below d s l;
      to_above = to_above d s l;
    }
