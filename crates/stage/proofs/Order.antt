-- The instances of a lawful stage come one after the other and repeat with the cycle.
-- Assumes nothing.
use Rattle.std.proofs.Common.{◌≡◌, ℕ, zero, suc, ◌+◌, ◌-◌, ◌*◌, ◌/◌, ◌%◌, ◌<◌, ◌≤◌, refl, subst, ⊎_elim, add_assoc, mod-lt, div-add-mod', add-one, arith}
use native.Mathlib.Nat.{add-div_right, add-mod_right}
use lib.Arith.{digits_div, digits_mod}
use Rattle.std.proofs.lemmas.Bool.{cases_lt}
use Rattle.stage.specs.Stages.{Stage, Lawful, count_of, mark_of, start_of, stop_of}
use Rattle.stage.specs.Instances.{InOrder}

-- instance q × count + a, by its mark
pub start_at : (s : Stage) (q a : ℕ) → a < count_of s → start_of s (q * count_of s + a) ≡ q * s.cycle + (mark_of s a).0
unfolding start_of
start_at s q a h = rw (digits_div q h, digits_mod q h) refl

pub stop_at : (s : Stage) (q a : ℕ) → a < count_of s → stop_of s (q * count_of s + a) ≡ q * s.cycle + (mark_of s a).1
unfolding stop_of
stop_at s q a h = rw (digits_div q h, digits_mod q h) refl

module _ (s : Stage) (l : Lawful s) where
  count_pos : 0 < count_of s
  count_pos = omega arith

  start_shifts : (i : ℕ) → start_of s (i + count_of s) ≡ start_of s i + s.cycle
  unfolding start_of
  start_shifts i = rw (add-div_right i count_pos, add-mod_right i (count_of s)) (omega arith)

  stop_shifts : (i : ℕ) → stop_of s (i + count_of s) ≡ stop_of s i + s.cycle
  unfolding stop_of
  stop_shifts i = rw (add-div_right i count_pos, add-mod_right i (count_of s)) (omega arith)

  first_mark_first : (a : ℕ) → a < count_of s → (mark_of s 0).0 ≤ (mark_of s a).0
  first_mark_first zero h = omega arith
  first_mark_first (suc a) h =
      let before = first_mark_first a (omega arith) in
      let h' : a + 1 < count_of s = omega arith in
      let up : (mark_of s a).0 < (mark_of s (a + 1)).0 =
      omega (arith, l.stop_after_start a (omega arith), l.start_after_stop a h') in
      rw (← add-one) (omega arith)

  -- what one instance and the next have to do with each other
  record Step (i : ℕ) : Type 0 where
    start_stop : start_of s i < stop_of s i
    stop_next : stop_of s i ≤ start_of s (i + 1)
    next_soon : start_of s (i + 1) ≤ start_of s i + s.cycle

  -- at a mark that is not the cycle's last
  step_within : (q a : ℕ) → a + 1 < count_of s → Step (q * count_of s + a)
  step_within q a h =
      let h' : a < count_of s = omega arith in
      let b = start_at s q a h' in
      let e = stop_at s q a h' in
      let n : start_of s (q * count_of s + a + 1) ≡ q * s.cycle + (mark_of s (a + 1)).0 =
      rw add_assoc (start_at s q (a + 1) h) in
      record {
        start_stop = omega (arith, l.stop_after_start a h');
        stop_next = omega (arith, l.start_after_stop a h);
        next_soon = omega (arith, l.start_in_cycle (a + 1) h);
      }

  -- at the cycle's last mark
  step_across : (q a : ℕ) → a + 1 ≡ count_of s → Step (q * count_of s + a)
  step_across q a h =
      let h' : a < count_of s = omega arith in
      let b = start_at s q a h' in
      let e = stop_at s q a h' in
      let at : q * count_of s + a + 1 ≡ (q + 1) * count_of s + 0 = omega arith in
      let n : start_of s (q * count_of s + a + 1) ≡ (q + 1) * s.cycle + (mark_of s 0).0 =
      rw at (start_at s (q + 1) 0 count_pos) in
      let last : (mark_of s a).1 ≤ s.cycle + (mark_of s 0).0 =
      subst (λ k. (mark_of s k).1 ≤ s.cycle + (mark_of s 0).0) (omega arith) l.last_stop_in_time in
      record {
        start_stop = omega (arith, l.stop_after_start a h');
        stop_next = omega arith;
        next_soon = omega (arith, first_mark_first a h');
      }

  step : (i : ℕ) → Step i
  step i =
      let a<k = mod-lt i count_pos in
      let at : Step (i / count_of s * count_of s + i % count_of s) =
      ⊎_elim (step_within (i / count_of s) (i % count_of s))
      (λ h. step_across (i / count_of s) (i % count_of s) (omega arith))
      (cases_lt (i % count_of s + 1) (count_of s)) in
      subst Step (div-add-mod' i (count_of s)) at

  rises : (i d : ℕ) → start_of s i < start_of s (i + (d + 1))
  rises i zero = omega (arith, (step i).start_stop, (step i).stop_next)
  rises i (suc d) =
      let before = rises i d in
      let more = step (i + (d + 1)) in
      let up : start_of s i < start_of s (i + (d + 1) + 1) = omega arith in
      subst (λ k. start_of s i < start_of s k) (omega arith) up

  number_low : (i : ℕ) → i ≤ start_of s i
  number_low zero = omega arith
  number_low (suc i) =
      let before = number_low i in
      let more = step i in
      rw (← add-one) (omega arith)

  pub in_order : InOrder s
  in_order =
      record {
        start_shift = start_shifts;
        stop_shift = stop_shifts;
        starts_rise = λ i j h. subst (λ k. start_of s i < start_of s k) (omega arith) (rises i (j - i - 1));
        start_before_stop = λ i. (step i).start_stop;
        stop_before_next = λ i. (step i).stop_next;
        next_within_cycle = λ i. (step i).next_soon;
        number_below_start = number_low;
      }
