-- One hop between rows in memory, step by step as the code takes it.
-- Assumes nothing.
use Rattle.std.proofs.Common.{◌≡◌, ℕ, ◌+◌, ◌-◌, ◌^◌, ◌<◌, ◌≤◌, Option, Some, None, refl, subst, ⊎_elim, arith, IsTrue, false, ◌↔◌}
use Rattle.std.specs.Option.{SomeIff, IsSome}
use Rattle.std.proofs.lemmas.Bool.{cases_lt, false≢true}
use Rattle.stage.specs.Stages.{Stage, Lawful, start_of, stop_of}
use Rattle.stage.specs.Instances.{FirstFrom}
use Rattle.stage.proofs.Order.{in_order}
use Rattle.stage.specs.LawfulRow.{stage_in}
use Rattle.path.specs.declared.hop.Hop.{Hop}
use Rattle.path.specs.Forward.{Waits}
use Rattle.path.specs.Steps.{back_of}
use Rattle.path.proofs.Given.{laws_in}
use Rattle.path.proofs.Ready.{back_waiting, back_stopped, back_running, back_nothing}

-- a time that fits is answered, and the answer is that time
pub answered : (o : Option ℕ) (t : ℕ) → SomeIff o (t < 2 ^ 64) t → t < 2 ^ 64 → IsSome o
answered None t h l = absurd (h l)
answered (Some x) t h l = refl

pub answer_is : (o : Option ℕ) (t x : ℕ) → SomeIff o (t < 2 ^ 64) t → o ≡ Some x → x ≡ t
answer_is None t x h e = cc
answer_is (Some y) t x h e = let s = h.1 in cc

pub stop_soon : (s : Stage) → Lawful s → (i : ℕ) → stop_of s i ≤ start_of s i + 100_000_000
stop_soon s l i = omega (arith, (in_order s l).stop_before_next i, (in_order s l).next_within_cycle i, l.cycle_high)

-- a test that failed
pub refuted : (P : Type 0) → IsTrue false ↔ P → ¬ P
refuted P e h = false≢true (e.1 h)

-- What the step back from reader j learns, which starts at t and before which n writers start.
pub record StepsBack (hop : Hop) (j t n : ℕ) : Type 0 where
  -- some writer has started, and the last of them stops soon
  pub some : 1 ≤ n
  pub stops : stop_of (stage_in hop.writer.now) (n - 1) ≤ t + 100_000_000
  -- it is the one that is read, where the reader waits or it has stopped
  pub waiting : Waits (stage_in hop.writer.now) (stage_in hop.reader.now)
      → n - 1 + 1 ≡ back_of (stage_in hop.writer.now) (stage_in hop.reader.now) (j + 1)
  pub stopped : ¬ Waits (stage_in hop.writer.now) (stage_in hop.reader.now) → stop_of (stage_in hop.writer.now) (n - 1) ≤ t
      → n - 1 + 1 ≡ back_of (stage_in hop.writer.now) (stage_in hop.reader.now) (j + 1)
  -- otherwise the one before it
  pub running : ¬ Waits (stage_in hop.writer.now) (stage_in hop.reader.now) → t < stop_of (stage_in hop.writer.now) (n - 1)
      → n - 1 ≡ back_of (stage_in hop.writer.now) (stage_in hop.reader.now) (j + 1)

steps_back : (w r : Stage) → Lawful w → Lawful r → (j n : ℕ) → FirstFrom w (start_of r j + 1) n → 0 < back_of w r (j + 1) → 1 ≤ n
steps_back w r lw lr j n f there =
    ⊎_elim (λ k. omega arith) (λ k. omega (arith, back_nothing w r lw lr j n f (omega arith))) (cases_lt 0 n)

pub step_back : (hop : Hop) (j t n : ℕ) (o : Option ℕ)
    → SomeIff o (start_of (stage_in hop.reader.now) j < 2 ^ 64) (start_of (stage_in hop.reader.now) j) → o ≡ Some t
    → FirstFrom (stage_in hop.writer.now) (t + 1) n
    → 0 < back_of (stage_in hop.writer.now) (stage_in hop.reader.now) (j + 1) → StepsBack hop j t n
step_back hop j t n o look was g there =
    let w : Stage = stage_in hop.writer.now in
    let r : Stage = stage_in hop.reader.now in
    let lw = laws_in hop.writer.now in
    let lr = laws_in hop.reader.now in
    let e = answer_is o (start_of r j) t look was in
    let f = subst (λ x. FirstFrom w (x + 1) n) e g in
    let some = steps_back w r lw lr j n f there in
    record {
      some = some;
      stops = omega (arith, f.earlier (n - 1) (omega arith), stop_soon w lw (n - 1));
      waiting = λ h. omega (arith, back_waiting w r lw lr j n f h);
      stopped = λ h k. omega (arith, back_stopped w r lw lr j n f h (omega arith) (omega arith));
      running = λ h k. back_running w r lw lr j n f h (omega arith) (omega arith);
    }
