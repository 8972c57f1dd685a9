-- What a phase layer answers, from what the platform below answers.
-- Assumes nothing.
use Rattle.std.proofs.Common.{◌≡◌, ℕ, ◌+◌, ◌-◌, ◌%◌, ◌<◌, ◌≤◌, Some, None, Option, sym, refl, ap, arith}
use Rattle.stage.specs.Stages.{Stage, Lawful, count_of, mark_of}
use Rattle.stage.proofs.Order.{in_order}
use Rattle.platform.specs.Platforms.{described}
use Rattle.platform.specs.Layers.{Shaped, instanced, marks_before}
use Rattle.platform.specs.Phases.{before, phase_stage, phased}
use Rattle.platform.specs.LayerSoundness.{mark_start, starts_not_fall, before_within, before_early, before_stops, phase_count, leaves, remains, staying_within}

pub phase_described : (d : ℕ) (o : Option Stage) → described o ≡ described (phased d o)
unfolding phase_stage
phase_described d None = refl
phase_described d (Some s) = ap (λ k. Some (s.cycle, k, s.rank)) (sym (phase_count d s))

-- a mark that starts before `end` is among the marks before the first that does not
pub before_covers : (s : Stage) → Lawful s → (end a : ℕ) → a < count_of s → (mark_of s a).0 < end → a < before end s.marks
before_covers s l end a h e =
    let first : ℕ = before end s.marks in
    grind (arith, before_stops end s.marks, starts_not_fall s l first a, mark_start s l first, mark_start s l a)

-- what the search for that mark is found by
pub ruleset halving = (before_within, before_early, before_covers)

-- an instance below that becomes a mark leaves its cycle
pub leaves_cycle : (d : ℕ) (o : Option Stage) (cycle count : ℕ) (p : Shaped o cycle count) (a first start stop : ℕ)
    → first ≡ marks_before (cycle - d % cycle) o → Some (start, stop) ≡ instanced o (first + a)
    → (cycle - d % cycle ≤ start) × (start < stop)
leaves_cycle d o cycle count p a first start stop e k =
    let s = p.stage in
    let l = p.lawful in (
      grind (arith, leaves d s l (first + a)),
      grind (arith, (in_order s l).start_before_stop (first + a)),
    )

-- and it stops at most a cycle after its start
pub stop_high : (o : Option Stage) (cycle count : ℕ) (p : Shaped o cycle count) (i start stop : ℕ) → Some (start, stop) ≡ instanced o i
    → stop ≤ start + cycle
stop_high o cycle count p i start stop e =
    let order = in_order p.stage p.lawful in
    grind (arith, order.stop_before_next i, order.next_within_cycle i)
