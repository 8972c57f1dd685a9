-- A phase: the stage below, moved later within its cycle.
-- Assumes nothing.
use Rattle.std.specs.Prelude.{◌≡◌, ℕ, suc, ◌+◌, ◌-◌, ◌%◌, ◌<◌, cond, List, [], ◌∷◌, map, Option, nat_lt}
use Rattle.std.specs.List.{range_with_len}
use Rattle.std.specs.Option.{option_map}
use Rattle.stage.specs.Stages.{Stage, Lawful, count_of, mark_of, start_of, stop_of}

-- how many marks come before the first that starts at `end` or later
unfoldable pub before : ℕ → List (ℕ × ℕ) → ℕ
before end [] = 0
before end (m ∷ ms) = cond (nat_lt m.0 end) (suc (before end ms)) 0

-- how many marks of a stage still start in the cycle when they are moved by d
abbrev pub staying : ℕ → Stage → ℕ
staying d s = before (s.cycle - d % s.cycle) s.marks

-- instance i below, moved by d % cycle and one cycle back
abbrev pub moved : ℕ → Stage → ℕ → ℕ × ℕ
moved d s i = (start_of s i + d % s.cycle - s.cycle, stop_of s i + d % s.cycle - s.cycle)

-- The marks that leave the cycle come first, one cycle back, and the others follow.
unfoldable pub phase_stage : ℕ → Stage → Stage
phase_stage d s =
    record {
      cycle = s.cycle;
      rank = s.rank;
      marks = map (λ (a : ℕ). moved d s (staying d s + a)) (range_with_len 0 (count_of s));
    }

-- what a layer of phase d makes of a stage or its absence
abbrev pub phased : ℕ → Option Stage → Option Stage
phased d o = option_map (phase_stage d) o

-- a mark of the stage starts at `time` and is `span` long
pub record Runs (s : Stage) (time span : ℕ) : Type 0 where
  pub at : ℕ
  pub present : at < count_of s
  pub starts : (mark_of s at).0 ≡ time
  pub stops : (mark_of s at).1 ≡ time + span

-- the time within the cycle that a phase of d moves to `time`
abbrev pub time_below : ℕ → Stage → ℕ → ℕ
time_below d s time = (time + s.cycle - d % s.cycle) % s.cycle

-- t is s, moved by d: its starts are the times in the cycle whose time below is a start of s, and each keeps its length
pub record Phased (d : ℕ) (s t : Stage) : Type 0 where
  pub same_cycle : t.cycle ≡ s.cycle
  pub same_rank : t.rank ≡ s.rank
  pub same_count : count_of t ≡ count_of s
  pub in_cycle : (time span : ℕ) → Runs t time span → time < s.cycle
  pub from_below : (time span : ℕ) → Runs t time span → Runs s (time_below d s time) span
  pub to_above : (time span : ℕ) → time < s.cycle → Runs s (time_below d s time) span → Runs t time span

-- every lawful stage can be moved by any phase
abbrev pub EveryPhase : Type 0
EveryPhase = (d : ℕ) (s : Stage) → Lawful s → Phased d s (phase_stage d s)
