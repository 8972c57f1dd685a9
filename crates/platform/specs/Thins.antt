-- A thinning: one of every n instances of the stage below.
-- Assumes nothing.
use Rattle.std.specs.Prelude.{◌≡◌, ℕ, ◌+◌, ◌*◌, ◌<◌, ◌≤◌, Bool, cond, ◌&&◌, map, Some, None, Option, nat_le, nat_lt}
use Rattle.std.specs.List.{range_with_len}
use Rattle.stage.specs.Stages.{Stage, Lawful, count_of, start_of, stop_of}

-- Instances r, n + r, 2 × n + r and so on; a count of them takes n cycles below.
unfoldable pub thin_stage : ℕ → ℕ → Stage → Stage
thin_stage n r s =
    record {
      cycle = n * s.cycle;
      rank = s.rank;
      marks = map (λ (i : ℕ). (start_of s (n * i + r), stop_of s (n * i + r))) (range_with_len 0 (count_of s));
    }

-- n is 1 to 16, r is below n, and n cycles are not above the longest cycle; written out, as a record's limits are
abbrev pub thinnable : ℕ → ℕ → ℕ → Bool
thinnable n r cycle = nat_le 1 n && (nat_le n 16 && (nat_lt r n && nat_le (n * cycle) 100_000_000))

-- what a layer that thins by n and r makes of a stage or its absence
unfoldable pub thinned : ℕ → ℕ → Option Stage → Option Stage
thinned n r None = None
thinned n r (Some s) = cond (thinnable n r s.cycle) (Some (thin_stage n r s)) None

-- t is s, thinned by n and r: its instance i is instance n × i + r of s
pub record Thinned (n r : ℕ) (s t : Stage) : Type 0 where
  pub n_cycles : t.cycle ≡ n * s.cycle
  pub same_rank : t.rank ≡ s.rank
  pub same_count : count_of t ≡ count_of s
  pub starts_below : (i : ℕ) → start_of t i ≡ start_of s (n * i + r)
  pub stops_below : (i : ℕ) → stop_of t i ≡ stop_of s (n * i + r)

-- every lawful stage can be thinned by these n and r
abbrev pub EveryThinning : Type 0
EveryThinning = (n r : ℕ) (s : Stage) → 1 ≤ n → n ≤ 16 → r < n → Lawful s → n * s.cycle ≤ 100_000_000 → Thinned n r s (thin_stage n r s)
