-- How what one stage writes comes to the next stage, which reads it.
-- Assumes nothing.
use Rattle.std.specs.Prelude.{ℕ, ◌+◌, ◌<◌, ◌≤◌, Bool, ◌⊎◌, nat_lt}
use Rattle.stage.specs.Stages.{Stage, start_of, stop_of}

-- The reader waits for a writer that is running as it starts: the writer is more urgent, its rank is higher.
abbrev pub Waits : Stage → Stage → Type 0
Waits w r = r.rank < w.rank

-- the same as a test
abbrev pub does_wait : Stage → Stage → Bool
does_wait w r = nat_lt r.rank w.rank

-- What instance i of the writer w writes is there for instance j of the reader r: i starts no later than j, and it
-- has stopped by then or the reader waits for it.
abbrev pub Forward : Stage → Stage → ℕ → ℕ → Type 0
Forward w r i j = (start_of w i ≤ start_of r j) × ((stop_of w i ≤ start_of r j) ⊎ Waits w r)

-- j reads what i wrote: it is there, and what the next instance of the writer writes is not.
abbrev pub Reaches : Stage → Stage → ℕ → ℕ → Type 0
Reaches w r i j = Forward w r i j × ¬ Forward w r (i + 1) j
