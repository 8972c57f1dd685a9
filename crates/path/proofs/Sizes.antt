-- How late the times are that a search meets.
-- Assumes nothing.
use Rattle.std.proofs.Common.{◌≡◌, ℕ, ◌+◌, ◌-◌, ◌*◌, ◌<◌, ◌≤◌, List, [], ◌∷◌, length, ap, ⊎_elim, mul-le-mul_right, arith}
use Rattle.std.specs.List.{AllByRecursion}
use Rattle.std.proofs.lemmas.Bool.{cases_lt}
use Rattle.stage.specs.Stages.{Stage, Lawful, start_of, stop_of}
use Rattle.stage.proofs.Order.{in_order}
use Rattle.path.specs.Timed.{last_or, first_stage}
use Rattle.path.specs.Periods.{Whole, Common, instances_in}
use Rattle.path.specs.Steps.{count_below, ready_of, ahead_of, back_of, hops_from, hop_along, route_of, first_block, next_block}
use Rattle.path.proofs.Counting.{below_there, rising_le}
use Rattle.path.proofs.Ready.{hop_tied, hop_follows}
use Rattle.path.proofs.Blocks.{first_same, next_same}
use Rattle.path.proofs.Shift.{start_within, start_moves, cycle_in_span, ready_soon, along_later}
use Rattle.path.proofs.Figures.{route_tied}

module _ (w r : Stage) (lw : Lawful w) (lr : Lawful r) where
  -- one step ahead takes less than a cycle of the writer and one of the reader
  pub ahead_soon : (i : ℕ) → start_of r (ahead_of w r i) < start_of w i + w.cycle + r.cycle
  unfolding ahead_of
  ahead_soon i =
      let e : ℕ = count_below (start_of r) (ready_of w r i) in
      ⊎_elim
      (λ k. let a = below_there (start_of r) (in_order r lr).starts_rise (ready_of w r i) (e - 1) (omega arith) in
      let b = (in_order r lr).next_within_cycle (e - 1) in
      let c : start_of r (e - 1 + 1) ≡ start_of r e = ap (start_of r) (omega arith) in
      omega (arith, ready_soon w r lw lr i))
      (λ k. let c : start_of r e ≡ start_of r 0 = ap (start_of r) (omega arith) in
      omega (arith, start_within r lr 1 0 (omega (arith, lr.count_low))))
      (cases_lt 0 e)

  -- one step back never leads to a later time
  pub back_earlier : (j : ℕ) → 0 < back_of w r (j + 1) → start_of w (back_of w r (j + 1) - 1) ≤ start_of r j
  back_earlier j h =
      ((hop_follows w r lw lr).to_forward (back_of w r (j + 1) - 1) j
      (omega (arith, (hop_tied w r lw lr).to_ahead (back_of w r (j + 1) - 1) (j + 1) (omega arith)))).0

  -- both cycles go into the span
  pub ahead_soon_span : (span : ℕ) → w.cycle ≤ span → r.cycle ≤ span → (i : ℕ) → start_of r (ahead_of w r i) < start_of w i + 2 * span
  ahead_soon_span span hw hr i = omega (arith, ahead_soon i)

abbrev pub Short : ℕ → Stage → Type 0
Short span s = s.cycle ≤ span

-- along a route
pub along_soon : (s : Stage) (ss : List Stage) → Lawful s → AllByRecursion Lawful ss → (span : ℕ) → Short span s → AllByRecursion (Short span) ss → (i : ℕ) → start_of (last_or s ss) ((hop_along (hops_from s ss)).ahead i) ≤ start_of s i + length ss * (2 * span)
along_soon s [] l ls span h hs i = omega arith
along_soon s (r ∷ ss) l ls span h hs i =
    omega (arith, ahead_soon_span s r l ls.0 span h hs.0 i, along_soon r ss ls.0 ls.1 span hs.0 hs.1 (ahead_of s r i))

pub all_short : (span : ℕ) → 0 < span → (ss : List Stage) → AllByRecursion Lawful ss → AllByRecursion (Whole span) ss → AllByRecursion (Short span) ss
all_short span p [] ls ws = tt
all_short span p (s ∷ ss) ls ws = (cycle_in_span s ls.0 span ws.0 p, all_short span p ss ls.1 ws.1)

-- The times of block f, in spans.
pub record InSpans (ss : List Stage) (span f : ℕ) : Type 0 where
  pub start : start_of (first_stage ss) f ≤ 32 * span
  pub start_after : start_of (first_stage ss) (f + 1) ≤ 33 * span
  pub next : start_of (first_stage ss) (next_block (route_of ss) f) ≤ 63 * span

module _ (s : Stage) (ss : List Stage) (l : Lawful s) (ls : AllByRecursion Lawful ss) (span : ℕ) (c : Common span (s ∷ ss)) (few : length ss ≤ 15) where
  far_enough : length ss * (2 * span) ≤ 30 * span
  far_enough = omega (arith, mul-le-mul_right (2 * span) few)

  soon : (i : ℕ) → start_of (last_or s ss) ((route_of (s ∷ ss)).ahead i) ≤ start_of s i + 30 * span
  soon i =
      let h = all_short span c.positive (s ∷ ss) (l, ls) c.whole in
      omega (arith, along_soon s ss l ls span h.0 h.1 i, far_enough)

  -- an instance whose steps ahead lead where those of k do starts no later than those lead
  earlier : (f k : ℕ) → (route_of (s ∷ ss)).ahead f ≡ (route_of (s ∷ ss)).ahead k → start_of s f ≤ start_of s k + 30 * span
  earlier f k e =
      omega (arith, along_later s ss l ls f, ap (start_of (last_or s ss)) e, soon k)

  first_early : start_of s (first_block (route_of (s ∷ ss))) ≤ 31 * span
  first_early =
      omega (
        arith,
        earlier (first_block (route_of (s ∷ ss))) 0 (first_same (route_of (s ∷ ss)) (route_tied s ss l ls)),
        start_within s l 1 0 (omega (arith, l.count_low)),
        cycle_in_span s l span c.whole.0 c.positive,
      )

  stop_soon : (t : Stage) → Lawful t → (i : ℕ) → stop_of t i ≤ start_of t i + t.cycle
  stop_soon t h i = omega (arith, (in_order t h).stop_before_next i, (in_order t h).next_within_cycle i)

  pub in_spans : (f : ℕ) → f ≤ first_block (route_of (s ∷ ss)) + instances_in span s → InSpans (s ∷ ss) span f
  in_spans f h =
      let here : start_of s f ≤ 32 * span =
      omega (
        arith,
        rising_le (start_of s) (in_order s l).starts_rise f (first_block (route_of (s ∷ ss)) + instances_in span s) h,
        start_moves s l span c.whole.0 (first_block (route_of (s ∷ ss))),
        first_early,
      ) in
      let after : start_of s (f + 1) ≤ 33 * span = omega (arith, (in_order s l).next_within_cycle f, cycle_in_span s l span c.whole.0 c.positive) in
      record {
        start = here;
        start_after = after;
        next = omega (arith, earlier (next_block (route_of (s ∷ ss)) f) (f + 1) (next_same (route_of (s ∷ ss)) (route_tied s ss l ls) f));
      }
