-- Lawful stages and the hops between them repeat after any common multiple of the cycles.
-- Assumes nothing.
use Rattle.std.proofs.Common.{◌≡◌, ℕ, zero, suc, ◌+◌, ◌-◌, ◌*◌, ◌/◌, ◌%◌, ◌<◌, ◌≤◌, List, [], ◌∷◌, sym, refl, ap, ◌∙◌, subst, ⊎_elim, mul-le-mul_right, mod-lt, div-lt_iff_lt-mul, div-add-mod', arith}
use Rattle.std.specs.List.{AllByRecursion}
use Rattle.std.proofs.lemmas.Bool.{cases_lt}
use Rattle.stage.specs.Stages.{Stage, Lawful, count_of, start_of, stop_of}
use Rattle.stage.proofs.Order.{in_order}
use Rattle.path.specs.Timed.{last_or}
use Rattle.path.specs.Periods.{Whole, Common, instances_in}
use Rattle.path.proofs.Counting.{below_there, below_back, below_only}
use Rattle.path.specs.Steps.{count_below, ready_of, ahead_of, hops_from, hop_along}
use Rattle.path.proofs.Ready.{waits_cases, ready_start, ready_stop, stops_rise, start_ready, forward_ready, hop_follows}
use Rattle.path.proofs.Best.{Clock}
use Rattle.path.proofs.Period.{Repeats}

-- what moves by a cycle after a count of instances moves by k cycles after k counts
turns : (f : ℕ → ℕ) (count cycle : ℕ) → ((i : ℕ) → f (i + count) ≡ f i + cycle) → (k i : ℕ) → f (i + k * count) ≡ f i + k * cycle
turns f count cycle shift zero i =
    let e : f i ≡ f i + 0 * cycle = omega arith in
    subst (λ x. f x ≡ f i + 0 * cycle) (omega arith) e
turns f count cycle shift (suc k) i =
    let a = turns f count cycle shift k i in
    let b = shift (i + k * count) in
    let e : f (i + k * count + count) ≡ f i + suc k * cycle = omega arith in
    subst (λ x. f x ≡ f i + suc k * cycle) (omega arith) e

module _ (s : Stage) (l : Lawful s) where
  pub start_turns : (k i : ℕ) → start_of s (i + k * count_of s) ≡ start_of s i + k * s.cycle
  start_turns k i = turns (start_of s) (count_of s) s.cycle (in_order s l).start_shift k i

  stop_turns : (k i : ℕ) → stop_of s (i + k * count_of s) ≡ stop_of s i + k * s.cycle
  stop_turns k i = turns (stop_of s) (count_of s) s.cycle (in_order s l).stop_shift k i

  -- the instances of the first k cycles start within them
  pub start_within : (k i : ℕ) → i < k * count_of s → start_of s i < k * s.cycle
  unfolding start_of
  start_within k i h =
      let few : i / count_of s < k = (div-lt_iff_lt-mul {k = count_of s} {x = i} {y = k} l.count_low).1 h in
      let room = mul-le-mul_right s.cycle few in
      omega (arith, l.start_in_cycle (i % count_of s) (mod-lt i l.count_low))

  module _ (span : ℕ) (w : Whole span s) where
    span_is : span / s.cycle * s.cycle ≡ span
    span_is = omega (arith, div-add-mod' span s.cycle)

    pub start_moves : (i : ℕ) → start_of s (i + instances_in span s) ≡ start_of s i + span
    unfolding instances_in
    start_moves i = start_turns (span / s.cycle) i ∙ ap (λ x. start_of s i + x) span_is

    pub stop_moves : (i : ℕ) → stop_of s (i + instances_in span s) ≡ stop_of s i + span
    unfolding instances_in
    stop_moves i = stop_turns (span / s.cycle) i ∙ ap (λ x. stop_of s i + x) span_is

    pub start_in_span : (i : ℕ) → i < instances_in span s → start_of s i < span
    unfolding instances_in
    start_in_span i h = subst (λ x. start_of s i < x) span_is (start_within (span / s.cycle) i h)

    turns_some : 0 < span → 1 ≤ span / s.cycle
    turns_some p =
        ⊎_elim (λ h. h)
        (λ h. let e : span / s.cycle * s.cycle ≡ 0 * s.cycle = ap (λ x. x * s.cycle) (omega arith) in absurd (omega (arith, span_is)))
        (cases_lt 0 (span / s.cycle))

    pub cycle_in_span : 0 < span → s.cycle ≤ span
    cycle_in_span p = omega (arith, span_is, mul-le-mul_right s.cycle (turns_some p))

    pub instances_some : 0 < span → 0 < instances_in span s
    unfolding instances_in
    instances_some p = omega (arith, mul-le-mul_right (count_of s) (turns_some p), l.count_low)

module _ (w r : Stage) (lw : Lawful w) (lr : Lawful r) where
  pub ready_soon : (i : ℕ) → ready_of w r i ≤ start_of w i + w.cycle
  ready_soon i =
      ⊎_elim (λ k. omega (arith, ready_start w r i k.1))
      (λ k. omega (arith, ready_stop w r i k.1, (in_order w lw).stop_before_next i, (in_order w lw).next_within_cycle i))
      (waits_cases w r)

  -- the step ahead leads to a reader that starts once the writer is ready
  pub ahead_ready : (i : ℕ) → ready_of w r i ≤ start_of r (ahead_of w r i)
  ahead_ready i = forward_ready w r lw lr i (ahead_of w r i) ((hop_follows w r lw lr).to_forward i (ahead_of w r i) (omega arith))

  module _ (span : ℕ) (ww : Whole span w) (wr : Whole span r) where
    pub ready_moves : (i : ℕ) → ready_of w r (i + instances_in span w) ≡ ready_of w r i + span
    ready_moves i =
        ⊎_elim (λ k. omega (arith, ready_start w r i k.1, ready_start w r (i + instances_in span w) k.1, start_moves w lw span ww i))
        (λ k. omega (arith, ready_stop w r i k.1, ready_stop w r (i + instances_in span w) k.1, stop_moves w lw span ww i))
        (waits_cases w r)

    -- how many start before a time, a span later
    below_moves : (t : ℕ) → count_below (start_of r) t + instances_in span r ≡ count_below (start_of r) (t + span)
    below_moves t =
        let up = (in_order r lr).starts_rise in
        below_only (start_of r) up (t + span) (count_below (start_of r) t + instances_in span r)
        (λ i h. ⊎_elim (λ k. omega (arith, start_in_span r lr span wr i k))
        (λ k. let e : start_of r i ≡ start_of r ((i - instances_in span r) + instances_in span r) = ap (start_of r) (omega arith) in
        omega (arith, start_moves r lr span wr (i - instances_in span r), below_there (start_of r) up t (i - instances_in span r) (omega arith)))
        (cases_lt i (instances_in span r)))
        (λ i h. ⊎_elim (λ k. omega arith)
        (λ k. let e : start_of r i ≡ start_of r ((i - instances_in span r) + instances_in span r) = ap (start_of r) (omega arith) in
        let b = start_moves r lr span wr (i - instances_in span r) in
        omega (arith, below_back (start_of r) up t (i - instances_in span r) (omega arith)))
        (cases_lt i (instances_in span r)))

    pub hop_moves : (i : ℕ) → ahead_of w r (i + instances_in span w) ≡ ahead_of w r i + instances_in span r
    unfolding ahead_of
    hop_moves i = ap (count_below (start_of r)) (ready_moves i) ∙ sym (below_moves (ready_of w r i))

-- all of the route
pub along_moves : (s : Stage) (ss : List Stage) → Lawful s → AllByRecursion Lawful ss → (span : ℕ) → Whole span s → AllByRecursion (Whole span) ss → (i : ℕ) → (hop_along (hops_from s ss)).ahead (i + instances_in span s) ≡ (hop_along (hops_from s ss)).ahead i + instances_in span (last_or s ss)
along_moves s [] l ls span w ws i = refl
along_moves s (r ∷ ss) l ls span w ws i =
    ap (hop_along (hops_from r ss)).ahead (hop_moves s r l ls.0 span w ws.0 i)
    ∙ along_moves r ss ls.0 ls.1 span ws.0 ws.1 (ahead_of s r i)

pub along_later : (s : Stage) (ss : List Stage) → Lawful s → AllByRecursion Lawful ss → (i : ℕ) → start_of s i ≤ start_of (last_or s ss) ((hop_along (hops_from s ss)).ahead i)
along_later s [] l ls i = omega arith
along_later s (r ∷ ss) l ls i =
    omega (arith, start_ready s r l ls.0 i, ahead_ready s r l ls.0 i, along_later r ss ls.0 ls.1 (ahead_of s r i))

pub last_holds : (P : Stage → Type 0) (s : Stage) (ss : List Stage) → P s → AllByRecursion P ss → P (last_or s ss)
last_holds P s [] h hs = h
last_holds P s (r ∷ ss) h hs = last_holds P r ss hs.0 hs.1

module _ (s : Stage) (ss : List Stage) (l : Lawful s) (ls : AllByRecursion Lawful ss) where
  last_lawful : Lawful (last_or s ss)
  last_lawful = last_holds Lawful s ss l ls

  pub route_clock : Clock (hop_along (hops_from s ss)) (start_of s) (stop_of (last_or s ss))
  route_clock =
      record {
        finish_rises = stops_rise (last_or s ss) last_lawful;
        in_time = λ i. omega (
          arith,
          along_later s ss l ls i,
          (in_order (last_or s ss) last_lawful).start_before_stop ((hop_along (hops_from s ss)).ahead i),
        );
      }

  pub route_repeats : (span : ℕ) → Common span (s ∷ ss) → Repeats (hop_along (hops_from s ss)) (start_of s) (stop_of (last_or s ss)) (instances_in span s) (instances_in span (last_or s ss)) span
  route_repeats span c =
      let w = c.whole.0 in
      let ws = c.whole.1 in
      let e = last_holds (Whole span) s ss w ws in
      record {
        some_first = instances_some s l span w c.positive;
        some_last = instances_some (last_or s ss) last_lawful span e c.positive;
        ahead_moves = along_moves s ss l ls span w ws;
        begin_moves = start_moves s l span w;
        finish_moves = stop_moves (last_or s ss) last_lawful span e;
      }
