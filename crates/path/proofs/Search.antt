-- The search for a figure, block by block: what it knows when it comes to a block, and what it answers at the end.
-- Assumes nothing.
use Rattle.std.proofs.Common.{◌≡◌, ℕ, ◌+◌, ◌-◌, ◌*◌, ◌/◌, ◌<◌, ◌≤◌, List, [], ◌∷◌, length, refl, subst, ⊎_elim, arith}
use Rattle.std.specs.List.{AllByRecursion}
use Rattle.std.proofs.lemmas.Bool.{cases_lt}
use Rattle.stage.specs.Stages.{Stage, Lawful, count_of, start_of, stop_of}
use Rattle.stage.proofs.Order.{in_order}
use Rattle.path.specs.declared.semantics.Semantics.{Semantics}
use Rattle.path.specs.declared.semantics.Semantics.TheVariants.{LL, LF, FL, FF}
use Rattle.path.specs.Timed.{first_stage, last_stage}
use Rattle.path.specs.Figures.{shown_predecessor, Figure}
use Rattle.path.specs.Periods.{Common, instances_in}
use Rattle.path.specs.Steps.{Hop, route_of, witness_to, first_block, next_block}
use Rattle.path.proofs.Hops.{Tied}
use Rattle.path.proofs.Blocks.{Opens, Before, first_opens, first_alone, next_later, next_opens, next_before, next_same, top_positive}
use Rattle.path.proofs.Best.{From, longest, Clock, BestSoFar, best_none, best_skip, best_more, best_same, longest_takes, longest_low, from_low, takes_time}
use Rattle.path.proofs.Period.{best_all}
use Rattle.path.proofs.Shift.{route_clock, route_repeats}
use Rattle.path.proofs.Figures.{route_tied, best_finish, takes_joins}
use Rattle.path.proofs.Sizes.{InSpans, in_spans}

-- which blocks have paths that count: where a predecessor is asked for, those after the first
abbrev pub Counting : Semantics → ℕ → ℕ → Type 0
Counting LL first f = Unit {0}
Counting LF first f = Unit {0}
Counting FL first f = first < f
Counting FF first f = first < f

-- the instance from which delays in block f are counted, where p is the block before it
abbrev pub from_of : Semantics → ℕ → ℕ → ℕ
from_of LL f p = f
from_of LF f p = f
from_of FL f p = p
from_of FF f p = p

abbrev pub delay_in : Semantics → List Stage → ℕ → ℕ → ℕ
delay_in m ss f p = stop_of (last_stage ss) (longest m (route_of ss) f) - start_of (first_stage ss) (from_of m f p)

abbrev pub begin_of : List Stage → ℕ → ℕ
begin_of ss = start_of (first_stage ss)

abbrev pub finish_of : List Stage → ℕ → ℕ
finish_of ss = stop_of (last_stage ss)

-- The search comes to block f, after block p, with the best of the blocks before f: delay d counted from o, last instance l.
pub record Visit (m : Semantics) (ss : List Stage) (f p d o l : ℕ) : Type 0 where
  pub opens : Opens (route_of ss) f
  pub reached : first_block (route_of ss) ≤ f
  pub before : first_block (route_of ss) < f → Before (route_of ss) f p
  pub best : BestSoFar m (route_of ss) (begin_of ss) (finish_of ss) f d o l
  pub last_low : l ≤ (route_of ss).ahead f
  pub origin_low : o ≤ f

pub visit_from : (m : Semantics) (ss : List Stage) (f p d o l : ℕ) → Visit m ss f p d o l → Counting m (first_block (route_of ss)) f → From m (route_of ss) f (from_of m f p)
visit_from LL ss f p d o l v c = refl
visit_from LF ss f p d o l v c = refl
visit_from FL ss f p d o l v c = v.before c
visit_from FF ss f p d o l v c = v.before c

-- where no path of the block counts
no_from : (m : Semantics) (h : Hop) → Tied h → (f : ℕ) → first_block h ≤ f → ¬ Counting m (first_block h) f → (q : ℕ) → ¬ From m h f q
no_from LL h t f r c q w = c tt
no_from LF h t f r c q w = c tt
no_from FL h t f r c q w =
    let e : f ≡ first_block h = ⊎_elim (λ k. absurd (c k)) (λ k. omega arith) (cases_lt (first_block h) f) in
    first_alone h t q (subst (λ x. Before h x q) e w)
no_from FF h t f r c q w =
    let e : f ≡ first_block h = ⊎_elim (λ k. absurd (c k)) (λ k. omega arith) (cases_lt (first_block h) f) in
    first_alone h t q (subst (λ x. Before h x q) e w)

-- what the lemmas before ask of a route
pub tied : (ss : List Stage) → 0 < length ss → AllByRecursion Lawful ss → Tied (route_of ss)
tied [] h ls = absurd (omega arith)
tied (s ∷ ss) h ls = route_tied s ss ls.0 ls.1

pub clock : (ss : List Stage) → 0 < length ss → AllByRecursion Lawful ss → Clock (route_of ss) (begin_of ss) (finish_of ss)
clock [] h ls = absurd (omega arith)
clock (s ∷ ss) h ls = route_clock s ss ls.0 ls.1

module _ (m : Semantics) (ss : List Stage) (some : 0 < length ss) (ls : AllByRecursion Lawful ss) where
  -- The search begins at the first block, with nothing found.
  pub visit_start : (p : ℕ) → Visit m ss (first_block (route_of ss)) p 0 0 0
  visit_start p =
      record {
        opens = first_opens (route_of ss) (tied ss some ls);
        reached = omega arith;
        before = λ h. absurd (omega arith);
        best = best_none m (route_of ss) (tied ss some ls) (begin_of ss) (finish_of ss) (clock ss some ls);
        last_low = omega arith;
        origin_low = omega arith;
      }

  module _ (f p d o l : ℕ) (v : Visit m ss f p d o l) where
    pub visit_in_time : Counting m (first_block (route_of ss)) f → start_of (first_stage ss) (from_of m f p) < stop_of (last_stage ss) (longest m (route_of ss) f)
    visit_in_time c =
        takes_time m (route_of ss) (tied ss some ls) (begin_of ss) (finish_of ss) (clock ss some ls) f (longest m (route_of ss) f) (from_of m f p)
        (longest_takes m (route_of ss) f (from_of m f p) v.opens (visit_from m ss f p d o l v c))

    next_reached : first_block (route_of ss) < next_block (route_of ss) f
    next_reached = omega (arith, v.reached, next_later (route_of ss) (tied ss some ls) f)

    same_end : (route_of ss).ahead (next_block (route_of ss) f) ≡ (route_of ss).ahead (f + 1)
    same_end = next_same (route_of ss) (tied ss some ls) f

    next_visit : (d' o' l' : ℕ) → BestSoFar m (route_of ss) (begin_of ss) (finish_of ss) (next_block (route_of ss) f) d' o' l' → l' ≤ (route_of ss).ahead (f + 1) → o' ≤ f → Visit m ss (next_block (route_of ss) f) f d' o' l'
    next_visit d' o' l' b low from =
        record {
          opens = next_opens (route_of ss) (tied ss some ls) f;
          reached = omega (arith, next_reached);
          before = λ h. next_before (route_of ss) (tied ss some ls) f v.opens;
          best = b;
          last_low = omega (arith, same_end);
          origin_low = omega (arith, next_later (route_of ss) (tied ss some ls) f);
        }

    still_low : l ≤ (route_of ss).ahead (f + 1)
    still_low = omega (arith, v.last_low, v.opens)

    -- A block whose longest path takes longer than the best so far.
    pub visit_more : Counting m (first_block (route_of ss)) f → d < delay_in m ss f p → Visit m ss (next_block (route_of ss) f) f (delay_in m ss f p) (from_of m f p) (longest m (route_of ss) f)
    visit_more c up =
        next_visit (delay_in m ss f p) (from_of m f p) (longest m (route_of ss) f)
        (best_more m (route_of ss) (tied ss some ls) (begin_of ss) (finish_of ss) (clock ss some ls) f d o l (from_of m f p) v.opens (visit_from m ss f p d o l v c) v.best up)
        (omega (arith, longest_low m (route_of ss) f v.opens))
        (from_low m (route_of ss) f (from_of m f p) (visit_from m ss f p d o l v c))

    -- A block whose longest path does not.
    pub visit_same : Counting m (first_block (route_of ss)) f → delay_in m ss f p ≤ d → Visit m ss (next_block (route_of ss) f) f d o l
    visit_same c down =
        next_visit d o l
        (best_same m (route_of ss) (tied ss some ls) (begin_of ss) (finish_of ss) (clock ss some ls) f d o l (from_of m f p) v.opens (visit_from m ss f p d o l v c) v.best down)
        still_low v.origin_low

    -- A block of which no path counts.
    pub visit_skip : ¬ Counting m (first_block (route_of ss)) f → Visit m ss (next_block (route_of ss) f) f d o l
    visit_skip c =
        next_visit d o l
        (best_skip m (route_of ss) (tied ss some ls) (begin_of ss) (finish_of ss) (clock ss some ls) f d o l v.best
        (no_from m (route_of ss) (tied ss some ls) f v.reached c))
        still_low v.origin_low

-- The end of the search: the first block moved by a span has been visited.
pub visit_finish : (m : Semantics) (ss : List Stage) → 0 < length ss → AllByRecursion Lawful ss → (span : ℕ) → Common span ss → (f p d o l : ℕ) → Visit m ss f p d o l → first_block (route_of ss) + instances_in span (first_stage ss) < f → Figure m ss d (shown_predecessor m o) (witness_to ss l)
visit_finish m [] some ls span c f p d o l v far = absurd (omega arith)
visit_finish m (s ∷ ss) some ls span c f p d o l v far = best_finish s ss ls.0 ls.1 m span c f d o l v.best far

-- and there are steps back from the answered last instance to the first stage
pub visit_written : (m : Semantics) (ss : List Stage) → 0 < length ss → AllByRecursion Lawful ss → (span : ℕ) → Common span ss → (f p d o l : ℕ) → Visit m ss f p d o l → first_block (route_of ss) + instances_in span (first_stage ss) < f → 0 < (route_of ss).back (l + 1)
visit_written m [] some ls span c f p d o l v far = absurd (omega arith)
visit_written m (s ∷ ss) some ls span c f p d o l v far =
    let b = best_all (route_of (s ∷ ss)) (route_tied s ss ls.0 ls.1) (begin_of (s ∷ ss)) (finish_of (s ∷ ss)) (instances_in span s)
    (instances_in span (last_stage (s ∷ ss))) span (route_repeats s ss ls.0 ls.1 span c) m
    (route_clock s ss ls.0 ls.1) f d o l v.best far in
    omega (arith, takes_joins s ss ls.0 ls.1 m b.first l o b.takes)

-- and something has been found
pub visit_positive : (m : Semantics) (ss : List Stage) → 0 < length ss → AllByRecursion Lawful ss → (span : ℕ) → Common span ss → (f p d o l : ℕ) → Visit m ss f p d o l → first_block (route_of ss) + instances_in span (first_stage ss) < f → 0 < d
visit_positive m [] some ls span c f p d o l v far = absurd (omega arith)
visit_positive m (s ∷ ss) some ls span c f p d o l v far =
    let b = best_all (route_of (s ∷ ss)) (route_tied s ss ls.0 ls.1) (begin_of (s ∷ ss)) (finish_of (s ∷ ss)) (instances_in span s)
    (instances_in span (last_stage (s ∷ ss))) span (route_repeats s ss ls.0 ls.1 span c) m
    (route_clock s ss ls.0 ls.1) f d o l v.best far in
    omega (
      arith,
      b.lasts,
      takes_time m (route_of (s ∷ ss)) (route_tied s ss ls.0 ls.1) (begin_of (s ∷ ss)) (finish_of (s ∷ ss)) (route_clock s ss ls.0 ls.1) b.first l o b.takes,
    )

-- The times of a block that is visited.
pub visit_in_spans : (ss : List Stage) → 0 < length ss → length ss ≤ 16 → AllByRecursion Lawful ss → (span : ℕ) → Common span ss → (f : ℕ) → f ≤ first_block (route_of ss) + instances_in span (first_stage ss) → InSpans ss span f
visit_in_spans [] some few ls span c f near = absurd (omega arith)
visit_in_spans (s ∷ ss) some few ls span c f near = in_spans s ss ls.0 ls.1 span c (omega arith) f near

-- Small facts that the steps of the code ask for.

module _ (ss : List Stage) (some : 0 < length ss) (ls : AllByRecursion Lawful ss) where
  -- there is a step back from every step ahead, so one can be taken off it
  pub back_there : (i : ℕ) → i < (route_of ss).back ((route_of ss).ahead i + 1)
  back_there i = top_positive (route_of ss) (tied ss some ls) i

  pub next_after : (f : ℕ) → f < next_block (route_of ss) f
  next_after f = next_later (route_of ss) (tied ss some ls) f

pub instances_in_is : (span : ℕ) (s : Stage) → instances_in span s ≡ span / s.cycle * count_of s
unfolding instances_in
instances_in_is span s = refl

-- An instance's number is at most the time of its start.
pub number_small : (s : Stage) → Lawful s → (i t : ℕ) → start_of s i ≤ t → i ≤ t
number_small s l i t h = omega (arith, (in_order s l).number_below_start i)
