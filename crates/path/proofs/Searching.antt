-- The search along a route in memory, turn by turn as the code takes it.
-- Assumes nothing.
use Rattle.std.proofs.Common.{◌≡◌, ℕ, ◌+◌, ◌-◌, ◌*◌, ◌/◌, ◌^◌, ◌<◌, ◌≤◌, List, [], ◌∷◌, length, Option, Some, None, IfSome, IsSome, IsTrue, MatchOption, unwrap_or, true, false, refl, sym, ap, ◌∙◌, subst, arith}
use Rattle.std.specs.List.{AllByRecursion}
use Rattle.std.proofs.lemmas.Bool.{false≢true}
use Rattle.stage.specs.Stages.{Stage, Lawful, start_of, stop_of}
use Rattle.stage.specs.declared.lawful.LawfulRow.{LawfulRow}
use Rattle.stage.specs.declared.row.Row.{Row}
use Rattle.stage.proofs.Marks.{count_is}
use Rattle.stage.proofs.Order.{in_order}
use Rattle.path.specs.declared.largest.Block.{Block}
use Rattle.path.specs.declared.largest.Longest.{Longest}
use Rattle.path.specs.declared.route.Route.{Route}
use Rattle.path.specs.declared.semantics.Semantics.{Semantics}
use Rattle.path.specs.declared.semantics.Semantics.TheVariants.{LL, LF, FL, FF}
use Rattle.stage.specs.LawfulRow.{stage_in}
use Rattle.path.specs.Block.{IsLongest}
use Rattle.path.specs.Route.{OpensBlock, first_along, last_along, stages_along, steps_along}
use Rattle.path.specs.Timed.{first_stage, last_stage}
use Rattle.path.specs.Figures.{shown_predecessor, Figure}
use Rattle.path.specs.Periods.{Common, instances_in}
use Rattle.path.specs.Steps.{origin_in, end_in, route_of, witness_to, first_block, next_block}
use Rattle.path.proofs.Best.{longest}
use Rattle.path.proofs.Blocks.{top, top_same, top_opens}
use Rattle.path.proofs.Counting.{rising_le}
use Rattle.path.proofs.Given.{all_laws, stages_length}
use Rattle.path.proofs.Ready.{stops_rise}
use Rattle.path.proofs.Search.{tied, Counting, from_of, delay_in, Visit, visit_start, visit_more, visit_same, visit_skip, visit_in_time, visit_in_spans, visit_finish, visit_written, visit_positive, back_there, next_after, instances_in_is, number_small}
use Rattle.path.proofs.Shift.{cycle_in_span, start_within, last_holds}
use Rattle.path.proofs.Sizes.{InSpans}
use Rattle.path.proofs.Stepping.{stop_soon}

pub count_instances : (x : LawfulRow) (r : Row) (span : ℕ) → r ≡ x.row → span / r.cycle * r.count ≡ instances_in span (stage_in x)
count_instances x r span e =
    ap (λ (y : Row). span / y.cycle * y.count) e
    ∙ ap (λ k. span / x.row.cycle * k) (sym (count_is x.row))
    ∙ sym (instances_in_is span (stage_in x))

first_lawful : (ss : List Stage) → 0 < length ss → AllByRecursion Lawful ss → Lawful (first_stage ss)
first_lawful [] h ls = absurd (omega arith)
first_lawful (s ∷ ss) h ls = ls.0

first_common : (ss : List Stage) (span : ℕ) → 0 < length ss → AllByRecursion Lawful ss → Common span ss → (first_stage ss).cycle ≤ span
first_common [] span h ls c = absurd (omega arith)
first_common (s ∷ ss) span h ls c = cycle_in_span s ls.0 span c.whole.0 c.positive

last_lawful : (ss : List Stage) → 0 < length ss → AllByRecursion Lawful ss → Lawful (last_stage ss)
last_lawful [] h ls = absurd (omega arith)
last_lawful (s ∷ ss) h ls = last_holds Lawful s ss ls.0 ls.1

end_low : (m : Semantics) (near far : ℕ) → near < far → end_in m near far < far
end_low LL near far h = omega arith
end_low LF near far h = h
end_low FL near far h = omega arith
end_low FF near far h = h

-- What the search has found so far, where 0 stands for nothing.
abbrev pub delay_of : Option Longest → ℕ
delay_of None = 0
delay_of (Some b) = b.delay

abbrev pub origin_of : Option Longest → ℕ
origin_of None = 0
origin_of (Some b) = b.origin

abbrev pub last_of : Option Longest → ℕ
last_of None = 0
last_of (Some b) = b.last

-- the block up to which the search goes
abbrev pub last_block : Route → ℕ → ℕ
last_block route span = first_block (route_of (stages_along route)) + instances_in span (first_stage (stages_along route))

pub record Begun (route : Route) (i near begin : ℕ) : Type 0 where
  pub is_top : begin ≡ top (route_of (stages_along route)) i
  pub near_is : near ≡ (route_of (stages_along route)).ahead begin
  pub opens : near < (route_of (stages_along route)).ahead (begin + 1)

module _ (route : Route) where
  pub some : 0 < length (stages_along route)
  some = omega (arith, stages_length route.rows.now, route.some)

  few : length (stages_along route) ≤ 16
  few = omega (arith, stages_length route.rows.now, route.few)

  pub laws : AllByRecursion Lawful (stages_along route)
  laws = all_laws route.rows.now

  pub zero_early : start_of (first_stage (stages_along route)) 0 < 2 ^ 36
  zero_early =
      let l = first_lawful (stages_along route) some laws in
      omega (arith, start_within (first_stage (stages_along route)) l 1 0 (omega (arith, l.count_low)), l.cycle_high)

  -- there is a step back from each step ahead
  pub back_some : (i far : ℕ) → far ≡ (route_of (stages_along route)).ahead i → 0 < (route_of (stages_along route)).back (far + 1)
  back_some i far e =
      subst (λ x. 0 < (route_of (stages_along route)).back (x + 1)) (sym e) (omega (arith, back_there (stages_along route) some laws i))

  -- A block that is found by steps from instance i: ahead to `near`, where its paths end first, and back to where they begin.
  pub begun : (i near begin : ℕ) → near ≡ (route_of (stages_along route)).ahead i → begin + 1 ≡ (route_of (stages_along route)).back (near + 1)
      → Begun route i near begin
  begun i near begin e b =
      let h = route_of (stages_along route) in
      let t = tied (stages_along route) some laws in
      let is : begin ≡ top (route_of (stages_along route)) i = omega (arith, ap (λ x. (route_of (stages_along route)).back (x + 1)) e) in
      let near_is = e ∙ sym (top_same h t i) ∙ ap (route_of (stages_along route)).ahead (sym is) in
      record {
        is_top = is;
        near_is = near_is;
        opens = subst (λ x. near < (route_of (stages_along route)).ahead (x + 1)) (sym is) (omega (arith, top_opens h t i, e, top_same h t i));
      }

  -- where steps ahead from instance i lead, a block's paths end first
  pub opens_block : (i near : ℕ) → near ≡ (steps_along route).ahead i → start_of (last_along route) near < 2 ^ 40
      → start_of (first_along route) ((steps_along route).back ((steps_along route).ahead i + 1) - 1 + 1) < 2 ^ 36 → OpensBlock route near
  opens_block i near e in_time early =
      let there = back_some i near e in
      let same : (steps_along route).back ((steps_along route).ahead i + 1) - 1 + 1 ≡ (steps_along route).back (near + 1) =
      omega (arith, there, ap (λ n. (steps_along route).back (n + 1)) e) in
      record { from = i; leads = e; ends = record { early = in_time; there = there }; early = subst (λ n. start_of (first_along route) n < 2 ^ 36) same early }

  -- an instance that starts early has a small number
  pub small : (i : ℕ) → start_of (first_stage (stages_along route)) i < 2 ^ 36 → i < 2 ^ 36
  small i early = omega (arith, (in_order (first_stage (stages_along route)) (first_lawful (stages_along route) some laws)).number_below_start i)

  module _ (span : ℕ) (c : Common span (stages_along route)) (short : span ≤ 100_000_000) where
    in_spans : (f : ℕ) → f ≤ last_block route span → InSpans (stages_along route) span f
    in_spans f h = visit_in_spans (stages_along route) some few laws span c f h

    pub last_block_small : last_block route span < 2 ^ 40
    last_block_small =
        omega (
          arith,
          number_small (first_stage (stages_along route)) (first_lawful (stages_along route) some laws) (last_block route span)
              (32 * span) (in_spans (last_block route span) (omega arith)).start,
        )

    -- the block after f begins early, and so does the instance after that
    pub next_early : (f : ℕ) → f ≤ last_block route span
        → start_of (first_stage (stages_along route)) (next_block (route_of (stages_along route)) f + 1) < 2 ^ 36
    next_early f h =
        let l = first_lawful (stages_along route) some laws in
        omega (
          arith,
          (in_spans f h).next,
          (in_order (first_stage (stages_along route)) l).next_within_cycle (next_block (route_of (stages_along route)) f),
          first_common (stages_along route) span some laws c,
        )

    pub first_on_time : start_of (first_stage (stages_along route)) (first_block (route_of (stages_along route)) + 1) < 2 ^ 36
    first_on_time = omega (arith, (in_spans (first_block (route_of (stages_along route))) (omega arith)).start_after)

-- The end that takes longest in a block is before the block's far end, so its time fits.
pub stop_early : (m : Semantics) (b : Block) → stop_of (last_stage (stages_along b.route)) (end_in m b.near b.far) < 2 ^ 41
stop_early m b =
    let s = last_stage (stages_along b.route) in
    let l = last_lawful (stages_along b.route) (some b.route) (laws b.route) in
    omega (arith, stops_rise s l (end_in m b.near b.far) b.far (end_low m b.near b.far b.opens), stop_soon s l b.far, b.early)

-- It has stopped when the far end starts, so it is as early.
pub end_early : (m : Semantics) (b : Block) → stop_of (last_stage (stages_along b.route)) (end_in m b.near b.far) < 2 ^ 40
end_early m b =
    let s = last_stage (stages_along b.route) in
    let order = in_order s (last_lawful (stages_along b.route) (some b.route) (laws b.route)) in
    let last : ℕ = end_in m b.near b.far in
    let low : last + 1 ≤ b.far = omega (arith, end_low m b.near b.far b.opens) in
    omega (arith, order.stop_before_next last, rising_le (start_of s) order.starts_rise (last + 1) b.far low, b.early)

if_some : (o : Option ℕ) (P : ℕ → Type 0) → ((x : ℕ) → o ≡ Some x → P x) → IfSome o P
if_some None P h = tt
if_some (Some x) P h = h x refl

-- whether paths of block f count, and from where, by the block before it
origin_some : (m : Semantics) (first f : ℕ) (p : Option ℕ) (o : ℕ) → MatchOption p (f ≡ first) (λ q. first < f) → origin_in m f p ≡ Some o
    → Counting m first f × (from_of m f (unwrap_or p 0) ≡ o)
origin_some LL first f p o k e = (tt, cc)
origin_some LF first f p o k e = (tt, cc)
origin_some FL first f None o k e = cc
origin_some FL first f (Some q) o k e = (k, cc)
origin_some FF first f None o k e = cc
origin_some FF first f (Some q) o k e = (k, cc)

origin_none : (m : Semantics) (first f : ℕ) (p : Option ℕ) → MatchOption p (f ≡ first) (λ q. first < f) → origin_in m f p ≡ None → ¬ Counting m first f
origin_none LL first f p k e c = cc
origin_none LF first f p k e c = cc
origin_none FL first f None k e c = omega arith
origin_none FL first f (Some q) k e c = cc
origin_none FF first f None k e c = omega arith
origin_none FF first f (Some q) k e c = cc

-- The search has come to a block with the best of those before it.
pub record Reached (m : Semantics) (route : Route) (span end : ℕ) (block : Block) (best : Option Longest) : Type 0 where
  pub along : block.route ≡ route
  pub common : Common span (stages_along block.route)
  pub end_is : end ≡ last_block block.route span
  pub before : MatchOption block.before (block.begin ≡ first_block (route_of (stages_along block.route)))
      (λ q. first_block (route_of (stages_along block.route)) < block.begin)
  pub visit : Visit m (stages_along block.route) block.begin (unwrap_or block.before 0) (delay_of best) (origin_of best) (last_of best)

pub reached_start : (m : Semantics) (route : Route) (span end : ℕ) (block : Block) → Common span (stages_along route) → block.route ≡ route
    → block.begin ≡ first_block (route_of (stages_along route)) → block.before ≡ None → end ≡ last_block route span
    → Reached m route span end block None
reached_start m route span end block c along begin before end_is =
    let begins : block.begin ≡ first_block (route_of (stages_along block.route)) = begin ∙ ap (λ r. first_block (route_of (stages_along r))) (sym along) in
    record {
      along = along;
      common = subst (λ r. Common span (stages_along r)) (sym along) c;
      end_is = end_is ∙ ap (λ r. last_block r span) (sym along);
      before = subst (λ p. MatchOption p (block.begin ≡ first_block (route_of (stages_along block.route)))
          (λ q. first_block (route_of (stages_along block.route)) < block.begin)) (sym before) begins;
      visit = subst (λ x. Visit m (stages_along block.route) x (unwrap_or block.before 0) 0 0 0) (sym begins)
          (visit_start m (stages_along block.route) (some block.route) (laws block.route) (unwrap_or block.before 0));
    }

-- The turn at a block.
module _ (m : Semantics) (route : Route) (span end : ℕ) (block : Block) (best : Option Longest) (v : Reached m route span end block best) where
  end_is_longest : end_in m block.near block.far ≡ longest m (route_of (stages_along block.route)) block.begin
  end_is_longest =
      ap (λ x. end_in m x block.far) block.near_is
      ∙ ap (λ x. end_in m ((route_of (stages_along block.route)).ahead block.begin) x) block.far_is

  pub taking : IfSome (origin_in m block.begin block.before)
      (λ o. start_of (first_stage (stages_along block.route)) o ≤ stop_of (last_stage (stages_along block.route)) (end_in m block.near block.far))
  taking =
      if_some (origin_in m block.begin block.before)
      (λ o. start_of (first_stage (stages_along block.route)) o ≤ stop_of (last_stage (stages_along block.route)) (end_in m block.near block.far))
      (λ o e. let k = origin_some m (first_block (route_of (stages_along block.route))) block.begin block.before o v.before e in
      omega (
        arith,
        ap (stop_of (last_stage (stages_along block.route))) end_is_longest,
        ap (start_of (first_stage (stages_along block.route))) k.1,
        visit_in_time m (stages_along block.route) (some block.route) (laws block.route) block.begin (unwrap_or block.before 0)
            (delay_of best) (origin_of best) (last_of best) v.visit k.0,
      ))

  -- the longest path of the block, if any counts
  module _ (found : Longest) (e : IsLongest m block found) where
    counts : Counting m (first_block (route_of (stages_along block.route))) block.begin × (from_of m block.begin (unwrap_or block.before 0) ≡ found.origin)
    counts = origin_some m (first_block (route_of (stages_along block.route))) block.begin block.before found.origin v.before e.origin

    delay_is : found.delay ≡ delay_in m (stages_along block.route) block.begin (unwrap_or block.before 0)
    delay_is =
        e.delay
        ∙ ap (λ x. stop_of (last_stage (stages_along block.route)) x - start_of (first_stage (stages_along block.route)) found.origin) (e.last ∙ end_is_longest)
        ∙ ap (λ x. stop_of (last_stage (stages_along block.route)) (longest m (route_of (stages_along block.route)) block.begin) - start_of (first_stage (stages_along block.route)) x) (sym counts.1)

    pub found_positive : 0 < found.delay
    found_positive =
        omega (
          arith,
          delay_is,
          visit_in_time m (stages_along block.route) (some block.route) (laws block.route) block.begin (unwrap_or block.before 0)
              (delay_of best) (origin_of best) (last_of best) v.visit counts.0,
        )

    pub visit_found : delay_of best < found.delay
        → Visit m (stages_along block.route) (next_block (route_of (stages_along block.route)) block.begin) block.begin found.delay found.origin found.last
    visit_found up =
        let ss = stages_along block.route in
        let next : ℕ = next_block (route_of (stages_along block.route)) block.begin in
        subst (λ x. Visit m ss next block.begin x found.origin found.last) (sym delay_is)
        (subst (λ x. Visit m ss next block.begin (delay_in m ss block.begin (unwrap_or block.before 0)) x found.last) counts.1
        (subst (λ x. Visit m ss next block.begin (delay_in m ss block.begin (unwrap_or block.before 0)) (from_of m block.begin (unwrap_or block.before 0)) x)
        (sym (e.last ∙ end_is_longest))
        (visit_more m ss (some block.route) (laws block.route) block.begin (unwrap_or block.before 0)
        (delay_of best) (origin_of best) (last_of best) v.visit counts.0 (omega (arith, delay_is)))))

    pub visit_kept : found.delay ≤ delay_of best
        → Visit m (stages_along block.route) (next_block (route_of (stages_along block.route)) block.begin) block.begin (delay_of best) (origin_of best) (last_of best)
    visit_kept down =
        visit_same m (stages_along block.route) (some block.route) (laws block.route) block.begin (unwrap_or block.before 0)
        (delay_of best) (origin_of best) (last_of best) v.visit counts.0 (omega (arith, delay_is))

  pub visit_none : origin_in m block.begin block.before ≡ None
      → Visit m (stages_along block.route) (next_block (route_of (stages_along block.route)) block.begin) block.begin (delay_of best) (origin_of best) (last_of best)
  visit_none e =
      visit_skip m (stages_along block.route) (some block.route) (laws block.route) block.begin (unwrap_or block.before 0)
      (delay_of best) (origin_of best) (last_of best) v.visit
      (origin_none m (first_block (route_of (stages_along block.route))) block.begin block.before v.before e)

  on : (next : Block) (best' : Option Longest) → next.route ≡ block.route
      → next.begin ≡ next_block (route_of (stages_along block.route)) block.begin → next.before ≡ Some block.begin
      → Visit m (stages_along block.route) (next_block (route_of (stages_along block.route)) block.begin) block.begin (delay_of best') (origin_of best') (last_of best')
      → Reached m route span end next best'
  on next best' along begin before w =
      let later : first_block (route_of (stages_along block.route)) < next.begin =
      omega (arith, begin, v.visit.reached, next_after (stages_along block.route) (some block.route) (laws block.route) block.begin) in
      record {
        along = along ∙ v.along;
        common = subst (λ r. Common span (stages_along r)) (sym along) v.common;
        end_is = v.end_is ∙ ap (λ r. last_block r span) (sym along);
        before = subst (λ p. MatchOption p (next.begin ≡ first_block (route_of (stages_along next.route)))
            (λ q. first_block (route_of (stages_along next.route)) < next.begin)) (sym before)
            (subst (λ r. first_block (route_of (stages_along r)) < next.begin) (sym along) later);
        visit = subst (λ r. Visit m (stages_along r) next.begin (unwrap_or next.before 0) (delay_of best') (origin_of best') (last_of best')) (sym along)
            (subst (λ x. Visit m (stages_along block.route) x (unwrap_or next.before 0) (delay_of best') (origin_of best') (last_of best')) (sym begin)
            (subst (λ p. Visit m (stages_along block.route) (next_block (route_of (stages_along block.route)) block.begin) (unwrap_or p 0)
            (delay_of best') (origin_of best') (last_of best')) (sym before) w));
      }

  -- and on to the next block, with the best that is then known
  pub reached_next : (next : Block) (known best' : Option Longest) → next.route ≡ block.route
      → next.begin ≡ next_block (route_of (stages_along block.route)) block.begin → next.before ≡ Some block.begin → best' ≡ known
      → Visit m (stages_along block.route) (next_block (route_of (stages_along block.route)) block.begin) block.begin (delay_of known) (origin_of known) (last_of known)
      → Reached m route span end next best'
  reached_next next known best' along begin before is w =
      subst (Reached m route span end next) (sym is) (on next known along begin before w)

  pub on_time : span ≤ 100_000_000 → block.begin ≤ end
      → start_of (first_stage (stages_along block.route)) (next_block (route_of (stages_along block.route)) block.begin + 1) < 2 ^ 36
  on_time short h = next_early block.route span v.common short block.begin (omega (arith, v.end_is))

  pub later : block.begin < next_block (route_of (stages_along block.route)) block.begin
  later = next_after (stages_along block.route) (some block.route) (laws block.route) block.begin

-- What the search answers: a figure, and a path that can be written out.
pub record Ends (m : Semantics) (route : Route) (l : Longest) : Type 0 where
  pub figure : Figure m (stages_along route) l.delay (shown_predecessor m l.origin) (witness_to (stages_along route) l.last)
  pub there : 0 < (route_of (stages_along route)).back (l.last + 1)
  pub early : start_of (last_stage (stages_along route)) l.last < 2 ^ 40

-- The end of the search.
module _ (m : Semantics) (route : Route) (span end : ℕ) (block : Block) (best : Option Longest) (v : Reached m route span end block best) (past : end < block.begin) where
  far : last_block block.route span < block.begin
  far = omega (arith, v.end_is)

  pub found_some : IsSome best
  found_some =
      go best (visit_positive m (stages_along block.route) (some block.route) (laws block.route) span v.common block.begin (unwrap_or block.before 0)
      (delay_of best) (origin_of best) (last_of best) v.visit far)
    where
      go : (best : Option Longest) → 0 < delay_of best → IsSome best
      go None h = absurd (omega arith)
      go (Some l) h = refl

  module _ (l : Longest) (is : best ≡ Some l) where
    visited : Visit m (stages_along block.route) block.begin (unwrap_or block.before 0) l.delay l.origin l.last
    visited =
        subst (λ o. Visit m (stages_along block.route) block.begin (unwrap_or block.before 0) (delay_of o) (origin_of o) (last_of o)) is v.visit

    pub reached_figure : Figure m (stages_along route) l.delay (shown_predecessor m l.origin) (witness_to (stages_along route) l.last)
    reached_figure =
        subst (λ r. Figure m (stages_along r) l.delay (shown_predecessor m l.origin) (witness_to (stages_along r) l.last)) v.along
        (visit_finish m (stages_along block.route) (some block.route) (laws block.route) span v.common block.begin (unwrap_or block.before 0)
        l.delay l.origin l.last visited far)

    pub reached_there : 0 < (route_of (stages_along route)).back (l.last + 1)
    reached_there =
        subst (λ r. 0 < (route_of (stages_along r)).back (l.last + 1)) v.along
        (visit_written m (stages_along block.route) (some block.route) (laws block.route) span v.common block.begin (unwrap_or block.before 0)
        l.delay l.origin l.last visited far)

    pub reached_early : start_of (last_stage (stages_along route)) l.last < 2 ^ 40
    reached_early =
        let lawful = last_lawful (stages_along block.route) (some block.route) (laws block.route) in
        let low : l.last < block.far = omega (arith, visited.last_low, block.near_is, block.opens) in
        subst (λ r. start_of (last_stage (stages_along r)) l.last < 2 ^ 40) v.along
        (omega (arith, (in_order (last_stage (stages_along block.route)) lawful).starts_rise l.last block.far low, block.early))

    pub reached_end : Ends m route l
    reached_end = record { figure = reached_figure; there = reached_there; early = reached_early }

-- What the comparison with the best so far says.
pub is_longer : (best : Option Longest) (l : Longest) (Longer : Longest → Type 0) → 0 < l.delay → MatchOption best (IsTrue true) Longer
    → ((b : Longest) → Longer b → b.delay < l.delay) → delay_of best < l.delay
is_longer None l Longer low h law = low
is_longer (Some b) l Longer low h law = law b h

pub is_no_longer : (best : Option Longest) (l : Longest) (Shorter : Longest → Type 0) → MatchOption best (IsTrue false) Shorter
    → ((b : Longest) → Shorter b → l.delay ≤ b.delay) → l.delay ≤ delay_of best
is_no_longer None l Shorter h law = absurd (false≢true h)
is_no_longer (Some b) l Shorter h law = law b h
