use Rattle.std.proofs.Common.{◌≡◌, None, subst, ◌+◌, arith, rules, tests, ◌∙◌, ap}
use Rattle.path.specs.Periods.{instances_in}
use Rattle.path.specs.Block.{LongestOf}
use Rattle.path.specs.Route.{first_along}
use Rattle.path.proofs.Searching.{last_block_small, reached_start, taking, found_positive, visit_found, visit_kept, visit_none, reached_next, on_time, later, found_some, reached_end, is_longer, is_no_longer, first_on_time}
use Rattle.path.proofs.largest.longest_path.Goals as goal
use Rattle.path.proofs.largest.longest_path.Goals.{in-Some+then-is_none_or, in_default, in_default-via-in-None-1, in_default-via-in-Some+else-is_none_or}

pub first-block-requires : goal.first-block-requires
first-block-requires c = first_on_time c.args.route c.args.span c.requires.common c.requires.short

pub repeats_at-end-requires : goal.repeats_at-end-requires
repeats_at-end-requires c =
    omega (arith, c.first-block.ensures.begin, last_block_small c.args.route c.args.span c.requires.common c.requires.short)

pub loop-block-init : goal.loop-block-init
loop-block-init c =
    reached_start c.args.semantics c.args.route c.args.span _ _ c.requires.common c.first-block.ensures.route c.first-block.ensures.begin
    c.first-block.ensures.before
    (c.repeats_at-end.ensures ∙ ap (λ r. c.first-block.result.begin + instances_in c.args.span (first_along r)) c.first-block.ensures.route
    ∙ ap (λ b. b + instances_in c.args.span (first_along c.args.route)) c.first-block.ensures.begin)

pub longest-requires : goal.longest-requires
longest-requires c = taking _ _ _ _ _ _ c.loop-block.invariant

pub next-block-requires : goal.next-block-requires
next-block-requires c = on_time _ _ _ _ _ _ c.loop-block.invariant c.requires.short c.loop-block-test.true

pub loop-block-smaller : goal.loop-block-smaller
loop-block-smaller c = omega (arith, c.next-block.ensures.begin, later _ _ _ _ _ _ c.loop-block.invariant)

pub loop-block-preserved : goal.loop-block-preserved
loop-block-preserved c =
    let v = c.loop-block.invariant in
    let next = c.next-block.ensures in
    elim c.match-longest.branch [
      | in-Some+then-is_none_or w ↦
          let longer = is_longer c.loop-block.best w.in-Some.found _ (found_positive _ _ _ _ _ _ v _ w.in-Some.ensures) w.if-is_none_or.ensures
          (λ b q. search (rules, tests)) in
          reached_next _ _ _ _ _ _ v _ _ _ next.route next.begin next.before w.best-is (visit_found _ _ _ _ _ _ v w.in-Some.found w.in-Some.ensures longer)
      | in_default w ↦
          reached_next _ _ _ _ _ _ v _ _ _ next.route next.begin next.before w.best-is
          (elim w.in_default.branch [
            | in_default-via-in-None-1 u ↦
                let none : c.longest.result ≡ None = cc in
                visit_none _ _ _ _ _ _ v (subst (LongestOf c.args.semantics c.loop-block.block) none c.longest.ensures)
            | in_default-via-in-Some+else-is_none_or u ↦
                visit_kept _ _ _ _ _ _ v u.in-Some.found u.in-Some.ensures
                (is_no_longer c.loop-block.best u.in-Some.found _ u.if-is_none_or.ensures (λ b q. search (rules, tests)))
          ])
    ]

pub unwrap-requires : goal.unwrap-requires
unwrap-requires c = found_some _ _ _ _ _ _ c.loop-block.invariant c.loop-block-test.false

pub returns : goal.returns
returns c =
    let end = reached_end _ _ _ _ _ _ c.loop-block.invariant c.loop-block-test.false _ c.unwrap.ensures in
    record { figure = end.figure; end = record { early = end.early; there = end.there } }
