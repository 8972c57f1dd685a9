use Rattle.std.proofs.Common.{◌≡◌, length, take, ap, ◌∙◌, subst, leb-true, le-leb, arith, rules}
use Rattle.std.proofs.lemmas.Slice.Zip.{zip_turn, zip_end}
use Rattle.stage.proofs.Marks.{Kept, floor_at, mark_read, count_is, to_lawful, from_lawful, last_in_time}
use Rattle.stage.proofs.row.Row.is_lawful.Goals as goal

pub returns-then-count-lt1 : goal.returns-then-count-lt1
returns-then-count-lt1 c = (
  λ t. let never = t in cc,
  λ l. absurd (omega (arith, count_is c.args.self.now, l.count_low, l.count_high)),
)

pub returns-then-not-is_lawful_mark : goal.returns-then-not-is_lawful_mark
returns-then-not-is_lawful_mark c =
    let row = c.args.self.now in
    let n = length c.loop-start.yielded in
    let turn = zip_turn (take row.count row.starts) (take row.count row.stops) _ c.into_iter-start-iterator.result _ c.next.new.self _ (search rules) (search rules) c.loop-start.yielded_by _ c.in-Some.is c.next.ensures.steps in
    let start = mark_read row row.starts n _ turn.0 turn.2 in
    let stop = mark_read row row.stops n _ turn.1 turn.3 in (
      λ t. let never = t in cc,
      λ l. c.if-not-is_lawful_mark.ensures.1 (rw (start.1, stop.1, c.loop-start.invariant.1) (from_lawful row l n start.0)),
    )

pub returns : goal.returns
returns c =
    let row = c.args.self.now in
    let passed = zip_end (take row.count row.starts) (take row.count row.stops) _ c.into_iter-start-iterator.result _ c.next.new.self _ (search rules) (search rules) c.loop-start.yielded_by c.in-None.is c.next.ensures.steps in
    let long : length (take row.count row.starts) ≡ row.count = search rules in
    let long' : length (take row.count row.stops) ≡ row.count = search rules in
    let all : length c.loop-start.yielded ≡ row.count = omega arith in
    let floor : c.loop-start.floor ≡ floor_at row row.count = c.loop-start.invariant.1 ∙ ap (floor_at row) all in (
      λ t.
          to_lawful row (omega arith) (omega arith) (omega arith) (omega arith) (search rules)
          (subst (Kept row) all c.loop-start.invariant.0)
          (rw (← floor) (leb-true _ _ t)),
      λ l. rw floor (le-leb _ _ (last_in_time row l)),
    )
