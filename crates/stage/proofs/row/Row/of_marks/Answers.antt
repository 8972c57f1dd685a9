use Rattle.std.proofs.Common.{◌≡◌, length, get_or, refl, ap, ◌∙◌, arith}
use Rattle.std.proofs.lemmas.List.{get_or_past}
use Rattle.stage.specs.Rows.{row_of, stage_of}
use Rattle.stage.proofs.Filled.{filled_none, filled_more, filled_all}
use Rattle.stage.proofs.Marks.{stage-row_of}
use Rattle.stage.proofs.row.Row.of_marks.Goals as goal

pub loop-a-init : goal.loop-a-init
loop-a-init c = (filled_none _ _ refl, filled_none _ _ refl)

pub loop-a-preserved : goal.loop-a-preserved
loop-a-preserved c = (
  filled_more _ _ _ _ c.loop-a.invariant.0 (omega arith) refl,
  filled_more _ _ _ _ c.loop-a.invariant.1 (omega arith) refl,
)

row_is : (c : goal.After-loop-a)
    → record { cycle = c.args.cycle; count = length c.args.marks.now; rank = c.args.rank; starts = c.loop-a.starts; stops = c.loop-a.stops }
    ≡ row_of c.args.cycle c.args.rank c.args.marks.now
row_is c =
    let marks = c.args.marks.now in
    let starts = filled_all (λ k. (get_or marks k (0, 0)).0) _ _ c.loop-a.invariant.0 (λ k h. ap (λ m. m.0) (get_or_past marks k (0, 0) (omega arith))) in
    let stops = filled_all (λ k. (get_or marks k (0, 0)).1) _ _ c.loop-a.invariant.1 (λ k h. ap (λ m. m.1) (get_or_past marks k (0, 0) (omega arith))) in
    cc

pub returns-clause-row : goal.returns-clause-row
returns-clause-row c = row_is c

pub returns-clause-stage : goal.returns-clause-stage
returns-clause-stage c = ap stage_of (row_is c) ∙ stage-row_of c.args.cycle c.args.rank c.args.marks.now (omega arith)
