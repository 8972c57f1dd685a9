use Rattle.std.proofs.Common.{◌≡◌, ℕ, ◌<◌, [], ◌∷◌, ◌++◌, length, get_or, take, sym, ap, ◌∙◌, subst, arith}
use Rattle.std.proofs.lemmas.List.{length-map, get_or-map, take_more, take_all}
use Rattle.std.proofs.lemmas.Bool.{eqb-false}
use Rattle.stage.specs.Periods.{IsMacroPeriod}
use Rattle.book.specs.Books.{view_of}
use Rattle.book.specs.Ledgers.{entry_stage, cycle_of, cycles_along}
use Rattle.book.proofs.Cycles.{cycle_noted, cycle_missing, period_none, with_entries}
use Rattle.book.proofs.book.Book.macro_period.Goals as goal

pub returns-in_err-cycle : goal.returns-in_err-cycle
returns-in_err-cycle g c =
    let view = view_of g.P.Platform c.args.self.now in
    let cycle : ℕ → ℕ = λ e. cycle_of (entry_stage view e) in
    let entries = c.args.self.now.route.items in
    let same = c.as_slice-entry-items.ensures.value in
    let i = c.loop-entry.entry-index in
    let inside : i < length entries = omega (arith, ap length same) in
    let absent = cycle_missing (entry_stage view (get_or c.as_slice-entry-items.result.now i 0)) (sym c.in_err-cycle.was ∙ c.describe_entry.ensures) in
    rw c.from_residual.ensures
    (with_entries entries _ _ (omega arith)
    (period_none (cycles_along view) i (omega (arith, length-map entries cycle))
    (get_or-map cycle entries i 0 0 inside ∙ ap (λ xs. cycle (get_or xs i 0)) (sym same) ∙ absent)))

pub loop-entry-preserved : goal.loop-entry-preserved
loop-entry-preserved g c =
    let view = view_of g.P.Platform c.args.self.now in
    let cycle : ℕ → ℕ = λ e. cycle_of (entry_stage view e) in
    let entries = c.args.self.now.route.items in
    let same = c.as_slice-entry-items.ensures.value in
    let i = c.loop-entry.entry-index in
    let inside : i < length entries = omega (arith, ap length same) in
    let noted = cycle_noted (entry_stage view (get_or c.as_slice-entry-items.result.now i 0)) _ _ _ (sym c.in_ok-cycle.was ∙ c.describe_entry.ensures) in
    c.push.ensures.items ∙ ap (λ xs. xs ++ c.in_ok-cycle.cycle ∷ []) c.loop-entry.invariant
    ∙ ap (λ x. take i (cycles_along view) ++ x ∷ []) (noted ∙ ap (λ xs. cycle (get_or xs i 0)) same ∙ sym (get_or-map cycle entries i 0 0 inside))
    ∙ sym (take_more (cycles_along view) i 0 (omega (arith, length-map entries cycle)))

pub returns : goal.returns
returns g c =
    let view = view_of g.P.Platform c.args.self.now in
    let entries = c.args.self.now.route.items in
    let long = length-map entries (λ e. cycle_of (entry_stage view e)) in
    let all : c.as_slice.result.now ≡ cycles_along view =
    c.as_slice.ensures.value ∙ c.loop-entry.invariant
    ∙ take_all c.loop-entry.entry-index (cycles_along view) (omega (arith, ap length c.as_slice-entry-items.ensures.value)) in
    with_entries entries _ _ (omega (arith, eqb-false (length entries) 0 (sym c.if-is_empty.ensures)))
    (subst (λ xs. IsMacroPeriod xs c.macro_period.result) all c.macro_period.ensures)
