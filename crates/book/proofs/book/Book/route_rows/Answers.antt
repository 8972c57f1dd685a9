use Rattle.std.proofs.Common.{◌≡◌, ◌<◌, [], ◌∷◌, Some, length, length-append, map, get_or, is_some, sym, ap, ◌∙◌, arith}
use Rattle.std.proofs.lemmas.List.{take_all}
use Rattle.stage.specs.LawfulRow.{stage_in}
use Rattle.book.specs.Books.{view_of}
use Rattle.book.specs.Ledgers.{entry_stage, present_stages}
use Rattle.book.proofs.Routes.{present_all}
use Rattle.book.proofs.Rows.{row_there, rows_more}
use Rattle.book.proofs.book.Book.route_rows.Goals as goal

pub unwrap-requires : goal.unwrap-requires
unwrap-requires g c =
    let stage = entry_stage (view_of g.P.Platform c.args.self.now) in
    let entries = c.args.self.now.route.items in
    let i = c.loop-entry.entry-index in
    let same = c.as_slice-entry-items.ensures.value in
    let inside : i < length entries = omega (arith, ap length same) in
    row_there _ _ (ap (λ xs. is_some (stage (get_or xs i 0))) same ∙ present_all stage entries c.requires i inside) c.entry_row.ensures

pub loop-entry-preserved : goal.loop-entry-preserved
loop-entry-preserved g c =
    let stage = entry_stage (view_of g.P.Platform c.args.self.now) in
    let entries = c.args.self.now.route.items in
    let i = c.loop-entry.entry-index in
    let same = c.as_slice-entry-items.ensures.value in
    let inside : i < length entries = omega (arith, ap length same) in
    let here : stage (get_or c.as_slice-entry-items.result.now i 0) ≡ Some (stage_in c.unwrap.result) = rw c.unwrap.ensures at c.entry_row.ensures in
    rw c.push.ensures.items (
      omega (arith, length-append c.loop-entry.rows.items (c.unwrap.result ∷ [])),
      rows_more stage entries c.loop-entry.rows.items i c.unwrap.result inside c.loop-entry.invariant.1 (ap (λ xs. stage (get_or xs i 0)) (sym same) ∙ here),
    )

pub returns-clause-rows : goal.returns-clause-rows
returns-clause-rows g c =
    let stage = entry_stage (view_of g.P.Platform c.args.self.now) in
    c.loop-entry.invariant.1
    ∙ ap (λ xs. present_stages (map stage xs)) (take_all c.loop-entry.entry-index c.args.self.now.route.items (omega (arith, ap length c.as_slice-entry-items.ensures.value)))
