use Rattle.std.proofs.Common.{length}
use Rattle.std.proofs.lemmas.Result.{err_from_is_err_and}
use Rattle.book.specs.Books.{view_of}
use Rattle.book.specs.Ledgers.{entry_stage}
use Rattle.book.proofs.Queries.{all_there, above_three, refused_10}
use Rattle.book.proofs.book.Book.query.Goals as goal

pub returns-in_err-kind-clause-refused : goal.returns-in_err-kind-clause-refused
returns-in_err-kind-clause-refused g c =
    let v = view_of g.P.Platform c.args.self.now in
    let p = err_from_is_err_and c.from_residual-in_err-kind.result c.from_residual-in_err-kind.ensures.1 in
    let present = all_there (entry_stage v) _ _ c.as_slice.ensures.value c.in_ok-check_entries.ensures in
    rw (p.1, p.2) (refused_10 v c.args.semantics (length c.args.buffer.now) present (above_three c.args.semantics c.in_err-kind.ensures))

pub route_rows-rows-requires : goal.route_rows-rows-requires
route_rows-rows-requires g c =
    all_there (entry_stage (view_of g.P.Platform c.args.self.now)) _ _ c.as_slice.ensures.value c.in_ok-check_entries.ensures
