use Rattle.std.proofs.Common.{◌≡◌, ◌∙◌, ◌-◌, Bor, IfSome, get_or, length, ap, sym, subst}
use Rattle.stage.specs.declared.lawful.LawfulRow.{LawfulRow}
use Rattle.stage.specs.LawfulRow.{stage_in}
use Rattle.path.proofs.Given.{last_at}
use Rattle.path.proofs.route.Route.last.Goals as goal

pub returns : goal.returns
returns c =
    let rows = c.args.self.now.rows.now in
    let row = c.unwrap.result.now in
    let is =
    subst (λ o. IfSome o (λ (x : Bor LawfulRow). x.now ≡ get_or rows (length rows - 1) x.now)) c.unwrap.ensures c.last.ensures.item.1 in
    ap stage_in is ∙ sym (last_at rows row c.args.self.now.some)
