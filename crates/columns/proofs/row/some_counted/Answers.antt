use Rattle.std.proofs.Common.{arith, ◌∙◌}
use Rattle.columns.specs.Rows.{among}
use Rattle.columns.proofs.Scan.{answered, some_read}
use Rattle.columns.proofs.row.some_counted.Goals as goal

pub returns : goal.returns
returns g c =
    λ fault h. let r = c.read-rows.ensures in
    c.some_row.ensures (among c.args.all c.args.flags.now fault) (λ k l b p. answered c.args.all c.args.flags.now fault k p.0 (λ e. h k (omega (arith, r.within)) b (p.1 e)))
    ∙ some_read r fault
